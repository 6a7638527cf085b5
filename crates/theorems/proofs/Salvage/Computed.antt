-- The examples of Req 14, by computation.
-- Assumes nothing.
use mathlib.Core.Path.{refl}
use Rattle.text.specs.Buffers.{overwritten}
use Rattle.reader.proofs.Computing.{readings}
use Rattle.salvage.specs.Salvage.{with_first, lines_of, line_reading, line_verdict, kept_of, verdicts_of, nodes_of, kept_text, salvaged_text, too_large, salvage_refused, salvage_done, salvage}
use Rattle.theorems.specs.Salvage.{SalvagesByHand}

pub salvages_by_hand : SalvagesByHand
unfolding overwritten readings with_first lines_of line_reading line_verdict kept_of verdicts_of nodes_of kept_text salvaged_text too_large salvage_refused salvage_done
    salvage
salvages_by_hand =
    record {
      no_line = refl;
      empty_line = refl;
      last_ended = refl;
      last_open = refl;
      two_kept = refl;
      two_read = refl;
      carriage_return = refl;
      cut_off = refl;
      no_room_alone = refl;
      no_room_together = refl;
      none_kept = refl;
      empty_log = refl;
      list_short = refl;
      output_short = refl;
      output_enough = refl;
      nodes_few = refl;
      nodes_enough = refl;
      no_node_law = refl;
      list_first = refl;
      deep_enough = refl;
      too_deep = refl;
    }
