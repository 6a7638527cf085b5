-- The example of Req 07, by computation.
-- Assumes nothing.
use mathlib.Core.Path.{refl}
use Rattle.reader.proofs.Computing.{readings}
use Rattle.theorems.specs.Insertion.{line_feed, gap_bytes, every, holds_end, is_gap, is_edge, may_insert, inserted_at, interleaved, with_gaps, put_below, new_start, new_stop, new_span, new_or_none, is_string, new_row}
use Rattle.theorems.specs.Example.{Example}

-- a name for all of the definitions together
unfoldable inserting : Unit {0}
unfolding readings line_feed gap_bytes every holds_end is_gap is_edge may_insert inserted_at interleaved with_gaps put_below new_start new_stop new_span new_or_none is_string new_row
inserting = tt

pub example : Example
unfolding inserting
example =
    record {
      may = refl;
      new_is = refl;
      before_is = refl;
      after_is = refl;
      said_is = refl;
      may_more = refl;
      inside = refl;
      at_end_law = refl;
      line_early = refl;
      block_early = refl;
      not_utf8 = refl;
      no_space = refl;
    }
