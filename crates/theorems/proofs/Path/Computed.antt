-- The examples of Req 09, by computation.
-- Assumes nothing.
use mathlib.Core.Path.{refl}
use Rattle.reader.proofs.Computing.{readings}
use Rattle.nodes.specs.Nodes.{children_of, first_that, nth, content_of_key, has_key, member, element}
use Rattle.path.specs.Path.{on_first, pieces, steps, digits, alone, index, indexed, child, onward, follow, found}
use Rattle.theorems.specs.Path.{PathsByHand}

pub paths_by_hand : PathsByHand
unfolding readings children_of first_that nth content_of_key has_key member element on_first pieces steps digits alone index indexed child onward follow found
paths_by_hand =
    record {
      root = refl;
      key = refl;
      key_by_content = refl;
      key_as_written = refl;
      key_in_quotes = refl;
      key_in_part = refl;
      key_and_more = refl;
      no_index_there = refl;
      identifier = refl;
      key_with_a_dot = refl;
      first_element = refl;
      nested = refl;
      tuple = refl;
      in_tuple = refl;
      past_the_end = refl;
      leading_zero = refl;
      two_zeros = refl;
      plus = refl;
      minus = refl;
      underscore = refl;
      hex = refl;
      no_digit = refl;
      wide = refl;
      wider = refl;
      below_a_number = refl;
      below_null = refl;
      in_an_object = refl;
      first_of_two = refl;
      dot = refl;
      two_dots = refl;
      dot_first = refl;
      dot_last = refl;
      two_digits = refl;
      raw_key = refl;
      beyond_ascii = refl;
      not_utf8 = refl;
      tuple_at_the_root = refl;
      refused_text = refl;
      no_room = refl;
    }
