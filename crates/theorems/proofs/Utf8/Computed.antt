-- The examples of Req 06, by computation.
-- Assumes nothing.
use mathlib.Core.Path.{refl}
use Rattle.text.specs.Bytes.{feed}
use Rattle.text.specs.Utf8.{lead, later, utf8_step, utf8, is_whole, whole_front, plain, plain_eight, eight_here, eights, plain_eights}
use Rattle.theorems.specs.Utf8.{EightsByHand}

pub eights_by_hand : EightsByHand
unfolding feed lead later utf8_step utf8 is_whole whole_front plain plain_eight eight_here eights plain_eights
eights_by_hand =
    record {
      none = (refl, refl);
      seven = (refl, refl);
      eight = (refl, refl);
      nine = (refl, refl);
      seventeen = (refl, refl);
      behind_a_character = (refl, refl);
      broken_up = (refl, refl);
      around = (refl, refl);
      apart = (refl, refl);
      behind_three = (refl, refl);
      behind_four = (refl, refl);
      ends_of_range = (refl, refl);
      last_above = (refl, refl);
      fault = (refl, refl);
      fault_inside = (refl, refl);
      surrogate = (refl, refl);
      cut_off = (refl, refl);
    }
