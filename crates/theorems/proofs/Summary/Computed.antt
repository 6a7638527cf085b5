-- The examples of Req 05, by computation.
-- Assumes nothing.
use mathlib.Core.Path.{refl}
use lib.Ieee.{of_int, div, of_bits}
use Rattle.reader.proofs.Computing.{readings}
use Rattle.nodes.specs.Nodes.{kind_of, children_of, first_that, content_of_key, has_key, member}
use Rattle.summary.specs.Summary.{exact_quotient, scaled, as_height, scalar_height, value_height, member_height, record_height, record_heights, how_many, is_measured, is_null, is_absent, is_unfit, counts_of, measured_heights, least, greatest, sum_of, mean, heights_of, summary_of, of_heights, is_object, is_array, of_records, of_root, summary}
use Rattle.theorems.specs.Summary.{SummariesByHand}

pub summaries_by_hand : SummariesByHand
unfolding readings kind_of children_of first_that content_of_key has_key member exact_quotient scaled as_height scalar_height value_height member_height record_height
    record_heights how_many is_measured is_null is_absent is_unfit counts_of measured_heights least greatest sum_of mean heights_of summary_of of_heights is_object
    is_array of_records of_root summary of_int div of_bits
summaries_by_hand =
    record {
      with_exponent = refl;
      plain = refl;
      minus_0 = refl;
      integer = refl;
      power = refl;
      hex = refl;
      one_micrometre = refl;
      zero_to_a_power = refl;
      too_great = refl;
      far_too_great = refl;
      half_a_micrometre = refl;
      far_too_small = refl;
      below_0 = refl;
      integer_below_0 = refl;
      text = refl;
      false_value_law = refl;
      array = refl;
      null_height = refl;
      no_key = refl;
      other_key = refl;
      further_in = refl;
      key_by_content = refl;
      identified = refl;
      identified_null = refl;
      empty = refl;
      season = refl;
      exact_sum = refl;
      rounded_mean = refl;
      object_root = refl;
      tuple_root = refl;
      number_element = refl;
      array_element = refl;
      first_of_two = refl;
      refused_text = refl;
      doubled_key = refl;
      no_room = refl;
    }
