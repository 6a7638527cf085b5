-- Demand 3 of the calls for C and Rust: whatever keeps the contracts of `duper_correct` and `duper_undo`, call after call, shows what the
-- book says.
-- Assumes nothing.
use mathlib.Core.Path.{refl}
use Rattle.text.specs.Switches.{present_edition}
use Rattle.editor.proofs.MadeLaws.{demand_3_of}
use Rattle.duper.specs.Numbers.{change_words, crossed}
use Rattle.duper.specs.Calls.{crossed_lengths, Demand3OfCalls}

pub demand_3_of_calls : Demand3OfCalls
unfolding change_words crossed crossed_lengths
demand_3_of_calls = demand_3_of crossed crossed_lengths (λ a. refl) present_edition
