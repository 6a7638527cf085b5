-- The calls for C and Rust, one after the other on the same buffers, by what their contracts in src/lib.rt promise: demand 3 of them.
-- Assumes nothing.
use Rattle.std.specs.Prelude.{get_or}
use Rattle.text.specs.Switches.{present_edition}
use Rattle.editor.specs.declared.change.InUse.{InUse}
use Rattle.editor.specs.Edit.{in_use}
use Rattle.editor.specs.Calls.{Demand3Of}
use Rattle.duper.specs.Numbers.{Crossed, crossed}

-- "the lengths last answered": of the three numbers, counted from 0, number 1 is the text's length and number 2 the journal's
unfoldable pub crossed_lengths : Crossed → InUse
crossed_lengths c = in_use (get_or c.words 1 0) (get_or c.words 2 0)

-- Demand 3 of the calls for C and Rust, in the present edition: every list of them, from a text that reads and an empty journal, shows
-- what the book says
abbrev pub Demand3OfCalls : Type 0
Demand3OfCalls = Demand3Of crossed crossed_lengths present_edition
