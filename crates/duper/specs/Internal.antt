-- What only the contracts of the inner functions cite. Nothing here has to be believed.
-- Assumes nothing.
use Rattle.editor.specs.Edit.{Change}
use Rattle.std.specs.Prelude.{ℕ, ◌≤◌, List, [], ◌∷◌, Ok, Err}
use Rattle.reader.specs.Reading.{max_text}
use Rattle.std.specs.declared.result.Result as Rust
use Rattle.text.specs.Refusal.{Refusal}
use Rattle.duper.specs.Numbers.{packed}

-- the verdict as one number
unfoldable pub verdict_number : Rust.Result Unit Refusal → ℕ
verdict_number (Ok tt) = 0
verdict_number (Err f) = packed f

-- its place can be packed with its number
unfoldable pub PlaceFits : Rust.Result Unit Refusal → Type 0
PlaceFits (Ok tt) = Unit {0}
PlaceFits (Err f) = f.place ≤ max_text

-- the three numbers beside it
unfoldable pub words_of : Change → List ℕ
words_of c = c.nodes ∷ c.used.text ∷ c.used.journal ∷ []
