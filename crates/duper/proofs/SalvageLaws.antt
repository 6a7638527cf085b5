-- A salvage at the boundary, by what the code answered.
-- Assumes nothing.
use mathlib.Core.Path.{◌≡◌, sym, ap, ◌∙◌}
use mathlib.Core.List.{List}
use Prim.Native.Nat.{ℕ}
use Rattle.salvage.specs.declared.salvage.Salvaged.{Salvaged}
use Rattle.std.specs.declared.result.Result.{Result}
use Rattle.text.specs.Refusal.{Refusal}
use Rattle.salvage.specs.Salvage.{SalvageResult, salvage_leaving}
use Rattle.duper.specs.Numbers.{salvage_number, salvage_words, SalvageCrosses}

-- an answer shows what it is, and the buffers are as they are left
pub salvage_crosses : (result : SalvageResult) (answer x : Result Salvaged Refusal) (out verdicts table : List ℕ) → salvage_leaving answer out verdicts table ≡ result → answer ≡ x
    → SalvageCrosses result (salvage_number x) (salvage_words x) out verdicts table
salvage_crosses result answer x out verdicts table e is =
    record {
      number_is = ap salvage_number (sym is ∙ ap (λ (r : SalvageResult). r.answer) e);
      answer_is = ap salvage_words (sym is ∙ ap (λ (r : SalvageResult). r.answer) e);
      out_is = ap (λ (r : SalvageResult). r.out) e;
      verdicts_are = ap (λ (r : SalvageResult). r.verdicts) e;
      table_is = ap (λ (r : SalvageResult). r.table) e;
    }
