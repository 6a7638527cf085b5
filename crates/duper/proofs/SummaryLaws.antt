-- A summary at the boundary, by what the code answered.
-- Assumes nothing.
use mathlib.Core.Path.{◌≡◌, sym, ap, ◌∙◌}
use Prim.Native.Nat.{ℕ}
use mathlib.Core.List.{List, ◌∷◌}
use lib.Ieee.{Float}
use Rattle.summary.specs.declared.summary.Summary.{Summary}
use Rattle.std.specs.Prelude.{Ok, []}
use Rattle.std.specs.declared.result.Result.{Result}
use Rattle.std.specs.declared.option.Option as Rust
use Rattle.summary.specs.declared.summary.Heights.{Heights}
use Rattle.text.specs.Refusal.{Refusal}
use Rattle.duper.specs.Numbers.{summary_number, summary_counts, summary_heights, heights_or, SummaryCrosses}

-- an answer shows what it is
pub summary_crosses : (a x : Result Summary Refusal) (lent : List ℕ) (floats : List Float) → x ≡ a
    → SummaryCrosses a (summary_number x) lent (summary_counts x lent) floats (summary_heights x floats)
summary_crosses a x lent floats e =
    record {
      number_is = ap summary_number e;
      counts_are = ap (λ (y : Result Summary Refusal). summary_counts y lent) e;
      heights_are = ap (λ (y : Result Summary Refusal). summary_heights y floats) e;
    }

-- one that holds these heights, or none
pub held_crosses : (a : Result Summary Refusal) (x : Summary) (h : Rust.Option Heights) (lent : List ℕ) (floats : List Float) → Ok x ≡ a → x.heights ≡ h
    → SummaryCrosses a 0 lent (x.counts.measured ∷ x.counts.null ∷ x.counts.absent ∷ x.counts.unfit ∷ []) floats (heights_or h floats)
unfolding summary_number summary_counts summary_heights
held_crosses a x h lent floats e q =
    record {
      number_is = ap summary_number e;
      counts_are = ap (λ (y : Result Summary Refusal). summary_counts y lent) e;
      heights_are = sym (ap (λ (o : Rust.Option Heights). heights_or o floats) q) ∙ ap (λ (y : Result Summary Refusal). summary_heights y floats) e;
    }
