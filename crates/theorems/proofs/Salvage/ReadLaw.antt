-- What a call comes to: one of three refusals, with nothing written, or a salvage that reads. And what a line's number tells.
-- Assumes nothing.
use Rattle.salvage.specs.declared.salvage.Salvaged.{Salvaged}
use Rattle.text.specs.Refusal.{Refusal}
use Rattle.std.specs.declared.result.Result.{Result}
use Rattle.std.specs.Prelude.{Ok}
use mathlib.Core.Path.{◌≡◌, refl, sym, ap, ◌∙◌, subst}
use Prim.Native.Nat.{ℕ, suc, ◌+◌, ◌≤◌, ◌<◌}
use native.Mathlib.Omega.{arith}
use mathlib.Core.Bool.{Bool, true, false, not, ◌||◌, false≢true}
use mathlib.Core.Logic.{◌⊎◌, inl, inr}
use mathlib.Core.List.{List}
use lib.Dec.{T, ltb}
use lib.ListN.{length, take, drop, replicate}
use borrow.Author.Tests.{lt-ltb, le-ltb, ltb-true, ltb-false}
use Rattle.text.specs.declared.switches.Switches.{Switches}
use Rattle.text.specs.Buffers.{overwritten}
use Rattle.text.proofs.Choice.{cond_both, is_false, or_left, or_right}
use Rattle.text.proofs.BufferLaws.{take_overwritten, drop_overwritten}
use Rattle.reader.specs.Tree.{size}
use Rattle.reader.specs.Syntax.{Outcome, taken, refused}
use Rattle.reader.specs.Reading.{max_text, node_limit, limits_to, reading, reading_to, is_taken, node_count}
use Rattle.reader.proofs.NumberBound.{NumberWithin, outcome_number}
use Rattle.salvage.specs.Salvage.{lines_of, line_depth, line_reading, line_verdict, verdicts_of, nodes_of, salvaged_text, SalvageResult, too_large, salvage_refused, salvage_done, salvage}
use Rattle.salvage.proofs.WalkLaws.{verdicts_length}
use Rattle.theorems.specs.Salvage.{VerdictsTell, values_at, array_of, kept_lines, Salvage, SalvagesRead, refused_at, text_bytes, NoRoomLeft, SalvageAnswer, SalvagesAnswered}
use Rattle.theorems.proofs.Salvage.ArrayLaws.{kept_each, values_count, values_size, written_reads}

-- ---- what a line's number tells

outcome_told : (o : Outcome) → is_taken o ≡ true → line_verdict o ≡ 0
unfolding line_verdict is_taken
outcome_told (taken tree) e = refl
outcome_told (refused number place) e = absurd (false≢true e)

-- no refusal has the number 0
outcome_kept : (o : Outcome) → NumberWithin o → line_verdict o ≡ 0 → is_taken o ≡ true
unfolding NumberWithin line_verdict is_taken
outcome_kept (taken tree) w e = refl
outcome_kept (refused number place) w e = let l = w.0 in absurd (omega arith)

outcome_lost : (o : Outcome) → NumberWithin o → (number place : ℕ) → o ≡ refused number place → (line_verdict o ≡ number) × (1 ≤ number) × (number ≤ 10)
unfolding NumberWithin line_verdict
outcome_lost o w number place e =
    let v : NumberWithin (refused number place) = subst NumberWithin e w in
    (ap line_verdict e, v.0, v.1)

pub verdicts_tell : VerdictsTell
unfolding VerdictsTell line_reading reading_to
verdicts_tell sw words line =
    let w = outcome_number sw false (limits_to line_depth words) line in
    record {
      kept = outcome_told (line_reading sw words line);
      kept_only = outcome_kept (line_reading sw words line) w;
      lost = outcome_lost (line_reading sw words line) w;
    }

-- ---- the ways of a call

-- the three refusals
unfoldable pub OneOfThree : (number place : ℕ) → Type 0
OneOfThree number place = ((number ≡ 1) × (place ≡ 65536)) ⊎ (((number ≡ 27) ⊎ (number ≡ 28)) × (place ≡ 0))

-- n bytes are written at a buffer's front: they are there, and those behind them stay
module _ (new buffer : List ℕ) (n : ℕ) (h : length new ≤ length buffer) (l : length new ≡ n) where
  front_written : take n (overwritten 0 new buffer) ≡ new
  front_written =
      let e : n ≡ 0 + length new = omega arith in
      ap (λ (k : ℕ). take k (overwritten 0 new buffer)) e ∙ take_overwritten 0 new buffer (omega arith)

  rest_stays : drop n (overwritten 0 new buffer) ≡ drop n buffer
  rest_stays =
      let e : n ≡ 0 + length new = omega arith in
      subst (λ (k : ℕ). drop k (overwritten 0 new buffer) ≡ drop k buffer) (sym e) (drop_overwritten 0 new buffer (omega arith))

module _ (sw : Switches) (words : ℕ) (log out verdicts : List ℕ) where
  -- the lines that are kept
  abbrev kept : List (List ℕ)
  kept = kept_lines sw words log

  -- nothing is passed
  pub record AllFits : Type 0 where
    pub listed : length (lines_of log) ≤ length verdicts
    pub room : length (salvaged_text kept) ≤ length out
    pub short : length (salvaged_text kept) ≤ max_text
    pub few : suc (nodes_of sw words kept) ≤ node_limit words

  -- refused, or all fits and it is done
  pub data Ways : SalvageResult → Type 0 where
    refused_by : (number place : ℕ) → OneOfThree number place → Ways (salvage_refused sw words number place out verdicts)
    done_by : AllFits → Ways (salvage_done sw words (lines_of log) out verdicts)

  fits : T (not (ltb (length verdicts) (length (lines_of log)))) → T (not (too_large sw words (length out) kept)) → AllFits
  unfolding too_large
  fits l t =
      let a = ltb (length out) (length (salvaged_text kept)) in
      let b = ltb max_text (length (salvaged_text kept)) in
      let c = ltb (node_limit words) (suc (nodes_of sw words kept)) in
      let e = is_false (a || (b || c)) t in
      let f = or_right a (b || c) e in
      record {
        listed = ltb-false (length verdicts) (length (lines_of log)) (is_false _ l);
        room = ltb-false (length out) (length (salvaged_text kept)) (or_left a (b || c) e);
        short = ltb-false max_text (length (salvaged_text kept)) (or_left b c f);
        few = ltb-false (node_limit words) (suc (nodes_of sw words kept)) (or_right b c f);
      }

  -- every call goes one of these ways
  pub way : Ways (salvage sw words log out verdicts)
  unfolding salvage OneOfThree
  way =
      cond_both Ways (ltb max_text (length log)) (λ _. refused_by 1 max_text (inl (refl, refl)))
      (λ _. cond_both Ways (ltb (length verdicts) (length (lines_of log))) (λ _. refused_by 27 0 (inr (inl refl, refl)))
      (λ l. cond_both Ways (too_large sw words (length out) kept) (λ _. refused_by 28 0 (inr (inr refl, refl))) (λ t. done_by (fits l t))))

  -- ---- written

  -- what a call leaves that is done
  done_reads : (bytes lines : ℕ) → AllFits → ◌≡◌ {A = Result Salvaged Refusal} (Ok (record { bytes = length (salvaged_text kept); lines = length (lines_of log) })) (Ok (record { bytes = bytes; lines = lines }))
      → Salvage sw words log bytes lines out verdicts (overwritten 0 (salvaged_text kept) out) (overwritten 0 (verdicts_of sw words (lines_of log)) verdicts)
  unfolding node_count size
  done_reads bytes lines F e =
      let q : ◌≡◌ {A = Salvaged} (record { bytes = length (salvaged_text kept); lines = length (lines_of log) }) (record { bytes = bytes; lines = lines }) = cc in
      let b : length (salvaged_text kept) ≡ bytes = ap (λ (x : Salvaged). x.bytes) q in
      let l : length (lines_of log) ≡ lines = ap (λ (x : Salvaged). x.lines) q in
      let v : length (verdicts_of sw words (lines_of log)) ≡ lines = verdicts_length sw words (lines_of log) ∙ l in
      let h : length (verdicts_of sw words (lines_of log)) ≤ length verdicts = let g = F.listed in omega arith in
      let r : reading sw words (take bytes (overwritten 0 (salvaged_text kept) out)) ≡ taken (array_of bytes (values_at sw words 2 kept)) =
      ap (reading sw words) (front_written (salvaged_text kept) out bytes F.room b)
      ∙ written_reads sw words kept (kept_each sw words (lines_of log)) F.short F.few
      ∙ ap (λ (n : ℕ). taken (array_of n (values_at sw words 2 kept))) b in
      record {
        reads = r;
        children = values_count sw words kept (kept_each sw words (lines_of log)) 2;
        nodes = ap node_count r ∙ ap suc (values_size sw words kept 2);
        lines_are = sym l;
        verdicts_are = front_written (verdicts_of sw words (lines_of log)) verdicts lines h v;
        out_stays = rest_stays (salvaged_text kept) out bytes F.room b;
        verdicts_stay = rest_stays (verdicts_of sw words (lines_of log)) verdicts lines h v;
      }

  -- of every way: an answer with bytes and lines is a salvage that reads
  pub written_by : (r : SalvageResult) → Ways r → (bytes lines : ℕ) → r.answer ≡ Ok (record { bytes = bytes; lines = lines })
      → Salvage sw words log bytes lines out verdicts r.out r.verdicts
  unfolding salvage_refused salvage_done
  written_by r (refused_by number place k) bytes lines e = let z : ◌≡◌ {A = ℕ} 0 1 = cc in absurd (omega arith)
  written_by r (done_by F) bytes lines e = done_reads bytes lines F e

pub salvages_read : SalvagesRead
unfolding SalvagesRead
salvages_read sw words log out verdicts bytes lines e =
    written_by sw words log out verdicts (salvage sw words log out verdicts) (way sw words log out verdicts) bytes lines e

-- ---- refused, or not

test_off : (a b : ℕ) → (a < b → ⊥) → ltb a b ≡ false
test_off a b h = on (ltb a b) refl
  where
    on : (t : Bool) → ltb a b ≡ t → t ≡ false
    on true e = absurd (h (ltb-true a b e))
    on false e = refl

or_later : (a b : Bool) → b ≡ true → a || b ≡ true
or_later true b e = refl
or_later false b e = e

module _ (sw : Switches) (words : ℕ) (log out verdicts : List ℕ) where
  -- 28, by one of its three tests, or by none
  passed : NoRoomLeft sw words log out verdicts → too_large sw words (length out) (kept_lines sw words log) ≡ true
  unfolding too_large
  passed (inl h) = rw (lt-ltb (length out) (text_bytes sw words log out verdicts) h)
  passed (inr (inl h)) =
      or_later (ltb (length out) (text_bytes sw words log out verdicts)) _ (rw (lt-ltb max_text (text_bytes sw words log out verdicts) h))
  passed (inr (inr h)) =
      or_later (ltb (length out) (text_bytes sw words log out verdicts)) _
      (or_later (ltb max_text (text_bytes sw words log out verdicts)) _ (lt-ltb (node_limit words) (suc (nodes_of sw words (kept_lines sw words log))) h))

  not_passed : (NoRoomLeft sw words log out verdicts → ⊥) → too_large sw words (length out) (kept_lines sw words log) ≡ false
  unfolding too_large
  not_passed h =
      rw (
        test_off (length out) (text_bytes sw words log out verdicts) (λ k. h (inl k)),
        test_off max_text (text_bytes sw words log out verdicts) (λ k. h (inr (inl k))),
        test_off (node_limit words) (suc (nodes_of sw words (kept_lines sw words log))) (λ k. h (inr (inr k))),
      )

  -- of every way: a refusal leaves output and list, and the table is cleared
  by_way : (r : SalvageResult) → Ways sw words log out verdicts r
      → ((number place : ℕ) → r.answer ≡ refused_at number place → (r.out ≡ out) × (r.verdicts ≡ verdicts)) × (r.table ≡ replicate words 0)
  unfolding salvage_refused salvage_done
  by_way r (refused_by n p k) = ((λ number place e. (refl, refl)), refl)
  by_way r (done_by F) = ((λ number place e. let z : ◌≡◌ {A = ℕ} 0 1 = cc in absurd (omega arith)), refl)

  answered : SalvageAnswer sw words log out verdicts
  unfolding salvage salvage_refused salvage_done
  answered =
      let w = by_way (salvage sw words log out verdicts) (way sw words log out verdicts) in
      record {
        log_long = λ h. rw (lt-ltb max_text (length log) h);
        list_short = λ h l. rw (le-ltb max_text (length log) h, lt-ltb (length verdicts) (length (lines_of log)) l);
        no_room = λ h l p. rw (le-ltb max_text (length log) h, le-ltb (length verdicts) (length (lines_of log)) l, passed p);
        salvaged = λ h l p. rw (le-ltb max_text (length log) h, le-ltb (length verdicts) (length (lines_of log)) l, not_passed p);
        untouched = w.0;
        cleared = w.1;
      }

pub salvages_answered : SalvagesAnswered
unfolding SalvagesAnswered
salvages_answered sw words log out verdicts = answered sw words log out verdicts
