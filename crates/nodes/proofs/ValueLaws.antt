-- What is so of every value of a taken text: the lexer gives it token by token, and the machine keeps it.
-- Assumes nothing.
use mathlib.Core.Path.{◌≡◌, refl, subst}
use Prim.Native.Nat.{ℕ, suc, ◌≤◌}
use native.Mathlib.Omega.{arith}
use mathlib.Core.Bool.{true, false}
use mathlib.Core.Option.{some}
use mathlib.Core.List.{List}
use lib.Dec.{leb}
use lib.IntN.{ℤ, pos, negsuc}
use lib.Signed.{le_z}
use lib.ListN.{length, drop, get_or}
use borrow.Author.Tests.{leb-true}
use Rattle.text.specs.declared.switches.Switches.{Switches}
use Rattle.text.specs.Bytes.{is, ascii, same_bytes}
use Rattle.text.specs.Utf8.{utf8, is_whole}
use Rattle.text.proofs.Choice.{cond_both, cond-case}
use Rattle.lexer.specs.Token as L
use Rattle.lexer.specs.Token.{Form, Token, Tokens, cut, tokens, key_content}
use Rattle.reader.specs.Tree.{Span, Scalar, Tree, leaf, branch, Forest, nil, cons}
use Rattle.reader.specs.Syntax.{nothing, span_of, key_of, begins, mark_begins, opens_with_capital, word_begins, Outcome, taken}
use Rattle.reader.specs.Reading.{outcome, reading, limits_of, max_text}
use Rattle.reader.specs.Content.{span_content}
use Rattle.reader.proofs.KeepLaws.{IntegerFits, Keeps, at_keeps}
use Rattle.reader.proofs.ReplaceLaws.{outcome_taken}
use Rattle.nodes.specs.Nodes.{content_of_key}
use Rattle.nodes.specs.Range.{IntegerInRange, PowerInRange, InRange}
use Rattle.nodes.specs.InternalTrees.{AllScalars, AllScalarsIn, StringIs, AllKeyed}
use Rattle.nodes.proofs.TextLaws.{TokenIn, TokensIn, cut_in, span_content_law}
use Rattle.nodes.proofs.FedLaws.{FedBegins, Fed, FedTokens, All, OutcomeAll, run_all}

-- ---- the numbers of a token

integer_fits : (z : ℤ) → IntegerFits z → IntegerInRange z
unfolding IntegerFits IntegerInRange
integer_fits (pos n) h = omega arith
integer_fits (negsuc n) h = omega arith

power_fits : (p : ℤ) → le_z (negsuc 399) p ≡ true → le_z p (pos 400) ≡ true → PowerInRange p
unfolding PowerInRange
power_fits (pos n) e g = leb-true n 400 g
power_fits (negsuc n) e g = let l = leb-true n 399 e in omega arith

module _ (sw : Switches) (s : List ℕ) where
  -- ---- what a token begins

  Fine : Scalar → Type 0
  Fine v = InRange v × StringIs sw s v

  fine_nothing : FedBegins Fine sw s nothing
  unfolding FedBegins
  fine_nothing = tt

  word_fine : (w : List ℕ) → FedBegins Fine sw s (word_begins w)
  unfolding word_begins FedBegins Fine InRange StringIs
  word_fine w =
      cond_both (FedBegins Fine sw s) (same_bytes w (ascii "true")) (λ _. (tt, tt))
      (λ _. cond_both (FedBegins Fine sw s) (same_bytes w (ascii "false")) (λ _. (tt, tt))
      (λ _. cond_both (FedBegins Fine sw s) (same_bytes w (ascii "null")) (λ _. (tt, tt))
      (λ _. cond_both (FedBegins Fine sw s) (opens_with_capital w) (λ _. tt) (λ _. fine_nothing))))

  mark_fine : (b : ℕ) → FedBegins Fine sw s (mark_begins b)
  unfolding mark_begins FedBegins
  mark_fine b =
      cond_both (FedBegins Fine sw s) (is "{" b) (λ _. tt)
      (λ _. cond_both (FedBegins Fine sw s) (is "[" b) (λ _. tt)
      (λ _. cond_both (FedBegins Fine sw s) (is "(" b) (λ _. tt) (λ _. fine_nothing)))

  -- the span has the content of the form, if that has one
  abbrev Spanned : Span → Form → Type 0
  Spanned span form = (c : List ℕ) → key_content form ≡ some c → span_content sw span.start span.stop s ≡ some c

  form_fine : (b : ℕ) (l : List ℕ) (more : ℕ) (span : Span) (form : Form) → Keeps b l more form → Spanned span form → FedBegins Fine sw s (begins span form)
  unfolding begins key_content Keeps FedBegins Fine InRange StringIs
  form_fine b l more span (L.mark x) h k = mark_fine x
  form_fine b l more span (L.word w) h k = word_fine w
  form_fine b l more span (L.text c) h k = (tt, k c refl)
  form_fine b l more span (L.bytes c) h k = (tt, k c refl)
  form_fine b l more span (L.integer z) h k = (integer_fits z h, tt)
  form_fine b l more span (L.decimal minus m p) h k = ((h.most, power_fits p h.least h.greatest), tt)

  key_fine : (span : Span) (form : Form) → Spanned span form → (c : List ℕ) → key_of form ≡ some c → content_of_key sw s (some span) ≡ some c
  unfolding key_content key_of content_of_key
  key_fine span (L.mark x) k c e = cc
  key_fine span (L.word w) k c e = k c e
  key_fine span (L.text w) k c e = k c e
  key_fine span (L.bytes w) k c e = cc
  key_fine span (L.integer z) k c e = cc
  key_fine span (L.decimal minus m p) k c e = cc

  module _ (whole : is_whole (utf8 s) ≡ true) (short : length s ≤ max_text) where
    token_fed : (t : Token) → TokenIn sw s t → Fed Fine sw s t
    unfolding span_of
    token_fed t I =
        record {
          value =
              form_fine (get_or s t.start 0) (drop (suc t.start) s) I.rest (span_of t) t.form
              (at_keeps sw s t.start t.form I.rest I.item_is) (λ c e. span_content_law sw s whole short t I c e);
          key = λ c e. key_fine (span_of t) t.form (λ d q. span_content_law sw s whole short t I d q) c e;
        }

    tokens_fed : (ts : Tokens) → TokensIn sw s ts → FedTokens Fine sw s ts
    unfolding TokensIn FedTokens
    tokens_fed (L.next t ts) w = (token_fed t w.0, tokens_fed ts w.1)
    tokens_fed (L.end place) w = tt
    tokens_fed (Tokens.fault number place) w = tt

-- ---- the whole reading

module _ (P Q : Scalar → Type 0) (f : (v : Scalar) → P v → Q v) where
  mutual
    unfolding AllScalars

    scalars_map : (t : Tree) → AllScalars P t → AllScalars Q t
    scalars_map (leaf h s) a = f s a
    scalars_map (branch h k g) a = scalars_map_in g a

    scalars_map_in : (g : Forest) → AllScalarsIn P g → AllScalarsIn Q g
    scalars_map_in nil a = tt
    scalars_map_in (cons t g) a = (scalars_map t a.0, scalars_map_in g a.1)

module _ (sw : Switches) (words : ℕ) (s : List ℕ) (tree : Tree) (e : reading sw words s ≡ taken tree) where
  taken_short : length s ≤ max_text
  unfolding reading outcome
  taken_short =
      cond-case (λ (o : Outcome). o ≡ taken tree) (length s ≤ max_text) (leb (length s) max_text) e
      (λ t k. leb-true (length s) max_text t) (λ _ k. let q : ◌≡◌ {A = ℕ} 0 1 = cc in absurd (omega arith))

  reading_fine : All (Fine sw s) sw s tree
  unfolding reading tokens OutcomeAll
  reading_fine =
      let w = outcome_taken sw false (limits_of words) s tree e in
      subst (OutcomeAll (Fine sw s) sw s) w.1
      (run_all (Fine sw s) sw s (limits_of words) false (cut sw 0 0 s) (tokens_fed sw s w.0 taken_short (cut sw 0 0 s) (cut_in sw s 0 0 s refl)))

  -- every number is in its range
  pub reading_ranged : AllScalars InRange tree
  unfolding All Fine
  reading_ranged = scalars_map (Fine sw s) InRange (λ v h. h.0) tree reading_fine.0

  -- every string has the content of its token's span
  pub reading_strings : AllScalars (StringIs sw s) tree
  unfolding All Fine
  reading_strings = scalars_map (Fine sw s) (StringIs sw s) (λ v h. h.1) tree reading_fine.0

  -- the children of every object have keys, with different contents; others have none
  pub reading_keyed : AllKeyed sw s tree
  unfolding All
  reading_keyed = reading_fine.1
