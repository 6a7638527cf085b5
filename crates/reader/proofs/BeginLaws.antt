-- What a token begins, by its kind: each law is what one way out of a function of src/begin.rt has to show.
-- Assumes nothing.
use Rattle.std.specs.Prelude.{Some, None}
use mathlib.Core.Path.{◌≡◌, refl, sym, ap, ◌∙◌, subst}
use Prim.Native.Nat.{ℕ, suc, ◌+◌, ◌-◌, ◌/◌, ◌%◌, ◌≤◌, ◌<◌}
use native.Mathlib.Omega.{arith}
use mathlib.Core.Bool.{Bool, true, false, cond, false≢true}
use mathlib.Core.List.{List, [], ◌∷◌}
use lib.IntN.{ℤ}
use lib.ListN.{length, take, drop, get_or, length-drop}
use lib.Seq.{drop-cons}
use borrow.Author.Tests.{le-leb, lt-leb}
use Rattle.text.specs.declared.switches.Switches.{Switches}
use Rattle.text.specs.Bytes.{is, ascii, same_bytes}
use Rattle.lexer.specs.declared.item.TokenKind.{TokenKind}
use Rattle.lexer.specs.declared.item.TokenKind.TheVariants as K
use Rattle.lexer.specs.Token as L
use Rattle.lexer.specs.Token.{Form}
use Rattle.lexer.specs.Answer.{kind_of}
use Rattle.reader.specs.declared.kinds.NodeKind.TheVariants as N
use Rattle.reader.specs.declared.tree.Words.{Words}
use Rattle.reader.specs.declared.tree.Begin.{Begin}
use Rattle.std.specs.declared.option.Option as Rust
use Rattle.reader.specs.declared.tree.Begin.TheVariants as B
use Rattle.reader.specs.declared.tree.Kind.TheVariants.{Object, Array, Tuple}
use Rattle.reader.specs.Tree as T
use Rattle.reader.specs.Tree.{Span, scalar_words, twos_complement, plus1000}
use Rattle.reader.specs.Syntax.{Begins, begins, container, scalar, identifier, nothing, mark_begins, word_begins, opens_with_capital, span_of}
use Rattle.reader.specs.Internal.Tokens.{form_at, token_at, TokenAt, scalar_kind, leaf_of, BeginIs, Begun, mark_begin, word_begin, DecimalFits}
use Rattle.reader.proofs.KeepLaws.{Keeps, at_keeps}

-- ---- a word that opens with a capital

pub capital_in : (s : List ℕ) → 1 ≤ length s → 65 ≤ get_or s 0 0 → get_or s 0 0 ≤ 90 → true ≡ opens_with_capital s
unfolding opens_with_capital
capital_in [] l h k = absurd (omega arith)
capital_in (b ∷ s) l h k = rw (le-leb 65 b h, le-leb b 90 k)

pub capital_none : (s : List ℕ) → length s < 1 → false ≡ opens_with_capital s
unfolding opens_with_capital
capital_none [] l = refl
capital_none (b ∷ s) l = absurd (omega arith)

pub capital_low : (s : List ℕ) → get_or s 0 0 < 65 → false ≡ opens_with_capital s
unfolding opens_with_capital
capital_low [] h = refl
capital_low (b ∷ s) h = rw (lt-leb 65 b h)

pub capital_high : (s : List ℕ) → 90 < get_or s 0 0 → false ≡ opens_with_capital s
unfolding opens_with_capital
capital_high [] h = refl
capital_high (b ∷ s) h = let k : 65 ≤ b = omega arith in rw (le-leb 65 b k, lt-leb b 90 h)

-- ---- the words of a number

pub integer_words : (n : ℕ) (z : ℤ) → n ≡ twos_complement z
    → ◌≡◌ {A = Words} (record { kind = N.Integer; low = n % 4294967296; high = n / 4294967296; extra = 0 }) (leaf_of (T.integer z))
unfolding leaf_of scalar_kind scalar_words
integer_words n z e = rw e

pub decimal_words : (minus : Bool) (m : ℕ) (p : ℤ) (x q : ℕ) → x ≡ cond minus 2147483648 0 → q ≡ plus1000 p
    → ◌≡◌ {A = Words} (record { kind = N.Decimal; low = m % 4294967296; high = m / 4294967296 + x; extra = q }) (leaf_of (T.decimal minus m p))
unfolding leaf_of scalar_kind scalar_words
decimal_words minus m p x q e q-is = rw (e, q-is)

-- ---- what something begins, as the code has it

unfoldable pub begin_by : Begins → Rust.Option Begin
begin_by (container kind) = Some (B.Container kind)
begin_by (scalar value) = Some (B.Scalar (leaf_of value))
begin_by identifier = (Some B.Identifier)
begin_by nothing = None

by_cond : (t : Bool) (x y : Begins) → begin_by (cond t x y) ≡ cond t (begin_by x) (begin_by y)
by_cond true x y = refl
by_cond false x y = refl

pub mark_tied : (b : ℕ) → mark_begin b ≡ begin_by (mark_begins b)
unfolding mark_begin mark_begins begin_by
mark_tied b =
    sym
    (by_cond (is "{" b) (container Object) (cond (is "[" b) (container Array) (cond (is "(" b) (container Tuple) nothing))
    ∙ ap (cond (is "{" b) (Some (B.Container Object)))
    (by_cond (is "[" b) (container Array) (cond (is "(" b) (container Tuple) nothing)
    ∙ ap (cond (is "[" b) (Some (B.Container Array))) (by_cond (is "(" b) (container Tuple) nothing)))

pub word_tied : (s : List ℕ) → word_begin s ≡ begin_by (word_begins s)
unfolding word_begin word_begins begin_by
word_tied s =
    sym
    (by_cond (same_bytes s (ascii "true")) (scalar T.true_value) _
    ∙ ap (cond (same_bytes s (ascii "true")) (Some (B.Scalar (leaf_of T.true_value))))
    (by_cond (same_bytes s (ascii "false")) (scalar T.false_value) _
    ∙ ap (cond (same_bytes s (ascii "false")) (Some (B.Scalar (leaf_of T.false_value))))
    (by_cond (same_bytes s (ascii "null")) (scalar T.null_value) _
    ∙ ap (cond (same_bytes s (ascii "null")) (Some (B.Scalar (leaf_of T.null_value)))) (by_cond (opens_with_capital s) identifier nothing))))

-- ---- a form by its kind

module _ (span : Span) where
  mark_form : (f : Form) (b : ℕ) → kind_of f ≡ K.Mark b → begins span f ≡ mark_begins b
  unfolding kind_of begins
  mark_form (L.mark x) b e = let h : x ≡ b = cc in ap mark_begins h
  mark_form (L.word w) b e = cc
  mark_form (L.text c) b e = cc
  mark_form (L.bytes c) b e = cc
  mark_form (L.integer z) b e = cc
  mark_form (L.decimal minus m p) b e = cc

  word_form : (b : ℕ) (s : List ℕ) (more : ℕ) (f : Form) → Keeps b s more f → kind_of f ≡ K.Word → begins span f ≡ word_begins (b ∷ take more s)
  unfolding kind_of begins Keeps
  word_form b s more (L.mark x) k e = cc
  word_form b s more (L.word w) k e = ap word_begins k
  word_form b s more (L.text c) k e = cc
  word_form b s more (L.bytes c) k e = cc
  word_form b s more (L.integer z) k e = cc
  word_form b s more (L.decimal minus m p) k e = cc

  text_form : (f : Form) (n : ℕ) → kind_of f ≡ K.Text n → Some (B.Scalar (record { kind = N.Text; low = span.start; high = span.stop; extra = n })) ≡ begin_by (begins span f)
  unfolding kind_of begins begin_by leaf_of scalar_kind scalar_words
  text_form (L.mark x) n e = cc
  text_form (L.word w) n e = cc
  text_form (L.text c) n e = let h : n ≡ length c = cc in ap (λ (k : ℕ). Some (B.Scalar (record { kind = N.Text; low = span.start; high = span.stop; extra = k }))) h
  text_form (L.bytes c) n e = cc
  text_form (L.integer z) n e = cc
  text_form (L.decimal minus m p) n e = cc

  bytes_form : (f : Form) (n : ℕ) → kind_of f ≡ K.Bytes n → Some (B.Scalar (record { kind = N.Bytes; low = span.start; high = span.stop; extra = n })) ≡ begin_by (begins span f)
  unfolding kind_of begins begin_by leaf_of scalar_kind scalar_words
  bytes_form (L.mark x) n e = cc
  bytes_form (L.word w) n e = cc
  bytes_form (L.text c) n e = cc
  bytes_form (L.bytes c) n e = let h : n ≡ length c = cc in ap (λ (k : ℕ). Some (B.Scalar (record { kind = N.Bytes; low = span.start; high = span.stop; extra = k }))) h
  bytes_form (L.integer z) n e = cc
  bytes_form (L.decimal minus m p) n e = cc

  integer_form : (f : Form) (z : ℤ) → kind_of f ≡ K.Integer z → begins span f ≡ scalar (T.integer z)
  unfolding kind_of begins
  integer_form (L.mark x) z e = cc
  integer_form (L.word w) z e = cc
  integer_form (L.text c) z e = cc
  integer_form (L.bytes c) z e = cc
  integer_form (L.integer y) z e = cc
  integer_form (L.decimal minus m p) z e = cc

  decimal_form : (f : Form) (minus : Bool) (m : ℕ) (p : ℤ) → kind_of f ≡ K.Decimal minus m p → begins span f ≡ scalar (T.decimal minus m p)
  unfolding kind_of begins
  decimal_form (L.mark x) minus m p e = cc
  decimal_form (L.word w) minus m p e = cc
  decimal_form (L.text c) minus m p e = cc
  decimal_form (L.bytes c) minus m p e = cc
  decimal_form (L.integer y) minus m p e = cc
  decimal_form (L.decimal minus' m' p') minus m p e = cc

module _ (b : ℕ) (s : List ℕ) (more : ℕ) where
  text_keeps : (f : Form) (n : ℕ) → Keeps b s more f → kind_of f ≡ K.Text n → n ≤ length s
  unfolding kind_of Keeps
  text_keeps (L.mark x) n k e = absurd (false≢true cc)
  text_keeps (L.word w) n k e = absurd (false≢true cc)
  text_keeps (L.text c) n k e = let h : n ≡ length c = cc in omega arith
  text_keeps (L.bytes c) n k e = absurd (false≢true cc)
  text_keeps (L.integer z) n k e = absurd (false≢true cc)
  text_keeps (L.decimal minus m p) n k e = absurd (false≢true cc)

  bytes_keeps : (f : Form) (n : ℕ) → Keeps b s more f → kind_of f ≡ K.Bytes n → n ≤ length s
  unfolding kind_of Keeps
  bytes_keeps (L.mark x) n k e = absurd (false≢true cc)
  bytes_keeps (L.word w) n k e = absurd (false≢true cc)
  bytes_keeps (L.text c) n k e = absurd (false≢true cc)
  bytes_keeps (L.bytes c) n k e = let h : n ≡ length c = cc in omega arith
  bytes_keeps (L.integer z) n k e = absurd (false≢true cc)
  bytes_keeps (L.decimal minus m p) n k e = absurd (false≢true cc)

  decimal_keeps : (f : Form) (minus : Bool) (m : ℕ) (p : ℤ) → Keeps b s more f → kind_of f ≡ K.Decimal minus m p → DecimalFits m p
  unfolding kind_of Keeps
  decimal_keeps (L.mark x) minus m p k e = absurd (false≢true cc)
  decimal_keeps (L.word w) minus m p k e = absurd (false≢true cc)
  decimal_keeps (L.text c) minus m p k e = absurd (false≢true cc)
  decimal_keeps (L.bytes c) minus m p k e = absurd (false≢true cc)
  decimal_keeps (L.integer z) minus m p k e = absurd (false≢true cc)
  decimal_keeps (L.decimal minus' m' p') minus m p k e =
      let h : m' ≡ m = cc in
      let j : p' ≡ p = cc in
      subst (λ (y : ℤ). DecimalFits m y) j (subst (λ (x : ℕ). DecimalFits x p') h k)

-- ---- the token from `start` to `stop`

module _ (sw : Switches) (s : List ℕ) (start stop : ℕ) where
  begun_as : (x : Begins) → begins (span_of (token_at sw s start stop)) (form_at sw s start) ≡ x → BeginIs sw s start stop (begin_by x)
  unfolding begin_by
  begun_as (container kind) e = e
  begun_as (scalar v) e = record { value = v; is = e; words = refl }
  begun_as identifier e = e
  begun_as nothing e = e

  begun : (r : Rust.Option Begin) → r ≡ begin_by (begins (span_of (token_at sw s start stop)) (form_at sw s start)) → Begun sw s start stop r
  begun r e = record { is = subst (BeginIs sw s start stop) (sym e) (begun_as (begins (span_of (token_at sw s start stop)) (form_at sw s start)) refl) }

  module _ (k : TokenKind) (t : TokenAt sw s k start stop) where
    kept : Keeps (get_or s start 0) (drop (suc start) s) (stop - suc start) (form_at sw s start)
    kept = at_keeps sw s start (form_at sw s start) (stop - suc start) t.item

    bytes_of : take (stop - start) (drop start s) ≡ get_or s start 0 ∷ take (stop - suc start) (drop (suc start) s)
    bytes_of =
        let o = t.ordered in
        let i = t.inside in
        let h : start < length s = omega arith in
        let m : stop - start ≡ suc (stop - suc start) = omega arith in
        rw (m, drop-cons s start 0 h)

    pub mark_begun : (b : ℕ) (r : Rust.Option Begin) → k ≡ K.Mark b → r ≡ mark_begin b → Begun sw s start stop r
    mark_begun b r e q =
        begun r (q ∙ mark_tied b ∙ ap begin_by (sym (mark_form (span_of (token_at sw s start stop)) (form_at sw s start) b (t.kind ∙ e))))

    pub word_begun : (r : Rust.Option Begin) → k ≡ K.Word → r ≡ word_begin (take (stop - start) (drop start s)) → Begun sw s start stop r
    word_begun r e q =
        begun r
        (q ∙ ap word_begin bytes_of ∙ word_tied (get_or s start 0 ∷ take (stop - suc start) (drop (suc start) s))
        ∙ ap begin_by
        (sym (word_form (span_of (token_at sw s start stop)) (get_or s start 0) (drop (suc start) s) (stop - suc start) (form_at sw s start) kept (t.kind ∙ e))))

    pub text_begun : (n : ℕ) → k ≡ K.Text n → Begun sw s start stop (Some (B.Scalar (record { kind = N.Text; low = start; high = stop; extra = n })))
    unfolding span_of
    text_begun n e =
        begun (Some (B.Scalar (record { kind = N.Text; low = start; high = stop; extra = n }))) (text_form (span_of (token_at sw s start stop)) (form_at sw s start) n (t.kind ∙ e))

    pub bytes_begun : (n : ℕ) → k ≡ K.Bytes n → Begun sw s start stop (Some (B.Scalar (record { kind = N.Bytes; low = start; high = stop; extra = n })))
    unfolding span_of
    bytes_begun n e =
        begun (Some (B.Scalar (record { kind = N.Bytes; low = start; high = stop; extra = n }))) (bytes_form (span_of (token_at sw s start stop)) (form_at sw s start) n (t.kind ∙ e))

    pub integer_begun : (z : ℤ) (l : Words) → k ≡ K.Integer z → l ≡ leaf_of (T.integer z) → Begun sw s start stop (Some (B.Scalar l))
    unfolding begin_by
    integer_begun z l e q =
        begun (Some (B.Scalar l)) (ap (λ (w : Words). Some (B.Scalar w)) q ∙ ap begin_by (sym (integer_form (span_of (token_at sw s start stop)) (form_at sw s start) z (t.kind ∙ e))))

    pub decimal_begun : (minus : Bool) (m : ℕ) (p : ℤ) (l : Words) → k ≡ K.Decimal minus m p → l ≡ leaf_of (T.decimal minus m p)
        → Begun sw s start stop (Some (B.Scalar l))
    unfolding begin_by
    decimal_begun minus m p l e q =
        begun (Some (B.Scalar l)) (ap (λ (w : Words). Some (B.Scalar w)) q ∙ ap begin_by (sym (decimal_form (span_of (token_at sw s start stop)) (form_at sw s start) minus m p (t.kind ∙ e))))

    pub text_fits_law : (n : ℕ) → k ≡ K.Text n → n ≤ length s
    text_fits_law n e =
        let d = length-drop (suc start) s in
        let h = text_keeps (get_or s start 0) (drop (suc start) s) (stop - suc start) (form_at sw s start) n kept (t.kind ∙ e) in
        omega arith

    pub bytes_fits : (n : ℕ) → k ≡ K.Bytes n → n ≤ length s
    bytes_fits n e =
        let d = length-drop (suc start) s in
        let h = bytes_keeps (get_or s start 0) (drop (suc start) s) (stop - suc start) (form_at sw s start) n kept (t.kind ∙ e) in
        omega arith

    pub decimal_fits : (minus : Bool) (m : ℕ) (p : ℤ) → k ≡ K.Decimal minus m p → DecimalFits m p
    decimal_fits minus m p e =
        decimal_keeps (get_or s start 0) (drop (suc start) s) (stop - suc start) (form_at sw s start) minus m p kept (t.kind ∙ e)
