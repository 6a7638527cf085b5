use native.Mathlib.Omega.{arith}
use mathlib.Core.Path.{sym, ap, subst, ◌∙◌}
use lib.IntN.{ℤ}
use mir.Syntax.{w64}
use mir.Facts.{to_z-of_z}
use Rattle.reader.specs.Tree.{integer, decimal}
use Rattle.reader.specs.Internal.Tokens.{leaf_of, DecimalFits}
use Rattle.reader.proofs.BeginLaws.{mark_begun, word_begun, text_begun, bytes_begun, integer_begun, decimal_begun, text_fits_law, bytes_fits, decimal_fits}
use Rattle.reader.proofs.begin.begin_of.Goals as goal

pub slice_bounds-word_begin-count : goal.slice_bounds-word_begin-count
slice_bounds-word_begin-count c = let o = c.requires.token_here.token.ordered in omega arith

pub slice_bounds-word_begin-start : goal.slice_bounds-word_begin-start
slice_bounds-word_begin-start c =
    let o = c.requires.token_here.token.ordered in let i = c.requires.token_here.token.inside in omega arith

pub slice_bounds-word_begin-end : goal.slice_bounds-word_begin-end
slice_bounds-word_begin-end c =
    let o = c.requires.token_here.token.ordered in let i = c.requires.token_here.token.inside in omega arith

pub string_leaf-requires : goal.string_leaf-requires
string_leaf-requires c =
    let o = c.requires.token_here.token.ordered in
    let i = c.requires.token_here.token.inside in
    let l = c.requires.text_len_bound in
    let h = text_fits_law c.requires.token_here.sw c.args.text.now c.args.token.span.start c.args.token.span.stop c.args.token.kind c.requires.token_here.token c.in-Text.n c.in-Text.is in
    (omega arith, omega arith, omega arith)

pub string_leaf-requires-in-Bytes : goal.string_leaf-requires-in-Bytes
string_leaf-requires-in-Bytes c =
    let o = c.requires.token_here.token.ordered in
    let i = c.requires.token_here.token.inside in
    let l = c.requires.text_len_bound in
    let h = bytes_fits c.requires.token_here.sw c.args.text.now c.args.token.span.start c.args.token.span.stop c.args.token.kind c.requires.token_here.token c.in-Bytes.n c.in-Bytes.is in
    (omega arith, omega arith, omega arith)

pub decimal_leaf-requires : goal.decimal_leaf-requires
decimal_leaf-requires c =
    subst (λ (y : ℤ). DecimalFits c.in-Decimal.m y) (sym (to_z-of_z {w = w64} {z = c.in-Decimal.p} (record { sfits = omega arith })))
    (decimal_fits c.requires.token_here.sw c.args.text.now c.args.token.span.start c.args.token.span.stop c.args.token.kind c.requires.token_here.token c.in-Decimal.minus c.in-Decimal.m c.in-Decimal.p c.in-Decimal.is)

pub returns-in-Mark : goal.returns-in-Mark
returns-in-Mark c =
    record { is = λ sw h. mark_begun sw c.args.text.now c.args.token.span.start c.args.token.span.stop c.args.token.kind h c.in-Mark.b c.mark_begin.result c.in-Mark.is c.mark_begin.ensures }

pub returns-in-Word : goal.returns-in-Word
returns-in-Word c =
    record { is = λ sw h. word_begun sw c.args.text.now c.args.token.span.start c.args.token.span.stop c.args.token.kind h c.word_begin.result c.in-Word.is c.word_begin.ensures }

pub returns-in-Text : goal.returns-in-Text
returns-in-Text c =
    rw c.string_leaf.ensures (record { is = λ sw h. text_begun sw c.args.text.now c.args.token.span.start c.args.token.span.stop c.args.token.kind h c.in-Text.n c.in-Text.is })

pub returns-in-Bytes : goal.returns-in-Bytes
returns-in-Bytes c =
    rw c.string_leaf-in-Bytes.ensures (record { is = λ sw h. bytes_begun sw c.args.text.now c.args.token.span.start c.args.token.span.stop c.args.token.kind h c.in-Bytes.n c.in-Bytes.is })

pub returns-in-Integer : goal.returns-in-Integer
returns-in-Integer c =
    record {
      is = λ sw h. integer_begun sw c.args.text.now c.args.token.span.start c.args.token.span.stop c.args.token.kind h c.in-Integer.value c.integer_leaf.result c.in-Integer.is
          (c.integer_leaf.ensures ∙ ap (λ (y : ℤ). leaf_of (integer y)) (to_z-of_z {w = w64} {z = c.in-Integer.value} (record { sfits = omega arith })));
    }

pub returns-in-Decimal : goal.returns-in-Decimal
returns-in-Decimal c =
    record {
      is = λ sw h. decimal_begun sw c.args.text.now c.args.token.span.start c.args.token.span.stop c.args.token.kind h c.in-Decimal.minus c.in-Decimal.m c.in-Decimal.p c.decimal_leaf.result c.in-Decimal.is
          (c.decimal_leaf.ensures ∙ ap (λ (y : ℤ). leaf_of (decimal c.in-Decimal.minus c.in-Decimal.m y)) (to_z-of_z {w = w64} {z = c.in-Decimal.p} (record { sfits = omega arith })));
    }
