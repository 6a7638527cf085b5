use Rattle.std.specs.Prelude.{Some}
use Rattle.reader.specs.declared.tree.Words.{Words}
use mathlib.Core.Path.{sym, ap, ◌∙◌}
use Rattle.reader.specs.declared.tree.Begin.TheVariants as B
use Rattle.reader.specs.Tree.{scalar_words}
use Rattle.reader.specs.Internal.Tokens.{word_begin, scalar_kind, leaf_of}
use Rattle.reader.proofs.begin.word_begin.Goals as goal

pub returns-then-same_bytes : goal.returns-then-same_bytes
unfolding word_begin leaf_of scalar_kind scalar_words
returns-then-same_bytes c = rw (sym c.same_bytes.ensures ∙ c.if-same_bytes.true) (ap (λ (w : Words). Some (B.Scalar w)) c.plain_leaf.ensures)

pub returns-then-same_bytes-2 : goal.returns-then-same_bytes-2
unfolding word_begin leaf_of scalar_kind scalar_words
returns-then-same_bytes-2 c = rw (sym c.same_bytes.ensures ∙ c.if-same_bytes.false, sym c.same_bytes-2.ensures ∙ c.if-same_bytes-2.true) (ap (λ (w : Words). Some (B.Scalar w)) c.plain_leaf-then-same_bytes-2.ensures)

pub returns-then-same_bytes-3 : goal.returns-then-same_bytes-3
unfolding word_begin leaf_of scalar_kind scalar_words
returns-then-same_bytes-3 c = rw (sym c.same_bytes.ensures ∙ c.if-same_bytes.false, sym c.same_bytes-2.ensures ∙ c.if-same_bytes-2.false, sym c.same_bytes-3.ensures ∙ c.if-same_bytes-3.true) (ap (λ (w : Words). Some (B.Scalar w)) c.plain_leaf-then-same_bytes-3.ensures)

pub returns-then-opens_with_capital : goal.returns-then-opens_with_capital
unfolding word_begin leaf_of scalar_kind scalar_words
returns-then-opens_with_capital c = rw (sym c.same_bytes.ensures ∙ c.if-same_bytes.false, sym c.same_bytes-2.ensures ∙ c.if-same_bytes-2.false, sym c.same_bytes-3.ensures ∙ c.if-same_bytes-3.false, sym c.opens_with_capital.ensures ∙ c.if-opens_with_capital.true)

pub returns : goal.returns
unfolding word_begin leaf_of scalar_kind scalar_words
returns c = rw (sym c.same_bytes.ensures ∙ c.if-same_bytes.false, sym c.same_bytes-2.ensures ∙ c.if-same_bytes-2.false, sym c.same_bytes-3.ensures ∙ c.if-same_bytes-3.false, sym c.opens_with_capital.ensures ∙ c.if-opens_with_capital.false)
