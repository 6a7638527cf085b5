use Rattle.text.specs.Refusal.{told}
use Rattle.std.specs.Prelude.{Ok}
use native.Mathlib.Omega.{arith}
use mathlib.Core.Path.{ap, sym, ◌∙◌}
use Rattle.lexer.proofs.NextLaws.{next_ahead}
use Rattle.vectors.proofs.tokens.tokens.Goals as goal

pub loop-at-init : goal.loop-at-init
loop-at-init c = tt

pub slice_bounds-token-count : goal.slice_bounds-token-count
slice_bounds-token-count c = let w = next_ahead c.present-sw.result c.args.text.now c.loop-at.at c.in-Ok-Token.token.kind c.in-Ok-Token.token.span.start c.in-Ok-Token.token.span.stop (omega arith) (sym c.next_token.ensures ∙ (ap told (c.in-Ok-Token.is ∙ ap Ok c.in-Ok-Token.field-0-is))) in omega arith

pub slice_bounds-token-start : goal.slice_bounds-token-start
slice_bounds-token-start c = let w = next_ahead c.present-sw.result c.args.text.now c.loop-at.at c.in-Ok-Token.token.kind c.in-Ok-Token.token.span.start c.in-Ok-Token.token.span.stop (omega arith) (sym c.next_token.ensures ∙ (ap told (c.in-Ok-Token.is ∙ ap Ok c.in-Ok-Token.field-0-is))) in omega arith

pub slice_bounds-token-end : goal.slice_bounds-token-end
slice_bounds-token-end c = let w = next_ahead c.present-sw.result c.args.text.now c.loop-at.at c.in-Ok-Token.token.kind c.in-Ok-Token.token.span.start c.in-Ok-Token.token.span.stop (omega arith) (sym c.next_token.ensures ∙ (ap told (c.in-Ok-Token.is ∙ ap Ok c.in-Ok-Token.field-0-is))) in omega arith

pub loop-at-smaller : goal.loop-at-smaller
loop-at-smaller c =
    let w = next_ahead c.present-sw.result c.args.text.now c.loop-at.at c.in-Ok-Token.token.kind c.in-Ok-Token.token.span.start c.in-Ok-Token.token.span.stop (omega arith) (sym c.next_token.ensures ∙ (ap told (c.in-Ok-Token.is ∙ ap Ok c.in-Ok-Token.field-0-is))) in omega arith

pub loop-at-preserved : goal.loop-at-preserved
loop-at-preserved c = tt
