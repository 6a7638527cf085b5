use Rattle.text.specs.Refusal.{told}
use Rattle.std.specs.Prelude.{Ok}
use native.Mathlib.Omega.{arith}
use mathlib.Core.Path.{ap, sym, ◌∙◌}
use Rattle.lexer.proofs.NextLaws.{next_ahead}
use Rattle.vectors.proofs.keys.compare.Goals as goal

pub slice_bounds-second-count : goal.slice_bounds-second-count
slice_bounds-second-count c =
    let w = next_ahead c.present.result c.args.text.now 0 c.in-Ok-Token.token.kind c.in-Ok-Token.token.span.start c.in-Ok-Token.token.span.stop (omega arith) (sym c.next_token.ensures ∙ (ap told (c.in-Ok-Token.is ∙ ap Ok c.in-Ok-Token.field-0-is))) in omega arith

pub slice_bounds-second-start : goal.slice_bounds-second-start
slice_bounds-second-start c =
    let w = next_ahead c.present.result c.args.text.now 0 c.in-Ok-Token.token.kind c.in-Ok-Token.token.span.start c.in-Ok-Token.token.span.stop (omega arith) (sym c.next_token.ensures ∙ (ap told (c.in-Ok-Token.is ∙ ap Ok c.in-Ok-Token.field-0-is))) in omega arith

pub slice_bounds-second-end : goal.slice_bounds-second-end
slice_bounds-second-end c =
    let w = next_ahead c.present.result c.args.text.now 0 c.in-Ok-Token.token.kind c.in-Ok-Token.token.span.start c.in-Ok-Token.token.span.stop (omega arith) (sym c.next_token.ensures ∙ (ap told (c.in-Ok-Token.is ∙ ap Ok c.in-Ok-Token.field-0-is))) in omega arith

pub second-requires : goal.second-requires
second-requires c =
    let w = next_ahead c.present.result c.args.text.now 0 c.in-Ok-Token.token.kind c.in-Ok-Token.token.span.start c.in-Ok-Token.token.span.stop (omega arith) (sym c.next_token.ensures ∙ (ap told (c.in-Ok-Token.is ∙ ap Ok c.in-Ok-Token.field-0-is))) in omega arith
