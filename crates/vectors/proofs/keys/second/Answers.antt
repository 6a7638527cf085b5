use Rattle.text.specs.Refusal.{told}
use Rattle.std.specs.Prelude.{Ok}
use native.Mathlib.Omega.{arith}
use mathlib.Core.Path.{ap, sym, ◌∙◌}
use Rattle.lexer.proofs.NextLaws.{next_ahead}
use Rattle.vectors.proofs.keys.second.Goals as goal

pub slice_bounds-answer-count : goal.slice_bounds-answer-count
slice_bounds-answer-count c =
    let w = next_ahead c.present.result c.args.text.now c.args.at c.in-Ok-Token.token.kind c.in-Ok-Token.token.span.start c.in-Ok-Token.token.span.stop c.requires (sym c.next_token.ensures ∙ (ap told (c.in-Ok-Token.is ∙ ap Ok c.in-Ok-Token.field-0-is))) in omega arith

pub slice_bounds-answer-start : goal.slice_bounds-answer-start
slice_bounds-answer-start c =
    let w = next_ahead c.present.result c.args.text.now c.args.at c.in-Ok-Token.token.kind c.in-Ok-Token.token.span.start c.in-Ok-Token.token.span.stop c.requires (sym c.next_token.ensures ∙ (ap told (c.in-Ok-Token.is ∙ ap Ok c.in-Ok-Token.field-0-is))) in omega arith

pub slice_bounds-answer-end : goal.slice_bounds-answer-end
slice_bounds-answer-end c =
    let w = next_ahead c.present.result c.args.text.now c.args.at c.in-Ok-Token.token.kind c.in-Ok-Token.token.span.start c.in-Ok-Token.token.span.stop c.requires (sym c.next_token.ensures ∙ (ap told (c.in-Ok-Token.is ∙ ap Ok c.in-Ok-Token.field-0-is))) in omega arith
