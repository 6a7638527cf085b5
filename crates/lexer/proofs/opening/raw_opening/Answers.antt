use Rattle.std.proofs.Common.{rules, arith}
use Rattle.std.proofs.lemmas.Grind.{common_steps}
use Rattle.text.specs.Bytes.{is}
use Rattle.lexer.proofs.OpeningLaws.{raw_at_law}
use Rattle.lexer.proofs.opening.raw_opening.Goals as goal

pub returns-in-34 : goal.returns-in-34
returns-in-34 c =
    let e = raw_at_law c.args.is_text c.args.before c.args.text.now c.args.from _ (c.front-hashes.ensures.counts (is "#") (λ b r l h. search rules)) in
    grind (arith, common_steps)

pub returns-in_default : goal.returns-in_default
returns-in_default c =
    let e = raw_at_law c.args.is_text c.args.before c.args.text.now c.args.from _ (c.front-hashes.ensures.counts (is "#") (λ b r l h. search rules)) in
    grind (arith, common_steps)

pub returns-in_default-2 : goal.returns-in_default-2
returns-in_default-2 c =
    let e = raw_at_law c.args.is_text c.args.before c.args.text.now c.args.from _ (c.front-hashes.ensures.counts (is "#") (λ b r l h. search rules)) in
    grind (arith, common_steps)
