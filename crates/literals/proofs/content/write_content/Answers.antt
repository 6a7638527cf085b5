use Rattle.std.proofs.Common.{sym, ap, ◌∙◌, ℕ, List}
use mathlib.Core.Option.{Option}
use Rattle.literals.specs.Content.{content_of, placed}
use Rattle.literals.proofs.FillLaws.{fit_refused, fit_not, fit_bytes, fit_same, fit_content}
use Rattle.literals.proofs.content.write_content.Goals as goal

pub fill_front-requires : goal.fill_front-requires
fill_front-requires c =
    fit_content c.args.out.now c.args.sw c.args.is_text c.args.body c.args.s.now c.in-Some.n (sym c.measure_content.ensures ∙ c.in-Some.is) c.if-out-n.false

pub returns-in-None : goal.returns-in-None
returns-in-None c = fit_refused c.args.out.now (content_of c.args.sw c.args.is_text c.args.body c.args.s.now) (sym c.measure_content.ensures ∙ c.in-None.is)

pub returns-in-Some : goal.returns-in-Some
returns-in-Some c =
    fit_not c.args.out.now (content_of c.args.sw c.args.is_text c.args.body c.args.s.now) c.in-Some.n (sym c.measure_content.ensures ∙ c.in-Some.is) c.if-out-n.true

pub returns-in-Some-2 : goal.returns-in-Some-2
returns-in-Some-2 c =
    let e = sym c.measure_content.ensures ∙ c.in-Some.is in (
      fit_bytes c.args.out.now (content_of c.args.sw c.args.is_text c.args.body c.args.s.now) c.in-Some.n e c.if-out-n.false,
      c.fill_front.ensures ∙ sym (ap (λ (o : Option (List ℕ)). placed o c.args.out.now) (fit_same c.args.out.now c.args.sw c.args.is_text c.args.body c.args.s.now c.in-Some.n e)),
    )
