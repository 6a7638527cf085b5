use Rattle.text.specs.Refusal.{told}
use native.Mathlib.Omega.{arith}
use mathlib.Core.Path.{sym, ◌∙◌, ap}
use Rattle.std.proofs.lemmas.Grind.{merely}
use Rattle.path.proofs.FollowLaws.{root_stands, found_root, found_on, found_refused}
use Rattle.path.proofs.find.find_edition.Goals as goal

pub returns-then-path-eq0 : goal.returns-then-path-eq0
returns-then-path-eq0 c =
    (found_root _ _ _ _ _ (sym c.read_edition.ensures.0 ∙ (ap told c.in-Ok.is)) (omega arith), c.read_edition.ensures.1)

pub invariant_of-root : goal.invariant_of-root
invariant_of-root c = record { stands = merely (root_stands _ _ _ _ c.read_edition.ensures.1 (sym c.read_edition.ensures.0 ∙ (ap told c.in-Ok.is))) }

pub returns-else-path-eq0 : goal.returns-else-path-eq0
returns-else-path-eq0 c =
    (found_on _ _ _ _ _ _ _ _ c.read_edition.ensures.1 (sym c.read_edition.ensures.0 ∙ (ap told c.in-Ok.is)) c.if-path-eq0.false c.follow_on.ensures, c.read_edition.ensures.1)

pub returns-in-Err : goal.returns-in-Err
returns-in-Err c =
    (found_refused _ _ _ _ _ (sym c.read_edition.ensures.0 ∙ (ap told c.in-Err.is)), c.read_edition.ensures.1)
