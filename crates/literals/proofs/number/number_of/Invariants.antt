use Rattle.std.proofs.Common.{◌≡◌, ◌≤◌, drop}
use Rattle.text.specs.Bytes.{feed}
use Rattle.literals.specs.declared.number.Number.TheVariants.{Start}
use Rattle.literals.specs.Number.{number_step}
use Rattle.literals.specs.InternalNumber.{capped, places_of}
use Rattle.literals.proofs.number.number_of.Given as goal

abbrev pub invariant-loop-b : goal.invariant-loop-b
invariant-loop-b l = record {
  few : places_of l.state ≤ l.b-index;
  same : capped (feed number_step Start l.token) ≡ capped (feed number_step l.state (drop l.b-index l.token));
}
