use mathlib.Core.Path.{◌≡◌, refl, ap}
use mathlib.Core.Bool.{false}
use mathlib.Core.Logic.{inl, inr}
use Rattle.reader.specs.declared.tree.Kind.TheVariants.{Array, Tuple}
use Rattle.reader.specs.Syntax.{is_object}
use Rattle.reader.proofs.ItemRun.{no_object}
use Rattle.reader.proofs.DuplicateLaws.{first_other, late_after_at, late_after_key, late_after_other}
use Rattle.reader.proofs.late.late_after.Goals as goal

pub find_duplicate-requires : goal.find_duplicate-requires
find_duplicate-requires c = c.requires.keys

pub key_refusal-requires : goal.key_refusal-requires
key_refusal-requires c = c.requires.key_in.here (ap is_object c.in-Object.is)

pub returns-in-Some : goal.returns-in-Some
returns-in-Some c = late_after_at c.find_duplicate.ensures c.in-Some.is

pub returns-in-None : goal.returns-in-None
returns-in-None c = late_after_key c.find_duplicate.ensures c.in-None.is c.in-Object.is c.key_refusal.ensures

pub returns-in-Array : goal.returns-in-Array
returns-in-Array c =
    let n : is_object c.args.kind ≡ false = elim c.in-Array.is [ inl e ↦ no_object c.args.kind Array e refl | inr e ↦ no_object c.args.kind Tuple e refl ] in
    late_after_other (first_other n) refl n
