use mathlib.Core.Path.{refl}
use mathlib.Core.Logic.{inl, inr}
use Rattle.reader.specs.declared.tree.Kind.TheVariants.{Array, Tuple}
use Rattle.reader.proofs.ItemRun.{no_object}
use Rattle.reader.proofs.DuplicateLaws.{first_object, first_other}
use Rattle.reader.proofs.late.find_duplicate.Goals as goal

pub returns-then-children-le-FEW_KEYS : goal.returns-then-children-le-FEW_KEYS
returns-then-children-le-FEW_KEYS c = first_object c.in-Object.is c.duplicate_by_walk.ensures

pub duplicate_by_index-requires : goal.duplicate_by_index-requires
duplicate_by_index-requires c = (c.requires.not_root, c.requires.few)

pub returns-else-children-le-FEW_KEYS : goal.returns-else-children-le-FEW_KEYS
returns-else-children-le-FEW_KEYS c = first_object c.in-Object.is c.duplicate_by_index.ensures

pub returns-in-Array : goal.returns-in-Array
returns-in-Array c = first_other (elim c.in-Array.is [ inl e ↦ no_object c.args.kind Array e refl | inr e ↦ no_object c.args.kind Tuple e refl ])
