use mathlib.Core.Path.{refl}
use Rattle.reader.specs.declared.tree.Kind.TheVariants.{Array, Tuple}
use Rattle.reader.proofs.ItemRun.{field_as, no_object}
use Rattle.reader.proofs.items.next_item.Goals as goal

pub next_field-requires : goal.next_field-requires
next_field-requires c = c.requires

pub next_element-requires : goal.next_element-requires
next_element-requires c = record { from_in_bounds = c.requires.from_in_bounds; kind_value = no_object c.args.kind Array c.in-Array.is refl }

pub next_element-requires-in-Tuple : goal.next_element-requires-in-Tuple
next_element-requires-in-Tuple c = record { from_in_bounds = c.requires.from_in_bounds; kind_value = no_object c.args.kind Tuple c.in-Tuple.is refl }

pub returns-in-Object : goal.returns-in-Object
returns-in-Object c = field_as c.in-Object.is c.next_field.ensures

pub returns-in-Array : goal.returns-in-Array
returns-in-Array c = c.next_element.ensures

pub returns-in-Tuple : goal.returns-in-Tuple
returns-in-Tuple c = c.next_element-in-Tuple.ensures
