use mathlib.Core.Path.{◌≡◌}
use mathlib.Core.List.{List}
use Prim.Native.Nat.{ℕ, ◌+◌, ◌-◌, ◌*◌}
use lib.ListN.{length}
use Rattle.reader.specs.Tree.{Forest}
use Rattle.reader.specs.Syntax.{container}
use Rattle.reader.specs.Internal.Values.{label_of, opened, ChildAt}
use Rattle.reader.proofs.BodyRun.{Within}
use Rattle.reader.proofs.values.+value.Given as goal

abbrev pub invariant-read_container-loop-item : goal.invariant-read_container-loop-item
invariant-read_container-loop-item l = (ts : Forest) × (ks : List (List ℕ)) × (l.children.first ≡ l.due.spot.node + 1) × Within l.rules.sw l.rules.limits l.text l.kind (label_of l.due.label) (opened l.rules.sw l.rules.limits l.text l.place l.initial.from l.due.fresh l.due.any (label_of l.due.label) l.due.spot.node (container l.kind)) l.place l.due.spot.depth l.due.spot.node l.initial.table ts ks l.from l.children.next l.children.count l.table × ChildAt l.rules.sw l.text l.kind l.children.count l.from l.item

abbrev pub decreases-read_container-loop-item : goal.decreases-read_container-loop-item
decreases-read_container-loop-item l = length l.text - l.from

abbrev pub decreases-read_container : goal.decreases-read_container
decreases-read_container l = 2 * (length l.text.now - l.bracket.start)

abbrev pub decreases-read_identifier : goal.decreases-read_identifier
decreases-read_identifier l = 2 * (length l.text.now - l.name.start)

abbrev pub decreases-read_value : goal.decreases-read_value
decreases-read_value l = 2 * (length l.text.now - l.token.span.start) + 1
