-- Ask by path (Req 09): "A path is bytes, steps separated by `.`; the empty path is the root."
-- Assumes nothing.
use Rattle.std.specs.Prelude.{ℕ, suc, ◌+◌, ◌-◌, ◌*◌, cond, List, [], ◌∷◌, Ok, Err}
use Prim.Native.Char.{code}
use Rattle.std.proofs.Math.Option.{Option, none, some}
use Rattle.text.specs.declared.switches.Switches.{Switches}
use Rattle.text.specs.Bytes.{is, is_digit}
use Rattle.text.specs.Refusal.{refusal, Refusal}
use Rattle.reader.specs.declared.tree.Kind.TheVariants.{Object, Array, Tuple}
use Rattle.reader.specs.Tree.{Tree, leaf, branch}
use Rattle.reader.specs.Syntax.{Outcome, taken, refused}
use Rattle.nodes.specs.Nodes.{Numbered, member, element}
use Rattle.std.specs.declared.result.Result.{Result}

-- ---- steps

-- a byte before the first of the steps, of which there always is one
unfoldable pub on_first : ℕ → List (List ℕ) → List (List ℕ)
on_first b [] = (b ∷ []) ∷ []
on_first b (s ∷ ss) = (b ∷ s) ∷ ss

-- "steps separated by `.`": one step more than there are separators
unfoldable pub pieces : List ℕ → List (List ℕ)
pieces [] = [] ∷ []
pieces (b ∷ s) = cond (is "." b) ([] ∷ pieces s) (on_first b (pieces s))

-- "the empty path is the root": it has no step
unfoldable pub steps : List ℕ → List (List ℕ)
steps [] = []
steps (b ∷ s) = pieces (b ∷ s)

-- ---- an index

-- the number that digits make, with those before them, which make v; none where another byte stands
unfoldable pub digits : (v : ℕ) → List ℕ → Option ℕ
digits v [] = some v
digits v (b ∷ s) = cond (is_digit b) (digits (v * 10 + (b - code "0")) s) none

-- a first digit 0 stands alone
unfoldable pub alone : List ℕ → Option ℕ
alone [] = some 0
alone (b ∷ s) = none

-- "a decimal index from 0 without leading zeros"
unfoldable pub index : List ℕ → Option ℕ
index [] = none
index (b ∷ s) = cond (is "0" b) (alone s) (digits 0 (b ∷ s))

-- ---- one step

-- the child with this index, of the value with the number n
unfoldable pub indexed : (n : ℕ) → Tree → Option ℕ → Option Numbered
indexed n t none = none
indexed n t (some i) = element i n t

-- "In an object a step is the content of a key. In an array or tuple it is a decimal index": the child to go to, of the value with the
-- number n
unfoldable pub child : Switches → (text : List ℕ) (n : ℕ) → Tree → (step : List ℕ) → Option Numbered
child sw text n (leaf head scalar) step = none
child sw text n (branch head Object children) step = member sw text step n (branch head Object children)
child sw text n (branch head Array children) step = indexed n (branch head Array children) (index step)
child sw text n (branch head Tuple children) step = indexed n (branch head Tuple children) (index step)

-- ---- the path

-- on from the child, if there is one: "or 23 and the number of the first step, from 0, that has no child to go to"; k is the step's number
unfoldable pub onward : (k : ℕ) → Option Numbered → (Numbered → Result ℕ Refusal) → Result ℕ Refusal
onward k none go = Err (refusal 23 k)
onward k (some c) go = go c

-- "Following a path takes one step off it each time": from the value with the number n, by the steps that are left, the first of which has
-- the number k. With none left, "the node's number"
unfoldable pub follow : Switches → (text : List ℕ) (k n : ℕ) → Tree → List (List ℕ) → Result ℕ Refusal
follow sw text k n t [] = Ok n
follow sw text k n t (s ∷ ss) = onward k (child sw text n t s) (λ c. follow sw text (suc k) c.number c.value ss)

-- ---- the call

-- "The call reads the text into the lent table itself, then answers": by what reading the text comes to. The answer is the code's own enum,
-- src/find.rt: a node's number, or the number of a refusal with its place
unfoldable pub found : Switches → (text path : List ℕ) → Outcome → Result ℕ Refusal
found sw text path (taken tree) = follow sw text 0 0 tree (steps path)
found sw text path (refused number place) = Err (refusal number place)
