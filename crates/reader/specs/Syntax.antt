-- The syntax (document 01, "Values"): a machine with a stack, fed one token after the other.
-- At one token the order of refusals is the token's own fault (3 to 6), then 7, 8, 9, 10; the place is the token's start.
-- Assumes nothing.
use Rattle.std.specs.Prelude.{ℕ, suc, Bool, true, false, not, cond, ◌&&◌, ◌||◌, List, [], ◌∷◌, ◌++◌, leb, length}
use Prim.Native.Char.{Char}
use Rattle.std.proofs.Math.Option.{Option, none, some}
use Rattle.text.specs.declared.switches.Switches.{Switches}
use Rattle.text.specs.Bytes.{same_bytes, is_capital, is, ascii}
use Rattle.lexer.specs.Token as L
use Rattle.lexer.specs.Token.{Token, Tokens, Form}
use Rattle.reader.specs.Tree.{Span, Head, Scalar, Tree, leaf, branch, Forest, nil, snoc}
use Rattle.reader.specs.Tree as T
use Rattle.reader.specs.declared.tree.Kind.{Kind}
use Rattle.reader.specs.declared.tree.Kind.TheVariants.{Object, Array, Tuple}
use Rattle.reader.specs.declared.tree.Limits.{Limits}

-- ---- the machine's state

-- what is known of a value that has begun: its start, its key and its identifier
pub record Label : Type 0 where
  pub start : ℕ
  pub key : Option Span
  pub name : Option Span

-- an open container: its finished children and, of an object, the contents of its keys
pub record Frame : Type 0 where
  pub kind : Kind
  pub label : Label
  pub children : Forest
  pub keys : List (List ℕ)

-- where a container stands: just opened; after the lone comma of `[,` or `(,`; after a child; after the comma that follows a child
pub data Slot : Type 0 where
  first lone after more : Slot

-- What may come next. `any`: a value of every kind, or else an object, array or tuple only.
pub data Mode : Type 0 where
  value : (any : Bool) (key : Option Span) → Mode  -- a value
  named : (any : Bool) → Label → Mode  -- after an identifier's name: its bracket
  inner : (any : Bool) → Label → Mode  -- after that bracket: a value without an identifier
  close : Tree → Mode  -- after that value: the closing bracket
  inside : Slot → Mode  -- in the innermost container
  colon : (key : Span) → Mode  -- after a key
  done : Tree → Mode  -- after the whole value: nothing

-- the machine's state. `nodes`: how many values have begun
pub record Config : Type 0 where
  pub stack : List Frame
  pub mode : Mode
  pub nodes : ℕ

-- a state from its parts
abbrev pub config : List Frame → Mode → (nodes : ℕ) → Config
config stack mode nodes = record { stack = stack; mode = mode; nodes = nodes }

-- an open container from its parts
abbrev pub frame : Kind → Label → Forest → List (List ℕ) → Frame
frame kind label children keys = record { kind = kind; label = label; children = children; keys = keys }

-- a label from its parts
abbrev pub label : (start : ℕ) (key name : Option Span) → Label
label start key name = record { start = start; key = key; name = name }

-- what a token leads to: the next state, or a refusal at the token's start
pub data Step : Type 0 where
  go : Config → Step
  refuse : (number : ℕ) → Step

-- ---- tokens, as the syntax sees them

-- a token's span
unfoldable pub span_of : Token → Span
span_of t = record { start = t.start; stop = t.stop }

-- the token is this bracket or mark
unfoldable pub is_mark : Char → Form → Bool
is_mark c (L.mark b) = is c b
is_mark c (L.word s) = false
is_mark c (L.text s) = false
is_mark c (L.bytes s) = false
is_mark c (L.integer z) = false
is_mark c (L.decimal minus m p) = false

-- the closing bracket
abbrev pub closer : Kind → Char
closer Object = "}"
closer Array = "]"
closer Tuple = ")"

-- the container is an object: its children have keys
abbrev pub is_object : Kind → Bool
is_object Object = true
is_object Array = false
is_object Tuple = false

-- "A key is any word of the shape, or a text string": the content of a key
unfoldable pub key_of : Form → Option (List ℕ)
key_of (L.mark b) = none
key_of (L.word s) = some s
key_of (L.text s) = some s
key_of (L.bytes s) = none
key_of (L.integer z) = none
key_of (L.decimal minus m p) = none

-- what a token can be the first of
pub data Begins : Type 0 where
  container : Kind → Begins
  scalar : Scalar → Begins
  identifier nothing : Begins

-- an opening bracket begins a container; any other mark begins nothing
unfoldable pub mark_begins : ℕ → Begins
mark_begins b = cond (is "{" b) (container Object) (cond (is "[" b) (container Array) (cond (is "(" b) (container Tuple) nothing))

-- "An identifier is a word of the shape opening with a capital"
unfoldable pub opens_with_capital : List ℕ → Bool
opens_with_capital [] = false
opens_with_capital (b ∷ s) = is_capital b

-- 000: "Booleans are one of true or false", "Null is always null"; an identifier by its capital; any other word is no value
unfoldable pub word_begins : List ℕ → Begins
word_begins s =
    cond (same_bytes s (ascii "true")) (scalar T.true_value)
    (cond (same_bytes s (ascii "false")) (scalar T.false_value)
    (cond (same_bytes s (ascii "null")) (scalar T.null_value)
    (cond (opens_with_capital s) identifier nothing)))

-- what a token with this span is the first of: a string or a number is a whole value
unfoldable pub begins : Span → Form → Begins
begins span (L.mark b) = mark_begins b
begins span (L.word s) = word_begins s
begins span (L.text s) = scalar (T.text span s)
begins span (L.bytes s) = scalar (T.bytes span s)
begins span (L.integer z) = scalar (T.integer z)
begins span (L.decimal minus m p) = scalar (T.decimal minus m p)

-- ---- values that end

-- the head of a value with this label and end
unfoldable pub head_by : Label → (stop : ℕ) → Head
head_by l stop = record { value = record { start = l.start; stop = stop }; key = l.key; name = l.name }

-- a head with another end
unfoldable pub stop_at : ℕ → Head → Head
stop_at stop head = record { value = record { start = head.value.start; stop = stop }; key = head.key; name = head.name }

-- a tree with another end: "its identifier and bracket included"
unfoldable pub with_stop : ℕ → Tree → Tree
with_stop stop (leaf head s) = leaf (stop_at stop head) s
with_stop stop (branch head kind children) = branch (stop_at stop head) kind children

-- a value is whole: it is the last child of the innermost container, or the whole tree
unfoldable pub finished : List Frame → (nodes : ℕ) → Tree → Config
finished [] nodes t = config [] (done t) nodes
finished (f ∷ fs) nodes t = config (frame f.kind f.label (snoc f.children t) f.keys ∷ fs) (inside after) nodes

-- a value is whole, but for the bracket of its identifier if it has one: "`(`, one value without an identifier, `)`, with no comma inside"
unfoldable pub ended : List Frame → (nodes : ℕ) → (name : Option Span) → Tree → Config
ended stack nodes none t = finished stack nodes t
ended stack nodes (some span) t = config stack (close t) nodes

-- ---- one step

-- the state in another mode
abbrev pub go_to : Config → Mode → Step
go_to c mode = go (config c.stack mode c.nodes)

-- a refusal if the test holds, or else the step
unfoldable pub refuse_if : Bool → (number : ℕ) → Step → Step
refuse_if true number s = refuse number
refuse_if false number s = s

-- the token is a comma
abbrev pub is_comma : Form → Bool
is_comma form = is_mark "," form

-- "Two keys of one object are equal when their contents are equal bytes"
unfoldable pub holds : List (List ℕ) → List ℕ → Bool
holds [] key = false
holds (k ∷ ks) key = same_bytes k key || holds ks key

-- a token where a key of the object f is due; 8 "key already in this object"
unfoldable pub key_step : Frame → List Frame → (nodes : ℕ) → Span → Option (List ℕ) → Step
key_step f fs nodes span none = refuse 7
key_step f fs nodes span (some key) =
    refuse_if (holds f.keys key) 8
    (go (config (frame f.kind f.label f.children (f.keys ++ (key ∷ [])) ∷ fs) (colon span) nodes))

-- the closing bracket of the container f ends it; any other token goes to `other`
unfoldable pub close_or : Config → Frame → List Frame → Token → (other : Step) → Step
close_or c f fs t other =
    cond (is_mark (closer f.kind) t.form)
    (go (ended fs c.nodes f.label.name (branch (head_by f.label t.stop) f.kind f.children)))
    other

-- whether a lone comma makes a container empty: "`{,}` is refused .. `[,]` and `(,)` are empty"
unfoldable pub empty_by_comma : Switches → Kind → Bool
empty_by_comma sw Object = false
empty_by_comma sw Array = sw.lone_comma
empty_by_comma sw Tuple = true

module _ (limits : Limits) where
  -- 10 "a value opens, if only by an identifier, with no node left". `fresh`: the value opens with this token, which is not the first
  -- after its identifier's bracket.
  unfoldable pub no_node : (fresh : Bool) → Config → Bool
  no_node fresh c = fresh && leb limits.nodes c.nodes

  -- the values begun, with this one if it opens with this token
  unfoldable pub counted : (fresh : Bool) → Config → ℕ
  counted fresh c = cond fresh (suc c.nodes) c.nodes

  -- a token where a value is due: 9 "too deep", 10; "Root: object, array or tuple" if not `any`; "one value without an identifier" if not
  -- `fresh`
  unfoldable pub value_step : Config → (fresh any : Bool) → Label → Token → Begins → Step
  value_step c fresh any l t (container kind) =
      refuse_if (leb limits.depth (length c.stack)) 9
      (refuse_if (no_node fresh c) 10
      (go (config (frame kind l nil [] ∷ c.stack) (inside first) (counted fresh c))))
  value_step c fresh any l t (scalar s) =
      refuse_if (not any) 7
      (refuse_if (no_node fresh c) 10
      (go (ended c.stack (counted fresh c) l.name (leaf (head_by l t.stop) s))))
  value_step c fresh any l t identifier =
      refuse_if (not fresh) 7
      (refuse_if (no_node fresh c) 10
      (go (config c.stack (named any (label l.start l.key (some (span_of t)))) (counted fresh c))))
  value_step c fresh any l t nothing = refuse 7

  -- the first token of a value
  unfoldable pub fresh_value : Config → (any : Bool) (key : Option Span) → Token → Step
  fresh_value c any key t = value_step c true any (label t.start key none) t (begins (span_of t) t.form)

  -- a child of the container f: `key : value` in an object, a value elsewhere
  unfoldable pub child_step : Config → Frame → List Frame → Token → Step
  child_step c f fs t = cond (is_object f.kind) (key_step f fs c.nodes (span_of t) (key_of t.form)) (fresh_value c true none t)

module _ (sw : Switches) (limits : Limits) where
  -- a token in the innermost container (there always is one): "commas between, one trailing comma allowed"
  unfoldable pub slot_step : Config → Token → Slot → List Frame → Step
  slot_step c t slot [] = refuse 7
  slot_step c t first (f ∷ fs) =
      close_or c f fs t (cond (is_comma t.form && empty_by_comma sw f.kind) (go_to c (inside lone)) (child_step limits c f fs t))
  slot_step c t lone (f ∷ fs) = close_or c f fs t (refuse 7)
  slot_step c t after (f ∷ fs) = close_or c f fs t (cond (is_comma t.form) (go_to c (inside more)) (refuse 7))
  slot_step c t more (f ∷ fs) = close_or c f fs t (child_step limits c f fs t)

  -- the table: what each mode does with a token. "7 is at the first token that no taken text could have there"
  unfoldable pub mode_step : Config → Token → Mode → Step
  mode_step c t (value any key) = fresh_value limits c any key t
  mode_step c t (named any l) = cond (is_mark "(" t.form) (go_to c (inner any l)) (refuse 7)
  mode_step c t (inner any l) = value_step limits c false any l t (begins (span_of t) t.form)
  mode_step c t (close tree) = cond (is_mark ")" t.form) (go (finished c.stack c.nodes (with_stop t.stop tree))) (refuse 7)
  mode_step c t (inside slot) = slot_step c t slot c.stack
  mode_step c t (colon key) = cond (is_mark ":" t.form) (go_to c (value true (some key))) (refuse 7)
  mode_step c t (done tree) = refuse 7

  -- what the state's mode does with a token
  unfoldable pub step : Config → Token → Step
  step c t = mode_step c t c.mode

-- ---- all the tokens

-- what a text comes to: a tree, or a refusal and its place
pub data Outcome : Type 0 where
  taken : Tree → Outcome
  refused : (number place : ℕ) → Outcome

-- "or text ends early": 7 at the length
unfoldable pub at_end : (place : ℕ) → Mode → Outcome
at_end place (value any key) = refused 7 place
at_end place (named any l) = refused 7 place
at_end place (inner any l) = refused 7 place
at_end place (close tree) = refused 7 place
at_end place (inside slot) = refused 7 place
at_end place (colon key) = refused 7 place
at_end place (done tree) = taken tree

-- after a token that begins at `place`: the rest of the run, or the refusal there
unfoldable pub after_step : (place : ℕ) → Step → (Config → Outcome) → Outcome
after_step place (go c) rest = rest c
after_step place (refuse number) rest = refused number place

-- the first token that is faulty or refused ends the run: "Among 3 to 10 the smallest place counts, then the smallest number"
unfoldable pub run : Switches → Limits → Tokens → Config → Outcome
run sw limits (L.next t ts) c = after_step t.start (step sw limits c t) (λ d. run sw limits ts d)
run sw limits (L.end place) c = at_end place c.mode
run sw limits (Tokens.fault number place) c = refused number place

-- before the first token of a value that may be of any kind, or of a root: "object, array or tuple, bare or in one identifier"
unfoldable pub before : (any : Bool) → Config
before any = config [] (value any none) 0
