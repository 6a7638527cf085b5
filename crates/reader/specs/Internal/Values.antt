-- What the readers of values have done: the machine's run over the text they have read, and the words they have written.
-- The machine looks at a stack's length and top frame only, so each claim is made for every stack of the given depth.
-- Assumes nothing.
use Rattle.text.specs.declared.refusal.Reason.{Reason}
use Rattle.std.specs.Prelude.{ℕ, suc, ◌+◌, ◌-◌, ◌*◌, ◌≤◌, ◌<◌, ◌≡◌, Bool, true, false, cond, ◌&&◌, List, [], ◌∷◌, ◌++◌, eqb, leb, length, get_or, take, drop, Some, None, Ok, Err}
use Rattle.std.proofs.Math.Option.{Option, none, some}
use Rattle.std.proofs.lemmas.List.Edits.{sets}
use Rattle.text.specs.declared.switches.Switches.{Switches}
use Rattle.text.specs.Refusal.{Refusal, refusal, number_of}
use Rattle.lexer.specs.declared.item.TokenKind.{TokenKind}
use Rattle.literals.specs.InternalContent.{CopiedAs}
use Rattle.lexer.specs.Token.{tokens_from, token_content}
use Rattle.reader.specs.declared.tree.Kind.{Kind}
use Rattle.reader.specs.declared.tree.Kind.TheVariants.{Object}
use Rattle.reader.specs.declared.tree.Limits.{Limits}
use Rattle.reader.specs.declared.tree.Rules.{Rules}
use Rattle.text.specs.declared.span.Span as CS
use Rattle.reader.specs.declared.tree.SpanWords.{SpanWords}
use Rattle.reader.specs.declared.tree.Label as CL
use Rattle.reader.specs.declared.tree.Spot.{Spot}
use Rattle.reader.specs.declared.tree.Due.{Due}
use Rattle.reader.specs.declared.tree.Children.{Children}
use Rattle.reader.specs.declared.tree.Words.{Words}
use Rattle.reader.specs.declared.items.Item.{Item}
use Rattle.reader.specs.declared.items.Item.TheVariants as I
use Rattle.std.specs.declared.option.Option as Rust
use Rattle.reader.specs.declared.values.Progress.{Progress}
use Rattle.std.specs.declared.result.Result.{Result}
use Rattle.reader.specs.Tree.{Span, Tree, branch, Forest, size, head_of, rows, node_words}
use Rattle.reader.specs.Kinds.{number_of_kind, container_kind}
use Rattle.reader.specs.Reading.{max_text, max_nodes, word_of}
use Rattle.reader.specs.Syntax.{Label, label, Frame, frame, Slot, first, after, more, value, inside, Config, config, Begins, begins, span_of, is_object, head_by, ended, value_step, Outcome, refused, after_step, run, holds}
use Rattle.reader.specs.Internal.Tokens.{form_at, token_at, TokenAt}

-- ---- spans, labels and rows, as the code carries them

-- the span that two numbers say: 0, 0 is none
unfoldable pub span_at : (a e : ℕ) → Option Span
span_at a e = cond (eqb e 0) none (some (record { start = a; stop = e }))

-- the label that the code's label says
unfoldable pub label_of : CL.Label → Label
label_of p = label p.start (span_at p.key.start p.key.stop) (span_at p.name.start p.name.stop)

-- no span of a label but 0, 0 ends at 0
pub record SpansApart (p : CL.Label) : Type 0 where
  pub keys : p.key.stop ≡ 0 → p.key.start ≡ 0
  pub names : p.name.stop ≡ 0 → p.name.start ≡ 0

-- a span of a text that is not too long
pub record Short (span : CS.Span) : Type 0 where
  pub start_low : span.start ≤ max_text
  pub stop_low : span.stop ≤ max_text

-- a span as the words of a row
abbrev pub words_of : CS.Span → SpanWords
words_of span = record { start = span.start; stop = span.stop }

-- a value that begins at `start`, with no identifier so far
abbrev pub fresh_due : (any : Bool) (start : ℕ) → CS.Span → Spot → Due
fresh_due any start key spot =
    record { any = any; fresh = true; label = record { start = start; key = words_of key; name = record { start = 0; stop = 0 } }; spot = spot }

-- where a child stands, of the value at this spot
abbrev pub child_spot : Spot → (node : ℕ) → Spot
child_spot spot node = record { node = node; depth = spot.depth + 1; parent = spot.node }

-- the same label with the name of an identifier
abbrev pub named_label : CL.Label → CS.Span → CL.Label
named_label p name = record { start = p.start; key = p.key; name = words_of name }

-- the value in the bracket of an identifier with this name
abbrev pub named_due : Due → CS.Span → Due
named_due due name = record { any = due.any; fresh = false; label = named_label due.label name; spot = due.spot }

-- no children so far, of which the first would be this node
abbrev pub no_children : (node : ℕ) → Children
no_children node = record { first = node; next = node; count = 0 }

-- a row's words
abbrev pub row_words : (kind parent : ℕ) → CL.Label → (stop next low high extra : ℕ) → List ℕ
row_words kind parent p stop next low high extra =
    kind ∷ parent ∷ p.start ∷ stop ∷ p.key.start ∷ p.key.stop ∷ p.name.start ∷ p.name.stop ∷ next ∷ low ∷ high ∷ extra ∷ []

-- the row of a value that was due, with its own words
abbrev pub row_of : Due → Words → (stop next : ℕ) → List ℕ
row_of due w stop next = row_words (number_of_kind w.kind) due.spot.parent due.label stop next w.low w.high w.extra

-- a container's own words
abbrev pub branch_words : Kind → (children : ℕ) → Words
branch_words kind children = record { kind = container_kind kind; low = children; high = 0; extra = 0 }

-- room for the row of a value that was due, and its numbers fit into words
pub record RowRoom (tab : List ℕ) (due : Due) (stop next : ℕ) : Type 0 where
  pub row : node_words * due.spot.node + node_words ≤ length tab
  pub stop_low : stop ≤ max_text
  pub next_low : next ≤ max_nodes

-- ---- runs

-- what the text from `at` on comes to, in the state c
unfoldable pub run_from : Switches → Limits → List ℕ → (at : ℕ) → Config → Outcome
run_from sw limits s at c = run sw limits (tokens_from sw s at) c

-- the nodes so far where the value with the number n begins: its identifier, if it has one, has been counted
abbrev pub nodes_at : (fresh : Bool) → ℕ → ℕ
nodes_at fresh n = cond fresh n (suc n)

-- what the text comes to where a value is due, and the token from `start` to `stop` begins b
unfoldable pub opened : Switches → Limits → List ℕ → (start stop : ℕ) (fresh any : Bool) → Label → (n : ℕ) → Begins → List Frame → Outcome
opened sw limits s start stop fresh any l n b stack =
    after_step start (value_step limits (config stack (value any none) (nodes_at fresh n)) fresh any l (token_at sw s start stop) b)
    (λ c. run_from sw limits s stop c)

-- the token from `start` to `stop` where a value with this key is due
abbrev pub opened_here : Switches → Limits → List ℕ → (start stop : ℕ) (any : Bool) → Option Span → (n : ℕ) → List Frame → Outcome
opened_here sw limits s start stop any key n =
    opened sw limits s start stop true any (label start key none) n (begins (span_of (token_at sw s start stop)) (form_at sw s start))

-- ---- keys in the table

-- bytes of a text
abbrev pub bytes_at : List ℕ → (a e : ℕ) → List ℕ
bytes_at s a e = take (e - a) (drop a s)

-- a key stands from a to e, with the content w
pub record KeyAt (sw : Switches) (s : List ℕ) (a e : ℕ) (w : List ℕ) : Type 0 where
  pub ordered : a < e
  pub inside : e ≤ length s
  pub holds : token_content sw (bytes_at s a e) ≡ some w

-- the row of node x, before m, says a key with the content w
pub record Link (sw : Switches) (s tab : List ℕ) (x m : ℕ) (w : List ℕ) : Type 0 where
  pub row : node_words * x + node_words ≤ length tab
  pub later : x < word_of tab x 8
  pub below : word_of tab x 8 ≤ m
  pub key : KeyAt sw s (word_of tab x 4) (word_of tab x 5) w

-- the nodes from x to m, side by side, have keys with these contents
abbrev pub SiblingKeys : Switches → List ℕ → List ℕ → ℕ → ℕ → List (List ℕ) → Type 0
SiblingKeys sw s tab x m [] = x ≡ m
SiblingKeys sw s tab x m (w ∷ ks) = Link sw s tab x m w × SiblingKeys sw s tab (word_of tab x 8) m ks

-- the nodes from x to m, side by side, have keys
pub record HaveKeys (sw : Switches) (s tab : List ℕ) (x m : ℕ) : Type 0 where
  pub keys : List (List ℕ)
  pub siblings : SiblingKeys sw s tab x m keys

-- some key stands from a to e
pub record KeyHere (sw : Switches) (s : List ℕ) (a e : ℕ) : Type 0 where
  pub content : List ℕ
  pub key : KeyAt sw s a e content

-- where the content of the key from a to e ends, which was written from `at` on; or that it has no room
pub record KeyCopied (sw : Switches) (s : List ℕ) (a e at : ℕ) (out : List ℕ) (r : Rust.Option ℕ) : Type 0 where
  pub is : (w : List ℕ) → KeyAt sw s a e w → CopiedAs w at out r

-- whether the key from a to e is among those of the nodes from x to m
pub record FoundKey (sw : Switches) (s tab : List ℕ) (x m a e : ℕ) (r : Bool) : Type 0 where
  pub is : (w : List ℕ) → KeyAt sw s a e w → (ks : List (List ℕ)) → SiblingKeys sw s tab x m ks → r ≡ holds ks w

-- ---- duplicate keys: they are looked for where a container ends or is refused, and not at each key

-- The place of the first key that stands among those before it. The nodes from x on, side by side, have keys with the contents ks, and
-- `seen` come before them.
unfoldable pub duplicate : (tab : List ℕ) (x : ℕ) (seen ks : List (List ℕ)) → Option ℕ
duplicate tab x seen [] = none
duplicate tab x seen (w ∷ ks) = cond (holds seen w) (some (word_of tab x 4)) (duplicate tab (word_of tab x 8) (seen ++ (w ∷ [])) ks)

-- the same of a container's children, of which an object's have keys
unfoldable pub duplicate_in : Kind → (tab : List ℕ) (x : ℕ) (ks : List (List ℕ)) → Option ℕ
duplicate_in kind tab x ks = cond (is_object kind) (duplicate tab x [] ks) none

-- a child's key, which begins at a and has the content w, if it is among ks
unfoldable pub key_duplicate : Kind → (a : ℕ) (ks : List (List ℕ)) (w : List ℕ) → Option ℕ
key_duplicate kind a ks w = cond (is_object kind && holds ks w) (some a) none

-- 8 at that place, if there is one, comes before what else comes
unfoldable pub unless_duplicate : Option ℕ → Outcome → Outcome
unless_duplicate none o = o
unless_duplicate (some place) o = refused 8 place

-- what the code found
unfoldable pub place_of : Rust.Option ℕ → Option ℕ
place_of (Some place) = some place
place_of None = none

-- the first duplicate key of the nodes from x to m
pub record DuplicateAt (sw : Switches) (s tab : List ℕ) (x m : ℕ) (r : Rust.Option ℕ) : Type 0 where
  pub is : (ks : List (List ℕ)) → SiblingKeys sw s tab x m ks → place_of r ≡ duplicate tab x [] ks

-- the refusal f comes after the key from a to e, unless this key is among those of the nodes from x to m
pub record KeyRefused (sw : Switches) (s tab : List ℕ) (x m a e : ℕ) (f r : Refusal) : Type 0 where
  pub is : (w : List ℕ) → KeyAt sw s a e w → (ks : List (List ℕ)) → SiblingKeys sw s tab x m ks
      → refused r.number r.place ≡ unless_duplicate (key_duplicate Object a ks w) (refused f.number f.place)

-- ---- the items of a container

-- where a container with so many children stands, if a child or the end is due
abbrev pub slot_of : (children : ℕ) → Slot
slot_of z = cond (eqb z 0) first more

-- the same before the comma after the last child, if there is one
abbrev pub turn_of : (children : ℕ) → Slot
turn_of z = cond (eqb z 0) first after

-- inside a container of this kind
abbrev pub inner_at : Kind → Label → Forest → List (List ℕ) → List Frame → (m : ℕ) → Slot → Config
inner_at kind l ts ks stack m slot = config (frame kind l ts ks ∷ stack) (inside slot) m

-- a child's first token comes, with its key from a to b
pub record Valued (sw : Switches) (s : List ℕ) (kind : Kind) (i : ℕ) (slot : Slot) (k : TokenKind) (start stop a b : ℕ) : Type 0 where
  pub token : TokenAt sw s k start stop
  pub ahead : i ≤ start
  pub apart : b ≡ 0 → a ≡ 0
  pub short : (a ≤ max_text) × (b ≤ max_text)
  pub content : List ℕ
  pub key : is_object kind ≡ true → KeyAt sw s a b content
  pub keys : List (List ℕ) → List (List ℕ)
  pub added : is_object kind ≡ true → (ks : List (List ℕ)) → keys ks ≡ ks ++ (content ∷ [])
  pub ran : (limits : Limits) (l : Label) (ts : Forest) (ks : List (List ℕ)) (stack : List Frame) (m : ℕ)
      → run_from sw limits s i (inner_at kind l ts ks stack m slot)
      ≡ unless_duplicate (key_duplicate kind a ks content) (opened_here sw limits s start stop true (span_at a b) m (frame kind l ts (keys ks) ∷ stack))

-- the end comes
pub record Ends (sw : Switches) (s : List ℕ) (kind : Kind) (i : ℕ) (slot : Slot) (j : ℕ) : Type 0 where
  pub ahead : i < j
  pub inside : j ≤ length s
  pub ran : (limits : Limits) (l : Label) (ts : Forest) (ks : List (List ℕ)) (stack : List Frame) (m : ℕ)
      → run_from sw limits s i (inner_at kind l ts ks stack m slot) ≡ run_from sw limits s j (ended stack m l.name (branch (head_by l j) kind ts))

-- a refusal comes
pub record Refuses (sw : Switches) (s : List ℕ) (kind : Kind) (i : ℕ) (slot : Slot) (number place : ℕ) : Type 0 where
  pub ran : (limits : Limits) (l : Label) (ts : Forest) (ks : List (List ℕ)) (stack : List Frame) (m : ℕ)
      → run_from sw limits s i (inner_at kind l ts ks stack m slot) ≡ refused number place

-- a refusal comes after the key from a to b, unless this key is a duplicate
pub record RefusesAfter (sw : Switches) (s : List ℕ) (kind : Kind) (i : ℕ) (slot : Slot) (number place a b : ℕ) : Type 0 where
  pub content : List ℕ
  pub key : KeyAt sw s a b content
  pub ran : (limits : Limits) (l : Label) (ts : Forest) (ks : List (List ℕ)) (stack : List Frame) (m : ℕ)
      → run_from sw limits s i (inner_at kind l ts ks stack m slot) ≡ unless_duplicate (key_duplicate kind a ks content) (refused number place)

-- `Valued`, `Ends`, `Refuses` or `RefusesAfter`, by the code's answer
abbrev pub ItemIs : Switches → List ℕ → Kind → (i : ℕ) → Slot → Item → Type 0
ItemIs sw s kind i slot (I.Value t key) = Valued sw s kind i slot t.kind t.span.start t.span.stop key.start key.stop
ItemIs sw s kind i slot (I.Last j) = Ends sw s kind i slot j
ItemIs sw s kind i slot (I.Refused f) = Refuses sw s kind i slot (number_of f.reason) f.place
ItemIs sw s kind i slot (I.RefusedAfter key f) = RefusesAfter sw s kind i slot (number_of f.reason) f.place key.start key.stop

-- the same as a record, where a child or the end is due, of a container with z children
pub record ItemAt (sw : Switches) (s : List ℕ) (kind : Kind) (z i : ℕ) (r : Item) : Type 0 where
  pub is : ItemIs sw s kind i (slot_of z) r

-- the same in an object, where it does not matter how many children there are
pub record FieldAt (sw : Switches) (s : List ℕ) (i : ℕ) (r : Item) : Type 0 where
  pub is : (z : ℕ) → ItemIs sw s Object i (slot_of z) r

-- the same after the last child, if there is one
pub record ChildAt (sw : Switches) (s : List ℕ) (kind : Kind) (z i : ℕ) (r : Item) : Type 0 where
  pub is : ItemIs sw s kind i (turn_of z) r

-- ---- values

-- room for the nodes up to the limit
pub record Roomy (limits : Limits) (tab : List ℕ) : Type 0 where
  pub room : node_words * limits.nodes ≤ length tab
  pub small : limits.nodes ≤ max_nodes

-- what a reader of a value is handed: the table has room, for the value's own node too if it has been counted
pub record Ready (limits : Limits) (tab : List ℕ) (due : Due) : Type 0 where
  pub table : Roomy limits tab
  pub counted : due.fresh ≡ false → due.spot.node < limits.nodes
  pub below : due.spot.node ≤ limits.nodes
  pub label : SpansApart due.label
  pub unnamed : due.fresh ≡ true → due.label.name.stop ≡ 0

-- a token's place in a text that is not too long
pub record Placed (s : List ℕ) (span : CS.Span) : Type 0 where
  pub ordered : span.start < span.stop
  pub inside : span.stop ≤ length s
  pub short : length s ≤ max_text

-- a value that is due has no node left
abbrev pub is_full : Limits → Due → Bool
is_full limits due = due.fresh && leb limits.nodes due.spot.node

-- the number by which a container that is due is refused where it opens, or 0
abbrev pub opening_refusal : Limits → Due → ℕ
opening_refusal limits due = cond (leb limits.depth due.spot.depth) 9 (cond (is_full limits due) 10 0)

-- the number of a reason, or 0
abbrev pub number_or_0 : Rust.Option Reason → ℕ
number_or_0 None = 0
number_or_0 (Some r) = number_of r

-- a value that holds no others, by its token: 7 where a container is due, 10
unfoldable pub leaf_progress : Limits → Due → CS.Span → Result Progress Refusal
leaf_progress limits due span =
    cond due.any (cond (is_full limits due) (Err (refusal 10 span.start)) (Ok (record { stop = span.stop; next = (due.spot.node + 1) })))
    (Err (refusal 7 span.start))

-- the table then
unfoldable pub leaf_table : Limits → Due → CS.Span → Words → List ℕ → List ℕ
leaf_table limits due span w tab =
    cond due.any (cond (is_full limits due) tab (sets tab (node_words * due.spot.node) (row_of due w span.stop (due.spot.node + 1)))) tab

-- a value with the label l was read up to j, and its identifier's bracket is still due if it has one
pub record ValueRead (sw : Switches) (limits : Limits) (s : List ℕ) (ω : List Frame → Outcome) (l : Label) (o d parent n : ℕ) (tin tout : List ℕ) (j m : ℕ) : Type 0 where
  pub tree : Tree
  pub keyed : (head_of tree).key ≡ l.key
  pub begun : (head_of tree).value.start ≡ l.start
  pub stopped : (head_of tree).value.stop ≡ j
  pub grew : m ≡ n + size tree
  pub below : m ≤ limits.nodes
  pub ahead : o < j
  pub inside : j ≤ length s
  pub wrote : tout ≡ sets tin (node_words * n) (rows parent n tree)
  pub ran : (stack : List Frame) → length stack ≡ d → ω stack ≡ run_from sw limits s j (ended stack m l.name tree)

-- the machine refuses, and the words of the nodes before n are as they were
pub record ValueRefused (ω : List Frame → Outcome) (d n : ℕ) (tin tout : List ℕ) (number place : ℕ) : Type 0 where
  pub ran : (stack : List Frame) → length stack ≡ d → ω stack ≡ refused number place
  pub kept : (i : ℕ) → i < node_words * n → get_or tout i 0 ≡ get_or tin i 0

-- `ValueRead` or `ValueRefused`, by the code's answer
abbrev pub ProgressIs : Switches → Limits → List ℕ → (List Frame → Outcome) → Label → (o d parent n : ℕ) (tin tout : List ℕ) → Result Progress Refusal → Type 0
ProgressIs sw limits s ω l o d parent n tin tout (Ok p) = ValueRead sw limits s ω l o d parent n tin tout p.stop p.next
ProgressIs sw limits s ω l o d parent n tin tout (Err f) = ValueRefused ω d n tin tout f.number f.place

-- what the text comes to where a value is due, and its token begins b
abbrev pub opened_by : Rules → List ℕ → Due → CS.Span → Begins → List Frame → Outcome
opened_by rules s due span b = opened rules.sw rules.limits s span.start span.stop due.fresh due.any (label_of due.label) due.spot.node b

-- the value that is due was read, or refused, from a token that begins b
pub record ReadAs (rules : Rules) (s : List ℕ) (due : Due) (span : CS.Span) (b : Begins) (tin tout : List ℕ) (r : Result Progress Refusal) : Type 0 where
  pub is : ProgressIs rules.sw rules.limits s (opened_by rules s due span b) (label_of due.label) span.start due.spot.depth due.spot.parent due.spot.node tin tout r

-- ---- what comes late: a duplicate key is refused before all that stands after it

-- the children so far, as the code knows them: in an object, their rows in the table from x to m
pub record KnownKeys (sw : Switches) (s : List ℕ) (kind : Kind) (tab : List ℕ) (x m : ℕ) (ks : List (List ℕ)) : Type 0 where
  pub siblings : is_object kind ≡ true → SiblingKeys sw s tab x m ks

-- what a search for a container's duplicate keys is handed; no child is the root
pub record Keys (sw : Switches) (s : List ℕ) (kind : Kind) (tab : List ℕ) (c : Children) : Type 0 where
  pub siblings : is_object kind ≡ true → HaveKeys sw s tab c.first c.next
  pub not_root : 0 < c.first
  pub few : c.next ≤ max_nodes

-- a child's key, if it has one
pub record KeyIn (sw : Switches) (s : List ℕ) (kind : Kind) (key : CS.Span) : Type 0 where
  pub here : is_object kind ≡ true → KeyHere sw s key.start key.stop

-- the first duplicate key of a container's children
pub record FirstDuplicate (sw : Switches) (s : List ℕ) (kind : Kind) (tab : List ℕ) (c : Children) (r : Rust.Option ℕ) : Type 0 where
  pub is : (ks : List (List ℕ)) → KnownKeys sw s kind tab c.first c.next ks → place_of r ≡ duplicate_in kind tab c.first ks

-- the refusal f comes, unless a key of the children before it is a duplicate
pub record RefusedLate (sw : Switches) (s : List ℕ) (kind : Kind) (tab : List ℕ) (c : Children) (f r : Refusal) : Type 0 where
  pub is : (ks : List (List ℕ)) → KnownKeys sw s kind tab c.first c.next ks
      → refused r.number r.place ≡ unless_duplicate (duplicate_in kind tab c.first ks) (refused f.number f.place)

-- the same after this key, or in its value; the key may itself be a duplicate
pub record RefusedLateAfter (sw : Switches) (s : List ℕ) (kind : Kind) (tab : List ℕ) (c : Children) (key : CS.Span) (f r : Refusal) : Type 0 where
  pub is : (ks : List (List ℕ)) → KnownKeys sw s kind tab c.first c.next ks → (w : List ℕ) → (is_object kind ≡ true → KeyAt sw s key.start key.stop w)
      → refused r.number r.place
      ≡ unless_duplicate (duplicate_in kind tab c.first ks) (unless_duplicate (key_duplicate kind key.start ks w) (refused f.number f.place))

-- where a container ends: 8 at a duplicate key, if one was found
unfoldable pub branch_progress : Rust.Option ℕ → (stop next : ℕ) → Result Progress Refusal
branch_progress (Some place) stop next = Err (refusal 8 place)
branch_progress None stop next = Ok (record { stop = stop; next = next })

-- the table then: the container's row, if none was found
unfoldable pub branch_table : Rust.Option ℕ → Due → Kind → Children → (stop : ℕ) → List ℕ → List ℕ
branch_table (Some place) due kind c stop tab = tab
branch_table None due kind c stop tab = sets tab (node_words * due.spot.node) (row_of due (branch_words kind c.count) stop c.next)

-- a container with these children has ended
pub record BranchEnded (sw : Switches) (s : List ℕ) (due : Due) (kind : Kind) (c : Children) (stop : ℕ) (tin tout : List ℕ) (r : Result Progress Refusal) : Type 0 where
  pub found : Rust.Option ℕ
  pub first_found : FirstDuplicate sw s kind tin c found
  pub answered : r ≡ branch_progress found stop c.next
  pub wrote : tout ≡ branch_table found due kind c stop tin
