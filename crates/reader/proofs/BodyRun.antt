-- A container while it is read: what its loop keeps, and each way on and out.
-- Assumes nothing.
use Rattle.text.specs.declared.refusal.Refusal as Code
use Rattle.std.specs.Prelude.{Some, None, Ok, Err}
use mathlib.Core.Path.{◌≡◌, refl, ap, sym, subst, ◌∙◌}
use mathlib.Core.List.{List, [], ◌∷◌, ◌++◌}
use mathlib.Core.Option.{Option, none}
use mathlib.Core.Bool.{Bool, true, false, cond, ◌&&◌, true≢false}
use Prim.Native.Nat.{ℕ, suc, ◌+◌, ◌*◌, ◌<◌, ◌≤◌}
use native.Mathlib.Numerals.{add-one}
use native.Mathlib.Omega.{arith}
use lib.Dec.{leb}
use lib.ListN.{length, get_or}
use lib.Seq.{sets}
use borrow.Author.Tests.{ne_eqb, le-leb, lt-leb, leb-true, leb-false}
use Rattle.text.specs.declared.switches.Switches.{Switches}
use Rattle.lexer.specs.declared.item.TokenKind.{TokenKind}
use Rattle.reader.specs.declared.tree.Kind.{Kind}
use Rattle.reader.specs.declared.tree.Limits.{Limits}
use Rattle.text.specs.Refusal.{Refusal, refusal, number_of}
use Rattle.reader.specs.declared.tree.Rules.{Rules}
use Rattle.reader.specs.declared.tree.Children.{Children}
use Rattle.reader.specs.declared.tree.Due.{Due}
use Rattle.reader.specs.declared.tree.Spot.{Spot}
use Rattle.text.specs.declared.span.Span as CS
use Rattle.lexer.specs.declared.item.Token as CT
use Rattle.reader.specs.declared.items.Item.{Item}
use Rattle.reader.specs.declared.items.Item.TheVariants as I
use Rattle.std.specs.declared.option.Option as Rust
use Rattle.reader.specs.declared.values.Progress.{Progress}
use Rattle.std.specs.declared.result.Result.{Result}
use Rattle.reader.specs.Tree.{branch, Forest, nil, snoc, count, size, sizes, head_of, rows, rows_all, node_words}
use Rattle.reader.specs.Reading.{max_nodes}
use Rattle.reader.specs.Syntax.{Label, label, Frame, frame, Slot, after, Mode, value, Config, config, refuse_if, Begins, container, is_object, head_by, ended, finished, no_node, counted, value_step, Outcome, refused, after_step}
use Rattle.reader.specs.Internal.Tokens.{begins_at}
use Rattle.reader.specs.Internal.Values.{span_at, label_of, SpansApart, fresh_due, no_children, run_from, nodes_at, opened, opened_here, KeyAt, SiblingKeys, duplicate_in, key_duplicate, unless_duplicate, place_of, turn_of, inner_at, KnownKeys, Valued, Ends, Refuses, RefusesAfter, ItemIs, ChildAt, Ready, Placed, Roomy, is_full, opening_refusal, ValueRead, ValueRefused, ProgressIs, opened_by, ReadAs, Keys, FirstDuplicate, RefusedLate, RefusedLateAfter, branch_progress, branch_table, BranchEnded}
use Rattle.reader.proofs.SizeLaws.{sizes_snoc, count_snoc}
use Rattle.text.proofs.ListLaws.{get_d_before_sets}
use Rattle.reader.proofs.KeyWalk.{siblings_more}
use Rattle.reader.proofs.DuplicateLaws.{unless_sooner, duplicate_in_more, duplicate_in_none, siblings_kept, duplicate_in_kept}
use Rattle.reader.proofs.RowLaws.{rows_child, rows_branch, size_pos, row_says}

pub record Body (sw : Switches) (limits : Limits) (s : List ℕ) (kind : Kind) (l : Label) (ω : List Frame → Outcome) (o d n : ℕ) (tin : List ℕ) (ts : Forest) (ks : List (List ℕ)) (τ : List Frame → Config) (i m z : ℕ) (tab : List ℕ) : Type 0 where
  pub counted : z ≡ count ts
  pub grew : m ≡ n + 1 + sizes ts
  pub few : z < m
  pub below : m ≤ limits.nodes
  pub ahead : o < i
  pub inside : i ≤ length s
  pub room : node_words * limits.nodes ≤ length tin
  pub long : length tab ≡ length tin
  pub wrote : tab ≡ sets tin (node_words * (n + 1)) (rows_all n (n + 1) ts)
  pub siblings : is_object kind ≡ true → SiblingKeys sw s tab (n + 1) m ks
  pub ran : (stack : List Frame) → length stack ≡ d → ω stack ≡ unless_duplicate (duplicate_in kind tab (n + 1) ks) (run_from sw limits s i (τ stack))

abbrev pub Within : (sw : Switches) (limits : Limits) (s : List ℕ) (kind : Kind) (l : Label) (ω : List Frame → Outcome) (o d n : ℕ) (tin : List ℕ) (ts : Forest) (ks : List (List ℕ)) (i m z : ℕ) (tab : List ℕ) → Type 0
Within sw limits s kind l ω o d n tin ts ks i m z tab = Body sw limits s kind l ω o d n tin ts ks (λ stack. inner_at kind l ts ks stack m (turn_of z)) i m z tab

-- ---- answers by their cases

module _ {rules : Rules} {s : List ℕ} {due : Due} {p : CS.Span} {b : Begins} {tin tout : List ℕ} {r : Result Progress Refusal} where
  pub read_is : {j m : ℕ} → r ≡ Ok (record { stop = j; next = m }) → ReadAs rules s due p b tin tout r
      → ValueRead rules.sw rules.limits s (opened_by rules s due p b) (label_of due.label) p.start due.spot.depth due.spot.parent due.spot.node tin tout j m
  read_is e h = subst (ProgressIs rules.sw rules.limits s (opened_by rules s due p b) (label_of due.label) p.start due.spot.depth due.spot.parent due.spot.node tin tout) e h.is

  pub value_refused : {f : Refusal} → r ≡ Err f → ReadAs rules s due p b tin tout r → ValueRefused (opened_by rules s due p b) due.spot.depth due.spot.node tin tout f.number f.place
  value_refused e h = subst (ProgressIs rules.sw rules.limits s (opened_by rules s due p b) (label_of due.label) p.start due.spot.depth due.spot.parent due.spot.node tin tout) e h.is

  -- the value that is due, or its token's beginning, by another name
  pub due_as : {other : Due} → due ≡ other → ReadAs rules s due p b tin tout r → ReadAs rules s other p b tin tout r
  due_as e h = subst (λ (d : Due). ReadAs rules s d p b tin tout r) e h

  pub begins_as : {other : Begins} → other ≡ b → ReadAs rules s due p b tin tout r → ReadAs rules s due p other tin tout r
  begins_as e h = subst (λ (x : Begins). ReadAs rules s due p x tin tout r) (sym e) h

module _ {sw : Switches} {s : List ℕ} {kind : Kind} {z i : ℕ} {r : Item} where
  pub value_is : {t : CT.Token} {key : CS.Span} → r ≡ I.Value t key → ChildAt sw s kind z i r → Valued sw s kind i (turn_of z) t.kind t.span.start t.span.stop key.start key.stop
  value_is e h = subst (ItemIs sw s kind i (turn_of z)) e h.is

  pub last_is : {j : ℕ} → r ≡ I.Last j → ChildAt sw s kind z i r → Ends sw s kind i (turn_of z) j
  last_is e h = subst (ItemIs sw s kind i (turn_of z)) e h.is

  pub item_refused : {f : Code.Refusal} → r ≡ I.Refused f → ChildAt sw s kind z i r → Refuses sw s kind i (turn_of z) (number_of f.reason) f.place
  item_refused e h = subst (ItemIs sw s kind i (turn_of z)) e h.is

  pub item_refused_after : {key : CS.Span} {f : Code.Refusal} → r ≡ I.RefusedAfter key f → ChildAt sw s kind z i r → RefusesAfter sw s kind i (turn_of z) (number_of f.reason) f.place key.start key.stop
  item_refused_after e h = subst (ItemIs sw s kind i (turn_of z)) e h.is

-- ---- a value that is due afresh

module _ {rules : Rules} {s : List ℕ} {any : Bool} {key : CS.Span} {spot : Spot} {due : Due} {p : CS.Span} {tin tout : List ℕ} {r : Result Progress Refusal} where
  pub fresh_read : {j m : ℕ} → due ≡ fresh_due any p.start key spot → r ≡ Ok (record { stop = j; next = m }) → ReadAs rules s due p (begins_at rules.sw s p) tin tout r
      → ValueRead rules.sw rules.limits s (opened_here rules.sw rules.limits s p.start p.stop any (span_at key.start key.stop) spot.node) (label p.start (span_at key.start key.stop) none) p.start spot.depth spot.parent spot.node tin tout j m
  unfolding label_of span_at
  fresh_read e q h = read_is q (due_as {other = fresh_due any p.start key spot} e h)

  pub fresh_refused : {f : Refusal} → due ≡ fresh_due any p.start key spot → r ≡ Err f → ReadAs rules s due p (begins_at rules.sw s p) tin tout r
      → ValueRefused (opened_here rules.sw rules.limits s p.start p.stop any (span_at key.start key.stop) spot.node) spot.depth spot.node tin tout f.number f.place
  unfolding label_of span_at
  fresh_refused e q h = value_refused q (due_as {other = fresh_due any p.start key spot} e h)

pub fresh_ready : {limits : Limits} {tab : List ℕ} {any : Bool} {start : ℕ} {key : CS.Span} {spot : Spot} {due : Due} → due ≡ fresh_due any start key spot
    → Roomy limits tab → spot.node ≤ limits.nodes → (key.stop ≡ 0 → key.start ≡ 0) → Ready limits tab due
fresh_ready {limits} {tab} e w b ok =
    subst (Ready limits tab) (sym e)
    (record {
      table = w;
      counted = λ q. absurd (true≢false q);
      below = b;
      label = record { keys = ok; names = λ _. refl };
      unnamed = λ _. refl;
    })

-- ---- what comes late, by the first child's node

module _ {sw : Switches} {s : List ℕ} {kind : Kind} {tab : List ℕ} {c : Children} {x : ℕ} (e : c.first ≡ x) where
  first_from : {r : Rust.Option ℕ} → FirstDuplicate sw s kind tab c r → (ks : List (List ℕ)) → KnownKeys sw s kind tab x c.next ks → place_of r ≡ duplicate_in kind tab x ks
  first_from {r} F ks = subst (λ (y : ℕ). KnownKeys sw s kind tab y c.next ks → place_of r ≡ duplicate_in kind tab y ks) e (F.is ks)

  late_from : {f r : Refusal} → RefusedLate sw s kind tab c f r → (ks : List (List ℕ)) → KnownKeys sw s kind tab x c.next ks
      → refused r.number r.place ≡ unless_duplicate (duplicate_in kind tab x ks) (refused f.number f.place)
  late_from {f} {r} L ks =
      subst (λ (y : ℕ). KnownKeys sw s kind tab y c.next ks → refused r.number r.place ≡ unless_duplicate (duplicate_in kind tab y ks) (refused f.number f.place)) e (L.is ks)

  late_after_from : {key : CS.Span} {f r : Refusal} → RefusedLateAfter sw s kind tab c key f r → (ks : List (List ℕ)) → KnownKeys sw s kind tab x c.next ks
      → (w : List ℕ) → (is_object kind ≡ true → KeyAt sw s key.start key.stop w)
      → refused r.number r.place ≡ unless_duplicate (duplicate_in kind tab x ks) (unless_duplicate (key_duplicate kind key.start ks w) (refused f.number f.place))
  late_after_from {key} {f} {r} L ks =
      subst (λ (y : ℕ). KnownKeys sw s kind tab y c.next ks → (w : List ℕ) → (is_object kind ≡ true → KeyAt sw s key.start key.stop w) → refused r.number r.place ≡ unless_duplicate (duplicate_in kind tab y ks) (unless_duplicate (key_duplicate kind key.start ks w) (refused f.number f.place))) e (L.is ks)

-- ---- the loop

turn_after : (z : ℕ) → after ≡ turn_of (z + 1)
turn_after z = let n : z + 1 ≡ 0 → ⊥ = λ q. omega arith in rw (ne_eqb (z + 1) 0 n)

module _ {sw : Switches} {limits : Limits} {s : List ℕ} {kind : Kind} {l : Label} {ω : List Frame → Outcome} {o d n : ℕ} {tin : List ℕ} where
  known : {ts : Forest} {ks : List (List ℕ)} {τ : List Frame → Config} {i m z : ℕ} {tab : List ℕ} → Body sw limits s kind l ω o d n tin ts ks τ i m z tab → KnownKeys sw s kind tab (n + 1) m ks
  known B = record { siblings = B.siblings }

  -- the children's rows are behind the container's own
  body_kept : {ts : Forest} {ks : List (List ℕ)} {τ : List Frame → Config} {i m z : ℕ} {tab : List ℕ} → Body sw limits s kind l ω o d n tin ts ks τ i m z tab
      → (x : ℕ) → x < node_words * n → get_or tab x 0 ≡ get_or tin x 0
  body_kept {ts} B x h =
      ap (λ (u : List ℕ). get_or u x 0) B.wrote ∙ get_d_before_sets (rows_all n (n + 1) ts) tin x (node_words * (n + 1)) (omega arith)

  -- a child was read
  pub body_value : {ts : Forest} {ks : List (List ℕ)} {i m z : ℕ} {tab : List ℕ} {k : TokenKind} {start stop a b : ℕ} {out : List ℕ} {j e : ℕ}
      → Within sw limits s kind l ω o d n tin ts ks i m z tab → (I : Valued sw s kind i (turn_of z) k start stop a b)
      → (T : ValueRead sw limits s (opened_here sw limits s start stop true (span_at a b) m) (label start (span_at a b) none) start (d + 1) n m tab out j e) → length out ≡ length tab
      → Within sw limits s kind l ω o d n tin (snoc ts T.tree) (I.keys ks) j e (z + 1) out
  unfolding ended finished
  body_value {ts} {ks} {i} {m} {z} {tab} {k} {start} {stop} {a} {b} {out} {j} {e} B I T L =
      let c = count_snoc ts T.tree in
      let q = sizes_snoc ts T.tree in
      let p = size_pos T.tree in
      let g = T.grew in
      let y = T.below in
      let r = B.room in
      record {
        counted = omega (arith, B.counted);
        grew = omega (arith, B.grew);
        few = omega (arith, B.few);
        below = y;
        ahead = omega (arith, B.ahead, I.ahead, T.ahead);
        inside = T.inside;
        room = r;
        long = L ∙ B.long;
        wrote = rows_child tin tab out n m ts T.tree B.grew B.wrote T.wrote;
        siblings =
            λ h.
            subst (λ (js : List (List ℕ)). SiblingKeys sw s out (n + 1) e js) (sym (I.added h ks))
            (subst (λ (x : ℕ). SiblingKeys sw s out (n + 1) x (ks ++ (I.content ∷ []))) (sym g)
            (siblings_more sw s tab out m (m + size T.tree) a b I.content
            (λ x lt. ap (λ (u : List ℕ). get_or u x 0) T.wrote ∙ get_d_before_sets (rows n m T.tree) tab x (node_words * m) lt)
            L
            (row_says tab out n m a b T.tree T.keyed I.apart (omega (arith, B.long)) T.wrote)
            (omega (arith, B.long)) (omega arith) (I.key h) (n + 1) ks (B.siblings h)));
        ran =
            λ stack h.
            let u : suc (length stack) ≡ d + 1 = omega arith in
            B.ran stack h
            ∙ ap (unless_duplicate (duplicate_in kind tab (n + 1) ks)) (I.ran limits l ts ks stack m ∙ ap (unless_duplicate (key_duplicate kind a ks I.content)) (T.ran (frame kind l ts (I.keys ks) ∷ stack) u))
            ∙ sym (unless_sooner (duplicate_in kind tab (n + 1) ks) (key_duplicate kind a ks I.content) (run_from sw limits s j (inner_at kind l (snoc ts T.tree) (I.keys ks) stack e after)))
            ∙ ap (λ (q : Option ℕ). unless_duplicate q (run_from sw limits s j (inner_at kind l (snoc ts T.tree) (I.keys ks) stack e after)))
            (sym (duplicate_in_more sw s tab out m (m + size T.tree) a b I.content
            (λ x lt. ap (λ (v : List ℕ). get_or v x 0) T.wrote ∙ get_d_before_sets (rows n m T.tree) tab x (node_words * m) lt)
            (row_says tab out n m a b T.tree T.keyed I.apart (omega (arith, B.long)) T.wrote)
            kind (n + 1) ks (I.keys ks) B.siblings (λ q. I.added q ks)))
            ∙ ap (λ (x : Slot). unless_duplicate (duplicate_in kind out (n + 1) (I.keys ks)) (run_from sw limits s j (inner_at kind l (snoc ts T.tree) (I.keys ks) stack e x))) (turn_after z);
      }

  -- the container's end
  pub body_last : {ts : Forest} {ks : List (List ℕ)} {i m z : ℕ} {tab : List ℕ} {j : ℕ}
      → Within sw limits s kind l ω o d n tin ts ks i m z tab → Ends sw s kind i (turn_of z) j
      → Body sw limits s kind l ω o d n tin ts ks (λ stack. ended stack m l.name (branch (head_by l j) kind ts)) j m z tab
  body_last {ts} {ks} {i} {m} {z} {tab} {j} B I =
      record {
        counted = B.counted;
        grew = B.grew;
        few = B.few;
        below = B.below;
        ahead = omega (arith, B.ahead, I.ahead);
        inside = I.inside;
        room = B.room;
        long = B.long;
        wrote = B.wrote;
        siblings = B.siblings;
        ran = λ stack h. B.ran stack h ∙ ap (unless_duplicate (duplicate_in kind tab (n + 1) ks)) (I.ran limits l ts ks stack m);
      }

  -- what a search for its duplicate keys is handed
  pub body_keys : {ts : Forest} {ks : List (List ℕ)} {τ : List Frame → Config} {i z : ℕ} {tab : List ℕ} {c : Children} → c.first ≡ n + 1 → limits.nodes ≤ max_nodes
      → Body sw limits s kind l ω o d n tin ts ks τ i c.next z tab → Keys sw s kind tab c
  body_keys {ts} {ks} {τ} {i} {z} {tab} {c} e h B =
      record {
        siblings = λ q. record { keys = ks; siblings = subst (λ (x : ℕ). SiblingKeys sw s tab x c.next ks) (sym e) (B.siblings q) };
        not_root = omega arith;
        few = omega (arith, B.below);
      }

  pub body_item_refused : {ts : Forest} {ks : List (List ℕ)} {i : ℕ} {tab : List ℕ} {c : Children} {f r : Refusal} → c.first ≡ n + 1
      → Within sw limits s kind l ω o d n tin ts ks i c.next c.count tab → Refuses sw s kind i (turn_of c.count) f.number f.place → RefusedLate sw s kind tab c f r
      → ValueRefused ω d n tin tab r.number r.place
  body_item_refused {ts} {ks} {i} {tab} {c} e B I L =
      record {
        ran = λ stack h. B.ran stack h ∙ ap (unless_duplicate (duplicate_in kind tab (n + 1) ks)) (I.ran limits l ts ks stack c.next) ∙ sym (late_from e L ks (known B));
        kept = body_kept B;
      }

  pub body_field_refused : {ts : Forest} {ks : List (List ℕ)} {i : ℕ} {tab : List ℕ} {c : Children} {key : CS.Span} {f r : Refusal} → c.first ≡ n + 1
      → Within sw limits s kind l ω o d n tin ts ks i c.next c.count tab → RefusesAfter sw s kind i (turn_of c.count) f.number f.place key.start key.stop
      → RefusedLateAfter sw s kind tab c key f r → ValueRefused ω d n tin tab r.number r.place
  body_field_refused {ts} {ks} {i} {tab} {c} e B I L =
      record {
        ran =
            λ stack h.
            B.ran stack h
            ∙ ap (unless_duplicate (duplicate_in kind tab (n + 1) ks)) (I.ran limits l ts ks stack c.next)
            ∙ sym (late_after_from e L ks (known B) I.content (λ _. I.key));
        kept = body_kept B;
      }

  -- the same after a child that was refused, by the words of the children before it
  pub body_child_keys : {ts : Forest} {ks : List (List ℕ)} {τ : List Frame → Config} {i z : ℕ} {tab out : List ℕ} {c : Children} {ψ : List Frame → Outcome} {e number place : ℕ}
      → c.first ≡ n + 1 → limits.nodes ≤ max_nodes → Body sw limits s kind l ω o d n tin ts ks τ i c.next z tab → ValueRefused ψ e c.next tab out number place → length out ≡ length tab
      → Keys sw s kind out c
  body_child_keys {ts} {ks} {τ} {i} {z} {tab} {out} {c} f h B T long =
      record {
        siblings =
            λ q.
            record {
              keys = ks;
              siblings = subst (λ (x : ℕ). SiblingKeys sw s out x c.next ks) (sym f) (siblings_kept sw s tab out c.next T.kept long (n + 1) ks (B.siblings q));
            };
        not_root = omega arith;
        few = omega (arith, B.below);
      }

  pub body_child_refused : {ts : Forest} {ks : List (List ℕ)} {i : ℕ} {tab out : List ℕ} {c : Children} {k : TokenKind} {start stop : ℕ} {key : CS.Span} {f r : Refusal} → c.first ≡ n + 1
      → Within sw limits s kind l ω o d n tin ts ks i c.next c.count tab → Valued sw s kind i (turn_of c.count) k start stop key.start key.stop
      → ValueRefused (opened_here sw limits s start stop true (span_at key.start key.stop) c.next) (d + 1) c.next tab out f.number f.place → length out ≡ length tab
      → RefusedLateAfter sw s kind out c key f r → ValueRefused ω d n tin out r.number r.place
  body_child_refused {ts} {ks} {i} {tab} {out} {c} {k} {start} {stop} {key} {f} {r} e B I T long L =
      record {
        kept = λ x h. T.kept x (omega (arith, B.grew)) ∙ body_kept B x h;
        ran =
            λ stack h.
            let u : suc (length stack) ≡ d + 1 = omega arith in
            B.ran stack h
            ∙ ap (unless_duplicate (duplicate_in kind tab (n + 1) ks))
            (I.ran limits l ts ks stack c.next ∙ ap (unless_duplicate (key_duplicate kind key.start ks I.content)) (T.ran (frame kind l ts (I.keys ks) ∷ stack) u))
            ∙ ap (λ (q : Option ℕ). unless_duplicate q (unless_duplicate (key_duplicate kind key.start ks I.content) (refused f.number f.place)))
            (sym (duplicate_in_kept sw s tab out c.next T.kept long kind (n + 1) ks B.siblings))
            ∙ sym (late_after_from e L ks (record { siblings = λ q. siblings_kept sw s tab out c.next T.kept long (n + 1) ks (B.siblings q) }) I.content I.key);
      }

-- the container's end: its row is written, or a key is a duplicate
pub body_ended : {rules : Rules} {s : List ℕ} {due : Due} {p : CS.Span} {kind : Kind} {tin : List ℕ} {ts : Forest} {ks : List (List ℕ)} {j : ℕ} {c : Children} {tab out : List ℕ} {r : Result Progress Refusal}
    → SpansApart due.label → c.first ≡ due.spot.node + 1
    → Body rules.sw rules.limits s kind (label_of due.label) (opened_by rules s due p (container kind)) p.start due.spot.depth due.spot.node tin ts ks (λ stack. ended stack c.next (label_of due.label).name (branch (head_by (label_of due.label) j) kind ts)) j c.next c.count tab
    → BranchEnded rules.sw s due kind c j tab out r → ReadAs rules s due p (container kind) tin out r
unfolding size head_of head_by unless_duplicate place_of branch_progress branch_table
body_ended {rules} {s} {due} {p} {kind} {tin} {ts} {ks} {j} {c} {tab} {out} {r} ok e B E = by E.found E.first_found E.answered E.wrote
  where
    ends : (o : Option ℕ) (stack : List Frame) → Outcome
    ends o stack =
        unless_duplicate o (run_from rules.sw rules.limits s j (ended stack c.next (label_of due.label).name (branch (head_by (label_of due.label) j) kind ts)))

    by : (f : Rust.Option ℕ) → FirstDuplicate rules.sw s kind tab c f → r ≡ branch_progress f j c.next → out ≡ branch_table f due kind c j tab → ReadAs rules s due p (container kind) tin out r
    by (Some place) F q v =
        record {
          is =
              subst (ProgressIs rules.sw rules.limits s (opened_by rules s due p (container kind)) (label_of due.label) p.start due.spot.depth due.spot.parent due.spot.node tin out)
              (sym q)
              (record {
                ran = λ stack h. B.ran stack h ∙ ap (λ (o : Option ℕ). ends o stack) (sym (first_from e F ks (known B)));
                kept = λ x h. ap (λ (u : List ℕ). get_or u x 0) v ∙ body_kept B x h;
              });
        }
    by None F q v =
        record {
          is =
              subst (ProgressIs rules.sw rules.limits s (opened_by rules s due p (container kind)) (label_of due.label) p.start due.spot.depth due.spot.parent due.spot.node tin out)
              (sym q)
              (record {
                tree = branch (head_by (label_of due.label) j) kind ts;
                keyed = refl;
                begun = refl;
                stopped = refl;
                grew = omega (arith, B.grew);
                below = B.below;
                ahead = B.ahead;
                inside = B.inside;
                wrote = rows_branch tin tab out due.label ok kind due.spot.parent due.spot.node c.next c.count j ts B.grew B.counted B.wrote v;
                ran = λ stack h. B.ran stack h ∙ ap (λ (o : Option ℕ). ends o stack) (sym (first_from e F ks (known B)));
              });
        }

-- ---- the opening

pub no_node_law : (limits : Limits) (stack : List Frame) (mode : Mode) (fresh : Bool) (n : ℕ) → no_node limits fresh (config stack mode (nodes_at fresh n)) ≡ (fresh && leb limits.nodes n)
unfolding no_node
no_node_law limits stack mode true n = refl
no_node_law limits stack mode false n = refl

pub count_one : (limits : Limits) (stack : List Frame) (mode : Mode) (fresh : Bool) (n : ℕ) → counted limits fresh (config stack mode (nodes_at fresh n)) ≡ n + 1
unfolding counted
count_one limits stack mode true n = sym (add-one n)
count_one limits stack mode false n = sym (add-one n)

pub node_left : (nodes : ℕ) (fresh : Bool) (n : ℕ) → (fresh && leb nodes n) ≡ false → (fresh ≡ false → n < nodes) → n < nodes
node_left nodes true n e h = leb-false nodes n e
node_left nodes false n e h = h refl

-- a container that is due is not refused where it may-open
pub record MayOpen (limits : Limits) (due : Due) : Type 0 where
  pub shallow : due.spot.depth < limits.depth
  pub roomy : is_full limits due ≡ false

pub may_open_law : {limits : Limits} {due : Due} {number : ℕ} → number ≡ opening_refusal limits due → number ≡ 0 → MayOpen limits due
may_open_law {limits} {due} {number} e z = by (leb limits.depth due.spot.depth) (is_full limits due) refl refl e
  where
    by : (deep full : Bool) → leb limits.depth due.spot.depth ≡ deep → is_full limits due ≡ full → number ≡ cond deep 9 (cond full 10 0) → MayOpen limits due
    by true full p q h = absurd (omega arith)
    by false true p q h = absurd (omega arith)
    by false false p q h = record { shallow = leb-false limits.depth due.spot.depth p; roomy = q }

pub open_node : {limits : Limits} {due : Due} {tab : List ℕ} → MayOpen limits due → Ready limits tab due → due.spot.node < limits.nodes
open_node {limits} {due} o R = node_left limits.nodes due.fresh due.spot.node o.roomy R.counted

module _ (rules : Rules) (s : List ℕ) (due : Due) (bracket : CS.Span) (kind : Kind) (tab : List ℕ) where
  abbrev OpenRefused : ℕ → Type 0
  OpenRefused number = ValueRefused (opened_by rules s due bracket (container kind)) due.spot.depth due.spot.node tab tab number bracket.start

  open_deep : rules.limits.depth ≤ due.spot.depth → OpenRefused 9
  unfolding opened value_step refuse_if after_step
  open_deep h =
      record {
        kept = λ x g. refl;
        ran =
            λ stack e.
            let g : rules.limits.depth ≤ length stack = omega arith in
            rw (le-leb rules.limits.depth (length stack) g);
      }

  open_full : due.spot.depth < rules.limits.depth → is_full rules.limits due ≡ true → OpenRefused 10
  unfolding opened value_step refuse_if after_step
  open_full h f =
      record {
        kept = λ x g. refl;
        ran =
            λ stack e.
            let g : length stack < rules.limits.depth = omega arith in
            rw (lt-leb rules.limits.depth (length stack) g, no_node_law rules.limits stack (value due.any none) due.fresh due.spot.node, f);
      }

  pub open_refused : {number : ℕ} → number ≡ opening_refusal rules.limits due → (number ≡ 0 → ⊥) → ReadAs rules s due bracket (container kind) tab tab (Err (refusal number bracket.start))
  open_refused {number} e some = record { is = by (leb rules.limits.depth due.spot.depth) (is_full rules.limits due) refl refl e }
    where
      by : (deep full : Bool) → leb rules.limits.depth due.spot.depth ≡ deep → is_full rules.limits due ≡ full → number ≡ cond deep 9 (cond full 10 0)
          → OpenRefused number
      by true full p q h = subst OpenRefused (sym h) (open_deep (leb-true rules.limits.depth due.spot.depth p))
      by false true p q h = subst OpenRefused (sym h) (open_full (leb-false rules.limits.depth due.spot.depth p) q)
      by false false p q h = absurd (some h)

  start_none : MayOpen rules.limits due → Ready rules.limits tab due → Placed s bracket
      → Within rules.sw rules.limits s kind (label_of due.label) (opened_by rules s due bracket (container kind)) bracket.start due.spot.depth due.spot.node tab nil [] bracket.stop (due.spot.node + 1) 0 tab
  unfolding opened value_step refuse_if after_step count sizes rows_all unless_duplicate
  start_none o R P =
      record {
        counted = refl;
        grew = omega arith;
        few = omega arith;
        below = let h = open_node o R in omega arith;
        ahead = P.ordered;
        inside = P.inside;
        room = R.table.room;
        long = refl;
        wrote = refl;
        siblings = λ _. refl;
        ran =
            λ stack e.
            let h = o.shallow in
            let g : length stack < rules.limits.depth = omega arith in
            rw (duplicate_in_none kind tab (due.spot.node + 1), lt-leb rules.limits.depth (length stack) g, no_node_law rules.limits stack (value due.any none) due.fresh due.spot.node, o.roomy, count_one rules.limits stack (value due.any none) due.fresh due.spot.node);
      }

  pub body_start : {c : Children} → c ≡ no_children (due.spot.node + 1) → MayOpen rules.limits due → Ready rules.limits tab due → Placed s bracket
      → Within rules.sw rules.limits s kind (label_of due.label) (opened_by rules s due bracket (container kind)) bracket.start due.spot.depth due.spot.node tab nil [] bracket.stop c.next c.count tab
  body_start e o R P =
      subst (λ (c : Children). Within rules.sw rules.limits s kind (label_of due.label) (opened_by rules s due bracket (container kind)) bracket.start due.spot.depth due.spot.node tab nil [] bracket.stop c.next c.count tab)
      (sym e) (start_none o R P)

pub no_children_first : {c : Children} {node : ℕ} → c ≡ no_children node → c.first ≡ node
no_children_first e = ap (λ (c : Children). c.first) e
