-- From every state that the machine reaches without a refusal some bytes lead to a taken end, if the limits leave room for one container more: the
-- brackets that close what is open, and before them a colon or an empty array where a value is due. FirstFault says what follows of texts.
-- Assumes nothing.
use mathlib.Core.Path.{◌≡◌, refl, sym, ap, ◌∙◌, subst}
use Prim.Native.Nat.{ℕ, suc, ◌+◌, ◌<◌}
use mathlib.Core.Bool.{Bool, true, false, cond, ◌&&◌}
use mathlib.Core.Option.{Option, none, some}
use mathlib.Core.List.{List, [], ◌∷◌}
use lib.Dec.{leb}
use lib.ListN.{length}
use borrow.Author.Tests.{lt-leb}
use Prim.Native.Char.{Char, code}
use Rattle.text.specs.declared.switches.Switches.{Switches}
use Rattle.text.specs.Bytes.{Class, class_of, one_of, is_number_byte, is_word_byte, is_letter_or_digit, feed}
use Rattle.text.specs.Utf8.{lead, utf8_step, utf8, is_whole}
use Rattle.text.proofs.Utf8Join.{utf8_append}
use Rattle.lexer.specs.Token as L
use Rattle.lexer.specs.Token.{Token, item_of, item, after_item, cut}
use Rattle.lexer.proofs.Seams.{heads, goes_on}
use Rattle.lexer.proofs.SeamLaws.{cut_token}
use Rattle.text.proofs.Choice.{cond_both}
use Rattle.reader.specs.Tree.{Span, Tree, leaf, branch, nil, snoc}
use Rattle.reader.specs.declared.tree.Kind.{Kind}
use Rattle.reader.specs.declared.tree.Kind.TheVariants.{Object, Array, Tuple}
use Rattle.reader.specs.declared.tree.Limits.{Limits}
use Rattle.reader.specs.Syntax.{Label, Frame, Slot, first, lone, after, more, Mode, value, named, inner, close, inside, colon, done, Config, config, frame, label, Step, go, refuse, Begins, container, scalar, identifier, nothing, span_of, is_mark, closer, is_object, is_comma, empty_by_comma, key_of, mark_begins, begins, head_by, with_stop, finished, ended, go_to, refuse_if, holds, key_step, close_or, no_node, counted, value_step, fresh_value, child_step, slot_step, mode_step, step, Outcome, at_end, after_step, run}
use Rattle.reader.specs.Reading.{is_taken}

-- ---- the bytes that close what is open

-- a bracket or mark at a place
abbrev mark_token : (at : ℕ) → Char → Token
mark_token at c = cut_token (L.mark (code c)) at 0

-- the bracket of an identifier, if there is one, and then `rest`
close_name : Option Span → List ℕ → List ℕ
close_name none rest = rest
close_name (some s) rest = code ")" ∷ rest

close_all : List Frame → List ℕ
close_all [] = []
close_all (f ∷ fs) = code (closer f.kind) ∷ close_name f.label.name (close_all fs)

-- a bracket or mark by its byte: no word or number goes on with it, and it is a character by itself
record MarkByte (m : Char) : Type 0 where
  class : class_of (code m) ≡ Class.mark
  ends : goes_on (code m) ≡ false
  whole : is_whole (utf8 (code m ∷ [])) ≡ true

square : MarkByte "["
unfolding class_of one_of goes_on is_number_byte is_word_byte is_letter_or_digit utf8 feed utf8_step lead is_whole
square = record { class = refl; ends = refl; whole = refl }

round : MarkByte "("
unfolding class_of one_of goes_on is_number_byte is_word_byte is_letter_or_digit utf8 feed utf8_step lead is_whole
round = record { class = refl; ends = refl; whole = refl }

colon_mark : MarkByte ":"
unfolding class_of one_of goes_on is_number_byte is_word_byte is_letter_or_digit utf8 feed utf8_step lead is_whole
colon_mark = record { class = refl; ends = refl; whole = refl }

closing : (k : Kind) → MarkByte (closer k)
unfolding class_of one_of goes_on is_number_byte is_word_byte is_letter_or_digit utf8 feed utf8_step lead is_whole
closing Object = record { class = refl; ends = refl; whole = refl }
closing Array = record { class = refl; ends = refl; whole = refl }
closing Tuple = record { class = refl; ends = refl; whole = refl }

is_closer : (k : Kind) → is_mark (closer k) (L.mark (code (closer k))) ≡ true
unfolding is_mark
is_closer Object = refl
is_closer Array = refl
is_closer Tuple = refl

close_or_law : (c : Config) (f : Frame) (fs : List Frame) (t : Token) (other : Step) → is_mark (closer f.kind) t.form ≡ true
    → close_or c f fs t other ≡ go (ended fs c.nodes f.label.name (branch (head_by f.label t.stop) f.kind f.children))
unfolding close_or
close_or_law c f fs t other e =
    ap (λ (x : Bool). cond x (go (ended fs c.nodes f.label.name (branch (head_by f.label t.stop) f.kind f.children))) other) e

unfoldable pub Taken : Outcome → Type 0
Taken o = is_taken o ≡ true

-- inside a container there is one; the machine keeps that
unfoldable pub Ok : List Frame → Mode → Type 0
Ok [] (inside slot) = ⊥
Ok [] (value any key) = Unit {0}
Ok [] (named any l) = Unit {0}
Ok [] (inner any l) = Unit {0}
Ok [] (close t) = Unit {0}
Ok [] (colon k) = Unit {0}
Ok [] (done t) = Unit {0}
Ok (f ∷ fs) m = Unit {0}

OkStep : Step → Type 0
OkStep (go d) = Ok d.stack d.mode
OkStep (refuse k) = Unit {0}

ok_or : (b : Bool) (k : ℕ) (s : Step) → OkStep s → OkStep (refuse_if b k s)
unfolding refuse_if OkStep
ok_or true k s g = tt
ok_or false k s g = g

ended_ok : (fs : List Frame) (n : ℕ) (o : Option Span) (t : Tree) → OkStep (go (ended fs n o t))
unfolding OkStep Ok ended finished
ended_ok [] n none t = tt
ended_ok [] n (some s) t = tt
ended_ok (f ∷ fs) n none t = tt
ended_ok (f ∷ fs) n (some s) t = tt

named_ok : (fs : List Frame) (any : Bool) (l : Label) → Ok fs (named any l) × Ok fs (inner any l)
unfolding Ok
named_ok [] any l = (tt, tt)
named_ok (f ∷ fs) any l = (tt, tt)

module _ (sw : Switches) (limits : Limits) where
  -- a container closes: whatever its slot, its children and its keys
  close_step : (at : ℕ) (f : Frame) (fs : List Frame) (slot : Slot) (n : ℕ)
      → step sw limits (config (f ∷ fs) (inside slot) n) (mark_token at (closer f.kind))
      ≡ go (ended fs n f.label.name (branch (head_by f.label (at + 1)) f.kind f.children))
  unfolding step mode_step slot_step
  close_step at f fs first n = close_or_law (config (f ∷ fs) (inside first) n) f fs (mark_token at (closer f.kind)) _ (is_closer f.kind)
  close_step at f fs lone n = close_or_law (config (f ∷ fs) (inside lone) n) f fs (mark_token at (closer f.kind)) _ (is_closer f.kind)
  close_step at f fs after n = close_or_law (config (f ∷ fs) (inside after) n) f fs (mark_token at (closer f.kind)) _ (is_closer f.kind)
  close_step at f fs more n = close_or_law (config (f ∷ fs) (inside more) n) f fs (mark_token at (closer f.kind)) _ (is_closer f.kind)

  -- the bytes are UTF-8 and lead from the state to a taken end, wherever they stand
  pub record Leads (bytes : List ℕ) (c : Config) : Type 0 where
    pub whole : is_whole (utf8 bytes) ≡ true
    pub to_end : (at : ℕ) → Taken (run sw limits (cut sw 0 at bytes) c)

  run_mark : (m : Char) (rest : List ℕ) (c : Config) (d : ℕ → Config) → MarkByte m → ((at : ℕ) → step sw limits c (mark_token at m) ≡ go (d at))
      → ((at : ℕ) → Leads rest (d at)) → Leads (code m ∷ rest) c
  unfolding run after_step Taken cut after_item item item_of
  run_mark m rest c d k e h =
      record {
        whole = utf8_append (code m ∷ []) rest k.whole ∙ (h 0).whole;
        to_end =
            λ at.
            ap (λ (x : Class). is_taken (run sw limits (after_item at (item_of sw x (code m) rest) (λ n. cut sw n (suc at) rest)) c)) k.class
            ∙ ap (λ (x : Step). is_taken (after_step at x (λ g. run sw limits (cut sw 0 (suc at) rest) g))) (e at) ∙ (h at).to_end (suc at);
      }

  -- the bracket of an identifier closes
  name_close : (fs : List Frame) (o : Option Span) (n : ℕ) (t : Tree) (rest : List ℕ) → ((u : Tree) → Leads rest (finished fs n u))
      → Leads (close_name o rest) (ended fs n o t)
  unfolding close_name ended step mode_step is_mark
  name_close fs none n t rest k = k t
  name_close fs (some s) n t rest k =
      run_mark ")" rest (config fs (close t) n) (λ at. finished fs n (with_stop (at + 1) t)) (closing Tuple) (λ at. refl) (λ at. k (with_stop (at + 1) t))

  -- a value is whole, and every open container closes
  finish_close : (fs : List Frame) (n : ℕ) (u : Tree) → Leads (close_all fs) (finished fs n u)
  unfolding close_all finished Taken is_taken run at_end cut utf8 feed is_whole
  finish_close [] n u = record { whole = refl; to_end = λ at. refl }
  finish_close (g ∷ gs) n u =
      let f : Frame = frame g.kind g.label (snoc g.children u) g.keys in
      let t : ℕ → Tree = λ at. branch (head_by f.label (at + 1)) f.kind f.children in
      run_mark (closer g.kind) (close_name g.label.name (close_all gs)) (config (f ∷ gs) (inside after) n)
      (λ at. ended gs n f.label.name (t at)) (closing g.kind) (λ at. close_step at f gs after n)
      (λ at. name_close gs g.label.name n (t at) (close_all gs) (λ v. finish_close gs n v))

  all_close : (f : Frame) (fs : List Frame) (slot : Slot) (n : ℕ) → Leads (close_all (f ∷ fs)) (config (f ∷ fs) (inside slot) n)
  unfolding close_all
  all_close f fs slot n =
      let t : ℕ → Tree = λ at. branch (head_by f.label (at + 1)) f.kind f.children in
      run_mark (closer f.kind) (close_name f.label.name (close_all fs)) (config (f ∷ fs) (inside slot) n)
      (λ at. ended fs n f.label.name (t at)) (closing f.kind) (λ at. close_step at f fs slot n)
      (λ at. name_close fs f.label.name n (t at) (close_all fs) (λ v. finish_close fs n v))

  -- ---- from every state

  -- `[`, where a value is due and the limits leave room
  open_step : (at : ℕ) (c : Config) (fresh any : Bool) (l : Label) → length c.stack < limits.depth → c.nodes < limits.nodes
      → value_step limits c fresh any l (mark_token at "[") (begins (span_of (mark_token at "[")) (L.mark (code "[")))
      ≡ go (config (frame Array l nil [] ∷ c.stack) (inside first) (counted limits fresh c))
  unfolding value_step begins mark_begins no_node refuse_if
  open_step at c true any l d n =
      ap (λ (x : Bool). refuse_if x 9 (refuse_if (leb limits.nodes c.nodes) 10 (go (config (frame Array l nil [] ∷ c.stack) (inside first) (counted limits true c))))) (lt-leb limits.depth (length c.stack) d)
      ∙ ap (λ (x : Bool). refuse_if x 10 (go (config (frame Array l nil [] ∷ c.stack) (inside first) (counted limits true c)))) (lt-leb limits.nodes c.nodes n)
  open_step at c false any l d n =
      ap (λ (x : Bool). refuse_if x 9 (go (config (frame Array l nil [] ∷ c.stack) (inside first) (counted limits false c)))) (lt-leb limits.depth (length c.stack) d)

  -- some bytes lead from the state to a taken end, and no word or number goes on with the first of them
  pub record Viable (c : Config) : Type 0 where
    pub bytes : List ℕ
    pub ends : heads goes_on bytes ≡ false
    pub leads : Leads bytes c

  -- bytes that begin with a mark
  by_mark : (m : Char) (rest : List ℕ) (c : Config) → MarkByte m → Leads (code m ∷ rest) c → Viable c
  unfolding heads
  by_mark m rest c k h = record { bytes = code m ∷ rest; ends = k.ends; leads = h }

  value_viable : (fs : List Frame) (n : ℕ) (any : Bool) (key : Option Span) → length fs < limits.depth → n < limits.nodes → Viable (config fs (value any key) n)
  unfolding step mode_step fresh_value close_all close_name
  value_viable fs n any key d k =
      let c : Config = config fs (value any key) n in
      let f : ℕ → Frame = λ at. frame Array (label at key none) nil [] in
      by_mark "[" (close_all (f 0 ∷ fs)) c square
      (run_mark "[" (close_all (f 0 ∷ fs)) c (λ at. config (f at ∷ fs) (inside first) (counted limits true c)) square
      (λ at. open_step at c true any (label at key none) d k) (λ at. all_close (f at) fs first (counted limits true c)))

  inner_viable : (fs : List Frame) (n : ℕ) (any : Bool) (l : Label) → length fs < limits.depth → n < limits.nodes → Viable (config fs (inner any l) n)
  unfolding step mode_step
  inner_viable fs n any l d k =
      let c : Config = config fs (inner any l) n in
      let f : Frame = frame Array l nil [] in
      by_mark "[" (close_all (f ∷ fs)) c square
      (run_mark "[" (close_all (f ∷ fs)) c (λ at. config (f ∷ fs) (inside first) (counted limits false c)) square
      (λ at. open_step at c false any l d k) (λ at. all_close f fs first (counted limits false c)))

  pub viable : (fs : List Frame) (m : Mode) (n : ℕ) → Ok fs m → length fs < limits.depth → n < limits.nodes → Viable (config fs m n)
  unfolding Ok step mode_step is_mark Taken is_taken run at_end cut heads close_all utf8 feed is_whole
  viable fs (value any key) n o d k = value_viable fs n any key d k
  viable fs (named any l) n o d k =
      let w = inner_viable fs n any l d k in
      let c : Config = config fs (named any l) n in
      by_mark "(" w.bytes c round (run_mark "(" w.bytes c (λ at. config fs (inner any l) n) round (λ at. refl) (λ at. w.leads))
  viable fs (inner any l) n o d k = inner_viable fs n any l d k
  viable fs (close t) n o d k =
      let c : Config = config fs (close t) n in
      by_mark ")" (close_all fs) c (closing Tuple)
      (run_mark ")" (close_all fs) c (λ at. finished fs n (with_stop (at + 1) t)) (closing Tuple) (λ at. refl) (λ at. finish_close fs n (with_stop (at + 1) t)))
  viable [] (inside slot) n o d k = absurd o
  viable (f ∷ fs) (inside slot) n o d k =
      by_mark (closer f.kind) (close_name f.label.name (close_all fs)) (config (f ∷ fs) (inside slot) n) (closing f.kind) (all_close f fs slot n)
  viable fs (colon key) n o d k =
      let w = value_viable fs n true (some key) d k in
      let c : Config = config fs (colon key) n in
      by_mark ":" w.bytes c colon_mark
      (run_mark ":" w.bytes c (λ at. config fs (value true (some key)) n) colon_mark (λ at. refl) (λ at. w.leads))
  viable fs (done t) n o d k = record { bytes = []; ends = refl; leads = record { whole = refl; to_end = λ at. refl } }

  -- ---- the states that the machine reaches

  value_ok : (c : Config) (fresh any : Bool) (l : Label) (t : Token) (b : Begins) → OkStep (value_step limits c fresh any l t b)
  unfolding value_step OkStep Ok
  value_ok c fresh any l t (container k) = ok_or _ 9 _ (ok_or _ 10 _ tt)
  value_ok c fresh any l t (scalar s) = ok_or _ 7 _ (ok_or _ 10 _ (ended_ok c.stack (counted limits fresh c) l.name (leaf (head_by l t.stop) s)))
  value_ok c fresh any l t identifier = ok_or _ 7 _ (ok_or _ 10 _ (named_ok c.stack any (label l.start l.key (some (span_of t)))).0)
  value_ok c fresh any l t nothing = tt

  key_ok : (f : Frame) (fs : List Frame) (n : ℕ) (span : Span) (k : Option (List ℕ)) → OkStep (key_step f fs n span k)
  unfolding key_step OkStep Ok
  key_ok f fs n span none = tt
  key_ok f fs n span (some k) = ok_or (holds f.keys k) 8 _ tt

  slot_ok : (c : Config) (t : Token) (slot : Slot) (fs : List Frame) → c.stack ≡ fs → OkStep (slot_step sw limits c t slot fs)
  unfolding slot_step child_step fresh_value close_or OkStep Ok
  slot_ok c t slot [] q = tt
  slot_ok c t slot (f ∷ fs) q = go_on slot
    where
      closes : (other : Step) → OkStep other → OkStep (close_or c f fs t other)
      closes other g =
          cond_both OkStep (is_mark (closer f.kind) t.form)
          (λ _. ended_ok fs c.nodes f.label.name (branch (head_by f.label t.stop) f.kind f.children)) (λ _. g)

      child : OkStep (child_step limits c f fs t)
      child =
          cond_both OkStep (is_object f.kind) (λ _. key_ok f fs c.nodes (span_of t) (key_of t.form))
          (λ _. value_ok c true true (label t.start none none) t (begins (span_of t) t.form))

      same : (m : Slot) → OkStep (go_to c (inside m))
      same m = subst (λ (l : List Frame). Ok l (inside m)) (sym q) tt

      go_on : (slot' : Slot) → OkStep (slot_step sw limits c t slot' (f ∷ fs))
      go_on first = closes _ (cond_both OkStep (is_comma t.form && empty_by_comma sw f.kind) (λ _. same lone) (λ _. child))
      go_on lone = closes (refuse 7) tt
      go_on after = closes _ (cond_both OkStep (is_comma t.form) (λ _. same more) (λ _. tt))
      go_on more = closes _ child

  mode_ok : (c : Config) (t : Token) (m : Mode) → OkStep (mode_step sw limits c t m)
  unfolding mode_step fresh_value OkStep Ok ended finished
  mode_ok c t (value any key) = value_ok c true any (label t.start key none) t (begins (span_of t) t.form)
  mode_ok c t (named any l) = cond_both OkStep (is_mark "(" t.form) (λ _. (named_ok c.stack any l).1) (λ _. tt)
  mode_ok c t (inner any l) = value_ok c false any l t (begins (span_of t) t.form)
  mode_ok c t (close tree) = cond_both OkStep (is_mark ")" t.form) (λ _. ended_ok c.stack c.nodes none (with_stop t.stop tree)) (λ _. tt)
  mode_ok c t (inside slot) = slot_ok c t slot c.stack refl
  mode_ok c t (colon key) = cond_both OkStep (is_mark ":" t.form) (λ _. value_mode c.stack) (λ _. tt)
    where
      value_mode : (fs : List Frame) → Ok fs (value true (some key))
      value_mode [] = tt
      value_mode (f ∷ fs) = tt
  mode_ok c t (done tree) = tt

  pub step_ok : (c d : Config) (t : Token) → step sw limits c t ≡ go d → Ok d.stack d.mode
  unfolding step OkStep
  step_ok c d t e = subst OkStep e (mode_ok c t c.mode)

  -- after any token that is not refused, some bytes lead to a taken end
  pub step_viable : (c d : Config) (t : Token) → step sw limits c t ≡ go d → length d.stack < limits.depth → d.nodes < limits.nodes → Viable d
  step_viable c d t e h k = viable d.stack d.mode d.nodes (step_ok c d t e) h k
