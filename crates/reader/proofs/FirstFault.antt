-- "7 is at the first token that no taken text could have there, limits and doubled keys apart" (document 01, "Numbers of refusal"), both ways, for
-- every switch setting, for a root and for a value of any kind. Word by word:
-- - "taken text": bytes that are UTF-8 and that the machine takes in some limits, so that limits are apart: `Could`.
-- - "the first token that no taken text could have there": a taken text has the tokens before it, one that even begins with the same bytes up to
--   their end; and no taken text has it behind them, with the same form at the same place: `First`.
-- - "7 is at": a text that is refused with 7 is refused at the start of such a token, or at its length if it ends early: `seven_first`.
-- - And at such a token a text is refused with 7, unless a limit (9, 10) value-refused its reading; "doubled keys apart": with 8, if the token's content is
--   among the keys of the innermost object: `first_seven`.
-- Assumes nothing.
use mathlib.Core.Path.{◌≡◌, refl, sym, ap, ◌∙◌, subst}
use Prim.Native.Nat.{ℕ, suc, ◌≤◌}
use native.Mathlib.Omega.{arith}
use mathlib.Core.Bool.{Bool, true, false≢true}
use mathlib.Core.List.{List, [], ◌∷◌, ◌++◌}
use lib.Dec.{leb}
use lib.ListN.{length, take}
use Rattle.text.specs.declared.switches.Switches.{Switches}
use Rattle.text.specs.Utf8.{utf8, is_whole}
use Rattle.text.proofs.Choice.{cond-case}
use Rattle.text.proofs.Utf8Join.{utf8_append}
use Rattle.lexer.specs.Token as L
use Rattle.lexer.specs.Token.{Token, Tokens, cut, tokens}
use Rattle.lexer.proofs.TokenLaws.{Within, tokens_within}
use Rattle.lexer.proofs.FaultLaws.{TokensFault, tokens_fault}
use Rattle.lexer.proofs.ItemLaws.{leads, leads_append}
use Rattle.lexer.proofs.FrontLaws.{end_of, end_last, front_tokens, front_whole}
use Rattle.reader.specs.declared.tree.Limits.{Limits}
use Rattle.reader.specs.Syntax.{Config, Step, go, refuse, step, Outcome, refused, at_end, after_step, run, before}
use Rattle.reader.specs.Reading.{max_text, outcome, is_taken}
use Rattle.reader.proofs.Viable.{Taken, Ok, Viable, viable, step_ok}
use Rattle.reader.proofs.RoomLaws.{plus, plus_left, Over, stays, goes, over_more, over_run, over_up, Apart, is, by_limit, refused_anyway, ended_anyway}
use Rattle.reader.proofs.RuleLaws.{Rule, disallowed, rule_or_limit, ByRule, step_rule}
use Rattle.reader.proofs.ReplaceLaws.{outcome_run}
use Rattle.reader.proofs.ReachLaws.{Reach, to_token, to_end, to_fault, reach, taken_over, end_place, fault_not, end_either}

-- ---- the words

module _ (sw : Switches) (any : Bool) where
  -- some taken text has these tokens first
  pub record Could (ts : List Token) : Type 0 where
    pub text : List ℕ
    pub limits : Limits
    pub rest : Tokens
    pub has : tokens sw text ≡ leads ts rest
    pub whole : is_whole (utf8 text) ≡ true
    pub is_taken_law : Taken (run sw limits (tokens sw text) (before any))

  module _ (s : List ℕ) where
    -- and it begins with the bytes of s up to the end of the last of these tokens
    pub record Completed (ts : List Token) : Type 0 where
      pub could : Could ts
      pub more : List ℕ
      pub text_is : could.text ≡ take (end_of 0 ts) s ++ more

    -- u, behind the tokens ts of s, is "the first token that no taken text could have there"
    pub record First (ts : List Token) (u : Token) : Type 0 where
      pub rest : Tokens
      pub has : tokens sw s ≡ leads ts (L.next u rest)
      pub could : Completed ts
      pub could_not : Could (ts ++ (u ∷ [])) → ⊥

    -- "or text ends early": some taken text has all tokens of s first, but s isn't taken in any limits
    pub record Early (ts : List Token) : Type 0 where
      pub has : tokens sw s ≡ leads ts (L.end (length s))
      pub could : Completed ts
      pub could_not : (l : Limits) → Taken (run sw l (tokens sw s) (before any)) → ⊥

    -- "its start, or the length"
    pub data FirstAt : (place : ℕ) → Type 0 where
      at_token : (ts : List Token) (u : Token) → First ts u → FirstAt u.start
      at_end_law : (ts : List Token) → Early ts → FirstAt (length s)

    -- s is refused at u, behind the tokens ts, by a rule (7, or 8 of a doubled key): in some limits, and in all others unless they stop the reading
    pub record RefusedAt (ts : List Token) (u : Token) : Type 0 where
      pub limits : Limits
      pub state : Config
      pub over : Over sw limits (before any) ts state
      pub number : ℕ
      pub rule : Rule state u number
      pub there : outcome sw any limits s ≡ refused number u.start
      pub always : (l : Limits) → Apart (refused number u.start) (outcome sw any l s)

-- ---- never late, never early

over_ok : (sw : Switches) (l : Limits) {c d : Config} {ts : List Token} → Ok c.stack c.mode → Over sw l c ts d → Ok d.stack d.mode
over_ok sw l o stays = o
over_ok sw l o (goes {c = c} {d = d} {t = t} e p) = over_ok sw l (step_ok sw l c d t e) p

leads_last : (ts : List Token) (u : Token) (r : Tokens) → leads (ts ++ (u ∷ [])) r ≡ leads ts (L.next u r)
unfolding leads
leads_last ts u r = leads_append ts (u ∷ []) r

not_taken : {n place : ℕ} {o : Outcome} → Apart (refused n place) o → Taken o → ⊥
unfolding Taken is_taken
not_taken is h = false≢true h
not_taken (by_limit l) h = false≢true h

-- limits with room for one container more
abbrev room : Config → Limits
room d = record { depth = suc (length d.stack); nodes = suc d.nodes }

module _ (sw : Switches) (any : Bool) where
  -- NEVER LATE: as long as no token is refused, some text that begins so is taken
  pub never_late : (l : Limits) (s : List ℕ) (ts : List Token) (r : Tokens) (d : Config) → is_whole (utf8 s) ≡ true → tokens sw s ≡ leads ts r
      → Over sw l (before any) ts d → Completed sw any s ts
  unfolding Ok before
  never_late l s ts r d h e p =
      let l' : Limits = plus l (room d) in
      let w : Viable sw l' d = viable sw l' d.stack d.mode d.nodes (over_ok sw l tt p) (omega arith) (omega arith) in
      let f = front_tokens sw s ts r e w.bytes w.ends in
      let q : run sw l' (tokens sw (take (end_of 0 ts) s ++ w.bytes)) (before any) ≡ run sw l' (cut sw 0 (end_of 0 ts) w.bytes) d =
      ap (λ (x : Tokens). run sw l' x (before any)) f ∙ over_run sw l' (cut sw 0 (end_of 0 ts) w.bytes) (over_up sw l l' (plus_left l (room d)) p) in
      record {
        could =
            record {
              text = take (end_of 0 ts) s ++ w.bytes;
              limits = l';
              rest = cut sw 0 (end_of 0 ts) w.bytes;
              has = f;
              whole = utf8_append (take (end_of 0 ts) s) w.bytes (front_whole sw s ts r e h) ∙ w.leads.whole;
              is_taken_law = subst Taken (sym q) (w.leads.to_end (end_of 0 ts));
            };
        more = w.bytes;
        text_is = refl;
      }

  -- the same by the last token u that is not refused: the text begins with the bytes of s up to u's end
  pub never_late_at : (l : Limits) (s : List ℕ) (ts : List Token) (u : Token) (r : Tokens) (d : Config) → is_whole (utf8 s) ≡ true
      → tokens sw s ≡ leads (ts ++ (u ∷ [])) r → Over sw l (before any) (ts ++ (u ∷ [])) d
      → (w : Could sw any (ts ++ (u ∷ []))) × (t : List ℕ) × (w.text ≡ take u.stop s ++ t)
  never_late_at l s ts u r d h e p =
      let w = never_late l s (ts ++ (u ∷ [])) r d h e p in
      (w.could, w.more, w.text_is ∙ ap (λ (n : ℕ). take n s ++ w.more) (end_last 0 ts u))

  -- NEVER EARLY: where a token is refused with 7, every text that has the same tokens so far is refused with 7 at it, whatever follows and whatever
  -- the limits are, unless a limit (9, 10) value-refused its reading. The same holds of 8.
  pub never_early : (l : Limits) (ts : List Token) (u : Token) (d : Config) (n : ℕ) → Over sw l (before any) ts d → step sw l d u ≡ refuse n → Rule d u n
      → (l' : Limits) (s : List ℕ) (r : Tokens) → tokens sw s ≡ leads ts (L.next u r)
      → Apart (refused n u.start) (run sw l' (tokens sw s) (before any))
  never_early l ts u d n p e h l' s r f =
      subst (λ (x : Tokens). Apart (refused n u.start) (run sw l' x (before any))) (sym f)
      (refused_anyway sw l l' u n r p e (rule_or_limit h))

  -- so no taken text has that token there
  pub could_not : (l : Limits) (ts : List Token) (u : Token) (d : Config) (n : ℕ) → Over sw l (before any) ts d → step sw l d u ≡ refuse n → Rule d u n
      → Could sw any (ts ++ (u ∷ [])) → ⊥
  could_not l ts u d n p e h w =
      not_taken (never_early l ts u d n p e h w.limits w.text w.rest (w.has ∙ leads_last ts u w.rest)) w.is_taken_law

-- ---- the sentence

module _ (sw : Switches) (any : Bool) (s : List ℕ) (whole : is_whole (utf8 s) ≡ true) where
  -- a run that is refused with 7
  run_first : (l : Limits) (place : ℕ) → run sw l (tokens sw s) (before any) ≡ refused 7 place → FirstAt sw any s place
  unfolding run after_step Taken is_taken
  run_first l place h = on (reach sw l (tokens sw s) (before any))
    where
      -- what the run comes to behind the tokens that it goes over
      rest_is : {d : Config} {ts : List Token} (r : Tokens) → tokens sw s ≡ leads ts r → Over sw l (before any) ts d → run sw l r d ≡ refused 7 place
      rest_is r f p = sym (ap (λ (x : Tokens). run sw l x (before any)) f ∙ over_run sw l r p) ∙ h

      on : Reach sw l (before any) (tokens sw s) → FirstAt sw any s place
      on (to_token ts u r d n f p x) =
          let q : refused n u.start ≡ refused 7 place = sym (ap (λ (y : Step). after_step u.start y (λ g. run sw l r g)) x) ∙ rest_is (L.next u r) f p in
          let a : n ≡ 7 = cc in
          let b : u.start ≡ place = cc in
          subst (FirstAt sw any s) b
          (at_token ts u
          (record {
            rest = r;
            has = f;
            could = never_late sw any l s ts (L.next u r) d whole f p;
            could_not = could_not sw any l ts u d 7 p (x ∙ ap refuse a) disallowed;
          }))
      on (to_end ts e d f p) =
          let q : at_end e d.mode ≡ refused 7 place = rest_is (L.end e) f p in
          let a = end_either e d.mode (λ k. false≢true (sym (ap is_taken q) ∙ k)) in
          let z : refused 7 e ≡ refused 7 place = sym a ∙ q in
          let b : e ≡ place = cc in
          let c : e ≡ length s = end_place (length s) 0 ts e (subst (Within (length s) 0) f (tokens_within sw s)) in
          subst (FirstAt sw any s) (sym c ∙ b)
          (at_end_law ts
          (record {
            has = f ∙ ap (λ (n : ℕ). leads ts (L.end n)) c;
            could = never_late sw any l s ts (L.end e) d whole f p;
            could_not =
                λ l' k. not_taken (ended_anyway sw l l' e p a) (subst (λ (x : Tokens). Taken (run sw l' x (before any))) f k);
          }))
      on (to_fault ts n e d f p) =
          let q : refused n e ≡ refused 7 place = rest_is (Tokens.fault n e) f p in
          let a : n ≡ 7 = cc in
          absurd (fault_not ts n e (subst TokensFault f (tokens_fault sw s)) a)

-- a text that is refused with 7 is refused at the first token that no taken text could have there, or at its length if it ends early
pub seven_first : (sw : Switches) (any : Bool) (l : Limits) (s : List ℕ) (place : ℕ) → outcome sw any l s ≡ refused 7 place → FirstAt sw any s place
unfolding outcome
seven_first sw any l s place h =
    let P : Outcome → Type 0 = λ o. o ≡ refused 7 place in
    cond-case P (FirstAt sw any s place) (leb (length s) max_text) h
    (λ _ k. cond-case P (FirstAt sw any s place) (is_whole (utf8 s)) k (λ e r. run_first sw any s e l place r)
    (λ _ r. let q : ◌≡◌ {A = ℕ} 2 7 = cc in absurd (omega arith)))
    (λ _ r. let q : ◌≡◌ {A = ℕ} 1 7 = cc in absurd (omega arith))

module _ (sw : Switches) (any : Bool) (s : List ℕ) (whole : is_whole (utf8 s) ≡ true) (short : length s ≤ max_text) where
  apart_outcome : (l : Limits) (o : Outcome) → Apart o (run sw l (tokens sw s) (before any)) → Apart o (outcome sw any l s)
  apart_outcome l o h = subst (λ (x : Outcome). Apart o x) (sym (outcome_run sw any l s whole short)) h

  -- at the first token that no taken text could have there the text is refused, with 7 but for a doubled key
  pub first_seven : (ts : List Token) (u : Token) → First sw any s ts u → RefusedAt sw any s ts u
  unfolding run after_step ByRule
  first_seven ts u w =
      let k = w.could.could in
      let l = k.limits in
      let v = taken_over sw l ts k.rest (before any) (subst (λ (x : Tokens). Taken (run sw l x (before any))) k.has k.is_taken_law) in
      let d = v.0 in
      let l' = plus l (room d) in
      on d l' (over_up sw l l' (plus_left l (room d)) v.1) (step sw l' d u) refl (step_rule sw l' d u (omega arith) (omega arith))
    where
      on : (d : Config) (l : Limits) → Over sw l (before any) ts d → (x : Step) → step sw l d u ≡ x → ByRule d u (step sw l d u) → RefusedAt sw any s ts u
      on d l p (go e) x h =
          absurd (w.could_not
          (never_late sw any l s (ts ++ (u ∷ [])) w.rest e whole (w.has ∙ sym (leads_last ts u w.rest)) (over_more sw l u p x)).could)
      on d l p (refuse n) x h =
          let r : Rule d u n = subst (ByRule d u) x h in
          record {
            limits = l;
            state = d;
            over = p;
            number = n;
            rule = r;
            there =
                outcome_run sw any l s whole short ∙ ap (λ (y : Tokens). run sw l y (before any)) w.has ∙ over_run sw l (L.next u w.rest) p
                ∙ ap (λ (y : Step). after_step u.start y (λ g. run sw l w.rest g)) x;
            always = λ l'. apart_outcome l' (refused n u.start) (never_early sw any l ts u d n p x r l' s w.rest w.has);
          }

  -- where a text ends early it is refused with 7
  pub early_seven : (ts : List Token) → Early sw any s ts
      → (l₀ : Limits) × (outcome sw any l₀ s ≡ refused 7 (length s)) × ((l : Limits) → Apart (refused 7 (length s)) (outcome sw any l s))
  unfolding run
  early_seven ts w =
      let k = w.could.could in
      let l = k.limits in
      let v = taken_over sw l ts k.rest (before any) (subst (λ (x : Tokens). Taken (run sw l x (before any))) k.has k.is_taken_law) in
      let q : run sw l (tokens sw s) (before any) ≡ at_end (length s) v.0.mode =
      ap (λ (y : Tokens). run sw l y (before any)) w.has ∙ over_run sw l (L.end (length s)) v.1 in
      let e = end_either (length s) v.0.mode (λ h. w.could_not l (subst Taken (sym q) h)) in (
        l,
        outcome_run sw any l s whole short ∙ q ∙ e,
        λ l'.
            apart_outcome l' (refused 7 (length s))
            (subst (λ (x : Tokens). Apart (refused 7 (length s)) (run sw l' x (before any))) (sym w.has) (ended_anyway sw l l' (length s) v.1 e)),
      )
