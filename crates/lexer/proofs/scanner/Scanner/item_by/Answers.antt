use Rattle.std.specs.Prelude.{Ok, Err, ℕ}
use native.Mathlib.Omega.{arith}
use mathlib.Core.Path.{refl, sym, ap, ◌∙◌}
use mathlib.Core.Bool.{Bool, cond}
use mathlib.Core.Logic.{inl, inr}
use lib.ListN.{get_or}
use borrow.Author.Tests.{eq-eqb, ne_eqb}
use Rattle.text.specs.Bytes.{one_of}
use Rattle.text.proofs.ClassLaws.{class_at}
use Rattle.lexer.specs.declared.item.TokenKind.TheVariants as K
use Rattle.lexer.specs.declared.item.Found.TheVariants as F
use Rattle.lexer.specs.Token.{item_of}
use Rattle.lexer.specs.Answer.{found, kind_of}
use Rattle.lexer.proofs.OpeningLaws.{may_open, opening_found}
use Rattle.lexer.proofs.PlaceLaws.{class_item, item_past, class_other}
use Rattle.lexer.proofs.scanner.Scanner.item_by.Goals as goal

pub returns-then-self-at : goal.returns-then-self-at
returns-then-self-at c = item_past c.args.self.now.sw c.args.self.now.text.now c.args.at c.if-self-at.true

pub returns-in-0 : goal.returns-in-0
unfolding item_of class_at found kind_of
returns-in-0 c =
    ap (λ (x : ℕ). Ok (F.Gap x)) (omega arith) ∙ class_item c.args.self.now.sw c.args.self.now.text.now c.args.at c.class_of.result 0 c.if-self-at.false c.class_of.ensures c.in-0.is

pub returns-in-1 : goal.returns-in-1
unfolding item_of class_at found kind_of
returns-in-1 c =
    c.number_item.ensures ∙ elim c.in-1.is [ inl e ↦ class_item c.args.self.now.sw c.args.self.now.text.now c.args.at c.class_of.result 1 c.if-self-at.false c.class_of.ensures e | inr e ↦ class_item c.args.self.now.sw c.args.self.now.text.now c.args.at c.class_of.result 9 c.if-self-at.false c.class_of.ensures e ]

pub returns-in-2 : goal.returns-in-2
unfolding item_of class_at found kind_of
returns-in-2 c =
    c.word_item.ensures ∙ class_item c.args.self.now.sw c.args.self.now.text.now c.args.at c.class_of.result 2 c.if-self-at.false c.class_of.ensures c.in-2.is

pub returns-in-3 : goal.returns-in-3
unfolding may_open one_of
returns-in-3 c =
    c.opened_item.ensures ∙ sym (opening_found c.args.self.now.sw c.args.self.now.text.now c.args.at c.class_of.result c.if-self-at.false c.class_of.ensures (elim c.in-3.is [ inl e ↦ ap may_open e | inr e ↦ ap may_open e ]))

pub returns-in-4 : goal.returns-in-4
unfolding item_of class_at found kind_of
returns-in-4 c =
    c.word_item-in-4.ensures ∙ (rw (eq-eqb _ _ c.if-b-eq95.true) at (class_item c.args.self.now.sw c.args.self.now.text.now c.args.at c.class_of.result 4 c.if-self-at.false c.class_of.ensures c.in-4.is))

pub returns-in-4-2 : goal.returns-in-4-2
unfolding item_of class_at found kind_of
returns-in-4-2 c =
    c.number_item-in-4-2.ensures ∙ (rw (ne_eqb _ _ c.if-b-eq95.false) at (class_item c.args.self.now.sw c.args.self.now.text.now c.args.at c.class_of.result 4 c.if-self-at.false c.class_of.ensures c.in-4.is))

pub returns-in-6 : goal.returns-in-6
unfolding item_of class_at found kind_of
returns-in-6 c =
    ap (λ (t : Bool). Err (cond t 6 3)) (sym c.if-self.true) ∙ class_item c.args.self.now.sw c.args.self.now.text.now c.args.at c.class_of.result 6 c.if-self-at.false c.class_of.ensures c.in-6.is

pub returns-in-7 : goal.returns-in-7
unfolding item_of class_at found kind_of
returns-in-7 c =
    ap (λ (x : ℕ). Ok (F.Token (K.Mark (get_or c.args.self.now.text.now c.args.at 0)) x)) (omega arith) ∙ class_item c.args.self.now.sw c.args.self.now.text.now c.args.at c.class_of.result 7 c.if-self-at.false c.class_of.ensures c.in-7.is

pub returns-in-8 : goal.returns-in-8
unfolding item_of class_at found kind_of
returns-in-8 c =
    c.comment_item.ensures ∙ class_item c.args.self.now.sw c.args.self.now.text.now c.args.at c.class_of.result 8 c.if-self-at.false c.class_of.ensures c.in-8.is

pub returns-in_default : goal.returns-in_default
unfolding item_of class_at found kind_of
returns-in_default c =
    ap (λ (t : Bool). Err (cond t 6 3)) (sym c.if-self.false) ∙ class_item c.args.self.now.sw c.args.self.now.text.now c.args.at c.class_of.result 6 c.if-self-at.false c.class_of.ensures c.in-6.is

pub returns-in_default-2 : goal.returns-in_default-2
unfolding item_of found
returns-in_default-2 c =
    rw (class_other c.class_of.result (grind arith)) at (class_item c.args.self.now.sw c.args.self.now.text.now c.args.at c.class_of.result c.class_of.result c.if-self-at.false c.class_of.ensures refl)
