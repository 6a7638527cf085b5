use Rattle.std.specs.Prelude.{ℕ}
use Rattle.std.proofs.Common.{rules, arith, ◌≡◌}
use mathlib.Core.Path.{sym, ap, ◌∙◌}
use Prim.Native.Nat.{◌+◌}
use lib.IntN.{ℤ}
use mir.Val.{to_z, of_z}
use mir.Syntax.{w64}
use Rattle.text.specs.Bytes.{is_number_byte}
use Rattle.std.specs.declared.result.Result.TheVariants.{Ok, Err}
use Rattle.literals.specs.declared.number.NumberValue.TheVariants as N
use Rattle.literals.specs.declared.number.NumberError.TheVariants as E
use Rattle.lexer.specs.declared.item.TokenKind.TheVariants as K
use Rattle.lexer.specs.declared.item.Found.TheVariants as F
use Rattle.lexer.specs.Token.{meant_item}
use Rattle.lexer.specs.Answer.{found, kind_of}
use Rattle.lexer.proofs.PlaceLaws.{run_within, number_found}
use Rattle.lexer.proofs.scanner.Scanner.number_item.Goals as goal

pub slice_bounds-number_of-count : goal.slice_bounds-number_of-count
slice_bounds-number_of-count c =
    let w = run_within is_number_byte c.args.self.now.text.now (c.args.at + 1) (omega arith) in omega arith

pub slice_bounds-number_of-end : goal.slice_bounds-number_of-end
slice_bounds-number_of-end c =
    let w = run_within is_number_byte c.args.self.now.text.now (c.args.at + 1) (omega arith) in let e = c.number_end-end.ensures in omega arith

pub returns-in-Ok-Integer : goal.returns-in-Ok-Integer
unfolding found meant_item kind_of
returns-in-Ok-Integer c =
    let v : to_z w64 (of_z w64 c.in-Ok-Integer.value) ≡ c.in-Ok-Integer.value = search rules in
    ap (λ (z : ℤ). Ok (F.Token (K.Integer z) c.number_end-end.result)) v
    ∙ ap (λ (x : ℕ). Ok (F.Token (K.Integer c.in-Ok-Integer.value) x)) (omega arith) ∙ sym (number_found c.args.self.now.text.now c.args.at c.number_end-end.result (omega arith) (Ok (N.Integer c.in-Ok-Integer.value)) c.number_end-end.ensures (sym c.number_of.ensures ∙ c.in-Ok-Integer.is ∙ ap Ok c.in-Ok-Integer.field-0-is))

pub returns-in-Ok-Decimal : goal.returns-in-Ok-Decimal
unfolding found meant_item kind_of
returns-in-Ok-Decimal c =
    let v : to_z w64 (of_z w64 c.in-Ok-Decimal.p) ≡ c.in-Ok-Decimal.p = search rules in
    ap (λ (z : ℤ). Ok (F.Token (K.Decimal c.in-Ok-Decimal.minus c.in-Ok-Decimal.m z) c.number_end-end.result)) v
    ∙ ap (λ (x : ℕ). Ok (F.Token (K.Decimal c.in-Ok-Decimal.minus c.in-Ok-Decimal.m c.in-Ok-Decimal.p) x)) (omega arith) ∙ sym (number_found c.args.self.now.text.now c.args.at c.number_end-end.result (omega arith) (Ok (N.Decimal c.in-Ok-Decimal.minus c.in-Ok-Decimal.m c.in-Ok-Decimal.p)) c.number_end-end.ensures (sym c.number_of.ensures ∙ c.in-Ok-Decimal.is ∙ ap Ok c.in-Ok-Decimal.field-0-is))

pub returns-in-Err-Malformed : goal.returns-in-Err-Malformed
unfolding found meant_item kind_of
returns-in-Err-Malformed c =
    sym (number_found c.args.self.now.text.now c.args.at c.number_end-end.result (omega arith) (Err E.Malformed) c.number_end-end.ensures (sym c.number_of.ensures ∙ c.in-Err-Malformed.is ∙ ap Err c.in-Err-Malformed.field-0-is))

pub returns-in-Err-TooWide : goal.returns-in-Err-TooWide
unfolding found meant_item kind_of
returns-in-Err-TooWide c =
    sym (number_found c.args.self.now.text.now c.args.at c.number_end-end.result (omega arith) (Err E.TooWide) c.number_end-end.ensures (sym c.number_of.ensures ∙ c.in-Err-TooWide.is ∙ ap Err c.in-Err-TooWide.field-0-is))
