use Rattle.std.proofs.Common.{◌≡◌, ◌<◌, ◌∙◌, sym, ap, arith, length}
use Rattle.std.specs.Prelude.{Ok, Err}
use Rattle.std.proofs.lemmas.Result.{err_from_is_err_and}
use Rattle.std.proofs.lemmas.Bool.Decides.{nat_tests}
use Rattle.qd_decimal.specs.Numbers.{signed_fit}
use Rattle.qd_decimal.specs.Reading.{start_of, whole_at}
use Rattle.qd_decimal.proofs.OnePass.{start_byte}
use Rattle.qd_decimal.proofs.Wholes.{int_empty, int_bad, int_good}
use Rattle.qd_decimal.proofs.reading.int.Goals as goal

pub returns-then-is_empty : goal.returns-then-is_empty
returns-then-is_empty c =
    let none : length c.args.text.now ≡ 0 = grind (arith, nat_tests) in
    sym (int_empty c.args.text.now none)

pub returns-in_err-number : goal.returns-in_err-number
returns-in_err-number c =
    let p = err_from_is_err_and c.from_residual.result c.from_residual.ensures.1 in
    let some : length c.args.text.now ≡ 0 → ⊥ = grind (arith, nat_tests) in
    let start : c.from.result ≡ start_of c.args.text.now = start_byte c.args.text.now c.from.result c.has_minus-negative.result c.from.ensures c.has_minus-negative.ensures in
    let bad : whole_at c.args.text.now (start_of c.args.text.now) ≡ Err c.in_err-number.field-0.0 = rw start at (sym c.in_err-number.ensures) in
    rw (p.1, p.2) (sym (int_bad c.args.text.now some c.in_err-number.field-0.0 bad))

pub returns : goal.returns
returns c =
    let some : length c.args.text.now ≡ 0 → ⊥ = grind (arith, nat_tests) in
    let start : c.from.result ≡ start_of c.args.text.now = start_byte c.args.text.now c.from.result c.has_minus-negative.result c.from.ensures c.has_minus-negative.ensures in
    let good : whole_at c.args.text.now (start_of c.args.text.now) ≡ Ok c.in_ok-number.number = rw start at (sym c.in_ok-number.ensures) in
    c.signed_fit.ensures ∙ ap (λ b. signed_fit b c.in_ok-number.number) c.has_minus-negative.ensures ∙ sym (int_good c.args.text.now some c.in_ok-number.number good)
