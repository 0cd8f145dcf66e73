use Rattle.std.proofs.Common.{◌≡◌, ◌<◌, ◌∙◌, sym, arith, length}
use Rattle.std.proofs.lemmas.Result.{err_from_is_err_and}
use Rattle.std.proofs.lemmas.Bool.Decides.{nat_tests}
use Rattle.qd_decimal.proofs.Wholes.{count_empty, count_bad, count_good}
use Rattle.qd_decimal.proofs.reading.count.Goals as goal

pub returns-then-is_empty : goal.returns-then-is_empty
returns-then-is_empty c =
    let none : length c.args.text.now ≡ 0 = grind (arith, nat_tests) in
    sym (count_empty c.args.most c.args.text.now none)

pub returns-in_err-number : goal.returns-in_err-number
returns-in_err-number c =
    let p = err_from_is_err_and c.from_residual.result c.from_residual.ensures.1 in
    let some : length c.args.text.now ≡ 0 → ⊥ = grind (arith, nat_tests) in
    rw (p.1, p.2) (sym (count_bad c.args.most c.args.text.now some c.in_err-number.field-0.0 (sym c.in_err-number.ensures)))

pub returns : goal.returns
returns c =
    let some : length c.args.text.now ≡ 0 → ⊥ = grind (arith, nat_tests) in
    c.count_fit.ensures.value ∙ sym (count_good c.args.most c.args.text.now some c.in_ok-number.number (sym c.in_ok-number.ensures))
