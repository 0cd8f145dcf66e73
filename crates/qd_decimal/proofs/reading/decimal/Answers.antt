use Rattle.std.proofs.Common.{◌≡◌, ◌+◌, ◌-◌, ◌^◌, ◌<◌, ◌≤◌, ◌∙◌, sym, ap, arith, length, get_or, min, slice_range}
use Rattle.std.specs.Prelude.{Some, Ok, Err}
use Rattle.std.proofs.lemmas.Result.{err_from_is_err_and}
use Rattle.std.proofs.lemmas.Bool.Decides.{nat_tests}
use Rattle.qd_decimal.specs.Numbers.{with_digits, signed_fit}
use Rattle.qd_decimal.specs.Reading.{digits_end, has_minus, start_of, fraction_start, kept_end, rest_at, magnitude_at}
use Rattle.qd_decimal.specs.declared.fault.DecFault.TheVariants.{BadByte}
use Rattle.qd_decimal.proofs.Places.{start_within}
use Rattle.qd_decimal.proofs.OnePass.{run_end, dec_empty, dec_no_digit, dec_no_point, dec_rest_bad, dec_rest_good, magnitude_made, start_byte}
use Rattle.qd_decimal.proofs.reading.decimal.Goals as goal
use Rattle.qd_decimal.proofs.reading.decimal.Goals.{else-whole-text-via-then-whole-text+else-text-whole-ne46, else-whole-text-via-else-whole-text}

pub returns-then-is_empty : goal.returns-then-is_empty
returns-then-is_empty c =
    let none : length c.args.text.now ≡ 0 = grind (arith, nat_tests) in
    sym (dec_empty c.args.scale c.args.text.now none)

pub returns-then-whole-start : goal.returns-then-whole-start
returns-then-whole-start c =
    let some : length c.args.text.now ≡ 0 → ⊥ = grind (arith, nat_tests) in
    let start : c.from-start.result ≡ start_of c.args.text.now = start_byte c.args.text.now c.from-start.result c.has_minus-negative.result c.from-start.ensures c.has_minus-negative.ensures in
    let run : c.run_of-whole.result.end ≡ min (digits_end c.args.text.now (start_of c.args.text.now)) (length c.args.text.now) = rw start at c.run_of-whole.ensures.end in
    let ends : digits_end c.args.text.now (start_of c.args.text.now) ≡ c.run_of-whole.result.end = sym (run_end c.args.text.now (start_of c.args.text.now) c.run_of-whole.result.end (start_within c.args.text.now) run) in
    ap (λ n. Err (BadByte (n + 1))) start ∙ sym (dec_no_digit c.args.scale c.args.text.now some c.run_of-whole.result.end ends (c.if-whole-start.true ∙ start))

pub returns-then-text-whole-ne46 : goal.returns-then-text-whole-ne46
returns-then-text-whole-ne46 c =
    let some : length c.args.text.now ≡ 0 → ⊥ = grind (arith, nat_tests) in
    let start : c.from-start.result ≡ start_of c.args.text.now = start_byte c.args.text.now c.from-start.result c.has_minus-negative.result c.from-start.ensures c.has_minus-negative.ensures in
    let run : c.run_of-whole.result.end ≡ min (digits_end c.args.text.now (start_of c.args.text.now)) (length c.args.text.now) = rw start at c.run_of-whole.ensures.end in
    let ends : digits_end c.args.text.now (start_of c.args.text.now) ≡ c.run_of-whole.result.end = sym (run_end c.args.text.now (start_of c.args.text.now) c.run_of-whole.result.end (start_within c.args.text.now) run) in
    let digit : c.run_of-whole.result.end ≡ start_of c.args.text.now → ⊥ = λ e. c.if-whole-start.false (e ∙ sym start) in
    sym (dec_no_point c.args.scale c.args.text.now some c.run_of-whole.result.end ends digit c.if-whole-text.true c.if-text-whole-ne46.true)

pub returns-in_err-rest_at : goal.returns-in_err-rest_at
returns-in_err-rest_at c =
    let p = err_from_is_err_and c.from_residual.result c.from_residual.ensures.1 in
    let some : length c.args.text.now ≡ 0 → ⊥ = grind (arith, nat_tests) in
    let start : c.from-start.result ≡ start_of c.args.text.now = start_byte c.args.text.now c.from-start.result c.has_minus-negative.result c.from-start.ensures c.has_minus-negative.ensures in
    let run : c.run_of-whole.result.end ≡ min (digits_end c.args.text.now (start_of c.args.text.now)) (length c.args.text.now) = rw start at c.run_of-whole.ensures.end in
    let ends : digits_end c.args.text.now (start_of c.args.text.now) ≡ c.run_of-whole.result.end = sym (run_end c.args.text.now (start_of c.args.text.now) c.run_of-whole.result.end (start_within c.args.text.now) run) in
    let digit : c.run_of-whole.result.end ≡ start_of c.args.text.now → ⊥ = λ e. c.if-whole-start.false (e ∙ sym start) in
    let point : c.run_of-whole.result.end < length c.args.text.now → get_or c.args.text.now c.run_of-whole.result.end 0 ≡ 46 = λ l. elim c.else-whole-text.branch [
      | else-whole-text-via-then-whole-text+else-text-whole-ne46 w ↦ w.if-text-whole-ne46.false
      | else-whole-text-via-else-whole-text w ↦ absurd (omega arith)
    ] in
    let kept : c.min-kept.result ≡ kept_end c.args.scale c.args.text.now (fraction_start c.args.text.now c.run_of-whole.result.end) = cc in
    let rest : rest_at c.args.text.now c.min-fraction.result c.min-kept.result ≡ Err c.in_err-rest_at.field-0.0 = sym c.in_err-rest_at.ensures.rest in
    let bad : rest_at c.args.text.now (fraction_start c.args.text.now c.run_of-whole.result.end) (kept_end c.args.scale c.args.text.now (fraction_start c.args.text.now c.run_of-whole.result.end)) ≡ Err c.in_err-rest_at.field-0.0 = cc in
    rw (p.1, p.2) (sym (dec_rest_bad c.args.scale c.args.text.now some c.run_of-whole.result.end ends digit point c.in_err-rest_at.field-0.0 bad))

pub returns : goal.returns
returns c =
    let some : length c.args.text.now ≡ 0 → ⊥ = grind (arith, nat_tests) in
    let start : c.from-start.result ≡ start_of c.args.text.now = start_byte c.args.text.now c.from-start.result c.has_minus-negative.result c.from-start.ensures c.has_minus-negative.ensures in
    let run : c.run_of-whole.result.end ≡ min (digits_end c.args.text.now (start_of c.args.text.now)) (length c.args.text.now) = rw start at c.run_of-whole.ensures.end in
    let ends : digits_end c.args.text.now (start_of c.args.text.now) ≡ c.run_of-whole.result.end = sym (run_end c.args.text.now (start_of c.args.text.now) c.run_of-whole.result.end (start_within c.args.text.now) run) in
    let digit : c.run_of-whole.result.end ≡ start_of c.args.text.now → ⊥ = λ e. c.if-whole-start.false (e ∙ sym start) in
    let point : c.run_of-whole.result.end < length c.args.text.now → get_or c.args.text.now c.run_of-whole.result.end 0 ≡ 46 = λ l. elim c.else-whole-text.branch [
      | else-whole-text-via-then-whole-text+else-text-whole-ne46 w ↦ w.if-text-whole-ne46.false
      | else-whole-text-via-else-whole-text w ↦ absurd (omega arith)
    ] in
    let kept : c.min-kept.result ≡ kept_end c.args.scale c.args.text.now (fraction_start c.args.text.now c.run_of-whole.result.end) = cc in
    let rest : rest_at c.args.text.now c.min-fraction.result c.min-kept.result ≡ Ok tt = sym c.in_ok-rest_at.ensures.rest in
    let good : rest_at c.args.text.now (fraction_start c.args.text.now c.run_of-whole.result.end) (kept_end c.args.scale c.args.text.now (fraction_start c.args.text.now c.run_of-whole.result.end)) ≡ Ok tt = cc in
    let whole : c.run_of-whole.result.number ≡ with_digits (Some 0) (slice_range c.args.text.now (start_of c.args.text.now) c.run_of-whole.result.end) = rw start at c.run_of-whole.ensures.number in
    let at_kept : c.run_of-part.result.end ≡ c.min-kept.result = c.in_ok-rest_at.ensures.kept in
    let part : c.run_of-part.result.number ≡ with_digits c.run_of-whole.result.number (slice_range c.args.text.now c.min-fraction.result c.min-kept.result) = rw at_kept at c.run_of-part.ensures.number in
    let fraction : c.min-fraction.result ≡ fraction_start c.args.text.now c.run_of-whole.result.end = c.min-fraction.ensures in
    let power : c.power_of_ten.result ≡ 10 ^ (c.args.scale - (c.min-kept.result - c.min-fraction.result)) = c.power_of_ten.ensures.value in
    let made : c.times.result ≡ magnitude_at c.args.scale c.args.text.now (start_of c.args.text.now) c.run_of-whole.result.end (fraction_start c.args.text.now c.run_of-whole.result.end) (kept_end c.args.scale c.args.text.now (fraction_start c.args.text.now c.run_of-whole.result.end)) = magnitude_made c.args.scale c.args.text.now (start_of c.args.text.now) c.run_of-whole.result.end (fraction_start c.args.text.now c.run_of-whole.result.end) (kept_end c.args.scale c.args.text.now (fraction_start c.args.text.now c.run_of-whole.result.end)) c.power_of_ten.result c.run_of-whole.result.number c.run_of-part.result.number c.times.result whole (rw (kept, fraction) at part) (rw (kept, fraction) at power) c.times.ensures in
    c.signed_fit.ensures
    ∙ ap (λ b. signed_fit b c.times.result) c.has_minus-negative.ensures
    ∙ ap (λ v. signed_fit (has_minus c.args.text.now) v) made
    ∙ sym (dec_rest_good c.args.scale c.args.text.now some c.run_of-whole.result.end ends digit point good)
