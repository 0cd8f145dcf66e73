use Rattle.std.proofs.Common.{arith, ◌∙◌, ap, ◌+◌, ◌++◌, drop}
use Rattle.std.specs.Prelude.{decimal}
use Rattle.qd_decimal.proofs.FixedDigits.{no_point, number_small, number_short, number_some, point_at}
use Rattle.qd_decimal.proofs.writing.write_point.Goals as goal

pub returns-then-part-eq0-clause-text : goal.returns-then-part-eq0-clause-text
returns-then-part-eq0-clause-text c = no_point c.args.places c.args.part (drop 32 c.args.buffer.now) c.if-part-eq0.true

pub write_digits-start-requires : goal.write_digits-start-requires
write_digits-start-requires c =
    let small = number_small c.without_zeros-fraction.result.places c.without_zeros-fraction.result.digits c.power_of_ten.result (omega arith) c.power_of_ten.ensures.value c.without_zeros-fraction.ensures.fits in
    (omega (arith, number_short (c.power_of_ten.result + c.without_zeros-fraction.result.digits) small), omega arith)

pub bounds-buffer-start : goal.bounds-buffer-start
bounds-buffer-start c =
    let small = number_small c.without_zeros-fraction.result.places c.without_zeros-fraction.result.digits c.power_of_ten.result (omega arith) c.power_of_ten.ensures.value c.without_zeros-fraction.ensures.fits in
    omega (arith, c.write_digits-start.ensures.start, number_some (c.power_of_ten.result + c.without_zeros-fraction.result.digits) small)

pub returns-clause-room : goal.returns-clause-room
returns-clause-room c =
    let small = number_small c.without_zeros-fraction.result.places c.without_zeros-fraction.result.digits c.power_of_ten.result (omega arith) c.power_of_ten.ensures.value c.without_zeros-fraction.ensures.fits in
    omega (arith, c.write_digits-start.ensures.start, number_short (c.power_of_ten.result + c.without_zeros-fraction.result.digits) small)

pub returns-clause-text : goal.returns-clause-text
returns-clause-text c =
    let small = number_small c.without_zeros-fraction.result.places c.without_zeros-fraction.result.digits c.power_of_ten.result (omega arith) c.power_of_ten.ensures.value c.without_zeros-fraction.ensures.fits in
    let some = number_some (c.power_of_ten.result + c.without_zeros-fraction.result.digits) small in
    let power = c.power_of_ten.ensures.value in
    point_at c.write_digits-start.new.buf (drop 32 c.args.buffer.now) c.write_digits-start.result c.without_zeros-fraction.result.places c.without_zeros-fraction.result.digits c.args.part c.args.places
    (omega (arith, c.write_digits-start.ensures.start, some))
    (c.write_digits-start.ensures.written ∙ ap (λ p. decimal (p + c.without_zeros-fraction.result.digits) ++ drop 32 c.args.buffer.now) power)
    c.without_zeros-fraction.ensures.fits (omega (arith, small, power)) c.without_zeros-fraction.ensures.last (omega arith) c.without_zeros-fraction.ensures.text
