use Rattle.std.proofs.Common.{◌≡◌, ◌+◌, ◌<◌, ◌≤◌, ◌∙◌, sym, ap, arith, length}
use Rattle.qd_decimal.specs.Reading.{digits_end, zeros_end}
use Rattle.qd_decimal.proofs.Places.{end_within}
use Rattle.qd_decimal.proofs.Ends.{digits_past, rest_bad, rest_fine, rest_coarse, zeros_within}
use Rattle.qd_decimal.proofs.reading.rest_at.Goals as goal

pub returns-then-end-kept-clause-rest : goal.returns-then-end-kept-clause-rest
returns-then-end-kept-clause-rest c = sym (rest_bad c.args.text.now c.args.fraction c.args.kept c.args.end (omega arith) (omega arith))

pub returns-then-zeros-text-clause-rest : goal.returns-then-zeros-text-clause-rest
returns-then-zeros-text-clause-rest c =
    let past : digits_end c.args.text.now (zeros_end c.args.text.now c.args.kept) ≡ digits_end c.args.text.now c.args.fraction = digits_past c.args.text.now c.args.fraction c.args.kept c.requires.order (omega arith) in
    let all : digits_end c.args.text.now c.args.fraction ≤ length c.args.text.now = end_within c.args.text.now c.args.fraction (omega arith) in
    let zeros : zeros_end c.args.text.now c.args.kept ≡ length c.args.text.now = sym c.zeros_end-zeros.ensures.end ∙ c.if-zeros-text.true in
    let least : zeros_end c.args.text.now c.args.kept ≤ digits_end c.args.text.now c.args.fraction = zeros_within c.args.text.now c.args.fraction c.args.kept c.requires.order (omega arith) in
    sym (rest_fine c.args.text.now c.args.fraction c.args.kept (omega arith) zeros)

pub returns-then-digits-text-clause-rest : goal.returns-then-digits-text-clause-rest
returns-then-digits-text-clause-rest c =
    let past : digits_end c.args.text.now (zeros_end c.args.text.now c.args.kept) ≡ digits_end c.args.text.now c.args.fraction = digits_past c.args.text.now c.args.fraction c.args.kept c.requires.order (omega arith) in
    let here : c.digits_end-digits.result ≡ digits_end c.args.text.now c.args.fraction = c.digits_end-digits.ensures.end ∙ ap (λ n. digits_end c.args.text.now n) c.zeros_end-zeros.ensures.end ∙ past in
    sym (rest_bad c.args.text.now c.args.fraction c.args.kept c.digits_end-digits.result (sym here) c.if-digits-text.true)

pub returns-clause-rest : goal.returns-clause-rest
returns-clause-rest c =
    let past : digits_end c.args.text.now (zeros_end c.args.text.now c.args.kept) ≡ digits_end c.args.text.now c.args.fraction = digits_past c.args.text.now c.args.fraction c.args.kept c.requires.order (omega arith) in
    let here : c.digits_end-digits.result ≡ digits_end c.args.text.now c.args.fraction = c.digits_end-digits.ensures.end ∙ ap (λ n. digits_end c.args.text.now n) c.zeros_end-zeros.ensures.end ∙ past in
    sym (rest_coarse c.args.text.now c.args.fraction c.args.kept c.zeros_end-zeros.result (omega arith) (sym c.zeros_end-zeros.ensures.end) c.if-zeros-text.false)
