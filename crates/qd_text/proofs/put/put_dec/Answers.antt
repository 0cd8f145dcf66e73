use Rattle.std.proofs.Common.{◌≡◌, ◌<◌, ◌^◌, ◌++◌, ◌∷◌, cond, subst, rules, arith, w64, to_z, of_z}
use lib.IntN.{ℤ}
use Rattle.std.proofs.lemmas.Int.{to_z-of_z}
use Rattle.qd_decimal.specs.Texts.{dec_text, distance}
use Rattle.qd_text.proofs.Lengths.{either_short, text_short}
use Rattle.qd_text.proofs.put.put_dec.Goals as goal

pub returns-clause-short : goal.returns-clause-short
returns-clause-short c =
    let small : distance c.args.value < 2 ^ 64 = search rules in
    let same : to_z w64 (of_z w64 c.args.value) ≡ c.args.value = to_z-of_z w64 c.args.value c.ranges.value in
    let appended = subst (λ (z : ℤ). c.write_dec_part.new.out ≡ cond c.write_dec_part.result (c.args.out.now ++ 9 ∷ dec_text c.args.scale z) c.args.out.now) same c.write_dec_part.ensures.appended in
    either_short c.write_dec_part.result c.args.out.now (9 ∷ dec_text c.args.scale c.args.value) c.write_dec_part.new.out 32 appended (omega (arith, text_short c.args.scale c.args.value c.requires.scaled small))
