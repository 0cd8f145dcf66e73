use Rattle.std.proofs.Common.{ℕ, suc, ◌+◌, ◌++◌, ◌∷◌, List, arith, sym, ◌∙◌, ap, length}
use Rattle.std.specs.Prelude.{nat_le, if◌then◌else◌}
use Rattle.qd_decimal.proofs.Short.{one_digit, two_digits}
use Rattle.qd_decimal.proofs.writing.write_count_part.Goals as goal

pub returns-then-value-lt10-clause-room : goal.returns-then-value-lt10-clause-room
returns-then-value-lt10-clause-room c = c.append.ensures.room ∙ ap (λ (t : List ℕ). nat_le (length c.args.out.now + suc (length t)) 4096) (sym (one_digit c.args.value (omega arith)))

pub returns-then-value-lt10-clause-appended : goal.returns-then-value-lt10-clause-appended
returns-then-value-lt10-clause-appended c = c.append.ensures.appended ∙ ap (λ (t : List ℕ). if c.append.result then c.args.out.now ++ 9 ∷ t else c.args.out.now) (sym (one_digit c.args.value (omega arith)))

pub returns-then-value-lt100-clause-room : goal.returns-then-value-lt100-clause-room
returns-then-value-lt100-clause-room c = c.append-then-value-lt100.ensures.room ∙ ap (λ (t : List ℕ). nat_le (length c.args.out.now + suc (length t)) 4096) (sym (two_digits c.args.value (omega arith) (omega arith)))

pub returns-then-value-lt100-clause-appended : goal.returns-then-value-lt100-clause-appended
returns-then-value-lt100-clause-appended c = c.append-then-value-lt100.ensures.appended ∙ ap (λ (t : List ℕ). if c.append-then-value-lt100.result then c.args.out.now ++ 9 ∷ t else c.args.out.now) (sym (two_digits c.args.value (omega arith) (omega arith)))
