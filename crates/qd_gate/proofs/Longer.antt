-- The longer of two logs.
use Rattle.std.proofs.Common.{List, length, sym, subst, ⊎_elim, arith}
use Rattle.std.specs.Prelude.{if◌then◌else◌, nat_le, Bool, true, false}
use Rattle.std.proofs.lemmas.Bool.Decides.{leb_tells}
use mathlib.Core.List.{IsPrefix}
use Rattle.qd_gate.specs.declared.machine.Entry.{Entry}
use Rattle.qd_gate.specs.Rules.{longer}
use Rattle.qd_gate.proofs.Prefixes.{prefix_self, prefix_shorter}

-- the longer of two beginnings of a log is one, and begins with both
pub longer_begins : {O R : Type 0} (xs ys log : List (Entry O R)) → IsPrefix xs log → IsPrefix ys log → IsPrefix xs (longer xs ys) × IsPrefix ys (longer xs ys) × IsPrefix (longer xs ys) log
longer_begins {O} {R} xs ys log p q =
    let L : Type 0 = List (Entry O R) in let Both : L → Type 0 = λ zs. IsPrefix xs zs × IsPrefix ys zs × IsPrefix zs log in ⊎_elim
    (λ t. subst (λ b. Both (if b then ys else xs)) (sym t.0) (prefix_shorter xs ys log p q t.1, prefix_self ys, q))
    (λ t. let le = t.1 in subst (λ b. Both (if b then ys else xs)) (sym t.0) (prefix_self xs, prefix_shorter ys xs log q p (omega arith), p))
    (leb_tells (length xs) (length ys))

either_legal : {L : Type 0} (b : Bool) (legal : L → Type 0) (xs ys : L) → legal xs → legal ys → legal (if b then ys else xs)
either_legal true legal xs ys p q = q
either_legal false legal xs ys p q = p

pub longer_legal : {O R : Type 0} (legal : List (Entry O R) → Type 0) (xs ys : List (Entry O R)) → legal xs → legal ys → legal (longer xs ys)
longer_legal legal xs ys p q = either_legal (nat_le (length xs) (length ys)) legal xs ys p q
