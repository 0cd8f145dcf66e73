-- Padded lists: from a list, and with one more item.
use Rattle.std.proofs.Common.{◌≡◌, ℕ, suc, ◌+◌, ◌-◌, ◌<◌, List, [], ◌∷◌, ◌++◌, length, take, drop, replicate, slice_set, refl, sym, ◌∙◌, ap, arith, add-one, length-append, append_assoc}
use Rattle.std.proofs.lemmas.List.{drop-replicate}
use Rattle.std.proofs.Math.Seq.{take-append_seam}
use Rattle.qd_scheme.specs.Padded.{IsPadded}

-- the list of a padded list that was made from a list
pub take-padded : {X : Type 0} (room : ℕ) (z : X) (xs items : List X) → items ≡ xs ++ drop (length xs) (replicate room z) → take (length xs) items ≡ xs
take-padded room z xs items e = ap (λ ys. take (length xs) ys) e ∙ take-append_seam xs (drop (length xs) (replicate room z))

pub IsPadded-made : {X : Type 0} (room : ℕ) (z : X) (xs items : List X) → items ≡ xs ++ drop (length xs) (replicate room z) → IsPadded room z (length xs) items
IsPadded-made room z xs items e =
    let front : take (length xs) items ≡ xs = take-padded room z xs items e in
    record { full = ap length front; fillers = rw front (e ∙ ap (λ ys. xs ++ ys) (drop-replicate (length xs) room z)) }

at_end : {X : Type 0} (a r : List X) (z v : X) → slice_set (a ++ z ∷ r) (length a) v ≡ a ++ v ∷ r
at_end [] r z v = refl
at_end (x ∷ a) r z v = ap (λ t. x ∷ t) (at_end a r z v)

front : {X : Type 0} (a r : List X) (v : X) → take (suc (length a)) (a ++ v ∷ r) ≡ a ++ v ∷ []
front [] r v = refl
front (x ∷ a) r v = ap (λ t. x ∷ t) (front a r v)

padded : {X : Type 0} (room : ℕ) (z v : X) (a : List X) → length a < room → IsPadded room z (length a + 1) (slice_set (a ++ replicate (room - length a) z) (length a) v)
padded room z v a h =
    let e : room - length a ≡ suc (room - (length a + 1)) = omega arith in
    rw e (rw at_end (record {
      full = rw (add-one, front) (omega (arith, length-append a (v ∷ [])));
      fillers = rw (add-one, front) (sym (append_assoc a (v ∷ []) (replicate (room - suc (length a)) z)));
    }))

pub IsPadded-push : {X : Type 0} (room len : ℕ) (z v : X) (items a : List X) → len < room → length a ≡ len → items ≡ a ++ replicate (room - len) z → IsPadded room z (len + 1) (slice_set items len v)
IsPadded-push room len z v items a h e f = rw f (rw (← e) (padded room z v a (omega arith)))
