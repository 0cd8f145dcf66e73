-- Sums over lists in which nothing stands twice.
use Rattle.std.proofs.Common.{◌≡◌, ℕ, ◌+◌, Bool, true, false, ◌&&◌, ◌||◌, not, if◌then◌else◌, List, [], ◌∷◌, ◌++◌, refl, ◌∙◌, ap, arith}
use Rattle.std.specs.List.{filter, list_any, sum_by}
use Rattle.std.proofs.lemmas.List.{append-nil}
use Rattle.std.proofs.lemmas.List.Sums.{sum_by-cons}
use Rattle.std.proofs.lemmas.List.Elements.{filter-append}
use Rattle.qd_sub.proofs.SinceLaws.{grown}
use Rattle.qd_sub.proofs.OrderLaws.{once}

-- those of a list that are not x
abbrev pub others : {X : Type 0} → (X → X → Bool) → X → List X → List X
others eq x xs = filter (λ y. not (eq x y)) xs

both : (a b : Bool) → (not a && b) ≡ true → (a ≡ false) × (b ≡ true)
both true b h = cc h
both false b h = (refl, h)

-- a sum is that over the others, with x's number where x is there
pub sum-parted : {X : Type 0} (eq : X → X → Bool) → ((x y : X) → eq x y ≡ true → x ≡ y) → (f : X → ℕ) (x : X) (xs : List X) → once eq xs ≡ true → sum_by f xs ≡ sum_by f (others eq x xs) + (if list_any (eq x) xs then f x else 0)
unfolding once
sum-parted eq exact f x [] h = omega arith
sum-parted eq exact f x (y ∷ ys) h =
    let p = both (list_any (eq y) ys) (once eq ys) h in
    go (eq x y) refl p.0 (sum-parted eq exact f x ys p.1)
  where
    go : (b : Bool) → eq x y ≡ b → list_any (eq y) ys ≡ false → sum_by f ys ≡ sum_by f (others eq x ys) + (if list_any (eq x) ys then f x else 0)
        → sum_by f (y ∷ ys) ≡ sum_by f (if not b then y ∷ others eq x ys else others eq x ys) + (if b || list_any (eq x) ys then f x else 0)
    go true e alone ih =
        let same : x ≡ y = exact x y e in
        let none : list_any (eq x) ys ≡ false = ap (λ z. list_any (eq z) ys) same ∙ alone in
        let rest : sum_by f ys ≡ sum_by f (others eq x ys) + 0 = ih ∙ ap (λ b. sum_by f (others eq x ys) + (if b then f x else 0)) none in
        let here : f x ≡ f y = ap f same in
        let first = sum_by-cons f y ys in
        omega (arith, rest, here, first)
    go false e alone ih = let first = sum_by-cons f y ys in let second = sum_by-cons f y (others eq x ys) in omega (arith, ih, first, second)

pub sum-agree : {X : Type 0} (f g : X → ℕ) (xs : List X) → ((y : X) → f y ≡ g y) → sum_by f xs ≡ sum_by g xs
sum-agree f g [] same = refl
sum-agree f g (y ∷ ys) same = let first = sum_by-cons f y ys in let second = sum_by-cons g y ys in let here = same y in let rest = sum-agree f g ys same in omega (arith, first, second, here, rest)

-- numbers that differ at x alone have one sum over the others
pub sum-others : {X : Type 0} (eq : X → X → Bool) (f g : X → ℕ) (x : X) (xs : List X) → ((y : X) → eq x y ≡ false → f y ≡ g y) → sum_by f (others eq x xs) ≡ sum_by g (others eq x xs)
sum-others eq f g x [] same = refl
sum-others eq f g x (y ∷ ys) same = go (eq x y) refl (sum-others eq f g x ys same)
  where
    go : (b : Bool) → eq x y ≡ b → sum_by f (others eq x ys) ≡ sum_by g (others eq x ys) → sum_by f (if not b then y ∷ others eq x ys else others eq x ys) ≡ sum_by g (if not b then y ∷ others eq x ys else others eq x ys)
    go true e ih = ih
    go false e ih = let first = sum_by-cons f y (others eq x ys) in let second = sum_by-cons g y (others eq x ys) in let here : f y ≡ g y = same y e in omega (arith, ih, first, second, here)

-- the others of a list to which x was added, or from which it was taken
pub others-grown : {X : Type 0} (eq : X → X → Bool) (x : X) (xs : List X) → eq x x ≡ true → others eq x (grown eq xs x) ≡ others eq x xs
unfolding grown
others-grown eq x xs h = go (list_any (eq x) xs)
  where
    go : (b : Bool) → others eq x (if b then xs else xs ++ x ∷ []) ≡ others eq x xs
    go true = refl
    go false =
        filter-append (λ y. not (eq x y)) xs (x ∷ [])
        ∙ ap (λ (b : Bool). others eq x xs ++ (if not b then x ∷ [] else [])) h ∙ append-nil (others eq x xs)

pub others-twice : {X : Type 0} (eq : X → X → Bool) (x : X) (xs : List X) → others eq x (others eq x xs) ≡ others eq x xs
others-twice eq x [] = refl
others-twice eq x (y ∷ ys) = go (eq x y) refl (others-twice eq x ys)
  where
    go : (b : Bool) → eq x y ≡ b → others eq x (others eq x ys) ≡ others eq x ys → others eq x (if not b then y ∷ others eq x ys else others eq x ys) ≡ (if not b then y ∷ others eq x ys else others eq x ys)
    go true e ih = ih
    go false e ih = ap (λ b. if not b then y ∷ others eq x (others eq x ys) else others eq x (others eq x ys)) e ∙ ap (λ zs. y ∷ zs) ih
