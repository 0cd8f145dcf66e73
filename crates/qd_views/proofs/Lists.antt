-- Parts of lists, lists in order, and the last of a list.
use Rattle.std.proofs.Common.{◌≡◌, inl, inr, ℕ, suc, zero, ◌≤◌, ◌<◌, Some, List, [], ◌∷◌, ◌++◌, length, refl, sym, ap, arith, subst}
use Rattle.std.specs.Prelude.{All, AllPairs, slice_get}
use Rattle.std.proofs.lemmas.List.Elements.{All-nil, All-cons, All-head, All-tail, All-append}
use Rattle.std.proofs.lemmas.List.Kept.{AllPairs-cons}
use Rattle.qd_ticker.specs.Pending.{last}
use Rattle.qd_views.specs.Views.{item_at, IsPart}

pub pairs-head : {X : Type 0} (R : X → X → Type 0) (x : X) (xs : List X) → AllPairs R (x ∷ xs) → All (R x) xs
pairs-head R x xs h k d l = h 0 (suc k) d (omega arith) (omega arith)

pub pairs-tail : {X : Type 0} (R : X → X → Type 0) (x : X) (xs : List X) → AllPairs R (x ∷ xs) → AllPairs R xs
pairs-tail R x xs h i j d o l = h (suc i) (suc j) d (omega arith) (omega arith)

pub pairs-none : {X : Type 0} (R : X → X → Type 0) → AllPairs R []
pairs-none R i j d o l = absurd (omega arith)

-- one more at the end
pub pairs-push : {X : Type 0} (R : X → X → Type 0) (xs : List X) (y : X) → AllPairs R xs → All (λ x. R x y) xs → AllPairs R (xs ++ y ∷ [])
pairs-push R [] y h a = AllPairs-cons R y [] (All-nil (R y)) (pairs-none R)
pairs-push R (x ∷ xs) y h a =
    AllPairs-cons R x (xs ++ y ∷ []) (All-append (R x) xs (y ∷ []) (pairs-head R x xs h) (All-cons (R x) y [] (All-head (λ x. R x y) x xs a) (All-nil (R x))))
    (pairs-push R xs y (pairs-tail R x xs h) (All-tail (λ x. R x y) x xs a))

pub part-self : {X : Type 0} (xs : List X) → IsPart xs xs
part-self [] = refl
part-self (x ∷ xs) = inr (xs, refl, part-self xs)

part-none : {X : Type 0} (zs : List X) → IsPart [] zs
part-none [] = refl
part-none (z ∷ zs) = inl (part-none zs)

-- a part of a list that goes on
pub part-more : {X : Type 0} (xs ys zs : List X) → IsPart xs ys → IsPart xs (ys ++ zs)
part-more xs [] zs h = subst (λ l. IsPart l zs) (sym h) (part-none zs)
part-more xs (y ∷ ys) zs (inl h) = inl (part-more xs ys zs h)
part-more xs (y ∷ ys) zs (inr (rest, is, h)) = inr (rest, is, part-more rest ys zs h)

-- and takes up its next one
pub part-push : {X : Type 0} (xs ys : List X) (z : X) → IsPart xs ys → IsPart (xs ++ z ∷ []) (ys ++ z ∷ [])
part-push xs [] z h = inr ([], ap (λ l. l ++ z ∷ []) h, refl)
part-push xs (y ∷ ys) z (inl h) = inl (part-push xs ys z h)
part-push xs (y ∷ ys) z (inr (rest, is, h)) = inr (rest ++ z ∷ [], ap (λ l. l ++ z ∷ []) is, part-push rest ys z h)

pub part-all : {X : Type 0} (P : X → Type 0) (xs ys : List X) → IsPart xs ys → All P ys → All P xs
part-all P xs [] h a = subst (λ l. All P l) (sym h) a
part-all P xs (y ∷ ys) (inl h) a = part-all P xs ys h (All-tail P y ys a)
part-all P xs (y ∷ ys) (inr (rest, is, h)) a = subst (λ l. All P l) (sym is) (All-cons P y rest (All-head P y ys a) (part-all P rest ys h (All-tail P y ys a)))

pub part-pairs : {X : Type 0} (R : X → X → Type 0) (xs ys : List X) → IsPart xs ys → AllPairs R ys → AllPairs R xs
part-pairs R xs [] h a = subst (λ l. AllPairs R l) (sym h) a
part-pairs R xs (y ∷ ys) (inl h) a = part-pairs R xs ys h (pairs-tail R y ys a)
part-pairs R xs (y ∷ ys) (inr (rest, is, h)) a =
    subst (λ l. AllPairs R l) (sym is) (AllPairs-cons R y rest (part-all (R y) rest ys h (pairs-head R y ys a)) (part-pairs R rest ys h (pairs-tail R y ys a)))

pub last-push : {X : Type 0} (xs : List X) (x : X) → last (xs ++ x ∷ []) ≡ Some x
last-push [] x = refl
last-push (y ∷ []) x = refl
last-push (y ∷ z ∷ rest) x = last-push (z ∷ rest) x

-- the last of a list that ends with a list that is not empty
pub last-behind : {X : Type 0} (xs ys : List X) (y : X) → last ys ≡ Some y → last (xs ++ ys) ≡ Some y
last-behind [] ys y h = h
last-behind (x ∷ []) [] y h = cc h
last-behind (x ∷ []) (z ∷ zs) y h = h
last-behind (x ∷ w ∷ rest) ys y h = last-behind (w ∷ rest) ys y h

-- the last item is the one at the place of the length
pub item_at-last : {X : Type 0} (xs : List X) → item_at (length xs) xs ≡ last xs
item_at-last [] = refl
item_at-last (x ∷ []) = refl
item_at-last (x ∷ y ∷ rest) = item_at-last (y ∷ rest)

slice_get-more : {X : Type 0} (n : ℕ) (xs ys : List X) → n < length xs → slice_get (xs ++ ys) n ≡ slice_get xs n
slice_get-more n [] ys h = absurd (omega arith)
slice_get-more zero (x ∷ xs) ys h = refl
slice_get-more (suc n) (x ∷ xs) ys h = slice_get-more n xs ys (omega arith)

-- an item keeps its place
pub item_at-more : {X : Type 0} (n : ℕ) (xs ys : List X) → n ≤ length xs → item_at n (xs ++ ys) ≡ item_at n xs
item_at-more zero xs ys h = refl
item_at-more (suc n) xs ys h = slice_get-more n xs ys (omega arith)
