-- Numbers as places in lists.
use Rattle.std.proofs.Common.{◌≡◌, ◌⊎◌, inl, inr, Bool, true, false, nat_lt, ℕ, suc, zero, ◌≤◌, ◌<◌, Option, Some, None, List, [], ◌∷◌, length, map, refl, sym, ap, ◌∙◌, arith, get_or}
use Rattle.std.specs.Prelude.{All, AllPairs, slice_get}
use Rattle.std.proofs.lemmas.List.Elements.{All-nil, All-cons, All-head, All-tail}
use Rattle.std.proofs.lemmas.Bool.Decides.{nat_tests}
use Rattle.std.proofs.lemmas.List.Kept.{AllPairs-cons}
use Rattle.qd_ticker.specs.Pending.{last}
use Rattle.qd_views.specs.Views.{item_at}
use Rattle.qd_views.proofs.Lists.{pairs-none, pairs-head, pairs-tail}
use Rattle.qd_ways.specs.Paths.{number_of}

-- the place is one of the list's
abbrev pub IsPlace : {X : Type 0} → List X → ℕ → Type 0
IsPlace xs n = (1 ≤ n) × (n ≤ length xs)

slice-place : {X : Type 0} (i : ℕ) (xs : List X) (x : X) → slice_get xs i ≡ Some x → suc i ≤ length xs
slice-place i [] x h = cc h
slice-place zero (y ∷ xs) x h = omega arith
slice-place (suc i) (y ∷ xs) x h = let w = slice-place i xs x h in omega (arith, w)

pub is-place : {X : Type 0} (n : ℕ) (xs : List X) (x : X) → item_at n xs ≡ Some x → IsPlace xs n
is-place zero xs x h = cc h
is-place (suc i) xs x h = (omega arith, slice-place i xs x h)

pub head-same : {X : Type 0} (x y : X) (xs ys : List X) → x ∷ xs ≡ y ∷ ys → x ≡ y
head-same x y xs ys h = cc h

pub tail-same : {X : Type 0} (x y : X) (xs ys : List X) → x ∷ xs ≡ y ∷ ys → xs ≡ ys
tail-same x y xs ys h = cc h

-- a list that is another one's image is as long
pub same-length : {X Y Z : Type 0} (f : X → Z) (g : Y → Z) (xs : List X) (ys : List Y) → map f xs ≡ map g ys → length xs ≡ length ys
same-length f g [] [] h = refl
same-length f g [] (y ∷ ys) h = cc h
same-length f g (x ∷ xs) [] h = cc h
same-length f g (x ∷ xs) (y ∷ ys) h = ap suc (same-length f g xs ys (tail-same (f x) (g y) (map f xs) (map g ys) h))

-- where a list's images are the items, each item is its place's image
slice-image : {X : Type 0} (g : ℕ → Option X) (i : ℕ) (xs : List X) (ns : List ℕ) (x : X) → map Some xs ≡ map g ns → slice_get xs i ≡ Some x → g (get_or ns i 0) ≡ Some x
slice-image g i [] ns x h e = cc e
slice-image g i (y ∷ xs) [] x h e = cc h
slice-image g zero (y ∷ xs) (n ∷ ns) x h e = sym (head-same (Some y) (g n) (map Some xs) (map g ns) h) ∙ e
slice-image g (suc i) (y ∷ xs) (n ∷ ns) x h e = slice-image g i xs ns x (tail-same (Some y) (g n) (map Some xs) (map g ns) h) e

pub image-at : {X : Type 0} (g : ℕ → Option X) (n : ℕ) (xs : List X) (ns : List ℕ) (x : X) → map Some xs ≡ map g ns → item_at n xs ≡ Some x → g (number_of n ns) ≡ Some x
image-at g zero xs ns x h e = cc e
image-at g (suc i) xs ns x h e = slice-image g i xs ns x h e

-- the images through further numbers
pub images-through : {X : Type 0} (g h : ℕ → Option X) (f : ℕ → ℕ) (xs : List X) (ns : List ℕ) → ((n : ℕ) (x : X) → g n ≡ Some x → h (f n) ≡ Some x) → map Some xs ≡ map g ns → map Some xs ≡ map h (map f ns)
images-through g h f [] [] through e = refl
images-through g h f [] (n ∷ ns) through e = cc e
images-through g h f (x ∷ xs) [] through e = cc e
images-through g h f (x ∷ xs) (n ∷ ns) through e =
    let one : Some x ≡ h (f n) = sym (through n x (sym (head-same (Some x) (g n) (map Some xs) (map g ns) e))) in
    let rest = images-through g h f xs ns through (tail-same (Some x) (g n) (map Some xs) (map g ns) e) in
    cc (one, rest)

-- each of them is a place
pub are-places : {X : Type 0} (g : ℕ → Option X) (P : ℕ → Type 0) (xs : List X) (ns : List ℕ) → ((n : ℕ) (x : X) → g n ≡ Some x → P n) → map Some xs ≡ map g ns → All P ns
are-places g P [] [] p e = All-nil P
are-places g P [] (n ∷ ns) p e = cc e
are-places g P (x ∷ xs) [] p e = cc e
are-places g P (x ∷ xs) (n ∷ ns) p e =
    All-cons P n ns (p n x (sym (head-same (Some x) (g n) (map Some xs) (map g ns) e))) (are-places g P xs ns p (tail-same (Some x) (g n) (map Some xs) (map g ns) e))

-- an order that a function keeps
pub pairs-map : (Q S : ℕ → ℕ → Type 0) (P : ℕ → Type 0) (f : ℕ → ℕ) (ns : List ℕ) → ((m n : ℕ) → P m → P n → Q m n → S (f m) (f n)) → All P ns → AllPairs Q ns → AllPairs S (map f ns)
pairs-map Q S P f [] keeps p h = pairs-none S
pairs-map Q S P f (n ∷ ns) keeps p h =
    AllPairs-cons S (f n) (map f ns) (all ns (All-tail P n ns p) (pairs-head Q n ns h)) (pairs-map Q S P f ns keeps (All-tail P n ns p) (pairs-tail Q n ns h))
  where
    all : (ms : List ℕ) → All P ms → All (Q n) ms → All (S (f n)) (map f ms)
    all [] q a = All-nil (S (f n))
    all (m ∷ ms) q a = All-cons (S (f n)) (f m) (map f ms) (keeps n m (All-head P n ns p) (All-head P m ms q) (All-head (Q n) m ms a)) (all ms (All-tail P m ms q) (All-tail (Q n) m ms a))

-- the order of places
pub in-places : (S : ℕ → ℕ → Type 0) (ns : List ℕ) (m n : ℕ) → AllPairs S ns → IsPlace ns m → IsPlace ns n → m < n → S (number_of m ns) (number_of n ns)
in-places S ns zero n h p q lt = absurd (omega (arith, p.0))
in-places S ns (suc i) zero h p q lt = absurd (omega (arith, q.0))
in-places S ns (suc i) (suc j) h p q lt = h i j 0 (omega arith) (omega (arith, q.1))

pub at-place : (P : ℕ → Type 0) (ns : List ℕ) (n : ℕ) → All P ns → IsPlace ns n → P (number_of n ns)
at-place P ns zero h p = absurd (omega (arith, p.0))
at-place P ns (suc i) h p = h i 0 (omega (arith, p.1))

pub last-map : (f : ℕ → ℕ) (ns : List ℕ) (n : ℕ) → last ns ≡ Some n → last (map f ns) ≡ Some (f n)
last-map f [] n h = cc h
last-map f (m ∷ []) n h = let s : m ≡ n = cc h in ap (λ k. Some (f k)) s
last-map f (l ∷ m ∷ ns) n h = last-map f (m ∷ ns) n h

pub last-none : {X : Type 0} (xs : List X) → last xs ≡ None → xs ≡ []
last-none [] h = refl
last-none (x ∷ []) h = cc h
last-none (x ∷ y ∷ xs) h = let z = last-none (y ∷ xs) h in cc z

last-number : (n : ℕ) (ns : List ℕ) → last (n ∷ ns) ≡ Some (number_of (length (n ∷ ns)) (n ∷ ns))
last-number n [] = refl
last-number n (m ∷ ns) = last-number m ns

pub no-length : {X : Type 0} (xs : List X) → length xs ≡ 0 → xs ≡ []
no-length [] h = refl
no-length (x ∷ xs) h = absurd (omega (arith, h))

pub last-of-all : (ns : List ℕ) (n : ℕ) → length ns ≡ suc n → last ns ≡ Some (number_of (suc n) ns)
last-of-all [] n h = absurd (omega (arith, h))
last-of-all (m ∷ ns) n h = last-number m ns ∙ ap (λ l. Some (number_of l (m ∷ ns))) h

lt-is : (i j : ℕ) (b : Bool) → nat_lt i j ≡ b → i ≤ j → (b ≡ true → i < j) × (b ≡ false → i ≡ j)
lt-is i j b h le = (λ t. grind (arith, nat_tests), λ t. grind (arith, nat_tests))

pub by-order : (i j : ℕ) → i ≤ j → (i < j) ⊎ (i ≡ j)
by-order i j le = go (nat_lt i j) refl
  where
    go : (b : Bool) → nat_lt i j ≡ b → (i < j) ⊎ (i ≡ j)
    go true e = inl ((lt-is i j true e le).0 refl)
    go false e = inr ((lt-is i j false e le).1 refl)
