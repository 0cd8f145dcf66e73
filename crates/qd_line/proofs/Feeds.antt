-- Bytes with no line feed, by index.
use Rattle.std.proofs.Common.{◌≡◌, ℕ, zero, suc, ◌+◌, ◌-◌, ◌<◌, ◌≤◌, min, Bool, true, false, List, [], ◌∷◌, ◌++◌, length, take, drop, get_or, slice_range, refl, sym, ◌∙◌, ap, arith, length-take, length-drop}
use Rattle.std.specs.Prelude.{◌==◌, ◌&&◌, not, nat_eq, nat_le, nat_lt}
use Rattle.std.proofs.lemmas.Bool.Decides.{nat_tests}
use Rattle.std.proofs.lemmas.List.{get_or-take, get_or-drop, take_all}
use Rattle.memchr.specs.Find.{Nowhere, Passes, is_byte}
use Rattle.qd_line.specs.Cutter.{TellsHungry}
use Rattle.qd_line.specs.Lines.{is_one_line}

not_feed : (b : ℕ) → (b ≡ 10 → ⊥) → not (nat_eq b 10) ≡ true
not_feed b h = let t : nat_eq b 10 ≡ false = grind (arith, nat_tests) in rw t refl

is_feed : (b : ℕ) → not (nat_eq b 10) ≡ true → b ≡ 10 → ⊥
is_feed b h e = let t : nat_eq b 10 ≡ true = grind (arith, nat_tests) in let f : false ≡ true = rw t at h in cc

pub and_left : (a b : Bool) → (a && b) ≡ true → a ≡ true
and_left true b h = refl
and_left false b h = absurd (cc)

pub and_right : (a b : Bool) → (a && b) ≡ true → b ≡ true
and_right true b h = h
and_right false b h = absurd (cc)

-- bytes with no line feed at any place
pub one_line : (bytes : List ℕ) → ((k : ℕ) → k < length bytes → get_or bytes k 0 ≡ 10 → ⊥) → is_one_line bytes ≡ true
one_line [] h = refl
one_line (b ∷ bytes) h =
    let first : not (nat_eq b 10) ≡ true = not_feed b (h 0 (omega arith)) in
    let others : is_one_line bytes ≡ true = one_line bytes (λ k l. h (suc k) (omega arith)) in
    rw (first, others) refl

pub no_feed_at : (bytes : List ℕ) (k : ℕ) → is_one_line bytes ≡ true → k < length bytes → get_or bytes k 0 ≡ 10 → ⊥
no_feed_at [] k h l e = absurd (omega arith)
no_feed_at (b ∷ bytes) zero h l e = is_feed b (and_left (not (nat_eq b 10)) (is_one_line bytes) h) e
no_feed_at (b ∷ bytes) (suc k) h l e = no_feed_at bytes k (and_right (not (nat_eq b 10)) (is_one_line bytes) h) (omega arith) e

passes : (x : ℕ) → x ≡ 10 → (x == 10) ≡ true
passes x e = grind (arith, nat_tests)

-- no line feed up to a place, and none from there up to another
pub searched_on : (left : List ℕ) (searched window at : ℕ) → searched ≤ window → window ≤ length left → at ≤ window - searched → is_one_line (take searched left) ≡ true → Nowhere (Passes (is_byte 10) (slice_range left searched window)) 0 at → is_one_line (take (searched + at) left) ≡ true
searched_on left searched window at a b c h n = one_line (take (searched + at) left) (λ k l e.
    let m : k < searched + at = omega (arith, length-take (searched + at) left) in
    let f : get_or left k 0 ≡ 10 = sym (get_or-take (searched + at) left k 0 m) ∙ e in
    place k m f (nat_lt k searched) refl)
  where
    place : (k : ℕ) → k < searched + at → get_or left k 0 ≡ 10 → (t : Bool) → nat_lt k searched ≡ t → ⊥
    place k m f true t =
        let l : k < searched = grind (arith, nat_tests) in
        no_feed_at (take searched left) k h (omega (arith, length-take searched left)) (get_or-take searched left k 0 l ∙ f)
    place k m f false t =
        let l : searched ≤ k = grind (arith, nat_tests) in
        let j : searched + (k - searched) ≡ k = omega arith in
        let g : get_or (slice_range left searched window) (k - searched) 0 ≡ 10 =
        get_or-take (window - searched) (drop searched left) (k - searched) 0 (omega arith) ∙ get_or-drop searched left (k - searched) 0 ∙ ap (λ i. get_or left i 0) j ∙ f in
        n (k - searched) (omega arith) (omega arith) (passes (get_or (slice_range left searched window) (k - searched) 0) g)

pub take_window : (left : List ℕ) (window n : ℕ) → window ≡ min (length left) n → take window left ≡ take n left
take_window left window n e = go (nat_lt n (length left)) refl
  where
    go : (t : Bool) → nat_lt n (length left) ≡ t → take window left ≡ take n left
    go true t = let l : n < length left = grind (arith, nat_tests) in let w : window ≡ n = omega arith in ap (λ i. take i left) w
    go false t = let l : length left ≤ n = grind (arith, nat_tests) in take_all window left (omega arith) ∙ sym (take_all n left l)

-- what is left of bytes, as a slice of them
pub left_of : (items slice : List ℕ) (start : ℕ) → slice ≡ items → take (length slice - start) (drop start slice) ≡ drop start items
left_of items slice start e = take_all (length slice - start) (drop start slice) (omega (arith, length-drop start slice)) ∙ ap (λ (t : List ℕ). drop start t) e

pub take_less : (bytes : List ℕ) (n m : ℕ) → n ≤ m → take n (take m bytes) ≡ take n bytes
take_less bytes zero m h = refl
take_less [] (suc n) zero h = refl
take_less [] (suc n) (suc m) h = refl
take_less (b ∷ bytes) (suc n) zero h = absurd (omega arith)
take_less (b ∷ bytes) (suc n) (suc m) h = ap (λ (t : List ℕ). b ∷ t) (take_less bytes n m (omega arith))

-- bytes with a line feed are no part of a line
pub has_feed : (front rest : List ℕ) → is_one_line (front ++ 10 ∷ rest) ≡ true → ⊥
has_feed [] rest h = cc
has_feed (b ∷ front) rest h = has_feed front rest (and_right (not (nat_eq b 10)) (is_one_line (front ++ 10 ∷ rest)) h)

-- bytes whose first 4097 have no line feed are hungry where these are all of them
pub told_hungry : (left : List ℕ) (window : ℕ) → window ≡ min (length left) 4097 → is_one_line (take 4097 left) ≡ true → TellsHungry (nat_le window 4096) left
told_hungry left window e none = go (nat_le window 4096) refl
  where
    go : (t : Bool) → nat_le window 4096 ≡ t → TellsHungry t left
    go true t =
        let few : window ≤ 4096 = grind (arith, nat_tests) in
        let size : length left ≤ 4096 = omega arith in
        record { one = ap (λ (l : List ℕ). is_one_line l) (sym (take_all 4097 left (omega arith))) ∙ none; short = size }
    go false t = λ h.
        let many : 4096 < window = grind (arith, nat_tests) in
        let size = h.short in
        absurd (omega arith)
