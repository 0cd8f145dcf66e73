-- Lists of different numbers.
use Rattle.std.proofs.Common.{◌≡◌, ◌≢◌, ℕ, ◌<◌, ◌≤◌, Bool, true, false, ◌||◌, nat_eq, List, [], ◌∷◌, ◌++◌, length, refl, ap, sym, ◌∙◌, arith}
use Rattle.std.proofs.lemmas.Bool.Decides.{nat_tests}
use Rattle.std.proofs.lemmas.List.Folds.{list_any-append}
use Rattle.std.proofs.lemmas.Map.Steps.{length-le_from_distinct_below}
use Rattle.std.specs.List.{IsDistinct, AllByRecursion}
use Rattle.qd_pend.specs.Slots.{has, without, EachOnce}

pub same : (n : ℕ) → nat_eq n n ≡ true
same n = grind (arith, nat_tests)

pub equal : (m n : ℕ) → nat_eq m n ≡ true → m ≡ n
equal m n h = grind (arith, nat_tests)

pub unequal : (m n : ℕ) → m ≢ n → nat_eq m n ≡ false
unequal m n h = grind (arith, nat_tests)

pub has-here : (s : ℕ) (rest : List ℕ) → has (s ∷ rest) s ≡ true
has-here s rest = ap (λ b. b || has rest s) (same s)

or-true : (b : Bool) → (b || true) ≡ true
or-true true = refl
or-true false = refl

pub has-later : (t : ℕ) (rest : List ℕ) (s : ℕ) → has rest s ≡ true → has (t ∷ rest) s ≡ true
has-later t rest s h = ap (λ b. nat_eq s t || b) h ∙ or-true (nat_eq s t)

pub has-apart : (list : List ℕ) (s t : ℕ) → has list s ≡ true → has list t ≡ false → s ≢ t
has-apart list s t h k e = let z : true ≡ false = sym h ∙ ap (has list) e ∙ k in cc

pub has-rest : (t : ℕ) (rest : List ℕ) (s : ℕ) → has (t ∷ rest) s ≡ false → has rest s ≡ false
has-rest t rest s h = later (nat_eq s t) (has rest s) h
  where
    later : (a b : Bool) → (a || b) ≡ false → b ≡ false
    later true b h = cc
    later false b h = h

pub has-first : (t : ℕ) (rest : List ℕ) (s : ℕ) → has (t ∷ rest) s ≡ false → s ≢ t
has-first t rest s h e = let z : true ≡ false = sym (has-here t rest) ∙ ap (has (t ∷ rest)) (sym e) ∙ h in cc

pub without-absent : (list : List ℕ) (s : ℕ) → has list s ≡ false → without list s ≡ list
without-absent [] s h = refl
without-absent (t ∷ rest) s h = rw (unequal s t (has-first t rest s h)) (ap (λ ts. t ∷ ts) (without-absent rest s (has-rest t rest s h)))

pub without-first : (s : ℕ) (rest : List ℕ) → has rest s ≡ false → without (s ∷ rest) s ≡ rest
without-first s rest h = rw (same s) (without-absent rest s h)

and-not : (b : Bool) → (b || false) ≡ b
and-not true = refl
and-not false = refl

-- what is in the list still
pub has-without : (list : List ℕ) (s t : ℕ) → s ≢ t → has (without list s) t ≡ has list t
has-without [] s t n = refl
has-without (u ∷ rest) s t n =
    let go : (b : Bool) → nat_eq s u ≡ b → has (without (u ∷ rest) s) t ≡ has (u ∷ rest) t =
    elim [
      | true ↦ λ e. rw e (has-without rest s t n ∙ sym (ap (λ b. b || has rest t) (unequal t u (λ x. n (equal s u e ∙ sym x)))))
      | false ↦ λ e. rw e (ap (λ b. nat_eq t u || b) (has-without rest s t n))
    ] in
    go (nat_eq s u) refl

pub has-without_same : (list : List ℕ) (s : ℕ) → has (without list s) s ≡ false
has-without_same [] s = refl
has-without_same (u ∷ rest) s =
    let go : (b : Bool) → nat_eq s u ≡ b → has (without (u ∷ rest) s) s ≡ false =
    elim [
      | true ↦ λ e. rw e (has-without_same rest s)
      | false ↦ λ e. rw e (rw e (has-without_same rest s))
    ] in
    go (nat_eq s u) refl

-- what is in the list without one was there
pub has-less : (list : List ℕ) (s t : ℕ) → has (without list s) t ≡ true → has list t ≡ true
has-less list s t h =
    let go : (b : Bool) → nat_eq s t ≡ b → has list t ≡ true =
    elim [
      | true ↦ λ e. let z : false ≡ true = sym (has-without_same list s) ∙ ap (has (without list s)) (equal s t e) ∙ h in cc
      | false ↦ λ e. sym (has-without list s t (λ x. let z : true ≡ false = sym (same s) ∙ ap (nat_eq s) x ∙ e in cc)) ∙ h
    ] in
    go (nat_eq s t) refl

pub EachOnce-without : (list : List ℕ) (s : ℕ) → EachOnce list → EachOnce (without list s)
unfolding EachOnce
EachOnce-without [] s h = tt
EachOnce-without (u ∷ rest) s h =
    let go : (b : Bool) → nat_eq s u ≡ b → EachOnce (without (u ∷ rest) s) =
    elim [
      | true ↦ λ e. rw e (EachOnce-without rest s h.1)
      | false ↦ λ e. rw e (has-without rest s u (λ x. let z : true ≡ false = sym (same s) ∙ ap (nat_eq s) x ∙ e in cc) ∙ h.0, EachOnce-without rest s h.1)
    ] in
    go (nat_eq s u) refl

pub EachOnce-push : (list : List ℕ) (s : ℕ) → EachOnce list → has list s ≡ false → EachOnce (list ++ s ∷ [])
unfolding EachOnce
EachOnce-push [] s h k = (refl, tt)
EachOnce-push (u ∷ rest) s h k =
    (list_any-append (nat_eq u) rest (s ∷ []) ∙ ap (λ b. b || (nat_eq u s || false)) h.0 ∙ and-not (nat_eq u s) ∙ unequal u s (λ x. has-first u rest s k (sym x)), EachOnce-push rest s h.1 (has-rest u rest s k))

pub has-push : (list : List ℕ) (s t : ℕ) → has (list ++ s ∷ []) t ≡ (has list t || nat_eq t s)
has-push list s t = list_any-append (nat_eq t) list (s ∷ []) ∙ ap (λ b. has list t || b) (and-not (nat_eq t s))

all-apart : (s : ℕ) (rest : List ℕ) → has rest s ≡ false → AllByRecursion (λ t. nat_eq s t ≡ false) rest
all-apart s [] h = tt
all-apart s (t ∷ rest) h = (unequal s t (has-first t rest s h), all-apart s rest (has-rest t rest s h))

pub EachOnce-distinct : (list : List ℕ) → EachOnce list → IsDistinct nat_eq list
unfolding EachOnce IsDistinct
EachOnce-distinct [] h = tt
EachOnce-distinct (s ∷ rest) h = (all-apart s rest h.0, EachOnce-distinct rest h.1)

-- different numbers below n are at most n
pub length-≤ : (list : List ℕ) (n : ℕ) → EachOnce list → ((s : ℕ) → has list s ≡ true → s < n) → length list ≤ n
length-≤ list n once below = length-le_from_distinct_below list n (EachOnce-distinct list once) below
