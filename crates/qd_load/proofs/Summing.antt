-- What was counted stripe by stripe is what the logs gave.
use Rattle.std.proofs.Common.{ℕ, zero, suc, ◌≡◌, ◌<◌, ◌+◌, Some, List, [], ◌∷◌, length, map, false, fold, refl, sym, ◌∙◌, ap, subst, arith}
use Rattle.std.specs.Prelude.{slice_get, sum}
use Rattle.qd_scheme.specs.declared.key.Event.{Event}
use Rattle.qd_scheme.specs.declared.key.Key.{Key}
use Rattle.qd_load.specs.Counting.{IsCounted, IsFedAt, AreFed, HaveSizes, NoneMissed, Shelf, Views, entries_in, entries_of, script_keys, stopped, sum_from}

sum_behind : (a : ℕ) (xs : List ℕ) → fold ◌+◌ a xs ≡ a + fold ◌+◌ 0 xs
sum_behind a [] = let e : a ≡ a + 0 = omega arith in e
sum_behind a (x ∷ xs) =
    let p = sum_behind (a + x) xs in
    let q = sum_behind (0 + x) xs in
    let e : fold ◌+◌ (a + x) xs ≡ a + fold ◌+◌ (0 + x) xs = omega (arith, p, q) in
    e

sum-cons : (x : ℕ) (xs : List ℕ) → sum (x ∷ xs) ≡ x + sum xs
sum-cons x xs =
    let q = sum_behind (0 + x) xs in
    let e : fold ◌+◌ (0 + x) xs ≡ x + fold ◌+◌ 0 xs = omega (arith, q) in
    e

pub sums : (counts : List ℕ) (k : ℕ) (f : ℕ → ℕ) → ((i : ℕ) → i < length counts → IsCounted counts i (f (k + i))) → stopped (sum counts) ≡ stopped (sum_from k (length counts) f)
sums [] k f h = refl
sums (c ∷ counts) k f h =
    let head = h 0 (omega arith) in
    let one : c ≡ stopped (f (k + 0)) = cc (head) in
    let at : k + 0 ≡ k = omega arith in
    let first : f (k + 0) ≡ f k = ap f at in
    let rest = sums counts (suc k) f (λ i w. let e : k + suc i ≡ suc k + i = omega arith in subst (λ (n : ℕ). IsCounted counts i (f n)) e (h (suc i) (omega (arith, w)))) in
    let left : sum (c ∷ counts) ≡ c + sum counts = sum-cons c counts in
    let right : sum_from k (length (c ∷ counts)) f ≡ f k + sum_from (suc k) (length counts) f = refl in
    omega (arith, one, first, rest, left, right)

-- how many entries the maps of the listeners of a stripe have
abbrev pub view_size : List Views → ℕ → ℕ
view_size [] i = 0
view_size (v ∷ views) zero = entries_of v.shelves
view_size (v ∷ views) (suc i) = view_size views i

shift : (n k : ℕ) (f : ℕ → ℕ) → sum_from (suc k) n f ≡ sum_from k n (λ i. f (suc i))
shift zero k f = refl
shift (suc n) k f = ap (λ m. f (suc k) + m) (shift n (suc k) f)

pub entries_sum : (views : List Views) → entries_in views ≡ sum_from 0 (length views) (view_size views)
entries_sum [] = refl
entries_sum (v ∷ views) = ap (λ m. entries_of v.shelves + m) (entries_sum views ∙ sym (shift (length views) 0 (view_size (v ∷ views))))

sizes_have : (shelves : List Shelf) (past : List Event) → AreFed shelves past → HaveSizes (map (λ (s : Shelf). s.key) shelves) past (entries_of shelves)
sizes_have [] past fed = refl
sizes_have (s ∷ shelves) past fed = (length s.listener.entries, entries_of shelves, (s.listener.entries, fed.0.falls, fed.0.map_is, refl), sizes_have shelves past fed.1, refl)

view_at : (views : List Views) (i : ℕ) (v : Views) → slice_get views i ≡ Some v → NoneMissed views → (view_size views i ≡ entries_of v.shelves) × (v.missed ≡ false)
view_at [] i v e none = absurd (cc)
view_at (x ∷ views) zero v e none = let same : x ≡ v = cc (e) in (ap (λ (z : Views). entries_of z.shelves) same, rw same at none.0)
view_at (x ∷ views) (suc i) v e none = view_at views i v e none.1

pub stripe_sizes : (views : List Views) (i : ℕ) (past : List Event) → NoneMissed views → IsFedAt views i past → HaveSizes script_keys past (view_size views i)
stripe_sizes views i past none (v, at, fed) =
    let n = view_at views i v at none in
    subst (λ (m : ℕ). HaveSizes script_keys past m) (sym n.0) (subst (λ (keys : List Key). HaveSizes keys past (entries_of v.shelves)) fed.keys (sizes_have v.shelves past (fed.fed n.1)))
