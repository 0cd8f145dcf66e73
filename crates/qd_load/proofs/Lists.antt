-- Lists that grow item by item.
use Rattle.std.proofs.Common.{ℕ, zero, suc, ◌≡◌, ◌<◌, ◌≤◌, ◌+◌, ◌-◌, ◌^◌, Bool, true, Some, List, [], ◌∷◌, ◌++◌, length, map, take, drop, refl, sym, ◌∙◌, ap, subst, arith}
use Rattle.std.proofs.lemmas.List.{drop_all, length-set}
use Rattle.std.specs.Prelude.{slice_get, slice_set}
use Rattle.std.specs.List.{AllByRecursion}
use Rattle.qd_scheme.specs.declared.key.Event.{Event}
use Rattle.qd_scheme.specs.declared.key.Key.{Key}
use Rattle.qd_tape.specs.Scripts.{fed_key}
use Rattle.qd_flags.specs.Following.{StandsFor}
use Rattle.qd_load.specs.Counting.{IsCounted, IsFed, IsFedAt, Shelf, Views, AreFed, FedTo, HearsAt, script_keys, stopped}
use Rattle.qd_load.specs.Given.{of_key}

pub each_get : {A : Type 0} (P : A → Type 0) (xs : List A) (i : ℕ) → AllByRecursion P xs → i < length xs → (x : A) × (slice_get xs i ≡ Some x) × P x
each_get P [] i all h = absurd (omega (arith, h))
each_get P (x ∷ xs) zero all h = (x, refl, all.0)
each_get P (x ∷ xs) (suc i) all h = each_get P xs i all.1 (omega (arith, h))

pub each_push : {A : Type 0} (P : A → Type 0) (xs : List A) (x : A) → AllByRecursion P xs → P x → AllByRecursion P (xs ++ x ∷ [])
each_push P [] x all h = (h, tt)
each_push P (y ∷ xs) x all h = (all.0, each_push P xs x all.1 h)

pub none_counted : (counts : List ℕ) (n : ℕ) → AllByRecursion (λ c. c ≡ 0) counts → length counts ≡ n → (i : ℕ) → i < n → IsCounted counts i 0
none_counted counts n all e i h = let g = each_get (λ (c : ℕ). c ≡ 0) counts i all (omega (arith, e, h)) in rw g.2 at g.1

pub none_fed : (views : List Views) (n : ℕ) → AllByRecursion (λ v. IsFed v []) views → length views ≡ n → (i : ℕ) → i < n → IsFedAt views i []
none_fed views n all e i h = each_get (λ (v : Views). IsFed v []) views i all (omega (arith, e, h))

pub fed_push : (shelves : List Shelf) (s : Shelf) → AreFed shelves [] → StandsFor s.listener [] → AreFed (shelves ++ s ∷ []) []
fed_push [] s all h = (h, tt)
fed_push (x ∷ shelves) s all h = (all.0, fed_push shelves s all.1 h)

pub keys_push : (shelves : List Shelf) (s : Shelf) → map (λ (x : Shelf). x.key) (shelves ++ s ∷ []) ≡ map (λ (x : Shelf). x.key) shelves ++ s.key ∷ []
keys_push [] s = refl
keys_push (x ∷ shelves) s = ap (λ l. x.key ∷ l) (keys_push shelves s)

pub keys_more : (d : ℕ) → d < 10 → take (d + 1) script_keys ≡ take d script_keys ++ fed_key 2 d ∷ []
keys_more zero h = refl
keys_more (suc zero) h = refl
keys_more (suc (suc zero)) h = refl
keys_more (suc (suc (suc zero))) h = refl
keys_more (suc (suc (suc (suc zero)))) h = refl
keys_more (suc (suc (suc (suc (suc zero))))) h = refl
keys_more (suc (suc (suc (suc (suc (suc zero)))))) h = refl
keys_more (suc (suc (suc (suc (suc (suc (suc zero))))))) h = refl
keys_more (suc (suc (suc (suc (suc (suc (suc (suc zero)))))))) h = refl
keys_more (suc (suc (suc (suc (suc (suc (suc (suc (suc zero))))))))) h = refl
keys_more (suc (suc (suc (suc (suc (suc (suc (suc (suc (suc d)))))))))) h = absurd (omega (arith, h))

pub keys_set : (i : ℕ) (xs : List Shelf) (s t : Shelf) → slice_get xs i ≡ Some s → t.key ≡ s.key → map (λ (x : Shelf). x.key) (slice_set xs i t) ≡ map (λ (x : Shelf). x.key) xs
keys_set i [] s t e k = absurd (cc)
keys_set zero (x ∷ xs) s t e k = let same : x ≡ s = cc (e) in ap (λ q. q ∷ map (λ (x : Shelf). x.key) xs) (k ∙ ap (λ (z : Shelf). z.key) (sym same))
keys_set (suc i) (x ∷ xs) s t e k = ap (λ l. x.key ∷ l) (keys_set i xs s t e k)

pub fed_set : (i : ℕ) (xs : List Shelf) (s t : Shelf) (e : Event) (past : List Event) → slice_get xs i ≡ Some s → t.key ≡ s.key
    → (StandsFor s.listener (of_key s.key past) → StandsFor t.listener (of_key s.key (e ∷ past))) → FedTo i e xs past → FedTo (suc i) e (slice_set xs i t) past
fed_set i [] s t e past there k f fed = absurd (cc)
fed_set zero (x ∷ xs) s t e past there k f fed =
    let same : x ≡ s = cc (there) in
    (subst (λ (q : Key). StandsFor t.listener (of_key q (e ∷ past))) (sym k) (f (rw same at fed.0)), fed.1)
fed_set (suc i) (x ∷ xs) s t e past there k f fed = (fed.0, fed_set i xs s t e past there k f fed.1)

pub fed_all : (n : ℕ) (xs : List Shelf) (e : Event) (past : List Event) → n ≡ length xs → FedTo n e xs past → AreFed xs (e ∷ past)
fed_all zero [] e past n fed = tt
fed_all zero (x ∷ xs) e past n fed = absurd (omega (arith, n))
fed_all (suc i) [] e past n fed = tt
fed_all (suc i) (x ∷ xs) e past n fed = (fed.0, fed_all i xs e past (omega (arith, n)) fed.1)

pub heard_keys : (before after : List Shelf) (i : ℕ) (e : Event) (heard : Bool) → HearsAt before i e heard after → map (λ (x : Shelf). x.key) after ≡ map (λ (x : Shelf). x.key) before
heard_keys before after i e heard h = ap (λ l. map (λ (x : Shelf). x.key) l) h.after_is ∙ keys_set i before h.x h.y h.there h.key

pub heard_fed : (before after : List Shelf) (i : ℕ) (e : Event) (past : List Event) → HearsAt before i e true after → FedTo i e before past → FedTo (i + 1) e after past
heard_fed before after i e past h fed = let one : suc i ≡ i + 1 = omega arith in subst (λ (n : ℕ). FedTo n e after past) one (rw h.after_is (fed_set i before h.x h.y e past h.there h.key (h.fed past refl) fed))

-- where a loop over a list is done, its sum is that of the list
pub all_summed : {A : Type 0} (f : List A → ℕ) (n i : ℕ) (xs : List A) → f [] ≡ 0 → stopped (n + f (drop i xs)) ≡ stopped (f xs) → n ≤ 2 ^ 64 - 1 → length xs ≤ i → n ≡ stopped (f xs)
all_summed f n i xs none sum small over =
    let e : stopped (n + 0) ≡ stopped (f xs) = subst (λ (m : ℕ). stopped (n + m) ≡ stopped (f xs)) (ap f (drop_all i xs over) ∙ none) sum in
    omega (arith, e, small)

pub heard_length : (before after : List Shelf) (i : ℕ) (e : Event) (heard : Bool) → HearsAt before i e heard after → length after ≡ length before
heard_length before after i e heard h = ap length h.after_is ∙ length-set before i h.y
