-- The distinct keys of a list, where one more stands at the end, and where a key is taken out.
use Rattle.std.proofs.Common.{◌≡◌, Bool, true, false, ◌||◌, not, if◌then◌else◌, List, [], ◌∷◌, ◌++◌, refl, ap, sym, ◌∙◌}
use Rattle.std.specs.List.{filter}
use Rattle.qd_scheme.specs.declared.key.Key.{Key}
use Rattle.qd_scheme.specs.Keys.{key_eq}
use Rattle.qd_scheme.proofs.KeyLaws.{key_eq-same, key_eq-true, key_eq-comm}
use Rattle.qd_sub.proofs.KeyEnds.{filter-alone}
use Rattle.qd_sub.specs.Holding.{has_key, fresh}

-- a key that is there already is not new
pub fresh-in : (held ks : List Key) (k : Key) → has_key held k ≡ true → has_key (fresh held ks) k ≡ false
unfolding fresh
fresh-in held [] k h = refl
fresh-in held (j ∷ js) k h =
    let go : (c : Bool) → has_key held j ≡ c → has_key (if c then fresh held js else j ∷ fresh (j ∷ held) js) k ≡ false =
    elim [
      | true ↦ λ e. fresh-in held js k h
      | false ↦ λ e.
          let see : (d : Bool) → key_eq k j ≡ d → (d || has_key (fresh (j ∷ held) js) k) ≡ false =
          elim [
            | true ↦ λ f. (let same : has_key held j ≡ true = ap (has_key held) (sym (key_eq-true k j f)) ∙ h in cc)
            | false ↦ λ f. fresh-in (j ∷ held) js k (rw f h)
          ] in
          see (key_eq k j) refl
    ] in
    go (has_key held j) refl

-- the new ones are those of the list that are not there already
pub fresh-has : (held ks : List Key) (k : Key) → has_key held k ≡ false → has_key (fresh held ks) k ≡ has_key ks k
unfolding fresh
fresh-has held [] k h = refl
fresh-has held (j ∷ js) k h =
    let go : (c d : Bool) → has_key held j ≡ c → key_eq k j ≡ d → has_key (if has_key held j then fresh held js else j ∷ fresh (j ∷ held) js) k ≡ (key_eq k j || has_key js k) =
    elim [
      | true ↦ elim [
        | true ↦ λ e f. (let same : has_key held j ≡ false = ap (has_key held) (sym (key_eq-true k j f)) ∙ h in cc)
        | false ↦ λ e f. rw (e, f) (fresh-has held js k h)
      ]
      | false ↦ elim [
        | true ↦ λ e f. rw (e, f) refl
        | false ↦ λ e f. (let out : has_key (j ∷ held) k ≡ false = rw f h in rw (e, f) (fresh-has (j ∷ held) js k out))
      ]
    ] in
    go (has_key held j) (key_eq k j) refl refl

-- one more key at the end
pub fresh-end : (held ks : List Key) (k : Key) → fresh held (ks ++ k ∷ []) ≡ fresh held ks ++ (if has_key held k || has_key ks k then [] else k ∷ [])
unfolding fresh
fresh-end held [] k =
    elim (has_key held k) as (λ c. (if c then [] else k ∷ []) ≡ (if c || false then [] else k ∷ [])) [ true ↦ refl | false ↦ refl ]
fresh-end held (j ∷ js) k =
    let go : (c : Bool) → has_key held j ≡ c → (if c then fresh held (js ++ k ∷ []) else j ∷ fresh (j ∷ held) (js ++ k ∷ [])) ≡ (if c then fresh held js else j ∷ fresh (j ∷ held) js) ++ (if has_key held k || (key_eq k j || has_key js k) then [] else k ∷ []) =
    elim [
      | true ↦ λ e. fresh-end held js k ∙ ap (λ b. fresh held js ++ (if b then [] else k ∷ [])) (known e)
      | false ↦ λ e. ap (λ xs. j ∷ xs) (fresh-end (j ∷ held) js k ∙ ap (λ b. fresh (j ∷ held) js ++ (if b then [] else k ∷ [])) (or-first (key_eq k j) (has_key held k) (has_key js k)))
    ] in
    go (has_key held j) refl
  where
    or-first : (a b c : Bool) → ((a || b) || c) ≡ (b || (a || c))
    or-first true true c = refl
    or-first true false c = refl
    or-first false b c = refl

    known : has_key held j ≡ true → (has_key held k || has_key js k) ≡ (has_key held k || (key_eq k j || has_key js k))
    known e =
        let see : (d : Bool) → key_eq k j ≡ d → (has_key held k || has_key js k) ≡ (has_key held k || (d || has_key js k)) =
        elim [
          | true ↦ λ f. (let there : has_key held k ≡ true = ap (has_key held) (key_eq-true k j f) ∙ e in rw there refl)
          | false ↦ λ f. refl
        ] in
        see (key_eq k j) refl

-- all but k
abbrev pub but : Key → List Key → List Key
but k ks = filter (λ j. not (key_eq k j)) ks

-- taking k out of the list takes it out of the distinct keys
pub fresh-but : (k : Key) (held other ks : List Key) → ((j : Key) → key_eq k j ≡ false → has_key held j ≡ has_key other j) → but k (fresh held ks) ≡ fresh other (but k ks)
unfolding fresh
fresh-but k held other [] agree = refl
fresh-but k held other (j ∷ js) agree =
    let go : (c d : Bool) → key_eq k j ≡ c → has_key held j ≡ d → but k (if has_key held j then fresh held js else j ∷ fresh (j ∷ held) js) ≡ fresh other (if not (key_eq k j) then j ∷ but k js else but k js) =
    elim [
      | true ↦ elim [
        | true ↦ λ e f. rw (e, f) (fresh-but k held other js agree)
        | false ↦ λ e f. rw (e, f) (rw e (fresh-but k (j ∷ held) other js (λ i out. rw (apart i e out) (agree i out))))
      ]
      | false ↦ elim [
        | true ↦ λ e f. (let g : has_key other j ≡ true = sym (agree j e) ∙ f in rw (e, f) (rw g (fresh-but k held other js agree)))
        | false ↦ λ e f. (let g : has_key other j ≡ false = sym (agree j e) ∙ f in rw (e, f) (rw (e, g) (ap (λ xs. j ∷ xs) (fresh-but k (j ∷ held) (j ∷ other) js (λ i out. ap (λ b. key_eq i j || b) (agree i out))))))
      ]
    ] in
    go (key_eq k j) (has_key held j) refl refl
  where
    apart : (i : Key) → key_eq k j ≡ true → key_eq k i ≡ false → key_eq i j ≡ false
    apart i e out = ap (λ x. key_eq i x) (sym (key_eq-true k j e)) ∙ (key_eq-comm i k ∙ out)

-- taking out what is not there
pub but-alone : (k : Key) (ks : List Key) → has_key ks k ≡ false → but k ks ≡ ks
but-alone k ks h = filter-alone ks k h

-- the first of the distinct keys does not stand among the others
pub fresh-first : (k : Key) (ks : List Key) → but k (fresh [] (k ∷ ks)) ≡ fresh (k ∷ []) ks
unfolding fresh
fresh-first k ks = let there : has_key (k ∷ []) k ≡ true = rw (key_eq-same k) refl in rw (key_eq-same k) (but-alone k (fresh (k ∷ []) ks) (fresh-in (k ∷ []) ks k there))
