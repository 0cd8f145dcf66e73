-- What one more act leaves of an order by positions, also where acts break the fact.
use Rattle.std.proofs.Common.{◌≡◌, ℕ, suc, ◌≤◌, ◌<◌, Bool, true, false, ◌&&◌, ◌||◌, not, if◌then◌else◌, nat_eq, Option, Some, None, List, [], ◌∷◌, ◌++◌, length, refl, ap, sym, ◌∙◌, arith}
use Rattle.std.proofs.lemmas.Bool.Decides.{nat_tests}
use Rattle.std.proofs.lemmas.List.{append-nil}
use Rattle.std.proofs.lemmas.List.Folds.{list_any-append}
use Rattle.std.specs.List.{filter, list_any}
use Rattle.std.proofs.lemmas.Bool.{and_left}
use Rattle.qd_sub.specs.Since.{since, begun_at, begun_within, by_since}
use Rattle.qd_sub.proofs.SinceLaws.{since-≤, by_since-step, by_since-holds, filter-agree_within, filter-all, grown, same_number}
use Rattle.qd_sub.proofs.OrderLaws.{is_about, any-filter, any-one, once, once-filter, once-end}

eq-apart : (m n : ℕ) → m < n → nat_eq m n ≡ false
eq-apart m n h = grind (arith, nat_tests)

begun-test : (h w b : Bool) (s l : ℕ) → s ≤ l → nat_eq (if h then (if w && not b then s else suc l) else 0) (suc l) ≡ (h && (not w || b))
begun-test true true true s l le = same_number (suc l)
begun-test true true false s l le = eq-apart s (suc l) (omega arith)
begun-test true false b s l le = same_number (suc l)
begun-test false w b s l le = eq-apart 0 (suc l) (omega arith)

-- whether a fact begins to hold with an act
pub begins-at : {A X : Type 0} (breaks : X → A → Bool) (holds : X → List A → Bool) (act : A) (now : List A) (x : X) →
    nat_eq (since (breaks x) (holds x) (act ∷ now)) (suc (length now)) ≡ (holds x (act ∷ now) && (not (holds x now) || breaks x act))
unfolding since
begins-at breaks holds act now x = begun-test (holds x (act ∷ now)) (holds x now) (breaks x act) (since (breaks x) (holds x) now) (length now) (since-≤ (breaks x) (holds x) now)

stays-true : (h b : Bool) → h ≡ true → b ≡ false → (h && not b) ≡ true
stays-true h b p q = rw (p, q) refl

-- an act about x that breaks nothing: x stays, comes last or leaves, by whether the fact holds of it then, and all others stay
pub by_since-about : {A X : Type 0} (about : List A → Option X) (breaks : X → A → Bool) (holds : X → List A → Bool) (eq : X → X → Bool) → ((x y : X) → eq x y ≡ true → x ≡ y) → (act : A) (now : List A) (x : X) →
    about (act ∷ now) ≡ Some x → ((y : X) → breaks y act ≡ false) → ((y : X) → eq x y ≡ false → holds y (act ∷ now) ≡ holds y now) → list_any (eq x) (by_since about breaks holds now) ≡ holds x now →
    by_since about breaks holds (act ∷ now) ≡ (if holds x (act ∷ now) then grown eq (by_since about breaks holds now) x else filter (λ y. not (eq x y)) (by_since about breaks holds now))
unfolding grown
by_since-about about breaks holds eq exact act now x a unbroken others has =
    by_since-step about breaks holds act now
    ∙ ap (λ o. filter (λ y. holds y (act ∷ now) && not (breaks y act)) (by_since about breaks holds now) ++ begun_at breaks holds (act ∷ now) (suc (length now)) o) a
    ∙ ap (λ b. filter (λ y. holds y (act ∷ now) && not (breaks y act)) (by_since about breaks holds now) ++ (if b then x ∷ [] else [])) (begins-at breaks holds act now x)
    ∙ (let go : (c : Bool) → holds x (act ∷ now) ≡ c → filter (λ y. holds y (act ∷ now) && not (breaks y act)) (by_since about breaks holds now) ++ (if c && (not (holds x now) || breaks x act) then x ∷ [] else [])
    ≡ (if c then (if list_any (eq x) (by_since about breaks holds now) then by_since about breaks holds now else by_since about breaks holds now ++ x ∷ []) else filter (λ y. not (eq x y)) (by_since about breaks holds now)) =
    elim [
      | true ↦ λ h. ap (λ ys. ys ++ (if not (holds x now) || breaks x act then x ∷ [] else [])) (all-stay h) ∙ last_one (holds x now) (breaks x act) (list_any (eq x) (by_since about breaks holds now)) has (unbroken x)
      | false ↦ λ h. append-nil (filter (λ y. holds y (act ∷ now) && not (breaks y act)) (by_since about breaks holds now)) ∙ filter-agree_within (λ y. holds y now) (λ y. holds y (act ∷ now) && not (breaks y act)) (λ y. not (eq x y)) (by_since about breaks holds now) (by_since-holds about breaks holds now) (λ y t. but_x h y t)
    ] in
    go (holds x (act ∷ now)) refl)
  where
    held : holds x (act ∷ now) ≡ true → (y : _) → holds y now ≡ true → (holds y (act ∷ now) && not (breaks y act)) ≡ true
    held h y t =
        let go : (c : Bool) → eq x y ≡ c → (holds y (act ∷ now) && not (breaks y act)) ≡ true =
        elim [
          | true ↦ λ e. stays-true (holds y (act ∷ now)) (breaks y act) (ap (λ z. holds z (act ∷ now)) (sym (exact x y e)) ∙ h) (unbroken y)
          | false ↦ λ e. stays-true (holds y (act ∷ now)) (breaks y act) (others y e ∙ t) (unbroken y)
        ] in
        go (eq x y) refl

    all-stay : holds x (act ∷ now) ≡ true → filter (λ y. holds y (act ∷ now) && not (breaks y act)) (by_since about breaks holds now) ≡ by_since about breaks holds now
    all-stay h = filter-agree_within (λ y. holds y now) (λ y. holds y (act ∷ now) && not (breaks y act)) (λ y. true) (by_since about breaks holds now) (by_since-holds about breaks holds now) (λ y t. held h y t) ∙ filter-all (by_since about breaks holds now)

    last_one : (w b l : Bool) → l ≡ w → b ≡ false → by_since about breaks holds now ++ (if not w || b then x ∷ [] else []) ≡ (if l then by_since about breaks holds now else by_since about breaks holds now ++ x ∷ [])
    last_one true b l p q = rw (p, q) (append-nil (by_since about breaks holds now))
    last_one false b l p q = rw p refl

    but_x : holds x (act ∷ now) ≡ false → (y : _) → holds y now ≡ true → (holds y (act ∷ now) && not (breaks y act)) ≡ not (eq x y)
    but_x h y t =
        let go : (c : Bool) → eq x y ≡ c → (holds y (act ∷ now) && not (breaks y act)) ≡ not c =
        elim [
          | true ↦ λ e. and_left (holds y (act ∷ now)) (not (breaks y act)) (ap (λ z. holds z (act ∷ now)) (sym (exact x y e)) ∙ h)
          | false ↦ λ e. stays-true (holds y (act ∷ now)) (breaks y act) (others y e ∙ t) (unbroken y)
        ] in
        go (eq x y) refl

newcomer-has : {A X : Type 0} (breaks : X → A → Bool) (holds : X → List A → Bool) (eq : X → X → Bool) → ((x y : X) → eq x y ≡ true → x ≡ y) → (act : A) (now : List A) (y : X) (o : Option X) →
    list_any (eq y) (begun_at breaks holds (act ∷ now) (suc (length now)) o) ≡ (is_about eq y o && (holds y (act ∷ now) && (not (holds y now) || breaks y act)))
newcomer-has breaks holds eq exact act now y None = refl
newcomer-has breaks holds eq exact act now y (Some x) =
    any-one (eq y) (nat_eq (since (breaks x) (holds x) (act ∷ now)) (suc (length now))) x
    ∙ ap (λ b. eq y x && b) (begins-at breaks holds act now x)
    ∙ (let go : (c : Bool) → eq y x ≡ c → (eq y x && (holds x (act ∷ now) && (not (holds x now) || breaks x act))) ≡ (eq y x && (holds y (act ∷ now) && (not (holds y now) || breaks y act))) =
    elim [
      | true ↦ λ e. rw e (ap (λ z. holds z (act ∷ now) && (not (holds z now) || breaks z act)) (sym (exact y x e)))
      | false ↦ λ e. rw e refl
    ] in go (eq y x) refl)

joined : (h w b abt : Bool) → (abt ≡ false → h ≡ w) → (abt ≡ false → b ≡ false) → (((h && not b) && w) || (abt && (h && (not w || b)))) ≡ h
joined true true true true p q = refl
joined true true true false p q = let z = q refl in cc
joined true true false abt p q = refl
joined true false true true p q = refl
joined true false false true p q = refl
joined true false true false p q = let z = p refl in cc
joined true false false false p q = let z = p refl in cc
joined false w b true p q = refl
joined false w b false p q = refl

start_has : {A X : Type 0} (about : List A → Option X) (breaks : X → A → Bool) (holds : X → List A → Bool) (eq : X → X → Bool) (y : X) → list_any (eq y) (by_since about breaks holds []) ≡ false
unfolding by_since begun_within
start_has about breaks holds eq y = refl

-- where only acts about one change or break the fact for it, the order has just those of which it holds
pub by_since-has_broken : {A X : Type 0} (about : List A → Option X) (breaks : X → A → Bool) (holds : X → List A → Bool) (eq : X → X → Bool) → ((x y : X) → eq x y ≡ true → x ≡ y) → ((y : X) → holds y [] ≡ false) →
    ((act : A) (now : List A) (y : X) → is_about eq y (about (act ∷ now)) ≡ false → holds y (act ∷ now) ≡ holds y now) → ((act : A) (now : List A) (y : X) → is_about eq y (about (act ∷ now)) ≡ false → breaks y act ≡ false) →
    (now : List A) (y : X) → list_any (eq y) (by_since about breaks holds now) ≡ holds y now
by_since-has_broken about breaks holds eq exact none only only_breaks [] y = start_has about breaks holds eq y ∙ sym (none y)
by_since-has_broken about breaks holds eq exact none only only_breaks (act ∷ now) y =
    ap (list_any (eq y)) (by_since-step about breaks holds act now)
    ∙ list_any-append (eq y) (filter (λ x. holds x (act ∷ now) && not (breaks x act)) (by_since about breaks holds now)) (begun_at breaks holds (act ∷ now) (suc (length now)) (about (act ∷ now)))
    ∙ ap (λ b. b || list_any (eq y) (begun_at breaks holds (act ∷ now) (suc (length now)) (about (act ∷ now)))) (any-filter eq exact (λ x. holds x (act ∷ now) && not (breaks x act)) (by_since about breaks holds now) y ∙ ap (λ b. (holds y (act ∷ now) && not (breaks y act)) && b) (by_since-has_broken about breaks holds eq exact none only only_breaks now y))
    ∙ ap (λ b. ((holds y (act ∷ now) && not (breaks y act)) && holds y now) || b) (newcomer-has breaks holds eq exact act now y (about (act ∷ now)))
    ∙ joined (holds y (act ∷ now)) (holds y now) (breaks y act) (is_about eq y (about (act ∷ now))) (λ e. only act now y e) (λ e. only_breaks act now y e)

start_once : {A X : Type 0} (about : List A → Option X) (breaks : X → A → Bool) (holds : X → List A → Bool) (eq : X → X → Bool) → once eq (by_since about breaks holds []) ≡ true
unfolding by_since begun_within once
start_once about breaks holds eq = refl

-- and none stands twice
pub by_since-once_broken : {A X : Type 0} (about : List A → Option X) (breaks : X → A → Bool) (holds : X → List A → Bool) (eq : X → X → Bool) → ((x y : X) → eq x y ≡ true → x ≡ y) → ((x y : X) → eq x y ≡ eq y x) → ((y : X) → holds y [] ≡ false) →
    ((act : A) (now : List A) (y : X) → is_about eq y (about (act ∷ now)) ≡ false → holds y (act ∷ now) ≡ holds y now) → ((act : A) (now : List A) (y : X) → is_about eq y (about (act ∷ now)) ≡ false → breaks y act ≡ false) →
    (now : List A) → once eq (by_since about breaks holds now) ≡ true
by_since-once_broken about breaks holds eq exact comm none only only_breaks [] = start_once about breaks holds eq
by_since-once_broken about breaks holds eq exact comm none only only_breaks (act ∷ now) =
    let rest = once-filter eq exact (λ x. holds x (act ∷ now) && not (breaks x act)) (by_since about breaks holds now) (by_since-once_broken about breaks holds eq exact comm none only only_breaks now) in
    ap (once eq) (by_since-step about breaks holds act now) ∙ added (about (act ∷ now)) rest
  where
    gone : (h w b : Bool) → (h && (not w || b)) ≡ true → ((h && not b) && w) ≡ false
    gone true true true t = refl
    gone true false true t = refl
    gone true false false t = refl
    gone true true false t = cc
    gone false w b t = refl

    added : (o : Option _) → once eq (filter (λ x. holds x (act ∷ now) && not (breaks x act)) (by_since about breaks holds now)) ≡ true → once eq (filter (λ x. holds x (act ∷ now) && not (breaks x act)) (by_since about breaks holds now) ++ begun_at breaks holds (act ∷ now) (suc (length now)) o) ≡ true
    added None h = ap (once eq) (append-nil (filter (λ x. holds x (act ∷ now) && not (breaks x act)) (by_since about breaks holds now))) ∙ h
    added (Some x) h =
        let go : (d : Bool) → nat_eq (since (breaks x) (holds x) (act ∷ now)) (suc (length now)) ≡ d → once eq (filter (λ x. holds x (act ∷ now) && not (breaks x act)) (by_since about breaks holds now) ++ (if d then x ∷ [] else [])) ≡ true =
        elim [
          | true ↦ λ t. once-end eq comm (filter (λ x. holds x (act ∷ now) && not (breaks x act)) (by_since about breaks holds now)) x h
              (any-filter eq exact (λ x. holds x (act ∷ now) && not (breaks x act)) (by_since about breaks holds now) x
              ∙ ap (λ b. (holds x (act ∷ now) && not (breaks x act)) && b) (by_since-has_broken about breaks holds eq exact none only only_breaks now x)
              ∙ gone (holds x (act ∷ now)) (holds x now) (breaks x act) (sym (begins-at breaks holds act now x) ∙ t))
          | false ↦ λ t. ap (once eq) (append-nil (filter (λ x. holds x (act ∷ now) && not (breaks x act)) (by_since about breaks holds now))) ∙ h
        ] in
        go (nat_eq (since (breaks x) (holds x) (act ∷ now)) (suc (length now))) refl
