-- Counting and filling the parts of a cut, item by item. `part x` is the part that x belongs to.
use Rattle.std.proofs.Common.{◌≡◌, ◌≢◌, ◌⊎◌, inl, inr, ℕ, zero, suc, ◌+◌, ◌≤◌, ◌<◌, Bool, true, false, cond, nat_eq, List, [], ◌∷◌, ◌++◌, length, take, drop, map, filter, get_or, set, Option, Some, None, refl, sym, ap, ◌∙◌, subst, arith, eq-eqb, append-nil, eqb-true, not-suc-le-zero, le_of_suc-le-suc, length-append, length-set, length-take, take-append-drop}
use Rattle.std.proofs.Math.Nat.{mod-one}
use Rattle.std.specs.Prelude.{sum, slice_get, option_map}
use Rattle.std.proofs.lemmas.List.Elements.{filter_more, filter-append}
use Rattle.std.proofs.lemmas.List.Sums.{length-filter, count_by-le-length}
use Rattle.std.proofs.lemmas.List.{get_or-set_same, get_or-set_other, get_or-take, length-map}
use Rattle.std.proofs.lemmas.Option.{slice_get-map, slice_get-get_or, slice_get_within, get_or_from_slice_get}
use Rattle.std.proofs.lemmas.Bool.{cases_eq}
use Rattle.qd_scheme.specs.declared.key.Key.{Key}
use Rattle.qd_scheme.specs.Stripes.{stripe_of, IsStripeCount}
use Rattle.qd_buffer.specs.Filled.{Filled, with_items}
use Rattle.qd_buffer.specs.Splitting.{of_stripe, AreStripes, IsFilling}

-- there are at most 16 stripes
pub IsStripeCount-le : (n : ℕ) → IsStripeCount n → n ≤ 16
IsStripeCount-le n = elim [
  | inl e ↦ omega (arith, e)
  | inr h ↦ elim h [
    | inl e ↦ omega (arith, e)
    | inr h ↦ elim h [
      | inl e ↦ omega (arith, e)
      | inr h ↦ elim h [
        | inl e ↦ omega (arith, e)
        | inr e ↦ omega (arith, e)
      ]
    ]
  ]
]

same_or_not : (part i : ℕ) {T : Type 0} (x : T) → (part ≢ i) → cond (nat_eq part i) (x ∷ []) [] ≡ []
same_or_not part i x n =
    let go : (b : Bool) → nat_eq part i ≡ b → cond b (x ∷ []) [] ≡ [] =
    elim [
      | true ↦ λ e. absurd (n (eqb-true part i e))
      | false ↦ λ e. refl
    ] in
    go (nat_eq part i) refl

-- the next item goes to its own part
next_in : {T : Type 0} (part : T → ℕ) (items : List T) (k : ℕ) (x : T) → k < length items → x ≡ get_or items k x → filter (λ item. nat_eq (part item) (part x)) (take (k + 1) items) ≡ filter (λ item. nat_eq (part item) (part x)) (take k items) ++ x ∷ []
next_in part items k x h e =
    filter_more (λ item. nat_eq (part item) (part x)) items k x h
    ∙ ap (λ y. filter (λ item. nat_eq (part item) (part x)) (take k items) ++ cond (nat_eq (part y) (part x)) (y ∷ []) []) (sym e)
    ∙ ap (λ b. filter (λ item. nat_eq (part item) (part x)) (take k items) ++ cond b (x ∷ []) []) (eq-eqb (part x) (part x) refl)

-- and to no other
next_out : {T : Type 0} (part : T → ℕ) (i : ℕ) (items : List T) (k : ℕ) (x : T) → k < length items → x ≡ get_or items k x → (part x ≢ i) → filter (λ item. nat_eq (part item) i) (take (k + 1) items) ≡ filter (λ item. nat_eq (part item) i) (take k items)
next_out part i items k x h e n =
    filter_more (λ item. nat_eq (part item) i) items k x h
    ∙ ap (λ y. filter (λ item. nat_eq (part item) i) (take k items) ++ cond (nat_eq (part y) i) (y ∷ []) []) (sym e)
    ∙ ap (λ ys. filter (λ item. nat_eq (part item) i) (take k items) ++ ys) (same_or_not (part x) i x n)
    ∙ append-nil (filter (λ item. nat_eq (part item) i) (take k items))

-- a part has no more items than there are
pub part-le : {T : Type 0} (p : T → Bool) (items : List T) (k : ℕ) → length (filter p (take k items)) ≤ k
part-le p items k = omega (arith, length-filter p (take k items), count_by-le-length p (take k items), length-take k items)

-- what is passed of the first items is no more than what is passed of all
part-le-all : {T : Type 0} (p : T → Bool) (items : List T) (k : ℕ) → length (filter p (take k items)) ≤ length (filter p items)
part-le-all p items k =
    let e : filter p items ≡ filter p (take k items) ++ filter p (drop k items) = ap (filter p) (sym (take-append-drop k items)) ∙ filter-append p (take k items) (drop k items) in
    omega (arith, ap length e, length-append (filter p (take k items)) (filter p (drop k items)))

-- one more item is counted
pub counted_more : {T : Type 0} (part : T → ℕ) (n : ℕ) (items : List T) (counts : List ℕ) (k : ℕ) (x : T) → k < length items → x ≡ get_or items k x → part x < length counts → ((i : ℕ) → i < n → get_or counts i 0 ≡ length (filter (λ item. nat_eq (part item) i) (take k items))) → part x < n → (i : ℕ) → i < n → get_or (set counts (part x) (get_or counts (part x) 0 + 1)) i 0 ≡ length (filter (λ item. nat_eq (part item) i) (take (k + 1) items))
counted_more part n items counts k x h e few so own i below =
    let go : ((i ≡ part x) ⊎ (i ≢ part x)) → get_or (set counts (part x) (get_or counts (part x) 0 + 1)) i 0 ≡ length (filter (λ item. nat_eq (part item) i) (take (k + 1) items)) =
    elim [
      | inl s ↦ subst (λ j. get_or (set counts (part x) (get_or counts (part x) 0 + 1)) j 0 ≡ length (filter (λ item. nat_eq (part item) j) (take (k + 1) items))) (sym s) (
          get_or-set_same counts (part x) (get_or counts (part x) 0 + 1) 0 few
          ∙ ap (λ c. c + 1) (so (part x) own)
          ∙ sym (ap length (next_in part items k x h e) ∙ length-append (filter (λ item. nat_eq (part item) (part x)) (take k items)) (x ∷ [])))
      | inr s ↦ get_or-set_other counts (part x) i (get_or counts (part x) 0 + 1) 0 s ∙ so i below ∙ sym (ap length (next_out part i items k x h e (λ q. s (sym q))))
    ] in
    go (cases_eq i (part x))

get-set_same : {X : Type 0} (xs : List X) (i : ℕ) (y : X) → i < length xs → slice_get (set xs i y) i ≡ Some y
get-set_same [] i y h = absurd (not-suc-le-zero h)
get-set_same (x ∷ xs) zero y h = refl
get-set_same (x ∷ xs) (suc i) y h = get-set_same xs i y (le_of_suc-le-suc h)

get-set_other : {X : Type 0} (xs : List X) (i j : ℕ) (y : X) → (j ≢ i) → slice_get (set xs i y) j ≡ slice_get xs j
get-set_other [] i j y n = refl
get-set_other (x ∷ xs) zero zero y n = absurd (n refl)
get-set_other (x ∷ xs) zero (suc j) y n = refl
get-set_other (x ∷ xs) (suc i) zero y n = refl
get-set_other (x ∷ xs) (suc i) (suc j) y n = get-set_other xs i j y (λ e. n (ap suc e))

some_same : {X : Type 0} (x y : X) → Some x ≡ Some y → x ≡ y
some_same x y h = cc

-- a part whose next item has come has room for it
has_room : {T : Type 0} (key_of : T → Key) (n : ℕ) (items : List T) (k : ℕ) (parts : List (Filled T)) (x : T) (to : Filled T) → IsFilling key_of n items k parts → k < length items → x ≡ get_or items k x → slice_get parts (stripe_of (key_of x) n) ≡ Some to → length to.items < to.room
has_room key_of n items k parts x to filling h e at =
    let each = filling.each (stripe_of (key_of x) n) to at in
    omega (arith, ap length each.0, each.1, part-le-all (λ item. nat_eq (stripe_of (key_of item) n) (stripe_of (key_of x) n)) items (k + 1), ap length (next_in (λ item. stripe_of (key_of item) n) items k x h e), length-append (filter (λ item. nat_eq (stripe_of (key_of item) n) (stripe_of (key_of x) n)) (take k items)) (x ∷ []))

-- it is put there
IsFilling-more : {T : Type 0} (key_of : T → Key) (n : ℕ) (items : List T) (k : ℕ) (parts : List (Filled T)) (x : T) (to : Filled T) → IsFilling key_of n items k parts → k < length items → x ≡ get_or items k x → slice_get parts (stripe_of (key_of x) n) ≡ Some to → stripe_of (key_of x) n < n → IsFilling key_of n items (k + 1) (set parts (stripe_of (key_of x) n) (with_items to (to.items ++ x ∷ [])))
IsFilling-more {T} key_of n items k parts x to filling h e at below =
    let s : ℕ = stripe_of (key_of x) n in
    let new : Filled T = with_items to (to.items ++ x ∷ []) in
    let part : T → ℕ = λ item. stripe_of (key_of item) n in
    let each : (i : ℕ) (p : Filled T) → slice_get (set parts s new) i ≡ Some p → (p.items ≡ filter (λ item. nat_eq (part item) i) (take (k + 1) items)) × (p.room ≡ length (filter (λ item. nat_eq (part item) i) items)) =
    λ i p f.
    let go : ((i ≡ s) ⊎ (i ≢ s)) → (p.items ≡ filter (λ item. nat_eq (part item) i) (take (k + 1) items)) × (p.room ≡ length (filter (λ item. nat_eq (part item) i) items)) =
    elim [
      | inl q ↦
          let g : new ≡ p = some_same new p (sym (get-set_same parts s new (rw filling.count below)) ∙ ap (λ j. slice_get (set parts s new) j) (sym q) ∙ f) in
          subst (λ r. (r.items ≡ filter (λ item. nat_eq (part item) i) (take (k + 1) items)) × (r.room ≡ length (filter (λ item. nat_eq (part item) i) items))) g (
          subst (λ j. (to.items ++ x ∷ [] ≡ filter (λ item. nat_eq (part item) j) (take (k + 1) items)) × (to.room ≡ length (filter (λ item. nat_eq (part item) j) items))) (sym q) (
            ap (λ ys. ys ++ x ∷ []) (filling.each s to at).0 ∙ sym (next_in part items k x h e),
            (filling.each s to at).1,
          ))
      | inr q ↦
          let old = filling.each i p (sym (get-set_other parts s i new q) ∙ f) in
          (old.0 ∙ sym (next_out part i items k x h e (λ r. q (sym r))), old.1)
    ] in
    go (cases_eq i s) in
    record { count = length-set parts s new ∙ filling.count; each = each }

-- the two at the part of a place that is known to be the item's
pub has_room-at : {T : Type 0} (key_of : T → Key) (n : ℕ) (items : List T) (k : ℕ) (parts : List (Filled T)) (x : T) (s : ℕ) (to : Filled T) → IsFilling key_of n items k parts → k < length items → x ≡ get_or items k x → s ≡ stripe_of (key_of x) n → s < n → length (get_or parts s to).items < (get_or parts s to).room
has_room-at key_of n items k parts x s to filling h e q below =
    has_room key_of n items k parts x (get_or parts s to) filling h e (ap (λ j. slice_get parts j) (sym q) ∙ slice_get-get_or parts s to (rw filling.count below))

pub IsFilling-at : {T : Type 0} (key_of : T → Key) (n : ℕ) (items : List T) (k : ℕ) (parts : List (Filled T)) (x : T) (s : ℕ) (to new : Filled T) → IsFilling key_of n items k parts → k < length items → x ≡ get_or items k x → s ≡ stripe_of (key_of x) n → s < n → new ≡ with_items (get_or parts s to) ((get_or parts s to).items ++ x ∷ []) → IsFilling key_of n items (k + 1) (set parts s new)
IsFilling-at key_of n items k parts x s to new filling h e q below f =
    let there : slice_get parts (stripe_of (key_of x) n) ≡ Some (get_or parts s to) = ap (λ j. slice_get parts j) (sym q) ∙ slice_get-get_or parts s to (rw filling.count below) in
    subst (λ j. IsFilling key_of n items (k + 1) (set parts j new)) (sym q) (
    subst (λ y. IsFilling key_of n items (k + 1) (set parts (stripe_of (key_of x) n) y)) (sym f) (
    IsFilling-more key_of n items k parts x (get_or parts s to) filling h e there (subst (λ j. j < n) q below)))

-- empty parts with the room that was counted are ready to be filled
pub IsFilling-start : {T : Type 0} (key_of : T → Key) (n : ℕ) (items : List T) (counts : List ℕ) (parts : List (Filled T)) → n ≤ length counts → ((i : ℕ) → i < n → get_or counts i 0 ≡ length (of_stripe key_of n i items)) → parts ≡ map (λ room. record { items = []; room = room }) (take n counts) → IsFilling key_of n items 0 parts
IsFilling-start {T} key_of n items counts parts few so e =
    let empty : ℕ → Filled T = λ room. record { items = []; room = room } in
    let each : (i : ℕ) (p : Filled T) → slice_get parts i ≡ Some p → (p.items ≡ of_stripe key_of n i (take 0 items)) × (p.room ≡ length (of_stripe key_of n i items)) =
    λ i p f.
    let go : (o : Option ℕ) → slice_get (take n counts) i ≡ o → option_map empty o ≡ Some p → (p.items ≡ of_stripe key_of n i (take 0 items)) × (p.room ≡ length (of_stripe key_of n i items)) =
    elim [
      | None ↦ λ g h. cc
      | Some c ↦ λ g h.
          let below : i < n = omega (arith, slice_get_within (take n counts) i c g, length-take n counts) in
          let r : get_or counts i 0 ≡ c = sym (get_or-take n counts i 0 below) ∙ get_or_from_slice_get (take n counts) i c 0 g in
          subst (λ p. (p.items ≡ of_stripe key_of n i (take 0 items)) × (p.room ≡ length (of_stripe key_of n i items))) (some_same (empty c) p h) (refl, sym r ∙ so i below)
    ] in
    go (slice_get (take n counts) i) refl (sym (slice_get-map empty (take n counts) i) ∙ ap (λ ps. slice_get ps i) (sym e) ∙ f) in
    record { count = ap length e ∙ length-map (take n counts) empty ∙ omega (arith, length-take n counts, few); each = each }

all_pass : {T : Type 0} (p : T → Bool) → ((x : T) → p x ≡ true) → (items : List T) → filter p items ≡ items
all_pass p h [] = refl
all_pass p h (x ∷ xs) = rw (h x) (ap (λ ys. x ∷ ys) (all_pass p h xs))

-- one part with all items
one_part : {T : Type 0} (key_of : T → Key) (items : List T) (i : ℕ) (p : Filled T) → slice_get (record { items = items; room = length items } ∷ []) i ≡ Some p → (p.items ≡ of_stripe key_of 1 i items) × (p.room ≡ length p.items)
one_part {T} key_of items zero p f =
    let same : record { items = items; room = length items } ≡ p = some_same (record { items = items; room = length items }) p f in (
      sym (ap (λ (q : Filled T). q.items) same) ∙ sym (all_pass (λ item. nat_eq (stripe_of (key_of item) 1) 0) (λ x. eq-eqb (stripe_of (key_of x) 1) 0 (mod-one ((key_of x).rec + sum (key_of x).sym))) items),
      sym (ap (λ (q : Filled T). q.room) same) ∙ ap (λ (q : Filled T). length q.items) same,
    )
one_part key_of items (suc i) p f = cc

pub AreStripes-one : {T : Type 0} (key_of : T → Key) (items : List T) (parts : List (Filled T)) → parts ≡ record { items = items; room = length items } ∷ [] → AreStripes key_of 1 items parts
AreStripes-one key_of items parts e = record { count = ap length e; each = λ i p f. one_part key_of items i p (sym (ap (λ ps. slice_get ps i) e) ∙ f) }
