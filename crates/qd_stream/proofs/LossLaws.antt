-- What one more dropped item, and a report, do to the losses.
use Rattle.std.proofs.Common.{◌≡◌, ℕ, ◌+◌, ◌≤◌, ⊎_elim, Bool, true, false, ◌||◌, not, if◌then◌else◌, List, [], ◌∷◌, ◌++◌, refl, ap, sym, ◌∙◌, arith}
use Rattle.std.specs.Prelude.{min, map}
use Rattle.std.proofs.Math.Nat.{min-eq_left, min-eq_right}
use Rattle.std.proofs.lemmas.Bool.Decides.{leb_tells}
use Rattle.std.specs.List.{filter, list_any, sum_by}
use Rattle.std.proofs.lemmas.List.{append-nil}
use Rattle.std.proofs.lemmas.List.Elements.{filter-append}
use Rattle.std.proofs.lemmas.List.Sums.{sum_by-append, sum_by-cons}
use Rattle.qd_scheme.specs.declared.key.Key.{Key}
use Rattle.qd_scheme.specs.Keys.{key_eq}
use Rattle.qd_scheme.proofs.KeyLaws.{key_eq-same, key_eq-true, key_eq-comm}
use Rattle.qd_sub.specs.Holding.{has_key, fresh}
use Rattle.qd_stream.specs.declared.item.StreamItem.{StreamItem}
use Rattle.qd_stream.specs.Items.{key_of_item, weight}
use Rattle.qd_stream.specs.Losses.{weight_of}
use Rattle.qd_stream.specs.Owed.{Loss, losses, is_lost, raised, with_loss}
use Rattle.qd_table.proofs.FreshLaws.{fresh-has, fresh-end, but, fresh-but, fresh-first}

abbrev most : ℕ
most = 18446744073709551615

-- the item is of k
abbrev pub is_of : Key → StreamItem → Bool
is_of k i = key_eq k (key_of_item i)

-- a sum that stops at m may stop before it is added to
min-add : (s w m : ℕ) → min (s + w) m ≡ min (min s m + w) m
min-add s w m =
    ⊎_elim
    (λ t. let h : s ≤ m = t.1 in ap (λ n. min (n + w) m) (sym (min-eq_left h)))
    (λ t. let h : m ≤ s = omega (arith, t.1) in let up : m ≤ s + w = omega arith in let over : m ≤ m + w = omega arith in
    min-eq_right up ∙ sym (ap (λ n. min (n + w) m) (min-eq_right h) ∙ min-eq_right over))
    (leb_tells s m)

-- one more item of k
pub weight_of-same : (k : Key) (items : List StreamItem) (item : StreamItem) → is_of k item ≡ true → weight_of k (items ++ item ∷ []) ≡ min (weight_of k items + weight item) most
unfolding weight_of
weight_of-same k items item h =
    let one : filter (is_of k) (item ∷ []) ≡ item ∷ [] = rw h refl in
    let alone : sum_by weight (item ∷ []) ≡ weight item = omega (arith, sum_by-cons weight item []) in
    ap (λ xs. min (sum_by weight xs) most) (filter-append (is_of k) items (item ∷ []) ∙ ap (λ xs. filter (is_of k) items ++ xs) one)
    ∙ ap (λ n. min n most) (sum_by-append weight (filter (is_of k) items) (item ∷ []) ∙ ap (λ n. sum_by weight (filter (is_of k) items) + n) alone)
    ∙ min-add (sum_by weight (filter (is_of k) items)) (weight item) most

pub weight_of-other : (k : Key) (items : List StreamItem) (item : StreamItem) → is_of k item ≡ false → weight_of k (items ++ item ∷ []) ≡ weight_of k items
unfolding weight_of
weight_of-other k items item h =
    let none : filter (is_of k) (item ∷ []) ≡ [] = rw h refl in
    ap (λ xs. min (sum_by weight xs) most) (filter-append (is_of k) items (item ∷ []) ∙ ap (λ xs. filter (is_of k) items ++ xs) none ∙ append-nil (filter (is_of k) items))

filter-none : (k : Key) (items : List StreamItem) → has_key (map key_of_item items) k ≡ false → filter (is_of k) items ≡ []
filter-none k [] h = refl
filter-none k (i ∷ is) h =
    let go : (c : Bool) → is_of k i ≡ c → filter (is_of k) (i ∷ is) ≡ [] =
    elim [
      | true ↦ λ e. let z = rw e at h in cc
      | false ↦ λ e. rw e (filter-none k is (rw e at h))
    ] in
    go (is_of k i) refl

-- nothing of k is there
pub weight_of-none : (k : Key) (items : List StreamItem) → has_key (map key_of_item items) k ≡ false → weight_of k items ≡ 0
unfolding weight_of
weight_of-none k items h = rw (filter-none k items h) refl

-- the items that are not of k
abbrev pub others : Key → List StreamItem → List StreamItem
others k items = filter (λ i. not (is_of k i)) items

filter-others : (k j : Key) (items : List StreamItem) → key_eq k j ≡ false → filter (is_of j) (others k items) ≡ filter (is_of j) items
filter-others k j [] h = refl
filter-others k j (i ∷ is) h =
    let go : (c d : Bool) → is_of k i ≡ c → is_of j i ≡ d → filter (is_of j) (others k (i ∷ is)) ≡ filter (is_of j) (i ∷ is) =
    elim [
      | true ↦ elim [
        | true ↦ λ e f. (let same : key_eq k j ≡ true = ap (λ x. key_eq k x) (key_eq-true j (key_of_item i) f) ∙ e in cc)
        | false ↦ λ e f. rw (e, f) (filter-others k j is h)
      ]
      | false ↦ elim [
        | true ↦ λ e f. rw (e, f) (ap (λ xs. i ∷ xs) (filter-others k j is h))
        | false ↦ λ e f. rw (e, f) (filter-others k j is h)
      ]
    ] in
    go (is_of k i) (is_of j i) refl refl

weight_of-others : (k j : Key) (items : List StreamItem) → key_eq k j ≡ false → weight_of j (others k items) ≡ weight_of j items
unfolding weight_of
weight_of-others k j items h = rw (filter-others k j items h) refl

keys-others : (k : Key) (items : List StreamItem) → map key_of_item (others k items) ≡ but k (map key_of_item items)
keys-others k [] = refl
keys-others k (i ∷ is) =
    elim (is_of k i) as (λ c. map key_of_item (if not c then i ∷ others k is else others k is) ≡ (if not c then key_of_item i ∷ but k (map key_of_item is) else but k (map key_of_item is))) [
      | true ↦ keys-others k is
      | false ↦ ap (λ ks. key_of_item i ∷ ks) (keys-others k is)
    ]

keys-end : (items : List StreamItem) (item : StreamItem) → map key_of_item (items ++ item ∷ []) ≡ map key_of_item items ++ key_of_item item ∷ []
keys-end [] item = refl
keys-end (i ∷ is) item = ap (λ ks. key_of_item i ∷ ks) (keys-end is item)

-- the losses of these keys
abbrev loss_in : List StreamItem → Key → Loss
loss_in items k = record { key = k; count = weight_of k items }

is_lost-map : (items : List StreamItem) (ks : List Key) (k : Key) → is_lost (map (loss_in items) ks) k ≡ has_key ks k
is_lost-map items [] k = refl
is_lost-map items (j ∷ js) k = ap (λ b. key_eq k j || b) (is_lost-map items js k)

-- a key is lost where an item of it was dropped
pub is_lost-losses : (items : List StreamItem) (k : Key) → is_lost (losses items) k ≡ list_any (is_of k) items
unfolding losses
is_lost-losses items k = is_lost-map items (fresh [] (map key_of_item items)) k ∙ fresh-has [] (map key_of_item items) k refl ∙ any-keys items
  where
    any-keys : (is : List StreamItem) → has_key (map key_of_item is) k ≡ list_any (is_of k) is
    any-keys [] = refl
    any-keys (i ∷ is) = ap (λ b. is_of k i || b) (any-keys is)

pub is_lost-keys : (items : List StreamItem) (k : Key) → is_lost (losses items) k ≡ has_key (map key_of_item items) k
unfolding losses
is_lost-keys items k = is_lost-map items (fresh [] (map key_of_item items)) k ∙ fresh-has [] (map key_of_item items) k refl

raised-map : (items : List StreamItem) (item : StreamItem) (ks : List Key) → map (loss_in (items ++ item ∷ [])) ks ≡ map (raised (key_of_item item) (weight item)) (map (loss_in items) ks)
raised-map items item [] = refl
raised-map items item (j ∷ js) = λ i. one i ∷ raised-map items item js i
  where
    k : Key
    k = key_of_item item

    one : loss_in (items ++ item ∷ []) j ≡ raised (key_of_item item) (weight item) (loss_in items j)
    one =
        let go : (c : Bool) → key_eq (key_of_item item) j ≡ c → loss_in (items ++ item ∷ []) j ≡ (if c then record { key = j; count = min (weight_of j items + weight item) most } else loss_in items j) =
        elim [
          | true ↦ λ e. ap (λ n. record { key = j; count = n }) (weight_of-same j items item (key_eq-comm j (key_of_item item) ∙ e))
          | false ↦ λ e. ap (λ n. record { key = j; count = n }) (weight_of-other j items item (key_eq-comm j (key_of_item item) ∙ e))
        ] in
        go (key_eq (key_of_item item) j) refl

same-map : (items : List StreamItem) (item : StreamItem) (ks : List Key) → has_key ks (key_of_item item) ≡ false → map (loss_in (items ++ item ∷ [])) ks ≡ map (loss_in items) ks
same-map items item [] h = refl
same-map items item (j ∷ js) h =
    let apart = or-left (key_eq (key_of_item item) j) (has_key js (key_of_item item)) h in
    let one : weight_of j (items ++ item ∷ []) ≡ weight_of j items = weight_of-other j items item (key_eq-comm j (key_of_item item) ∙ apart) in
    λ i. record { key = j; count = one i } ∷ same-map items item js (or-right (key_eq (key_of_item item) j) (has_key js (key_of_item item)) h) i
  where
    or-left : (a b : Bool) → (a || b) ≡ false → a ≡ false
    or-left true b h = h
    or-left false b h = refl

    or-right : (a b : Bool) → (a || b) ≡ false → b ≡ false
    or-right true b h = cc
    or-right false b h = h

map-end : (f : Key → Loss) (ks : List Key) (k : Key) → map f (ks ++ k ∷ []) ≡ map f ks ++ f k ∷ []
map-end f [] k = refl
map-end f (j ∷ js) k = ap (λ ls. f j ∷ ls) (map-end f js k)

-- one more item was dropped
pub losses-end : (items : List StreamItem) (item : StreamItem) → losses (items ++ item ∷ []) ≡ with_loss (losses items) item
unfolding losses with_loss
losses-end items item =
    let k = key_of_item item in
    let ks = map key_of_item items in
    let all = fresh [] ks in
    ap (λ js. map (loss_in (items ++ item ∷ [])) (fresh [] js)) (keys-end items item)
    ∙ ap (map (loss_in (items ++ item ∷ []))) (fresh-end [] ks k)
    ∙ (let go : (c : Bool) → has_key ks k ≡ c → map (loss_in (items ++ item ∷ [])) (all ++ (if c then [] else k ∷ [])) ≡ (if is_lost (map (loss_in items) all) k then map (raised k (weight item)) (map (loss_in items) all) else map (loss_in items) all ++ record { key = k; count = min (weight item) most } ∷ []) =
    elim [
      | true ↦ λ e.
          let there : is_lost (map (loss_in items) all) k ≡ true = is_lost-map items all k ∙ (fresh-has [] ks k refl ∙ e) in
          rw there (ap (map (loss_in (items ++ item ∷ []))) (append-nil all) ∙ raised-map items item all)
      | false ↦ λ e.
          let new : has_key all k ≡ false = fresh-has [] ks k refl ∙ e in
          let there : is_lost (map (loss_in items) all) k ≡ false = is_lost-map items all k ∙ new in
          let count : weight_of k (items ++ item ∷ []) ≡ min (weight item) most = weight_of-same k items item (key_eq-same k) ∙ ap (λ n. min (n + weight item) most) (weight_of-none k items e) ∙ ap (λ n. min n most) (zero-plus (weight item)) in
          rw there (map-end (loss_in (items ++ item ∷ [])) all k ∙ (λ i. same-map items item all new i ++ record { key = k; count = count i } ∷ []))
    ] in
    go (has_key ks k) refl)
  where
    zero-plus : (n : ℕ) → 0 + n ≡ n
    zero-plus n = omega arith

-- all losses but that of k
abbrev pub lost_but : Key → List Loss → List Loss
lost_but k lost = filter (λ l. not (key_eq k l.key)) lost

map-but : (items : List StreamItem) (k : Key) (ks : List Key) → map (loss_in (others k items)) (but k ks) ≡ lost_but k (map (loss_in items) ks)
map-but items k [] = refl
map-but items k (j ∷ js) =
    let go : (c : Bool) → key_eq k j ≡ c → map (loss_in (others k items)) (if not c then j ∷ but k js else but k js) ≡ (if not c then loss_in items j ∷ lost_but k (map (loss_in items) js) else lost_but k (map (loss_in items) js)) =
    elim [
      | true ↦ λ e. map-but items k js
      | false ↦ λ e. (let one = weight_of-others k j items e in λ i. record { key = j; count = one i } ∷ map-but items k js i)
    ] in
    go (key_eq k j) refl

-- the loss of k was reported
pub losses-others : (k : Key) (items : List StreamItem) → losses (others k items) ≡ lost_but k (losses items)
unfolding losses
losses-others k items =
    ap (λ ks. map (loss_in (others k items)) (fresh [] ks)) (keys-others k items)
    ∙ ap (map (loss_in (others k items))) (sym (fresh-but k [] [] (map key_of_item items) (λ j e. refl)))
    ∙ map-but items k (fresh [] (map key_of_item items))

-- the first loss is that of the first dropped item, and the other ones are of other keys
pub losses-first : (item : StreamItem) (items : List StreamItem) → losses (item ∷ items) ≡ loss_in (item ∷ items) (key_of_item item) ∷ lost_but (key_of_item item) (losses (item ∷ items))
unfolding losses fresh
losses-first item items =
    let k = key_of_item item in
    let ks = map key_of_item items in
    let rest = map (loss_in (item ∷ items)) (fresh (k ∷ []) ks) in
    ap (λ ls. loss_in (item ∷ items) k ∷ ls) (left k (item ∷ items) (fresh (k ∷ []) ks) (fresh-first k ks))
  where
    left : (k : Key) (is : List StreamItem) (ks : List Key) → but k (k ∷ ks) ≡ ks → map (loss_in is) ks ≡ lost_but k (map (loss_in is) (k ∷ ks))
    left k is ks e = sym (ap (map (loss_in is)) e) ∙ maps k is (k ∷ ks)
      where
        maps : (k : Key) (is : List StreamItem) (js : List Key) → map (loss_in is) (but k js) ≡ lost_but k (map (loss_in is) js)
        maps k is [] = refl
        maps k is (j ∷ js) = elim (key_eq k j) as (λ c. map (loss_in is) (if not c then j ∷ but k js else but k js) ≡ (if not c then loss_in is j ∷ lost_but k (map (loss_in is) js) else lost_but k (map (loss_in is) js))) [
          | true ↦ maps k is js
          | false ↦ ap (λ ls. loss_in is j ∷ ls) (maps k is js)
        ]
