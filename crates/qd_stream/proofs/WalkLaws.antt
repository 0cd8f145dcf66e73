-- One step more of a walk over keys, items or gifts.
use Rattle.std.proofs.Common.{◌≡◌, ℕ, suc, ◌+◌, ◌<◌, ◌≤◌, Bool, true, false, not, nat_eq, if◌then◌else◌, List, [], ◌∷◌, ◌++◌, length, map, drop, get_or, refl, ap, sym, ◌∙◌, subst, arith, add-one, drop-cons, append_assoc, inl, inr}
use Rattle.std.specs.Prelude.{Some, None}
use Rattle.std.specs.List.{filter}
use Rattle.std.proofs.Math.ListN.{drop_of_length-le}
use Rattle.qd_scheme.specs.declared.key.Key.{Key}
use Rattle.std.proofs.lemmas.List.{append-nil}
use Rattle.qd_buffer.specs.Filled.{Filled, with_items}
use Rattle.qd_sub.specs.declared.sub.Sub.{Sub}
use Rattle.qd_sub.proofs.SinceLaws.{same_number}
use Rattle.qd_pend.specs.Slots.{first_in, without}
use Rattle.qd_table.specs.Tables.{Table, slot_for, order_of}
use Rattle.qd_table.specs.Steps.{IsSubscribed}
use Rattle.qd_stream.specs.declared.item.StreamItem.{StreamItem}
use Rattle.qd_stream.specs.Items.{key_of_item}
use Rattle.qd_stream.specs.Stripes.{Shown}
use Rattle.qd_stream.specs.Steps.{SubscribesAll, RemovesAt, RemovesAll, PutsAt, PutsAll, Gives, GivesAll, DropsAll, EndsAll, IsEndedAt}

drop-first : {X : Type 0} (xs : List X) (i : ℕ) (d : X) → i < length xs → drop i xs ≡ get_or xs i d ∷ drop (i + 1) xs
drop-first xs i d h = drop-cons xs i d h ∙ ap (λ n. get_or xs i d ∷ drop n xs) (sym (add-one i))

abbrev pub keys_asked : List Sub → List Key
keys_asked subs = map (λ (s : Sub). s.key) subs

pub subscribes-more : (t mid fin : Table) (a slot i : ℕ) (subs : List Sub) (sub : Sub) → i < length subs → sub ≡ get_or subs i sub → IsSubscribed t a sub.key 0 slot mid →
    SubscribesAll mid a (keys_asked (drop (i + 1) subs)) fin → SubscribesAll t a (keys_asked (drop i subs)) fin
unfolding SubscribesAll
subscribes-more t mid fin a slot i subs sub h is one rest =
    subst (λ ss. SubscribesAll t a (keys_asked ss) fin) (sym (drop-first subs i sub h ∙ ap (λ s. s ∷ drop (i + 1) subs) (sym is))) (slot, mid, one, rest)

pub subscribes-end : (t : Table) (a i : ℕ) (subs : List Sub) → length subs ≤ i → SubscribesAll t a (keys_asked (drop i subs)) t
unfolding SubscribesAll
subscribes-end t a i subs h = subst (λ ss. SubscribesAll t a (keys_asked ss) t) (sym (drop_of_length-le subs h)) refl

pub removes-more : (s mid fin : Shown) (a i : ℕ) (ks : List Key) (k : Key) → i < length ks → k ≡ get_or ks i k → RemovesAt (slot_for s.table k) s a mid → RemovesAll mid a (drop (i + 1) ks) fin → RemovesAll s a (drop i ks) fin
unfolding RemovesAll
removes-more s mid fin a i ks k h is one rest =
    subst (λ js. RemovesAll s a js fin) (sym (drop-first ks i k h ∙ ap (λ j. j ∷ drop (i + 1) ks) (sym is))) (mid, one, rest)

pub removes-end : (s : Shown) (a i : ℕ) (ks : List Key) → length ks ≤ i → RemovesAll s a (drop i ks) s
unfolding RemovesAll
removes-end s a i ks h = subst (λ js. RemovesAll s a js s) (sym (drop_of_length-le ks h)) refl

pub puts-more : (s mid fin : Shown) (i : ℕ) (items : List StreamItem) (item : StreamItem) → i < length items → item ≡ get_or items i item → PutsAt (slot_for s.table (key_of_item item)) s item mid → PutsAll mid (drop (i + 1) items) fin → PutsAll s (drop i items) fin
unfolding PutsAll
puts-more s mid fin i items item h is one rest =
    subst (λ js. PutsAll s js fin) (sym (drop-first items i item h ∙ ap (λ j. j ∷ drop (i + 1) items) (sym is))) (mid, one, rest)

pub puts-end : (s : Shown) (i : ℕ) (items : List StreamItem) → length items ≤ i → PutsAll s (drop i items) s
unfolding PutsAll
puts-end s i items h = subst (λ js. PutsAll s js s) (sym (drop_of_length-le items h)) refl

-- a gift more
pub gives-more : (n m : ℕ) (s mid fin : Shown) (a : ℕ) (item : StreamItem) (rest : List StreamItem) → n ≡ suc m → Gives s a (Some item) mid → GivesAll m mid a rest fin → GivesAll n s a (item ∷ rest) fin
unfolding GivesAll
gives-more n m s mid fin a item rest e one more = subst (λ k. GivesAll k s a (item ∷ rest) fin) (sym e) (inr (item, rest, mid, refl, one, more))

pub gives-none : (n m : ℕ) (s fin : Shown) (a : ℕ) → n ≡ suc m → Gives s a None fin → GivesAll n s a [] fin
unfolding GivesAll
gives-none n m s fin a e one = subst (λ k. GivesAll k s a [] fin) (sym e) (inl (refl, one))

pub gives-end : (n : ℕ) (s : Shown) (a : ℕ) → n ≡ 0 → GivesAll n s a [] s
unfolding GivesAll
gives-end n s a e = subst (λ k. GivesAll k s a [] s) (sym e) (refl, refl)

pub drops-more : (n : ℕ) (s mid fin : Shown) (a : ℕ) (item : StreamItem) → Gives s a (Some item) mid → DropsAll n mid a fin → DropsAll (suc n) s a fin
unfolding DropsAll
drops-more n s mid fin a item one rest = (item, mid, one, rest)

pub drops-end : (s fin : Shown) (a : ℕ) → Gives s a None fin → DropsAll 0 s a fin
unfolding DropsAll
drops-end s fin a one = one

pub ends-more : (n : ℕ) (s mid fin : Shown) (a slot : ℕ) → first_in (order_of s.table a) ≡ Some slot → IsEndedAt s a slot mid → EndsAll n mid a fin → EndsAll (suc n) s a fin
unfolding EndsAll
ends-more n s mid fin a slot first one rest = (slot, mid, first, one, rest)

pub ends-end : (s : Shown) (a : ℕ) → first_in (order_of s.table a) ≡ None → EndsAll 0 s a s
unfolding EndsAll
ends-end s a first = (first, refl)

fewer : (p : ℕ → Bool) (xs : List ℕ) → length (filter p xs) ≤ length xs
fewer p [] = omega arith
fewer p (x ∷ xs) =
    let rest = fewer p xs in
    elim (p x) as (λ c. length (if c then x ∷ filter p xs else filter p xs) ≤ length (x ∷ xs)) [ true ↦ omega arith | false ↦ omega arith ]

-- fewer subscriptions are left
pub ends-shorter : (s mid : Shown) (a slot : ℕ) → first_in (order_of s.table a) ≡ Some slot → IsEndedAt s a slot mid → length (order_of mid.table a) < length (order_of s.table a)
ends-shorter s mid a slot first one =
    let left : order_of mid.table a ≡ without (order_of s.table a) slot = one.table.orders a ∙ ap (λ b. if b then without (order_of s.table a) slot else order_of s.table a) (same_number a) in
    subst (λ list. length list < length (order_of s.table a)) (sym left) (shorter (order_of s.table a) first)
  where
    shorter : (list : List ℕ) → first_in list ≡ Some slot → length (without list slot) < length list
    shorter [] h = cc
    shorter (x ∷ xs) h =
        let same : x ≡ slot = cc in
        let itself : nat_eq slot x ≡ true = ap (nat_eq slot) same ∙ same_number slot in
        let few = fewer (λ other. not (nat_eq slot other)) xs in
        rw itself (omega arith)

-- one item more was given
pub given-more : (items more : List StreamItem) (item : StreamItem) (rest : List StreamItem) → more ≡ items ++ item ∷ [] → items ++ item ∷ rest ≡ more ++ rest
given-more items more item rest e = sym (append_assoc items (item ∷ []) rest) ∙ ap (λ xs. xs ++ rest) (sym e)

pub filled-end : (old new : Filled StreamItem) → new.room ≡ old.room → new ≡ with_items old (new.items ++ [])
filled-end old new e = λ i. record { items = sym (append-nil new.items) i; room = e i }
