-- One step more of a walk over subscriptions, keys, events or gifts.
use Rattle.std.proofs.Common.{◌≡◌, ℕ, suc, ◌+◌, ◌<◌, ◌≤◌, Bool, true, false, not, nat_eq, if◌then◌else◌, Some, None, List, [], ◌∷◌, ◌++◌, length, drop, get_or, refl, ap, sym, ◌∙◌, subst, arith}
use Rattle.std.specs.List.{filter}
use Rattle.std.proofs.Math.ListN.{drop_of_length-le}
use Rattle.qd_scheme.specs.declared.key.Key.{Key}
use Rattle.qd_scheme.specs.declared.key.Event.{Event}
use Rattle.qd_buffer.specs.Filled.{Filled, with_items}
use Rattle.qd_pend.specs.Slots.{first_in, without}
use Rattle.qd_pend.proofs.ListLaws.{same}
use Rattle.qd_sub.specs.declared.sub.Sub.{Sub}
use Rattle.qd_table.specs.Tables.{slot_for, order_of}
use Rattle.qd_hist_rules.specs.declared.item.HistItem.{HistItem}
use Rattle.qd_hist_stand.specs.Stripes.{Shown}
use Rattle.qd_hist_stand.specs.Steps.{IsPut, IsSubscribing, IsDropped, IsGiven}
use Rattle.qd_history.specs.Rooms.{CanPut}
use Rattle.qd_history.specs.Steps.{SubscribesAll, RemovesAt, RemovesAll, PutsAll, EndsAll, Gift, GivesEach, last_slot, items_of}
use Rattle.qd_history.proofs.RoomLaws.{left-from}

pub subscribes-more : (s mid fin : Shown) (a slot i : ℕ) (xs : List Sub) (x : Sub) → i < length xs → x ≡ get_or xs i x → IsSubscribing s a x.key x.limit slot mid → SubscribesAll mid a (drop (i + 1) xs) fin → SubscribesAll s a (drop i xs) fin
unfolding SubscribesAll
subscribes-more s mid fin a slot i xs x h e step rest = subst (λ ys. SubscribesAll s a ys fin) (sym (left-from xs i x h e)) (slot, mid, step, rest)

pub subscribes-end : (s : Shown) (a i : ℕ) (xs : List Sub) → length xs ≤ i → SubscribesAll s a (drop i xs) s
unfolding SubscribesAll
subscribes-end s a i xs h = subst (λ ys. SubscribesAll s a ys s) (sym (drop_of_length-le xs h)) refl

pub removes-more : (s mid fin : Shown) (a i : ℕ) (ks : List Key) (k : Key) → i < length ks → k ≡ get_or ks i k → RemovesAt (slot_for s.table k) s a k mid → RemovesAll mid a (drop (i + 1) ks) fin → RemovesAll s a (drop i ks) fin
unfolding RemovesAll
removes-more s mid fin a i ks k h e step rest = subst (λ ys. RemovesAll s a ys fin) (sym (left-from ks i k h e)) (mid, step, rest)

pub removes-end : (s : Shown) (a i : ℕ) (ks : List Key) → length ks ≤ i → RemovesAll s a (drop i ks) s
unfolding RemovesAll
removes-end s a i ks h = subst (λ ys. RemovesAll s a ys s) (sym (drop_of_length-le ks h)) refl

pub puts-more : (s mid fin : Shown) (i : ℕ) (es : List Event) (e : Event) → i < length es → e ≡ get_or es i e → IsPut s e mid → PutsAll mid (drop (i + 1) es) fin → PutsAll s (drop i es) fin
unfolding PutsAll
puts-more s mid fin i es e h is step rest = subst (λ ys. PutsAll s ys fin) (sym (left-from es i e h is)) (mid, step, rest)

pub puts-end : (s : Shown) (i : ℕ) (es : List Event) → length es ≤ i → PutsAll s (drop i es) s
unfolding PutsAll
puts-end s i es h = subst (λ ys. PutsAll s ys s) (sym (drop_of_length-le es h)) refl

-- the next event may be put
pub can-next : (s : Shown) (i : ℕ) (es : List Event) (e : Event) → i < length es → e ≡ get_or es i e → CanPut s (drop i es) → CanPut s (e ∷ drop (i + 1) es)
can-next s i es e h is can = subst (CanPut s) (left-from es i e h is) can

pub ends-more : (n : ℕ) (s mid fin : Shown) (a slot : ℕ) → first_in (order_of s.table a) ≡ Some slot → IsDropped s a slot mid → EndsAll n mid a fin → EndsAll (suc n) s a fin
unfolding EndsAll
ends-more n s mid fin a slot first one rest = (slot, mid, first, one, rest)

pub ends-end : (s : Shown) (a : ℕ) → first_in (order_of s.table a) ≡ None → EndsAll 0 s a s
unfolding EndsAll
ends-end s a first = (first, refl)

fewer : (p : ℕ → Bool) (xs : List ℕ) → length (filter p xs) ≤ length xs
fewer p [] = omega arith
fewer p (x ∷ xs) =
    let rest = fewer p xs in
    elim (p x) as (λ b. length (if b then x ∷ filter p xs else filter p xs) ≤ suc (length xs)) [ true ↦ omega arith | false ↦ omega arith ]

pub ends-shorter : (s mid : Shown) (a slot : ℕ) → first_in (order_of s.table a) ≡ Some slot → IsDropped s a slot mid → length (order_of mid.table a) < length (order_of s.table a)
ends-shorter s mid a slot first one =
    let left : order_of mid.table a ≡ without (order_of s.table a) slot = one.table.orders a ∙ ap (λ b. if b then without (order_of s.table a) slot else order_of s.table a) (same a) in
    subst (λ list. length list < length (order_of s.table a)) (sym left) (shorter (order_of s.table a) first)
  where
    shorter : (list : List ℕ) → first_in list ≡ Some slot → length (without list slot) < length list
    shorter [] h = cc
    shorter (x ∷ xs) h =
        let is : x ≡ slot = cc in
        let itself : nat_eq slot x ≡ true = ap (nat_eq slot) is ∙ same slot in
        let few = fewer (λ other. not (nat_eq slot other)) xs in
        rw itself (omega arith)

-- one gift more, at the end
pub gives-snoc : (gs : List Gift) (s mid t : Shown) (a : ℕ) (g : Gift) → GivesEach s a gs mid → IsGiven mid a g.slot g.item t → GivesEach s a (gs ++ g ∷ []) t
unfolding GivesEach
gives-snoc [] s mid t a g e given = (t, subst (λ x. IsGiven x a g.slot g.item t) (sym e) given, refl)
gives-snoc (h ∷ gs) s mid t a g (first, step, rest) given = (first, step, gives-snoc gs first mid t a g rest given)

pub last-snoc : (gs : List Gift) (g : Gift) → last_slot (gs ++ g ∷ []) ≡ Some g.slot
last-snoc [] g = refl
last-snoc (h ∷ []) g = refl
last-snoc (h ∷ i ∷ gs) g = last-snoc (i ∷ gs) g

pub items-snoc : (gs : List Gift) (g : Gift) → items_of (gs ++ g ∷ []) ≡ items_of gs ++ g.item ∷ []
items-snoc [] g = refl
items-snoc (h ∷ gs) g = ap (λ is. h.item ∷ is) (items-snoc gs g)

pub length-items : (gs : List Gift) → length (items_of gs) ≡ length gs
length-items [] = refl
length-items (g ∷ gs) = ap suc (length-items gs)

pub filled : (old new : Filled HistItem) (gs : List Gift) → new.room ≡ old.room → new.items ≡ items_of gs → new ≡ with_items old (items_of gs)
filled old new gs r e = λ i. record { items = e i; room = r i }

pub gives-none : (s : Shown) (a : ℕ) → GivesEach s a [] s
unfolding GivesEach
gives-none s a = refl

pub last-none : (gs : List Gift) → last_slot gs ≡ None → length gs ≡ 0
last-none [] h = refl
last-none (g ∷ []) h = cc
last-none (g ∷ i ∷ gs) h = absurd (let z = last-none (i ∷ gs) h in omega arith)
