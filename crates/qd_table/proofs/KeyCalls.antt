-- What the calls by key say, from what those by slot say.
use Rattle.std.proofs.Common.{◌≡◌, inl, inr, ℕ, zero, suc, ◌+◌, ◌-◌, ◌*◌, ◌^◌, ◌<◌, ◌≤◌, Bool, true, false, ◌&&◌, not, if◌then◌else◌, nat_eq, Option, Some, None, is_some, List, [], ◌∷◌, ◌++◌, length, take, drop, slice_index_or, append_assoc, refl, ap, sym, ◌∙◌, arith, subst}
use Rattle.std.proofs.lemmas.Bool.Decides.{nat_tests}
use Rattle.std.proofs.Math.Pow.{pow_mono}
use Rattle.std.proofs.Math.Nat.{pow-suc}
use Rattle.std.proofs.lemmas.List.{append-nil, length-append, drop_more}
use Rattle.std.proofs.Math.ListN.{drop_of_length-le}
use Rattle.std.proofs.lemmas.List.Elements.{filter_map-append}
use Rattle.std.specs.List.{filter_map, cons_option}
use Rattle.std.proofs.lemmas.Bool.{not-true}
use Rattle.qd_scheme.specs.declared.key.Key.{Key}
use Rattle.qd_buffer.specs.Filled.{Filled, with_items}
use Rattle.qd_sub.specs.declared.sub.Sub.{Sub}
use Rattle.qd_sub.specs.declared.sub.Want.{Want}
use Rattle.qd_pend.specs.Slots.{has, without, first_in, rest_of, next_in, EachOnce}
use Rattle.qd_pend.proofs.ListLaws.{same, equal, without-first, has-here, has-later}
use Rattle.qd_slots.specs.declared.holds.Hold.{Hold}
use Rattle.qd_slots.specs.declared.holds.Hold.TheVariants.{Free, Kept, Subscribed}
use Rattle.qd_slots.specs.Holds.{is_subscribed, is_held, is_kept}
use Rattle.qd_slots.specs.Views.{queued_again}
use Rattle.qd_table.specs.Tables.{Table, slots_in, key_at, slot_for, hold_for, limit_for, order_of, total_for, is_wanted_slot, queue_of, differs_for, is_used, limit_by, total_by, bit_at, bits_from, agent_bits, first_key, is_wanted_key, becomes_unwanted, total_to_tell, want_for, wants_for, wants_at, slot_after}
use Rattle.qd_table.specs.Steps.{IsEnded, IsLetGo, IsTold, ToldFirst, IsSubscribed, EndsAll, LetsAllGo, TellsAll, SubscribesAll}
use Rattle.qd_table.specs.Sound.{IsSound}
use Rattle.qd_table.proofs.TableLaws.{or-left, or-right, or-cases, some-from, true-false, some-none, some-same, by, wanted-subscriber, wanted-someone, unused-hold, key_at-used, used-agent, key_at-found, key_at-within}
use Rattle.qd_table.proofs.CallSteps.{kept-moved}
use Rattle.qd_table.proofs.StandLaws.{differs-used}
use Rattle.qd_table.proofs.StandSteps.{by-new}

-- the first key
pub first-none : (t : Table) (a : ℕ) → first_in (order_of t a) ≡ None → None ≡ first_key t a
unfolding first_key
first-none t a h =
    let go : (list : List ℕ) → first_in list ≡ None → (let o : Option Key = None in o ≡ elim list [ [] ↦ None | slot ∷ slots ↦ key_at t slot ]) =
    elim [ [] ↦ λ e. refl | slot ∷ slots ↦ λ e. absurd (some-none slot e) ] in
    go (order_of t a) h

pub first-some : (t : Table) (a slot : ℕ) → first_in (order_of t a) ≡ Some slot → key_at t slot ≡ first_key t a
unfolding first_key
first-some t a slot h =
    let go : (list : List ℕ) → first_in list ≡ Some slot → key_at t slot ≡ elim list [ [] ↦ None | i ∷ slots ↦ key_at t i ] =
    elim [ [] ↦ λ e. absurd (some-none slot (sym e)) | i ∷ slots ↦ λ e. ap (key_at t) (sym (some-same i slot e)) ] in
    go (order_of t a) h

-- by key
pub limit-none : (t : Table) (a : ℕ) (k : Key) → slot_for t k ≡ None → None ≡ limit_by t a k
unfolding limit_by
limit-none t a k e = sym (ap (λ o. by o (limit_for t a) None) e)

pub limit-some : (t : Table) (a : ℕ) (k : Key) (slot : ℕ) → slot_for t k ≡ Some slot → limit_for t a slot ≡ limit_by t a k
unfolding limit_by
limit-some t a k slot e = sym (ap (λ o. by o (limit_for t a) None) e)

pub total-none : (t : Table) (k : Key) → slot_for t k ≡ None → None ≡ total_by t k
unfolding total_by
total-none t k e = sym (ap (λ o. by o (total_for t) None) e)

pub total-some : (t : Table) (k : Key) (slot : ℕ) → slot_for t k ≡ Some slot → total_for t slot ≡ total_by t k
unfolding total_by
total-some t k slot e = sym (ap (λ o. by o (total_for t) None) e)

pub bits-none : (t : Table) (k : Key) → slot_for t k ≡ None → 0 ≡ agent_bits t k
unfolding agent_bits
bits-none t k e = sym (ap (λ o. by o (λ slot. bits_from t slot 0 128) 0) e)

pub bits-some : (t : Table) (k : Key) (slot : ℕ) → slot_for t k ≡ Some slot → bits_from t slot 0 128 ≡ agent_bits t k
unfolding agent_bits
bits-some t k slot e = sym (ap (λ o. by o (λ i. bits_from t i 0 128) 0) e)

-- bits
bit-≤ : (t : Table) (slot a : ℕ) → bit_at t slot a ≤ 1
unfolding bit_at
bit-≤ t slot a = elim (is_subscribed (hold_for t a slot)) as (λ c. (if c then 1 else 0) ≤ 1) [ true ↦ omega arith | false ↦ omega arith ]

pub bits-lt : (t : Table) (slot a n : ℕ) → bits_from t slot a n < 2 ^ n
unfolding bits_from
bits-lt t slot a zero = omega arith
bits-lt t slot a (suc n) = let r = bits-lt t slot (suc a) n in let b = bit-≤ t slot a in let p = pow-suc 2 n in omega (arith, r, b, p)

pub bits-next : (t : Table) (slot a n bits bit : ℕ) → bits ≡ bits_from t slot (suc a) n → bit ≡ bit_at t slot a → 2 * bits + bit ≡ bits_from t slot a (suc n)
unfolding bits_from
bits-next t slot a n bits bit e f = let x = e in let y = f in omega (arith, x, y)

pub bits-fit : (t : Table) (slot a n bits : ℕ) → bits ≡ bits_from t slot a n → n ≤ 127 → 2 * bits + 1 < 2 ^ 128
bits-fit t slot a n bits e l = let r = bits-lt t slot a n in let m = pow_mono {i = n} {j = 127} l in let p : 2 ^ 128 ≡ 2 ^ 127 * 2 = pow-suc 2 127 in omega (arith, e, r, m, p)

pub bits-loop : (t : Table) (slot i bits bit : ℕ) → i < 128 → bits ≡ bits_from t slot (128 - i) i → bit ≡ bit_at t slot (127 - i) → 2 * bits + bit ≡ bits_from t slot (128 - (i + 1)) (i + 1)
bits-loop t slot i bits bit l e f =
    let x : 128 - i ≡ suc (127 - i) = omega (arith, l) in
    let y : 127 - i ≡ 128 - (i + 1) = omega (arith, l) in
    let z : suc i ≡ i + 1 = omega arith in
    bits-next t slot (127 - i) i bits bit (e ∙ ap (λ a. bits_from t slot a i) x) f ∙ ap (λ a. bits_from t slot a (suc i)) y ∙ ap (bits_from t slot (128 - (i + 1))) z

pub bits-start : (t : Table) (slot : ℕ) → 0 ≡ bits_from t slot 128 0
unfolding bits_from
bits-start t slot = refl

pub bit-fits : (t : Table) (slot a bit : ℕ) → bit ≡ bit_at t slot a → bit ≤ 1
bit-fits t slot a bit e = let b = bit-≤ t slot a in omega (arith, e, b)

pub bit-of : (t : Table) (slot a : ℕ) (b : Bool) → b ≡ is_subscribed (hold_for t a slot) → (if b then 1 else 0) ≡ bit_at t slot a
unfolding bit_at
bit-of t slot a b e = ap (λ c. if c then 1 else 0) e

-- whether a key became unwanted
wanted-key : (t : Table) (k : Key) (slot : ℕ) → slot_for t k ≡ Some slot → is_wanted_key t k ≡ is_wanted_slot t slot
unfolding is_wanted_key
wanted-key t k slot e = ap (λ o. by o (is_wanted_slot t) false) e

pub stays-wanted : (t : Table) (k : Key) → false ≡ becomes_unwanted t t k
unfolding becomes_unwanted
stays-wanted t k = elim (is_wanted_key t k) as (λ c. false ≡ (c && not c)) [ true ↦ refl | false ↦ refl ]

unused-wanted : (t : Table) (slot : ℕ) → IsSound t → is_used t slot ≡ false → is_wanted_slot t slot ≡ false
unused-wanted t slot s u =
    let go : (c : Bool) → is_wanted_slot t slot ≡ c → is_wanted_slot t slot ≡ false =
    elim [
      | true ↦ λ e. (let f = wanted-someone t slot e in absurd (true-false (sym f.1 ∙ ap is_subscribed (unused-hold t f.0 slot s u))))
      | false ↦ λ e. e
    ] in
    go (is_wanted_slot t slot) refl

pub end-unwanted : (old new : Table) (a : ℕ) (k : Key) (slot : ℕ) (keep : Bool) → IsSound old → IsSound new → slot_for old k ≡ Some slot → is_subscribed (hold_for old a slot) ≡ true → IsEnded old a slot keep new → not (is_wanted_slot new slot) ≡ becomes_unwanted old new k
unfolding becomes_unwanted is_wanted_key
end-unwanted old new a k slot keep s snew e sub h =
    let own = key_at-found old k slot e in
    sym (ap (λ c. c && not (is_wanted_key new k)) (wanted-key old k slot e ∙ wanted-subscriber old a slot s sub)
    ∙ ap not (by-new old new k slot (not (is_used new slot)) (kept-moved old new k slot s own h.names) (is_wanted_slot new) false (λ g. unused-wanted new slot snew (not-true (is_used new slot) g))))

-- an order after the end of its first
first-split : (list : List ℕ) (slot : ℕ) → first_in list ≡ Some slot → list ≡ slot ∷ rest_of list
first-split [] slot e = absurd (some-none slot (sym e))
first-split (i ∷ list) slot e = ap (λ x. x ∷ list) (some-same i slot e)

first-gone : (list : List ℕ) (slot : ℕ) → EachOnce list → first_in list ≡ Some slot → without list slot ≡ rest_of list
unfolding EachOnce
first-gone [] slot o e = absurd (some-none slot (sym e))
first-gone (i ∷ list) slot o e = ap (without (i ∷ list)) (sym (some-same i slot e)) ∙ without-first i list o.0

pub empty-first : (list : List ℕ) → first_in list ≡ None → list ≡ []
empty-first [] e = refl
empty-first (i ∷ list) e = absurd (some-none i e)

pub order-ended : (old new : Table) (a slot : ℕ) → IsSound old → first_in (order_of old a) ≡ Some slot → IsEnded old a slot false new → order_of new a ≡ rest_of (order_of old a)
order-ended old new a slot s e h = h.orders a ∙ ap (λ c. if c then without (order_of old a) slot else order_of old a) (same a) ∙ first-gone (order_of old a) slot (s.ordered_once a) e

pub order-joined : (done list : List ℕ) (slot : ℕ) → first_in list ≡ Some slot → (done ++ slot ∷ []) ++ rest_of list ≡ done ++ list
order-joined done list slot e = append_assoc done (slot ∷ []) (rest_of list) ∙ ap (λ xs. done ++ xs) (sym (first-split list slot e))

pub order-shorter : (list : List ℕ) (slot : ℕ) → first_in list ≡ Some slot → length (rest_of list) < length list
order-shorter [] slot e = absurd (some-none slot (sym e))
order-shorter (i ∷ list) slot e = omega arith

-- how many slots an agent keeps
unfoldable pub kept_count : Table → ℕ → ℕ → ℕ
kept_count t a zero = 0
kept_count t a (suc n) = (if is_kept (hold_for t a n) then 1 else 0) + kept_count t a n

count-same : (old new : Table) (a n : ℕ) → ((i : ℕ) → i < n → hold_for new a i ≡ hold_for old a i) → kept_count new a n ≡ kept_count old a n
unfolding kept_count
count-same old new a zero h = refl
count-same old new a (suc n) h = ap (λ hold. (if is_kept hold then 1 else 0) + kept_count new a n) (h n (omega arith)) ∙ ap (λ m. (if is_kept (hold_for old a n) then 1 else 0) + m) (count-same old new a n (λ i l. h i (omega (arith, l))))

count-less : (old new : Table) (a slot n : ℕ) → slot < n → is_kept (hold_for old a slot) ≡ true → is_kept (hold_for new a slot) ≡ false → ((i : ℕ) → nat_eq i slot ≡ false → hold_for new a i ≡ hold_for old a i) → kept_count new a n < kept_count old a n
unfolding kept_count
count-less old new a slot zero l k f h = absurd (omega arith)
count-less old new a slot (suc n) l k f h =
    let go : (c : Bool) → nat_eq slot n ≡ c → (if is_kept (hold_for new a n) then 1 else 0) + kept_count new a n < (if is_kept (hold_for old a n) then 1 else 0) + kept_count old a n =
    elim [
      | true ↦ λ e. (let rest = count-same old new a n (λ i m. h i (below-apart i slot n e m)) in
          let p : (let y : ℕ = if is_kept (hold_for new a n) then 1 else 0 in y) ≡ (let z : ℕ = 0 in z) = ap (λ c. if c then 1 else 0) (ap (λ i. is_kept (hold_for new a i)) (sym (equal slot n e)) ∙ f) in
          let q : (let y : ℕ = if is_kept (hold_for old a n) then 1 else 0 in y) ≡ (let z : ℕ = 1 in z) = ap (λ c. if c then 1 else 0) (ap (λ i. is_kept (hold_for old a i)) (sym (equal slot n e)) ∙ k) in omega (arith, rest, p, q))
      | false ↦ λ e. (let rest = count-less old new a slot n (next-below slot n l e) k f h in
          let p : (let z : ℕ = if is_kept (hold_for new a n) then 1 else 0 in z) ≡ (if is_kept (hold_for old a n) then 1 else 0) = ap (λ hold. if is_kept hold then 1 else 0) (h n (turned slot n e)) in omega (arith, rest, p))
    ] in
    go (nat_eq slot n) refl
  where
    next-below : (i m : ℕ) → i < suc m → nat_eq i m ≡ false → i < m
    next-below i m u e = grind (arith, nat_tests)

    turned : (i m : ℕ) → nat_eq i m ≡ false → nat_eq m i ≡ false
    turned i m e = grind (arith, nat_tests)

    below-apart : (i m b : ℕ) → nat_eq m b ≡ true → i < b → nat_eq i m ≡ false
    below-apart i m b e u = grind (arith, nat_tests)

pub kept-fewer : (old new : Table) (a slot : ℕ) → IsSound old → is_kept (hold_for old a slot) ≡ true → IsLetGo old a slot new → kept_count new a (slots_in new) < kept_count old a (slots_in old)
kept-fewer old new a slot s k h =
    let own = key_at-used old slot s (used-agent old a slot s (kept-held (hold_for old a slot) k)) in
    let w = key_at-within old slot own.0 own.1 in
    subst (λ (n : ℕ). kept_count new a n < kept_count old a (slots_in old)) (sym h.slots)
    (count-less old new a slot (slots_in old) w k gone (λ i e. h.holds a i ∙ ap (λ c. if (nat_eq a a && c) && is_kept (hold_for old a i) then Free else hold_for old a i) e ∙ other (nat_eq a a) i))
  where
    kept-held : (hold : Hold) → is_kept hold ≡ true → is_held hold ≡ true
    kept-held Free t = t
    kept-held Kept t = refl
    kept-held Subscribed t = refl

    gone : is_kept (hold_for new a slot) ≡ false
    gone = ap is_kept (h.holds a slot ∙ ap (λ c. if (c && nat_eq slot slot) && is_kept (hold_for old a slot) then Free else hold_for old a slot) (same a) ∙ ap (λ c. if c && is_kept (hold_for old a slot) then Free else hold_for old a slot) (same slot) ∙ ap (λ c. if c then Free else hold_for old a slot) k)

    other : (c : Bool) (i : ℕ) → (if (c && false) && is_kept (hold_for old a i) then Free else hold_for old a i) ≡ hold_for old a i
    other true i = refl
    other false i = refl

-- queues after the first was told
pub queue-told_first : (old new : Table) (w slot : ℕ) → IsSound old → w < 8 → first_in (queue_of old w) ≡ Some slot → IsTold old w slot new → (tail : List ℕ) × (queue_of new w ≡ rest_of (queue_of old w) ++ tail)
unfolding queued_again
queue-told_first old new w slot s l e h =
    let go : (c : Bool) → (tail : List ℕ) × (queued_again (queue_of old w) slot c ≡ rest_of (queue_of old w) ++ tail) =
    elim [
      | true ↦ (slot ∷ [], ap (λ xs. xs ++ slot ∷ []) (first-gone (queue_of old w) slot (s.queued_once w l) e))
      | false ↦ ([], ap (λ xs. xs ++ []) (first-gone (queue_of old w) slot (s.queued_once w l) e))
    ] in
    let f = go (differs_for new w slot) in
    (f.0, h.queues w ∙ ap (λ c. if c then queued_again (queue_of old w) slot (differs_for new w slot) else queue_of old w) (same w) ∙ f.1)

-- lists piece by piece
drop-nil : (i : ℕ) → drop i [] ≡ (let e : List ℕ = [] in e)
drop-nil zero = refl
drop-nil (suc i) = refl

take-nil : (i : ℕ) → take i [] ≡ (let e : List ℕ = [] in e)
take-nil zero = refl
take-nil (suc i) = refl

drop-has : (list : List ℕ) (i slot : ℕ) → first_in (drop i list) ≡ Some slot → has list slot ≡ true
drop-has [] i slot e = absurd (some-none slot (sym e ∙ ap first_in (drop-nil i)))
drop-has (x ∷ list) zero slot e = ap (has (x ∷ list)) (sym (some-same x slot e)) ∙ has-here x list
drop-has (x ∷ list) (suc i) slot e = has-later x list slot (drop-has list i slot e)

later-apart : (x slot : ℕ) (list : List ℕ) → has list x ≡ false → has list slot ≡ true → nat_eq slot x ≡ false
later-apart x slot list h t =
    let go : (c : Bool) → nat_eq slot x ≡ c → nat_eq slot x ≡ false =
    elim [ true ↦ λ e. absurd (true-false (sym t ∙ ap (has list) (equal slot x e) ∙ h)) | false ↦ λ e. e ] in
    go (nat_eq slot x) refl

pub take-next : (list : List ℕ) (i slot : ℕ) → first_in (drop i list) ≡ Some slot → take (i + 1) list ≡ take i list ++ slot ∷ []
take-next [] i slot e = absurd (some-none slot (sym e ∙ ap first_in (drop-nil i)))
take-next (x ∷ list) zero slot e = ap (λ y. y ∷ []) (some-same x slot e)
take-next (x ∷ list) (suc i) slot e = let z : suc i + 1 ≡ suc (i + 1) = omega arith in ap (λ n. take n (x ∷ list)) z ∙ ap (λ xs. x ∷ xs) (take-next list i slot e)

pub take-end : (list : List ℕ) (i : ℕ) → first_in (drop i list) ≡ None → take (i + 1) list ≡ take i list
take-end [] i e = take-nil (i + 1) ∙ sym (take-nil i)
take-end (x ∷ list) zero e = absurd (some-none x e)
take-end (x ∷ list) (suc i) e = let z : suc i + 1 ≡ suc (i + 1) = omega arith in ap (λ n. take n (x ∷ list)) z ∙ ap (λ xs. x ∷ xs) (take-end list i e)

pub drop-next : (list : List ℕ) (i : ℕ) → drop (i + 1) list ≡ rest_of (drop i list)
drop-next [] i = drop-nil (i + 1) ∙ sym (ap rest_of (drop-nil i))
drop-next (x ∷ list) zero = refl
drop-next (x ∷ list) (suc i) = let z : suc i + 1 ≡ suc (i + 1) = omega arith in ap (λ n. drop n (x ∷ list)) z ∙ drop-next list i

pub next-drop : (list : List ℕ) (i slot : ℕ) → EachOnce list → first_in (drop i list) ≡ Some slot → next_in list slot ≡ first_in (drop (i + 1) list)
unfolding EachOnce next_in
next-drop [] i slot o e = absurd (some-none slot (sym e ∙ ap first_in (drop-nil i)))
next-drop (x ∷ list) zero slot o e = ap (λ c. if c then first_in list else next_in list slot) (ap (λ y. nat_eq y x) (sym (some-same x slot e)) ∙ same x)
next-drop (x ∷ list) (suc i) slot o e =
    let z : suc i + 1 ≡ suc (i + 1) = omega arith in
    ap (λ c. if c then first_in list else next_in list slot) (later-apart x slot list o.0 (drop-has list i slot e)) ∙ next-drop list i slot o.1 e ∙ ap (λ n. first_in (drop n (x ∷ list))) (sym z)

-- one more of a chain, and its end
pub subscribes-more : (self mid first : Table) (a : ℕ) (subs : List Sub) (i slot : ℕ) (s : Sub) → i < length subs → s ≡ slice_index_or subs i s → IsSubscribed self a s.key s.limit slot mid →
    ((t : Table) → SubscribesAll self a (drop i subs) t → SubscribesAll first a subs t) → (t : Table) → SubscribesAll mid a (drop (i + 1) subs) t → SubscribesAll first a subs t
unfolding SubscribesAll
subscribes-more self mid first a subs i slot s l e h inv t k = inv t (subst (λ (xs : List Sub). SubscribesAll self a xs t) (sym (drop_more subs i s l ∙ ap (λ x. x ∷ drop (i + 1) subs) (sym e))) (slot, mid, h, k))

pub subscribes-end : (self : Table) (a : ℕ) (subs : List Sub) (i : ℕ) → length subs ≤ i → SubscribesAll self a (drop i subs) self
unfolding SubscribesAll
subscribes-end self a subs i l = subst (λ (xs : List Sub). SubscribesAll self a xs self) (sym (drop_of_length-le subs {i = i} l)) refl

pub ends-more : (self mid first : Table) (a slot : ℕ) → IsSound self → first_in (order_of self a) ≡ Some slot → is_subscribed (hold_for self a slot) ≡ true → IsEnded self a slot false mid →
    ((t : Table) → EndsAll self a (order_of self a) t → EndsAll first a (order_of first a) t) → (t : Table) → EndsAll mid a (order_of mid a) t → EndsAll first a (order_of first a) t
unfolding EndsAll
ends-more self mid first a slot s e sub h inv t k =
    inv t (subst (λ (xs : List ℕ). EndsAll self a xs t) (sym (first-split (order_of self a) slot e)) (sub, mid, h, subst (λ (xs : List ℕ). EndsAll mid a xs t) (order-ended self mid a slot s e h) k))

pub ends-end : (self : Table) (a : ℕ) → first_in (order_of self a) ≡ None → EndsAll self a (order_of self a) self
unfolding EndsAll
ends-end self a e = subst (λ (xs : List ℕ). EndsAll self a xs self) (sym (empty-first (order_of self a) e)) refl

pub ends-smaller : (self mid : Table) (a slot : ℕ) → IsSound self → first_in (order_of self a) ≡ Some slot → IsEnded self a slot false mid → length (order_of mid a) < length (order_of self a)
ends-smaller self mid a slot s e h = subst (λ (xs : List ℕ). length xs < length (order_of self a)) (sym (order-ended self mid a slot s e h)) (order-shorter (order_of self a) slot e)

-- all goes from here to there
pub record GoesOn (self : Table) (a : ℕ) (t : Table) : Type 0 where
  pub slots : List ℕ
  pub gone : LetsAllGo self a slots t

pub goes-more : (self mid : Table) (a slot : ℕ) (t : Table) → is_kept (hold_for self a slot) ≡ true → IsLetGo self a slot mid → GoesOn mid a t → GoesOn self a t
unfolding LetsAllGo
goes-more self mid a slot t k h g = record { slots = slot ∷ g.slots; gone = (k, mid, h, g.gone) }

pub goes-end : (self : Table) (a : ℕ) → GoesOn self a self
unfolding LetsAllGo
goes-end self a = record { slots = []; gone = refl }

-- the first tellings
take-front : (n : ℕ) (list tail : List ℕ) → n ≤ length list → take n (list ++ tail) ≡ take n list
take-front zero list tail l = refl
take-front (suc n) [] tail l = absurd (omega arith)
take-front (suc n) (x ∷ list) tail l = ap (λ xs. x ∷ xs) (take-front n list tail (omega (arith, l)))

pub tells-more : (self mid first : Table) (w n i : ℕ) → w < 8 → i < n → n - i ≤ length (queue_of self w) → ToldFirst self w mid →
    ((t : Table) → TellsAll self w (take (n - i) (queue_of self w)) t → TellsAll first w (take n (queue_of first w)) t) → (t : Table) → TellsAll mid w (take (n - (i + 1)) (queue_of mid w)) t → TellsAll first w (take n (queue_of first w)) t
unfolding TellsAll
tells-more self mid first w n i l m room h inv t k =
    let split = first-split (queue_of self w) h.slot h.first in
    let queue = queue-told_first self mid w h.slot h.sound l h.first h.told in
    let z : n - i ≡ suc (n - (i + 1)) = omega (arith, m) in
    let len = ap length split in
    inv t (subst (λ (xs : List ℕ). TellsAll self w xs t) (sym (ap (λ x. take x (queue_of self w)) z ∙ ap (take (suc (n - (i + 1)))) split))
    (mid, h.told, subst (λ (xs : List ℕ). TellsAll mid w xs t) (ap (take (n - (i + 1))) queue.1 ∙ take-front (n - (i + 1)) (rest_of (queue_of self w)) queue.0 (omega (arith, room, len, z))) k))

pub tells-room : (self mid : Table) (w n i : ℕ) → w < 8 → i < n → n - i ≤ length (queue_of self w) → ToldFirst self w mid → n - (i + 1) ≤ length (queue_of mid w)
tells-room self mid w n i l m room h =
    let split = ap length (first-split (queue_of self w) h.slot h.first) in
    let queue = queue-told_first self mid w h.slot h.sound l h.first h.told in
    let len = ap length queue.1 ∙ length-append (rest_of (queue_of self w)) queue.0 in
    omega (arith, room, split, len, m)

pub tells-end : (self : Table) (w n i : ℕ) → n ≤ i → TellsAll self w (take (n - i) (queue_of self w)) self
unfolding TellsAll
tells-end self w n i l = let z : n - i ≡ 0 = omega (arith, l) in subst (λ (x : ℕ). TellsAll self w (take x (queue_of self w)) self) (sym z) refl

pub first-there : (list : List ℕ) → 0 < length list → first_in list ≡ None → ⊥
first-there [] l e = absurd (omega arith)
first-there (x ∷ list) l e = some-none x e

-- what is gathered
pub wants-more : (t : Table) (w : ℕ) (queue : List ℕ) (i : ℕ) (at : Option ℕ) → at ≡ first_in (drop i queue) → filter_map (want_for t w) (take i queue) ++ wants_at t w at ≡ filter_map (want_for t w) (take (i + 1) queue)
wants-more t w queue i None e = append-nil (filter_map (want_for t w) (take i queue)) ∙ ap (filter_map (want_for t w)) (sym (take-end queue i (sym e)))
wants-more t w queue i (Some slot) e = sym (ap (filter_map (want_for t w)) (take-next queue i slot (sym e)) ∙ filter_map-append (want_for t w) (take i queue) (slot ∷ []))

pub after-more : (queue : List ℕ) (i : ℕ) (at : Option ℕ) → EachOnce queue → at ≡ first_in (drop i queue) → slot_after queue at ≡ first_in (drop (i + 1) queue)
after-more queue i None o e = sym (ap first_in (drop-next queue i) ∙ rest-none (drop i queue) (sym e))
  where
    rest-none : (list : List ℕ) → first_in list ≡ None → first_in (rest_of list) ≡ None
    rest-none [] f = refl
    rest-none (x ∷ list) f = absurd (some-none x f)
after-more queue i (Some slot) o e = next-drop queue i slot o (sym e)

given-≤ : {X Y : Type 0} (f : X → Option Y) (xs : List X) → length (filter_map f xs) ≤ length xs
given-≤ f [] = omega arith
given-≤ f (x ∷ xs) = let r = given-≤ f xs in elim (f x) as (λ o. length (cons_option o (filter_map f xs)) ≤ suc (length xs)) [ None ↦ omega (arith, r) | Some y ↦ omega (arith, r) ]

take-≤ : (n : ℕ) (list : List ℕ) → length (take n list) ≤ n
take-≤ zero list = omega arith
take-≤ (suc n) [] = omega arith
take-≤ (suc n) (x ∷ list) = let r = take-≤ n list in omega (arith, r)

pub wants-≤ : (t : Table) (w i : ℕ) (queue : List ℕ) → length (filter_map (want_for t w) (take i queue)) ≤ i
wants-≤ t w i queue = let p = given-≤ (want_for t w) (take i queue) in let q = take-≤ i queue in omega (arith, p, q)

-- each slot that differs is told
all-given : {X Y : Type 0} (f : X → Option Y) (xs : List X) → ((i : ℕ) (d : X) → i < length xs → is_some (f (slice_index_or xs i d)) ≡ true) → length (filter_map f xs) ≡ length xs
all-given f [] h = refl
all-given f (x ∷ xs) h =
    let rest = all-given f xs (λ i d l. h (suc i) d (omega (arith, l))) in
    let own = some-from (f x) (h 0 x (omega arith)) in
    ap (λ o. length (cons_option o (filter_map f xs))) own.1 ∙ ap suc rest

at-has : (list : List ℕ) (i d : ℕ) → i < length list → has list (slice_index_or list i d) ≡ true
at-has [] i d l = absurd (omega arith)
at-has (x ∷ list) zero d l = has-here x list
at-has (x ∷ list) (suc i) d l = has-later x list (slice_index_or list i d) (at-has list i d (omega (arith, l)))

has-take : (n : ℕ) (list : List ℕ) (i : ℕ) → has (take n list) i ≡ true → has list i ≡ true
has-take zero list i h = absurd (true-false (sym h))
has-take (suc n) [] i h = absurd (true-false (sym h))
has-take (suc n) (x ∷ list) i h = elim (or-cases (nat_eq i x) (has (take n list) i) h) [
  | inl e ↦ or-left (nat_eq i x) (has list i) e
  | inr t ↦ or-right (nat_eq i x) (has list i) (has-take n list i t)
]

want-some : (t : Table) (w slot : ℕ) → is_some (key_at t slot) ≡ true → is_some (want_for t w slot) ≡ true
unfolding want_for
want-some t w slot h = let own = some-from (key_at t slot) h in ap (λ o. is_some (elim o [ None ↦ None | Some k ↦ Some (let x : Want = record { key = k; total = total_to_tell t w slot } in x) ])) own.1

pub wants-length : (t : Table) (w max : ℕ) → IsSound t → w < 8 → length (wants_for t w max) ≡ length (take max (queue_of t w))
unfolding wants_for
wants-length t w max s l = all-given (want_for t w) (take max (queue_of t w)) (λ i d m.
    want-some t w (slice_index_or (take max (queue_of t w)) i d) (s.used (slice_index_or (take max (queue_of t w)) i d) ∙ differs-used t w (slice_index_or (take max (queue_of t w)) i d) s
    (sym (s.queued w (slice_index_or (take max (queue_of t w)) i d) l) ∙ has-take max (queue_of t w) (slice_index_or (take max (queue_of t w)) i d) (at-has (take max (queue_of t w)) i d m))))

pub take-own : (max : ℕ) (list : List ℕ) → take (length (take max list)) list ≡ take max list
take-own zero list = refl
take-own (suc n) [] = refl
take-own (suc n) (x ∷ list) = ap (λ xs. x ∷ xs) (take-own n list)

pub take-within : (max : ℕ) (list : List ℕ) → length (take max list) ≤ length list
take-within zero list = omega arith
take-within (suc n) [] = omega arith
take-within (suc n) (x ∷ list) = let r = take-within n list in omega (arith, r)

pub first-named : (t : Table) (w slot : ℕ) → IsSound t → w < 8 → first_in (queue_of t w) ≡ Some slot → is_some (key_at t slot) ≡ true
first-named t w slot s l e = s.used slot ∙ differs-used t w slot s (sym (s.queued w slot l) ∙ drop-has (queue_of t w) 0 slot e)

pub gathered-count : (t : Table) (w max n : ℕ) → IsSound t → w < 8 → n ≡ length (wants_for t w max) → n ≤ length (queue_of t w)
gathered-count t w max n s l e = let p = wants-length t w max s l in let q = take-within max (queue_of t w) in omega (arith, e, p, q)

pub gathered-taken : (t : Table) (w max n : ℕ) → IsSound t → w < 8 → n ≡ length (wants_for t w max) → take n (queue_of t w) ≡ take max (queue_of t w)
gathered-taken t w max n s l e = ap (λ x. take x (queue_of t w)) (e ∙ wants-length t w max s l) ∙ take-own max (queue_of t w)

pub bit-yes : (t : Table) (slot a b : ℕ) → b ≡ a → is_subscribed (hold_for t b slot) ≡ true → 1 ≡ bit_at t slot a
unfolding bit_at
bit-yes t slot a b e h = sym (ap (λ c. if c then 1 else 0) (ap (λ x. is_subscribed (hold_for t x slot)) (sym e) ∙ h))

pub bit-no : (t : Table) (slot a b : ℕ) → b ≡ a → is_subscribed (hold_for t b slot) ≡ false → 0 ≡ bit_at t slot a
unfolding bit_at
bit-no t slot a b e h = sym (ap (λ c. if c then 1 else 0) (ap (λ x. is_subscribed (hold_for t x slot)) (sym e) ∙ h))

pub wants-all : (t : Table) (w i max : ℕ) (items : List Want) → items ≡ filter_map (want_for t w) (take i (queue_of t w)) → i ≡ max → items ≡ wants_for t w max
unfolding wants_for
wants-all t w i max items e f = e ∙ ap (λ n. filter_map (want_for t w) (take n (queue_of t w))) f

pub filled-with : (out old : Filled Want) (items : List Want) → out.items ≡ items → out.room ≡ old.room → out ≡ with_items old items
filled-with out old items e f = ap (λ xs. let b : Filled Want = record { items = xs; room = out.room } in b) e ∙ ap (λ r. let b : Filled Want = record { items = items; room = r } in b) f
