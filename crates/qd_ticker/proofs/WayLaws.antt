-- Calls that are made of steps: where the stripe stands between them.
use Rattle.std.proofs.Common.{◌≡◌, inl, inr, ℕ, suc, zero, ◌+◌, ◌<◌, ◌≤◌, true, false, ◌&&◌, not, if◌then◌else◌, nat_eq, Option, Some, None, is_some, List, [], ◌∷◌, ◌++◌, length, map, take, drop, get_or, refl, ap, sym, ◌∙◌, subst, arith, add-one}
use Rattle.std.proofs.Math.Seq.{drop-cons}
use Rattle.std.proofs.Math.ListN.{drop_of_length-le}
use Rattle.std.proofs.lemmas.List.{append-nil, append_assoc}
use Rattle.std.specs.List.{filter, filter_map, cons_option}
use Rattle.qd_scheme.specs.declared.key.Key.{Key}
use Rattle.qd_scheme.specs.declared.key.Record.{Record}
use Rattle.qd_scheme.specs.Keys.{key_eq}
use Rattle.qd_buffer.specs.Filled.{Filled, with_items}
use Rattle.qd_pend.specs.Slots.{SlotList, without, first_in}
use Rattle.qd_pend.proofs.ListLaws.{same}
use Rattle.qd_sub.specs.declared.sub.Sub.{Sub}
use Rattle.qd_sub.specs.Acts.{Act, Subscribed, Unsubscribed, Closed, Came, Gave}
use Rattle.qd_sub.specs.Subscriptions.{subscribed, keys_of}
use Rattle.qd_sub.specs.Logs.{after, ends_of}
use Rattle.qd_sub.proofs.KeyEnds.{filter-first, keys-rest}
use Rattle.qd_sub.proofs.OrderLaws.{once}
use Rattle.qd_sub.proofs.SubscriptionLaws.{kept-gave}
use Rattle.qd_slots.specs.Holds.{is_subscribed}
use Rattle.qd_table.specs.Tables.{key_at, keys_at, slot_for, slots_in, hold_for, limit_by, order_of}
use Rattle.qd_table.proofs.TableLaws.{key_at-found, key_at-subscribed, some-same, some-none}
use Rattle.qd_ticker.specs.Pending.{TickerMoment, last, last_record, queue_of, taken}
use Rattle.qd_ticker.specs.Stripes.{Shown, StandsAt, last_at, queue_at, no_keeps}
use Rattle.qd_ticker.specs.Steps.{IsPut, IsAdded, IsDropped, IsGiven, IsRoomier, HasRoom, Leads, add_acts, gift_acts}
use Rattle.qd_ticker.proofs.AboutLaws.{queue_of-about, queue_of-once}
use Rattle.qd_ticker.proofs.PendingLaws.{pending-gave_same}
use Rattle.qd_table.proofs.StandLaws.{subscribed-table, subscribed-absent}
use Rattle.qd_ticker.proofs.StandLaws.{StandsAt-put, StandsAt-add, StandsAt-drop, StandsAt-closed, StandsAt-roomier}
use Rattle.qd_ticker.proofs.GiftLaws.{StandsAt-given, Gifts}
use Rattle.qd_ticker.proofs.SoundLaws.{slots-queued}

-- on its way the stripe stands for a moment from which the rest leads to the end
abbrev pub OnWay : Shown → (TickerMoment → TickerMoment) → TickerMoment → Type 0
OnWay s rest end = (mid : TickerMoment) × StandsAt s mid × (rest mid ≡ end)

-- from the moment on, what is left of a list leads so
abbrev pub LeftFrom : {X : Type 0} → (TickerMoment → List X → TickerMoment) → List X → ℕ → TickerMoment → TickerMoment
LeftFrom lead xs i mid = lead mid (drop i xs)

way-next : {X : Type 0} (lead : TickerMoment → List X → TickerMoment) (next : TickerMoment → X → TickerMoment) → ((m : TickerMoment) (x : X) (xs : List X) → lead m (x ∷ xs) ≡ lead (next m x) xs) →
    (s t : Shown) (xs : List X) (i : ℕ) (x : X) (end : TickerMoment) → i < length xs → x ≡ get_or xs i x → ((m : TickerMoment) → StandsAt s m → StandsAt t (next m x)) →
    OnWay s (LeftFrom lead xs i) end → OnWay t (LeftFrom lead xs (i + 1)) end
way-next lead next step s t xs i x end h e go (mid, st, is) =
    let left : drop i xs ≡ x ∷ drop (i + 1) xs = drop-cons xs i x h ∙ ap (λ y. y ∷ drop (suc i) xs) (sym e) ∙ ap (λ n. x ∷ drop n xs) (sym (add-one i)) in
    (next mid x, go mid st, sym (step mid x (drop (i + 1) xs)) ∙ ap (lead mid) (sym left) ∙ is)

way-end : {X : Type 0} (lead : TickerMoment → List X → TickerMoment) → ((m : TickerMoment) → lead m [] ≡ m) → (s : Shown) (xs : List X) (i : ℕ) (end : TickerMoment) → length xs ≤ i → OnWay s (LeftFrom lead xs i) end → StandsAt s end
way-end lead done s xs i end h (mid, st, is) = subst (λ m. StandsAt s m) (sym (ap (lead mid) (drop_of_length-le xs h) ∙ done mid) ∙ is) st

-- Puts
abbrev pub put_lead : TickerMoment → List Record → TickerMoment
put_lead m rs = after m (map (λ r. Came r.key r) rs)

pub puts-next : (s t : Shown) (rs : List Record) (i : ℕ) (r : Record) (end : TickerMoment) → i < length rs → r ≡ get_or rs i r → IsPut s r t → OnWay s (LeftFrom put_lead rs i) end → OnWay t (LeftFrom put_lead rs (i + 1)) end
unfolding after
puts-next s t rs i r end h e put way = way-next put_lead (λ m x. Came x.key x ∷ m) (λ m x xs. refl) s t rs i r end h e (λ m st. StandsAt-put s t m r st put) way

pub puts-end : (s : Shown) (rs : List Record) (i : ℕ) (end : TickerMoment) → length rs ≤ i → OnWay s (LeftFrom put_lead rs i) end → StandsAt s end
unfolding after
puts-end s rs i end h way = way-end put_lead (λ m. refl) s rs i end h way

-- subscriptions
abbrev pub add_lead : ℕ → TickerMoment → List Sub → TickerMoment
add_lead a m subs = after m (add_acts a subs)

pub adds-next : (s t : Shown) (a slot : ℕ) (subs : List Sub) (i : ℕ) (sub : Sub) (end : TickerMoment) → i < length subs → sub ≡ get_or subs i sub → IsAdded s a sub.key slot t → OnWay s (LeftFrom (add_lead a) subs i) end → OnWay t (LeftFrom (add_lead a) subs (i + 1)) end
unfolding after
adds-next s t a slot subs i sub end h e added way = way-next (add_lead a) (λ m x. Subscribed a x.key 0 ∷ m) (λ m x xs. refl) s t subs i sub end h e (λ m st. StandsAt-add s t m a slot sub.key st added) way

pub adds-end : (s : Shown) (a : ℕ) (subs : List Sub) (i : ℕ) (end : TickerMoment) → length subs ≤ i → OnWay s (LeftFrom (add_lead a) subs i) end → StandsAt s end
unfolding after
adds-end s a subs i end h way = way-end (add_lead a) (λ m. refl) s subs i end h way

-- ends of subscriptions
abbrev pub end_lead : ℕ → TickerMoment → List Key → TickerMoment
end_lead a m ks = after m (ends_of a m ks)

ends-more : (a : ℕ) (m : TickerMoment) (k : Key) (ks : List Key) → end_lead a m (k ∷ ks) ≡ end_lead a (end_lead a m (k ∷ [])) ks
unfolding after ends_of
ends-more a m k ks = elim (subscribed a k m) as (λ c. after m (if c then Unsubscribed a k ∷ ends_of a (Unsubscribed a k ∷ m) ks else ends_of a m ks) ≡ after (after m (if c then Unsubscribed a k ∷ [] else [])) (ends_of a (after m (if c then Unsubscribed a k ∷ [] else [])) ks)) [ true ↦ refl | false ↦ refl ]

pub ends-next : (s t : Shown) (a : ℕ) (ks : List Key) (i : ℕ) (k : Key) (end : TickerMoment) → i < length ks → k ≡ get_or ks i k → Leads s (λ now. ends_of a now (k ∷ [])) t → OnWay s (LeftFrom (end_lead a) ks i) end → OnWay t (LeftFrom (end_lead a) ks (i + 1)) end
ends-next s t a ks i k end h e leads way = way-next (end_lead a) (λ m x. end_lead a m (x ∷ [])) (ends-more a) s t ks i k end h e (λ m st. leads m st) way

pub ends-end : (s : Shown) (a : ℕ) (ks : List Key) (i : ℕ) (end : TickerMoment) → length ks ≤ i → OnWay s (LeftFrom (end_lead a) ks i) end → StandsAt s end
unfolding after ends_of
ends-end s a ks i end h way = way-end (end_lead a) (λ m. refl) s ks i end h way

-- a Remove of one key
one-end : (a : ℕ) (k : Key) (m : TickerMoment) → subscribed a k m ≡ true → after m (ends_of a m (k ∷ [])) ≡ Unsubscribed a k ∷ m
unfolding after ends_of
one-end a k m h = rw h refl

one-none : (a : ℕ) (k : Key) (m : TickerMoment) → subscribed a k m ≡ false → after m (ends_of a m (k ∷ [])) ≡ m
unfolding after ends_of
one-none a k m h = rw h refl

pub removes-yes : (s t : Shown) (a slot : ℕ) (k : Key) → slot_for s.table k ≡ Some slot → is_subscribed (hold_for s.table a slot) ≡ true → IsDropped s a slot t → Leads s (λ now. ends_of a now (k ∷ [])) t
removes-yes s t a slot k e h dropped now st =
    let here = key_at-found s.table k slot e in
    subst (λ m. StandsAt t m) (sym (one-end a k now (subscribed-table s.table no_keeps now st.table a k slot here ∙ h))) (StandsAt-drop s t now a slot k st here h dropped)

pub removes-no : (s : Shown) (a slot : ℕ) (k : Key) → slot_for s.table k ≡ Some slot → is_subscribed (hold_for s.table a slot) ≡ false → Leads s (λ now. ends_of a now (k ∷ [])) s
removes-no s a slot k e h now st = subst (λ m. StandsAt s m) (sym (one-none a k now (subscribed-table s.table no_keeps now st.table a k slot (key_at-found s.table k slot e) ∙ h))) st

pub removes-none : (s : Shown) (a : ℕ) (k : Key) → slot_for s.table k ≡ None → Leads s (λ now. ends_of a now (k ∷ [])) s
removes-none s a k e now st = subst (λ m. StandsAt s m) (sym (one-none a k now (subscribed-absent s.table no_keeps now st.table a k e))) st

-- a Close
abbrev pub close_acts : ℕ → TickerMoment → List (Act Record Record)
close_acts a m = map (Unsubscribed a) (keys_of a m) ++ Closed a ∷ []

abbrev pub close_lead : ℕ → TickerMoment → TickerMoment
close_lead a m = after m (close_acts a m)

close-step : (a : ℕ) (k : Key) (ks : List Key) (m : TickerMoment) → keys_of a m ≡ k ∷ ks → close_lead a (Unsubscribed a k ∷ m) ≡ close_lead a m
unfolding after
close-step a k ks m e = ap (λ js. after (Unsubscribed a k ∷ m) (map (Unsubscribed a) js ++ Closed a ∷ [])) (keys-rest a k ks m e) ∙ sym (ap (λ js. after m (map (Unsubscribed a) js ++ Closed a ∷ [])) e)

first-rest : (list : List ℕ) (slot : ℕ) → (let o : Option ℕ = Some slot in o ≡ first_in list) → (rest : List ℕ) × (list ≡ slot ∷ rest)
first-rest [] slot h = absurd (some-none slot h)
first-rest (s ∷ rest) slot h = (rest, ap (λ x. x ∷ rest) (sym (some-same slot s h)))

first-none : (list : List ℕ) → (let o : Option ℕ = None in o ≡ first_in list) → list ≡ []
first-none [] h = refl
first-none (s ∷ rest) h = absurd (some-none s (sym h))

keys-first : (s : Shown) (m : TickerMoment) (a slot : ℕ) (k : Key) (rest : List ℕ) → StandsAt s m → order_of s.table a ≡ slot ∷ rest → key_at s.table slot ≡ Some k → keys_of a m ≡ k ∷ filter_map (key_at s.table) rest
unfolding keys_at
keys-first s m a slot k rest st e h = st.table.orders a ∙ ap (filter_map (key_at s.table)) e ∙ ap (λ o. cons_option o (filter_map (key_at s.table) rest)) h

keys-none : (s : Shown) (m : TickerMoment) (a : ℕ) → StandsAt s m → order_of s.table a ≡ [] → keys_of a m ≡ []
unfolding keys_at
keys-none s m a st e = st.table.orders a ∙ ap (filter_map (key_at s.table)) e

pub close-next : (s t : Shown) (a slot : ℕ) (end : TickerMoment) → (let o : Option ℕ = Some slot in o ≡ first_in (order_of s.table a)) → is_subscribed (hold_for s.table a slot) ≡ true → IsDropped s a slot t → OnWay s (close_lead a) end → OnWay t (close_lead a) end
close-next s t a slot end first h dropped (mid, st, is) =
    let list = first-rest (order_of s.table a) slot first in
    let key = key_at-subscribed s.table a slot st.table.sound h in
    (Unsubscribed a key.0 ∷ mid, StandsAt-drop s t mid a slot key.0 st key.1 h dropped, close-step a key.0 (filter_map (key_at s.table) list.0) mid (keys-first s mid a slot key.0 list.0 st list.1 key.1) ∙ is)

closed-lead : (a : ℕ) (m : TickerMoment) → keys_of a m ≡ [] → close_lead a m ≡ Closed a ∷ m
unfolding after
closed-lead a m e = ap (λ js. after m (map (Unsubscribed a) js ++ Closed a ∷ [])) e

pub close-end : (s : Shown) (a : ℕ) (end : TickerMoment) → (let o : Option ℕ = None in o ≡ first_in (order_of s.table a)) → OnWay s (close_lead a) end → StandsAt s end
close-end s a end none (mid, st, is) =
    subst (λ m. StandsAt s m) (sym (closed-lead a mid (keys-none s mid a st (first-none (order_of s.table a) none))) ∙ is) (StandsAt-closed s mid a st)

pub dropped-order : (s t : Shown) (a slot : ℕ) → IsDropped s a slot t → order_of t.table a ≡ without (order_of s.table a) slot
dropped-order s t a slot dropped = dropped.table.orders a ∙ ap (λ b. if b then without (order_of s.table a) slot else order_of s.table a) (same a)

length-without : (list : List ℕ) (slot : ℕ) → length (without list slot) ≤ length list
length-without [] slot = omega arith
length-without (s ∷ rest) slot =
    let shorter = length-without rest slot in
    elim (nat_eq slot s) as (λ c. length (if not c then s ∷ without rest slot else without rest slot) ≤ suc (length rest)) [ true ↦ omega arith | false ↦ omega arith ]

pub close-shorter : (list next : List ℕ) (slot : ℕ) → (let o : Option ℕ = Some slot in o ≡ first_in list) → next ≡ without list slot → length next < length list
close-shorter list next slot first e =
    let cut = first-rest list slot first in
    let less : without list slot ≡ without cut.0 slot = ap (λ xs. without xs slot) cut.1 ∙ rw (same slot) refl in
    let bound = length-without cut.0 slot in
    let n : length next ≡ length (without cut.0 slot) = ap length (e ∙ less) in
    let l : length list ≡ suc (length cut.0) = ap length cut.1 in
    omega arith

-- an Add that was refused
pub leads-nowhere : (s t : Shown) → IsRoomier s t → Leads s (λ now. []) t
unfolding after
leads-nowhere s t roomier now st = StandsAt-roomier s t now st roomier

pub added-room : (s t : Shown) (a slot : ℕ) (k : Key) → IsAdded s a k slot t → HasRoom s a → HasRoom t a
added-room s t a slot k added room = record {
  lasts = (let e : slots_in t.table ≡ slots_in s.table = added.table.slots in let f : length t.lasts ≡ length s.lasts = ap length added.lasts in let r : slots_in s.table ≤ length s.lasts = room.lasts in omega arith);
  queue = (let e : slots_in t.table ≡ slots_in s.table = added.table.slots in
      let f : (queue_at t.queues a).slots ≡ (queue_at s.queues a).slots = ap (λ (q : SlotList). q.slots) (added.queues a) ∙ slots-queued (nat_eq a a && (not (is_some (limit_by s.table a k)) && is_some (last_at s.lasts slot))) (queue_at s.queues a) slot in
      let r : slots_in s.table ≤ (queue_at s.queues a).slots = room.queue in omega arith);
}

-- a Take: what was given so far, and what is given from a moment on
pub record IsOnTake (s : Shown) (a left : ℕ) (given : List Record) (all : List Record) (end mid : TickerMoment) : Type 0 where
  pub stands : StandsAt s mid
  pub items : given ++ taken a left mid ≡ all
  pub leads : after mid (gift_acts a (taken a left mid)) ≡ end

abbrev pub OnTake : Shown → ℕ → ℕ → List Record → List Record → TickerMoment → Type 0
OnTake s a left given all end = (mid : TickerMoment) × IsOnTake s a left given all end mid

pub take-start : (s : Shown) (a most left : ℕ) (given : List Record) (now : TickerMoment) → left ≡ most → given ≡ [] → StandsAt s now → OnTake s a left given (taken a most now) (after now (gift_acts a (taken a most now)))
take-start s a most left given now f e st = (now, record { stands = st; items = ap (λ xs. xs ++ taken a left now) e ∙ ap (λ n. taken a n now) f; leads = ap (λ n. after now (gift_acts a (taken a n now))) f })

taken-none : (a n : ℕ) (m : TickerMoment) → queue_of a m ≡ [] → taken a n m ≡ []
unfolding taken
taken-none a n m e = ap (λ ks. filter_map (λ k. last_record k m) (take n ks)) e ∙ nothing n
  where
    nothing : (n : ℕ) → filter_map (λ k. last_record k m) (take n []) ≡ []
    nothing zero = refl
    nothing (suc n) = refl

taken-zero : (a : ℕ) (m : TickerMoment) → taken a 0 m ≡ []
unfolding taken
taken-zero a m = refl

agree : (f g : Key → Option Record) (ks : List Key) → ((k : Key) → f k ≡ g k) → filter_map f ks ≡ filter_map g ks
agree f g [] h = refl
agree f g (k ∷ ks) h = rw (h k, agree f g ks h) refl

queue-rest : (a : ℕ) (k : Key) (rest : List Key) (r : Record) (m : TickerMoment) → queue_of a m ≡ k ∷ rest → queue_of a (Gave a k r ∷ m) ≡ rest
queue-rest a k rest r m e =
    queue_of-about a (Gave a k r) m k refl ∙ rw (pending-gave_same a k r m) (ap (filter (λ j. not (key_eq k j))) e ∙ filter-first k rest (ap (once key_eq) (sym e) ∙ queue_of-once a m))

taken-more : (a n : ℕ) (k : Key) (rest : List Key) (r : Record) (m : TickerMoment) → queue_of a m ≡ k ∷ rest → last_record k m ≡ Some r → taken a (suc n) m ≡ r ∷ taken a n (Gave a k r ∷ m)
unfolding taken last_record
taken-more a n k rest r m e l =
    ap (λ ks. filter_map (λ j. last_record j m) (take (suc n) ks)) e ∙ ap (λ o. cons_option o (filter_map (λ j. last_record j m) (take n rest))) l
    ∙ ap (λ rs. r ∷ rs) (agree (λ j. last_record j m) (λ j. last_record j (Gave a k r ∷ m)) (take n rest) (λ j. ap last (sym (kept-gave j a k r m))) ∙ ap (λ ks. filter_map (λ j. last_record j (Gave a k r ∷ m)) (take n ks)) (sym (queue-rest a k rest r m e)))

some-record : (p q : Record) → (let m : Option Record = Some p in let n : Option Record = Some q in m ≡ n) → p ≡ q
some-record p q h = cc

gift-more : (a left n : ℕ) (k : Key) (rest : List Key) (r : Record) (m : TickerMoment) → left ≡ suc n → queue_of a m ≡ k ∷ rest → last_record k m ≡ Some r → r.key ≡ k → after m (gift_acts a (taken a left m)) ≡ after (Gave a k r ∷ m) (gift_acts a (taken a n (Gave a k r ∷ m)))
unfolding after
gift-more a left n k rest r m f e l label =
    ap (λ x. after m (gift_acts a (taken a x m))) f ∙ ap (λ rs. after m (gift_acts a rs)) (taken-more a n k rest r m e l)
    ∙ ap (λ j. after (Gave a j r ∷ m) (gift_acts a (taken a n (Gave a k r ∷ m)))) label

pub take-next : (s t : Shown) (a left n : ℕ) (given given' all : List Record) (r : Record) (end : TickerMoment) → left ≡ suc n → IsGiven s a (Some r) t → given' ≡ given ++ r ∷ [] → OnTake s a left given all end → OnTake t a n given' all end
take-next s t a left n given given' all r end f g e (mid, on) = go (StandsAt-given s t mid a (Some r) on.stands g)
  where
    go : Gifts a (Some r) t mid → OnTake t a n given' all end
    go (inl x) = absurd (some-none r x.1)
    go (inr (k, rest, q, gift)) =
        let same_record : q ≡ r = sym (some-record r q gift.given_is) in
        let last_is : last_record k mid ≡ Some q = gift.last_is in (
          Gave a k q ∷ mid,
          record {
            stands = gift.stands;
            items = ap (λ xs. xs ++ taken a n (Gave a k q ∷ mid)) e ∙ append_assoc given (r ∷ []) (taken a n (Gave a k q ∷ mid)) ∙ ap (λ x. given ++ (x ∷ taken a n (Gave a k q ∷ mid))) (sym same_record)
                ∙ ap (λ xs. given ++ xs) (sym (ap (λ x. taken a x mid) f ∙ taken-more a n k rest q mid gift.first last_is)) ∙ on.items;
            leads = sym (gift-more a left n k rest q mid f gift.first last_is gift.label) ∙ on.leads;
          },
        )

done : (s : Shown) (a left : ℕ) (given all : List Record) (end mid : TickerMoment) → StandsAt s mid → taken a left mid ≡ [] → given ++ taken a left mid ≡ all → after mid (gift_acts a (taken a left mid)) ≡ end → (given ≡ all) × StandsAt s end
unfolding after
done s a left given all end mid st none items leads =
    (sym (ap (λ xs. given ++ xs) none ∙ append-nil given) ∙ items, subst (λ m. StandsAt s m) (sym (ap (λ rs. after mid (gift_acts a rs)) none) ∙ leads) st)

pub take-stop : (s t : Shown) (a left : ℕ) (given all : List Record) (end : TickerMoment) → IsGiven s a None t → OnTake s a left given all end → (given ≡ all) × StandsAt t end
take-stop s t a left given all end g (mid, on) = go (StandsAt-given s t mid a None on.stands g)
  where
    go : Gifts a None t mid → (given ≡ all) × StandsAt t end
    go (inl (e, n, st)) = done t a left given all end mid st (taken-none a left mid e) on.items on.leads
    go (inr (k, rest, q, gift)) = absurd (some-none q (sym gift.given_is))

pub take-full : (s : Shown) (a left : ℕ) (given all : List Record) (end : TickerMoment) → left ≡ 0 → OnTake s a left given all end → (given ≡ all) × StandsAt s end
take-full s a left given all end f (mid, on) = done s a left given all end mid on.stands (ap (λ x. taken a x mid) f ∙ taken-zero a mid) on.items on.leads

-- a buffer by its items and its room
pub filled : (out old : Filled Record) (xs : List Record) → out.items ≡ xs → out.room ≡ old.room → out ≡ with_items old xs
filled out old xs e f = ap (λ ys. (let b : Filled Record = record { items = ys; room = out.room } in b)) e ∙ ap (λ n. (let b : Filled Record = record { items = xs; room = n } in b)) f
