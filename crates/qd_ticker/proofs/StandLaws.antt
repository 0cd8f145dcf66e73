-- After each call the stripe stands for the moment with its act.
use Rattle.std.proofs.Common.{◌≡◌, ◌⊎◌, inl, inr, ℕ, zero, suc, Bool, true, false, ◌&&◌, not, if◌then◌else◌, nat_eq, Option, Some, None, is_some, List, [], ◌∷◌, replicate, refl, ap, sym, ◌∙◌, subst}
use Rattle.qd_scheme.specs.declared.key.Key.{Key}
use Rattle.qd_scheme.specs.declared.key.Record.{Record}
use Rattle.qd_scheme.specs.Keys.{key_eq}
use Rattle.qd_scheme.proofs.KeyLaws.{key_eq-true}
use Rattle.qd_pend.specs.Slots.{SlotList, without, EachOnce}
use Rattle.qd_pend.proofs.ListLaws.{same, equal}
use Rattle.qd_sub.specs.Acts.{Act, Subscribed, Unsubscribed, Closed, Came, is_pair}
use Rattle.qd_sub.specs.Since.{by_since, begun_within}
use Rattle.qd_sub.specs.Subscriptions.{subscribed, wanted, kept}
use Rattle.qd_sub.proofs.SubscriptionLaws.{kept-unwanted, kept-came_other, kept-came_same, kept-came_unwanted, kept-sub, kept-closed, kept-unsub_wanted, wanted-subscribed}
use Rattle.qd_slots.specs.Holds.{is_subscribed}
use Rattle.qd_table.specs.Tables.{key_at, slot_for, hold_for, limit_by, is_wanted_slot, is_used, no_table}
use Rattle.qd_table.specs.Standing.{StandsFor}
use Rattle.qd_table.proofs.TableLaws.{key_at-found, key_at-subscribed, wanted-someone, some-same, some-none, true-false}
use Rattle.qd_ticker.specs.Pending.{TickerMoment, last, last_record, pending}
use Rattle.qd_ticker.specs.Pending as asked
use Rattle.qd_ticker.specs.Kept.{with_slot, pending_name, last_name, IsKept, IsIdle}
use Rattle.qd_ticker.specs.Stripes.{Shown, StandsAt, last_at, queue_at, no_queue, no_keeps}
use Rattle.qd_ticker.specs.Steps.{with_queued, with_dropped, IsPut, IsAdded, IsDropped, IsRoomier}
use Rattle.qd_table.proofs.SlotKeys.{IsApart}
use Rattle.qd_ticker.proofs.KeptLaws.{kept-renamed, kept-alike}
use Rattle.qd_ticker.proofs.ActLaws.{IsAt, last-push, kept-put, kept-put_unwanted, kept-end, kept-subscription, kept-close}
use Rattle.qd_table.proofs.StandLaws.{subscribed-table, wanted-table, wanted-absent}
use Rattle.qd_table.proofs.StandSteps.{stands-subscribed, stands-ended}
use Rattle.qd_table.proofs.StandOthers.{stands-same, stands-came, stands-closed}
use Rattle.qd_table.proofs.NewLaws.{stands-new}

-- each kept record is one of its key
abbrev pub IsLabelled : TickerMoment → Type 0
IsLabelled now = (k : Key) (r : Record) → last_record k now ≡ Some r → r.key ≡ k

-- the pending slots of each agent
abbrev pub lists_of : Shown → ℕ → List ℕ
lists_of s a = (queue_at s.queues a).list

pub labels-same : (act : Act Record Record) (now : TickerMoment) → ((k : Key) → last_record k (act ∷ now) ≡ last_record k now) → IsLabelled now → IsLabelled (act ∷ now)
labels-same act now e labels k r h = labels k r (sym (e k) ∙ h)

labels-came : (now : TickerMoment) (r : Record) → IsLabelled now → IsLabelled (Came r.key r ∷ now)
unfolding last_record
labels-came now r labels k q h = go (key_eq k r.key) refl (wanted k now) refl
  where
    go : (b : Bool) → key_eq k r.key ≡ b → (c : Bool) → wanted k now ≡ c → q.key ≡ k
    go false e c w = labels k q (ap last (sym (kept-came_other k r.key r now e)) ∙ h)
    go true e false w = labels k q (ap last (sym (kept-came_unwanted k r.key r now w)) ∙ h)
    go true e true w =
        let there = key_eq-true k r.key e in
        let this : last (kept k (Came r.key r ∷ now)) ≡ Some r =
        ap (λ j. last (kept j (Came r.key r ∷ now))) there ∙ ap last (kept-came_same r.key r now (ap (λ j. wanted j now) (sym there) ∙ w)) ∙ last-push (kept r.key now) r in
        ap (λ (x : Record). x.key) (some-same q r (sym h ∙ this)) ∙ sym there

labels-end : (now : TickerMoment) (a : ℕ) (j : Key) → IsLabelled now → IsLabelled (Unsubscribed a j ∷ now)
unfolding last_record
labels-end now a j labels k r h = go (wanted k (Unsubscribed a j ∷ now)) refl
  where
    go : (c : Bool) → wanted k (Unsubscribed a j ∷ now) ≡ c → r.key ≡ k
    go true w = labels k r (ap last (sym (kept-unsub_wanted k a j now w)) ∙ h)
    go false w = absurd (some-none r (sym h ∙ ap last (kept-unwanted k (Unsubscribed a j ∷ now) w)))

keys-apart : (s : Shown) (now : TickerMoment) → StandsAt s now → IsApart (key_at s.table)
keys-apart s now st i j k e f = some-same i j (sym (st.table.sound.found i k e) ∙ st.table.sound.found j k f)

pub at-slot : (s : Shown) (now : TickerMoment) (slot : ℕ) (k : Key) → StandsAt s now → key_at s.table slot ≡ Some k → IsAt (key_at s.table) (last_at s.lasts) (lists_of s) now slot k
at-slot s now slot k st h = record { apart = keys-apart s now st; here = h; kept = st.kept }

list-queued : (b : Bool) (q : SlotList) (slot : ℕ) → (let x : SlotList = if b then with_queued q slot else q in x.list) ≡ (if b then with_slot q.list slot else q.list)
list-queued true q slot = refl
list-queued false q slot = refl

list-dropped : (b : Bool) (q : SlotList) (slot : ℕ) → (let x : SlotList = if b then with_dropped q slot else q in x.list) ≡ (if b then without q.list slot else q.list)
list-dropped true q slot = refl
list-dropped false q slot = refl

with-true : {X : Type 0} (b : Bool) (x y : X) → (if b && true then x else y) ≡ (if b then x else y)
with-true true x y = refl
with-true false x y = refl

pub with-false : {X : Type 0} (b : Bool) (x y : X) → (if b && false then x else y) ≡ y
with-false true x y = refl
with-false false x y = refl

-- a Put
pub StandsAt-put : (s t : Shown) (now : TickerMoment) (r : Record) → StandsAt s now → IsPut s r t → StandsAt t (Came r.key r ∷ now)
StandsAt-put s t now r st put = record {
  table = subst (λ x. StandsFor x no_keeps (Came r.key r ∷ now)) (sym put.table) (stands-came s.table no_keeps r.key r now st.table);
  kept = subst (λ x. IsKept (key_at x) (last_at t.lasts) (lists_of t) (Came r.key r ∷ now)) (sym put.table) (kept_then (slot_for s.table r.key) refl);
  labels = labels-came now r st.labels;
}
  where
    lasts_then : (slot : ℕ) → slot_for s.table r.key ≡ Some slot → (c : Bool) → is_wanted_slot s.table slot ≡ c → (i : ℕ) → last_at t.lasts i ≡ (if nat_eq slot i && c then Some r else last_at s.lasts i)
    lasts_then slot e c w i = put.lasts slot e i ∙ ap (λ b. if nat_eq slot i && b then Some r else last_at s.lasts i) w

    queues_then : (slot : ℕ) → slot_for s.table r.key ≡ Some slot → (a : ℕ) → lists_of t a ≡ (if subscribed a r.key now then with_slot (lists_of s a) slot else lists_of s a)
    queues_then slot e a =
        ap (λ (q : SlotList). q.list) (put.queues slot e a) ∙ list-queued (is_subscribed (hold_for s.table a slot)) (queue_at s.queues a) slot
        ∙ ap (λ b. if b then with_slot (lists_of s a) slot else lists_of s a) (sym (subscribed-table s.table no_keeps now st.table a r.key slot (key_at-found s.table r.key slot e)))

    nobody : wanted r.key now ≡ false → (a : ℕ) → subscribed a r.key now ≡ false
    nobody w a =
        let go : (c : Bool) → subscribed a r.key now ≡ c → c ≡ false =
        elim [ true ↦ λ e. sym (wanted-subscribed a r.key now e) ∙ w | false ↦ λ e. refl ] in
        go (subscribed a r.key now) refl

    wanted_then : (slot : ℕ) → slot_for s.table r.key ≡ Some slot → (c : Bool) → is_wanted_slot s.table slot ≡ c → IsKept (key_at s.table) (last_at t.lasts) (lists_of t) (Came r.key r ∷ now)
    wanted_then slot e true w =
        kept-put (key_at s.table) (last_at s.lasts) (last_at t.lasts) (lists_of s) (lists_of t) now slot r (at-slot s now slot r.key st (key_at-found s.table r.key slot e))
        (wanted-table s.table no_keeps now st.table r.key slot (key_at-found s.table r.key slot e) ∙ w)
        (λ i. lasts_then slot e true w i ∙ with-true (nat_eq slot i) (Some r) (last_at s.lasts i)) (queues_then slot e)
    wanted_then slot e false w =
        let unwanted = wanted-table s.table no_keeps now st.table r.key slot (key_at-found s.table r.key slot e) ∙ w in
        kept-alike (key_at s.table) (last_at s.lasts) (last_at t.lasts) (lists_of s) (lists_of t) (Came r.key r ∷ now)
        (λ i. lasts_then slot e false w i ∙ with-false (nat_eq slot i) (Some r) (last_at s.lasts i)) (λ a. queues_then slot e a ∙ ap (λ b. if b then with_slot (lists_of s a) slot else lists_of s a) (nobody unwanted a))
        (kept-put_unwanted (key_at s.table) (last_at s.lasts) (lists_of s) now r unwanted st.kept)

    kept_then : (o : Option ℕ) → slot_for s.table r.key ≡ o → IsKept (key_at s.table) (last_at t.lasts) (lists_of t) (Came r.key r ∷ now)
    kept_then None e =
        subst (λ (x : Shown). IsKept (key_at s.table) (last_at x.lasts) (lists_of x) (Came r.key r ∷ now)) (sym (put.nowhere e))
        (kept-put_unwanted (key_at s.table) (last_at s.lasts) (lists_of s) now r (wanted-absent s.table no_keeps now st.table r.key e) st.kept)
    kept_then (Some slot) e = wanted_then slot e (is_wanted_slot s.table slot) refl

-- a subscription
pub StandsAt-add : (s t : Shown) (now : TickerMoment) (a slot : ℕ) (k : Key) → StandsAt s now → IsAdded s a k slot t → StandsAt t (Subscribed a k 0 ∷ now)
unfolding subscribed last_record
StandsAt-add s t now a slot k st added = record { table = table_then; kept = kept_then; labels = labels-same (Subscribed a k 0) now (λ j. ap last (kept-sub j a k 0 now)) st.labels }
  where
    table_then : StandsFor t.table no_keeps (Subscribed a k 0 ∷ now)
    table_then = stands-subscribed s.table t.table no_keeps now a k 0 slot st.table added.agent added.table

    slot_key : key_at t.table slot ≡ Some k
    slot_key = added.table.names slot ∙ ap (λ b. if b then Some k else key_at s.table slot) (same slot)

    renamed_at : (i : ℕ) (c : Bool) → nat_eq i slot ≡ c → (key_at t.table i ≡ key_at s.table i) ⊎ (IsIdle (key_at s.table i) now × IsIdle (key_at t.table i) now)
    renamed_at i false e = inl (added.table.names i ∙ ap (λ b. if b then Some k else key_at s.table i) e)
    renamed_at i true e =
        let here : i ≡ slot = equal i slot e in
        elim added.table.found [
          | inl o ↦ inl (ap (key_at t.table) here ∙ slot_key ∙ sym (ap (key_at s.table) here ∙ key_at-found s.table k slot o))
          | inr o ↦ inr (subst (λ x. IsIdle x now) (sym (ap (key_at s.table) here ∙ o.1)) tt, subst (λ x. IsIdle x now) (sym (ap (key_at t.table) here ∙ slot_key)) (wanted-absent s.table no_keeps now st.table k o.0))
        ]

    named_then : IsKept (key_at t.table) (last_at s.lasts) (lists_of s) now
    named_then = kept-renamed (key_at s.table) (key_at t.table) (last_at s.lasts) (lists_of s) now (λ i. renamed_at i (nat_eq i slot) refl) st.kept

    apart_then : IsApart (key_at t.table)
    apart_then i j l e f = some-same i j (sym (table_then.sound.found i l e) ∙ table_then.sound.found j l f)

    queues_then : (b : ℕ) → lists_of t b ≡ (if nat_eq a b && (not (subscribed a k now) && is_some (last_at s.lasts slot)) then with_slot (lists_of s b) slot else lists_of s b)
    queues_then b =
        ap (λ (q : SlotList). q.list) (added.queues b) ∙ list-queued (nat_eq a b && (not (is_some (limit_by s.table a k)) && is_some (last_at s.lasts slot))) (queue_at s.queues b) slot
        ∙ ap (λ o. if nat_eq a b && (not (is_some o) && is_some (last_at s.lasts slot)) then with_slot (lists_of s b) slot else lists_of s b) (sym (st.table.limits a k))

    kept_then : IsKept (key_at t.table) (last_at t.lasts) (lists_of t) (Subscribed a k 0 ∷ now)
    kept_then =
        subst (λ ls. IsKept (key_at t.table) (last_at ls) (lists_of t) (Subscribed a k 0 ∷ now)) (sym added.lasts)
        (kept-subscription (key_at t.table) (last_at s.lasts) (lists_of s) (lists_of t) now slot k a 0 (record { apart = apart_then; here = slot_key; kept = named_then }) queues_then)

-- the end of a subscription
pub StandsAt-drop : (s t : Shown) (now : TickerMoment) (a slot : ℕ) (k : Key) → StandsAt s now → key_at s.table slot ≡ Some k → is_subscribed (hold_for s.table a slot) ≡ true → IsDropped s a slot t → StandsAt t (Unsubscribed a k ∷ now)
StandsAt-drop s t now a slot k st here has_it dropped = record { table = table_then; kept = kept_then; labels = labels-end now a k st.labels }
  where
    next : TickerMoment
    next = Unsubscribed a k ∷ now

    nothing : (b : ℕ) (j : Key) → no_keeps b j ≡ (if is_pair b j a k then false else no_keeps b j)
    nothing b j = elim (is_pair b j a k) as (λ c. false ≡ (if c then false else false)) [ true ↦ refl | false ↦ refl ]

    table_then : StandsFor t.table no_keeps next
    table_then = stands-ended s.table t.table no_keeps no_keeps now a k slot false st.table has_it here dropped.table nothing

    name_then : (c : Bool) → is_used t.table slot ≡ c → (i : ℕ) → key_at t.table i ≡ (if nat_eq i slot && not c then None else key_at s.table i)
    name_then c u i = dropped.table.names i ∙ ap (λ b. if nat_eq i slot && not b then None else key_at s.table i) u

    slot_then : (c : Bool) → is_used t.table slot ≡ c → key_at t.table slot ≡ (if not c then None else Some k)
    slot_then c u = name_then c u slot ∙ ap (λ b. if b && not c then None else key_at s.table slot) (same slot) ∙ ap (λ o. if not c then None else o) here

    unwanted_slot : key_at t.table slot ≡ None → (c : Bool) → is_wanted_slot t.table slot ≡ c → c ≡ false
    unwanted_slot e true w = let f = wanted-someone t.table slot w in let g = key_at-subscribed t.table f.0 slot table_then.sound f.1 in absurd (some-none g.0 (sym g.1 ∙ e))
    unwanted_slot e false w = refl

    no_slot : is_used t.table slot ≡ false → (o : Option ℕ) → slot_for t.table k ≡ o → slot_for t.table k ≡ None
    no_slot u None e = e
    no_slot u (Some i) e =
        let there = key_at-found t.table k i e in
        let go : (b : Bool) → nat_eq i slot ≡ b → slot_for t.table k ≡ None =
        elim [
          | true ↦ λ f. absurd (some-none k (sym there ∙ ap (key_at t.table) (equal i slot f) ∙ slot_then false u))
          | false ↦ λ f. (let old : key_at s.table i ≡ Some k = sym (name_then false u i ∙ ap (λ b. if b && true then None else key_at s.table i) f) ∙ there in
              absurd (true-false (sym (same slot) ∙ ap (λ j. nat_eq j slot) (keys-apart s now st slot i k here old) ∙ f)))
        ] in
        go (nat_eq i slot) refl

    wanted_then : (c : Bool) → is_used t.table slot ≡ c → wanted k next ≡ is_wanted_slot t.table slot
    wanted_then true u = wanted-table t.table no_keeps next table_then k slot (slot_then true u)
    wanted_then false u = wanted-absent t.table no_keeps next table_then k (no_slot u (slot_for t.table k) refl) ∙ sym (unwanted_slot (slot_then false u) (is_wanted_slot t.table slot) refl)

    lasts_then : (i : ℕ) → last_at t.lasts i ≡ (if nat_eq slot i && not (wanted k next) then None else last_at s.lasts i)
    lasts_then i = dropped.lasts i ∙ ap (λ b. if nat_eq slot i && not b then None else last_at s.lasts i) (sym (wanted_then (is_used t.table slot) refl))

    queues_then : (b : ℕ) → lists_of t b ≡ (if nat_eq a b then without (lists_of s b) slot else lists_of s b)
    queues_then b = ap (λ (q : SlotList). q.list) (dropped.queues b) ∙ list-dropped (nat_eq a b) (queue_at s.queues b) slot

    idle_then : is_used t.table slot ≡ false → IsIdle (key_at s.table slot) next × IsIdle (key_at t.table slot) next
    idle_then u = (
      subst (λ x. IsIdle x next) (sym here) (wanted_then false u ∙ unwanted_slot (slot_then false u) (is_wanted_slot t.table slot) refl),
      subst (λ x. IsIdle x next) (sym (slot_then false u)) tt,
    )

    renamed_at : (i : ℕ) (b : Bool) → nat_eq i slot ≡ b → (c : Bool) → is_used t.table slot ≡ c → (key_at t.table i ≡ key_at s.table i) ⊎ (IsIdle (key_at s.table i) next × IsIdle (key_at t.table i) next)
    renamed_at i false e c u = inl (name_then c u i ∙ ap (λ b. if b && not c then None else key_at s.table i) e)
    renamed_at i true e true u = inl (name_then true u i ∙ with-false (nat_eq i slot) None (key_at s.table i))
    renamed_at i true e false u = inr (subst (λ x. IsIdle (key_at s.table x) next × IsIdle (key_at t.table x) next) (sym (equal i slot e)) (idle_then u))

    kept_then : IsKept (key_at t.table) (last_at t.lasts) (lists_of t) next
    kept_then =
        kept-renamed (key_at s.table) (key_at t.table) (last_at t.lasts) (lists_of t) next (λ i. renamed_at i (nat_eq i slot) refl (is_used t.table slot) refl)
        (kept-end (key_at s.table) (last_at s.lasts) (last_at t.lasts) (lists_of s) (lists_of t) now slot k a (at-slot s now slot k st here) lasts_then queues_then)

-- the end of all of an agent's subscriptions
pub StandsAt-closed : (s : Shown) (now : TickerMoment) (a : ℕ) → StandsAt s now → StandsAt s (Closed a ∷ now)
unfolding last_record
StandsAt-closed s now a st = record {
  table = stands-closed s.table no_keeps a now st.table;
  kept = kept-close (key_at s.table) (last_at s.lasts) (lists_of s) now a st.kept;
  labels = labels-same (Closed a) now (λ k. ap last (kept-closed k a now)) st.labels;
}

-- room
pub StandsAt-roomier : (s t : Shown) (now : TickerMoment) → StandsAt s now → IsRoomier s t → StandsAt t now
StandsAt-roomier s t now st roomier = record {
  table = stands-same s.table t.table no_keeps now st.table roomier.table;
  kept = kept-renamed (key_at s.table) (key_at t.table) (last_at t.lasts) (lists_of t) now (λ i. inl (roomier.table.names i)) (kept-alike (key_at s.table) (last_at s.lasts) (last_at t.lasts) (lists_of s) (lists_of t) now roomier.lasts roomier.queues st.kept);
  labels = st.labels;
}

-- at first
empty-at : (n a : ℕ) → queue_at (replicate n no_queue) a ≡ no_queue
empty-at zero a = refl
empty-at (suc n) zero = refl
empty-at (suc n) (suc a) = empty-at n a

no-key : (i : ℕ) → key_at no_table i ≡ None
unfolding key_at
no-key i = refl

no-record : (k : Key) → last_record k [] ≡ None
unfolding last_record kept
no-record k = refl

no_pending : (a : ℕ) → asked.queue_of a [] ≡ []
unfolding asked.queue_of by_since begun_within
no_pending a = refl

kept-empty : IsKept (key_at no_table) (λ i. None) (λ a. []) []
unfolding EachOnce
kept-empty = record {
  records = λ i. sym (ap (λ o. last_name o []) (no-key i));
  waiting = λ a i. sym (ap (λ o. pending_name a o []) (no-key i));
  once = λ a. tt;
  order = no_pending;
}

pub StandsAt-empty : (s : Shown) → s.table ≡ no_table → s.lasts ≡ [] → s.queues ≡ replicate 128 no_queue → StandsAt s []
StandsAt-empty s e ls qs = record {
  table = subst (λ x. StandsFor {P = Record} {T = Record} x no_keeps []) (sym e) (stands-new Record Record);
  kept = kept-alike (key_at s.table) (λ i. None) (last_at s.lasts) (λ a. []) (lists_of s) [] (λ i. ap (λ xs. last_at xs i) ls) (λ a. ap (λ xs. (queue_at xs a).list) qs ∙ ap (λ (q : SlotList). q.list) (empty-at 128 a))
      (subst (λ x. IsKept (key_at x) (λ i. None) (λ a. []) []) (sym e) kept-empty);
  labels = λ k r h. absurd (some-none r (sym h ∙ no-record k));
}
