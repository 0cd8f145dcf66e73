-- What each act leaves of what a ticker keeps by slots.
use Rattle.std.proofs.Common.{◌≡◌, ◌⊎◌, inl, inr, ℕ, Bool, true, false, ◌&&◌, ◌||◌, not, if◌then◌else◌, nat_eq, nat_lt, max, Option, Some, None, List, [], ◌∷◌, refl, ap, sym, ◌∙◌, subst}
use Rattle.std.specs.List.{filter, filter_map, cons_option}
use Rattle.qd_scheme.specs.declared.key.Key.{Key}
use Rattle.qd_scheme.specs.declared.key.Record.{Record}
use Rattle.qd_scheme.specs.Keys.{key_eq}
use Rattle.qd_scheme.proofs.KeyLaws.{key_eq-comm}
use Rattle.qd_pend.specs.Slots.{has, without, EachOnce}
use Rattle.qd_pend.proofs.ListLaws.{equal, has-here, has-later, EachOnce-without}
use Rattle.qd_sub.specs.Acts.{Act, newest_key, is_gift, is_put}
use Rattle.qd_sub.specs.Since.{last_place}
use Rattle.qd_sub.specs.Subscriptions.{subscribed, began, wanted, kept}
use Rattle.qd_sub.proofs.OrderLaws.{is_about}
use Rattle.qd_sub.proofs.SinceLaws.{grown}
use Rattle.qd_sub.proofs.SubscriptionLaws.{kept-unwanted}
use Rattle.qd_ticker.specs.Pending.{TickerMoment, last, last_record, pending, queue_of}
use Rattle.qd_ticker.specs.Kept.{with_slot, pending_name, last_name, IsKept, IsIdle}
use Rattle.qd_ticker.proofs.AboutLaws.{pending-about, last_record-about, queue_of-about, queue_of-same}
use Rattle.qd_table.proofs.SlotKeys.{IsApart, same-slot}
use Rattle.qd_ticker.proofs.SlotLists.{names-without, names-with, has-with, has-less, EachOnce-with}

-- an act that changes neither the last records nor what is pending
pub kept-quiet : (name : ℕ → Option Key) (lasts : ℕ → Option Record) (queues : ℕ → List ℕ) (act : Act Record Record) (now : TickerMoment) → ((k : Key) → last_record k (act ∷ now) ≡ last_record k now) → ((a : ℕ) (k : Key) → pending a k (act ∷ now) ≡ pending a k now) →
    IsKept name lasts queues now → IsKept name lasts queues (act ∷ now)
kept-quiet name lasts queues act now records waits kept = record {
  records = λ slot. kept.records slot ∙ sym (named_last (name slot));
  waiting = λ a slot. kept.waiting a slot ∙ sym (named_pending a (name slot));
  once = kept.once;
  order = λ a. queue_of-same a act now (waits a) ∙ kept.order a;
}
  where
    named_last : (o : Option Key) → last_name o (act ∷ now) ≡ last_name o now
    named_last None = refl
    named_last (Some k) = records k

    named_pending : (a : ℕ) (o : Option Key) → pending_name a o (act ∷ now) ≡ pending_name a o now
    named_pending a None = refl
    named_pending a (Some k) = waits a k

-- what an act about the key of a slot leaves: at that slot what is so then, and all else as it was
pub record IsMoved (slot : ℕ) (k : Key) (lasts lasts' : ℕ → Option Record) (queues queues' : ℕ → List ℕ) (now : TickerMoment) : Type 0 where
  pub lasts_then : (s : ℕ) → lasts' s ≡ (if nat_eq slot s then last_record k now else lasts s)
  pub queues_then : (a : ℕ) → queues' a ≡ (if pending a k now then with_slot (queues a) slot else without (queues a) slot)

pub kept-moved : (name : ℕ → Option Key) (lasts lasts' : ℕ → Option Record) (queues queues' : ℕ → List ℕ) (act : Act Record Record) (now : TickerMoment) (slot : ℕ) (k : Key) → IsApart name → name slot ≡ Some k → newest_key (act ∷ now) ≡ Some k →
    IsMoved slot k lasts lasts' queues queues' (act ∷ now) → IsKept name lasts queues now → IsKept name lasts' queues' (act ∷ now)
kept-moved name lasts lasts' queues queues' act now slot k apart here about moved kept = record {
  records = λ s. moved.lasts_then s ∙ records_at s (name s) refl (nat_eq slot s) refl;
  waiting = λ a s. ap (λ list. has list s) (moved.queues_then a) ∙ waiting_at a s (name s) refl (nat_eq slot s) refl (pending a k (act ∷ now)) refl;
  once = λ a. subst EachOnce (sym (moved.queues_then a)) (once_at a (pending a k (act ∷ now)));
  order = λ a. queue_of-about a act now k about ∙ order_at a (pending a k (act ∷ now)) ∙ ap (filter_map name) (sym (moved.queues_then a));
}
  where
    apart_key : (s : ℕ) (j : Key) → name s ≡ Some j → nat_eq slot s ≡ false → is_about key_eq j (newest_key (act ∷ now)) ≡ false
    apart_key s j e f = ap (is_about key_eq j) about ∙ key_eq-comm j k ∙ sym (same-slot name apart slot k here s j e) ∙ f

    some-same : (i j : Key) → (let m : Option Key = Some i in let n : Option Key = Some j in m ≡ n) → i ≡ j
    some-same i j h = cc

    at_slot : (s : ℕ) → nat_eq slot s ≡ true → name s ≡ Some k
    at_slot s e = ap name (sym (equal slot s e)) ∙ here

    records_at : (s : ℕ) (o : Option Key) → name s ≡ o → (b : Bool) → nat_eq slot s ≡ b → (if b then last_record k (act ∷ now) else lasts s) ≡ last_name o (act ∷ now)
    records_at s o e true f = ap (λ p. last_name p (act ∷ now)) (sym (at_slot s f) ∙ e)
    records_at s None e false f = kept.records s ∙ ap (λ p. last_name p now) e
    records_at s (Some j) e false f = kept.records s ∙ ap (λ p. last_name p now) e ∙ sym (last_record-about act now j (apart_key s j e f))

    others : (a s : ℕ) (o : Option Key) → name s ≡ o → nat_eq slot s ≡ false → has (queues a) s ≡ pending_name a o (act ∷ now)
    others a s None e f = kept.waiting a s ∙ ap (λ p. pending_name a p now) e
    others a s (Some j) e f = kept.waiting a s ∙ ap (λ p. pending_name a p now) e ∙ sym (pending-about a act now j (apart_key s j e f))

    here_then : (a s : ℕ) (o : Option Key) → name s ≡ o → nat_eq slot s ≡ true → pending a k (act ∷ now) ≡ pending_name a o (act ∷ now)
    here_then a s o e f = ap (λ p. pending_name a p (act ∷ now)) (sym (at_slot s f) ∙ e)

    waiting_at : (a s : ℕ) (o : Option Key) → name s ≡ o → (b : Bool) → nat_eq slot s ≡ b → (c : Bool) → pending a k (act ∷ now) ≡ c → has (if c then with_slot (queues a) slot else without (queues a) slot) s ≡ pending_name a o (act ∷ now)
    waiting_at a s o e true f true g = has-with (queues a) slot s ∙ ap (λ b. b || has (queues a) s) f ∙ sym g ∙ here_then a s o e f
    waiting_at a s o e true f false g = has-less (queues a) slot s ∙ ap (λ b. not b && has (queues a) s) f ∙ sym g ∙ here_then a s o e f
    waiting_at a s o e false f true g = has-with (queues a) slot s ∙ ap (λ b. b || has (queues a) s) f ∙ others a s o e f
    waiting_at a s o e false f false g = has-less (queues a) slot s ∙ ap (λ b. not b && has (queues a) s) f ∙ others a s o e f

    once_at : (a : ℕ) (c : Bool) → EachOnce (if c then with_slot (queues a) slot else without (queues a) slot)
    once_at a true = EachOnce-with (queues a) slot (kept.once a)
    once_at a false = EachOnce-without (queues a) slot (kept.once a)

    order_at : (a : ℕ) (c : Bool) → (if c then grown key_eq (queue_of a now) k else filter (λ j. not (key_eq k j)) (queue_of a now)) ≡ filter_map name (if c then with_slot (queues a) slot else without (queues a) slot)
    order_at a true = ap (λ ks. grown key_eq ks k) (kept.order a) ∙ sym (names-with name apart slot k here (queues a))
    order_at a false = ap (filter (λ j. not (key_eq k j))) (kept.order a) ∙ sym (names-without name apart slot k here (queues a))

-- an unwanted key has no last record and is pending for nobody
pub last_record-unwanted : (k : Key) (now : TickerMoment) → wanted k now ≡ false → last_record k now ≡ None
unfolding last_record
last_record-unwanted k now h = ap last (kept-unwanted k now h)

pub pending-unwanted : (a : ℕ) (k : Key) (now : TickerMoment) → wanted k now ≡ false → pending a k now ≡ false
unfolding pending
pending-unwanted a k now h = rw (kept-unwanted k now h) (gone (subscribed a k now))
  where
    gone : (b : Bool) → ((b && false) && nat_lt (last_place (is_gift a k) now) (max (began a k now) (last_place (is_put k) now))) ≡ false
    gone true = refl
    gone false = refl

-- slots got or lost keys, all of them unwanted
abbrev pub IsRenamed : (ℕ → Option Key) → (ℕ → Option Key) → TickerMoment → Type 0
IsRenamed name name' now = (slot : ℕ) → (name' slot ≡ name slot) ⊎ (IsIdle (name slot) now × IsIdle (name' slot) now)

pub kept-renamed : (name name' : ℕ → Option Key) (lasts : ℕ → Option Record) (queues : ℕ → List ℕ) (now : TickerMoment) → IsRenamed name name' now → IsKept name lasts queues now → IsKept name' lasts queues now
kept-renamed name name' lasts queues now renamed kept = record {
  records = λ slot. elim (renamed slot) [
    | inl e ↦ kept.records slot ∙ ap (λ o. last_name o now) (sym e)
    | inr i ↦ kept.records slot ∙ idle_last (name slot) i.0 ∙ sym (idle_last (name' slot) i.1)
  ];
  waiting = λ a slot. elim (renamed slot) [
    | inl e ↦ kept.waiting a slot ∙ ap (λ o. pending_name a o now) (sym e)
    | inr i ↦ kept.waiting a slot ∙ idle_pending a (name slot) i.0 ∙ sym (idle_pending a (name' slot) i.1)
  ];
  once = kept.once;
  order = λ a. kept.order a ∙ names_agree (queues a) (λ slot h. pending_same a slot (sym (kept.waiting a slot) ∙ h));
}
  where
    idle_last : (o : Option Key) → IsIdle o now → last_name o now ≡ None
    idle_last None i = refl
    idle_last (Some k) i = last_record-unwanted k now i

    idle_pending : (a : ℕ) (o : Option Key) → IsIdle o now → pending_name a o now ≡ false
    idle_pending a None i = refl
    idle_pending a (Some k) i = pending-unwanted a k now i

    pending_same : (a slot : ℕ) → pending_name a (name slot) now ≡ true → name slot ≡ name' slot
    pending_same a slot h = elim (renamed slot) [
      | inl e ↦ sym e
      | inr i ↦ (let z : true ≡ false = sym h ∙ idle_pending a (name slot) i.0 in cc)
    ]

    names_agree : (list : List ℕ) → ((slot : ℕ) → has list slot ≡ true → name slot ≡ name' slot) → filter_map name list ≡ filter_map name' list
    names_agree [] agree = refl
    names_agree (s ∷ list) agree = ap (λ o. cons_option o (filter_map name list)) (agree s (has-here s list)) ∙ ap (cons_option (name' s)) (names_agree list (λ slot h. agree slot (has-later s list slot h)))

-- the same, said of other lists
pub kept-alike : (name : ℕ → Option Key) (lasts lasts' : ℕ → Option Record) (queues queues' : ℕ → List ℕ) (now : TickerMoment) → ((slot : ℕ) → lasts' slot ≡ lasts slot) → ((a : ℕ) → queues' a ≡ queues a) → IsKept name lasts queues now → IsKept name lasts' queues' now
kept-alike name lasts lasts' queues queues' now ls qs kept = record {
  records = λ slot. ls slot ∙ kept.records slot;
  waiting = λ a slot. ap (λ list. has list slot) (qs a) ∙ kept.waiting a slot;
  once = λ a. subst EachOnce (sym (qs a)) (kept.once a);
  order = λ a. kept.order a ∙ ap (filter_map name) (sym (qs a));
}
