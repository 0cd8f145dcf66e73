-- What a step leaves stands for the moment after its acts, and its entry is lawful.
use Rattle.std.proofs.Common.{◌≡◌, ◌⊎◌, inl, inr, ℕ, zero, suc, ◌<◌, ◌≤◌, Bool, true, false, ◌&&◌, if◌then◌else◌, nat_lt, Option, Some, None, is_some, List, [], ◌∷◌, ◌++◌, length, map, refl, ap, sym, ◌∙◌, subst, arith}
use Rattle.std.specs.Prelude.{MatchBool, ◌==◌}
use Rattle.std.specs.List.{filter_map, cons_option}
use Rattle.qd_scheme.specs.declared.key.Key.{Key}
use Rattle.qd_scheme.specs.declared.key.Event.{Event}
use Rattle.std.proofs.lemmas.Bool.Decides.{nat_tests}
use Rattle.qd_flags.specs.declared.commits.Floor.{Floor}
use Rattle.qd_buffer.specs.Filled.{Filled, with_items}
use Rattle.qd_gate.specs.declared.machine.Terms.{Terms}
use Rattle.qd_gate.specs.Logs.{entry}
use Rattle.qd_gate.proofs.Laws.{each_follows_push}
use Rattle.qd_pend.specs.Slots.{has, first_in}
use Rattle.qd_pend.proofs.ListLaws.{has-here}
use Rattle.qd_sub.specs.declared.sub.Sub.{Sub}
use Rattle.qd_sub.specs.declared.sub.Want.{Want}
use Rattle.qd_sub.specs.declared.op.Op.TheVariants.{Add, Remove, Close, Put, Take, Watch}
use Rattle.qd_sub.specs.Acts.{Subscribed, Unsubscribed, Closed, Came, Gave, Full}
use Rattle.qd_sub.specs.Subscriptions.{subscribed, keys_of}
use Rattle.qd_sub.specs.Watching.{watched}
use Rattle.qd_sub.specs.Logs.{after, ends_of, after_entry, after_log}
use Rattle.qd_sub.proofs.KeyEnds.{keys-rest}
use Rattle.qd_sub.proofs.LogLaws.{after_log-push}
use Rattle.qd_slots.specs.Holds.{is_subscribed}
use Rattle.qd_table.specs.declared.table.SubFault.{SubFault}
use Rattle.qd_table.specs.declared.table.SubFault.TheVariants as faults
use Rattle.qd_table.specs.Tables.{key_at, keys_at, slot_for, hold_for, limit_for, order_of, wants_for, fault_of}
use Rattle.qd_table.proofs.TableLaws.{key_at-found, key_at-subscribed, limit_for-some, some-same, some-none, true-false}
use Rattle.qd_table.proofs.StandLaws.{subscribed-table, subscribed-absent}
use Rattle.qd_hist_rules.specs.declared.item.HistItem.{HistItem}
use Rattle.qd_hist_rules.specs.declared.reply.HistoryReply.{HistoryReply}
use Rattle.qd_hist_rules.specs.declared.reply.HistoryReply.TheVariants.{Done, Items, Wants, TooManyKeys, TooManySubs, HistoryFull, Spent, NoMemory}
use Rattle.qd_hist_rules.specs.Moments.{HistAct, HistMoment, event_key, item_key}
use Rattle.qd_hist_rules.specs.Takes.{after_gifts}
use Rattle.qd_hist_rules.specs.Legal as legal
use Rattle.qd_hist_rules.specs.Legal.{HistoryOp, HistoryEntry, last_mark, history_acts, moment_of, too_many_keys, too_many_subs, refusal, Answers, IsLawful, Follows, IsLegal}
use Rattle.qd_hist_stand.specs.Stripes.{Shown, StandsAt, Stands, queue_at, due_at, floor_at, floor_in, no_keeps, terms_in}
use Rattle.qd_hist_stand.specs.Steps.{IsDropped, GivesAll, IsTelling, IsRoomier}
use Rattle.qd_hist_stand.specs.Laws.{RoomierStands, SubscribingStands, DroppedStands, ClosedStands, TellingStands, PutStands, GivenStands, TurnedStands, TakeIsLawful, FullIsTold, SpentIsTold, FaultIsTold}
use Rattle.qd_hist_stand.proofs.Rooms.{roomier-stands}
use Rattle.qd_hist_stand.proofs.Subscribing.{subscribing-stands}
use Rattle.qd_hist_stand.proofs.Dropping.{dropping-stands}
use Rattle.qd_hist_stand.proofs.Idle.{closed-stands, telling-stands}
use Rattle.qd_hist_stand.proofs.Give.{given-at, given-lawful}
use Rattle.qd_hist_stand.proofs.Given.{stands-given}
use Rattle.qd_hist_stand.proofs.Turn.{stands-turned}
use Rattle.qd_hist_stand.proofs.Take.{take-lawful}
use Rattle.qd_hist_stand.proofs.Put.{put_stands}
use Rattle.qd_hist_stand.proofs.Refusals.{full-told, spent-told, fault-told}
use Rattle.qd_history.specs.Steps.{SubscribesAll, AddsBy, RemovesAt, RemovesAll, EndsAll, PutsAll, PutsBy, is_full, is_spent, Gift, GivesEach, last_slot, IsIdleAt, Takes, items_of, StepsTo}

-- the laws of a stripe, and that it judges as its moment does
pub record HasLaws : Type 0 where
  pub roomier : RoomierStands
  pub subscribing : SubscribingStands
  pub dropped : DroppedStands
  pub closed : ClosedStands
  pub telling : TellingStands
  pub put : PutStands
  pub given : GivenStands
  pub turned : TurnedStands
  pub take : TakeIsLawful
  pub full : FullIsTold
  pub spent : SpentIsTold
  pub faults : FaultIsTold

-- Adds
subscribes-stand : HasLaws → (a : ℕ) (subs : List Sub) (s t : Shown) (now : HistMoment) → StandsAt s now → SubscribesAll s a subs t → StandsAt t (after now (map (λ x. Subscribed a x.key x.limit) subs))
unfolding SubscribesAll after
subscribes-stand l a [] s t now st e = subst (λ x. StandsAt x now) e st
subscribes-stand l a (x ∷ xs) s t now st (slot, mid, step, rest) = subscribes-stand l a xs mid t (Subscribed a x.key x.limit ∷ now) (l.subscribing s mid a x.key x.limit slot now st step) rest

-- what a step answers at a moment for which the stripe stood
abbrev StepStands : Terms → Shown → HistoryOp → HistoryReply → HistMoment → Type 0
StepStands terms t op reply now = StandsAt t (after now (history_acts now op reply)) × IsLawful terms now op reply

refused : (terms : Terms) (s t : Shown) (op : HistoryOp) (reply : HistoryReply) (now : HistMoment) → HasLaws → StandsAt s now → IsRoomier s t → history_acts now op reply ≡ [] → IsLawful terms now op reply → StepStands terms t op reply now
unfolding after
refused terms s t op reply now l st roomier none lawful = (subst (λ acts. StandsAt t (after now acts)) (sym none) (l.roomier s t now st roomier), lawful)

add-none : (c d : Bool) → (let o : Option SubFault = None in o ≡ (if c then Some faults.TooManyKeys else if d then Some faults.TooManySubs else None)) → (let o : Option HistoryReply = None in (if c then Some TooManyKeys else if d then Some TooManySubs else None) ≡ o)
add-none true d h = cc
add-none false true h = cc
add-none false false h = refl

add-keys : (c d : Bool) → (let o : Option SubFault = Some faults.TooManyKeys in o ≡ (if c then Some faults.TooManyKeys else if d then Some faults.TooManySubs else None)) → (let o : Option HistoryReply = Some TooManyKeys in (if c then Some TooManyKeys else if d then Some TooManySubs else None) ≡ o)
add-keys true d h = refl
add-keys false true h = cc
add-keys false false h = cc

add-subs : (c d : Bool) → (let o : Option SubFault = Some faults.TooManySubs in o ≡ (if c then Some faults.TooManyKeys else if d then Some faults.TooManySubs else None)) → (let o : Option HistoryReply = Some TooManySubs in (if c then Some TooManyKeys else if d then Some TooManySubs else None) ≡ o)
add-subs true d h = cc
add-subs false true h = refl
add-subs false false h = cc

refusal-add : (base : ℕ) (now : HistMoment) (a : ℕ) (subs : Filled Sub) → refusal base now (Add a subs) ≡ (if too_many_keys now subs.items then Some TooManyKeys else if too_many_subs now a subs.items then Some TooManySubs else None)
unfolding refusal
refusal-add base now a subs = refl

-- lawful where the op is refused so, or is not refused
lawful-refused : (terms : Terms) (now : HistMoment) (op : HistoryOp) (reply : HistoryReply) → refusal terms.base now op ≡ Some reply → IsLawful terms now op reply
unfolding IsLawful
lawful-refused terms now op reply e = rw e refl

lawful-done : (terms : Terms) (now : HistMoment) (op : HistoryOp) (reply : HistoryReply) → refusal terms.base now op ≡ None → Answers terms now op reply → IsLawful terms now op reply
unfolding IsLawful
lawful-done terms now op reply e answers = rw e (inl answers)

lawful-wants : (terms : Terms) (now : HistMoment) (op : HistoryOp) → refusal terms.base now op ≡ None → legal.MayWant op → IsLawful terms now op NoMemory
unfolding IsLawful
lawful-wants terms now op e may = rw e (inr (may, refl))

add-stands : HasLaws → (terms : Terms) (s t : Shown) (a : ℕ) (subs : Filled Sub) (reply : HistoryReply) (now : HistMoment) → StandsAt s now → (o : Option SubFault) → fault_of s.table a subs.items ≡ o → AddsBy o s a subs.items reply t → StepStands terms t (Add a subs) reply now
add-stands l terms s t a subs reply now st (Some faults.TooManyKeys) e (is, roomier) =
    subst (λ r. StepStands terms t (Add a subs) r now) (sym is) (refused terms s t (Add a subs) TooManyKeys now l st roomier refl
    (lawful-refused terms now (Add a subs) TooManyKeys (refusal-add terms.base now a subs ∙ add-keys (too_many_keys now subs.items) (too_many_subs now a subs.items) (sym e ∙ l.faults s a subs.items now st))))
add-stands l terms s t a subs reply now st (Some faults.TooManySubs) e (is, roomier) =
    subst (λ r. StepStands terms t (Add a subs) r now) (sym is) (refused terms s t (Add a subs) TooManySubs now l st roomier refl
    (lawful-refused terms now (Add a subs) TooManySubs (refusal-add terms.base now a subs ∙ add-subs (too_many_keys now subs.items) (too_many_subs now a subs.items) (sym e ∙ l.faults s a subs.items now st))))
add-stands l terms s t a subs reply now st (Some faults.NoMemory) e x = absurd x
add-stands l terms s t a subs reply now st None e (inl (is, added)) =
    subst (λ r. StepStands terms t (Add a subs) r now) (sym is) (
      subscribes-stand l a subs.items added.mid t now (l.roomier s added.mid now st added.roomier) added.subscribed,
      lawful-done terms now (Add a subs) Done (refusal-add terms.base now a subs ∙ add-none (too_many_keys now subs.items) (too_many_subs now a subs.items) (sym e ∙ l.faults s a subs.items now st)) refl,
    )
add-stands l terms s t a subs reply now st None e (inr (is, roomier)) =
    subst (λ r. StepStands terms t (Add a subs) r now) (sym is) (refused terms s t (Add a subs) NoMemory now l st roomier refl
    (lawful-wants terms now (Add a subs) (refusal-add terms.base now a subs ∙ add-none (too_many_keys now subs.items) (too_many_subs now a subs.items) (sym e ∙ l.faults s a subs.items now st)) tt))

-- Removes
ends-yes : (a : ℕ) (k : Key) (ks : List Key) (now : HistMoment) → subscribed a k now ≡ true → after now (ends_of a now (k ∷ ks)) ≡ after (Unsubscribed a k ∷ now) (ends_of a (Unsubscribed a k ∷ now) ks)
unfolding after ends_of
ends-yes a k ks now h = rw h refl

ends-no : (a : ℕ) (k : Key) (ks : List Key) (now : HistMoment) → subscribed a k now ≡ false → after now (ends_of a now (k ∷ ks)) ≡ after now (ends_of a now ks)
unfolding after ends_of
ends-no a k ks now h = rw h refl

ends-none : (a : ℕ) (now : HistMoment) → now ≡ after now (ends_of a now [])
unfolding after ends_of
ends-none a now = refl

-- the moment after one key of a Remove
record Removed (a : ℕ) (k : Key) (ks : List Key) (now : HistMoment) (mid : Shown) : Type 0 where
  then_now : HistMoment
  stands : StandsAt mid then_now
  is : after now (ends_of a now (k ∷ ks)) ≡ after then_now (ends_of a then_now ks)

remove-one : HasLaws → (a : ℕ) (k : Key) (ks : List Key) (s mid : Shown) (now : HistMoment) → StandsAt s now → (o : Option ℕ) → slot_for s.table k ≡ o → RemovesAt o s a k mid → Removed a k ks now mid
remove-one l a k ks s mid now st None e is = record {
  then_now = now;
  stands = subst (λ x. StandsAt x now) is st;
  is = ends-no a k ks now (subscribed-absent s.table no_keeps now st.table a k e);
}
remove-one l a k ks s mid now st (Some slot) e step = go (is_subscribed (hold_for s.table a slot)) refl step
  where
    go : (b : Bool) → is_subscribed (hold_for s.table a slot) ≡ b → MatchBool b ((key_at s.table slot ≡ Some k) × IsDropped s a slot mid) (s ≡ mid) → Removed a k ks now mid
    go true h (here, dropped) = record {
      then_now = Unsubscribed a k ∷ now;
      stands = l.dropped s mid a k slot now st here dropped;
      is = ends-yes a k ks now (subscribed-table s.table no_keeps now st.table a k slot here ∙ h);
    }
    go false h is = record {
      then_now = now;
      stands = subst (λ x. StandsAt x now) is st;
      is = ends-no a k ks now (subscribed-table s.table no_keeps now st.table a k slot (key_at-found s.table k slot e) ∙ h);
    }

removes-stand : HasLaws → (a : ℕ) (ks : List Key) (s t : Shown) (now : HistMoment) → StandsAt s now → RemovesAll s a ks t → StandsAt t (after now (ends_of a now ks))
unfolding RemovesAll
removes-stand l a [] s t now st e = subst (λ m. StandsAt t m) (ends-none a now) (subst (λ x. StandsAt x now) e st)
removes-stand l a (k ∷ ks) s t now st (mid, step, rest) =
    let one = remove-one l a k ks s mid now st (slot_for s.table k) refl step in
    subst (λ m. StandsAt t m) (sym one.is) (removes-stand l a ks mid t one.then_now one.stands rest)

-- a Close
abbrev close_lead : ℕ → HistMoment → HistMoment
close_lead a now = after now (map (Unsubscribed a) (keys_of a now) ++ Closed a ∷ [])

close-step : (a : ℕ) (k : Key) (ks : List Key) (m : HistMoment) → keys_of a m ≡ k ∷ ks → close_lead a (Unsubscribed a k ∷ m) ≡ close_lead a m
unfolding after
close-step a k ks m e = ap (λ js. after (Unsubscribed a k ∷ m) (map (Unsubscribed a) js ++ Closed a ∷ [])) (keys-rest a k ks m e) ∙ sym (ap (λ js. after m (map (Unsubscribed a) js ++ Closed a ∷ [])) e)

closed-lead : (a : ℕ) (m : HistMoment) → keys_of a m ≡ [] → close_lead a m ≡ Closed a ∷ m
unfolding after
closed-lead a m e = ap (λ js. after m (map (Unsubscribed a) js ++ Closed a ∷ [])) e

first-rest : (list : List ℕ) (slot : ℕ) → first_in list ≡ Some slot → (rest : List ℕ) × (list ≡ slot ∷ rest)
first-rest [] slot h = absurd (some-none slot (sym h))
first-rest (s ∷ rest) slot h = (rest, ap (λ x. x ∷ rest) (some-same s slot h))

first-none : (list : List ℕ) → first_in list ≡ None → list ≡ []
first-none [] h = refl
first-none (s ∷ rest) h = absurd (some-none s h)

keys-first : (s : Shown) (m : HistMoment) (a slot : ℕ) (k : Key) (rest : List ℕ) → StandsAt s m → order_of s.table a ≡ slot ∷ rest → key_at s.table slot ≡ Some k → keys_of a m ≡ k ∷ filter_map (key_at s.table) rest
unfolding keys_at
keys-first s m a slot k rest st e h = st.table.orders a ∙ ap (filter_map (key_at s.table)) e ∙ ap (λ o. cons_option o (filter_map (key_at s.table) rest)) h

keys-none : (s : Shown) (m : HistMoment) (a : ℕ) → StandsAt s m → order_of s.table a ≡ [] → keys_of a m ≡ []
unfolding keys_at
keys-none s m a st e = st.table.orders a ∙ ap (filter_map (key_at s.table)) e

ends-stand : HasLaws → (n : ℕ) (s t : Shown) (a : ℕ) (now : HistMoment) → StandsAt s now → EndsAll n s a t → StandsAt t (close_lead a now)
unfolding EndsAll
ends-stand l zero s t a now st (none, e) =
    subst (λ m. StandsAt t m) (sym (closed-lead a now (keys-none s now a st (first-none (order_of s.table a) none)))) (subst (λ x. StandsAt x (Closed a ∷ now)) e (l.closed s a now st))
ends-stand l (suc n) s t a now st (slot, mid, first, dropped, rest) =
    let list = first-rest (order_of s.table a) slot first in
    let key = key_at-subscribed s.table a slot st.table.sound dropped.subscribed in
    subst (λ m. StandsAt t m) (close-step a key.0 (filter_map (key_at s.table) list.0) now (keys-first s now a slot key.0 list.0 st list.1 key.1))
    (ends-stand l n mid t a (Unsubscribed a key.0 ∷ now) (l.dropped s mid a key.0 slot now st key.1 dropped) rest)

-- a Put
puts-stand : HasLaws → (es : List Event) (s t : Shown) (now : HistMoment) → StandsAt s now → PutsAll s es t → StandsAt t (after now (map (λ e. Came (event_key e) e) es))
unfolding PutsAll after
puts-stand l [] s t now st e = subst (λ x. StandsAt x now) e st
puts-stand l (e ∷ es) s t now st (mid, step, rest) = puts-stand l es mid t (Came e.key e ∷ now) (l.put s mid e now st step) rest

refusal-put : (base : ℕ) (now : HistMoment) (items : Filled Event) → refusal base now (Put items) ≡ (if legal.is_full base now items.items then Some HistoryFull else if legal.is_spent base now items.items then Some Spent else None)
unfolding refusal
refusal-put base now items = refl

roomier-refused : (terms : Terms) (s t : Shown) (op : HistoryOp) (reply : HistoryReply) (now : HistMoment) → StandsAt s now → s ≡ t → history_acts now op reply ≡ [] → IsLawful terms now op reply → StepStands terms t op reply now
unfolding after
roomier-refused terms s t op reply now st e none lawful = (subst (λ acts. StandsAt t (after now acts)) (sym none) (subst (λ x. StandsAt x now) e st), lawful)

put-stands : HasLaws → (s t : Shown) (items : Filled Event) (reply : HistoryReply) (now : HistMoment) → StandsAt s now → (full spent : Bool) → is_full s items.items ≡ full → is_spent s items.items ≡ spent → PutsBy full spent s items.items reply t → StepStands (terms_in s) t (Put items) reply now
put-stands l s t items reply now st true spent f p (is, e) =
    subst (λ r. StepStands (terms_in s) t (Put items) r now) (sym is) (roomier-refused (terms_in s) s t (Put items) HistoryFull now st e refl
    (lawful-refused (terms_in s) now (Put items) HistoryFull (refusal-put s.base now items ∙ ap (λ b. if b then Some HistoryFull else if legal.is_spent s.base now items.items then Some Spent else None) (l.full s items.items now st ∙ f))))
put-stands l s t items reply now st false true f p (is, e) =
    subst (λ r. StepStands (terms_in s) t (Put items) r now) (sym is) (roomier-refused (terms_in s) s t (Put items) Spent now st e refl
    (lawful-refused (terms_in s) now (Put items) Spent (refusal-put s.base now items ∙ ap (λ b. if b then Some HistoryFull else if legal.is_spent s.base now items.items then Some Spent else None) (l.full s items.items now st ∙ f) ∙ ap (λ b. if b then Some Spent else None) (l.spent s items.items now st ∙ p))))
put-stands l s t items reply now st false false f p step =
    let none : refusal s.base now (Put items) ≡ None = refusal-put s.base now items ∙ ap (λ b. if b then Some HistoryFull else if legal.is_spent s.base now items.items then Some Spent else None) (l.full s items.items now st ∙ f) ∙ ap (λ b. if b then Some Spent else None) (l.spent s items.items now st ∙ p) in
    elim step [
      | inl done ↦ subst (λ r. StepStands (terms_in s) t (Put items) r now) (sym done.0) (
        puts-stand l items.items done.1.mid t now (l.roomier s done.1.mid now st done.1.roomier) done.1.put,
        lawful-done (terms_in s) now (Put items) Done none refl,
      )
      | inr wants ↦ subst (λ r. StepStands (terms_in s) t (Put items) r now) (sym wants.0) (refused (terms_in s) s t (Put items) NoMemory now l st wants.1 refl (lawful-wants (terms_in s) now (Put items) none tt))
    ]

-- a Take
gives-all : (gs : List Gift) (s t : Shown) (a : ℕ) → GivesEach s a gs t → GivesAll s a (items_of gs) t
unfolding GivesEach GivesAll
gives-all [] s t a e = e
gives-all (g ∷ gs) s t a (mid, given, rest) = (g.slot, mid, given, gives-all gs mid t a rest)

gives-stand : HasLaws → (gs : List Gift) (s t : Shown) (a : ℕ) (now : HistMoment) → StandsAt s now → GivesEach s a gs t → StandsAt t (after_gifts a (items_of gs) now)
unfolding GivesEach
gives-stand l [] s t a now st e = subst (λ x. StandsAt x now) e st
gives-stand l (g ∷ gs) s t a now st (mid, given, rest) = gives-stand l gs mid t a (Gave a (item_key g.item) g.item ∷ now) (l.given s mid a g.slot g.item now st given).2 rest

-- the mark of the last gift is of the key of its slot
record IsMarked (t : Shown) (a : ℕ) (gs : List Gift) (slot : ℕ) : Type 0 where
  key : Key
  mark_is : last_mark a (items_of gs) ≡ Full a key ∷ []
  key_is : key_at t.table slot ≡ Some key

marked : HasLaws → (gs : List Gift) (s t : Shown) (a slot : ℕ) (now : HistMoment) → StandsAt s now → GivesEach s a gs t → last_slot gs ≡ Some slot → IsMarked t a gs slot
unfolding GivesEach
marked l [] s t a slot now st e last = absurd (some-none slot (sym last))
marked l (g ∷ []) s t a slot now st (mid, given, e) last = record {
  key = item_key g.item;
  mark_is = refl;
  key_is = ap (λ (x : Shown). key_at x.table slot) (sym e) ∙ ap (λ x. key_at x slot) given.table ∙ ap (key_at s.table) (sym (some-same g.slot slot last)) ∙ (l.given s mid a g.slot g.item now st given).0;
}
marked l (g ∷ h ∷ gs) s t a slot now st (mid, given, rest) last =
    let more = marked l (h ∷ gs) mid t a slot (Gave a (item_key g.item) g.item ∷ now) (l.given s mid a g.slot g.item now st given).2 rest last in
    record { key = more.key; mark_is = more.mark_is; key_is = more.key_is }

and-true : (b c : Bool) → (b && c) ≡ true → b ≡ true
and-true true c h = refl
and-true false c h = cc

has-floor : (o : Option ℕ) (f : Option Floor) → is_some (floor_in o f) ≡ true → is_some o ≡ true
has-floor (Some limit) f h = refl
has-floor None f h = cc

-- a stripe that stands and has nothing to give has nothing due
idle-empty : (s : Shown) (a : ℕ) (now : HistMoment) → StandsAt s now → (list : List ℕ) → queue_at s a ≡ list → IsIdleAt (first_in list) s a → queue_at s a ≡ []
idle-empty s a now st [] e idle = e
idle-empty s a now st (slot ∷ rest) e idle =
    let due : due_at s a slot ≡ true = sym (st.due a slot) ∙ ap (λ q. has q slot) e ∙ has-here slot rest in
    elim idle [
      | inl vacant ↦ (
          let subscribed : is_subscribed (hold_for s.table a slot) ≡ true = sym (limit_for-some s.table a slot) ∙ has-floor (limit_for s.table a slot) _ (and-true (is_some (floor_at s a slot)) _ due) in
          let key = key_at-subscribed s.table a slot st.table.sound subscribed in
          absurd (some-none key.0 (sym key.1 ∙ vacant)))
      | inr not_due ↦ absurd (true-false (sym due ∙ not_due))
    ]

-- the acts of a Take: its gifts, and the mark
gifts-after : (a : ℕ) (is : List HistItem) (marks : List HistAct) (now : HistMoment) → after now (map (λ i. Gave a (item_key i) i) is ++ marks) ≡ after (after_gifts a is now) marks
unfolding after
gifts-after a [] marks now = refl
gifts-after a (i ∷ is) marks now = gifts-after a is marks (Gave a (item_key i) i ∷ now)

after-none : (now : HistMoment) → after now [] ≡ now
unfolding after
after-none now = refl

after-one : (now : HistMoment) (act : HistAct) → after now (act ∷ []) ≡ act ∷ now
unfolding after
after-one now act = refl

items-length : (gs : List Gift) → length (items_of gs) ≡ length gs
items-length [] = refl
items-length (g ∷ gs) = ap suc (items-length gs)

refusal-take : (base : ℕ) (now : HistMoment) (a most : ℕ) (out : Filled HistItem) → refusal base now (Take a most out) ≡ None
unfolding refusal
refusal-take base now a most out = refl

take-stands : HasLaws → (s t : Shown) (a most : ℕ) (out : Filled HistItem) (gs : List Gift) (reply : HistoryReply) (now : HistMoment) → reply ≡ Items (with_items out (items_of gs)) → Takes s a most gs t → StandsAt s now → StepStands (terms_in s) t (Take a most out) reply now
take-stands l s t a most out gs reply now is takes st = subst (λ r. StepStands (terms_in s) t (Take a most out) r now) (sym is) (go (nat_lt (length gs) most) refl)
  where
    items : List HistItem
    items = items_of gs

    mid_stands : StandsAt takes.mid (after_gifts a items now)
    mid_stands = gives-stand l gs s takes.mid a now st takes.given

    lawful : (length items ≡ most) ⊎ (queue_at takes.mid a ≡ []) → IsLawful (terms_in s) now (Take a most out) (Items (with_items out items))
    lawful ends =
        let within : length items ≤ most = (let w : length gs ≤ most = takes.ends.within in omega (arith, items-length gs)) in
        let law = l.take s takes.mid a most items now st (gives-all gs s takes.mid a takes.given) within ends in
        lawful-done (terms_in s) now (Take a most out) (Items (with_items out items)) (refusal-take s.base now a most out) (items, refl, law.0)

    go : (b : Bool) → nat_lt (length gs) most ≡ b → StepStands (terms_in s) t (Take a most out) (Items (with_items out items)) now
    go true h =
        let less : length gs < most = grind (arith, nat_tests) in
        let end = takes.ends.idle less in
        let unmarked : (length items == most) ≡ false = (let e : length items ≡ length gs = items-length gs in grind (arith, nat_tests)) in (
          subst (λ m. StandsAt t m) (sym (gifts-after a items (if length items == most then last_mark a items else []) now ∙ ap (λ b. after (after_gifts a items now) (if b then last_mark a items else [])) unmarked ∙ after-none (after_gifts a items now))) (subst (λ x. StandsAt x (after_gifts a items now)) end.1 mid_stands),
          lawful (inr (idle-empty takes.mid a (after_gifts a items now) mid_stands (queue_at takes.mid a) refl end.0)),
        )
    go false h =
        let full : length gs ≡ most = (let w : length gs ≤ most = takes.ends.within in grind (arith, nat_tests)) in
        let marks : (length items == most) ≡ true = (let e : length items ≡ length gs = items-length gs in grind (arith, nat_tests)) in
        let turned = takes.ends.turned full in
        let mark = marked l gs s takes.mid a turned.0 now st takes.given turned.1 in (
          subst (λ m. StandsAt t m) (sym (gifts-after a items (if length items == most then last_mark a items else []) now ∙ ap (λ b. after (after_gifts a items now) (if b then last_mark a items else [])) marks ∙ ap (after (after_gifts a items now)) mark.mark_is ∙ after-one (after_gifts a items now) (Full a mark.key)))
              (l.turned takes.mid t a mark.key turned.0 (after_gifts a items now) mid_stands mark.key_is turned.2),
          lawful (inl (items-length gs ∙ full)),
        )

-- a Watch
refusal-watch : (base : ℕ) (now : HistMoment) (w most : ℕ) (out : Filled Want) → refusal base now (Watch w most out) ≡ None
unfolding refusal
refusal-watch base now w most out = refl

watch-stands : HasLaws → (s t : Shown) (w most : ℕ) (out : Filled Want) (reply : HistoryReply) (now : HistMoment) → reply ≡ Wants (with_items out (wants_for s.table w most)) → IsTelling s w most t → StandsAt s now → StepStands (terms_in s) t (Watch w most out) reply now
watch-stands l s t w most out reply now is telling st =
    let law = l.telling s t w most now st telling in
    subst (λ r. StepStands (terms_in s) t (Watch w most out) r now) (sym (is ∙ ap (λ ws. Wants (with_items out ws)) (sym law.0))) (
      law.1,
      lawful-done (terms_in s) now (Watch w most out) (Wants (with_items out (watched w most now))) (refusal-watch s.base now w most out) refl,
    )

refusal-remove : (base : ℕ) (now : HistMoment) (a : ℕ) (keys : Filled Key) → refusal base now (Remove a keys) ≡ None
unfolding refusal
refusal-remove base now a keys = refl

refusal-close : (base : ℕ) (now : HistMoment) (a : ℕ) → refusal base now (Close a) ≡ None
unfolding refusal
refusal-close base now a = refl

step-stands : HasLaws → (s t : Shown) (op : HistoryOp) (reply : HistoryReply) (now : HistMoment) → StepsTo s op reply t → StandsAt s now → StepStands (terms_in s) t op reply now
unfolding StepsTo
step-stands l s t (Add a subs) reply now step st = add-stands l (terms_in s) s t a subs reply now st (fault_of s.table a subs.items) refl step
step-stands l s t (Remove a keys) reply now (is, step) st = subst (λ r. StepStands (terms_in s) t (Remove a keys) r now) (sym is) (removes-stand l a keys.items s t now st step, lawful-done (terms_in s) now (Remove a keys) Done (refusal-remove s.base now a keys) refl)
step-stands l s t (Close a) reply now (is, n, step) st = subst (λ r. StepStands (terms_in s) t (Close a) r now) (sym is) (ends-stand l n s t a now st step, lawful-done (terms_in s) now (Close a) Done (refusal-close s.base now a) refl)
step-stands l s t (Put items) reply now step st = put-stands l s t items reply now st (is_full s items.items) (is_spent s items.items) refl refl step
step-stands l s t (Take a most out) reply now (gs, is, takes) st = take-stands l s t a most out gs reply now is takes st
step-stands l s t (Watch w most out) reply now (is, telling) st = watch-stands l s t w most out reply now is telling st

-- after a step the stripe stands for each legal log with the entry, and that log is legal
pub entered-step : HasLaws → (s t : Shown) (op : HistoryOp) (reply : HistoryReply) → StepsTo s op reply t → (log : List HistoryEntry) (who : ℕ) → Stands s log → IsLegal (terms_in s) log
    → Stands t (log ++ entry who op reply ∷ []) × IsLegal (terms_in s) (log ++ entry who op reply ∷ [])
unfolding moment_of Follows after_entry
entered-step l s t op reply step log who st lawful =
    let answered = step-stands l s t op reply (after_log history_acts [] log) step st in (
      subst (λ now. StandsAt t now) (sym (after_log-push history_acts [] log (entry who op reply))) answered.0,
      each_follows_push (Follows (terms_in s)) log (entry who op reply) lawful answered.1,
    )

-- the laws that qd_hist_stand proves
pub laws : HasLaws
laws = record {
  roomier = roomier-stands;
  subscribing = subscribing-stands;
  dropped = dropping-stands;
  closed = closed-stands;
  telling = telling-stands;
  put = put_stands;
  given = λ s t a slot i now st g. (given-at s t a slot i now st g, (given-lawful s t a slot i now st g).0, stands-given s t a slot i now st g);
  turned = stands-turned;
  take = take-lawful;
  full = full-told;
  spent = spent-told;
  faults = fault-told;
}

pub Stands-empty : (s : Shown) → StandsAt s [] → Stands s []
unfolding moment_of after_log
Stands-empty s st = st
