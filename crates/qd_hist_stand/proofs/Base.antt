-- What a stripe that stands for a moment says of it, and the order of what is due after an act about the key of a slot.
use Rattle.std.proofs.Common.{◌≡◌, inl, inr, ℕ, Bool, true, false, ◌&&◌, not, ◌==◌, if◌then◌else◌, nat_eq, Option, Some, None, is_some, List, ◌∷◌, ap, sym, ◌∙◌, subst}
use Rattle.std.specs.List.{filter}
use Rattle.qd_scheme.specs.declared.key.Key.{Key}
use Rattle.qd_scheme.specs.Keys.{key_eq}
use Rattle.qd_flags.specs.declared.commits.Floor.{Floor}
use Rattle.qd_gate.specs.declared.machine.Terms.{Terms}
use Rattle.qd_pend.specs.Slots.{has}
use Rattle.qd_sub.specs.Acts.{newest_key}
use Rattle.qd_sub.specs.Subscriptions.{limit_of}
use Rattle.qd_sub.proofs.SinceLaws.{grown}
use Rattle.qd_slots.specs.Holds.{is_subscribed}
use Rattle.qd_slots.specs.Views.{queued}
use Rattle.qd_table.specs.Tables.{Table, key_at, keys_at, slot_for, hold_for, limit_for}
use Rattle.qd_table.specs.Steps.{IsSlotFor}
use Rattle.qd_table.specs.Standing as table
use Rattle.qd_table.proofs.TableLaws.{true-false, some-same, key_at-found, unused, unused-limit, unused-hold}
use Rattle.qd_table.proofs.KeyLists.{IsOwn, keys-queued}
use Rattle.qd_table.proofs.StandLaws.{limit_by-at, limit_by-none}
use Rattle.qd_table.proofs.StandSteps.{only-own}
use Rattle.qd_hist_key.specs.Keeping as keeping
use Rattle.qd_hist_rules.specs.declared.floor.AgentFloor.{AgentFloor}
use Rattle.qd_hist_rules.specs.Moments.{HistAct, HistMoment, fills}
use Rattle.qd_hist_rules.specs.Source.{source, last}
use Rattle.qd_hist_rules.specs.Agent.{agent_floor, meet}
use Rattle.qd_hist_rules.specs.Standing.{is_ended, behind, is_due, due_keys}
use Rattle.qd_hist_rules.specs.Lawful.{Lawful}
use Rattle.qd_hist_rules.specs.Legal.{terms_of}
use Rattle.qd_hist_feed.specs.Feeding.{Feeding, is_done}
use Rattle.qd_hist_feed.specs.Stands as feed
use Rattle.qd_hist_feed.proofs.Due.{due_is}
use Rattle.qd_hist_stand.specs.Stripes.{Shown, StandsAt, no_keeps, IsFed, source_of, state_at, feed_at, queue_at, floor_in, floor_at, due_at, terms_in}
use Rattle.qd_hist_stand.proofs.Floors.{floor_meets}
use Rattle.qd_table.proofs.SlotKeys.{IsApart}
use Rattle.qd_hist_stand.proofs.Queues.{due_keys-about}

-- different slots have different keys
pub keys-apart : (s : Shown) (now : HistMoment) → StandsAt s now → IsApart (key_at s.table)
keys-apart s now st i j k e f = some-same i j (sym (st.table.sound.found i k e) ∙ st.table.sound.found j k f)

-- the limit of a pair
pub limit-at : (s : Shown) (now : HistMoment) → StandsAt s now → (a slot : ℕ) (k : Key) → key_at s.table slot ≡ Some k → limit_of a k now ≡ limit_for s.table a slot
limit-at s now st a slot k e = st.table.limits a k ∙ limit_by-at s.table a k slot (st.table.sound.found slot k e)

pub limit-absent : (s : Shown) (now : HistMoment) → StandsAt s now → (a : ℕ) (k : Key) → slot_for s.table k ≡ None → limit_of a k now ≡ None
limit-absent s now st a k e = st.table.limits a k ∙ limit_by-none s.table a k e

pub limit-vacant : (s : Shown) (now : HistMoment) → StandsAt s now → (a slot : ℕ) → key_at s.table slot ≡ None → limit_for s.table a slot ≡ None
limit-vacant s now st a slot e = unused-limit s.table a slot st.table.sound (unused s.table slot st.table.sound e)

pub hold-vacant : (s : Shown) (now : HistMoment) → StandsAt s now → (a slot : ℕ) → key_at s.table slot ≡ None → is_subscribed (hold_for s.table a slot) ≡ false
hold-vacant s now st a slot e = ap is_subscribed (unused-hold s.table a slot st.table.sound (unused s.table slot st.table.sound e))

-- the state and the feeds of a slot's key
pub state-of : (s : Shown) (now : HistMoment) → StandsAt s now → (slot : ℕ) (k : Key) → key_at s.table slot ≡ Some k → keeping.StandsFor (state_at s slot) (source k now)
state-of s now st slot k e = subst (λ (o : Option Key). keeping.StandsFor (state_at s slot) (source_of o now)) e (st.states slot)

pub feed-of : (s : Shown) (now : HistMoment) → StandsAt s now → (a slot : ℕ) (k : Key) → key_at s.table slot ≡ Some k → feed.StandsFor (terms_in s) a k (feed_at s a slot) now
feed-of s now st a slot k e = subst (λ (o : Option Key). IsFed (terms_in s) a o (feed_at s a slot) now) e (st.feeds a slot)

-- the floor of a pair
pub floor-is : (s : Shown) (now : HistMoment) → StandsAt s now → (a slot : ℕ) (k : Key) → key_at s.table slot ≡ Some k → floor_at s a slot ≡ agent_floor s.base a k now
floor-is s now st a slot k e = floor_meets s.base a k now (state_at s slot) (limit_for s.table a slot) (limit-at s now st a slot k e) (state-of s now st slot k e)

-- a pair that does not fit is not due
pub not-fit : (t : Terms) (a : ℕ) (k : Key) (m : HistMoment) → agent_floor t.base a k m ≡ None → is_due t a k m ≡ false
not-fit t a k m h = ap (λ (o : Option AgentFloor). is_some o && not (is_ended t a k m && behind t a k m == 0)) h

pub unlimited : (t : Terms) (a : ℕ) (k : Key) (m : HistMoment) → limit_of a k m ≡ None → is_due t a k m ≡ false
unlimited t a k m h = not-fit t a k m (ap (λ (o : Option ℕ). meet o (last t.base k m)) h)

-- the slot waits just while the pair fits and there is something to give
abbrev pub waits : Option AgentFloor → Feeding → Bool
waits floor s = is_some floor && not (is_done s)

-- a slot waits just where its pair is due
pub waits_due : (t : Terms) (a : ℕ) (k : Key) (s : Feeding) (floor : Option AgentFloor) (m : HistMoment) → Lawful t m → floor ≡ agent_floor t.base a k m → feed.StandsFor t a k s m → is_due t a k m ≡ waits floor s
waits_due t a k s None m w f st = not-fit t a k m (sym f)
waits_due t a k s (Some g) m w f st = due_is t a k s g m w (sym f) st

-- where a table, a state and a feed stand for a moment, the slot waits just where the pair is due
pub due-of : (s : Shown) (now : HistMoment) (a slot : ℕ) (k : Key) → table.StandsFor s.table no_keeps now → Lawful (terms_in s) now → key_at s.table slot ≡ Some k
    → keeping.StandsFor (state_at s slot) (source k now) → feed.StandsFor (terms_in s) a k (feed_at s a slot) now → due_at s a slot ≡ is_due (terms_in s) a k now
due-of s now a slot k tab lawful e state fed =
    sym (waits_due (terms_in s) a k (feed_at s a slot) (floor_at s a slot) now lawful
    (floor_meets s.base a k now (state_at s slot) (limit_for s.table a slot) (tab.limits a k ∙ limit_by-at s.table a k slot (tab.sound.found slot k e)) state) fed)

-- whether a pair is due
pub due-is : (s : Shown) (now : HistMoment) → StandsAt s now → (a slot : ℕ) (k : Key) → key_at s.table slot ≡ Some k → due_at s a slot ≡ is_due (terms_in s) a k now
due-is s now st a slot k e = due-of s now a slot k st.table st.lawful e (state-of s now st slot k e) (feed-of s now st a slot k e)

-- what the same limit, floor and feed leave
pub floor-alike : (s t : Shown) (a slot : ℕ) → limit_for t.table a slot ≡ limit_for s.table a slot → (state_at t slot).now.floor ≡ (state_at s slot).now.floor → floor_at t a slot ≡ floor_at s a slot
floor-alike s t a slot l f = ap (λ (o : Option ℕ). floor_in o (state_at t slot).now.floor) l ∙ ap (λ (o : Option Floor). floor_in (limit_for s.table a slot) o) f

pub due-alike : (s t : Shown) (a slot : ℕ) → floor_at t a slot ≡ floor_at s a slot → feed_at t a slot ≡ feed_at s a slot → due_at t a slot ≡ due_at s a slot
due-alike s t a slot f g =
    ap (λ (o : Option AgentFloor). is_some o && not (is_done (feed_at t a slot))) f ∙ ap (λ (x : Feeding). is_some (floor_at s a slot) && not (is_done x)) g

pub due-unlimited : (s : Shown) (a slot : ℕ) → limit_for s.table a slot ≡ None → due_at s a slot ≡ false
due-unlimited s a slot h = ap (λ (o : Option ℕ). is_some (floor_in o (state_at s slot).now.floor) && not (is_done (feed_at s a slot))) h

pub due-vacant : (s : Shown) (now : HistMoment) → StandsAt s now → (a slot : ℕ) → key_at s.table slot ≡ None → due_at s a slot ≡ false
due-vacant s now st a slot e = due-unlimited s a slot (limit-vacant s now st a slot e)

-- a slot that is due belongs to its key
pub queue-own : (s : Shown) (now : HistMoment) → StandsAt s now → (a slot : ℕ) (k : Key) → IsSlotFor s.table k slot → IsOwn s.table k slot (queue_at s a)
queue-own s now st a slot k own = (only-own s.table k slot st.table.sound own, due)
  where
    due : has (queue_at s a) slot ≡ true → key_at s.table slot ≡ Some k
    due h = elim own [
      | inl o ↦ key_at-found s.table k slot o
      | inr o ↦ absurd (true-false (sym h ∙ st.due a slot ∙ due-vacant s now st a slot o.1))
    ]

-- the due keys after an act about the key of a slot that is no mark; the slot may get its key by it, or lose it
pub order-about : (s : Shown) (now : HistMoment) → StandsAt s now → (new : Table) (a slot : ℕ) (k : Key) (act : HistAct) (waits : Bool) → IsSlotFor s.table k slot
    → newest_key (act ∷ now) ≡ Some k → ((y : Key) → fills a y act ≡ false) → ((i : ℕ) → nat_eq i slot ≡ false → key_at new i ≡ key_at s.table i) → (waits ≡ true → key_at new slot ≡ Some k)
    → is_due (terms_in s) a k (act ∷ now) ≡ waits → due_keys (terms_in s) a (act ∷ now) ≡ keys_at new (queued (queue_at s a) slot waits)
order-about s now st new a slot k act waits own q n elsewhere here d =
    due_keys-about (terms_in s) a act now k q n
    ∙ ap (λ (b : Bool). if b then grown key_eq (due_keys (terms_in s) a now) k else filter (λ j. not (key_eq k j)) (due_keys (terms_in s) a now)) d
    ∙ ap (λ (ks : List Key). if waits then grown key_eq ks k else filter (λ j. not (key_eq k j)) ks) (st.order a)
    ∙ sym (keys-queued new s.table k slot (queue_at s a) waits (queue-own s now st a slot k own) elsewhere here)

-- the terms are those of before
pub terms-same : (s t : Shown) → t.hcap ≡ s.hcap → t.base ≡ s.base → terms_in t ≡ terms_in s
terms-same s t h b = ap (λ (n : ℕ). terms_of n t.base) h ∙ ap (λ (n : ℕ). terms_of s.hcap n) b
