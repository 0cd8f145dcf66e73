-- What is true of the fields of a stripe stays true.
use Rattle.std.proofs.Common.{◌≡◌, ◌≢◌, ◌⊎◌, inl, inr, ℕ, zero, suc, ◌+◌, ◌<◌, ◌≤◌, Bool, true, false, ◌&&◌, not, if◌then◌else◌, nat_eq, nat_lt, Option, Some, None, List, [], ◌∷◌, length, replicate, slice_set, get_or-set_other, get_or-set_same, refl, ap, sym, ◌∙◌, arith, subst}
use Rattle.std.proofs.lemmas.Bool.Decides.{nat_tests}
use Rattle.std.proofs.lemmas.List.{length-set}
use Rattle.qd_scheme.specs.declared.key.Key.{Key}
use Rattle.qd_scheme.specs.declared.key.Record.{Record}
use Rattle.qd_pend.specs.Slots.{SlotList}
use Rattle.qd_pend.proofs.ListLaws.{equal}
use Rattle.qd_slots.specs.declared.holds.Hold.TheVariants.{Free, Subscribed}
use Rattle.qd_slots.specs.Holds.{is_subscribed, after_end}
use Rattle.qd_table.specs.Tables.{Table, key_at, slots_in, hold_for, is_wanted_slot, is_used, no_table}
use Rattle.qd_table.specs.Steps.{IsSame, IsSubscribed, IsEnded, TellsAll, IsNextAgent, is_cell}
use Rattle.qd_table.proofs.TableLaws.{key_at-within, below-any, below-none, some-none, true-false, apart-numbers}
use Rattle.qd_slots.proofs.NameLaws.{below-or-not}
use Rattle.qd_ticker.specs.Stripes.{last_at, queue_at, no_queue}
use Rattle.qd_ticker.specs.Steps.{with_queued, with_dropped, with_popped, with_room}
use Rattle.qd_ticker.specs.Sound.{IsSound}
use Rattle.qd_sub.proofs.SinceLaws.{and-left, and-right}

pub queue_at-set : (queues : List SlotList) (a : ℕ) (q : SlotList) → a < length queues → (b : ℕ) → queue_at (slice_set queues a q) b ≡ (if nat_eq a b then q else queue_at queues b)
queue_at-set queues a q h b =
    let go : (c : Bool) → nat_eq a b ≡ c → queue_at (slice_set queues a q) b ≡ (if c then q else queue_at queues b) =
    elim [
      | true ↦ λ e. ap (queue_at (slice_set queues a q)) (sym (equal a b e)) ∙ get_or-set_same queues a q no_queue h
      | false ↦ λ e. get_or-set_other queues a b q no_queue (λ x. apart-numbers a b e (sym x))
    ] in
    go (nat_eq a b) refl

pub last_at-set : (lasts : List (Option Record)) (slot : ℕ) (o : Option Record) → slot < length lasts → (i : ℕ) → last_at (slice_set lasts slot o) i ≡ (if nat_eq slot i then o else last_at lasts i)
last_at-set lasts slot o h i =
    let go : (c : Bool) → nat_eq slot i ≡ c → last_at (slice_set lasts slot o) i ≡ (if c then o else last_at lasts i) =
    elim [
      | true ↦ λ e. ap (last_at (slice_set lasts slot o)) (sym (equal slot i e)) ∙ get_or-set_same lasts slot o None h
      | false ↦ λ e. get_or-set_other lasts slot i o None (λ x. apart-numbers slot i e (sym x))
    ] in
    go (nat_eq slot i) refl

-- a queue's room, whatever waits in it
pub slots-queued : (b : Bool) (q : SlotList) (slot : ℕ) → (let x : SlotList = if b then with_queued q slot else q in x.slots ≡ q.slots)
slots-queued true q slot = refl
slots-queued false q slot = refl

slots-dropped : (b : Bool) (q : SlotList) (slot : ℕ) → (let x : SlotList = if b then with_dropped q slot else q in x.slots ≡ q.slots)
slots-dropped true q slot = refl
slots-dropped false q slot = refl

slots-popped : (b : Bool) (q : SlotList) → (let x : SlotList = if b then with_popped q else q in x.slots ≡ q.slots)
slots-popped true q = refl
slots-popped false q = refl

-- the table, with as many places and as much room
sound-as : (table : Table) (lasts lasts' : List (Option Record)) (queues queues' : List SlotList) → IsSound table lasts queues → length queues' ≡ length queues → length lasts' ≡ length lasts → ((a : ℕ) → (queue_at queues' a).slots ≡ (queue_at queues a).slots) → IsSound table lasts' queues'
sound-as table lasts lasts' queues queues' s ql ll slots = record {
  agents = ql ∙ s.agents;
  places = λ i k h. (let w : i < length lasts = s.places i k h in omega arith);
  room = λ a i h. (let w : i < (queue_at queues a).slots = s.room a i h in let e : (queue_at queues' a).slots ≡ (queue_at queues a).slots = slots a in omega arith);
}

pub sound-put : (table : Table) (lasts lasts' : List (Option Record)) (queues queues' : List SlotList) (slot : ℕ) → IsSound table lasts queues → length queues' ≡ length queues → length lasts' ≡ length lasts →
    ((a : ℕ) → queue_at queues' a ≡ (if is_subscribed (hold_for table a slot) then with_queued (queue_at queues a) slot else queue_at queues a)) → IsSound table lasts' queues'
sound-put table lasts lasts' queues queues' slot s ql ll qs =
    sound-as table lasts lasts' queues queues' s ql ll (λ a. ap (λ (q : SlotList). q.slots) (qs a) ∙ slots-queued (is_subscribed (hold_for table a slot)) (queue_at queues a) slot)

pub popped-at : (queues : List SlotList) (a : ℕ) → a < length queues → (b : ℕ) → queue_at (slice_set queues a (with_popped (queue_at queues a))) b ≡ (if nat_eq a b then with_popped (queue_at queues b) else queue_at queues b)
popped-at queues a h b =
    queue_at-set queues a (with_popped (queue_at queues a)) h b
    ∙ (let go : (c : Bool) → nat_eq a b ≡ c → (if c then with_popped (queue_at queues a) else queue_at queues b) ≡ (if c then with_popped (queue_at queues b) else queue_at queues b) =
    elim [ true ↦ λ e. ap (λ x. with_popped (queue_at queues x)) (equal a b e) | false ↦ λ e. refl ] in go (nat_eq a b) refl)

pub sound-popped : (table : Table) (lasts : List (Option Record)) (queues queues' : List SlotList) (a : ℕ) → IsSound table lasts queues → a < 128 → queues' ≡ slice_set queues a (with_popped (queue_at queues a)) → IsSound table lasts queues'
sound-popped table lasts queues queues' a s few e =
    sound-as table lasts lasts queues queues' s (ap length e ∙ length-set queues a (with_popped (queue_at queues a))) refl
    (λ b. ap (λ qs. (queue_at qs b).slots) e ∙ ap (λ (q : SlotList). q.slots) (popped-at queues a (omega (arith, s.agents)) b) ∙ slots-popped (nat_eq a b) (queue_at queues b))

pub dropped-at : (queues : List SlotList) (a slot : ℕ) → a < length queues → (b : ℕ) → queue_at (slice_set queues a (with_dropped (queue_at queues a) slot)) b ≡ (if nat_eq a b then with_dropped (queue_at queues b) slot else queue_at queues b)
dropped-at queues a slot h b =
    queue_at-set queues a (with_dropped (queue_at queues a) slot) h b
    ∙ (let go : (c : Bool) → nat_eq a b ≡ c → (if c then with_dropped (queue_at queues a) slot else queue_at queues b) ≡ (if c then with_dropped (queue_at queues b) slot else queue_at queues b) =
    elim [ true ↦ λ e. ap (λ x. with_dropped (queue_at queues x) slot) (equal a b e) | false ↦ λ e. refl ] in go (nat_eq a b) refl)

pub queued-at : (queues : List SlotList) (a slot : ℕ) → a < length queues → (b : ℕ) → queue_at (slice_set queues a (with_queued (queue_at queues a) slot)) b ≡ (if nat_eq a b then with_queued (queue_at queues b) slot else queue_at queues b)
queued-at queues a slot h b =
    queue_at-set queues a (with_queued (queue_at queues a) slot) h b
    ∙ (let go : (c : Bool) → nat_eq a b ≡ c → (if c then with_queued (queue_at queues a) slot else queue_at queues b) ≡ (if c then with_queued (queue_at queues b) slot else queue_at queues b) =
    elim [ true ↦ λ e. ap (λ x. with_queued (queue_at queues x) slot) (equal a b e) | false ↦ λ e. refl ] in go (nat_eq a b) refl)

-- a subscription
pub sound-added : (table table' : Table) (lasts : List (Option Record)) (queues queues' : List SlotList) (a slot limit : ℕ) (k : Key) → IsSound table lasts queues → IsSubscribed table a k limit slot table' → slots_in table ≤ length lasts → slots_in table ≤ (queue_at queues a).slots →
    length queues' ≡ length queues → ((b : ℕ) → (queue_at queues' b).slots ≡ (queue_at queues b).slots) → IsSound table' lasts queues'
sound-added table table' lasts queues queues' a slot limit k s added ls room ql slots = record {
  agents = ql ∙ s.agents;
  places = λ i j h. (let w : i < slots_in table' = key_at-within table' i j h in let e : slots_in table' ≡ slots_in table = added.slots in omega arith);
  room = λ b i h. room_then b i h (is_cell b i a slot) refl;
}
  where
    room_then : (b i : ℕ) → is_subscribed (hold_for table' b i) ≡ true → (c : Bool) → is_cell b i a slot ≡ c → i < (queue_at queues' b).slots
    room_then b i h true e =
        let same_agent : b ≡ a = equal b a (and-left (nat_eq b a) (nat_eq i slot) e) in
        let same_slot : i ≡ slot = equal i slot (and-right (nat_eq b a) (nat_eq i slot) e) in
        let w : slot < slots_in table' = added.within in
        let f : slots_in table' ≡ slots_in table = added.slots in
        let g : (queue_at queues' b).slots ≡ (queue_at queues b).slots = slots b in
        let q : (queue_at queues b).slots ≡ (queue_at queues a).slots = ap (λ x. (queue_at queues x).slots) same_agent in
        omega arith
    room_then b i h false e =
        let old : is_subscribed (hold_for table b i) ≡ true = sym (ap is_subscribed (added.holds b i) ∙ ap (λ c. is_subscribed (if c then Subscribed else hold_for table b i)) e) ∙ h in
        let w : i < (queue_at queues b).slots = s.room b i old in
        let g : (queue_at queues' b).slots ≡ (queue_at queues b).slots = slots b in
        omega arith

-- keys and subscriptions that were there before
sound-fewer : (table table' : Table) (lasts lasts' : List (Option Record)) (queues queues' : List SlotList) → IsSound table lasts queues → ((i : ℕ) (k : Key) → key_at table' i ≡ Some k → key_at table i ≡ Some k) → ((a i : ℕ) → is_subscribed (hold_for table' a i) ≡ true → is_subscribed (hold_for table a i) ≡ true) →
    length queues' ≡ length queues → length lasts ≤ length lasts' → ((a : ℕ) → (queue_at queues a).slots ≤ (queue_at queues' a).slots) → IsSound table' lasts' queues'
sound-fewer table table' lasts lasts' queues queues' s names holds ql ll slots = record {
  agents = ql ∙ s.agents;
  places = λ i k h. (let w : i < length lasts = s.places i k (names i k h) in omega arith);
  room = λ a i h. (let w : i < (queue_at queues a).slots = s.room a i (holds a i h) in let e : (queue_at queues a).slots ≤ (queue_at queues' a).slots = slots a in omega arith);
}

if-some : (b : Bool) (o : Option Key) (k : Key) → (let n : Option Key = None in (if b then n else o) ≡ Some k) → o ≡ Some k
if-some true o k h = absurd (some-none k (sym h))
if-some false o k h = h

pub sound-ended : (table table' : Table) (lasts lasts' : List (Option Record)) (queues queues' : List SlotList) (a slot : ℕ) → IsSound table lasts queues → IsEnded table a slot false table' → a < 128 → length lasts' ≡ length lasts → queues' ≡ slice_set queues a (with_dropped (queue_at queues a) slot) → IsSound table' lasts' queues'
sound-ended table table' lasts lasts' queues queues' a slot s ended few ll e =
    let in_range : a < length queues = omega (arith, s.agents) in
    sound-fewer table table' lasts lasts' queues queues' s (λ i k h. if-some (nat_eq i slot && not (is_used table' slot)) (key_at table i) k (sym (ended.names i) ∙ h)) (λ b i h. holds_then b i h (is_cell b i a slot) refl)
    (ap length e ∙ length-set queues a (with_dropped (queue_at queues a) slot)) (omega arith)
    (λ b. (let f : (queue_at queues' b).slots ≡ (queue_at queues b).slots = ap (λ qs. (queue_at qs b).slots) e ∙ ap (λ (q : SlotList). q.slots) (dropped-at queues a slot in_range b) ∙ slots-dropped (nat_eq a b) (queue_at queues b) slot in omega arith))
  where
    holds_then : (b i : ℕ) → is_subscribed (hold_for table' b i) ≡ true → (c : Bool) → is_cell b i a slot ≡ c → is_subscribed (hold_for table b i) ≡ true
    holds_then b i h true f = absurd (true-false (sym h ∙ ap is_subscribed (ended.holds b i) ∙ ap (λ c. is_subscribed (if c then after_end false else hold_for table b i)) f))
    holds_then b i h false f = sym (ap is_subscribed (ended.holds b i) ∙ ap (λ c. is_subscribed (if c then after_end false else hold_for table b i)) f) ∙ h

-- room
pub sound-same : (table table' : Table) (lasts : List (Option Record)) (queues : List SlotList) → IsSound table lasts queues → IsSame table table' → IsSound table' lasts queues
sound-same table table' lasts queues s same_table =
    sound-fewer table table' lasts lasts queues queues s (λ i k h. sym (same_table.names i) ∙ h) (λ a i h. ap is_subscribed (sym (same_table.holds a i)) ∙ h) refl (omega arith) (λ a. (let w : (queue_at queues a).slots ≤ (queue_at queues a).slots = omega arith in w))

pub sound-lasts : (table : Table) (lasts lasts' : List (Option Record)) (queues : List SlotList) → IsSound table lasts queues → length lasts ≤ length lasts' → IsSound table lasts' queues
sound-lasts table lasts lasts' queues s ll =
    sound-fewer table table lasts lasts' queues queues s (λ i k h. h) (λ a i h. h) refl ll (λ a. (let w : (queue_at queues a).slots ≤ (queue_at queues a).slots = omega arith in w))

pub room-at : (queues : List SlotList) (a slots : ℕ) → a < length queues → (b : ℕ) → queue_at (slice_set queues a (with_room (queue_at queues a) slots)) b ≡ (if nat_eq a b then with_room (queue_at queues b) slots else queue_at queues b)
room-at queues a slots h b =
    queue_at-set queues a (with_room (queue_at queues a) slots) h b
    ∙ (let go : (c : Bool) → nat_eq a b ≡ c → (if c then with_room (queue_at queues a) slots else queue_at queues b) ≡ (if c then with_room (queue_at queues b) slots else queue_at queues b) =
    elim [ true ↦ λ e. ap (λ x. with_room (queue_at queues x) slots) (equal a b e) | false ↦ λ e. refl ] in go (nat_eq a b) refl)

roomier : (b : Bool) (q : SlotList) (slots : ℕ) → (let x : SlotList = if b then with_room q slots else q in q.slots ≤ x.slots)
roomier true q slots = omega arith
roomier false q slots = omega arith

pub room-list : (b : Bool) (q : SlotList) (slots : ℕ) → (let x : SlotList = if b then with_room q slots else q in x.list ≡ q.list)
room-list true q slots = refl
room-list false q slots = refl

pub sound-room : (table : Table) (lasts lasts' : List (Option Record)) (queues queues' : List SlotList) (a slots : ℕ) → IsSound table lasts queues → a < 128 → length lasts ≤ length lasts' → queues' ≡ slice_set queues a (with_room (queue_at queues a) slots) → IsSound table lasts' queues'
sound-room table lasts lasts' queues queues' a slots s few ll e =
    let in_range : a < length queues = omega (arith, s.agents) in
    sound-fewer table table lasts lasts' queues queues' s (λ i k h. h) (λ b i h. h) (ap length e ∙ length-set queues a (with_room (queue_at queues a) slots)) ll
    (λ b. subst (λ (q : SlotList). (queue_at queues b).slots ≤ q.slots) (sym (ap (λ qs. queue_at qs b) e ∙ room-at queues a slots in_range b)) (roomier (nat_eq a b) (queue_at queues b) slots))

-- tellings
tells-names : (slots : List ℕ) (old new : Table) (w : ℕ) → TellsAll old w slots new → (i : ℕ) (k : Key) → key_at new i ≡ Some k → key_at old i ≡ Some k
unfolding TellsAll
tells-names [] old new w e i k h = ap (λ x. key_at x i) e ∙ h
tells-names (slot ∷ slots) old new w (mid, told, rest) i k h = if-some (nat_eq i slot && not (is_used mid slot)) (key_at old i) k (sym (told.names i) ∙ tells-names slots mid new w rest i k h)

tells-holds : (slots : List ℕ) (old new : Table) (w : ℕ) → TellsAll old w slots new → (a i : ℕ) → hold_for new a i ≡ hold_for old a i
unfolding TellsAll
tells-holds [] old new w e a i = ap (λ x. hold_for x a i) (sym e)
tells-holds (slot ∷ slots) old new w (mid, told, rest) a i = tells-holds slots mid new w rest a i ∙ told.holds a i

pub sound-told : (table table' : Table) (lasts : List (Option Record)) (queues : List SlotList) (w : ℕ) (slots : List ℕ) → IsSound table lasts queues → TellsAll table w slots table' → IsSound table' lasts queues
sound-told table table' lasts queues w slots s tells =
    sound-fewer table table' lasts lasts queues queues s (tells-names slots table table' w tells) (λ a i h. ap is_subscribed (sym (tells-holds slots table table' w tells a i)) ∙ h) refl (omega arith) (λ a. (let w : (queue_at queues a).slots ≤ (queue_at queues a).slots = omega arith in w))

-- at first
replicate-length : (n : ℕ) → length (replicate n no_queue) ≡ n
replicate-length zero = refl
replicate-length (suc n) = ap suc (replicate-length n)

no-key : (i : ℕ) → key_at no_table i ≡ None
unfolding key_at
no-key i = refl

no-hold : (a i : ℕ) → hold_for no_table a i ≡ Free
unfolding hold_for
no-hold a i = refl

pub sound-empty : (table : Table) (lasts : List (Option Record)) (queues : List SlotList) → table ≡ no_table → queues ≡ replicate 128 no_queue → IsSound table lasts queues
sound-empty table lasts queues e qs = record {
  agents = ap length qs ∙ replicate-length 128;
  places = λ i k h. absurd (some-none k (sym h ∙ ap (λ x. key_at x i) e ∙ no-key i));
  room = λ a i h. absurd (true-false (sym h ∙ ap (λ x. is_subscribed (hold_for x a i)) e ∙ ap is_subscribed (no-hold a i)));
}

no-lt : (a b : ℕ) → b ≤ a → nat_lt a b ≡ false
no-lt a b h = grind (arith, nat_tests)

yes-lt : (a b : ℕ) → a < b → nat_lt a b ≡ true
yes-lt a b h = grind (arith, nat_tests)

-- a queue of each agent of a slot
pub queue-found : (t : Table) (slot from : ℕ) → (0 < from → (a : ℕ) × (a < 128) × (is_subscribed (hold_for t a slot) ≡ true)) → ((c : ℕ) → from ≤ c → is_subscribed (hold_for t c slot) ≡ false) → nat_lt 0 from ≡ is_wanted_slot t slot
unfolding is_wanted_slot
queue-found t slot zero some none = sym (below-none (λ a. is_subscribed (hold_for t a slot)) 128 (λ a. none a (omega arith)))
queue-found t slot (suc n) some none = let found = some (omega arith) in yes-lt 0 (suc n) (omega arith) ∙ sym (below-any (λ a. is_subscribed (hold_for t a slot)) 128 found.0 found.1 found.2)

abbrev pub QueuedBelow : Table → ℕ → ℕ → List SlotList → List SlotList → Type 0
QueuedBelow t slot from queues queues' = (a : ℕ) → queue_at queues' a ≡ (if nat_lt a from && is_subscribed (hold_for t a slot) then with_queued (queue_at queues a) slot else queue_at queues a)

lt-from : (a b : ℕ) → nat_lt a b ≡ true → a < b
lt-from a b h = grind (arith, nat_tests)

le-from : (a b : ℕ) → nat_lt a b ≡ false → b ≤ a
le-from a b h = grind (arith, nat_tests)

apart-from : (a b : ℕ) → nat_eq a b ≡ false → (a < b) ⊎ (b < a)
apart-from a b h = elim (below-or-not a b) [
  | inl l ↦ inl l
  | inr m ↦ inr (let n : a ≢ b = apart-numbers a b h in omega arith)
]

pub queue-none : (t : Table) (slot : ℕ) (queues : List SlotList) → QueuedBelow t slot 0 queues queues
queue-none t slot queues a = ap (λ b. if b && is_subscribed (hold_for t a slot) then with_queued (queue_at queues a) slot else queue_at queues a) (sym (no-lt a 0 (omega arith)))

pub queue-next : (t : Table) (slot from agent : ℕ) (queues mid next : List SlotList) → IsNextAgent t slot from agent → agent < length mid → next ≡ slice_set mid agent (with_queued (queue_at mid agent) slot) → QueuedBelow t slot from queues mid → QueuedBelow t slot (agent + 1) queues next
queue-next t slot from agent queues mid next is_next h e was a =
    ap (λ qs. queue_at qs a) e ∙ queued-at mid agent slot h a ∙ ap (λ q. if nat_eq agent a then with_queued q slot else q) (was a) ∙ go (nat_eq agent a) refl
  where
    before : SlotList
    before = queue_at queues a

    sub : Bool
    sub = is_subscribed (hold_for t a slot)

    other : nat_eq agent a ≡ false → (c d : Bool) → nat_lt a from ≡ c → sub ≡ d → (if c && d then with_queued before slot else before) ≡ (if nat_lt a (agent + 1) && d then with_queued before slot else before)
    other f true d g i = ap (λ b. if b && d then with_queued before slot else before) (sym (yes-lt a (agent + 1) (let l : a < from = lt-from a from g in let m : from ≤ agent = is_next.after in omega arith)))
    other f false false g i = elim (nat_lt a (agent + 1)) as (λ b. before ≡ (if b && false then with_queued before slot else before)) [ true ↦ refl | false ↦ refl ]
    other f false true g i = elim (apart-from agent a f) [
      | inl l ↦ ap (λ b. if b && true then with_queued before slot else before) (sym (no-lt a (agent + 1) (omega arith)))
      | inr m ↦ absurd (true-false (sym i ∙ is_next.none_before a (le-from a from g) m))
    ]

    go : (b : Bool) → nat_eq agent a ≡ b → (if b then with_queued (if nat_lt a from && sub then with_queued before slot else before) slot else (if nat_lt a from && sub then with_queued before slot else before)) ≡ (if nat_lt a (agent + 1) && sub then with_queued before slot else before)
    go false f = other f (nat_lt a from) sub refl refl
    go true f =
        let here : agent ≡ a = equal agent a f in
        let now : nat_lt a (agent + 1) ≡ true = yes-lt a (agent + 1) (omega arith) in
        let fresh : nat_lt a from ≡ false = no-lt a from (let m : from ≤ agent = is_next.after in omega arith) in
        let subscribed : sub ≡ true = ap (λ x. is_subscribed (hold_for t x slot)) (sym here) ∙ is_next.subscribed in
        ap (λ b. with_queued (if b && sub then with_queued before slot else before) slot) fresh
        ∙ sym (ap (λ b. if b && sub then with_queued before slot else before) now ∙ ap (λ b. if true && b then with_queued before slot else before) subscribed)

pub queue-all : (t : Table) (slot from : ℕ) (queues next : List SlotList) → ((c : ℕ) → from ≤ c → is_subscribed (hold_for t c slot) ≡ false) → QueuedBelow t slot from queues next → (a : ℕ) → queue_at next a ≡ (if is_subscribed (hold_for t a slot) then with_queued (queue_at queues a) slot else queue_at queues a)
queue-all t slot from queues next none was a = was a ∙ go (nat_lt a from) refl
  where
    go : (b : Bool) → nat_lt a from ≡ b → (if b && is_subscribed (hold_for t a slot) then with_queued (queue_at queues a) slot else queue_at queues a) ≡ (if is_subscribed (hold_for t a slot) then with_queued (queue_at queues a) slot else queue_at queues a)
    go true e = refl
    go false e = ap (λ b. if b then with_queued (queue_at queues a) slot else queue_at queues a) (sym (none a (le-from a from e)))

-- the room of a queue where some slots were put
pub slots-below : (t : Table) (slot from : ℕ) (queues next : List SlotList) → QueuedBelow t slot from queues next → (a : ℕ) → (queue_at next a).slots ≡ (queue_at queues a).slots
slots-below t slot from queues next was a = ap (λ (q : SlotList). q.slots) (was a) ∙ slots-queued (nat_lt a from && is_subscribed (hold_for t a slot)) (queue_at queues a) slot

-- a subscription that is put in a queue, or not
pub sound-subscribed : (table table' : Table) (lasts : List (Option Record)) (queues queues' : List SlotList) (a n slot limit : ℕ) (k : Key) → IsSound table lasts queues → IsSubscribed table a k limit slot table' → slots_in table ≤ length lasts → slots_in table ≤ (queue_at queues a).slots → n ≡ a → a < 128 →
    queues' ≡ slice_set queues n (with_queued (queue_at queues n) slot) → IsSound table' lasts queues'
sound-subscribed table table' lasts queues queues' a n slot limit k s added ls room e few is =
    let in_range : n < length queues = omega (arith, s.agents) in
    sound-added table table' lasts queues queues' a slot limit k s added ls room (ap length is ∙ length-set queues n (with_queued (queue_at queues n) slot))
    (λ b. ap (λ qs. (queue_at qs b).slots) is ∙ ap (λ (q : SlotList). q.slots) (queued-at queues n slot in_range b) ∙ slots-queued (nat_eq n b) (queue_at queues b) slot)
