-- What an event of a wanted key leaves of its slot: of its floors, feeds and queues, and of what is owed.
use Rattle.std.proofs.Common.{◌≡◌, ◌⊎◌, inl, inr, ℕ, suc, ◌+◌, ◌≤◌, Bool, true, false, ◌&&◌, nat_eq, List, ◌∷◌, length, map, reverse, refl, sym, ◌∙◌, ap, arith, subst, Option, Some, None}
use Rattle.std.specs.Prelude.{if◌then◌else◌, is_some, sum}
use Rattle.std.proofs.lemmas.Bool.{cases_Bool}
use Rattle.qd_scheme.specs.declared.key.Event.{Event}
use Rattle.qd_flags.specs.declared.commits.Ingest.{Ingest}
use Rattle.qd_flags.specs.declared.commits.Ingest.TheVariants.{Ignored, Held, Update, Snapshot}
use Rattle.qd_flags.specs.Shown.{events_of}
use Rattle.qd_flags.specs.Following.{answer_to}
use Rattle.qd_gate.specs.declared.machine.Terms.{Terms}
use Rattle.qd_pend.proofs.ListLaws.{same}
use Rattle.qd_sub.specs.Acts.{Came}
use Rattle.qd_sub.specs.Subscriptions.{wanted}
use Rattle.qd_slots.specs.Holds.{is_subscribed}
use Rattle.qd_slots.specs.Views.{queued}
use Rattle.qd_table.specs.Tables.{Table, key_at, hold_for, limit_for, order_of}
use Rattle.qd_table.proofs.TableLaws.{true-false, key_at-found, limit_for-some}
use Rattle.qd_table.proofs.StandLaws.{wanted-table}
use Rattle.qd_hist_key.specs.Kept.{Kept}
use Rattle.qd_hist_key.specs.Keeping as keeping
use Rattle.qd_hist_rules.specs.declared.floor.AgentFloor.{AgentFloor}
use Rattle.qd_hist_rules.specs.Moments.{HistMoment, events}
use Rattle.qd_hist_rules.specs.Source.{source, count}
use Rattle.qd_hist_rules.specs.Agent.{agent_floor}
use Rattle.qd_hist_rules.specs.Standing.{is_due}
use Rattle.qd_hist_rules.proofs.ActFacts.{limit_came, source_came}
use Rattle.qd_hist_feed.specs.Feeding.{Feeding, nothing}
use Rattle.qd_hist_feed.specs.Stands as feed
use Rattle.qd_hist_feed.proofs.Sweeping.{waiting_stays}
use Rattle.qd_hist_stand.specs.Stripes.{Shown, StandsAt, AllOf, state_at, feed_at, queue_at, owed_at, owed_of, floor_in, floor_at, due_at, terms_in, no_keeps}
use Rattle.qd_hist_stand.specs.Steps.{Part, part_at, part_after, makes_commit, IsPutAt}
use Rattle.qd_hist_stand.proofs.Queues.{queued-same}
use Rattle.qd_hist_stand.proofs.Base.{limit-at, state-of, feed-of, floor-is, floor-alike, due-alike, due-unlimited, waits, waits_due}
use Rattle.qd_hist_stand.proofs.Floors.{floor_meets}
use Rattle.qd_hist_stand.proofs.Sums.{sum-agree, sum-with, owed_in, pair-owed}
use Rattle.qd_hist_stand.proofs.PutCommits.{count_by, update_batch, floor_update, floor_quiet}
use Rattle.qd_hist_stand.proofs.PutFeeds.{feed_then}
use Rattle.qd_hist_stand.proofs.Moves.{IsMoved}
use Rattle.qd_hist_stand.proofs.PutOwed.{owed_tells}
use Rattle.qd_hist_stand.proofs.PutParts.{begins_anew, queue_then, owed_then, owed_within, labels_then, commit_labelled, turned_labelled}

pick : {A : Type 0} (b c : Bool) (x y : A) → b ≡ true → c ≡ true → (if b && c then x else y) ≡ x
pick true true x y h g = refl
pick true false x y h g = cc g
pick false c x y h g = cc h

pass_left : {A : Type 0} (b c : Bool) (x y : A) → b ≡ false → (if b && c then x else y) ≡ y
pass_left true c x y h = cc h
pass_left false c x y h = refl

pass_right : {A : Type 0} (b c : Bool) (x y : A) → c ≡ false → (if b && c then x else y) ≡ y
pass_right true true x y h = cc h
pass_right true false x y h = refl
pass_right false c x y h = refl

choose_true : {A : Type 0} (b : Bool) (x y : A) → b ≡ true → (if b then x else y) ≡ x
choose_true true x y h = refl
choose_true false x y h = cc h

choose_false : {A : Type 0} (b : Bool) (x y : A) → b ≡ false → (if b then x else y) ≡ y
choose_false true x y h = cc h
choose_false false x y h = refl

-- the floor of an agent after the event
abbrev pub floor_then : Shown → Shown → ℕ → ℕ → Option AgentFloor
floor_then s t slot a = floor_in (limit_for s.table a slot) (state_at t slot).now.floor

-- and its part
abbrev pub part_then : Shown → Shown → ℕ → Ingest → ℕ → Part
part_then s t slot answer a = part_after s.hcap answer (floor_then s t slot a) t.count (state_at t slot).now.batch slot (part_at s a slot)

-- what is known of a put of a wanted key before its consequences
pub record Putting (s t : Shown) (e : Event) (slot : ℕ) (answer : Ingest) (now : HistMoment) : Type 0 where
  pub st : StandsAt s now
  pub put : IsPutAt s e slot answer t
  pub here : key_at s.table slot ≡ Some e.key
  pub wanted_is : wanted e.key now ≡ true
  pub came : source e.key (Came e.key e ∷ now) ≡ e ∷ source e.key now
  pub state : keeping.StandsFor (state_at t slot) (source e.key (Came e.key e ∷ now))
  pub answer_is : answer ≡ answer_to (source e.key (Came e.key e ∷ now))
  pub count_is : t.count ≡ count s.base (Came e.key e ∷ now)
  pub floor_is : (a : ℕ) → floor_then s t slot a ≡ agent_floor s.base a e.key (Came e.key e ∷ now)

pub putting : (s t : Shown) (e : Event) (slot : ℕ) (answer : Ingest) (now : HistMoment) → StandsAt s now → IsPutAt s e slot answer t → Putting s t e slot answer now
putting s t e slot answer now st put =
    let here : key_at s.table slot ≡ Some e.key = key_at-found s.table e.key slot put.found in
    let w : wanted e.key now ≡ true = wanted-table s.table no_keeps now st.table e.key slot here ∙ put.wanted in
    let came : source e.key (Came e.key e ∷ now) ≡ e ∷ source e.key now = source_came e.key e now w in
    let old = state-of s now st slot e.key here in
    let state : keeping.StandsFor (state_at t slot) (source e.key (Came e.key e ∷ now)) = subst (λ (es : List Event). keeping.StandsFor (state_at t slot) es) (sym came) (put.stands (source e.key now) old) in
    let answered : answer ≡ answer_to (source e.key (Came e.key e ∷ now)) = put.answered (source e.key now) old ∙ ap (λ (es : List Event). answer_to es) (sym came) in
    record {
      st = st;
      put = put;
      here = here;
      wanted_is = w;
      came = came;
      state = state;
      answer_is = answered;
      count_is =
          put.count ∙ ap (λ (x : Ingest). if makes_commit x then suc s.count else s.count) answered
          ∙ ap (λ (n : ℕ). if makes_commit (answer_to (source e.key (Came e.key e ∷ now))) then suc n else n) st.count_is ∙ sym (count_by s.base e.key e now w);
      floor_is = λ a. floor_meets s.base a e.key (Came e.key e ∷ now) (state_at t slot) (limit_for s.table a slot) (limit_came a e.key e.key e now ∙ limit-at s now st a slot e.key here) state;
    }

-- the floor stays where no snapshot is made
floor_before : {s t : Shown} {e : Event} {slot : ℕ} {answer : Ingest} {now : HistMoment} → Putting s t e slot answer now → (a : ℕ) → begins_anew answer ≡ false
    → floor_then s t slot a ≡ floor_at s a slot
floor_before {s} {t} {e} {slot} {answer} {now} p a h = p.floor_is a ∙ stays answer p.answer_is h ∙ sym (floor-is s now p.st a slot e.key p.here)
  where
    stays : (x : Ingest) → x ≡ answer_to (source e.key (Came e.key e ∷ now)) → begins_anew x ≡ false → agent_floor s.base a e.key (Came e.key e ∷ now) ≡ agent_floor s.base a e.key now
    stays Ignored q h = floor_quiet s.base a e.key e now p.wanted_is (ap makes_commit (sym q))
    stays Held q h = floor_quiet s.base a e.key e now p.wanted_is (ap makes_commit (sym q))
    stays Update q h = floor_update s.base a e.key e now p.wanted_is (sym q)
    stays Snapshot q h = cc h

-- the feeds
feed_here : {s t : Shown} {e : Event} {slot : ℕ} {answer : Ingest} {now : HistMoment} → Putting s t e slot answer now → (a : ℕ) → is_subscribed (hold_for s.table a slot) ≡ true → feed_at t a slot ≡ (part_then s t slot answer a).feed
feed_here {s} {t} {e} {slot} {answer} {now} p a h = p.put.parts.feeds a slot ∙ pick (nat_eq slot slot) (is_subscribed (hold_for s.table a slot)) (part_then s t slot answer a).feed (feed_at s a slot) (same slot) h

pub feed_there : {s t : Shown} {e : Event} {slot : ℕ} {answer : Ingest} {now : HistMoment} → Putting s t e slot answer now → (a i : ℕ) → nat_eq i slot ≡ false → feed_at t a i ≡ feed_at s a i
feed_there {s} {t} {e} {slot} {answer} {now} p a i h = p.put.parts.feeds a i ∙ pass_left (nat_eq i slot) (is_subscribed (hold_for s.table a slot)) (part_then s t slot answer a).feed (feed_at s a i) h

pub feed_unsub : {s t : Shown} {e : Event} {slot : ℕ} {answer : Ingest} {now : HistMoment} → Putting s t e slot answer now → (a i : ℕ) → is_subscribed (hold_for s.table a slot) ≡ false → feed_at t a i ≡ feed_at s a i
feed_unsub {s} {t} {e} {slot} {answer} {now} p a i h = p.put.parts.feeds a i ∙ pass_right (nat_eq i slot) (is_subscribed (hold_for s.table a slot)) (part_then s t slot answer a).feed (feed_at s a i) h

pub feed_own : {s t : Shown} {e : Event} {slot : ℕ} {answer : Ingest} {now : HistMoment} → Putting s t e slot answer now → (a : ℕ) → feed.StandsFor (terms_in s) a e.key (feed_at t a slot) (Came e.key e ∷ now)
feed_own {s} {t} {e} {slot} {answer} {now} p a = go (cases_Bool (is_subscribed (hold_for s.table a slot)))
  where
    terms : Terms
    terms = terms_in s

    old : feed.StandsFor terms a e.key (feed_at s a slot) now
    old = feed-of s now p.st a slot e.key p.here

    go : (is_subscribed (hold_for s.table a slot) ≡ true) ⊎ (is_subscribed (hold_for s.table a slot) ≡ false) → feed.StandsFor terms a e.key (feed_at t a slot) (Came e.key e ∷ now)
    go (inl h) =
        subst (λ (f : Feeding). feed.StandsFor terms a e.key f (Came e.key e ∷ now)) (sym (feed_here p a h))
        (feed_then terms a e.key e now slot (part_at s a slot) answer (floor_then s t slot a) t.count (state_at t slot).now.batch p.wanted_is p.st.lawful p.answer_is
        (p.floor_is a) p.count_is p.state.now.batch_is (owed_tells s now a slot e p.st p.here) old)
    go (inr h) =
        let none : feed_at s a slot ≡ nothing = p.st.unfed a slot h in
        let waiting : feed.StandsFor terms a e.key nothing now = subst (λ (f : Feeding). feed.StandsFor terms a e.key f now) none old in
        subst (λ (f : Feeding). feed.StandsFor terms a e.key f (Came e.key e ∷ now)) (sym (feed_unsub p a slot h ∙ none))
        (refl, waiting_stays terms a e.key (Came e.key e) now refl waiting.1)

-- the queues
pub queue_own : {s t : Shown} {e : Event} {slot : ℕ} {answer : Ingest} {now : HistMoment} → Putting s t e slot answer now → (a : ℕ) → queue_at t a ≡ queued (queue_at s a) slot (due_at t a slot)
queue_own {s} {t} {e} {slot} {answer} {now} p a = go (cases_Bool (is_subscribed (hold_for s.table a slot)))
  where
    floors : floor_at t a slot ≡ floor_then s t slot a
    floors = ap (λ (x : Table). floor_in (limit_for x a slot) (state_at t slot).now.floor) p.put.table

    due_then : (f : Feeding) → feed_at t a slot ≡ f → due_at t a slot ≡ waits (floor_then s t slot a) f
    due_then f h = ap (λ (o : Option AgentFloor). waits o (feed_at t a slot)) floors ∙ ap (λ (x : Feeding). waits (floor_then s t slot a) x) h

    none_limit : is_subscribed (hold_for s.table a slot) ≡ false → (o : Option ℕ) → limit_for s.table a slot ≡ o → limit_for s.table a slot ≡ None
    none_limit h None q = q
    none_limit h (Some l) q = absurd (true-false (sym (ap is_some q) ∙ limit_for-some s.table a slot ∙ h))

    go : (is_subscribed (hold_for s.table a slot) ≡ true) ⊎ (is_subscribed (hold_for s.table a slot) ≡ false) → queue_at t a ≡ queued (queue_at s a) slot (due_at t a slot)
    go (inl h) =
        p.put.parts.queues a ∙ choose_true (is_subscribed (hold_for s.table a slot)) (part_then s t slot answer a).queue (queue_at s a) h
        ∙ queue_then s.hcap answer (floor_then s t slot a) (floor_at s a slot) t.count (state_at t slot).now.batch slot (part_at s a slot) (floor_before p a) (p.st.due a slot)
        ∙ ap (λ (b : Bool). queued (queue_at s a) slot b) (sym (due_then (part_then s t slot answer a).feed (feed_here p a h)))
    go (inr h) =
        let l = none_limit h (limit_for s.table a slot) refl in
        p.put.parts.queues a ∙ choose_false (is_subscribed (hold_for s.table a slot)) (part_then s t slot answer a).queue (queue_at s a) h
        ∙ sym (queued-same (queue_at s a) slot (due_at t a slot) (p.st.due a slot ∙ due-unlimited s a slot l ∙ sym (due-unlimited t a slot (ap (λ (x : Table). limit_for x a slot) p.put.table ∙ l))))

pub due_own : {s t : Shown} {e : Event} {slot : ℕ} {answer : Ingest} {now : HistMoment} → Putting s t e slot answer now → (a : ℕ) → is_due (terms_in s) a e.key (Came e.key e ∷ now) ≡ due_at t a slot
due_own {s} {t} {e} {slot} {answer} {now} p a =
    waits_due (terms_in s) a e.key (feed_at t a slot) (floor_at t a slot) (Came e.key e ∷ now) p.st.lawful
    (ap (λ (x : Table). floor_in (limit_for x a slot) (state_at t slot).now.floor) p.put.table ∙ p.floor_is a) (feed_own p a)

-- the queues are moved but for the slot
pub moved_own : {s t : Shown} {e : Event} {slot : ℕ} {answer : Ingest} {now : HistMoment} → Putting s t e slot answer now → IsMoved s t slot
moved_own {s} {t} {e} {slot} {answer} {now} p = record { queues = queue_own p; elsewhere = others }
  where
    others : (a i : ℕ) → nat_eq i slot ≡ false → due_at t a i ≡ due_at s a i
    others a i h =
        due-alike s t a i
        (floor-alike s t a i (ap (λ (x : Table). limit_for x a i) p.put.table) (ap (λ (x : Kept). x.now.floor) (p.put.others i h)))
        (feed_there p a i h)

-- what is owed in all
pub owed_own : {s t : Shown} {e : Event} {slot : ℕ} {answer : Ingest} {now : HistMoment} → Putting s t e slot answer now → (a : ℕ) → (owed_at t a ≡ owed_of t a (order_of t.table a)) × (owed_at t a ≤ s.hcap)
owed_own {s} {t} {e} {slot} {answer} {now} p a = go (cases_Bool (is_subscribed (hold_for s.table a slot)))
  where
    order_then : owed_of t a (order_of t.table a) ≡ owed_of t a (order_of s.table a)
    order_then = ap (λ (x : Table). owed_of t a (order_of x a)) p.put.table

    go : (is_subscribed (hold_for s.table a slot) ≡ true) ⊎ (is_subscribed (hold_for s.table a slot) ≡ false) → (owed_at t a ≡ owed_of t a (order_of t.table a)) × (owed_at t a ≤ s.hcap)
    go (inl h) =
        let part = part_then s t slot answer a in
        let now_owed : owed_at t a ≡ part.owed = p.put.parts.owed a ∙ choose_true (is_subscribed (hold_for s.table a slot)) part.owed (owed_at s a) h in
        let moved : sum (map (owed_in t a) (order_of s.table a)) + owed_in s a slot ≡ sum (map (owed_in s a) (order_of s.table a)) + owed_in t a slot =
        sum-with (owed_in s a) (owed_in t a) slot (order_of s.table a) (p.st.table.sound.ordered_once a) (p.st.table.sound.ordered a slot ∙ h)
        (λ i q. ap (λ (f : Feeding). length f.owed) (feed_there p a i q)) in
        let fell : part.owed + owed_in s a slot ≡ owed_at s a + length part.feed.owed =
        owed_then s.hcap answer (floor_then s t slot a) t.count (state_at t slot).now.batch slot (part_at s a slot) (pair-owed s now p.st a slot) in
        let here : owed_in t a slot ≡ length part.feed.owed = ap (λ (f : Feeding). length f.owed) (feed_here p a h) in
        let old : owed_at s a ≡ sum (map (owed_in s a) (order_of s.table a)) = p.st.owed a in
        let within : part.owed ≤ s.hcap = owed_within s.hcap answer (floor_then s t slot a) t.count (state_at t slot).now.batch slot (part_at s a slot) (p.st.within a) in
        let whole : owed_at t a ≡ sum (map (owed_in t a) (order_of s.table a)) = (let lemma = moving (owed_at t a) part.owed (owed_at s a) (owed_in s a slot) (owed_in t a slot) (length part.feed.owed) (sum (map (owed_in t a) (order_of s.table a))) (sum (map (owed_in s a) (order_of s.table a))) in
        lemma now_owed moved fell here old) in
        (whole ∙ sym order_then, subst (λ (n : ℕ). n ≤ s.hcap) (sym now_owed) within)
      where
        moving : (o q u i j l m n : ℕ) → o ≡ q → m + i ≡ n + j → q + i ≡ u + l → j ≡ l → u ≡ n → o ≡ m
        moving o q u i j l m n a b c d f = omega arith
    go (inr h) =
        let now_owed : owed_at t a ≡ owed_at s a = p.put.parts.owed a ∙ choose_false (is_subscribed (hold_for s.table a slot)) (part_then s t slot answer a).owed (owed_at s a) h in
        let alike : sum (map (owed_in t a) (order_of s.table a)) ≡ sum (map (owed_in s a) (order_of s.table a)) =
        sum-agree (owed_in s a) (owed_in t a) (order_of s.table a) (λ i q. ap (λ (f : Feeding). length f.owed) (feed_unsub p a i h)) in
        (now_owed ∙ p.st.owed a ∙ sym alike ∙ sym order_then, subst (λ (n : ℕ). n ≤ s.hcap) (sym now_owed) (p.st.within a))

-- of which key that is
pub labels_own : {s t : Shown} {e : Event} {slot : ℕ} {answer : Ingest} {now : HistMoment} → Putting s t e slot answer now → AllOf e.key (source e.key (Came e.key e ∷ now)) → (a : ℕ) → AllOf e.key (events (feed_at t a slot).owed)
labels_own {s} {t} {e} {slot} {answer} {now} p all a = go (cases_Bool (is_subscribed (hold_for s.table a slot)))
  where
    batch : answer ≡ Update → AllOf e.key (state_at t slot).now.batch
    batch q =
        subst (λ (es : List Event). AllOf e.key es)
        (ap (λ (es : List Event). reverse es) (sym (update_batch (source e.key (Came e.key e ∷ now)) (sym p.answer_is ∙ q))) ∙ sym p.state.now.batch_is)
        (turned_labelled e.key (events_of (source e.key (Came e.key e ∷ now))) (commit_labelled e.key (source e.key (Came e.key e ∷ now)) all))

    go : (is_subscribed (hold_for s.table a slot) ≡ true) ⊎ (is_subscribed (hold_for s.table a slot) ≡ false) → AllOf e.key (events (feed_at t a slot).owed)
    go (inl h) =
        subst (λ (f : Feeding). AllOf e.key (events f.owed)) (sym (feed_here p a h))
        (labels_then e.key s.hcap answer (floor_then s t slot a) t.count (state_at t slot).now.batch slot (part_at s a slot) batch (p.st.owed_labels a slot e.key p.here))
    go (inr h) = subst (λ (f : Feeding). AllOf e.key (events f.owed)) (sym (feed_unsub p a slot h)) (p.st.owed_labels a slot e.key p.here)
