-- Each step leads from a legal log for which a stripe stands to a legal log for which it stands.
use Rattle.std.proofs.Common.{◌≡◌, ℕ, suc, zero, ◌<◌, Bool, true, false, ◌||◌, if◌then◌else◌, nat_eq, List, [], ◌∷◌, ◌++◌, length, length-set, map, take, refl, ap, sym, ◌∙◌, subst, arith, inl, inr}
use Rattle.std.specs.Prelude.{Option, Some, None, is_some, max, MatchBool}
use Rattle.std.specs.List.{filter_map, cons_option}
use Rattle.std.proofs.lemmas.Bool.Decides.{nat_tests}
use Rattle.qd_scheme.specs.declared.key.Key.{Key}
use Rattle.qd_buffer.specs.Filled.{Filled, with_items}
use Rattle.qd_gate.specs.Logs.{entry}
use Rattle.qd_gate.proofs.Laws.{each_follows_push}
use Rattle.qd_pend.specs.Slots.{first_in}
use Rattle.qd_sub.specs.declared.sub.Sub.{Sub}
use Rattle.qd_sub.specs.declared.sub.Want.{Want}
use Rattle.qd_sub.specs.declared.op.Op.TheVariants.{Add, Remove, Close, Put, Take, Watch}
use Rattle.qd_sub.specs.declared.op.Reply.TheVariants.{Items, Wants}
use Rattle.qd_sub.specs.Acts.{Act, Subscribed, Unsubscribed, Closed, Came, Gave, Told}
use Rattle.qd_sub.specs.Subscriptions.{subscribed, keys_of}
use Rattle.qd_sub.specs.Watching.{watched}
use Rattle.qd_sub.specs.Logs.{after, ends_of, after_entry, after_log}
use Rattle.qd_sub.proofs.LogLaws.{after_log-push}
use Rattle.qd_sub.proofs.KeyEnds.{keys-rest}
use Rattle.qd_slots.specs.Holds.{is_subscribed}
use Rattle.qd_table.specs.declared.table.SubFault.{SubFault}
use Rattle.qd_table.specs.declared.table.SubFault.TheVariants as faults
use Rattle.qd_table.specs.Tables.{Table, slots_in, holds_by, key_at, slot_for, hold_for, order_of, keys_at, queue_of, fault_of}
use Rattle.qd_table.proofs.TableLaws.{key_at-found, key_at-subscribed}
use Rattle.qd_table.specs.Steps.{IsSame, TellsAll}
use Rattle.qd_table.proofs.StandLaws.{subscribed-table, subscribed-absent, watched-table}
use Rattle.qd_table.proofs.StandOthers.{stands-keeps}
use Rattle.qd_table.proofs.StandChains.{stands-watched}
use Rattle.qd_table.proofs.TableCounts.{key-holder, fault-table}
use Rattle.qd_stream.specs.declared.item.StreamItem.{StreamItem}
use Rattle.qd_stream.specs.Items.{key_of_item}
use Rattle.qd_stream.specs.Waiting.{StreamMoment, matched, gone, waiting}
use Rattle.qd_stream.specs.Holding.{holds_pair, held, held_keys, held_pairs, held_by}
use Rattle.qd_stream.specs.Owed.{Owed, nothing, owes, first_owed, owed_at, IsOwed}
use Rattle.qd_stream.specs.Outboxes.{Outstanding}
use Rattle.qd_stream.specs.Keyed.{keyed, IsNamed}
use Rattle.qd_stream.specs.Boxes.{box_at, with_box, with_slots}
use Rattle.qd_stream.specs.Legal.{StreamOp, StreamReply, StreamEntry, terms_of, stream_acts, moment_of, too_many_keys, too_many_subs, reply_to, IsLawful, Follows, IsLegal}
use Rattle.qd_stream.specs.Stripes.{Shown, name_in, is_named, owed_in, is_owed_in, Agrees, StandsAt, Stands}
use Rattle.qd_stream.specs.Steps.{SubscribesAll, IsAdded, IsRefused, AddsBy, Adds, IsEndedAt, RemovesAt, RemovesAll, PutsAll, GivesAll, DropsAll, EndsAll, IsClosed, StepsTo}
use Rattle.qd_stream.proofs.OwedLaws.{owed-closed, owed-closed_other, taken-owed, is_owed-owes}
use Rattle.qd_stream.proofs.NamedLaws.{named-room}
use Rattle.qd_stream.proofs.ReadyLaws.{box-same, box-other}
use Rattle.qd_stream.proofs.AgreeLaws.{of, agrees-closed, agrees-same, same-by, renamed-all, loses-told}
use Rattle.qd_stream.proofs.HeldLaws.{EachKeyed, held-pair, held-known, held-holder, held_keys-has, held_keys-once, held_pairs-has, held_pairs-once, held_by-has}
use Rattle.qd_stream.proofs.KeyedLogs.{keyed-log}
use Rattle.qd_stream.proofs.StripeLaws.{by-boxes, stands-sub, stands-end, stands-put, stands-gift, gives-some, gives-none, first-more, first-none}

-- after some acts, and then others
pub after-both : (now : StreamMoment) (xs ys : List (Act StreamItem StreamItem)) → after now (xs ++ ys) ≡ after (after now xs) ys
unfolding after
after-both now [] ys = refl
after-both now (x ∷ xs) ys = after-both (x ∷ now) xs ys

-- keys subscribed, one after another
stands-subs : (ks : List Key) (s : Shown) (t : Table) (now : StreamMoment) (a : ℕ) → a < 128 → StandsAt s now → SubscribesAll s.table a ks t → StandsAt (of t s.boxes) (after now (map (λ k. Subscribed a k 0) ks))
unfolding SubscribesAll after
stands-subs [] s t now a below st e = subst (λ (x : Shown). StandsAt x now) (ap (λ u. of u s.boxes) e) st
stands-subs (k ∷ ks) s t now a below st (slot, mid, one, rest) = stands-subs ks (of mid s.boxes) t (Subscribed a k 0 ∷ now) a below (stands-sub s mid now a k slot below st one) rest

-- a Remove of keys
stands-removes : (ks : List Key) (s new : Shown) (now : StreamMoment) (a : ℕ) → StandsAt s now → RemovesAll s a ks new → StandsAt new (after now (ends_of a now ks))
unfolding RemovesAll after ends_of
stands-removes [] s new now a st e = subst (λ (x : Shown). StandsAt x now) e st
stands-removes (k ∷ ks) s new now a st (mid, one, rest) =
    let absent : subscribed a k now ≡ false → s ≡ mid → StandsAt new (after now (if subscribed a k now then Unsubscribed a k ∷ ends_of a (Unsubscribed a k ∷ now) ks else ends_of a now ks)) =
    λ e m. rw e (stands-removes ks mid new now a (subst (λ (x : Shown). StandsAt x now) m st) rest) in
    let go : (o : Option ℕ) → slot_for s.table k ≡ o → RemovesAt o s a mid → StandsAt new (after now (if subscribed a k now then Unsubscribed a k ∷ ends_of a (Unsubscribed a k ∷ now) ks else ends_of a now ks)) =
    elim [
      | None ↦ λ f m. absent (subscribed-absent s.table _ now st.agrees.table a k f) m
      | Some slot ↦ λ f.
          let own = key_at-found s.table k slot f in
          let told = subscribed-table s.table _ now st.agrees.table a k slot own in
          let see : (c : Bool) → is_subscribed (hold_for s.table a slot) ≡ c → MatchBool c (IsEndedAt s a slot mid) (s ≡ mid) → StandsAt new (after now (if subscribed a k now then Unsubscribed a k ∷ ends_of a (Unsubscribed a k ∷ now) ks else ends_of a now ks)) =
          elim [
            | true ↦ λ g m. rw (told ∙ g) (stands-removes ks mid new (Unsubscribed a k ∷ now) a (stands-end s mid now a slot k st own m) rest)
            | false ↦ λ g m. absent (told ∙ g) m
          ] in
          see (is_subscribed (hold_for s.table a slot)) refl
    ] in
    go (slot_for s.table k) refl one

-- a Put of items
abbrev put_acts : List StreamItem → List (Act StreamItem StreamItem)
put_acts items = map (λ item. Came (key_of_item item) item) items

stands-puts : (items : List StreamItem) (s new : Shown) (now : StreamMoment) → StandsAt s now → PutsAll s items new → StandsAt new (after now (put_acts items))
unfolding PutsAll after
stands-puts [] s new now st e = subst (λ (x : Shown). StandsAt x now) e st
stands-puts (item ∷ items) s new now st (mid, one, rest) = stands-puts items mid new (Came (key_of_item item) item ∷ now) (stands-put s mid now item st one) rest

-- a Take gives the first that is owed
abbrev gift_acts : ℕ → List StreamItem → List (Act StreamItem StreamItem)
gift_acts a items = map (λ item. Gave a (key_of_item item) item) items

stands-gifts : (n : ℕ) (s new : Shown) (now : StreamMoment) (a : ℕ) (items : List StreamItem) → StandsAt s now → GivesAll n s a items new → StandsAt new (after now (gift_acts a items))
unfolding GivesAll after
stands-gifts zero s new now a items st (none, same) = rw none (subst (λ (x : Shown). StandsAt x now) same st)
stands-gifts (suc n) s new now a items st (inl (none, one)) = rw none (subst (λ (x : Shown). StandsAt x now) ((gives-none s new now a st.agrees one).0) st)
stands-gifts (suc n) s new now a items st (inr (i, rest, mid, is, one, more)) = rw is (stands-gifts n mid new (Gave a (key_of_item i) i ∷ now) a rest (stands-gift s mid now a i st one) more)

first-zero : (o : Owed) → first_owed 0 o ≡ []
unfolding first_owed
first-zero o = refl

gifts-first : (n : ℕ) (s new : Shown) (now : StreamMoment) (a : ℕ) (items : List StreamItem) → StandsAt s now → GivesAll n s a items new → items ≡ first_owed n (owed_in s a)
unfolding GivesAll
gifts-first zero s new now a items st (none, same) = none ∙ sym (first-zero (owed_in s a))
gifts-first (suc n) s new now a items st (inl (none, one)) = none ∙ sym (first-none (suc n) (owed_in s a) ((gives-none s new now a st.agrees one).1))
gifts-first (suc n) s new now a items st (inr (i, rest, mid, is, one, more)) =
    is ∙ ap (λ is. i ∷ is) (gifts-first n mid new (Gave a (key_of_item i) i ∷ now) a rest (stands-gift s mid now a i st one) more) ∙ sym (first-more n (owed_in s a) (owed_in mid a) i ((gives-some s mid now a st.agrees i one).first))

-- all that a is owed was dropped
record Dropped (s : Shown) (a : ℕ) (now : StreamMoment) (new : Shown) : Type 0 where
  agrees : Agrees new now
  others : (b : ℕ) → nat_eq b a ≡ false → owed_in new b ≡ owed_in s b
  none : owed_in new a ≡ nothing
  cap : new.boxes.cap ≡ s.boxes.cap
  agents : length new.boxes.list ≡ length s.boxes.list
  caps : (b : ℕ) → (box_at new.boxes b).cap ≡ (box_at s.boxes b).cap

drops : (n : ℕ) (s new : Shown) (now : StreamMoment) (a : ℕ) → Agrees s now → DropsAll n s a new → Dropped s a now new
unfolding DropsAll
drops zero s new now a st e =
    let all = gives-none s new now a st e in
    subst (λ (x : Shown). Dropped s a now x) all.0 (record { agrees = st; others = λ b f. refl; none = all.1; cap = refl; agents = refl; caps = λ b. refl })
drops (suc n) s new now a st (i, mid, one, more) =
    let first = gives-some s mid now a st i one in
    let rest = drops n mid new now a first.agrees more in
    record {
      agrees = rest.agrees;
      others = λ b f. rest.others b f ∙ first.others b f;
      none = rest.none;
      cap = rest.cap ∙ first.cap;
      agents = rest.agents ∙ first.agents;
      caps = λ b. rest.caps b ∙ first.caps b;
    }

stands-dropped : (n : ℕ) (s new : Shown) (now : StreamMoment) (a : ℕ) → StandsAt s now → DropsAll n s a new → StandsAt new (Closed a ∷ now)
stands-dropped n s new now a st e =
    let all = drops n s new (Closed a ∷ now) a (agrees-closed s now a st.agrees) e in
    record {
      agrees = all.agrees;
      owed = λ b. subst (λ m. IsOwed m b (owed_in new b) (Closed a ∷ now)) (sym all.cap)
          (let go : (c : Bool) → nat_eq b a ≡ c → IsOwed s.boxes.cap b (owed_in new b) (Closed a ∷ now) =
          elim [
            | true ↦ λ f. (let same = number-true b a f in subst (λ m. IsOwed s.boxes.cap m (owed_in new m) (Closed a ∷ now)) (sym same) (subst (λ (o : Owed). IsOwed s.boxes.cap a o (Closed a ∷ now)) (sym all.none) (owed-closed s.boxes.cap a (owed_in s a) now (st.owed a))))
            | false ↦ λ f. subst (λ (o : Owed). IsOwed s.boxes.cap b o (Closed a ∷ now)) (sym (all.others b f)) (owed-closed_other s.boxes.cap b (owed_in s b) a now f (st.owed b))
          ] in go (nat_eq b a) refl);
      agents = all.agents ∙ st.agents;
      caps = λ b. all.caps b ∙ st.caps b ∙ sym all.cap;
    }
  where
    number-true : (m n : ℕ) → nat_eq m n ≡ true → m ≡ n
    number-true m n h = grind (arith, nat_tests)

-- the ends of all subscriptions of a
first-key : (t : Table) (order : List ℕ) (slot : ℕ) (k : Key) → first_in order ≡ Some slot → key_at t slot ≡ Some k → (rest : List Key) × (keys_at t order ≡ k ∷ rest)
unfolding keys_at
first-key t [] slot k h own = cc
first-key t (x ∷ xs) slot k h own = let same : x ≡ slot = cc in let here : key_at t x ≡ Some k = ap (key_at t) same ∙ own in (filter_map (key_at t) xs, ap (λ o. cons_option o (filter_map (key_at t) xs)) here)

no-order : (order : List ℕ) → first_in order ≡ None → order ≡ []
no-order [] h = refl
no-order (x ∷ xs) h = cc

keys-ended : (a : ℕ) (k : Key) (rest : List Key) (now : StreamMoment) → keys_of a now ≡ k ∷ rest → keys_of a now ≡ k ∷ keys_of a (Unsubscribed a k ∷ now)
keys-ended a k rest now h = h ∙ ap (λ ks. k ∷ ks) (sym (keys-rest a k rest now h))

nowhere : (t : Table) → keys_at t [] ≡ []
unfolding keys_at
nowhere t = refl

stands-ends : (n : ℕ) (s new : Shown) (now : StreamMoment) (a : ℕ) → StandsAt s now → EndsAll n s a new → StandsAt new (after now (map (Unsubscribed a) (keys_of a now)))
unfolding EndsAll after
stands-ends zero s new now a st (none, same) =
    let empty : keys_of a now ≡ [] = st.agrees.table.orders a ∙ ap (keys_at s.table) (no-order (order_of s.table a) none) ∙ nowhere s.table in
    rw empty (subst (λ (x : Shown). StandsAt x now) same st)
stands-ends (suc n) s new now a st (slot, mid, first, one, more) =
    let own = key_at-subscribed s.table a slot st.agrees.table.sound one.subscribed in
    let found = first-key s.table (order_of s.table a) slot own.0 first own.1 in
    let keys = keys-ended a own.0 found.0 now (st.agrees.table.orders a ∙ found.1) in
    let next = stands-ends n mid new (Unsubscribed a own.0 ∷ now) a (stands-end s mid now a slot own.0 st own.1 one) more in
    subst (λ ks. StandsAt new (after now (map (Unsubscribed a) ks))) (sym keys) next

-- room for more slots changes nothing that is owed
stands-room : (s : Shown) (now : StreamMoment) (a slots : ℕ) → a < 128 → StandsAt s now → StandsAt (of s.table (with_box s.boxes a (with_slots (box_at s.boxes a) slots))) now
unfolding owed_in is_owed_in keyed
stands-room s now a slots below st = record {
  agrees = record {
    table = stands-keeps s.table (is_owed_in s) (is_owed_in (of s.table (with_box s.boxes a grown))) now st.agrees.table (λ b j. ap (λ (o : Owed). subscribed b j now || owes o j) (same b));
    named = λ b. (let go : (c : Bool) → nat_eq b a ≡ c → IsNamed (name_in s.table) (is_named s.table) (box_at (with_box s.boxes a grown) b) =
        elim [
          | true ↦ λ e. subst (λ n. IsNamed (name_in s.table) (is_named s.table) (box_at (with_box s.boxes a grown) n)) (sym (number-true b a e)) (subst (λ (o : Outstanding). IsNamed (name_in s.table) (is_named s.table) o) (sym here) (named-room (name_in s.table) (is_named s.table) (box_at s.boxes a) (max (box_at s.boxes a).slots slots) (st.agrees.named a)))
          | false ↦ λ e. subst (λ (o : Outstanding). IsNamed (name_in s.table) (is_named s.table) o) (sym (box-other s.boxes a b grown e)) (st.agrees.named b)
        ] in go (nat_eq b a) refl);
  };
  owed = λ b. subst (λ (o : Owed). IsOwed s.boxes.cap b o now) (sym (same b)) (st.owed b);
  agents = length-set s.boxes.list a grown ∙ st.agents;
  caps = λ b. (let go : (c : Bool) → nat_eq b a ≡ c → (box_at (with_box s.boxes a grown) b).cap ≡ s.boxes.cap =
      elim [
        | true ↦ λ e. ap (λ n. (box_at (with_box s.boxes a grown) n).cap) (number-true b a e) ∙ ap (λ (o : Outstanding). o.cap) here ∙ st.caps a
        | false ↦ λ e. ap (λ (o : Outstanding). o.cap) (box-other s.boxes a b grown e) ∙ st.caps b
      ] in go (nat_eq b a) refl);
}
  where
    number-true : (m n : ℕ) → nat_eq m n ≡ true → m ≡ n
    number-true m n h = grind (arith, nat_tests)

    grown : Outstanding
    grown = with_slots (box_at s.boxes a) slots

    here : box_at (with_box s.boxes a grown) a ≡ grown
    here = (let size = st.agents in let lt : a < length s.boxes.list = omega arith in box-same s.boxes a grown lt)

    same : (b : ℕ) → keyed (name_in s.table) (box_at (with_box s.boxes a grown) b) ≡ keyed (name_in s.table) (box_at s.boxes b)
    same b =
        let go : (c : Bool) → nat_eq b a ≡ c → keyed (name_in s.table) (box_at (with_box s.boxes a grown) b) ≡ keyed (name_in s.table) (box_at s.boxes b) =
        elim [
          | true ↦ λ e. ap (λ n. keyed (name_in s.table) (box_at (with_box s.boxes a grown) n)) (number-true b a e) ∙ ap (keyed (name_in s.table)) here ∙ ap (λ n. keyed (name_in s.table) (box_at s.boxes n)) (sym (number-true b a e))
          | false ↦ λ e. ap (keyed (name_in s.table)) (box-other s.boxes a b grown e)
        ] in
        go (nat_eq b a) refl

-- nothing changed but room
stands-refused : (s : Shown) (t : Table) (now : StreamMoment) → StandsAt s now → IsSame s.table t → StandsAt (of t s.boxes) now
stands-refused s t now st same =
    let all = agrees-same s t now st.agrees same in
    record {
      agrees = all.agrees;
      owed = λ b. subst (λ (o : Owed). IsOwed s.boxes.cap b o now) (sym (all.owed b)) (st.owed b);
      agents = st.agents;
      caps = st.caps;
    }

stands-refusal : (s new : Shown) (now : StreamMoment) → StandsAt s now → IsRefused s new → StandsAt new now
stands-refusal s new now st e = subst (λ (x : Shown). StandsAt x now) (by-boxes new s.boxes e.boxes) (stands-refused s new.table now st e.table)

abbrev sub_act : ℕ → Key → Act StreamItem StreamItem
sub_act a k = Subscribed a k 0

sub_acts : (a : ℕ) (subs : List Sub) → map (sub_act a) (map (λ (s : Sub). s.key) subs) ≡ map (λ (s : Sub). sub_act a s.key) subs
sub_acts a [] = refl
sub_acts a (s ∷ subs) = ap (λ acts. Subscribed a s.key 0 ∷ acts) (sub_acts a subs)

stands-added : (s new : Shown) (now : StreamMoment) (a : ℕ) (subs : List Sub) → StandsAt s now → IsAdded s a (map (λ (x : Sub). x.key) subs) new → StandsAt new (after now (map (λ (x : Sub). Subscribed a x.key 0) subs))
stands-added s new now a subs st e =
    let boxes = with_box s.boxes a (with_slots (box_at s.boxes a) (slots_in e.mid)) in
    let ready = stands-room (of e.mid s.boxes) now a (slots_in e.mid) e.agent (stands-refused s e.mid now st e.same) in
    subst (λ acts. StandsAt new (after now acts)) (sub_acts a subs)
    (subst (λ (x : Shown). StandsAt x (after now (map (λ k. Subscribed a k 0) (map (λ (x : Sub). x.key) subs)))) (by-boxes new boxes e.boxes)
    (stands-subs (map (λ (x : Sub). x.key) subs) (of e.mid boxes) new.table now a e.agent ready e.subscribed))

stands-none : (s : Shown) (now : StreamMoment) → StandsAt s now → StandsAt s (after now [])
unfolding after
stands-none s now st = st

stands-add : (fault : Option SubFault) (s new : Shown) (now : StreamMoment) (a : ℕ) (subs : Filled Sub) (reply : StreamReply) → StandsAt s now → AddsBy fault s a subs.items reply new → StandsAt new (after now (stream_acts now (Add a subs) reply))
stands-add (Some faults.TooManyKeys) s new now a subs reply st (r, e) = rw r (stands-none new now (stands-refusal s new now st e))
stands-add (Some faults.TooManySubs) s new now a subs reply st (r, e) = rw r (stands-none new now (stands-refusal s new now st e))
stands-add (Some faults.NoMemory) s new now a subs reply st e = absurd e
stands-add None s new now a subs reply st (inl (r, e)) = rw r (stands-added s new now a subs.items st e)
stands-add None s new now a subs reply st (inr (r, e)) = rw r (stands-none new now (stands-refusal s new now st e))

-- what is owed takes no notice of tellings
owed-told : (cap a : ℕ) (o : Owed) (w : ℕ) (wants : List Want) (now : StreamMoment) → IsOwed cap a o now → IsOwed cap a o (after now (map (λ (want : Want). Told w want.key want.total) wants))
unfolding after owed_at waiting gone matched
owed-told cap a o w [] now h = h
owed-told cap a o w (want ∷ wants) now h = owed-told cap a o w wants (Told w want.key want.total ∷ now) (record { is = h.is; within = h.within })

stands-watch : (s new : Shown) (now : StreamMoment) (w most : ℕ) → w < 8 → StandsAt s now → TellsAll s.table w (take most (queue_of s.table w)) new.table → new.boxes ≡ s.boxes → StandsAt new (after now (map (λ (want : Want). Told w want.key want.total) (watched w most now)))
stands-watch s new now w most below st told boxes =
    let next = stands-watched s.table new.table (is_owed_in s) now w most st.agrees.table below told in
    let past : StreamMoment = after now (map (λ (want : Want). Told w want.key want.total) (watched w most now)) in
    let same = same-by s.table new.table s.boxes past next (λ b. renamed-all s.table new.table s.boxes past next st.agrees.table.sound (loses-told s.table new.table w (take most (queue_of s.table w)) told) b (st.agrees.named b)) in
    subst (λ (x : Shown). StandsAt x past) (by-boxes new s.boxes boxes)
    (record {
      agrees = same.agrees;
      owed = λ b. subst (λ (o : Owed). IsOwed s.boxes.cap b o past) (sym (same.owed b)) (owed-told s.boxes.cap b (owed_in s b) w (watched w most now) now (st.owed b));
      agents = st.agents;
      caps = st.caps;
    })

stands-last : (s : Shown) (now : StreamMoment) (a : ℕ) → StandsAt s (Closed a ∷ now) → StandsAt s (after now (Closed a ∷ []))
unfolding after
stands-last s now a h = h

stands-close : (s new : Shown) (now : StreamMoment) (a : ℕ) → StandsAt s now → IsClosed s a new → StandsAt new (after now (map (Unsubscribed a) (keys_of a now) ++ Closed a ∷ []))
stands-close s new now a st e =
    subst (λ past. StandsAt new past) (sym (after-both now (map (Unsubscribed a) (keys_of a now)) (Closed a ∷ [])))
    (stands-last new (after now (map (Unsubscribed a) (keys_of a now))) a (stands-dropped e.owed e.mid new (after now (map (Unsubscribed a) (keys_of a now))) a (stands-ends e.subscriptions s e.mid now a st e.ended) e.dropped))

pub stands-step : (s new : Shown) (now : StreamMoment) (op : StreamOp) (reply : StreamReply) → StepsTo s op reply new → StandsAt s now → StandsAt new (after now (stream_acts now op reply))
unfolding StepsTo
stands-step s new now (Add agent subs) reply e st = stands-add (fault_of s.table agent subs.items) s new now agent subs reply st e
stands-step s new now (Remove agent keys) reply (r, e) st = rw r (stands-removes keys.items s new now agent st e)
stands-step s new now (Close agent) reply (r, e) st = rw r (stands-close s new now agent st e)
stands-step s new now (Put items) reply (r, e) st = rw r (stands-puts items.items s new now st e)
stands-step s new now (Take agent most out) reply (items, r, e) st = rw r (stands-gifts most s new now agent items st e)
stands-step s new now (Watch watcher most out) reply (below, r, told, boxes) st =
    let wants = watched-table s.table _ now st.agrees.table watcher most below in
    rw r (subst (λ ws. StandsAt new (after now (map (λ (want : Want). Told watcher want.key want.total) ws))) wants (stands-watch s new now watcher most below st told boxes))

-- a pair is held where the table has it
pair-table : (s : Shown) (now : StreamMoment) (a : ℕ) (k : Key) → StandsAt s now → holds_pair s.boxes.cap a k now ≡ holds_by s.table a k
unfolding holds_pair is_owed_in
pair-table s now a k st =
    ap (λ c. subscribed a k now || c) (is_owed-owes s.boxes.cap a k now ∙ ap (λ (o : Owed). owes o k) (st.owed a).is) ∙ st.agrees.table.held a k

-- a key is held where it has a slot
key-table : (s : Shown) (now : StreamMoment) (k : Key) → StandsAt s now → is_some (slot_for s.table k) ≡ held s.boxes.cap k now
unfolding is_owed_in
key-table s now k st =
    let pair : (a : ℕ) → (subscribed a k now || owes (owed_in s a) k) ≡ holds_pair s.boxes.cap a k now = λ a. st.agrees.table.held a k ∙ sym (pair-table s now a k st) in
    key-holder s.table (is_owed_in s) now k (held s.boxes.cap k now) st.agrees.table
    (λ a t. held-pair s.boxes.cap a k now (sym (pair a) ∙ t))
    (λ w t. held-known s.boxes.cap w k now t)
    (λ t. elim (held-holder s.boxes.cap k now t) [
      | inl f ↦ inl (f.0, pair f.0 ∙ f.1)
      | inr f ↦ inr f
    ])

fault-is : (s : Shown) (now : StreamMoment) (a : ℕ) (subs : List Sub) → EachKeyed now → StandsAt s now →
    fault_of s.table a subs ≡ (if too_many_keys s.boxes.cap now subs then Some faults.TooManyKeys else if too_many_subs s.boxes.cap now a subs then Some faults.TooManySubs else None)
unfolding too_many_keys too_many_subs
fault-is s now a subs keyed st =
    fault-table s.table a subs (held_keys s.boxes.cap now) (held_by s.boxes.cap a now) (held_pairs s.boxes.cap now) st.agrees.table.sound
    (held_keys-once s.boxes.cap now keyed) (λ k. held_keys-has s.boxes.cap now keyed k ∙ sym (key-table s now k st))
    (held_pairs-once s.boxes.cap now keyed) (λ p. held_pairs-has s.boxes.cap now keyed p ∙ pair-table s now p.0 p.1 st)
    (λ k. held_by-has s.boxes.cap now keyed a k ∙ pair-table s now a k st)

lawful-add : (s new : Shown) (now : StreamMoment) (a : ℕ) (subs : Filled Sub) (reply : StreamReply) → EachKeyed now → StandsAt s now → Adds s a subs.items reply new → IsLawful s.boxes.cap now (Add a subs) reply
unfolding IsLawful reply_to
lawful-add s new now a subs reply keyed st e =
    let why = fault-is s now a subs.items keyed st in
    let go : (c d : Bool) → too_many_keys s.boxes.cap now subs.items ≡ c → too_many_subs s.boxes.cap now a subs.items ≡ d →
    AddsBy (if c then Some faults.TooManyKeys else if d then Some faults.TooManySubs else None) s a subs.items reply new → IsLawful s.boxes.cap now (Add a subs) reply =
    elim [
      | true ↦ λ d h i m. inl (m.0 ∙ sym (rw h refl))
      | false ↦ elim [
        | true ↦ λ h i m. inl (m.0 ∙ sym (rw (h, i) refl))
        | false ↦ λ h i m. elim m [
          | inl done ↦ inl (done.0 ∙ sym (rw (h, i) refl))
          | inr none ↦ inr (tt, none.0, rw (h, i) refl)
        ]
      ]
    ] in
    go (too_many_keys s.boxes.cap now subs.items) (too_many_subs s.boxes.cap now a subs.items) refl refl (subst (λ fault. AddsBy fault s a subs.items reply new) why e)

pub lawful-step : (s new : Shown) (now : StreamMoment) (op : StreamOp) (reply : StreamReply) → EachKeyed now → StepsTo s op reply new → StandsAt s now → IsLawful s.boxes.cap now op reply
unfolding IsLawful StepsTo reply_to
lawful-step s new now (Add agent subs) reply keyed e st = lawful-add s new now agent subs reply keyed st e
lawful-step s new now (Remove agent keys) reply keyed (r, e) st = inl r
lawful-step s new now (Close agent) reply keyed (r, e) st = inl r
lawful-step s new now (Put items) reply keyed (r, e) st = inl r
lawful-step s new now (Take agent most out) reply keyed (items, r, e) st =
    inl (r ∙ ap (λ is. Items (with_items out is)) (gifts-first most s new now agent items st e ∙ ap (first_owed most) (sym (st.owed agent).is) ∙ sym (taken-owed s.boxes.cap agent most now)))
lawful-step s new now (Watch watcher most out) reply keyed (below, r, told, boxes) st =
    inl (r ∙ ap (λ ws. Wants (with_items out ws)) (sym (watched-table s.table _ now st.agrees.table watcher most below)))

-- after a step the stripe stands for each legal log with the entry, and that log is legal
pub entered-step : (s new : Shown) (op : StreamOp) (reply : StreamReply) → StepsTo s op reply new → (log : List StreamEntry) (who : ℕ) → Stands s log → IsLegal (terms_of s.boxes.cap) log
    → Stands new (log ++ entry who op reply ∷ []) × IsLegal (terms_of s.boxes.cap) (log ++ entry who op reply ∷ [])
unfolding moment_of Follows after_entry
entered-step s new op reply step log who st legal = (
  subst (λ now. StandsAt new now) (sym (after_log-push stream_acts [] log (entry who op reply))) (stands-step s new (after_log stream_acts [] log) op reply step st),
  each_follows_push (Follows (terms_of s.boxes.cap)) log (entry who op reply) legal (lawful-step s new (after_log stream_acts [] log) op reply (keyed-log log) step st),
)
