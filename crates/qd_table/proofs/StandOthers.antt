-- What is let go and what is told leave a table that stands for its moment.
use Rattle.std.proofs.Common.{◌≡◌, inl, ℕ, ◌<◌, Bool, true, false, ◌&&◌, ◌||◌, not, if◌then◌else◌, nat_eq, Option, Some, None, is_some, [], ◌∷◌, ◌++◌, refl, ap, sym, ◌∙◌}
use Rattle.std.specs.List.{filter}
use Rattle.qd_scheme.specs.declared.key.Key.{Key}
use Rattle.qd_scheme.specs.Keys.{key_eq}
use Rattle.qd_pend.specs.Slots.{has}
use Rattle.qd_pend.proofs.ListLaws.{same, equal}
use Rattle.qd_sub.specs.Acts.{Act, Closed, Came, Gave, Told, Full, Moment, is_pair, is_told, newest_key}
use Rattle.qd_sub.specs.Since.{by_since}
use Rattle.qd_sub.specs.Subscriptions.{limit_of, subscribed, wanted}
use Rattle.qd_sub.specs.Watching.{known, is_outdated, differs}
use Rattle.qd_sub.proofs.SinceLaws.{by_since-same}
use Rattle.qd_sub.proofs.StepLaws.{subscribed-told, keys_of-told, pair_eq-true, pair_eq-same}
use Rattle.qd_sub.proofs.HeldLaws.{limit_of-quiet, total-same, wanted-same}
use Rattle.qd_sub.proofs.WatchLaws.{differing-told, wanted-told, known-told_other}
use Rattle.qd_sub.proofs.WatchSteps.{outdated-same, outdated-told, differs-same, differing-same, differing-told_other}
use Rattle.qd_slots.specs.Holds.{is_subscribed, is_held}
use Rattle.qd_slots.specs.Views.{view_told, queued_again}
use Rattle.qd_table.specs.Tables.{Table, key_at, keys_at, slot_for, hold_for, limit_for, order_of, total_for, view_for, queue_of, differs_for, total_to_tell, is_used, limit_by, holds_by, known_by, outdated_by}
use Rattle.qd_table.specs.Steps.{is_cell, IsSlotFor, IsSame, IsLetGo, IsTold}
use Rattle.qd_table.specs.Sound.{IsSound}
use Rattle.qd_table.specs.Standing.{StandsFor}
use Rattle.qd_table.proofs.TableLaws.{some-none, by, Moved, by-same, subscribed-held, used-agent}
use Rattle.qd_table.proofs.CallSteps.{pair-set, kept-moved, go-held, told-held, sound-let_go, sound-told, sound-same}
use Rattle.qd_table.proofs.KeyLists.{keys-agree, keys-again}
use Rattle.qd_table.proofs.StandLaws.{subscribed-table, wanted-at, total_for-some, total-at, differs-at, differs-used}
use Rattle.qd_table.proofs.StandSteps.{own-queue, still-named, by-new, gone-limit, gone-view, subscribed-limit}

-- what was kept is let go
pub stands-let_go : {P T : Type 0} (old new : Table) (keeps keeps' : ℕ → Key → Bool) (now : Moment P T) (a : ℕ) (k : Key) (slot : ℕ) → StandsFor old keeps now → key_at old slot ≡ Some k → IsLetGo old a slot new →
    ((b : ℕ) (j : Key) → keeps' b j ≡ (if is_pair b j a k then false else keeps b j)) → StandsFor new keeps' now
unfolding limit_by holds_by known_by outdated_by
stands-let_go old new keeps keeps' now a k slot st own h kept = record {
  sound = snew;
  limits = λ b j. st.limits b j ∙ sym (by-same old new k slot (not (is_used new slot)) m (limit_for old b) (limit_for new b) None (λ v. absurd (vacant v)) (λ e. gone-limit new slot snew e b) (λ i. h.limits b i) j);
  held = λ b j. held (is_pair b j a k) b j refl;
  orders = λ b. st.orders b ∙ sym (ap (keys_at new) (h.orders b) ∙ keys-agree new old (order_of old b)
      (λ i t. still-named old new slot i h.names (used-agent new b i snew (subscribed-held (hold_for new b i) (sym (snew.ordered b i) ∙ ap (λ xs. has xs i) (h.orders b) ∙ t)))));
  known = λ w j. st.known w j ∙ sym (by-same old new k slot (not (is_used new slot)) m (λ i. (view_for old w i).known) (λ i. (view_for new w i).known) None (λ v. absurd (vacant v)) (λ e. ap (λ x. x.known) (gone-view new slot snew e w)) (λ i. ap (λ x. x.known) (h.views w i)) j);
  outdated = λ w j. st.outdated w j ∙ sym (by-same old new k slot (not (is_used new slot)) m (λ i. (view_for old w i).outdated) (λ i. (view_for new w i).outdated) false (λ v. absurd (vacant v)) (λ e. ap (λ x. x.outdated) (gone-view new slot snew e w)) (λ i. ap (λ x. x.outdated) (h.views w i)) j);
  queues = λ w l. st.queues w l ∙ sym (ap (keys_at new) (h.queues w) ∙ keys-agree new old (queue_of old w)
      (λ i t. still-named old new slot i h.names (differs-used new w i snew (sym (snew.queued w i l) ∙ ap (λ xs. has xs i) (h.queues w) ∙ t))));
}
  where
    s : IsSound old
    s = st.sound

    snew : IsSound new
    snew = sound-let_go old new a slot s k own h

    m : Moved old new k slot (not (is_used new slot))
    m = kept-moved old new k slot s own h.names

    vacant : key_at old slot ≡ None → ⊥
    vacant v = some-none k (sym own ∙ v)

    or-false : (c : Bool) → (c || false) ≡ c
    or-false true = refl
    or-false false = refl

    held : (c : Bool) (b : ℕ) (j : Key) → is_pair b j a k ≡ c → (subscribed b j now || keeps' b j) ≡ holds_by new b j
    held true b j e =
        ap (λ d. subscribed b j now || d) (kept b j ∙ ap (λ d. if d then false else keeps b j) e) ∙ or-false (subscribed b j now) ∙ ap (λ (p : ℕ × Key). subscribed p.0 p.1 now) (pair_eq-true (b, j) (a, k) e) ∙ subscribed-table old keeps now st a k slot own
        ∙ sym (go-held old new a k slot s own h b j ∙ ap (λ d. if d then is_subscribed (hold_for old a slot) else holds_by old b j) e)
    held false b j e =
        ap (λ d. subscribed b j now || d) (kept b j ∙ ap (λ d. if d then false else keeps b j) e) ∙ st.held b j
        ∙ sym (go-held old new a k slot s own h b j ∙ ap (λ d. if d then is_subscribed (hold_for old a slot) else holds_by old b j) e)

-- what is told is none, or the total
tell-fits : (t : Table) (w slot : ℕ) → (is_some (total_to_tell t w slot) && not (is_some (total_for t slot))) ≡ false
unfolding total_to_tell
tell-fits t w slot = fits (view_for t w slot).outdated (total_for t slot)
  where
    fits : (o : Bool) (n : Option ℕ) → (is_some (if o then None else n) && not (is_some n)) ≡ false
    fits true n = refl
    fits false None = refl
    fits false (Some m) = refl

-- a telling
pub stands-told : {P T : Type 0} (old new : Table) (keeps : ℕ → Key → Bool) (now : Moment P T) (w : ℕ) (k : Key) (slot : ℕ) → StandsFor old keeps now → key_at old slot ≡ Some k → w < 8 → IsTold old w slot new → StandsFor new keeps (Told w k (total_to_tell old w slot) ∷ now)
unfolding limit_by holds_by known_by outdated_by known
stands-told old new keeps now w k slot st own l h = record {
  sound = snew;
  limits = limits;
  held = λ b j. ap (λ c. c || keeps b j) (subscribed-told b j w k (total_to_tell old w slot) now) ∙ st.held b j ∙ sym (told-held old new w slot k s l own h b j);
  orders = λ b. keys_of-told b w k (total_to_tell old w slot) now ∙ st.orders b ∙ sym (ap (keys_at new) (h.orders b) ∙ keys-agree new old (order_of old b)
      (λ i t. still-named old new slot i h.names (used-agent new b i snew (subscribed-held (hold_for new b i) (sym (snew.ordered b i) ∙ ap (λ xs. has xs i) (h.orders b) ∙ t)))));
  known = knows;
  outdated = λ v j. outdated v j (is_pair v j w k) refl;
  queues = λ v n. queue v n (nat_eq v w) refl;
}
  where
    s : IsSound old
    s = st.sound

    snew : IsSound new
    snew = sound-told old new w slot k s l own h

    own-slot : IsSlotFor old k slot
    own-slot = inl (s.found slot k own)

    m : Moved old new k slot (not (is_used new slot))
    m = kept-moved old new k slot s own h.names

    vacant : key_at old slot ≡ None → ⊥
    vacant v = some-none k (sym own ∙ v)

    elsewhere : (i : ℕ) → nat_eq i slot ≡ false → key_at new i ≡ key_at old i
    elsewhere i e = h.names i ∙ ap (λ c. if c && not (is_used new slot) then None else key_at old i) e

    limits : (b : ℕ) (j : Key) → limit_of b j (Told w k (total_to_tell old w slot) ∷ now) ≡ limit_by new b j
    limits b j = limit_of-quiet b j (Told w k (total_to_tell old w slot)) now refl ∙ st.limits b j ∙ sym (by-same old new k slot (not (is_used new slot)) m (limit_for old b) (limit_for new b) None (λ v. absurd (vacant v)) (λ e. gone-limit new slot snew e b) (λ i. h.limits b i) j)

    knows : (v : ℕ) (j : Key) → known v j (Told w k (total_to_tell old w slot) ∷ now) ≡ known_by new v j
    knows v j =
        ap (λ o. if is_pair v j w k then total_to_tell old w slot else o) (st.known v j)
        ∙ sym (pair-set old new w k slot (not (is_used new slot)) m (λ u i. (view_for old u i).known) (λ u i. (view_for new u i).known) None (total_to_tell old w slot) (λ u v. absurd (vacant v)) (λ u e. ap (λ x. x.known) (gone-view new slot snew e u))
        (λ u i. ap (λ x. x.known) (h.views u i) ∙ elim (is_cell u i w slot) as (λ c. (if c then view_told (total_to_tell old w slot) else view_for old u i).known ≡ (if c then total_to_tell old w slot else (view_for old u i).known)) [ true ↦ refl | false ↦ refl ]) v j)

    new-outdated : (v : ℕ) (j : Key) → outdated_by new v j ≡ (if is_pair v j w k then false else outdated_by old v j)
    new-outdated v j =
        pair-set old new w k slot (not (is_used new slot)) m (λ u i. (view_for old u i).outdated) (λ u i. (view_for new u i).outdated) false false (λ u v. absurd (vacant v)) (λ u e. ap (λ x. x.outdated) (gone-view new slot snew e u))
        (λ u i. ap (λ x. x.outdated) (h.views u i) ∙ elim (is_cell u i w slot) as (λ c. (if c then view_told (total_to_tell old w slot) else view_for old u i).outdated ≡ (if c then false else (view_for old u i).outdated)) [ true ↦ refl | false ↦ refl ]) v j

    told-fits : (is_some (total_to_tell old w slot) && not (wanted k now)) ≡ false
    told-fits = ap (λ c. is_some (total_to_tell old w slot) && not c) (wanted-at old k slot now s (λ b. subscribed-table old keeps now st b k slot own) ∙ sym (total_for-some old slot)) ∙ tell-fits old w slot

    outdated-itself : is_outdated w k (Told w k (total_to_tell old w slot) ∷ now) ≡ false
    outdated-itself = outdated-told w k (total_to_tell old w slot) now (pair_eq-same (w, k)) ∙ told-fits

    outdated : (v : ℕ) (j : Key) (c : Bool) → is_pair v j w k ≡ c → is_outdated v j (Told w k (total_to_tell old w slot) ∷ now) ≡ outdated_by new v j
    outdated v j true e =
        ap (λ (p : ℕ × Key). is_outdated p.0 p.1 (Told w k (total_to_tell old w slot) ∷ now)) (pair_eq-true (v, j) (w, k) e) ∙ outdated-itself
        ∙ sym (new-outdated v j ∙ ap (λ c. if c then false else outdated_by old v j) e)
    outdated v j false e =
        outdated-same v j (Told w k (total_to_tell old w slot)) now e (known-told_other v j w k (total_to_tell old w slot) now e) (wanted-told j w k (total_to_tell old w slot) now) ∙ st.outdated v j
        ∙ sym (new-outdated v j ∙ ap (λ c. if c then false else outdated_by old v j) e)

    differ : differs w k (Told w k (total_to_tell old w slot) ∷ now) ≡ differs_for new w slot
    differ = differs-at new w k slot (Told w k (total_to_tell old w slot) ∷ now)
        (knows w k ∙ by-new old new k slot (not (is_used new slot)) m (λ i. (view_for new w i).known) None (λ e. ap (λ x. x.known) (gone-view new slot snew e w)))
        (outdated w k (is_pair w k w k) refl ∙ by-new old new k slot (not (is_used new slot)) m (λ i. (view_for new w i).outdated) false (λ e. ap (λ x. x.outdated) (gone-view new slot snew e w)))
        (total-at new k slot (Told w k (total_to_tell old w slot) ∷ now) snew (λ b. limits b k ∙ by-new old new k slot (not (is_used new slot)) m (limit_for new b) None (λ e. gone-limit new slot snew e b)))

    queue : (v : ℕ) → v < 8 → (c : Bool) → nat_eq v w ≡ c → by_since newest_key (λ j. is_told v j) (differs v) (Told w k (total_to_tell old w slot) ∷ now) ≡ keys_at new (queue_of new v)
    queue v n true e =
        ap (λ u. by_since newest_key (λ j. is_told u j) (differs u) (Told w k (total_to_tell old w slot) ∷ now)) (equal v w e)
        ∙ differing-told w k (total_to_tell old w slot) now
        ∙ ap (λ ks. filter (λ j. not (key_eq k j)) ks ++ (if differs w k (Told w k (total_to_tell old w slot) ∷ now) then k ∷ [] else [])) (st.queues w l)
        ∙ ap (λ c. filter (λ j. not (key_eq k j)) (keys_at old (queue_of old w)) ++ (if c then k ∷ [] else [])) differ
        ∙ sym (ap (λ u. keys_at new (queue_of new u)) (equal v w e) ∙ ap (keys_at new) (h.queues w ∙ ap (λ c. if c then queued_again (queue_of old w) slot (differs_for new w slot) else queue_of old w) (same w))
        ∙ keys-again new old k slot (queue_of old w) (differs_for new w slot) (own-queue old k slot w s own-slot l) elsewhere (λ f. still-named old new slot slot h.names (differs-used new w slot snew f) ∙ own))
    queue v n false e =
        differing-told_other v w k (total_to_tell old w slot) now e ∙ st.queues v n
        ∙ sym (ap (keys_at new) same_queue ∙ keys-agree new old (queue_of old v) (λ i t. still-named old new slot i h.names (differs-used new v i snew (sym (snew.queued v i n) ∙ ap (λ xs. has xs i) same_queue ∙ t))))
      where
        same_queue : queue_of new v ≡ queue_of old v
        same_queue = h.queues v ∙ ap (λ c. if c then queued_again (queue_of old v) slot (differs_for new v slot) else queue_of old v) e

-- nothing but the room changes
pub stands-same : {P T : Type 0} (old new : Table) (keeps : ℕ → Key → Bool) (now : Moment P T) → StandsFor old keeps now → IsSame old new → StandsFor new keeps now
unfolding limit_by holds_by known_by outdated_by
stands-same old new keeps now st h = record {
  sound = sound-same old new st.sound h;
  limits = λ a k. st.limits a k ∙ sym (by-finds k (limit_for old a) (limit_for new a) None (h.limits a));
  held = λ a k. st.held a k ∙ sym (by-finds k (λ i. is_held (hold_for old a i)) (λ i. is_held (hold_for new a i)) false (λ i. ap is_held (h.holds a i)));
  orders = λ a. st.orders a ∙ sym (ap (keys_at new) (h.orders a) ∙ keys-agree new old (order_of old a) (λ i t. h.names i));
  known = λ w k. st.known w k ∙ sym (by-finds k (λ i. (view_for old w i).known) (λ i. (view_for new w i).known) None (λ i. ap (λ x. x.known) (h.views w i)));
  outdated = λ w k. st.outdated w k ∙ sym (by-finds k (λ i. (view_for old w i).outdated) (λ i. (view_for new w i).outdated) false (λ i. ap (λ x. x.outdated) (h.views w i)));
  queues = λ w l. st.queues w l ∙ sym (ap (keys_at new) (h.queues w) ∙ keys-agree new old (queue_of old w) (λ i t. h.names i));
}
  where
    at-each : {X : Type 0} (o : Option ℕ) (f g : ℕ → X) (d : X) → ((i : ℕ) → g i ≡ f i) → by o g d ≡ by o f d
    at-each None f g d e = refl
    at-each (Some i) f g d e = e i

    by-finds : {X : Type 0} (k : Key) (f g : ℕ → X) (d : X) → ((i : ℕ) → g i ≡ f i) → by (slot_for new k) g d ≡ by (slot_for old k) f d
    by-finds k f g d e = ap (λ o. by o g d) (h.finds k) ∙ at-each (slot_for old k) f g d e

-- other pairs are said to be kept, and yet the same are held
pub stands-keeps : {P T : Type 0} (t : Table) (keeps keeps' : ℕ → Key → Bool) (now : Moment P T) → StandsFor t keeps now → ((a : ℕ) (k : Key) → (subscribed a k now || keeps' a k) ≡ (subscribed a k now || keeps a k)) → StandsFor t keeps' now
stands-keeps t keeps keeps' now st h = record {
  sound = st.sound;
  limits = st.limits;
  held = λ a k. h a k ∙ st.held a k;
  orders = st.orders;
  known = st.known;
  outdated = st.outdated;
  queues = st.queues;
}

-- an act that is no subscription, no end of one and no telling
pub stands-quiet : {P T : Type 0} (t : Table) (keeps : ℕ → Key → Bool) (act : Act P T) (now : Moment P T) → ((a : ℕ) (k : Key) → limit_of a k (act ∷ now) ≡ limit_of a k now) → ((w : ℕ) (k : Key) → known w k (act ∷ now) ≡ known w k now) → ((w : ℕ) (k : Key) → is_told w k act ≡ false) →
    StandsFor t keeps now → StandsFor t keeps (act ∷ now)
stands-quiet t keeps act now limit knows untold st = record {
  sound = st.sound;
  limits = λ a k. limit a k ∙ st.limits a k;
  held = λ a k. ap (λ c. c || keeps a k) (subs a k) ∙ st.held a k;
  orders = λ a. by_since-same newest_key (subscribed a) act now (λ k. subs a k) ∙ st.orders a;
  known = λ w k. knows w k ∙ st.known w k;
  outdated = λ w k. outdated w k ∙ st.outdated w k;
  queues = λ w l. differing-same w act now (λ k. differs-same w k act now (knows w k) (total-same k act now (λ a. limit a k)) (outdated w k)) (λ k. untold w k) ∙ st.queues w l;
}
  where
    subs : (a : ℕ) (k : Key) → subscribed a k (act ∷ now) ≡ subscribed a k now
    subs a k = subscribed-limit a k (act ∷ now) (limit_of a k now) (limit a k) ∙ sym (subscribed-limit a k now (limit_of a k now) refl)

    outdated : (w : ℕ) (k : Key) → is_outdated w k (act ∷ now) ≡ is_outdated w k now
    outdated w k = outdated-same w k act now (untold w k) (knows w k) (wanted-same k act now (λ a. subs a k))

pub stands-came : {P T : Type 0} (t : Table) (keeps : ℕ → Key → Bool) (k : Key) (item : P) (now : Moment P T) → StandsFor t keeps now → StandsFor t keeps (Came k item ∷ now)
unfolding limit_of known
stands-came t keeps k item now st = stands-quiet t keeps (Came k item) now (λ a j. refl) (λ w j. refl) (λ w j. refl) st

pub stands-gave : {P T : Type 0} (t : Table) (keeps : ℕ → Key → Bool) (a : ℕ) (k : Key) (item : T) (now : Moment P T) → StandsFor t keeps now → StandsFor t keeps (Gave a k item ∷ now)
unfolding limit_of known
stands-gave t keeps a k item now st = stands-quiet t keeps (Gave a k item) now (λ a j. refl) (λ w j. refl) (λ w j. refl) st

pub stands-closed : {P T : Type 0} (t : Table) (keeps : ℕ → Key → Bool) (a : ℕ) (now : Moment P T) → StandsFor t keeps now → StandsFor t keeps (Closed a ∷ now)
unfolding limit_of known
stands-closed t keeps a now st = stands-quiet t keeps (Closed a) now (λ a j. refl) (λ w j. refl) (λ w j. refl) st

pub stands-full : {P T : Type 0} (t : Table) (keeps : ℕ → Key → Bool) (a : ℕ) (k : Key) (now : Moment P T) → StandsFor t keeps now → StandsFor t keeps (Full a k ∷ now)
unfolding limit_of known
stands-full t keeps a k now st = stands-quiet t keeps (Full a k) now (λ a j. refl) (λ w j. refl) (λ w j. refl) st
