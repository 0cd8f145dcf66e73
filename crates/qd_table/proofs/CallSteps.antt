-- Each call changes one slot, and leaves a sound table.
use Rattle.std.proofs.Common.{◌≡◌, ◌⊎◌, inl, inr, ℕ, ◌<◌, ◌≤◌, ◌+◌, ◌-◌, Bool, true, false, ◌&&◌, ◌||◌, not, if◌then◌else◌, nat_eq, Option, Some, None, is_some, List, length, refl, ap, sym, ◌∙◌, arith, subst}
use Rattle.std.proofs.lemmas.Bool.Decides.{nat_tests}
use Rattle.std.specs.List.{list_any}
use Rattle.std.proofs.Math.Bool.{and-false, and-true}
use Rattle.std.proofs.lemmas.Bool.{not-true}
use Rattle.qd_scheme.specs.declared.key.Key.{Key}
use Rattle.qd_scheme.specs.Keys.{key_eq}
use Rattle.qd_scheme.proofs.KeyLaws.{key_eq-true}
use Rattle.qd_sub.proofs.StepLaws.{pair_eq-true}
use Rattle.qd_sub.specs.Acts.{is_pair}
use Rattle.qd_pend.specs.Slots.{has, without, EachOnce}
use Rattle.qd_pend.proofs.ListLaws.{same, equal}
use Rattle.qd_slots.specs.declared.holds.Hold.{Hold}
use Rattle.qd_slots.specs.declared.holds.Hold.TheVariants.{Free, Kept, Subscribed}
use Rattle.qd_slots.specs.declared.views.View.{View}
use Rattle.qd_slots.specs.Holds.{is_subscribed, is_held, is_kept, after_end, less_by}
use Rattle.qd_slots.specs.Views.{view_after, view_told, queued, queued_again}
use Rattle.qd_slots.proofs.NameLaws.{below-or-not}
use Rattle.qd_slots.proofs.ViewLaws.{queued-out}
use Rattle.qd_table.specs.Tables.{Table, key_at, slot_for, hold_for, limit_for, total_for, order_of, pairs_in, view_for, queue_of, differs_for, total_to_tell, is_used, holds_by}
use Rattle.qd_table.specs.Steps.{is_cell, KeepsUsed, IsSame, IsSubscribed, IsEnded, IsLetGo, IsTold}
use Rattle.qd_table.specs.Sound.{IsSound, EachPairOnce}
use Rattle.qd_table.proofs.TableLaws.{true-false, by, Moved, moved, by-moved, by-own, by-same, unused, unused-hold, subscribed-held}
use Rattle.qd_table.proofs.ListLaws.{queued-as}
use Rattle.qd_table.proofs.SoundSteps.{IsStep, total_for-same, differs_for-same, is_used-same, used-held, sound-step, counted-same, counted-more, counted-less}

pub cell-elsewhere : (b i a slot : ℕ) → nat_eq i slot ≡ false → is_cell b i a slot ≡ false
cell-elsewhere b i a slot e = ap (λ c. nat_eq b a && c) e ∙ and-false (nat_eq b a)

pub cell-here : (b a slot : ℕ) → is_cell b slot a slot ≡ nat_eq b a
cell-here b a slot = ap (λ c. nat_eq b a && c) (same slot) ∙ and-true (nat_eq b a)

-- other agents than a
far : (a b : ℕ) → a < 128 → 128 ≤ b → nat_eq b a ≡ false
far a b l m = grind (arith, nat_tests)

far_watcher : (v w : ℕ) → w < 8 → 8 ≤ v → nat_eq v w ≡ false
far_watcher v w l m = grind (arith, nat_tests)

pub agent-within : (t : Table) (a slot : ℕ) → IsSound t → is_held (hold_for t a slot) ≡ true → a < 128
agent-within t a slot s h = elim (below-or-not a 128) [
  | inl l ↦ l
  | inr m ↦ absurd (true-false (sym h ∙ ap is_held (s.agents a slot m)))
]

-- a subscription
pub subscribed-moved : (old new : Table) (a : ℕ) (k : Key) (limit slot : ℕ) → IsSound old → IsSubscribed old a k limit slot new → Moved old new k slot false
subscribed-moved old new a k limit slot s h = moved old new k slot false s h.found
    (λ i e. h.names i ∙ ap (λ c. if c then Some k else key_at old i) e)
    (h.names slot ∙ ap (λ c. if c then Some k else key_at old slot) (same slot))

subscribed-hold : (old new : Table) (a : ℕ) (k : Key) (limit slot b : ℕ) → IsSubscribed old a k limit slot new → hold_for new b slot ≡ (if nat_eq b a then Subscribed else hold_for old b slot)
subscribed-hold old new a k limit slot b h = h.holds b slot ∙ ap (λ c. if c then Subscribed else hold_for old b slot) (cell-here b a slot)

pub subscribed-step : (old new : Table) (a : ℕ) (k : Key) (limit slot : ℕ) → IsSound old → a < 128 → IsSubscribed old a k limit slot new → IsStep old new slot
subscribed-step old new a k limit slot s l h = record {
  names = λ i e. h.names i ∙ ap (λ c. if c then Some k else key_at old i) e;
  holds = λ b i e. h.holds b i ∙ ap (λ c. if c then Subscribed else hold_for old b i) (cell-elsewhere b i a slot e);
  limits = λ b i e. h.limits b i ∙ ap (λ c. if c then Some limit else limit_for old b i) (cell-elsewhere b i a slot e);
  views = λ w i e. h.views w i;
  orders = λ b. h.orders b ∙ order b (nat_eq b a) refl;
  queues = λ w l. inl (h.queues w l);
  used = ap is_some (h.names slot ∙ ap (λ c. if c then Some k else key_at old slot) (same slot)) ∙ sym (used-held new a slot l (ap is_held (subscribed-hold old new a k limit slot a h ∙ ap (λ c. if c then Subscribed else hold_for old a slot) (same a))));
  agents = λ b m. subscribed-hold old new a k limit slot b h ∙ ap (λ c. if c then Subscribed else hold_for old b slot) (far a b l m) ∙ s.agents b slot m;
  watchers = λ w m. h.views w slot ∙ s.watchers w slot m;
  outdated = λ w o. ap (λ v. is_some v.known) (h.views w slot) ∙ s.outdated w slot (sym (ap (λ v. v.outdated) (h.views w slot)) ∙ o);
}
  where
    order : (b : ℕ) (c : Bool) → nat_eq b a ≡ c → (if c then queued (order_of old b) slot true else order_of old b) ≡ queued (order_of old b) slot (is_subscribed (hold_for new b slot))
    order b true e = ap (queued (order_of old b) slot) (sym (ap is_subscribed (subscribed-hold old new a k limit slot b h ∙ ap (λ c. if c then Subscribed else hold_for old b slot) e)))
    order b false e = sym (queued-as (order_of old b) slot) ∙ ap (queued (order_of old b) slot) (s.ordered b slot ∙ sym (ap is_subscribed (subscribed-hold old new a k limit slot b h ∙ ap (λ c. if c then Subscribed else hold_for old b slot) e)))

-- what is said of each agent (or watcher) and slot, said of each key, where one of them sees another value
pub pair-set : {X : Type 0} (old new : Table) (a : ℕ) (k : Key) (slot : ℕ) (gone : Bool) → Moved old new k slot gone → (f g : ℕ → ℕ → X) (d x : X) → ((b : ℕ) → key_at old slot ≡ None → f b slot ≡ d) → ((b : ℕ) → gone ≡ true → g b slot ≡ d) →
    ((b i : ℕ) → g b i ≡ (if is_cell b i a slot then x else f b i)) → (b : ℕ) (j : Key) → by (slot_for new j) (g b) d ≡ (if is_pair b j a k then x else by (slot_for old j) (f b) d)
pair-set old new a k slot gone m f g d x vacant vacated h b j =
    by-moved old new k slot gone m (f b) (g b) d (vacated b) (λ i e. h b i ∙ ap (λ c. if c then x else f b i) (cell-elsewhere b i a slot e)) j
    ∙ ap (λ y. if key_eq j k then y else by (slot_for old j) (f b) d) (h b slot ∙ ap (λ c. if c then x else f b slot) (cell-here b a slot))
    ∙ (let go : (c e : Bool) → key_eq j k ≡ c → nat_eq b a ≡ e → (if c then (if e then x else f b slot) else by (slot_for old j) (f b) d) ≡ (if e && c then x else by (slot_for old j) (f b) d) =
    elim [
      | true ↦ elim [
        | true ↦ λ p q. refl
        | false ↦ λ p q. sym (by-own old new k slot gone m (f b) d (vacant b)) ∙ ap (λ y. by (slot_for old y) (f b) d) (sym (key_eq-true j k p))
      ]
      | false ↦ elim [ true ↦ λ p q. refl | false ↦ λ p q. refl ]
    ] in
    go (key_eq j k) (nat_eq b a) refl refl)

-- whom a key is held by, once a pair is held so
pub held-set : (old new : Table) (a : ℕ) (k : Key) (slot : ℕ) (gone held : Bool) → IsSound old → Moved old new k slot gone → (gone ≡ true → (b : ℕ) → is_held (hold_for new b slot) ≡ false) → ((b i : ℕ) → is_held (hold_for new b i) ≡ (if is_cell b i a slot then held else is_held (hold_for old b i))) →
    (b : ℕ) (j : Key) → holds_by new b j ≡ (if is_pair b j a k then held else holds_by old b j)
unfolding holds_by
held-set old new a k slot gone held s m vacated h b j =
    pair-set old new a k slot gone m (λ c i. is_held (hold_for old c i)) (λ c i. is_held (hold_for new c i)) false held (λ c v. ap is_held (unused-hold old c slot s (unused old slot s v))) (λ c e. vacated e c) h b j

-- of an unused slot nobody has anything
unheld : (t : Table) (slot : ℕ) → is_used t slot ≡ false → (b : ℕ) → (128 ≤ b → hold_for t b slot ≡ Free) → is_held (hold_for t b slot) ≡ false
unheld t slot u b out = elim (below-or-not b 128) [
  | inl l ↦ (let go : (c : Bool) → is_held (hold_for t b slot) ≡ c → is_held (hold_for t b slot) ≡ false =
      elim [ true ↦ λ e. absurd (true-false (sym (used-held t b slot l e) ∙ u)) | false ↦ λ e. e ] in go (is_held (hold_for t b slot)) refl)
  | inr m ↦ ap is_held (out m)
]

pub sound-subscribed : (old new : Table) (a : ℕ) (k : Key) (limit slot : ℕ) → IsSound old → a < 128 → IsSubscribed old a k limit slot new → IsSound new
unfolding holds_by
sound-subscribed old new a k limit slot s l h =
    let m = subscribed-moved old new a k limit slot s h in
    let set = held-set old new a k slot false true s m (λ e. absurd (true-false (sym e))) (λ b i. ap is_held (h.holds b i) ∙ held_if (is_cell b i a slot) (hold_for old b i)) in
    sound-step old new slot s (subscribed-step old new a k limit slot s l h) m.found
    (counted-more old new a k s (λ b j. set b j ∙ or_if (is_pair b j a k) (holds_by old b j))
    (h.pairs ∙ ap (λ c. if c then pairs_in old else pairs_in old + 1) (sym (by-own old new k slot false m (λ i. is_held (hold_for old a i)) false (λ v. ap is_held (unused-hold old a slot s (unused old slot s v)))))))
  where
    held_if : (c : Bool) (hold : Hold) → is_held (if c then Subscribed else hold) ≡ (if c then true else is_held hold)
    held_if true hold = refl
    held_if false hold = refl

    or_if : (c d : Bool) → (if c then true else d) ≡ (c || d)
    or_if true d = refl
    or_if false d = refl

-- the slot keeps its key as long as it is used
pub kept-moved : (old new : Table) (k : Key) (slot : ℕ) → IsSound old → key_at old slot ≡ Some k → KeepsUsed old slot new → Moved old new k slot (not (is_used new slot))
kept-moved old new k slot s own h = moved old new k slot (not (is_used new slot)) s (inl (s.found slot k own))
    (λ i e. h i ∙ ap (λ c. if c && not (is_used new slot) then None else key_at old i) e)
    (h slot ∙ ap (λ c. if c && not (is_used new slot) then None else key_at old slot) (same slot) ∙ ap (λ o. if not (is_used new slot) then None else o) own)

kept-used : (old new : Table) (k : Key) (slot : ℕ) → key_at old slot ≡ Some k → KeepsUsed old slot new → is_some (key_at new slot) ≡ is_used new slot
kept-used old new k slot own h =
    ap is_some (h slot ∙ ap (λ c. if c && not (is_used new slot) then None else key_at old slot) (same slot) ∙ ap (λ o. if not (is_used new slot) then None else o) own)
    ∙ elim (is_used new slot) as (λ c. is_some (if not c then None else Some k) ≡ c) [ true ↦ refl | false ↦ refl ]

kept-names : (old new : Table) (slot : ℕ) → KeepsUsed old slot new → (i : ℕ) → nat_eq i slot ≡ false → key_at new i ≡ key_at old i
kept-names old new slot h i e = h i ∙ ap (λ c. if c && not (is_used new slot) then None else key_at old i) e

-- the end of a subscription
pub ended-hold : (old new : Table) (a slot : ℕ) (keep : Bool) (b : ℕ) → IsEnded old a slot keep new → hold_for new b slot ≡ (if nat_eq b a then after_end keep else hold_for old b slot)
ended-hold old new a slot keep b h = h.holds b slot ∙ ap (λ c. if c then after_end keep else hold_for old b slot) (cell-here b a slot)

none-after : (keep : Bool) → is_subscribed (after_end keep) ≡ false
none-after true = refl
none-after false = refl

after-held : (keep : Bool) → is_held (after_end keep) ≡ keep
after-held true = refl
after-held false = refl

view-kept : (v : View) (total : Option ℕ) → (v.outdated ≡ true → is_some v.known ≡ true) → (view_after v total).outdated ≡ true → is_some (view_after v total).known ≡ true
view-kept v total h o = both v.outdated (is_some v.known) (not (is_some total)) h o
  where
    both : (p q r : Bool) → (p ≡ true → q ≡ true) → (p || (q && r)) ≡ true → q ≡ true
    both true q r f g = f refl
    both false true r f g = refl
    both false false r f g = g

pub ended-step : (old new : Table) (a : ℕ) (k : Key) (slot : ℕ) (keep : Bool) → IsSound old → key_at old slot ≡ Some k → a < 128 → IsEnded old a slot keep new → IsStep old new slot
ended-step old new a k slot keep s own l h = record {
  names = kept-names old new slot h.names;
  holds = λ b i e. h.holds b i ∙ ap (λ c. if c then after_end keep else hold_for old b i) (cell-elsewhere b i a slot e);
  limits = λ b i e. h.limits b i ∙ ap (λ c. if c then None else limit_for old b i) (cell-elsewhere b i a slot e);
  views = λ w i e. h.views w i ∙ ap (λ c. if c then view_after (view_for old w i) (total_for new slot) else view_for old w i) e;
  orders = λ b. h.orders b ∙ order b (nat_eq b a) refl;
  queues = λ w l. inl (h.queues w l);
  used = kept-used old new k slot own h.names;
  agents = λ b m. ended-hold old new a slot keep b h ∙ ap (λ c. if c then after_end keep else hold_for old b slot) (far a b l m) ∙ s.agents b slot m;
  watchers = λ w m. view_here w ∙ ap (λ v. view_after v (total_for new slot)) (s.watchers w slot m);
  outdated = λ w o. ap (λ v. is_some v.known) (view_here w) ∙ view-kept (view_for old w slot) (total_for new slot) (s.outdated w slot) (sym (ap (λ v. v.outdated) (view_here w)) ∙ o);
}
  where
    view_here : (w : ℕ) → view_for new w slot ≡ view_after (view_for old w slot) (total_for new slot)
    view_here w = h.views w slot ∙ ap (λ c. if c then view_after (view_for old w slot) (total_for new slot) else view_for old w slot) (same slot)

    order : (b : ℕ) (c : Bool) → nat_eq b a ≡ c → (if c then without (order_of old b) slot else order_of old b) ≡ queued (order_of old b) slot (is_subscribed (hold_for new b slot))
    order b true e = sym (queued-out (order_of old b) slot) ∙ ap (queued (order_of old b) slot) (sym (ap is_subscribed (ended-hold old new a slot keep b h ∙ ap (λ c. if c then after_end keep else hold_for old b slot) e) ∙ none-after keep))
    order b false e = sym (queued-as (order_of old b) slot) ∙ ap (queued (order_of old b) slot) (s.ordered b slot ∙ sym (ap is_subscribed (ended-hold old new a slot keep b h ∙ ap (λ c. if c then after_end keep else hold_for old b slot) e)))

held_if : (c : Bool) (new old : Hold) → is_held (if c then new else old) ≡ (if c then is_held new else is_held old)
held_if true new old = refl
held_if false new old = refl

pub ended-held : (old new : Table) (a : ℕ) (k : Key) (slot : ℕ) (keep : Bool) → IsSound old → key_at old slot ≡ Some k → a < 128 → IsEnded old a slot keep new → (b : ℕ) (j : Key) → holds_by new b j ≡ (if is_pair b j a k then keep else holds_by old b j)
ended-held old new a k slot keep s own l h =
    let step = ended-step old new a k slot keep s own l h in
    held-set old new a k slot (not (is_used new slot)) keep s (kept-moved old new k slot s own h.names) (λ e b. unheld new slot (not-true (is_used new slot) e) b (step.agents b))
    (λ b i. ap is_held (h.holds b i) ∙ held_if (is_cell b i a slot) (after_end keep) (hold_for old b i) ∙ ap (λ c. if is_cell b i a slot then c else is_held (hold_for old b i)) (after-held keep))

holds-here : (t : Table) (a : ℕ) (k : Key) (slot : ℕ) → slot_for t k ≡ Some slot → holds_by t a k ≡ is_held (hold_for t a slot)
unfolding holds_by
holds-here t a k slot e = ap (λ o. by o (λ i. is_held (hold_for t a i)) false) e

pub sound-ended : (old new : Table) (a slot : ℕ) (keep : Bool) → IsSound old → is_subscribed (hold_for old a slot) ≡ true → (k : Key) → key_at old slot ≡ Some k → IsEnded old a slot keep new → IsSound new
sound-ended old new a slot keep s sub k own h =
    let t : is_held (hold_for old a slot) ≡ true = subscribed-held (hold_for old a slot) sub in
    let l = agent-within old a slot s t in
    let set = ended-held old new a k slot keep s own l h in
    let there : holds_by old a k ≡ true = holds-here old a k slot (s.found slot k own) ∙ t in
    sound-step old new slot s (ended-step old new a k slot keep s own l h) (kept-moved old new k slot s own h.names).found (count keep set there h.pairs)
  where
    count : (c : Bool) → ((b : ℕ) (j : Key) → holds_by new b j ≡ (if is_pair b j a k then c else holds_by old b j)) → holds_by old a k ≡ true → pairs_in new ≡ less_by c (pairs_in old) →
        (ps : List (ℕ × Key)) → EachPairOnce ps → ((b : ℕ) (j : Key) → list_any (λ q. is_pair b j q.0 q.1) ps ≡ holds_by new b j) → length ps ≡ pairs_in new
    count true set there e = counted-same old new s (λ b j. set b j ∙ (let go : (d : Bool) → is_pair b j a k ≡ d → (if d then true else holds_by old b j) ≡ holds_by old b j =
        elim [ true ↦ λ f. sym (ap (λ (p : ℕ × Key). holds_by old p.0 p.1) (pair_eq-true (b, j) (a, k) f) ∙ there) | false ↦ λ f. refl ] in go (is_pair b j a k) refl)) e
    count false set there e = counted-less old new a k s there (λ b j. set b j ∙ elim (is_pair b j a k) as (λ d. (if d then false else holds_by old b j) ≡ (not d && holds_by old b j)) [ true ↦ refl | false ↦ refl ]) e

-- what was kept is let go
go-hold : (old new : Table) (a slot b : ℕ) → IsLetGo old a slot new → hold_for new b slot ≡ (if nat_eq b a && is_kept (hold_for old b slot) then Free else hold_for old b slot)
go-hold old new a slot b h = h.holds b slot ∙ ap (λ c. if c && is_kept (hold_for old b slot) then Free else hold_for old b slot) (cell-here b a slot)

free-if : (c : Bool) (hold : Hold) → is_subscribed (if c && is_kept hold then Free else hold) ≡ is_subscribed hold
free-if true Free = refl
free-if true Kept = refl
free-if true Subscribed = refl
free-if false hold = refl

none-free : (c : Bool) (hold : Hold) → hold ≡ Free → (if c && is_kept hold then Free else hold) ≡ Free
none-free true hold e = rw e refl
none-free false hold e = e

pub go-step : (old new : Table) (a : ℕ) (k : Key) (slot : ℕ) → IsSound old → key_at old slot ≡ Some k → IsLetGo old a slot new → IsStep old new slot
go-step old new a k slot s own h = record {
  names = kept-names old new slot h.names;
  holds = λ b i e. h.holds b i ∙ ap (λ c. if c && is_kept (hold_for old b i) then Free else hold_for old b i) (cell-elsewhere b i a slot e);
  limits = λ b i e. h.limits b i;
  views = λ w i e. h.views w i;
  orders = λ b. h.orders b ∙ sym (queued-as (order_of old b) slot) ∙ ap (queued (order_of old b) slot) (s.ordered b slot ∙ sym (ap is_subscribed (go-hold old new a slot b h) ∙ free-if (nat_eq b a) (hold_for old b slot)));
  queues = λ w l. inl (h.queues w ∙ sym (queued-as (queue_of old w) slot) ∙ ap (queued (queue_of old w) slot) (s.queued w slot l ∙ sym (differs_for-same old new w slot (h.views w slot) (total_for-same old new slot (λ b. h.limits b slot)))));
  used = kept-used old new k slot own h.names;
  agents = λ b m. go-hold old new a slot b h ∙ none-free (nat_eq b a) (hold_for old b slot) (s.agents b slot m);
  watchers = λ w m. h.views w slot ∙ s.watchers w slot m;
  outdated = λ w o. ap (λ v. is_some v.known) (h.views w slot) ∙ s.outdated w slot (sym (ap (λ v. v.outdated) (h.views w slot)) ∙ o);
}

-- a pair that is kept is held no more, all others as before
pub go-held : (old new : Table) (a : ℕ) (k : Key) (slot : ℕ) → IsSound old → key_at old slot ≡ Some k → IsLetGo old a slot new → (b : ℕ) (j : Key) → holds_by new b j ≡ (if is_pair b j a k then is_subscribed (hold_for old a slot) else holds_by old b j)
go-held old new a k slot s own h =
    let step = go-step old new a k slot s own h in
    held-set old new a k slot (not (is_used new slot)) (is_subscribed (hold_for old a slot)) s (kept-moved old new k slot s own h.names) (λ e b. unheld new slot (not-true (is_used new slot) e) b (step.agents b))
    (λ b i. ap is_held (h.holds b i) ∙ left (nat_eq b a) (nat_eq i slot) b i refl refl)
  where
    freed : (hold : Hold) → is_held (if is_kept hold then Free else hold) ≡ is_subscribed hold
    freed Free = refl
    freed Kept = refl
    freed Subscribed = refl

    left : (c d : Bool) (b i : ℕ) → nat_eq b a ≡ c → nat_eq i slot ≡ d → is_held (if (c && d) && is_kept (hold_for old b i) then Free else hold_for old b i) ≡ (if c && d then is_subscribed (hold_for old a slot) else is_held (hold_for old b i))
    left true true b i e f = freed (hold_for old b i) ∙ ap (λ x. is_subscribed (hold_for old x i)) (equal b a e) ∙ ap (λ x. is_subscribed (hold_for old a x)) (equal i slot f)
    left true false b i e f = refl
    left false true b i e f = refl
    left false false b i e f = refl

pub sound-let_go : (old new : Table) (a slot : ℕ) → IsSound old → (k : Key) → key_at old slot ≡ Some k → IsLetGo old a slot new → IsSound new
sound-let_go old new a slot s k own h =
    let set = go-held old new a k slot s own h in
    sound-step old new slot s (go-step old new a k slot s own h) (kept-moved old new k slot s own h.names).found (count (hold_for old a slot) refl set h.pairs)
  where
    own_same : (b : ℕ) (j : Key) (c : Bool) → holds_by old a k ≡ c → (if is_pair b j a k then c else holds_by old b j) ≡ holds_by old b j
    own_same b j c t = let go : (d : Bool) → is_pair b j a k ≡ d → (if d then c else holds_by old b j) ≡ holds_by old b j =
        elim [ true ↦ λ f. sym (ap (λ (p : ℕ × Key). holds_by old p.0 p.1) (pair_eq-true (b, j) (a, k) f) ∙ t) | false ↦ λ f. refl ] in go (is_pair b j a k) refl

    count : (hold : Hold) → hold_for old a slot ≡ hold → ((b : ℕ) (j : Key) → holds_by new b j ≡ (if is_pair b j a k then is_subscribed hold else holds_by old b j)) → pairs_in new ≡ (if is_kept hold then pairs_in old - 1 else pairs_in old) →
        (ps : List (ℕ × Key)) → EachPairOnce ps → ((b : ℕ) (j : Key) → list_any (λ q. is_pair b j q.0 q.1) ps ≡ holds_by new b j) → length ps ≡ pairs_in new
    count Kept f set e = counted-less old new a k s (holds-here old a k slot (s.found slot k own) ∙ ap is_held f) (λ b j. set b j ∙ elim (is_pair b j a k) as (λ d. (if d then false else holds_by old b j) ≡ (not d && holds_by old b j)) [ true ↦ refl | false ↦ refl ]) e
    count Free f set e = counted-same old new s (λ b j. set b j ∙ own_same b j false (holds-here old a k slot (s.found slot k own) ∙ ap is_held f)) e
    count Subscribed f set e = counted-same old new s (λ b j. set b j ∙ own_same b j true (holds-here old a k slot (s.found slot k own) ∙ ap is_held f)) e

-- a telling
pub told-view : (old new : Table) (w slot v : ℕ) (told : Option ℕ) → (let x : Option ℕ = told in view_for new v slot ≡ (if is_cell v slot w slot then view_told x else view_for old v slot)) → view_for new v slot ≡ (if nat_eq v w then view_told told else view_for old v slot)
told-view old new w slot v told e = e ∙ ap (λ c. if c then view_told told else view_for old v slot) (cell-here v w slot)

pub told-step : (old new : Table) (w slot : ℕ) (k : Key) → IsSound old → w < 8 → key_at old slot ≡ Some k → IsTold old w slot new → IsStep old new slot
told-step old new w slot k s l own h = record {
  names = kept-names old new slot h.names;
  holds = λ b i e. h.holds b i;
  limits = λ b i e. h.limits b i;
  views = λ v i e. h.views v i ∙ ap (λ c. if c then view_told (total_to_tell old w slot) else view_for old v i) (cell-elsewhere v i w slot e);
  orders = λ b. h.orders b ∙ sym (queued-as (order_of old b) slot) ∙ ap (queued (order_of old b) slot) (s.ordered b slot ∙ sym (ap is_subscribed (h.holds b slot)));
  queues = λ v m. queue v m (nat_eq v w) refl;
  used = kept-used old new k slot own h.names;
  agents = λ b m. h.holds b slot ∙ s.agents b slot m;
  watchers = λ v m. told-view old new w slot v (total_to_tell old w slot) (h.views v slot) ∙ ap (λ c. if c then view_told (total_to_tell old w slot) else view_for old v slot) (far_watcher v w l m) ∙ s.watchers v slot m;
  outdated = λ v o. out v o (nat_eq v w) refl;
}
  where
    queue : (v : ℕ) → v < 8 → (c : Bool) → nat_eq v w ≡ c → (queue_of new v ≡ queued (queue_of old v) slot (differs_for new v slot)) ⊎ (queue_of new v ≡ queued_again (queue_of old v) slot (differs_for new v slot))
    queue v m true e = inr (h.queues v ∙ ap (λ c. if c then queued_again (queue_of old v) slot (differs_for new v slot) else queue_of old v) e)
    queue v m false e = inl (h.queues v ∙ ap (λ c. if c then queued_again (queue_of old v) slot (differs_for new v slot) else queue_of old v) e
        ∙ sym (queued-as (queue_of old v) slot) ∙ ap (queued (queue_of old v) slot) (s.queued v slot m ∙ sym (differs_for-same old new v slot (told-view old new w slot v (total_to_tell old w slot) (h.views v slot) ∙ ap (λ c. if c then view_told (total_to_tell old w slot) else view_for old v slot) e) (total_for-same old new slot (λ b. h.limits b slot)))))

    out : (v : ℕ) → (view_for new v slot).outdated ≡ true → (c : Bool) → nat_eq v w ≡ c → is_some (view_for new v slot).known ≡ true
    out v o true e = absurd (true-false (sym o ∙ ap (λ x. x.outdated) (told-view old new w slot v (total_to_tell old w slot) (h.views v slot) ∙ ap (λ c. if c then view_told (total_to_tell old w slot) else view_for old v slot) e)))
    out v o false e = let f = told-view old new w slot v (total_to_tell old w slot) (h.views v slot) ∙ ap (λ c. if c then view_told (total_to_tell old w slot) else view_for old v slot) e in
        ap (λ x. is_some x.known) f ∙ s.outdated v slot (sym (ap (λ x. x.outdated) f) ∙ o)

pub told-held : (old new : Table) (w slot : ℕ) (k : Key) → IsSound old → w < 8 → key_at old slot ≡ Some k → IsTold old w slot new → (b : ℕ) (j : Key) → holds_by new b j ≡ holds_by old b j
unfolding holds_by
told-held old new w slot k s l own h b j =
    let step = told-step old new w slot k s l own h in
    by-same old new k slot (not (is_used new slot)) (kept-moved old new k slot s own h.names) (λ i. is_held (hold_for old b i)) (λ i. is_held (hold_for new b i)) false
    (λ v. ap is_held (unused-hold old b slot s (unused old slot s v))) (λ e. unheld new slot (not-true (is_used new slot) e) b (step.agents b)) (λ i. ap is_held (h.holds b i)) j

pub sound-told : (old new : Table) (w slot : ℕ) (k : Key) → IsSound old → w < 8 → key_at old slot ≡ Some k → IsTold old w slot new → IsSound new
sound-told old new w slot k s l own h =
    sound-step old new slot s (told-step old new w slot k s l own h) (kept-moved old new k slot s own h.names).found (counted-same old new s (told-held old new w slot k s l own h) h.pairs)

-- nothing but the room changes
pub sound-same : (old new : Table) → IsSound old → IsSame old new → IsSound new
unfolding holds_by
sound-same old new s h = record {
  found = λ i k e. h.finds k ∙ s.found i k (sym (h.names i) ∙ e);
  used = λ i. ap is_some (h.names i) ∙ s.used i ∙ sym (is_used-same old new i (λ b. ap is_held (h.holds b i)) (λ w. ap (λ v. v.known) (h.views w i)));
  agents = λ a i m. h.holds a i ∙ s.agents a i m;
  watchers = λ w i m. h.views w i ∙ s.watchers w i m;
  ordered = λ a i. ap (λ xs. has xs i) (h.orders a) ∙ s.ordered a i ∙ sym (ap is_subscribed (h.holds a i));
  ordered_once = λ a. subst (λ (xs : List ℕ). EachOnce xs) (sym (h.orders a)) (s.ordered_once a);
  queued = λ w i l. ap (λ xs. has xs i) (h.queues w) ∙ s.queued w i l ∙ sym (differs_for-same old new w i (h.views w i) (total_for-same old new i (λ b. h.limits b i)));
  queued_once = λ w l. subst (λ (xs : List ℕ). EachOnce xs) (sym (h.queues w)) (s.queued_once w l);
  outdated = λ w i o. ap (λ v. is_some v.known) (h.views w i) ∙ s.outdated w i (sym (ap (λ v. v.outdated) (h.views w i)) ∙ o);
  counted = counted-same old new s held h.pairs;
}
  where
    pointwise : (a : ℕ) (o : Option ℕ) → by o (λ i. is_held (hold_for new a i)) false ≡ by o (λ i. is_held (hold_for old a i)) false
    pointwise a None = refl
    pointwise a (Some i) = ap is_held (h.holds a i)

    held : (a : ℕ) (k : Key) → holds_by new a k ≡ holds_by old a k
    held a k = ap (λ o. by o (λ i. is_held (hold_for new a i)) false) (h.finds k) ∙ pointwise a (slot_for old k)
