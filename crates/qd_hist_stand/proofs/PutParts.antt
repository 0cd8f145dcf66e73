-- What an event of a wanted key leaves of an agent's part of its slot: whether it waits, how much is owed, and of which key that is.
use Rattle.std.proofs.Common.{◌≡◌, ℕ, ◌+◌, ◌≤◌, Bool, true, false, ◌&&◌, not, List, [], ◌∷◌, ◌++◌, length, length-append, reverse, refl, sym, ◌∙◌, ap, arith, subst, Option, Some, None}
use Rattle.std.specs.Prelude.{if◌then◌else◌, is_some, nat_lt, nat_le}
use Rattle.std.proofs.lemmas.Bool.{lt-ltb}
use Rattle.std.proofs.lemmas.Bool.Decides.{nat_tests}
use Rattle.std.proofs.lemmas.List.{append-nil, reverse-append}
use Rattle.std.proofs.Math.Bool.{and-true}
use Rattle.qd_scheme.specs.declared.key.Key.{Key}
use Rattle.qd_scheme.specs.declared.key.Event.{Event}
use Rattle.qd_flags.specs.declared.commits.Ingest.{Ingest}
use Rattle.qd_flags.specs.declared.commits.Ingest.TheVariants.{Ignored, Held, Update, Snapshot}
use Rattle.qd_flags.specs.Shown.{shown, after_place, events_of}
use Rattle.qd_pend.specs.Slots.{has}
use Rattle.qd_slots.specs.Views.{queued}
use Rattle.qd_hist_rules.specs.declared.floor.AgentFloor.{AgentFloor}
use Rattle.qd_hist_rules.specs.declared.item.HistItem.{HistItem}
use Rattle.qd_hist_rules.specs.Moments.{events}
use Rattle.qd_hist_feed.specs.declared.feed.Stage.{Stage}
use Rattle.qd_hist_feed.specs.Feeding.{has_ended, is_empty, is_done, is_swept, number_for, has_above, item_of, owed_item, owed_items}
use Rattle.qd_hist_stand.specs.Stripes.{AllOf}
use Rattle.qd_hist_stand.specs.Steps.{Part, part_after, updated, restarted, owing, more_owed}
use Rattle.qd_hist_stand.proofs.Queues.{queued-same}
use Rattle.qd_hist_stand.proofs.Base.{waits}
use Rattle.qd_hist_stand.proofs.PutFeeds.{passes}

abbrev pub begins_anew : Ingest → Bool
begins_anew Ignored = false
begins_anew Held = false
begins_anew Update = false
begins_anew Snapshot = true

not_empty : (owed is : List HistItem) (i : HistItem) → is_empty (owed ++ i ∷ is) ≡ false
not_empty [] is i = refl
not_empty (j ∷ js) is i = refl

owing_queue : (q : List ℕ) (slot : ℕ) (stage : Stage) (owed items : List HistItem) → has q slot ≡ not (has_ended stage && is_empty owed)
    → (if nat_lt 0 (length items) then queued q slot true else q) ≡ queued q slot (not (has_ended stage && is_empty (owed ++ items)))
owing_queue q slot stage owed [] h = sym (queued-same q slot (not (has_ended stage && is_empty (owed ++ []))) (h ∙ ap (λ (xs : List HistItem). not (has_ended stage && is_empty xs)) (sym (append-nil owed))))
owing_queue q slot stage owed (i ∷ is) h =
    ap (λ (b : Bool). if b then queued q slot true else q) (lt-ltb 0 (length (i ∷ is)) (omega arith))
    ∙ ap (λ (b : Bool). queued q slot b) (sym (more (has_ended stage) (is_empty (owed ++ i ∷ is)) (not_empty owed is i)))
  where
    more : (b c : Bool) → c ≡ false → not (b && c) ≡ true
    more true c e = ap not e
    more false c e = refl

-- the queue after an event has the slot just where it waits
pub queue_then : (hcap : ℕ) (answer : Ingest) (floor before : Option AgentFloor) (n : ℕ) (batch : List Event) (slot : ℕ) (p : Part) → (begins_anew answer ≡ false → floor ≡ before) → has p.queue slot ≡ waits before p.feed
    → (part_after hcap answer floor n batch slot p).queue ≡ queued p.queue slot (waits floor (part_after hcap answer floor n batch slot p).feed)
queue_then hcap Ignored floor before n batch slot p same h = sym (queued-same p.queue slot (waits floor p.feed) (h ∙ ap (λ (o : Option AgentFloor). waits o p.feed) (sym (same refl))))
queue_then hcap Held floor before n batch slot p same h = sym (queued-same p.queue slot (waits floor p.feed) (h ∙ ap (λ (o : Option AgentFloor). waits o p.feed) (sym (same refl))))
queue_then hcap Snapshot floor before n batch slot p same h = ap (λ (b : Bool). queued p.queue slot b) (sym (and-true (is_some floor)))
queue_then hcap Update floor before n batch slot p same h = go floor (h ∙ ap (λ (o : Option AgentFloor). waits o p.feed) (sym (same refl)))
  where
    by : (f : AgentFloor) → has p.queue slot ≡ not (is_done p.feed) → (b : Bool) →
        (let after : Part = if b then restarted (Some f) slot p else owing f.index n batch slot p in after.queue ≡ queued p.queue slot (waits (Some f) after.feed))
    by f h true = refl
    by f h false = owing_queue p.queue slot p.feed.stage p.feed.owed (owed_items p.feed.stage f.index n batch) h

    go : (o : Option AgentFloor) → has p.queue slot ≡ waits o p.feed → (updated hcap o n batch slot p).queue ≡ queued p.queue slot (waits o (updated hcap o n batch slot p).feed)
    go None h = sym (queued-same p.queue slot false h)
    go (Some f) h = by f h (passes hcap p.owed (more_owed f.index n batch p))

-- what is owed in all moves with what is owed of the slot
pub owed_then : (hcap : ℕ) (answer : Ingest) (floor : Option AgentFloor) (n : ℕ) (batch : List Event) (slot : ℕ) (p : Part) → length p.feed.owed ≤ p.owed
    → (part_after hcap answer floor n batch slot p).owed + length p.feed.owed ≡ p.owed + length (part_after hcap answer floor n batch slot p).feed.owed
owed_then hcap Ignored floor n batch slot p h = refl
owed_then hcap Held floor n batch slot p h = refl
owed_then hcap Snapshot floor n batch slot p h = omega arith
owed_then hcap Update floor n batch slot p h = go floor
  where
    by : (f : AgentFloor) (b : Bool) → (let after : Part = if b then restarted (Some f) slot p else owing f.index n batch slot p in after.owed + length p.feed.owed ≡ p.owed + length after.feed.owed)
    by f true = omega arith
    by f false = let x = length-append p.feed.owed (owed_items p.feed.stage f.index n batch) in omega (arith, x)

    go : (o : Option AgentFloor) → (updated hcap o n batch slot p).owed + length p.feed.owed ≡ p.owed + length (updated hcap o n batch slot p).feed.owed
    go None = refl
    go (Some f) = by f (passes hcap p.owed (more_owed f.index n batch p))

-- and never is more than may be
pub owed_within : (hcap : ℕ) (answer : Ingest) (floor : Option AgentFloor) (n : ℕ) (batch : List Event) (slot : ℕ) (p : Part) → p.owed ≤ hcap → (part_after hcap answer floor n batch slot p).owed ≤ hcap
owed_within hcap Ignored floor n batch slot p h = h
owed_within hcap Held floor n batch slot p h = h
owed_within hcap Snapshot floor n batch slot p h = omega arith
owed_within hcap Update floor n batch slot p h = go floor
  where
    fits : (more : ℕ) → passes hcap p.owed more ≡ false → p.owed + more ≤ hcap
    fits more e = grind (arith, nat_tests)

    by : (f : AgentFloor) (b : Bool) → passes hcap p.owed (more_owed f.index n batch p) ≡ b → (let after : Part = if b then restarted (Some f) slot p else owing f.index n batch slot p in after.owed ≤ hcap)
    by f true e = omega arith
    by f false e = fits (more_owed f.index n batch p) e

    go : (o : Option AgentFloor) → (updated hcap o n batch slot p).owed ≤ hcap
    go None = h
    go (Some f) = by f (passes hcap p.owed (more_owed f.index n batch p)) refl

-- items of one key
labelled : (k : Key) (xs ys : List HistItem) → AllOf k (events xs) → AllOf k (events ys) → AllOf k (events (xs ++ ys))
labelled k [] ys h g = g
labelled k (i ∷ is) ys h g = (h.0, labelled k is ys h.1 g)

one_labelled : (k : Key) (stage : Stage) (f : ℕ) (o : Option ℕ) (pending : Bool) (e : Event) → e.key ≡ k → AllOf k (events (owed_item stage f o pending e))
one_labelled k stage f o pending e h = go (nat_le f e.index && is_swept stage e.index) pending
  where
    go : (b c : Bool) → AllOf k (events (if b then item_of o c e ∷ [] else []))
    go true true = (h, tt)
    go true false = (h, tt)
    go false c = tt

items_labelled : (k : Key) (stage : Stage) (f n : ℕ) (es : List Event) → AllOf k es → AllOf k (events (owed_items stage f n es))
items_labelled k stage f n [] h = tt
items_labelled k stage f n (e ∷ es) h =
    labelled k (owed_item stage f (number_for stage n) (has_above f es) e) (owed_items stage f n es) (one_labelled k stage f (number_for stage n) (has_above f es) e h.0) (items_labelled k stage f n es h.1)

-- what is owed is of the key still
pub labels_then : (k : Key) (hcap : ℕ) (answer : Ingest) (floor : Option AgentFloor) (n : ℕ) (batch : List Event) (slot : ℕ) (p : Part) → (answer ≡ Update → AllOf k batch) → AllOf k (events p.feed.owed)
    → AllOf k (events (part_after hcap answer floor n batch slot p).feed.owed)
labels_then k hcap Ignored floor n batch slot p b h = h
labels_then k hcap Held floor n batch slot p b h = h
labels_then k hcap Snapshot floor n batch slot p b h = tt
labels_then k hcap Update floor n batch slot p b h = go floor
  where
    by : (f : AgentFloor) (c : Bool) → (let after : Part = if c then restarted (Some f) slot p else owing f.index n batch slot p in AllOf k (events after.feed.owed))
    by f true = tt
    by f false = labelled k p.feed.owed (owed_items p.feed.stage f.index n batch) h (items_labelled k p.feed.stage f.index n batch (b refl))

    go : (o : Option AgentFloor) → AllOf k (events (updated hcap o n batch slot p).feed.owed)
    go None = h
    go (Some f) = by f (passes hcap p.owed (more_owed f.index n batch p))

-- the events of a commit are of the key of its source
after_labelled : (k : Key) (es : List Event) → AllOf k es → AllOf k (after_place es)
after_labelled k [] h = tt
after_labelled k (e ∷ es) h = go (is_some (shown (e ∷ es))) (after_labelled k es h.1)
  where
    go : (b : Bool) → AllOf k (after_place es) → AllOf k (if b then [] else e ∷ after_place es)
    go true x = tt
    go false x = (h.0, x)

pub commit_labelled : (k : Key) (es : List Event) → AllOf k es → AllOf k (events_of es)
commit_labelled k [] h = tt
commit_labelled k (e ∷ es) h = (h.0, after_labelled k es h.1)

more_labelled : (k : Key) (xs ys : List Event) → AllOf k xs → AllOf k ys → AllOf k (xs ++ ys)
more_labelled k [] ys h g = g
more_labelled k (e ∷ es) ys h g = (h.0, more_labelled k es ys h.1 g)

pub turned_labelled : (k : Key) (es : List Event) → AllOf k es → AllOf k (reverse es)
turned_labelled k [] h = tt
turned_labelled k (e ∷ es) h = subst (λ (xs : List Event). AllOf k xs) (sym (reverse-append (e ∷ []) es)) (more_labelled k (reverse es) (e ∷ []) (turned_labelled k es h.1) (h.0, tt))
