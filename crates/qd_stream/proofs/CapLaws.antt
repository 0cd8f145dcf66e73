-- No step changes how many items may wait.
use Rattle.std.proofs.Common.{◌≡◌, ℕ, suc, zero, List, [], ◌∷◌, Bool, true, false, ap, sym, ◌∙◌, inl, inr}
use Rattle.std.specs.Prelude.{Option, Some, None, MatchBool, slice_get}
use Rattle.qd_scheme.specs.declared.key.Key.{Key}
use Rattle.qd_sub.specs.declared.sub.Sub.{Sub}
use Rattle.qd_sub.specs.declared.op.Op.TheVariants.{Add, Remove, Close, Put, Take, Watch}
use Rattle.qd_slots.specs.Holds.{is_subscribed}
use Rattle.qd_table.specs.declared.table.SubFault.{SubFault}
use Rattle.qd_table.specs.declared.table.SubFault.TheVariants as faults
use Rattle.qd_table.specs.Tables.{slot_for, hold_for, fault_of}
use Rattle.qd_stream.specs.declared.item.StreamItem.{StreamItem}
use Rattle.qd_stream.specs.declared.outbox.Waiting.{Waiting}
use Rattle.qd_stream.specs.declared.outbox.SlotLoss.{SlotLoss}
use Rattle.qd_stream.specs.Items.{key_of_item}
use Rattle.qd_stream.specs.Outboxes.{first_loss}
use Rattle.qd_stream.specs.Boxes.{Boxes, box_at}
use Rattle.qd_stream.specs.Legal.{StreamOp, StreamReply}
use Rattle.qd_stream.specs.Stripes.{Shown}
use Rattle.qd_stream.specs.Steps.{AddsBy, IsEndedAt, RemovesAt, RemovesAll, PutsAt, PutsAll, GivesItem, GivesFirst, Gives, GivesAll, DropsAll, EndsAll, StepsTo}

abbrev same_cap : Shown → Shown → Type 0
same_cap old new = new.boxes.cap ≡ old.boxes.cap

of_boxes : (b c : Boxes) → c ≡ b → c.cap ≡ b.cap
of_boxes b c e = ap (λ (x : Boxes). x.cap) e

of_same : (old new : Shown) → old ≡ new → same_cap old new
of_same old new e = ap (λ (s : Shown). s.boxes.cap) (sym e)

cap-removes : (slot : Option ℕ) (old new : Shown) (a : ℕ) → RemovesAt slot old a new → same_cap old new
cap-removes None old new a e = of_same old new e
cap-removes (Some slot) old new a e =
    let go : (c : Bool) → MatchBool c (IsEndedAt old a slot new) (old ≡ new) → same_cap old new =
    elim [
      | true ↦ λ m. of_boxes old.boxes new.boxes m.boxes
      | false ↦ λ m. of_same old new m
    ] in
    go (is_subscribed (hold_for old.table a slot)) e

cap-removes_all : (ks : List Key) (old new : Shown) (a : ℕ) → RemovesAll old a ks new → same_cap old new
unfolding RemovesAll
cap-removes_all [] old new a e = of_same old new e
cap-removes_all (k ∷ ks) old new a (mid, one, rest) = cap-removes_all ks mid new a rest ∙ cap-removes (slot_for old.table k) old mid a one

cap-puts : (slot : Option ℕ) (old new : Shown) (item : StreamItem) → PutsAt slot old item new → same_cap old new
cap-puts None old new item e = of_same old new e
cap-puts (Some slot) old new item e = e.1.cap

cap-puts_all : (items : List StreamItem) (old new : Shown) → PutsAll old items new → same_cap old new
unfolding PutsAll
cap-puts_all [] old new e = of_same old new e
cap-puts_all (item ∷ items) old new (mid, one, rest) = cap-puts_all items mid new rest ∙ cap-puts (slot_for old.table (key_of_item item)) old mid item one

cap-gives_item : (w : Option Waiting) (old new : Shown) (a : ℕ) (given : Option StreamItem) → GivesItem w old a given new → same_cap old new
cap-gives_item None old new a given e = of_same old new e.1
cap-gives_item (Some w) old new a given e = ap (λ (x : Boxes). x.cap) e.1.boxes

cap-gives_first : (l : Option SlotLoss) (old new : Shown) (a : ℕ) (given : Option StreamItem) → GivesFirst l old a given new → same_cap old new
cap-gives_first None old new a given e = cap-gives_item (slice_get (box_at old.boxes a).items 0) old new a given e
cap-gives_first (Some l) old new a given e = ap (λ (x : Boxes). x.cap) e.1.boxes

cap-gives : (old new : Shown) (a : ℕ) (given : Option StreamItem) → Gives old a given new → same_cap old new
cap-gives old new a given e = cap-gives_first (first_loss (box_at old.boxes a)) old new a given e

cap-gives_all : (n : ℕ) (old new : Shown) (a : ℕ) (items : List StreamItem) → GivesAll n old a items new → same_cap old new
unfolding GivesAll
cap-gives_all zero old new a items e = of_same old new e.1
cap-gives_all (suc n) old new a items (inl e) = cap-gives old new a None e.1
cap-gives_all (suc n) old new a items (inr (i, rest, mid, is, one, more)) = cap-gives_all n mid new a rest more ∙ cap-gives old mid a (Some i) one

cap-drops_all : (n : ℕ) (old new : Shown) (a : ℕ) → DropsAll n old a new → same_cap old new
unfolding DropsAll
cap-drops_all zero old new a e = cap-gives old new a None e
cap-drops_all (suc n) old new a (i, mid, one, more) = cap-drops_all n mid new a more ∙ cap-gives old mid a (Some i) one

cap-ends_all : (n : ℕ) (old new : Shown) (a : ℕ) → EndsAll n old a new → same_cap old new
unfolding EndsAll
cap-ends_all zero old new a e = of_same old new e.1
cap-ends_all (suc n) old new a (slot, mid, first, one, more) = cap-ends_all n mid new a more ∙ of_boxes old.boxes mid.boxes one.boxes

cap-adds : (fault : Option SubFault) (old new : Shown) (a : ℕ) (subs : List Sub) (reply : StreamReply) → AddsBy fault old a subs reply new → same_cap old new
cap-adds (Some faults.TooManyKeys) old new a subs reply e = of_boxes old.boxes new.boxes e.1.boxes
cap-adds (Some faults.TooManySubs) old new a subs reply e = of_boxes old.boxes new.boxes e.1.boxes
cap-adds (Some faults.NoMemory) old new a subs reply e = absurd e
cap-adds None old new a subs reply (inl e) = ap (λ (x : Boxes). x.cap) e.1.boxes
cap-adds None old new a subs reply (inr e) = of_boxes old.boxes new.boxes e.1.boxes

pub cap-step : (old new : Shown) (op : StreamOp) (reply : StreamReply) → StepsTo old op reply new → new.boxes.cap ≡ old.boxes.cap
unfolding StepsTo
cap-step old new (Add agent subs) reply e = cap-adds (fault_of old.table agent subs.items) old new agent subs.items reply e
cap-step old new (Remove agent keys) reply e = cap-removes_all keys.items old new agent e.1
cap-step old new (Close agent) reply e = cap-drops_all e.1.owed e.1.mid new agent e.1.dropped ∙ cap-ends_all e.1.subscriptions old e.1.mid agent e.1.ended
cap-step old new (Put items) reply e = cap-puts_all items.items old new e.1
cap-step old new (Take agent most out) reply e = cap-gives_all most old new agent e.0 e.2
cap-step old new (Watch watcher most out) reply e = of_boxes old.boxes new.boxes e.3
