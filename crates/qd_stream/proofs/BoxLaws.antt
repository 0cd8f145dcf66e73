-- What the outboxes of all agents hold, as they are stored.
use Rattle.std.proofs.Common.{◌≡◌, ℕ, zero, suc, ◌<◌, Bool, true, false, nat_lt, if◌then◌else◌, List, [], ◌∷◌, ◌++◌, drop, length, map, replicate, refl, ap, sym, ◌∙◌, subst, arith, length-set}
use Rattle.std.specs.Prelude.{Option, Some, None, slice_set}
use Rattle.std.specs.Option.{option_map}
use Rattle.std.proofs.lemmas.List.{length-replicate, map-set}
use Rattle.std.proofs.lemmas.List.Elements.{All-set, All-get_or, All-replicate}
use Rattle.std.proofs.Math.ListN as lists
use Rattle.qd_stream.specs.declared.outbox.Waiting.{Waiting}
use Rattle.qd_stream.specs.Outboxes.{Outstanding, empty_for, with_waiting, with_first_lost}
use Rattle.qd_stream.specs.Boxes.{Boxes, place_at, box_of, box_at, with_box, with_slots, empty_boxes, IsBoxed}

-- the outboxes that are stored so
abbrev pub stored : ℕ → List (Option Outstanding) → Boxes
stored cap boxes = record { cap = cap; list = map (box_of cap) boxes }

pub box-stored : (cap : ℕ) (boxes : List (Option Outstanding)) (agent : ℕ) → box_at (stored cap boxes) agent ≡ box_of cap (place_at boxes agent)
box-stored cap boxes agent = lists.get_or-map (box_of cap) boxes agent None

-- another outbox is stored
pub stored-set : (cap : ℕ) (boxes : List (Option Outstanding)) (agent : ℕ) (place : Option Outstanding) → stored cap (slice_set boxes agent place) ≡ with_box (stored cap boxes) agent (box_of cap place)
stored-set cap boxes agent place = ap (λ (os : List Outstanding). let b : Boxes = record { cap = cap; list = os } in b) (map-set (box_of cap) boxes agent place)

-- a change that leaves an empty outbox empty
pub stored-map : (cap : ℕ) (boxes : List (Option Outstanding)) (agent : ℕ) (f : Outstanding → Outstanding) → f (empty_for cap) ≡ empty_for cap →
    stored cap (slice_set boxes agent (option_map f (place_at boxes agent))) ≡ with_box (stored cap boxes) agent (f (box_at (stored cap boxes) agent))
stored-map cap boxes agent f none =
    stored-set cap boxes agent (option_map f (place_at boxes agent))
    ∙ ap (with_box (stored cap boxes) agent) (mapped (place_at boxes agent) ∙ ap f (sym (box-stored cap boxes agent)))
  where
    mapped : (place : Option Outstanding) → box_of cap (option_map f place) ≡ f (box_of cap place)
    mapped None = sym none
    mapped (Some o) = refl

-- a change of an outbox that has been made
pub stored-some : (cap : ℕ) (boxes : List (Option Outstanding)) (agent : ℕ) (f : Outstanding → Outstanding) → (o : Outstanding) × (place_at boxes agent ≡ Some o) →
    stored cap (slice_set boxes agent (option_map f (place_at boxes agent))) ≡ with_box (stored cap boxes) agent (f (box_at (stored cap boxes) agent))
stored-some cap boxes agent f (o, e) =
    stored-set cap boxes agent (option_map f (place_at boxes agent))
    ∙ ap (with_box (stored cap boxes) agent) (ap (λ p. box_of cap (option_map f p)) e ∙ sym (ap (λ p. f (box_of cap p)) e) ∙ ap f (sym (box-stored cap boxes agent)))

-- an outbox with room for a slot has been made
pub made : (cap : ℕ) (boxes : List (Option Outstanding)) (agent slot : ℕ) → slot < (box_at (stored cap boxes) agent).slots → (o : Outstanding) × (place_at boxes agent ≡ Some o) × (slot < o.slots)
made cap boxes agent slot h =
    let there = subst (λ (o : Outstanding). slot < o.slots) (box-stored cap boxes agent) h in
    let go : (place : Option Outstanding) → place_at boxes agent ≡ place → slot < (box_of cap place).slots → (o : Outstanding) × (place_at boxes agent ≡ Some o) × (slot < o.slots) =
    elim [
      | None ↦ λ e l. absurd (omega arith)
      | Some o ↦ λ e l. (o, e, l)
    ] in
    go (place_at boxes agent) refl there

abbrev HasCap : ℕ → Option Outstanding → Type 0
HasCap cap place = (box_of cap place).cap ≡ cap

pub boxed-set : (cap : ℕ) (boxes : List (Option Outstanding)) (agent : ℕ) (place : Option Outstanding) → (box_of cap place).cap ≡ cap → IsBoxed cap boxes → IsBoxed cap (slice_set boxes agent place)
boxed-set cap boxes agent place same b = record {
  agents = length-set boxes agent place ∙ b.agents;
  caps = All-set (HasCap cap) boxes agent place same b.caps;
  few = b.few;
}

-- what an outbox's change leaves of how many items may wait in it
pub cap-map : (cap : ℕ) (boxes : List (Option Outstanding)) (agent : ℕ) (f : Outstanding → Outstanding) → agent < 128 → ((o : Outstanding) → (f o).cap ≡ o.cap) → IsBoxed cap boxes → IsBoxed cap (slice_set boxes agent (option_map f (place_at boxes agent)))
cap-map cap boxes agent f below same b =
    let size = b.agents in
    let lt : agent < length boxes = omega arith in
    boxed-set cap boxes agent (option_map f (place_at boxes agent)) (keep (place_at boxes agent) (All-get_or (HasCap cap) boxes agent None lt b.caps)) b
  where
    keep : (place : Option Outstanding) → (box_of cap place).cap ≡ cap → (box_of cap (option_map f place)).cap ≡ cap
    keep None h = refl
    keep (Some o) h = same o ∙ h

-- room for more slots
pub boxed-grown : (cap : ℕ) (boxes : List (Option Outstanding)) (agent slots : ℕ) → agent < 128 → IsBoxed cap boxes → IsBoxed cap (slice_set boxes agent (Some (with_slots (box_of cap (place_at boxes agent)) slots)))
boxed-grown cap boxes agent slots below b =
    let size = b.agents in
    let lt : agent < length boxes = omega arith in
    boxed-set cap boxes agent (Some (with_slots (box_of cap (place_at boxes agent)) slots)) (All-get_or (HasCap cap) boxes agent None lt b.caps) b

abbrev none : Option Outstanding
none = None

-- the outboxes of 128 agents, none of them made
pub boxed-empty : (cap : ℕ) → cap < 65536 → IsBoxed cap (replicate 128 None)
boxed-empty cap few = record { agents = length-replicate 128 none; caps = All-replicate (HasCap cap) 128 none refl; few = few }

pub stored-empty : (cap : ℕ) → stored cap (replicate 128 None) ≡ empty_boxes cap
stored-empty cap = ap (λ (os : List Outstanding). let b : Boxes = record { cap = cap; list = os } in b) (repeated 128)
  where
    repeated : (n : ℕ) → map (box_of cap) (replicate n None) ≡ replicate n (empty_for cap)
    repeated zero = refl
    repeated (suc n) = ap (λ os. empty_for cap ∷ os) (repeated n)

-- an agent's outbox has the cap of all
pub box-cap : (cap : ℕ) (boxes : List (Option Outstanding)) (agent : ℕ) → agent < 128 → IsBoxed cap boxes → (box_at (stored cap boxes) agent).cap ≡ cap
box-cap cap boxes agent below b =
    let size = b.agents in
    let lt : agent < length boxes = omega arith in
    ap (λ (o : Outstanding). o.cap) (box-stored cap boxes agent) ∙ All-get_or (HasCap cap) boxes agent None lt b.caps

-- one more item leaves how many may wait
pub waiting-cap : (o : Outstanding) (w : Waiting) → (with_waiting o w).cap ≡ o.cap
unfolding with_waiting
waiting-cap o w =
    let fits : Outstanding = record { cap = o.cap; items = o.items ++ w ∷ []; lost = o.lost; slots = o.slots } in
    let over : Outstanding = record { cap = o.cap; items = drop 1 (o.items ++ w ∷ []); lost = with_first_lost o.lost (o.items ++ w ∷ []); slots = o.slots } in
    elim (nat_lt (length o.items) o.cap) as (λ (c : Bool). (let p : Outstanding = if c then fits else over in p.cap) ≡ o.cap) [ true ↦ refl | false ↦ refl ]
