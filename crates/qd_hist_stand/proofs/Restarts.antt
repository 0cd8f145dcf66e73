-- What stands where an agent's snapshot of one slot is to be begun anew: nothing is owed of it, and the slot waits if the pair fits.
use Rattle.std.proofs.Common.{◌≡◌, ℕ, ◌+◌, ◌-◌, ◌≤◌, Bool, true, false, ◌&&◌, if◌then◌else◌, nat_eq, Option, is_some, length, refl, ap, sym, ◌∙◌, arith}
use Rattle.qd_pend.proofs.ListLaws.{same, equal}
use Rattle.qd_slots.specs.Views.{queued}
use Rattle.qd_table.specs.Tables.{order_of}
use Rattle.qd_table.specs.Steps.{is_cell}
use Rattle.qd_table.proofs.ListLaws.{queued-as}
use Rattle.qd_table.proofs.CallSteps.{cell-here, cell-elsewhere}
use Rattle.qd_hist_rules.specs.declared.floor.AgentFloor.{AgentFloor}
use Rattle.qd_hist_rules.specs.Moments.{HistMoment}
use Rattle.qd_hist_feed.specs.Feeding.{Feeding, nothing}
use Rattle.qd_hist_stand.specs.Stripes.{Shown, StandsAt, feed_at, queue_at, owed_at, owed_of, due_at}
use Rattle.qd_hist_stand.specs.Steps.{part_at, restarted, IsPartOf}
use Rattle.qd_hist_stand.proofs.Moves.{IsMoved, sum-queued}
use Rattle.qd_hist_stand.proofs.Sums.{owed_in, sum-agree}

-- the agent's part of the slot is that of a snapshot to be begun, and what is due of other parts is the same
pub record IsRestart (s t : Shown) (a slot : ℕ) (floor : Option AgentFloor) : Type 0 where
  pub part : IsPartOf s a slot (restarted floor slot (part_at s a slot)) t
  pub hcap : t.hcap ≡ s.hcap
  pub due : due_at t a slot ≡ is_some floor
  pub alike : (b i : ℕ) → is_cell b i a slot ≡ false → due_at t b i ≡ due_at s b i
  -- the slot is in the agent's order, or is not
  pub ordered : Bool
  pub orders : (b : ℕ) → order_of t.table b ≡ (if nat_eq b a then queued (order_of s.table b) slot ordered else order_of s.table b)

pub feed-restarted : (s t : Shown) (a slot : ℕ) (floor : Option AgentFloor) → IsPartOf s a slot (restarted floor slot (part_at s a slot)) t
    → (b i : ℕ) (c : Bool) → is_cell b i a slot ≡ c → feed_at t b i ≡ (if c then nothing else feed_at s b i)
feed-restarted s t a slot floor part b i c e = part.feeds b i ∙ ap (λ (x : Bool). if x then nothing else feed_at s b i) e

owed-part : (s t : Shown) (a slot : ℕ) (floor : Option AgentFloor) → IsPartOf s a slot (restarted floor slot (part_at s a slot)) t
    → (b : ℕ) (c : Bool) → nat_eq b a ≡ c → owed_at t b ≡ (if c then owed_at s a - owed_in s a slot else owed_at s b)
owed-part s t a slot floor part b c e = part.owed b ∙ ap (λ (x : Bool). if x then owed_at s a - owed_in s a slot else owed_at s b) e

-- the queues
pub moved-restarted : (s t : Shown) (a slot : ℕ) (floor : Option AgentFloor) (now : HistMoment) → StandsAt s now → IsRestart s t a slot floor → IsMoved s t slot
moved-restarted s t a slot floor now st h = record { queues = λ b. queue_then b (nat_eq b a) refl; elsewhere = λ b i e. h.alike b i (cell-elsewhere b i a slot e) }
  where
    queue_part : (b : ℕ) (c : Bool) → nat_eq b a ≡ c → queue_at t b ≡ (if c then queued (queue_at s a) slot (is_some floor) else queue_at s b)
    queue_part b c e = h.part.queues b ∙ ap (λ (x : Bool). if x then queued (queue_at s a) slot (is_some floor) else queue_at s b) e

    queue_then : (b : ℕ) (c : Bool) → nat_eq b a ≡ c → queue_at t b ≡ queued (queue_at s b) slot (due_at t b slot)
    queue_then b true e =
        queue_part b true e ∙ ap (queued (queue_at s a) slot) (sym h.due) ∙ ap (λ (x : ℕ). queued (queue_at s x) slot (due_at t x slot)) (sym (equal b a e))
    queue_then b false e =
        queue_part b false e ∙ sym (queued-as (queue_at s b) slot) ∙ ap (queued (queue_at s b) slot) (st.due b slot ∙ sym (h.alike b slot (cell-here b a slot ∙ e)))

-- what is owed in all
pub owed-restarted : (s t : Shown) (a slot : ℕ) (floor : Option AgentFloor) (now : HistMoment) → StandsAt s now → IsRestart s t a slot floor → (b : ℕ) → owed_at t b ≡ owed_of t b (order_of t.table b)
owed-restarted s t a slot floor now st h b = owes (nat_eq b a) refl
  where
    alike : (d i : ℕ) → is_cell d i a slot ≡ false → owed_in t d i ≡ owed_in s d i
    alike d i e = ap (λ (x : Feeding). length x.owed) (feed-restarted s t a slot floor h.part d i false e)

    order_then : (c : Bool) → nat_eq b a ≡ c → order_of t.table b ≡ (if c then queued (order_of s.table b) slot h.ordered else order_of s.table b)
    order_then c e = h.orders b ∙ ap (λ (x : Bool). if x then queued (order_of s.table b) slot h.ordered else order_of s.table b) e

    owes : (c : Bool) → nat_eq b a ≡ c → owed_at t b ≡ owed_of t b (order_of t.table b)
    owes true e =
        let new : owed_at t b ≡ owed_at s a - owed_in s a slot = owed-part s t a slot floor h.part b true e in
        let old : owed_at s a ≡ owed_of s a (order_of s.table a) = st.owed a in
        let list : owed_of t b (order_of t.table b) ≡ owed_of t a (queued (order_of s.table a) slot h.ordered) =
        ap (owed_of t b) (order_then true e) ∙ ap (λ (x : ℕ). owed_of t x (queued (order_of s.table x) slot h.ordered)) (equal b a e) in
        let parts : owed_of t a (queued (order_of s.table a) slot h.ordered) + owed_in s a slot ≡ owed_of s a (order_of s.table a) =
        sum-queued (owed_in s a) (owed_in t a) slot (order_of s.table a) h.ordered (st.table.sound.ordered_once a)
        (λ f. ap (λ (x : Feeding). length x.owed) (st.unfed a slot (sym (st.table.sound.ordered a slot) ∙ f)))
        (ap (λ (x : Feeding). length x.owed) (feed-restarted s t a slot floor h.part a slot true (cell-here a a slot ∙ same a)))
        (λ i f. alike a i (cell-elsewhere a i a slot f)) in
        omega (arith, new, old, list, parts)
    owes false e =
        owed-part s t a slot floor h.part b false e ∙ st.owed b
        ∙ sym (ap (owed_of t b) (order_then false e) ∙ sum-agree (owed_in s b) (owed_in t b) (order_of s.table b) (λ i f. alike b i (ap (λ (x : Bool). x && nat_eq i slot) e)))

pub within-restarted : (s t : Shown) (a slot : ℕ) (floor : Option AgentFloor) (now : HistMoment) → StandsAt s now → IsRestart s t a slot floor → (b : ℕ) → owed_at t b ≤ t.hcap
within-restarted s t a slot floor now st h b = go (nat_eq b a) refl
  where
    go : (c : Bool) → nat_eq b a ≡ c → owed_at t b ≤ t.hcap
    go true e =
        let new : owed_at t b ≡ owed_at s a - owed_in s a slot = owed-part s t a slot floor h.part b true e in
        let cap : t.hcap ≡ s.hcap = h.hcap in
        let old : owed_at s a ≤ s.hcap = st.within a in
        omega (arith, new, cap, old)
    go false e =
        let new : owed_at t b ≡ owed_at s b = owed-part s t a slot floor h.part b false e in
        let cap : t.hcap ≡ s.hcap = h.hcap in
        let old : owed_at s b ≤ s.hcap = st.within b in
        omega (arith, new, cap, old)
