-- Room for what comes to be owed, and sums over an agent's feeds.
use Rattle.std.proofs.Common.{◌≡◌, inl, inr, ℕ, zero, suc, ◌+◌, ◌<◌, ◌≤◌, Bool, true, false, ◌&&◌, nat_le, Option, List, [], ◌∷◌, ◌++◌, length, length-append, slice_set, slice_index_or, refl, ap, sym, ◌∙◌, arith, subst}
use Rattle.std.specs.Prelude.{if◌then◌else◌}
use Rattle.std.specs.List.{sum_by}
use Rattle.std.proofs.lemmas.List.Sums.{sum_by-set, sum_by-cons}
use Rattle.qd_scheme.specs.declared.key.Event.{Event}
use Rattle.qd_hist_feed.specs.declared.feed.Stage.{Stage}
use Rattle.qd_hist_feed.specs.declared.feed.Stage.TheVariants.{Waiting, Sweeping, Ended}
use Rattle.qd_hist_feed.specs.Feeding.{Feeding, Spared, is_waiting, is_swept, number_for, has_above, item_of, owed_item, owed_items, with_commit}
use Rattle.qd_hist_feed.proofs.InOrder.{none_waiting}
use Rattle.std.proofs.lemmas.List.{append-nil}
use Rattle.qd_pend.specs.Slots.{has, without}
use Rattle.qd_slots.specs.Views.{queued_again}
use Rattle.qd_history.specs.Sides.{HasRoom, owed_count}

-- less room is there where more is
pub room-less : (hcap : ℕ) (f : Spared) (n m : ℕ) → HasRoom hcap f n → m ≤ n → HasRoom hcap f m
room-less hcap f n m (inl w) h = inl w
room-less hcap f n m (inr r) h = inr (omega arith)

one-owed : (stage : Stage) (floor : ℕ) (n : Option ℕ) (pending : Bool) (e : Event) → length (owed_item stage floor n pending e) ≤ 1
one-owed stage floor n pending e = go (nat_le floor e.index && is_swept stage e.index)
  where
    go : (b : Bool) → length (if b then item_of n pending e ∷ [] else []) ≤ 1
    go true = omega arith
    go false = omega arith

-- no more comes to be owed than a commit has events
pub owed-few : (stage : Stage) (floor n : ℕ) (es : List Event) → length (owed_items stage floor n es) ≤ length es
owed-few stage floor n [] = omega arith
owed-few stage floor n (e ∷ es) =
    omega (arith, owed-few stage floor n es, one-owed stage floor (number_for stage n) (has_above floor es) e, length-append (owed_item stage floor (number_for stage n) (has_above floor es) e) (owed_items stage floor n es))

waiting-none : (stage : Stage) (floor n : ℕ) (es : List Event) → is_waiting stage ≡ true → length (owed_items stage floor n es) ≡ 0
waiting-none Waiting floor n es h = ap length (none_waiting floor n es)
waiting-none (Sweeping place) floor n es h = cc
waiting-none Ended floor n es h = cc

-- what comes to be owed has room, where no more is owed than may be
pub owing-fits : (hcap : ℕ) (f : Spared) (floor n : ℕ) (es : List Event) (owed : ℕ) → HasRoom hcap f (length es) → owed_count f ≤ owed → owed + length (owed_items f.now.stage floor n es) ≤ hcap → length (owed_items f.now.stage floor n es) ≤ f.spare
owing-fits hcap f floor n es owed (inl w) h few = omega (arith, waiting-none f.now.stage floor n es w)
owing-fits hcap f floor n es owed (inr r) h few = omega (arith, owed-few f.now.stage floor n es)

-- what is left of the room after it came to be owed
pub owed-room : (hcap : ℕ) (f g : Spared) (floor n : ℕ) (es : List Event) (m : ℕ) → g.now ≡ with_commit f.now floor n es → f.spare ≡ g.spare + length (owed_items f.now.stage floor n es) → HasRoom hcap f (length es + m) → HasRoom hcap g m
owed-room hcap f g floor n es m now spare (inl w) = inl (ap (λ (x : Feeding). is_waiting x.stage) now ∙ w)
owed-room hcap f g floor n es m now spare (inr r) =
    let more : ℕ = length (owed_items f.now.stage floor n es) in
    let o : owed_count g ≡ owed_count f + more = ap (λ (x : Feeding). length x.owed) now ∙ length-append f.now.owed (owed_items f.now.stage floor n es) in
    let l : more ≤ length es = owed-few f.now.stage floor n es in
    inr (omega arith)

-- a place's term is no more than the sum
pub sum-place : {X : Type 0} (f : X → ℕ) (xs : List X) (i : ℕ) (d : X) → i < length xs → f (slice_index_or xs i d) ≤ sum_by f xs
sum-place f [] i d h = absurd (omega arith)
sum-place f (x ∷ xs) zero d h = omega (arith, sum_by-cons f x xs)
sum-place f (x ∷ xs) (suc i) d h = omega (arith, sum_by-cons f x xs, sum-place f xs i d (omega arith))

-- the sum with another term at a place
pub sum-set : {X : Type 0} (f : X → ℕ) (xs : List X) (i : ℕ) (x y d : X) → i < length xs → x ≡ slice_index_or xs i x → sum_by f (slice_set xs i y) + f x ≡ sum_by f xs + f y
sum-set f xs i x y d h e = ap (λ z. sum_by f (slice_set xs i y) + f z) e ∙ sum_by-set f xs i y x h

-- one that was read is no more than the sum
pub sum-read : {X : Type 0} (f : X → ℕ) (xs : List X) (i : ℕ) (x : X) → i < length xs → x ≡ slice_index_or xs i x → f x ≤ sum_by f xs
sum-read f xs i x h e = subst (λ z. f z ≤ sum_by f xs) (sym e) (sum-place f xs i x h)

-- a slot that had its turn
pub again-there : (list : List ℕ) (slot : ℕ) → has list slot ≡ true → queued_again list slot (has list slot) ≡ without list slot ++ slot ∷ []
unfolding queued_again
again-there list slot h = rw h refl

pub again-none : (list : List ℕ) (slot : ℕ) → has list slot ≡ false → queued_again list slot (has list slot) ≡ without list slot
unfolding queued_again
again-none list slot h = rw h (append-nil (without list slot))
