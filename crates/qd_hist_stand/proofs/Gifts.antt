-- What the next item of a feed is, and what is left of the feed after it.
use Rattle.std.proofs.Common.{◌≡◌, ℕ, ◌≤◌, Bool, true, false, List, [], ◌∷◌, length, sym, ◌∙◌, ap, refl, arith, Option, Some, None}
use Rattle.std.specs.Prelude.{nat_lt, if◌then◌else◌}
use Rattle.std.proofs.lemmas.Option.{same_Some}
use Rattle.qd_scheme.specs.declared.key.Key.{Key}
use Rattle.qd_scheme.specs.declared.cells.Cells.{Cells}
use Rattle.qd_hist_key.specs.Kept.{Kept}
use Rattle.qd_hist_rules.specs.declared.floor.AgentFloor.{AgentFloor}
use Rattle.qd_hist_rules.specs.declared.item.HistItem.{HistItem}
use Rattle.qd_hist_rules.specs.Moments.{events, item_key}
use Rattle.qd_hist_feed.specs.declared.feed.Stage.{Stage}
use Rattle.qd_hist_feed.specs.declared.feed.Stage.TheVariants.{Waiting, Sweeping, Ended}
use Rattle.qd_hist_feed.specs.Feeding.{Feeding, kept_item, end_item, cells_on, sweep_item, top, found_from, next_by, next_item, left_by_next, after_next}
use Rattle.qd_hist_stand.specs.Stripes.{AllOf}

end-key : (begin : Bool) (k : Key) (f : AgentFloor) (width : Option ℕ) (n : ℕ) (cells : Option Cells) → item_key (end_item begin k f width n cells) ≡ k
end-key begin k f width n None = refl
end-key begin k f width n (Some cells) = refl

sweep-key : (begin : Bool) (k : Key) (f : AgentFloor) (width : Option ℕ) (n : ℕ) (entry : Option (ℕ × Cells)) → item_key (sweep_item begin k f width n entry) ≡ k
sweep-key begin k f width n None = refl
sweep-key begin k f width n (Some entry) = go (nat_lt f.index entry.0)
  where
    go : (b : Bool) → item_key (if b then kept_item begin k entry else end_item begin k f width n (cells_on f.index entry)) ≡ k
    go true = refl
    go false = end-key begin k f width n (cells_on f.index entry)

-- the next item is of the key that the sweep is of, where what is owed is
pub next-key : (s : Feeding) (k : Key) (state : Kept) (f : AgentFloor) (n : ℕ) (i : HistItem) → AllOf k (events s.owed) → next_item s k state f n ≡ Some i → item_key i ≡ k
next-key s k state f n i own h = go s.stage s.owed own h
  where
    go : (stage : Stage) (owed : List HistItem) → AllOf k (events owed) → next_by stage owed k state f n ≡ Some i → item_key i ≡ k
    go stage (x ∷ xs) own h = ap (λ (y : HistItem). item_key y) (sym (same_Some x i h)) ∙ own.0
    go Waiting [] own h = ap (λ (y : HistItem). item_key y) (sym (same_Some (sweep_item true k f state.width n (found_from top state)) i h)) ∙ sweep-key true k f state.width n (found_from top state)
    go (Sweeping place) [] own h = ap (λ (y : HistItem). item_key y) (sym (same_Some (sweep_item false k f state.width n (found_from place state)) i h)) ∙ sweep-key false k f state.width n (found_from place state)
    go Ended [] own h = cc h

-- what is owed then was owed before
pub left-own : (s : Feeding) (k : Key) (state : Kept) (f : AgentFloor) → AllOf k (events s.owed) → AllOf k (events (after_next s state f).owed)
left-own s k state f own = go s.stage s.owed own
  where
    go : (stage : Stage) (owed : List HistItem) → AllOf k (events owed) → AllOf k (events (left_by_next stage owed state f).owed)
    go stage (x ∷ xs) own = own.1
    go Waiting [] own = tt
    go (Sweeping place) [] own = tt
    go Ended [] own = tt

pub left-fewer : (s : Feeding) (state : Kept) (f : AgentFloor) → length (after_next s state f).owed ≤ length s.owed
left-fewer s state f = go s.stage s.owed
  where
    go : (stage : Stage) (owed : List HistItem) → length (left_by_next stage owed state f).owed ≤ length owed
    go stage (x ∷ xs) = omega arith
    go Waiting [] = omega arith
    go (Sweeping place) [] = omega arith
    go Ended [] = omega arith
