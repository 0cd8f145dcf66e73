-- Which items of a snapshot may always be given.
use Rattle.std.specs.Prelude.{◌≡◌, ◌≤◌, ◌<◌, ◌⊎◌, ℕ, true, false, not, pos, replicate, List, [], ◌∷◌, Some, None}
use Rattle.qd_scheme.specs.declared.key.Key.{Key}
use Rattle.qd_flags.specs.Bits.{is_pending, is_remove, is_begin, is_end, is_snip}
use Rattle.qd_flags.specs.Shown.{ends, first_end, left_by}
use Rattle.qd_gate.specs.declared.machine.Terms.{Terms}
use Rattle.qd_sub.specs.Acts.{Gave}
use Rattle.qd_hist_rules.specs.declared.item.HistItem.{HistItem}
use Rattle.qd_hist_rules.specs.Moments.{HistMoment, events, given}
use Rattle.qd_hist_rules.specs.Source.{source, Commit, commit, last}
use Rattle.qd_hist_rules.specs.declared.floor.AgentFloor.{AgentFloor}
use Rattle.qd_hist_rules.specs.Agent.{agent_floor, begin_moment, shares_since_begin}
use Rattle.qd_hist_rules.specs.Standing.{is_begun, is_ended}
use Rattle.qd_hist_rules.specs.Lawful.{LawfulItem, MayCome, NoneAbove, bare_flags, is_shared, at_index, snapshot_before, width_of}

-- each item stands above an index
abbrev pub AllAbove : ℕ → List HistItem → Type 0
AllAbove i [] = Unit {0}
AllAbove i (d ∷ ds) = (i < d.event.index) × AllAbove i ds

-- an item inside a snapshot: it is a BEGIN or the pair is begun, and nothing ended the snapshot before it
pub record Inside (terms : Terms) (a : ℕ) (k : Key) (i : HistItem) (past : HistMoment) : Type 0 where
  pub may : MayCome terms a k i past
  pub going : (is_begin i.event ≡ true) ⊎ ((is_begin i.event ≡ false) × (is_begun terms a k past ≡ true))
  pub unfinished : is_ended terms a k past ≡ true → is_begin i.event ≡ false → ⊥
  pub no_end : first_end (events (snapshot_before a k i past)) ≡ None
  pub begin_c : Commit
  pub begin_is : last terms.base k (begin_moment a k (Gave a k i ∷ past)) ≡ Some begin_c
  pub floor : AgentFloor
  pub floor_is : agent_floor terms.base a k past ≡ Some floor

-- a kept item: an index above the floor and below all items before it, with its cells from a commit that is not before the one at the BEGIN
pub record Kept (terms : Terms) (a : ℕ) (k : Key) (i : HistItem) (past : HistMoment) : Type 0 where
  pub within : Inside terms a k i past
  pub no_number : i.at ≡ None
  pub ends_none : ends i.event ≡ false
  pub bare : bare_flags i.event ≡ 0
  pub at_floor : within.floor.index ≤ i.event.index
  pub n : ℕ
  pub kept_c : Commit
  pub found : commit terms.base k n past ≡ Some kept_c
  pub later : within.begin_c.number ≤ kept_c.number
  pub cells_is : kept_c.shown.map i.event.index ≡ Some i.event.cells
  pub above : AllAbove i.event.index (snapshot_before a k i past)

-- an event of a share, inside a snapshot that goes on
pub record Shared (terms : Terms) (a : ℕ) (k : Key) (i : HistItem) (past : HistMoment) : Type 0 where
  pub within : Inside terms a k i past
  pub no_number : i.at ≡ None
  pub ends_none : ends i.event ≡ false
  pub at_floor : within.floor.index ≤ i.event.index
  pub shared : is_shared terms.base a k i.event (Gave a k i ∷ past) ≡ true
  pub counted : at_index i.event.index (snapshot_before a k i past) ≤ at_index i.event.index (shares_since_begin terms.base a k (Gave a k i ∷ past))
  pub there : 0 < at_index i.event.index (shares_since_begin terms.base a k (Gave a k i ∷ past))

-- the item at the floor: what the commit shown has there, or the marker; above the floor the items before it show that commit
pub record AtFloor (terms : Terms) (a : ℕ) (k : Key) (i : HistItem) (past : HistMoment) : Type 0 where
  pub within : Inside terms a k i past
  pub n : ℕ
  pub shown_c : Commit
  pub number_is : i.at ≡ Some n
  pub found : commit terms.base k n past ≡ Some shown_c
  pub shown_number : shown_c.number ≡ n
  pub later : within.begin_c.number ≤ n
  pub none_above : NoneAbove n (given a k past)
  pub index_is : i.event.index ≡ within.floor.index
  pub end_is : is_end i.event ≡ not within.floor.by_snip
  pub snip_is : is_snip i.event ≡ within.floor.by_snip
  pub closed : is_pending i.event ≡ false
  pub above : AllAbove i.event.index (snapshot_before a k i past)
  pub shows : (q : ℕ) → within.floor.index < q → left_by (events (snapshot_before a k i past)) q ≡ shown_c.shown.map q
  pub there : ((bare_flags i.event ≡ 0) × (is_remove i.event ≡ false) × (shown_c.shown.map within.floor.index ≡ Some i.event.cells))
      ⊎ ((bare_flags i.event ≡ 2) × (is_remove i.event ≡ true) × (shown_c.shown.map within.floor.index ≡ None) × (i.event.cells ≡ replicate (width_of (source k past)) (pos 0)))

-- such items may always be given
abbrev pub KeptIsLawful : Type 0
KeptIsLawful = (terms : Terms) (a : ℕ) (k : Key) (i : HistItem) (past : HistMoment) → Kept terms a k i past → LawfulItem terms a k i past

abbrev pub SharedIsLawful : Type 0
SharedIsLawful = (terms : Terms) (a : ℕ) (k : Key) (i : HistItem) (past : HistMoment) → Shared terms a k i past → LawfulItem terms a k i past

abbrev pub AtFloorIsLawful : Type 0
AtFloorIsLawful = (terms : Terms) (a : ℕ) (k : Key) (i : HistItem) (past : HistMoment) → AtFloor terms a k i past → LawfulItem terms a k i past
