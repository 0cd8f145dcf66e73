-- What a feed stands for.
use Rattle.std.specs.Prelude.{◌≡◌, ◌≤◌, ◌<◌, ◌+◌, ℕ, true, false, ◌||◌, not, List, [], ◌∷◌, length, Some, None}
use Rattle.std.specs.List.{list_any}
use Rattle.qd_scheme.specs.declared.key.Key.{Key}
use Rattle.qd_flags.specs.Bits.{is_begin}
use Rattle.qd_flags.specs.Shown.{ends, first_end, left_by}
use Rattle.qd_gate.specs.declared.machine.Terms.{Terms}
use Rattle.qd_hist_rules.specs.declared.floor.AgentFloor.{AgentFloor}
use Rattle.qd_hist_rules.specs.declared.item.HistItem.{HistItem}
use Rattle.qd_hist_rules.specs.Moments.{HistMoment, events}
use Rattle.qd_hist_rules.specs.Source.{Commit, last}
use Rattle.qd_hist_rules.specs.Agent as agent
use Rattle.qd_hist_rules.specs.Agent.{agent_floor, snapshot, shares_since_begin, with_items}
use Rattle.qd_hist_rules.specs.Standing.{is_begun, is_ended, has_overflowed}
use Rattle.qd_hist_rules.specs.Lawful.{is_event, at_index}
use Rattle.qd_hist_rules.specs.Snapshots.{AllAbove}
use Rattle.qd_hist_feed.specs.declared.feed.Stage.{Stage}
use Rattle.qd_hist_feed.specs.declared.feed.Stage.TheVariants.{Waiting, Sweeping, Ended}
use Rattle.qd_hist_feed.specs.Feeding.{Feeding}

-- an item owed inside a snapshot: an event of a share, at an index that is swept
pub record IsOwed (place : ℕ) (shares : List HistItem) (i : HistItem) : Type 0 where
  pub swept : place < i.event.index
  pub no_number : i.at ≡ None
  pub no_begin : is_begin i.event ≡ false
  pub no_end : ends i.event ≡ false
  pub shared : list_any (λ d. is_event i.event d.event) shares ≡ true

abbrev pub AllOwed : ℕ → List HistItem → List HistItem → Type 0
AllOwed place shares [] = Unit {0}
AllOwed place shares (i ∷ is) = IsOwed place shares i × AllOwed place shares is

-- a snapshot that goes on with the entries at or below a place: above it, what was given and what is owed show the last commit
pub record Sweeps (terms : Terms) (a : ℕ) (k : Key) (place : ℕ) (owed : List HistItem) (now : HistMoment) : Type 0 where
  pub begun : is_begun terms a k now ≡ true
  pub no_end : first_end (events (snapshot a k now)) ≡ None
  pub floor : AgentFloor
  pub floor_is : agent_floor terms.base a k now ≡ Some floor
  pub at_floor : floor.index ≤ place
  pub last_c : Commit
  pub last_is : last terms.base k now ≡ Some last_c
  pub above : AllAbove place (snapshot a k now)
  pub each : AllOwed place (shares_since_begin terms.base a k now) owed
  pub shows : (q : ℕ) → place < q → with_items floor.index (left_by (events (snapshot a k now))) owed q ≡ last_c.shown.map q
  pub fewer : length owed ≤ length (shares_since_begin terms.base a k now)
  -- an index was given and is owed once, and once more for each event of a share on it
  pub counts : (q : ℕ) → at_index q (snapshot a k now) + at_index q owed ≤ 1 + at_index q (shares_since_begin terms.base a k now)

abbrev pub StandsBy : Stage → List HistItem → Terms → ℕ → Key → HistMoment → Type 0
StandsBy Waiting owed terms a k now = (owed ≡ []) × ((not (is_begun terms a k now) || has_overflowed terms a k now) ≡ true)
StandsBy (Sweeping place) owed terms a k now = Sweeps terms a k place owed now
StandsBy Ended owed terms a k now = (is_ended terms a k now ≡ true) × (owed ≡ agent.owed terms.base a k now)

-- the feed of a and k at this moment: waiting where a BEGIN may be given, sweeping inside a snapshot, ended with just what is owed
abbrev pub StandsFor : Terms → ℕ → Key → Feeding → HistMoment → Type 0
StandsFor terms a k s now = StandsBy s.stage s.owed terms a k now
