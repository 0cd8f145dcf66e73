-- The laws of the history in one log.
use Rattle.std.specs.Prelude.{◌≡◌, ◌≤◌, ℕ, true, List, [], ◌∷◌, Option, Some, None, slice_get}
use Rattle.qd_scheme.specs.declared.key.Key.{Key}
use Rattle.qd_flags.specs.Shown.{Shown, shown, cut, left_by, since_begin}
use Rattle.qd_gate.specs.declared.machine.Terms.{Terms}
use Rattle.qd_sub.specs.Subscriptions.{limit_of}
use Rattle.qd_hist_rules.specs.declared.floor.AgentFloor.{AgentFloor}
use Rattle.qd_hist_rules.specs.declared.item.HistItem.{HistItem}
use Rattle.qd_hist_rules.specs.Moments.{HistMoment, events, given}
use Rattle.qd_hist_rules.specs.Source.{Commit, commit, last}
use Rattle.qd_hist_rules.specs.Agent.{agent_floor, begin_moment, owed, with_items}
use Rattle.qd_hist_rules.specs.Standing.{is_ended}
use Rattle.qd_hist_rules.specs.Lawful.{Lawful, LawfulItem, NoneAbove}
use Rattle.qd_hist_rules.specs.Legal.{HistoryEntry, moment_of, IsLegal}

-- the number of the last item given
abbrev pub last_number : List HistItem → Option ℕ
last_number [] = None
last_number (i ∷ is) = i.at

-- what an agent sees of a key is the map of one commit, cut at the floor shown
pub record ShowsOne (terms : Terms) (a : ℕ) (k : Key) (s : Shown) (now : HistMoment) : Type 0 where
  pub n : ℕ
  pub commit_n : Commit
  -- the limit when the snapshot began
  pub limit_then : ℕ
  pub number_is : last_number (given a k now) ≡ Some n
  pub is_commit : commit terms.base k n now ≡ Some commit_n
  pub map_is : s.map ≡ cut s.floor commit_n.shown.map
  -- the floor shown is no less than that of the commit, and no less than the limit
  pub above_source : commit_n.shown.floor ≤ s.floor
  pub limit_is : limit_of a k (begin_moment a k now) ≡ Some limit_then
  pub above_limit : limit_then ≤ s.floor
  -- no number that the agent was ever given is greater
  pub none_above : NoneAbove n (given a k now)

-- where each item was lawful, whenever what an agent was given shows whole, it shows one commit
abbrev pub WholeShowsOne : Type 0
WholeShowsOne = (terms : Terms) (now : HistMoment) → Lawful terms now → (a : ℕ) (k : Key) (s : Shown) → shown (events (given a k now)) ≡ Some s → ShowsOne terms a k s now

-- in a legal log each item was lawful at its place
abbrev pub LegalIsLawful : Type 0
LegalIsLawful = (terms : Terms) (log : List HistoryEntry) → IsLegal terms log → Lawful terms (moment_of log)

-- the next item owed to an ended pair may always be given
abbrev pub OwedIsLawful : Type 0
OwedIsLawful = (terms : Terms) (now : HistMoment) → Lawful terms now → (a : ℕ) (k : Key) (i : HistItem) → is_ended terms a k now ≡ true → slice_get (owed terms.base a k now) 0 ≡ Some i → LawfulItem terms a k i now

-- what an agent was given since its last BEGIN, and then what it is owed, make the map of the last commit, at or above its floor
pub record MakesLast (terms : Terms) (a : ℕ) (k : Key) (now : HistMoment) : Type 0 where
  pub floor : AgentFloor
  pub commit_c : Commit
  pub floor_is : agent_floor terms.base a k now ≡ Some floor
  pub last_is : last terms.base k now ≡ Some commit_c
  pub map_is : with_items floor.index (cut floor.index (left_by (since_begin (events (given a k now))))) (owed terms.base a k now) ≡ cut floor.index commit_c.shown.map

-- nothing is missing: an ended pair that has been given what it is owed shows the last commit
abbrev pub OwedMakesLast : Type 0
OwedMakesLast = (terms : Terms) (now : HistMoment) → Lawful terms now → (a : ℕ) (k : Key) → is_ended terms a k now ≡ true → MakesLast terms a k now
