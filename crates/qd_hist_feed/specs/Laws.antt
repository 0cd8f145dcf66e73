-- The laws of a feed: what it stands for after each act, and that what it gives is lawful.
use Rattle.std.specs.Prelude.{◌≡◌, ◌≤◌, ◌<◌, ℕ, true, false, ◌||◌, not, ◌∷◌, length, reverse, Some, None}
use Rattle.qd_scheme.specs.declared.key.Key.{Key}
use Rattle.qd_scheme.specs.declared.key.Event.{Event}
use Rattle.qd_gate.specs.declared.machine.Terms.{Terms}
use Rattle.qd_sub.specs.Acts.{Came, Gave}
use Rattle.qd_sub.specs.Subscriptions.{limit_of, wanted}
use Rattle.qd_hist_key.specs.Kept.{Kept}
use Rattle.qd_hist_key.specs.Keeping as keeping
use Rattle.qd_hist_rules.specs.declared.floor.AgentFloor.{AgentFloor}
use Rattle.qd_hist_rules.specs.declared.item.HistItem.{HistItem}
use Rattle.qd_hist_rules.specs.Moments.{HistAct, HistMoment, gives, subscribes}
use Rattle.qd_hist_rules.specs.Source.{source, Commit, made, last, is_snapshot}
use Rattle.qd_hist_rules.specs.Agent.{agent_floor}
use Rattle.qd_hist_rules.specs.Standing.{standing, is_begun, is_ended, behind, has_overflowed, is_due, restarts}
use Rattle.qd_hist_rules.specs.Lawful.{Lawful, LawfulItem}
use Rattle.qd_hist_feed.specs.Feeding.{Feeding, nothing, has_ended, is_done, with_commit, top, next_item, after_next}
use Rattle.qd_hist_feed.specs.Stands.{StandsFor}

-- an act that neither gives an item of the pair nor makes a commit of the key, does not subscribe the pair, and leaves its limit
pub record IsQuiet (terms : Terms) (a : ℕ) (k : Key) (act : HistAct) (past : HistMoment) : Type 0 where
  pub no_gift : gives a k act ≡ false
  pub no_commit : made terms.base k (act ∷ past) ≡ None
  pub same_limit : limit_of a k (act ∷ past) ≡ limit_of a k past
  pub no_sub : subscribes a k act ≡ false

-- a commit of the key that is no snapshot commit and does not restart the pair
pub record IsUpdate (terms : Terms) (a : ℕ) (k : Key) (e : Event) (c : Commit) (past : HistMoment) : Type 0 where
  pub wanted_before : wanted k past ≡ true
  pub wanted_after : wanted k (Came k e ∷ past) ≡ true
  pub made_is : made terms.base k (Came k e ∷ past) ≡ Some c
  pub no_snapshot : is_snapshot c ≡ false
  pub goes_on : restarts (standing terms a past) terms a k (Came k e) past ≡ false

-- what a feed needs to give: the pair fits, the state of the key is that of its source, and no index is above the greatest
pub record CanGive (terms : Terms) (a : ℕ) (k : Key) (f : AgentFloor) (c : Commit) (state : Kept) (now : HistMoment) : Type 0 where
  pub lawful : Lawful terms now
  pub floor_is : agent_floor terms.base a k now ≡ Some f
  pub last_is : last terms.base k now ≡ Some c
  pub state_is : keeping.StandsFor state (source k now)
  pub floor_low : f.index ≤ top
  pub high : (q : ℕ) → top < q → c.shown.map q ≡ None

-- a feed stands for a quiet act
abbrev pub QuietStands : Type 0
QuietStands = (terms : Terms) (a : ℕ) (k : Key) (s : Feeding) (act : HistAct) (past : HistMoment) → IsQuiet terms a k act past → StandsFor terms a k s past → StandsFor terms a k s (act ∷ past)

-- after a commit that does not restart the pair, the feed with the commit's events stands
abbrev pub UpdateStands : Type 0
UpdateStands = (terms : Terms) (a : ℕ) (k : Key) (s : Feeding) (e : Event) (c : Commit) (f : AgentFloor) (past : HistMoment) → Lawful terms past → IsUpdate terms a k e c past → agent_floor terms.base a k past ≡ Some f
    → StandsFor terms a k s past → StandsFor terms a k (with_commit s f.index c.number (reverse c.events)) (Came k e ∷ past)

-- where a BEGIN may be given, it may be given after any act that gives nothing of the pair
abbrev pub WaitingStands : Type 0
WaitingStands = (terms : Terms) (a : ℕ) (k : Key) (act : HistAct) (past : HistMoment) → gives a k act ≡ false → StandsFor terms a k nothing past → StandsFor terms a k nothing (act ∷ past)

-- a feed that was restarted stands where the pair is not begun, or a possible overflow came since its last item
abbrev pub RestartStands : Type 0
RestartStands = (terms : Terms) (a : ℕ) (k : Key) (now : HistMoment) → (not (is_begun terms a k now) || has_overflowed terms a k now) ≡ true → StandsFor terms a k nothing now

-- the next item is lawful, and the feed that is left stands for it
abbrev pub GiftIsLawful : Type 0
GiftIsLawful = (terms : Terms) (a : ℕ) (k : Key) (s : Feeding) (f : AgentFloor) (c : Commit) (state : Kept) (now : HistMoment) (i : HistItem) → CanGive terms a k f c state now → StandsFor terms a k s now → next_item s k state f c.number ≡ Some i
    → LawfulItem terms a k i now × StandsFor terms a k (after_next s state f) (Gave a k i ∷ now)

-- a feed owes no more than the agent is behind, and just that once the snapshot is ended
abbrev pub OwedIsBehind : Type 0
OwedIsBehind = (terms : Terms) (a : ℕ) (k : Key) (s : Feeding) (now : HistMoment) → StandsFor terms a k s now
    → (length s.owed ≤ behind terms a k now) × (is_ended terms a k now ≡ true → has_ended s.stage ≡ true → length s.owed ≡ behind terms a k now)

-- a pair that fits is due just while its feed is not done
abbrev pub DueIsNotDone : Type 0
DueIsNotDone = (terms : Terms) (a : ℕ) (k : Key) (s : Feeding) (f : AgentFloor) (now : HistMoment) → Lawful terms now → agent_floor terms.base a k now ≡ Some f → StandsFor terms a k s now → is_due terms a k now ≡ not (is_done s)
