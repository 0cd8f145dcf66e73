-- A link joins an agent of one log to what is put in another.
use Rattle.std.specs.Prelude.{◌≡◌, ◌≤◌, ◌==◌, ℕ, List, [], ◌∷◌, ◌++◌, length, map, Option, Some, None, if◌then◌else◌}
use Rattle.qd_scheme.specs.declared.key.Key.{Key}
use Rattle.qd_scheme.specs.declared.key.Event.{Event}
use Rattle.qd_flags.specs.Shown.{cut}
use Rattle.qd_gate.specs.declared.machine.Terms.{Terms}
use Rattle.qd_ticker.specs.Pending.{TickerMoment}
use Rattle.qd_stream.specs.declared.item.StreamItem.{StreamItem}
use Rattle.qd_stream.specs.Waiting.{StreamMoment, matched}
use Rattle.qd_hist_rules.specs.declared.item.HistItem.{HistItem}
use Rattle.qd_hist_rules.specs.Moments.{HistMoment}
use Rattle.qd_hist_rules.specs.Moments as gifts
use Rattle.qd_hist_rules.specs.Source.{Commit, commit}
use Rattle.qd_views.specs.Views.{IsTickerMoment, IsStreamMoment, IsHistoryMoment, puts, given, IsSteady, item_at, origins, of_key, Accounts}

-- the link delivers k: the items of k that were put below are, in order, the first of those that the agent above was given; the others are in flight
pub record Delivers {P : Type 0} (above below : List P) : Type 0 where
  pub in_flight : List P
  pub first_ones : below ++ in_flight ≡ above

-- the events of k that an agent of a history was given, in order
abbrev pub events_given : ℕ → Key → HistMoment → List Event
events_given a k now = map (λ i. i.event) (given a k now)

-- The ticker: each record that was put below is the one that was put above with the number of its origin.
abbrev pub TickerLink : Type 0
TickerLink = (terms : Terms) (up low : TickerMoment) (a : ℕ) (k : Key) → IsTickerMoment terms up → Delivers (given a k up) (puts k low)
    → (rest : List ℕ) × (firsts : List ℕ) × (origins a k up ≡ firsts ++ rest) × (map Some (puts k low) ≡ map (λ n. item_at n (puts k up)) firsts)

-- The stream: where the agent above subscribed once, what was put below accounts for the first of what was put for it above.
abbrev pub StreamLink : Type 0
StreamLink = (terms : Terms) (up low : StreamMoment) (a : ℕ) (k : Key) → IsStreamMoment terms up → IsSteady a k up → Delivers (given a k up) (puts k low)
    → (told : List StreamItem) × (untold : List StreamItem) × (of_key k (matched a up) ≡ told ++ untold) × Accounts k (puts k low) told

-- The history.

-- the number of the j-th item, counted from 1; the newest item stands first
abbrev pub number_at : ℕ → List HistItem → Option ℕ
number_at j [] = None
number_at j (i ∷ is) = if length (i ∷ is) == j then i.at else number_at j is

-- a commit below comes from the item above that was put last in it. This is that item's number
abbrev pub number_above : ℕ → Key → HistMoment → Commit → Option ℕ
number_above a k up c = number_at (length (puts k c.when)) (gifts.given a k up)

-- a commit below is the map of a commit above, cut at the floor shown
pub record ComesFrom (terms : Terms) (a : ℕ) (k : Key) (up : HistMoment) (c : Commit) : Type 0 where
  pub n : ℕ
  pub commit_n : Commit
  pub number_is : number_above a k up c ≡ Some n
  pub is_commit : commit terms.base k n up ≡ Some commit_n
  pub map_is : c.shown.map ≡ cut c.shown.floor commit_n.shown.map
  pub above_source : commit_n.shown.floor ≤ c.shown.floor

-- each commit below comes from one above
abbrev pub HistoryLink : Type 0
HistoryLink = (terms below : Terms) (up low : HistMoment) (a : ℕ) (k : Key) → IsHistoryMoment terms up → Delivers (events_given a k up) (puts k low)
    → (n : ℕ) (c : Commit) → commit below.base k n low ≡ Some c → ComesFrom terms a k up c

-- the numbers above rise with the numbers below
abbrev pub HistoryLinkRises : Type 0
HistoryLinkRises = (terms below : Terms) (up low : HistMoment) (a : ℕ) (k : Key) → IsHistoryMoment terms up
    → (m n : ℕ) (c d : Commit) → commit below.base k m low ≡ Some c → commit below.base k n low ≡ Some d → m ≤ n
    → (q r : ℕ) → number_above a k up c ≡ Some q → number_above a k up d ≡ Some r → q ≤ r
