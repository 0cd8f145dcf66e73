-- A path for a key: logs joined by links that deliver the key, from a leaf up to the root.
use Rattle.std.specs.Prelude.{◌≡◌, ◌≤◌, ◌<◌, ℕ, suc, zero, List, [], ◌∷◌, ◌++◌, length, map, Option, Some, None, option_and_then, All, AllPairs, Contains, false, get_or}
use Rattle.qd_scheme.specs.declared.key.Key.{Key}
use Rattle.qd_scheme.specs.declared.key.Event.{Event}
use Rattle.qd_scheme.specs.declared.key.Record.{Record}
use Rattle.qd_flags.specs.Shown.{Shown, shown, cut}
use Rattle.qd_gate.specs.declared.machine.Terms.{Terms}
use Rattle.qd_sub.specs.Acts.{Moment}
use Rattle.qd_sub.specs.Subscriptions.{limit_of}
use Rattle.qd_ticker.specs.Pending.{last, pending}
use Rattle.qd_stream.specs.declared.item.StreamItem.{StreamItem}
use Rattle.qd_stream.specs.Waiting.{matched}
use Rattle.qd_stream.specs.Holding.{is_owed}
use Rattle.qd_hist_rules.specs.declared.item.HistItem.{HistItem}
use Rattle.qd_hist_rules.specs.Moments.{HistMoment, events}
use Rattle.qd_hist_rules.specs.Moments as gifts
use Rattle.qd_hist_rules.specs.Source.{Commit, commit}
use Rattle.qd_hist_rules.specs.Agent.{begin_moment}
use Rattle.qd_hist_rules.specs.Lawful.{NoneAbove}
use Rattle.qd_hist_rules.specs.Laws.{last_number}
use Rattle.qd_views.specs.Views.{IsTickerMoment, IsStreamMoment, IsHistoryMoment, puts, given, IsSteady, item_at, origins, offered, of_key, Accounts}
use Rattle.qd_ways.specs.Links.{Delivers, events_given, number_above}

-- a log at some moment, and the agent in it that the path goes on with
pub record Stage (P T : Type 0) : Type 0 where
  pub terms : Terms
  pub now : Moment P T
  pub agent : ℕ

module _ {P T : Type 0} (IsMoment : Terms → Moment P T → Type 0) (gives : ℕ → Key → Moment P T → List P) where
  -- a path for k, from a stage up to the root: moments of legal logs, joined by links that deliver k
  abbrev pub IsPath : Key → Stage P T → List (Stage P T) → Type 0
  IsPath k low [] = IsMoment low.terms low.now
  IsPath k low (up ∷ above) = IsMoment low.terms low.now × Delivers (gives up.agent k up.now) (puts k low.now) × IsPath k up above

module _ {P T : Type 0} where
  abbrev pub root : Stage P T → List (Stage P T) → Stage P T
  root low [] = low
  root low (up ∷ above) = root up above

  -- something holds of each stage
  abbrev pub EachStage : (Stage P T → Type 0) → Stage P T → List (Stage P T) → Type 0
  EachStage holds low [] = holds low
  EachStage holds low (up ∷ above) = holds low × EachStage holds up above

  -- something holds of each link, from the stage above to the one below
  abbrev pub EachLink : (Stage P T → Stage P T → Type 0) → Stage P T → List (Stage P T) → Type 0
  EachLink holds low [] = Unit {0}
  EachLink holds low (up ∷ above) = holds up low × EachLink holds up above

  -- in each log the agent subscribed to k once, and that subscription has not ended
  abbrev pub IsSteadyPath : Key → Stage P T → List (Stage P T) → Type 0
  IsSteadyPath k leaf above = EachStage (λ stage. IsSteady stage.agent k stage.now) leaf above

-- The ticker.

abbrev pub TickerStage : Type 0
TickerStage = Stage Record Record

abbrev pub IsTickerPath : Key → TickerStage → List TickerStage → Type 0
IsTickerPath k leaf above = IsPath IsTickerMoment given k leaf above

-- the number at a place of a list, counted from 1; 0 stands for none
abbrev pub number_of : ℕ → List ℕ → ℕ
number_of zero numbers = 0
number_of (suc i) numbers = get_or numbers i 0

-- the origins at the root of the records that the agent of a stage was given, in order: the n-th record put below a link is the n-th that was given above
abbrev pub root_origins : Key → TickerStage → List TickerStage → List ℕ
root_origins k low [] = origins low.agent k low.now
root_origins k low (up ∷ above) = map (λ n. number_of n (root_origins k up above)) (origins low.agent k low.now)

-- the number of the last item of a list
abbrev pub last_place : {X : Type 0} → List X → Option ℕ
last_place [] = None
last_place (x ∷ xs) = Some (length (x ∷ xs))

-- the last record that the agent above was given was put below, and offered there
abbrev pub IsOffered : Key → TickerStage → TickerStage → Type 0
IsOffered k up low = last (offered low.agent k low.now) ≡ last_place (given up.agent k up.now)

-- what the agent at the end of a path of tickers was given
pub record TickerPathView (k : Key) (leaf : TickerStage) (above : List TickerStage) : Type 0 where
  -- each record is the one that was put at the root with the number of its origin
  pub repeats : map Some (given leaf.agent k leaf.now) ≡ map (λ n. item_at n (puts k (root leaf above).now)) (root_origins k leaf above)
  -- the origins never go back
  pub never_back : AllPairs ◌≤◌ (root_origins k leaf above)
  -- on a steady path they rise, and the root offered each
  pub rises : IsSteadyPath k leaf above → AllPairs ◌<◌ (root_origins k leaf above)
  pub offered_there : IsSteadyPath k leaf above → All (Contains (offered (root leaf above).agent k (root leaf above).now)) (root_origins k leaf above)
  -- and where nothing is on the way, the last record is the last that the root offered
  pub up_to_date : IsSteadyPath k leaf above → EachLink (IsOffered k) leaf above → EachStage (λ stage. pending stage.agent k stage.now ≡ false) leaf above
      → last (root_origins k leaf above) ≡ last (offered (root leaf above).agent k (root leaf above).now)

abbrev pub TickerPath : Type 0
TickerPath = (k : Key) (leaf : TickerStage) (above : List TickerStage) → IsTickerPath k leaf above → TickerPathView k leaf above

-- The stream.

abbrev pub StreamStage : Type 0
StreamStage = Stage StreamItem StreamItem

abbrev pub IsStreamPath : Key → StreamStage → List StreamStage → Type 0
IsStreamPath k leaf above = IsPath IsStreamMoment given k leaf above

-- all that the agent above was given of k was put below
abbrev pub IsAllPut : Key → StreamStage → StreamStage → Type 0
IsAllPut k up low = puts k low.now ≡ given up.agent k up.now

-- what the agent at the end of a path of streams was given
pub record StreamPathView (k : Key) (leaf : StreamStage) (above : List StreamStage) : Type 0 where
  -- it accounts for consecutive items of those that were put for the agent at the root
  pub before : List StreamItem
  pub told : List StreamItem
  pub untold : List StreamItem
  pub matched_is : of_key k (matched (root leaf above).agent (root leaf above).now) ≡ before ++ told ++ untold
  pub accounts : Accounts k (given leaf.agent k leaf.now) told
  -- and these reach the end, where all was put below and in no log an item of the key waits or a loss of it is unreported
  pub reaches : EachLink (IsAllPut k) leaf above → EachStage (λ stage. is_owed stage.terms.cap stage.agent k stage.now ≡ false) leaf above → untold ≡ []

abbrev pub StreamPath : Type 0
StreamPath = (k : Key) (leaf : StreamStage) (above : List StreamStage) → IsStreamPath k leaf above → IsSteadyPath k leaf above → StreamPathView k leaf above

-- The history.

abbrev pub HistoryStage : Type 0
HistoryStage = Stage Event HistItem

abbrev pub IsHistoryPath : Key → HistoryStage → List HistoryStage → Type 0
IsHistoryPath k leaf above = IsPath IsHistoryMoment events_given k leaf above

-- the number at the root of a commit of a stage, had by following the links upwards
abbrev pub origin : Key → HistoryStage → List HistoryStage → ℕ → Option ℕ
origin k low [] n = Some n
origin k low (up ∷ above) n = option_and_then (λ c. option_and_then (λ p. origin k up above p) (number_above up.agent k up.now c)) (commit low.terms.base k n low.now)

-- what the leaf shows is the map of a commit of the root, cut at the floor shown
pub record HistoryPathView (k : Key) (leaf : HistoryStage) (above : List HistoryStage) (s : Shown) : Type 0 where
  pub n : ℕ
  pub origin_n : ℕ
  pub commit_n : Commit
  -- the leaf's limit when the snapshot began
  pub limit_then : ℕ
  pub number_is : last_number (gifts.given leaf.agent k leaf.now) ≡ Some n
  pub origin_is : origin k leaf above n ≡ Some origin_n
  pub is_commit : commit (root leaf above).terms.base k origin_n (root leaf above).now ≡ Some commit_n
  pub map_is : s.map ≡ cut s.floor commit_n.shown.map
  pub above_source : commit_n.shown.floor ≤ s.floor
  pub limit_is : limit_of leaf.agent k (begin_moment leaf.agent k leaf.now) ≡ Some limit_then
  pub above_limit : limit_then ≤ s.floor
  -- no number that the leaf was ever given is greater
  pub none_above : NoneAbove n (gifts.given leaf.agent k leaf.now)

-- whenever what the leaf was given shows whole
abbrev pub HistoryPath : Type 0
HistoryPath = (k : Key) (leaf : HistoryStage) (above : List HistoryStage) → IsHistoryPath k leaf above
    → (s : Shown) → shown (events (gifts.given leaf.agent k leaf.now)) ≡ Some s → HistoryPathView k leaf above s

-- origins rise with the numbers
abbrev pub OriginsRise : Type 0
OriginsRise = (k : Key) (leaf : HistoryStage) (above : List HistoryStage) → IsHistoryPath k leaf above → (m n q r : ℕ) → m ≤ n → origin k leaf above m ≡ Some q → origin k leaf above n ≡ Some r → q ≤ r

-- a stage at a later moment
pub record Later (old new : HistoryStage) : Type 0 where
  pub since : HistMoment
  pub now_is : new.now ≡ since ++ old.now
  pub terms_is : new.terms ≡ old.terms
  pub agent_is : new.agent ≡ old.agent

abbrev pub AllLater : List HistoryStage → List HistoryStage → Type 0
AllLater [] [] = Unit {0}
AllLater (old ∷ olds) (new ∷ news) = Later old new × AllLater olds news
AllLater [] (new ∷ news) = ⊥
AllLater (old ∷ olds) [] = ⊥

-- an origin stays what it is while the logs grow
abbrev pub OriginsStay : Type 0
OriginsStay = (k : Key) (old new : HistoryStage) (olds news : List HistoryStage) → Later old new → AllLater olds news → (n r : ℕ) → origin k old olds n ≡ Some r → origin k new news n ≡ Some r

-- what the leaf shows never goes back: at a later moment of the path the origin is no less
abbrev pub NeverBack : Type 0
NeverBack = (k : Key) (old new : HistoryStage) (olds news : List HistoryStage) → Later old new → AllLater olds news → IsHistoryPath k new news
    → (m n q r : ℕ) → last_number (gifts.given old.agent k old.now) ≡ Some m → origin k old olds m ≡ Some q
    → (s : Shown) → shown (events (gifts.given new.agent k new.now)) ≡ Some s → last_number (gifts.given new.agent k new.now) ≡ Some n → origin k new news n ≡ Some r → q ≤ r
