-- A hub that one thread has: what it keeps, and for which lists it stands.
use Rattle.std.specs.Prelude.{◌≡◌, ℕ, List, [], All, Some, slice_get, length}
use Rattle.qd_gate.specs.declared.machine.Entry.{Entry}
use Rattle.qd_gate.specs.declared.machine.Terms.{Terms}
use Rattle.qd_gate.specs.Passes.{Pass}
use Rattle.qd_ticker.specs.Stripes as ticker
use Rattle.qd_stream.specs.Stripes as stream
use Rattle.qd_hist_stand.specs.Stripes as history
use Rattle.qd_ticker.specs.Legal as ticker_log
use Rattle.qd_stream.specs.Legal as stream_log
use Rattle.qd_hist_rules.specs.Legal as history_log
use Rattle.qd_hub.specs.Configs.{Sizes, stream_terms, history_terms}
use Rattle.qd_hub.specs.Hubs.{TickerPass, StreamPass, HistoryPass}

-- the sizes, and the states of each collector's stripes
pub record Own : Type 0 where
  pub sizes : Sizes
  pub ticker : List ticker.Shown
  pub stream : List stream.Shown
  pub history : List history.Shown

module _ {S O R : Type 0} where
  -- the lists of a state that one thread has: it stands for the legal log, in which each call is its own
  pub record IsOwn (legal : Terms → List (Entry O R) → Type 0) (stands : S → List (Entry O R) → Type 0) (terms : Terms) (x : S) (p : Pass O R) : Type 0 where
    pub number : p.number ≡ 0
    pub same_terms : p.terms ≡ terms
    pub stands_for : stands x p.seen
    pub is_legal : legal p.terms p.seen
    pub own : All (λ e. e.who ≡ 0) p.seen
    pub mine : p.mine ≡ p.seen
    pub looked : p.looked ≡ []

  -- the lists of the state of a stripe
  abbrev pub IsOwnAt : (Terms → List (Entry O R) → Type 0) → (S → List (Entry O R) → Type 0) → Terms → List S → ℕ → Pass O R → Type 0
  IsOwnAt legal stands terms states i p = (x : S) × (slice_get states i ≡ Some x) × IsOwn legal stands terms x p

  -- there are such lists
  abbrev pub HasOwn : (Terms → List (Entry O R) → Type 0) → (S → List (Entry O R) → Type 0) → Terms → S → Type 0
  HasOwn legal stands terms x = (p : Pass O R) × IsOwn legal stands terms x p

  -- so many states, each of which has these terms and stands for no call
  pub record AllNew (stands : S → List (Entry O R) → Type 0) (terms_of : S → Terms) (n : ℕ) (terms : Terms) (states : List S) : Type 0 where
    pub count : length states ≡ n
    pub stand : All (λ s. stands s []) states
    pub same : All (λ s. terms_of s ≡ terms) states

-- the lists for which the hub stands on a stripe of each collector
abbrev pub ticker_at : Own → ℕ → TickerPass → Type 0
ticker_at h i p = IsOwnAt ticker_log.IsLegal ticker.Stands ticker_log.no_terms h.ticker i p

abbrev pub stream_at : Own → ℕ → StreamPass → Type 0
stream_at h i p = IsOwnAt stream_log.IsLegal stream.Stands (stream_terms h.sizes) h.stream i p

abbrev pub history_at : Own → ℕ → HistoryPass → Type 0
history_at h i p = IsOwnAt history_log.IsLegal history.Stands (history_terms h.sizes) h.history i p
