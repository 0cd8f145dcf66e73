-- What a run is given beside its text.
use Rattle.std.specs.Prelude.{ℕ, ◌≡◌, ◌<◌, List, []}
use Rattle.qd_gate.specs.declared.machine.Terms.{Terms}
use Rattle.qd_gate.specs.Passes.{Pass}
use Rattle.qd_scheme.specs.declared.defs.RecordDef.{RecordDef}
use Rattle.qd_ticker.specs.Legal.{no_terms}
use Rattle.qd_hub.specs.Hubs.{TickerPass, StreamPass, HistoryPass}
use Rattle.qd_hub.specs.Configs.{Sizes, stream_terms, history_terms}
use Rattle.qd_path.specs.Lists.{Lists, AreOf}

-- the number with which the entries of a run stand in a log, and the log's terms
pub record Book : Type 0 where
  pub number : ℕ
  pub terms : Terms

-- one for each stripe of each collector
pub record Books : Type 0 where
  pub ticker : ℕ → Book
  pub stream : ℕ → Book
  pub history : ℕ → Book

abbrev pub book_of : {O R : Type 0} → Pass O R → Book
book_of p = record { number = p.number; terms = p.terms }

-- those of a hub that stands for these lists
abbrev pub books_of : Lists → Books
books_of l = record { ticker = λ i. book_of (l.ticker i); stream = λ i. book_of (l.stream i); history = λ i. book_of (l.history i) }

-- the scheme, and how many stripes each collector has
pub record Setting : Type 0 where
  pub defs : List RecordDef
  pub stripes : ℕ

-- no call was made of any of n stripes
pub record AreEmpty (n : ℕ) (l : Lists) : Type 0 where
  pub on_ticker : (i : ℕ) → i < n → (l.ticker i).seen ≡ []
  pub on_stream : (i : ℕ) → i < n → (l.stream i).seen ≡ []
  pub on_history : (i : ℕ) → i < n → (l.history i).seen ≡ []

-- a hub of n stripes, which stands for what these relations say, may be new: it stands for empty lists
abbrev pub StandsForNothing : ℕ → (ℕ → TickerPass → Type 0) → (ℕ → StreamPass → Type 0) → (ℕ → HistoryPass → Type 0) → Type 0
StandsForNothing n ticker stream history = (l : Lists) × AreOf n ticker stream history l × AreEmpty n l

-- the books of a hub that one thread has, with these sizes
abbrev pub own_books : Sizes → Books
own_books sizes = record {
  ticker = λ i. record { number = 0; terms = no_terms };
  stream = λ i. record { number = 0; terms = stream_terms sizes };
  history = λ i. record { number = 0; terms = history_terms sizes };
}
