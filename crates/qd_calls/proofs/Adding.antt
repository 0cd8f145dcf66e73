-- Lists grow by calls, and then by more.
pub use Rattle.qd_path.proofs.Adding.{grows_on as grew_more}
use Rattle.std.proofs.Common.{ℕ, List, []}
use Rattle.qd_ticker.specs.Legal as ticker
use Rattle.qd_stream.specs.Legal as stream
use Rattle.qd_hist_rules.specs.Legal as history
use Rattle.qd_path.specs.Lists.{Lists, GrewBy, AreSound}
use Rattle.qd_path.specs.Made.{Made}
use Rattle.qd_calls.proofs.Growing.{gains_none}

-- lists that are sound grew by no call
pub grew_none : (n : ℕ) (l : Lists) → AreSound n l → GrewBy n [] l l
grew_none n l s = record {
  on_ticker = λ i w. gains_none ticker.IsLegal (l.ticker i) (s.on_ticker i w);
  on_stream = λ i w. gains_none stream.IsLegal (l.stream i) (s.on_stream i w);
  on_history = λ i w. gains_none history.IsLegal (l.history i) (s.on_history i w);
}

-- lists that grew are sound
pub grown_sound : (n : ℕ) (a : List Made) (l m : Lists) → GrewBy n a l m → AreSound n m
grown_sound n a l m g = record { on_ticker = λ i w. (g.on_ticker i w).sound; on_stream = λ i w. (g.on_stream i w).sound; on_history = λ i w. (g.on_history i w).sound }
