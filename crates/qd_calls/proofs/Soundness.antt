-- What a hub tells of all its lists holds of each of them.
use Rattle.std.proofs.Common.{ℕ, List}
use Rattle.std.specs.Prelude.{Result, Ok, Err, IfOk}
use Rattle.qd_gate.specs.declared.gate.NoTurn.{NoTurn}
use Rattle.qd_gate.specs.declared.machine.Entry.{Entry}
use Rattle.qd_gate.specs.declared.machine.Terms.{Terms}
use Rattle.qd_gate.specs.Passes.{Pass}
use Rattle.qd_row.specs.Rows.{Turns}
use Rattle.qd_hub.specs.Hubs as hubs
use Rattle.qd_hub.specs.Hubs.{Asks, TickerPass, StreamPass, HistoryPass}
use Rattle.qd_ticker.specs.Legal as ticker
use Rattle.qd_stream.specs.Legal as stream
use Rattle.qd_hist_rules.specs.Legal as history
use Rattle.qd_path.specs.Lists.{Lists, AreOf, AreSound}
use Rattle.qd_calls.specs.Turns.{IsAnswer}

pub sound_lists : (n : ℕ) (tn sn hn : ℕ → ℕ) (te se he : ℕ → Terms) (T : ℕ → TickerPass → Type 0) (S : ℕ → StreamPass → Type 0) (H : ℕ → HistoryPass → Type 0) (l : Lists) → AreOf n T S H l
    → hubs.AreOf ticker.IsLegal te tn T → hubs.AreOf stream.IsLegal se sn S → hubs.AreOf history.IsLegal he hn H → AreSound n l
sound_lists n tn sn hn te se he T S H l are on_t on_s on_h = record {
  on_ticker = λ i h. (on_t i (l.ticker i) (are.on_ticker i h)).2;
  on_stream = λ i h. (on_s i (l.stream i) (are.on_stream i h)).2;
  on_history = λ i h. (on_h i (l.history i) (are.on_history i h)).2;
}

module _ {O R : Type 0} where
  -- a stripe that stands for some list answers as some list does
  pub lawful : (legal : Terms → List (Entry O R) → Type 0) (before after : Pass O R → Type 0) (op : O) (result : Result R (NoTurn O)) → (p : Pass O R) × before p → Asks legal before after op result → IfOk result (λ reply. IsAnswer legal op reply)
  lawful legal before after op result (p, stands) asked = let q = asked p stands in told result q.0 q.2
    where
      told : (result : Result R (NoTurn O)) (q : Pass O R) → Turns legal p op result q → IfOk result (λ reply. IsAnswer legal op reply)
      told (Ok reply) q t = (p, q, t.1)
      told (Err why) q t = tt
