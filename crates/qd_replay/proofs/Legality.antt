-- What a hub that is alone was asked is a legal log of each stripe.
use Rattle.std.proofs.Common.{ℕ, ◌≡◌, List, [], ◌++◌, sym, ◌∙◌, ap}
use Rattle.qd_gate.specs.declared.machine.Entry.{Entry}
use Rattle.qd_gate.specs.declared.machine.Terms.{Terms}
use Rattle.qd_gate.specs.Passes.{Pass}
use Rattle.qd_ticker.specs.Legal as ticker
use Rattle.qd_stream.specs.Legal as stream
use Rattle.qd_hist_rules.specs.Legal as history
use Rattle.qd_hub.specs.Hubs.{AreOwn, TickerPass, StreamPass, HistoryPass}
use Rattle.qd_path.specs.Lists.{Lists, Gains, GrewBy, AreOf}
use Rattle.qd_path.specs.Made.{Made, Answered, entries}
use Rattle.qd_replay.specs.Running.{AreLegal}
use Rattle.qd_replay.specs.Settings.{AreEmpty, books_of}

module _ {O R : Type 0} where
  legal_one : (legal : Terms → List (Entry O R) → Type 0) (calls : List (Answered O R)) (p q : Pass O R) → Gains legal calls p q → p.seen ≡ [] → p.mine ≡ p.seen → q.mine ≡ q.seen → legal p.terms (entries p.number calls)
  legal_one legal calls p q g none own mine =
      let seen : q.seen ≡ entries p.number calls = sym mine ∙ g.mine ∙ ap (λ (l : List (Entry O R)). l ++ entries p.number calls) (own ∙ none) in
      rw (seen, g.same.2) at g.sound.is_legal

pub made_legal : (n : ℕ) (calls : List Made) (l m : Lists) (T T' : ℕ → TickerPass → Type 0) (S S' : ℕ → StreamPass → Type 0) (H H' : ℕ → HistoryPass → Type 0)
    → GrewBy n calls l m → AreEmpty n l → AreOf n T S H l → AreOf n T' S' H' m → AreOwn T × AreOwn S × AreOwn H → AreOwn T' × AreOwn S' × AreOwn H' → AreLegal n (books_of l) calls
made_legal n calls l m T T' S S' H H' g none old new own mine = record {
  on_ticker = λ i w. legal_one ticker.IsLegal _ (l.ticker i) (m.ticker i) (g.on_ticker i w) (none.on_ticker i w) (own.0 i (l.ticker i) (old.on_ticker i w)).0 (mine.0 i (m.ticker i) (new.on_ticker i w)).0;
  on_stream = λ i w. legal_one stream.IsLegal _ (l.stream i) (m.stream i) (g.on_stream i w) (none.on_stream i w) (own.1 i (l.stream i) (old.on_stream i w)).0 (mine.1 i (m.stream i) (new.on_stream i w)).0;
  on_history = λ i w. legal_one history.IsLegal _ (l.history i) (m.history i) (g.on_history i w) (none.on_history i w) (own.2 i (l.history i) (old.on_history i w)).0 (mine.2 i (m.history i) (new.on_history i w)).0;
}
