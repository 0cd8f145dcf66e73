-- What lists gain in one run of calls and then in another.
use Rattle.std.proofs.Common.{ℕ, nat_eq, ◌≡◌, Bool, true, false, cond, List, [], ◌∷◌, ◌++◌, refl, ap, sym, ◌∙◌, append_assoc}
use Rattle.qd_gate.specs.declared.machine.Entry.{Entry}
use Rattle.qd_gate.specs.declared.machine.Terms.{Terms}
use Rattle.qd_gate.specs.Logs.{entry}
use Rattle.qd_gate.specs.Passes.{Pass}
use Rattle.qd_gate.proofs.Prefixes.{prefix_trans}
use Rattle.qd_ticker.specs.Legal as ticker
use Rattle.qd_stream.specs.Legal as stream
use Rattle.qd_hist_rules.specs.Legal as history
use Rattle.qd_path.specs.Laws.{GrowsOn}
use Rattle.qd_path.specs.Lists.{Gains}
use Rattle.qd_path.specs.Made.{Made, Answered, entries, ticker_calls, stream_calls, history_calls}

module _ {O R : Type 0} where
  entries_more : (who : ℕ) (a b : List (Answered O R)) → entries who (a ++ b) ≡ entries who a ++ entries who b
  entries_more who [] b = refl
  entries_more who (x ∷ a) b = ap (λ (l : List (Entry O R)). entry who x.op x.reply ∷ l) (entries_more who a b)

  pub gains_more : (legal : Terms → List (Entry O R) → Type 0) (a b : List (Answered O R)) (p q r : Pass O R) → Gains legal a p q → Gains legal b q r → Gains legal (a ++ b) p r
  gains_more legal a b p q r g h = record {
    same = (h.same.0 ∙ g.same.0, h.same.1 ∙ g.same.1, h.same.2 ∙ g.same.2);
    begins = prefix_trans p.seen q.seen r.seen g.begins h.begins;
    mine = h.mine ∙ ap (λ (n : ℕ). q.mine ++ entries n b) g.same.1 ∙ ap (λ (l : List (Entry O R)). l ++ entries p.number b) g.mine
        ∙ append_assoc p.mine (entries p.number a) (entries p.number b) ∙ ap (λ (l : List (Entry O R)). p.mine ++ l) (sym (entries_more p.number a b));
    looked = prefix_trans p.looked q.looked r.looked g.looked h.looked;
    sound = h.sound;
  }

kept_front : {X : Type 0} (keep : Bool) (x : X) (a b : List X) → cond keep (x ∷ (a ++ b)) (a ++ b) ≡ cond keep (x ∷ a) a ++ b
kept_front true x a b = refl
kept_front false x a b = refl

ticker_more : (i : ℕ) (a b : List Made) → ticker_calls i (a ++ b) ≡ ticker_calls i a ++ ticker_calls i b
ticker_more i [] b = refl
ticker_more i (Made.Ticker stripe op reply ∷ a) b = rw (ticker_more i a b) (kept_front (nat_eq stripe i) (record { op = op; reply = reply }) (ticker_calls i a) (ticker_calls i b))
ticker_more i (Made.Stream stripe op reply ∷ a) b = ticker_more i a b
ticker_more i (Made.History stripe op reply ∷ a) b = ticker_more i a b

stream_more : (i : ℕ) (a b : List Made) → stream_calls i (a ++ b) ≡ stream_calls i a ++ stream_calls i b
stream_more i [] b = refl
stream_more i (Made.Ticker stripe op reply ∷ a) b = stream_more i a b
stream_more i (Made.Stream stripe op reply ∷ a) b = rw (stream_more i a b) (kept_front (nat_eq stripe i) (record { op = op; reply = reply }) (stream_calls i a) (stream_calls i b))
stream_more i (Made.History stripe op reply ∷ a) b = stream_more i a b

history_more : (i : ℕ) (a b : List Made) → history_calls i (a ++ b) ≡ history_calls i a ++ history_calls i b
history_more i [] b = refl
history_more i (Made.Ticker stripe op reply ∷ a) b = history_more i a b
history_more i (Made.Stream stripe op reply ∷ a) b = history_more i a b
history_more i (Made.History stripe op reply ∷ a) b = rw (history_more i a b) (kept_front (nat_eq stripe i) (record { op = op; reply = reply }) (history_calls i a) (history_calls i b))

pub grows_on : GrowsOn
grows_on n a b l m r g h = record {
  on_ticker = λ i within. rw (ticker_more i a b) (gains_more ticker.IsLegal (ticker_calls i a) (ticker_calls i b) (l.ticker i) (m.ticker i) (r.ticker i) (g.on_ticker i within) (h.on_ticker i within));
  on_stream = λ i within. rw (stream_more i a b) (gains_more stream.IsLegal (stream_calls i a) (stream_calls i b) (l.stream i) (m.stream i) (r.stream i) (g.on_stream i within) (h.on_stream i within));
  on_history = λ i within. rw (history_more i a b) (gains_more history.IsLegal (history_calls i a) (history_calls i b) (l.history i) (m.history i) (r.history i) (g.on_history i within) (h.on_history i within));
}
