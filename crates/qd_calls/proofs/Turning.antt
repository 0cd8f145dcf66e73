-- A call of one stripe, for all the lists of a hub.
use Rattle.std.proofs.Common.{ℕ, ◌≡◌, ◌<◌, Bool, true, false, nat_eq, List, [], ◌∷◌, refl, subst, arith}
use Rattle.std.specs.Prelude.{Result, Ok, Err, IfOk, if◌then◌else◌}
use Rattle.std.proofs.lemmas.Bool.Decides.{nat_tests}
use Rattle.qd_gate.specs.declared.machine.Entry.{Entry}
use Rattle.qd_gate.specs.declared.machine.Terms.{Terms}
use Rattle.qd_gate.specs.declared.gate.NoTurn.{NoTurn}
use Rattle.qd_gate.specs.declared.gate.NoTurn.TheVariants.{Busy, Spent}
use Rattle.qd_gate.specs.Passes.{Pass}
use Rattle.qd_row.specs.Passes.{IsSound}
use Rattle.qd_row.specs.Rows.{Turns}
use Rattle.qd_hub.specs.Hubs.{Asks, LooksOnce, Leaves, LeavesOthers, TickerPass, StreamPass, HistoryPass}
use Rattle.qd_scheme.specs.declared.key.Record.{Record}
use Rattle.qd_sub.specs.declared.op.Op.{Op}
use Rattle.qd_sub.specs.declared.op.Reply.{Reply}
use Rattle.qd_ticker.specs.Legal as ticker
use Rattle.qd_stream.specs.Legal as stream
use Rattle.qd_hist_rules.specs.Legal as history
use Rattle.qd_hist_rules.specs.declared.reply.HistoryReply.{HistoryReply}
use Rattle.qd_path.specs.Lists.{Lists, AreOf, AreSound, Gains, at_stripe, with_ticker, with_stream, with_history}
use Rattle.qd_path.specs.Made.{Answered}
use Rattle.qd_calls.specs.Turns.{TickerTurn, StreamTurn, HistoryTurn}
use Rattle.qd_calls.proofs.Growing.{gains_none, gains_one, gains_no_turn, placed}

-- one call of stripe i, as each stripe sees it
abbrev one_of : {O R : Type 0} → ℕ → O → R → ℕ → List (Answered O R)
one_of i op reply j = if nat_eq i j then record { op = op; reply = reply } ∷ [] else []

module _ {O R : Type 0} where
  one_there : (legal : Terms → List (Entry O R) → Type 0) (i : ℕ) (op : O) (reply : R) (q : Pass O R) (f : ℕ → Pass O R) (j : ℕ) → IsSound legal (f j) → Turns legal (f i) op (Ok reply) q → LooksOnce (f i) q
      → Gains legal (one_of i op reply j) (f j) (at_stripe i q f j)
  one_there legal i op reply q f j sound t looks = go (nat_eq i j) refl
    where
      go : (b : Bool) → nat_eq i j ≡ b → Gains legal (one_of i op reply j) (f j) (at_stripe i q f j)
      go true e =
          let same : i ≡ j = grind (arith, nat_tests) in
          rw e (subst (λ (k : ℕ). Gains legal (record { op = op; reply = reply } ∷ []) (f k) q) same (gains_one legal (f i) op reply q t looks))
      go false e = rw e (gains_none legal (f j) sound)

  none_there : (legal : Terms → List (Entry O R) → Type 0) (i : ℕ) (op : O) (why : NoTurn O) (q : Pass O R) (f : ℕ → Pass O R) (j : ℕ) → IsSound legal (f i) → IsSound legal (f j) → Turns legal (f i) op (Err why) q → Gains legal [] (f j) (at_stripe i q f j)
  none_there legal i op why q f j at sound t = placed (λ k x. Gains legal [] (f k) x) i q f j (gains_no_turn legal (f i) op why q at t) (λ a. gains_none legal (f j) sound)

  here : (i : ℕ) (q : Pass O R) (f : ℕ → Pass O R) → at_stripe i q f i ≡ q
  here i q f = let e : nat_eq i i ≡ true = grind (arith, nat_tests) in rw e refl

module _ (n i : ℕ) (T T' : ℕ → TickerPass → Type 0) (S S' : ℕ → StreamPass → Type 0) (H H' : ℕ → HistoryPass → Type 0) (l : Lists) (are : AreOf n T S H l) (sound : AreSound n l) (within : i < n) where
  pub ticker_turn : (op : Op Record Record) (result : Result (Reply Record) (NoTurn (Op Record Record))) → Asks ticker.IsLegal (T i) (T' i) op result → LeavesOthers i T T' → Leaves S S' → Leaves H H'
      → (m : Lists) × AreOf n T' S' H' m × TickerTurn n i op result l m
  ticker_turn op result asked others a b =
      let q = asked (l.ticker i) (are.on_ticker i within) in
      let m = with_ticker i q.0 l in (
        m,
        record {
          on_ticker = λ j h. placed T' i q.0 l.ticker j q.1 (λ apart. others j (l.ticker j) apart (are.on_ticker j h));
          on_stream = λ j h. a j (l.stream j) (are.on_stream j h);
          on_history = λ j h. b j (l.history j) (are.on_history j h);
        },
        told result q.0 q.2 q.3,
      )
    where
      told : (result : Result (Reply Record) (NoTurn (Op Record Record))) (q : TickerPass) → Turns ticker.IsLegal (l.ticker i) op result q → IfOk result (λ reply. LooksOnce (l.ticker i) q) → TickerTurn n i op result l (with_ticker i q l)
      told (Ok reply) q t looks = (
        record {
          on_ticker = λ j h. one_there ticker.IsLegal i op reply q l.ticker j (sound.on_ticker j h) t looks;
          on_stream = λ j h. gains_none stream.IsLegal (l.stream j) (sound.on_stream j h);
          on_history = λ j h. gains_none history.IsLegal (l.history j) (sound.on_history j h);
        },
        rw (here i q l.ticker) t.1,
      )
      told (Err (Busy first found back)) q t looks = (
        record {
          on_ticker = λ j h. none_there ticker.IsLegal i op (Busy first found back) q l.ticker j (sound.on_ticker i within) (sound.on_ticker j h) t;
          on_stream = λ j h. gains_none stream.IsLegal (l.stream j) (sound.on_stream j h);
          on_history = λ j h. gains_none history.IsLegal (l.history j) (sound.on_history j h);
        },
        rw (here i q l.ticker) t.1.1,
      )
      told (Err (Spent word back)) q t looks = (
        record {
          on_ticker = λ j h. none_there ticker.IsLegal i op (Spent word back) q l.ticker j (sound.on_ticker i within) (sound.on_ticker j h) t;
          on_stream = λ j h. gains_none stream.IsLegal (l.stream j) (sound.on_stream j h);
          on_history = λ j h. gains_none history.IsLegal (l.history j) (sound.on_history j h);
        },
        rw (here i q l.ticker) t.1.1,
      )

  pub stream_turn : (op : stream.StreamOp) (result : Result stream.StreamReply (NoTurn stream.StreamOp)) → Asks stream.IsLegal (S i) (S' i) op result → LeavesOthers i S S' → Leaves T T' → Leaves H H'
      → (m : Lists) × AreOf n T' S' H' m × StreamTurn n i op result l m
  stream_turn op result asked others a b =
      let q = asked (l.stream i) (are.on_stream i within) in
      let m = with_stream i q.0 l in (
        m,
        record {
          on_ticker = λ j h. a j (l.ticker j) (are.on_ticker j h);
          on_stream = λ j h. placed S' i q.0 l.stream j q.1 (λ apart. others j (l.stream j) apart (are.on_stream j h));
          on_history = λ j h. b j (l.history j) (are.on_history j h);
        },
        told result q.0 q.2 q.3,
      )
    where
      told : (result : Result stream.StreamReply (NoTurn stream.StreamOp)) (q : StreamPass) → Turns stream.IsLegal (l.stream i) op result q → IfOk result (λ reply. LooksOnce (l.stream i) q) → StreamTurn n i op result l (with_stream i q l)
      told (Ok reply) q t looks = (
        record {
          on_ticker = λ j h. gains_none ticker.IsLegal (l.ticker j) (sound.on_ticker j h);
          on_stream = λ j h. one_there stream.IsLegal i op reply q l.stream j (sound.on_stream j h) t looks;
          on_history = λ j h. gains_none history.IsLegal (l.history j) (sound.on_history j h);
        },
        rw (here i q l.stream) t.1,
      )
      told (Err (Busy first found back)) q t looks = (
        record {
          on_ticker = λ j h. gains_none ticker.IsLegal (l.ticker j) (sound.on_ticker j h);
          on_stream = λ j h. none_there stream.IsLegal i op (Busy first found back) q l.stream j (sound.on_stream i within) (sound.on_stream j h) t;
          on_history = λ j h. gains_none history.IsLegal (l.history j) (sound.on_history j h);
        },
        rw (here i q l.stream) t.1.1,
      )
      told (Err (Spent word back)) q t looks = (
        record {
          on_ticker = λ j h. gains_none ticker.IsLegal (l.ticker j) (sound.on_ticker j h);
          on_stream = λ j h. none_there stream.IsLegal i op (Spent word back) q l.stream j (sound.on_stream i within) (sound.on_stream j h) t;
          on_history = λ j h. gains_none history.IsLegal (l.history j) (sound.on_history j h);
        },
        rw (here i q l.stream) t.1.1,
      )

  pub history_turn : (op : history.HistoryOp) (result : Result HistoryReply (NoTurn history.HistoryOp)) → Asks history.IsLegal (H i) (H' i) op result → LeavesOthers i H H' → Leaves T T' → Leaves S S'
      → (m : Lists) × AreOf n T' S' H' m × HistoryTurn n i op result l m
  history_turn op result asked others a b =
      let q = asked (l.history i) (are.on_history i within) in
      let m = with_history i q.0 l in (
        m,
        record {
          on_ticker = λ j h. a j (l.ticker j) (are.on_ticker j h);
          on_stream = λ j h. b j (l.stream j) (are.on_stream j h);
          on_history = λ j h. placed H' i q.0 l.history j q.1 (λ apart. others j (l.history j) apart (are.on_history j h));
        },
        told result q.0 q.2 q.3,
      )
    where
      told : (result : Result HistoryReply (NoTurn history.HistoryOp)) (q : HistoryPass) → Turns history.IsLegal (l.history i) op result q → IfOk result (λ reply. LooksOnce (l.history i) q) → HistoryTurn n i op result l (with_history i q l)
      told (Ok reply) q t looks = (
        record {
          on_ticker = λ j h. gains_none ticker.IsLegal (l.ticker j) (sound.on_ticker j h);
          on_stream = λ j h. gains_none stream.IsLegal (l.stream j) (sound.on_stream j h);
          on_history = λ j h. one_there history.IsLegal i op reply q l.history j (sound.on_history j h) t looks;
        },
        rw (here i q l.history) t.1,
      )
      told (Err (Busy first found back)) q t looks = (
        record {
          on_ticker = λ j h. gains_none ticker.IsLegal (l.ticker j) (sound.on_ticker j h);
          on_stream = λ j h. gains_none stream.IsLegal (l.stream j) (sound.on_stream j h);
          on_history = λ j h. none_there history.IsLegal i op (Busy first found back) q l.history j (sound.on_history i within) (sound.on_history j h) t;
        },
        rw (here i q l.history) t.1.1,
      )
      told (Err (Spent word back)) q t looks = (
        record {
          on_ticker = λ j h. gains_none ticker.IsLegal (l.ticker j) (sound.on_ticker j h);
          on_stream = λ j h. gains_none stream.IsLegal (l.stream j) (sound.on_stream j h);
          on_history = λ j h. none_there history.IsLegal i op (Spent word back) q l.history j (sound.on_history i within) (sound.on_history j h) t;
        },
        rw (here i q l.history) t.1.1,
      )
