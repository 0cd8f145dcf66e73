-- A call of a hub that counts what it gives.
use Rattle.std.proofs.Common.{ℕ, zero, suc, ◌≡◌, ◌≢◌, ◌<◌, ◌+◌, ◌⊎◌, inl, inr, List, [], ◌∷◌, ◌++◌, length, refl, sym, ◌∙◌, ap, subst, arith, append_assoc, length-append}
use Rattle.std.specs.Prelude.{Result, Ok, Err}
use Rattle.std.proofs.lemmas.List.{append-nil}
use Rattle.qd_scheme.specs.declared.key.Event.{Event}
use Rattle.qd_scheme.specs.declared.key.Record.{Record}
use Rattle.qd_gate.specs.declared.machine.Entry.{Entry}
use Rattle.qd_gate.specs.declared.machine.Terms.{Terms}
use Rattle.qd_gate.specs.declared.gate.NoTurn.{NoTurn}
use Rattle.qd_gate.specs.declared.gate.NoTurn.TheVariants.{Busy, Spent}
use Rattle.qd_gate.specs.Logs.{entry}
use Rattle.qd_gate.specs.Passes.{Pass}
use Rattle.qd_gate.specs.Refusals.{Refuses}
use Rattle.qd_sub.specs.declared.op.Op.{Op}
use Rattle.qd_sub.specs.declared.op.Reply.{Reply}
use Rattle.qd_stream.specs.declared.item.StreamItem.{StreamItem}
use Rattle.qd_stream.specs.declared.item.StreamItem.TheVariants.{Rec, Lost}
use Rattle.qd_stream.specs.Legal.{StreamOp, StreamReply}
use Rattle.qd_hist_rules.specs.Legal.{HistoryOp, HistoryEntry}
use Rattle.qd_hist_rules.specs.declared.reply.HistoryReply.{HistoryReply}
use Rattle.qd_hub.specs.Hubs.{HasLists, Asks, Leaves, LeavesOthers}
use Rattle.qd_load.specs.Counting.{IsCounted, AreCounted, IsFedAt, Views}
use Rattle.qd_load.specs.Given.{given, items_of, records_in, lost_in, with_reply, with_log, events_given}

same_or_not : (i j : ℕ) → (i ≡ j) ⊎ (i ≢ j)
same_or_not zero zero = inl refl
same_or_not zero (suc j) = inr (λ e. absurd (omega (arith, e)))
same_or_not (suc i) zero = inr (λ e. absurd (omega (arith, e)))
same_or_not (suc i) (suc j) = more (same_or_not i j)
  where
    more : (i ≡ j) ⊎ (i ≢ j) → (suc i ≡ suc j) ⊎ (suc i ≢ suc j)
    more (inl e) = inl (ap suc e)
    more (inr n) = inr (λ e. n (omega (arith, e)))

module _ {O R : Type 0} where
  pub lists_stay : (n m : ℕ) (before after : ℕ → Pass O R → Type 0) → m ≡ n → HasLists n before → Leaves before after → HasLists m after
  lists_stay n m before after e has leaves i h = let g = has i (subst (λ (k : ℕ). i < k) e h) in (g.0, leaves i g.0 g.1)

  pub lists_asked : (n m stripe : ℕ) (before after : ℕ → Pass O R → Type 0) (legal : Terms → List (Entry O R) → Type 0) (op : O) (result : Result R (NoTurn O))
      → m ≡ n → HasLists n before → Asks legal (before stripe) (after stripe) op result → LeavesOthers stripe before after → HasLists m after
  lists_asked n m stripe before after legal op result e has asks others i h = by_stripe (same_or_not i stripe) (has i (subst (λ (k : ℕ). i < k) e h))
    where
      by_stripe : (i ≡ stripe) ⊎ (i ≢ stripe) → (p : Pass O R) × before i p → (p : Pass O R) × after i p
      by_stripe (inl same) g = let a = asks g.0 (subst (λ (k : ℕ). before k g.0) same g.1) in (a.0, subst (λ (k : ℕ). after k a.0) (sym same) a.1)
      by_stripe (inr not) g = (g.0, others i g.0 not g.1)

  pub refused_mine : (legal : Terms → List (Entry O R) → Type 0) (p : Pass O R) (op : O) (why : NoTurn O) (q : Pass O R) → Refuses legal p op why q → q.mine ≡ p.mine
  refused_mine legal p op (Busy first then back) q (b, (small, inl f)) = f.2.1
  refused_mine legal p op (Busy first then back) q (b, (small, inr f)) = f.2.1
  refused_mine legal p op (Spent word back) q (b, (big, found, more)) = found.1

  -- a relation on what a pass has called goes with a call that was answered, and stays where it was refused
  pub asks_answered : (legal : Terms → List (Entry O R) → Type 0) (before after : Pass O R → Type 0) (P Q : List (Entry O R) → Type 0) (op : O) (reply : R)
      → Asks legal before after op (Ok reply) → ((log : List (Entry O R)) (who : ℕ) → P log → Q (log ++ entry who op reply ∷ [])) → Asks legal (λ p. before p × P p.mine) (λ p. after p × Q p.mine) op (Ok reply)
  asks_answered legal before after P Q op reply asks more = λ p s. let a = asks p s.0 in (a.0, (a.1, subst Q (sym a.2.1.mine) (more p.mine p.number s.1)), a.2, a.3)

  pub asks_refused : (legal : Terms → List (Entry O R) → Type 0) (before after : Pass O R → Type 0) (P : List (Entry O R) → Type 0) (op : O) (why : NoTurn O)
      → Asks legal before after op (Err why) → Asks legal (λ p. before p × P p.mine) (λ p. after p × P p.mine) op (Err why)
  asks_refused legal before after P op why asks = λ p s. let a = asks p s.0 in (a.0, (a.1, subst P (sym (refused_mine legal p op why a.0 a.2.1)) s.1), a.2, a.3)

-- what a log gave, with one call more
module _ {O T : Type 0} where
  pub given_more : (log : List (Entry O (Reply T))) (e : Entry O (Reply T)) → given (log ++ e ∷ []) ≡ given log ++ items_of e.reply
  given_more [] e = append-nil (items_of e.reply)
  given_more (x ∷ log) e = ap (λ l. items_of x.reply ++ l) (given_more log e) ∙ sym (append_assoc (items_of x.reply) (given log) (items_of e.reply))

pub records_more : (xs ys : List StreamItem) → records_in (xs ++ ys) ≡ records_in xs + records_in ys
records_more [] ys = omega arith
records_more (Rec r ∷ xs) ys = let e = records_more xs ys in omega (arith, e)
records_more (Lost k n ∷ xs) ys = records_more xs ys

pub lost_more : (xs ys : List StreamItem) → lost_in (xs ++ ys) ≡ lost_in xs + lost_in ys
lost_more [] ys = omega arith
lost_more (Rec r ∷ xs) ys = lost_more xs ys
lost_more (Lost k n ∷ xs) ys = let e = lost_more xs ys in omega (arith, e)

pub log_more : (log : List HistoryEntry) (e : HistoryEntry) (past : List Event) → with_log (log ++ e ∷ []) past ≡ with_reply e.reply (with_log log past)
log_more [] e past = refl
log_more (x ∷ log) e past = log_more log e (with_reply x.reply past)

pub counted_more : (old new : List ℕ) (i : ℕ) (reply : Reply Record) → ((n : ℕ) → IsCounted old i n → IsCounted new i (n + length (items_of reply)))
    → (log : List (Entry (Op Record Record) (Reply Record))) (who : ℕ) (op : Op Record Record) → IsCounted old i (length (given log)) → IsCounted new i (length (given (log ++ entry who op reply ∷ [])))
counted_more old new i reply count log who op h = subst (IsCounted new i) (sym (ap length (given_more log (entry who op reply)) ∙ length-append (given log) (items_of reply))) (count (length (given log)) h)

pub items_more : (old new was now : List ℕ) (i : ℕ) (reply : StreamReply)
    → ((n m : ℕ) → IsCounted old i n → IsCounted was i m → IsCounted new i (n + records_in (items_of reply)) × IsCounted now i (m + lost_in (items_of reply)))
    → (log : List (Entry StreamOp StreamReply)) (who : ℕ) (op : StreamOp) → AreCounted old was i (given log) → AreCounted new now i (given (log ++ entry who op reply ∷ []))
items_more old new was now i reply count log who op h =
    let c = count (records_in (given log)) (lost_in (given log)) h.records h.lost in
    let e = given_more log (entry who op reply) in
    record {
      records = subst (IsCounted new i) (sym (ap records_in e ∙ records_more (given log) (items_of reply))) c.0;
      lost = subst (IsCounted now i) (sym (ap lost_in e ∙ lost_more (given log) (items_of reply))) c.1;
    }

pub items_stay : (old new was now : List ℕ) (i : ℕ)
    → ((n m : ℕ) → IsCounted old i n → IsCounted was i m → IsCounted new i n × IsCounted now i m) → (items : List StreamItem) → AreCounted old was i items → AreCounted new now i items
items_stay old new was now i stay items h = let c = stay (records_in items) (lost_in items) h.records h.lost in record { records = c.0; lost = c.1 }

pub events_more : (old new : List Views) (i : ℕ) (reply : HistoryReply) → ((past : List Event) → IsFedAt old i past → IsFedAt new i (with_reply reply past))
    → (log : List HistoryEntry) (who : ℕ) (op : HistoryOp) → IsFedAt old i (events_given log) → IsFedAt new i (events_given (log ++ entry who op reply ∷ []))
events_more old new i reply hear log who op h = subst (IsFedAt new i) (sym (log_more log (entry who op reply) [])) (hear (events_given log) h)
