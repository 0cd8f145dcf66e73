-- An agent is closed, stripe after stripe.
use Rattle.std.proofs.Common.{ℕ, ◌≡◌, ◌<◌, ◌≤◌, ◌+◌, ◌-◌, ◌*◌, inl, inr, Bool, true, false, nat_eq, nat_lt, List, [], ◌∷◌, ◌++◌, refl, sym, ap, ◌∙◌, subst, arith, append_assoc}
use Rattle.std.specs.Prelude.{cond}
use Rattle.std.proofs.lemmas.Bool.Decides.{nat_tests}
use Rattle.qd_gate.specs.declared.machine.Entry.{Entry}
use Rattle.qd_gate.specs.declared.machine.Terms.{Terms}
use Rattle.qd_gate.specs.Passes.{Pass, FoundSpent}
use Rattle.qd_sub.specs.declared.op.Op.TheVariants.{Close}
use Rattle.qd_ticker.specs.Legal as ticker
use Rattle.qd_stream.specs.Legal as stream
use Rattle.qd_hist_rules.specs.Legal as history
use Rattle.qd_grammar.specs.declared.item.Collector.{Collector}
use Rattle.qd_grammar.specs.declared.item.Collector.TheVariants as collectors
use Rattle.qd_path.specs.declared.call.Asked.{Asked}
use Rattle.qd_path.specs.declared.call.Call.{Call}
use Rattle.qd_path.specs.declared.call.Call.TheVariants as calls
use Rattle.qd_path.specs.Lists.{Lists, Gains, GrewBy, IsSpentAt}
use Rattle.qd_path.specs.Made.{Made}
use Rattle.qd_path.proofs.Adding.{gains_more}
use Rattle.qd_calls.proofs.Adding.{grew_more}
use Rattle.qd_calls.specs.declared.due.Reaction.{Reaction}
use Rattle.qd_calls.specs.declared.due.Reaction.TheVariants as reactions
use Rattle.qd_calls.specs.Dues.{IsDue, IsDueOf, Reacts, collector_of}
use Rattle.qd_link.specs.Closing.{FoundEnd, IsClosed, IsClosedIf, AreClosed, AreClosedTo, ClosesOne, IsTried, Tries, close_of, closing_call, fate_of, IsSpentSince}

pub reacts_tried : (n : ℕ) (a : Asked) (r : Reaction) (l m : Lists) → Reacts n a r l m → IsTried n a (fate_of r) l m
reacts_tried n a reactions.Done l m w = (w.call, w.asked, w.grew)
reacts_tried n a (reactions.TooMany limit) l m w = (w.call, w.asked, w.grew)
reacts_tried n a reactions.Full l m w = (w.call, w.asked, w.grew)
reacts_tried n a reactions.NoMemory l m w = (w.call, w.asked, w.grew)
reacts_tried n a reactions.Spent l m w = w
reacts_tried n a (reactions.Busy first found back) l m w = w.0

module _ {O R : Type 0} where
  closed_then : (legal : Terms → List (Entry O R) → Type 0) (op : O) (p q r : Pass O R) → IsClosed legal op p q → Gains legal [] q r → IsClosed legal op p r
  closed_then legal op p q r (inl (reply, g)) h = inl (reply, gains_more legal (record { op = op; reply = reply } ∷ []) [] p q r g h)
  closed_then legal op p q r (inr (g, f)) h = inr (
    gains_more legal [] [] p q r g h,
    record {
      found = f.found;
      word = f.word;
      more = f.more ++ h.looked.0;
      looked = sym h.looked.1 ∙ ap (λ (l : List ℕ). l ++ h.looked.0) f.looked ∙ append_assoc p.looked (f.found ++ f.word ∷ f.more) h.looked.0 ∙ ap (λ (l : List ℕ). p.looked ++ l) (append_assoc f.found (f.word ∷ f.more) h.looked.0);
      high = f.high;
    },
  )

  then_end : (legal : Terms → List (Entry O R) → Type 0) (p q r : Pass O R) → Gains legal [] p q → FoundEnd q r → FoundEnd p r
  then_end legal p q r g f = record {
    found = g.looked.0 ++ f.found;
    word = f.word;
    more = f.more;
    looked = f.looked ∙ ap (λ (l : List ℕ). l ++ (f.found ++ f.word ∷ f.more)) (sym g.looked.1) ∙ append_assoc p.looked g.looked.0 (f.found ++ f.word ∷ f.more) ∙ ap (λ (l : List ℕ). p.looked ++ l) (sym (append_assoc g.looked.0 f.found (f.word ∷ f.more)));
    high = f.high;
  }

  then_closed : (legal : Terms → List (Entry O R) → Type 0) (op : O) (p q r : Pass O R) → Gains legal [] p q → IsClosed legal op q r → IsClosed legal op p r
  then_closed legal op p q r g (inl (reply, h)) = inl (reply, gains_more legal [] (record { op = op; reply = reply } ∷ []) p q r g h)
  then_closed legal op p q r g (inr (h, f)) = inr (gains_more legal [] [] p q r g h, then_end legal p q r g f)

  -- it was the stripe's turn before, or it is now, or neither
  joined : (legal : Terms → List (Entry O R) → Type 0) (op : O) (a b c : Bool) (p q r : Pass O R) → c ≡ cond a true b → (a ≡ true → b ≡ true → ⊥) → IsClosedIf legal op a p q → IsClosedIf legal op b q r → IsClosedIf legal op c p r
  joined legal op true true c p q r e apart x y = absurd (apart refl refl)
  joined legal op true false c p q r e apart x y = rw e (closed_then legal op p q r x y)
  joined legal op false true c p q r e apart x y = rw e (then_closed legal op p q r x y)
  joined legal op false false c p q r e apart x y = rw e (gains_more legal [] [] p q r x y)

  spent_found : (legal : Terms → List (Entry O R) → Type 0) (p q r : Pass O R) → Gains legal [] p q → (word : ℕ) × FoundSpent legal q word r → FoundEnd p r
  spent_found legal p q r g (word, f) = then_end legal p q r g (record { found = []; word = word; more = []; looked = f.1.2; high = f.0 })

-- no call, and then this one
tries_closes : (n : ℕ) (a : Asked) (l m o : Lists) → a.stripe < n → GrewBy n [] l m → Tries n a true m o → ClosesOne n a l o
tries_closes n a l m o within g (inl (x, asked, h)) = inl (x, asked, grew_more n [] (x ∷ []) l m o g h)
tries_closes n a l m o within g (inr (h, s)) = inr (grew_more n [] [] l m o g h, since (collector_of a.call) s)
  where
    since : (c : Collector) → IsSpentAt c a.stripe m o → IsSpentSince c a.stripe l o
    since collectors.Ticker s = spent_found ticker.IsLegal (l.ticker a.stripe) (m.ticker a.stripe) (o.ticker a.stripe) (g.on_ticker a.stripe within) s
    since collectors.Stream s = spent_found stream.IsLegal (l.stream a.stripe) (m.stream a.stripe) (o.stream a.stripe) (g.on_stream a.stripe within) s
    since collectors.History s = spent_found history.IsLegal (l.history a.stripe) (m.history a.stripe) (o.history a.stripe) (g.on_history a.stripe within) s

due_within : (n stripe : ℕ) (call : Call) → IsDueOf n stripe call → stripe < n
due_within n stripe (calls.Ticker op) d = d.0
due_within n stripe (calls.Stream op) d = d.0
due_within n stripe (calls.History op) d = d.0

pub close_done : (n count agent at : ℕ) (a : Asked) (l m o : Lists) → count ≡ n → a ≡ closing_call count at agent → IsDue count a → GrewBy n [] l m → Tries n a true m o → ClosesOne count (closing_call count at agent) l o
close_done n count agent at a l m o e same due g t =
    rw e (subst (λ (x : Asked). ClosesOne n x l o) (rw e at same) (tries_closes n a l m o (due_within n a.stripe a.call (rw e at due)) g t))

-- the agent was closed at one place, and each other stripe gained no call
record Closes (n agent at : ℕ) (m o : Lists) : Type 0 where
  on_ticker : (i : ℕ) → i < n → IsClosedIf ticker.IsLegal (Close agent) (nat_eq at i) (m.ticker i) (o.ticker i)
  on_stream : (i : ℕ) → i < n → IsClosedIf stream.IsLegal (Close agent) (nat_eq at (n + i)) (m.stream i) (o.stream i)
  on_history : (i : ℕ) → i < n → IsClosedIf history.IsLegal (Close agent) (nat_eq at (n + n + i)) (m.history i) (o.history i)

module _ {O R : Type 0} (legal : Terms → List (Entry O R) → Type 0) (op : O) where
  if_made : (b : Bool) (p q : Pass O R) (reply : R) → Gains legal (cond b (record { op = op; reply = reply } ∷ []) []) p q → IsClosedIf legal op b p q
  if_made true p q reply g = inl (reply, g)
  if_made false p q reply g = g

  if_spent : (f g : ℕ → Pass O R) (i j : ℕ) (b : Bool) → b ≡ nat_eq i j → Gains legal [] (f j) (g j) → FoundEnd (f i) (g i) → IsClosedIf legal op b (f j) (g j)
  if_spent f g i j true e h s = let same : i ≡ j = grind (arith, nat_tests) in inr (h, subst (λ k. FoundEnd (f k) (g k)) same s)
  if_spent f g i j false e h s = h

  no_place : (b : Bool) (p q : Pass O R) → b ≡ false → Gains legal [] p q → IsClosedIf legal op b p q
  no_place b p q e h = rw e h

other_place : (a b : ℕ) → (a ≡ b → ⊥) → nat_eq a b ≡ false
other_place a b h = grind (arith, nat_tests)

moved_place : (at n j : ℕ) → n ≤ at → nat_eq at (n + j) ≡ nat_eq (at - n) j
moved_place at n j h = go (nat_eq (at - n) j) refl
  where
    go : (b : Bool) → nat_eq (at - n) j ≡ b → nat_eq at (n + j) ≡ nat_eq (at - n) j
    go true e = let same : at - n ≡ j = grind (arith, nat_tests) in let here : at ≡ n + j = omega (arith, same, h) in rw e (grind (arith, nat_tests))
    go false e = rw e (other_place at (n + j) (λ s. let same : at - n ≡ j = omega (arith, s) in absurd (grind (arith, nat_tests))))

ticker_closes : (n agent at : ℕ) (m o : Lists) → at < n → ClosesOne n (close_of collectors.Ticker agent at) m o → Closes n agent at m o
ticker_closes n agent at m o h (inl (Made.Ticker k op reply, asked, g)) =
    let place : k ≡ at = ap (λ (a : Asked). a.stripe) asked in
    let call : calls.Ticker op ≡ calls.Ticker (Close agent) = ap (λ (a : Asked). a.call) asked in
    let close : op ≡ Close agent = cc in
    record {
      on_ticker = λ i w. if_made ticker.IsLegal (Close agent) (nat_eq at i) (m.ticker i) (o.ticker i) reply (rw (place, close) at (g.on_ticker i w));
      on_stream = λ i w. no_place stream.IsLegal (Close agent) (nat_eq at (n + i)) (m.stream i) (o.stream i) (other_place at (n + i) (λ e. omega (arith, e, h))) (g.on_stream i w);
      on_history = λ i w. no_place history.IsLegal (Close agent) (nat_eq at (n + n + i)) (m.history i) (o.history i) (other_place at (n + n + i) (λ e. omega (arith, e, h))) (g.on_history i w);
    }
ticker_closes n agent at m o h (inl (Made.Stream k op reply, asked, g)) = let other : calls.Stream op ≡ calls.Ticker (Close agent) = ap (λ (a : Asked). a.call) asked in absurd (cc)
ticker_closes n agent at m o h (inl (Made.History k op reply, asked, g)) = let other : calls.History op ≡ calls.Ticker (Close agent) = ap (λ (a : Asked). a.call) asked in absurd (cc)
ticker_closes n agent at m o h (inr (g, s)) = record {
  on_ticker = λ i w. if_spent ticker.IsLegal (Close agent) m.ticker o.ticker at i (nat_eq at i) refl (g.on_ticker i w) s;
  on_stream = λ i w. no_place stream.IsLegal (Close agent) (nat_eq at (n + i)) (m.stream i) (o.stream i) (other_place at (n + i) (λ e. omega (arith, e, h))) (g.on_stream i w);
  on_history = λ i w. no_place history.IsLegal (Close agent) (nat_eq at (n + n + i)) (m.history i) (o.history i) (other_place at (n + n + i) (λ e. omega (arith, e, h))) (g.on_history i w);
}

stream_closes : (n agent at : ℕ) (m o : Lists) → n ≤ at → at < n + n → ClosesOne n (close_of collectors.Stream agent (at - n)) m o → Closes n agent at m o
stream_closes n agent at m o low h (inl (Made.Stream k op reply, asked, g)) =
    let place : k ≡ at - n = ap (λ (a : Asked). a.stripe) asked in
    let call : calls.Stream op ≡ calls.Stream (Close agent) = ap (λ (a : Asked). a.call) asked in
    let close : op ≡ Close agent = cc in
    record {
      on_ticker = λ i w. no_place ticker.IsLegal (Close agent) (nat_eq at i) (m.ticker i) (o.ticker i) (other_place at i (λ e. omega (arith, e, low, w))) (g.on_ticker i w);
      on_stream = λ i w. rw (moved_place at n i low) (if_made stream.IsLegal (Close agent) (nat_eq (at - n) i) (m.stream i) (o.stream i) reply (rw (place, close) at (g.on_stream i w)));
      on_history = λ i w. no_place history.IsLegal (Close agent) (nat_eq at (n + n + i)) (m.history i) (o.history i) (other_place at (n + n + i) (λ e. omega (arith, e, h))) (g.on_history i w);
    }
stream_closes n agent at m o low h (inl (Made.Ticker k op reply, asked, g)) = let other : calls.Ticker op ≡ calls.Stream (Close agent) = ap (λ (a : Asked). a.call) asked in absurd (cc)
stream_closes n agent at m o low h (inl (Made.History k op reply, asked, g)) = let other : calls.History op ≡ calls.Stream (Close agent) = ap (λ (a : Asked). a.call) asked in absurd (cc)
stream_closes n agent at m o low h (inr (g, s)) = record {
  on_ticker = λ i w. no_place ticker.IsLegal (Close agent) (nat_eq at i) (m.ticker i) (o.ticker i) (other_place at i (λ e. omega (arith, e, low, w))) (g.on_ticker i w);
  on_stream = λ i w. if_spent stream.IsLegal (Close agent) m.stream o.stream (at - n) i (nat_eq at (n + i)) (moved_place at n i low) (g.on_stream i w) s;
  on_history = λ i w. no_place history.IsLegal (Close agent) (nat_eq at (n + n + i)) (m.history i) (o.history i) (other_place at (n + n + i) (λ e. omega (arith, e, h))) (g.on_history i w);
}

history_closes : (n agent at : ℕ) (m o : Lists) → n + n ≤ at → ClosesOne n (close_of collectors.History agent (at - (n + n))) m o → Closes n agent at m o
history_closes n agent at m o low (inl (Made.History k op reply, asked, g)) =
    let place : k ≡ at - (n + n) = ap (λ (a : Asked). a.stripe) asked in
    let call : calls.History op ≡ calls.History (Close agent) = ap (λ (a : Asked). a.call) asked in
    let close : op ≡ Close agent = cc in
    record {
      on_ticker = λ i w. no_place ticker.IsLegal (Close agent) (nat_eq at i) (m.ticker i) (o.ticker i) (other_place at i (λ e. omega (arith, e, low, w))) (g.on_ticker i w);
      on_stream = λ i w. no_place stream.IsLegal (Close agent) (nat_eq at (n + i)) (m.stream i) (o.stream i) (other_place at (n + i) (λ e. omega (arith, e, low, w))) (g.on_stream i w);
      on_history = λ i w. rw (moved_place at (n + n) i low) (if_made history.IsLegal (Close agent) (nat_eq (at - (n + n)) i) (m.history i) (o.history i) reply (rw (place, close) at (g.on_history i w)));
    }
history_closes n agent at m o low (inl (Made.Ticker k op reply, asked, g)) = let other : calls.Ticker op ≡ calls.History (Close agent) = ap (λ (a : Asked). a.call) asked in absurd (cc)
history_closes n agent at m o low (inl (Made.Stream k op reply, asked, g)) = let other : calls.Stream op ≡ calls.History (Close agent) = ap (λ (a : Asked). a.call) asked in absurd (cc)
history_closes n agent at m o low (inr (g, s)) = record {
  on_ticker = λ i w. no_place ticker.IsLegal (Close agent) (nat_eq at i) (m.ticker i) (o.ticker i) (other_place at i (λ e. omega (arith, e, low, w))) (g.on_ticker i w);
  on_stream = λ i w. no_place stream.IsLegal (Close agent) (nat_eq at (n + i)) (m.stream i) (o.stream i) (other_place at (n + i) (λ e. omega (arith, e, low, w))) (g.on_stream i w);
  on_history = λ i w. if_spent history.IsLegal (Close agent) m.history o.history (at - (n + n)) i (nat_eq at (n + n + i)) (moved_place at (n + n) i low) (g.on_history i w) s;
}

place_closes : (n agent at : ℕ) (m o : Lists) → ClosesOne n (closing_call n at agent) m o → Closes n agent at m o
place_closes n agent at m o = go (nat_lt at n) (nat_lt at (n + n)) refl refl
  where
    go : (a b : Bool) → nat_lt at n ≡ a → nat_lt at (n + n) ≡ b → ClosesOne n (closing_call n at agent) m o → Closes n agent at m o
    go true b p q c = let h : at < n = grind (arith, nat_tests) in ticker_closes n agent at m o h (rw p at c)
    go false true p q c = let low : n ≤ at = grind (arith, nat_tests) in let h : at < n + n = grind (arith, nat_tests) in stream_closes n agent at m o low h (rw (p, q) at c)
    go false false p q c = let low : n + n ≤ at = grind (arith, nat_tests) in history_closes n agent at m o low (rw (p, q) at c)

next_is : (j at : ℕ) → nat_lt j (at + 1) ≡ cond (nat_lt j at) true (nat_eq at j)
next_is j at = go (nat_lt j at) (nat_eq at j) refl refl
  where
    go : (a b : Bool) → nat_lt j at ≡ a → nat_eq at j ≡ b → nat_lt j (at + 1) ≡ cond (nat_lt j at) true (nat_eq at j)
    go true b p q = rw p (grind (arith, nat_tests))
    go false true p q = rw (p, q) (grind (arith, nat_tests))
    go false false p q = rw (p, q) (grind (arith, nat_tests))

apart : (j at : ℕ) → nat_lt j at ≡ true → nat_eq at j ≡ true → ⊥
apart j at p q = absurd (grind (arith, nat_tests))

pub closed_next : (n agent at : ℕ) (l m o : Lists) → AreClosedTo n agent at l m → ClosesOne n (closing_call n at agent) m o → AreClosedTo n agent (at + 1) l o
closed_next n agent at l m o t c =
    let p = place_closes n agent at m o c in
    record {
      on_ticker = λ i w. joined ticker.IsLegal (Close agent) (nat_lt i at) (nat_eq at i) (nat_lt i (at + 1)) (l.ticker i) (m.ticker i) (o.ticker i) (next_is i at) (apart i at) (t.on_ticker i w) (p.on_ticker i w);
      on_stream = λ i w. joined stream.IsLegal (Close agent) (nat_lt (n + i) at) (nat_eq at (n + i)) (nat_lt (n + i) (at + 1)) (l.stream i) (m.stream i) (o.stream i) (next_is (n + i) at) (apart (n + i) at) (t.on_stream i w) (p.on_stream i w);
      on_history = λ i w. joined history.IsLegal (Close agent) (nat_lt (n + n + i) at) (nat_eq at (n + n + i)) (nat_lt (n + n + i) (at + 1)) (l.history i) (m.history i) (o.history i) (next_is (n + n + i) at) (apart (n + n + i) at) (t.on_history i w) (p.on_history i w);
    }

none_below : (j : ℕ) → nat_lt j 0 ≡ false
none_below j = grind (arith, nat_tests)

pub closed_none : (n agent : ℕ) (l : Lists) → GrewBy n [] l l → AreClosedTo n agent 0 l l
closed_none n agent l g = record {
  on_ticker = λ i w. rw (none_below i) (g.on_ticker i w);
  on_stream = λ i w. rw (none_below (n + i)) (g.on_stream i w);
  on_history = λ i w. rw (none_below (n + n + i)) (g.on_history i w);
}

within_is : (j at : ℕ) → j < at → nat_lt j at ≡ true
within_is j at h = grind (arith, nat_tests)

pub closed_all : (n agent at : ℕ) (l m : Lists) → 3 * n ≤ at → AreClosedTo n agent at l m → AreClosed n agent l m
closed_all n agent at l m h t = record {
  on_ticker = λ i w. rw (within_is i at (omega (arith, w, h))) at (t.on_ticker i w);
  on_stream = λ i w. rw (within_is (n + i) at (omega (arith, w, h))) at (t.on_stream i w);
  on_history = λ i w. rw (within_is (n + n + i) at (omega (arith, w, h))) at (t.on_history i w);
}
