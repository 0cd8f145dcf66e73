-- An engine that writes goes round.
use Rattle.std.proofs.Common.{ℕ, ◌≡◌, ◌<◌, ◌+◌, ◌*◌, Bool, true, false, nat_lt, Option, None, List, [], ◌∷◌, ◌++◌, length, refl, sym, ap, ◌∙◌, subst, arith, append_assoc, ◌≤◌}
use Rattle.std.specs.Prelude.{cond}
use Rattle.std.proofs.lemmas.Bool.Decides.{nat_tests}
use Rattle.qd_outside.specs.Writing.{Gained, IsCutShort}
use Rattle.qd_outside.proofs.Streams.{Gained-more}
use Rattle.qd_scheme.specs.declared.defs.RecordDef.{RecordDef}
use Rattle.qd_grammar.specs.declared.item.Collector.{Collector}
use Rattle.qd_grammar.specs.declared.item.Collector.TheVariants.{Ticker, Stream, History}
use Rattle.qd_path.specs.declared.call.Asked.{Asked}
use Rattle.qd_path.specs.declared.call.Call.TheVariants as calls
use Rattle.qd_path.specs.declared.side.Side.{Side}
use Rattle.qd_replies.specs.Asked.{out_op}
use Rattle.qd_path.specs.Lists.{Lists}
use Rattle.qd_path.specs.Made.{Made, asked_in}
use Rattle.qd_path.specs.Texts.{ReplyItem, items_in, text_of, sent, place_in, next_place, quiet_after, is_idle}
use Rattle.qd_replies.specs.declared.ends.OutFault.{OutFault}
use Rattle.qd_replies.specs.declared.ends.OutTurn.TheVariants as turns
use Rattle.qd_replies.specs.declared.out_engine.Answer.{Answer}
use Rattle.qd_replies.specs.declared.out_engine.Answer.TheVariants.{Gave, Unwritten, Busy, Spent}
use Rattle.qd_replies.specs.Outs.{Sunk, Outcome, OutKept, OutStands, OutWent, OutSteps, asked_at, call_of, collector_at, stripe_at, turn_of}
use Rattle.qd_replies.specs.Tools.{turn_by, place_by, quiet_by, fault_in}

-- the place in the round of a call
abbrev place_of_call : ℕ → Collector → ℕ → ℕ
place_of_call n Ticker i = i
place_of_call n Stream i = n + i
place_of_call n History i = 2 * n + i

place_is : (n : ℕ) (side : Side) (c : Collector) (i : ℕ) (x : Made) → asked_in x ≡ call_of side c i → place_in n x ≡ place_of_call n c i
place_is n side Ticker i (Made.Ticker j op reply) e = ap (λ (a : Asked). a.stripe) e
place_is n side Stream i (Made.Stream j op reply) e = let s : j ≡ i = ap (λ (a : Asked). a.stripe) e in ap (λ (k : ℕ). n + k) s
place_is n side History i (Made.History j op reply) e = let s : j ≡ i = ap (λ (a : Asked). a.stripe) e in ap (λ (k : ℕ). 2 * n + k) s
place_is n side Ticker i (Made.Stream j op reply) e = let other : calls.Stream op ≡ calls.Ticker (out_op side) = ap (λ (a : Asked). a.call) e in absurd (cc)
place_is n side Ticker i (Made.History j op reply) e = let other : calls.History op ≡ calls.Ticker (out_op side) = ap (λ (a : Asked). a.call) e in absurd (cc)
place_is n side Stream i (Made.Ticker j op reply) e = let other : calls.Ticker op ≡ calls.Stream (out_op side) = ap (λ (a : Asked). a.call) e in absurd (cc)
place_is n side Stream i (Made.History j op reply) e = let other : calls.History op ≡ calls.Stream (out_op side) = ap (λ (a : Asked). a.call) e in absurd (cc)
place_is n side History i (Made.Ticker j op reply) e = let other : calls.Ticker op ≡ calls.History (out_op side) = ap (λ (a : Asked). a.call) e in absurd (cc)
place_is n side History i (Made.Stream j op reply) e = let other : calls.Stream op ≡ calls.History (out_op side) = ap (λ (a : Asked). a.call) e in absurd (cc)

place_at : (n at : ℕ) → at < 3 * n → place_of_call n (collector_at n at) (stripe_at n at) ≡ at
place_at n at h = go (nat_lt at n) (nat_lt at (n + n)) refl refl
  where
    go : (a b : Bool) → nat_lt at n ≡ a → nat_lt at (n + n) ≡ b → place_of_call n (collector_at n at) (stripe_at n at) ≡ at
    go true b p q = rw p refl
    go false true p q = let below : n ≤ at = grind (arith, nat_tests) in rw (p, q) (omega (arith, below))
    go false false p q = let below : n + n ≤ at = grind (arith, nat_tests) in rw (p, q) (omega (arith, below))

some_longer : {X : Type 0} (x : X) (xs : List X) (count : ℕ) → count ≡ length (x ∷ xs) → nat_lt 0 count ≡ true
some_longer x xs count e = let n : 0 < count = omega (arith, e) in grind (arith, nat_tests)

turn_same : (n quiet count : ℕ) (given : List ReplyItem) → count ≡ length given → turn_by n (Gave count) quiet ≡ turn_of n given quiet
turn_same n quiet count [] e = rw e refl
turn_same n quiet count (x ∷ xs) e = rw (some_longer x xs count e) (ap (λ (c : ℕ). turns.Went c) e)

quiet_same : (n quiet count : ℕ) (given : List ReplyItem) → count ≡ length given → quiet_by n (Gave count) quiet ≡ quiet_after n given quiet
quiet_same n quiet count [] e = rw e refl
quiet_same n quiet count (x ∷ xs) e = rw (some_longer x xs count e) refl

no_fault : (idle : Bool) (count : ℕ) → fault_in (cond idle turns.Idle (turns.Went count)) ≡ None
no_fault true count = refl
no_fault false count = refl

as_step : (defs : List RecordDef) (n : ℕ) (from : Option (List ℕ)) (k k' : OutKept) (idle : Bool) (count : ℕ) (past : List Made) (l m : Lists) (flushed : Bool) (o w : Sunk)
    → OutWent defs n from k (cond idle turns.Idle (turns.Went count)) k' past l m flushed o w → OutSteps defs n from k (cond idle turns.Idle (turns.Went count)) k' past l m flushed o w
as_step defs n from k k' true count past l m flushed o w h = h
as_step defs n from k k' false count past l m flushed o w h = h

-- the engine behind an answer
abbrev behind : ℕ → OutKept → Answer → OutKept
behind n k answer = record { side = k.side; at = place_by n answer k.at; quiet = quiet_by n answer k.quiet; ended = fault_in (turn_by n answer k.quiet) }

abbrev kept : Side → ℕ → ℕ → Option OutFault → OutKept
kept side at quiet ended = record { side = side; at = at; quiet = quiet; ended = ended }

cut_behind : (defs : List RecordDef) (from was now : Option (List ℕ)) (before after : ℕ) (a b : List ℕ) → Gained from was a → IsCutShort b was now before after → IsCutShort (a ++ b) from now before after
cut_behind defs from was now before after a b g c = record {
  part = a ++ c.part;
  rest = c.rest;
  whole = ap (λ (t : List ℕ). a ++ t) c.whole ∙ sym (append_assoc a c.part c.rest);
  gained = Gained-more from was now a c.part g c.gained;
  rose = c.rose;
  later = c.later;
}

pub out_step : (defs : List RecordDef) (n : ℕ) (from : Option (List ℕ)) (k : OutKept) (answer : Answer) (past : List Made) (l m : Lists) (flushed : Bool) (o w : Sunk)
    → k.ended ≡ None → k.at < 3 * n → OutStands defs n from k past o.written → Outcome defs n k.side (collector_at n k.at) (stripe_at n k.at) answer l m flushed o w
    → OutSteps defs n from k (turn_by n answer k.quiet) (behind n k answer) past l m flushed o w
out_step defs n from k (Gave count) past l m flushed o w none within stands (x, asked, grew, writes) =
    let given = items_in x in
    let turn : turn_by n (Gave count) k.quiet ≡ turn_of n given k.quiet = turn_same n k.quiet count given writes.0 in
    let quiet : quiet_by n (Gave count) k.quiet ≡ quiet_after n given k.quiet = quiet_same n k.quiet count given writes.0 in
    let next : OutKept = kept k.side (next_place n k.at) (quiet_after n given k.quiet) None in
    let went : OutWent defs n from k (turn_of n given k.quiet) next past l m flushed o w = record {
      call = x;
      grew = grew;
      stands = record {
        round = (place_is n k.side (collector_at n k.at) (stripe_at n k.at) x asked ∙ place_at n k.at within ∙ stands.place, stands.round);
        own = (asked ∙ ap (asked_at n k.side) stands.place, stands.own);
        place = ap (next_place n) stands.place;
        empties = ap (quiet_after n given) stands.empties;
        replies = Gained-more from o.written w.written (sent defs past) (text_of defs given) stands.replies writes.1.gained;
      };
      is_open = refl;
      turn_is = refl;
      same = writes.1.same;
      all_flushed = λ h. writes.2 (subst (λ (c : ℕ). 0 < c) (sym writes.0) h);
    } in
    rw (turn, quiet, no_fault (is_idle n given k.quiet) (length given)) (as_step defs n from k next (is_idle n given k.quiet) (length given) past l m flushed o w went)
out_step defs n from k Unwritten past l m flushed o w none within stands (x, asked, grew, writes) = record {
  call = x;
  grew = grew;
  round = (place_is n k.side (collector_at n k.at) (stripe_at n k.at) x asked ∙ place_at n k.at within ∙ stands.place, stands.round);
  own = (asked ∙ ap (asked_at n k.side) stands.place, stands.own);
  some = writes.0;
  cut = writes.1;
  whole = cut_behind defs from o.written w.written o.faults w.faults (sent defs past) (text_of defs (items_in x)) stands.replies writes.1;
  ended = refl;
}
out_step defs n from k (Busy first found) past l m flushed o w none within stands (grew, busy, same) = (grew, busy, ap (λ (e : Option OutFault). kept k.side k.at k.quiet e) (sym none), same)
out_step defs n from k Spent past l m flushed o w none within stands (grew, spent, same) = (grew, spent, same, refl)
