-- A link is written to its end, step after step.
use Rattle.std.proofs.Common.{ℕ, ◌≡◌, ◌<◌, ◌+◌, inl, inr, Bool, true, false, nat_eq, Option, Some, None, List, [], ◌∷◌, ◌++◌, length, refl, sym, ap, ◌∙◌, subst, arith}
use Rattle.std.specs.Prelude.{cond, reverse}
use Rattle.std.proofs.lemmas.Bool.Decides.{nat_tests}
use Rattle.std.proofs.lemmas.List.{append-nil, reverse-append}
use Rattle.qd_outside.specs.Writing.{IsWritten, IsCutShort}
use Rattle.qd_outside.proofs.Streams.{Gained-more, cut_after, written_after}
use Rattle.qd_scheme.specs.declared.defs.RecordDef.{RecordDef}
use Rattle.qd_path.specs.declared.side.Side.{Side}
use Rattle.qd_path.specs.Lists.{Lists, GrewBy, IsSpentAt}
use Rattle.qd_path.specs.Made.{Made}
use Rattle.qd_path.specs.Texts.{items_in, is_idle, quiet_of, sent}
use Rattle.qd_calls.proofs.Adding.{grew_more, grew_none, grown_sound}
use Rattle.qd_replies.specs.declared.ends.OutFault.TheVariants as faults
use Rattle.qd_replies.specs.declared.ends.OutTurn.{OutTurn}
use Rattle.qd_replies.specs.declared.ends.OutTurn.TheVariants as turns
use Rattle.qd_replies.specs.Laws.{IsExactlyIdle}
use Rattle.qd_replies.specs.Outs.{OutKept, OutSteps, StandsForNothing, Sunk, collector_at, stripe_at, turn_of}
use Rattle.qd_link.specs.declared.ends.OutEnd.{OutEnd}
use Rattle.qd_link.specs.declared.ends.OutEnd.TheVariants as ends
use Rattle.qd_link.specs.LinkOuts.{EndsQuiet, IsWriting, LinkedOut, RestsBy, WritesOn, ending, heading}

grew_last : (n : ℕ) (x : Made) (past : List Made) (l m p : Lists) → GrewBy n (reverse past) l m → GrewBy n (x ∷ []) m p → GrewBy n (reverse (x ∷ past)) l p
grew_last n x past l m p g h = subst (λ (made : List Made). GrewBy n made l p) (sym (reverse-append (x ∷ []) past)) (grew_more n (reverse past) (x ∷ []) l m p g h)

grew_same : (n : ℕ) (made : List Made) (l m p : Lists) → GrewBy n made l m → GrewBy n [] m p → GrewBy n made l p
grew_same n made l m p g h = subst (λ (x : List Made). GrewBy n x l p) (append-nil made) (grew_more n made [] l m p g h)

still : (n : ℕ) (made : List Made) (l m : Lists) → GrewBy n made l m → GrewBy n [] m m
still n made l m g = grew_none n m (grown_sound n made l m g)

idle_so : (b : Bool) (count : ℕ) → turns.Idle ≡ cond b turns.Idle (turns.Went count) → b ≡ true
idle_so true count e = refl
idle_so false count e = absurd (cc)

module _ (defs : List RecordDef) (n : ℕ) (k k' : OutKept) (count : ℕ) (l m p : Lists) (o w v : Sunk) (flushed : Bool) (r : IsWriting defs n k count l m o w) where
  turn_so : (turn : OutTurn) (x : Made) → turn ≡ turn_of n (items_in x) k.quiet → turn ≡ turn_of n (items_in x) (quiet_of n r.past)
  turn_so turn x e = e ∙ ap (λ (quiet : ℕ). turn_of n (items_in x) quiet) r.stands.empties

  longer : (turn : OutTurn) → length (turn ∷ r.steps) ≡ count + 1
  longer turn = let c = r.count_is in omega (arith, c)

  pub writes_went : (given : ℕ) → OutSteps defs n r.begun k (turns.Went given) k' r.past m p flushed w v → IsWriting defs n k' (count + 1) l p o v
  writes_went given s = record {
    steps = turns.Went given ∷ r.steps;
    past = s.call ∷ r.past;
    begun = r.begun;
    count_is = longer (turns.Went given);
    turns_are = (turn_so (turns.Went given) s.call s.turn_is, r.turns_are);
    headed = r.headed;
    stands = s.stands;
    grew = grew_last n s.call r.past l m p r.grew s.grew;
    is_open = s.is_open;
    same = s.same ∙ r.same;
  }

  pub writes_idle : IsExactlyIdle → OutSteps defs n r.begun k turns.Idle k' r.past m p flushed w v → (q : IsWriting defs n k' (count + 1) l p o v) × EndsQuiet n q.past
  writes_idle law s = (
    record {
      steps = turns.Idle ∷ r.steps;
      past = s.call ∷ r.past;
      begun = r.begun;
      count_is = longer turns.Idle;
      turns_are = (turn_so turns.Idle s.call s.turn_is, r.turns_are);
      headed = r.headed;
      stands = s.stands;
      grew = grew_last n s.call r.past l m p r.grew s.grew;
      is_open = s.is_open;
      same = s.same ∙ r.same;
    },
    (s.call, r.past, refl, (law n r.past s.call).0 (idle_so (is_idle n (items_in s.call) (quiet_of n r.past)) (length (items_in s.call)) (turn_so turns.Idle s.call s.turn_is))),
  )

  pub writes_busy : (first found : ℕ) → OutSteps defs n r.begun k (turns.Busy first found) k' r.past m p flushed w v → IsWriting defs n k' (count + 1) l p o v
  writes_busy first found (grew, busy, kept, same) = record {
    steps = turns.Busy first found ∷ r.steps;
    past = r.past;
    begun = r.begun;
    count_is = longer (turns.Busy first found);
    turns_are = r.turns_are;
    headed = r.headed;
    stands = rw (kept, same) r.stands;
    grew = grew_same n (reverse r.past) l m p r.grew grew;
    is_open = ap (λ (x : OutKept). x.ended) kept ∙ r.is_open;
    same = ap (λ (x : Sunk). x.faults) same ∙ r.same;
  }

  begun_so : IsWritten (heading defs) o.written r.begun o.faults w.faults
  begun_so = record { gained = r.headed; same = r.same }

  fewer : (limit : ℕ) → count < limit → length r.steps < limit
  fewer limit h = let c = r.count_is in omega (arith, c, h)

  pub writes_cut : (limit : ℕ) → count < limit → OutSteps defs n r.begun k (turns.Ended faults.WriteFault) k' r.past m p flushed w v → LinkedOut defs n k.side ends.WriteFault limit l p o v
  writes_cut limit h s =
      let grew = grew_last n s.call r.past l m p r.grew s.grew in
      record {
        steps = r.steps;
        past = s.call ∷ r.past;
        between = p;
        round = s.round;
        own = s.own;
        grew = grew;
        last = still n (reverse (s.call ∷ r.past)) l p grew;
        cause = inr (inl (s.call, r.past, refl, r.turns_are, fewer limit h, s.some, cut_after (heading defs) (sent defs (s.call ∷ r.past)) o.written r.begun v.written o.faults w.faults v.faults begun_so s.whole));
      }

  all_so : IsWritten (heading defs ++ sent defs r.past) o.written w.written o.faults w.faults
  all_so = record { gained = Gained-more o.written r.begun w.written (heading defs) (sent defs r.past) r.headed r.stands.replies; same = r.same }

  pub writes_spent : (limit : ℕ) → count < limit → OutSteps defs n r.begun k (turns.Ended faults.Spent) k' r.past m p flushed w v → LinkedOut defs n k.side ends.Spent limit l p o v
  writes_spent limit h (grew, spent, same, ended) = record {
    steps = r.steps;
    past = r.past;
    between = m;
    round = r.stands.round;
    own = r.stands.own;
    grew = r.grew;
    last = grew;
    cause = (
      r.turns_are,
      fewer limit h,
      subst (λ (at : ℕ). IsSpentAt (collector_at n at) (stripe_at n at) m p) r.stands.place spent,
      rw same all_so,
    );
  }

module _ (defs : List RecordDef) (n : ℕ) (k : OutKept) (count : ℕ) (l m : Lists) (o w : Sunk) (r : IsWriting defs n k count l m o w) where
  writes_all : LinkedOut defs n k.side ends.Turns count l m o w
  writes_all = record {
    steps = r.steps;
    past = r.past;
    between = m;
    round = r.stands.round;
    own = r.stands.own;
    grew = r.grew;
    last = still n (reverse r.past) l m r.grew;
    cause = (r.turns_are, r.count_is, record { gained = Gained-more o.written r.begun w.written (heading defs) (sent defs r.past) r.headed r.stands.replies; same = r.same });
  }

  pub writes_end : (limit : ℕ) → count ≡ limit → LinkedOut defs n k.side ends.Turns limit l m o w
  writes_end limit e = subst (λ (x : ℕ). LinkedOut defs n k.side ends.Turns x l m o w) e writes_all

  pub rests : (v : Sunk) (was limit : ℕ) (end : Option OutEnd) → count ≡ was + 1 → count < limit → EndsQuiet n r.past → RestsBy defs end w v → WritesOn defs n k.side end k was limit l m o v
  rests v was limit None e h quiet same = rw (same, ← e) r
  rests v was limit (Some ends.Shut) e h quiet written = record {
    steps = r.steps;
    past = r.past;
    between = m;
    round = r.stands.round;
    own = r.stands.own;
    grew = r.grew;
    last = still n (reverse r.past) l m r.grew;
    cause = (
      r.turns_are,
      (let c = r.count_is in omega (arith, c, h)),
      quiet,
      written_after (heading defs) (sent defs r.past ++ ending defs) o.written r.begun v.written o.faults w.faults v.faults (record { gained = r.headed; same = r.same })
          (written_after (sent defs r.past) (ending defs) r.begun w.written v.written w.faults w.faults v.faults (record { gained = r.stands.replies; same = refl }) written),
    );
  }
  rests v was limit (Some ends.WriteFault) e h quiet cut = record {
    steps = r.steps;
    past = r.past;
    between = m;
    round = r.stands.round;
    own = r.stands.own;
    grew = r.grew;
    last = still n (reverse r.past) l m r.grew;
    cause = inr (inr (
      r.turns_are,
      (let c = r.count_is in omega (arith, c, h)),
      quiet,
      cut_after (heading defs) (sent defs r.past ++ ending defs) o.written r.begun v.written o.faults w.faults v.faults (record { gained = r.headed; same = r.same })
          (cut_after (sent defs r.past) (ending defs) r.begun w.written v.written w.faults w.faults v.faults (record { gained = r.stands.replies; same = refl }) cut),
    ));
  }
  rests v was limit (Some ends.Turns) e h quiet never = absurd never
  rests v was limit (Some ends.Spent) e h quiet never = absurd never
  rests v was limit (Some ends.NoMemory) e h quiet never = absurd never

module _ (defs : List RecordDef) (n : ℕ) (l : Lists) (o : Sunk) (g : GrewBy n [] l l) where
  -- the heading is written, and no step was made
  pub writes_first : (k : OutKept) (w : Sunk) → StandsForNothing k → k.ended ≡ None → IsWritten (heading defs) o.written w.written o.faults w.faults → IsWriting defs n k 0 l l o w
  writes_first k w st none h = record {
    steps = [];
    past = [];
    begun = w.written;
    count_is = refl;
    turns_are = tt;
    headed = h.gained;
    stands = (st defs n w.written).0;
    grew = g;
    is_open = none;
    same = h.same;
  }

  -- the heading is cut short
  pub heading_cut : (side : Side) (limit : ℕ) (w : Sunk) → IsCutShort (heading defs) o.written w.written o.faults w.faults → LinkedOut defs n side ends.WriteFault limit l l o w
  heading_cut side limit w cut = record { steps = []; past = []; between = l; round = tt; own = tt; grew = g; last = g; cause = inl (refl, refl, cut) }

  -- no engine could be made
  pub writes_nothing : (side : Side) (limit : ℕ) → LinkedOut defs n side ends.NoMemory limit l l o o
  writes_nothing side limit = record { steps = []; past = []; between = l; round = tt; own = tt; grew = g; last = g; cause = (refl, refl, refl) }

pub linked_as : (defs : List RecordDef) (n : ℕ) (a b : Side) (end : OutEnd) (limit : ℕ) (l m : Lists) (o w : Sunk) → a ≡ b → LinkedOut defs n a end limit l m o w → LinkedOut defs n b end limit l m o w
linked_as defs n a b end limit l m o w e r = subst (λ (side : Side). LinkedOut defs n side end limit l m o w) e r

pub last_told : (turn turns : ℕ) → turn < turns → nat_eq (turn + 1) turns ≡ false → turn + 1 < turns
last_told turn turns within e = grind (arith, nat_tests)

pub goes_as : (defs : List RecordDef) (n : ℕ) (a b : Side) (end : Option OutEnd) (k : OutKept) (count limit : ℕ) (l m : Lists) (o w : Sunk) → a ≡ b → WritesOn defs n a end k count limit l m o w → WritesOn defs n b end k count limit l m o w
goes_as defs n a b end k count limit l m o w e r = subst (λ (side : Side). WritesOn defs n side end k count limit l m o w) e r
