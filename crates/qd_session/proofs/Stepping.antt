-- A step of an engine that reads.
use Rattle.std.proofs.Common.{ℕ, ◌≡◌, inl, inr, Bool, true, false, Option, Some, None, List, [], ◌∷◌, ◌++◌, length, map, refl, ap, ◌∙◌, subst}
use Rattle.std.proofs.lemmas.List.{append-nil}
use Rattle.qd_items.specs.Standing.{Kept, Past, IsTaken}
use Rattle.qd_outside.specs.Reading.{Took}
use Rattle.qd_scheme.specs.declared.defs.RecordDef.{RecordDef}
use Rattle.qd_path.specs.declared.call.Asked.{Asked}
use Rattle.qd_path.specs.declared.side.Side.{Side}
use Rattle.qd_path.specs.Lists.{Lists, AreSound}
use Rattle.qd_path.specs.Made.{Made, asked_in, AreDone, IsDone}
use Rattle.qd_session.specs.declared.ends.InEnd.{InEnd}
use Rattle.qd_session.specs.declared.ends.InEnd.TheVariants as ends
use Rattle.qd_session.specs.declared.ends.InTurn.{InTurn}
use Rattle.qd_session.specs.declared.ends.InTurn.TheVariants as turns
use Rattle.qd_session.specs.Ins.{InKept, InStands, HasRead, Sourced, ReadsOn, InSteps, InEnded, InCause, MakesNext, MadeNext, end_in}
use Rattle.qd_calls.proofs.Adding.{grew_none}
use Rattle.qd_calls.proofs.Growing.{map_more, done_more}

-- an engine with the end that it came to, and with these calls due
abbrev pub with_end : Option InEnd → InKept → InKept
with_end end k = record { side = k.side; items = k.items; place = k.place; due = k.due; closing = k.closing; ended = end }

abbrev pub going : List Asked → Option InEnd → InKept → InKept
going due end k = record { side = k.side; items = k.items; place = k.place; due = due; closing = k.closing; ended = end }

open_again : (defs : List RecordDef) (n : ℕ) (from : Option (List ℕ)) (k : InKept) (p : Past) (made : List Made) (left : Option (List ℕ)) → InStands defs n from k p made left → InStands defs n from (with_end None k) p (made ++ []) left
open_again defs n from k p made left s = record {
  read = s.read;
  mode = s.mode;
  place = s.place;
  asked = rw (append-nil made) s.asked;
  done = rw (append-nil made) s.done;
  is_open = refl;
}

pub read_steps : (defs : List RecordDef) (n : ℕ) (from : Option (List ℕ)) (k k' : InKept) (turn : InTurn) (p : Past) (made : List Made) (l : Lists) (s t : Sourced) → AreSound n l → AreDone made → ReadsOn defs n from k turn k' p made s t
    → InSteps defs n from k turn (with_end (end_in turn) k') p made l l s t
read_steps defs n from k k' turns.Went p made l s t sound done r = record {
  past = r.past;
  now = [];
  grew = grew_none n l sound;
  stands = open_again defs n from k' r.past made t.left r.stands;
  progress = inr (refl, r.further);
  same = r.same;
}
read_steps defs n from k k' (turns.Busy first found) p made l s t sound done r = absurd r
read_steps defs n from k k' (turns.Ended end) p made l s t sound done r = record {
  past = r.past;
  rest = r.rest;
  now = [];
  later = r.later;
  bytes = r.bytes;
  took = r.took;
  grew = grew_none n l sound;
  asked = rw (append-nil made) r.asked;
  done = done;
  one = inl refl;
  cause = r.cause l;
  ended = refl;
}

-- the bytes taken, whether or not END was judged
bytes_of : (closing : Bool) (defs : List RecordDef) (side : Side) (from : Option (List ℕ)) (k : Kept) (p : Past) (left : Option (List ℕ)) → HasRead closing defs side from k p left
    → (rest : List ℕ) × IsTaken p rest × Took from left p.taken × (k.lines ≡ length p.lines)
bytes_of false defs side from k p left r = (k.left, r.stands.bytes, r.took, r.stands.count)
bytes_of true defs side from k p left r = (r.0.0, r.0.1, r.1, r.3)

module _ (defs : List RecordDef) (n : ℕ) (from : Option (List ℕ)) (k : InKept) (due' : List Asked) (p : Past) (made : List Made) (l m : Lists) (s : Sourced) (stands : InStands defs n from k p made s.left) where
  -- the call was made, and ended the engine
  over : (end : InEnd) (Told : Made → Type 0) → (d : MadeNext n k.due due' Told l m) → ((rest : List ℕ) → InCause end defs k.side p rest (d.call ∷ []) due' l m s s) → InEnded defs n from k.side end (going due' (Some end) k) made l m s s
  over end Told d cause =
      let b = bytes_of k.closing defs k.side from k.items p s.left stands.read in
      record {
        past = p;
        rest = b.0;
        now = d.call ∷ [];
        later = due';
        bytes = b.1;
        took = b.2;
        grew = d.grew;
        asked = stands.asked ∙ ap (λ (x : List Asked). map asked_in made ++ x) d.due_is ∙ map_more made d.call due';
        done = stands.done;
        one = inr (d.call, refl);
        cause = cause b.0;
        ended = refl;
      }

  line_is : k.items.lines ≡ length p.lines
  line_is = (bytes_of k.closing defs k.side from k.items p s.left stands.read).3

  closed : k.closing ≡ true → HasRead true defs k.side from k.items p s.left
  closed e = subst (λ (b : Bool). HasRead b defs k.side from k.items p s.left) e stands.read

  pub call_steps : (turn : InTurn) → MakesNext n k.due due' k.closing k.items.lines turn l m → InSteps defs n from k turn (going due' (end_in turn) k) p made l m s s
  call_steps turns.Went d = record {
    past = p;
    now = d.call ∷ [];
    grew = d.grew;
    stands = record {
      read = stands.read;
      mode = stands.mode;
      place = stands.place;
      asked = stands.asked ∙ ap (λ (x : List Asked). map asked_in made ++ x) d.due_is ∙ map_more made d.call due';
      done = done_more made d.call stands.done d.told;
      is_open = refl;
    };
    progress = inl (d.call, refl);
    same = refl;
  }
  call_steps (turns.Busy first found) (a, more, due, same, grew, busy) = record {
    next = a;
    more = more;
    due = due;
    grew = grew;
    busy = busy;
    same = rw (same, stands.is_open) refl;
    source = refl;
  }
  call_steps (turns.Ended ends.End) (d, none, closing) = over ends.End IsDone d (λ rest. ((d.told, tt), none, (closed closing).2, refl))
  call_steps (turns.Ended (ends.Refused number limit)) (d, at) = over (ends.Refused number limit) _ d (λ rest. (d.call, refl, d.told, at ∙ line_is))
  call_steps (turns.Ended ends.Spent) (inl d) = over ends.Spent _ d (λ rest. inl (d.call, refl, d.told))
  call_steps (turns.Ended ends.Spent) (inr (a, due, grew, spent)) =
      let b = bytes_of k.closing defs k.side from k.items p s.left stands.read in
      record {
        past = p;
        rest = b.0;
        now = [];
        later = k.due;
        bytes = b.1;
        took = b.2;
        grew = grew;
        asked = rw (append-nil made) stands.asked;
        done = stands.done;
        one = inl refl;
        cause = inr (a, due', refl, due, spent);
        ended = refl;
      }
  call_steps (turns.Ended ends.NoMemory) d = over ends.NoMemory _ d (λ rest. (inr (d.call, refl, d.told), refl))
  call_steps (turns.Ended ends.CutOff) d = absurd d
  call_steps (turns.Ended (ends.Bad bad)) d = absurd d
  call_steps (turns.Ended (ends.LineTooLong line)) d = absurd d
  call_steps (turns.Ended ends.TooMuch) d = absurd d
  call_steps (turns.Ended ends.ReadFault) d = absurd d
