-- A link is read to its end, step after step.
use Rattle.std.proofs.Common.{ℕ, ◌≡◌, inl, List, [], ◌++◌, refl, ap, ◌∙◌, subst}
use Rattle.std.proofs.lemmas.List.{append-nil}
use Rattle.qd_outside.proofs.Streams.{Took-none}
use Rattle.qd_items.specs.Standing.{Past, nothing}
use Rattle.qd_items.proofs.StepLaws.{opening_read}
use Rattle.qd_scheme.specs.declared.defs.RecordDef.{RecordDef}
use Rattle.qd_path.specs.declared.call.Asked.{Asked}
use Rattle.qd_path.specs.declared.side.Side.{Side}
use Rattle.qd_path.specs.Calls.{mode_of}
use Rattle.qd_path.specs.Lists.{Lists, GrewBy}
use Rattle.qd_path.specs.Made.{Made}
use Rattle.qd_calls.proofs.Adding.{grew_more}
use Rattle.qd_session.specs.declared.ends.InEnd.{InEnd}
use Rattle.qd_session.specs.declared.ends.InEnd.TheVariants as ends
use Rattle.qd_session.specs.declared.ends.InTurn.{InTurn}
use Rattle.qd_session.specs.declared.ends.InTurn.TheVariants as turns
use Rattle.qd_session.specs.Ins.{InKept, InCause, InSteps, Sourced, StandsForNothing, end_in}
use Rattle.qd_link.specs.LinkIns.{IsReading, IsReadOut, ReadsOn}

-- the cause of an end asks of what was before only for the count of faults
cause_since : (end : InEnd) (defs : List RecordDef) (side : Side) (q : Past) (rest : List ℕ) (now : List Made) (later : List Asked) (l m : Lists) (s t u : Sourced)
    → t.faults ≡ s.faults → InCause end defs side q rest now later l m t u → InCause end defs side q rest now later l m s u
cause_since ends.End defs side q rest now later l m s t u e c = rw (← e) c
cause_since ends.CutOff defs side q rest now later l m s t u e c = rw (← e) c
cause_since (ends.Bad bad) defs side q rest now later l m s t u e c = rw (← e) c
cause_since (ends.LineTooLong line) defs side q rest now later l m s t u e c = rw (← e) c
cause_since ends.TooMuch defs side q rest now later l m s t u e c = rw (← e) c
cause_since ends.ReadFault defs side q rest now later l m s t u e c = rw (← e) c
cause_since (ends.Refused line limit) defs side q rest now later l m s t u e c = c
cause_since ends.Spent defs side q rest now later l m s t u e c = c
cause_since ends.NoMemory defs side q rest now later l m s t u e c = (c.0, c.1 ∙ e)

pub reads_on : (defs : List RecordDef) (n : ℕ) (k k' : InKept) (turn : InTurn) (l m o : Lists) (s t u : Sourced) (r : IsReading defs n k l m s t)
    → InSteps defs n s.left k turn k' r.past r.made m o t u → ReadsOn defs n k.side (end_in turn) k' l o s u
reads_on defs n k k' turns.Went l m o s t u r w = record {
  past = w.past;
  made = r.made ++ w.now;
  stands = w.stands;
  grew = grew_more n r.made w.now l m o r.grew w.grew;
  same = w.same ∙ r.same;
}
reads_on defs n k k' (turns.Busy first found) l m o s t u r b = record {
  past = r.past;
  made = r.made;
  stands = rw (b.same, b.source) r.stands;
  grew = subst (λ (x : List Made). GrewBy n x l o) (append-nil r.made) (grew_more n r.made [] l m o r.grew b.grew);
  same = ap (λ (x : Sourced). x.faults) b.source ∙ r.same;
}
reads_on defs n k k' (turns.Ended end) l m o s t u r e = record {
  past = e.past;
  rest = e.rest;
  made = r.made;
  now = e.now;
  later = e.later;
  between = m;
  bytes = e.bytes;
  took = e.took;
  asked = e.asked;
  done = e.done;
  one = e.one;
  grew = r.grew;
  last = e.grew;
  cause = cause_since end defs k.side e.past e.rest e.now e.later m o s t u r.same e.cause;
}

-- a new engine
pub reads_first : (defs : List RecordDef) (n : ℕ) (k : InKept) (l : Lists) (s : Sourced) → StandsForNothing k → GrewBy n [] l l → IsReading defs n k l l s s
reads_first defs n k l s st g = record { past = nothing; made = []; stands = (st defs n s.left).0; grew = g; same = refl }

-- no engine could be made
pub reads_nothing : (defs : List RecordDef) (n : ℕ) (side : Side) (l : Lists) (s : Sourced) → GrewBy n [] l l → IsReadOut defs n side ends.NoMemory l l s s
reads_nothing defs n side l s g = record {
  past = nothing;
  rest = [];
  made = [];
  now = [];
  later = [];
  between = l;
  bytes = (opening_read (mode_of side) defs s.left).stands.bytes;
  took = Took-none s.left;
  asked = refl;
  done = tt;
  one = inl refl;
  grew = g;
  last = g;
  cause = (inl refl, refl);
}

pub read_as : (defs : List RecordDef) (n : ℕ) (a b : Side) (end : InEnd) (l m : Lists) (s t : Sourced) → a ≡ b → IsReadOut defs n a end l m s t → IsReadOut defs n b end l m s t
read_as defs n a b end l m s t e r = subst (λ (side : Side). IsReadOut defs n side end l m s t) e r
