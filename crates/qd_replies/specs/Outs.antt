-- What an engine that writes keeps, for which past it stands, and what a step of it does.
use Rattle.std.specs.Prelude.{ℕ, ◌≡◌, ◌<◌, ◌+◌, ◌-◌, ◌*◌, nat_lt, if◌then◌else◌, Bool, true, Option, Some, None, List, [], ◌∷◌, length}
use Rattle.qd_outside.specs.Writing.{Gained, IsCutShort}
use Rattle.qd_scheme.specs.declared.defs.RecordDef.{RecordDef}
use Rattle.qd_grammar.specs.declared.item.Collector.{Collector}
use Rattle.qd_grammar.specs.declared.item.Collector.TheVariants.{Ticker, Stream, History}
use Rattle.qd_path.specs.declared.call.Asked.{Asked}
use Rattle.qd_path.specs.declared.call.Call.TheVariants as calls
use Rattle.qd_path.specs.declared.side.Side.{Side}
use Rattle.qd_path.specs.Lists.{Lists, GrewBy, IsBusyAt, IsSpentAt}
use Rattle.qd_path.specs.Made.{Made, asked_in}
use Rattle.qd_path.specs.Texts.{ReplyItem, items_in, text_of, sent, GoRound, place_behind, quiet_of, is_idle}
use Rattle.qd_replies.specs.declared.ends.OutFault.{OutFault}
use Rattle.qd_replies.specs.declared.ends.OutFault.TheVariants as faults
use Rattle.qd_replies.specs.declared.ends.OutTurn.{OutTurn}
use Rattle.qd_replies.specs.declared.ends.OutTurn.TheVariants as turns
use Rattle.qd_replies.specs.declared.out_engine.Answer.{Answer}
use Rattle.qd_replies.specs.declared.out_engine.Answer.TheVariants.{Unwritten, Busy, Spent}
use Rattle.qd_replies.specs.Asked.{out_op, Writes}

-- the collector and the stripe at a place in the round
abbrev pub collector_at : ℕ → ℕ → Collector
collector_at n at = if nat_lt at n then Ticker else if nat_lt at (n + n) then Stream else History

abbrev pub stripe_at : ℕ → ℕ → ℕ
stripe_at n at = if nat_lt at n then at else if nat_lt at (n + n) then at - n else at - (n + n)

-- the call that is made of a stripe
abbrev pub call_of : Side → Collector → ℕ → Asked
call_of side Ticker i = record { stripe = i; call = calls.Ticker (out_op side) }
call_of side Stream i = record { stripe = i; call = calls.Stream (out_op side) }
call_of side History i = record { stripe = i; call = calls.History (out_op side) }

-- nothing was left unwritten
abbrev pub IsWhole : Answer → Type 0
IsWhole Unwritten = ⊥
IsWhole _ = Unit {0}

-- what a sink tells
pub record Sunk : Type 0 where
  pub written : Option (List ℕ)
  pub faults : ℕ

-- one stripe was asked: it gave, and the text is written, or cut short; or another caller had a turn; or it is spent
abbrev pub Outcome : List RecordDef → ℕ → Side → Collector → ℕ → Answer → Lists → Lists → Bool → Sunk → Sunk → Type 0
Outcome defs n side c i (Busy first found) l m flushed o w = GrewBy n [] l m × IsBusyAt c i first found l m × (w ≡ o)
Outcome defs n side c i Spent l m flushed o w = GrewBy n [] l m × IsSpentAt c i l m × (w ≡ o)
Outcome defs n side c i answer l m flushed o w =
    (x : Made) × (asked_in x ≡ call_of side c i) × GrewBy n (x ∷ []) l m × Writes defs (items_in x) answer flushed o.written w.written o.faults w.faults

-- what an engine keeps: its side, the place in the round, how many stripes in a row answered empty, and the fault that ended it
pub record OutKept : Type 0 where
  pub side : Side
  pub at : ℕ
  pub quiet : ℕ
  pub ended : Option OutFault

-- an engine of a hub of so many stripes
abbrev pub IsInRound : ℕ → OutKept → Type 0
IsInRound n k = (k.at < 3 * n) × (k.quiet < 3 * n)

-- before the first call
abbrev pub out_beginning : Side → OutKept
out_beginning side = record { side = side; at = 0; quiet = 0; ended = None }

-- the call of a place in the round
abbrev pub asked_at : ℕ → Side → ℕ → Asked
asked_at n side at = call_of side (collector_at n at) (stripe_at n at)

-- each call was that of the place that came next, and asked for what is due to the other end of the link
abbrev pub AreCalls : ℕ → Side → List Made → Type 0
AreCalls n side [] = Unit {0}
AreCalls n side (x ∷ before) = (asked_in x ≡ asked_at n side (place_behind n before)) × AreCalls n side before

-- an engine stands for the calls that it made, the newest first: they went round, and what was written since `from` are their replies
pub record OutStands (defs : List RecordDef) (n : ℕ) (from : Option (List ℕ)) (k : OutKept) (past : List Made) (written : Option (List ℕ)) : Type 0 where
  pub round : GoRound n past
  pub own : AreCalls n k.side past
  pub place : k.at ≡ place_behind n past
  pub empties : k.quiet ≡ quiet_of n past
  pub replies : Gained from written (sent defs past)

-- a new engine stands for no call: nothing is written of any reply
abbrev pub StandsForNothing : OutKept → Type 0
StandsForNothing k = (defs : List RecordDef) (n : ℕ) (written : Option (List ℕ)) → OutStands defs n written k [] written × (0 < n → IsInRound n k)

-- the stripe answered
abbrev pub IsAnswered : Answer → Type 0
IsAnswered (Busy first found) = ⊥
IsAnswered Spent = ⊥
IsAnswered _ = Unit {0}

-- the stripe answered: no other caller had a turn, and no word stood at its end
abbrev pub IsFree : OutTurn → Type 0
IsFree (turns.Busy first found) = ⊥
IsFree (turns.Ended faults.Spent) = ⊥
IsFree _ = Unit {0}

-- the answer to a call: idle, where all stripes answered empty
abbrev pub turn_of : ℕ → List ReplyItem → ℕ → OutTurn
turn_of n given quiet = if is_idle n given quiet then turns.Idle else turns.Went (length given)

-- a step made one call, and its text is written and, where it is not empty, flushed
pub record OutWent (defs : List RecordDef) (n : ℕ) (from : Option (List ℕ)) (k : OutKept) (turn : OutTurn) (k' : OutKept) (past : List Made) (l m : Lists) (flushed : Bool) (o w : Sunk) : Type 0 where
  pub call : Made
  pub grew : GrewBy n (call ∷ []) l m
  pub stands : OutStands defs n from k' (call ∷ past) w.written
  pub is_open : k'.ended ≡ None
  pub turn_is : turn ≡ turn_of n (items_in call) k.quiet
  pub same : w.faults ≡ o.faults
  pub all_flushed : 0 < length (items_in call) → flushed ≡ true

-- a step made one call that was answered with items, and a first part of their text is written
pub record OutCut (defs : List RecordDef) (n : ℕ) (from : Option (List ℕ)) (side : Side) (k' : OutKept) (past : List Made) (l m : Lists) (o w : Sunk) : Type 0 where
  pub call : Made
  pub grew : GrewBy n (call ∷ []) l m
  pub round : GoRound n (call ∷ past)
  pub own : AreCalls n side (call ∷ past)
  pub some : 0 < length (items_in call)
  pub cut : IsCutShort (text_of defs (items_in call)) o.written w.written o.faults w.faults
  pub whole : IsCutShort (sent defs (call ∷ past)) from w.written o.faults w.faults
  pub ended : k'.ended ≡ Some faults.WriteFault

-- a step of an engine that has not ended
abbrev pub OutSteps : List RecordDef → ℕ → Option (List ℕ) → OutKept → OutTurn → OutKept → List Made → Lists → Lists → Bool → Sunk → Sunk → Type 0
OutSteps defs n from k (turns.Went count) k' past l m flushed o w = OutWent defs n from k (turns.Went count) k' past l m flushed o w
OutSteps defs n from k turns.Idle k' past l m flushed o w = OutWent defs n from k turns.Idle k' past l m flushed o w
OutSteps defs n from k (turns.Busy first found) k' past l m flushed o w =
    GrewBy n [] l m × IsBusyAt (collector_at n k.at) (stripe_at n k.at) first found l m × (k' ≡ k) × (w ≡ o)
OutSteps defs n from k (turns.Ended faults.WriteFault) k' past l m flushed o w = OutCut defs n from k.side k' past l m o w
OutSteps defs n from k (turns.Ended faults.Spent) k' past l m flushed o w =
    GrewBy n [] l m × IsSpentAt (collector_at n k.at) (stripe_at n k.at) l m × (w ≡ o) × (k'.ended ≡ Some faults.Spent)
