-- What the writing half of a link does, from its beginning to its end.
use Rattle.std.specs.Prelude.{ℕ, ◌≡◌, ◌<◌, ◌+◌, ◌⊎◌, Option, Some, None, List, [], ◌∷◌, ◌++◌, length, reverse}
use Rattle.qd_bell.specs.Ringing.{Rises}
use Rattle.qd_outside.specs.Writing.{Gained, IsWritten, IsCutShort}
use Rattle.qd_scheme.specs.declared.defs.RecordDef.{RecordDef}
use Rattle.qd_grammar.specs.declared.item.Item.TheVariants as items
use Rattle.qd_path.specs.declared.side.Side.{Side}
use Rattle.qd_path.specs.Lists.{Lists, GrewBy, IsSpentAt}
use Rattle.qd_path.specs.Made.{Made}
use Rattle.qd_path.specs.Texts.{GoRound, items_in, line_of, place_behind, quiet_of, sent}
use Rattle.qd_replies.specs.declared.ends.OutTurn.{OutTurn}
use Rattle.qd_replies.specs.declared.ends.OutTurn.TheVariants as turns
use Rattle.qd_replies.specs.Laws.{IsQuietRound}
use Rattle.qd_replies.specs.Outs.{AreCalls, OutKept, OutStands, Sunk, collector_at, stripe_at, turn_of}
use Rattle.qd_link.specs.declared.ends.OutEnd.{OutEnd}
use Rattle.qd_link.specs.declared.ends.OutEnd.TheVariants as ends

-- the first and the last line of a link
abbrev pub heading : List RecordDef → List ℕ
heading defs = line_of defs items.Protocol

abbrev pub ending : List RecordDef → List ℕ
ending defs = line_of defs items.End

-- the turns of steps, the newest first, by the calls that were made in them: a step in which another caller had a turn made none, and
-- each other one is idle or gave items as the reply says
abbrev pub AreTurns : ℕ → List OutTurn → List Made → Type 0
AreTurns n [] [] = Unit {0}
AreTurns n [] (x ∷ past) = ⊥
AreTurns n (turns.Busy first found ∷ steps) past = AreTurns n steps past
AreTurns n (turns.Ended fault ∷ steps) past = ⊥
AreTurns n (turns.Went count ∷ steps) [] = ⊥
AreTurns n (turns.Went count ∷ steps) (x ∷ past) = (turns.Went count ≡ turn_of n (items_in x) (quiet_of n past)) × AreTurns n steps past
AreTurns n (turns.Idle ∷ steps) [] = ⊥
AreTurns n (turns.Idle ∷ steps) (x ∷ past) = (turns.Idle ≡ turn_of n (items_in x) (quiet_of n past)) × AreTurns n steps past

-- a link is being written: so many steps were made; the lists grew by just their calls, which went round; and behind the heading the
-- text of their replies is written
pub record IsWriting (defs : List RecordDef) (n : ℕ) (k : OutKept) (count : ℕ) (l m : Lists) (o w : Sunk) : Type 0 where
  pub steps : List OutTurn
  pub past : List Made
  pub begun : Option (List ℕ)
  pub count_is : length steps ≡ count
  pub turns_are : AreTurns n steps past
  pub headed : Gained o.written begun (heading defs)
  pub stands : OutStands defs n begun k past w.written
  pub grew : GrewBy n (reverse past) l m
  pub is_open : k.ended ≡ None
  pub same : w.faults ≡ o.faults

-- the newest calls are a round in which each stripe was asked, and each answered without items
abbrev pub EndsQuiet : ℕ → List Made → Type 0
EndsQuiet n past = (x : Made) × (before : List Made) × (past ≡ x ∷ before) × IsQuietRound n x before

-- where a write failed: in the heading, before the first call; in the text of the newest call; or in the ending, which is begun behind a
-- quiet round alone
abbrev pub IsCutAt : List RecordDef → ℕ → ℕ → List OutTurn → List Made → Sunk → Sunk → Type 0
IsCutAt defs n limit steps past o w =
    ((past ≡ []) × (steps ≡ []) × IsCutShort (heading defs) o.written w.written o.faults w.faults)
    ⊎ (((x : Made) × (before : List Made) × (past ≡ x ∷ before) × AreTurns n steps before × (length steps < limit) × (0 < length (items_in x)) × IsCutShort (heading defs ++ sent defs past) o.written w.written o.faults w.faults)
    ⊎ (AreTurns n steps past × (length steps < limit) × EndsQuiet n past × IsCutShort (heading defs ++ (sent defs past ++ ending defs)) o.written w.written o.faults w.faults))

-- the cause of an end, and what is written at it
abbrev pub OutCause : List RecordDef → ℕ → OutEnd → ℕ → List OutTurn → List Made → Lists → Lists → Sunk → Sunk → Type 0
OutCause defs n ends.Shut limit steps past l m o w = AreTurns n steps past × (length steps < limit) × EndsQuiet n past × IsWritten (heading defs ++ (sent defs past ++ ending defs)) o.written w.written o.faults w.faults
OutCause defs n ends.Turns limit steps past l m o w = AreTurns n steps past × (length steps ≡ limit) × IsWritten (heading defs ++ sent defs past) o.written w.written o.faults w.faults
OutCause defs n ends.Spent limit steps past l m o w =
    AreTurns n steps past × (length steps < limit) × IsSpentAt (collector_at n (place_behind n past)) (stripe_at n (place_behind n past)) l m × IsWritten (heading defs ++ sent defs past) o.written w.written o.faults w.faults
OutCause defs n ends.WriteFault limit steps past l m o w = IsCutAt defs n limit steps past o w
OutCause defs n ends.NoMemory limit steps past l m o w = (past ≡ []) × (steps ≡ []) × (w ≡ o)

-- the writing half of a link: its calls went round, the lists grew by just these, and the end has its cause
pub record LinkedOut (defs : List RecordDef) (n : ℕ) (side : Side) (end : OutEnd) (limit : ℕ) (l m : Lists) (o w : Sunk) : Type 0 where
  pub steps : List OutTurn
  pub past : List Made
  pub between : Lists
  pub round : GoRound n past
  pub own : AreCalls n side past
  pub grew : GrewBy n (reverse past) l between
  pub last : GrewBy n [] between m
  pub cause : OutCause defs n end limit steps past between m o w

-- a step of a link: it goes on, with one more step, or it was written to its end
abbrev pub WritesOn : List RecordDef → ℕ → Side → Option OutEnd → OutKept → ℕ → ℕ → Lists → Lists → Sunk → Sunk → Type 0
WritesOn defs n side None k count limit l m o w = IsWriting defs n k (count + 1) l m o w
WritesOn defs n side (Some end) k count limit l m o w = LinkedOut defs n side end limit l m o w

-- the count of shuts rose where a wait told of a shut, behind which the ending is written; else it is as it was
abbrev pub TellsShut : OutEnd → ℕ → ℕ → Type 0
TellsShut ends.Shut before now = Rises before now
TellsShut ends.WriteFault before now = (now ≡ before) ⊎ Rises before now
TellsShut _ before now = now ≡ before

abbrev pub TellsShutOn : Option OutEnd → ℕ → ℕ → Type 0
TellsShutOn None before now = now ≡ before
TellsShutOn (Some end) before now = TellsShut end before now

-- a wait: nothing was written, or the ending is, or is cut short
abbrev pub RestsBy : List RecordDef → Option OutEnd → Sunk → Sunk → Type 0
RestsBy defs None o w = w ≡ o
RestsBy defs (Some ends.Shut) o w = IsWritten (ending defs) o.written w.written o.faults w.faults
RestsBy defs (Some ends.WriteFault) o w = IsCutShort (ending defs) o.written w.written o.faults w.faults
RestsBy defs (Some end) o w = ⊥
