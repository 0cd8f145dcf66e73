-- What an engine that reads keeps, for which past it stands, and what a step of it does.
use Rattle.std.specs.Prelude.{ℕ, ◌≡◌, ◌<◌, ◌≤◌, ◌+◌, ◌⊎◌, Bool, true, false, Option, Some, None, List, [], ◌∷◌, ◌++◌, length, map, All}
use Rattle.qd_items.specs.declared.ends.TextEnd.{TextEnd}
use Rattle.qd_items.specs.declared.ends.TextEnd.TheVariants as texts
use Rattle.qd_items.specs.Ends.{Cause}
use Rattle.qd_items.specs.Judging.{items_of, stop_of}
use Rattle.qd_items.specs.Judging.Stop.{AtEnd}
use Rattle.qd_items.specs.Standing.{Kept, Past, IsTaken, IsRead, nothing}
use Rattle.qd_items.specs.Steps.{WillRead}
use Rattle.qd_outside.specs.Causes.{Rose}
use Rattle.qd_outside.specs.Reading.{Took, IsSpent}
use Rattle.qd_scheme.specs.declared.defs.RecordDef.{RecordDef}
use Rattle.qd_path.specs.declared.call.Asked.{Asked}
use Rattle.qd_path.specs.declared.side.Side.{Side}
use Rattle.qd_path.specs.Calls.{Place, mode_of, place_of, calls}
use Rattle.qd_path.specs.Groups.{size}
use Rattle.qd_path.specs.Lists.{Lists, GrewBy, IsBusyAt, IsSpentAt}
use Rattle.qd_path.specs.Made.{Made, asked_in, AreDone, IsDone}
use Rattle.qd_session.specs.declared.ends.InEnd.{InEnd}
use Rattle.qd_session.specs.declared.ends.InEnd.TheVariants as ends
use Rattle.qd_session.specs.declared.ends.InTurn.{InTurn}
use Rattle.qd_session.specs.declared.ends.InTurn.TheVariants as turns
use Rattle.qd_calls.specs.Dues.{IsDue, TellsLimit, TellsSpent, TellsWant, collector_of}

-- what an engine keeps: its side; what it reads; where the text stands; the calls that are due; whether END was judged while
-- calls are due; the end that it came to
pub record InKept : Type 0 where
  pub side : Side
  pub items : Kept
  pub place : Place
  pub due : List Asked
  pub closing : Bool
  pub ended : Option InEnd

-- before the first byte
abbrev pub in_beginning : Side → Kept → Place → InKept
in_beginning side items place = record { side = side; items = items; place = place; due = []; closing = false; ended = None }

-- the next step reads: the engine has not ended, no call is due, every whole line is judged, and fewer than 2^40 bytes were taken
abbrev pub IsHungry : InKept → Type 0
IsHungry k = (k.ended ≡ None) × (k.due ≡ []) × (k.closing ≡ false) × WillRead k.items

abbrev pub TellsHungry : Bool → InKept → Type 0
TellsHungry true k = IsHungry k
TellsHungry false k = IsHungry k → ⊥

-- the next step makes a call: the engine has not ended, and a call is due
abbrev pub IsCalling : InKept → Type 0
IsCalling k = (k.ended ≡ None) × (k.due ≡ [] → ⊥)

abbrev pub TellsCalling : Bool → InKept → Type 0
TellsCalling true k = IsCalling k
TellsCalling false k = IsCalling k → ⊥

-- the calls that are due are those of a hub of so many stripes
pub record IsCutFor (n : ℕ) (k : InKept) : Type 0 where
  pub each : All (IsDue n) k.due
  pub few : size k.place.group < 4096
  pub some : k.closing ≡ true → k.due ≡ [] → ⊥

-- the bytes taken: the text goes on; or END was judged
abbrev pub HasRead : Bool → List RecordDef → Side → Option (List ℕ) → Kept → Past → Option (List ℕ) → Type 0
HasRead false defs side from k p left = IsRead defs from k p left
HasRead true defs side from k p left =
    ((rest : List ℕ) × IsTaken p rest) × Took from left p.taken × (stop_of (mode_of side) defs p.lines ≡ AtEnd (length p.lines)) × (k.lines ≡ length p.lines)

-- an engine stands for a past: all calls that its lines ask for were made, in order, and granted, but for those that are due
pub record InStands (defs : List RecordDef) (n : ℕ) (from : Option (List ℕ)) (k : InKept) (p : Past) (made : List Made) (left : Option (List ℕ)) : Type 0 where
  pub read : HasRead k.closing defs k.side from k.items p left
  pub mode : k.items.mode ≡ mode_of k.side
  pub place : k.place ≡ place_of (items_of (mode_of k.side) defs p.lines)
  pub asked : calls defs k.side n p.lines ≡ map asked_in made ++ k.due
  pub done : AreDone made
  pub is_open : k.ended ≡ None

-- a new engine stands for the empty past: no byte was taken, no call was made, and none is due
abbrev pub StandsForNothing : InKept → Type 0
StandsForNothing k = (defs : List RecordDef) (n : ℕ) (left : Option (List ℕ)) → InStands defs n left k nothing [] left × IsCutFor n k

-- what a source tells
pub record Sourced : Type 0 where
  pub left : Option (List ℕ)
  pub faults : ℕ

-- what a read came to: bytes, the end of the source, or a fault
abbrev pub IsOfRead : InTurn → Sourced → Sourced → Type 0
IsOfRead turns.Went s t = (bytes : List ℕ) × Took s.left t.left bytes × (1 ≤ length bytes) × (t.faults ≡ s.faults)
IsOfRead (turns.Ended ends.CutOff) s t = Took s.left t.left [] × IsSpent t.left
IsOfRead (turns.Ended ends.ReadFault) s t = Rose s.faults t.faults
IsOfRead turn s t = ⊥

-- no other caller had a turn
abbrev pub IsFree : InTurn → Type 0
IsFree (turns.Busy first found) = ⊥
IsFree _ = Unit {0}

-- a step that went on: it made one call that was due, judged one line, or took bytes
abbrev pub Progress : Past → List Made → Past → Type 0
Progress p now q = ((x : Made) × (now ≡ x ∷ [])) ⊎ ((now ≡ []) × ((length q.lines ≡ length p.lines + 1) ⊎ (length p.taken < length q.taken)))

pub record InWent (defs : List RecordDef) (n : ℕ) (from : Option (List ℕ)) (k' : InKept) (p : Past) (made : List Made) (l m : Lists) (s t : Sourced) : Type 0 where
  pub past : Past
  pub now : List Made
  pub grew : GrewBy n now l m
  pub stands : InStands defs n from k' past (made ++ now) t.left
  pub progress : Progress p now past
  pub same : t.faults ≡ s.faults

-- the cause of an end, by the lines judged, what follows them, the calls made in this step, and those that were not made
abbrev pub InCause : InEnd → List RecordDef → Side → Past → List ℕ → List Made → List Asked → Lists → Lists → Sourced → Sourced → Type 0
InCause ends.End defs side q rest now later l m s t = AreDone now × (later ≡ []) × (stop_of (mode_of side) defs q.lines ≡ AtEnd (length q.lines)) × (t.faults ≡ s.faults)
InCause ends.CutOff defs side q rest now later l m s t = (now ≡ []) × (later ≡ []) × Cause (texts.CutOff (length q.lines)) (stop_of (mode_of side) defs q.lines) (length q.lines) rest (length q.taken) t.left s.faults t.faults
InCause (ends.Bad bad) defs side q rest now later l m s t = (now ≡ []) × (later ≡ []) × Cause (texts.Bad bad) (stop_of (mode_of side) defs q.lines) (length q.lines) rest (length q.taken) t.left s.faults t.faults
InCause (ends.LineTooLong line) defs side q rest now later l m s t = (now ≡ []) × (later ≡ []) × Cause (texts.LineTooLong line) (stop_of (mode_of side) defs q.lines) (length q.lines) rest (length q.taken) t.left s.faults t.faults
InCause ends.TooMuch defs side q rest now later l m s t = (now ≡ []) × (later ≡ []) × Cause texts.TooMuch (stop_of (mode_of side) defs q.lines) (length q.lines) rest (length q.taken) t.left s.faults t.faults
InCause ends.ReadFault defs side q rest now later l m s t = (now ≡ []) × (later ≡ []) × Cause texts.ReadFault (stop_of (mode_of side) defs q.lines) (length q.lines) rest (length q.taken) t.left s.faults t.faults
InCause (ends.Refused line limit) defs side q rest now later l m s t = (x : Made) × (now ≡ x ∷ []) × TellsLimit limit x × (line ≡ length q.lines)
InCause ends.Spent defs side q rest now later l m s t =
    ((x : Made) × (now ≡ x ∷ []) × TellsSpent x) ⊎ ((a : Asked) × (more : List Asked) × (now ≡ []) × (later ≡ a ∷ more) × IsSpentAt (collector_of a.call) a.stripe l m)
InCause ends.NoMemory defs side q rest now later l m s t = ((now ≡ []) ⊎ ((x : Made) × (now ≡ x ∷ []) × TellsWant x)) × (t.faults ≡ s.faults)

-- a step that ended the engine: the calls made are a prefix of those that the lines ask for, each of them granted, but for the last one
pub record InEnded (defs : List RecordDef) (n : ℕ) (from : Option (List ℕ)) (side : Side) (end : InEnd) (k' : InKept) (made : List Made) (l m : Lists) (s t : Sourced) : Type 0 where
  pub past : Past
  pub rest : List ℕ
  pub now : List Made
  pub later : List Asked
  pub bytes : IsTaken past rest
  pub took : Took from t.left past.taken
  pub grew : GrewBy n now l m
  pub asked : calls defs side n past.lines ≡ map asked_in (made ++ now) ++ later
  pub done : AreDone made
  pub one : (now ≡ []) ⊎ ((x : Made) × (now ≡ x ∷ []))
  pub cause : InCause end defs side past rest now later l m s t
  pub ended : k'.ended ≡ Some end

-- another caller had a turn at the stripe of the call that comes next
pub record InBusy (n : ℕ) (k k' : InKept) (first found : ℕ) (l m : Lists) (s t : Sourced) : Type 0 where
  pub next : Asked
  pub more : List Asked
  pub due : k.due ≡ next ∷ more
  pub grew : GrewBy n [] l m
  pub busy : IsBusyAt (collector_of next.call) next.stripe first found l m
  pub same : k' ≡ k
  pub source : t ≡ s

-- a step of an engine that has not ended
abbrev pub InSteps : List RecordDef → ℕ → Option (List ℕ) → InKept → InTurn → InKept → Past → List Made → Lists → Lists → Sourced → Sourced → Type 0
InSteps defs n from k turns.Went k' p made l m s t = InWent defs n from k' p made l m s t
InSteps defs n from k (turns.Busy first found) k' p made l m s t = InBusy n k k' first found l m s t
InSteps defs n from k (turns.Ended end) k' p made l m s t = InEnded defs n from k.side end k' made l m s t

-- the end of an engine whose text ended so
abbrev pub in_end : TextEnd → InEnd
in_end texts.End = ends.End
in_end (texts.CutOff line) = ends.CutOff
in_end (texts.Bad bad) = ends.Bad bad
in_end (texts.LineTooLong line) = ends.LineTooLong line
in_end texts.TooMuch = ends.TooMuch
in_end texts.ReadFault = ends.ReadFault
in_end texts.NoMemory = ends.NoMemory

-- the end that a step came to
abbrev pub end_in : InTurn → Option InEnd
end_in (turns.Ended end) = Some end
end_in _ = None

-- the engine goes on
abbrev pub IsOpenTurn : InTurn → Type 0
IsOpenTurn (turns.Ended end) = ⊥
IsOpenTurn _ = Unit {0}

abbrev pub with_due : List Asked → InKept → InKept
with_due due k = record { side = k.side; items = k.items; place = k.place; due = due; closing = k.closing; ended = k.ended }

-- the call that comes next was made, with a reply of which this is so
pub record MadeNext (n : ℕ) (due due' : List Asked) (Told : Made → Type 0) (l m : Lists) : Type 0 where
  pub call : Made
  pub due_is : due ≡ asked_in call ∷ due'
  pub grew : GrewBy n (call ∷ []) l m
  pub told : Told call

-- the call that comes next was made, or there was no turn
abbrev pub MakesNext : ℕ → List Asked → List Asked → Bool → ℕ → InTurn → Lists → Lists → Type 0
MakesNext n due due' closing line turns.Went l m = MadeNext n due due' IsDone l m
MakesNext n due due' closing line (turns.Busy first found) l m =
    (a : Asked) × (more : List Asked) × (due ≡ a ∷ more) × (due' ≡ due) × GrewBy n [] l m × IsBusyAt (collector_of a.call) a.stripe first found l m
MakesNext n due due' closing line (turns.Ended ends.End) l m = MadeNext n due due' IsDone l m × (due' ≡ []) × (closing ≡ true)
MakesNext n due due' closing line (turns.Ended (ends.Refused number limit)) l m = MadeNext n due due' (TellsLimit limit) l m × (number ≡ line)
MakesNext n due due' closing line (turns.Ended ends.Spent) l m =
    MadeNext n due due' TellsSpent l m
    ⊎ ((a : Asked) × (due ≡ a ∷ due') × GrewBy n [] l m × IsSpentAt (collector_of a.call) a.stripe l m)
MakesNext n due due' closing line (turns.Ended ends.NoMemory) l m = MadeNext n due due' TellsWant l m
MakesNext n due due' closing line (turns.Ended end) l m = ⊥

-- the text was read on: no call was made
pub record ReadOn (defs : List RecordDef) (n : ℕ) (from : Option (List ℕ)) (k' : InKept) (p : Past) (made : List Made) (s t : Sourced) : Type 0 where
  pub past : Past
  pub stands : InStands defs n from k' past made t.left
  pub further : (length past.lines ≡ length p.lines + 1) ⊎ (length p.taken < length past.taken)
  pub same : t.faults ≡ s.faults

-- the text was read to an end: no call was made
pub record ReadOut (defs : List RecordDef) (n : ℕ) (from : Option (List ℕ)) (side : Side) (end : InEnd) (made : List Made) (s t : Sourced) : Type 0 where
  pub past : Past
  pub rest : List ℕ
  pub later : List Asked
  pub bytes : IsTaken past rest
  pub took : Took from t.left past.taken
  pub asked : calls defs side n past.lines ≡ map asked_in made ++ later
  pub cause : (l : Lists) → InCause end defs side past rest [] later l l s t

abbrev pub ReadsOn : List RecordDef → ℕ → Option (List ℕ) → InKept → InTurn → InKept → Past → List Made → Sourced → Sourced → Type 0
ReadsOn defs n from k turns.Went k' p made s t = ReadOn defs n from k' p made s t
ReadsOn defs n from k (turns.Ended end) k' p made s t = ReadOut defs n from k.side end made s t
ReadsOn defs n from k (turns.Busy first found) k' p made s t = ⊥
