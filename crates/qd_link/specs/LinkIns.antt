-- What the reading half of a link does, from its beginning to its end.
use Rattle.std.specs.Prelude.{ℕ, ◌≡◌, ◌⊎◌, Option, Some, None, List, [], ◌∷◌, ◌++◌, map}
use Rattle.qd_items.specs.Standing.{Past, IsTaken}
use Rattle.qd_outside.specs.Reading.{Took}
use Rattle.qd_scheme.specs.declared.defs.RecordDef.{RecordDef}
use Rattle.qd_path.specs.declared.call.Asked.{Asked}
use Rattle.qd_path.specs.declared.side.Side.{Side}
use Rattle.qd_path.specs.declared.side.Side.TheVariants.{Down, Up}
use Rattle.qd_path.specs.Calls.{calls}
use Rattle.qd_path.specs.Lists.{Lists, GrewBy}
use Rattle.qd_path.specs.Made.{Made, asked_in, AreDone}
use Rattle.qd_session.specs.declared.ends.InEnd.{InEnd}
use Rattle.qd_session.specs.Ins.{InKept, InStands, InCause, Sourced}
use Rattle.qd_link.specs.Closing.{AreClosed}

-- a link is being read: its engine stands for bytes, and the lists grew by just the calls that these ask for and that are not due
pub record IsReading (defs : List RecordDef) (n : ℕ) (k : InKept) (l m : Lists) (s t : Sourced) : Type 0 where
  pub past : Past
  pub made : List Made
  pub stands : InStands defs n s.left k past made t.left
  pub grew : GrewBy n made l m
  pub same : t.faults ≡ s.faults

-- a link was read to its end: a first part of the calls that its bytes ask for was made, in order, and each was granted; then one more
-- call at most; the lists grew by just these; and the end has its cause
pub record IsReadOut (defs : List RecordDef) (n : ℕ) (side : Side) (end : InEnd) (l m : Lists) (s t : Sourced) : Type 0 where
  pub past : Past
  pub rest : List ℕ
  pub made : List Made
  pub now : List Made
  pub later : List Asked
  pub between : Lists
  pub bytes : IsTaken past rest
  pub took : Took s.left t.left past.taken
  pub asked : calls defs side n past.lines ≡ map asked_in (made ++ now) ++ later
  pub done : AreDone made
  pub one : (now ≡ []) ⊎ ((x : Made) × (now ≡ x ∷ []))
  pub grew : GrewBy n made l between
  pub last : GrewBy n now between m
  pub cause : InCause end defs side past rest now later between m s t

-- a step of a link: it goes on, or it was read to its end
abbrev pub ReadsOn : List RecordDef → ℕ → Side → Option InEnd → InKept → Lists → Lists → Sourced → Sourced → Type 0
ReadsOn defs n side None k l m s t = IsReading defs n k l m s t
ReadsOn defs n side (Some end) k l m s t = IsReadOut defs n side end l m s t

-- the agent of a peer below is closed; for a peer above no call is made
abbrev pub IsLeft : ℕ → Side → Lists → Lists → Type 0
IsLeft n (Down agent) l m = AreClosed n agent l m
IsLeft n (Up watcher) l m = m ≡ l

-- the reading half of a link: its bytes were read to an end, and then its agent was closed; the lists grew by just the calls of both
pub record LinkedIn (defs : List RecordDef) (n : ℕ) (side : Side) (end : InEnd) (l m : Lists) (s t : Sourced) : Type 0 where
  pub behind : Lists
  pub read : IsReadOut defs n side end l behind s t
  pub left : IsLeft n side behind m
