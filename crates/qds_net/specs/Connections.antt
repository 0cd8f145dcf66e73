-- A connection that is dialled, used and hung up.
use Rattle.std.specs.Prelude.{ℕ, ◌≡◌, List, ◌∷◌, [], ◌++◌, Option, Some}
use Rattle.qd_items.specs.declared.ends.RunEnd.TheVariants as runs
use Rattle.qd_net.specs.Meeting.{NetState, Connects, FailsAt, HangsUp, IsUnwritten}
use Rattle.qd_net.specs.Meeting.Asking.{Dial}
use Rattle.qds_tools.specs.declared.program_end.ProgramEnd.{ProgramEnd}
use Rattle.qds_tools.specs.declared.program_end.ProgramEnd.TheVariants.{Ran, NetFault}

-- no connection came about: the dial failed, or there was no memory for its halves
abbrev pub IsUnconnected : List ℕ → ProgramEnd → NetState → NetState → Type 0
IsUnconnected addr NetFault net later = FailsAt (Dial addr) net later
IsUnconnected addr (Ran runs.NoMemory) net later = (list : Option (List ℕ)) × Connects (Dial addr) list net later
IsUnconnected addr end net later = ⊥

-- a connection was dialled, and hung up behind its use: what its peer sends, what was written to it before and behind the use, and the faults of its halves
pub record IsConnection (addr : List ℕ) (list was sent : Option (List ℕ)) (reads sends : ℕ) (net later : NetState) : Type 0 where
  pub dialled : NetState
  pub connects : Connects (Dial addr) list net dialled
  pub unwritten : IsUnwritten list was
  pub hung_up : HangsUp reads sends sent dialled later

-- this text was sent over one connection, as the net tells
abbrev pub IsSentOnce : List ℕ → NetState → NetState → Type 0
IsSentOnce text net later = (lists : List (List ℕ)) → net.ended ≡ Some lists → later.ended ≡ Some (lists ++ text ∷ [])
