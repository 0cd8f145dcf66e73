-- From which causes the program ends with a status, and what stands at status 0.
use Rattle.std.specs.Prelude.{ℕ, ◌≡◌, ◌⊎◌, List, ◌∷◌, [], ◌++◌, Some}
use Rattle.qd_net.specs.Meeting.{NetState, one_more}
use Rattle.qd_outside.specs.Causes.{Rose}
use Rattle.qds_net.specs.Worlds.{World}

-- the cause of a fault: a read of the files or of standard input for 3, a write of them or to standard output for 4, a call on the net or on a connection for 6
pub record HasCause (status : ℕ) (o w : World) : Type 0 where
  pub read : status ≡ 3 → Rose o.files.read_faults w.files.read_faults ⊎ Rose o.reads w.reads
  pub write : status ≡ 4 → Rose o.files.write_faults w.files.write_faults ⊎ Rose o.writes w.writes
  pub net : status ≡ 6 → Rose o.net.faults w.net.faults ⊎ Rose o.net.hang_up_faults w.net.hang_up_faults

-- at status 0 one connection was given, and hung up; where that is told, what was sent over it stands behind the lists before it
pub record IsServed (net later : NetState) : Type 0 where
  pub opened : later.opened ≡ one_more net.opened
  pub ended : (lists : List (List ℕ)) → net.ended ≡ Some lists → (text : List ℕ) × (later.ended ≡ Some (lists ++ text ∷ []))
