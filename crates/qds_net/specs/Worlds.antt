-- What is told outside of what the program is handed.
use Rattle.std.specs.Prelude.{ℕ, Bool, List, Option}
use Rattle.qd_job.specs.Starting.{SpawnerState}
use Rattle.qd_net.specs.Meeting.{NetState}
use Rattle.qd_outside.specs.Causes.{Rose}
use Rattle.qd_outside.specs.Opening.{FilesState}

-- what is told by the files, of the net, of what starts jobs, by the clock, of standard input and of standard output
pub record World : Type 0 where
  pub files : FilesState
  pub net : NetState
  pub jobs : SpawnerState
  pub moments : Option (List ℕ)
  pub left : Option (List ℕ)
  pub reads : ℕ
  pub written : Option (List ℕ)
  pub flushed : Bool
  pub writes : ℕ

-- no fault was counted
pub record NoFault (o w : World) : Type 0 where
  pub files : Rose o.files.read_faults w.files.read_faults → ⊥
  pub tapes : Rose o.files.write_faults w.files.write_faults → ⊥
  pub dials : Rose o.net.faults w.net.faults → ⊥
  pub hung_up : Rose o.net.hang_up_faults w.net.hang_up_faults → ⊥
  pub reads : Rose o.reads w.reads → ⊥
  pub writes : Rose o.writes w.writes → ⊥
