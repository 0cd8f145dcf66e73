-- What starting a job does.
use Rattle.std.specs.Prelude.{ℕ, ◌+◌, ◌-◌, ◌^◌, ◌≤◌, ◌≡◌, Bool, true, false, min, not, slice_get, unwrap_or}
use Rattle.qd_outside.specs.Causes.{Rose}
use Rattle.qd_job.specs.declared.list_spawner.ListSpawner.{ListSpawner}

-- what a spawner tells: how many jobs were started, and how many starts failed
pub record SpawnerState : Type 0 where
  pub started : ℕ
  pub faults : ℕ

-- a spawner of which nothing was asked
abbrev pub nothing_started : SpawnerState
nothing_started = record { started = 0; faults = 0 }

-- a job was started
pub record Starts (before after : SpawnerState) : Type 0 where
  pub started : after.started ≡ min (before.started + 1) (2 ^ 64 - 1)
  pub sound : after.faults ≡ before.faults

-- no job was started, and a fault was counted
pub record Fails (before after : SpawnerState) : Type 0 where
  pub same : after.started ≡ before.started
  pub rose : Rose before.faults after.faults
  pub later : before.faults ≤ after.faults

-- a start is counted, or one that failed
abbrev pub Notes : Bool → SpawnerState → SpawnerState → Type 0
Notes true before after = Starts before after
Notes false before after = Fails before after

-- whether the next start may go on: it may not where the list has true at its number
abbrev pub admits_next : ListSpawner → Bool
admits_next threads = not (unwrap_or (slice_get threads.fails.items threads.asked) false)
