-- What the calls on a bell tell.
use Rattle.std.specs.Prelude.{ℕ, ◌+◌, ◌-◌, ◌^◌, ◌≤◌, ◌≡◌, min, slice_get, unwrap_or}
use Rattle.qd_outside.specs.Causes.{Rose}
use Rattle.qd_bell.specs.declared.bell.Rung.{Rung}
use Rattle.qd_bell.specs.declared.bell.Rung.TheVariants.{Ring, Shut}
use Rattle.qd_bell.specs.declared.list_bell.ListBell.{ListBell}

-- the count rose: it is greater, or stands at its end
pub record Rises (before now : ℕ) : Type 0 where
  pub rose : Rose before now
  pub later : before ≤ now

-- a count after one more
abbrev pub one_more : ℕ → ℕ
one_more n = min (n + 1) (2 ^ 64 - 1)

-- a wait that answers Shut has seen one more shut, and one that answers Ring none
abbrev pub WaitTells : Rung → ℕ → ℕ → Type 0
WaitTells Ring before now = now ≡ before
WaitTells Shut before now = Rises before now

-- what the next wait on a bell in memory answers: what its list has at the number of the wait, and Shut past its end
abbrev pub next_rung : ListBell → Rung
next_rung bell = unwrap_or (slice_get bell.rungs.items bell.waits) Shut
