-- After the end of a snapshot what was given, and then what is owed, make the map of the last commit.
use Rattle.std.specs.Prelude.{◌≡◌, ℕ, true}
use Rattle.qd_scheme.specs.declared.key.Key.{Key}
use Rattle.qd_gate.specs.declared.machine.Terms.{Terms}
use Rattle.qd_hist_rules.specs.Moments.{HistMoment}
use Rattle.qd_hist_rules.specs.Standing.{is_ended}
use Rattle.qd_hist_rules.specs.Lawful.{Lawful}
use Rattle.qd_hist_rules.specs.Laws.{MakesLast}
use Rattle.qd_hist_rules.proofs.EndedFit.{ended_fit}

pub owed_makes_last : (t : Terms) (m : HistMoment) → Lawful t m → (a : ℕ) (k : Key) → is_ended t a k m ≡ true → MakesLast t a k m
owed_makes_last t m w a k h =
    let g = ended_fit t a k m w h in
    record { floor = g.floor; commit_c = g.last_c; floor_is = g.floor_is; last_is = g.last_is; map_is = g.run_is }
