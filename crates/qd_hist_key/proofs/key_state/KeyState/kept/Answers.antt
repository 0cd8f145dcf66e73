use Rattle.std.proofs.Common.{subst}
use Rattle.std.specs.Prelude.{◌^◌}
use Rattle.qd_entries.specs.Entries.{AllBelow}
use Rattle.qd_hist_key.specs.Kept.{Kept}
use Rattle.qd_hist_key.proofs.Bounds.{entries_low}
use Rattle.qd_hist_key.proofs.key_state.KeyState.kept.Goals as goal

pub returns-clause-low : goal.returns-clause-low
returns-clause-low c = subst (λ (k : Kept). AllBelow (2 ^ 64) k.now.entries) c.self.view_is (entries_low c.self.inside.commits.now c.self.invariant.past c.self.invariant.stands.now c.self.invariant.fits)
