use Rattle.std.proofs.Common.{ℕ, sym, subst, Option}
use Rattle.qd_hist_key.specs.Kept.{Kept}
use Rattle.qd_hist_key.specs.Keeping.{FewCells}
use Rattle.qd_hist_key.proofs.Bounds.{few_cells}
use Rattle.qd_hist_key.proofs.key_state.KeyState.width.Goals as goal

pub returns-clause-few : goal.returns-clause-few
returns-clause-few c = subst (λ (k : Kept). FewCells k.width) c.self.view_is (subst (λ (w : Option ℕ). FewCells w) (sym c.self.invariant.stands.width_is) (few_cells c.self.invariant.past c.self.invariant.fits))
