use Rattle.std.proofs.Common.{refl, sym, subst}
use Rattle.qd_ticker.specs.Legal.{no_terms, IsLegal}
use Rattle.qd_ticker.specs.Stripes.{Shown, Stands}
use Rattle.qd_hub.specs.Owns.{Own, ticker_at, stream_at, history_at}
use Rattle.qd_hub.proofs.Owning.{stepped_count, stepped_has, stepped_asks, stepped_others}
use Rattle.qd_hub.proofs.own.OwnHubHub.try_ticker.Goals as goal

pub invariant_of-self : goal.invariant_of-self
invariant_of-self c = (
  stepped_count (λ (s : Shown). no_terms) Stands IsLegal c.self.inside.config.stripes c.self.inside.ticker c.step.new.self c.args.stripe c.args.op c.step.result c.step.ensures c.self.invariant.0,
  c.self.invariant.1,
  c.self.invariant.2,
  c.self.invariant.3,
  c.self.invariant.4,
  stepped_has (λ (s : Shown). no_terms) Stands IsLegal no_terms c.self.inside.ticker c.step.new.self c.args.stripe c.args.op c.step.result c.step.ensures (λ i d h. refl) c.self.invariant.5,
  c.self.invariant.6,
  c.self.invariant.7,
)

pub returns-clause-asked : goal.returns-clause-asked
returns-clause-asked c p own =
    stepped_asks (λ (s : Shown). no_terms) Stands IsLegal no_terms c.self.inside.ticker c.step.new.self c.args.stripe c.args.op c.step.result c.step.ensures (λ i d h. refl) p (subst (λ (h : Own). ticker_at h c.args.stripe p) (sym c.self.view_is) own)

pub returns-clause-others : goal.returns-clause-others
returns-clause-others c = (
  λ i p apart own. stepped_others (λ (s : Shown). no_terms) Stands IsLegal no_terms c.self.inside.ticker c.step.new.self c.args.stripe c.args.op c.step.result c.step.ensures i p apart (subst (λ (h : Own). ticker_at h i p) (sym c.self.view_is) own),
  λ i p own. subst (λ (h : Own). stream_at h i p) (sym c.self.view_is) own,
  λ i p own. subst (λ (h : Own). history_at h i p) (sym c.self.view_is) own,
)
