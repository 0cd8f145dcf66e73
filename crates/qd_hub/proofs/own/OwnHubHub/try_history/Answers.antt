use denote.Param.Send.{sendable}
use Rattle.std.proofs.Common.{sym, subst}
use Rattle.qd_hist_rules.specs.Legal.{IsLegal}
use Rattle.qd_history.proofs.Sending.{stripe_send}
use Rattle.qd_hist_stand.specs.Stripes.{Stands, terms_in}
use Rattle.qd_hub.specs.Configs.{history_terms}
use Rattle.qd_hub.specs.Owns.{Own, ticker_at, stream_at, history_at}
use Rattle.qd_hub.proofs.Owning.{stepped_count, stepped_terms, stepped_has, stepped_asks, stepped_others}
use Rattle.qd_hub.proofs.own.OwnHubHub.try_history.Goals as goal

pub step-requires-send-M : goal.step-requires-send-M
step-requires-send-M c κs = search (sendable, stripe_send) depth 20

pub invariant_of-self : goal.invariant_of-self
invariant_of-self c = (
  c.self.invariant.0,
  c.self.invariant.1,
  stepped_count terms_in Stands IsLegal c.self.inside.config.stripes c.self.inside.history c.step.new.self c.args.stripe c.args.op c.step.result c.step.ensures c.self.invariant.2,
  c.self.invariant.3,
  stepped_terms terms_in Stands IsLegal (history_terms c.self.inside.config) c.self.inside.history c.step.new.self c.args.stripe c.args.op c.step.result c.step.ensures c.self.invariant.4,
  c.self.invariant.5,
  c.self.invariant.6,
  stepped_has terms_in Stands IsLegal (history_terms c.self.inside.config) c.self.inside.history c.step.new.self c.args.stripe c.args.op c.step.result c.step.ensures c.self.invariant.4 c.self.invariant.7,
)

pub returns-clause-asked : goal.returns-clause-asked
returns-clause-asked c p own =
    stepped_asks terms_in Stands IsLegal (history_terms c.self.inside.config) c.self.inside.history c.step.new.self c.args.stripe c.args.op c.step.result c.step.ensures c.self.invariant.4 p (subst (λ (h : Own). history_at h c.args.stripe p) (sym c.self.view_is) own)

pub returns-clause-others : goal.returns-clause-others
returns-clause-others c = (
  λ i p apart own. stepped_others terms_in Stands IsLegal (history_terms c.self.inside.config) c.self.inside.history c.step.new.self c.args.stripe c.args.op c.step.result c.step.ensures i p apart (subst (λ (h : Own). history_at h i p) (sym c.self.view_is) own),
  λ i p own. subst (λ (h : Own). ticker_at h i p) (sym c.self.view_is) own,
  λ i p own. subst (λ (h : Own). stream_at h i p) (sym c.self.view_is) own,
)
