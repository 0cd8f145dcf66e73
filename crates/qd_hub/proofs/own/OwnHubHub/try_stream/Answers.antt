use Rattle.std.proofs.Common.{sym, subst}
use Rattle.qd_stream.specs.Legal.{terms_of, IsLegal}
use Rattle.qd_stream.specs.Stripes.{Shown, Stands}
use Rattle.qd_hub.specs.Configs.{stream_terms}
use Rattle.qd_hub.specs.Owns.{Own, ticker_at, stream_at, history_at}
use Rattle.qd_hub.proofs.Owning.{stepped_count, stepped_terms, stepped_has, stepped_asks, stepped_others}
use Rattle.qd_hub.proofs.own.OwnHubHub.try_stream.Goals as goal

pub invariant_of-self : goal.invariant_of-self
invariant_of-self c = (
  c.self.invariant.0,
  stepped_count (λ (s : Shown). terms_of s.boxes.cap) Stands IsLegal c.self.inside.config.stripes c.self.inside.stream c.step.new.self c.args.stripe c.args.op c.step.result c.step.ensures c.self.invariant.1,
  c.self.invariant.2,
  stepped_terms (λ (s : Shown). terms_of s.boxes.cap) Stands IsLegal (stream_terms c.self.inside.config) c.self.inside.stream c.step.new.self c.args.stripe c.args.op c.step.result c.step.ensures c.self.invariant.3,
  c.self.invariant.4,
  c.self.invariant.5,
  stepped_has (λ (s : Shown). terms_of s.boxes.cap) Stands IsLegal (stream_terms c.self.inside.config) c.self.inside.stream c.step.new.self c.args.stripe c.args.op c.step.result c.step.ensures c.self.invariant.3 c.self.invariant.6,
  c.self.invariant.7,
)

pub returns-clause-asked : goal.returns-clause-asked
returns-clause-asked c p own =
    stepped_asks (λ (s : Shown). terms_of s.boxes.cap) Stands IsLegal (stream_terms c.self.inside.config) c.self.inside.stream c.step.new.self c.args.stripe c.args.op c.step.result c.step.ensures c.self.invariant.3 p (subst (λ (h : Own). stream_at h c.args.stripe p) (sym c.self.view_is) own)

pub returns-clause-others : goal.returns-clause-others
returns-clause-others c = (
  λ i p apart own. stepped_others (λ (s : Shown). terms_of s.boxes.cap) Stands IsLegal (stream_terms c.self.inside.config) c.self.inside.stream c.step.new.self c.args.stripe c.args.op c.step.result c.step.ensures i p apart (subst (λ (h : Own). stream_at h i p) (sym c.self.view_is) own),
  λ i p own. subst (λ (h : Own). ticker_at h i p) (sym c.self.view_is) own,
  λ i p own. subst (λ (h : Own). history_at h i p) (sym c.self.view_is) own,
)
