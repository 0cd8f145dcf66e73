use Rattle.std.proofs.Common.{ap, ◌∙◌}
use Rattle.std.specs.Prelude.{slice_get}
use Rattle.std.specs.Arc.{arc_value}
use Rattle.qd_stream.specs.Legal.{IsLegal}
use Rattle.qd_hub.specs.Configs.{stream_terms}
use Rattle.qd_hub.specs.Clients.{Client, number_at}
use Rattle.qd_hub.proofs.Turning.{turned_passes, turned_numbers, turned_asks, turned_back, turned_others}
use Rattle.qd_hub.proofs.client.HubClientHub.try_stream.Goals as goal

pub invariant_of-self : goal.invariant_of-self
invariant_of-self c = (
  c.self.invariant.0,
  turned_passes IsLegal (arc_value c.self.inside.shared).stream c.self.inside.config.stripes (stream_terms c.self.inside.config) c.self.inside.stream c.try_turn.new.passes c.args.stripe c.args.op c.try_turn.result c.self.invariant.1 c.try_turn.ensures,
  c.self.invariant.2,
)

pub returns-clause-numbers : goal.returns-clause-numbers
returns-clause-numbers c = (
  λ i. turned_numbers IsLegal c.self.inside.stream c.try_turn.new.passes c.args.stripe c.args.op c.try_turn.result c.try_turn.ensures i ∙ ap (λ (v : Client). number_at v.stream i) c.self.view_is,
  λ i. ap (λ (v : Client). number_at v.ticker i) c.self.view_is,
  λ i. ap (λ (v : Client). number_at v.history i) c.self.view_is,
)

pub returns-clause-asked : goal.returns-clause-asked
returns-clause-asked c p h =
    turned_asks IsLegal c.self.inside.stream c.try_turn.new.passes c.args.stripe c.args.op c.try_turn.result c.try_turn.ensures p (ap (λ (v : Client). slice_get v.stream c.args.stripe) c.self.view_is ∙ h)

pub returns-clause-back : goal.returns-clause-back
returns-clause-back c = turned_back IsLegal c.self.inside.stream c.try_turn.new.passes c.args.stripe c.args.op c.try_turn.result c.try_turn.ensures

pub returns-clause-others : goal.returns-clause-others
returns-clause-others c = (
  λ i p apart h. turned_others IsLegal c.self.inside.stream c.try_turn.new.passes c.args.stripe c.args.op c.try_turn.result c.try_turn.ensures i p apart (ap (λ (v : Client). slice_get v.stream i) c.self.view_is ∙ h),
  λ i p h. ap (λ (v : Client). slice_get v.ticker i) c.self.view_is ∙ h,
  λ i p h. ap (λ (v : Client). slice_get v.history i) c.self.view_is ∙ h,
)
