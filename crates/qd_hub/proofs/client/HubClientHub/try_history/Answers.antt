use denote.Param.Send.{sendable}
use Rattle.std.proofs.Common.{ap, ◌∙◌}
use Rattle.std.specs.Prelude.{slice_get}
use Rattle.std.specs.Arc.{arc_value}
use Rattle.qd_hist_rules.specs.Legal.{IsLegal}
use Rattle.qd_history.proofs.Sending.{stripe_send}
use Rattle.qd_hub.specs.Configs.{history_terms}
use Rattle.qd_hub.specs.Clients.{Client, number_at}
use Rattle.qd_hub.proofs.Turning.{turned_passes, turned_numbers, turned_asks, turned_back, turned_others}
use Rattle.qd_hub.proofs.client.HubClientHub.try_history.Goals as goal

pub try_turn-requires-send-M : goal.try_turn-requires-send-M
try_turn-requires-send-M c κs = search (sendable, stripe_send) depth 20

pub invariant_of-self : goal.invariant_of-self
invariant_of-self c = (
  c.self.invariant.0,
  c.self.invariant.1,
  turned_passes IsLegal (arc_value c.self.inside.shared).history c.self.inside.config.stripes (history_terms c.self.inside.config) c.self.inside.history c.try_turn.new.passes c.args.stripe c.args.op c.try_turn.result c.self.invariant.2 c.try_turn.ensures,
)

pub returns-clause-numbers : goal.returns-clause-numbers
returns-clause-numbers c = (
  λ i. turned_numbers IsLegal c.self.inside.history c.try_turn.new.passes c.args.stripe c.args.op c.try_turn.result c.try_turn.ensures i ∙ ap (λ (v : Client). number_at v.history i) c.self.view_is,
  λ i. ap (λ (v : Client). number_at v.ticker i) c.self.view_is,
  λ i. ap (λ (v : Client). number_at v.stream i) c.self.view_is,
)

pub returns-clause-asked : goal.returns-clause-asked
returns-clause-asked c p h =
    turned_asks IsLegal c.self.inside.history c.try_turn.new.passes c.args.stripe c.args.op c.try_turn.result c.try_turn.ensures p (ap (λ (v : Client). slice_get v.history c.args.stripe) c.self.view_is ∙ h)

pub returns-clause-back : goal.returns-clause-back
returns-clause-back c = turned_back IsLegal c.self.inside.history c.try_turn.new.passes c.args.stripe c.args.op c.try_turn.result c.try_turn.ensures

pub returns-clause-others : goal.returns-clause-others
returns-clause-others c = (
  λ i p apart h. turned_others IsLegal c.self.inside.history c.try_turn.new.passes c.args.stripe c.args.op c.try_turn.result c.try_turn.ensures i p apart (ap (λ (v : Client). slice_get v.history i) c.self.view_is ∙ h),
  λ i p h. ap (λ (v : Client). slice_get v.ticker i) c.self.view_is ∙ h,
  λ i p h. ap (λ (v : Client). slice_get v.stream i) c.self.view_is ∙ h,
)
