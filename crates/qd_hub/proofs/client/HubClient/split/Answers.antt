use denote.Param.Send.{sendable}
use Rattle.std.proofs.Common.{sym, subst}
use Rattle.std.specs.Arc.{arc_value}
use Rattle.qd_ticker.specs.Legal.{no_terms}
use Rattle.qd_history.proofs.Sending.{stripe_send}
use Rattle.qd_hub.specs.declared.client.Shared.{Shared}
use Rattle.qd_hub.specs.Configs.{stream_terms, history_terms}
use Rattle.qd_hub.specs.Clients.{ArePasses}
use Rattle.qd_hub.proofs.Turning.{children_passes}
use Rattle.qd_hub.proofs.client.HubClient.split.Goals as goal

pub split-requires-3-send-M : goal.split-requires-3-send-M
split-requires-3-send-M c κs = search (sendable, stripe_send) depth 20

pub invariant_of-result : goal.invariant_of-result
invariant_of-result c =
    let n = c.self.inside.config.stripes in
    let same = c.in_ok-shared.ensures in (
      subst (λ (s : Shared). ArePasses s.ticker n no_terms c.in_ok-ticker.ticker) (sym same) (children_passes (arc_value c.self.inside.shared).ticker n no_terms c.self.inside.ticker c.in_ok-ticker.ticker c.self.invariant.0 c.in_ok-ticker.ensures.fresh),
      subst (λ (s : Shared). ArePasses s.stream n (stream_terms c.self.inside.config) c.in_ok-stream.stream) (sym same)
          (children_passes (arc_value c.self.inside.shared).stream n (stream_terms c.self.inside.config) c.self.inside.stream c.in_ok-stream.stream c.self.invariant.1 c.in_ok-stream.ensures.fresh),
      subst (λ (s : Shared). ArePasses s.history n (history_terms c.self.inside.config) c.in_ok-history.history) (sym same)
          (children_passes (arc_value c.self.inside.shared).history n (history_terms c.self.inside.config) c.self.inside.history c.in_ok-history.history c.self.invariant.2 c.in_ok-history.ensures.fresh),
    )
