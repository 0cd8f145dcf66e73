use denote.Param.Send.{sendable}
use Rattle.std.proofs.Common.{◌≡◌, sym, ap, ◌∙◌}
use Rattle.std.specs.Arc.{arc_value}
use Rattle.qd_ticker.specs.Legal as ticker_log
use Rattle.qd_stream.specs.Legal as stream_log
use Rattle.qd_hist_rules.specs.Legal as history_log
use Rattle.qd_history.proofs.Sending.{stripe_send}
use Rattle.qd_hub.specs.Configs.{stream_terms, history_terms}
use Rattle.qd_hub.specs.Hubs.{Home}
use Rattle.qd_hub.specs.Clients.{Client}
use Rattle.qd_hub.proofs.Turning.{joined_passes, same_count}
use Rattle.qd_hub.proofs.client.HubClient.join.Goals as goal

pub join-requires-3-send-M : goal.join-requires-3-send-M
join-requires-3-send-M c κs = search (sendable, stripe_send) depth 20

pub invariant_of-self : goal.invariant_of-self
invariant_of-self c =
    let home : (arc_value c.other.inside.shared).ticker ≡ (arc_value c.self.inside.shared).ticker =
    ap (λ (v : Client). v.home.ticker) c.other.view_is ∙ ap (λ (h : Home). h.ticker) c.requires ∙ sym (ap (λ (v : Client). v.home.ticker) c.self.view_is) in
    let many = same_count (arc_value c.self.inside.shared).ticker (arc_value c.other.inside.shared).ticker c.self.inside.config.stripes c.other.inside.config.stripes ticker_log.no_terms ticker_log.no_terms c.self.inside.ticker c.other.inside.ticker c.self.invariant.0 c.other.invariant.0 home in (
      joined_passes ticker_log.IsLegal (arc_value c.self.inside.shared).ticker (arc_value c.other.inside.shared).ticker c.self.inside.config.stripes c.other.inside.config.stripes ticker_log.no_terms ticker_log.no_terms c.self.inside.ticker c.other.inside.ticker c.join.new.passes c.self.invariant.0 c.other.invariant.0 many c.join.ensures,
      joined_passes stream_log.IsLegal (arc_value c.self.inside.shared).stream (arc_value c.other.inside.shared).stream c.self.inside.config.stripes c.other.inside.config.stripes (stream_terms c.self.inside.config) (stream_terms c.other.inside.config) c.self.inside.stream c.other.inside.stream c.join-2.new.passes c.self.invariant.1 c.other.invariant.1 many c.join-2.ensures,
      joined_passes history_log.IsLegal (arc_value c.self.inside.shared).history (arc_value c.other.inside.shared).history c.self.inside.config.stripes c.other.inside.config.stripes (history_terms c.self.inside.config) (history_terms c.other.inside.config) c.self.inside.history c.other.inside.history c.join-3.new.passes c.self.invariant.2 c.other.invariant.2 many c.join-3.ensures,
    )
