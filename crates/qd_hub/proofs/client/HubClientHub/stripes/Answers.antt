use denote.Param.Send.{sendable}
use Rattle.std.proofs.Common.{ℕ, subst}
use Rattle.std.specs.Arc.{arc_value}
use Rattle.qd_ticker.specs.Legal as ticker_log
use Rattle.qd_stream.specs.Legal as stream_log
use Rattle.qd_hist_rules.specs.Legal as history_log
use Rattle.qd_history.proofs.Sending.{stripe_send}
use Rattle.qd_hub.specs.Configs.{stream_terms, history_terms}
use Rattle.qd_hub.specs.Hubs.{HasLists, AreOf}
use Rattle.qd_hub.specs.Clients.{Client, number_at, IsPassAt}
use Rattle.qd_hub.proofs.Turning.{passes_are, passes_there}
use Rattle.qd_hub.proofs.client.HubClientHub.stripes.Goals as goal

pub look-requires-3-send-M : goal.look-requires-3-send-M
look-requires-3-send-M c κs = search (sendable, stripe_send) depth 20

pub returns-clause-lists : goal.returns-clause-lists
returns-clause-lists c = (
  subst (λ (v : Client). HasLists v.sizes.stripes (IsPassAt v.ticker)) c.self.view_is (passes_there (arc_value c.self.inside.shared).ticker c.self.inside.config.stripes ticker_log.no_terms c.self.inside.ticker c.self.invariant.0),
  subst (λ (v : Client). HasLists v.sizes.stripes (IsPassAt v.stream)) c.self.view_is (passes_there (arc_value c.self.inside.shared).stream c.self.inside.config.stripes (stream_terms c.self.inside.config) c.self.inside.stream c.self.invariant.1),
  subst (λ (v : Client). HasLists v.sizes.stripes (IsPassAt v.history)) c.self.view_is (passes_there (arc_value c.self.inside.shared).history c.self.inside.config.stripes (history_terms c.self.inside.config) c.self.inside.history c.self.invariant.2),
)

pub returns-clause-ticker : goal.returns-clause-ticker
returns-clause-ticker c =
    subst (λ (v : Client). AreOf ticker_log.IsLegal (λ (i : ℕ). ticker_log.no_terms) (number_at v.ticker) (IsPassAt v.ticker)) c.self.view_is
    (passes_are (arc_value c.self.inside.shared).ticker c.self.inside.config.stripes ticker_log.no_terms c.self.inside.ticker ticker_log.IsLegal c.self.invariant.0 c.look.ensures)

pub returns-clause-stream : goal.returns-clause-stream
returns-clause-stream c =
    subst (λ (v : Client). AreOf stream_log.IsLegal (λ (i : ℕ). stream_terms v.sizes) (number_at v.stream) (IsPassAt v.stream)) c.self.view_is
    (passes_are (arc_value c.self.inside.shared).stream c.self.inside.config.stripes (stream_terms c.self.inside.config) c.self.inside.stream stream_log.IsLegal c.self.invariant.1 c.look-2.ensures)

pub returns-clause-history : goal.returns-clause-history
returns-clause-history c =
    subst (λ (v : Client). AreOf history_log.IsLegal (λ (i : ℕ). history_terms v.sizes) (number_at v.history) (IsPassAt v.history)) c.self.view_is
    (passes_are (arc_value c.self.inside.shared).history c.self.inside.config.stripes (history_terms c.self.inside.config) c.self.inside.history history_log.IsLegal c.self.invariant.2 c.look-3.ensures)

pub returns-clause-own : goal.returns-clause-own
returns-clause-own c alone = absurd alone
