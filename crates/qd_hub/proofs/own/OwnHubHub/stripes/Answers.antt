use Rattle.std.proofs.Common.{subst}
use Rattle.qd_ticker.specs.Legal as ticker_log
use Rattle.qd_ticker.specs.Stripes as ticker_stripes
use Rattle.qd_stream.specs.Legal as stream_log
use Rattle.qd_stream.specs.Stripes as stream_stripes
use Rattle.qd_hist_rules.specs.Legal as history_log
use Rattle.qd_hist_stand.specs.Stripes as history_stripes
use Rattle.qd_hub.specs.Configs.{stream_terms, history_terms}
use Rattle.qd_hub.specs.Hubs.{HasLists}
use Rattle.qd_hub.specs.Owns.{Own, ticker_at, stream_at, history_at}
use Rattle.qd_hub.proofs.Owning.{owns_are, owns_own, owns_there}
use Rattle.qd_hub.proofs.own.OwnHubHub.stripes.Goals as goal

pub returns-clause-lists : goal.returns-clause-lists
returns-clause-lists c = (
  subst (λ (h : Own). HasLists h.sizes.stripes (ticker_at h)) c.self.view_is (owns_there ticker_log.IsLegal ticker_stripes.Stands ticker_log.no_terms c.self.inside.config.stripes c.self.inside.ticker c.self.invariant.0 c.self.invariant.5),
  subst (λ (h : Own). HasLists h.sizes.stripes (stream_at h)) c.self.view_is (owns_there stream_log.IsLegal stream_stripes.Stands (stream_terms c.self.inside.config) c.self.inside.config.stripes c.self.inside.stream c.self.invariant.1 c.self.invariant.6),
  subst (λ (h : Own). HasLists h.sizes.stripes (history_at h)) c.self.view_is (owns_there history_log.IsLegal history_stripes.Stands (history_terms c.self.inside.config) c.self.inside.config.stripes c.self.inside.history c.self.invariant.2 c.self.invariant.7),
)

pub returns-clause-ticker : goal.returns-clause-ticker
returns-clause-ticker c = owns_are ticker_log.IsLegal ticker_stripes.Stands ticker_log.no_terms c.args.self.now.ticker

pub returns-clause-stream : goal.returns-clause-stream
returns-clause-stream c = owns_are stream_log.IsLegal stream_stripes.Stands (stream_terms c.args.self.now.sizes) c.args.self.now.stream

pub returns-clause-history : goal.returns-clause-history
returns-clause-history c = owns_are history_log.IsLegal history_stripes.Stands (history_terms c.args.self.now.sizes) c.args.self.now.history

pub returns-clause-own : goal.returns-clause-own
returns-clause-own c alone = (
  owns_own ticker_log.IsLegal ticker_stripes.Stands ticker_log.no_terms c.args.self.now.ticker,
  owns_own stream_log.IsLegal stream_stripes.Stands (stream_terms c.args.self.now.sizes) c.args.self.now.stream,
  owns_own history_log.IsLegal history_stripes.Stands (history_terms c.args.self.now.sizes) c.args.self.now.history,
)
