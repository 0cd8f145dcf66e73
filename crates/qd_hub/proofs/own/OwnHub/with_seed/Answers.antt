use denote.Param.Send.{sendable}
use Rattle.std.proofs.Common.{ℕ, List, sym, subst, arith}
use Rattle.qd_ticker.specs.Legal as ticker_log
use Rattle.qd_ticker.specs.Stripes as ticker_stripes
use Rattle.qd_stream.specs.Legal as stream_log
use Rattle.qd_stream.specs.Stripes as stream_stripes
use Rattle.qd_hist_rules.specs.Legal as history_log
use Rattle.qd_hist_stand.specs.Stripes as history_stripes
use Rattle.qd_history.proofs.Sending.{stripe_send}
use Rattle.qd_hub.specs.Configs.{stream_terms, history_terms}
use Rattle.qd_hub.specs.Owns.{IsOwnAt, AllNew}
use Rattle.qd_hub.proofs.Owning.{new_owns, new_row}
use Rattle.qd_hub.proofs.own.OwnHub.with_seed.Goals as goal

pub new-history-requires-send-M : goal.new-history-requires-send-M
new-history-requires-send-M c κs = search (sendable, stripe_send) depth 20

pub invariant_of-result : goal.invariant_of-result
invariant_of-result c =
    let many = c.stripes-stripes.ensures.stripes in
    let ticker = new_row ticker_log.IsLegal ticker_stripes.Stands (λ (s : ticker_stripes.Shown). ticker_log.no_terms) ticker_log.no_terms c.stripes-stripes.result c.args.config.stripes c.in_ok-ticker_states.field-0.items c.new-ticker.result c.new-ticker.ensures many c.in_ok-ticker_states.ensures tt in
    let stream = new_row stream_log.IsLegal stream_stripes.Stands (λ (s : stream_stripes.Shown). stream_log.terms_of s.boxes.cap) (stream_terms c.args.config) c.stripes-stripes.result c.args.config.stripes c.in_ok-stream_states.field-0.items c.new-stream.result c.new-stream.ensures many
    (subst (λ (k : ℕ). AllNew stream_stripes.Stands (λ (s : stream_stripes.Shown). stream_log.terms_of s.boxes.cap) c.stripes-stripes.result (stream_log.terms_of k) c.in_ok-stream_states.field-0.items) c.cap.ensures c.in_ok-stream_states.ensures) tt in
    let history = new_row history_log.IsLegal history_stripes.Stands history_stripes.terms_in (history_terms c.args.config) c.stripes-stripes.result c.args.config.stripes c.in_ok-history_states.field-0.items c.new-history.result c.new-history.ensures many
    (subst (λ (k : ℕ). AllNew history_stripes.Stands history_stripes.terms_in c.stripes-stripes.result (history_log.terms_of k 0) c.in_ok-history_states.field-0.items) c.hcap.ensures c.in_ok-history_states.ensures) tt in
    (ticker.0, stream.0, history.0, stream.1, history.1, ticker.2, stream.2, history.2)

pub returns-clause-ticker : goal.returns-clause-ticker
returns-clause-ticker c i p below first =
    subst (λ (l : List ticker_stripes.Shown). IsOwnAt ticker_log.IsLegal ticker_stripes.Stands ticker_log.no_terms l i p) (sym c.new-ticker.ensures)
    (new_owns ticker_log.IsLegal ticker_stripes.Stands (λ (s : ticker_stripes.Shown). ticker_log.no_terms) ticker_log.no_terms c.stripes-stripes.result c.in_ok-ticker_states.field-0.items c.in_ok-ticker_states.ensures tt i p (let a = c.stripes-stripes.ensures.stripes in omega (arith, below)) first)

pub returns-clause-stream : goal.returns-clause-stream
returns-clause-stream c i p below first =
    subst (λ (l : List stream_stripes.Shown). IsOwnAt stream_log.IsLegal stream_stripes.Stands (stream_terms c.args.config) l i p) (sym c.new-stream.ensures)
    (new_owns stream_log.IsLegal stream_stripes.Stands (λ (s : stream_stripes.Shown). stream_log.terms_of s.boxes.cap) (stream_terms c.args.config) c.stripes-stripes.result c.in_ok-stream_states.field-0.items (subst (λ (k : ℕ). AllNew stream_stripes.Stands (λ (s : stream_stripes.Shown). stream_log.terms_of s.boxes.cap) c.stripes-stripes.result (stream_log.terms_of k) c.in_ok-stream_states.field-0.items) c.cap.ensures c.in_ok-stream_states.ensures) tt i p (let a = c.stripes-stripes.ensures.stripes in omega (arith, below)) first)

pub returns-clause-history : goal.returns-clause-history
returns-clause-history c i p below first =
    subst (λ (l : List history_stripes.Shown). IsOwnAt history_log.IsLegal history_stripes.Stands (history_terms c.args.config) l i p) (sym c.new-history.ensures)
    (new_owns history_log.IsLegal history_stripes.Stands history_stripes.terms_in (history_terms c.args.config) c.stripes-stripes.result c.in_ok-history_states.field-0.items (subst (λ (k : ℕ). AllNew history_stripes.Stands history_stripes.terms_in c.stripes-stripes.result (history_log.terms_of k 0) c.in_ok-history_states.field-0.items) c.hcap.ensures c.in_ok-history_states.ensures) tt i p (let a = c.stripes-stripes.ensures.stripes in omega (arith, below)) first)
