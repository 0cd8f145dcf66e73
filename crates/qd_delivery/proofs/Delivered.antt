-- A link whose bytes come delivers every key.
use Rattle.std.proofs.Common.{◌≡◌, ℕ, List, [], ◌++◌, sym, ap, ◌∙◌}
use Rattle.qd_scheme.specs.declared.key.Key.{Key}
use Rattle.qd_stream.specs.Items.{key_of_item}
use Rattle.qd_ticker.specs.Legal as ticker
use Rattle.qd_stream.specs.Legal as stream
use Rattle.qd_views.specs.Views.{puts, given}
use Rattle.qd_passing.proofs.Passes.{records_pass, items_pass, events_pass}
use Rattle.qd_delivery.specs.Delivery.{log_puts, log_gives, TickerDelivers, StreamDelivers, HistoryDelivers}
use Rattle.qd_delivery.proofs.HistoryParts.{history-log-puts, history-log-gives}
use Rattle.qd_delivery.proofs.LogParts.{log-puts, log-gives}

ticker-puts : (k : Key) (log : List ticker.TickerEntry) → puts k (ticker.moment_of log) ≡ log_puts (λ r. r.key) k log
unfolding ticker.moment_of
ticker-puts k log = log-puts ticker.record_key ticker.record_key k log []

ticker-gives : (a : ℕ) (k : Key) (log : List ticker.TickerEntry) → given a k (ticker.moment_of log) ≡ log_gives (λ r. r.key) a k log
unfolding ticker.moment_of
ticker-gives a k log = log-gives ticker.record_key ticker.record_key a k log []

stream-puts : (k : Key) (log : List stream.StreamEntry) → puts k (stream.moment_of log) ≡ log_puts key_of_item k log
unfolding stream.moment_of
stream-puts k log = log-puts key_of_item key_of_item k log []

stream-gives : (a : ℕ) (k : Key) (log : List stream.StreamEntry) → given a k (stream.moment_of log) ≡ log_gives key_of_item a k log
unfolding stream.moment_of
stream-gives a k log = log-gives key_of_item key_of_item a k log []

pub ticker_delivers : TickerDelivers
ticker_delivers defs watcher n a made bytes late asked k above below some scheme p whole ask low up =
    let r = records_pass defs watcher n made bytes late asked k some scheme p whole ask in
    record { in_flight = r.0; first_ones = ap (λ xs. xs ++ r.0) (ticker-puts k below ∙ low) ∙ r.1 ∙ sym (ticker-gives a k above ∙ up) }

pub stream_delivers : StreamDelivers
stream_delivers defs watcher n a made bytes late asked k above below some scheme p whole ask low up =
    let r = items_pass defs watcher n made bytes late asked k some scheme p whole ask in
    record { in_flight = r.0; first_ones = ap (λ xs. xs ++ r.0) (stream-puts k below ∙ low) ∙ r.1 ∙ sym (stream-gives a k above ∙ up) }

pub history_delivers : HistoryDelivers
history_delivers defs watcher n a made bytes late asked k above below some scheme p whole ask low up =
    let r = events_pass defs watcher n made bytes late asked k some scheme p whole ask in
    record { in_flight = r.0; first_ones = ap (λ xs. xs ++ r.0) (history-log-puts k below ∙ low) ∙ r.1 ∙ sym (history-log-gives a k above ∙ up) }
