-- A link whose bytes come delivers every key.
use Rattle.std.specs.Prelude.{ℕ, ◌≡◌, ◌<◌, nat_eq, if◌then◌else◌, List, [], ◌∷◌, ◌++◌, map}
use Rattle.qd_scheme.specs.declared.defs.RecordDef.{RecordDef}
use Rattle.qd_scheme.specs.declared.key.Event.{Event}
use Rattle.qd_scheme.specs.declared.key.Key.{Key}
use Rattle.qd_scheme.specs.Schemes.{IsScheme}
use Rattle.qd_gate.specs.declared.machine.Entry.{Entry}
use Rattle.qd_sub.specs.declared.op.Op.{Op}
use Rattle.qd_sub.specs.declared.op.Op.TheVariants.{Put, Take}
use Rattle.qd_sub.specs.declared.op.Reply.{Reply}
use Rattle.qd_sub.specs.declared.op.Reply.TheVariants as replies
use Rattle.qd_sub.specs.Acts.{Moment}
use Rattle.qd_ticker.specs.Legal as ticker
use Rattle.qd_stream.specs.Items.{key_of_item}
use Rattle.qd_stream.specs.Legal as stream
use Rattle.qd_path.specs.declared.call.Asked.{Asked}
use Rattle.qd_path.specs.declared.call.Call.{Call}
use Rattle.qd_path.specs.declared.side.Side.TheVariants.{Up}
use Rattle.qd_path.specs.Calls.{AskFor}
use Rattle.qd_path.specs.Made.{Made}
use Rattle.qd_passing.specs.Passing.{only, put_in, records_in}
use Rattle.qd_passing.specs.Passing as puts_of
use Rattle.qd_passing.specs.Replies.{AllPass, link_text, records_given, items_given, given_in}
use Rattle.qd_views.specs.Views.{puts, given}
use Rattle.qd_ways.specs.Links.{Delivers}
use Rattle.qd_ways.specs.Links as links
use Rattle.qd_passing.specs.Replies as passed
use Rattle.qd_hist_rules.specs.Legal as history
use Rattle.qd_hist_rules.specs.declared.reply.HistoryReply.{HistoryReply}
use Rattle.qd_hist_rules.specs.declared.reply.HistoryReply.TheVariants as history_replies

-- what an entry puts: the items of a Put that was granted
abbrev pub put_by : {P T : Type 0} → Op P T → Reply T → List P
put_by (Put items) replies.Done = items.items
put_by _ _ = []

-- what an entry gives an agent: the items of its Take
abbrev pub given_to : {P T : Type 0} → ℕ → Op P T → Reply T → List T
given_to a (Take agent most out) (replies.Items items) = if nat_eq a agent then items.items else []
given_to a _ _ = []

module _ {P T : Type 0} where
  -- what the entries of a log put of k, in order
  abbrev pub log_puts : (P → Key) → Key → List (Entry (Op P T) (Reply T)) → List P
  log_puts key k [] = []
  log_puts key k (entry ∷ log) = only key k (put_by entry.op entry.reply) ++ log_puts key k log

  -- what they give a of k
  abbrev pub log_gives : (T → Key) → ℕ → Key → List (Entry (Op P T) (Reply T)) → List T
  log_gives key a k [] = []
  log_gives key a k (entry ∷ log) = only key k (given_to a entry.op entry.reply) ++ log_gives key a k log

-- where the bytes read below are the first of those written above, the log below puts of k just what these bytes ask for, and the log above
-- gave the agent of k just what the replies gave that were written, the link delivers k
module _ {X : Type 0} (key : X → Key) (part : Call → List X) (gives : Made → List X) (moment : List (Entry (Op X X) (Reply X)) → Moment X X) where
  abbrev pub BytesDeliver : Type 0
  BytesDeliver = (defs : List RecordDef) (watcher n a : ℕ) (made : List Made) (bytes late : List ℕ) (asked : List Asked) (k : Key) (above below : List (Entry (Op X X) (Reply X)))
      → 0 < n → IsScheme defs → AllPass defs made → bytes ++ late ≡ link_text defs made → AskFor defs (Up watcher) n bytes asked
      → log_puts key k below ≡ put_in key part k asked → log_gives key a k above ≡ given_in key gives k made
      → Delivers (given a k (moment above)) (puts k (moment below))

abbrev pub TickerDelivers : Type 0
TickerDelivers = BytesDeliver (λ r. r.key) records_in records_given ticker.moment_of

abbrev pub StreamDelivers : Type 0
StreamDelivers = BytesDeliver key_of_item puts_of.items_in items_given stream.moment_of

-- The history.

-- what an entry of a history puts, and what it gives an agent
abbrev pub history_put_by : history.HistoryOp → HistoryReply → List Event
history_put_by (Put items) history_replies.Done = items.items
history_put_by _ _ = []

abbrev pub history_given_to : ℕ → history.HistoryOp → HistoryReply → List Event
history_given_to a (Take agent most out) (history_replies.Items items) = if nat_eq a agent then map (λ i. i.event) items.items else []
history_given_to a _ _ = []

-- what the entries of a log put of k, and give a of k, in order
abbrev pub history_puts : Key → List history.HistoryEntry → List Event
history_puts k [] = []
history_puts k (entry ∷ log) = only (λ e. e.key) k (history_put_by entry.op entry.reply) ++ history_puts k log

abbrev pub history_gives : ℕ → Key → List history.HistoryEntry → List Event
history_gives a k [] = []
history_gives a k (entry ∷ log) = only (λ e. e.key) k (history_given_to a entry.op entry.reply) ++ history_gives a k log

-- the same of histories, where events are put below and items given above
abbrev pub HistoryDelivers : Type 0
HistoryDelivers = (defs : List RecordDef) (watcher n a : ℕ) (made : List Made) (bytes late : List ℕ) (asked : List Asked) (k : Key) (above below : List history.HistoryEntry)
    → 0 < n → IsScheme defs → AllPass defs made → bytes ++ late ≡ link_text defs made → AskFor defs (Up watcher) n bytes asked
    → history_puts k below ≡ put_in (λ e. e.key) puts_of.events_in k asked → history_gives a k above ≡ given_in (λ e. e.key) passed.events_given k made
    → Delivers (links.events_given a k (history.moment_of above)) (puts k (history.moment_of below))
