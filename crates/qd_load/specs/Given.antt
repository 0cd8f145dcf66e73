-- What the replies of a log gave.
use Rattle.std.specs.Prelude.{ℕ, ◌+◌, List, [], ◌∷◌, ◌++◌, filter}
use Rattle.qd_scheme.specs.declared.key.Key.{Key}
use Rattle.qd_scheme.specs.declared.key.Event.{Event}
use Rattle.qd_scheme.specs.Keys.{key_eq}
use Rattle.qd_gate.specs.declared.machine.Entry.{Entry}
use Rattle.qd_sub.specs.declared.op.Reply.{Reply}
use Rattle.qd_sub.specs.declared.op.Reply.TheVariants as replies
use Rattle.qd_stream.specs.declared.item.StreamItem.{StreamItem}
use Rattle.qd_stream.specs.declared.item.StreamItem.TheVariants.{Rec, Lost}
use Rattle.qd_hist_rules.specs.declared.item.HistItem.{HistItem}
use Rattle.qd_hist_rules.specs.declared.reply.HistoryReply.{HistoryReply}
use Rattle.qd_hist_rules.specs.declared.reply.HistoryReply.TheVariants as events
use Rattle.qd_hist_rules.specs.Legal.{HistoryEntry}

-- the items that a reply gave
abbrev pub items_of : {T : Type 0} → Reply T → List T
items_of (replies.Items items) = items.items
items_of _ = []

-- all items that the replies of a log gave, in order
abbrev pub given : {O T : Type 0} → List (Entry O (Reply T)) → List T
given [] = []
given (e ∷ log) = items_of e.reply ++ given log

-- how many of these items are records
abbrev pub records_in : List StreamItem → ℕ
records_in [] = 0
records_in (Rec r ∷ items) = 1 + records_in items
records_in (Lost k n ∷ items) = records_in items

-- how many records these items tell as lost
abbrev pub lost_in : List StreamItem → ℕ
lost_in [] = 0
lost_in (Rec r ∷ items) = lost_in items
lost_in (Lost k n ∷ items) = n + lost_in items

-- events that were given, the newest first, with those of more items
abbrev pub with_items : List HistItem → List Event → List Event
with_items [] past = past
with_items (i ∷ items) past = with_items items (i.event ∷ past)

abbrev pub with_reply : HistoryReply → List Event → List Event
with_reply (events.Items items) past = with_items items.items past
with_reply _ past = past

-- and with those that the replies of a log gave
abbrev pub with_log : List HistoryEntry → List Event → List Event
with_log [] past = past
with_log (e ∷ log) past = with_log log (with_reply e.reply past)

-- all events that the replies of a log gave, the newest first
abbrev pub events_given : List HistoryEntry → List Event
events_given log = with_log log []

-- those of a key
abbrev pub of_key : Key → List Event → List Event
of_key k past = filter (λ e. key_eq k e.key) past
