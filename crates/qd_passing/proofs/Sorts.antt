-- The records of the ticker, the items of the stream and the events of the history are such sorts.
use Rattle.std.proofs.Common.{◌≡◌, ◌<◌, ℕ, Bool, true, false, ◌||◌, not, if◌then◌else◌, Option, Some, None, List, [], ◌∷◌, ◌++◌, refl, sym, ap, ◌∙◌}
use Rattle.std.proofs.lemmas.Nat.{mod_below}
use Rattle.std.proofs.lemmas.List.{append-nil}
use Rattle.qd_scheme.specs.declared.key.Key.{Key}
use Rattle.qd_scheme.specs.declared.key.Record.{Record}
use Rattle.qd_scheme.specs.declared.key.Event.{Event}
use Rattle.qd_scheme.specs.Stripes.{stripe_of}
use Rattle.qd_sub.specs.declared.op.Op.TheVariants.{Add, Remove, Put}
use Rattle.qd_stream.specs.declared.item.StreamItem.{StreamItem}
use Rattle.qd_stream.specs.declared.item.StreamItem.TheVariants as stream_items
use Rattle.qd_stream.specs.Items.{key_of_item}
use Rattle.qd_grammar.specs.declared.item.Item.{Item}
use Rattle.qd_grammar.specs.declared.item.Item.TheVariants as items
use Rattle.qd_grammar.specs.declared.item.Message.{Message}
use Rattle.qd_grammar.specs.declared.item.Message.TheVariants.{TickerData, StreamData, HistoryData, StreamLost, TickerAdd, StreamAdd, HistoryAdd, TickerRemove, StreamRemove, HistoryRemove}
use Rattle.qd_items.specs.Judging.{items_of}
use Rattle.qd_path.specs.declared.call.Call.TheVariants.{Ticker, Stream, History}
use Rattle.qd_path.specs.declared.kind.Kind.TheVariants.{Body}
use Rattle.qd_path.specs.declared.side.Side.TheVariants.{Up}
use Rattle.qd_path.specs.Groups.{Group, group_with, is_foreign, kind_of, is_putting, is_streaming, is_losing, is_feeding, is_adding, with_sub, with_key, plain_sub, with_item, with_record}
use Rattle.qd_path.specs.Calls.{calls_of, mode_of}
use Rattle.qd_passing.specs.Passing.{records_in, items_in, events_in, record_said, item_said, event_said, only, put_in, RecordsPut, ItemsPut, EventsPut}
use Rattle.qd_passing.proofs.Putting.{none-put, all-put, IsSort, each-put}

same-end : {X : Type 0} (xs : List X) → xs ≡ xs ++ []
same-end xs = sym (append-nil xs)

abbrev record_key : Record → Key
record_key r = r.key

abbrev event_key : Event → Key
event_key e = e.key

abbrev is_of_stream : Option Message → Bool
is_of_stream message = is_streaming message || is_losing message

abbrev record_held : Group → List Record
record_held g = g.records

abbrev stream_held : Group → List StreamItem
stream_held g = g.items

abbrev event_held : Group → List Event
event_held g = g.events

module _ (n agent : ℕ) (k : Key) (some : 0 < n) where
  in_stripes : stripe_of k n < n
  in_stripes = mod_below _ n some

  no_records : (message : Option Message) (g : Group) → is_putting message ≡ false → (is_putting message ≡ false → g.records ≡ []) → put_in record_key records_in k (calls_of n agent message g) ≡ [] → put_in record_key records_in k (calls_of n agent message g) ≡ only record_key k g.records
  no_records message g t w e = e ∙ ap (only record_key k) (sym (w t))

  flush_records : (message : Option Message) (g : Group) → (is_putting message ≡ false → g.records ≡ []) → put_in record_key records_in k (calls_of n agent message g) ≡ only record_key k g.records
  flush_records None g w = no_records None g refl w refl
  flush_records (Some TickerData) g w = all-put record_key records_in (λ part. Ticker (Put part)) (λ xs. refl) k n g.records in_stripes
  flush_records (Some StreamData) g w = no_records (Some StreamData) g refl w (none-put record_key records_in key_of_item (λ part. Stream (Put part)) (λ ys. refl) k n g.items)
  flush_records (Some StreamLost) g w = no_records (Some StreamLost) g refl w (none-put record_key records_in key_of_item (λ part. Stream (Put part)) (λ ys. refl) k n g.items)
  flush_records (Some HistoryData) g w = no_records (Some HistoryData) g refl w (none-put record_key records_in event_key (λ part. History (Put part)) (λ ys. refl) k n g.events)
  flush_records (Some TickerAdd) g w = no_records (Some TickerAdd) g refl w (none-put record_key records_in (λ s. s.key) (λ part. Ticker (Add agent part)) (λ ys. refl) k n g.subs)
  flush_records (Some StreamAdd) g w = no_records (Some StreamAdd) g refl w (none-put record_key records_in (λ s. s.key) (λ part. Stream (Add agent part)) (λ ys. refl) k n g.subs)
  flush_records (Some HistoryAdd) g w = no_records (Some HistoryAdd) g refl w (none-put record_key records_in (λ s. s.key) (λ part. History (Add agent part)) (λ ys. refl) k n g.subs)
  flush_records (Some TickerRemove) g w = no_records (Some TickerRemove) g refl w (none-put record_key records_in (λ j. j) (λ part. Ticker (Remove agent part)) (λ ys. refl) k n g.keys)
  flush_records (Some StreamRemove) g w = no_records (Some StreamRemove) g refl w (none-put record_key records_in (λ j. j) (λ part. Stream (Remove agent part)) (λ ys. refl) k n g.keys)
  flush_records (Some HistoryRemove) g w = no_records (Some HistoryRemove) g refl w (none-put record_key records_in (λ j. j) (λ part. History (Remove agent part)) (λ ys. refl) k n g.keys)

  no_items : (message : Option Message) (g : Group) → is_of_stream message ≡ false → (is_of_stream message ≡ false → g.items ≡ []) → put_in key_of_item items_in k (calls_of n agent message g) ≡ [] → put_in key_of_item items_in k (calls_of n agent message g) ≡ only key_of_item k g.items
  no_items message g t w e = e ∙ ap (only key_of_item k) (sym (w t))

  flush_items : (message : Option Message) (g : Group) → (is_of_stream message ≡ false → g.items ≡ []) → put_in key_of_item items_in k (calls_of n agent message g) ≡ only key_of_item k g.items
  flush_items None g w = no_items None g refl w refl
  flush_items (Some TickerData) g w = no_items (Some TickerData) g refl w (none-put key_of_item items_in record_key (λ part. Ticker (Put part)) (λ ys. refl) k n g.records)
  flush_items (Some StreamData) g w = all-put key_of_item items_in (λ part. Stream (Put part)) (λ xs. refl) k n g.items in_stripes
  flush_items (Some StreamLost) g w = all-put key_of_item items_in (λ part. Stream (Put part)) (λ xs. refl) k n g.items in_stripes
  flush_items (Some HistoryData) g w = no_items (Some HistoryData) g refl w (none-put key_of_item items_in event_key (λ part. History (Put part)) (λ ys. refl) k n g.events)
  flush_items (Some TickerAdd) g w = no_items (Some TickerAdd) g refl w (none-put key_of_item items_in (λ s. s.key) (λ part. Ticker (Add agent part)) (λ ys. refl) k n g.subs)
  flush_items (Some StreamAdd) g w = no_items (Some StreamAdd) g refl w (none-put key_of_item items_in (λ s. s.key) (λ part. Stream (Add agent part)) (λ ys. refl) k n g.subs)
  flush_items (Some HistoryAdd) g w = no_items (Some HistoryAdd) g refl w (none-put key_of_item items_in (λ s. s.key) (λ part. History (Add agent part)) (λ ys. refl) k n g.subs)
  flush_items (Some TickerRemove) g w = no_items (Some TickerRemove) g refl w (none-put key_of_item items_in (λ j. j) (λ part. Ticker (Remove agent part)) (λ ys. refl) k n g.keys)
  flush_items (Some StreamRemove) g w = no_items (Some StreamRemove) g refl w (none-put key_of_item items_in (λ j. j) (λ part. Stream (Remove agent part)) (λ ys. refl) k n g.keys)
  flush_items (Some HistoryRemove) g w = no_items (Some HistoryRemove) g refl w (none-put key_of_item items_in (λ j. j) (λ part. History (Remove agent part)) (λ ys. refl) k n g.keys)

  no_events : (message : Option Message) (g : Group) → is_feeding message ≡ false → (is_feeding message ≡ false → g.events ≡ []) → put_in event_key events_in k (calls_of n agent message g) ≡ [] → put_in event_key events_in k (calls_of n agent message g) ≡ only event_key k g.events
  no_events message g t w e = e ∙ ap (only event_key k) (sym (w t))

  flush_events : (message : Option Message) (g : Group) → (is_feeding message ≡ false → g.events ≡ []) → put_in event_key events_in k (calls_of n agent message g) ≡ only event_key k g.events
  flush_events None g w = no_events None g refl w refl
  flush_events (Some TickerData) g w = no_events (Some TickerData) g refl w (none-put event_key events_in record_key (λ part. Ticker (Put part)) (λ ys. refl) k n g.records)
  flush_events (Some StreamData) g w = no_events (Some StreamData) g refl w (none-put event_key events_in key_of_item (λ part. Stream (Put part)) (λ ys. refl) k n g.items)
  flush_events (Some StreamLost) g w = no_events (Some StreamLost) g refl w (none-put event_key events_in key_of_item (λ part. Stream (Put part)) (λ ys. refl) k n g.items)
  flush_events (Some HistoryData) g w = all-put event_key events_in (λ part. History (Put part)) (λ xs. refl) k n g.events in_stripes
  flush_events (Some TickerAdd) g w = no_events (Some TickerAdd) g refl w (none-put event_key events_in (λ s. s.key) (λ part. Ticker (Add agent part)) (λ ys. refl) k n g.subs)
  flush_events (Some StreamAdd) g w = no_events (Some StreamAdd) g refl w (none-put event_key events_in (λ s. s.key) (λ part. Stream (Add agent part)) (λ ys. refl) k n g.subs)
  flush_events (Some HistoryAdd) g w = no_events (Some HistoryAdd) g refl w (none-put event_key events_in (λ s. s.key) (λ part. History (Add agent part)) (λ ys. refl) k n g.subs)
  flush_events (Some TickerRemove) g w = no_events (Some TickerRemove) g refl w (none-put event_key events_in (λ j. j) (λ part. Ticker (Remove agent part)) (λ ys. refl) k n g.keys)
  flush_events (Some StreamRemove) g w = no_events (Some StreamRemove) g refl w (none-put event_key events_in (λ j. j) (λ part. Stream (Remove agent part)) (λ ys. refl) k n g.keys)
  flush_events (Some HistoryRemove) g w = no_events (Some HistoryRemove) g refl w (none-put event_key events_in (λ j. j) (λ part. History (Remove agent part)) (λ ys. refl) k n g.keys)

-- no message is of records and of items of the stream
apart : (message : Option Message) → is_putting message ≡ true → is_streaming message ≡ false
apart None h = refl
apart (Some TickerData) h = refl
apart (Some StreamData) h = cc h
apart (Some HistoryData) h = refl
apart (Some StreamLost) h = refl
apart (Some TickerAdd) h = refl
apart (Some StreamAdd) h = refl
apart (Some HistoryAdd) h = refl
apart (Some TickerRemove) h = refl
apart (Some StreamRemove) h = refl
apart (Some HistoryRemove) h = refl

record_joins : (p s : Bool) (r : Record) (g : Group) → (p ≡ true → s ≡ false) → not (p || s) ≡ false → record_held (if s then with_item (stream_items.Rec r) g else with_record r g) ≡ g.records ++ (if p then r ∷ [] else [])
record_joins true true r g a h = let z = a refl in cc z
record_joins true false r g a h = refl
record_joins false true r g a h = same-end g.records
record_joins false false r g a h = cc h

item_joins : (s : Bool) (r : Record) (g : Group) → stream_held (if s then with_item (stream_items.Rec r) g else with_record r g) ≡ g.items ++ (if s then stream_items.Rec r ∷ [] else [])
item_joins true r g = refl
item_joins false r g = same-end g.items

no_event_joins : (s : Bool) (r : Record) (g : Group) → event_held (if s then with_item (stream_items.Rec r) g else with_record r g) ≡ g.events ++ []
no_event_joins true r g = same-end g.events
no_event_joins false r g = same-end g.events

neither-first : (p s : Bool) → not (p || s) ≡ true → p ≡ false
neither-first true s h = cc h
neither-first false s h = refl

neither-second : (p s : Bool) → not (p || s) ≡ true → s ≡ false
neither-second true s h = cc h
neither-second false true h = cc h
neither-second false false h = refl

neither : (b c : Bool) → (b || c) ≡ false → (b ≡ false) × (c ≡ false)
neither true c h = cc h
neither false c h = (refl, h)

sub_records : (b : Bool) (j : Key) (g : Group) → record_held (if b then with_sub (plain_sub j) g else with_key j g) ≡ g.records ++ []
sub_records true j g = same-end g.records
sub_records false j g = same-end g.records

join_records : (message : Option Message) (item : Item) (g : Group) → kind_of item ≡ Body → is_foreign message item ≡ false → record_held (group_with message item g) ≡ g.records ++ record_said message item
join_records message (items.Rec r) g b f = record_joins (is_putting message) (is_streaming message) r g (apart message) f
join_records message (items.Lost j c) g b f = same-end g.records
join_records message (items.Ev e) g b f = same-end g.records
join_records message (items.HistSub s) g b f = same-end g.records
join_records message (items.Sub j) g b f = sub_records (is_adding message) j g
join_records message items.Protocol g b f = cc b
join_records message (items.Head m) g b f = cc b
join_records message (items.Describe m) g b f = cc b
join_records message items.Heartbeat g b f = cc b
join_records message items.End g b f = cc b
join_records message (items.Time m) g b f = cc b
join_records message (items.Link m) g b f = cc b
join_records message (items.Take c m) g b f = cc b
join_records message (items.Node m l) g b f = cc b
join_records message (items.At m l) g b f = cc b
join_records message (items.Pump m) g b f = cc b
join_records message (items.Move m w l) g b f = cc b

foreign_records : (message : Option Message) (item : Item) → is_foreign message item ≡ true → record_said message item ≡ []
foreign_records message (items.Rec r) f = rw (neither-first (is_putting message) (is_streaming message) f) refl
foreign_records message (items.Lost j c) f = refl
foreign_records message (items.Ev e) f = refl
foreign_records message (items.HistSub s) f = refl
foreign_records message (items.Sub j) f = refl
foreign_records message items.Protocol f = refl
foreign_records message (items.Head m) f = refl
foreign_records message (items.Describe m) f = refl
foreign_records message items.Heartbeat f = refl
foreign_records message items.End f = refl
foreign_records message (items.Time m) f = refl
foreign_records message (items.Link m) f = refl
foreign_records message (items.Take c m) f = refl
foreign_records message (items.Node m l) f = refl
foreign_records message (items.At m l) f = refl
foreign_records message (items.Pump m) f = refl
foreign_records message (items.Move m w l) f = refl

silent_records : (message : Option Message) (item : Item) → (kind_of item ≡ Body → ⊥) → record_said message item ≡ []
silent_records message (items.Rec r) f = absurd (f refl)
silent_records message (items.Lost j c) f = refl
silent_records message (items.Ev e) f = refl
silent_records message (items.HistSub s) f = refl
silent_records message (items.Sub j) f = refl
silent_records message items.Protocol f = refl
silent_records message (items.Head m) f = refl
silent_records message (items.Describe m) f = refl
silent_records message items.Heartbeat f = refl
silent_records message items.End f = refl
silent_records message (items.Time m) f = refl
silent_records message (items.Link m) f = refl
silent_records message (items.Take c m) f = refl
silent_records message (items.Node m l) f = refl
silent_records message (items.At m l) f = refl
silent_records message (items.Pump m) f = refl
silent_records message (items.Move m w l) f = refl

untaken_records : (message : Option Message) (item : Item) → is_putting message ≡ false → record_said message item ≡ []
untaken_records message (items.Rec r) f = rw f refl
untaken_records message (items.Lost j c) f = refl
untaken_records message (items.Ev e) f = refl
untaken_records message (items.HistSub s) f = refl
untaken_records message (items.Sub j) f = refl
untaken_records message items.Protocol f = refl
untaken_records message (items.Head m) f = refl
untaken_records message (items.Describe m) f = refl
untaken_records message items.Heartbeat f = refl
untaken_records message items.End f = refl
untaken_records message (items.Time m) f = refl
untaken_records message (items.Link m) f = refl
untaken_records message (items.Take c m) f = refl
untaken_records message (items.Node m l) f = refl
untaken_records message (items.At m l) f = refl
untaken_records message (items.Pump m) f = refl
untaken_records message (items.Move m w l) f = refl

records_sort : (n agent : ℕ) (k : Key) → 0 < n → IsSort record_key records_in is_putting record_held record_said n agent k
records_sort n agent k some = record {
  none_held = refl;
  flushed = flush_records n agent k some;
  joins = join_records;
  foreign = foreign_records;
  silent = silent_records;
  untaken = untaken_records;
}

pub records_put : RecordsPut
records_put defs watcher n lines k some = each-put record_key records_in is_putting record_held record_said n 0 k (records_sort n 0 k some) (items_of (mode_of (Up watcher)) defs lines)

sub_items : (b : Bool) (j : Key) (g : Group) → stream_held (if b then with_sub (plain_sub j) g else with_key j g) ≡ g.items ++ []
sub_items true j g = same-end g.items
sub_items false j g = same-end g.items

join_items : (message : Option Message) (item : Item) (g : Group) → kind_of item ≡ Body → is_foreign message item ≡ false → stream_held (group_with message item g) ≡ g.items ++ item_said message item
join_items message (items.Rec r) g b f = item_joins (is_streaming message) r g
join_items message (items.Lost j c) g b f = rw f refl
join_items message (items.Ev e) g b f = same-end g.items
join_items message (items.HistSub s) g b f = same-end g.items
join_items message (items.Sub j) g b f = sub_items (is_adding message) j g
join_items message items.Protocol g b f = cc b
join_items message (items.Head m) g b f = cc b
join_items message (items.Describe m) g b f = cc b
join_items message items.Heartbeat g b f = cc b
join_items message items.End g b f = cc b
join_items message (items.Time m) g b f = cc b
join_items message (items.Link m) g b f = cc b
join_items message (items.Take c m) g b f = cc b
join_items message (items.Node m l) g b f = cc b
join_items message (items.At m l) g b f = cc b
join_items message (items.Pump m) g b f = cc b
join_items message (items.Move m w l) g b f = cc b

foreign_items : (message : Option Message) (item : Item) → is_foreign message item ≡ true → item_said message item ≡ []
foreign_items message (items.Rec r) f = rw (neither-second (is_putting message) (is_streaming message) f) refl
foreign_items message (items.Lost j c) f = rw f refl
foreign_items message (items.Ev e) f = refl
foreign_items message (items.HistSub s) f = refl
foreign_items message (items.Sub j) f = refl
foreign_items message items.Protocol f = refl
foreign_items message (items.Head m) f = refl
foreign_items message (items.Describe m) f = refl
foreign_items message items.Heartbeat f = refl
foreign_items message items.End f = refl
foreign_items message (items.Time m) f = refl
foreign_items message (items.Link m) f = refl
foreign_items message (items.Take c m) f = refl
foreign_items message (items.Node m l) f = refl
foreign_items message (items.At m l) f = refl
foreign_items message (items.Pump m) f = refl
foreign_items message (items.Move m w l) f = refl

silent_items : (message : Option Message) (item : Item) → (kind_of item ≡ Body → ⊥) → item_said message item ≡ []
silent_items message (items.Rec r) f = absurd (f refl)
silent_items message (items.Lost j c) f = absurd (f refl)
silent_items message (items.Ev e) f = refl
silent_items message (items.HistSub s) f = refl
silent_items message (items.Sub j) f = refl
silent_items message items.Protocol f = refl
silent_items message (items.Head m) f = refl
silent_items message (items.Describe m) f = refl
silent_items message items.Heartbeat f = refl
silent_items message items.End f = refl
silent_items message (items.Time m) f = refl
silent_items message (items.Link m) f = refl
silent_items message (items.Take c m) f = refl
silent_items message (items.Node m l) f = refl
silent_items message (items.At m l) f = refl
silent_items message (items.Pump m) f = refl
silent_items message (items.Move m w l) f = refl

untaken_items : (message : Option Message) (item : Item) → is_of_stream message ≡ false → item_said message item ≡ []
untaken_items message (items.Rec r) f = rw (neither (is_streaming message) (is_losing message) f).0 refl
untaken_items message (items.Lost j c) f = rw (neither (is_streaming message) (is_losing message) f).1 refl
untaken_items message (items.Ev e) f = refl
untaken_items message (items.HistSub s) f = refl
untaken_items message (items.Sub j) f = refl
untaken_items message items.Protocol f = refl
untaken_items message (items.Head m) f = refl
untaken_items message (items.Describe m) f = refl
untaken_items message items.Heartbeat f = refl
untaken_items message items.End f = refl
untaken_items message (items.Time m) f = refl
untaken_items message (items.Link m) f = refl
untaken_items message (items.Take c m) f = refl
untaken_items message (items.Node m l) f = refl
untaken_items message (items.At m l) f = refl
untaken_items message (items.Pump m) f = refl
untaken_items message (items.Move m w l) f = refl

items_sort : (n agent : ℕ) (k : Key) → 0 < n → IsSort key_of_item items_in is_of_stream stream_held item_said n agent k
items_sort n agent k some = record {
  none_held = refl;
  flushed = flush_items n agent k some;
  joins = join_items;
  foreign = foreign_items;
  silent = silent_items;
  untaken = untaken_items;
}

pub items_put : ItemsPut
items_put defs watcher n lines k some = each-put key_of_item items_in is_of_stream stream_held item_said n 0 k (items_sort n 0 k some) (items_of (mode_of (Up watcher)) defs lines)

sub_events : (b : Bool) (j : Key) (g : Group) → event_held (if b then with_sub (plain_sub j) g else with_key j g) ≡ g.events ++ []
sub_events true j g = same-end g.events
sub_events false j g = same-end g.events

join_events : (message : Option Message) (item : Item) (g : Group) → kind_of item ≡ Body → is_foreign message item ≡ false → event_held (group_with message item g) ≡ g.events ++ event_said message item
join_events message (items.Rec r) g b f = no_event_joins (is_streaming message) r g
join_events message (items.Lost j c) g b f = same-end g.events
join_events message (items.Ev e) g b f = rw f refl
join_events message (items.HistSub s) g b f = same-end g.events
join_events message (items.Sub j) g b f = sub_events (is_adding message) j g
join_events message items.Protocol g b f = cc b
join_events message (items.Head m) g b f = cc b
join_events message (items.Describe m) g b f = cc b
join_events message items.Heartbeat g b f = cc b
join_events message items.End g b f = cc b
join_events message (items.Time m) g b f = cc b
join_events message (items.Link m) g b f = cc b
join_events message (items.Take c m) g b f = cc b
join_events message (items.Node m l) g b f = cc b
join_events message (items.At m l) g b f = cc b
join_events message (items.Pump m) g b f = cc b
join_events message (items.Move m w l) g b f = cc b

foreign_events : (message : Option Message) (item : Item) → is_foreign message item ≡ true → event_said message item ≡ []
foreign_events message (items.Rec r) f = refl
foreign_events message (items.Lost j c) f = refl
foreign_events message (items.Ev e) f = rw f refl
foreign_events message (items.HistSub s) f = refl
foreign_events message (items.Sub j) f = refl
foreign_events message items.Protocol f = refl
foreign_events message (items.Head m) f = refl
foreign_events message (items.Describe m) f = refl
foreign_events message items.Heartbeat f = refl
foreign_events message items.End f = refl
foreign_events message (items.Time m) f = refl
foreign_events message (items.Link m) f = refl
foreign_events message (items.Take c m) f = refl
foreign_events message (items.Node m l) f = refl
foreign_events message (items.At m l) f = refl
foreign_events message (items.Pump m) f = refl
foreign_events message (items.Move m w l) f = refl

silent_events : (message : Option Message) (item : Item) → (kind_of item ≡ Body → ⊥) → event_said message item ≡ []
silent_events message (items.Rec r) f = refl
silent_events message (items.Lost j c) f = refl
silent_events message (items.Ev e) f = absurd (f refl)
silent_events message (items.HistSub s) f = refl
silent_events message (items.Sub j) f = refl
silent_events message items.Protocol f = refl
silent_events message (items.Head m) f = refl
silent_events message (items.Describe m) f = refl
silent_events message items.Heartbeat f = refl
silent_events message items.End f = refl
silent_events message (items.Time m) f = refl
silent_events message (items.Link m) f = refl
silent_events message (items.Take c m) f = refl
silent_events message (items.Node m l) f = refl
silent_events message (items.At m l) f = refl
silent_events message (items.Pump m) f = refl
silent_events message (items.Move m w l) f = refl

untaken_events : (message : Option Message) (item : Item) → is_feeding message ≡ false → event_said message item ≡ []
untaken_events message (items.Rec r) f = refl
untaken_events message (items.Lost j c) f = refl
untaken_events message (items.Ev e) f = rw f refl
untaken_events message (items.HistSub s) f = refl
untaken_events message (items.Sub j) f = refl
untaken_events message items.Protocol f = refl
untaken_events message (items.Head m) f = refl
untaken_events message (items.Describe m) f = refl
untaken_events message items.Heartbeat f = refl
untaken_events message items.End f = refl
untaken_events message (items.Time m) f = refl
untaken_events message (items.Link m) f = refl
untaken_events message (items.Take c m) f = refl
untaken_events message (items.Node m l) f = refl
untaken_events message (items.At m l) f = refl
untaken_events message (items.Pump m) f = refl
untaken_events message (items.Move m w l) f = refl

events_sort : (n agent : ℕ) (k : Key) → 0 < n → IsSort event_key events_in is_feeding event_held event_said n agent k
events_sort n agent k some = record {
  none_held = refl;
  flushed = flush_events n agent k some;
  joins = join_events;
  foreign = foreign_events;
  silent = silent_events;
  untaken = untaken_events;
}

pub events_put : EventsPut
events_put defs watcher n lines k some = each-put event_key events_in is_feeding event_held event_said n 0 k (events_sort n 0 k some) (items_of (mode_of (Up watcher)) defs lines)
