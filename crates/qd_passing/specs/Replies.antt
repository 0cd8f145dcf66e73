-- What a peer below puts of the replies that were written for it.
use Rattle.std.specs.Prelude.{ℕ, ◌≡◌, ◌<◌, ◌≤◌, true, List, [], ◌∷◌, ◌++◌, length, map}
use Rattle.std.specs.List.{AllByRecursion}
use Rattle.qd_scheme.specs.declared.defs.RecordDef.{RecordDef}
use Rattle.qd_scheme.specs.declared.key.Event.{Event}
use Rattle.qd_scheme.specs.declared.key.Key.{Key}
use Rattle.qd_scheme.specs.declared.key.Record.{Record}
use Rattle.qd_scheme.specs.Schemes.{IsScheme}
use Rattle.qd_sub.specs.declared.op.Reply.{Reply}
use Rattle.qd_sub.specs.declared.op.Reply.TheVariants as replies
use Rattle.qd_stream.specs.declared.item.StreamItem.{StreamItem}
use Rattle.qd_stream.specs.Items.{key_of_item}
use Rattle.qd_hist_rules.specs.declared.reply.HistoryReply.{HistoryReply}
use Rattle.qd_hist_rules.specs.declared.reply.HistoryReply.TheVariants as events
use Rattle.qd_grammar.specs.declared.item.Item.TheVariants.{Protocol}
use Rattle.qd_grammar.specs.Canonical.{canonical}
use Rattle.qd_grammar.specs.Items.{IsItem, IsOneOf, data_heads}
use Rattle.qd_line.specs.Lines.{is_one_line, without_cr}
use Rattle.qd_path.specs.declared.call.Asked.{Asked}
use Rattle.qd_path.specs.declared.call.Call.{Call}
use Rattle.qd_path.specs.declared.side.Side.TheVariants.{Up}
use Rattle.qd_path.specs.Calls.{AskFor}
use Rattle.qd_path.specs.Made.{Made}
use Rattle.qd_path.specs.Texts.{ReplyItem, line_of, fits, items_in, sent}
use Rattle.qd_passing.specs.Passing.{only, put_in, records_in, record_said, item_said, event_said}
use Rattle.qd_passing.specs.Passing as puts

-- at most 4096 bytes, with no line feed among them and no carriage return at their end
pub record IsPlainLine (line : List ℕ) : Type 0 where
  pub one : is_one_line line ≡ true
  pub no_cr : without_cr line ≡ line
  pub short : length line ≤ 4096

-- a reply's item is data, and some line spells it under the scheme: its canonical line, which is plain
pub record MayPass (defs : List RecordDef) (x : ReplyItem) : Type 0 where
  pub is : IsItem defs x.item
  pub fitting : fits defs x.item ≡ true
  pub a_head : IsOneOf x.message data_heads
  pub plain : IsPlainLine (canonical defs x.item)

-- the items of all these replies
abbrev pub AllPass : List RecordDef → List Made → Type 0
AllPass defs [] = Unit {0}
AllPass defs (x ∷ before) = AllByRecursion (MayPass defs) (items_in x) × AllPass defs before

-- what is written for a peer below, the newest reply first
abbrev pub link_text : List RecordDef → List Made → List ℕ
link_text defs made = line_of defs Protocol ++ sent defs made

-- the items of a reply
abbrev pub given_by : {T : Type 0} → Reply T → List T
given_by (replies.Items given) = given.items
given_by _ = []

abbrev pub records_given : Made → List Record
records_given (Made.Ticker stripe op reply) = given_by reply
records_given (Made.Stream stripe op reply) = []
records_given (Made.History stripe op reply) = []

abbrev pub items_given : Made → List StreamItem
items_given (Made.Ticker stripe op reply) = []
items_given (Made.Stream stripe op reply) = given_by reply
items_given (Made.History stripe op reply) = []

abbrev pub events_of : HistoryReply → List Event
events_of (events.Items given) = map (λ i. i.event) given.items
events_of _ = []

abbrev pub events_given : Made → List Event
events_given (Made.Ticker stripe op reply) = []
events_given (Made.Stream stripe op reply) = []
events_given (Made.History stripe op reply) = events_of reply

module _ {X : Type 0} (key : X → Key) where
  -- what replies give of k, in order; the newest reply stands first
  abbrev pub given_in : (Made → List X) → Key → List Made → List X
  given_in gives k [] = []
  given_in gives k (x ∷ before) = given_in gives k before ++ only key k (gives x)

  -- the bytes that came, the first of what was written, ask for calls that put the first items of each key that the replies gave, in order
  abbrev pub PassesOn : (Call → List X) → (Made → List X) → Type 0
  PassesOn part gives = (defs : List RecordDef) (watcher n : ℕ) (made : List Made) (bytes late : List ℕ) (asked : List Asked) (k : Key) → 0 < n → IsScheme defs → AllPass defs made
      → bytes ++ late ≡ link_text defs made → AskFor defs (Up watcher) n bytes asked
      → (in_flight : List X) × (put_in key part k asked ++ in_flight ≡ given_in gives k made)

abbrev pub RecordsPass : Type 0
RecordsPass = PassesOn (λ r. r.key) records_in records_given

abbrev pub ItemsPass : Type 0
ItemsPass = PassesOn key_of_item puts.items_in items_given

abbrev pub EventsPass : Type 0
EventsPass = PassesOn (λ e. e.key) puts.events_in events_given
