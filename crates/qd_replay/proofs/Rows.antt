-- Short scripts on four stripes, computed from the definitions alone.
use Rattle.std.proofs.Common.{ℕ, ◌≡◌, inl, inr, List, [], ◌∷◌, ◌++◌, refl, arith}
use Rattle.std.specs.Fmt.{digits}
use Rattle.std.specs.Prelude.{codes, pos}
use Rattle.qd_decimal.specs.Texts.{dec_text, magnitude_text}
use Rattle.qd_scheme.specs.Builtin.{builtin_defs}
use Rattle.qd_scheme.specs.declared.key.Key.{Key}
use Rattle.qd_scheme.specs.declared.key.Record.{Record}
use Rattle.qd_sub.specs.declared.op.Op.TheVariants.{Add, Put, Take}
use Rattle.qd_sub.specs.declared.op.Reply.TheVariants as replies
use Rattle.qd_stream.specs.declared.item.StreamItem.{StreamItem}
use Rattle.qd_stream.specs.declared.item.StreamItem.TheVariants as stream_items
use Rattle.qd_grammar.specs.declared.item.Collector.TheVariants.{Ticker, Stream}
use Rattle.qd_grammar.specs.declared.item.Item.{Item}
use Rattle.qd_grammar.specs.declared.item.Item.TheVariants as items
use Rattle.qd_grammar.specs.declared.item.Message.TheVariants.{TickerAdd, TickerData}
use Rattle.qd_grammar.specs.Canonical.{canonical}
use Rattle.qd_items.specs.Judging.{Numbered}
use Rattle.qd_path.specs.declared.call.Call.TheVariants as calls
use Rattle.qd_path.specs.Calls.{full_of}
use Rattle.qd_path.specs.Made.{Made}
use Rattle.qd_path.specs.Texts.{ticker_item, stream_item}
use Rattle.qd_replay.specs.Replies.{reply_text}
use Rattle.qd_replay.specs.Running.{empty, AreTaken}
use Rattle.qd_replay.specs.Scripts.{Act, acts_of}
use Rattle.qd_replay.specs.Scripts.Act.{Ask, Say, Give}

-- two keys of the ticker, on stripes 1 and 2 of four, and two of the stream, on stripes 2 and 3
abbrev quote : ℕ → Key
quote symbol = record { rec = 0; sym = symbol ∷ [] }

abbrev trade : ℕ → Key
trade symbol = record { rec = 1; sym = symbol ∷ [] }

abbrev quoted : ℕ → ℕ → Record
quoted symbol n = record { key = quote symbol; cells = pos n ∷ pos 0 ∷ pos 0 ∷ pos 0 ∷ [] }

abbrev traded : ℕ → ℕ → StreamItem
traded symbol n = stream_items.Rec (record { key = trade symbol; cells = pos n ∷ pos 0 ∷ pos 0 ∷ [] })

abbrev line : ℕ → Item → Numbered
line n item = record { line = n; item = item }

-- A and B are subscribed to and put, and then taken; the newest line stands first
abbrev script : List Numbered
script = line 9 items.End ∷ line 8 (items.Take Ticker 10) ∷ line 7 (items.Rec (quoted 66 2)) ∷ line 6 (items.Rec (quoted 65 1)) ∷ line 5 (items.Head TickerData)
    ∷ line 4 (items.Sub (quote 66)) ∷ line 3 (items.Sub (quote 65)) ∷ line 2 (items.Head TickerAdd) ∷ line 1 items.Protocol ∷ []

abbrev added : ℕ → ℕ → Act
added stripe symbol = Ask (record { stripe = stripe; call = calls.Ticker (Add 0 (full_of (record { key = quote symbol; limit = 0 } ∷ []))) })

abbrev put : ℕ → ℕ → ℕ → Act
put stripe symbol n = Ask (record { stripe = stripe; call = calls.Ticker (Put (full_of (quoted symbol n ∷ []))) })

-- each group asks the stripes of its keys, in rising order, when the next head or the TAKE ends it
script-acts : acts_of 4 script ≡ Say items.Protocol ∷ added 1 65 ∷ added 2 66 ∷ put 1 65 1 ∷ put 2 66 2 ∷ Give Ticker 0 10 ∷ Say items.End ∷ []
script-acts = refl

-- on one stripe they are asked for together
one-stripe : acts_of 1 (line 3 items.End ∷ line 2 (items.Rec (quoted 66 2)) ∷ line 1 (items.Rec (quoted 65 1)) ∷ line 0 (items.Head TickerData) ∷ [])
    ≡ Ask (record { stripe = 0; call = calls.Ticker (Put (full_of (quoted 65 1 ∷ quoted 66 2 ∷ []))) }) ∷ Say items.End ∷ []
one-stripe = refl

-- a stripe of the ticker is asked for so many records, and gives these
abbrev took : ℕ → ℕ → List Record → Made
took stripe max given = Made.Ticker stripe (Take 0 max empty) (replies.Items (record { items = given; room = 4096 }))

abbrev flowed : ℕ → ℕ → List StreamItem → Made
flowed stripe max given = Made.Stream stripe (Take 0 max empty) (replies.Items (record { items = given; room = 4096 }))

-- a TAKE asks each stripe for what those before it left
all_four : AreTaken Ticker 0 10 4 (took 0 10 [] ∷ took 1 10 (quoted 65 1 ∷ []) ∷ took 2 9 (quoted 66 2 ∷ []) ∷ took 3 8 [] ∷ []) (ticker_item (quoted 65 1) ∷ ticker_item (quoted 66 2) ∷ [])
all_four = (
  took 0 10 [] ∷ took 1 10 (quoted 65 1 ∷ []) ∷ took 2 9 (quoted 66 2 ∷ []) ∷ [],
  ticker_item (quoted 65 1) ∷ ticker_item (quoted 66 2) ∷ [],
  (
    took 0 10 [] ∷ took 1 10 (quoted 65 1 ∷ []) ∷ [],
    ticker_item (quoted 65 1) ∷ [],
    (
      took 0 10 [] ∷ [],
      [],
      ([], [], (refl, refl), inr (took 0 10 [], omega arith, refl, refl, refl)),
      inr (took 1 10 (quoted 65 1 ∷ []), omega arith, refl, refl, refl),
    ),
    inr (took 2 9 (quoted 66 2 ∷ []), omega arith, refl, refl, refl),
  ),
  inr (took 3 8 [], omega arith, refl, refl, refl),
)

-- where enough came, no further stripe is asked
one_of_four : AreTaken Ticker 0 1 4 (took 0 1 [] ∷ took 1 1 (quoted 65 1 ∷ []) ∷ []) (ticker_item (quoted 65 1) ∷ [])
one_of_four = (
  took 0 1 [] ∷ took 1 1 (quoted 65 1 ∷ []) ∷ [],
  ticker_item (quoted 65 1) ∷ [],
  (
    took 0 1 [] ∷ took 1 1 (quoted 65 1 ∷ []) ∷ [],
    ticker_item (quoted 65 1) ∷ [],
    (
      took 0 1 [] ∷ [],
      [],
      ([], [], (refl, refl), inr (took 0 1 [], omega arith, refl, refl, refl)),
      inr (took 1 1 (quoted 65 1 ∷ []), omega arith, refl, refl, refl),
    ),
    inl (refl, refl, refl),
  ),
  inl (refl, refl, refl),
)

-- what is printed of a TAKE of the stream whose stripe 2 gave a loss and a record, and stripe 3 another record
printed : reply_text builtin_defs 0 Stream (stream_item (stream_items.Lost (trade 65) 1) ∷ stream_item (traded 65 30000) ∷ stream_item (traded 66 20000) ∷ [])
    ≡ codes "#LINK" ++ 9 ∷ codes "0" ++ 9 ∷ codes "STREAM" ++ 10 ∷ codes "==STREAM_LOST" ++ 10 ∷ codes "Trade" ++ 9 ∷ codes "A" ++ 9 ∷ codes "1" ++ 10 ∷ codes "==STREAM_DATA" ++ 10 ∷
    codes "Trade" ++ 9 ∷ codes "A" ++ 9 ∷ codes "3" ++ 9 ∷ codes "0" ++ 9 ∷ codes "0" ++ 10 ∷ codes "Trade" ++ 9 ∷ codes "B" ++ 9 ∷ codes "2" ++ 9 ∷ codes "0" ++ 9 ∷ codes "0" ++ 10 ∷
    codes "==HEARTBEAT" ++ 10 ∷ []
unfolding reply_text canonical dec_text magnitude_text digits
printed = refl
