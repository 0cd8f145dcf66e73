-- The generated script: which items it has, from the number that it starts from and the count of items that it feeds.
use Rattle.std.specs.Prelude.{ℕ, zero, suc, ◌+◌, ◌-◌, ◌*◌, ◌%◌, ◌==◌, ◌||◌, if◌then◌else◌, Bool, List, [], ◌∷◌, ◌++◌, map, flat_map, pos, drop}
use Rattle.qd_check.specs.Printing.{line_of}
use Rattle.qd_grammar.specs.declared.item.Collector.TheVariants.{Ticker, Stream, History}
use Rattle.qd_grammar.specs.declared.item.Item.{Item}
use Rattle.qd_grammar.specs.declared.item.Item.TheVariants.{Protocol, Head, Rec, Ev, Sub, HistSub, End, Take}
use Rattle.qd_grammar.specs.declared.item.Message.{Message}
use Rattle.qd_grammar.specs.declared.item.Message.TheVariants.{TickerData, StreamData, HistoryData, TickerAdd, StreamAdd, HistoryAdd}
use Rattle.qd_scheme.specs.Builtin.{builtin_defs}
use Rattle.qd_scheme.specs.declared.defs.RecordDef.{RecordDef}
use Rattle.qd_scheme.specs.declared.key.Key.{Key}
use Rattle.qd_tape.specs.declared.script.Stage.{Stage}
use Rattle.qd_tape.specs.declared.script.Stage.TheVariants.{Opening, Feeding, Over}

-- the numbers drawn from a start on, by the rule of Park and Miller
abbrev pub next_drawn : ℕ → ℕ
next_drawn x = x * 48271 % 2147483647

abbrev pub drawn : ℕ → ℕ → ℕ
drawn start zero = start
drawn start (suc n) = next_drawn (drawn start n)

-- the key of a record of the built-in scheme (0 Quote, 1 Trade, 2 Candle) and the symbol S with a digit
abbrev pub fed_key : ℕ → ℕ → Key
fed_key rec digit = record { rec = rec; sym = 83 ∷ (48 + digit) ∷ [] }

-- the symbol's digit and the price that a number says; prices are in ten-thousandths
abbrev pub digit_of : ℕ → ℕ
digit_of x = x % 10

abbrev pub price_of : ℕ → ℕ
price_of x = x % 1000000 + 1

-- the quote, the trade and the candle of the item of number i, for which x was drawn
abbrev pub quote_of : ℕ → ℕ → Item
quote_of i x = Rec (record { key = fed_key 0 (digit_of x); cells = pos (price_of x) ∷ pos i ∷ pos (price_of x + 100) ∷ pos (i + 1) ∷ [] })

abbrev pub trade_of : ℕ → ℕ → Item
trade_of i x = Rec (record { key = fed_key 1 (digit_of x); cells = pos (price_of x) ∷ pos i ∷ pos x ∷ [] })

abbrev pub candle_of : ℕ → ℕ → Item
candle_of i x = Ev (record {
  key = fed_key 2 (digit_of x);
  index = i + 1;
  flags = 0;
  cells = pos (price_of x) ∷ pos (price_of x) ∷ pos (price_of x) ∷ pos (price_of x) ∷ pos i ∷ [];
})

-- they come in turn, each under its head
abbrev pub in_turn : {A : Type 0} → ℕ → A → A → A → A
in_turn i a b c = if i % 3 == 0 then a else (if i % 3 == 1 then b else c)

abbrev pub fed_head : ℕ → Message
fed_head i = in_turn i TickerData StreamData HistoryData

abbrev pub fed_item : ℕ → ℕ → Item
fed_item i x = in_turn i (quote_of i x) (trade_of i x) (candle_of i x)

-- one TAKE of each collector
abbrev pub three_takes : List Item
three_takes = Take Ticker 4096 ∷ Take Stream 4096 ∷ Take History 4096 ∷ []

-- all is taken behind each thousandth item and behind the last one; n is how many were fed
abbrev pub is_taking : ℕ → ℕ → Bool
is_taking count n = (n % 1000 == 0) || (n == count)

-- what is fed for one number
abbrev pub fed_block : ℕ → ℕ → ℕ → List Item
fed_block start count i = Head (fed_head i) ∷ fed_item i (drawn start (suc i)) ∷ (if is_taking count (i + 1) then three_takes else [])

-- what is fed for n numbers, from that of the item i on
abbrev pub fed : ℕ → ℕ → ℕ → ℕ → List Item
fed start count i zero = []
fed start count i (suc n) = fed_block start count i ++ fed start count (i + 1) n

-- the ten symbols are subscribed to in each collector, and the history begins with an empty snapshot of each
abbrev pub ten_digits : List ℕ
ten_digits = 0 ∷ 1 ∷ 2 ∷ 3 ∷ 4 ∷ 5 ∷ 6 ∷ 7 ∷ 8 ∷ 9 ∷ []

abbrev pub empty_snapshot : ℕ → Item
empty_snapshot digit = Ev (record { key = fed_key 2 digit; index = 0; flags = 14; cells = pos 0 ∷ pos 0 ∷ pos 0 ∷ pos 0 ∷ pos 0 ∷ [] })

unfoldable pub first_items : List Item
first_items =
    Protocol ∷ Head TickerAdd ∷ map (λ digit. Sub (fed_key 0 digit)) ten_digits
    ++ Head StreamAdd ∷ map (λ digit. Sub (fed_key 1 digit)) ten_digits
    ++ Head HistoryAdd ∷ map (λ digit. HistSub (record { key = fed_key 2 digit; limit = 0 })) ten_digits
    ++ Head HistoryData ∷ map empty_snapshot ten_digits

-- where nothing is fed, all is taken behind the opening
abbrev pub opening_block : ℕ → List Item
opening_block count = first_items ++ (if count == 0 then three_takes else [])

-- the items of the script
abbrev pub generated_items : ℕ → ℕ → List Item
generated_items start count = opening_block count ++ (fed start count 0 count ++ End ∷ [])

-- the lines of items
abbrev pub lines_text : List RecordDef → List Item → List ℕ
lines_text defs items = flat_map (line_of defs) items

-- and the text of the script, under the built-in scheme
unfoldable pub generated : ℕ → ℕ → List ℕ
generated start count = lines_text builtin_defs (generated_items start count)

-- a script that is being written, which has come to a stage
pub record Script : Type 0 where
  pub start : ℕ
  pub count : ℕ
  pub stage : Stage

-- the number drawn last
abbrev pub last_drawn : ℕ → Stage → ℕ
last_drawn start Opening = start
last_drawn start (Feeding i) = drawn start i
last_drawn start Over = start

-- the items that are left from a stage on
abbrev pub items_from : ℕ → ℕ → Stage → List Item
items_from start count Opening = generated_items start count
items_from start count (Feeding i) = fed start count i (count - i) ++ End ∷ []
items_from start count Over = []

-- and their lines
abbrev pub text_left : Script → List ℕ
text_left s = lines_text builtin_defs (items_from s.start s.count s.stage)

-- how many blocks are left
abbrev pub blocks_from : ℕ → Stage → ℕ
blocks_from count Opening = count + 2
blocks_from count (Feeding i) = (count - i) + 1
blocks_from count Over = 0

abbrev pub blocks_left : Script → ℕ
blocks_left s = blocks_from s.count s.stage

-- the bytes that are left of a source: of the lines that were made, and of the script
abbrev pub source_left : List ℕ → ℕ → Script → List ℕ
source_left lines at s = drop at lines ++ text_left s
