-- Worked lines, by evaluation.
use Rattle.std.specs.Fmt.{digits}
use Rattle.std.proofs.Common.{◌^◌, ◌-◌, ◌≡◌, ℕ, ◌∷◌, [], List, refl}
use Rattle.std.specs.Prelude.{codes, Ok, Err, Some, None, true, false, Result}
use lib.IntN.{pos, negsuc}
use Rattle.qd_decimal.specs.Reading.{dec_of, point_at, rest_at, whole_at, digits_end, zeros_end, int_of, count_of}
use Rattle.qd_decimal.specs.declared.fault.DecFault.TheVariants.{Empty, BadByte, TooFine, TooLarge}
use Rattle.qd_scheme.specs.declared.defs.RecordDef.{RecordDef}
use Rattle.qd_scheme.specs.Symbols.{symbol_of}
use Rattle.qd_scheme.specs.declared.defs.FieldKind.TheVariants.{Int, Dec}
use Rattle.qd_grammar.specs.declared.item.Message.{Message}
use Rattle.qd_grammar.specs.declared.item.Message.TheVariants.{TickerData, StreamData, HistoryData, StreamLost, TickerAdd, StreamAdd, HistoryAdd, TickerRemove, StreamRemove, HistoryRemove}
use Rattle.qd_grammar.specs.declared.item.Mode.{Mode}
use Rattle.qd_grammar.specs.declared.item.Mode.TheVariants.{Down, Up, File}
use Rattle.qd_grammar.specs.declared.item.Item.{Item}
use Rattle.qd_grammar.specs.declared.item.Item.TheVariants.{Protocol, Head, Describe, Rec, Ev, Sub, HistSub, Lost, Heartbeat, End, Time, Link, Take, Node, At, Pump, Move}
use Rattle.qd_grammar.specs.declared.item.Collector.TheVariants.{Ticker, Stream, History}
use Rattle.qd_grammar.specs.declared.item.Way.TheVariants as ways
use Rattle.qd_grammar.specs.declared.word.Word.TheVariants as words
use Rattle.qd_grammar.specs.declared.fault.Fault.{Fault}
use Rattle.qd_grammar.specs.declared.state.State.{State}
use Rattle.qd_grammar.specs.declared.fault.Why.TheVariants.{Form, UnknownRecord, SchemeMismatch, Number, BadSymbol, BadFlags, Order}
use Rattle.qd_grammar.specs.Lines.{first_state, item_of, answer_of}
use Rattle.qd_grammar.specs.Words.{word_of}
use Rattle.qd_grammar.specs.Fields.{cell_at, count_at, symbol_at, word_at, record_at, hist_at, flags_at, loss_at}
use Rattle.qd_grammar.specs.Body.{key_at, record_line, event_line, sub_line, hist_sub_line, lost_line}
use Rattle.qd_grammar.specs.Control.{behind_word, describe_line}
use Rattle.qd_decimal.specs.Texts.{dec_text, magnitude_text}
use Rattle.qd_grammar.specs.Canonical.{canonical, joined}

-- the built-in scheme
abbrev pub builtin : List RecordDef
builtin =
    record { name = codes "Quote"; hist = false; fields = record { name = codes "BidPrice"; kind = Dec 4 } ∷ record { name = codes "BidSize"; kind = Int } ∷ record { name = codes "AskPrice"; kind = Dec 4 } ∷ record { name = codes "AskSize"; kind = Int } ∷ [] } ∷
    record { name = codes "Trade"; hist = false; fields = record { name = codes "Price"; kind = Dec 4 } ∷ record { name = codes "Size"; kind = Int } ∷ record { name = codes "Volume"; kind = Int } ∷ [] } ∷
    record { name = codes "Candle"; hist = true; fields = record { name = codes "Open"; kind = Dec 4 } ∷ record { name = codes "High"; kind = Dec 4 } ∷ record { name = codes "Low"; kind = Dec 4 } ∷ record { name = codes "Close"; kind = Dec 4 } ∷ record { name = codes "Volume"; kind = Int } ∷ [] } ∷
    record { name = codes "Order"; hist = true; fields = record { name = codes "Price"; kind = Dec 4 } ∷ record { name = codes "Size"; kind = Int } ∷ record { name = codes "Side"; kind = Int } ∷ [] } ∷ []

abbrev pub under : Message → State
under message = record { started = true; message = Some message; time = 0 }

read_zeros : dec_of 4 (codes "1.50000") ≡ Ok (pos 15000)
unfolding dec_of point_at rest_at digits_end zeros_end
read_zeros = refl

read_short : dec_of 4 (codes "1.5") ≡ Ok (pos 15000)
unfolding dec_of point_at rest_at digits_end zeros_end
read_short = refl

read_fine : dec_of 4 (codes "1.23456") ≡ Err (TooFine 7)
unfolding dec_of point_at rest_at digits_end zeros_end
read_fine = refl

read_minus_zero : dec_of 4 (codes "-0") ≡ Ok (pos 0)
unfolding dec_of point_at rest_at digits_end zeros_end
read_minus_zero = refl

read_point : dec_of 4 (codes "5.") ≡ Ok (pos 50000)
unfolding dec_of point_at rest_at digits_end zeros_end
read_point = refl

read_no_digit : dec_of 4 (codes ".5") ≡ Err (BadByte 1)
unfolding dec_of point_at rest_at digits_end zeros_end
read_no_digit = refl

read_exponent : dec_of 4 (codes "1e2") ≡ Err (BadByte 2)
unfolding dec_of point_at rest_at digits_end zeros_end
read_exponent = refl

read_minus : dec_of 4 (codes "-") ≡ Err (BadByte 2)
unfolding dec_of point_at rest_at digits_end zeros_end
read_minus = refl

read_empty : dec_of 4 (codes "") ≡ Err Empty
unfolding dec_of point_at rest_at digits_end zeros_end
read_empty = refl

read_large : dec_of 4 (codes "922337203685477.5808") ≡ Err TooLarge
unfolding dec_of point_at rest_at digits_end zeros_end
read_large = refl

read_least : dec_of 4 (codes "-922337203685477.5808") ≡ Ok (negsuc (2 ^ 63 - 1))
unfolding dec_of point_at rest_at digits_end zeros_end
read_least = refl

too_fine : item_of File (under TickerData) builtin (joined (codes "Quote" ∷ codes "IBM" ∷ codes "1.23456" ∷ codes "5" ∷ codes "101" ∷ codes "7" ∷ [])) ≡ Err (record { place = 17; why = Number (TooFine 7) })
unfolding word_of item_of dec_of point_at rest_at digits_end zeros_end int_of whole_at count_of symbol_of cell_at count_at symbol_at word_at record_at hist_at key_at flags_at loss_at record_line event_line sub_line hist_sub_line lost_line behind_word describe_line
too_fine = refl

order_flags : item_of File (under HistoryData) builtin (joined (codes "Order" ∷ codes "A" ∷ codes "5" ∷ codes "64" ∷ codes "1.0" ∷ codes "1" ∷ codes "1" ∷ [])) ≡ Ok (Ev (record { key = record { rec = 3; sym = codes "A" }; index = 5; flags = 64; cells = pos 10000 ∷ pos 1 ∷ pos 1 ∷ [] }))
unfolding word_of item_of dec_of point_at rest_at digits_end zeros_end int_of whole_at count_of symbol_of cell_at count_at symbol_at word_at record_at hist_at key_at flags_at loss_at record_line event_line sub_line hist_sub_line lost_line behind_word describe_line
order_flags = refl

bad_flags : item_of File (under HistoryData) builtin (joined (codes "Order" ∷ codes "A" ∷ codes "5" ∷ codes "32" ∷ codes "1.0" ∷ codes "1" ∷ codes "1" ∷ [])) ≡ Err (record { place = 11; why = BadFlags })
unfolding word_of item_of dec_of point_at rest_at digits_end zeros_end int_of whole_at count_of symbol_of cell_at count_at symbol_at word_at record_at hist_at key_at flags_at loss_at record_line event_line sub_line hist_sub_line lost_line behind_word describe_line
bad_flags = refl

large_flags : item_of File (under HistoryData) builtin (joined (codes "Order" ∷ codes "A" ∷ codes "5" ∷ codes "256" ∷ codes "1.0" ∷ codes "1" ∷ codes "1" ∷ [])) ≡ Err (record { place = 11; why = Number TooLarge })
unfolding word_of item_of dec_of point_at rest_at digits_end zeros_end int_of whole_at count_of symbol_of cell_at count_at symbol_at word_at record_at hist_at key_at flags_at loss_at record_line event_line sub_line hist_sub_line lost_line behind_word describe_line
large_flags = refl

protocol : item_of File first_state builtin (joined (codes "==PROTOCOL" ∷ codes "1" ∷ [])) ≡ Ok Protocol
unfolding word_of item_of dec_of point_at rest_at digits_end zeros_end int_of whole_at count_of symbol_of cell_at count_at symbol_at word_at record_at hist_at key_at flags_at loss_at record_line event_line sub_line hist_sub_line lost_line behind_word describe_line
protocol = refl

description : item_of File (under HistoryData) builtin (joined (codes "=Quote" ∷ codes "BidPrice:d4" ∷ codes "BidSize:i" ∷ codes "AskPrice:d4" ∷ codes "AskSize:i" ∷ [])) ≡ Ok (Describe 0)
unfolding word_of item_of dec_of point_at rest_at digits_end zeros_end int_of whole_at count_of symbol_of cell_at count_at symbol_at word_at record_at hist_at key_at flags_at loss_at record_line event_line sub_line hist_sub_line lost_line behind_word describe_line digits
description = refl

quote : item_of File (under TickerData) builtin (joined (codes "Quote" ∷ codes "IBM" ∷ codes "189.9500" ∷ codes "3" ∷ codes "190.0100" ∷ codes "12" ∷ [])) ≡ Ok (Rec (record { key = record { rec = 0; sym = codes "IBM" }; cells = pos 1899500 ∷ pos 3 ∷ pos 1900100 ∷ pos 12 ∷ [] }))
unfolding word_of item_of dec_of point_at rest_at digits_end zeros_end int_of whole_at count_of symbol_of cell_at count_at symbol_at word_at record_at hist_at key_at flags_at loss_at record_line event_line sub_line hist_sub_line lost_line behind_word describe_line
quote = refl

hist_sub : item_of File (under HistoryAdd) builtin (joined (codes "Candle" ∷ codes "IBM{=d}" ∷ codes "20240102" ∷ [])) ≡ Ok (HistSub (record { key = record { rec = 2; sym = codes "IBM{=d}" }; limit = 20240102 }))
unfolding word_of item_of dec_of point_at rest_at digits_end zeros_end int_of whole_at count_of symbol_of cell_at count_at symbol_at word_at record_at hist_at key_at flags_at loss_at record_line event_line sub_line hist_sub_line lost_line behind_word describe_line
hist_sub = refl

take : item_of File (under TickerData) builtin (joined (codes "==TAKE" ∷ codes "TICKER" ∷ codes "10" ∷ [])) ≡ Ok (Take Ticker 10)
unfolding word_of item_of dec_of point_at rest_at digits_end zeros_end int_of whole_at count_of symbol_of cell_at count_at symbol_at word_at record_at hist_at key_at flags_at loss_at record_line event_line sub_line hist_sub_line lost_line behind_word describe_line
take = refl

quote_again : canonical builtin (Rec (record { key = record { rec = 0; sym = codes "IBM" }; cells = pos 1899500 ∷ pos 3 ∷ pos 1900100 ∷ pos 12 ∷ [] })) ≡ joined (codes "Quote" ∷ codes "IBM" ∷ codes "189.95" ∷ codes "3" ∷ codes "190.01" ∷ codes "12" ∷ [])
unfolding canonical digits dec_text magnitude_text
quote_again = refl

canonical_hist : canonical builtin (Ev (record { key = record { rec = 2; sym = codes "IBM{=d}" }; index = 20240103; flags = 4; cells = pos 1885000 ∷ pos 1902500 ∷ pos 1879000 ∷ negsuc 1899699 ∷ pos 3500 ∷ [] })) ≡ joined (codes "Candle" ∷ codes "IBM{=d}" ∷ codes "20240103" ∷ codes "4" ∷ codes "188.5" ∷ codes "190.25" ∷ codes "187.9" ∷ codes "-189.97" ∷ codes "3500" ∷ [])
unfolding canonical digits dec_text magnitude_text
canonical_hist = refl

abbrev pub at_time : ℕ → State
at_time ms = record { started = true; message = None; time = ms }

abbrev pub said : Mode → State → List (List ℕ) → Result Item Fault
said mode s parts = item_of mode s builtin (joined parts)

-- each control word with what stands behind it
control_lines :
    (said File (at_time 5) (codes "==LINK" ∷ codes "3" ∷ []) ≡ Ok (Link 3))
    × (said File (at_time 5) (codes "==PUMP" ∷ codes "4" ∷ []) ≡ Ok (Pump 4))
    × (said File (at_time 5) (codes "==NODE" ∷ codes "1" ∷ codes "2" ∷ []) ≡ Ok (Node 1 2))
    × (said File (at_time 5) (codes "==AT" ∷ codes "7" ∷ codes "2" ∷ []) ≡ Ok (At 7 2))
    × (said File (at_time 5) (codes "==MOVE" ∷ codes "7" ∷ codes "UP" ∷ codes "9" ∷ []) ≡ Ok (Move 7 ways.Up 9))
    × (said File (at_time 5) (codes "==MOVE" ∷ codes "7" ∷ codes "DOWN" ∷ codes "9" ∷ []) ≡ Ok (Move 7 ways.Down 9))
    × (said File (at_time 5) (codes "==TIME" ∷ codes "5" ∷ []) ≡ Ok (Time 5))
    × (said File (at_time 5) (codes "==TIME" ∷ codes "4" ∷ []) ≡ Err (record { place = 1; why = Order }))
    × (said File (at_time 5) (codes "==TAKE" ∷ codes "STREAM" ∷ codes "2" ∷ []) ≡ Ok (Take Stream 2))
    × (said File (at_time 5) (codes "==TAKE" ∷ codes "HISTORY" ∷ codes "2" ∷ []) ≡ Ok (Take History 2))
    × (said File (at_time 5) (codes "==HEARTBEAT" ∷ []) ≡ Ok Heartbeat)
    × (said File (at_time 5) (codes "==END" ∷ []) ≡ Ok End)
    × (said File (at_time 5) (codes "==WORD" ∷ []) ≡ Err (record { place = 3; why = Form }))
unfolding word_of item_of dec_of point_at rest_at digits_end zeros_end int_of whole_at count_of symbol_of cell_at count_at symbol_at word_at record_at hist_at key_at flags_at loss_at record_line event_line sub_line hist_sub_line lost_line behind_word describe_line
control_lines = (refl, refl, refl, refl, refl, refl, refl, refl, refl, refl, refl, refl, refl)

-- where a line may stand
places :
    (said Down (at_time 5) (codes "==TICKER_ADD_SUBSCRIPTION" ∷ []) ≡ Ok (Head TickerAdd))
    × (said Up (at_time 5) (codes "==TICKER_ADD_SUBSCRIPTION" ∷ []) ≡ Err (record { place = 1; why = Order }))
    × (said Up (at_time 5) (codes "==HISTORY_REMOVE_SUBSCRIPTION" ∷ []) ≡ Err (record { place = 1; why = Order }))
    × (said Up (at_time 5) (codes "==TICKER_DATA" ∷ []) ≡ Ok (Head TickerData))
    × (said Up (at_time 5) (codes "==LINK" ∷ codes "3" ∷ []) ≡ Err (record { place = 3; why = Form }))
    × (said Down (at_time 5) (codes "==TIME" ∷ codes "9" ∷ []) ≡ Err (record { place = 3; why = Form }))
    × (said File (at_time 5) (codes "==PROTOCOL" ∷ codes "1" ∷ []) ≡ Err (record { place = 1; why = Order }))
    × (said File (at_time 5) (codes "Quote" ∷ codes "IBM" ∷ []) ≡ Err (record { place = 1; why = Order }))
    × (said File first_state (codes "==END" ∷ []) ≡ Err (record { place = 1; why = Order }))
    × (said File first_state (codes "==PROTOCOL" ∷ codes "2" ∷ []) ≡ Err (record { place = 12; why = Form }))
unfolding word_of item_of dec_of point_at rest_at digits_end zeros_end int_of whole_at count_of symbol_of cell_at count_at symbol_at word_at record_at hist_at key_at flags_at loss_at record_line event_line sub_line hist_sub_line lost_line behind_word describe_line
places = (refl, refl, refl, refl, refl, refl, refl, refl, refl, refl)

-- body lines under their messages
bodies :
    (said File (under StreamLost) (codes "Trade" ∷ codes "A" ∷ codes "1" ∷ []) ≡ Ok (Lost (record { rec = 1; sym = codes "A" }) 1))
    × (said File (under StreamLost) (codes "Trade" ∷ codes "A" ∷ codes "0" ∷ []) ≡ Err (record { place = 9; why = Form }))
    × (said File (under TickerAdd) (codes "Quote" ∷ codes "IBM" ∷ []) ≡ Ok (Sub (record { rec = 0; sym = codes "IBM" })))
    × (said File (under StreamRemove) (codes "Trade" ∷ codes "A" ∷ []) ≡ Ok (Sub (record { rec = 1; sym = codes "A" })))
    × (said File (under HistoryRemove) (codes "Candle" ∷ codes "A" ∷ []) ≡ Ok (Sub (record { rec = 2; sym = codes "A" })))
    × (said File (under HistoryRemove) (codes "Quote" ∷ codes "A" ∷ []) ≡ Err (record { place = 1; why = Form }))
    × (said File (under HistoryAdd) (codes "Quote" ∷ codes "A" ∷ codes "1" ∷ []) ≡ Err (record { place = 1; why = Form }))
    × (said File (under StreamData) (codes "Bond" ∷ codes "A" ∷ []) ≡ Err (record { place = 1; why = UnknownRecord }))
    × (said File (under TickerRemove) (codes "Quote" ∷ []) ≡ Err (record { place = 6; why = Form }))
    × (said File (under StreamAdd) (codes "Quote" ∷ codes "IBM" ∷ codes "x" ∷ []) ≡ Err (record { place = 11; why = Form }))
    × (said File (under TickerAdd) (codes "Quote" ∷ codes "I M" ∷ []) ≡ Err (record { place = 8; why = BadSymbol }))
    × (said File (under TickerData) (codes "=Trade" ∷ codes "Price:d3" ∷ codes "Size:i" ∷ codes "Volume:i" ∷ []) ≡ Err (record { place = 8; why = SchemeMismatch }))
unfolding word_of item_of dec_of point_at rest_at digits_end zeros_end int_of whole_at count_of symbol_of cell_at count_at symbol_at word_at record_at hist_at key_at flags_at loss_at record_line event_line sub_line hist_sub_line lost_line behind_word describe_line digits
bodies = (refl, refl, refl, refl, refl, refl, refl, refl, refl, refl, refl, refl)

-- the heads
head_words :
    (word_of (codes "==TICKER_DATA") ≡ Some (words.Head TickerData))
    × (word_of (codes "==STREAM_DATA") ≡ Some (words.Head StreamData))
    × (word_of (codes "==HISTORY_DATA") ≡ Some (words.Head HistoryData))
    × (word_of (codes "==STREAM_LOST") ≡ Some (words.Head StreamLost))
    × (word_of (codes "==TICKER_ADD_SUBSCRIPTION") ≡ Some (words.Head TickerAdd))
    × (word_of (codes "==STREAM_ADD_SUBSCRIPTION") ≡ Some (words.Head StreamAdd))
    × (word_of (codes "==HISTORY_ADD_SUBSCRIPTION") ≡ Some (words.Head HistoryAdd))
    × (word_of (codes "==TICKER_REMOVE_SUBSCRIPTION") ≡ Some (words.Head TickerRemove))
    × (word_of (codes "==STREAM_REMOVE_SUBSCRIPTION") ≡ Some (words.Head StreamRemove))
    × (word_of (codes "==HISTORY_REMOVE_SUBSCRIPTION") ≡ Some (words.Head HistoryRemove))
unfolding word_of
head_words = (refl, refl, refl, refl, refl, refl, refl, refl, refl, refl)

-- comments and empty lines are skipped, and descriptions are not
skipped_lines :
    (answer_of File first_state builtin (codes "#x") ≡ Ok None)
    × (answer_of File first_state builtin [] ≡ Ok None)
    × (answer_of File (at_time 5) builtin (joined (codes "=Trade" ∷ codes "Price:d4" ∷ codes "Size:i" ∷ codes "Volume:i" ∷ [])) ≡ Ok (Some (Describe 1)))
unfolding word_of item_of dec_of point_at rest_at digits_end zeros_end int_of whole_at count_of symbol_of cell_at count_at symbol_at word_at record_at hist_at key_at flags_at loss_at record_line event_line sub_line hist_sub_line lost_line behind_word describe_line digits
skipped_lines = (refl, refl, refl)
