-- Which fault a line has and at which place, and the state behind each item, by evaluation.
use Rattle.std.specs.Fmt.{digits}
use Rattle.std.proofs.Common.{◌≡◌, ◌∷◌, [], refl}
use Rattle.std.specs.Prelude.{codes, Ok, Err, Some, None, true, false}
use lib.IntN.{pos}
use Rattle.qd_decimal.specs.Reading.{dec_of, point_at, rest_at, whole_at, digits_end, zeros_end, int_of, count_of}
use Rattle.qd_decimal.specs.declared.fault.DecFault.TheVariants.{Empty, BadByte, TooLarge}
use Rattle.qd_scheme.specs.Symbols.{symbol_of}
use Rattle.qd_scheme.specs.declared.key.Key.{Key}
use Rattle.qd_grammar.specs.declared.item.Message.TheVariants.{TickerData, HistoryData, StreamLost, HistoryAdd}
use Rattle.qd_grammar.specs.declared.item.Mode.TheVariants.{Up, File}
use Rattle.qd_grammar.specs.declared.item.Item.TheVariants.{Protocol, Head, Describe, Rec, Ev, Sub, HistSub, Lost, Heartbeat, End, Time, Link, Take, Node, At, Pump, Move}
use Rattle.qd_grammar.specs.declared.item.Collector.TheVariants.{Ticker}
use Rattle.qd_grammar.specs.declared.item.Way.TheVariants as ways
use Rattle.qd_grammar.specs.declared.state.State.{State}
use Rattle.qd_grammar.specs.declared.fault.Why.TheVariants.{Form, UnknownRecord, SchemeMismatch, Number, BadSymbol, BadFlags, Order}
use Rattle.qd_grammar.specs.Lines.{first_state, after, item_of}
use Rattle.qd_grammar.specs.Words.{word_of}
use Rattle.qd_grammar.specs.Fields.{cell_at, count_at, symbol_at, word_at, record_at, hist_at, flags_at, loss_at}
use Rattle.qd_grammar.specs.Body.{key_at, record_line, event_line, sub_line, hist_sub_line, lost_line}
use Rattle.qd_grammar.specs.Control.{behind_word, describe_line}
use Rattle.qd_grammar.proofs.Rows.{under, at_time, said}

-- a cell's fault is told at its byte, or at the part
cell_faults :
    (said File (under TickerData) (codes "Quote" ∷ codes "IBM" ∷ codes "1x2" ∷ codes "3" ∷ codes "1" ∷ codes "1" ∷ []) ≡ Err (record { place = 12; why = Number (BadByte 2) }))
    × (said File (under TickerData) (codes "Quote" ∷ codes "IBM" ∷ codes "" ∷ codes "3" ∷ codes "1" ∷ codes "1" ∷ []) ≡ Err (record { place = 11; why = Number Empty }))
    × (said File (under TickerData) (codes "Quote" ∷ codes "IBM" ∷ codes "922337203685477.5808" ∷ codes "3" ∷ codes "1" ∷ codes "1" ∷ []) ≡ Err (record { place = 11; why = Number TooLarge }))
    × (said File (under TickerData) (codes "Quote" ∷ codes "IBM" ∷ codes "1" ∷ codes "5." ∷ codes "1" ∷ codes "1" ∷ []) ≡ Err (record { place = 14; why = Number (BadByte 2) }))
    × (said File (under TickerData) (codes "Quote" ∷ codes "IBM" ∷ codes "1" ∷ codes "9223372036854775808" ∷ codes "1" ∷ codes "1" ∷ []) ≡ Err (record { place = 13; why = Number TooLarge }))
    × (said File (under TickerData) (codes "Quote" ∷ codes "IBM" ∷ codes "1" ∷ []) ≡ Err (record { place = 12; why = Form }))
    × (said File (under TickerData) (codes "Quote" ∷ codes "IBM" ∷ codes "1" ∷ codes "2" ∷ codes "3" ∷ codes "4" ∷ codes "5" ∷ []) ≡ Err (record { place = 19; why = Form }))
unfolding word_of item_of dec_of point_at rest_at digits_end zeros_end int_of whole_at count_of symbol_of cell_at count_at symbol_at word_at record_at hist_at key_at flags_at loss_at record_line event_line sub_line hist_sub_line lost_line behind_word describe_line digits
cell_faults = (refl, refl, refl, refl, refl, refl, refl)

-- a record's fault is told at its name, a symbol's at its byte
key_faults :
    (said File (under TickerData) (codes "" ∷ codes "A" ∷ codes "1" ∷ []) ≡ Err (record { place = 1; why = UnknownRecord }))
    × (said File (under TickerData) (codes "Quote" ∷ codes "" ∷ codes "1" ∷ []) ≡ Err (record { place = 7; why = BadSymbol }))
    × (said File (under TickerData) (codes "Quote" ∷ codes "=A" ∷ codes "1" ∷ []) ≡ Err (record { place = 7; why = BadSymbol }))
    × (said File (under TickerData) (codes "Quote" ∷ codes "AB C" ∷ codes "1" ∷ []) ≡ Err (record { place = 9; why = BadSymbol }))
    × (said File (under HistoryData) (codes "Quote" ∷ codes "A" ∷ codes "1" ∷ []) ≡ Err (record { place = 1; why = Form }))
    × (said File (under StreamLost) (codes "Bond" ∷ codes "A" ∷ codes "1" ∷ []) ≡ Err (record { place = 1; why = UnknownRecord }))
unfolding word_of item_of dec_of point_at rest_at digits_end zeros_end int_of whole_at count_of symbol_of cell_at count_at symbol_at word_at record_at hist_at key_at flags_at loss_at record_line event_line sub_line hist_sub_line lost_line behind_word describe_line digits
key_faults = (refl, refl, refl, refl, refl, refl)

-- indexes, flags, limits and losses
count_faults :
    (said File (under HistoryData) (codes "Order" ∷ codes "A" ∷ codes "9223372036854775808" ∷ codes "0" ∷ codes "1" ∷ codes "1" ∷ codes "1" ∷ []) ≡ Err (record { place = 9; why = Number TooLarge }))
    × (said File (under HistoryData) (codes "Order" ∷ codes "A" ∷ codes "-1" ∷ codes "0" ∷ codes "1" ∷ codes "1" ∷ codes "1" ∷ []) ≡ Err (record { place = 9; why = Number (BadByte 1) }))
    × (said File (under HistoryData) (codes "Order" ∷ codes "A" ∷ codes "5" ∷ codes "128" ∷ codes "1" ∷ codes "1" ∷ codes "1" ∷ []) ≡ Err (record { place = 11; why = BadFlags }))
    × (said File (under HistoryData) (codes "Order" ∷ codes "A" ∷ codes "5" ∷ codes "" ∷ codes "1" ∷ codes "1" ∷ codes "1" ∷ []) ≡ Err (record { place = 11; why = Number Empty }))
    × (said File (under HistoryAdd) (codes "Order" ∷ codes "A" ∷ codes "9223372036854775808" ∷ []) ≡ Err (record { place = 9; why = Number TooLarge }))
    × (said File (under HistoryAdd) (codes "Order" ∷ codes "A" ∷ []) ≡ Err (record { place = 8; why = Form }))
    × (said File (under StreamLost) (codes "Trade" ∷ codes "A" ∷ codes "18446744073709551616" ∷ []) ≡ Err (record { place = 9; why = Number TooLarge }))
    × (said File (under StreamLost) (codes "Trade" ∷ codes "A" ∷ codes "18446744073709551615" ∷ []) ≡ Ok (Lost (record { rec = 1; sym = codes "A" }) 18446744073709551615))
unfolding word_of item_of dec_of point_at rest_at digits_end zeros_end int_of whole_at count_of symbol_of cell_at count_at symbol_at word_at record_at hist_at key_at flags_at loss_at record_line event_line sub_line hist_sub_line lost_line behind_word describe_line digits
count_faults = (refl, refl, refl, refl, refl, refl, refl, refl)

-- a description that is not the record's is told at the first part that differs, one that is too short at its end
descriptions :
    (said File (at_time 5) (codes "=Order" ∷ codes "*" ∷ codes "Price:d4" ∷ codes "Size:i" ∷ codes "Side:i" ∷ []) ≡ Ok (Describe 3))
    × (said File (at_time 5) (codes "=Order" ∷ codes "Price:d4" ∷ codes "Size:i" ∷ codes "Side:i" ∷ []) ≡ Err (record { place = 8; why = SchemeMismatch }))
    × (said File (at_time 5) (codes "=Trade" ∷ codes "*" ∷ codes "Price:d4" ∷ codes "Size:i" ∷ codes "Volume:i" ∷ []) ≡ Err (record { place = 8; why = SchemeMismatch }))
    × (said File (at_time 5) (codes "=Trade" ∷ codes "Price:d4" ∷ codes "Size:d0" ∷ codes "Volume:i" ∷ []) ≡ Err (record { place = 17; why = SchemeMismatch }))
    × (said File (at_time 5) (codes "=Trade" ∷ codes "Price:d4" ∷ codes "Size:i" ∷ []) ≡ Err (record { place = 23; why = SchemeMismatch }))
    × (said File (at_time 5) (codes "=Trade" ∷ codes "Price:d4" ∷ codes "Size:i" ∷ codes "Volume:i" ∷ codes "x" ∷ []) ≡ Err (record { place = 33; why = SchemeMismatch }))
    × (said File (at_time 5) (codes "=Bond" ∷ codes "Price:d4" ∷ []) ≡ Err (record { place = 2; why = UnknownRecord }))
    × (said File (at_time 5) (codes "=" ∷ []) ≡ Err (record { place = 2; why = UnknownRecord }))
unfolding word_of item_of dec_of point_at rest_at digits_end zeros_end int_of whole_at count_of symbol_of cell_at count_at symbol_at word_at record_at hist_at key_at flags_at loss_at record_line event_line sub_line hist_sub_line lost_line behind_word describe_line digits
descriptions = (refl, refl, refl, refl, refl, refl, refl, refl)

-- behind a control word
control_faults :
    (said File (at_time 5) (codes "==LINK" ∷ []) ≡ Err (record { place = 7; why = Form }))
    × (said File (at_time 5) (codes "==LINK" ∷ codes "3" ∷ codes "4" ∷ []) ≡ Err (record { place = 10; why = Form }))
    × (said File (at_time 5) (codes "==LINK" ∷ codes "x" ∷ []) ≡ Err (record { place = 8; why = Number (BadByte 1) }))
    × (said File (at_time 5) (codes "==LINK" ∷ codes "" ∷ []) ≡ Err (record { place = 8; why = Number Empty }))
    × (said File (at_time 5) (codes "==LINK" ∷ codes "9223372036854775808" ∷ []) ≡ Err (record { place = 8; why = Number TooLarge }))
    × (said File (at_time 5) (codes "==NODE" ∷ codes "1" ∷ []) ≡ Err (record { place = 9; why = Form }))
    × (said File (at_time 5) (codes "==TAKE" ∷ codes "BOND" ∷ codes "1" ∷ []) ≡ Err (record { place = 8; why = Form }))
    × (said File (at_time 5) (codes "==TAKE" ∷ codes "TICKER" ∷ []) ≡ Err (record { place = 14; why = Form }))
    × (said File (at_time 5) (codes "==MOVE" ∷ codes "1" ∷ codes "SIDE" ∷ codes "2" ∷ []) ≡ Err (record { place = 10; why = Form }))
    × (said File (at_time 5) (codes "==END" ∷ codes "x" ∷ []) ≡ Err (record { place = 7; why = Form }))
    × (said File (at_time 5) (codes "==TICKER_DATA" ∷ codes "x" ∷ []) ≡ Err (record { place = 15; why = Form }))
    × (said File (at_time 5) (codes "==TIME" ∷ codes "4" ∷ codes "x" ∷ []) ≡ Err (record { place = 1; why = Order }))
    × (said File (at_time 5) (codes "==TIME" ∷ codes "6" ∷ codes "x" ∷ []) ≡ Err (record { place = 10; why = Form }))
    × (said Up (at_time 5) (codes "==TICKER_ADD_SUBSCRIPTION" ∷ codes "x" ∷ []) ≡ Err (record { place = 1; why = Order }))
    × (said File first_state (codes "==PROTOCOL" ∷ codes "1" ∷ codes "x" ∷ []) ≡ Err (record { place = 14; why = Form }))
    × (said File first_state (codes "==PROTOCOL" ∷ []) ≡ Err (record { place = 11; why = Form }))
    × (said File first_state (codes "Quote" ∷ codes "IBM" ∷ codes "1" ∷ []) ≡ Err (record { place = 1; why = Order }))
unfolding word_of item_of dec_of point_at rest_at digits_end zeros_end int_of whole_at count_of symbol_of cell_at count_at symbol_at word_at record_at hist_at key_at flags_at loss_at record_line event_line sub_line hist_sub_line lost_line behind_word describe_line digits
control_faults = (refl, refl, refl, refl, refl, refl, refl, refl, refl, refl, refl, refl, refl, refl, refl, refl, refl)

abbrev there : State
there = record { started = true; message = Some StreamLost; time = 5 }

abbrev a : Key
a = record { rec = 2; sym = codes "A" }

-- PROTOCOL, a head and TIME change the state
states_behind :
    (first_state ≡ record { started = false; message = None; time = 0 })
    × (after Protocol first_state ≡ record { started = true; message = None; time = 0 })
    × (after (Head TickerData) there ≡ record { started = true; message = Some TickerData; time = 5 })
    × (after (Time 9) there ≡ record { started = true; message = Some StreamLost; time = 9 })
states_behind = (refl, refl, refl, refl)

-- and no other item does
states_left :
    (after (Describe 0) there ≡ there)
    × (after (Rec (record { key = a; cells = pos 1 ∷ [] })) there ≡ there)
    × (after (Ev (record { key = a; index = 1; flags = 0; cells = [] })) there ≡ there)
    × (after (Sub a) there ≡ there)
    × (after (HistSub (record { key = a; limit = 1 })) there ≡ there)
    × (after (Lost a 1) there ≡ there)
    × (after Heartbeat there ≡ there)
    × (after End there ≡ there)
    × (after (Link 1) there ≡ there)
    × (after (Take Ticker 1) there ≡ there)
    × (after (Node 1 2) there ≡ there)
    × (after (At 1 2) there ≡ there)
    × (after (Pump 1) there ≡ there)
    × (after (Move 1 ways.Up 2) there ≡ there)
states_left = (refl, refl, refl, refl, refl, refl, refl, refl, refl, refl, refl, refl, refl, refl)
