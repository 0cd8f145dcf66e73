-- Worked tapes and scripts, by evaluation.
use Rattle.std.specs.Fmt.{digits}
use Rattle.std.proofs.Common.{◌≡◌, ℕ, Some, None, List, [], ◌∷◌, ◌++◌, refl}
use Rattle.std.specs.Prelude.{codes, pos}
use Rattle.qd_decimal.specs.Texts.{dec_text, magnitude_text}
use Rattle.qd_grammar.specs.Canonical.{canonical, joined}
use Rattle.qd_grammar.specs.declared.item.Item.{Item}
use Rattle.qd_grammar.specs.declared.item.Item.TheVariants as items
use Rattle.qd_grammar.specs.declared.item.Message.TheVariants.{TickerData}
use Rattle.qd_scheme.specs.Builtin.{builtin_defs}
use Rattle.qd_tape.specs.Reading.{taped, tape_of}
use Rattle.qd_tape.specs.Scripts.{drawn, fed, fed_key, lines_text, three_takes}

-- the first numbers drawn from 1
first_drawn : drawn 1 1 ≡ 48271
first_drawn = refl

second_drawn : drawn 1 2 ≡ 182605794
second_drawn = refl

third_drawn : drawn 1 3 ≡ 1291394886
third_drawn = refl

-- what is fed for them, and the TAKEs behind the last one
abbrev takes_text : List ℕ
takes_text = joined (codes "==TAKE" ∷ codes "TICKER" ∷ codes "4096" ∷ []) ++ 10 ∷ joined (codes "==TAKE" ∷ codes "STREAM" ∷ codes "4096" ∷ []) ++ 10 ∷ joined (codes "==TAKE" ∷ codes "HISTORY" ∷ codes "4096" ∷ []) ++ 10 ∷ []

three_fed : lines_text builtin_defs (fed 1 3 0 3) ≡
    codes "==TICKER_DATA" ++ 10 ∷ joined (codes "Quote" ∷ codes "S1" ∷ codes "4.8272" ∷ codes "0" ∷ codes "4.8372" ∷ codes "1" ∷ []) ++ 10 ∷
    codes "==STREAM_DATA" ++ 10 ∷ joined (codes "Trade" ∷ codes "S4" ∷ codes "60.5795" ∷ codes "1" ∷ codes "182605794" ∷ []) ++ 10 ∷
    codes "==HISTORY_DATA" ++ 10 ∷ joined (codes "Candle" ∷ codes "S6" ∷ codes "3" ∷ codes "0" ∷ codes "39.4887" ∷ codes "39.4887" ∷ codes "39.4887" ∷ codes "39.4887" ∷ codes "2" ∷ []) ++ 10 ∷
    takes_text
unfolding canonical digits dec_text magnitude_text
three_fed = refl

takes_written : lines_text builtin_defs three_takes ≡ takes_text
unfolding canonical digits
takes_written = refl

-- two items at 5, one at 7, and one that seems to come at 6, between PROTOCOL and END
abbrev quote : ℕ → Item
quote n = items.Rec (record { key = fed_key 0 n; cells = pos 10000 ∷ pos 1 ∷ pos 10000 ∷ pos 1 ∷ [] })

some_times : taped None
    (record { ms = 3; item = items.Protocol } ∷ record { ms = 5; item = items.Head TickerData } ∷ record { ms = 5; item = quote 1 } ∷ record { ms = 7; item = quote 2 } ∷ record { ms = 6; item = quote 3 } ∷ record { ms = 9; item = items.End } ∷ []) ≡
    items.Protocol ∷ items.Time 5 ∷ items.Head TickerData ∷ quote 1 ∷ items.Time 7 ∷ quote 2 ∷ quote 3 ∷ items.End ∷ []
some_times = refl

-- a first time of 0 is written too
from_nothing_on : taped None (record { ms = 0; item = items.Heartbeat } ∷ record { ms = 0; item = items.Heartbeat } ∷ []) ≡ items.Time 0 ∷ items.Heartbeat ∷ items.Heartbeat ∷ []
from_nothing_on = refl

written_at_5 : tape_of builtin_defs (Some 4) (record { ms = 5; item = items.Head TickerData } ∷ record { ms = 5; item = quote 1 } ∷ []) ≡
    joined (codes "==TIME" ∷ codes "5" ∷ []) ++ 10 ∷ codes "==TICKER_DATA" ++ 10 ∷ joined (codes "Quote" ∷ codes "S1" ∷ codes "1" ∷ codes "1" ∷ codes "1" ∷ codes "1" ∷ []) ++ 10 ∷ []
unfolding canonical digits dec_text magnitude_text
written_at_5 = refl
