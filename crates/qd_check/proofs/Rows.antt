-- Worked texts, by evaluation: what check and fmt print of their lines, which stand here with the newest first.
use Rattle.std.specs.Fmt.{digits}
use Rattle.std.proofs.Common.{◌≡◌, ℕ, ◌∷◌, [], ◌++◌, List, refl}
use Rattle.std.specs.Prelude.{codes}
use Rattle.qd_decimal.specs.Reading.{dec_of, point_at, rest_at, whole_at, digits_end, zeros_end, int_of, count_of}
use Rattle.qd_decimal.specs.Texts.{dec_text, magnitude_text}
use Rattle.qd_decimal.specs.declared.fault.DecFault.TheVariants.{TooFine}
use Rattle.qd_grammar.specs.Body.{key_at, record_line}
use Rattle.qd_grammar.specs.Canonical.{canonical, joined}
use Rattle.qd_grammar.specs.Control.{behind_word}
use Rattle.qd_grammar.specs.Fields.{cell_at, count_at, symbol_at, word_at, record_at, hist_at}
use Rattle.qd_grammar.specs.Lines.{item_of}
use Rattle.qd_grammar.specs.Words.{word_of}
use Rattle.qd_grammar.specs.declared.fault.Why.TheVariants.{Number}
use Rattle.qd_grammar.specs.declared.item.Mode.TheVariants.{File}
use Rattle.qd_items.specs.Judging.{stop_of}
use Rattle.qd_items.specs.Judging.Stop.{AtBad}
use Rattle.qd_scheme.specs.Builtin.{builtin_defs}
use Rattle.qd_scheme.specs.Symbols.{symbol_of}
use Rattle.qd_check.specs.Printing.{check_text, fmt_text}

-- a line that ends by a carriage return and a line feed
abbrev with_cr : List ℕ → List ℕ
with_cr line = line ++ 13 ∷ []

abbrev protocol : List ℕ
protocol = joined (codes "==PROTOCOL" ∷ codes "1" ∷ [])

-- PROTOCOL, a comment, an empty line, a head, a quote, END
abbrev feed : List (List ℕ)
feed = codes "==END" ∷ with_cr (joined (codes "Quote" ∷ codes "IBM" ∷ codes "189.9500" ∷ codes "3" ∷ codes "190.0100" ∷ codes "12" ∷ [])) ∷ codes "==TICKER_DATA" ∷ with_cr [] ∷ codes "# x" ∷ with_cr protocol ∷ []

feed_counted : check_text builtin_defs feed ≡ codes "items 4" ++ 10 ∷ []
unfolding word_of item_of dec_of point_at rest_at digits_end zeros_end int_of whole_at count_of symbol_of cell_at count_at symbol_at word_at record_at hist_at key_at record_line behind_word digits
feed_counted = refl

feed_printed : fmt_text builtin_defs feed
    ≡ protocol ++ 10 ∷ codes "==TICKER_DATA" ++ 10 ∷ joined (codes "Quote" ∷ codes "IBM" ∷ codes "189.95" ∷ codes "3" ∷ codes "190.01" ∷ codes "12" ∷ []) ++ 10 ∷ codes "==END" ++ 10 ∷ []
unfolding word_of item_of dec_of point_at rest_at digits_end zeros_end int_of whole_at count_of symbol_of cell_at count_at symbol_at word_at record_at hist_at key_at record_line behind_word canonical digits dec_text magnitude_text
feed_printed = refl

-- a price that is too fine on the fourth line
abbrev wrong : List (List ℕ)
wrong = joined (codes "Quote" ∷ codes "IBM" ∷ codes "1.23456" ∷ codes "5" ∷ codes "101" ∷ codes "7" ∷ []) ∷ codes "==TICKER_DATA" ∷ codes "# x" ∷ protocol ∷ []

wrong_stops : stop_of File builtin_defs wrong ≡ AtBad (record { line = 4; place = 17; why = Number (TooFine 7) })
unfolding word_of item_of dec_of point_at rest_at digits_end zeros_end int_of whole_at count_of symbol_of cell_at count_at symbol_at word_at record_at hist_at key_at record_line behind_word
wrong_stops = refl

wrong_counted : check_text builtin_defs wrong ≡ []
unfolding word_of item_of dec_of point_at rest_at digits_end zeros_end int_of whole_at count_of symbol_of cell_at count_at symbol_at word_at record_at hist_at key_at record_line behind_word
wrong_counted = refl

wrong_printed : fmt_text builtin_defs wrong ≡ protocol ++ 10 ∷ codes "==TICKER_DATA" ++ 10 ∷ []
unfolding word_of item_of dec_of point_at rest_at digits_end zeros_end int_of whole_at count_of symbol_of cell_at count_at symbol_at word_at record_at hist_at key_at record_line behind_word canonical digits dec_text magnitude_text
wrong_printed = refl
