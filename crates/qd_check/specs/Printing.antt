-- What check and fmt print of a text, by the lines that were read.
use Rattle.std.specs.Prelude.{ℕ, ◌+◌, List, [], ◌∷◌, ◌++◌, length, codes, decimal}
use Rattle.qd_grammar.specs.Canonical.{canonical}
use Rattle.qd_grammar.specs.declared.item.Item.{Item}
use Rattle.qd_grammar.specs.declared.item.Item.TheVariants as items
use Rattle.qd_grammar.specs.declared.item.Mode.TheVariants.{File}
use Rattle.qd_items.specs.declared.ends.TextEnd.{TextEnd}
use Rattle.qd_items.specs.declared.ends.TextEnd.TheVariants.{End}
use Rattle.qd_items.specs.Judging.{Numbered, Stop, items_of, stop_of}
use Rattle.qd_items.specs.Judging.Stop.{Open, AtEnd, AtBad}
use Rattle.qd_scheme.specs.declared.defs.RecordDef.{RecordDef}

-- the canonical line of an item, with its line feed
abbrev pub line_of : List RecordDef → Item → List ℕ
line_of defs item = canonical defs item ++ 10 ∷ []

-- the most bytes of lines behind which a further one is gathered: a line of at most 1000 bytes and its line feed fit
-- behind them into the 4096 bytes that a line of output may have
abbrev pub most_gathered : ℕ
most_gathered = 3000

-- the lines of these items, of which the newest stands first here and last in the text
abbrev pub lines_of : List RecordDef → List Numbered → List ℕ
lines_of defs [] = []
lines_of defs (item ∷ before) = lines_of defs before ++ line_of defs item.item

-- what fmt prints of these lines
abbrev pub fmt_text : List RecordDef → List (List ℕ) → List ℕ
fmt_text defs lines = lines_of defs (items_of File defs lines)

-- the line that tells a number of items
abbrev pub count_line : ℕ → List ℕ
count_line n = codes "items " ++ (decimal n ++ 10 ∷ [])

-- a text, where the lines stop at END
abbrev pub at_end : Stop → List ℕ → List ℕ
at_end Open text = []
at_end (AtEnd line) text = text
at_end (AtBad bad) text = []

-- what check prints of these lines: the number of all their items, where the last of them is END
abbrev pub check_text : List RecordDef → List (List ℕ) → List ℕ
check_text defs lines = at_end (stop_of File defs lines) (count_line (length (items_of File defs lines)))

-- what fmt and check print at an end, behind what they printed before
abbrev pub end_line : List RecordDef → TextEnd → List ℕ
end_line defs End = line_of defs items.End
end_line defs end = []

abbrev pub end_count : TextEnd → ℕ → List ℕ
end_count End n = count_line (n + 1)
end_count end n = []
