-- The records that a scheme has where no other is given.
use Rattle.std.specs.Prelude.{ℕ, true, false, codes, List, [], ◌∷◌}
use Rattle.qd_scheme.specs.declared.defs.FieldKind.TheVariants.{Int, Dec}
use Rattle.qd_scheme.specs.declared.defs.FieldDef.{FieldDef}
use Rattle.qd_scheme.specs.declared.defs.RecordDef.{RecordDef}

-- a whole number
abbrev pub count : List ℕ → FieldDef
count name = record { name = name; kind = Int }

-- a price, with four digits after the point
abbrev pub price : List ℕ → FieldDef
price name = record { name = name; kind = Dec 4 }

-- the best bid and ask
abbrev pub quote_def : RecordDef
quote_def = record { name = codes "Quote"; hist = false; fields = price (codes "BidPrice") ∷ count (codes "BidSize") ∷ price (codes "AskPrice") ∷ count (codes "AskSize") ∷ [] }

-- the last trade, and what was traded in all
abbrev pub trade_def : RecordDef
trade_def = record { name = codes "Trade"; hist = false; fields = price (codes "Price") ∷ count (codes "Size") ∷ count (codes "Volume") ∷ [] }

-- a period of a chart, by its time
abbrev pub candle_def : RecordDef
candle_def = record { name = codes "Candle"; hist = true; fields = price (codes "Open") ∷ price (codes "High") ∷ price (codes "Low") ∷ price (codes "Close") ∷ count (codes "Volume") ∷ [] }

-- an order of a book, by its number
abbrev pub order_def : RecordDef
order_def = record { name = codes "Order"; hist = true; fields = price (codes "Price") ∷ count (codes "Size") ∷ count (codes "Side") ∷ [] }

abbrev pub builtin_defs : List RecordDef
builtin_defs = quote_def ∷ trade_def ∷ candle_def ∷ order_def ∷ []
