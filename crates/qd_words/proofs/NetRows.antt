-- Words of `post` and `dump` that are asked as they should be.
use Rattle.std.proofs.Common.{◌≡◌, [], ◌∷◌, refl}
use Rattle.std.specs.Prelude.{Some, None, codes}
use Rattle.qd_decimal.specs.Reading.{count_of, whole_at, digits_end}
use Rattle.qd_grammar.specs.declared.item.Collector.TheVariants.{Ticker, History}
use Rattle.qd_scheme.specs.Symbols.{symbol_of}
use Rattle.qd_words.specs.NetAsking.{asks_net}
use Rattle.qd_words.specs.NetAsking.NetAsked.{Post, Dump}

-- one item of a ticker
dump_one : asks_net (codes "dump" ∷ codes "A" ∷ codes "TICKER" ∷ codes "Quote/IBM" ∷ codes "--count" ∷ codes "1" ∷ [])
    ≡ Some (Dump (record { addr = codes "A"; collector = Ticker; wants = record { name = codes "Quote"; symbol = codes "IBM" } ∷ []; count = 1; limit = 0; scheme = None }))
unfolding asks_net count_of whole_at digits_end symbol_of
dump_one = refl

-- a want is cut at its first `/`; options may stand anywhere, a limit is a number
dump_two : asks_net (codes "dump" ∷ codes "--limit=05" ∷ codes "A" ∷ codes "HISTORY" ∷ codes "Candle/A/B" ∷ codes "--scheme" ∷ codes "-" ∷ codes "/C" ∷ codes "--count=9223372036854775807" ∷ [])
    ≡ Some (Dump (record { addr = codes "A"; collector = History; wants = record { name = codes "Candle"; symbol = codes "A/B" } ∷ record { name = []; symbol = codes "C" } ∷ []; count = 9223372036854775807; limit = 5; scheme = Some (codes "-") }))
unfolding asks_net count_of whole_at digits_end symbol_of
dump_two = refl

-- a count has to be said, and is not 0; a want has a symbol; there is one at least; a collector has one of three names
no_count : asks_net (codes "dump" ∷ codes "A" ∷ codes "TICKER" ∷ codes "Quote/IBM" ∷ []) ≡ None
unfolding asks_net count_of whole_at digits_end symbol_of
no_count = refl

count_of_0 : asks_net (codes "dump" ∷ codes "A" ∷ codes "TICKER" ∷ codes "Quote/IBM" ∷ codes "--count=0" ∷ []) ≡ None
unfolding asks_net count_of whole_at digits_end symbol_of
count_of_0 = refl

too_great : asks_net (codes "dump" ∷ codes "A" ∷ codes "TICKER" ∷ codes "Quote/IBM" ∷ codes "--count=9223372036854775808" ∷ []) ≡ None
unfolding asks_net count_of whole_at digits_end symbol_of
too_great = refl

no_slash : asks_net (codes "dump" ∷ codes "A" ∷ codes "TICKER" ∷ codes "Quote" ∷ codes "--count=1" ∷ []) ≡ None
unfolding asks_net count_of whole_at digits_end symbol_of
no_slash = refl

no_symbol : asks_net (codes "dump" ∷ codes "A" ∷ codes "TICKER" ∷ codes "Quote/" ∷ codes "--count=1" ∷ []) ≡ None
unfolding asks_net count_of whole_at digits_end symbol_of
no_symbol = refl

no_want : asks_net (codes "dump" ∷ codes "A" ∷ codes "TICKER" ∷ codes "--count=1" ∷ []) ≡ None
unfolding asks_net count_of whole_at digits_end symbol_of
no_want = refl

no_collector : asks_net (codes "dump" ∷ codes "A" ∷ codes "Ticker" ∷ codes "Quote/IBM" ∷ codes "--count=1" ∷ []) ≡ None
unfolding asks_net count_of whole_at digits_end symbol_of
no_collector = refl

-- `post` takes an address, perhaps a file, and no count
post_input : asks_net (codes "post" ∷ codes "A" ∷ codes "-" ∷ []) ≡ Some (Post (record { addr = codes "A"; file = None; scheme = None }))
unfolding asks_net
post_input = refl

post_file : asks_net (codes "post" ∷ codes "A" ∷ codes "--scheme=s" ∷ codes "--" ∷ codes "-f" ∷ []) ≡ Some (Post (record { addr = codes "A"; file = Some (codes "-f"); scheme = Some (codes "s") }))
unfolding asks_net
post_file = refl

no_addr : asks_net (codes "post" ∷ []) ≡ None
unfolding asks_net
no_addr = refl

two_files : asks_net (codes "post" ∷ codes "A" ∷ codes "a" ∷ codes "b" ∷ []) ≡ None
unfolding asks_net
two_files = refl

post_count : asks_net (codes "post" ∷ codes "A" ∷ codes "--count=1" ∷ []) ≡ None
unfolding asks_net
post_count = refl
