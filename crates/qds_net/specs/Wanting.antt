-- Which keys are wanted of a collector, by the records of a scheme.
use Rattle.std.specs.Prelude.{ℕ, Bool, true, if◌then◌else◌, List, [], ◌∷◌, Option, Some, None, option_map, slice_get}
use Rattle.qd_grammar.specs.declared.item.Collector.{Collector}
use Rattle.qd_grammar.specs.declared.item.Collector.TheVariants.{Ticker, Stream, History}
use Rattle.qd_scheme.specs.Finding.{number_of_record}
use Rattle.qd_scheme.specs.declared.defs.RecordDef.{RecordDef}
use Rattle.qd_sub.specs.declared.sub.Sub.{Sub}
use Rattle.qd_words.specs.Asking.{◌>>=◌}
use Rattle.qd_words.specs.NetAsking.{Wanted}

-- a collector takes a record: the history takes history records alone
abbrev pub takes_record : Collector → RecordDef → Bool
takes_record Ticker def = true
takes_record Stream def = true
takes_record History def = def.hist

-- the key that a want says, with the limit; none where the scheme has no record of the name, or the collector does not take it
abbrev pub sub_of : List RecordDef → Collector → ℕ → Wanted → Option Sub
sub_of defs collector limit want =
    number_of_record want.name defs >>= λ rec. slice_get defs rec >>= λ def.
    if takes_record collector def then Some (record { key = record { rec = rec; sym = want.symbol }; limit = limit }) else None

-- the keys of all wants, in order; none where one of them says none
abbrev pub subs_of : List RecordDef → Collector → ℕ → List Wanted → Option (List Sub)
subs_of defs collector limit [] = Some []
subs_of defs collector limit (want ∷ wants) = sub_of defs collector limit want >>= λ sub. option_map (λ subs. sub ∷ subs) (subs_of defs collector limit wants)
