-- Words that are asked as they should be.
use Rattle.std.proofs.Common.{◌≡◌, [], ◌∷◌, refl}
use Rattle.std.specs.Prelude.{Some, None, codes}
use Rattle.qd_words.specs.declared.ask.Command.TheVariants.{Check, Fmt, Replay}
use Rattle.qd_decimal.specs.Reading.{count_of, whole_at, digits_end}
use Rattle.qd_words.specs.Asking.{asks}
use Rattle.qd_words.specs.Scripts.{asks_script}

-- `fmt` reads standard input
plain : asks (codes "fmt" ∷ []) ≡ Some (record { command = Fmt; file = None; scheme = None; cap = 1024; hcap = 1024; stripes = 1 })
unfolding asks
plain = refl

-- an option may come first, with its value behind an `=`, and `-` is standard input
with_scheme : asks (codes "check" ∷ codes "--scheme=s.txt" ∷ codes "-" ∷ []) ≡ Some (record { command = Check; file = None; scheme = Some (codes "s.txt"); cap = 1024; hcap = 1024; stripes = 1 })
unfolding asks
with_scheme = refl

-- an option may come last, with its value as the next word
scheme_last : asks (codes "replay" ∷ codes "a.txt" ∷ codes "--scheme" ∷ codes "-" ∷ []) ≡ Some (record { command = Replay; file = Some (codes "a.txt"); scheme = Some (codes "-"); cap = 1024; hcap = 1024; stripes = 1 })
unfolding asks
scheme_last = refl

-- behind `--` no word is an option
behind_end : asks (codes "check" ∷ codes "--" ∷ codes "--scheme" ∷ []) ≡ Some (record { command = Check; file = Some (codes "--scheme"); scheme = None; cap = 1024; hcap = 1024; stripes = 1 })
unfolding asks
behind_end = refl

-- an option has its value, stands once, and is known; one file is read
no_value : asks (codes "check" ∷ codes "--scheme" ∷ []) ≡ None
unfolding asks
no_value = refl

end_for_value : asks (codes "check" ∷ codes "--scheme" ∷ codes "--" ∷ codes "a" ∷ []) ≡ None
unfolding asks
end_for_value = refl

twice : asks (codes "check" ∷ codes "--scheme=a" ∷ codes "--scheme=b" ∷ []) ≡ None
unfolding asks
twice = refl

unknown : asks (codes "check" ∷ codes "--help" ∷ codes "a" ∷ []) ≡ None
unfolding asks
unknown = refl

short_option : asks (codes "check" ∷ codes "-s" ∷ []) ≡ None
unfolding asks
short_option = refl

two_files : asks (codes "check" ∷ codes "a" ∷ codes "b" ∷ []) ≡ None
unfolding asks
two_files = refl

option_first : asks (codes "--scheme=a" ∷ codes "check" ∷ []) ≡ None
unfolding asks
option_first = refl

-- `replay` takes a number of waiting items, in any order with the scheme
with_cap : asks (codes "replay" ∷ codes "--cap" ∷ codes "04" ∷ codes "a.txt" ∷ codes "--scheme=s" ∷ []) ≡ Some (record { command = Replay; file = Some (codes "a.txt"); scheme = Some (codes "s"); cap = 4; hcap = 1024; stripes = 1 })
unfolding asks count_of whole_at digits_end
with_cap = refl

greatest_cap : asks (codes "replay" ∷ codes "--cap=4096" ∷ []) ≡ Some (record { command = Replay; file = None; scheme = None; cap = 4096; hcap = 1024; stripes = 1 })
unfolding asks count_of whole_at digits_end
greatest_cap = refl

-- it is 1 to 4096, in digits alone, and stands once
too_great : asks (codes "replay" ∷ codes "--cap=4097" ∷ []) ≡ None
unfolding asks count_of whole_at digits_end
too_great = refl

no_room : asks (codes "replay" ∷ codes "--cap=0" ∷ []) ≡ None
unfolding asks count_of whole_at digits_end
no_room = refl

signed : asks (codes "replay" ∷ codes "--cap=+4" ∷ []) ≡ None
unfolding asks count_of whole_at digits_end
signed = refl

no_digits : asks (codes "replay" ∷ codes "--cap=" ∷ []) ≡ None
unfolding asks count_of whole_at digits_end
no_digits = refl

cap_twice : asks (codes "replay" ∷ codes "--cap=4" ∷ codes "--cap=4" ∷ []) ≡ None
unfolding asks count_of whole_at digits_end
cap_twice = refl

-- the other commands take none
cap_of_fmt : asks (codes "fmt" ∷ codes "--cap=4" ∷ []) ≡ None
unfolding asks count_of whole_at digits_end
cap_of_fmt = refl

-- and of events that are owed
with_both : asks (codes "replay" ∷ codes "--hcap=3" ∷ codes "--cap" ∷ codes "2" ∷ []) ≡ Some (record { command = Replay; file = None; scheme = None; cap = 2; hcap = 3; stripes = 1 })
unfolding asks count_of whole_at digits_end
with_both = refl

-- it takes a number of stripes, where a collector may have so many
with_stripes : asks (codes "replay" ∷ codes "--stripes" ∷ codes "04" ∷ codes "--cap=2" ∷ []) ≡ Some (record { command = Replay; file = None; scheme = None; cap = 2; hcap = 1024; stripes = 4 })
unfolding asks count_of whole_at digits_end
with_stripes = refl

most_stripes : asks (codes "replay" ∷ codes "--stripes=16" ∷ []) ≡ Some (record { command = Replay; file = None; scheme = None; cap = 1024; hcap = 1024; stripes = 16 })
unfolding asks count_of whole_at digits_end
most_stripes = refl

three_stripes : asks (codes "replay" ∷ codes "--stripes=3" ∷ []) ≡ None
unfolding asks count_of whole_at digits_end
three_stripes = refl

stripes_of_check : asks (codes "check" ∷ codes "--stripes=1" ∷ []) ≡ None
unfolding asks count_of whole_at digits_end
stripes_of_check = refl

-- `gen` takes a start and a count, and no option; one of them may stand behind `--`
script : asks_script (codes "gen" ∷ codes "1" ∷ codes "03" ∷ []) ≡ Some (record { start = 1; count = 3 })
unfolding asks_script count_of whole_at digits_end
script = refl

last_start : asks_script (codes "gen" ∷ codes "2147483646" ∷ codes "--" ∷ codes "600000" ∷ []) ≡ Some (record { start = 2147483646; count = 600000 })
unfolding asks_script count_of whole_at digits_end
last_start = refl

start_too_great : asks_script (codes "gen" ∷ codes "2147483647" ∷ codes "1" ∷ []) ≡ None
unfolding asks_script count_of whole_at digits_end
start_too_great = refl

no_start : asks_script (codes "gen" ∷ codes "0" ∷ codes "3" ∷ []) ≡ None
unfolding asks_script count_of whole_at digits_end
no_start = refl

count_too_great : asks_script (codes "gen" ∷ codes "1" ∷ codes "600001" ∷ []) ≡ None
unfolding asks_script count_of whole_at digits_end
count_too_great = refl

no_count : asks_script (codes "gen" ∷ codes "1" ∷ []) ≡ None
unfolding asks_script count_of whole_at digits_end
no_count = refl

three_numbers : asks_script (codes "gen" ∷ codes "1" ∷ codes "2" ∷ codes "3" ∷ []) ≡ None
unfolding asks_script count_of whole_at digits_end
three_numbers = refl

scheme_of_gen : asks_script (codes "gen" ∷ codes "1" ∷ codes "--scheme=s" ∷ codes "2" ∷ []) ≡ None
unfolding asks_script count_of whole_at digits_end
scheme_of_gen = refl
