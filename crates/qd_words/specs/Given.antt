-- What words give one by one: at most one value for each option, at most one positional word.
use Rattle.std.specs.Prelude.{ℕ, if◌then◌else◌, Bool, true, false, List, [], ◌∷◌, Option, Some, None, option_map, option_and_then, is_some}
use Rattle.qd_words.specs.declared.ask.Command.{Command}
use Rattle.qd_words.specs.declared.ask.OptionName.{OptionName}
use Rattle.qd_words.specs.declared.ask.OptionName.TheVariants.{Scheme, Cap, Hcap, Stripes}
use Rattle.qd_words.specs.declared.given.Given.{Given}
use Rattle.qd_words.specs.declared.values.Values.{Values}
use Rattle.qd_words.specs.Words.{same_text, is_option, end_of_options, name_in, value_in}
use Rattle.qd_words.specs.Asking.{Asked, name_of, command_of, with_values}

-- the values of the options
pub record ShownValues : Type 0 where
  pub scheme : Option (List ℕ)
  pub cap : Option (List ℕ)
  pub hcap : Option (List ℕ)
  pub stripes : Option (List ℕ)

abbrev pub shown_values : Values → ShownValues
shown_values v = record { scheme = option_map (λ s. s.now) v.scheme; cap = option_map (λ s. s.now) v.cap; hcap = option_map (λ s. s.now) v.hcap; stripes = option_map (λ s. s.now) v.stripes }

abbrev pub no_values : ShownValues
no_values = record { scheme = None; cap = None; hcap = None; stripes = None }

abbrev pub value_of : ShownValues → OptionName → Option (List ℕ)
value_of v Scheme = v.scheme
value_of v Cap = v.cap
value_of v Hcap = v.hcap
value_of v Stripes = v.stripes

abbrev pub with_set : ShownValues → OptionName → List ℕ → ShownValues
with_set v Scheme value = record v { scheme = Some value }
with_set v Cap value = record v { cap = Some value }
with_set v Hcap value = record v { hcap = Some value }
with_set v Stripes value = record v { stripes = Some value }

-- one value more, where the option has none
abbrev pub with_value : ShownValues → OptionName → List ℕ → Option ShownValues
with_value v name value = if is_some (value_of v name) then None else Some (with_set v name value)

-- the values of the options, the positional word, the option that waits for its value, and whether `--` was among the words
pub record Shown : Type 0 where
  pub values : ShownValues
  pub word : Option (List ℕ)
  pub waiting : Option OptionName
  pub ended : Bool

abbrev pub shown : Given → Shown
shown g = record { values = shown_values g.values; word = option_map (λ s. s.now) g.word; waiting = g.waiting; ended = g.ended }

abbrev pub nothing : Shown
nothing = record { values = no_values; word = None; waiting = None; ended = false }

abbrev pub with_option_value : Shown → OptionName → List ℕ → Option Shown
with_option_value g name value = option_map (λ values. record g { values = values }) (with_value g.values name value)

-- a positional word, where there was none
abbrev pub with_positional : Shown → List ℕ → Option Shown
with_positional g word = if is_some g.word then None else Some (record g { word = Some word })

abbrev pub with_waited : Shown → OptionName → List ℕ → Option Shown
with_waited g name value = if is_option value then None else with_option_value (record g { waiting = None }) name value

-- an option, with its value where it has one
abbrev pub with_named : Shown → Option (List ℕ) → OptionName → Option Shown
with_named g None name = Some (record g { waiting = Some name })
with_named g (Some value) name = with_option_value g name value

abbrev pub with_option : Shown → List ℕ → Option Shown
with_option g word = option_and_then (with_named g (value_in word)) (name_of (name_in word))

abbrev pub with_open_word : Shown → Option OptionName → List ℕ → Option Shown
with_open_word g (Some name) word = with_waited g name word
with_open_word g None word =
    if same_text word end_of_options then Some (record g { ended = true }) else
    if is_option word then with_option g word else
    with_positional g word

-- one word more
abbrev pub with_word : Shown → List ℕ → Option Shown
with_word g word = if g.ended then with_positional g word else with_open_word g g.waiting word

-- what words give behind those before them
abbrev pub given_by : Shown → List (List ℕ) → Option Shown
given_by g [] = Some g
given_by g (word ∷ words) = option_and_then (λ next. given_by next words) (with_word g word)

-- what was given, once no word is left; none where an option still waits, or has a value that the command does not take
abbrev pub finished : Command → Shown → Option Asked
finished command g =
    if is_some g.waiting then None else
    with_values command g.values.scheme g.values.cap g.values.hcap g.values.stripes g.word

-- what words ask for, one by one: the first names the command
abbrev pub read_asked : List (List ℕ) → Option Asked
read_asked [] = None
read_asked (word ∷ words) = option_and_then (λ command. option_and_then (finished command) (given_by nothing words)) (command_of word)
