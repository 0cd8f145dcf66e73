-- Which script words ask for: `gen START COUNT`.
use Rattle.std.specs.Prelude.{ℕ, if◌then◌else◌, ◌==◌, List, [], ◌∷◌, codes, Option, Some, None, option_map, option_and_then}
use Rattle.qd_words.specs.declared.script.Pair.{Pair}
use Rattle.qd_words.specs.declared.script.ScriptAsk.{ScriptAsk}
use Rattle.qd_words.specs.Words.{same_text, is_option, end_of_options, Argument, arguments}
use Rattle.qd_words.specs.Words.Argument.{Named, Positional}
use Rattle.qd_words.specs.Asking.{count_in, ◌>>=◌}

-- the words of arguments that are positional; none where an option stands among them
abbrev pub all_positional : List Argument → Option (List (List ℕ))
all_positional [] = Some []
all_positional (Named name value ∷ more) = None
all_positional (Positional word ∷ more) = option_map (λ words. word ∷ words) (all_positional more)

-- the two words of a list that has two
abbrev pub pair_of : List (List ℕ) → Option (List ℕ × List ℕ)
pair_of [] = None
pair_of (a ∷ []) = None
pair_of (a ∷ b ∷ []) = Some (a, b)
pair_of (a ∷ b ∷ c ∷ more) = None

-- a start is 1 to 2147483646
abbrev pub start_of : List ℕ → Option ℕ
start_of word = count_in 2147483646 word >>= λ start. if start == 0 then None else Some start

-- the script of a start and a count, which is at most 600000
abbrev pub script_of : List ℕ × List ℕ → Option ScriptAsk
script_of words = do
  start ← start_of words.0
  count ← count_in 600000 words.1
  Some (record { start = start; count = count })

-- the script that arguments ask for
abbrev pub script_by : List Argument → Option ScriptAsk
script_by arguments = do
  words ← all_positional arguments
  pair ← pair_of words
  script_of pair

-- the script that words ask for
unfoldable pub asks_script : List (List ℕ) → Option ScriptAsk
asks_script [] = None
asks_script (word ∷ words) = if same_text word (codes "gen") then arguments words >>= script_by else None

-- the words behind a command that takes no option, one by one: none where an option stands among them
abbrev pub bare : List (List ℕ) → Option (List (List ℕ))
bare [] = Some []
bare (word ∷ words) =
    if same_text word end_of_options then Some words else
    if is_option word then None else
    option_map (λ more. word ∷ more) (bare words)

-- a value of the code as two words
abbrev pub shown_pair : Pair → List ℕ × List ℕ
shown_pair p = (p.first.now, p.second.now)

-- what words ask for, one by one
abbrev pub read_script : List (List ℕ) → Option ScriptAsk
read_script [] = None
read_script (word ∷ words) = if same_text word (codes "gen") then option_and_then script_of (option_and_then pair_of (bare words)) else None
