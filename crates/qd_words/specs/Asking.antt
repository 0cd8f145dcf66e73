-- What words ask for.
use Rattle.std.specs.Prelude.{ℕ, ◌≤◌, if◌then◌else◌, ◌&&◌, ◌||◌, ◌==◌, nat_le, Bool, true, List, [], ◌∷◌, length, codes, Option, Some, None, option_map, option_and_then, is_some}
use Rattle.std.specs.Result.{result_ok}
use Rattle.qd_decimal.specs.Reading.{count_of}
use Rattle.qd_scheme.specs.Stripes.{IsStripeCount}
use Rattle.qd_words.specs.declared.ask.Command.{Command}
use Rattle.qd_words.specs.declared.ask.Command.TheVariants.{Check, Fmt, Replay}
use Rattle.qd_words.specs.declared.ask.Ask.{Ask}
use Rattle.qd_words.specs.declared.ask.OptionName.{OptionName}
use Rattle.qd_words.specs.declared.ask.OptionName.TheVariants.{Scheme, Cap, Hcap, Stripes}
use Rattle.qd_words.specs.Words.{same_text, Argument, arguments}
use Rattle.qd_words.specs.Words.Argument.{Named, Positional}

infixl 10 ◌>>=◌
abbrev pub ◌>>=◌ : {A B : Type 0} → Option A → (A → Option B) → Option B
o >>= f = option_and_then f o

-- a command with its values: the file that it reads, where it does not read standard input, the scheme file, how many items may wait for an agent of a stream, how many events may be owed to one of a history, and how many stripes each collector has
pub record Asked : Type 0 where
  pub command : Command
  pub file : Option (List ℕ)
  pub scheme : Option (List ℕ)
  pub cap : ℕ
  pub hcap : ℕ
  pub stripes : ℕ

-- the command that a word names
abbrev pub command_of : List ℕ → Option Command
command_of word =
    if same_text word (codes "check") then Some Check else
    if same_text word (codes "fmt") then Some Fmt else
    if same_text word (codes "replay") then Some Replay else
    None

-- the names of the options
abbrev pub name_text : OptionName → List ℕ
name_text Scheme = codes "--scheme"
name_text Cap = codes "--cap"
name_text Hcap = codes "--hcap"
name_text Stripes = codes "--stripes"

abbrev pub name_of : List ℕ → Option OptionName
name_of word =
    if same_text word (codes "--scheme") then Some Scheme else
    if same_text word (codes "--cap") then Some Cap else
    if same_text word (codes "--hcap") then Some Hcap else
    if same_text word (codes "--stripes") then Some Stripes else
    None

-- the values given for an option, in order
abbrev pub values_of : List ℕ → List Argument → List (List ℕ)
values_of name [] = []
values_of name (Named other value ∷ more) = if same_text other name then value ∷ values_of name more else values_of name more
values_of name (Positional word ∷ more) = values_of name more

-- the positional words, in order
abbrev pub positional : List Argument → List (List ℕ)
positional [] = []
positional (Named name value ∷ more) = positional more
positional (Positional word ∷ more) = word ∷ positional more

-- each option has a name that is known
abbrev pub are_known : List Argument → Bool
are_known [] = true
are_known (Named name value ∷ more) = is_some (name_of name) && are_known more
are_known (Positional word ∷ more) = are_known more

-- the item of a list, if it has one; none where it has several
abbrev pub at_most_one : List (List ℕ) → Option (Option (List ℕ))
at_most_one [] = Some None
at_most_one (x ∷ []) = Some (Some x)
at_most_one (x ∷ y ∷ more) = None

-- the file that a positional word names: `-` is standard input
abbrev pub file_of : Option (List ℕ) → Option (List ℕ)
file_of None = None
file_of (Some word) = if same_text word (45 ∷ []) then None else Some word

-- the count that a word of at most 4096 bytes says, up to a limit: digits alone
abbrev pub count_in : ℕ → List ℕ → Option ℕ
count_in most word = if nat_le (length word) 4096 then result_ok (count_of most word) else None

-- a size is 1 to 4096
abbrev pub IsSize : ℕ → Type 0
IsSize n = (1 ≤ n) × (n ≤ 4096)

-- the size that a word says
abbrev pub size_of : List ℕ → Option ℕ
size_of word = count_in 4096 word >>= λ size. if size == 0 then None else Some size

-- the size that an option gives a command, 1024 where it is not given; `replay` alone takes one
abbrev pub size_for : Command → Option (List ℕ) → Option ℕ
size_for command None = Some 1024
size_for Replay (Some word) = size_of word
size_for Check (Some word) = None
size_for Fmt (Some word) = None

-- a collector has 1, 2, 4, 8 or 16 stripes
abbrev pub is_stripe_count : ℕ → Bool
is_stripe_count n = n == 1 || n == 2 || n == 4 || n == 8 || n == 16

-- the number of stripes that a word says
abbrev pub stripes_of : List ℕ → Option ℕ
stripes_of word = count_in 16 word >>= λ count. if is_stripe_count count then Some count else None

-- the number of stripes that an option gives a command, 1 where it is not given; `replay` alone takes one
abbrev pub stripes_for : Command → Option (List ℕ) → Option ℕ
stripes_for command None = Some 1
stripes_for Replay (Some word) = stripes_of word
stripes_for Check (Some word) = None
stripes_for Fmt (Some word) = None

-- a command with the values of its options and its positional word, where the command takes these values
abbrev pub with_values : Command → Option (List ℕ) → Option (List ℕ) → Option (List ℕ) → Option (List ℕ) → Option (List ℕ) → Option Asked
with_values command scheme cap hcap stripes word = do
  size ← size_for command cap
  owed ← size_for command hcap
  count ← stripes_for command stripes
  Some (record { command = command; file = file_of word; scheme = scheme; cap = size; hcap = owed; stripes = count })

-- what the values of the options and the positional words ask of a command: each stands once at most
abbrev pub asked_for : Command → (OptionName → List (List ℕ)) → List (List ℕ) → Option Asked
asked_for command values words = do
  scheme ← at_most_one (values Scheme)
  limit ← at_most_one (values Cap)
  owed ← at_most_one (values Hcap)
  stripes ← at_most_one (values Stripes)
  word ← at_most_one words
  with_values command scheme limit owed stripes word

-- what arguments ask of a command
abbrev pub asked_by : Command → List Argument → Option Asked
asked_by command arguments = if are_known arguments then asked_for command (λ name. values_of (name_text name) arguments) (positional arguments) else None

-- what words ask for: the first names the command; none where a word, an option, a number or a count of words is not known
unfoldable pub asks : List (List ℕ) → Option Asked
asks [] = None
asks (word ∷ words) = option_and_then (λ command. option_and_then (asked_by command) (arguments words)) (command_of word)

-- a value of the code as what is asked
abbrev pub asked : Ask → Asked
asked a = record { command = a.command; file = option_map (λ s. s.now) a.file; scheme = option_map (λ s. s.now) a.scheme; cap = a.cap; hcap = a.hcap; stripes = a.stripes }

-- the sizes of what is asked are sizes, and its number of stripes is one that a collector may have
abbrev pub HasSizes : Ask → Type 0
HasSizes a = IsSize a.cap × IsSize a.hcap × IsStripeCount a.stripes
