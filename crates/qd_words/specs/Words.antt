-- How the words behind a command are cut into options with their values and positional words.
use Rattle.std.specs.Prelude.{ℕ, ◌≡◌, ◌==◌, ◌&&◌, nat_eq, nat_lt, if◌then◌else◌, Bool, true, false, List, [], ◌∷◌, length, map, Option, Some, None, option_map}
use Rattle.std.specs.Cmp.Lexicographic.{pointwise}

-- two texts are the same
abbrev pub same_text : List ℕ → List ℕ → Bool
same_text text other = pointwise nat_eq text other

abbrev pub has_dash : List ℕ → Bool
has_dash [] = false
has_dash (b ∷ word) = b == 45

-- a word is an option: it begins with `-` and is longer than one byte
abbrev pub is_option : List ℕ → Bool
is_option word = has_dash word && nat_lt 1 (length word)

-- the word behind which all words are positional
abbrev pub end_of_options : List ℕ
end_of_options = 45 ∷ 45 ∷ []

-- what stands before the first such byte of a word
abbrev pub before_byte : ℕ → List ℕ → List ℕ
before_byte c [] = []
before_byte c (b ∷ word) = if b == c then [] else b ∷ before_byte c word

-- what stands behind the first such byte of a word
abbrev pub behind_byte : ℕ → List ℕ → Option (List ℕ)
behind_byte c [] = None
behind_byte c (b ∷ word) = if b == c then Some word else behind_byte c word

-- the name of an option, before the first `=` of its word, and its value behind it
abbrev pub name_in : List ℕ → List ℕ
name_in word = before_byte 61 word

abbrev pub value_in : List ℕ → Option (List ℕ)
value_in word = behind_byte 61 word

-- a word is the name of an option alone: it is not `--`, and has no `=`
pub record IsName (word : List ℕ) : Type 0 where
  pub option : is_option word ≡ true
  pub goes_on : same_text word end_of_options ≡ false
  pub alone : value_in word ≡ None

-- an option with its value, or a positional word
pub data Argument : Type 0 where
  Named : List ℕ → List ℕ → Argument
  Positional : List ℕ → Argument

-- the argument before those of the words behind it
abbrev pub before : Argument → Option (List Argument) → Option (List Argument)
before argument more = option_map (λ arguments. argument ∷ arguments) more

-- an option's word, which has its value or waits for it: what then follows
abbrev pub cut_option : List ℕ → Option (List ℕ) → Option (List Argument) → Option (List Argument) → Option (List Argument)
cut_option word (Some value) behind waiting = before (Named (name_in word) value) behind
cut_option word None behind waiting = waiting

-- the arguments of words, where an option may wait for its value; none where it does not get one
abbrev pub cut : Option (List ℕ) → List (List ℕ) → Option (List Argument)
cut None [] = Some []
cut (Some name) [] = None
cut None (word ∷ words) =
    if same_text word end_of_options then Some (map Positional words) else
    if is_option word then cut_option word (value_in word) (cut None words) (cut (Some word) words) else
    before (Positional word) (cut None words)
cut (Some name) (word ∷ words) = if is_option word then None else before (Named name word) (cut None words)

-- the arguments of words
abbrev pub arguments : List (List ℕ) → Option (List Argument)
arguments words = cut None words
