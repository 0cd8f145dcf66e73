-- How words are cut into arguments one by one.
use Rattle.std.specs.Prelude.{ℕ, ◌≡◌, if◌then◌else◌, Bool, List, ◌∷◌, ◌++◌, map, Option, Some, None, option_map}
use Rattle.qd_words.specs.declared.cutting.Cut.{Cut}
use Rattle.qd_words.specs.declared.cutting.Argument.{Argument as Given}
use Rattle.qd_words.specs.declared.cutting.Argument.TheVariants as given
use Rattle.qd_words.specs.declared.cutting.Stage.{Stage}
use Rattle.qd_words.specs.declared.cutting.Stage.TheVariants as stages
use Rattle.qd_words.specs.Words.{Argument, before, cut}
use Rattle.qd_words.specs.Words.Argument.{Named, Positional}

-- a value of the code as an argument
abbrev pub argument_of : Given → Argument
argument_of (given.Named name value) = Named name.now value.now
argument_of (given.Positional word) = Positional word.now

abbrev pub arguments_of : List Given → List Argument
arguments_of given = map argument_of given

-- the arguments of words behind those that were cut: where an option waits, the first is its value; behind `--` all are positional
abbrev pub cut_behind : Stage → List (List ℕ) → Option (List Argument)
cut_behind stages.Open words = cut None words
cut_behind (stages.Waiting name) words = cut (Some name.now) words
cut_behind stages.Ended words = Some (map Positional words)

-- arguments before others
abbrev pub with_front : List Argument → Option (List Argument) → Option (List Argument)
with_front front more = option_map (λ more. front ++ more) more

-- the arguments so far with those of the words that are left
abbrev pub with_rest : Cut → List (List ℕ) → Option (List Argument)
with_rest c words = with_front (arguments_of c.arguments.items) (cut_behind c.stage words)

-- a word went in: what it and the words behind it are; where it does not go on, no words behind it can mend that
abbrev pub Takes : Cut → List ℕ → Bool → Cut → Type 0
Takes old word goes_on new = (words : List (List ℕ)) → with_rest old (word ∷ words) ≡ (if goes_on then with_rest new words else None)

-- an argument went in, behind those so far
abbrev pub Gains : Cut → Argument → Bool → Cut → Type 0
Gains old a goes_on new = (more : Option (List Argument)) → with_front (arguments_of old.arguments.items) (before a more) ≡ (if goes_on then with_front (arguments_of new.arguments.items) more else None)
