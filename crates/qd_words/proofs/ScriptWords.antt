-- The words of a script, one by one, are those of its arguments.
use Rattle.std.proofs.Common.{◌≡◌, ℕ, ◌+◌, ◌<◌, ◌≤◌, Bool, true, false, cond, List, [], ◌∷◌, map, length, refl, sym, ◌∙◌, ap, subst, arith}
use Rattle.std.specs.Prelude.{Option, Some, None, option_map, option_and_then, codes, IfSome}
use Rattle.qd_words.specs.Words.{same_text, is_option, end_of_options, name_in, value_in, Argument, before, cut, cut_option, arguments}
use Rattle.qd_words.specs.Words.Argument.{Named, Positional}
use Rattle.qd_words.specs.Asking.{asks}
use Rattle.qd_words.specs.Scripts.{all_positional, asks_script, bare, pair_of, read_script, script_by, script_of}
use Rattle.qd_words.specs.declared.script.ScriptAsk.{ScriptAsk}
use Rattle.qd_words.proofs.RestLaws.{same_texts}

positional_all : (words : List (List ℕ)) → all_positional (map Positional words) ≡ Some words
positional_all [] = refl
positional_all (word ∷ words) = ap (option_map (λ more. word ∷ more)) (positional_all words)

-- no word where an option stands first
named_none : (name value : List ℕ) (more : Option (List Argument)) → option_and_then all_positional (before (Named name value) more) ≡ None
named_none name value None = refl
named_none name value (Some more) = refl

waited_none : (word : List ℕ) (words : List (List ℕ)) → option_and_then all_positional (cut (Some word) words) ≡ None
waited_none word [] = refl
waited_none word (value ∷ words) = elim (is_option value) as (λ t. option_and_then all_positional (cond t None (before (Named word value) (cut None words))) ≡ None) [
  | true ↦ refl
  | false ↦ named_none word value (cut None words)
]

option_none : (word : List ℕ) (value : Option (List ℕ)) (words : List (List ℕ)) → option_and_then all_positional (cut_option word value (cut None words) (cut (Some word) words)) ≡ None
option_none word None words = waited_none word words
option_none word (Some value) words = named_none (name_in word) value (cut None words)

word_first : (word : List ℕ) (more : Option (List Argument)) → option_and_then all_positional (before (Positional word) more) ≡ option_map (λ words. word ∷ words) (option_and_then all_positional more)
word_first word None = refl
word_first word (Some more) = refl

step : (t u : Bool) (word : List ℕ) (words : List (List ℕ)) → bare words ≡ option_and_then all_positional (arguments words)
    → cond t (Some words) (cond u None (option_map (λ more. word ∷ more) (bare words)))
    ≡ option_and_then all_positional (cond t (Some (map Positional words)) (cond u (cut_option word (value_in word) (cut None words) (cut (Some word) words)) (before (Positional word) (cut None words))))
step true u word words e = sym (positional_all words)
step false true word words e = sym (option_none word (value_in word) words)
step false false word words e = ap (option_map (λ more. word ∷ more)) e ∙ sym (word_first word (cut None words))

pub bare_is : (words : List (List ℕ)) → bare words ≡ option_and_then all_positional (arguments words)
bare_is [] = refl
bare_is (word ∷ words) = step (same_text word end_of_options) (is_option word) word words (bare_is words)

-- what words ask for one by one is what their arguments ask for
one_by_one : (args : Option (List Argument)) (words : Option (List (List ℕ))) → words ≡ option_and_then all_positional args → option_and_then script_of (option_and_then pair_of words) ≡ option_and_then script_by args
one_by_one None words e = rw e refl
one_by_one (Some args) words e = rw e (nested (all_positional args))
  where
    nested : (found : Option (List (List ℕ))) → option_and_then script_of (option_and_then pair_of found) ≡ option_and_then (λ words. option_and_then (λ pair. script_of pair) (pair_of words)) found
    nested None = refl
    nested (Some words) = refl

pub words_asked : (words : List (List ℕ)) → read_script words ≡ asks_script words
unfolding asks_script
words_asked [] = refl
words_asked (word ∷ words) = ap (λ (o : Option ScriptAsk). cond (same_text word (codes "gen")) o None) (one_by_one (arguments words) (bare words) (bare_is words))

-- they ask for no other command
gen_alone : (word : List ℕ) (words : List (List ℕ)) → word ≡ codes "gen" → asks (word ∷ words) ≡ None
unfolding asks
gen_alone word words e = rw e refl

alone : (t : Bool) (word : List ℕ) (words : List (List ℕ)) (found : Option ScriptAsk) → same_text word (codes "gen") ≡ t → IfSome (cond t found None) (λ ask. asks (word ∷ words) ≡ None)
alone true word words None e = tt
alone true word words (Some ask) e = gen_alone word words (same_texts word (codes "gen") e)
alone false word words found e = tt

pub words_alone : (words : List (List ℕ)) → IfSome (read_script words) (λ ask. asks words ≡ None)
words_alone [] = tt
words_alone (word ∷ words) = alone (same_text word (codes "gen")) word words (option_and_then script_of (option_and_then pair_of (bare words))) refl

-- one word, and more than three, are no pair

pub none_short : (words : List (List ℕ)) → length words < 2 → option_and_then pair_of (bare words) ≡ None
none_short [] h = refl
none_short (word ∷ []) h = one (same_text word end_of_options) (is_option word)
  where
    one : (t u : Bool) → option_and_then pair_of (cond t (Some []) (cond u None (Some (word ∷ [])))) ≡ None
    one true u = refl
    one false true = refl
    one false false = refl
none_short (word ∷ other ∷ words) h = let no : ⊥ = omega arith in absurd no

abbrev IsLong : ℕ → Option (List (List ℕ)) → Type 0
IsLong n o = IfSome o (λ words. n ≤ length words + 1)

long_more : (n : ℕ) (word : List ℕ) (o : Option (List (List ℕ))) → IsLong n o → IsLong (n + 1) (option_map (λ more. word ∷ more) o)
long_more n word None h = tt
long_more n word (Some words) h = omega (arith, h)

long_step : (t u : Bool) (word : List ℕ) (words : List (List ℕ)) → IsLong (length words) (bare words) → IsLong (length (word ∷ words)) (cond t (Some words) (cond u None (option_map (λ more. word ∷ more) (bare words))))
long_step true u word words h = omega arith
long_step false true word words h = tt
long_step false false word words h = subst (λ (n : ℕ). IsLong n (option_map (λ more. word ∷ more) (bare words))) (omega arith) (long_more (length words) word (bare words) h)

bare_long : (words : List (List ℕ)) → IsLong (length words) (bare words)
bare_long [] = omega arith
bare_long (word ∷ words) = long_step (same_text word end_of_options) (is_option word) word words (bare_long words)

no_pair : (o : Option (List (List ℕ))) → IsLong 4 o → option_and_then pair_of o ≡ None
no_pair None h = refl
no_pair (Some []) h = let no : ⊥ = omega (arith, h) in absurd no
no_pair (Some (a ∷ [])) h = let no : ⊥ = omega (arith, h) in absurd no
no_pair (Some (a ∷ b ∷ [])) h = let no : ⊥ = omega (arith, h) in absurd no
no_pair (Some (a ∷ b ∷ c ∷ words)) h = refl

longer : (n : ℕ) (o : Option (List (List ℕ))) → 4 ≤ n → IsLong n o → IsLong 4 o
longer n None h k = tt
longer n (Some words) h k = omega (arith, h, k)

pub none_long : (words : List (List ℕ)) → 4 ≤ length words → option_and_then pair_of (bare words) ≡ None
none_long words h = no_pair (bare words) (longer (length words) (bare words) h (bare_long words))
