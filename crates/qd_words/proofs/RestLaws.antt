-- What words give one by one is what their arguments ask for.
use Rattle.std.proofs.Common.{◌≡◌, ℕ, Bool, true, false, cond, List, [], ◌∷◌, ◌++◌, map, refl, sym, ◌∙◌, ap, eqb-true}
use Rattle.std.specs.Prelude.{Option, Some, None, option_map, option_and_then, option_to_list, nat_eq, ◌&&◌}
use Rattle.std.specs.Cmp.Lexicographic.{pointwise}
use Rattle.qd_words.specs.declared.ask.Command.{Command}
use Rattle.qd_words.specs.declared.ask.OptionName.{OptionName}
use Rattle.qd_words.specs.declared.ask.OptionName.TheVariants.{Scheme, Cap, Hcap, Stripes}
use Rattle.qd_words.specs.Words.{same_text, is_option, end_of_options, name_in, value_in, Argument, before, cut, cut_option}
use Rattle.qd_words.specs.Words.Argument.{Named, Positional}
use Rattle.qd_words.specs.Asking.{Asked, command_of, name_text, name_of, values_of, positional, are_known, at_most_one, asked_for, asked_by, asks}
use Rattle.qd_words.specs.Given.{ShownValues, no_values, value_of, with_value, with_option_value, Shown, nothing, with_positional, with_named, with_option, given_by, finished, read_asked}
use Rattle.qd_words.proofs.OptionWords.{name_alone}

same_first : (a b : ℕ) (t u : Bool) → nat_eq a b ≡ t → (t && u) ≡ true → (a ≡ b) × (u ≡ true)
same_first a b true u p q = (eqb-true a b p, q)
same_first a b false u p q = cc

-- texts that pass the test are the same
pub same_texts : (x y : List ℕ) → same_text x y ≡ true → x ≡ y
same_texts [] [] e = refl
same_texts [] (b ∷ y) e = cc
same_texts (a ∷ x) [] e = cc
same_texts (a ∷ x) (b ∷ y) e = let f = same_first a b (nat_eq a b) (pointwise nat_eq x y) refl e in let h : a ≡ b = f.0 in let k : x ≡ y = same_texts x y f.1 in cc

named_by : (word : List ℕ) (t u v w : Bool) (name : OptionName)
    → same_text word (name_text Scheme) ≡ t → same_text word (name_text Cap) ≡ u → same_text word (name_text Hcap) ≡ v → same_text word (name_text Stripes) ≡ w
    → cond t (Some Scheme) (cond u (Some Cap) (cond v (Some Hcap) (cond w (Some Stripes) None))) ≡ Some name → word ≡ name_text name
named_by word true u v w name p q r s e = let n : name ≡ Scheme = cc in rw n (same_texts word (name_text Scheme) p)
named_by word false true v w name p q r s e = let n : name ≡ Cap = cc in rw n (same_texts word (name_text Cap) q)
named_by word false false true w name p q r s e = let n : name ≡ Hcap = cc in rw n (same_texts word (name_text Hcap) r)
named_by word false false false true name p q r s e = let n : name ≡ Stripes = cc in rw n (same_texts word (name_text Stripes) s)
named_by word false false false false name p q r s e = absurd (cc)

-- a word that names an option is its name
pub named : (word : List ℕ) (name : OptionName) → name_of word ≡ Some name → word ≡ name_text name
named word name e = named_by word (same_text word (name_text Scheme)) (same_text word (name_text Cap)) (same_text word (name_text Hcap)) (same_text word (name_text Stripes)) name refl refl refl refl e

-- the name of an option names it
pub naming : (name : OptionName) → name_of (name_text name) ≡ Some name
naming Scheme = refl
naming Cap = refl
naming Hcap = refl
naming Stripes = refl

abbrev pub state : ShownValues → Option (List ℕ) → Option OptionName → Bool → Shown
state values word waiting ended = record { values = values; word = word; waiting = waiting; ended = ended }

-- what arguments ask of a command behind these values
abbrev pub asked_behind : Command → ShownValues → Option (List ℕ) → List Argument → Option Asked
asked_behind command values word arguments =
    cond (are_known arguments) (asked_for command (λ (name : OptionName). option_to_list (value_of values name) ++ values_of (name_text name) arguments) (option_to_list word ++ positional arguments)) None

nothing_asked : {A : Type 0} (f : A → Option Asked) (o : Option A) → ((a : A) → f a ≡ None) → option_and_then f o ≡ None
nothing_asked f None h = refl
nothing_asked f (Some a) h = h a

same_asked : {A : Type 0} (f g : A → Option Asked) (o : Option A) → ((a : A) → f a ≡ g a) → option_and_then f o ≡ option_and_then g o
same_asked f g None h = refl
same_asked f g (Some a) h = h a

-- an argument before others
behind_before : (f : List Argument → Option Asked) (argument : Argument) (o : Option (List Argument)) → option_and_then f (before argument o) ≡ option_and_then (λ (more : List Argument). f (argument ∷ more)) o
behind_before f argument None = refl
behind_before f argument (Some more) = refl

never : (known : Bool) (asked : Option Asked) → asked ≡ None → cond known asked None ≡ None
never true asked h = h
never false asked h = refl

-- two positional words are one too many
two_words : (command : Command) (values : OptionName → List (List ℕ)) (x y : List ℕ) (more : List (List ℕ)) → asked_for command values (x ∷ y ∷ more) ≡ None
two_words command values x y more =
    nothing_asked _ (at_most_one (values Scheme)) (λ scheme. nothing_asked _ (at_most_one (values Cap)) (λ limit. nothing_asked _ (at_most_one (values Hcap)) (λ owed. nothing_asked _ (at_most_one (values Stripes)) (λ stripes. refl))))

-- one positional word more
word_more : (command : Command) (values : ShownValues) (word : Option (List ℕ)) (next : List ℕ) (arguments : List Argument)
    → asked_behind command values word (Positional next ∷ arguments) ≡ option_and_then (λ (g : Shown). asked_behind command g.values g.word arguments) (with_positional (state values word None false) next)
word_more command values None next arguments = refl
word_more command values (Some x) next arguments = never (are_known arguments) _ (two_words command (λ (name : OptionName). option_to_list (value_of values name) ++ values_of (name_text name) arguments) x next (positional arguments))

-- one value more, of the option of this name
value_added : (command : Command) (values : ShownValues) (word : Option (List ℕ)) (name : OptionName) (value : List ℕ) (arguments : List Argument) (was : Option (List ℕ)) → value_of values name ≡ was
    → asked_behind command values word (Named (name_text name) value ∷ arguments) ≡ option_and_then (λ (v : ShownValues). asked_behind command v word arguments) (with_value values name value)
value_added command values word Scheme value arguments None e = rw e refl
value_added command values word Cap value arguments None e = rw e refl
value_added command values word Hcap value arguments None e = rw e refl
value_added command values word Stripes value arguments None e = rw e refl
value_added command values word Scheme value arguments (Some x) e = rw e (never (are_known arguments) _ refl)
value_added command values word Cap value arguments (Some x) e =
    rw e (never (are_known arguments) _ (nothing_asked _ (at_most_one (option_to_list values.scheme ++ values_of (name_text Scheme) arguments)) (λ scheme. refl)))
value_added command values word Hcap value arguments (Some x) e =
    rw e (never (are_known arguments) _ (nothing_asked _ (at_most_one (option_to_list values.scheme ++ values_of (name_text Scheme) arguments)) (λ scheme.
    nothing_asked _ (at_most_one (option_to_list values.cap ++ values_of (name_text Cap) arguments)) (λ limit. refl))))
value_added command values word Stripes value arguments (Some x) e =
    rw e (never (are_known arguments) _ (nothing_asked _ (at_most_one (option_to_list values.scheme ++ values_of (name_text Scheme) arguments)) (λ scheme.
    nothing_asked _ (at_most_one (option_to_list values.cap ++ values_of (name_text Cap) arguments)) (λ limit.
    nothing_asked _ (at_most_one (option_to_list values.hcap ++ values_of (name_text Hcap) arguments)) (λ owed. refl)))))

value_more : (command : Command) (values : ShownValues) (word : Option (List ℕ)) (text value : List ℕ) (name : OptionName) (arguments : List Argument) → name_of text ≡ Some name
    → asked_behind command values word (Named text value ∷ arguments) ≡ option_and_then (λ (v : ShownValues). asked_behind command v word arguments) (with_value values name value)
value_more command values word text value name arguments e =
    ap (λ (t : List ℕ). asked_behind command values word (Named t value ∷ arguments)) (named text name e) ∙ value_added command values word name value arguments (value_of values name) refl

-- an option that is not known
unknown : (command : Command) (values : ShownValues) (word : Option (List ℕ)) (name value : List ℕ) (arguments : List Argument) → name_of name ≡ None → asked_behind command values word (Named name value ∷ arguments) ≡ None
unknown command values word name value arguments e = rw e refl

only : (o : Option (List ℕ)) → at_most_one (option_to_list o ++ []) ≡ Some o
only None = refl
only (Some x) = refl

-- no arguments are left
none_left : (command : Command) (values : ShownValues) (word : Option (List ℕ)) → asked_behind command values word [] ≡ finished command (state values word None false)
none_left command values word = rw (only values.scheme, only values.cap, only values.hcap, only values.stripes, only word) refl

-- behind `--`
ended : (command : Command) (values : ShownValues) (word : Option (List ℕ)) (words : List (List ℕ)) → asked_behind command values word (map Positional words) ≡ option_and_then (finished command) (given_by (state values word None true) words)
ended command values word [] = none_left command values word
ended command values None (w ∷ words) = ended command values (Some w) words
ended command values (Some x) (w ∷ words) = word_more command values (Some x) w (map Positional words)

-- what the rest of the words asks for, where an option may wait
abbrev pub Goes : Command → List (List ℕ) → Type 0
Goes command words =
    (values : ShownValues) (word : Option (List ℕ)) (waiting : Option OptionName)
    → option_and_then (asked_behind command values word) (cut (option_map name_text waiting) words) ≡ option_and_then (finished command) (given_by (state values word waiting false) words)

-- a positional word, and the rest
goes_word : (command : Command) (w : List ℕ) (words : List (List ℕ)) (values : ShownValues) (word : Option (List ℕ)) → Goes command words
    → option_and_then (asked_behind command values word) (before (Positional w) (cut None words)) ≡ option_and_then (finished command) (option_and_then (λ (g : Shown). given_by g words) (with_positional (state values word None false) w))
goes_word command w words values None h = behind_before (asked_behind command values None) (Positional w) (cut None words) ∙ h values (Some w) None
goes_word command w words values (Some x) h =
    behind_before (asked_behind command values (Some x)) (Positional w) (cut None words) ∙ nothing_asked _ (cut None words) (λ arguments. word_more command values (Some x) w arguments)

-- the values with one more, and the rest
goes_on : (command : Command) (words : List (List ℕ)) (word : Option (List ℕ)) (next : Option ShownValues) → Goes command words
    → option_and_then (λ (arguments : List Argument). option_and_then (λ (v : ShownValues). asked_behind command v word arguments) next) (cut None words)
    ≡ option_and_then (finished command) (option_and_then (λ (g : Shown). given_by g words) (option_map (λ (v : ShownValues). state v word None false) next))
goes_on command words word None h = nothing_asked _ (cut None words) (λ arguments. refl)
goes_on command words word (Some v) h = h v word None

-- a value, and the rest
goes_value : (command : Command) (text value : List ℕ) (name : OptionName) (words : List (List ℕ)) (values : ShownValues) (word : Option (List ℕ)) → Goes command words → name_of text ≡ Some name
    → option_and_then (asked_behind command values word) (before (Named text value) (cut None words))
    ≡ option_and_then (finished command) (option_and_then (λ (g : Shown). given_by g words) (with_option_value (state values word None false) name value))
goes_value command text value name words values word h e =
    behind_before (asked_behind command values word) (Named text value) (cut None words)
    ∙ same_asked _ (λ (arguments : List Argument). option_and_then (λ (v : ShownValues). asked_behind command v word arguments) (with_value values name value)) (cut None words) (λ arguments. value_more command values word text value name arguments e)
    ∙ goes_on command words word (with_value values name value) h

-- an option that is not known, with its value
goes_nowhere : (command : Command) (name value : List ℕ) (words : List (List ℕ)) (values : ShownValues) (word : Option (List ℕ)) → name_of name ≡ None
    → option_and_then (asked_behind command values word) (before (Named name value) (cut None words)) ≡ None
goes_nowhere command name value words values word e =
    behind_before (asked_behind command values word) (Named name value) (cut None words) ∙ nothing_asked _ (cut None words) (λ arguments. unknown command values word name value arguments e)

-- an option that is not known and waits
waits_for_nothing : (command : Command) (name : List ℕ) (words : List (List ℕ)) (values : ShownValues) (word : Option (List ℕ)) → name_of name ≡ None → option_and_then (asked_behind command values word) (cut (Some name) words) ≡ None
waits_for_nothing command name [] values word e = refl
waits_for_nothing command name (w ∷ words) values word e = go (is_option w)
  where
    go : (t : Bool) → option_and_then (asked_behind command values word) (cond t None (before (Named name w) (cut None words))) ≡ None
    go true = refl
    go false = goes_nowhere command name w words values word e

-- an option, with its value where it has one
goes_option : (command : Command) (w : List ℕ) (words : List (List ℕ)) (values : ShownValues) (word : Option (List ℕ)) → Goes command words → (value : Option (List ℕ)) → value_in w ≡ value → (known : Option OptionName) → name_of (name_in w) ≡ known
    → option_and_then (asked_behind command values word) (cut_option w value (cut None words) (cut (Some w) words))
    ≡ option_and_then (finished command) (option_and_then (λ (g : Shown). given_by g words) (option_and_then (with_named (state values word None false) value) known))
goes_option command w words values word h (Some value) v (Some name) e = goes_value command (name_in w) value name words values word h e
goes_option command w words values word h (Some value) v None e = goes_nowhere command (name_in w) value words values word e
goes_option command w words values word h None v (Some name) e =
    let same : w ≡ name_text name = sym (name_alone w v) ∙ named (name_in w) name e in
    ap (λ (text : List ℕ). option_and_then (asked_behind command values word) (cut (Some text) words)) same ∙ h values word (Some name)
goes_option command w words values word h None v None e =
    waits_for_nothing command w words values word (ap (λ (text : List ℕ). name_of text) (sym (name_alone w v)) ∙ e)

-- a word where no option waits
goes_open : (command : Command) (w : List ℕ) (words : List (List ℕ)) (values : ShownValues) (word : Option (List ℕ)) → Goes command words → (is_end option : Bool)
    → option_and_then (asked_behind command values word) (cond is_end (Some (map Positional words)) (cond option (cut_option w (value_in w) (cut None words) (cut (Some w) words)) (before (Positional w) (cut None words))))
    ≡ option_and_then (finished command) (option_and_then (λ (g : Shown). given_by g words) (cond is_end (Some (state values word None true)) (cond option (with_option (state values word None false) w) (with_positional (state values word None false) w))))
goes_open command w words values word h true option = ended command values word words
goes_open command w words values word h false true = goes_option command w words values word h (value_in w) refl (name_of (name_in w)) refl
goes_open command w words values word h false false = goes_word command w words values word h

-- the value of an option that waits
goes_waiting : (command : Command) (w : List ℕ) (name : OptionName) (words : List (List ℕ)) (values : ShownValues) (word : Option (List ℕ)) → Goes command words → (option : Bool)
    → option_and_then (asked_behind command values word) (cond option None (before (Named (name_text name) w) (cut None words)))
    ≡ option_and_then (finished command) (option_and_then (λ (g : Shown). given_by g words) (cond option None (with_option_value (state values word None false) name w)))
goes_waiting command w name words values word h true = refl
goes_waiting command w name words values word h false = goes_value command (name_text name) w name words values word h (naming name)

goes : (command : Command) (words : List (List ℕ)) → Goes command words
goes command [] values word None = none_left command values word
goes command [] values word (Some name) = refl
goes command (w ∷ words) values word None = goes_open command w words values word (goes command words) (same_text w end_of_options) (is_option w)
goes command (w ∷ words) values word (Some name) = goes_waiting command w name words values word (goes command words) (is_option w)

same_command : (f g : Command → Option Asked) (command : Option Command) → ((c : Command) → f c ≡ g c) → option_and_then f command ≡ option_and_then g command
same_command f g None h = refl
same_command f g (Some c) h = h c

-- what words ask for is what they give one by one
pub words_asked : (words : List (List ℕ)) → asks words ≡ read_asked words
unfolding asks
words_asked [] = refl
words_asked (word ∷ words) = same_command (λ (c : Command). option_and_then (asked_by c) (cut None words)) (λ (c : Command). option_and_then (finished c) (given_by nothing words)) (command_of word) (λ c. goes c words no_values None None)
