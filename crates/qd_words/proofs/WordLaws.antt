-- The laws of words.
use Rattle.std.proofs.Common.{◌≡◌, ℕ, ◌<◌, Bool, true, false, cond, List, [], ◌∷◌, ◌++◌, length, refl, sym, ◌∙◌, ap, arith, length-append}
use Rattle.std.specs.Prelude.{◌==◌, ◌&&◌, nat_eq, nat_lt, Option, Some, None, is_some, codes}
use Rattle.std.proofs.lemmas.Bool.Decides.{nat_tests}
use Rattle.qd_words.specs.declared.ask.Command.{Command}
use Rattle.qd_words.specs.declared.ask.OptionName.TheVariants.{Scheme, Cap, Hcap, Stripes}
use Rattle.qd_words.specs.Words.{same_text, is_option, end_of_options, name_in, value_in, IsName, Argument, before, cut, arguments}
use Rattle.qd_words.specs.Words.Argument.{Named, Positional}
use Rattle.qd_words.specs.declared.net_ask.NetCommand.{NetCommand}
use Rattle.qd_words.specs.declared.net_ask.NetCommand.TheVariants as commands
use Rattle.qd_words.specs.NetAsking.{NetAsked, takes, takes_all, command_by, net_asked_by}
use Rattle.qd_words.specs.Asking.{name_text, name_of, values_of, positional, are_known, asked_by}

value_step : (t : Bool) (b : ℕ) (name value : List ℕ) → cond t (Some name) (value_in name) ≡ None → (value_in name ≡ None → value_in (name ++ 61 ∷ value) ≡ Some value) → cond t (Some (name ++ 61 ∷ value)) (value_in (name ++ 61 ∷ value)) ≡ Some value
value_step true b name value h k = absurd (cc)
value_step false b name value h k = k h

value_behind : (name value : List ℕ) → value_in name ≡ None → value_in (name ++ 61 ∷ value) ≡ Some value
value_behind [] value h = refl
value_behind (b ∷ name) value h = value_step (b == 61) b name value h (value_behind name value)

name_step : (t : Bool) (b : ℕ) (name value : List ℕ) → cond t (Some name) (value_in name) ≡ None → (value_in name ≡ None → name_in (name ++ 61 ∷ value) ≡ name) → cond t [] (b ∷ name_in (name ++ 61 ∷ value)) ≡ b ∷ name
name_step true b name value h k = absurd (cc)
name_step false b name value h k = ap (λ (n : List ℕ). b ∷ n) (k h)

name_before : (name value : List ℕ) → value_in name ≡ None → name_in (name ++ 61 ∷ value) ≡ name
name_before [] value h = refl
name_before (b ∷ name) value h = name_step (b == 61) b name value h (name_before name value)

and_first : (a b : Bool) → (a && b) ≡ true → a ≡ true
and_first true b h = refl
and_first false b h = absurd (cc)

and_second : (a b : Bool) → (a && b) ≡ true → b ≡ true
and_second true b h = h
and_second false b h = absurd (cc)

option_longer : (name more : List ℕ) → is_option name ≡ true → is_option (name ++ more) ≡ true
option_longer [] more h = absurd (cc)
option_longer (b ∷ name) more h =
    let d : (b == 45) ≡ true = and_first (b == 45) (nat_lt 1 (length (b ∷ name))) h in
    let l : nat_lt 1 (length (b ∷ name)) ≡ true = and_second (b == 45) (nat_lt 1 (length (b ∷ name))) h in
    let n : 1 < length (b ∷ name) = grind (arith, nat_tests) in
    let m : 1 < length (b ∷ (name ++ more)) = simp length-append (omega arith) in
    let k : nat_lt 1 (length (b ∷ (name ++ more))) ≡ true = grind (arith, nat_tests) in
    rw (d, k) refl

two_long : (a b c : ℕ) (more : List ℕ) (t u : Bool) → (t && (u && false)) ≡ false
two_long a b c more true true = refl
two_long a b c more true false = refl
two_long a b c more false u = refl

-- three bytes are not `--`
goes_on : (name value : List ℕ) → is_option name ≡ true → same_text (name ++ 61 ∷ value) end_of_options ≡ false
goes_on [] value h = absurd (cc)
goes_on (b ∷ []) value h =
    let l : nat_lt 1 (length (b ∷ [])) ≡ true = and_second (b == 45) (nat_lt 1 (length (b ∷ []))) h in
    absurd (cc)
goes_on (a ∷ b ∷ []) value h = two_long a b 61 value (nat_eq a 45) (nat_eq b 45)
goes_on (a ∷ b ∷ c ∷ name) value h = two_long a b c (name ++ 61 ∷ value) (nat_eq a 45) (nat_eq b 45)

pub value_behind_equals : (name value : List ℕ) (words : List (List ℕ)) → IsName name → is_option value ≡ false → arguments ((name ++ 61 ∷ value) ∷ words) ≡ arguments (name ∷ value ∷ words)
value_behind_equals name value words h v =
    let one : arguments ((name ++ 61 ∷ value) ∷ words) ≡ before (Named name value) (cut None words) =
    rw (goes_on name value h.option, option_longer name (61 ∷ value) h.option, value_behind name value h.alone, name_before name value h.alone) refl in
    let two : arguments (name ∷ value ∷ words) ≡ before (Named name value) (cut None words) =
    rw (h.goes_on, h.option, h.alone, v) refl in
    one ∙ sym two

known_order : (first last : List Argument) (name value word : List ℕ) → are_known (first ++ Named name value ∷ Positional word ∷ last) ≡ are_known (first ++ Positional word ∷ Named name value ∷ last)
known_order [] last name value word = refl
known_order (Named n v ∷ first) last name value word = ap (λ (t : Bool). is_some (name_of n) && t) (known_order first last name value word)
known_order (Positional w ∷ first) last name value word = known_order first last name value word

values_order : (option : List ℕ) (first last : List Argument) (name value word : List ℕ) → values_of option (first ++ Named name value ∷ Positional word ∷ last) ≡ values_of option (first ++ Positional word ∷ Named name value ∷ last)
values_order option [] last name value word = refl
values_order option (Named n v ∷ first) last name value word = ap (λ (t : List (List ℕ)). cond (same_text n option) (v ∷ t) t) (values_order option first last name value word)
values_order option (Positional w ∷ first) last name value word = values_order option first last name value word

positional_order : (first last : List Argument) (name value word : List ℕ) → positional (first ++ Named name value ∷ Positional word ∷ last) ≡ positional (first ++ Positional word ∷ Named name value ∷ last)
positional_order [] last name value word = refl
positional_order (Named n v ∷ first) last name value word = positional_order first last name value word
positional_order (Positional w ∷ first) last name value word = ap (λ (t : List (List ℕ)). w ∷ t) (positional_order first last name value word)

pub any_order : (command : Command) (first last : List Argument) (name value word : List ℕ) → asked_by command (first ++ Named name value ∷ Positional word ∷ last) ≡ asked_by command (first ++ Positional word ∷ Named name value ∷ last)
any_order command first last name value word =
    rw (known_order first last name value word, values_order (name_text Scheme) first last name value word, values_order (name_text Cap) first last name value word, values_order (name_text Hcap) first last name value word, values_order (name_text Stripes) first last name value word, positional_order first last name value word) refl

takes_order : (command : NetCommand) (first last : List Argument) (name value word : List ℕ) → takes_all command (first ++ Named name value ∷ Positional word ∷ last) ≡ takes_all command (first ++ Positional word ∷ Named name value ∷ last)
takes_order command [] last name value word = refl
takes_order command (Named n v ∷ first) last name value word = ap (λ (t : Bool). takes command n && t) (takes_order command first last name value word)
takes_order command (Positional w ∷ first) last name value word = takes_order command first last name value word

command_order : (command : NetCommand) (first last : List Argument) (name value word : List ℕ) (words : List (List ℕ)) → command_by command (first ++ Named name value ∷ Positional word ∷ last) words ≡ command_by command (first ++ Positional word ∷ Named name value ∷ last) words
command_order commands.Post first last name value word [] = refl
command_order commands.Post first last name value word (a ∷ []) = rw (values_order (codes "--scheme") first last name value word) refl
command_order commands.Post first last name value word (a ∷ b ∷ []) = rw (values_order (codes "--scheme") first last name value word) refl
command_order commands.Post first last name value word (a ∷ b ∷ c ∷ words) = refl
command_order commands.Dump first last name value word [] = refl
command_order commands.Dump first last name value word (a ∷ []) = refl
command_order commands.Dump first last name value word (a ∷ b ∷ words) = rw (values_order (codes "--scheme") first last name value word, values_order (codes "--count") first last name value word, values_order (codes "--limit") first last name value word) refl

pub any_order_of_a_server : (command : NetCommand) (first last : List Argument) (name value word : List ℕ) → net_asked_by command (first ++ Named name value ∷ Positional word ∷ last) ≡ net_asked_by command (first ++ Positional word ∷ Named name value ∷ last)
any_order_of_a_server command first last name value word =
    rw (takes_order command first last name value word, positional_order first last name value word) (ap (λ (asked : Option NetAsked). cond (takes_all command (first ++ Positional word ∷ Named name value ∷ last)) asked None) (command_order command first last name value word (positional (first ++ Positional word ∷ Named name value ∷ last))))
