-- Words that ask for a script ask for nothing else.
use Rattle.std.proofs.Common.{◌≡◌, ℕ, List, Option, Some, None, ◌∙◌, subst}
use Rattle.std.specs.Prelude.{IfSome}
use Rattle.qd_words.specs.Asking.{Asked, asks}
use Rattle.qd_words.specs.Scripts.{asks_script}
use Rattle.qd_words.specs.declared.script.ScriptAsk.{ScriptAsk}
use Rattle.qd_words.proofs.ScriptWords.{words_asked, words_alone}

pub script_alone : (words : List (List ℕ)) (found : Asked) (ask : ScriptAsk) → Some found ≡ asks words → asks_script words ≡ Some ask → ⊥
script_alone words found ask e f =
    let none : asks words ≡ None = subst (λ (o : Option ScriptAsk). IfSome o (λ a. asks words ≡ None)) (words_asked words ∙ f) (words_alone words) in
    let no : ◌≡◌ {A = Option Asked} (Some found) None = e ∙ none in
    absurd (cc)
