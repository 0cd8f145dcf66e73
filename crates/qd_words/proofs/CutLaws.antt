-- Words, cut into arguments one by one.
use Rattle.std.proofs.Common.{◌≡◌, ℕ, Bool, true, false, cond, List, ◌∷◌, sym}
use Rattle.std.specs.Borrow.{Bor}
use Rattle.std.specs.Prelude.{Option, Some, None}
use Rattle.qd_words.specs.declared.cutting.Stage.{Stage}
use Rattle.qd_words.specs.declared.cutting.Stage.TheVariants as stages
use Rattle.qd_words.specs.Words.{same_text, end_of_options, is_option, name_in, value_in, Argument, before, cut}
use Rattle.qd_words.specs.Words.Argument.{Named, Positional}
use Rattle.qd_words.specs.Cutting.{with_front, cut_behind}

-- an argument goes in behind `front`, and `back` is what that makes
abbrev pub Gained : List Argument → Argument → Bool → List Argument → Type 0
Gained front a goes_on back = (more : Option (List Argument)) → with_front front (before a more) ≡ cond goes_on (with_front back more) None

-- what a word and those behind it are, before and behind it
abbrev pub Taken : List Argument → Stage → List ℕ → Bool → List Argument → Stage → Type 0
Taken front s word goes_on back t = (words : List (List ℕ)) → with_front front (cut_behind s (word ∷ words)) ≡ cond goes_on (with_front back (cut_behind t words)) None

pub open_positional : (front back : List Argument) (s t : Stage) (word : List ℕ) (goes_on : Bool) → s ≡ stages.Open → t ≡ s → same_text word end_of_options ≡ false → is_option word ≡ false → Gained front (Positional word) goes_on back → Taken front s word goes_on back t
open_positional front back s t word goes_on p q e o h words = rw (q, p, e, o) (h (cut None words))

pub open_valued : (front back : List Argument) (s t : Stage) (word name value : List ℕ) (goes_on : Bool) → s ≡ stages.Open → t ≡ s → same_text word end_of_options ≡ false → is_option word ≡ true → name ≡ name_in word → Some value ≡ value_in word → Gained front (Named name value) goes_on back → Taken front s word goes_on back t
open_valued front back s t word name value goes_on p q e o n v h words = rw (q, p, e, o, sym v, sym n) (h (cut None words))

-- the value that an option waited for
pub waited_value : (front back : List Argument) (s t : Stage) (name : Bor (List ℕ)) (word : List ℕ) (goes_on : Bool) → s ≡ stages.Waiting name → t ≡ stages.Open → is_option word ≡ false → Gained front (Named name.now word) goes_on back → Taken front s word goes_on back t
waited_value front back s t name word goes_on p q o h words = rw (p, q, o) (h (cut None words))
