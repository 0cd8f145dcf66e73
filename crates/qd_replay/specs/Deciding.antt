-- Which scripts are done, where nothing outside fails.
use Rattle.std.specs.Prelude.{ℕ, ◌≡◌, false, List, [], ◌∷◌, ◌++◌}
use Rattle.qd_grammar.specs.declared.item.Mode.TheVariants.{File}
use Rattle.qd_items.specs.declared.ends.TextEnd.TheVariants.{End}
use Rattle.qd_items.specs.Deciding.{Decides}
use Rattle.qd_items.specs.Judging.{Numbered, items_of}
use Rattle.qd_outside.specs.Causes.{Rose}
use Rattle.qd_path.specs.Made.{Made, asked_in}
use Rattle.qd_replay.specs.declared.due.Refusal.{Refusal}
use Rattle.qd_replay.specs.declared.due.Refusal.TheVariants as refusals
use Rattle.qd_replay.specs.Running.{Ran, AreLegal, IsRefusal}
use Rattle.qd_replay.specs.Scripts.{Act, acts_of, is_bad}
use Rattle.qd_replay.specs.Scripts.Act.{Ask}
use Rattle.qd_replay.specs.Settings.{Books, Setting}

-- a refusal beside want of memory
abbrev pub IsFirm : Refusal → Type 0
IsFirm refusals.NoMemory = ⊥
IsFirm refusal = Unit {0}

-- whatever calls these acts may have made, with legal logs, none of them is refused but for want of memory
abbrev pub NeverRefused : Setting → Books → List Act → Type 0
NeverRefused set books acts = (done later : List Act) (made : List Made) (x : Made) (out : List ℕ) (refusal : Refusal)
    → acts ≡ done ++ Ask (asked_in x) ∷ later → Ran set.stripes set.defs done made out → AreLegal set.stripes books (made ++ x ∷ []) → IsFirm refusal → IsRefusal refusal x → ⊥

-- no item stops the script but END
abbrev pub NoneBad : List Numbered → Type 0
NoneBad [] = Unit {0}
NoneBad (x ∷ before) = (is_bad x.item ≡ false) × NoneBad before

-- the text reaches END without a fault, no item asks for a step that a run does not have, and no call may be refused
pub record IsSound (set : Setting) (books : Books) (text : List ℕ) : Type 0 where
  pub lines : List (List ℕ)
  pub decides : Decides File set.defs text End lines
  pub none_bad : NoneBad (items_of File set.defs lines)
  pub granted : NeverRefused set books (acts_of set.stripes (items_of File set.defs lines))

-- no fault was counted
abbrev pub NoFault : ℕ → ℕ → ℕ → ℕ → Type 0
NoFault reads_before reads_after writes_before writes_after = (Rose reads_before reads_after → ⊥) × (Rose writes_before writes_after → ⊥)
