-- How a text alone decides its end, and the lines that are judged before it.
use Rattle.std.specs.Prelude.{ℕ, ◌≡◌, ◌⊎◌, Some, Option, List, ◌++◌, length}
use Rattle.qd_grammar.specs.declared.item.Mode.{Mode}
use Rattle.qd_outside.specs.Causes.{Rose}
use Rattle.qd_scheme.specs.declared.defs.RecordDef.{RecordDef}
use Rattle.qd_items.specs.declared.ends.TextEnd.{TextEnd}
use Rattle.qd_items.specs.declared.ends.TextEnd.TheVariants.{NoMemory}
use Rattle.qd_items.specs.Ends.{Causes, IsEnded}
use Rattle.qd_items.specs.Judging.{stop_of}
use Rattle.qd_items.specs.Judging.Stop.{Open}
use Rattle.qd_items.specs.Standing.{Past, IsTaken}

-- a beginning of the text, which these lines begin, is the cause of this end
pub record Decides (mode : Mode) (defs : List RecordDef) (text : List ℕ) (end : TextEnd) (lines : List (List ℕ)) : Type 0 where
  pub bytes : List ℕ
  pub tail : List ℕ
  pub rest : List ℕ
  pub whole : text ≡ bytes ++ tail
  pub taken : IsTaken (record { taken = bytes; lines = lines }) rest
  pub cause : Causes end (stop_of mode defs lines) (length lines) rest (length bytes) (Some tail)

-- each text decides an end
abbrev pub SomeEnd : Type 0
SomeEnd = (mode : Mode) (defs : List RecordDef) (text : List ℕ) → (end : TextEnd) × (lines : List (List ℕ)) × Decides mode defs text end lines

-- and one alone, with the lines before it
abbrev pub OneEnd : Type 0
OneEnd = (mode : Mode) (defs : List RecordDef) (text : List ℕ) (a b : TextEnd) (xs ys : List (List ℕ))
    → Decides mode defs text a xs → Decides mode defs text b ys → (a ≡ b) × (xs ≡ ys)

-- a reading that counted no fault, and for which there was memory, ended as its text decides, with these lines
abbrev pub DecidedEnd : Type 0
DecidedEnd = (mode : Mode) (defs : List RecordDef) (text : List ℕ) (end other : TextEnd) (p : Past) (rest : List ℕ) (left : Option (List ℕ)) (before after : ℕ) (lines : List (List ℕ))
    → IsEnded mode defs (Some text) end p rest left before after → (Rose before after → ⊥) → Decides mode defs text other lines
    → ((end ≡ other) × (p.lines ≡ lines)) ⊎ (end ≡ NoMemory)

-- at any time the lines judged are the first ones of those that the text decides
abbrev pub DecidedLines : Type 0
DecidedLines = (mode : Mode) (defs : List RecordDef) (text tail : List ℕ) (p : Past) (rest : List ℕ) (end : TextEnd) (lines : List (List ℕ))
    → text ≡ p.taken ++ tail → IsTaken p rest → stop_of mode defs p.lines ≡ Open → Decides mode defs text end lines
    → (more : List (List ℕ)) × (lines ≡ more ++ p.lines)
