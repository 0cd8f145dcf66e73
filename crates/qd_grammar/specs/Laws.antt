-- The laws of lines.
use Rattle.std.specs.Prelude.{ℕ, ◌≡◌, ◌⊎◌, List}
use Rattle.qd_scheme.specs.declared.defs.RecordDef.{RecordDef}
use Rattle.qd_grammar.specs.declared.item.Mode.{Mode}
use Rattle.qd_grammar.specs.declared.item.Item.{Item}
use Rattle.qd_grammar.specs.declared.fault.Why.{Why}
use Rattle.qd_scheme.specs.Schemes.{IsScheme}
use Rattle.qd_grammar.specs.Canonical.{canonical}
use Rattle.qd_grammar.specs.Items.{IsItem, MayStand}
use Rattle.qd_grammar.specs.Lines.{IsSkipped, Spells, HasFault}
use Rattle.qd_grammar.specs.declared.state.State.{State}

-- some line spells the item in some state
abbrev pub Fits : List RecordDef → Item → Type 0
Fits defs item = (mode : Mode) × ((s : State) × ((line : List ℕ) × Spells mode s defs line item))

-- at least one holds
abbrev pub IsOneOfThree : Type 0
IsOneOfThree = (mode : Mode) (s : State) (defs : List RecordDef) (line : List ℕ) → IsSkipped line ⊎ (((item : Item) × Spells mode s defs line item) ⊎ ((place : ℕ) × ((why : Why) × HasFault mode s defs line place why)))

-- and no two of them
abbrev pub IsOnlyOne : Type 0
IsOnlyOne = (mode : Mode) (s : State) (defs : List RecordDef) (line : List ℕ) (item : Item) (place : ℕ) (why : Why)
    → (IsSkipped line → Spells mode s defs line item → ⊥) × (IsSkipped line → HasFault mode s defs line place why → ⊥) × (Spells mode s defs line item → HasFault mode s defs line place why → ⊥)

-- no line spells two items, nor has two faults, in one state
abbrev pub SpellsOne : Type 0
SpellsOne = (mode : Mode) (s : State) (defs : List RecordDef) (line : List ℕ) (a b : Item) → Spells mode s defs line a → Spells mode s defs line b → a ≡ b

abbrev pub HasOneFault : Type 0
HasOneFault = (mode : Mode) (s : State) (defs : List RecordDef) (line : List ℕ) (p q : ℕ) (v w : Why) → HasFault mode s defs line p v → HasFault mode s defs line q w → (p ≡ q) × (v ≡ w)

-- the canonical line of an item spells it in every state in which any line does
abbrev pub CanonicalSpells : Type 0
CanonicalSpells = (mode : Mode) (s : State) (defs : List RecordDef) (line : List ℕ) (item : Item) → IsScheme defs → Spells mode s defs line item → Spells mode s defs (canonical defs item) item

-- two different items of one state have different canonical lines
abbrev pub CanonicalDiffers : Type 0
CanonicalDiffers = (mode : Mode) (s : State) (defs : List RecordDef) (v w : List ℕ) (a b : Item) → IsScheme defs → Spells mode s defs v a → Spells mode s defs w b → canonical defs a ≡ canonical defs b → a ≡ b

-- the canonical line of each item spells it wherever the item may stand
abbrev pub EachSpells : Type 0
EachSpells = (mode : Mode) (s : State) (defs : List RecordDef) (item : Item) → IsScheme defs → IsItem defs item → MayStand mode s defs item → Spells mode s defs (canonical defs item) item

-- so some line spells each item
abbrev pub EachFits : Type 0
EachFits = (defs : List RecordDef) (item : Item) → IsScheme defs → IsItem defs item → Fits defs item

-- and what a line spells is an item that may stand there
abbrev pub SpellsItems : Type 0
SpellsItems = (mode : Mode) (s : State) (defs : List RecordDef) (line : List ℕ) (item : Item) → Spells mode s defs line item → IsItem defs item × MayStand mode s defs item
