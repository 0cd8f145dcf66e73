-- What holds of the calls of every engine that writes, and of the items whose lines it writes.
use Rattle.std.specs.Prelude.{ℕ, ◌≡◌, ◌<◌, ◌≤◌, ◌⊎◌, ◌+◌, ◌*◌, ◌^◌, true, List, [], ◌∷◌, ◌++◌, length}
use Rattle.std.specs.List.{AllByRecursion}
use Rattle.qd_scheme.specs.declared.defs.RecordDef.{RecordDef}
use Rattle.qd_grammar.specs.declared.item.Item.{Item}
use Rattle.qd_grammar.specs.declared.item.Item.TheVariants as items
use Rattle.qd_grammar.specs.Items.{IsCell, IsItem, IsSymbolText}
use Rattle.qd_path.specs.declared.kind.Kind.TheVariants as kinds
use Rattle.qd_path.specs.Groups.{kind_of}
use Rattle.qd_path.specs.Made.{Made}
use Rattle.qd_path.specs.Texts.{fits, is_idle, items_in, place_behind, quiet_of}

-- each of these calls was answered without items
abbrev pub AreEmpty : List Made → Type 0
AreEmpty [] = Unit {0}
AreEmpty (x ∷ made) = (items_in x ≡ []) × AreEmpty made

-- behind these calls the round begins anew: none was made, or the newest one was answered with items, or the engine was idle at it
abbrev pub BeginsAnew : ℕ → List Made → Type 0
BeginsAnew n [] = Unit {0}
BeginsAnew n (x ∷ before) = (0 < length (items_in x)) ⊎ (is_idle n (items_in x) (quiet_of n before) ≡ true)

-- since the round began anew as many calls were made as there are stripes, and each was answered without items
pub record IsQuietRound (n : ℕ) (call : Made) (past : List Made) : Type 0 where
  pub newer : List Made
  pub older : List Made
  pub whole : past ≡ newer ++ older
  pub count : length (call ∷ newer) ≡ 3 * n
  pub empties : AreEmpty (call ∷ newer)
  pub anew : BeginsAnew n older

-- an engine is idle exactly there
abbrev pub IsExactlyIdle : Type 0
IsExactlyIdle = (n : ℕ) (past : List Made) (call : Made)
    → (is_idle n (items_in call) (quiet_of n past) ≡ true → IsQuietRound n call past) × (IsQuietRound n call past → is_idle n (items_in call) (quiet_of n past) ≡ true)

-- the place in the round is the number of calls modulo the number of stripes, so each run of so many calls asks each stripe once
abbrev pub PlacesGoRound : Type 0
PlacesGoRound = (n : ℕ) (past : List Made) → 0 < n → (rounds : ℕ) × (length past ≡ rounds * (3 * n) + place_behind n past) × (place_behind n past < 3 * n)

-- symbols, cells, flags and counts are such as their types hold
abbrev pub HasValues : Item → Type 0
HasValues (items.Rec r) = IsSymbolText r.key.sym × AllByRecursion IsCell r.cells
HasValues (items.Ev e) = IsSymbolText e.key.sym × AllByRecursion IsCell e.cells × (e.flags ≤ 255)
HasValues (items.Sub key) = IsSymbolText key.sym
HasValues (items.HistSub sub) = IsSymbolText sub.key.sym
HasValues (items.Lost key n) = IsSymbolText key.sym × (n < 2 ^ 64)
HasValues _ = Unit {0}

-- a body line is written of exactly the items under the scheme, so it is one that spells the item
abbrev pub FitsItems : Type 0
FitsItems = (defs : List RecordDef) (item : Item) → kind_of item ≡ kinds.Body → HasValues item → (fits defs item ≡ true → IsItem defs item) × (IsItem defs item → fits defs item ≡ true)
