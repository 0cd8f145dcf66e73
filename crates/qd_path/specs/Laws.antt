-- What holds of the calls of every text.
use Rattle.std.specs.Prelude.{ℕ, ◌≡◌, ◌<◌, ◌≤◌, ◌^◌, nat_eq, false, Some, Ok, List, [], ◌∷◌, ◌++◌, length, filter, All}
use mathlib.Core.List.{IsPrefix}
use Rattle.qd_buffer.specs.Filled.{Filled}
use Rattle.qd_buffer.specs.Splitting.{of_stripe}
use Rattle.qd_scheme.specs.declared.defs.RecordDef.{RecordDef}
use Rattle.qd_scheme.specs.declared.key.Key.{Key}
use Rattle.qd_sub.specs.declared.op.Op.{Op}
use Rattle.qd_sub.specs.declared.op.Op.TheVariants.{Add, Remove, Close, Put, Take, Watch}
use Rattle.qd_grammar.specs.declared.item.Item.{Item}
use Rattle.qd_grammar.specs.declared.item.Mode.{Mode}
use Rattle.qd_items.specs.Judging.{items_of, said, state_of, NoneBehind}
use Rattle.qd_items.specs.Standing.{Past, IsTaken}
use Rattle.qd_path.specs.declared.call.Asked.{Asked}
use Rattle.qd_path.specs.declared.call.Call.{Call}
use Rattle.qd_path.specs.declared.call.Call.TheVariants as kinds
use Rattle.qd_path.specs.declared.side.Side.{Side}
use Rattle.qd_path.specs.declared.side.Side.TheVariants.{Up}
use Rattle.qd_path.specs.Calls.{AskFor, asks, asks_all, calls, mode_of, place_of}
use Rattle.qd_path.specs.Groups.{is_foreign}
use Rattle.qd_path.specs.Lists.{Lists, GrewBy, at_stripe}
use Rattle.qd_path.specs.Made.{Made}

-- an item that a line spells behind others is of the current message: it is not foreign to the group that is open there
abbrev pub NoneForeign : Type 0
NoneForeign = (mode : Mode) (defs : List RecordDef) (lines : List (List ℕ)) (line : List ℕ) (item : Item)
    → said mode defs (state_of mode defs lines) line ≡ Ok (Some item) → is_foreign (place_of (items_of mode defs lines)).message item ≡ false

-- the op puts items
abbrev pub IsPutOp : {P T : Type 0} → Op P T → Type 0
IsPutOp (Add agent subs) = ⊥
IsPutOp (Remove agent keys) = ⊥
IsPutOp (Close agent) = ⊥
IsPutOp (Put items) = Unit {0}
IsPutOp (Take agent most out) = ⊥
IsPutOp (Watch watcher most out) = ⊥

abbrev pub IsPut : Call → Type 0
IsPut (kinds.Ticker op) = IsPutOp op
IsPut (kinds.Stream op) = IsPutOp op
IsPut (kinds.History op) = IsPutOp op

-- all calls that the text of a peer above asks for put items
abbrev pub AllPuts : Type 0
AllPuts = (defs : List RecordDef) (watcher n : ℕ) (lines : List (List ℕ)) → All (λ a. IsPut a.call) (calls defs (Up watcher) n lines)

-- the calls of one stripe
abbrev pub of_calls : ℕ → List Asked → List Asked
of_calls i asked = filter (λ a. nat_eq a.stripe i) asked

-- items that are cut by stripe ask each stripe once at most, with the items of its keys, in order
abbrev pub CutsByStripe : {X : Type 0} → (X → Key) → Type 0
CutsByStripe {X} key = (call : Filled X → Call) (n i : ℕ) (items : List X) → i < n → of_calls i (asks_all key call n items) ≡ asks call i (of_stripe key n i items)

-- parts, put together again, are these items: each time the item that comes next stands first in one part, and behind the last one
-- nothing is left
abbrev pub AreTogether : {X : Type 0} → ℕ → (ℕ → List X) → List X → Type 0
AreTogether {X} n parts [] = (i : ℕ) → i < n → parts i ≡ []
AreTogether {X} n parts (x ∷ xs) = (i : ℕ) × (rest : List X) × (i < n) × (parts i ≡ x ∷ rest) × AreTogether n (at_stripe i rest parts) xs

-- what the stripes are asked with for a list of items, put together again, is this list
abbrev pub ComesTogether : {X : Type 0} → (X → Key) → Type 0
ComesTogether {X} key = (call : Filled X → Call) (n : ℕ) (items : List X) → 0 < n
    → (parts : ℕ → List X) × ((i : ℕ) → i < n → of_calls i (asks_all key call n items) ≡ asks call i (parts i)) × AreTogether n parts items

-- lists that grew by some calls, and then by others, grew by them all
abbrev pub GrowsOn : Type 0
GrowsOn = (n : ℕ) (a b : List Made) (l m r : Lists) → GrewBy n a l m → GrewBy n b m r → GrewBy n (a ++ b) l r

-- each text that is no longer than what is read of one asks for one list of calls
abbrev pub AsksForSome : Type 0
AsksForSome = (defs : List RecordDef) (side : Side) (n : ℕ) (bytes : List ℕ) → length bytes ≤ 2 ^ 40 → (asked : List Asked) × AskFor defs side n bytes asked

-- and for that alone
abbrev pub AsksForOne : Type 0
AsksForOne = (defs : List RecordDef) (side : Side) (n : ℕ) (bytes : List ℕ) (a b : List Asked) → AskFor defs side n bytes a → AskFor defs side n bytes b → a ≡ b

-- the calls of the lines judged so far are the first ones of those that the bytes ask for
abbrev pub AsksFirst : Type 0
AsksFirst = (defs : List RecordDef) (side : Side) (n : ℕ) (p : Past) (rest : List ℕ) (asked : List Asked)
    → IsTaken p rest → NoneBehind (mode_of side) defs p.lines → AskFor defs side n p.taken asked → IsPrefix (calls defs side n p.lines) asked
