-- What a line makes of the place where a text stands, and of the calls that are due.
use Rattle.std.specs.Prelude.{ℕ, ◌≡◌, Bool, true, false, Result, Ok, Err, List, ◌++◌}
use Rattle.qd_grammar.specs.declared.item.Item.{Item}
use Rattle.qd_path.specs.declared.call.Asked.{Asked}
use Rattle.qd_path.specs.Calls.{Place, calls_of, calls_with, after}
use Rattle.qd_path.specs.Groups.{no_group}

-- an item was heard: the calls of the group that it ends are due; without memory they are not
abbrev pub Hears : ℕ → ℕ → Item → Bool → Place → List Asked → Place → List Asked → Type 0
Hears n agent item true p due q due' = (q ≡ after item p) × (due' ≡ due ++ calls_with n agent item p)
Hears n agent item false p due q due' = Unit {0}

-- the open group was closed: its calls are due
abbrev pub Closes : {E : Type 0} → ℕ → ℕ → Result (Unit {0}) E → Place → List Asked → Place → List Asked → Type 0
Closes n agent (Ok u) p due q due' = (q ≡ record { message = p.message; group = no_group }) × (due' ≡ due ++ calls_of n agent p.message p.group)
Closes n agent (Err e) p due q due' = Unit {0}
