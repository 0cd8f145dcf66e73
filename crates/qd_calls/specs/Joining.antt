-- What became of a body line.
use Rattle.std.specs.Prelude.{◌≡◌, true, false, Result, Ok, Err, Option}
use Rattle.qd_grammar.specs.declared.item.Item.{Item}
use Rattle.qd_grammar.specs.declared.item.Message.{Message}
use Rattle.qd_path.specs.Groups.{Group, group_with, is_foreign}
use Rattle.qd_calls.specs.declared.group.Joined.{Joined}
use Rattle.qd_calls.specs.declared.group.Joined.TheVariants as joins

abbrev pub joined_of : {E : Type 0} → Result (Unit {0}) E → Joined
joined_of (Ok u) = joins.Joined
joined_of (Err e) = joins.NoMemory

-- a body line joined the open group, or it is not of the current message, or there was no memory for one that is
abbrev pub Joins : Option Message → Item → Joined → Group → Group → Type 0
Joins message item joins.Joined g h = (is_foreign message item ≡ false) × (h ≡ group_with message item g)
Joins message item joins.Foreign g h = (is_foreign message item ≡ true) × (h ≡ g)
Joins message item joins.NoMemory g h = is_foreign message item ≡ false
