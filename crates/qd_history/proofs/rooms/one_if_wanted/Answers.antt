use Rattle.std.proofs.Common.{Bool, ap, sym}
use Rattle.std.specs.Prelude.{if◌then◌else◌}
use Rattle.qd_history.proofs.RoomLaws.{wanted-some, wanted-none}
use Rattle.qd_history.proofs.rooms.one_if_wanted.Goals as goal

pub returns-in-Some : goal.returns-in-Some
returns-in-Some c = sym (ap (λ (b : Bool). if b then 1 else 0) (wanted-some c.args.table.now c.args.e.now.key c.in-Some.field-0 (sym c.in-Some.ensures.slot)))

pub returns-in-None : goal.returns-in-None
returns-in-None c = sym (ap (λ (b : Bool). if b then 1 else 0) (wanted-none c.args.table.now c.args.e.now.key (sym c.in-None.ensures.slot)))
