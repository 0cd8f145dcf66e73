-- How an engine that writes goes on after an answer.
use Rattle.std.specs.Prelude.{ℕ, ◌+◌, ◌*◌, nat_lt, nat_eq, if◌then◌else◌, Option, Some, None, []}
use Rattle.qd_path.specs.Texts.{next_place}
use Rattle.qd_replies.specs.declared.ends.OutFault.{OutFault}
use Rattle.qd_replies.specs.declared.ends.OutFault.TheVariants as faults
use Rattle.qd_replies.specs.declared.ends.OutTurn.{OutTurn}
use Rattle.qd_replies.specs.declared.ends.OutTurn.TheVariants as turns
use Rattle.qd_replies.specs.declared.out_engine.Tools.{Tools}
use Rattle.qd_replies.specs.declared.out_engine.Answer.{Answer}
use Rattle.qd_replies.specs.declared.out_engine.Answer.TheVariants.{Gave, Unwritten, Busy, Spent}
use Rattle.qd_replies.specs.Asked.{empty}

-- all buffers are there, and nothing is held back
abbrev pub tools_ready : Tools
tools_ready = record { records = Some empty; items = Some empty; events = Some empty; wants = Some empty; output = [] }

-- what is answered
abbrev pub turn_by : ℕ → Answer → ℕ → OutTurn
turn_by n (Gave count) quiet = if nat_lt 0 count then turns.Went count else if nat_eq (quiet + 1) (3 * n) then turns.Idle else turns.Went 0
turn_by n Unwritten quiet = turns.Ended faults.WriteFault
turn_by n (Busy first found) quiet = turns.Busy first found
turn_by n Spent quiet = turns.Ended faults.Spent

-- the place in the round behind an answer
abbrev pub place_by : ℕ → Answer → ℕ → ℕ
place_by n (Gave count) at = next_place n at
place_by n _ at = at

-- how many stripes in a row answered empty, behind an answer
abbrev pub quiet_by : ℕ → Answer → ℕ → ℕ
quiet_by n (Gave count) quiet = if nat_lt 0 count then 0 else if nat_eq (quiet + 1) (3 * n) then 0 else quiet + 1
quiet_by n _ quiet = quiet

-- the fault that ends an engine with this answer
abbrev pub fault_in : OutTurn → Option OutFault
fault_in (turns.Ended fault) = Some fault
fault_in _ = None
