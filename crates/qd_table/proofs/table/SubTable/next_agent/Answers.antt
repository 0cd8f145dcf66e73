use Rattle.std.proofs.Common.{◌<◌, ◌≤◌, arith, length}
use Rattle.qd_table.proofs.Shown.{tell-next, tell-no_next, past-hold, cell-of}
use Rattle.qd_table.proofs.table.SubTable.next_agent.Goals as goal

pub returns-then-slot-slots-clause-none : goal.returns-then-slot-slots-clause-none
returns-then-slot-slots-clause-none c =
    let l : length c.self.inside.names.names ≤ c.args.slot = let e = c.slots.ensures.slots in let t = c.if-slot-slots.true in omega arith in
    λ b u. past-hold c.self.invariant.0 c.self.view_is b c.args.slot l

pub returns-clause-next : goal.returns-clause-next
returns-clause-next c =
    let l : c.args.slot < length c.self.inside.names.names = let e = c.slots.ensures.slots in let t = c.if-slot-slots.false in omega arith in
    tell-next c.self.invariant.0 c.self.view_is c.args.slot c.args.from c.next_agent.result (cell-of c.self.invariant.0 c.args.slot l) c.next_agent.ensures

pub returns-clause-none : goal.returns-clause-none
returns-clause-none c =
    let l : c.args.slot < length c.self.inside.names.names = let e = c.slots.ensures.slots in let t = c.if-slot-slots.false in omega arith in
    tell-no_next c.self.invariant.0 c.self.view_is c.args.slot c.args.from c.next_agent.result (cell-of c.self.invariant.0 c.args.slot l) c.next_agent.ensures
