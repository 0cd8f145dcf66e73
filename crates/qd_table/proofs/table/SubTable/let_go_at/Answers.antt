use Rattle.std.proofs.Common.{◌≤◌, refl, arith, length}
use Rattle.qd_table.proofs.StoreEnds.{letting-stored}
use Rattle.qd_table.proofs.StoreShown.{letting-shown, past-let_go}
use Rattle.qd_table.proofs.table.SubTable.let_go_at.Goals as goal

pub returns-then-slot-slots : goal.returns-then-slot-slots
returns-then-slot-slots c =
    let l : length c.self.inside.names.names ≤ c.args.slot = let e = c.slots.ensures.slots in let t = c.if-slot-slots.true in omega arith in
    past-let_go c.self.invariant.0 c.self.view_is c.args.agent c.args.slot l

pub invariant_of-self : goal.invariant_of-self
invariant_of-self c = (
  letting-stored c.get-agent.result c.args.slot c.self.invariant.0 (record {
    below = (let w = c.get-agent.ensures.within in let v = c.get-agent.ensures.value in omega arith);
    within = (let e = c.slots.ensures.slots in let t = c.if-slot-slots.false in omega arith);
    holdings = c.let_go.ensures;
    kept = c.remove.ensures;
    viewings = refl;
    freed = record { names = c.free_unused.ensures.names; agent = refl; room = refl; names_room = c.free_unused.ensures.room; named = c.free_unused.ensures.less; counted = c.free_unused.ensures.counted };
  }) _ refl,
  c.self.invariant.1,
)

pub returns : goal.returns
returns c = letting-shown (record { names = c.free_unused.new.names; named = c.free_unused.new.named; holdings = c.let_go.new.self; kept = c.remove.new.self; viewings = c.self.inside.watchers; agent = c.self.inside.agent; room = c.self.inside.room })
    c.get-agent.result c.args.agent c.args.slot c.self.invariant.0 c.self.view_is c.get-agent.ensures.value (record {
      below = (let w = c.get-agent.ensures.within in let v = c.get-agent.ensures.value in omega arith);
      within = (let e = c.slots.ensures.slots in let t = c.if-slot-slots.false in omega arith);
      holdings = c.let_go.ensures;
      kept = c.remove.ensures;
      viewings = refl;
      freed = record { names = c.free_unused.ensures.names; agent = refl; room = refl; names_room = c.free_unused.ensures.room; named = c.free_unused.ensures.less; counted = c.free_unused.ensures.counted };
    })
