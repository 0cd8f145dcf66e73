use Rattle.std.proofs.Common.{◌≡◌, ℕ, ◌-◌, arith, take, subst}
use Rattle.qd_table.specs.Tables.{queue_of}
use Rattle.qd_table.specs.Steps.{TellsAll}
use Rattle.qd_table.proofs.KeyCalls.{tells-more, tells-room, tells-end}
use Rattle.qd_table.proofs.table.SubTable.tell_all.Goals as goal

pub loop-i-init : goal.loop-i-init
loop-i-init c =
    let z : c.args.count - 0 ≡ c.args.count = omega arith in
    record {
      chain = λ t h. subst (λ (n : ℕ). TellsAll c.args.self.now c.args.watcher (take n (queue_of c.args.self.now c.args.watcher)) t) z h;
      room = (let r = c.requires in omega arith);
    }

pub tell_first-requires : goal.tell_first-requires
tell_first-requires c = let r = c.loop-i.invariant.room in omega arith

pub loop-i-preserved : goal.loop-i-preserved
loop-i-preserved c = record {
  chain = tells-more c.loop-i.self c.tell_first.new.self c.args.self.now c.args.watcher c.args.count c.loop-i._i c.tell_first.ensures.within (omega arith) c.loop-i.invariant.room c.tell_first.ensures c.loop-i.invariant.chain;
  room = tells-room c.loop-i.self c.tell_first.new.self c.args.watcher c.args.count c.loop-i._i c.tell_first.ensures.within (omega arith) c.loop-i.invariant.room c.tell_first.ensures;
}

pub returns : goal.returns
returns c = c.loop-i.invariant.chain c.loop-i.self (tells-end c.loop-i.self c.args.watcher c.args.count c.loop-i._i (omega arith))
