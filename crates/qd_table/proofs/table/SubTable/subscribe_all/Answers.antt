use Rattle.std.proofs.Common.{arith}
use Rattle.qd_table.proofs.KeyCalls.{subscribes-more, subscribes-end}
use Rattle.qd_table.proofs.table.SubTable.subscribe_all.Goals as goal

pub loop-sub-init : goal.loop-sub-init
loop-sub-init c = record { chain = λ t h. h; room = (let r = c.requires in omega arith) }

pub subscribe-requires : goal.subscribe-requires
subscribe-requires c = let r = c.loop-sub.invariant.room in omega arith

pub loop-sub-preserved : goal.loop-sub-preserved
loop-sub-preserved c = record {
  chain = subscribes-more c.loop-sub.self c.subscribe.new.self c.args.self.now c.args.agent c.args.subs.now c.loop-sub.sub-index c.subscribe.result c.sub-item.result (omega arith) c.sub-item.is c.subscribe.ensures c.loop-sub.invariant.chain;
  room = (let r = c.loop-sub.invariant.room in let e = c.subscribe.ensures.room in omega arith);
}

pub returns : goal.returns
returns c = c.loop-sub.invariant.chain c.loop-sub.self (subscribes-end c.loop-sub.self c.args.agent c.args.subs.now c.loop-sub.sub-index (omega arith))
