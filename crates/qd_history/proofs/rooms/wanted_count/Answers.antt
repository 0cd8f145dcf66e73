use Rattle.std.proofs.Common.{arith}
use Rattle.qd_history.proofs.RoomLaws.{count-step, one-more}
use Rattle.qd_history.specs.Rooms.{wanted_count}
use Rattle.qd_history.proofs.rooms.wanted_count.Goals as goal

pub loop-e-preserved : goal.loop-e-preserved
loop-e-preserved c = record {
  count = count-step c.args.table.now c.args.items.now c.loop-e.e-index c.loop-e.count c.one_if_wanted-count.result (wanted_count c.args.table.now c.args.items.now) c.e-item.result (omega arith) c.e-item.is c.one_if_wanted-count.ensures c.loop-e.invariant.count;
  few = omega (arith, c.loop-e.invariant.few, one-more c.args.table.now c.e-item.result c.one_if_wanted-count.result c.one_if_wanted-count.ensures);
}
