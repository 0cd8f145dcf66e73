use Rattle.qd_client.proofs.Leaves.{left_as_is}
use Rattle.qd_client.proofs.dump.leave.Goals as goal

pub returns-then-not-send_end : goal.returns-then-not-send_end
returns-then-not-send_end g c = rw (← c.in-Done.ensures) c.if-not-send_end.ensures

pub returns-else-not-send_end : goal.returns-else-not-send_end
returns-else-not-send_end g c = rw (← c.in-Done.ensures) c.if-not-send_end.ensures

pub returns-in_default : goal.returns-in_default
returns-in_default g c = rw (← c.dump_end.ensures) (left_as_is c.dump_end.result c.args.scheme.now _ _ _ c.in_default.not-Done)
