use Rattle.std.proofs.Common.{inr}
use Rattle.qds_net.proofs.dumping.dump_from.Goals as goal

pub returns : goal.returns
returns g c =
    let none = c.in-Ok.ensures.faults in
    inr (
      c.dump_over-end.result,
      c.end_of_dump.ensures,
      record {
        list = _;
        left = _;
        rest = _;
        was = _;
        sent = _;
        reads = _;
        sends = _;
        flushed = _;
        connection = record { dialled = _; connects = c.in-Some.ensures.some; unwritten = c.in-Ok.ensures.written; hung_up = c.hang_up.ensures };
        comes = c.in-Ok.ensures.left;
        dumps = rw (none.0, none.1) at c.dump_over-end.ensures.dumps;
        flushes = c.dump_over-end.ensures.flushed;
        first = c.dump_over-end.ensures.first;
        decided = rw (none.0, none.1) at c.dump_over-end.ensures.decided;
      },
    )
