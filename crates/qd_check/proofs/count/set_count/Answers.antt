use Rattle.std.proofs.Common.{arith}
use Rattle.qd_check.proofs.CheckLaws.{count_set}
use Rattle.qd_check.proofs.count.set_count.Goals as goal

pub returns : goal.returns
returns c =
    let old = c.requires in
    count_set c.args.count c.append.result c.write_count.result c.push.result c.append.new.self c.write_count.new.out c.push.new.self (omega arith)
    (rw old at (c.append.ensures.room)) (rw old at (c.append.ensures.appended)) c.write_count.ensures.room c.write_count.ensures.appended c.push.ensures.room c.push.ensures.pushed
