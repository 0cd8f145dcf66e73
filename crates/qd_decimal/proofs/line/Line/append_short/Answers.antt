use Rattle.std.proofs.Common.{◌≡◌, ◌+◌, ◌-◌, ◌++◌, arith}
use Rattle.qd_decimal.proofs.Copies.{copied}
use Rattle.qd_decimal.proofs.line.Line.append_short.Goals as goal

pub returns-clause-appended : goal.returns-clause-appended
returns-clause-appended c =
    let a = copied c.self.inside.bytes c.args.buffer.now c.copy_from_slice.new.self c.self.inside.len c.args.start (c.self.inside.len + 32 - c.args.start) (c.self.inside.len + 32 - c.self.inside.len) (omega arith) c.requires (omega arith) (omega arith) c.copy_from_slice.ensures.after in
    let v = c.self.view_is in
    cc
