use Rattle.std.proofs.Common.{◌+◌, take, drop}
use Rattle.qd_tape.specs.Scripts.{text_left}
use Rattle.qd_tape.proofs.Sources.{given_more}
use Rattle.qd_tape.proofs.script_source.ScriptSource.give.Goals as goal

pub returns-clause-given : goal.returns-clause-given
returns-clause-given c = given_more (drop c.args.self.now.at c.args.self.now.lines) (take (c.args.filled + c.copy_to-n.result) c.copy_to-n.new.buf) (take c.args.filled c.args.buf.now) (drop (c.args.self.now.at + c.copy_to-n.result) c.args.self.now.lines) (text_left c.args.self.now.script) (rw c.bytes.ensures at c.copy_to-n.ensures.copied)
