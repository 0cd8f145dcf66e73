use Rattle.std.proofs.Common.{length, ◌-◌, ◌≡◌, ◌≤◌, ◌++◌, take}
use Rattle.qd_tape.specs.Scripts.{source_left}
use Rattle.qd_tape.proofs.script_source.ScriptSourceSource.read.Given as goal

abbrev pub invariant-loop-filled : goal.invariant-loop-filled
invariant-loop-filled l = record {
  within : l.filled ≤ length l.buf;
  given : take l.filled l.buf ++ source_left l.self.lines l.self.at l.self.script ≡ source_left l.fn.self.lines l.fn.self.at l.fn.self.script;
}

abbrev pub decreases-loop-filled : goal.decreases-loop-filled
decreases-loop-filled l = length l.initial.buf - l.filled
