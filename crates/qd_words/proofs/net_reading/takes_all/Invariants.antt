use Rattle.std.proofs.Common.{◌≡◌, drop}
use Rattle.qd_words.specs.Cutting.{arguments_of}
use Rattle.qd_words.specs.NetAsking.{takes_all}
use Rattle.qd_words.proofs.net_reading.takes_all.Given as goal

-- those that are left decide
abbrev pub invariant-loop-argument : goal.invariant-loop-argument
invariant-loop-argument l = takes_all l.command (arguments_of (drop l.argument-index l.arguments)) ≡ takes_all l.fn.command (arguments_of l.fn.arguments)
