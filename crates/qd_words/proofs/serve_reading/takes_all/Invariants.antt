use Rattle.std.proofs.Common.{◌≡◌, drop}
use Rattle.qd_words.specs.Cutting.{arguments_of}
use Rattle.qd_words.specs.ServeAsking.{serve_takes_all}
use Rattle.qd_words.proofs.serve_reading.takes_all.Given as goal

-- those that are left decide
abbrev pub invariant-loop-argument : goal.invariant-loop-argument
invariant-loop-argument l = serve_takes_all (arguments_of (drop l.argument-index l.arguments)) ≡ serve_takes_all (arguments_of l.fn.arguments)
