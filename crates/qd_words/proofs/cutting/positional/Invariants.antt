use Rattle.std.proofs.Common.{◌≡◌, ◌++◌, map, drop}
use Rattle.qd_words.specs.Asking.{positional}
use Rattle.qd_words.specs.Cutting.{arguments_of}
use Rattle.qd_words.proofs.cutting.positional.Given as goal

-- the words so far and those that are left are all
abbrev pub invariant-loop-argument : goal.invariant-loop-argument
invariant-loop-argument l = map (λ s. s.now) l.words.items ++ positional (arguments_of (drop l.argument-index l.arguments)) ≡ positional (arguments_of l.fn.arguments)
