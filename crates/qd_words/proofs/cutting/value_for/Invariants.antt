use Rattle.std.proofs.Common.{◌≡◌, ◌++◌, drop}
use Rattle.std.specs.Prelude.{option_map, option_to_list}
use Rattle.qd_words.specs.Asking.{values_of}
use Rattle.qd_words.specs.Cutting.{arguments_of}
use Rattle.qd_words.proofs.cutting.value_for.Given as goal

-- the value so far and those that are left are all
abbrev pub invariant-loop-argument : goal.invariant-loop-argument
invariant-loop-argument l = option_to_list (option_map (λ s. s.now) l.found) ++ values_of l.name (arguments_of (drop l.argument-index l.arguments)) ≡ values_of l.fn.name (arguments_of l.fn.arguments)
