use Rattle.std.proofs.Common.{◌≡◌, map, drop}
use Rattle.std.specs.Prelude.{string_bytes}
use Rattle.qd_words.specs.Words.{arguments}
use Rattle.qd_words.specs.Cutting.{with_rest}
use Rattle.qd_words.proofs.cutting.arguments.Given as goal

abbrev pub invariant-loop-word : goal.invariant-loop-word
invariant-loop-word l = with_rest l.cut (map string_bytes (drop l.word-index l.words)) ≡ arguments (map string_bytes l.fn.words)
