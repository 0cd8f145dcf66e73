use Rattle.std.proofs.Common.{◌≡◌, ◌++◌, map, drop}
use Rattle.std.specs.Prelude.{option_map}
use Rattle.qd_words.specs.NetAsking.{wanted, wants_of}
use Rattle.qd_words.proofs.net_reading.some_wants.Given as goal

-- the wants so far and those that are left are all
abbrev pub invariant-loop-word : goal.invariant-loop-word
invariant-loop-word l = option_map (λ more. map wanted l.wants.items ++ more) (wants_of (map (λ s. s.now) (drop l.word-index l.words))) ≡ wants_of (map (λ s. s.now) l.fn.words)
