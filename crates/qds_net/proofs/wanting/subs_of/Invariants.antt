use Rattle.std.proofs.Common.{◌≡◌, ◌++◌, map, drop}
use Rattle.std.specs.Prelude.{option_map}
use Rattle.qd_words.specs.NetAsking.{wanted}
use Rattle.qds_net.specs.Wanting.{subs_of}
use Rattle.qds_net.proofs.wanting.subs_of.Given as goal

-- the keys so far and those of the wants that are left are all
abbrev pub invariant-loop-want : goal.invariant-loop-want
invariant-loop-want l = option_map (λ more. l.subs.items ++ more) (subs_of l.scheme l.collector l.limit (map wanted (drop l.want-index l.wants))) ≡ subs_of l.fn.scheme l.fn.collector l.fn.limit (map wanted l.fn.wants)
