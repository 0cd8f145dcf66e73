use Rattle.std.proofs.Common.{◌≡◌, [], map, take}
use Rattle.qd_buffer.proofs.split.make_parts.Given as goal

abbrev pub invariant-loop-count : goal.invariant-loop-count
invariant-loop-count g l = l.parts.items ≡ map (λ room. record { items = []; room = room }) (take l.count-index l.counts)
