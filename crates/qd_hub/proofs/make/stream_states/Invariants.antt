use Rattle.qd_stream.specs.Stripes.{Shown, Stands}
use Rattle.qd_stream.specs.Legal.{terms_of}
use Rattle.qd_hub.specs.Owns.{AllNew}
use Rattle.qd_hub.proofs.make.stream_states.Given as goal

abbrev pub invariant-loop-stripe : goal.invariant-loop-stripe
invariant-loop-stripe l = AllNew Stands (λ (s : Shown). terms_of s.boxes.cap) l._stripe (terms_of l.fn.cap) l.states.items
