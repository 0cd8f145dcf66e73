use Rattle.std.proofs.Common.{drop}
use Rattle.qd_stream.specs.Stripes.{Shown}
use Rattle.qd_stream.specs.Steps.{RemovesAll}
use Rattle.qd_stream.proofs.stripe.StreamStripe.remove.Given as goal

abbrev pub invariant-loop-key : goal.invariant-loop-key
invariant-loop-key l = (fin : Shown) → RemovesAll l.self l.agent (drop l.key-index l.keys) fin → RemovesAll l.initial.self l.agent l.keys fin
