use Rattle.std.proofs.Common.{ap}
use Rattle.qd_stream.specs.Boxes.{Boxes}
use Rattle.qd_stream.proofs.StartLaws.{stands-empty, ready-empty}
use Rattle.qd_stream.proofs.stripe.StreamStripe.with_seed.Goals as goal

pub invariant_of-result : goal.invariant_of-result
invariant_of-result c = ready-empty c.args.cap c.in_ok-with_seed.field-0 c.in_ok-new.field-0 c.in_ok-with_seed.ensures c.in_ok-new.ensures

pub returns : goal.returns
returns c = (stands-empty c.args.cap c.in_ok-with_seed.field-0 c.in_ok-new.field-0 c.in_ok-with_seed.ensures c.in_ok-new.ensures, ap (λ (b : Boxes). b.cap) c.in_ok-new.ensures)
