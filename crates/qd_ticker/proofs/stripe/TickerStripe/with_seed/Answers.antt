use Rattle.qd_ticker.specs.Stripes.{Shown}
use Rattle.qd_ticker.proofs.SoundLaws.{sound-empty}
use Rattle.qd_ticker.proofs.StandLaws.{StandsAt-empty}
use Rattle.qd_ticker.proofs.StepLaws.{Stands-empty}
use Rattle.qd_ticker.proofs.stripe.TickerStripe.with_seed.Goals as goal

pub invariant_of-result : goal.invariant_of-result
invariant_of-result c = sound-empty c.in_ok-table.table c.new.result.items c.in_ok-queues.queues.items c.in_ok-table.ensures c.in_ok-queues.ensures

pub returns : goal.returns
returns c =
    let s : Shown = record { table = c.in_ok-table.table; lasts = c.new.result.items; queues = c.in_ok-queues.queues.items } in
    Stands-empty s (StandsAt-empty s c.in_ok-table.ensures c.new.ensures.items c.in_ok-queues.ensures)
