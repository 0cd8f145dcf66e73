use Rattle.std.proofs.Common.{ap}
use Rattle.qd_calls.proofs.Adding.{grew_none}
use Rattle.qd_calls.proofs.Soundness.{sound_lists}
use Rattle.qd_session.specs.Ins.{InKept, Sourced}
use Rattle.qd_link.proofs.ReadingLaws.{read_as, reads_first, reads_nothing}
use Rattle.qd_link.proofs.reading.read_link.Goals as goal

pub returns-in-Err-clause-reads : goal.returns-in-Err-clause-reads
returns-in-Err-clause-reads g c = λ l are.
    let sound = sound_lists _ _ _ _ _ _ _ _ _ _ l are c.stripes.ensures.ticker c.stripes.ensures.stream c.stripes.ensures.history in
    (l, are, reads_nothing c.args.scheme.now (g.H.Hub.stripes c.args.hub.now) c.args.side.now l _ (grew_none (g.H.Hub.stripes c.args.hub.now) l sound))

pub returns-clause-reads : goal.returns-clause-reads
returns-clause-reads g c = λ l are.
    let n = g.H.Hub.stripes c.args.hub.now in
    let s : Sourced = record { left = g.S.Source.left c.args.source.now; faults = g.S.Source.faults c.args.source.now } in
    let sound = sound_lists _ _ _ _ _ _ _ _ _ _ l are c.stripes.ensures.ticker c.stripes.ensures.stream c.stripes.ensures.history in
    let u = c.read_on.ensures.reads l l s (reads_first c.args.scheme.now n c.in-Ok.engine l s c.in-Ok.ensures.stands (grew_none n l sound)) are in
    (u.0, u.1, read_as c.args.scheme.now n c.in-Ok.engine.side c.args.side.now c.read_on.result l u.0 s _ (ap (λ (k : InKept). k.side) c.in-Ok.ensures.made) u.2)
