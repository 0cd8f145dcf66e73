use Rattle.std.proofs.Common.{ap}
use Rattle.qd_calls.proofs.Adding.{grew_none}
use Rattle.qd_calls.proofs.Soundness.{sound_lists}
use Rattle.qd_replies.specs.Outs.{OutKept, Sunk}
use Rattle.qd_link.proofs.WritingLaws.{heading_cut, linked_as, writes_first, writes_nothing}
use Rattle.qd_link.proofs.writing.link_out.Goals as goal

pub returns-in-Err-clause-linked : goal.returns-in-Err-clause-linked
returns-in-Err-clause-linked g c = λ l are.
    let n = g.H.Hub.stripes c.args.hub.now in
    let sound = sound_lists _ _ _ _ _ _ _ _ _ _ l are c.stripes.ensures.ticker c.stripes.ensures.stream c.stripes.ensures.history in
    (l, are, writes_nothing c.args.scheme.now n l _ (grew_none n l sound) c.args.side c.args.turns)

pub returns-then-not-write_line-clause-linked : goal.returns-then-not-write_line-clause-linked
returns-then-not-write_line-clause-linked g c = λ l are.
    let n = g.H.Hub.stripes c.args.hub.now in
    let sound = sound_lists _ _ _ _ _ _ _ _ _ _ l are c.stripes.ensures.ticker c.stripes.ensures.stream c.stripes.ensures.history in
    (l, are, heading_cut c.args.scheme.now n l _ (grew_none n l sound) c.args.side c.args.turns _ c.if-not-write_line.ensures.written)

pub returns-clause-linked : goal.returns-clause-linked
returns-clause-linked g c = λ l are.
    let n = g.H.Hub.stripes c.args.hub.now in
    let o : Sunk = record { written = g.K.Sink.written c.args.sink.now; faults = g.K.Sink.faults c.args.sink.now } in
    let sound = sound_lists _ _ _ _ _ _ _ _ _ _ l are c.stripes.ensures.ticker c.stripes.ensures.stream c.stripes.ensures.history in
    let first = writes_first c.args.scheme.now n l o (grew_none n l sound) c.in-Ok.engine _ c.in-Ok.ensures.stands (ap (λ (k : OutKept). k.ended) c.in-Ok.ensures.made) c.if-not-write_line.ensures.written in
    let u = c.write_on.ensures.writes l l o first are in
    (u.0, u.1, linked_as c.args.scheme.now n c.in-Ok.engine.side c.args.side c.write_on.result c.args.turns l u.0 o _ (ap (λ (k : OutKept). k.side) c.in-Ok.ensures.made) u.2)
