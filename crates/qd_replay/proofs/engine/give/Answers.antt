use Rattle.std.proofs.Common.{map, refl, inr, [], ◌∷◌}
use Rattle.qd_items.specs.declared.ends.RunEnd.TheVariants.{NoMemory}
use Rattle.qd_replay.specs.Replies.{reply_text}
use Rattle.qd_replay.specs.Scripts.Act.{Give}
use Rattle.qd_replay.specs.Settings.{Setting}
use Rattle.qd_replay.specs.Steps.{Sunk}
use Rattle.qd_replay.proofs.Halts.{acted, acted_short, halted}
use Rattle.qd_replay.proofs.engine.give.Goals as goal

pub returns-in-Err-clause-gives : goal.returns-in-Err-clause-gives
returns-in-Err-clause-gives g c = λ l are.
    let set : Setting = record { defs = c.args.scheme.now; stripes = g.H.Hub.stripes c.args.hub.now } in
    (l, are, λ s item line. halted set NoMemory s item line (Give g.G.Giver.giver c.args.link c.args.n ∷ []) c.args.printing.now l _ refl (λ before after. inr (inr (g.G.Giver.giver, c.args.link, c.args.n, refl, refl))))

pub returns-then-not-shown-clause-gives : goal.returns-then-not-shown-clause-gives
returns-then-not-shown-clause-gives g c = λ l are.
    let set : Setting = record { defs = c.args.scheme.now; stripes = g.H.Hub.stripes c.args.hub.now } in
    let o : Sunk = record { written = g.K.Sink.written c.args.sink.now; faults = g.K.Sink.faults c.args.sink.now } in
    let w : Sunk = record { written = g.K.Sink.written c.reply-shown.new.sink; faults = g.K.Sink.faults c.reply-shown.new.sink } in
    let t = c.take_all-room.ensures.takes l are in
    let p = rw (c.get.ensures.value, c.collector.ensures, c.items.ensures) at c.if-not-shown.ensures in (
      t.0,
      t.1,
      λ s item line.
          acted_short set (Give g.G.Giver.giver c.args.link c.args.n) t.2.0 (reply_text c.args.scheme.now c.args.link g.G.Giver.giver (map g.G.Printer.shown c.take_all-room.result)) c.args.printing.now c.reply-shown.new.self l t.0 o w s item line
          (map g.G.Printer.shown c.take_all-room.result, t.2.1, refl) t.2.2 p,
    )

pub returns-clause-gives : goal.returns-clause-gives
returns-clause-gives g c = λ l are.
    let set : Setting = record { defs = c.args.scheme.now; stripes = g.H.Hub.stripes c.args.hub.now } in
    let o : Sunk = record { written = g.K.Sink.written c.args.sink.now; faults = g.K.Sink.faults c.args.sink.now } in
    let w : Sunk = record { written = g.K.Sink.written c.reply-shown.new.sink; faults = g.K.Sink.faults c.reply-shown.new.sink } in
    let t = c.take_all-room.ensures.takes l are in
    let p = rw (c.get.ensures.value, c.collector.ensures, c.items.ensures) at c.if-not-shown.ensures in (
      t.0,
      t.1,
      acted set (Give g.G.Giver.giver c.args.link c.args.n) t.2.0 (reply_text c.args.scheme.now c.args.link g.G.Giver.giver (map g.G.Printer.shown c.take_all-room.result)) c.args.printing.now c.reply-shown.new.self l t.0 o w
          (map g.G.Printer.shown c.take_all-room.result, t.2.1, refl) t.2.2 p,
    )
