use Rattle.std.proofs.Common.{◌≡◌, ap, ◌∙◌, sym, subst}
use Rattle.qd_replies.specs.Outs.{OutKept, OutStands, OutSteps}
use Rattle.qd_replies.proofs.Rounds.{out_step}
use Rattle.qd_replies.proofs.out_engine.OutEngine.step.Goals as goal

pub returns-clause-step : goal.returns-clause-step
returns-clause-step g c = λ from past l none stands are.
    let view : OutKept = record { side = c.self.inside.side; at = c.self.inside.at; quiet = c.self.inside.quiet; ended = c.self.inside.ended } in
    let v : view ≡ c.args.self.now = c.self.view_is in
    let count = c.stripes-n.ensures.stripes in
    let t = c.give-answer.ensures.outcome l are in
    let all = rw count at t.2 in
    let within = rw (← v) at c.requires.round.0 in (
      t.0,
      t.1,
      subst (λ (k : OutKept). OutSteps c.args.scheme.now (g.H.Hub.stripes c.args.hub.now) from k c.turn_by-turn.result
          (record { side = c.self.inside.side; at = c.place_by-self-inside.result; quiet = c.quiet_by-self-inside.result; ended = c.fault_in-self-inside.result }) past l t.0 (g.K.Sink.flushed c.give-answer.new.sink)
          (record { written = g.K.Sink.written c.args.sink.now; faults = g.K.Sink.faults c.args.sink.now }) (record { written = g.K.Sink.written c.give-answer.new.sink; faults = g.K.Sink.faults c.give-answer.new.sink })) v
          (rw (c.fault_in-self-inside.ensures, c.turn_by-turn.ensures.turn, c.place_by-self-inside.ensures.place, c.quiet_by-self-inside.ensures.quiet, count)
          (out_step _ _ from view c.give-answer.result past l t.0 _ _ _ (ap (λ (k : OutKept). k.ended) v ∙ none) within (subst (λ (k : OutKept). OutStands c.args.scheme.now (g.H.Hub.stripes c.args.hub.now) from k past (g.K.Sink.written c.args.sink.now)) (sym v) stands) all)),
    )
