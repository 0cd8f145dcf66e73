use Rattle.std.proofs.Common.{ℕ, ◌≡◌, sym, ◌∙◌, subst}
use Rattle.qd_session.specs.Ins.{InKept, InStands, InSteps, end_in}
use Rattle.qd_calls.proofs.Soundness.{sound_lists}
use Rattle.qd_session.proofs.Stepping.{read_steps, call_steps, with_end, going}
use Rattle.qd_session.proofs.in_engine.InEngine.step.Goals as goal

pub returns-then-none_due-clause-step : goal.returns-then-none_due-clause-step
returns-then-none_due-clause-step g c = λ from p made l st are.
    let k : InKept = c.args.self.now in
    let inside : InKept = record { side = c.self-then-none_due.inside.side; items = c.self-then-none_due.inside.items; place = c.self-then-none_due.inside.reading; due = c.self-then-none_due.inside.due.items; closing = c.self-then-none_due.inside.closing; ended = c.self-then-none_due.inside.ended } in
    let v : inside ≡ c.read_on-turn.new.self = c.self-then-none_due.view_is in
    let e = c.stripes.ensures.stripes in
    let sound = sound_lists _ _ _ _ _ _ _ _ _ _ l are c.stripes.ensures.ticker c.stripes.ensures.stream c.stripes.ensures.history in
    let st' = subst (λ (m : ℕ). InStands c.args.scheme.now m from k p made (g.S.Source.left c.args.source.now)) (sym e) st in
    let reads = rw e at (c.read_on-turn.ensures.reads from p made st') in (
      l,
      are,
      rw c.end_in-self-inside.ensures
          (subst (λ (x : InKept). InSteps c.args.scheme.now (g.H.Hub.stripes c.args.hub.now) from k c.read_on-turn.result (with_end (end_in c.read_on-turn.result) x) p made l l
          (record { left = g.S.Source.left c.args.source.now; faults = g.S.Source.faults c.args.source.now }) (record { left = g.S.Source.left c.read_on-turn.new.source; faults = g.S.Source.faults c.read_on-turn.new.source })) (sym v)
          (read_steps c.args.scheme.now (g.H.Hub.stripes c.args.hub.now) from k c.read_on-turn.new.self c.read_on-turn.result p made l
          (record { left = g.S.Source.left c.args.source.now; faults = g.S.Source.faults c.args.source.now }) (record { left = g.S.Source.left c.read_on-turn.new.source; faults = g.S.Source.faults c.read_on-turn.new.source }) sound st.done reads)),
    )

pub returns-clause-step : goal.returns-clause-step
returns-clause-step g c = λ from p made l st are.
    let k : InKept = c.args.self.now in
    let inside : InKept = record { side = c.self-2.inside.side; items = c.self-2.inside.items; place = c.self-2.inside.reading; due = c.self-2.inside.due.items; closing = c.self-2.inside.closing; ended = c.self-2.inside.ended } in
    let v : inside ≡ c.call_on-turn.new.self = c.self-2.view_is in
    let kept : inside ≡ going c.call_on-turn.new.self.due k.ended k = v ∙ c.call_on-turn.ensures.kept in
    let t = c.call_on-turn.ensures.makes l are in (
      t.0,
      t.1,
      rw c.end_in-self-inside-2.ensures
          (subst (λ (x : InKept). InSteps c.args.scheme.now (g.H.Hub.stripes c.args.hub.now) from k c.call_on-turn.result (with_end (end_in c.call_on-turn.result) x) p made l t.0
          (record { left = g.S.Source.left c.args.source.now; faults = g.S.Source.faults c.args.source.now }) (record { left = g.S.Source.left c.args.source.now; faults = g.S.Source.faults c.args.source.now })) (sym kept)
          (call_steps c.args.scheme.now (g.H.Hub.stripes c.args.hub.now) from k c.call_on-turn.new.self.due p made l t.0
          (record { left = g.S.Source.left c.args.source.now; faults = g.S.Source.faults c.args.source.now }) st c.call_on-turn.result t.2)),
    )
