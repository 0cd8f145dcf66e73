use Rattle.std.proofs.Common.{refl, ◌∙◌}
use Rattle.qd_calls.proofs.Soundness.{sound_lists}
use Rattle.qd_replay.proofs.Dues.{made_none, made_more, made_up_to}
use Rattle.qd_replay.proofs.due.make_all.Goals as goal

pub calls-init : goal.calls-init
calls-init g c = ((refl, refl), c.requires.alone, c.requires.due, λ from are. (from, are, made_none _ _ from (sound_lists _ _ _ _ _ _ _ _ _ _ from are c.stripes.ensures.ticker c.stripes.ensures.stream c.stripes.ensures.history)))

pub returns-in-Some-clause-makes : goal.returns-in-Some-clause-makes
returns-in-Some-clause-makes g c = λ l are.
    let i = c.calls.invariant in
    let e = rw i.0.1 at c.in-Some.ensures.makes in
    let p = i.3 l are in
    let q = e p.0 p.1 in
    (q.0, q.1, made_up_to _ _ _ _ _ l p.0 q.0 p.2 q.2)

pub calls-preserved : goal.calls-preserved
calls-preserved g c =
    let i = c.calls.invariant in
    let e = rw i.0.1 at c.in-None.ensures.makes in
    let d = rw i.0.1 at c.in-None.ensures.due in (
      (c.in-None.ensures.same.0 ∙ i.0.0, c.in-None.ensures.same.1 ∙ i.0.1),
      c.in-None.ensures.alone,
      d,
      λ from are.
          let p = i.3 from are in
          let q = e p.0 p.1 in
          (q.0, q.1, made_more _ _ _ _ from p.0 q.0 p.2 q.2),
    )
