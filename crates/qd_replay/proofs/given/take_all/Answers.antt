use Rattle.std.proofs.Common.{ℕ, ◌≡◌, ◌-◌, ap, sym, ◌∙◌, add-one, arith}
use Rattle.std.proofs.lemmas.List.{length-map}
use Rattle.qd_replay.proofs.Takes.{give_next}
use Rattle.qd_replay.proofs.given.take_all.Goals as goal

pub loop-stripe-preserved : goal.loop-stripe-preserved
loop-stripe-preserved g c =
    let i = c.loop-stripe.invariant in
    let t = c.take_next-room.ensures in
    let e = rw i.0.1 at t.takes in (
      (t.same.0 ∙ i.0.0, t.same.1 ∙ i.0.1),
      t.alone,
      t.few,
      λ from are.
          let p = i.3 from are in
          let q = e p.0 p.1 in
          (q.0, q.1, rw add-one (give_next _ g.G.Giver.giver c.args.agent c.args.max c.loop-stripe.stripe _ _ _ from p.0 q.0 (ap (λ (k : ℕ). c.args.max - k) (sym (length-map c.loop-stripe.room g.G.Printer.shown))) p.2 q.2)),
    )

pub returns-clause-takes : goal.returns-clause-takes
returns-clause-takes g c = λ l are.
    let all : c.loop-stripe.stripe ≡ g.H.Hub.stripes c.args.hub.now = (let a = c.loop-stripe.auto.stripe-end in let b = c.loop-stripe-test.false in let n = c.stripes-stripe-end.ensures.stripes in omega (arith, a, b, n)) in
    rw all at c.loop-stripe.invariant.3 l are
