use Rattle.qd_load.proofs.counting.CountingHub.stripes.Goals as goal

pub returns-clause-lists : goal.returns-clause-lists
returns-clause-lists g c =
    let hub = g.H.Hub in
    rw (← c.self.view_is) (c.self.invariant.4, c.self.invariant.5, c.self.invariant.6)
