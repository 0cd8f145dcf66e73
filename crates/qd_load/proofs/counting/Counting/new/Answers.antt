use Rattle.std.proofs.Common.{◌∙◌, arith}
use Rattle.qd_load.proofs.counting.Counting.new.Goals as goal

pub invariant_of-result : goal.invariant_of-result
invariant_of-result g c =
    let n = c.stripes-stripes.ensures.stripes in (
      c.in_ok-records.ensures.len ∙ n,
      c.in_ok-items.ensures.len ∙ n,
      c.in_ok-lost.ensures.len ∙ n,
      c.in_ok-views.ensures.len ∙ n,
      λ i h. let p = c.requires.ticker i h in (p.0, (p.1, rw p.2 (c.in_ok-records.ensures.none i (omega (arith, n, h))))),
      λ i h. let p = c.requires.stream i h in (p.0, (p.1, rw p.2 (record { records = c.in_ok-items.ensures.none i (omega (arith, n, h)); lost = c.in_ok-lost.ensures.none i (omega (arith, n, h)) }))),
      λ i h. let p = c.requires.history i h in (p.0, (p.1, rw p.2 (c.in_ok-views.ensures.none i (omega (arith, n, h))))),
    )

pub returns-clause-history : goal.returns-clause-history
returns-clause-history g c = λ i p below stands none. let n = c.stripes-stripes.ensures.stripes in (stands, rw none (c.in_ok-views.ensures.none i (omega (arith, n, below))))
