use Rattle.std.proofs.Common.{◌∙◌, arith}
use Rattle.qd_items.specs.declared.items.NextItem.TheVariants as nexts
use Rattle.qd_items.proofs.StepLaws.{went_on, same_faults, comes_next, step_less, next_less, lowers_more}
use Rattle.qd_items.proofs.items.Items.advance.Goals as goal

pub returns-in-Came-clause-work : goal.returns-in-Came-clause-work
returns-in-Came-clause-work g c =
    let p = c.steps.invariant in
    let next = nexts.Item c.go.new.self.item in
    lowers_more next _ _ _ p.3 (next_less _ _ _ _ _ _ _ next c.in-Came.ensures.steps)

pub returns-in-Came-clause-next : goal.returns-in-Came-clause-next
returns-in-Came-clause-next g c = λ start p r.
    let i = c.steps.invariant in
    rw i.2 at (comes_next _ start p _ _ _ _ _ _ (nexts.Item c.go.new.self.item) c.in-Came.ensures.mode (i.4 start p r) c.in-Came.ensures.steps)

pub returns-in-Ended-clause-next : goal.returns-in-Ended-clause-next
returns-in-Ended-clause-next g c = λ start p r.
    let i = c.steps.invariant in
    rw i.2 at (comes_next _ start p _ _ _ _ _ _ (nexts.Ended c.go.new.end) c.in-Ended.ensures.mode (i.4 start p r) c.in-Ended.ensures.steps)

pub steps-smaller : goal.steps-smaller
steps-smaller g c = step_less _ _ _ _ _ _ _ c.in-Went.ensures.steps

pub steps-preserved : goal.steps-preserved
steps-preserved g c =
    let i = c.steps.invariant in
    let s = c.in-Went.ensures.steps in
    let l = step_less _ _ _ _ _ _ _ s in
    let m = i.3 in (
      c.in-Went.ensures.mode ∙ i.0,
      c.in-Went.ensures.kept ∙ i.1,
      same_faults _ _ _ _ _ _ _ s ∙ i.2,
      omega (arith, l, m),
      λ start p r. went_on _ start p _ _ _ _ _ _ (i.4 start p r) s,
    )
