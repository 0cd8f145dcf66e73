use Rattle.std.proofs.Common.{refl, ◌∙◌, ap}
use Rattle.qd_items.specs.Standing.{Kept}
use Rattle.qd_check.proofs.CheckLaws.{count_none, count_went, count_ended, same_reads}
use Rattle.qd_check.proofs.count.count_items.Goals as goal

pub items-init : goal.items-init
items-init g c = (ap (λ (k : Kept). k.mode) c.requires.items, refl, refl, count_none _ _ _ c.requires.items)

pub items-preserved : goal.items-preserved
items-preserved g c =
    let i = c.items.invariant in
    let mode = c.in-None.ensures.mode ∙ i.0 in (
      mode,
      c.in-None.ensures.kept ∙ i.1,
      same_reads _ _ _ _ _ c.advance.new.self.item _ _ _ _ i.3 c.in-None.ensures.next ∙ i.2,
      count_went _ _ _ _ _ c.advance.new.self.item _ _ _ _ mode i.3 c.in-None.ensures.next,
    )

pub returns-in-Some-clause-counts : goal.returns-in-Some-clause-counts
returns-in-Some-clause-counts g c =
    let i = c.items.invariant in
    count_ended _ _ _ c.advance.new.self _ c.in-Some.end _ _ _ _ _ (c.in-Some.ensures.mode ∙ i.0) i.2 i.3 c.in-Some.ensures.next
