use Rattle.std.specs.Prelude.{◌≡◌}
use Rattle.qd_grammar.specs.declared.item.Mode.TheVariants.{File}
use Rattle.qd_items.specs.Work.{work}
use Rattle.qd_check.proofs.CheckLaws.{IsCounting}
use Rattle.qd_check.proofs.count.count_items.Given as goal

abbrev pub invariant-items : goal.invariant-items
invariant-items g l = (l.items.mode ≡ File) × (g.S.Source.kept l.source ≡ g.S.Source.kept l.fn.source) × (g.S.Source.faults l.source ≡ g.S.Source.faults l.fn.source)
    × IsCounting l.scheme (g.S.Source.left l.fn.source) l.items l.count (g.S.Source.left l.source)

abbrev pub decreases-items : goal.decreases-items
decreases-items g l = work l.items
