use Rattle.std.proofs.Common.{◌≡◌, drop}
use Rattle.std.specs.List.{list_any}
use Rattle.qd_scheme.specs.Names.{name_eq}
use Rattle.qd_scheme.proofs.judge.is_taken.Given as goal

abbrev pub invariant-loop-item : goal.invariant-loop-item
invariant-loop-item g l = list_any (λ x. name_eq (g.T.Named.name_of x) l.name) l.items ≡ list_any (λ x. name_eq (g.T.Named.name_of x) l.name) (drop l.item-index l.items)
