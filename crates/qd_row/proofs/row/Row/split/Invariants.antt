use Rattle.std.proofs.Common.{◌≡◌, take}
use Rattle.std.specs.List.{AllZip}
use Rattle.qd_row.specs.Passes.{IsChild}
use Rattle.qd_row.proofs.row.Row.split.Given as goal

abbrev pub invariant-loop-i : goal.invariant-loop-i
invariant-loop-i g l = (l.passes-inside.passes.items ≡ l.initial.passes-inside.passes.items) × AllZip IsChild (take l.i l.initial.passes-inside.passes.items) l.fresh.items
