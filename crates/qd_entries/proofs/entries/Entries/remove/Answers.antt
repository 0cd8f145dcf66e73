use Rattle.std.proofs.Common.{sym, subst, arith}
use Rattle.qd_entries.specs.Entries.{Falls}
use Rattle.qd_entries.proofs.Falling.{Falls-without}
use Rattle.qd_entries.proofs.entries.Entries.remove.Goals as goal

pub invariant_of-self : goal.invariant_of-self
invariant_of-self c =
    let f = c.self.invariant.falls in
    record {
      falls = subst Falls (sym (c.remove.ensures.entries f)) (Falls-without c.args.index c.self.inside.tree f);
      room = omega arith;
      few = omega arith;
    }
