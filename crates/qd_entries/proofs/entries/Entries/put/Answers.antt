use Rattle.std.proofs.Common.{sym, subst, arith}
use Rattle.qd_entries.specs.Entries.{Falls}
use Rattle.qd_entries.proofs.Falling.{Falls-put_entry}
use Rattle.qd_entries.proofs.entries.Entries.put.Goals as goal

pub invariant_of-self : goal.invariant_of-self
invariant_of-self c =
    let f = c.self.invariant.falls in
    record {
      falls = subst Falls (sym (c.put.ensures.entries f)) (Falls-put_entry c.args.entry.now c.self.inside.tree f);
      room = omega arith;
      few = omega arith;
    }
