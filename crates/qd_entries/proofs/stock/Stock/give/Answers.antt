use Rattle.std.proofs.Common.{◌<◌, ap, arith, length}
use Rattle.qd_entries.specs.Stocked.{Stocked}
use Rattle.qd_entries.specs.declared.tree.Node.{Node}
use Rattle.std.specs.Prelude.{vec_len, vec_capacity}
use Rattle.qd_entries.proofs.Counting.{length-le-total, total-push}
use Rattle.qd_entries.proofs.stock.Stock.give.Goals as goal

pub invariant_of-self : goal.invariant_of-self
invariant_of-self c =
    let old = c.self.inside in
    let counts = length-le-total old.nodes.items in
    let spare_is = ap (λ (s : Stocked). s.spare) c.self.view_is in
    let room_is = ap (λ (s : Stocked). s.room) c.self.view_is in
    let before = ap (λ (n : Node). length n.before) c.deref.ensures in
    let after = ap (λ (n : Node). length n.after) c.deref-2.ensures in
    let space : vec_len old.nodes < vec_capacity old.nodes = omega (arith, old.nodes.ok.0) in
    let more = total-push c.push.result old.nodes.items c.push.new.self.items c.args.node (c.push.ensures.succeeds space) c.push.ensures.items in
    record {
      counted = omega arith;
      spare_fits = omega arith;
      room_fits = omega arith;
      few = c.self.invariant.few;
    }
