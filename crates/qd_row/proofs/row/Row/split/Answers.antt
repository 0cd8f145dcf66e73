use Rattle.std.proofs.Common.{◌<◌, length, ap, arith}
use Rattle.qd_row.proofs.Rowing.{as_many, split_more}
use Rattle.qd_row.proofs.row.Row.split.Goals as goal

pub loop-i-preserved : goal.loop-i-preserved
loop-i-preserved g c =
    let many = as_many c.args.passes.now c.args.self.now c.requires in
    let end = c.len-i-end.ensures in
    let test = c.loop-i-test.true in
    let below : c.loop-i.i < length c.passes.inside.passes.items = let a = ap length c.passes.view_is in let b = ap length c.self.view_is in let d = c.self.inside.gates.ok.0 in omega arith in
    split_more c.passes.inside.passes.items c.loop-i.passes-inside.passes.items c.loop-i.fresh.items c.push.new.self.items c.loop-i.i c.index_mut-pass.result.now c.split.new.pass c.split.result
    c.loop-i.invariant.0 below c.index_mut-pass.ensures.value c.split.ensures.same (record { home = c.split.ensures.gate.0; terms = c.split.ensures.gate.1; start = c.split.ensures.start; number = c.split.ensures.fresh.0; unseen = c.split.ensures.unseen; seen = c.split.ensures.fresh.1; mine = c.split.ensures.fresh.2; looked = c.split.ensures.fresh.3 })
    c.loop-i.invariant.1 c.in_ok-push.ensures.items
