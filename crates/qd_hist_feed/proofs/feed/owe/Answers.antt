use Rattle.std.proofs.Common.{◌≡◌, ◌+◌, ◌∙◌, length, drop, arith}
use Rattle.std.specs.Prelude.{nat_lt}
use Rattle.qd_hist_feed.specs.Feeding.{owed_item, owed_items, number_for}
use Rattle.qd_hist_feed.proofs.Owing.{owed_step, owed_count}
use Rattle.qd_hist_feed.proofs.feed.owe.Goals as goal

pub owe_one-requires : goal.owe_one-requires
owe_one-requires c =
    let e = c.index-batch-i.result in
    let grown : length (owed_item c.args.stage.now c.args.floor (number_for c.args.stage.now c.args.number) (nat_lt (c.loop-i.i + 1) c.args.end) e) + length (owed_items c.args.stage.now c.args.floor c.args.number (drop (c.loop-i.i + 1) c.args.batch.now))
    ≡ length (owed_items c.args.stage.now c.args.floor c.args.number (drop c.loop-i.i c.args.batch.now)) =
    owed_count c.args.stage.now c.args.floor c.args.number c.args.end c.loop-i.i c.args.batch.now e c.loop-i-test.true c.index-batch-i.is c.requires.end in
    rw c.number_for-number.ensures (omega (arith, grown))

pub loop-i-preserved : goal.loop-i-preserved
loop-i-preserved c =
    let e = c.index-batch-i.result in
    let grown : length (owed_item c.args.stage.now c.args.floor (number_for c.args.stage.now c.args.number) (nat_lt (c.loop-i.i + 1) c.args.end) e) + length (owed_items c.args.stage.now c.args.floor c.args.number (drop (c.loop-i.i + 1) c.args.batch.now))
    ≡ length (owed_items c.args.stage.now c.args.floor c.args.number (drop c.loop-i.i c.args.batch.now)) =
    owed_count c.args.stage.now c.args.floor c.args.number c.args.end c.loop-i.i c.args.batch.now e c.loop-i-test.true c.index-batch-i.is c.requires.end in
    let len = rw c.number_for-number.ensures at c.owe_one.ensures.len in
    record {
      items = rw c.owe_one.ensures.items (rw c.number_for-number.ensures (owed_step c.args.stage.now c.args.floor c.args.number c.args.end c.loop-i.i c.args.batch.now e c.loop-i.owed.items c.loop-i-test.true c.index-batch-i.is c.requires.end)) ∙ c.loop-i.invariant.items;
      capacity = cc;
      len = omega (arith, len, grown);
    }
