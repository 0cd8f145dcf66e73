use Rattle.std.proofs.Common.{◌∙◌, arith}
use Rattle.qd_slots.specs.Views.{viewing_at}
use Rattle.qd_slots.proofs.ViewLaws.{wider-same, wider-step, room-step}
use Rattle.qd_slots.proofs.watchers.reserve_all.Goals as goal

pub loop-watcher-init : goal.loop-watcher-init
loop-watcher-init c = record {
  len = c.requires;
  wider = λ w l. wider-same (viewing_at c.args.watchers.now.items w);
  done = λ w l. absurd (omega (arith, l));
}

pub returns-in_err-reserve_one-clause-kept : goal.returns-in_err-reserve_one-clause-kept
returns-in_err-reserve_one-clause-kept c = record {
  count = (let e = c.reserve_one.ensures.len in let i = c.loop-watcher.invariant.len in let r = c.requires in omega arith);
  wider = wider-step c.args.watchers.now.items c.loop-watcher.watchers.items c.reserve_one.new.watchers.items c.loop-watcher.watcher c.loop-watcher.invariant.wider c.reserve_one.ensures.others c.reserve_one.ensures.wider;
}

pub loop-watcher-preserved : goal.loop-watcher-preserved
loop-watcher-preserved c = record {
  len = c.reserve_one.ensures.len ∙ c.loop-watcher.invariant.len;
  wider = wider-step c.args.watchers.now.items c.loop-watcher.watchers.items c.reserve_one.new.watchers.items c.loop-watcher.watcher c.loop-watcher.invariant.wider c.reserve_one.ensures.others c.reserve_one.ensures.wider;
  done = room-step c.loop-watcher.watchers.items c.reserve_one.new.watchers.items c.loop-watcher.watcher c.args.slots c.loop-watcher.invariant.done c.reserve_one.ensures.others c.in_ok-reserve_one.ensures.views c.in_ok-reserve_one.ensures.queue;
}
