use Rattle.std.proofs.Common.{◌++◌, ◌∙◌, ap, arith, length}
use Rattle.qd_table.specs.Tables.{queue_of, wants_at, wants_for}
use Rattle.qd_table.proofs.KeyCalls.{wants-more, after-more, wants-≤, gathered-count, gathered-taken, wants-all, filled-with}
use Rattle.qd_table.proofs.table.SubTable.gather.Goals as goal

pub gather_one-at-requires : goal.gather_one-at-requires
gather_one-at-requires c =
    let l = wants-≤ c.args.self.now c.args.watcher c.loop-i._i (queue_of c.args.self.now c.args.watcher) in
    let e = ap length c.loop-i.invariant.items in let r = c.loop-i.invariant.room in let m = c.requires.room in omega arith

pub loop-i-preserved : goal.loop-i-preserved
loop-i-preserved c = record {
  items = ap (λ b. b.items) c.gather_one-at.ensures.want ∙ ap (λ xs. xs ++ wants_at c.args.self.now c.args.watcher c.loop-i.at) c.loop-i.invariant.items
      ∙ wants-more c.args.self.now c.args.watcher (queue_of c.args.self.now c.args.watcher) c.loop-i._i c.loop-i.at c.loop-i.invariant.place;
  room = ap (λ b. b.room) c.gather_one-at.ensures.want ∙ c.loop-i.invariant.room;
  place = c.gather_one-at.ensures.next ∙ after-more (queue_of c.args.self.now c.args.watcher) c.loop-i._i c.loop-i.at (c.first_differing-at.ensures.sound.queued_once c.args.watcher c.first_differing-at.ensures.within) c.loop-i.invariant.place;
}

pub returns-clause-wants : goal.returns-clause-wants
returns-clause-wants c = filled-with c.loop-i.out c.args.out.now (wants_for c.args.self.now c.args.watcher c.args.max) (wants-all c.args.self.now c.args.watcher c.loop-i._i c.args.max c.loop-i.out.items c.loop-i.invariant.items (omega arith)) c.loop-i.invariant.room

pub returns-clause-count : goal.returns-clause-count
returns-clause-count c = gathered-count c.args.self.now c.args.watcher c.args.max (length c.loop-i.out.items) c.first_differing-at.ensures.sound c.first_differing-at.ensures.within (ap length (wants-all c.args.self.now c.args.watcher c.loop-i._i c.args.max c.loop-i.out.items c.loop-i.invariant.items (omega arith)))

pub returns-clause-taken : goal.returns-clause-taken
returns-clause-taken c = gathered-taken c.args.self.now c.args.watcher c.args.max (length c.loop-i.out.items) c.first_differing-at.ensures.sound c.first_differing-at.ensures.within (ap length (wants-all c.args.self.now c.args.watcher c.loop-i._i c.args.max c.loop-i.out.items c.loop-i.invariant.items (omega arith)))
