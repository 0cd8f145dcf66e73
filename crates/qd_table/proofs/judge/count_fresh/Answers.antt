use Rattle.std.proofs.Common.{◌+◌, ◌∙◌, arith, drop, map}
use Rattle.qd_table.specs.Judging.{has_slot, holds_key, seen_or}
use Rattle.qd_table.proofs.JudgeLaws.{count-start, count-loop, count-done}
use Rattle.qd_table.proofs.judge.count_fresh.Goals as goal

pub loop-sub-init : goal.loop-sub-init
loop-sub-init c = record {
  keys = (let e = count-start c.args.seen.now.keys (has_slot c.args.names.now.names) (map (λ s. s.key) c.args.subs.now) c.requires.ready.empty in omega arith);
  pairs = (let e = count-start c.args.seen.now.keys (holds_key c.args.names.now.names c.args.holds.now.cells c.args.agent) (map (λ s. s.key) c.args.subs.now) c.requires.ready.empty in omega arith);
  few_keys = omega arith;
  few_pairs = omega arith;
  spare_left = (let r = c.requires.ready.room in omega arith);
  room = (let r = c.requires.ready.room in omega arith);
}

pub count_key-requires-clause-room : goal.count_key-requires-clause-room
count_key-requires-clause-room c = let s = c.loop-sub.invariant.spare_left in let l = c.loop-sub-test.true in let n = c.requires.few in omega arith

pub count_key-requires-clause-small : goal.count_key-requires-clause-small
count_key-requires-clause-small c = let p = c.loop-sub.invariant.few_keys in let q = c.loop-sub.invariant.few_pairs in let l = c.loop-sub-test.true in let n = c.requires.few in (omega arith, omega arith)

pub loop-sub-preserved : goal.loop-sub-preserved
loop-sub-preserved c = record {
  keys = count-loop (seen_or c.loop-sub.seen.keys (has_slot c.args.names.now.names)) (seen_or c.count_key.new.seen.keys (has_slot c.args.names.now.names)) c.args.subs.now c.loop-sub.sub-index c.sub-item.result c.loop-sub.fresh.keys c.count_key.new.fresh.keys
      c.loop-sub-test.true c.sub-item.is (c.count_key.ensures.keys (map (λ s. s.key) (drop (c.loop-sub.sub-index + 1) c.args.subs.now))) ∙ c.loop-sub.invariant.keys;
  pairs = count-loop (seen_or c.loop-sub.seen.keys (holds_key c.args.names.now.names c.args.holds.now.cells c.args.agent)) (seen_or c.count_key.new.seen.keys (holds_key c.args.names.now.names c.args.holds.now.cells c.args.agent)) c.args.subs.now c.loop-sub.sub-index c.sub-item.result c.loop-sub.fresh.pairs c.count_key.new.fresh.pairs
      c.loop-sub-test.true c.sub-item.is (c.count_key.ensures.pairs (map (λ s. s.key) (drop (c.loop-sub.sub-index + 1) c.args.subs.now))) ∙ c.loop-sub.invariant.pairs;
  few_keys = (let p = c.loop-sub.invariant.few_keys in let m = c.count_key.ensures.more in let x = m.0 in omega arith);
  few_pairs = (let p = c.loop-sub.invariant.few_pairs in let m = c.count_key.ensures.more in let x = m.1 in omega arith);
  spare_left = (let p = c.loop-sub.invariant.spare_left in let m = c.count_key.ensures.spare in omega arith);
  room = (let p = c.loop-sub.invariant.room in let m = c.count_key.ensures.room in omega arith);
}

pub returns-clause-keys : goal.returns-clause-keys
returns-clause-keys c = count-done (seen_or c.loop-sub.seen.keys (has_slot c.args.names.now.names)) c.args.subs.now c.loop-sub.sub-index c.loop-sub.fresh.keys c.loop-sub-test.false ∙ c.loop-sub.invariant.keys

pub returns-clause-pairs : goal.returns-clause-pairs
returns-clause-pairs c = count-done (seen_or c.loop-sub.seen.keys (holds_key c.args.names.now.names c.args.holds.now.cells c.args.agent)) c.args.subs.now c.loop-sub.sub-index c.loop-sub.fresh.pairs c.loop-sub-test.false ∙ c.loop-sub.invariant.pairs

pub returns-clause-small : goal.returns-clause-small
returns-clause-small c = let p = c.loop-sub.invariant.few_keys in let q = c.loop-sub.invariant.few_pairs in let l = c.loop-sub.auto.sub-index-end in let n = c.requires.few in (omega arith, omega arith)

pub returns-clause-room : goal.returns-clause-room
returns-clause-room c = c.loop-sub.invariant.room
