use Rattle.std.proofs.Common.{◌∙◌, ap, sym, arith, ◌-◌, ◌++◌, vec_len, refl}
use Rattle.qd_pend.specs.declared.links.Link.{Link}
use Rattle.qd_pend.specs.Linked.{nexts, prevs, numbers}
use Rattle.qd_pend.proofs.QueueLaws.{grown, none-yet}
use Rattle.qd_pend.proofs.links.add_free.Goals as goal

pub loop-place-init : goal.loop-place-init
loop-place-init c = record {
  nexts = none-yet (nexts c.args.links.now.items) (vec_len c.args.links.now) ∙ ap (λ n. nexts c.args.links.now.items ++ numbers (vec_len c.args.links.now) (n - vec_len c.args.links.now)) (sym c.len-place.ensures);
  prevs = none-yet (prevs c.args.links.now.items) (vec_len c.args.links.now) ∙ ap (λ n. prevs c.args.links.now.items ++ numbers (vec_len c.args.links.now) (n - vec_len c.args.links.now)) (sym c.len-place.ensures);
  len = sym c.len-place.ensures;
  room = c.requires.room;
}

pub loop-place-preserved : goal.loop-place-preserved
loop-place-preserved c = record {
  nexts = grown (λ (l : Link). l.next) c.loop-place.links.items c.push_own.new.links.items (nexts c.args.links.now.items) (vec_len c.args.links.now) c.loop-place.place _ refl (omega arith) c.loop-place.invariant.nexts c.push_own.ensures.items;
  prevs = grown (λ (l : Link). l.prev) c.loop-place.links.items c.push_own.new.links.items (prevs c.args.links.now.items) (vec_len c.args.links.now) c.loop-place.place _ refl (omega arith) c.loop-place.invariant.prevs c.push_own.ensures.items;
  len = omega arith;
  room = omega arith;
}
