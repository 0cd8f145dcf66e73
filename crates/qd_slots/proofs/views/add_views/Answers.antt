use Rattle.std.proofs.Common.{◌∙◌, ◌++◌, ◌-◌, ap, sym, arith, vec_len}
use Rattle.qd_slots.specs.Views.{no_views}
use Rattle.qd_slots.proofs.ViewLaws.{views-none, views-more}
use Rattle.qd_slots.proofs.views.add_views.Goals as goal

pub loop-slot-init : goal.loop-slot-init
loop-slot-init c = record {
  items = views-none c.args.views.now.items (vec_len c.args.views.now) ∙ ap (λ n. c.args.views.now.items ++ no_views (n - vec_len c.args.views.now)) (sym c.len-slot.ensures);
  len = sym c.len-slot.ensures;
  room = c.requires.room;
}

pub loop-slot-preserved : goal.loop-slot-preserved
loop-slot-preserved c = record {
  items = views-more c.args.views.now.items c.loop-slot.views.items c.push_view.new.views.items (vec_len c.args.views.now) c.loop-slot._slot c.loop-slot.invariant.items c.push_view.ensures.items (omega arith);
  len = omega arith;
  room = omega arith;
}
