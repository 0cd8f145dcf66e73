use Rattle.std.proofs.Common.{◌≡◌, ◌<◌, ◌≤◌, ◌+◌, ◌∙◌, inl, refl, sym, subst, arith, length, ℕ}
use Rattle.qd_table.specs.Tables.{limit_for}
use Rattle.qd_hist_stand.specs.Stripes.{Side, floor_in}
use Rattle.qd_hist_stand.specs.Steps.{part_after}
use Rattle.qd_history.specs.Sides.{sided_at, spared_at, HasRoom}
use Rattle.qd_history.proofs.OwedLaws.{room-less}
use Rattle.qd_history.proofs.EachSide.{sided-none, sided-next, sided-all, each-next}
use Rattle.qd_history.proofs.sides.follow_all.Goals as goal

pub loop-number-init : goal.loop-number-init
loop-number-init c = record {
  few = omega arith;
  len = refl;
  parts = sided-none c.args.table.now c.args.slot (λ a. part_after c.args.hcap c.args.answer (floor_in (limit_for c.args.table.now a c.args.slot) c.args.track.now.state.now.floor) c.args.track.now.number c.args.track.now.state.now.batch c.args.slot) c.args.sides.now.items;
  room = λ a n h. room-less c.args.hcap (spared_at (sided_at c.args.sides.now.items a) c.args.slot) (length c.args.track.now.state.now.batch + n) n h (omega arith);
  within = c.requires.ready.within;
}

pub follow_one-requires : goal.follow_one-requires
follow_one-requires c =
    let next = c.in-Some.ensures.next in
    let same : sided_at c.loop-number.sides.items c.in-Some.number ≡ sided_at c.args.sides.now.items c.in-Some.number = c.loop-number.invariant.parts.others c.in-Some.number (inl next.after) in
    record {
      agent = next.within;
      agents = omega (arith, c.loop-number.invariant.len);
      few = c.requires.few;
      feed = subst (λ (s : Side). c.args.slot < length s.feeds) (sym same) (c.requires.ready.feeds c.in-Some.number next.subscribed);
      queue = subst (λ (s : Side). c.args.slot < s.queue.slots) (sym same) (c.requires.ready.slots c.in-Some.number next.subscribed);
      within = c.loop-number.invariant.within c.in-Some.number;
      room = subst (λ (s : Side). HasRoom c.args.hcap (spared_at s c.args.slot) (length c.args.track.now.state.now.batch)) (sym same) (c.requires.ready.room c.in-Some.number next.subscribed);
    }

pub loop-number-preserved : goal.loop-number-preserved
loop-number-preserved c =
    let next = c.in-Some.ensures.next in
    let agent = c.in-Some.number in
    let same : sided_at c.loop-number.sides.items agent ≡ sided_at c.args.sides.now.items agent = c.loop-number.invariant.parts.others agent (inl next.after) in
    record {
      few = omega (arith, next.within);
      len = c.follow_one.ensures.len ∙ c.loop-number.invariant.len;
      parts = sided-next c.args.table.now c.args.slot c.loop-number.from agent (λ a. part_after c.args.hcap c.args.answer (floor_in (limit_for c.args.table.now a c.args.slot) c.args.track.now.state.now.floor) c.args.track.now.number c.args.track.now.state.now.batch c.args.slot)
          c.args.sides.now.items c.loop-number.sides.items c.follow_one.new.sides.items next c.loop-number.invariant.parts c.follow_one.ensures.part c.follow_one.ensures.others;
      room = each-next (λ (a : ℕ) (s : Side). (n : ℕ) → HasRoom c.args.hcap (spared_at (sided_at c.args.sides.now.items a) c.args.slot) (length c.args.track.now.state.now.batch + n) → HasRoom c.args.hcap (spared_at s c.args.slot) n) agent c.loop-number.sides.items c.follow_one.new.sides.items
          (λ n h. c.follow_one.ensures.room n (subst (λ (s : Side). HasRoom c.args.hcap (spared_at s c.args.slot) (length c.args.track.now.state.now.batch + n)) (sym same) h)) c.follow_one.ensures.others (λ b e. c.loop-number.invariant.room b);
      within = each-next (λ (a : ℕ) (s : Side). s.owed ≤ c.args.hcap) agent c.loop-number.sides.items c.follow_one.new.sides.items c.follow_one.ensures.within c.follow_one.ensures.others (λ b e. c.loop-number.invariant.within b);
    }

pub returns-clause-parts : goal.returns-clause-parts
returns-clause-parts c = sided-all c.args.table.now c.args.slot c.loop-number.from (λ a. part_after c.args.hcap c.args.answer (floor_in (limit_for c.args.table.now a c.args.slot) c.args.track.now.state.now.floor) c.args.track.now.number c.args.track.now.state.now.batch c.args.slot)
    c.args.sides.now.items c.loop-number.sides.items c.in_default.ensures.none c.loop-number.invariant.parts
