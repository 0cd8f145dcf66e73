use Rattle.std.proofs.Common.{◌≤◌, ◌+◌, ◌∙◌, drop, subst, arith}
use Rattle.std.proofs.Math.ListN.{drop_of_length-le}
use Rattle.qd_history.specs.Rooms.{IsTallied, count_at}
use Rattle.qd_history.proofs.RoomLaws.{left-from}
use Rattle.qd_history.proofs.RoomierLaws.{tracks-same, sides-same, tracks-trans, sides-trans}
use Rattle.qd_history.proofs.TallyLaws.{tallied-start, tallied-end, tallied-few, all-kept, count-drop}
use Rattle.qd_history.proofs.rooms.make_room.Goals as goal

pub loop-e-init : goal.loop-e-init
loop-e-init c = record {
  tallied = tallied-start c.args.hcap c.args.table.now c.args.items.now c.settle.new.tally.items c.args.tracks.now.list c.args.sides.now.items c.settle.ensures.zero;
  tally = c.settle.ensures.len;
  tracks = tracks-same c.args.tracks.now;
  sides = sides-same c.args.sides.now.items;
}

pub make_room_for-requires : goal.make_room_for-requires
make_room_for-requires c =
    let rest = drop (c.loop-e.e-index + 1) c.args.items.now in
    let left = left-from c.args.items.now c.loop-e.e-index c.e-item.result (omega arith) c.e-item.is in
    let tallied = subst (λ es. IsTallied c.args.hcap c.args.table.now c.args.items.now es c.loop-e.tally.items c.loop-e.tracks.list c.loop-e.sides.items) left c.loop-e.invariant.tallied in
    record {
      few = c.requires.few.0;
      places = all-kept c.args.table.now _ _ c.args.tracks.now c.loop-e.tracks c.args.sides.now.items c.loop-e.sides.items c.requires.places c.loop-e.invariant.tally c.loop-e.invariant.tracks c.loop-e.invariant.sides;
      counted = λ slot w. (
          let few = tallied-few c.args.hcap c.args.table.now c.args.items.now rest c.e-item.result c.loop-e.tally.items c.loop-e.tracks.list c.loop-e.sides.items slot w
          (subst (λ es. count_at c.args.table.now slot es ≤ count_at c.args.table.now slot c.args.items.now) left (count-drop c.args.table.now slot c.loop-e.e-index c.args.items.now)) tallied in
          omega (arith, few, c.requires.few.1));
    }

pub loop-e-preserved : goal.loop-e-preserved
loop-e-preserved c =
    let rest = drop (c.loop-e.e-index + 1) c.args.items.now in
    let left = left-from c.args.items.now c.loop-e.e-index c.e-item.result (omega arith) c.e-item.is in
    let tallied = subst (λ es. IsTallied c.args.hcap c.args.table.now c.args.items.now es c.loop-e.tally.items c.loop-e.tracks.list c.loop-e.sides.items) left c.loop-e.invariant.tallied in
    record {
      tallied = c.in_ok-make_room_for.ensures.ok c.args.items.now rest tallied;
      tally = c.make_room_for.ensures.tally ∙ c.loop-e.invariant.tally;
      tracks = tracks-trans c.args.tracks.now c.loop-e.tracks c.make_room_for.new.tracks c.loop-e.invariant.tracks c.make_room_for.ensures.tracks;
      sides = sides-trans c.args.sides.now.items c.loop-e.sides.items c.make_room_for.new.sides.items c.loop-e.invariant.sides c.make_room_for.ensures.sides;
    }

pub returns-clause-ok : goal.returns-clause-ok
returns-clause-ok c =
    tallied-end c.args.hcap c.args.table.now c.args.items.now c.loop-e.tally.items c.loop-e.tracks.list c.loop-e.sides.items
    (subst (λ es. IsTallied c.args.hcap c.args.table.now c.args.items.now es c.loop-e.tally.items c.loop-e.tracks.list c.loop-e.sides.items) (drop_of_length-le c.args.items.now (omega arith)) c.loop-e.invariant.tallied)
