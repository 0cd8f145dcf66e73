use Rattle.std.proofs.Common.{◌<◌, ◌∙◌, List, ap, sym, arith, length, slice_set}
use Rattle.std.proofs.lemmas.Result.{on_ok_weaker}
use Rattle.qd_scheme.specs.declared.key.Event.{Event}
use Rattle.qd_history.proofs.TallyLaws.{tallied-some}
use Rattle.qd_history.proofs.rooms.make_room_for.Goals as goal

pub bump-events-requires-clause-few : goal.bump-events-requires-clause-few
bump-events-requires-clause-few c = c.requires.counted c.in-Some.slot (sym c.in-Some.ensures.slot)

pub returns-in-Some-clause-ok : goal.returns-in-Some-clause-ok
returns-in-Some-clause-ok c =
    let tally = c.args.tally.now.items in
    let within : c.in-Some.slot < length tally = omega (arith, c.requires.places.tallied c.in-Some.slot c.args.e.now.key c.in-Some.ensures.named, c.args.tally.now.ok) in
    on_ok_weaker c.reserve_at.result (λ place. λ (items rest : List Event) was.
    tallied-some c.args.hcap c.args.table.now items rest c.args.e.now tally c.bump-events.new.tally.items c.args.tracks.now c.reserve_at.new.tracks c.args.sides.now.items c.reserve_at.new.sides.items c.in-Some.slot c.bump-events.result (sym c.in-Some.ensures.slot) within
    c.bump-events.ensures.count (c.bump-events.ensures.items ∙ ap (slice_set tally c.in-Some.slot) (sym c.bump-events.ensures.count)) c.reserve_at.ensures.tracks c.reserve_at.ensures.sides place was) c.reserve_at.ensures.ok
