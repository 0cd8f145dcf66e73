use Rattle.std.proofs.Common.{refl, arith}
use Rattle.qd_table.proofs.StoreAdmits.{reserving-stored, refused-room}
use Rattle.qd_table.proofs.StoreShown.{reserving-shown, part-pairs, part-keys, room-own}
use Rattle.qd_table.proofs.table.SubTable.make_room.Goals as goal

pub invariant_of-self : goal.invariant_of-self
invariant_of-self c = (
  reserving-stored c.self.invariant.0
      (record { names = c.reserve-reserved.ensures.names; holds = c.reserve-reserved.ensures.holds; holding = c.pairs-pairs.ensures.holding; kept = c.reserve-reserved.ensures.kept; watchers = c.reserve-reserved.ensures.watchers; named = refl })
      (refused-room c.self.invariant.0
      (record { names = c.reserve-reserved.ensures.names; holds = c.reserve-reserved.ensures.holds; holding = c.pairs-pairs.ensures.holding; kept = c.reserve-reserved.ensures.kept; watchers = c.reserve-reserved.ensures.watchers; named = refl })
      c.in-Err.ensures.unnamed refl refl),
  c.self.invariant.1,
)

pub invariant_of-self-in-Ok : goal.invariant_of-self-in-Ok
invariant_of-self-in-Ok c =
    let p = part-pairs c.self.invariant.0 c.self.view_is c.requires.pairs in
    let k = part-keys c.self.invariant.0 c.self.view_is c.requires.keys in
    let q = c.reserve-reserved.ensures.holds.pairs in
    let m = c.requires.more in (
      reserving-stored c.self.invariant.0
          (record { names = c.reserve-reserved.ensures.names; holds = c.reserve-reserved.ensures.holds; holding = c.pairs-pairs.ensures.holding; kept = c.reserve-reserved.ensures.kept; watchers = c.reserve-reserved.ensures.watchers; named = refl })
          (record {
            agent = c.requires.agent;
            cells = c.in-Ok.ensures.cells;
            views = c.in-Ok.ensures.views;
            order_room = c.in-Ok.ensures.order;
            ready = c.in-Ok.ensures.keeps;
            names_room = c.in-Ok.ensures.ready;
            few_pairs = omega (arith, p, q, m);
            few_keys = omega (arith, k, m);
          }),
      c.self.invariant.1,
    )

pub returns-in-Err-clause-same : goal.returns-in-Err-clause-same
returns-in-Err-clause-same c = reserving-shown (record { names = c.reserve-reserved.new.names; named = c.self.inside.named; holdings = c.reserve-reserved.new.holds; kept = c.reserve-reserved.new.kept; viewings = c.reserve-reserved.new.watchers; agent = c.self.inside.agent; room = c.self.inside.room })
    c.self.invariant.0 c.self.view_is (record { names = c.reserve-reserved.ensures.names; holds = c.reserve-reserved.ensures.holds; holding = c.pairs-pairs.ensures.holding; kept = c.reserve-reserved.ensures.kept; watchers = c.reserve-reserved.ensures.watchers; named = refl })

pub returns-in-Ok-clause-same : goal.returns-in-Ok-clause-same
returns-in-Ok-clause-same c = reserving-shown (record { names = c.reserve-reserved.new.names; named = c.self.inside.named; holdings = c.reserve-reserved.new.holds; kept = c.reserve-reserved.new.kept; viewings = c.reserve-reserved.new.watchers; agent = c.args.agent; room = c.args.more })
    c.self.invariant.0 c.self.view_is (record { names = c.reserve-reserved.ensures.names; holds = c.reserve-reserved.ensures.holds; holding = c.pairs-pairs.ensures.holding; kept = c.reserve-reserved.ensures.kept; watchers = c.reserve-reserved.ensures.watchers; named = refl })

pub returns-in-Ok-clause-room : goal.returns-in-Ok-clause-room
returns-in-Ok-clause-room c = room-own (record { names = c.reserve-reserved.new.names; named = c.self.inside.named; holdings = c.reserve-reserved.new.holds; kept = c.reserve-reserved.new.kept; viewings = c.reserve-reserved.new.watchers; agent = c.args.agent; room = c.args.more })
    c.args.agent c.args.more refl refl
