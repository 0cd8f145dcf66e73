use Rattle.std.proofs.Common.{refl, arith}
use Rattle.qd_table.proofs.StoreEnds.{telling-stored}
use Rattle.qd_table.proofs.Shown.{named-slot, cell-of, views-of}
use Rattle.qd_table.proofs.StoreShown.{telling-shown, part-key, told-slot, told-shown}
use Rattle.qd_table.proofs.table.SubTable.tell.Goals as goal

pub total_of-total-requires : goal.total_of-total-requires
total_of-total-requires c = cell-of c.self.invariant.0 c.args.slot (named-slot c.self.invariant.0 c.self.view_is c.args.slot c.requires)

pub view_of-requires-clause-slot : goal.view_of-requires-clause-slot
view_of-requires-clause-slot c = (views-of c.self.invariant.0 c.args.slot (named-slot c.self.invariant.0 c.self.view_is c.args.slot c.requires) c.get-watcher.result (let w = c.get-watcher.ensures.within in let v = c.get-watcher.ensures.value in omega arith)).0

pub tell-requires-clause-slot : goal.tell-requires-clause-slot
tell-requires-clause-slot c = views-of c.self.invariant.0 c.args.slot (named-slot c.self.invariant.0 c.self.view_is c.args.slot c.requires)

pub free_unused-requires-clause-cell : goal.free_unused-requires-clause-cell
free_unused-requires-clause-cell c = cell-of c.self.invariant.0 c.args.slot (named-slot c.self.invariant.0 c.self.view_is c.args.slot c.requires)

pub free_unused-requires-clause-views : goal.free_unused-requires-clause-views
free_unused-requires-clause-views c = told-slot c.self.inside.watchers c.tell.new.self c.get-watcher.result c.args.slot c.to_tell-told.result c.total_of-total.result c.tell.ensures
    (let w = c.get-watcher.ensures.within in let v = c.get-watcher.ensures.value in let n = c.self.invariant.0.watchers in omega arith) (views-of c.self.invariant.0 c.args.slot (named-slot c.self.invariant.0 c.self.view_is c.args.slot c.requires))

pub invariant_of-self : goal.invariant_of-self
invariant_of-self c =
    let own = part-key c.self.invariant.0 c.self.view_is c.args.slot c.requires in (
      telling-stored c.get-watcher.result c.args.slot c.self.invariant.0 (record {
        below = (let w = c.get-watcher.ensures.within in let v = c.get-watcher.ensures.value in omega arith);
        within = named-slot c.self.invariant.0 c.self.view_is c.args.slot c.requires;
        holdings = refl;
        kept = refl;
        viewings = told-shown c.self.invariant.0 c.tell.new.self c.get-watcher.result c.args.slot c.view_of.result c.total_of-total.result c.to_tell-told.result (cell-of c.self.invariant.0 c.args.slot (named-slot c.self.invariant.0 c.self.view_is c.args.slot c.requires))
            c.view_of.ensures c.total_of-total.ensures c.to_tell-told.ensures c.tell.ensures;
        freed = record { names = c.free_unused.ensures.names; agent = refl; room = refl; names_room = c.free_unused.ensures.room; named = c.free_unused.ensures.less; counted = c.free_unused.ensures.counted };
      }) own.0 own.1,
      c.self.invariant.1,
    )

pub returns : goal.returns
returns c = telling-shown (record { names = c.free_unused.new.names; named = c.free_unused.new.named; holdings = c.self.inside.holds; kept = c.self.inside.kept; viewings = c.tell.new.self; agent = c.self.inside.agent; room = c.self.inside.room })
    c.get-watcher.result c.args.watcher c.args.slot c.self.invariant.0 c.self.view_is c.get-watcher.ensures.value (record {
      below = (let w = c.get-watcher.ensures.within in let v = c.get-watcher.ensures.value in omega arith);
      within = named-slot c.self.invariant.0 c.self.view_is c.args.slot c.requires;
      holdings = refl;
      kept = refl;
      viewings = told-shown c.self.invariant.0 c.tell.new.self c.get-watcher.result c.args.slot c.view_of.result c.total_of-total.result c.to_tell-told.result (cell-of c.self.invariant.0 c.args.slot (named-slot c.self.invariant.0 c.self.view_is c.args.slot c.requires))
          c.view_of.ensures c.total_of-total.ensures c.to_tell-told.ensures c.tell.ensures;
      freed = record { names = c.free_unused.ensures.names; agent = refl; room = refl; names_room = c.free_unused.ensures.room; named = c.free_unused.ensures.less; counted = c.free_unused.ensures.counted };
    })
