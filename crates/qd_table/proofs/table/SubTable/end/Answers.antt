use Rattle.std.proofs.Common.{ℕ, Option, refl, arith, subst}
use Rattle.qd_slots.specs.Views.{EachSaw}
use Rattle.qd_table.proofs.StoreEnds.{ending-stored}
use Rattle.qd_table.proofs.Shown.{subscribed-name, cell-of, views-of}
use Rattle.qd_table.proofs.StoreShown.{part-subscribed, cell-subscribed, absent-kept, ended-length, saw-slot, ending-shown, none-unwanted}
use Rattle.qd_table.proofs.table.SubTable.end.Goals as goal

pub end-requires-clause-slot : goal.end-requires-clause-slot
end-requires-clause-slot c = cell-of c.self.invariant.0 c.args.slot (subscribed-name c.self.invariant.0 c.self.view_is c.args.agent c.args.slot c.requires)

pub end-requires-clause-subscribed : goal.end-requires-clause-subscribed
end-requires-clause-subscribed c = cell-subscribed c.self.invariant.0 c.self.view_is c.get-agent.result c.args.agent c.args.slot c.get-agent.ensures.value c.requires

pub keep_if-requires-clause-room : goal.keep_if-requires-clause-room
keep_if-requires-clause-room c = c.self.invariant.0.keep_room c.get-agent.result c.args.slot (cell-subscribed c.self.invariant.0 c.self.view_is c.get-agent.result c.args.agent c.args.slot c.get-agent.ensures.value c.requires)

pub keep_if-requires-clause-absent : goal.keep_if-requires-clause-absent
keep_if-requires-clause-absent c = absent-kept c.self.invariant.0 c.get-agent.result c.args.slot (cell-subscribed c.self.invariant.0 c.self.view_is c.get-agent.result c.args.agent c.args.slot c.get-agent.ensures.value c.requires)

pub total_of-total-requires : goal.total_of-total-requires
total_of-total-requires c = ended-length c.self.inside.holds c.end.new.self c.get-agent.result c.args.slot c.args.keep c.end.ensures (cell-of c.self.invariant.0 c.args.slot (subscribed-name c.self.invariant.0 c.self.view_is c.args.agent c.args.slot c.requires))

pub see-requires : goal.see-requires
see-requires c = views-of c.self.invariant.0 c.args.slot (subscribed-name c.self.invariant.0 c.self.view_is c.args.agent c.args.slot c.requires)

pub free_unused-requires-clause-cell : goal.free_unused-requires-clause-cell
free_unused-requires-clause-cell c = ended-length c.self.inside.holds c.end.new.self c.get-agent.result c.args.slot c.args.keep c.end.ensures (cell-of c.self.invariant.0 c.args.slot (subscribed-name c.self.invariant.0 c.self.view_is c.args.agent c.args.slot c.requires))

pub free_unused-requires-clause-views : goal.free_unused-requires-clause-views
free_unused-requires-clause-views c = saw-slot c.self.inside.watchers c.see.new.self c.args.slot c.total_of-total.result c.see.ensures (views-of c.self.invariant.0 c.args.slot (subscribed-name c.self.invariant.0 c.self.view_is c.args.agent c.args.slot c.requires))

pub invariant_of-self : goal.invariant_of-self
invariant_of-self c = (
  ending-stored c.get-agent.result c.args.slot c.args.keep c.self.invariant.0 (record {
    subscribed = part-subscribed c.self.invariant.0 c.self.view_is c.get-agent.result c.args.agent c.args.slot c.get-agent.ensures.value c.requires;
    below = (let w = c.get-agent.ensures.within in let v = c.get-agent.ensures.value in omega arith);
    holdings = c.end.ensures;
    kept = c.keep_if.ensures;
    saw = subst (λ (o : Option ℕ). EachSaw c.args.slot o c.self.inside.watchers c.see.new.self) c.total_of-total.ensures c.see.ensures;
    freed = record { names = c.free_unused.ensures.names; agent = refl; room = refl; names_room = c.free_unused.ensures.room; named = c.free_unused.ensures.less; counted = c.free_unused.ensures.counted };
  }),
  c.self.invariant.1,
)

pub returns-clause-unwanted : goal.returns-clause-unwanted
returns-clause-unwanted c = none-unwanted {s' = record { names = c.free_unused.new.names; named = c.free_unused.new.named; holdings = c.end.new.self; kept = c.keep_if.new.kept; viewings = c.see.new.self; agent = c.self.inside.agent; room = c.self.inside.room }} (ending-stored c.get-agent.result c.args.slot c.args.keep c.self.invariant.0 (record {
  subscribed = part-subscribed c.self.invariant.0 c.self.view_is c.get-agent.result c.args.agent c.args.slot c.get-agent.ensures.value c.requires;
  below = (let w = c.get-agent.ensures.within in let v = c.get-agent.ensures.value in omega arith);
  holdings = c.end.ensures;
  kept = c.keep_if.ensures;
  saw = subst (λ (o : Option ℕ). EachSaw c.args.slot o c.self.inside.watchers c.see.new.self) c.total_of-total.ensures c.see.ensures;
  freed = record { names = c.free_unused.ensures.names; agent = refl; room = refl; names_room = c.free_unused.ensures.room; named = c.free_unused.ensures.less; counted = c.free_unused.ensures.counted };
})) c.args.slot c.total_of-total.result c.is_none.result
    (ended-length c.self.inside.holds c.end.new.self c.get-agent.result c.args.slot c.args.keep c.end.ensures (cell-of c.self.invariant.0 c.args.slot (subscribed-name c.self.invariant.0 c.self.view_is c.args.agent c.args.slot c.requires))) c.total_of-total.ensures c.is_none.ensures

pub returns-clause-ended : goal.returns-clause-ended
returns-clause-ended c = ending-shown (record { names = c.free_unused.new.names; named = c.free_unused.new.named; holdings = c.end.new.self; kept = c.keep_if.new.kept; viewings = c.see.new.self; agent = c.self.inside.agent; room = c.self.inside.room })
    c.get-agent.result c.args.agent c.args.slot c.args.keep c.self.invariant.0 c.self.view_is c.get-agent.ensures.value (record {
      subscribed = part-subscribed c.self.invariant.0 c.self.view_is c.get-agent.result c.args.agent c.args.slot c.get-agent.ensures.value c.requires;
      below = (let w = c.get-agent.ensures.within in let v = c.get-agent.ensures.value in omega arith);
      holdings = c.end.ensures;
      kept = c.keep_if.ensures;
      saw = subst (λ (o : Option ℕ). EachSaw c.args.slot o c.self.inside.watchers c.see.new.self) c.total_of-total.ensures c.see.ensures;
      freed = record { names = c.free_unused.ensures.names; agent = refl; room = refl; names_room = c.free_unused.ensures.room; named = c.free_unused.ensures.less; counted = c.free_unused.ensures.counted };
    })
