use Rattle.std.proofs.Common.{◌<◌, ◌-◌, ◌∙◌, ℕ, Option, refl, sym, arith, subst}
use Rattle.qd_slots.specs.Holds.{order_at}
use Rattle.qd_slots.specs.Views.{EachSaw}
use Rattle.qd_table.proofs.StoreSteps.{subscribing-stored}
use Rattle.qd_table.proofs.StoreShown.{room-facts, subscribing-shown}
use Rattle.qd_table.proofs.table.SubTable.subscribe.Goals as goal

pub slot_or_new-slot-requires-clause-room : goal.slot_or_new-slot-requires-clause-room
slot_or_new-slot-requires-clause-room c = let r = room-facts c.self.invariant.0 c.self.view_is c.args.agent c.requires.room in let p = r.1 in let n = c.self.invariant.0.names_room in omega arith

pub subscribe-requires-clause-room : goal.subscribe-requires-clause-room
subscribe-requires-clause-room c =
    let r = room-facts c.self.invariant.0 c.self.view_is c.args.agent c.requires.room in
    let w = c.slot_or_new-slot.ensures.within in let o = c.self.invariant.0.order_room in
    subst (λ (n : ℕ). c.slot_or_new-slot.result < (order_at c.self.inside.holds.orders n).slots) (sym (c.get-agent.ensures.value ∙ r.0)) (omega (arith, w, o))

pub overflow_sub-self : goal.overflow_sub-self
overflow_sub-self c = let r = room-facts c.self.invariant.0 c.self.view_is c.args.agent c.requires.room in let p = r.1 in omega arith

pub invariant_of-self : goal.invariant_of-self
invariant_of-self c =
    let r = room-facts c.self.invariant.0 c.self.view_is c.args.agent c.requires.room in (
      subscribing-stored c.get-agent.result c.args.key.now c.args.limit c.slot_or_new-slot.result c.self.invariant.0 (record {
        agent = c.get-agent.ensures.value ∙ r.0;
        below = (let w = c.get-agent.ensures.within in let v = c.get-agent.ensures.value in omega arith);
        found = c.slot_or_new-slot.ensures.found;
        within = c.slot_or_new-slot.ensures.within;
        names = c.slot_or_new-slot.ensures.names;
        holdings = c.subscribe.ensures;
        kept = c.remove.ensures;
        saw = subst (λ (o : Option ℕ). EachSaw c.slot_or_new-slot.result o c.self.inside.watchers c.see.new.self) c.total_of-total.ensures c.see.ensures;
        same_agent = refl;
        more = r.1;
        room = (let p = r.1 in omega arith);
        names_room = c.slot_or_new-slot.ensures.room;
        named = c.slot_or_new-slot.ensures.more;
        counted = c.slot_or_new-slot.ensures.counted;
      }),
      c.self.invariant.1,
    )

pub returns : goal.returns
returns c =
    let r = room-facts c.self.invariant.0 c.self.view_is c.args.agent c.requires.room in
    subscribing-shown (record { names = c.slot_or_new-slot.new.names; named = c.slot_or_new-slot.new.named; holdings = c.subscribe.new.self; kept = c.remove.new.self; viewings = c.see.new.self; agent = c.self.inside.agent; room = c.self.inside.room - 1 })
    c.get-agent.result c.args.agent c.args.key.now c.args.limit c.slot_or_new-slot.result c.self.invariant.0 c.self.view_is c.get-agent.ensures.value (record {
      agent = c.get-agent.ensures.value ∙ r.0;
      below = (let w = c.get-agent.ensures.within in let v = c.get-agent.ensures.value in omega arith);
      found = c.slot_or_new-slot.ensures.found;
      within = c.slot_or_new-slot.ensures.within;
      names = c.slot_or_new-slot.ensures.names;
      holdings = c.subscribe.ensures;
      kept = c.remove.ensures;
      saw = subst (λ (o : Option ℕ). EachSaw c.slot_or_new-slot.result o c.self.inside.watchers c.see.new.self) c.total_of-total.ensures c.see.ensures;
      same_agent = refl;
      more = r.1;
      room = (let p = r.1 in omega arith);
      names_room = c.slot_or_new-slot.ensures.room;
      named = c.slot_or_new-slot.ensures.more;
      counted = c.slot_or_new-slot.ensures.counted;
    })
