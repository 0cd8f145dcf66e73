use Rattle.std.proofs.Common.{◌∙◌, sym}
use Rattle.qd_table.proofs.CallSteps.{sound-ended}
use Rattle.qd_table.proofs.TableLaws.{key_at-found}
use Rattle.qd_table.proofs.KeyCalls.{stays-wanted, end-unwanted}
use Rattle.qd_table.proofs.table.SubTable.remove.Goals as goal

pub returns-then-not-is_subscribed-clause-unwanted : goal.returns-then-not-is_subscribed-clause-unwanted
returns-then-not-is_subscribed-clause-unwanted c = stays-wanted c.args.self.now c.args.key.now

pub returns-in-None-clause-unwanted : goal.returns-in-None-clause-unwanted
returns-in-None-clause-unwanted c = stays-wanted c.args.self.now c.args.key.now

pub returns-else-not-is_subscribed-clause-unwanted : goal.returns-else-not-is_subscribed-clause-unwanted
returns-else-not-is_subscribed-clause-unwanted c =
    let sub = sym c.is_subscribed.ensures ∙ c.if-not-is_subscribed.false in
    let own = sym c.in-Some.ensures.slot in
    c.end.ensures.unwanted ∙ end-unwanted c.args.self.now c.end.new.self c.args.agent c.args.key.now c.in-Some.slot c.args.keep c.slots-slots.ensures.sound
    (sound-ended c.args.self.now c.end.new.self c.args.agent c.in-Some.slot c.args.keep c.slots-slots.ensures.sound sub c.args.key.now (key_at-found c.args.self.now c.args.key.now c.in-Some.slot own) c.end.ensures.ended) own sub c.end.ensures.ended
