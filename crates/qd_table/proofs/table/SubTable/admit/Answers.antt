use Rattle.qd_table.proofs.JudgeLaws.{judged-cause, judged-allowed}
use Rattle.qd_table.proofs.StoreShown.{keys-allowed, pairs-allowed, allowed-either, refused-cause}
use Rattle.qd_table.proofs.table.SubTable.admit.Goals as goal

pub returns-in-Err-clause-refused : goal.returns-in-Err-clause-refused
returns-in-Err-clause-refused c = judged-cause c.self.invariant.0 c.self.view_is c.get-agent.result c.args.agent c.args.subs.now c.judge-judged.result c.in-Err.fault c.get-agent.ensures.value c.judge-judged.ensures.verdict c.in-Err.is

pub make_room-requires-clause-keys : goal.make_room-requires-clause-keys
make_room-requires-clause-keys c = keys-allowed c.self.invariant.0 c.self.view_is c.args.agent c.args.subs.now
    (judged-allowed c.self.invariant.0 c.self.view_is c.get-agent.result c.args.agent c.args.subs.now c.judge-judged.result c.in-Ok.field-0 c.get-agent.ensures.value c.judge-judged.ensures.verdict c.in-Ok.is)

pub make_room-requires-clause-pairs : goal.make_room-requires-clause-pairs
make_room-requires-clause-pairs c = pairs-allowed c.self.invariant.0 c.self.view_is c.args.agent c.args.subs.now
    (judged-allowed c.self.invariant.0 c.self.view_is c.get-agent.result c.args.agent c.args.subs.now c.judge-judged.result c.in-Ok.field-0 c.get-agent.ensures.value c.judge-judged.ensures.verdict c.in-Ok.is)

pub returns-in-Ok-clause-allowed : goal.returns-in-Ok-clause-allowed
returns-in-Ok-clause-allowed c = allowed-either c.make_room.result
    (judged-allowed c.self.invariant.0 c.self.view_is c.get-agent.result c.args.agent c.args.subs.now c.judge-judged.result c.in-Ok.field-0 c.get-agent.ensures.value c.judge-judged.ensures.verdict c.in-Ok.is)

pub returns-in-Ok-clause-refused : goal.returns-in-Ok-clause-refused
returns-in-Ok-clause-refused c = refused-cause c.args.self.now c.args.agent c.args.subs.now c.make_room.result
    (judged-allowed c.self.invariant.0 c.self.view_is c.get-agent.result c.args.agent c.args.subs.now c.judge-judged.result c.in-Ok.field-0 c.get-agent.ensures.value c.judge-judged.ensures.verdict c.in-Ok.is) c.make_room.ensures.refused
