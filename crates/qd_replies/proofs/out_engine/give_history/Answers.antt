use Rattle.std.proofs.Common.{ap}
use Rattle.qd_grammar.specs.declared.item.Collector.TheVariants as collectors
use Rattle.qd_path.specs.declared.call.Call.TheVariants as calls
use Rattle.qd_path.specs.Made.{Made}
use Rattle.qd_replies.specs.Asked.{plain_of}
use Rattle.qd_replies.proofs.Giving.{history_lawful, history_given, in_lent, gave}
use Rattle.qd_replies.proofs.out_engine.give_history.Goals as goal

pub write_reply-requires-clause-lent : goal.write_reply-requires-clause-lent
write_reply-requires-clause-lent g c = rw c.plain.ensures (let a = rw c.op_of-op.ensures.op at c.in-Ok.ensures.lawful in in_lent c.args.side (plain_of c.in-Ok.reply) _ _ (history_lawful c.args.side a.0 _ a.1 a.2) c.op_of-op.ensures.given c.op_of-op.ensures.wants)

pub returns-in-Ok-clause-outcome : goal.returns-in-Ok-clause-outcome
returns-in-Ok-clause-outcome g c = λ l are.
    let t = c.in-Ok.ensures.turn l are in
    let asked = ap (λ o. record { stripe = c.args.stripe; call = calls.History o }) c.op_of-op.ensures.op in (
      t.0,
      t.1,
      gave _ _ c.args.side collectors.History c.args.stripe c.write_reply.result (Made.History c.args.stripe c.op_of-op.result c.in-Ok.reply) l t.0 _ _ _ asked t.2.0 (rw (c.plain.ensures, history_given c.in-Ok.reply) at c.write_reply.ensures.written),
    )
