use Rattle.std.proofs.Common.{◌∙◌, arith}
use Rattle.qd_load.proofs.Lists.{heard_keys, heard_fed, heard_length, fed_all}
use Rattle.qd_load.proofs.views.hear_all.Goals as goal

pub returns-then-not-hear_one-clause-keys : goal.returns-then-not-hear_one-clause-keys
returns-then-not-hear_one-clause-keys c = heard_keys c.loop-i.shelves.items c.hear_one.new.shelves.items c.loop-i.i c.args.event.now _ c.hear_one.ensures ∙ c.loop-i.invariant.0

pub loop-i-preserved : goal.loop-i-preserved
loop-i-preserved c = (
  heard_keys c.loop-i.shelves.items c.hear_one.new.shelves.items c.loop-i.i c.args.event.now _ c.hear_one.ensures ∙ c.loop-i.invariant.0,
  heard_length c.loop-i.shelves.items c.hear_one.new.shelves.items c.loop-i.i c.args.event.now _ c.hear_one.ensures ∙ c.loop-i.invariant.1,
  λ past fed. heard_fed c.loop-i.shelves.items c.hear_one.new.shelves.items c.loop-i.i c.args.event.now past c.if-not-hear_one.ensures (c.loop-i.invariant.2 past fed),
)

pub returns-clause-fed : goal.returns-clause-fed
returns-clause-fed c = λ past yes fed.
    let no = c.loop-i-test.false in
    let end = c.loop-i.auto.i-end in
    let len = c.len-i-end.ensures in
    let same = c.loop-i.invariant.1 in
    fed_all c.loop-i.i c.loop-i.shelves.items c.args.event.now past (omega (arith, no, end, len, same)) (c.loop-i.invariant.2 past fed)
