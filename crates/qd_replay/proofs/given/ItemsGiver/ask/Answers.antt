use Rattle.qd_replay.proofs.Takes.{stream_given, has_items, items_given}
use Rattle.qd_replay.proofs.given.ItemsGiver.ask.Goals as goal

pub items_of-requires : goal.items_of-requires
items_of-requires g c = let a = rw (c.take.ensures, c.requires.out) at c.in-Ok.ensures.lawful in has_items c.args.max c.in-Ok.reply (stream_given c.args.agent c.args.max c.in-Ok.reply a)

pub returns-clause-room : goal.returns-clause-room
returns-clause-room g c =
    let a = rw (c.take.ensures, c.requires.out) at c.in-Ok.ensures.lawful in
    (items_given c.args.max c.in-Ok.reply c.items_of.result (stream_given c.args.agent c.args.max c.in-Ok.reply a) c.items_of.ensures).0

pub returns-clause-few : goal.returns-clause-few
returns-clause-few g c =
    let a = rw (c.take.ensures, c.requires.out) at c.in-Ok.ensures.lawful in
    (items_given c.args.max c.in-Ok.reply c.items_of.result (stream_given c.args.agent c.args.max c.in-Ok.reply a) c.items_of.ensures).1
