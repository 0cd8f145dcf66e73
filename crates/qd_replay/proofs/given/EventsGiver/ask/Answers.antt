use Rattle.qd_replay.proofs.Takes.{history_given, has_events, events_given}
use Rattle.qd_replay.proofs.given.EventsGiver.ask.Goals as goal

pub events_of-requires : goal.events_of-requires
events_of-requires g c = let a = rw (c.take.ensures, c.requires.out) at c.in-Ok.ensures.lawful in has_events c.args.max c.in-Ok.reply (history_given c.args.agent c.args.max c.in-Ok.reply a)

pub returns-clause-room : goal.returns-clause-room
returns-clause-room g c =
    let a = rw (c.take.ensures, c.requires.out) at c.in-Ok.ensures.lawful in
    (events_given c.args.max c.in-Ok.reply c.events_of.result (history_given c.args.agent c.args.max c.in-Ok.reply a) c.events_of.ensures).0

pub returns-clause-few : goal.returns-clause-few
returns-clause-few g c =
    let a = rw (c.take.ensures, c.requires.out) at c.in-Ok.ensures.lawful in
    (events_given c.args.max c.in-Ok.reply c.events_of.result (history_given c.args.agent c.args.max c.in-Ok.reply a) c.events_of.ensures).1
