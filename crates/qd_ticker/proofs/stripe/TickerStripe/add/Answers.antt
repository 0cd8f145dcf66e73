use Rattle.std.proofs.Common.{subst}
use Rattle.qd_table.specs.Steps.{IsCause}
use Rattle.qd_ticker.proofs.StandLaws.{StandsAt-roomier}
use Rattle.qd_ticker.proofs.WayLaws.{leads-nowhere}
use Rattle.qd_ticker.proofs.stripe.TickerStripe.add.Goals as goal

pub returns-in-Err-TooManyKeys : goal.returns-in-Err-TooManyKeys
returns-in-Err-TooManyKeys c = (subst (IsCause c.args.self.now.table c.args.agent c.args.subs.now) c.in-Err-TooManyKeys.field-0-is c.in-Err-TooManyKeys.ensures.refused, leads-nowhere c.args.self.now c.admit.new.self c.admit.ensures.same)

pub returns-in-Err-TooManySubs : goal.returns-in-Err-TooManySubs
returns-in-Err-TooManySubs c = (subst (IsCause c.args.self.now.table c.args.agent c.args.subs.now) c.in-Err-TooManySubs.field-0-is c.in-Err-TooManySubs.ensures.refused, leads-nowhere c.args.self.now c.admit.new.self c.admit.ensures.same)

pub returns-in-Err-NoMemory : goal.returns-in-Err-NoMemory
returns-in-Err-NoMemory c = (subst (IsCause c.args.self.now.table c.args.agent c.args.subs.now) c.in-Err-NoMemory.field-0-is c.in-Err-NoMemory.ensures.refused, leads-nowhere c.args.self.now c.admit.new.self c.admit.ensures.same)

pub returns-in-Ok : goal.returns-in-Ok
returns-in-Ok c = (c.in-Ok.ensures.allowed, λ now st. c.subscribe_all.ensures now (StandsAt-roomier c.args.self.now c.admit.new.self now st c.admit.ensures.same))
