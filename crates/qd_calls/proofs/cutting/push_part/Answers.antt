use Rattle.std.specs.Prelude.{is_ok}
use Rattle.qd_calls.specs.Dues.{IsDue}
use Rattle.qd_calls.proofs.Parts.{pushed_all}
use Rattle.qd_calls.proofs.cutting.push_part.Goals as goal

pub returns-clause-due : goal.returns-clause-due
returns-clause-due g c =
    pushed_all (IsDue c.args.n) (is_ok c.push.result) c.args.due.now.items c.push.new.self.items (record { stripe = c.args.stripe; call = c.call-call.result }) c.push.ensures.items c.requires.due
    (c.call-call.ensures.due c.args.n c.args.stripe c.requires.within c.requires.of_stripe)
