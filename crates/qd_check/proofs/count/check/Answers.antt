use Rattle.std.proofs.Common.{refl, inr, []}
use Rattle.qd_items.specs.declared.ends.TextEnd.TheVariants as texts
use Rattle.qd_check.proofs.CheckLaws.{count_broke, count_printed}
use Rattle.qd_check.proofs.RunLaws.{not_begun, finished, flushed_at, decided}
use Rattle.qd_check.proofs.count.check.Goals as goal

pub returns-in-Err-clause-runs : goal.returns-in-Err-clause-runs
returns-in-Err-clause-runs g c = (finished _ _ _ _ _ _ _ _ _ _ (not_begun _ _ _ refl) (rw c.new-out.ensures at c.finish.ensures)).0

pub returns-in-Err-clause-flushed : goal.returns-in-Err-clause-flushed
returns-in-Err-clause-flushed g c = flushed_at texts.NoMemory _ _ _ _ _ _ _ c.finish.ensures

pub returns-in-Err-clause-decided : goal.returns-in-Err-clause-decided
returns-in-Err-clause-decided g c = decided _ _ _ _ _ (returns-in-Err-clause-runs g c)

pub returns-clause-runs : goal.returns-clause-runs
returns-clause-runs g c =
    let printed = rw c.new-out.ensures at c.in-Some.ensures in
    (finished _ _ _ _ _ _ _ _ _ _ (count_printed _ _ _ _ _ _ _ _ _ _ c.count_items-counted.ensures.counts printed) c.finish-in-Some.ensures).0

pub returns-clause-decided : goal.returns-clause-decided
returns-clause-decided g c = decided _ _ _ _ _ (returns-clause-runs g c)

pub returns-in-None-clause-runs : goal.returns-in-None-clause-runs
returns-in-None-clause-runs g c = inr (refl, count_broke _ _ _ _ [] _ _ _ _ c.count_items-counted.ensures.counts (rw c.new-out.ensures at c.in-None.ensures))
