-- A log grows by an entry.
use Rattle.std.proofs.Common.{◌≡◌, List, [], ◌∷◌, ◌++◌, refl}
use Rattle.qd_gate.specs.declared.machine.Entry.{Entry}
use Rattle.qd_sub.specs.Acts.{Act, Moment}
use Rattle.qd_sub.specs.Logs.{after_entry, after_log}

pub after_log-push : {P T O R : Type 0} (acts : Moment P T → O → R → List (Act P T)) (now : Moment P T) (log : List (Entry O R)) (entry : Entry O R) → after_log acts now (log ++ entry ∷ []) ≡ after_entry acts (after_log acts now log) entry
unfolding after_log
after_log-push acts now [] entry = refl
after_log-push acts now (one ∷ log) entry = after_log-push acts (after_entry acts now one) log entry
