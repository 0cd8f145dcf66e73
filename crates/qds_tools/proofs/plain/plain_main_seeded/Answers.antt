use Rattle.qd_words.specs.Asking.{asked}
use Rattle.qds_tools.specs.declared.program_end.ProgramEnd.TheVariants.{Refused, Ran}
use Rattle.qds_tools.proofs.DecidedLaws.{asked_ends, run_decided, refusal_decided, reported, reported_with}
use Rattle.qds_tools.proofs.ScriptLaws.{script_alone}
use Rattle.qds_tools.proofs.plain.plain_main_seeded.Goals as goal

pub returns-in-Some-clause-run : goal.returns-in-Some-clause-run
returns-in-Some-clause-run g c ask e =
    (c.run_asked-end.result, asked_ends (asked c.in-Some.ask) ask _ c.run_asked-end.result _ _ c.in-Some.ensures.asked e c.run_asked-end.ensures, c.report.ensures)

pub returns-in-Some-clause-refused : goal.returns-in-Some-clause-refused
returns-in-Some-clause-refused g c ask why e s n =
    reported c.run_asked-end.result (Refused why) _ _ _ _ _ _ (refusal_decided ask why c.run_asked-end.result _ _ (asked_ends (asked c.in-Some.ask) ask _ c.run_asked-end.result _ _ c.in-Some.ensures.asked e c.run_asked-end.ensures) s n) c.report.ensures

pub returns-in-Some-clause-decided : goal.returns-in-Some-clause-decided
returns-in-Some-clause-decided g c ask defs text printed end e s l t n =
    reported_with c.run_asked-end.result (Ran end) _ _ _ _ _ _ (run_decided ask defs text printed end c.run_asked-end.result _ _ (asked_ends (asked c.in-Some.ask) ask _ c.run_asked-end.result _ _ c.in-Some.ensures.asked e c.run_asked-end.ensures) s l t n) c.report.ensures

pub returns-in-Some-clause-script : goal.returns-in-Some-clause-script
returns-in-Some-clause-script g c ask e = absurd (script_alone _ (asked c.in-Some.ask) ask c.in-Some.ensures.asked e)

pub returns-in-Some-clause-whole : goal.returns-in-Some-clause-whole
returns-in-Some-clause-whole g c ask e sound = absurd (script_alone _ (asked c.in-Some.ask) ask c.in-Some.ensures.asked e)
