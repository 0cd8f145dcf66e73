use Rattle.std.proofs.Common.{inl, inr, refl}
use Rattle.qd_items.specs.declared.ends.RunEnd.TheVariants.{BadStep, NoMemory}
use Rattle.qd_words.specs.NetAsking.{net_asked}
use Rattle.qds_tools.specs.declared.program_end.ProgramEnd.TheVariants.{Ran, Refused}
use Rattle.qds_tools.proofs.DecidedLaws.{reported, reported_with}
use Rattle.qds_net.proofs.CauseLaws.{has_cause, is_served, no_cause}
use Rattle.qds_net.proofs.DecidedLaws.{refusal_decided, run_decided, unknown_decided}
use Rattle.qds_net.proofs.NetLaws.{asked_ends}
use Rattle.qds_net.proofs.program.net_main.Goals as goal

pub returns-in-Ok-Some-clause-run : goal.returns-in-Ok-Some-clause-run
returns-in-Ok-Some-clause-run g c ask e =
    let found = rw c.in-Ok-Some.field-0-is at c.in-Ok-Some.ensures.asked in
    let ends = c.run_asked-end.ensures (record {
      files = g.F.Files.told c.args.files.now;
      net = g.N.Net.told c.args.net.now;
      jobs = g.P.Spawner.told c.args.threads.now;
      moments = g.C.Clock.told c.args.clock.now;
      left = g.S.Source.left c.args.input.now;
      reads = g.S.Source.faults c.args.input.now;
      written = g.K.Sink.written c.args.out.now;
      flushed = g.K.Sink.flushed c.args.out.now;
      writes = g.K.Sink.faults c.args.out.now;
    }) in
    (c.run_asked-end.result, inr (asked_ends (net_asked c.in-Ok-Some.ask) ask _ c.run_asked-end.result _ _ found e ends), c.report.ensures)

pub returns-in-Err-clause-run : goal.returns-in-Err-clause-run
returns-in-Err-clause-run g c ask e = (Ran NoMemory, inl (refl, refl), c.report-in-Err.ensures)

pub returns-in-Ok-Some-clause-causes : goal.returns-in-Ok-Some-clause-causes
returns-in-Ok-Some-clause-causes g c =
    has_cause (net_asked c.in-Ok-Some.ask) c.run_asked-end.result _ _ _ c.report.ensures.0 (c.run_asked-end.ensures (record {
      files = g.F.Files.told c.args.files.now;
      net = g.N.Net.told c.args.net.now;
      jobs = g.P.Spawner.told c.args.threads.now;
      moments = g.C.Clock.told c.args.clock.now;
      left = g.S.Source.left c.args.input.now;
      reads = g.S.Source.faults c.args.input.now;
      written = g.K.Sink.written c.args.out.now;
      flushed = g.K.Sink.flushed c.args.out.now;
      writes = g.K.Sink.faults c.args.out.now;
    }))

pub returns-in-Ok-Some-clause-served : goal.returns-in-Ok-Some-clause-served
returns-in-Ok-Some-clause-served g c ask e done =
    is_served (net_asked c.in-Ok-Some.ask) c.run_asked-end.result _ _ _ c.report.ensures.0 (c.run_asked-end.ensures (record {
      files = g.F.Files.told c.args.files.now;
      net = g.N.Net.told c.args.net.now;
      jobs = g.P.Spawner.told c.args.threads.now;
      moments = g.C.Clock.told c.args.clock.now;
      left = g.S.Source.left c.args.input.now;
      reads = g.S.Source.faults c.args.input.now;
      written = g.K.Sink.written c.args.out.now;
      flushed = g.K.Sink.flushed c.args.out.now;
      writes = g.K.Sink.faults c.args.out.now;
    })) done

pub returns-in-Ok-None-clause-causes : goal.returns-in-Ok-None-clause-causes
returns-in-Ok-None-clause-causes g c = no_cause _ 2 _ _ c.report-in-Ok-None.ensures.0 (inl refl)

pub returns-in-Err-clause-causes : goal.returns-in-Err-clause-causes
returns-in-Err-clause-causes g c = no_cause _ 5 _ _ c.report-in-Err.ensures.0 (inr refl)

pub returns-in-Ok-Some-clause-refused : goal.returns-in-Ok-Some-clause-refused
returns-in-Ok-Some-clause-refused g c ask why e s n =
    let found = rw c.in-Ok-Some.field-0-is at c.in-Ok-Some.ensures.asked in
    let ends = asked_ends (net_asked c.in-Ok-Some.ask) ask _ c.run_asked-end.result _ _ found e (c.run_asked-end.ensures (record {
      files = g.F.Files.told c.args.files.now;
      net = g.N.Net.told c.args.net.now;
      jobs = g.P.Spawner.told c.args.threads.now;
      moments = g.C.Clock.told c.args.clock.now;
      left = g.S.Source.left c.args.input.now;
      reads = g.S.Source.faults c.args.input.now;
      written = g.K.Sink.written c.args.out.now;
      flushed = g.K.Sink.flushed c.args.out.now;
      writes = g.K.Sink.faults c.args.out.now;
    })) in
    reported c.run_asked-end.result (Refused why) _ _ _ _ _ _ (refusal_decided ask why c.run_asked-end.result _ _ ends s n) c.report.ensures

pub returns-in-Ok-Some-clause-unknown : goal.returns-in-Ok-Some-clause-unknown
returns-in-Ok-Some-clause-unknown g c ask defs e s u n =
    let found = rw c.in-Ok-Some.field-0-is at c.in-Ok-Some.ensures.asked in
    let ends = asked_ends (net_asked c.in-Ok-Some.ask) ask _ c.run_asked-end.result _ _ found e (c.run_asked-end.ensures (record {
      files = g.F.Files.told c.args.files.now;
      net = g.N.Net.told c.args.net.now;
      jobs = g.P.Spawner.told c.args.threads.now;
      moments = g.C.Clock.told c.args.clock.now;
      left = g.S.Source.left c.args.input.now;
      reads = g.S.Source.faults c.args.input.now;
      written = g.K.Sink.written c.args.out.now;
      flushed = g.K.Sink.flushed c.args.out.now;
      writes = g.K.Sink.faults c.args.out.now;
    })) in
    reported_with c.run_asked-end.result (Ran (BadStep 0)) _ _ _ _ _ _ (unknown_decided ask defs c.run_asked-end.result _ _ ends s u n) c.report.ensures

pub returns-in-Ok-Some-clause-decided : goal.returns-in-Ok-Some-clause-decided
returns-in-Ok-Some-clause-decided g c ask defs end sent printed e s l n =
    let found = rw c.in-Ok-Some.field-0-is at c.in-Ok-Some.ensures.asked in
    let ends = asked_ends (net_asked c.in-Ok-Some.ask) ask _ c.run_asked-end.result _ _ found e (c.run_asked-end.ensures (record {
      files = g.F.Files.told c.args.files.now;
      net = g.N.Net.told c.args.net.now;
      jobs = g.P.Spawner.told c.args.threads.now;
      moments = g.C.Clock.told c.args.clock.now;
      left = g.S.Source.left c.args.input.now;
      reads = g.S.Source.faults c.args.input.now;
      written = g.K.Sink.written c.args.out.now;
      flushed = g.K.Sink.flushed c.args.out.now;
      writes = g.K.Sink.faults c.args.out.now;
    })) in
    reported_with c.run_asked-end.result end _ _ _ _ _ _ (run_decided ask defs end sent printed c.run_asked-end.result _ _ ends s l n) c.report.ensures

pub returns-in-Err-clause-refused : goal.returns-in-Err-clause-refused
returns-in-Err-clause-refused g c ask why e s n = inr c.report-in-Err.ensures.0

pub returns-in-Err-clause-unknown : goal.returns-in-Err-clause-unknown
returns-in-Err-clause-unknown g c ask defs e s u n = inr c.report-in-Err.ensures.0

pub returns-in-Err-clause-decided : goal.returns-in-Err-clause-decided
returns-in-Err-clause-decided g c ask defs end sent printed e s l n = inr c.report-in-Err.ensures.0
