use Rattle.qd_scheme_file.proofs.EndLaws.{last_ends, decided_from}
use Rattle.qd_scheme_file.proofs.reading.read_scheme.Goals as goal

pub returns-in-Ok-clause-ends : goal.returns-in-Ok-clause-ends
returns-in-Ok-clause-ends g c =
    let r = c.in-Ok.ensures.reads in
    last_ends c.finish.result c.read_all.new.reader c.read_all.new.cutter r.0 _ _ _ _ r.1 r.2 r.3 r.4 r.5 r.6 c.finish.ensures

pub returns-in-Ok-clause-decided : goal.returns-in-Ok-clause-decided
returns-in-Ok-clause-decided g c bytes end told d sound =
    let r = c.in-Ok.ensures.reads in
    decided_from bytes c.finish.result end _ _ _ _ (last_ends c.finish.result c.read_all.new.reader c.read_all.new.cutter r.0 _ _ _ _ r.1 r.2 r.3 r.4 r.5 r.6 c.finish.ensures) told sound d

pub returns-in-Err-clause-decided : goal.returns-in-Err-clause-decided
returns-in-Err-clause-decided g c bytes end told d sound =
    decided_from bytes _ end _ _ _ _ c.in-Err.ensures.reads told sound d
