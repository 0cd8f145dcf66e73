use Rattle.std.proofs.Common.{[], ◌++◌, refl}
use Rattle.qd_items.specs.declared.ends.RunEnd.TheVariants as run_ends
use Rattle.qd_calls.proofs.Adding.{grew_none}
use Rattle.qd_calls.proofs.Soundness.{sound_lists}
use Rattle.qd_replay.specs.Ends.{Outside}
use Rattle.qd_replay.specs.Settings.{Setting, books_of}
use Rattle.qd_replay.proofs.DecidingLaws.{decided}
use Rattle.qd_replay.proofs.Legality.{made_legal}
use Rattle.qd_replay.proofs.Runs.{flushed_at, never_begun, over}
use Rattle.qd_replay.proofs.running.replay.Goals as goal

pub returns-in-Err-clause-ends : goal.returns-in-Err-clause-ends
returns-in-Err-clause-ends g c = λ l are empty.
    let set : Setting = record { defs = c.args.scheme.now; stripes = g.H.Hub.stripes c.args.hub.now } in
    let o : Outside = record { left = g.S.Source.left c.args.source.now; reads = g.S.Source.faults c.args.source.now; written = g.K.Sink.written c.args.sink.now; writes = g.K.Sink.faults c.args.sink.now } in
    let sound = sound_lists _ _ _ _ _ _ _ _ _ _ l are c.stripes.ensures.ticker c.stripes.ensures.stream c.stripes.ensures.history in
    let grew = grew_none set.stripes l sound in
    (l, are, ([], grew, (never_begun set (books_of l) _ o _ _ _ c.not_begun.ensures).ends))

pub returns-in-Err-clause-flushed : goal.returns-in-Err-clause-flushed
returns-in-Err-clause-flushed g c = flushed_at run_ends.NoMemory _ [] _ _ _ _ _ c.not_begun.ensures

pub returns-in-Err-clause-decided : goal.returns-in-Err-clause-decided
returns-in-Err-clause-decided g c = λ l text are empty t s n.
    let e = returns-in-Err-clause-ends g c l are empty in
    decided _ (books_of l) _ _ _ _ text e.2.2 t s n

pub returns-in-Err-new-clause-ends : goal.returns-in-Err-new-clause-ends
returns-in-Err-new-clause-ends g c = λ l are empty.
    let set : Setting = record { defs = c.args.scheme.now; stripes = g.H.Hub.stripes c.args.hub.now } in
    let o : Outside = record { left = g.S.Source.left c.args.source.now; reads = g.S.Source.faults c.args.source.now; written = g.K.Sink.written c.args.sink.now; writes = g.K.Sink.faults c.args.sink.now } in
    let sound = sound_lists _ _ _ _ _ _ _ _ _ _ l are c.stripes.ensures.ticker c.stripes.ensures.stream c.stripes.ensures.history in
    let grew = grew_none set.stripes l sound in
    (l, are, ([], grew, (never_begun set (books_of l) _ o _ _ _ c.not_begun-in-Err-new.ensures).ends))

pub returns-in-Err-new-clause-flushed : goal.returns-in-Err-new-clause-flushed
returns-in-Err-new-clause-flushed g c = flushed_at run_ends.NoMemory _ [] _ _ _ _ _ c.not_begun-in-Err-new.ensures

pub returns-in-Err-new-clause-decided : goal.returns-in-Err-new-clause-decided
returns-in-Err-new-clause-decided g c = λ l text are empty t s n.
    let e = returns-in-Err-new-clause-ends g c l are empty in
    decided _ (books_of l) _ _ _ _ text e.2.2 t s n

pub returns-clause-ends : goal.returns-clause-ends
returns-clause-ends g c = λ l are empty.
    let set : Setting = record { defs = c.args.scheme.now; stripes = g.H.Hub.stripes c.args.hub.now } in
    let o : Outside = record { left = g.S.Source.left c.args.source.now; reads = g.S.Source.faults c.args.source.now; written = g.K.Sink.written c.args.sink.now; writes = g.K.Sink.faults c.args.sink.now } in
    let t = c.run-end.ensures.ended l are in
    let same = c.run-end.ensures.same in
    let own = c.stripes.ensures.own c.requires.alone in
    let later = c.stripes-2.ensures.own same.2 in (
      t.0,
      t.1,
      (
        t.2.0.made ++ t.2.0.refused,
        t.2.1,
        (over set (books_of l) (t.2.0.made ++ t.2.0.refused) _ _ o _ _ _ _ _ t.2.0 refl (made_legal set.stripes (t.2.0.made ++ t.2.0.refused) l t.0 _ _ _ _ _ _ t.2.1 empty are t.1 own later) c.finish.ensures).ends,
      ),
    )

pub returns-clause-flushed : goal.returns-clause-flushed
returns-clause-flushed g c = flushed_at _ _ _ _ _ _ _ _ c.finish.ensures

pub returns-clause-decided : goal.returns-clause-decided
returns-clause-decided g c = λ l text are empty t s n.
    let e = returns-clause-ends g c l are empty in
    decided _ (books_of l) _ _ _ _ text e.2.2 t s n
