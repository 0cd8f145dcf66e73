use Rattle.std.proofs.Common.{[], ap}
use Rattle.qd_hub.specs.Configs.{Sizes}
use Rattle.qd_items.specs.declared.ends.RunEnd.TheVariants as run_ends
use Rattle.qd_replay.specs.Ends.{Outside}
use Rattle.qd_replay.specs.Settings.{Setting, own_books}
use Rattle.qd_replay.proofs.Alone.{new_lists, new_are, new_empty, renamed}
use Rattle.qd_replay.proofs.DecidingLaws.{decided}
use Rattle.qd_replay.proofs.Runs.{flushed_at, never_begun}
use Rattle.qd_replay.proofs.running.replay_alone.Goals as goal

pub returns-in-Err-clause-ends : goal.returns-in-Err-clause-ends
returns-in-Err-clause-ends g c =
    let set : Setting = record { defs = c.args.scheme.now; stripes = c.args.config.stripes } in
    let o : Outside = record { left = g.S.Source.left c.args.source.now; reads = g.S.Source.faults c.args.source.now; written = g.K.Sink.written c.args.sink.now; writes = g.K.Sink.faults c.args.sink.now } in
    ([], (never_begun set (own_books c.args.config) _ o _ _ _ c.not_begun.ensures).ends)

pub returns-in-Err-clause-flushed : goal.returns-in-Err-clause-flushed
returns-in-Err-clause-flushed g c = flushed_at run_ends.NoMemory _ [] _ _ _ _ _ c.not_begun.ensures

pub returns-in-Err-clause-decided : goal.returns-in-Err-clause-decided
returns-in-Err-clause-decided g c = λ text t s n. let e = returns-in-Err-clause-ends g c in decided _ (own_books c.args.config) e.0 _ _ _ text e.1 t s n

pub replay-requires-clause-new : goal.replay-requires-clause-new
replay-requires-clause-new g c =
    let n = ap (λ (s : Sizes). s.stripes) c.in-Ok.ensures.sizes in
    (new_lists c.args.config, new_are c.args.config _ _ _ _ n c.in-Ok.ensures.ticker c.in-Ok.ensures.stream c.in-Ok.ensures.history, new_empty c.args.config _)

pub returns-in-Ok-clause-ends : goal.returns-in-Ok-clause-ends
returns-in-Ok-clause-ends g c =
    let n = ap (λ (s : Sizes). s.stripes) c.in-Ok.ensures.sizes in
    let e = c.replay.ensures.ends (new_lists c.args.config) (new_are c.args.config _ _ _ _ n c.in-Ok.ensures.ticker c.in-Ok.ensures.stream c.in-Ok.ensures.history) (new_empty c.args.config _) in
    (e.2.0, renamed c.args.scheme.now _ c.args.config.stripes (own_books c.args.config) e.2.0 _ _ _ n e.2.2)

pub returns-in-Ok-clause-decided : goal.returns-in-Ok-clause-decided
returns-in-Ok-clause-decided g c = λ text t s f. let e = returns-in-Ok-clause-ends g c in decided _ (own_books c.args.config) e.0 _ _ _ text e.1 t s f
