use Rattle.std.proofs.Common.{ap, sym, ◌∙◌, arith, slice_set, ◌+◌}
use Rattle.std.specs.Prelude.{min}
use Rattle.qd_stream.specs.Outboxes.{lost_by}
use Rattle.qd_stream.proofs.OutboxLaws.{lose-more, lose-new}
use Rattle.qd_stream.proofs.outbox.lose.Goals as goal

pub returns-then-contains-clause-lost : goal.returns-then-contains-clause-lost
returns-then-contains-clause-lost c =
    ap (λ n. lost_by (slice_set c.args.losses.now.items c.args.slot n) c.args.lossy.now.list) (c.saturating_add.ensures ∙ ap (λ n. min (n + c.args.more) 18446744073709551615) c.count_at-before.ensures)
    ∙ lose-more c.args.losses.now.items c.args.lossy.now.list c.args.slot c.args.more (sym c.contains.ensures ∙ c.if-contains.true) (omega arith)

pub returns-else-contains-clause-lost : goal.returns-else-contains-clause-lost
returns-else-contains-clause-lost c =
    ap (λ q. lost_by (slice_set c.args.losses.now.items c.args.slot c.args.more) q.list) c.push_back.ensures
    ∙ lose-new c.args.losses.now.items c.args.lossy.now.list c.args.slot c.args.more (sym c.contains.ensures ∙ c.if-contains.false) (omega arith) (omega arith)
