use Rattle.std.proofs.Common.{◌∙◌, sym, ap}
use Rattle.qd_slots.specs.Views.{queued, with_list}
use Rattle.qd_slots.proofs.ViewLaws.{queued-out, queued-there, queued-new}
use Rattle.qd_history.proofs.sides.queue_if.Goals as goal

pub returns-then-not-due : goal.returns-then-not-due
returns-then-not-due c = c.remove.ensures.after ∙ ap (with_list c.args.queue.now) (sym (queued-out c.args.queue.now.list c.args.slot) ∙ ap (queued c.args.queue.now.list c.args.slot) (sym c.if-not-due.true))

pub returns-then-not-contains : goal.returns-then-not-contains
returns-then-not-contains c =
    c.push_back.ensures ∙ ap (with_list c.args.queue.now) (sym (queued-new c.args.queue.now.list c.args.slot (sym c.contains.ensures ∙ c.if-not-contains.true)) ∙ ap (queued c.args.queue.now.list c.args.slot) (sym c.if-not-due.false))

pub returns-else-not-contains : goal.returns-else-not-contains
returns-else-not-contains c =
    ap (with_list c.args.queue.now) (sym (queued-there c.args.queue.now.list c.args.slot (sym c.contains.ensures ∙ c.if-not-contains.false)) ∙ ap (queued c.args.queue.now.list c.args.slot) (sym c.if-not-due.false))
