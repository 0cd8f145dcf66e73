use Rattle.std.proofs.Common.{ap, ◌∙◌, sym}
use Rattle.std.specs.Prelude.{Some, slice_set}
use Rattle.std.proofs.lemmas.Result.{on_err_weaker}
use Rattle.std.proofs.lemmas.List.{set-get_or}
use Rattle.qd_stream.specs.Outboxes.{Outstanding}
use Rattle.qd_stream.proofs.boxes.reserve_in.Goals as goal

pub returns-in-Some-clause-err : goal.returns-in-Some-clause-err
returns-in-Some-clause-err c =
    on_err_weaker c.reserve.result
    (λ e. (λ i. slice_set c.args.boxes.now.items c.args.agent (Some (let o : Outstanding = record { cap = c.reserve.ensures.same.0 i; items = c.reserve.ensures.same.1 i; lost = c.reserve.ensures.same.2 i; slots = e i } in o)))
    ∙ ap (slice_set c.args.boxes.now.items c.args.agent) (sym c.in-Some.is ∙ c.index_mut-place.ensures.value)
    ∙ set-get_or c.args.boxes.now.items c.args.agent c.index_mut-place.result.now)
    c.reserve.ensures.err
