use Rattle.std.proofs.Common.{sym, ◌∙◌}
use Rattle.std.proofs.lemmas.Result.{IfOk-weaker}
use Rattle.qd_words.proofs.CutLaws.{waited_value}
use Rattle.qd_words.proofs.cutting.Cut.with_waited.Goals as goal

pub returns : goal.returns
returns c =
    let is_no_option = sym c.is_option.ensures ∙ c.if-is_option.false in
    IfOk-weaker c.with_argument.result _ _ (λ goes_on h. waited_value _ _ _ _ c.args.name c.args.value.now goes_on c.requires c.with_argument.ensures.stage is_no_option h) c.with_argument.ensures.gains
