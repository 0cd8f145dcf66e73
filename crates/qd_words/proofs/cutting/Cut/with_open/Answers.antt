use Rattle.std.proofs.Common.{sym, ◌∙◌, ap}
use Rattle.std.specs.Prelude.{option_map}
use Rattle.std.proofs.lemmas.Result.{IfOk-weaker}
use Rattle.qd_words.proofs.CutLaws.{open_positional, open_valued}
use Rattle.qd_words.proofs.cutting.Cut.with_open.Goals as goal

pub returns-then-not-is_option : goal.returns-then-not-is_option
returns-then-not-is_option c =
    let is_not_end = sym c.is_end.ensures ∙ c.if-is_end.false in
    let is_no_option = sym c.is_option.ensures ∙ c.if-not-is_option.true in
    IfOk-weaker c.with_argument.result _ _ (λ goes_on h. open_positional _ _ _ _ c.args.word.now goes_on c.requires c.with_argument.ensures.stage is_not_end is_no_option h) c.with_argument.ensures.gains

pub returns-in-Some : goal.returns-in-Some
returns-in-Some c =
    let is_not_end = sym c.is_end.ensures ∙ c.if-is_end.false in
    let is_an_option = sym c.is_option.ensures ∙ c.if-not-is_option.false in
    let valued = sym (ap (λ value. option_map (λ t. t.now) value) c.in-Some.is) ∙ c.split_option.ensures.value in
    IfOk-weaker c.with_argument-in-Some.result _ _ (λ goes_on h. open_valued _ _ _ _ c.args.word.now c.split_option.result.0.now c.in-Some.value.now goes_on c.requires c.with_argument-in-Some.ensures.stage is_not_end is_an_option c.split_option.ensures.name valued h) c.with_argument-in-Some.ensures.gains
