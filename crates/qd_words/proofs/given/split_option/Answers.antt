use Rattle.std.proofs.Common.{Some, None, arith, ap, sym, ◌∙◌}
use Rattle.std.proofs.lemmas.Str.Pattern.{split_parts}
use Rattle.qd_words.specs.Words.{name_in, value_in}
use Rattle.qd_words.proofs.OptionWords.{before_byte-at, behind_byte-at, before_byte-without, behind_byte-without}
use Rattle.qd_words.proofs.given.split_option.Goals as goal

pub returns-in-Some : goal.returns-in-Some
returns-in-Some c =
    let parts = split_parts 61 c.args.word.now (Some (c.in-Some.name, c.in-Some.value)) c.in-Some.ensures.cases (omega arith) in
    record {
      name = sym (ap name_in parts.0 ∙ before_byte-at 61 c.in-Some.name.now c.in-Some.value.now parts.1);
      value = sym (ap value_in parts.0 ∙ behind_byte-at 61 c.in-Some.name.now c.in-Some.value.now parts.1);
    }

pub returns-in-None : goal.returns-in-None
returns-in-None c =
    let lacks = split_parts 61 c.args.word.now None c.in-None.ensures.cases (omega arith) in
    record {
      name = sym (before_byte-without 61 c.args.word.now lacks);
      value = sym (behind_byte-without 61 c.args.word.now lacks);
    }
