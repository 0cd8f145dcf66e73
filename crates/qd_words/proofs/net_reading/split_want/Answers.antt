use Rattle.std.proofs.Common.{Some, None, arith, ap, sym, ◌∙◌}
use Rattle.std.proofs.lemmas.Str.Pattern.{split_parts}
use Rattle.qd_words.specs.Words.{before_byte, behind_byte}
use Rattle.qd_words.proofs.OptionWords.{before_byte-at, behind_byte-at, behind_byte-without}
use Rattle.qd_words.proofs.net_reading.split_want.Goals as goal

pub returns-in-Some : goal.returns-in-Some
returns-in-Some c =
    let parts = split_parts 47 c.args.word.now (Some (c.in-Some.name, c.in-Some.symbol)) c.in-Some.ensures.cases (omega arith) in
    record {
      parts = sym (ap (behind_byte 47) parts.0 ∙ behind_byte-at 47 c.in-Some.name.now c.in-Some.symbol.now parts.1);
      name = sym (ap (before_byte 47) parts.0 ∙ before_byte-at 47 c.in-Some.name.now c.in-Some.symbol.now parts.1);
    }

pub returns-in-None-clause-parts : goal.returns-in-None-clause-parts
returns-in-None-clause-parts c = sym (behind_byte-without 47 c.args.word.now (split_parts 47 c.args.word.now None c.in-None.ensures.cases (omega arith)))
