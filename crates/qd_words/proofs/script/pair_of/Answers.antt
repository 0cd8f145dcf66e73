use Rattle.std.proofs.Common.{arith, map, sym}
use Rattle.std.specs.Prelude.{string_bytes}
use Rattle.std.proofs.lemmas.List.{length-map}
use Rattle.qd_words.proofs.ScriptWords.{none_short, none_long}
use Rattle.qd_words.proofs.script.pair_of.Goals as goal

pub returns-in-len1 : goal.returns-in-len1
returns-in-len1 c =
    let n = length-map c.args.words.now string_bytes in
    let h = c.in-len1.len_below in
    sym (none_short (map string_bytes c.args.words.now) (omega (arith, n, h)))

pub returns-in-len4-up : goal.returns-in-len4-up
returns-in-len4-up c =
    let n = length-map c.args.words.now string_bytes in
    let h = c.in-len4-up.len_at_least in
    sym (none_long (map string_bytes c.args.words.now) (omega (arith, n, h)))
