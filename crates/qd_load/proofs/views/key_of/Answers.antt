use Rattle.std.proofs.Common.{sym, ◌∙◌}
use Rattle.qd_tape.proofs.Symbols.{digit_symbol}
use Rattle.qd_load.proofs.views.key_of.Goals as goal

pub unreachable-requires : goal.unreachable-requires
unreachable-requires c = let e = sym c.in-Err.is ∙ c.of.ensures ∙ digit_symbol c.args.digit c.requires in absurd (cc)

pub returns : goal.returns
returns c = let e = sym c.in-Ok.is ∙ c.of.ensures ∙ digit_symbol c.args.digit c.requires in cc
