use Rattle.std.proofs.Common.{◌+◌, ◌∙◌, ap, sym}
use Rattle.qd_table.specs.Judging.{has_slot, holds_key}
use Rattle.qd_table.proofs.JudgeLaws.{count-seen, count-more}
use Rattle.qd_table.proofs.judge.count_key.Goals as goal

pub returns-then-contains-clause-keys : goal.returns-then-contains-clause-keys
returns-then-contains-clause-keys c = λ ks. ap (λ n. c.args.fresh.now.keys + n) (count-seen c.args.seen.now.keys (has_slot c.args.names.now.names) c.args.key.now ks (sym c.contains.ensures ∙ c.if-contains.true))

pub returns-then-contains-clause-pairs : goal.returns-then-contains-clause-pairs
returns-then-contains-clause-pairs c = λ ks. ap (λ n. c.args.fresh.now.pairs + n) (count-seen c.args.seen.now.keys (holds_key c.args.names.now.names c.args.holds.now.cells c.args.agent) c.args.key.now ks (sym c.contains.ensures ∙ c.if-contains.true))

pub returns-clause-keys : goal.returns-clause-keys
returns-clause-keys c = λ ks. count-more c.args.seen.now.keys c.note.new.seen.keys (has_slot c.args.names.now.names) c.args.key.now ks c.args.fresh.now.keys c.one_unless.result c.is_named-known.result (sym c.contains.ensures ∙ c.if-contains.false) c.note.ensures.seen c.is_named-known.ensures c.one_unless.ensures

pub returns-clause-pairs : goal.returns-clause-pairs
returns-clause-pairs c = λ ks. count-more c.args.seen.now.keys c.note.new.seen.keys (holds_key c.args.names.now.names c.args.holds.now.cells c.args.agent) c.args.key.now ks c.args.fresh.now.pairs c.one_unless-2.result c.is_held-held.result (sym c.contains.ensures ∙ c.if-contains.false) c.note.ensures.seen c.is_held-held.ensures c.one_unless-2.ensures
