use Rattle.std.proofs.Common.{◌∙◌, sym, arith, map}
use Rattle.qd_table.proofs.JudgeLaws.{judged-few, judged-counted}
use Rattle.qd_table.proofs.judge.judge.Goals as goal

pub returns-then-pairs-more-le-MOST_PAIRS-clause-verdict : goal.returns-then-pairs-more-le-MOST_PAIRS-clause-verdict
returns-then-pairs-more-le-MOST_PAIRS-clause-verdict c = sym (judged-few c.args.names.now.names c.args.named c.args.holds.now c.args.agent c.args.subs.now c.if-named-more-le-MOST_KEYS.true (let e = c.pairs.ensures.pairs in let t = c.if-pairs-more-le-MOST_PAIRS.true in omega arith))

pub returns-clause-verdict : goal.returns-clause-verdict
returns-clause-verdict c = c.verdict.ensures ∙ sym (judged-counted c.args.names.now.names c.args.named c.args.holds.now c.args.agent (map (λ s. s.key) c.args.subs.now) c.count_fresh-fresh.result.keys c.count_fresh-fresh.result.pairs c.pairs-2.result c.count_fresh-fresh.ensures.keys c.count_fresh-fresh.ensures.pairs c.pairs-2.ensures.pairs)
