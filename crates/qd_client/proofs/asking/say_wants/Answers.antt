use Rattle.std.proofs.Common.{arith, ◌++◌}
use Rattle.qd_grammar.specs.declared.item.Item.TheVariants.{Head}
use Rattle.qd_path.specs.Texts.{line_of}
use Rattle.qd_client.specs.Asking.{add_of, wants_text}
use Rattle.qd_client.proofs.Prints.{asking_cut, asking_step, printed_less}
use Rattle.qd_client.proofs.asking.say_wants.Goals as goal

pub returns-then-not-say : goal.returns-then-not-say
returns-then-not-say g c =
    printed_less (line_of c.args.scheme.now (Head (add_of c.args.collector))) (wants_text c.args.scheme.now c.args.collector c.args.wants.now) c.args.out.now c.say.new.out _ _ _ _ (rw c.add_of.ensures at c.if-not-say.ensures)

pub returns-then-not-say-2 : goal.returns-then-not-say-2
returns-then-not-say-2 g c =
    asking_cut c.args.scheme.now c.args.collector (line_of c.args.scheme.now (Head (add_of c.args.collector)) ++ wants_text c.args.scheme.now c.args.collector c.args.wants.now) c.args.wants.now c.loop-want.want-index c.want-item.result _ _ c.say-in-loop-want.new.out _ _ _ _ _ _ (omega arith) c.want-item.is c.loop-want.invariant (rw c.asking_of.ensures at c.if-not-say-2.ensures)

pub loop-want-preserved : goal.loop-want-preserved
loop-want-preserved g c =
    asking_step c.args.scheme.now c.args.collector (line_of c.args.scheme.now (Head (add_of c.args.collector)) ++ wants_text c.args.scheme.now c.args.collector c.args.wants.now) c.args.wants.now c.loop-want.want-index c.want-item.result _ _ _ _ _ _ _ _ _ (omega arith) c.want-item.is c.loop-want.invariant (rw c.asking_of.ensures at c.if-not-say-2.ensures)
