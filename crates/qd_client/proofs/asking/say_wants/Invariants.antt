use Rattle.std.proofs.Common.{drop, ◌++◌}
use Rattle.qd_grammar.specs.declared.item.Item.TheVariants.{Head}
use Rattle.qd_path.specs.Texts.{line_of}
use Rattle.qd_client.specs.Asking.{add_of, wants_text}
use Rattle.qd_client.proofs.Prints.{IsAsking}
use Rattle.qd_client.proofs.asking.say_wants.Given as goal

abbrev pub invariant-loop-want : goal.invariant-loop-want
invariant-loop-want g l = IsAsking l.scheme l.collector (line_of l.scheme (Head (add_of l.collector)) ++ wants_text l.scheme l.collector l.wants) (drop l.want-index l.wants) l.fn.out l.out
    (g.K.Sink.written l.fn.sink) (g.K.Sink.written l.sink) (g.K.Sink.faults l.fn.sink) (g.K.Sink.faults l.sink)
