use Rattle.std.proofs.Common.{sym, ap, ◌∙◌}
use Rattle.std.specs.Prelude.{option_map}
use Rattle.qd_entries.specs.Nodes.{entries_of, entries_of_node}
use Rattle.qd_entries.proofs.Forks.{at_or_below-after, at_or_below-before, at_or_below-middle}
use Rattle.qd_entries.proofs.tree.Tree.+at_or_below.Goals as goal

pub returns-then-index-node : goal.returns-then-index-node
returns-then-index-node t c =
    let e = sym c.self.view_is ∙ ap entries_of c.in-Fork.is ∙ ap entries_of_node (sym c.deref-node.ensures) in
    at_or_below-after c.args.self.now c.deref-node.result.now c.args.index (option_map (λ e. e.now) c.at_or_below.result) e c.if-index-node.true c.at_or_below.ensures

pub returns-in-Some : goal.returns-in-Some
returns-in-Some t c =
    let e = sym c.self.view_is ∙ ap entries_of c.in-Fork.is ∙ ap entries_of_node (sym c.deref-node.ensures) in
    at_or_below-before c.args.self.now c.deref-node.result.now c.args.index c.in-Some.entry.now e c.in-Some.ensures

pub returns-in-None : goal.returns-in-None
returns-in-None t c =
    let e = sym c.self.view_is ∙ ap entries_of c.in-Fork.is ∙ ap entries_of_node (sym c.deref-node.ensures) in
    at_or_below-middle c.args.self.now c.deref-node.result.now c.args.index e c.if-index-node.false c.in-None.ensures
