use Rattle.std.proofs.Common.{sym, ap, ◌∙◌, arith}
use Rattle.qd_entries.specs.Nodes.{entries_of, entries_of_node}
use Rattle.qd_entries.proofs.Forks.{get-after, get-middle, get-before}
use Rattle.qd_entries.proofs.tree.Tree.+get.Goals as goal

pub returns-then-index-node : goal.returns-then-index-node
returns-then-index-node t c =
    let e = sym c.self.view_is ∙ ap entries_of c.in-Fork.is ∙ ap entries_of_node (sym c.deref-node.ensures) in
    get-middle c.args.self.now c.deref-node.result.now c.args.index e c.if-index-node.true

pub returns-then-index-node-2 : goal.returns-then-index-node-2
returns-then-index-node-2 t c =
    let e = sym c.self.view_is ∙ ap entries_of c.in-Fork.is ∙ ap entries_of_node (sym c.deref-node.ensures) in
    get-after c.args.self.now c.deref-node.result.now c.args.index c.get.result e c.if-index-node-2.true c.get.ensures

pub returns-else-index-node-2 : goal.returns-else-index-node-2
returns-else-index-node-2 t c =
    let e = sym c.self.view_is ∙ ap entries_of c.in-Fork.is ∙ ap entries_of_node (sym c.deref-node.ensures) in
    get-before c.args.self.now c.deref-node.result.now c.args.index c.get-else-index-node-2.result e (omega arith) c.get-else-index-node-2.ensures
