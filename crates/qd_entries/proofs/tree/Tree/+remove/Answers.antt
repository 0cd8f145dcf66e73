use Rattle.std.proofs.Common.{◌<◌, ◌∷◌, sym, ap, ◌∙◌, arith, length, length-append}
use Rattle.qd_entries.specs.declared.tree.Node.{Node}
use Rattle.qd_entries.specs.Nodes.{entries_of, entries_of_node}
use Rattle.qd_entries.proofs.Forks.{remove-after, remove-middle, remove-before}
use Rattle.qd_entries.proofs.tree.Tree.+remove.Goals as goal
use Rattle.qd_entries.proofs.tree.Tree.+remove.Goals.{in-Fork-3, in-Leaf-3}

pub balanced-requires-clause-few : goal.balanced-requires-clause-few
balanced-requires-clause-few t c =
    let all = ap length (sym c.self.view_is ∙ ap entries_of (sym c.in-Fork.ensures.value) ∙ ap entries_of_node (sym c.deref_mut-then-here-index.ensures.value)) in
    omega (arith, length-append c.deref_mut-then-here-index.result.now.before (c.deref_mut-then-here-index.result.now.entry ∷ c.deref_mut-then-here-index.result.now.after), length-append c.remove.new.self (c.deref_mut-then-here-index.result.now.entry ∷ c.deref_mut-then-here-index.result.now.after))

pub balanced-requires-in-Fork-clause-few : goal.balanced-requires-in-Fork-clause-few
balanced-requires-in-Fork-clause-few t c =
    let all = ap length (sym c.self.view_is ∙ ap entries_of (sym c.in-Fork.ensures.value) ∙ ap entries_of_node (sym c.deref_mut-in-Fork.ensures.value)) in
    omega (arith, length-append c.deref_mut-in-Fork.result.now.before (c.deref_mut-in-Fork.result.now.entry ∷ c.deref_mut-in-Fork.result.now.after), length-append c.deref_mut-in-Fork.result.now.before (c.deref_mut-in-Fork.result.now.entry ∷ c.remove-in-Fork.new.self))

pub returns-then-index-here-clause-entries : goal.returns-then-index-here-clause-entries
returns-then-index-here-clause-entries t c =
    let here = ap (λ (n : Node). n.entry.index) c.deref.ensures in
    let there = ap (λ (n : Node). n.entry.index) c.deref_mut.ensures.value in
    λ f. c.joined-then-index-here.view_is ∙ c.joined.ensures.entries
    ∙ remove-middle c.args.self.now c.deref_mut.result.now c.args.index (sym c.self.view_is ∙ ap entries_of (sym c.in-Fork.ensures.value) ∙ ap entries_of_node (sym c.deref_mut.ensures.value)) (omega arith) f

pub returns-then-here-index-clause-entries : goal.returns-then-here-index-clause-entries
returns-then-here-index-clause-entries t c =
    let here = ap (λ (n : Node). n.entry.index) c.deref.ensures in
    let there = ap (λ (n : Node). n.entry.index) c.deref_mut-then-here-index.ensures.value in
    λ f. c.balanced-then-here-index.view_is ∙ c.balanced.ensures.entries
    ∙ remove-before c.args.self.now c.remove.new.self c.deref_mut-then-here-index.result.now c.args.index (sym c.self.view_is ∙ ap entries_of (sym c.in-Fork.ensures.value) ∙ ap entries_of_node (sym c.deref_mut-then-here-index.ensures.value)) (omega arith) c.remove.ensures.entries f

pub returns-else-here-index-clause-entries : goal.returns-else-here-index-clause-entries
returns-else-here-index-clause-entries t c =
    let here = ap (λ (n : Node). n.entry.index) c.deref.ensures in
    let there = ap (λ (n : Node). n.entry.index) c.deref_mut-in-Fork.ensures.value in
    let less : c.args.index < c.deref_mut-in-Fork.result.now.entry.index = omega arith in
    λ f. elim c.match-self-balanced-2.branch [
      | in-Fork-3 w ↦ w.self-is ∙ c.balanced-in-Fork-2.view_is ∙ c.balanced-in-Fork.ensures.entries
          ∙ remove-after c.args.self.now c.remove-in-Fork.new.self c.deref_mut-in-Fork.result.now c.args.index (sym c.self.view_is ∙ ap entries_of (sym c.in-Fork.ensures.value) ∙ ap entries_of_node (sym c.deref_mut-in-Fork.ensures.value)) less c.remove-in-Fork.ensures.entries f
      | in-Leaf-3 w ↦ w.self-is ∙ c.balanced-in-Fork-2.view_is ∙ c.balanced-in-Fork.ensures.entries
          ∙ remove-after c.args.self.now c.remove-in-Fork.new.self c.deref_mut-in-Fork.result.now c.args.index (sym c.self.view_is ∙ ap entries_of (sym c.in-Fork.ensures.value) ∙ ap entries_of_node (sym c.deref_mut-in-Fork.ensures.value)) less c.remove-in-Fork.ensures.entries f
    ]
