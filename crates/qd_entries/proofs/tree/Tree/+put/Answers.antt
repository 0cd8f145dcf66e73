use Rattle.std.proofs.Common.{◌<◌, ◌∷◌, sym, ap, ◌∙◌, arith, length, length-append}
use Rattle.qd_entries.specs.declared.tree.Node.{Node}
use Rattle.qd_entries.specs.Nodes.{entries_of, entries_of_node}
use Rattle.qd_entries.proofs.Forks.{put-after, put-middle, put-before}
use Rattle.qd_entries.proofs.tree.Tree.+put.Goals as goal
use Rattle.qd_entries.proofs.tree.Tree.+put.Goals.{in-Fork-4, in-Leaf-4}

pub balanced-requires-clause-few : goal.balanced-requires-clause-few
balanced-requires-clause-few t c =
    let all = ap length (sym c.self.view_is ∙ ap entries_of (sym c.in-Fork.ensures.value) ∙ ap entries_of_node (sym c.deref_mut-then-index-entry.ensures.value)) in
    omega (arith, length-append c.deref_mut-then-index-entry.result.now.before (c.deref_mut-then-index-entry.result.now.entry ∷ c.deref_mut-then-index-entry.result.now.after), length-append c.put.new.self (c.deref_mut-then-index-entry.result.now.entry ∷ c.deref_mut-then-index-entry.result.now.after))

pub balanced-requires-in-Fork-clause-few : goal.balanced-requires-in-Fork-clause-few
balanced-requires-in-Fork-clause-few t c =
    let all = ap length (sym c.self.view_is ∙ ap entries_of (sym c.in-Fork.ensures.value) ∙ ap entries_of_node (sym c.deref_mut-in-Fork.ensures.value)) in
    omega (arith, length-append c.deref_mut-in-Fork.result.now.before (c.deref_mut-in-Fork.result.now.entry ∷ c.deref_mut-in-Fork.result.now.after), length-append c.deref_mut-in-Fork.result.now.before (c.deref_mut-in-Fork.result.now.entry ∷ c.put-in-Fork.new.self))

pub returns-then-entry-index-clause-entries : goal.returns-then-entry-index-clause-entries
returns-then-entry-index-clause-entries t c =
    let here = ap (λ (n : Node). n.entry.index) c.deref.ensures in
    let there = ap (λ (n : Node). n.entry.index) c.deref_mut-then-entry-index.ensures.value in
    λ f. c.closed-then-entry-index-2.view_is ∙ c.closed-then-entry-index.ensures.entries
    ∙ put-middle c.args.self.now c.deref_mut-then-entry-index.result.now c.args.entry.now (sym c.self.view_is ∙ ap entries_of (sym c.in-Fork.ensures.value) ∙ ap entries_of_node (sym c.deref_mut-then-entry-index.ensures.value)) (omega arith) f

pub returns-then-index-entry-clause-entries : goal.returns-then-index-entry-clause-entries
returns-then-index-entry-clause-entries t c =
    let here = ap (λ (n : Node). n.entry.index) c.deref.ensures in
    let there = ap (λ (n : Node). n.entry.index) c.deref_mut-then-index-entry.ensures.value in
    λ f. c.balanced-then-index-entry.view_is ∙ c.balanced.ensures.entries
    ∙ put-before c.args.self.now c.put.new.self c.deref_mut-then-index-entry.result.now c.args.entry.now (sym c.self.view_is ∙ ap entries_of (sym c.in-Fork.ensures.value) ∙ ap entries_of_node (sym c.deref_mut-then-index-entry.ensures.value)) (omega arith) c.put.ensures.entries f

pub returns-else-index-entry-clause-entries : goal.returns-else-index-entry-clause-entries
returns-else-index-entry-clause-entries t c =
    let here = ap (λ (n : Node). n.entry.index) c.deref.ensures in
    let there = ap (λ (n : Node). n.entry.index) c.deref_mut-in-Fork.ensures.value in
    let less : c.args.entry.now.index < c.deref_mut-in-Fork.result.now.entry.index = omega arith in
    λ f. elim c.match-self-balanced-2.branch [
      | in-Fork-4 w ↦ w.self-is ∙ c.balanced-in-Fork-2.view_is ∙ c.balanced-in-Fork.ensures.entries
          ∙ put-after c.args.self.now c.put-in-Fork.new.self c.deref_mut-in-Fork.result.now c.args.entry.now (sym c.self.view_is ∙ ap entries_of (sym c.in-Fork.ensures.value) ∙ ap entries_of_node (sym c.deref_mut-in-Fork.ensures.value)) less c.put-in-Fork.ensures.entries f
      | in-Leaf-4 w ↦ w.self-is ∙ c.balanced-in-Fork-2.view_is ∙ c.balanced-in-Fork.ensures.entries
          ∙ put-after c.args.self.now c.put-in-Fork.new.self c.deref_mut-in-Fork.result.now c.args.entry.now (sym c.self.view_is ∙ ap entries_of (sym c.in-Fork.ensures.value) ∙ ap entries_of_node (sym c.deref_mut-in-Fork.ensures.value)) less c.put-in-Fork.ensures.entries f
    ]
