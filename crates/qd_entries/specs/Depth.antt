-- Each side of a node has fewer entries than the node.
use Rattle.std.specs.Prelude.{◌≤◌, max, ◌∷◌, length}
use Rattle.std.proofs.Common.{arith, length-append}
use Rattle.qd_entries.specs.declared.tree.Link.{Link}
use Rattle.qd_entries.specs.declared.tree.Link.TheVariants.{Leaf, Fork}
use Rattle.qd_entries.specs.declared.tree.Tree.TheDeep.{deep-Link}
use Rattle.qd_entries.specs.Nodes.{entries_of}

-- no side is deeper than the node has entries
pub depth-le-length : (n : Link) → max (deep-Link n) 0 ≤ length (entries_of n)
depth-le-length Leaf = omega arith
depth-le-length (Fork b) = omega (arith, length-append b.value.before (b.value.entry ∷ b.value.after))
