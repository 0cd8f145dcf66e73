-- What a node of the tree is seen as.
use Rattle.std.specs.Prelude.{◌≡◌, ℕ, ◌+◌, List, [], ◌∷◌, ◌++◌, length, Option, Some, None, Box}
use Rattle.std.specs.declared.alloc.Global.{Global}
use Rattle.qd_entries.specs.declared.Entry.{Entry}
use Rattle.qd_entries.specs.declared.tree.Node.{Node}
use Rattle.qd_entries.specs.declared.tree.Link.{Link}
use Rattle.qd_entries.specs.declared.tree.Link.TheVariants.{Leaf, Fork}
use Rattle.qd_entries.specs.Balance.{IsBalanced}

-- a node's entries in order
abbrev pub entries_of_node : Node → List Entry
entries_of_node n = n.before ++ n.entry ∷ n.after

-- how many nodes a node and the trees below it are
abbrev pub node_count : Node → ℕ
node_count n = length n.before + length n.after + 1

-- the entries in order
abbrev pub entries_of : Link → List Entry
entries_of Leaf = []
entries_of (Fork b) = entries_of_node b.value

-- the number that the node keeps is how many entries there are, and the sides are balanced
pub record IsNode (n : Node) : Type 0 where
  pub sized : n.len ≡ length (entries_of_node n)
  pub balanced : IsBalanced (length n.before) (length n.after)

abbrev pub IsTree : Link → Type 0
IsTree Leaf = Unit {0}
IsTree (Fork b) = IsNode b.value

-- the first of the entries is taken off, in a node with nothing below it; none where there are none
abbrev pub TakesFirst : List Entry → List Entry → Option (Box Node Global) → Type 0
TakesFirst old new None = (old ≡ []) × (new ≡ [])
TakesFirst old new (Some b) = (old ≡ b.value.entry ∷ new) × (b.value.before ≡ []) × (b.value.after ≡ [])
