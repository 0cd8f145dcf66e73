-- What a node of a tree keeps: its hub, and the engines of its links.
use Rattle.std.specs.Prelude.{ℕ, ◌≡◌, Bool, true, false, Option, Some, None, List, [], slice_get, slice_set}
use Rattle.qd_path.specs.declared.side.Side.TheVariants.{Down, Up}
use Rattle.qd_replies.specs.Outs.{OutKept}
use Rattle.qd_session.specs.Ins.{InKept}
use Rattle.qd_relay.specs.declared.link.Link.{Link}
use Rattle.qd_relay.specs.Links.{new_link}

-- a link to a parent, where there is one; and a link to each child, by the child's agent
pub record NodeKept (H : Type 0) : Type 0 where
  pub hub : H
  pub parent : Option Link
  pub children : List (Option Link)

-- the link that is there, or a new one
abbrev pub or_new : Link → Option Link → Link
or_new new None = new
or_new new (Some link) = link

-- the link of an agent, if the agent is a child
abbrev pub flat : Option (Option Link) → Option Link
flat None = None
flat (Some link) = link

module _ {H : Type 0} where
  abbrev pub child_of : ℕ → NodeKept H → Option Link
  child_of agent n = flat (slice_get n.children agent)

  -- the engines of the link to a child, and of that to the parent
  abbrev pub child_link : ℕ → NodeKept H → Link
  child_link agent n = or_new (new_link (Down agent)) (child_of agent n)

  abbrev pub parent_link : NodeKept H → Link
  parent_link n = or_new (new_link (Up 0)) n.parent

  abbrev pub IsChild : ℕ → NodeKept H → Type 0
  IsChild agent n = child_of agent n ≡ None → ⊥

  abbrev pub HasParent : NodeKept H → Type 0
  HasParent n = n.parent ≡ None → ⊥

  abbrev pub with_hub : NodeKept H → H → NodeKept H
  with_hub n hub = record { hub = hub; parent = n.parent; children = n.children }

  -- the node with another hub and another link to its parent, or to a child
  abbrev pub with_parent : H → Link → NodeKept H → NodeKept H
  with_parent hub link n = record { hub = hub; parent = Some link; children = n.children }

  abbrev pub with_child : H → ℕ → Link → NodeKept H → NodeKept H
  with_child hub agent link n = record { hub = hub; parent = n.parent; children = slice_set n.children agent (Some link) }

-- the same link with another engine
abbrev pub with_reads : InKept → Link → Link
with_reads reads link = record { reads = reads; writes = link.writes }

abbrev pub with_writes : OutKept → Link → Link
with_writes writes link = record { reads = link.reads; writes = writes }

-- a node without children
abbrev pub new_node : {H : Type 0} → H → Bool → NodeKept H
new_node hub true = record { hub = hub; parent = Some (new_link (Up 0)); children = [] }
new_node hub false = record { hub = hub; parent = None; children = [] }
