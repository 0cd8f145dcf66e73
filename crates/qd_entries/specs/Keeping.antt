-- How entries are kept in a tree and a stock of nodes.
use Rattle.std.specs.Prelude.{◌+◌, ◌^◌, ◌<◌, ◌≤◌, length}
use Rattle.qd_entries.specs.declared.entries.Entries.TheInside.{Inside}
use Rattle.qd_entries.specs.Entries.{Falls}
use Rattle.qd_entries.specs.Kept.{Kept}

abbrev pub kept : Inside → Kept
kept a = record { entries = a.tree; spare = a.stock.spare }

-- the entries fall, and the stock has room for each node
pub record IsKept (a : Inside) : Type 0 where
  pub falls : Falls a.tree
  pub room : a.stock.spare + length a.tree ≤ a.stock.room
  pub few : a.stock.room < 2 ^ 32
