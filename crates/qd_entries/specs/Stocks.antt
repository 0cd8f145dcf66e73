-- How a stock keeps its nodes.
use Rattle.std.specs.Prelude.{◌≡◌, ◌^◌, ◌<◌, ◌≤◌, vec_capacity}
use Rattle.std.specs.List.{sum_by}
use Rattle.qd_entries.specs.declared.stock.Stock.TheInside.{Inside}
use Rattle.qd_entries.specs.Stocked.{Stocked}
use Rattle.qd_entries.specs.Nodes.{node_count}

abbrev pub stocked : Inside → Stocked
stocked a = record { spare = a.spare; room = a.room }

-- the nodes with what is below them are as many as are spare, and the vector has room for as many as there may be
pub record IsCounted (a : Inside) : Type 0 where
  pub counted : a.spare ≡ sum_by (λ b. node_count b.value) a.nodes.items
  pub spare_fits : a.spare ≤ a.room
  pub room_fits : a.room ≤ vec_capacity a.nodes
  pub few : a.room < 2 ^ 32
