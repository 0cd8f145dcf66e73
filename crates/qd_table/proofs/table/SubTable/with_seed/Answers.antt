use Rattle.qd_table.proofs.NewLaws.{new-stored}
use Rattle.qd_table.proofs.table.SubTable.with_seed.Goals as goal

pub invariant_of-result : goal.invariant_of-result
invariant_of-result c = (
  new-stored c.in_ok-names.names c.in_ok-holds.holds c.in_ok-kept.kept c.in_ok-watchers.watchers c.in_ok-names.ensures c.in_ok-holds.ensures c.in_ok-kept.ensures c.in_ok-watchers.ensures,
  record { empty = c.in_ok-seen.ensures.empty; room = c.in_ok-seen.ensures.spare },
)
