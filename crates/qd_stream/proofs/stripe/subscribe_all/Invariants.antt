use Rattle.std.proofs.Common.{◌≤◌, ◌+◌, length, drop}
use Rattle.qd_table.specs.Tables.{Table, room_for}
use Rattle.qd_stream.specs.Steps.{SubscribesAll}
use Rattle.qd_stream.proofs.WalkLaws.{keys_asked}
use Rattle.qd_stream.proofs.stripe.subscribe_all.Given as goal

abbrev pub invariant-loop-sub : goal.invariant-loop-sub
invariant-loop-sub l = record {
  rest : (fin : Table) → SubscribesAll l.table l.agent (keys_asked (drop l.sub-index l.subs)) fin → SubscribesAll l.initial.table l.agent (keys_asked l.subs) fin;
  room : length l.subs ≤ room_for l.table l.agent + l.sub-index;
}
