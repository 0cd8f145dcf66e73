use Rattle.std.proofs.Common.{◌≤◌, ◌+◌, drop, length}
use Rattle.qd_table.specs.Tables.{room_for}
use Rattle.qd_hist_stand.specs.Stripes.{Shown}
use Rattle.qd_history.specs.Sound.{HasSlots}
use Rattle.qd_history.specs.Steps.{SubscribesAll}
use Rattle.qd_history.proofs.stripe.HistoryStripe.subscribe_all.Given as goal

abbrev pub invariant-loop-sub : goal.invariant-loop-sub
invariant-loop-sub l = record {
  subscribed : (fin : Shown) → SubscribesAll l.self l.agent (drop l.sub-index l.subs) fin → SubscribesAll l.initial.self l.agent l.subs fin;
  room : length l.subs ≤ room_for l.self.table l.agent + l.sub-index;
  slots : HasSlots l.self l.agent;
}
