-- Which ops a history may be asked.
use Rattle.std.specs.Prelude.{◌≤◌, ◌≡◌, ◌<◌, ◌^◌, All, [], length}
use Rattle.qd_gate.specs.declared.machine.Terms.{Terms}
use Rattle.qd_sub.specs.declared.op.Op.TheVariants.{Add, Remove, Close, Put, Take, Watch}
use Rattle.qd_hist_rules.specs.Legal.{HistoryOp}

-- lists have at most 4096 items, limits and the indexes of events are below 2^63; a Take or Watch asks for 1 to 4096, with an empty buffer that has room for them
abbrev pub MayAsk : Terms → HistoryOp → Type 0
MayAsk terms (Add agent subs) = (length subs.items ≤ 4096) × All (λ s. s.limit < 2 ^ 63) subs.items
MayAsk terms (Remove agent keys) = length keys.items ≤ 4096
MayAsk terms (Close agent) = Unit {0}
MayAsk terms (Put items) = (length items.items ≤ 4096) × All (λ e. e.index < 2 ^ 63) items.items
MayAsk terms (Take agent most out) = (1 ≤ most) × (most ≤ 4096) × (out.items ≡ []) × (most ≤ out.room)
MayAsk terms (Watch watcher most out) = (1 ≤ most) × (most ≤ 4096) × (out.items ≡ []) × (most ≤ out.room)
