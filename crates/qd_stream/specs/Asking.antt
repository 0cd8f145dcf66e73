-- Which ops a stream may be asked.
use Rattle.std.specs.Prelude.{◌≤◌, ◌≡◌, ◌<◌, All, [], length}
use Rattle.qd_gate.specs.declared.machine.Terms.{Terms}
use Rattle.qd_sub.specs.declared.op.Op.TheVariants.{Add, Remove, Close, Put, Take, Watch}
use Rattle.qd_stream.specs.Items.{weight}
use Rattle.qd_stream.specs.Legal.{StreamOp}

-- lists have at most 4096 items; a Lost item that is put counts at least one record; a Take or Watch asks for 1 to 4096, with an empty buffer that has room for them
abbrev pub MayAsk : Terms → StreamOp → Type 0
MayAsk terms (Add agent subs) = length subs.items ≤ 4096
MayAsk terms (Remove agent keys) = length keys.items ≤ 4096
MayAsk terms (Close agent) = Unit {0}
MayAsk terms (Put items) = (length items.items ≤ 4096) × All (λ item. 0 < weight item) items.items
MayAsk terms (Take agent most out) = (1 ≤ most) × (most ≤ 4096) × (out.items ≡ []) × (most ≤ out.room)
MayAsk terms (Watch watcher most out) = (1 ≤ most) × (most ≤ 4096) × (out.items ≡ []) × (most ≤ out.room)
