-- Which ops a ticker may be asked.
use Rattle.std.specs.Prelude.{◌≤◌, ◌≡◌, [], length}
use Rattle.qd_scheme.specs.declared.key.Record.{Record}
use Rattle.qd_gate.specs.declared.machine.Terms.{Terms}
use Rattle.qd_sub.specs.declared.op.Op.{Op}
use Rattle.qd_sub.specs.declared.op.Op.TheVariants.{Add, Remove, Close, Put, Take, Watch}

-- lists have at most 4096 items; a Take or Watch asks for 1 to 4096 items, with an empty buffer that has room for them
abbrev pub MayAsk : Terms → Op Record Record → Type 0
MayAsk terms (Add agent subs) = length subs.items ≤ 4096
MayAsk terms (Remove agent keys) = length keys.items ≤ 4096
MayAsk terms (Close agent) = Unit {0}
MayAsk terms (Put items) = length items.items ≤ 4096
MayAsk terms (Take agent most out) = (1 ≤ most) × (most ≤ 4096) × (out.items ≡ []) × (most ≤ out.room)
MayAsk terms (Watch watcher most out) = (1 ≤ most) × (most ≤ 4096) × (out.items ≡ []) × (most ≤ out.room)
