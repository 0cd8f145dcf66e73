-- What an engine that writes asks of a stripe, and what it makes of the reply.
use Rattle.std.specs.Prelude.{ℕ, ◌≡◌, ◌<◌, Bool, true, Option, Some, None, List, [], length}
use Rattle.qd_buffer.specs.Filled.{Filled}
use Rattle.qd_outside.specs.Writing.{IsWritten, IsCutShort}
use Rattle.qd_scheme.specs.declared.defs.RecordDef.{RecordDef}
use Rattle.qd_sub.specs.declared.sub.Want.{Want}
use Rattle.qd_sub.specs.declared.op.Op.{Op}
use Rattle.qd_sub.specs.declared.op.Op.TheVariants.{Take, Watch}
use Rattle.qd_sub.specs.declared.op.Reply.{Reply}
use Rattle.qd_sub.specs.declared.op.Reply.TheVariants as replies
use Rattle.qd_hist_rules.specs.declared.item.HistItem.{HistItem}
use Rattle.qd_hist_rules.specs.declared.reply.HistoryReply.{HistoryReply}
use Rattle.qd_hist_rules.specs.declared.reply.HistoryReply.TheVariants as events
use Rattle.qd_path.specs.declared.side.Side.{Side}
use Rattle.qd_path.specs.declared.side.Side.TheVariants.{Down, Up}
use Rattle.qd_path.specs.Texts.{ReplyItem, text_of}
use Rattle.qd_replies.specs.declared.out_engine.Answer.{Answer}
use Rattle.qd_replies.specs.declared.out_engine.Answer.TheVariants.{Gave, Unwritten}

-- a buffer with room for 256 items, without items
abbrev pub empty : {T : Type 0} → Filled T
empty = record { items = []; room = 256 }

-- at most 256 items are asked for: a peer below is given what its agent takes, a peer above is told what its watcher is told
abbrev pub out_op : {P T : Type 0} → Side → Op P T
out_op (Down agent) = Take agent 256 empty
out_op (Up watcher) = Watch watcher 256 empty

-- the buffers that are there while such a call is made
abbrev pub lent_given : {T : Type 0} → Side → Option (Filled T)
lent_given (Down agent) = None
lent_given (Up watcher) = Some empty

abbrev pub lent_wants : Side → Option (Filled Want)
lent_wants (Down agent) = Some empty
lent_wants (Up watcher) = None

-- the reply has items or wants, in the buffer that was lent, and the other one is there
abbrev pub IsInLent : {T : Type 0} → Reply T → Option (Filled T) → Option (Filled Want) → Type 0
IsInLent (replies.Items items) given wants = (items.room ≡ 256) × (wants ≡ Some empty)
IsInLent (replies.Wants items) given wants = (items.room ≡ 256) × (given ≡ Some empty)
IsInLent _ given wants = ⊥

-- a reply of the history as one of the others; of a refusal nothing is told
abbrev pub plain_of : HistoryReply → Reply HistItem
plain_of (events.Items items) = replies.Items items
plain_of (events.Wants wants) = replies.Wants wants
plain_of _ = replies.NoMemory

-- the text of these items was written and flushed, or cut short
abbrev pub Writes : List RecordDef → List ReplyItem → Answer → Bool → Option (List ℕ) → Option (List ℕ) → ℕ → ℕ → Type 0
Writes defs given (Gave count) flushed was now before after = (count ≡ length given) × IsWritten (text_of defs given) was now before after × (0 < count → flushed ≡ true)
Writes defs given Unwritten flushed was now before after = (0 < length given) × IsCutShort (text_of defs given) was now before after
Writes defs given _ flushed was now before after = ⊥
