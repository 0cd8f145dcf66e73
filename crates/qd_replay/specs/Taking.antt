-- How the stripes of a collector are asked one after the other.
use Rattle.std.specs.Prelude.{ℕ, ◌≡◌, ◌<◌, ◌⊎◌, List, [], ◌∷◌, ◌++◌}
use Rattle.qd_grammar.specs.declared.item.Collector.{Collector}
use Rattle.qd_hist_rules.specs.declared.reply.HistoryReply.{HistoryReply}
use Rattle.qd_hist_rules.specs.declared.reply.HistoryReply.TheVariants as events
use Rattle.qd_sub.specs.declared.op.Reply.{Reply}
use Rattle.qd_sub.specs.declared.op.Reply.TheVariants as replies
use Rattle.qd_path.specs.Lists.{Lists, GrewBy}
use Rattle.qd_path.specs.Made.{Made, asked_in}
use Rattle.qd_path.specs.Texts.{ReplyItem, items_in}
use Rattle.qd_replay.specs.Running.{take_of, AreTaken}

-- the reply has items
abbrev pub HasItems : {T : Type 0} → Reply T → Type 0
HasItems (replies.Items items) = Unit {0}
HasItems _ = ⊥

abbrev pub HasEvents : HistoryReply → Type 0
HasEvents (events.Items items) = Unit {0}
HasEvents _ = ⊥

-- a stripe was asked for at most so many items, and gave these
abbrev pub Gives : ℕ → Collector → ℕ → ℕ → ℕ → List ReplyItem → Lists → Lists → Type 0
Gives n c agent i max given l m = (x : Made) × (asked_in x ≡ take_of c agent i max) × (items_in x ≡ given) × GrewBy n (x ∷ []) l m

-- nothing was still to be given, and no stripe was asked; or a stripe was asked for what was, and its items stand behind the others
abbrev pub TookNext : ℕ → Collector → ℕ → ℕ → ℕ → List ReplyItem → List ReplyItem → Lists → Lists → Type 0
TookNext n c agent i left given all l m =
    ((left ≡ 0) × (all ≡ given) × (m ≡ l))
    ⊎ ((x : Made) × (0 < left) × (asked_in x ≡ take_of c agent i left) × (all ≡ given ++ items_in x) × GrewBy n (x ∷ []) l m)

-- the first k stripes were asked for at most max items, and gave these
abbrev pub GiveUpTo : ℕ → Collector → ℕ → ℕ → ℕ → List ReplyItem → Lists → Lists → Type 0
GiveUpTo n c agent max k given l m = (made : List Made) × AreTaken c agent max k made given × GrewBy n made l m
