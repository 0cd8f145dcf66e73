-- What is printed of a TAKE.
use Rattle.std.specs.Prelude.{ℕ, None, List, ◌∷◌, [], ◌++◌, codes, decimal}
use Rattle.qd_grammar.specs.Canonical.{collector_text}
use Rattle.qd_grammar.specs.declared.item.Collector.{Collector}
use Rattle.qd_grammar.specs.declared.item.Item.TheVariants.{Heartbeat}
use Rattle.qd_scheme.specs.declared.defs.RecordDef.{RecordDef}
use Rattle.qd_path.specs.Texts.{ReplyItem, line_of, items_text}

-- the mark before a reply
abbrev pub mark : ℕ → Collector → List ℕ
mark link collector = codes "#LINK" ++ 9 ∷ [] ++ decimal link ++ 9 ∷ [] ++ collector_text collector ++ 10 ∷ []

-- the mark, the items, and the heartbeat
unfoldable pub reply_text : List RecordDef → ℕ → Collector → List ReplyItem → List ℕ
reply_text defs link collector items = mark link collector ++ (items_text defs None items ++ line_of defs Heartbeat)
