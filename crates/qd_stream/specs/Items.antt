-- The key of a stream's item, and for how many records it stands.
use Rattle.std.specs.Prelude.{ℕ}
use Rattle.qd_scheme.specs.declared.key.Key.{Key}
use Rattle.qd_stream.specs.declared.item.StreamItem.{StreamItem}
use Rattle.qd_stream.specs.declared.item.StreamItem.TheVariants.{Rec, Lost}

abbrev pub key_of_item : StreamItem → Key
key_of_item (Rec r) = r.key
key_of_item (Lost k count) = k

-- how many records it stands for
abbrev pub weight : StreamItem → ℕ
weight (Rec r) = 1
weight (Lost k count) = count
