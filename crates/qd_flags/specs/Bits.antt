-- The flags of an event, by their bits.
use Rattle.std.specs.Prelude.{ℕ, Bool, not, ◌==◌, bit_and}
use Rattle.qd_scheme.specs.declared.key.Event.{Event}

-- one of the mask's bits is set
abbrev pub has_bits : ℕ → ℕ → Bool
has_bits flags mask = not (bit_and flags mask == 0)

-- TX_PENDING: a transaction goes on with later events
unfoldable pub is_pending : Event → Bool
is_pending e = has_bits e.flags 1

-- REMOVE_EVENT: what stands at the index is to be taken out
unfoldable pub is_remove : Event → Bool
is_remove e = has_bits e.flags 2

-- SNAPSHOT_BEGIN: the first event of a snapshot
unfoldable pub is_begin : Event → Bool
is_begin e = has_bits e.flags 4

-- SNAPSHOT_END: the last event of a snapshot, with all data sent
unfoldable pub is_end : Event → Bool
is_end e = has_bits e.flags 8

-- SNAPSHOT_SNIP: the last event of a snapshot, after which no more data comes
unfoldable pub is_snip : Event → Bool
is_snip e = has_bits e.flags 16
