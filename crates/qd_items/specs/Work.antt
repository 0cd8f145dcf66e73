-- How much of a text may still come.
use Rattle.std.specs.Prelude.{ℕ, ◌+◌, ◌-◌, ◌*◌, ◌<◌, ◌^◌, length}
use Rattle.qd_items.specs.declared.items.NextItem.{NextItem}
use Rattle.qd_items.specs.declared.items.NextItem.TheVariants as nexts
use Rattle.qd_items.specs.Standing.{Kept}

-- a byte that may still be read counts more than one that waits to be judged
unfoldable pub work : Kept → ℕ
work k = 2 * (2 ^ 40 - k.taken) + length k.left

-- an item lowers it, so that reading ends
abbrev pub Lowers : NextItem → Kept → Kept → Type 0
Lowers (nexts.Item item) old new = work new < work old
Lowers (nexts.Ended end) old new = Unit {0}
