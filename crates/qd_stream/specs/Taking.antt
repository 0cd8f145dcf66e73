-- What a Take of a stream gives.
use Rattle.std.specs.Prelude.{ℕ, List, ◌++◌, map, take}
use Rattle.qd_stream.specs.declared.item.StreamItem.{StreamItem}
use Rattle.qd_stream.specs.declared.item.StreamItem.TheVariants.{Lost}
use Rattle.qd_stream.specs.Waiting.{StreamMoment, waiting}
use Rattle.qd_stream.specs.Losses.{loss_of, lossy_keys}

-- one Lost item for each key with an unreported loss
unfoldable pub reports : ℕ → ℕ → StreamMoment → List StreamItem
reports cap a now = map (λ k. Lost k (loss_of cap a now k)) (lossy_keys cap a now)

-- the answer to a Take: the first of the loss reports, and then of the waiting items
unfoldable pub taken : ℕ → ℕ → ℕ → StreamMoment → List StreamItem
taken cap a most now = take most (reports cap a now ++ waiting cap a now)
