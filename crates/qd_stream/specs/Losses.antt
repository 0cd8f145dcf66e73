-- The losses that an agent of a stream was not told of.
use Rattle.std.specs.Prelude.{ℕ, min, List, [], map}
use Rattle.std.specs.List.{filter, sum_by}
use Rattle.qd_scheme.specs.declared.key.Key.{Key}
use Rattle.qd_scheme.specs.Keys.{key_eq}
use Rattle.qd_sub.specs.Holding.{fresh}
use Rattle.qd_stream.specs.declared.item.StreamItem.{StreamItem}
use Rattle.qd_stream.specs.Items.{key_of_item, weight}
use Rattle.qd_stream.specs.Waiting.{StreamMoment, gone}

-- what the items of k among these weigh, at most 2^64 - 1
unfoldable pub weight_of : Key → List StreamItem → ℕ
weight_of k items = min (sum_by weight (filter (λ i. key_eq k (key_of_item i)) items)) 18446744073709551615

-- the unreported loss of k
unfoldable pub loss_of : ℕ → ℕ → StreamMoment → Key → ℕ
loss_of cap a now k = weight_of k (gone cap a now).unreported

-- the keys with an unreported loss, by the first drop that is not reported
unfoldable pub lossy_keys : ℕ → ℕ → StreamMoment → List Key
lossy_keys cap a now = fresh [] (map key_of_item (gone cap a now).unreported)
