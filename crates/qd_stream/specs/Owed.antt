-- What a stream keeps for one agent.
use Rattle.std.specs.Prelude.{ℕ, ◌≡◌, ◌≤◌, ◌+◌, ◌-◌, Bool, ◌||◌, min, nat_lt, if◌then◌else◌, List, [], ◌∷◌, ◌++◌, length, map, take, drop}
use Rattle.std.specs.List.{list_any}
use Rattle.qd_scheme.specs.declared.key.Key.{Key}
use Rattle.qd_scheme.specs.Keys.{key_eq}
use Rattle.qd_sub.specs.Holding.{fresh}
use Rattle.qd_stream.specs.declared.item.StreamItem.{StreamItem}
use Rattle.qd_stream.specs.declared.item.StreamItem.TheVariants.{Lost}
use Rattle.qd_stream.specs.Items.{key_of_item, weight}
use Rattle.qd_stream.specs.Waiting.{StreamMoment, matched, gone, waiting}
use Rattle.qd_stream.specs.Losses.{weight_of}

-- a key, and how many of its records were lost
pub record Loss : Type 0 where
  pub key : Key
  pub count : ℕ

-- the items that wait, in order, and the losses that were not reported, by the first drop
pub record Owed : Type 0 where
  pub items : List StreamItem
  pub lost : List Loss

abbrev pub nothing : Owed
nothing = record { items = []; lost = [] }

-- the losses of these dropped items
unfoldable pub losses : List StreamItem → List Loss
losses items = map (λ k. record { key = k; count = weight_of k items }) (fresh [] (map key_of_item items))

-- what a is owed at a moment
unfoldable pub owed_at : ℕ → ℕ → StreamMoment → Owed
owed_at cap a now = record { items = waiting cap a now; lost = losses (gone cap a now).unreported }

-- this is what a is owed, and no more is gone than matched
pub record IsOwed (cap a : ℕ) (o : Owed) (now : StreamMoment) : Type 0 where
  pub is : owed_at cap a now ≡ o
  pub within : (gone cap a now).count ≤ length (matched a now)

-- k is among the losses
abbrev pub is_lost : List Loss → Key → Bool
is_lost lost k = list_any (λ l. key_eq k l.key) lost

-- the loss of k counts so many more records, at most 2^64 - 1 in all
abbrev pub raised : Key → ℕ → Loss → Loss
raised k more l = if key_eq k l.key then record { key = l.key; count = min (l.count + more) 18446744073709551615 } else l

-- with one item more dropped
unfoldable pub with_loss : List Loss → StreamItem → List Loss
with_loss lost item =
    if is_lost lost (key_of_item item)
    then map (raised (key_of_item item) (weight item)) lost
    else lost ++ record { key = key_of_item item; count = min (weight item) 18446744073709551615 } ∷ []

-- with the first of these dropped
abbrev pub with_first_lost : List Loss → List StreamItem → List Loss
with_first_lost lost [] = lost
with_first_lost lost (item ∷ items) = with_loss lost item

-- with one item more: where `cap` items wait, the oldest is dropped
unfoldable pub with_item : ℕ → Owed → StreamItem → Owed
with_item cap o item =
    if nat_lt (length o.items) cap
    then record { items = o.items ++ item ∷ []; lost = o.lost }
    else record { items = drop 1 (o.items ++ item ∷ []); lost = with_first_lost o.lost (o.items ++ item ∷ []) }

-- the report of a loss
abbrev pub report : Loss → StreamItem
report l = Lost l.key l.count

-- the first of the reports, and then of the items
unfoldable pub first_owed : ℕ → Owed → List StreamItem
first_owed most o = take most (map report o.lost ++ o.items)

-- what is left once they are given
unfoldable pub after_first : ℕ → Owed → Owed
after_first most o = record { items = drop (most - length o.lost) o.items; lost = drop most o.lost }

-- something of k is owed
abbrev pub owes : Owed → Key → Bool
owes o k = is_lost o.lost k || list_any (λ i. key_eq k (key_of_item i)) o.items
