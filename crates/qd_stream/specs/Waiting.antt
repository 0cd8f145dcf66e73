-- Which items wait for an agent of a stream, and which of them were dropped and not reported.
use Rattle.std.specs.Prelude.{ℕ, ◌+◌, ◌-◌, not, nat_eq, nat_lt, if◌then◌else◌, List, [], ◌∷◌, ◌++◌, length, drop, slice_get}
use Rattle.std.specs.List.{filter}
use Rattle.std.specs.Option.{option_to_list}
use Rattle.qd_scheme.specs.declared.key.Key.{Key}
use Rattle.qd_scheme.specs.Keys.{key_eq}
use Rattle.qd_sub.specs.Acts.{Subscribed, Unsubscribed, Closed, Came, Gave, Told, Full, Moment}
use Rattle.qd_sub.specs.Subscriptions.{subscribed}
use Rattle.qd_stream.specs.declared.item.StreamItem.{StreamItem}
use Rattle.qd_stream.specs.Items.{key_of_item}

-- the moments of a stream, in which items are put and given
abbrev pub StreamMoment : Type 0
StreamMoment = Moment StreamItem StreamItem

-- all items put while a was subscribed to their keys, since a last closed, in order
unfoldable pub matched : ℕ → StreamMoment → List StreamItem
matched a [] = []
matched a (Came k item ∷ past) = if subscribed a k past then matched a past ++ item ∷ [] else matched a past
matched a (Closed b ∷ past) = if nat_eq a b then [] else matched a past
matched a (Subscribed b j limit ∷ past) = matched a past
matched a (Unsubscribed b j ∷ past) = matched a past
matched a (Gave b j item ∷ past) = matched a past
matched a (Told w j total ∷ past) = matched a past
matched a (Full b j ∷ past) = matched a past

-- how many matched items are gone, and those of them that were dropped and not reported, in the order in which they were dropped
pub record Gone : Type 0 where
  pub count : ℕ
  pub unreported : List StreamItem

-- nothing is gone
abbrev pub none_gone : Gone
none_gone = record { count = 0; unreported = [] }

-- an item matched, the last of `items`: where more than `cap` of them would wait, the oldest is dropped
abbrev pub after_match : ℕ → List StreamItem → Gone → Gone
after_match cap items g =
    if nat_lt g.count (length items - cap)
    then record { count = length items - cap; unreported = g.unreported ++ option_to_list (slice_get items g.count) }
    else g

-- an item of k was given: the report of k's loss where any loss is unreported, else a waiting item
abbrev pub after_gift : Key → ℕ → List StreamItem → Gone
after_gift k count [] = record { count = count + 1; unreported = [] }
after_gift k count (item ∷ items) = record { count = count; unreported = filter (λ i. not (key_eq k (key_of_item i))) (item ∷ items) }

unfoldable pub gone : ℕ → ℕ → StreamMoment → Gone
gone cap a [] = none_gone
gone cap a (Came k item ∷ past) = if subscribed a k past then after_match cap (matched a past ++ item ∷ []) (gone cap a past) else gone cap a past
gone cap a (Gave b k item ∷ past) = if nat_eq a b then after_gift k (gone cap a past).count (gone cap a past).unreported else gone cap a past
gone cap a (Closed b ∷ past) = if nat_eq a b then none_gone else gone cap a past
gone cap a (Subscribed b j limit ∷ past) = gone cap a past
gone cap a (Unsubscribed b j ∷ past) = gone cap a past
gone cap a (Told w j total ∷ past) = gone cap a past
gone cap a (Full b j ∷ past) = gone cap a past

-- the matched items that are not gone
unfoldable pub waiting : ℕ → ℕ → StreamMoment → List StreamItem
waiting cap a now = drop (gone cap a now).count (matched a now)
