-- Which pairs and keys a stream holds.
use Rattle.std.specs.Prelude.{ℕ, Bool, ◌||◌, is_some, List}
use Rattle.std.specs.List.{list_any}
use Rattle.qd_scheme.specs.declared.key.Key.{Key}
use Rattle.qd_scheme.specs.Keys.{key_eq}
use Rattle.qd_sub.specs.Acts.{newest_key}
use Rattle.qd_sub.specs.Since.{unbroken, by_since}
use Rattle.qd_sub.specs.Subscriptions.{subscribed, agents}
use Rattle.qd_sub.specs.Watching.{known}
use Rattle.qd_sub.specs.Holding.{watchers, newest_pair}
use Rattle.qd_stream.specs.Items.{key_of_item}
use Rattle.qd_stream.specs.Waiting.{StreamMoment, gone, waiting}

-- a loss of k is unreported, or an item of k waits for a
unfoldable pub is_owed : ℕ → ℕ → Key → StreamMoment → Bool
is_owed cap a k now =
    list_any (λ i. key_eq k (key_of_item i)) (gone cap a now).unreported || list_any (λ i. key_eq k (key_of_item i)) (waiting cap a now)

-- a pair is held while it is subscribed or anything of it is owed
unfoldable pub holds_pair : ℕ → ℕ → Key → StreamMoment → Bool
holds_pair cap a k now = subscribed a k now || is_owed cap a k now

-- a key is held while one of its pairs is, or a watcher knows a total of it
unfoldable pub held : ℕ → Key → StreamMoment → Bool
held cap k now = list_any (λ a. holds_pair cap a k now) (agents now) || list_any (λ w. is_some (known w k now)) (watchers now)

-- the held keys, by the position since which each is held
unfoldable pub held_keys : ℕ → StreamMoment → List Key
held_keys cap now = by_since newest_key unbroken (held cap) now

-- the held pairs, by the position since which each is held
unfoldable pub held_pairs : ℕ → StreamMoment → List (ℕ × Key)
held_pairs cap now = by_since newest_pair unbroken (λ p now. holds_pair cap p.0 p.1 now) now

-- the keys of a's held pairs, in the same order
unfoldable pub held_by : ℕ → ℕ → StreamMoment → List Key
held_by cap a now = by_since newest_key unbroken (holds_pair cap a) now
