-- How many keys of a list would be new, and what that leads to.
use Rattle.std.specs.Prelude.{ℕ, suc, ◌≡◌, ◌+◌, ◌≤◌, Bool, false, ◌||◌, nat_lt, if◌then◌else◌, Option, Some, None, is_some, Result, Ok, Err, List, [], ◌∷◌}
use Rattle.qd_scheme.specs.declared.seeded.SeededState.{SeededState}
use Rattle.indexmap.specs.IndexSet.{IndexSet, spare}
use Rattle.qd_scheme.specs.declared.key.Key.{Key}
use Rattle.qd_scheme.specs.Keys.{key_eq}
use Rattle.qd_sub.specs.Holding.{has_key}
use Rattle.qd_slots.specs.declared.holds.Cell.{Cell}
use Rattle.qd_slots.specs.Names.{slot_in}
use Rattle.qd_slots.specs.Holds.{Holdings, hold_at, is_held}
use Rattle.qd_table.specs.declared.table.SubFault.{SubFault}
use Rattle.qd_table.specs.declared.table.SubFault.TheVariants.{TooManyKeys, TooManySubs}

-- how many keys of a list the test does not pass, each counted once
unfoldable pub fresh_count : (Key → Bool) → List Key → ℕ
fresh_count held [] = 0
fresh_count held (k ∷ ks) = if held k then fresh_count held ks else suc (fresh_count (λ j. key_eq j k || held j) ks)

-- the key has a slot
abbrev pub has_slot : List (Option Key) → Key → Bool
has_slot names k = is_some (slot_in names k)

-- the agent holds the key
abbrev pub holds_key : List (Option Key) → List Cell → ℕ → Key → Bool
holds_key names cells agent k = elim (slot_in names k) [ None ↦ false | Some slot ↦ is_held (hold_at cells slot agent) ]

-- the key stands in a list, or passes the test
abbrev pub seen_or : List Key → (Key → Bool) → Key → Bool
seen_or seen held k = has_key seen k || held k

-- the first limit that these numbers of keys and pairs pass
abbrev pub verdict_for : ℕ → ℕ → Result (Unit {0}) SubFault
verdict_for keys pairs = if nat_lt 16384 keys then Err TooManyKeys else if nat_lt 262144 pairs then Err TooManySubs else Ok tt

-- the judgement on these keys of an agent
unfoldable pub verdict_of : List (Option Key) → ℕ → Holdings → ℕ → List Key → Result (Unit {0}) SubFault
verdict_of names named holdings agent keys = verdict_for (named + fresh_count (has_slot names) keys) (holdings.pairs + fresh_count (holds_key names holdings.cells agent) keys)

-- a set of no keys, with room for those of an Add
pub record IsReady (seen : IndexSet Key SeededState) : Type 0 where
  pub empty : seen.keys ≡ []
  pub room : 4096 ≤ spare seen
