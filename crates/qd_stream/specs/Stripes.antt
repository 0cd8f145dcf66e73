-- What a stream's stripe keeps, and the logs for which it stands.
use Rattle.std.specs.Prelude.{ℕ, ◌≡◌, ◌<◌, Bool, true, is_some, Option, Some, None, List, [], length}
use Rattle.qd_scheme.specs.declared.key.Key.{Key}
use Rattle.qd_slots.specs.Holds.{is_subscribed}
use Rattle.qd_table.specs.Tables.{Table, key_at, hold_for}
use Rattle.qd_table.specs.Standing.{StandsFor}
use Rattle.qd_stream.specs.Waiting.{StreamMoment}
use Rattle.qd_stream.specs.Owed.{Owed, owes, IsOwed}
use Rattle.qd_stream.specs.Keyed.{keyed, IsNamed}
use Rattle.qd_stream.specs.Boxes.{Boxes, box_at}
use Rattle.qd_stream.specs.Legal.{StreamEntry, moment_of}

-- what a stripe keeps: who is subscribed to what, what the watchers know, and what each agent is owed
pub record Shown : Type 0 where
  pub table : Table
  pub boxes : Boxes

-- the key, or an empty one where there is none
abbrev pub key_or : Option Key → Key
key_or None = record { rec = 0; sym = [] }
key_or (Some k) = k

-- the key of a slot that has one
abbrev pub name_in : Table → ℕ → Key
name_in t slot = key_or (key_at t slot)

-- the slot has a key
abbrev pub is_named : Table → ℕ → Bool
is_named t slot = is_some (key_at t slot)

-- what a is owed, by keys
unfoldable pub owed_in : Shown → ℕ → Owed
owed_in s a = keyed (name_in s.table) (box_at s.boxes a)

-- something of k is owed to a
unfoldable pub is_owed_in : Shown → ℕ → Key → Bool
is_owed_in s a k = owes (owed_in s a) k

-- just the pairs of which something is owed are held beside the subscribed ones, and what is owed is of keys that have slots
pub record Agrees (s : Shown) (now : StreamMoment) : Type 0 where
  pub table : StandsFor s.table (is_owed_in s) now
  pub named : (a : ℕ) → IsNamed (name_in s.table) (is_named s.table) (box_at s.boxes a)

-- the stripe stands for a past
pub record StandsAt (s : Shown) (now : StreamMoment) : Type 0 where
  pub agrees : Agrees s now
  pub owed : (a : ℕ) → IsOwed s.boxes.cap a (owed_in s a) now
  pub agents : length s.boxes.list ≡ 128
  pub caps : (a : ℕ) → (box_at s.boxes a).cap ≡ s.boxes.cap

-- the stripe stands for a log
abbrev pub Stands : Shown → List StreamEntry → Type 0
Stands s log = StandsAt s (moment_of log)

-- what is true of the fields of a stripe: there are 128 agents, and room for what comes for each subscription
pub record IsReady (s : Shown) : Type 0 where
  pub agents : length s.boxes.list ≡ 128
  pub room : (a slot : ℕ) → is_subscribed (hold_for s.table a slot) ≡ true → slot < (box_at s.boxes a).slots
