-- How many entries are kept, and how many events held back, after one more event.
use Rattle.std.proofs.Common.{◌≤◌, ◌+◌, ℕ, suc, Bool, true, false, List, [], ◌∷◌, ◌++◌, length, length-append, arith, nat_le, nat_lt}
use Rattle.std.specs.Prelude.{if◌then◌else◌, ◌==◌}
use Rattle.qd_scheme.specs.declared.key.Event.{Event}
use Rattle.qd_entries.specs.declared.Entry.{Entry}
use Rattle.qd_entries.specs.Entries.{put_entry, without_index}
use Rattle.qd_flags.specs.declared.commits.Floor.{Floor}
use Rattle.qd_flags.specs.Bits.{is_begin, is_remove}
use Rattle.qd_flags.specs.Following.{Following, applied, all_applied, next_held, forgotten, with_held, with_commit}

put-length : (e : Entry) (xs : List Entry) → length (put_entry e xs) ≤ length xs + 1
put-length e [] = omega arith
put-length e (x ∷ xs) = go (put-length e xs) (e.index == x.index) (nat_lt x.index e.index)
  where
    go : length (put_entry e xs) ≤ length xs + 1 → (b c : Bool) → length (if b then e ∷ xs else if c then e ∷ x ∷ xs else x ∷ put_entry e xs) ≤ suc (length xs) + 1
    go h true c = omega arith
    go h false true = omega arith
    go h false false = omega arith

without-length : (i : ℕ) (xs : List Entry) → length (without_index i xs) ≤ length xs
without-length i [] = omega arith
without-length i (x ∷ xs) = go (without-length i xs) (x.index == i)
  where
    go : length (without_index i xs) ≤ length xs → (b : Bool) → length (if b then xs else x ∷ without_index i xs) ≤ suc (length xs)
    go h true = omega arith
    go h false = omega arith

applied-length : (f : ℕ) (e : Event) (xs : List Entry) → length (applied f e xs) ≤ length xs + 1
applied-length f e xs = go (nat_le f e.index) (is_remove e)
  where
    go : (b c : Bool) → length (if b then (if c then without_index e.index xs else put_entry (record { index = e.index; cells = e.cells }) xs) else xs) ≤ length xs + 1
    go true true = omega (arith, without-length e.index xs)
    go true false = put-length (record { index = e.index; cells = e.cells }) xs
    go false c = omega arith

all-applied-length : (f : ℕ) (es : List Event) (xs : List Entry) → length (all_applied f es xs) ≤ length xs + length es
all-applied-length f [] xs = omega arith
all-applied-length f (e ∷ es) xs = omega (arith, applied-length f e xs, all-applied-length f es (applied f e xs))

held-length : (held : List Event) (e : Event) → length (next_held held e) ≤ length held + 1
held-length held e = go (is_begin e)
  where
    go : (b : Bool) → length (if b then e ∷ [] else held ++ e ∷ []) ≤ length held + 1
    go true = omega arith
    go false = omega (arith, length-append held (e ∷ []))

-- what one more event leaves: at most one event more is held back or told as a commit's, and at most one more is kept or held back
pub record IsOneMore (s t : Following) : Type 0 where
  pub few : length t.held + length t.batch ≤ length s.held + 1
  pub more : length t.entries + length t.held ≤ length s.entries + length s.held + 1

pub forgotten_more : (s : Following) → IsOneMore s (forgotten s)
forgotten_more s = record { few = omega arith; more = omega arith }

pub held_more : (s : Following) (e : Event) → IsOneMore s (with_held e (forgotten s))
held_more s e = record { few = omega (arith, held-length s.held e); more = omega (arith, held-length s.held e) }

pub commit_more : (s : Following) (e : Event) (f : Floor) → IsOneMore s (with_commit f (with_held e (forgotten s)))
commit_more s e f =
    let b : Bool = (with_held e (forgotten s)).begun in
    let held : List Event = next_held s.held e in
    let xs : List Entry = if b then [] else s.entries in
    let h : length (all_applied f.index held xs) ≤ length xs + length held = all-applied-length f.index held xs in
    let l : length xs ≤ length s.entries = bound b in
    let m : length held ≤ length s.held + 1 = held-length s.held e in
    record { few = omega arith; more = omega arith }
  where
    bound : (b : Bool) → length (if b then [] else s.entries) ≤ length s.entries
    bound true = omega arith
    bound false = omega arith
