-- Which item an agent may be given.
use Rattle.std.specs.Prelude.{◌≡◌, ◌≤◌, ℕ, Bool, true, false, ◌&&◌, ◌||◌, not, ◌==◌, nat_le, nat_lt, pos, List, [], ◌∷◌, length, replicate, count_by, slice_get, bit_and, Option, Some, None, is_some, option_map, if◌then◌else◌, IsTrue, IsFalse, IfSome}
use Rattle.std.specs.List.{list_any}
use Rattle.std.specs.Ordering.{int_eq}
use Rattle.std.specs.Cmp.Lexicographic.{pointwise}
use Rattle.qd_scheme.specs.declared.key.Key.{Key}
use Rattle.qd_scheme.specs.declared.key.Event.{Event}
use Rattle.qd_scheme.specs.declared.cells.Cells.{Cells}
use Rattle.qd_flags.specs.Bits.{is_pending, is_begin, is_end, is_snip}
use Rattle.qd_flags.specs.Shown.{Shown, shown, cut, ends}
use Rattle.qd_gate.specs.declared.machine.Terms.{Terms}
use Rattle.qd_sub.specs.Acts.{Subscribed, Unsubscribed, Closed, Came, Gave, Told, Full}
use Rattle.qd_hist_rules.specs.declared.item.HistItem.{HistItem}
use Rattle.qd_hist_rules.specs.Moments.{HistMoment, events, given}
use Rattle.qd_hist_rules.specs.Source.{source, Commit, commits, commit, last}
use Rattle.qd_hist_rules.specs.declared.floor.AgentFloor.{AgentFloor}
use Rattle.qd_hist_rules.specs.Agent.{agent_floor, begin_moment, snapshot, shares_since_begin, owed}
use Rattle.qd_hist_rules.specs.Standing.{is_begun, is_ended, has_overflowed}

-- no item has a number above n
abbrev pub NoneAbove : ℕ → List HistItem → Type 0
NoneAbove n [] = Unit {0}
NoneAbove n (i ∷ is) = IfSome i.at (λ p. p ≤ n) × NoneAbove n is

-- an item of number n shows the whole state s: n is a commit of k, no earlier item of the pair has a greater number, n is not before the
-- last commit at the snapshot's BEGIN, and s is the map of n cut at the agent's floor. (past is the moment before the item, now the one after it)
pub record ShowsCommit (terms : Terms) (a : ℕ) (k : Key) (n : ℕ) (s : Shown) (past now : HistMoment) : Type 0 where
  pub commit_n : Commit
  pub is_commit : commit terms.base k n past ≡ Some commit_n
  pub none_above : NoneAbove n (given a k past)
  pub since_begin : IfSome (last terms.base k (begin_moment a k now)) (λ c. c.number ≤ n)
  pub map_is : s.map ≡ cut s.floor commit_n.shown.map
  pub floor_is : option_map (λ f. f.index) (agent_floor terms.base a k past) ≡ Some s.floor

-- an item has a number exactly where what was given shows whole
abbrev pub NumberFits : Terms → ℕ → Key → HistItem → HistMoment → Option Shown → Type 0
NumberFits terms a k i past None = i.at ≡ None
NumberFits terms a k i past (Some s) = (n : ℕ) × (i.at ≡ Some n) × ShowsCommit terms a k n s past (Gave a k i ∷ past)

-- an item comes only where the pair fits; after a restart it is a BEGIN; and a BEGIN comes only where the pair is not begun, or where a possible overflow came since its last item
pub record MayCome (terms : Terms) (a : ℕ) (k : Key) (i : HistItem) (past : HistMoment) : Type 0 where
  pub fits : IsTrue (is_some (agent_floor terms.base a k past))
  pub begin_first : IsFalse (is_begun terms a k past) → IsTrue (is_begin i.event)
  pub begin_where : IsTrue (is_begin i.event) → IsTrue (not (is_begun terms a k past) || has_overflowed terms a k past)

-- two lists of cells are one
abbrev pub same_cells : Cells → Option Cells → Bool
same_cells c None = false
same_cells c (Some d) = pointwise int_eq c d

abbrev pub same_bool : Bool → Bool → Bool
same_bool true b = b
same_bool false b = not b

-- the flags without those that begin and end a snapshot (0x04, 0x08 and 0x10)
abbrev pub bare_flags : Event → ℕ
bare_flags e = bit_and e.flags 227

-- without the flags that begin and end a snapshot, e is this event
abbrev pub is_event : Event → Event → Bool
is_event e d = e.index == d.index && same_cells e.cells (Some d.cells) && bare_flags e == d.flags

-- the commit is not before that one
abbrev pub not_before : Option Commit → Commit → Bool
not_before None c = false
not_before (Some b) c = nat_le b.number c.number

-- the first kind of item in a snapshot: an index and its cells from the map of a commit not before the last one at that BEGIN
abbrev pub is_kept : ℕ → ℕ → Key → Event → HistMoment → HistMoment → Bool
is_kept base a k e past now =
    bare_flags e == 0
    && list_any (λ c. not_before (last base k (begin_moment a k now)) c && same_cells e.cells (c.shown.map e.index)) (commits base k past)

-- the second kind: an event of the share of a commit since that BEGIN
abbrev pub is_shared : ℕ → ℕ → Key → Event → HistMoment → Bool
is_shared base a k e now = list_any (λ i. is_event e i.event) (shares_since_begin base a k now)

-- the number of cells of the last BEGIN of the source
abbrev pub width_of : List Event → ℕ
width_of [] = 0
width_of (e ∷ es) = if is_begin e then length e.cells else width_of es

abbrev pub has_nothing : Option Commit → ℕ → Bool
has_nothing None i = false
has_nothing (Some c) i = not (is_some (c.shown.map i))

-- the commit of this number has nothing at the index
abbrev pub lacks : ℕ → Key → Option ℕ → ℕ → HistMoment → Bool
lacks base k None i now = false
lacks base k (Some n) i now = has_nothing (commit base k n now) i

-- the third kind, the marker: a removal whose cells are all 0, as many as the last BEGIN of the source has; it ends the snapshot, and the commit shown has nothing at its index
abbrev pub is_marker : ℕ → ℕ → Key → HistItem → HistMoment → Bool
is_marker base a k i past =
    bare_flags i.event == 2 && ends i.event
    && same_cells i.event.cells (Some (replicate (width_of (source k past)) (pos 0)))
    && lacks base k i.at i.event.index past

-- an item of a snapshot stands at or above the agent's floor; the one that ends it stands there, ends with what goes with the floor, and has no TX_PENDING
abbrev pub stands_right : Option AgentFloor → Event → Bool
stands_right None e = false
stands_right (Some f) e =
    nat_le f.index e.index
    && (not (ends e)
    || (e.index == f.index && same_bool (is_snip e) f.by_snip && same_bool (is_end e) (not f.by_snip) && not (is_pending e)))

abbrev pub at_index : ℕ → List HistItem → ℕ
at_index i items = count_by (λ d. d.event.index == i) items

-- an index comes once, and once more for each share event on it; the indexes without one come in falling order
abbrev pub in_order : List HistItem → List HistItem → Event → Bool
in_order shares before e =
    nat_le (at_index e.index before) (at_index e.index shares)
    && (nat_lt 0 (at_index e.index shares)
    || not (list_any (λ d. at_index d.event.index shares == 0 && nat_le d.event.index e.index) before))

-- the items of the snapshot before this one
abbrev pub snapshot_before : ℕ → Key → HistItem → HistMoment → List HistItem
snapshot_before a k i past = if is_begin i.event then [] else snapshot a k past

-- an item from a BEGIN to the end of its snapshot
abbrev pub is_snapshot_item : ℕ → ℕ → Key → HistItem → HistMoment → Bool
is_snapshot_item base a k i past =
    (is_kept base a k i.event past (Gave a k i ∷ past) || is_shared base a k i.event (Gave a k i ∷ past) || is_marker base a k i past)
    && stands_right (agent_floor base a k past) i.event
    && in_order (shares_since_begin base a k (Gave a k i ∷ past)) (snapshot_before a k i past) i.event

-- one item, judged at its place
pub record LawfulItem (terms : Terms) (a : ℕ) (k : Key) (i : HistItem) (past : HistMoment) : Type 0 where
  pub number_fits : NumberFits terms a k i past (shown (events (given a k (Gave a k i ∷ past))))
  -- after the end of the snapshot the item is the next one owed
  pub next_owed : IsTrue (is_ended terms a k past) → IsFalse (is_begin i.event) → slice_get (owed terms.base a k past) 0 ≡ Some i
  pub may_come : MayCome terms a k i past
  pub in_snapshot : IsTrue (is_begin i.event || not (is_ended terms a k past)) → IsTrue (is_snapshot_item terms.base a k i past)

-- each item that was given was lawful at its place
abbrev pub Lawful : Terms → HistMoment → Type 0
Lawful terms [] = Unit {0}
Lawful terms (Gave a k i ∷ past) = LawfulItem terms a k i past × Lawful terms past
Lawful terms (Subscribed a k limit ∷ past) = Lawful terms past
Lawful terms (Unsubscribed a k ∷ past) = Lawful terms past
Lawful terms (Closed a ∷ past) = Lawful terms past
Lawful terms (Came k e ∷ past) = Lawful terms past
Lawful terms (Told w k total ∷ past) = Lawful terms past
Lawful terms (Full a k ∷ past) = Lawful terms past
