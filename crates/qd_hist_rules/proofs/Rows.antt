-- Logs, computed from the definitions alone.
use Rattle.std.proofs.Common.{◌≡◌, ℕ, ◌^◌, ◌-◌, Bool, true, false, List, [], ◌∷◌, refl, Option, Some, None, inl, inr}
use Rattle.std.specs.Prelude.{pos}
use Rattle.qd_scheme.specs.declared.key.Key.{Key}
use Rattle.qd_scheme.specs.declared.key.Event.{Event}
use Rattle.qd_scheme.specs.declared.cells.Cells.{Cells}
use Rattle.qd_scheme.specs.Keys.{key_eq}
use Rattle.qd_buffer.specs.Filled.{Filled}
use Rattle.qd_flags.specs.Bits.{is_pending, is_remove, is_begin, is_end, is_snip}
use Rattle.qd_gate.specs.declared.machine.Terms.{Terms}
use Rattle.qd_gate.specs.Logs.{entry}
use Rattle.qd_sub.specs.declared.sub.Want.{Want}
use Rattle.qd_sub.specs.declared.op.Op.TheVariants.{Add, Remove, Close, Put, Take, Watch}
use Rattle.qd_sub.specs.Since.{since, last_place, by_since, begun_within}
use Rattle.qd_sub.specs.Subscriptions.{limit_of, subscribed, agents, wanted, kept}
use Rattle.qd_sub.specs.Holding.{held_keys, held_pairs, fresh}
use Rattle.qd_sub.specs.Logs.{after, ends_of, after_entry, after_log}
use Rattle.qd_hist_rules.specs.declared.item.HistItem.{HistItem}
use Rattle.qd_hist_rules.specs.declared.reply.HistoryReply.TheVariants.{Done, Items, Spent, NoMemory}
use Rattle.qd_hist_rules.specs.Moments.{HistMoment}
use Rattle.qd_hist_rules.specs.Source.{stock}
use Rattle.qd_hist_rules.specs.Legal.{HistoryEntry, terms_of, moment_of, too_many_keys, too_many_subs, is_full, is_spent, refusal, IsLawful}
use Rattle.qd_hist_rules.proofs.TakeTest.{take_ok}

abbrev ibm : Key
ibm = record { rec = 4; sym = 65 ∷ [] }

abbrev five : ℕ → Cells
five v = pos v ∷ pos v ∷ pos v ∷ pos v ∷ pos v ∷ []

-- an event by its index, its flags and its cells
abbrev c : ℕ → ℕ → ℕ → Event
c i f v = record { key = ibm; index = i; flags = f; cells = five v }

abbrev g : ℕ → ℕ → ℕ → Option ℕ → HistItem
g i f v at = record { event = c i f v; at = at }

abbrev n : Option ℕ
n = None

abbrev at : ℕ → Option ℕ
at k = Some k

abbrev some : {T : Type 0} → List T → Filled T
some xs = record { items = xs; room = 10 }

abbrev add : ℕ → HistoryEntry
add limit = entry 0 (Add 0 (some (record { key = ibm; limit = limit } ∷ []))) Done

abbrev put : List Event → HistoryEntry
put es = entry 0 (Put (some es)) Done

abbrev taking : ℕ → List HistItem → HistoryEntry
taking most is = entry 0 (Take 0 most (some [])) (Items (some is))

abbrev ten : List HistItem → HistoryEntry
ten is = taking 10 is

abbrev one : List HistItem → HistoryEntry
one is = taking 1 is

abbrev snap : HistoryEntry
snap = put (c 30 4 3 ∷ c 20 0 2 ∷ c 10 0 1 ∷ c 0 10 0 ∷ [])

-- after the log, this answer to a Take of at most so many items is lawful
abbrev lawful : ℕ → List HistoryEntry → ℕ → List HistItem → Bool
lawful hcap before most is = take_ok (terms_of hcap 0) 0 most is (moment_of before)

one_event_is_a_snapshot : lawful 1024 (add 0 ∷ put (c 0 14 0 ∷ []) ∷ []) 10 (g 0 14 0 (at 1) ∷ []) ≡ true
unfolding moment_of after_log after_entry after ends_of by_since begun_within since last_place subscribed limit_of kept wanted agents key_eq is_pending is_remove is_begin is_end is_snip
one_event_is_a_snapshot = refl

down_to_the_limit : lawful 1024 (add 15 ∷ snap ∷ []) 10 (g 30 4 3 n ∷ g 20 0 2 n ∷ g 15 10 0 (at 1) ∷ []) ≡ true
unfolding moment_of after_log after_entry after ends_of by_since begun_within since last_place subscribed limit_of kept wanted agents key_eq is_pending is_remove is_begin is_end is_snip
down_to_the_limit = refl

an_event_at_the_limit : lawful 1024 (add 20 ∷ snap ∷ []) 10 (g 30 4 3 n ∷ g 20 8 2 (at 1) ∷ []) ≡ true
unfolding moment_of after_log after_entry after ends_of by_since begun_within since last_place subscribed limit_of kept wanted agents key_eq is_pending is_remove is_begin is_end is_snip
an_event_at_the_limit = refl

nothing_above_the_limit : lawful 1024 (add 31 ∷ snap ∷ []) 10 (g 31 14 0 (at 1) ∷ []) ≡ true
unfolding moment_of after_log after_entry after ends_of by_since begun_within since last_place subscribed limit_of kept wanted agents key_eq is_pending is_remove is_begin is_end is_snip
nothing_above_the_limit = refl

put_before_the_subscription : lawful 1024 (snap ∷ add 15 ∷ []) 10 ([]) ≡ true
unfolding moment_of after_log after_entry after ends_of by_since begun_within since last_place subscribed limit_of kept wanted agents key_eq is_pending is_remove is_begin is_end is_snip
put_before_the_subscription = refl

-- the empty answer is not lawful where a snapshot is due, nor is a short one
no_answer : lawful 1024 (add 15 ∷ snap ∷ []) 10 ([]) ≡ false
unfolding moment_of after_log after_entry after ends_of by_since begun_within since last_place subscribed limit_of kept wanted agents key_eq is_pending is_remove is_begin is_end is_snip
no_answer = refl

short : lawful 1024 (add 15 ∷ snap ∷ []) 10 (g 30 4 3 n ∷ g 20 0 2 n ∷ []) ≡ false
unfolding moment_of after_log after_entry after ends_of by_since begun_within since last_place subscribed limit_of kept wanted agents key_eq is_pending is_remove is_begin is_end is_snip
short = refl

-- nor a wrong number, a marker that comes too early, or a snapshot in rising order
wrong_number : lawful 1024 (add 15 ∷ snap ∷ []) 10 (g 30 4 3 n ∷ g 20 0 2 n ∷ g 15 10 0 (at 2) ∷ []) ≡ false
unfolding moment_of after_log after_entry after ends_of by_since begun_within since last_place subscribed limit_of kept wanted agents key_eq is_pending is_remove is_begin is_end is_snip
wrong_number = refl

too_early : lawful 1024 (add 15 ∷ snap ∷ []) 10 (g 30 4 3 n ∷ g 15 10 0 (at 1) ∷ []) ≡ false
unfolding moment_of after_log after_entry after ends_of by_since begun_within since last_place subscribed limit_of kept wanted agents key_eq is_pending is_remove is_begin is_end is_snip
too_early = refl

rising : lawful 1024 (add 15 ∷ snap ∷ []) 10 (g 20 4 2 n ∷ g 30 0 3 n ∷ g 15 10 0 (at 1) ∷ []) ≡ false
unfolding moment_of after_log after_entry after ends_of by_since begun_within since last_place subscribed limit_of kept wanted agents key_eq is_pending is_remove is_begin is_end is_snip
rising = refl

-- nor one without a BEGIN, one that goes below the limit, one with another flag, or a marker with fewer cells
no_begin : lawful 1024 (add 15 ∷ snap ∷ []) 10 (g 30 0 3 n ∷ g 20 0 2 n ∷ g 15 10 0 (at 1) ∷ []) ≡ false
unfolding moment_of after_log after_entry after ends_of by_since begun_within since last_place subscribed limit_of kept wanted agents key_eq is_pending is_remove is_begin is_end is_snip
no_begin = refl

below_the_limit : lawful 1024 (add 15 ∷ snap ∷ []) 10 (g 30 4 3 n ∷ g 20 0 2 n ∷ g 10 0 1 n ∷ g 15 10 0 (at 1) ∷ []) ≡ false
unfolding moment_of after_log after_entry after ends_of by_since begun_within since last_place subscribed limit_of kept wanted agents key_eq is_pending is_remove is_begin is_end is_snip
below_the_limit = refl

another_flag : lawful 1024 (add 15 ∷ snap ∷ []) 10 (g 30 68 3 n ∷ g 20 0 2 n ∷ g 15 10 0 (at 1) ∷ []) ≡ false
unfolding moment_of after_log after_entry after ends_of by_since begun_within since last_place subscribed limit_of kept wanted agents key_eq is_pending is_remove is_begin is_end is_snip
another_flag = refl

fewer_cells : lawful 1024 (add 15 ∷ snap ∷ []) 10 (g 30 4 3 n ∷ g 20 0 2 n ∷ record { event = record { key = ibm; index = 15; flags = 10; cells = pos 0 ∷ [] }; at = at 1 } ∷ []) ≡ false
unfolding moment_of after_log after_entry after ends_of by_since begun_within since last_place subscribed limit_of kept wanted agents key_eq is_pending is_remove is_begin is_end is_snip
fewer_cells = refl

-- an update inside a snapshot, the copied way and the swept way
an_update_inside_a_snapshot_that_was_copied : lawful 1024 (add 15 ∷ snap ∷ one (g 30 4 3 n ∷ []) ∷ put (c 30 1 4 ∷ c 20 0 5 ∷ []) ∷ one (g 20 0 2 n ∷ []) ∷ one (g 15 10 0 (at 1) ∷ []) ∷ one (g 30 1 4 n ∷ []) ∷ []) 1 (g 20 0 5 (at 2) ∷ []) ≡ true
unfolding moment_of after_log after_entry after ends_of by_since begun_within since last_place subscribed limit_of kept wanted agents key_eq is_pending is_remove is_begin is_end is_snip
an_update_inside_a_snapshot_that_was_copied = refl

copied_1 : lawful 1024 (add 15 ∷ snap ∷ one (g 30 4 3 n ∷ []) ∷ put (c 30 1 4 ∷ c 20 0 5 ∷ []) ∷ []) 1 (g 20 0 2 n ∷ []) ≡ true
unfolding moment_of after_log after_entry after ends_of by_since begun_within since last_place subscribed limit_of kept wanted agents key_eq is_pending is_remove is_begin is_end is_snip
copied_1 = refl

copied_2 : lawful 1024 (add 15 ∷ snap ∷ one (g 30 4 3 n ∷ []) ∷ put (c 30 1 4 ∷ c 20 0 5 ∷ []) ∷ one (g 20 0 2 n ∷ []) ∷ []) 1 (g 15 10 0 (at 1) ∷ []) ≡ true
unfolding moment_of after_log after_entry after ends_of by_since begun_within since last_place subscribed limit_of kept wanted agents key_eq is_pending is_remove is_begin is_end is_snip
copied_2 = refl

copied_3 : lawful 1024 (add 15 ∷ snap ∷ one (g 30 4 3 n ∷ []) ∷ put (c 30 1 4 ∷ c 20 0 5 ∷ []) ∷ one (g 20 0 2 n ∷ []) ∷ one (g 15 10 0 (at 1) ∷ []) ∷ []) 1 (g 30 1 4 n ∷ []) ≡ true
unfolding moment_of after_log after_entry after ends_of by_since begun_within since last_place subscribed limit_of kept wanted agents key_eq is_pending is_remove is_begin is_end is_snip
copied_3 = refl

swept_1 : lawful 1024 (add 15 ∷ snap ∷ one (g 30 4 3 n ∷ []) ∷ put (c 30 1 4 ∷ c 20 0 5 ∷ []) ∷ []) 1 (g 30 1 4 n ∷ []) ≡ true
unfolding moment_of after_log after_entry after ends_of by_since begun_within since last_place subscribed limit_of kept wanted agents key_eq is_pending is_remove is_begin is_end is_snip
swept_1 = refl

swept_2 : lawful 1024 (add 15 ∷ snap ∷ one (g 30 4 3 n ∷ []) ∷ put (c 30 1 4 ∷ c 20 0 5 ∷ []) ∷ one (g 30 1 4 n ∷ []) ∷ []) 1 (g 20 0 5 n ∷ []) ≡ true
unfolding moment_of after_log after_entry after ends_of by_since begun_within since last_place subscribed limit_of kept wanted agents key_eq is_pending is_remove is_begin is_end is_snip
swept_2 = refl

swept_3 : lawful 1024 (add 15 ∷ snap ∷ one (g 30 4 3 n ∷ []) ∷ put (c 30 1 4 ∷ c 20 0 5 ∷ []) ∷ one (g 30 1 4 n ∷ []) ∷ one (g 20 0 5 n ∷ []) ∷ []) 1 (g 15 10 0 (at 2) ∷ []) ≡ true
unfolding moment_of after_log after_entry after ends_of by_since begun_within since last_place subscribed limit_of kept wanted agents key_eq is_pending is_remove is_begin is_end is_snip
swept_3 = refl

swept_4 : lawful 1024 (add 15 ∷ snap ∷ one (g 30 4 3 n ∷ []) ∷ put (c 30 1 4 ∷ c 20 0 5 ∷ []) ∷ one (g 30 1 4 n ∷ []) ∷ one (g 20 0 5 n ∷ []) ∷ one (g 15 10 0 (at 2) ∷ []) ∷ []) 1 ([]) ≡ true
unfolding moment_of after_log after_entry after ends_of by_since begun_within since last_place subscribed limit_of kept wanted agents key_eq is_pending is_remove is_begin is_end is_snip
swept_4 = refl

-- a snapshot ended while an update of an index that was given is still owed and the rest is new
ended_while_owed : lawful 1024 (add 15 ∷ snap ∷ one (g 30 4 3 n ∷ []) ∷ put (c 30 1 4 ∷ c 20 0 5 ∷ []) ∷ one (g 20 0 5 n ∷ []) ∷ []) 1 (g 15 10 0 (at 2) ∷ []) ≡ false
unfolding moment_of after_log after_entry after ends_of by_since begun_within since last_place subscribed limit_of kept wanted agents key_eq is_pending is_remove is_begin is_end is_snip
ended_while_owed = refl

held_back_1 : lawful 1024 (add 15 ∷ snap ∷ ten (g 30 4 3 n ∷ g 20 0 2 n ∷ g 15 10 0 (at 1) ∷ []) ∷ put (c 30 1 4 ∷ []) ∷ []) 10 ([]) ≡ true
unfolding moment_of after_log after_entry after ends_of by_since begun_within since last_place subscribed limit_of kept wanted agents key_eq is_pending is_remove is_begin is_end is_snip
held_back_1 = refl

held_back_2 : lawful 1024 (add 15 ∷ snap ∷ ten (g 30 4 3 n ∷ g 20 0 2 n ∷ g 15 10 0 (at 1) ∷ []) ∷ put (c 30 1 4 ∷ []) ∷ ten ([]) ∷ put (c 20 1 5 ∷ []) ∷ []) 10 ([]) ≡ true
unfolding moment_of after_log after_entry after ends_of by_since begun_within since last_place subscribed limit_of kept wanted agents key_eq is_pending is_remove is_begin is_end is_snip
held_back_2 = refl

held_back_3 : lawful 1024 (add 15 ∷ snap ∷ ten (g 30 4 3 n ∷ g 20 0 2 n ∷ g 15 10 0 (at 1) ∷ []) ∷ put (c 30 1 4 ∷ []) ∷ ten ([]) ∷ put (c 20 1 5 ∷ []) ∷ ten ([]) ∷ put (c 25 0 6 ∷ []) ∷ []) 10 (g 30 1 4 n ∷ g 20 1 5 n ∷ g 25 0 6 (at 2) ∷ []) ≡ true
unfolding moment_of after_log after_entry after ends_of by_since begun_within since last_place subscribed limit_of kept wanted agents key_eq is_pending is_remove is_begin is_end is_snip
held_back_3 = refl

an_event_below_the_limit_is_left_out : lawful 1024 (add 15 ∷ snap ∷ ten (g 30 4 3 n ∷ g 20 0 2 n ∷ g 15 10 0 (at 1) ∷ []) ∷ put (c 30 1 4 ∷ c 10 0 9 ∷ []) ∷ []) 10 (g 30 0 4 (at 2) ∷ []) ≡ true
unfolding moment_of after_log after_entry after ends_of by_since begun_within since last_place subscribed limit_of kept wanted agents key_eq is_pending is_remove is_begin is_end is_snip
an_event_below_the_limit_is_left_out = refl

-- a snapshot is not begun anew at the next Take
begun_anew : lawful 1024 (add 15 ∷ snap ∷ ten (g 30 4 3 n ∷ g 20 0 2 n ∷ g 15 10 0 (at 1) ∷ []) ∷ []) 10 (g 30 4 3 n ∷ g 20 0 2 n ∷ g 15 10 0 (at 1) ∷ []) ≡ false
unfolding moment_of after_log after_entry after ends_of by_since begun_within since last_place subscribed limit_of kept wanted agents key_eq is_pending is_remove is_begin is_end is_snip
begun_anew = refl

a_pending_end_waits : lawful 1024 (add 0 ∷ put (c 30 4 3 ∷ c 0 11 0 ∷ []) ∷ []) 10 ([]) ≡ true
unfolding moment_of after_log after_entry after ends_of by_since begun_within since last_place subscribed limit_of kept wanted agents key_eq is_pending is_remove is_begin is_end is_snip
a_pending_end_waits = refl

a_pending_end_ends : lawful 1024 (add 0 ∷ put (c 30 4 3 ∷ c 0 11 0 ∷ []) ∷ ten [] ∷ put (c 40 0 4 ∷ []) ∷ []) 10 (g 40 4 4 n ∷ g 30 0 3 n ∷ g 0 10 0 (at 1) ∷ []) ≡ true
unfolding moment_of after_log after_entry after ends_of by_since begun_within since last_place subscribed limit_of kept wanted agents key_eq is_pending is_remove is_begin is_end is_snip
a_pending_end_ends = refl

snipped : lawful 1024 (add 10 ∷ put (c 30 4 3 ∷ c 25 16 2 ∷ []) ∷ []) 10 (g 30 4 3 n ∷ g 25 16 2 (at 1) ∷ []) ≡ true
unfolding moment_of after_log after_entry after ends_of by_since begun_within since last_place subscribed limit_of kept wanted agents key_eq is_pending is_remove is_begin is_end is_snip
snipped = refl

not_far_enough : lawful 1024 (add 5 ∷ put (c 30 4 3 ∷ c 20 8 2 ∷ []) ∷ []) 10 ([]) ≡ true
unfolding moment_of after_log after_entry after ends_of by_since begun_within since last_place subscribed limit_of kept wanted agents key_eq is_pending is_remove is_begin is_end is_snip
not_far_enough = refl

far_enough : lawful 1024 (add 5 ∷ put (c 30 4 3 ∷ c 20 8 2 ∷ []) ∷ ten [] ∷ put (c 30 4 3 ∷ c 20 0 2 ∷ c 0 10 0 ∷ []) ∷ []) 10 (g 30 4 3 n ∷ g 20 0 2 n ∷ g 5 10 0 (at 2) ∷ []) ≡ true
unfolding moment_of after_log after_entry after ends_of by_since begun_within since last_place subscribed limit_of kept wanted agents key_eq is_pending is_remove is_begin is_end is_snip
far_enough = refl

ended_at_a_floor_that_was_not_snipped : lawful 1024 (add 5 ∷ put (c 30 4 3 ∷ c 20 8 2 ∷ []) ∷ []) 10 (g 30 4 3 n ∷ g 20 8 2 (at 1) ∷ []) ≡ false
unfolding moment_of after_log after_entry after ends_of by_since begun_within since last_place subscribed limit_of kept wanted agents key_eq is_pending is_remove is_begin is_end is_snip
ended_at_a_floor_that_was_not_snipped = refl

an_overflow_begins_anew : lawful 2 (add 15 ∷ snap ∷ ten (g 30 4 3 n ∷ g 20 0 2 n ∷ g 15 10 0 (at 1) ∷ []) ∷ put (c 30 1 4 ∷ c 20 1 5 ∷ c 25 0 6 ∷ []) ∷ []) 10 (g 30 4 4 n ∷ g 25 0 6 n ∷ g 20 0 5 n ∷ g 15 10 0 (at 2) ∷ []) ≡ true
unfolding moment_of after_log after_entry after ends_of by_since begun_within since last_place subscribed limit_of kept wanted agents key_eq is_pending is_remove is_begin is_end is_snip
an_overflow_begins_anew = refl

an_overflow_owes_nothing : lawful 2 (add 15 ∷ snap ∷ ten (g 30 4 3 n ∷ g 20 0 2 n ∷ g 15 10 0 (at 1) ∷ []) ∷ put (c 30 1 4 ∷ c 20 1 5 ∷ c 25 0 6 ∷ []) ∷ []) 10 (g 30 1 4 n ∷ g 20 1 5 n ∷ g 25 0 6 (at 2) ∷ []) ≡ false
unfolding moment_of after_log after_entry after ends_of by_since begun_within since last_place subscribed limit_of kept wanted agents key_eq is_pending is_remove is_begin is_end is_snip
an_overflow_owes_nothing = refl

no_overflow_owes_all : lawful 3 (add 15 ∷ snap ∷ ten (g 30 4 3 n ∷ g 20 0 2 n ∷ g 15 10 0 (at 1) ∷ []) ∷ put (c 30 1 4 ∷ c 20 1 5 ∷ c 25 0 6 ∷ []) ∷ []) 10 (g 30 1 4 n ∷ g 20 1 5 n ∷ g 25 0 6 (at 2) ∷ []) ≡ true
unfolding moment_of after_log after_entry after ends_of by_since begun_within since last_place subscribed limit_of kept wanted agents key_eq is_pending is_remove is_begin is_end is_snip
no_overflow_owes_all = refl

no_overflow_begins_nothing : lawful 3 (add 15 ∷ snap ∷ ten (g 30 4 3 n ∷ g 20 0 2 n ∷ g 15 10 0 (at 1) ∷ []) ∷ put (c 30 1 4 ∷ c 20 1 5 ∷ c 25 0 6 ∷ []) ∷ []) 10 (g 30 4 4 n ∷ g 25 0 6 n ∷ g 20 0 5 n ∷ g 15 10 0 (at 2) ∷ []) ≡ false
unfolding moment_of after_log after_entry after ends_of by_since begun_within since last_place subscribed limit_of kept wanted agents key_eq is_pending is_remove is_begin is_end is_snip
no_overflow_begins_nothing = refl

-- a swept snapshot gives the present cells, and the last event of a share that is passed in part keeps its TX_PENDING
a_sweep_1 : lawful 1024 (add 0 ∷ snap ∷ one (g 30 4 3 n ∷ []) ∷ put (c 30 1 4 ∷ c 10 0 9 ∷ []) ∷ []) 1 (g 30 1 4 n ∷ []) ≡ true
unfolding moment_of after_log after_entry after ends_of by_since begun_within since last_place subscribed limit_of kept wanted agents key_eq is_pending is_remove is_begin is_end is_snip
a_sweep_1 = refl

a_sweep_2 : lawful 1024 (add 0 ∷ snap ∷ one (g 30 4 3 n ∷ []) ∷ put (c 30 1 4 ∷ c 10 0 9 ∷ []) ∷ one (g 30 1 4 n ∷ []) ∷ []) 1 (g 20 0 2 n ∷ []) ≡ true
unfolding moment_of after_log after_entry after ends_of by_since begun_within since last_place subscribed limit_of kept wanted agents key_eq is_pending is_remove is_begin is_end is_snip
a_sweep_2 = refl

a_sweep_3 : lawful 1024 (add 0 ∷ snap ∷ one (g 30 4 3 n ∷ []) ∷ put (c 30 1 4 ∷ c 10 0 9 ∷ []) ∷ one (g 30 1 4 n ∷ []) ∷ one (g 20 0 2 n ∷ []) ∷ []) 1 (g 10 0 9 n ∷ []) ≡ true
unfolding moment_of after_log after_entry after ends_of by_since begun_within since last_place subscribed limit_of kept wanted agents key_eq is_pending is_remove is_begin is_end is_snip
a_sweep_3 = refl

a_sweep_4 : lawful 1024 (add 0 ∷ snap ∷ one (g 30 4 3 n ∷ []) ∷ put (c 30 1 4 ∷ c 10 0 9 ∷ []) ∷ one (g 30 1 4 n ∷ []) ∷ one (g 20 0 2 n ∷ []) ∷ one (g 10 0 9 n ∷ []) ∷ []) 1 (g 0 10 0 (at 2) ∷ []) ≡ true
unfolding moment_of after_log after_entry after ends_of by_since begun_within since last_place subscribed limit_of kept wanted agents key_eq is_pending is_remove is_begin is_end is_snip
a_sweep_4 = refl

a_sweep_5 : lawful 1024 (add 0 ∷ snap ∷ one (g 30 4 3 n ∷ []) ∷ put (c 30 1 4 ∷ c 10 0 9 ∷ []) ∷ one (g 30 1 4 n ∷ []) ∷ one (g 20 0 2 n ∷ []) ∷ one (g 10 0 9 n ∷ []) ∷ one (g 0 10 0 (at 2) ∷ []) ∷ []) 1 ([]) ≡ true
unfolding moment_of after_log after_entry after ends_of by_since begun_within since last_place subscribed limit_of kept wanted agents key_eq is_pending is_remove is_begin is_end is_snip
a_sweep_5 = refl

-- an item of a share has the share's cells
other_cells : lawful 1024 (add 15 ∷ snap ∷ one (g 30 4 3 n ∷ []) ∷ put (c 30 1 4 ∷ c 20 0 5 ∷ []) ∷ []) 1 (g 30 1 9 n ∷ []) ≡ false
unfolding moment_of after_log after_entry after ends_of by_since begun_within since last_place subscribed limit_of kept wanted agents key_eq is_pending is_remove is_begin is_end is_snip
other_cells = refl

-- a marker has as many cells as the BEGIN, whatever came after it
cells_of_the_begin : lawful 1024 (add 15 ∷ snap ∷ put (record { key = ibm; index = 30; flags = 0; cells = pos 4 ∷ [] } ∷ []) ∷ []) 10 (record { event = record { key = ibm; index = 30; flags = 4; cells = pos 4 ∷ [] }; at = n } ∷ g 20 0 2 n ∷ g 15 10 0 (at 2) ∷ []) ≡ true
unfolding moment_of after_log after_entry after ends_of by_since begun_within since last_place subscribed limit_of kept wanted agents key_eq is_pending is_remove is_begin is_end is_snip
cells_of_the_begin = refl

-- a snapshot that goes on through a possible overflow, or begins anew; the next item ends the choice
an_unsettled_pair_goes_on : lawful 1 (add 15 ∷ snap ∷ one (g 30 4 3 n ∷ []) ∷ put (c 30 1 4 ∷ c 20 0 5 ∷ []) ∷ []) 1 (g 20 0 2 n ∷ []) ≡ true
unfolding moment_of after_log after_entry after ends_of by_since begun_within since last_place subscribed limit_of kept wanted agents key_eq is_pending is_remove is_begin is_end is_snip
an_unsettled_pair_goes_on = refl

an_unsettled_pair_begins_anew : lawful 1 (add 15 ∷ snap ∷ one (g 30 4 3 n ∷ []) ∷ put (c 30 1 4 ∷ c 20 0 5 ∷ []) ∷ []) 1 (g 30 4 4 n ∷ []) ≡ true
unfolding moment_of after_log after_entry after ends_of by_since begun_within since last_place subscribed limit_of kept wanted agents key_eq is_pending is_remove is_begin is_end is_snip
an_unsettled_pair_begins_anew = refl

an_overflow_is_over : lawful 1 (add 15 ∷ snap ∷ one (g 30 4 3 n ∷ []) ∷ put (c 30 1 4 ∷ c 20 0 5 ∷ []) ∷ one (g 20 0 2 n ∷ []) ∷ []) 1 (g 30 4 4 n ∷ []) ≡ false
unfolding moment_of after_log after_entry after ends_of by_since begun_within since last_place subscribed limit_of kept wanted agents key_eq is_pending is_remove is_begin is_end is_snip
an_overflow_is_over = refl

-- a commit of which nothing is for the agent is no overflow
an_empty_share_overflows_nothing : lawful 1 (add 15 ∷ snap ∷ one (g 30 4 3 n ∷ []) ∷ put (c 30 1 4 ∷ c 20 0 5 ∷ []) ∷ one (g 20 0 2 n ∷ []) ∷ put (c 10 0 9 ∷ []) ∷ []) 1 (g 30 4 4 n ∷ []) ≡ false
unfolding moment_of after_log after_entry after ends_of by_since begun_within since last_place subscribed limit_of kept wanted agents key_eq is_pending is_remove is_begin is_end is_snip
an_empty_share_overflows_nothing = refl

-- two keys
abbrev abc : Key
abc = record { rec = 4; sym = 66 ∷ [] }

abbrev d : ℕ → ℕ → ℕ → Event
d i f v = record { key = abc; index = i; flags = f; cells = five v }

abbrev h : ℕ → ℕ → ℕ → Option ℕ → HistItem
h i f v at = record { event = d i f v; at = at }

abbrev both : List HistoryEntry → List HistoryEntry
both es =
    entry 0 (Add 0 (some (record { key = ibm; limit = 0 } ∷ record { key = abc; limit = 0 } ∷ []))) Done
    ∷ put (c 30 4 3 ∷ c 0 10 0 ∷ d 30 4 5 ∷ d 0 10 0 ∷ []) ∷ es

keys_in_the_order_in_which_they_became_due : lawful 1024 (both ([])) 10 (g 30 4 3 n ∷ g 0 10 0 (at 1) ∷ h 30 4 5 n ∷ h 0 10 0 (at 2) ∷ []) ≡ true
unfolding moment_of after_log after_entry after ends_of by_since begun_within since last_place subscribed limit_of kept wanted agents key_eq is_pending is_remove is_begin is_end is_snip
keys_in_the_order_in_which_they_became_due = refl

keys_in_the_other_order : lawful 1024 (both ([])) 10 (h 30 4 5 n ∷ h 0 10 0 (at 2) ∷ g 30 4 3 n ∷ g 0 10 0 (at 1) ∷ []) ≡ false
unfolding moment_of after_log after_entry after ends_of by_since begun_within since last_place subscribed limit_of kept wanted agents key_eq is_pending is_remove is_begin is_end is_snip
keys_in_the_other_order = refl

one_key_of_two : lawful 1024 (both ([])) 10 (g 30 4 3 n ∷ g 0 10 0 (at 1) ∷ []) ≡ false
unfolding moment_of after_log after_entry after ends_of by_since begun_within since last_place subscribed limit_of kept wanted agents key_eq is_pending is_remove is_begin is_end is_snip
one_key_of_two = refl

keys_by_turns : lawful 1024 (both ([])) 10 (g 30 4 3 n ∷ h 30 4 5 n ∷ g 0 10 0 (at 1) ∷ h 0 10 0 (at 2) ∷ []) ≡ false
unfolding moment_of after_log after_entry after ends_of by_since begun_within since last_place subscribed limit_of kept wanted agents key_eq is_pending is_remove is_begin is_end is_snip
keys_by_turns = refl

a_key_that_fills_a_take_goes_to_the_back : lawful 1024 (both (one (g 30 4 3 n ∷ []) ∷ [])) 1 (h 30 4 5 n ∷ []) ≡ true
unfolding moment_of after_log after_entry after ends_of by_since begun_within since last_place subscribed limit_of kept wanted agents key_eq is_pending is_remove is_begin is_end is_snip
a_key_that_fills_a_take_goes_to_the_back = refl

a_key_that_filled_a_take_comes_again : lawful 1024 (both (one (g 30 4 3 n ∷ []) ∷ [])) 1 (g 0 10 0 (at 1) ∷ []) ≡ false
unfolding moment_of after_log after_entry after ends_of by_since begun_within since last_place subscribed limit_of kept wanted agents key_eq is_pending is_remove is_begin is_end is_snip
a_key_that_filled_a_take_comes_again = refl

a_key_that_is_served_in_part : lawful 1024 (both ([])) 3 (g 30 4 3 n ∷ g 0 10 0 (at 1) ∷ h 30 4 5 n ∷ []) ≡ true
unfolding moment_of after_log after_entry after ends_of by_since begun_within since last_place subscribed limit_of kept wanted agents key_eq is_pending is_remove is_begin is_end is_snip
a_key_that_is_served_in_part = refl

-- a pair is not settled while a possible overflow came after its last item, though it is ended; so the next overflow is not sure
an_overflow_that_is_not_sure : lawful 1 (both (taking 3 (g 30 4 3 n ∷ g 0 10 0 (at 1) ∷ h 30 4 5 n ∷ []) ∷ put (c 30 1 4 ∷ c 20 0 6 ∷ []) ∷ one (h 0 10 0 (at 2) ∷ []) ∷ put (c 30 0 7 ∷ []) ∷ [])) 1 (g 30 1 4 n ∷ []) ≡ true
unfolding moment_of after_log after_entry after ends_of by_since begun_within since last_place subscribed limit_of kept wanted agents key_eq is_pending is_remove is_begin is_end is_snip
an_overflow_that_is_not_sure = refl

an_overflow_that_is_possible : lawful 1 (both (taking 3 (g 30 4 3 n ∷ g 0 10 0 (at 1) ∷ h 30 4 5 n ∷ []) ∷ put (c 30 1 4 ∷ c 20 0 6 ∷ []) ∷ one (h 0 10 0 (at 2) ∷ []) ∷ put (c 30 0 7 ∷ []) ∷ [])) 1 (g 30 4 7 n ∷ []) ≡ true
unfolding moment_of after_log after_entry after ends_of by_since begun_within since last_place subscribed limit_of kept wanted agents key_eq is_pending is_remove is_begin is_end is_snip
an_overflow_that_is_possible = refl

-- an agent is behind on all its keys together
an_overflow_by_another_key : lawful 3 (both (ten (g 30 4 3 n ∷ g 0 10 0 (at 1) ∷ h 30 4 5 n ∷ h 0 10 0 (at 2) ∷ []) ∷ put (c 30 1 4 ∷ c 20 0 6 ∷ []) ∷ put (d 30 1 7 ∷ d 20 0 8 ∷ []) ∷ [])) 10 (g 30 1 4 n ∷ g 20 0 6 (at 3) ∷ h 30 4 7 n ∷ h 20 0 8 n ∷ h 0 10 0 (at 4) ∷ []) ≡ true
unfolding moment_of after_log after_entry after ends_of by_since begun_within since last_place subscribed limit_of kept wanted agents key_eq is_pending is_remove is_begin is_end is_snip
an_overflow_by_another_key = refl

-- numbers go on from the base
numbered_from_the_base : take_ok (terms_of 1024 7) 0 10 (g 0 14 0 (at 8) ∷ []) (moment_of (add 0 ∷ put (c 0 14 0 ∷ []) ∷ [])) ≡ true
unfolding moment_of after_log after_entry after ends_of by_since begun_within since last_place subscribed limit_of kept wanted agents key_eq is_pending is_remove is_begin is_end is_snip
numbered_from_the_base = refl

-- what is kept: the indexes at or above the floor, and the events that are held back
three_kept_one_held_back : stock 0 (moment_of (add 15 ∷ snap ∷ put (c 30 1 4 ∷ []) ∷ [])) ≡ 4
unfolding stock moment_of after_log after_entry after by_since begun_within since subscribed limit_of kept wanted agents key_eq is_pending is_remove is_begin is_end is_snip
three_kept_one_held_back = refl

nothing_kept_below_the_floor : stock 0 (moment_of (add 5 ∷ put (c 30 4 3 ∷ c 20 8 2 ∷ []) ∷ put (c 10 0 1 ∷ []) ∷ [])) ≡ 2
unfolding stock moment_of after_log after_entry after by_since begun_within since subscribed limit_of kept wanted agents key_eq is_pending is_remove is_begin is_end is_snip
nothing_kept_below_the_floor = refl

-- numbers end at 2^63
the_last_number : refusal (2 ^ 63 - 1) [] (Put (some (c 0 14 0 ∷ []))) ≡ None
unfolding refusal is_full is_spent stock by_since begun_within wanted agents
the_last_number = refl

no_number_is_left : refusal (2 ^ 63) [] (Put (some (c 0 14 0 ∷ []))) ≡ Some Spent
unfolding refusal is_full is_spent stock by_since begun_within wanted agents
no_number_is_left = refl

-- only an Add and a Put may want memory
a_put_may_want_memory : IsLawful (terms_of 0 0) [] (Put (some (c 0 14 0 ∷ []))) NoMemory
unfolding IsLawful refusal is_full is_spent stock by_since begun_within wanted agents
a_put_may_want_memory = inr (tt, refl)

an_add_may_want_memory : IsLawful (terms_of 0 0) [] (Add 0 (some (record { key = ibm; limit = 0 } ∷ []))) NoMemory
unfolding IsLawful refusal too_many_keys too_many_subs held_keys held_pairs fresh by_since begun_within key_eq
an_add_may_want_memory = inr (tt, refl)

a_remove_wants_none : (t : Terms) (m : HistMoment) (a : ℕ) (keys : Filled Key) → IsLawful t m (Remove a keys) NoMemory → ⊥
unfolding IsLawful refusal
a_remove_wants_none t m a keys (inl h) = cc h
a_remove_wants_none t m a keys (inr h) = h.0

a_close_wants_none : (t : Terms) (m : HistMoment) (a : ℕ) → IsLawful t m (Close a) NoMemory → ⊥
unfolding IsLawful refusal
a_close_wants_none t m a (inl h) = cc h
a_close_wants_none t m a (inr h) = h.0

a_take_wants_none : (t : Terms) (m : HistMoment) (a most : ℕ) (out : Filled HistItem) → IsLawful t m (Take a most out) NoMemory → ⊥
unfolding IsLawful refusal
a_take_wants_none t m a most out (inl h) = cc h.1
a_take_wants_none t m a most out (inr h) = h.0

a_watch_wants_none : (t : Terms) (m : HistMoment) (w most : ℕ) (out : Filled Want) → IsLawful t m (Watch w most out) NoMemory → ⊥
unfolding IsLawful refusal
a_watch_wants_none t m w most out (inl h) = cc h
a_watch_wants_none t m w most out (inr h) = h.0
