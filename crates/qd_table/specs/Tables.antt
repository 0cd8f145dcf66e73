-- What a stripe knows of its subscriptions, its held pairs and its watchers, slot by slot.
use Rattle.std.specs.Prelude.{ℕ, zero, suc, ◌+◌, ◌*◌, Bool, false, ◌&&◌, ◌||◌, not, nat_eq, nat_lt, if◌then◌else◌, Option, Some, None, is_some, List, [], ◌∷◌, length, map, take, replicate}
use Rattle.std.specs.List.{list_any, filter, filter_map, cons_option}
use Rattle.qd_scheme.specs.declared.key.Key.{Key}
use Rattle.qd_sub.specs.declared.sub.Sub.{Sub}
use Rattle.qd_sub.specs.declared.sub.Want.{Want}
use Rattle.qd_sub.specs.Holding.{fresh}
use Rattle.qd_sub.specs.Subscriptions.{least}
use Rattle.qd_pend.specs.Slots.{next_in}
use Rattle.qd_slots.specs.declared.holds.Hold.{Hold}
use Rattle.qd_slots.specs.declared.views.View.{View}
use Rattle.qd_table.specs.declared.table.SubFault.{SubFault}
use Rattle.qd_table.specs.declared.table.SubFault.TheVariants.{TooManyKeys, TooManySubs}
use Rattle.qd_slots.specs.Views.{Viewing, no_viewing, view_at, viewing_at, view_differs}
use Rattle.qd_slots.specs.Names.{slot_in, name_at}
use Rattle.qd_slots.specs.Holds.{Holdings, no_order, cell_at, order_at, hold_at, limit_in, is_held, is_subscribed}

-- the key of each slot, what agents have of it, what each watcher knows of it, and for which agent there is room for how many subscriptions
pub record Table : Type 0 where
  pub names : List (Option Key)
  pub holdings : Holdings
  pub viewings : List Viewing
  pub agent : ℕ
  pub room : ℕ

-- a number above all slots
unfoldable pub slots_in : Table → ℕ
slots_in t = length t.names

-- the key of a slot; none where the slot is vacant
unfoldable pub key_at : Table → ℕ → Option Key
key_at t slot = name_at t.names slot

-- the slot of a key
unfoldable pub slot_for : Table → Key → Option ℕ
slot_for t k = slot_in t.names k

-- the keys of these slots
unfoldable pub keys_at : Table → List ℕ → List Key
keys_at t slots = filter_map (key_at t) slots

-- all keys that have a slot
unfoldable pub keys_in : Table → List Key
keys_in t = filter_map (λ name. name) t.names

-- what an agent has of a slot
unfoldable pub hold_for : Table → ℕ → ℕ → Hold
hold_for t a slot = hold_at t.holdings.cells slot a

-- the limit of an agent's subscription to a slot
unfoldable pub limit_for : Table → ℕ → ℕ → Option ℕ
limit_for t a slot = limit_in (cell_at t.holdings.cells slot) a

-- an agent's slots, in the order in which its subscriptions began
unfoldable pub order_of : Table → ℕ → List ℕ
order_of t a = (order_at t.holdings.orders a).list

-- the numbers below one
unfoldable pub below : ℕ → List ℕ
below zero = []
below (suc n) = n ∷ below n

-- the least limit of the agents that are subscribed to a slot
unfoldable pub total_for : Table → ℕ → Option ℕ
total_for t slot = least (filter_map (λ a. limit_for t a slot) (below 128))

-- some agent is subscribed to the slot
unfoldable pub is_wanted_slot : Table → ℕ → Bool
is_wanted_slot t slot = list_any (λ a. is_subscribed (hold_for t a slot)) (below 128)

-- how many pairs of an agent and a slot are held
unfoldable pub pairs_in : Table → ℕ
pairs_in t = t.holdings.pairs

-- what a watcher knows of a slot
unfoldable pub view_for : Table → ℕ → ℕ → View
view_for t w slot = view_at (viewing_at t.viewings w).views slot

-- the slots that differ for a watcher, in order
unfoldable pub queue_of : Table → ℕ → List ℕ
queue_of t w = (viewing_at t.viewings w).queue.list

-- the slot differs for the watcher
unfoldable pub differs_for : Table → ℕ → ℕ → Bool
differs_for t w slot = view_differs (view_for t w slot) (total_for t slot)

-- the total that a watcher is to be told of a slot
unfoldable pub total_to_tell : Table → ℕ → ℕ → Option ℕ
total_to_tell t w slot = if (view_for t w slot).outdated then None else total_for t slot

-- what a watcher is to be told of a slot
unfoldable pub want_for : Table → ℕ → ℕ → Option Want
want_for t w slot = elim (key_at t slot) [ None ↦ None | Some k ↦ Some (record { key = k; total = total_to_tell t w slot }) ]

-- what a watcher is told if it asks for so many
unfoldable pub wants_for : Table → ℕ → ℕ → List Want
wants_for t w max = filter_map (want_for t w) (take max (queue_of t w))

-- what it is told of one slot, if there is one
abbrev pub wants_at : Table → ℕ → Option ℕ → List Want
wants_at t w None = []
wants_at t w (Some slot) = cons_option (want_for t w slot) []

-- the slot that comes next, if there is one
abbrev pub slot_after : List ℕ → Option ℕ → Option ℕ
slot_after queue None = None
slot_after queue (Some slot) = next_in queue slot

-- an agent has something of the slot, or a watcher knows a total of it
unfoldable pub is_used : Table → ℕ → Bool
is_used t slot = list_any (λ a. is_held (hold_for t a slot)) (below 128) || list_any (λ w. is_some (view_for t w slot).known) (below 8)

-- how many subscriptions of an agent there is room for
unfoldable pub room_for : Table → ℕ → ℕ
room_for t a = if nat_eq a t.agent then t.room else 0

-- by key: an agent's limit, whether it holds the key, the total, what a watcher knows of it, and whether that is outdated
unfoldable pub limit_by : Table → ℕ → Key → Option ℕ
limit_by t a k = elim (slot_for t k) [ None ↦ None | Some slot ↦ limit_for t a slot ]

unfoldable pub holds_by : Table → ℕ → Key → Bool
holds_by t a k = elim (slot_for t k) [ None ↦ false | Some slot ↦ is_held (hold_for t a slot) ]

unfoldable pub total_by : Table → Key → Option ℕ
total_by t k = elim (slot_for t k) [ None ↦ None | Some slot ↦ total_for t slot ]

unfoldable pub known_by : Table → ℕ → Key → Option ℕ
known_by t w k = elim (slot_for t k) [ None ↦ None | Some slot ↦ (view_for t w slot).known ]

unfoldable pub outdated_by : Table → ℕ → Key → Bool
outdated_by t w k = elim (slot_for t k) [ None ↦ false | Some slot ↦ (view_for t w slot).outdated ]

-- 1 where the agent is subscribed to the slot
unfoldable pub bit_at : Table → ℕ → ℕ → ℕ
bit_at t slot a = if is_subscribed (hold_for t a slot) then 1 else 0

-- one bit for each of so many agents from one on, that one in the lowest place
unfoldable pub bits_from : Table → ℕ → ℕ → ℕ → ℕ
bits_from t slot a zero = 0
bits_from t slot a (suc n) = bit_at t slot a + 2 * bits_from t slot (suc a) n

-- one bit for each agent of a key, agent 0 in the lowest place
unfoldable pub agent_bits : Table → Key → ℕ
agent_bits t k = elim (slot_for t k) [ None ↦ 0 | Some slot ↦ bits_from t slot 0 128 ]

-- the keys that an agent holds
unfoldable pub keys_held : Table → ℕ → List Key
keys_held t a = filter (holds_by t a) (keys_in t)

-- with these keys, more keys are held than may be
unfoldable pub too_many_keys : Table → List Key → Bool
too_many_keys t keys = nat_lt 16384 (length (keys_in t) + length (fresh (keys_in t) keys))

-- with these keys of an agent, more pairs are held than may be
unfoldable pub too_many_subs : Table → ℕ → List Key → Bool
too_many_subs t a keys = nat_lt 262144 (pairs_in t + length (fresh (keys_held t a) keys))

-- why an agent may not subscribe to these: the first reason that applies
unfoldable pub fault_of : Table → ℕ → List Sub → Option SubFault
fault_of t a subs =
    if too_many_keys t (map (λ s. s.key) subs) then Some TooManyKeys else if too_many_subs t a (map (λ s. s.key) subs) then Some TooManySubs else None

-- the key of the first slot of an agent's order
unfoldable pub first_key : Table → ℕ → Option Key
first_key t a = elim (order_of t a) [ [] ↦ None | slot ∷ slots ↦ key_at t slot ]

-- some agent is subscribed to a key
unfoldable pub is_wanted_key : Table → Key → Bool
is_wanted_key t k = elim (slot_for t k) [ None ↦ false | Some slot ↦ is_wanted_slot t slot ]

-- the key was wanted, and is no more
unfoldable pub becomes_unwanted : Table → Table → Key → Bool
becomes_unwanted old new k = is_wanted_key old k && not (is_wanted_key new k)

-- no slots, and each watcher knows nothing
abbrev pub no_table : Table
no_table = record {
  names = [];
  holdings = record { cells = []; orders = replicate 128 no_order; pairs = 0 };
  viewings = replicate 8 no_viewing;
  agent = 0;
  room = 0;
}
