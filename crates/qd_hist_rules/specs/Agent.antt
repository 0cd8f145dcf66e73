-- What stands between an agent and a key: its floor, its snapshot so far, and the shares of the commits.
use Rattle.std.specs.Prelude.{ℕ, Bool, true, false, nat_le, nat_lt, List, [], ◌∷◌, length, filter, map, flat_map, reverse, drop, Option, Some, None, is_some, if◌then◌else◌}
use Rattle.qd_scheme.specs.declared.key.Key.{Key}
use Rattle.qd_scheme.specs.declared.key.Event.{Event}
use Rattle.qd_flags.specs.Bits.{is_remove, is_begin}
use Rattle.qd_flags.specs.Shown.{Map, Shown, first_end}
use Rattle.qd_flags.specs.Following.{over}
use Rattle.qd_sub.specs.Subscriptions.{limit_of}
use Rattle.qd_hist_rules.specs.declared.floor.AgentFloor.{AgentFloor}
use Rattle.qd_hist_rules.specs.declared.item.HistItem.{HistItem}
use Rattle.qd_hist_rules.specs.Moments.{HistMoment, events, given, begins}
use Rattle.qd_hist_rules.specs.Source.{Commit, commits, last, count}

-- the floor where what a source shows meets a limit: the limit, where the source's floor is not above it; else the source's, where it was snipped there; else they do not fit
abbrev pub floor_for : ℕ → Shown → Option AgentFloor
floor_for limit source =
    if nat_le source.floor limit then Some (record { index = limit; by_snip = false })
    else if source.snipped then Some (record { index = source.floor; by_snip = true })
    else None

abbrev pub meet : Option ℕ → Option Commit → Option AgentFloor
meet (Some limit) (Some c) = floor_for limit c.shown
meet (Some limit) None = None
meet None c = None

-- the agent's floor; none where the pair does not fit
abbrev pub agent_floor : ℕ → ℕ → Key → HistMoment → Option AgentFloor
agent_floor base a k now = meet (limit_of a k now) (last base k now)

-- the moment just after the last BEGIN of k was given to a
abbrev pub begin_moment : ℕ → Key → HistMoment → HistMoment
begin_moment a k [] = []
begin_moment a k (act ∷ past) = if begins a k act then act ∷ past else begin_moment a k past

-- the items given from the last BEGIN on
abbrev pub since_begin_given : List HistItem → List HistItem
since_begin_given [] = []
since_begin_given (i ∷ is) = if is_begin i.event then i ∷ [] else i ∷ since_begin_given is

-- the items that a was given of k from the last BEGIN on, the newest first
abbrev pub snapshot : ℕ → Key → HistMoment → List HistItem
snapshot a k now = since_begin_given (given a k now)

-- of the items from a BEGIN on, those after the first that ends the snapshot
abbrev pub after_end : List HistItem → List HistItem
after_end [] = []
after_end (i ∷ is) = if is_some (first_end (events is)) then i ∷ after_end is else []

-- of the items from a BEGIN on, the number at the first that ends the snapshot
abbrev pub at_end : List HistItem → Option ℕ
at_end [] = None
at_end (i ∷ is) = if is_some (first_end (events is)) then at_end is else i.at

-- flags with TX_PENDING (0x01) and REMOVE_EVENT (0x02), or not, and with no other
abbrev pub passed_flags : Bool → Bool → ℕ
passed_flags false false = 0
passed_flags true false = 1
passed_flags false true = 2
passed_flags true true = 3

-- the event as it is passed on: with its REMOVE_EVENT, with TX_PENDING or not, and with no other flag
abbrev pub passed : Bool → Event → Event
passed pending e = record { key = e.key; index = e.index; flags = passed_flags pending (is_remove e); cells = e.cells }

-- events as they are passed on, with TX_PENDING on all but the last; the newest first
abbrev pub passed_all : List Event → List Event
passed_all [] = []
passed_all (e ∷ es) = passed false e ∷ map (passed true) es

-- the events of a commit at or above a floor
abbrev pub above : ℕ → Commit → List Event
above floor c = filter (λ e. nat_le floor e.index) c.events

abbrev pub share_from : Option AgentFloor → Commit → List Event
share_from None c = []
share_from (Some f) c = passed_all (above f.index c)

-- the share of a commit: its events at or above the agent's floor, as they are passed on
abbrev pub share : ℕ → ℕ → Key → HistMoment → Commit → List Event
share base a k now c = share_from (agent_floor base a k now) c

-- the items of a share: the last one has the commit's number; the newest first
abbrev pub numbered : ℕ → List Event → List HistItem
numbered n [] = []
numbered n (e ∷ es) = record { event = e; at = Some n } ∷ map (λ d. record { event = d; at = None }) es

-- the items of the shares of the commits of k after number n, in order
abbrev pub shares_after : ℕ → ℕ → Key → HistMoment → ℕ → List HistItem
shares_after base a k now n = reverse (flat_map (λ c. numbered c.number (share base a k now c)) (filter (λ c. nat_lt n c.number) (commits base k now)))

-- the items of the shares of the commits since the BEGIN that a was last given
abbrev pub shares_since_begin : ℕ → ℕ → Key → HistMoment → List HistItem
shares_since_begin base a k now = shares_after base a k now (count base (begin_moment a k now))

abbrev pub owed_after : ℕ → ℕ → Key → HistMoment → Option ℕ → List HistItem
owed_after base a k now None = []
owed_after base a k now (Some n) = drop (length (after_end (snapshot a k now))) (shares_after base a k now n)

-- what is owed after the end of a snapshot: the shares after the number of the ending item, without the items given since that item
abbrev pub owed : ℕ → ℕ → Key → HistMoment → List HistItem
owed base a k now = owed_after base a k now (at_end (snapshot a k now))

-- a map at or above a floor after one more item
abbrev pub with_item : ℕ → HistItem → Map → Map
with_item floor i m = over floor (i.event ∷ []) m

-- and after items in order
abbrev pub with_items : ℕ → Map → List HistItem → Map
with_items floor m [] = m
with_items floor m (i ∷ is) = with_items floor (with_item floor i m) is
