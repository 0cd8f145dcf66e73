-- How far an agent has come with a key: whether its snapshot is begun, ended and settled, how far it is behind, and whether it is due.
use Rattle.std.specs.Prelude.{ℕ, ◌+◌, Bool, false, ◌&&◌, ◌||◌, not, ◌==◌, nat_lt, List, [], ◌∷◌, length, map, sum, Option, Some, None, is_some, if◌then◌else◌}
use Rattle.std.specs.List.{list_any}
use Rattle.qd_scheme.specs.declared.key.Key.{Key}
use Rattle.qd_scheme.specs.declared.key.Event.{Event}
use Rattle.qd_flags.specs.Shown.{first_end}
use Rattle.qd_gate.specs.declared.machine.Terms.{Terms}
use Rattle.qd_sub.specs.Acts.{newest_key}
use Rattle.qd_sub.specs.Since.{by_since}
use Rattle.qd_sub.specs.Subscriptions.{subscribed, keys_of}
use Rattle.qd_hist_rules.specs.Moments.{HistAct, HistMoment, events, gives, begins, subscribes, fills}
use Rattle.qd_hist_rules.specs.Source.{Commit, made, is_snapshot}
use Rattle.qd_hist_rules.specs.Agent.{agent_floor, snapshot, share, shares_since_begin, owed}

-- Restarts, possible overflows and what is begun depend on one another at the moment before a Put. So one fold over the moment
-- tells two facts of each pair of an agent and a key, and all else follows from them.
pub record Standing : Type 0 where
  -- a BEGIN was given since the last restart
  pub begin_given : Bool
  -- a possible overflow came since the last given item
  pub overflowed : Bool

-- Below, `each` tells the standing of the agent a with each key at the moment now.

-- subscribed, and a BEGIN was given since the last restart
abbrev pub begun_by : (Key → Standing) → ℕ → Key → HistMoment → Bool
begun_by each a k now = subscribed a k now && (each k).begin_given

-- begun, and an END or SNIP was given since the last BEGIN, by the same item or a later one
abbrev pub ended_by : (Key → Standing) → ℕ → Key → HistMoment → Bool
ended_by each a k now = begun_by each a k now && is_some (first_end (events (snapshot a k now)))

-- ended, and no possible overflow came since the last given item
abbrev pub settled_by : (Key → Standing) → ℕ → Key → HistMoment → Bool
settled_by each a k now = ended_by each a k now && not (each k).overflowed

-- how many events the agent is behind: of an ended pair those owed, of a begun one the shares since its BEGIN
abbrev pub behind_by : (Key → Standing) → ℕ → ℕ → Key → HistMoment → ℕ
behind_by each base a k now =
    if ended_by each a k now then length (owed base a k now)
    else if begun_by each a k now then length (shares_since_begin base a k now)
    else 0

-- how many events the agent is behind on all its keys together
abbrev pub behind_in_all : (Key → Standing) → ℕ → ℕ → HistMoment → ℕ
behind_in_all each base a now = sum (map (λ k. behind_by each base a k now) (keys_of a now))

-- a share that is not empty makes the agent more than hcap behind
abbrev pub passes_hcap : (Key → Standing) → Terms → ℕ → HistMoment → List Event → Bool
passes_hcap each terms a now [] = false
passes_hcap each terms a now (e ∷ es) = nat_lt terms.hcap (behind_in_all each terms.base a now + length (e ∷ es))

-- a commit is a possible overflow of the pair that stood so before it: it is no snapshot commit, the pair is begun, and the commit's share passes hcap
abbrev pub overflows_by : (Key → Standing) → Terms → ℕ → Key → HistMoment → Option Commit → Bool
overflows_by each terms a k now None = false
overflows_by each terms a k now (Some c) = not (is_snapshot c) && begun_by each a k now && passes_hcap each terms a now (share terms.base a k now c)

-- every begun pair of the agent is settled
abbrev pub all_settled : (Key → Standing) → ℕ → HistMoment → Bool
all_settled each a now = not (list_any (λ k. begun_by each a k now && not (settled_by each a k now)) (keys_of a now))

abbrev pub is_snapshot_commit : Option Commit → Bool
is_snapshot_commit None = false
is_snapshot_commit (Some c) = is_snapshot c

-- the act restarts the pair: by a subscription, by a snapshot commit, or by a sure overflow, which is a possible one where every begun pair of the agent was settled
abbrev pub restarts : (Key → Standing) → Terms → ℕ → Key → HistAct → HistMoment → Bool
restarts each terms a k act past =
    subscribes a k act
    || is_snapshot_commit (made terms.base k (act ∷ past))
    || (overflows_by each terms a k past (made terms.base k (act ∷ past)) && all_settled each a past)

-- the standing after one more act
abbrev pub standing_after : (Key → Standing) → Terms → ℕ → HistAct → HistMoment → Key → Standing
standing_after each terms a act past k = record {
  begin_given = begins a k act || (not (restarts each terms a k act past) && (each k).begin_given);
  overflowed = overflows_by each terms a k past (made terms.base k (act ∷ past)) || (not (gives a k act) && (each k).overflowed);
}

-- the standing of a with each key
abbrev pub standing : Terms → ℕ → HistMoment → Key → Standing
standing terms a [] k = record { begin_given = false; overflowed = false }
standing terms a (act ∷ past) k = standing_after (standing terms a past) terms a act past k

abbrev pub is_begun : Terms → ℕ → Key → HistMoment → Bool
is_begun terms a k now = begun_by (standing terms a now) a k now

abbrev pub is_ended : Terms → ℕ → Key → HistMoment → Bool
is_ended terms a k now = ended_by (standing terms a now) a k now

abbrev pub behind : Terms → ℕ → Key → HistMoment → ℕ
behind terms a k now = behind_by (standing terms a now) terms.base a k now

-- a possible overflow came since the last given item
abbrev pub has_overflowed : Terms → ℕ → Key → HistMoment → Bool
has_overflowed terms a k now = (standing terms a now k).overflowed

-- the pair fits, and is not ended with nothing behind
abbrev pub is_due : Terms → ℕ → Key → HistMoment → Bool
is_due terms a k now = is_some (agent_floor terms.base a k now) && not (is_ended terms a k now && behind terms a k now == 0)

-- the keys that are due for a, by the later of the act since which each is due and the last Take of a that was filled with its items
abbrev pub due_keys : Terms → ℕ → HistMoment → List Key
due_keys terms a now = by_since newest_key (fills a) (is_due terms a) now
