-- Two links of each collector, computed from the definitions alone: node 0 is the root, node 1 its agent 1.
use Rattle.std.proofs.Common.{◌≡◌, ℕ, Bool, true, List, [], ◌∷◌, refl, Option, Some, None, inl, inr}
use Rattle.std.specs.Prelude.{pos}
use Rattle.qd_scheme.specs.declared.key.Key.{Key}
use Rattle.qd_scheme.specs.declared.key.Event.{Event}
use Rattle.qd_scheme.specs.declared.key.Record.{Record}
use Rattle.qd_scheme.specs.Keys.{key_eq}
use Rattle.qd_flags.specs.Bits.{is_pending, is_remove, is_begin, is_end, is_snip}
use Rattle.qd_gate.specs.Logs.{entry}
use Rattle.qd_sub.specs.declared.op.Op.TheVariants.{Add, Remove, Put, Take}
use Rattle.qd_sub.specs.Acts.{Subscribed, Came, Gave}
use Rattle.qd_sub.specs.Since.{since, last_place, by_since, begun_within}
use Rattle.qd_sub.specs.Subscriptions.{limit_of, subscribed, agents, wanted, kept}
use Rattle.qd_sub.specs.Logs.{after, ends_of, after_entry, after_log}
use Rattle.qd_ticker.specs.Pending.{TickerMoment}
use Rattle.qd_ticker.specs.Legal.{no_terms}
use Rattle.qd_stream.specs.declared.item.StreamItem.{StreamItem}
use Rattle.qd_stream.specs.declared.item.StreamItem.TheVariants.{Rec, Lost}
use Rattle.qd_stream.specs.Waiting.{StreamMoment, matched}
use Rattle.qd_hist_rules.specs.declared.item.HistItem.{HistItem}
use Rattle.qd_hist_rules.specs.declared.reply.HistoryReply.TheVariants.{Done, Items}
use Rattle.qd_hist_rules.specs.Legal.{HistoryEntry, terms_of, moment_of}
use Rattle.qd_scheme.specs.declared.cells.Cells.{Cells}
use Rattle.qd_buffer.specs.Filled.{Filled}
use Rattle.qd_hist_rules.proofs.TakeTest.{take_ok}
use Rattle.qd_views.specs.Views.{puts, given, of_key, Accounts, origins, offered}
use Rattle.qd_ways.specs.Links.{Delivers, events_given}
use Rattle.qd_ways.specs.Paths.{HistoryStage, origin, TickerStage, root_origins}

abbrev ibm : Key
ibm = record { rec = 4; sym = 65 ∷ [] }

abbrev five : ℕ → Cells
five v = pos v ∷ pos v ∷ pos v ∷ pos v ∷ pos v ∷ []

-- an event by its index, its flags and its cells
abbrev c : ℕ → ℕ → ℕ → Event
c i f v = record { key = ibm; index = i; flags = f; cells = five v }

abbrev g : ℕ → ℕ → ℕ → Option ℕ → HistItem
g i f v at = record { event = c i f v; at = at }

abbrev n : Option ℕ
n = None

abbrev at : ℕ → Option ℕ
at k = Some k

abbrev some : {T : Type 0} → List T → Filled T
some xs = record { items = xs; room = 10 }

abbrev add : ℕ → ℕ → HistoryEntry
add a limit = entry 0 (Add a (some (record { key = ibm; limit = limit } ∷ []))) Done

abbrev remove : ℕ → HistoryEntry
remove a = entry 0 (Remove a (some (ibm ∷ []))) Done

abbrev put : List Event → HistoryEntry
put es = entry 0 (Put (some es)) Done

abbrev take : ℕ → List HistItem → HistoryEntry
take a is = entry 0 (Take a 10 (some [])) (Items (some is))

abbrev may_take : List HistoryEntry → ℕ → List HistItem → Bool
may_take before a is = take_ok (terms_of 1024 0) a 10 is (moment_of before)

abbrev stage : ℕ → List HistoryEntry → HistoryStage
stage a log = record { terms = terms_of 1024 0; now = moment_of log; agent = a }

-- a limit lowered by a second leaf
abbrev first_snapshot : List HistItem
first_snapshot = g 30 4 3 n ∷ g 20 0 2 n ∷ g 15 10 0 (at 1) ∷ []

abbrev deeper : List HistItem
deeper = g 30 4 3 n ∷ g 20 0 2 n ∷ g 10 0 1 n ∷ g 5 10 0 (at 1) ∷ []

abbrev root_before : List HistoryEntry
root_before = add 1 15 ∷ put (c 30 4 3 ∷ c 20 0 2 ∷ c 10 0 1 ∷ c 0 10 0 ∷ []) ∷ take 1 first_snapshot ∷ add 1 5 ∷ []

abbrev root_log : List HistoryEntry
root_log = add 1 15 ∷ put (c 30 4 3 ∷ c 20 0 2 ∷ c 10 0 1 ∷ c 0 10 0 ∷ []) ∷ take 1 first_snapshot ∷ add 1 5 ∷ take 1 deeper ∷ []

abbrev node_before : List HistoryEntry
node_before =
    add 0 15 ∷ put (c 30 4 3 ∷ c 20 0 2 ∷ c 15 10 0 ∷ []) ∷ take 0 first_snapshot ∷ add 1 5 ∷ take 1 []
    ∷ put (c 30 4 3 ∷ c 20 0 2 ∷ c 10 0 1 ∷ c 5 10 0 ∷ []) ∷ []

abbrev node_log : List HistoryEntry
node_log =
    add 0 15 ∷ put (c 30 4 3 ∷ c 20 0 2 ∷ c 15 10 0 ∷ []) ∷ take 0 first_snapshot ∷ add 1 5 ∷ take 1 []
    ∷ put (c 30 4 3 ∷ c 20 0 2 ∷ c 10 0 1 ∷ c 5 10 0 ∷ []) ∷ take 0 (g 30 4 3 n ∷ g 20 0 2 n ∷ g 15 10 0 (at 2) ∷ []) ∷ []

the_root_gives_a_deeper_snapshot : may_take root_before 1 deeper ≡ true
unfolding moment_of after_log after_entry after ends_of by_since begun_within since last_place subscribed limit_of kept wanted agents key_eq is_pending is_remove is_begin is_end is_snip
the_root_gives_a_deeper_snapshot = refl

the_node_gives_the_leaf_its_own_part : may_take node_before 0 (g 30 4 3 n ∷ g 20 0 2 n ∷ g 15 10 0 (at 2) ∷ []) ≡ true
unfolding moment_of after_log after_entry after ends_of by_since begun_within since last_place subscribed limit_of kept wanted agents key_eq is_pending is_remove is_begin is_end is_snip
the_node_gives_the_leaf_its_own_part = refl

the_link_delivers : Delivers (events_given 1 ibm (moment_of root_log)) (puts ibm (moment_of node_log))
unfolding moment_of after_log after_entry after ends_of by_since begun_within since last_place subscribed limit_of kept wanted agents key_eq is_pending is_remove is_begin is_end is_snip
the_link_delivers = record { in_flight = []; first_ones = refl }

the_second_commit_comes_from_the_first : origin ibm (stage 0 node_log) (stage 1 root_log ∷ []) 2 ≡ Some 1
unfolding moment_of after_log after_entry after ends_of by_since begun_within since last_place subscribed limit_of kept wanted agents key_eq is_pending is_remove is_begin is_end is_snip
the_second_commit_comes_from_the_first = refl

-- a key dropped and wanted again with bytes in flight
abbrev again_root : List HistoryEntry
again_root =
    add 0 0 ∷ add 1 15 ∷ put (c 30 4 3 ∷ c 20 0 2 ∷ c 10 0 1 ∷ c 0 10 0 ∷ []) ∷ take 1 first_snapshot ∷ put (c 30 0 4 ∷ [])
    ∷ take 1 (g 30 0 4 (at 2) ∷ []) ∷ remove 1 ∷ add 1 15 ∷ take 1 (g 30 4 4 n ∷ g 20 0 2 n ∷ g 15 10 0 (at 2) ∷ []) ∷ []

abbrev again_node : List HistoryEntry
again_node =
    add 0 15 ∷ remove 0 ∷ add 0 15 ∷ put (c 30 4 3 ∷ c 20 0 2 ∷ c 15 10 0 ∷ []) ∷ take 0 first_snapshot
    ∷ put (c 30 0 4 ∷ []) ∷ take 0 (g 30 0 4 (at 2) ∷ [])
    ∷ put (c 30 4 4 ∷ c 20 0 2 ∷ c 15 10 0 ∷ []) ∷ take 0 (g 30 4 4 n ∷ g 20 0 2 n ∷ g 15 10 0 (at 3) ∷ []) ∷ []

the_link_delivers_again : Delivers (events_given 1 ibm (moment_of again_root)) (puts ibm (moment_of again_node))
unfolding moment_of after_log after_entry after ends_of by_since begun_within since last_place subscribed limit_of kept wanted agents key_eq is_pending is_remove is_begin is_end is_snip
the_link_delivers_again = record { in_flight = []; first_ones = refl }

the_third_commit_comes_from_the_second : origin ibm (stage 0 again_node) (stage 1 again_root ∷ []) 3 ≡ Some 2
unfolding moment_of after_log after_entry after ends_of by_since begun_within since last_place subscribed limit_of kept wanted agents key_eq is_pending is_remove is_begin is_end is_snip
the_third_commit_comes_from_the_second = refl

-- a ticker: of three records put above, the first and the last were given and put below, where the leaf got the last alone
abbrev quote : ℕ → Record
quote v = record { key = ibm; cells = pos v ∷ [] }

abbrev ticker_up : TickerMoment
ticker_up = Gave 1 ibm (quote 3) ∷ Came ibm (quote 3) ∷ Came ibm (quote 2) ∷ Gave 1 ibm (quote 1) ∷ Came ibm (quote 1) ∷ Subscribed 1 ibm 0 ∷ []

abbrev ticker_low : TickerMoment
ticker_low = Gave 0 ibm (quote 3) ∷ Came ibm (quote 3) ∷ Came ibm (quote 1) ∷ Subscribed 0 ibm 0 ∷ []

abbrev ticker_stage : ℕ → TickerMoment → TickerStage
ticker_stage a now = record { terms = no_terms; now = now; agent = a }

all_were_offered : offered 1 ibm ticker_up ≡ 1 ∷ 2 ∷ 3 ∷ []
unfolding subscribed limit_of kept wanted agents key_eq
all_were_offered = refl

the_first_and_the_last_were_given : origins 1 ibm ticker_up ≡ 1 ∷ 3 ∷ []
unfolding key_eq
the_first_and_the_last_were_given = refl

the_leaf_got_the_last : root_origins ibm (ticker_stage 0 ticker_low) (ticker_stage 1 ticker_up ∷ []) ≡ 3 ∷ []
unfolding key_eq
the_leaf_got_the_last = refl

-- a stream: the leaf's loss counts a loss from above and a record
abbrev trade : ℕ → StreamItem
trade v = Rec (quote v)

abbrev stream_up : StreamMoment
stream_up = Gave 1 ibm (trade 4) ∷ Gave 1 ibm (trade 3) ∷ Gave 1 ibm (Lost ibm 2) ∷ Came ibm (trade 4) ∷ Came ibm (trade 3) ∷ Came ibm (trade 2) ∷ Came ibm (trade 1) ∷ Subscribed 1 ibm 0 ∷ []

abbrev stream_low : StreamMoment
stream_low = Gave 0 ibm (trade 4) ∷ Gave 0 ibm (Lost ibm 3) ∷ Came ibm (trade 4) ∷ Came ibm (trade 3) ∷ Came ibm (Lost ibm 2) ∷ Subscribed 0 ibm 0 ∷ []

the_leaf_accounts_for_all : Accounts ibm (given 0 ibm stream_low) (of_key ibm (matched 1 stream_up))
unfolding matched subscribed limit_of key_eq
the_leaf_accounts_for_all = (trade 1 ∷ trade 2 ∷ trade 3 ∷ [], trade 4 ∷ [], refl, inr refl, (trade 4 ∷ [], [], refl, inl (refl, refl), refl))
