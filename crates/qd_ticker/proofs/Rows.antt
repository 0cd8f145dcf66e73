-- Logs, computed from the definitions alone.
use Rattle.std.proofs.Common.{◌≡◌, ℕ, Some, None, List, [], ◌∷◌, refl, inl}
use Rattle.std.specs.Prelude.{pos}
use Rattle.qd_scheme.specs.declared.key.Key.{Key}
use Rattle.qd_scheme.specs.declared.key.Record.{Record}
use Rattle.qd_scheme.specs.Keys.{key_eq}
use Rattle.qd_buffer.specs.Filled.{Filled}
use Rattle.qd_gate.specs.Logs.{entry}
use Rattle.qd_sub.specs.declared.sub.Sub.{Sub}
use Rattle.qd_sub.specs.declared.sub.Want.{Want}
use Rattle.qd_sub.specs.declared.op.Op.TheVariants.{Add, Remove, Close, Put, Take, Watch}
use Rattle.qd_sub.specs.declared.op.Reply.TheVariants.{Done, Items, Wants}
use Rattle.qd_sub.specs.Since.{since, last_place, by_since, begun_within}
use Rattle.qd_sub.specs.Subscriptions.{limit_of, subscribed, agents, wanted, least, total, kept}
use Rattle.qd_sub.specs.Watching.{known, lapsed, differs, watched}
use Rattle.qd_sub.specs.Logs.{after, ends_of, after_entry, after_log}
use Rattle.qd_ticker.specs.Pending.{last_record, pending, queue_of, taken}
use Rattle.qd_ticker.specs.Legal.{TickerEntry, no_terms, moment_of, too_many_keys, too_many_subs, reply_to, IsLawful, Follows, IsLegal}
use Rattle.qd_sub.specs.Holding.{watchers, held, held_keys, held_pairs, fresh}

abbrev a : Key
a = record { rec = 0; sym = 65 ∷ [] }

abbrev b : Key
b = record { rec = 0; sym = 66 ∷ [] }

abbrev c : Key
c = record { rec = 0; sym = 67 ∷ [] }

abbrev quote : Key → ℕ → Record
quote k n = record { key = k; cells = pos n ∷ [] }

abbrev some : {T : Type 0} → List T → Filled T
some xs = record { items = xs; room = 10 }

abbrev add : ℕ → List Key → TickerEntry
add agent ks = entry 0 (Add agent (some (subs ks))) Done
  where
    subs : List Key → List Sub
    subs [] = []
    subs (k ∷ ks) = record { key = k; limit = 0 } ∷ subs ks

abbrev remove : ℕ → List Key → TickerEntry
remove agent ks = entry 0 (Remove agent (some ks)) Done

abbrev put : List Record → TickerEntry
put rs = entry 0 (Put (some rs)) Done

abbrev take : ℕ → ℕ → List Record → TickerEntry
take agent most rs = entry 0 (Take agent most (some [])) (Items (some rs))

abbrev in_turn : List TickerEntry
in_turn = add 0 (a ∷ b ∷ c ∷ []) ∷ put (quote a 1 ∷ quote b 2 ∷ quote c 3 ∷ []) ∷ take 0 2 (quote a 1 ∷ quote b 2 ∷ []) ∷ put (quote a 4 ∷ []) ∷ []

in_turn-second : taken 0 2 (moment_of in_turn) ≡ quote c 3 ∷ quote a 4 ∷ []
unfolding taken moment_of after_log after_entry after queue_of by_since begun_within since pending subscribed limit_of kept wanted agents last_place last_record key_eq
in_turn-second = refl

abbrev conflated : List TickerEntry
conflated = add 0 (a ∷ b ∷ []) ∷ put (quote a 1 ∷ quote b 2 ∷ quote a 3 ∷ []) ∷ []

conflated-first : taken 0 10 (moment_of conflated) ≡ quote a 3 ∷ quote b 2 ∷ []
unfolding taken moment_of after_log after_entry after queue_of by_since begun_within since pending subscribed limit_of kept wanted agents last_place last_record key_eq
conflated-first = refl

unwanted-first : taken 0 10 (moment_of (put (quote a 1 ∷ []) ∷ add 0 (a ∷ []) ∷ [])) ≡ []
unfolding taken moment_of after_log after_entry after queue_of by_since begun_within since pending subscribed limit_of kept wanted agents last_place last_record key_eq
unwanted-first = refl

-- a second agent finds the last record pending, once
abbrev joined_later : List TickerEntry
joined_later = add 0 (a ∷ []) ∷ put (quote a 1 ∷ []) ∷ add 1 (a ∷ []) ∷ []

joined_later-first : taken 1 10 (moment_of joined_later) ≡ quote a 1 ∷ []
unfolding taken moment_of after_log after_entry after queue_of by_since begun_within since pending subscribed limit_of kept wanted agents last_place last_record key_eq
joined_later-first = refl

joined_later-second : taken 1 10 (moment_of (add 0 (a ∷ []) ∷ put (quote a 1 ∷ []) ∷ add 1 (a ∷ []) ∷ take 1 10 (quote a 1 ∷ []) ∷ [])) ≡ []
unfolding taken moment_of after_log after_entry after queue_of by_since begun_within since pending subscribed limit_of kept wanted agents last_place last_record key_eq
joined_later-second = refl

wanted_again : taken 0 10 (moment_of (add 0 (a ∷ []) ∷ put (quote a 1 ∷ []) ∷ remove 0 (a ∷ []) ∷ add 0 (a ∷ []) ∷ [])) ≡ []
unfolding taken moment_of after_log after_entry after queue_of by_since begun_within since pending subscribed limit_of kept wanted agents last_place last_record key_eq ends_of
wanted_again = refl

-- a whole log is legal, by computation
in_turn-legal : IsLegal no_terms in_turn
unfolding Follows IsLawful reply_to too_many_keys too_many_subs held_keys held_pairs held watchers known fresh taken moment_of after_log after_entry after queue_of by_since begun_within since pending subscribed limit_of kept wanted agents last_place last_record key_eq
in_turn-legal = (inl refl, (inl refl, (inl refl, (inl refl, tt))))

-- a Watch in a log, and what it is told after a Close
abbrev watch : List Want → TickerEntry
watch wants = entry 0 (Watch 3 10 (some [])) (Wants (some wants))

abbrev told : List TickerEntry
told = add 0 (a ∷ b ∷ []) ∷ watch (record { key = a; total = Some 0 } ∷ record { key = b; total = Some 0 } ∷ []) ∷ entry 0 (Close 0) Done ∷ []

told-legal : IsLegal no_terms told
unfolding Follows IsLawful reply_to too_many_keys too_many_subs held_keys held_pairs held watchers known lapsed differs watched total least fresh taken moment_of after_log after_entry after ends_of queue_of by_since begun_within since pending subscribed limit_of kept wanted agents last_place last_record key_eq
told-legal = (inl refl, (inl refl, (inl refl, tt)))

told-next : reply_to (moment_of told) (Watch 3 10 (some [])) ≡ Wants (some (record { key = a; total = None } ∷ record { key = b; total = None } ∷ []))
unfolding reply_to known lapsed differs watched total least moment_of after_log after_entry after ends_of by_since begun_within since subscribed limit_of wanted agents key_eq
told-next = refl
