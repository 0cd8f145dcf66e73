-- A watcher's row, what acts are about, and which acts calls have, computed from the definitions alone.
use Rattle.std.proofs.Common.{◌≡◌, ℕ, zero, suc, true, false, Option, Some, None, List, [], ◌∷◌, map, refl}
use Rattle.qd_scheme.specs.declared.key.Key.{Key}
use Rattle.qd_scheme.specs.Keys.{key_eq}
use Rattle.qd_sub.specs.declared.sub.Sub.{Sub}
use Rattle.qd_sub.specs.declared.sub.Want.{Want}
use Rattle.qd_sub.specs.Acts.{Subscribed, Unsubscribed, Closed, Came, Gave, Told, Full, Moment, Act, is_put, is_gift, is_told, newest_key}
use Rattle.qd_sub.specs.Since.{since, by_since, begun_within}
use Rattle.qd_sub.specs.Subscriptions.{limit_of, subscribed, began, agents, wanted, least, total, and_put}
use Rattle.qd_sub.specs.Watching.{known, lapsed, same_total, differs, watched}
use Rattle.qd_sub.specs.Holding.{newest_pair, fresh}
use Rattle.qd_gate.specs.declared.machine.Entry.{Entry}
use Rattle.qd_sub.specs.Logs.{after, ends_of, acts_done, acts_of, after_entry, after_log}
use Rattle.qd_sub.specs.declared.op.Op.{Op}
use Rattle.qd_sub.specs.declared.op.Op.TheVariants.{Add, Remove, Close, Put, Take, Watch}
use Rattle.qd_sub.specs.declared.op.Reply.TheVariants.{Done, Items, Wants, TooManyKeys, TooManySubs, NoMemory}
use Rattle.qd_sub.specs.declared.op.Reply.{Reply}

abbrev k : Key
k = record { rec = 0; sym = 65 ∷ [] }

abbrev Acts : Type 0
Acts = Moment ℕ ℕ

abbrev want : Option ℕ → List Want
want t = record { key = k; total = t } ∷ []

abbrev first : Acts
first = Subscribed 0 k 10 ∷ []

abbrev second : Acts
second = Subscribed 1 k 5 ∷ Told 0 k (Some 10) ∷ first

abbrev third : Acts
third = Unsubscribed 1 k ∷ Told 0 k (Some 5) ∷ second

abbrev fourth : Acts
fourth = Subscribed 0 k 10 ∷ Unsubscribed 0 k ∷ Told 0 k (Some 10) ∷ third

abbrev fifth : Acts
fifth = Told 0 k None ∷ fourth

abbrev sixth : Acts
sixth = Told 0 k (Some 10) ∷ fifth

watched-first : watched 0 10 first ≡ want (Some 10)
unfolding watched by_since begun_within since differs known lapsed wanted agents subscribed limit_of total least key_eq
watched-first = refl

watched-second : watched 0 10 second ≡ want (Some 5)
unfolding watched by_since begun_within since differs known lapsed wanted agents subscribed limit_of total least key_eq
watched-second = refl

watched-third : watched 0 10 third ≡ want (Some 10)
unfolding watched by_since begun_within since differs known lapsed wanted agents subscribed limit_of total least key_eq
watched-third = refl

watched-fourth : watched 0 10 fourth ≡ want None
unfolding watched by_since begun_within since differs known lapsed wanted agents subscribed limit_of total least key_eq
watched-fourth = refl

watched-fifth : watched 0 10 fifth ≡ want (Some 10)
unfolding watched by_since begun_within since differs known lapsed wanted agents subscribed limit_of total least key_eq
watched-fifth = refl

watched-sixth : watched 0 10 sixth ≡ []
unfolding watched by_since begun_within since differs known lapsed wanted agents subscribed limit_of total least key_eq
watched-sixth = refl

abbrev other : Key
other = record { rec = 1; sym = 65 ∷ [] }

abbrev put : Act ℕ ℕ
put = Came other 7

abbrev gift : Act ℕ ℕ
gift = Gave 2 other 7

-- an act of each kind, about another key
abbrev each : Acts
each = Subscribed 2 other 7 ∷ Unsubscribed 2 other ∷ Closed 2 ∷ put ∷ gift ∷ Told 2 other None ∷ Full 2 other ∷ []

-- which of them put an item of a key
puts-of : map (is_put other) each ≡ false ∷ false ∷ false ∷ true ∷ false ∷ false ∷ false ∷ []
unfolding key_eq
puts-of = refl

puts-of_none : map (is_put k) each ≡ false ∷ false ∷ false ∷ false ∷ false ∷ false ∷ false ∷ []
unfolding key_eq
puts-of_none = refl

-- which of them give an agent an item of a key
gifts-of : map (is_gift 2 other) each ≡ false ∷ false ∷ false ∷ false ∷ true ∷ false ∷ false ∷ []
unfolding key_eq
gifts-of = refl

gifts-of_none : map (is_gift 2 k) each ≡ false ∷ false ∷ false ∷ false ∷ false ∷ false ∷ false ∷ []
unfolding key_eq
gifts-of_none = refl

gifts-of_others : map (is_gift 3 other) each ≡ false ∷ false ∷ false ∷ false ∷ false ∷ false ∷ false ∷ []
unfolding key_eq
gifts-of_others = refl

-- which of them tell a watcher a total of a key
tellings-of : map (is_told 2 other) each ≡ false ∷ false ∷ false ∷ false ∷ false ∷ true ∷ false ∷ []
unfolding key_eq
tellings-of = refl

tellings-of_none : map (is_told 2 k) each ≡ false ∷ false ∷ false ∷ false ∷ false ∷ false ∷ false ∷ []
unfolding key_eq
tellings-of_none = refl

tellings-of_others : map (is_told 3 other) each ≡ false ∷ false ∷ false ∷ false ∷ false ∷ false ∷ false ∷ []
unfolding key_eq
tellings-of_others = refl

-- the key that each is about, and the agent and the key
keys-about : map (λ act. newest_key (act ∷ first)) each ≡ Some other ∷ Some other ∷ None ∷ Some other ∷ Some other ∷ Some other ∷ Some other ∷ []
keys-about = refl

pairs-about : map (λ act. newest_pair (act ∷ first)) each ≡ Some (2, other) ∷ Some (2, other) ∷ None ∷ None ∷ Some (2, other) ∷ None ∷ Some (2, other) ∷ []
pairs-about = refl

-- what is kept of a key after each, where an item was kept
kept-after : map (λ act. and_put other act (5 ∷ [])) each ≡ (5 ∷ []) ∷ (5 ∷ []) ∷ (5 ∷ []) ∷ (5 ∷ 7 ∷ []) ∷ (5 ∷ []) ∷ (5 ∷ []) ∷ (5 ∷ []) ∷ []
unfolding key_eq
kept-after = refl

kept-after_others : map (λ act. and_put k act (5 ∷ [])) each ≡ (5 ∷ []) ∷ (5 ∷ []) ∷ (5 ∷ []) ∷ (5 ∷ []) ∷ (5 ∷ []) ∷ (5 ∷ []) ∷ (5 ∷ []) ∷ []
unfolding key_eq
kept-after_others = refl

same-none : map (same_total None) (None ∷ Some 1 ∷ []) ≡ true ∷ false ∷ []
same-none = refl

same-some : map (same_total (Some 1)) (None ∷ Some 1 ∷ Some 2 ∷ []) ≡ false ∷ true ∷ false ∷ []
same-some = refl

-- a subscription begins where there was none, and a new limit does not begin it anew
began-first : began 0 k (Subscribed 0 k 5 ∷ put ∷ first) ≡ 1
unfolding since subscribed limit_of key_eq
began-first = refl

began-again : began 0 k (put ∷ fourth) ≡ 8
unfolding since subscribed limit_of key_eq
began-again = refl

-- a key that was told and differs still comes behind one that began to differ before it was told
abbrev seventh : Acts
seventh = Told 0 k None ∷ Subscribed 0 other 4 ∷ fourth

watched-seventh : watched 0 10 seventh ≡ record { key = other; total = Some 4 } ∷ want (Some 10)
unfolding watched by_since begun_within since differs known lapsed wanted agents subscribed limit_of total least key_eq
watched-seventh = refl

fresh-twice : fresh [] (k ∷ other ∷ k ∷ []) ≡ k ∷ other ∷ []
unfolding fresh key_eq
fresh-twice = refl

ends-once : ends_of 0 first (k ∷ other ∷ k ∷ []) ≡ Unsubscribed 0 k ∷ []
unfolding ends_of subscribed limit_of key_eq
ends-once = refl

-- the key of an item
abbrev key_at : ℕ → Key
key_at zero = k
key_at (suc n) = other

abbrev add : Op ℕ ℕ
add = Add 1 (record { items = record { key = k; limit = 3 } ∷ record { key = other; limit = 4 } ∷ []; room = 2 })

abbrev remove : Op ℕ ℕ
remove = Remove 0 (record { items = other ∷ k ∷ []; room = 2 })

abbrev close : Op ℕ ℕ
close = Close 0

abbrev puts : Op ℕ ℕ
puts = Put (record { items = 7 ∷ 0 ∷ []; room = 2 })

abbrev ask : Op ℕ ℕ
ask = Take 2 5 (record { items = []; room = 5 })

abbrev watch : Op ℕ ℕ
watch = Watch 3 5 (record { items = []; room = 5 })

-- what is given, and what is told
abbrev given : Reply ℕ
given = Items (record { items = 7 ∷ 0 ∷ []; room = 5 })

abbrev told : Reply ℕ
told = Wants (record { items = record { key = other; total = None } ∷ want (Some 4); room = 5 })

-- the agent 0 is subscribed to both keys, to the other first
abbrev both : Acts
both = Subscribed 0 k 10 ∷ Subscribed 1 k 5 ∷ Subscribed 0 other 4 ∷ []

added : acts_done Sub.limit key_at both add ≡ Subscribed 1 k 3 ∷ Subscribed 1 other 4 ∷ []
added = refl

added-anywhere : acts_of key_at key_at both add Done ≡ Subscribed 1 k 0 ∷ Subscribed 1 other 0 ∷ []
added-anywhere = refl

removed : acts_of key_at key_at both remove Done ≡ Unsubscribed 0 other ∷ Unsubscribed 0 k ∷ []
unfolding ends_of subscribed limit_of key_eq
removed = refl

removed-first : acts_of key_at key_at first remove Done ≡ Unsubscribed 0 k ∷ []
unfolding ends_of subscribed limit_of key_eq
removed-first = refl

closed : acts_of key_at key_at both close Done ≡ Unsubscribed 0 other ∷ Unsubscribed 0 k ∷ Closed 0 ∷ []
unfolding by_since begun_within since subscribed limit_of key_eq
closed = refl

came : acts_of key_at key_at both puts Done ≡ Came other 7 ∷ Came k 0 ∷ []
came = refl

gave : acts_of key_at key_at both ask given ≡ Gave 2 other 7 ∷ Gave 2 k 0 ∷ []
gave = refl

tells : acts_of key_at key_at both watch told ≡ Told 3 other None ∷ Told 3 k (Some 4) ∷ []
tells = refl

refused-keys : acts_of (λ item. k) (λ item. k) first close TooManyKeys ≡ []
unfolding by_since begun_within since subscribed limit_of key_eq
refused-keys = refl

refused-subs : acts_of (λ item. k) (λ item. k) first close TooManySubs ≡ []
unfolding by_since begun_within since subscribed limit_of key_eq
refused-subs = refl

refused-memory : acts_of (λ item. k) (λ item. k) first close NoMemory ≡ []
unfolding by_since begun_within since subscribed limit_of key_eq
refused-memory = refl

refused-put : acts_of key_at key_at first puts NoMemory ≡ []
refused-put = refl

abbrev entry : Op ℕ ℕ → Reply ℕ → Entry (Op ℕ ℕ) (Reply ℕ)
entry op reply = record { who = 0; op = op; reply = reply }

-- each entry's acts at the moment that it finds, in order
logged : after_log (acts_of key_at key_at) [] (entry add Done ∷ entry puts Done ∷ entry (Close 1) Done ∷ entry ask given ∷ []) ≡ Gave 2 k 0 ∷ Gave 2 other 7 ∷ Closed 1 ∷ Unsubscribed 1 other ∷ Unsubscribed 1 k ∷ Came k 0 ∷ Came other 7 ∷ Subscribed 1 other 0 ∷ Subscribed 1 k 0 ∷ []
unfolding after_log after_entry after by_since begun_within since subscribed limit_of key_eq
logged = refl
