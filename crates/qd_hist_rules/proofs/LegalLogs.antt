-- In a legal log each item was lawful at its place.
use Rattle.std.proofs.Common.{◌≡◌, ℕ, Bool, true, false, ◌==◌, List, [], ◌∷◌, ◌++◌, map, length, refl, sym, ◌∙◌, ap, append_assoc, Option, Some, None, inl, inr, subst}
use Rattle.std.specs.Prelude.{if◌then◌else◌, ◌⊎◌, MatchOption}
use Rattle.std.proofs.lemmas.List.{append-nil}
use Rattle.qd_scheme.specs.declared.key.Key.{Key}
use Rattle.qd_scheme.specs.declared.key.Event.{Event}
use Rattle.qd_gate.specs.declared.machine.Terms.{Terms}
use Rattle.qd_gate.specs.Logs.{EachFollows}
use Rattle.qd_sub.specs.declared.sub.Sub.{Sub}
use Rattle.qd_sub.specs.declared.sub.Want.{Want}
use Rattle.qd_sub.specs.declared.op.Op.TheVariants.{Add, Remove, Close, Put, Take, Watch}
use Rattle.qd_sub.specs.Acts.{Subscribed, Unsubscribed, Closed, Came, Gave, Told, Full}
use Rattle.qd_sub.specs.Subscriptions.{subscribed, keys_of}
use Rattle.qd_sub.specs.Logs.{after, ends_of, acts_done, after_entry, after_log}
use Rattle.qd_sub.specs.Watching.{watched}
use Rattle.qd_sub.proofs.LogLaws.{after_log-push}
use Rattle.qd_hist_rules.specs.declared.item.HistItem.{HistItem}
use Rattle.qd_hist_rules.specs.declared.reply.HistoryReply.{HistoryReply}
use Rattle.qd_hist_rules.specs.declared.reply.HistoryReply.TheVariants.{Done, Items, Wants, TooManyKeys, TooManySubs, HistoryFull, Spent, NoMemory}
use Rattle.qd_hist_rules.specs.Moments.{HistAct, HistMoment, event_key, item_key}
use Rattle.qd_hist_rules.specs.Lawful.{Lawful}
use Rattle.qd_hist_rules.specs.Takes.{LawfulItems}
use Rattle.qd_hist_rules.specs.Legal.{HistoryOp, HistoryEntry, last_mark, history_acts, moment_of, too_many_keys, too_many_subs, is_full, is_spent, refusal, Answers, MayWant, IsLawful, Follows, IsLegal}

-- the act gives nothing
abbrev gives_nothing : HistAct → Bool
gives_nothing (Gave b j i) = false
gives_nothing (Subscribed b j l) = true
gives_nothing (Unsubscribed b j) = true
gives_nothing (Closed b) = true
gives_nothing (Came j e) = true
gives_nothing (Told w j x) = true
gives_nothing (Full b j) = true

abbrev NoGifts : List HistAct → Type 0
NoGifts [] = Unit {0}
NoGifts (act ∷ acts) = (gives_nothing act ≡ true) × NoGifts acts

next : (t : Terms) (act : HistAct) (m : HistMoment) → gives_nothing act ≡ true → Lawful t m → Lawful t (act ∷ m)
next t (Gave b j i) m h w = cc h
next t (Subscribed b j l) m h w = w
next t (Unsubscribed b j) m h w = w
next t (Closed b) m h w = w
next t (Came j e) m h w = w
next t (Told v j x) m h w = w
next t (Full b j) m h w = w

later : (t : Terms) (acts : List HistAct) (m : HistMoment) → NoGifts acts → Lawful t m → Lawful t (after m acts)
unfolding after
later t [] m h w = w
later t (act ∷ acts) m h w = later t acts (act ∷ m) h.1 (next t act m h.0 w)

after_append : (xs ys : List HistAct) (m : HistMoment) → after m (xs ++ ys) ≡ after (after m xs) ys
unfolding after
after_append [] ys m = refl
after_append (x ∷ xs) ys m = after_append xs ys (x ∷ m)

append_none : (xs ys : List HistAct) → NoGifts xs → NoGifts ys → NoGifts (xs ++ ys)
append_none [] ys h g = g
append_none (x ∷ xs) ys h g = (h.0, append_none xs ys h.1 g)

subs_none : (a : ℕ) (subs : List Sub) → NoGifts (map (λ s. Subscribed a s.key s.limit) subs)
subs_none a [] = tt
subs_none a (s ∷ subs) = (refl, subs_none a subs)

ends_none : (a : ℕ) (m : HistMoment) (ks : List Key) → NoGifts (ends_of a m ks)
unfolding ends_of
ends_none a m [] = tt
ends_none a m (k ∷ ks) = go (subscribed a k m) (ends_none a (Unsubscribed a k ∷ m) ks) (ends_none a m ks)
  where
    go : (b : Bool) → NoGifts (ends_of a (Unsubscribed a k ∷ m) ks) → NoGifts (ends_of a m ks) → NoGifts (if b then Unsubscribed a k ∷ ends_of a (Unsubscribed a k ∷ m) ks else ends_of a m ks)
    go true x y = (refl, x)
    go false x y = y

unsubs_none : (a : ℕ) (ks : List Key) → NoGifts (map (Unsubscribed a) ks)
unsubs_none a [] = tt
unsubs_none a (k ∷ ks) = (refl, unsubs_none a ks)

puts_none : (es : List Event) → NoGifts (map (λ e. Came (event_key e) e) es)
puts_none [] = tt
puts_none (e ∷ es) = (refl, puts_none es)

told_none : (w : ℕ) (ws : List Want) → NoGifts (map (λ want. Told w want.key want.total) ws)
told_none w [] = tt
told_none w (x ∷ ws) = (refl, told_none w ws)

mark_none : (a : ℕ) (is : List HistItem) → NoGifts (last_mark a is)
mark_none a [] = tt
mark_none a (i ∷ []) = (refl, tt)
mark_none a (i ∷ j ∷ is) = mark_none a (j ∷ is)

if_none : (b : Bool) (xs : List HistAct) → NoGifts xs → NoGifts (if b then xs else [])
if_none true xs h = h
if_none false xs h = tt

-- an op that is done gives nothing
done_none : (m : HistMoment) (op : HistoryOp) → NoGifts (acts_done (λ s. s.limit) event_key m op)
done_none m (Add a subs) = subs_none a subs.items
done_none m (Remove a keys) = ends_none a m keys.items
done_none m (Close a) = append_none (map (Unsubscribed a) (keys_of a m)) (Closed a ∷ []) (unsubs_none a (keys_of a m)) (refl, tt)
done_none m (Put items) = puts_none items.items
done_none m (Take a most out) = tt
done_none m (Watch w most out) = tt

gifts : (t : Terms) (a : ℕ) (is : List HistItem) (m : HistMoment) → LawfulItems t a is m → Lawful t m → Lawful t (after m (map (λ i. Gave a (item_key i) i) is))
unfolding after
gifts t a [] m h w = w
gifts t a (i ∷ is) m h w = gifts t a is (Gave a (item_key i) i ∷ m) h.1 (h.0, w)

done : (t : Terms) (m : HistMoment) (op : HistoryOp) (reply : HistoryReply) → Lawful t m → reply ≡ Done → Lawful t (after m (history_acts m op reply))
done t m op reply w q = subst (λ (r : HistoryReply). Lawful t (after m (history_acts m op r))) (sym q) (later t (acts_done (λ s. s.limit) event_key m op) m (done_none m op) w)

answered : (t : Terms) (m : HistMoment) (op : HistoryOp) (reply : HistoryReply) → Lawful t m → Answers t m op reply → Lawful t (after m (history_acts m op reply))
answered t m (Add a subs) reply w h = done t m (Add a subs) reply w h
answered t m (Remove a keys) reply w h = done t m (Remove a keys) reply w h
answered t m (Close a) reply w h = done t m (Close a) reply w h
answered t m (Put items) reply w h = done t m (Put items) reply w h
answered t m (Watch v most out) reply w h =
    subst (λ (r : HistoryReply). Lawful t (after m (history_acts m (Watch v most out) r))) (sym h)
    (later t (map (λ want. Told v want.key want.total) (watched v most m)) m (told_none v (watched v most m)) w)
answered t m (Take a most out) reply w h =
    let gave = map (λ i. Gave a (item_key i) i) h.0 in
    let mark = if length h.0 == most then last_mark a h.0 else [] in
    subst (λ (r : HistoryReply). Lawful t (after m (history_acts m (Take a most out) r))) (sym h.1)
    (subst (λ (x : HistMoment). Lawful t x) (sym (after_append gave mark m))
    (later t mark (after m gave) (if_none (length h.0 == most) (last_mark a h.0) (mark_none a h.0)) (gifts t a h.0 m h.2.each w)))

-- a refusal, as it is refused
abbrev is_refusal : HistoryReply → Bool
is_refusal Done = false
is_refusal (Items given) = false
is_refusal (Wants told) = false
is_refusal TooManyKeys = true
is_refusal TooManySubs = true
is_refusal HistoryFull = true
is_refusal Spent = true
is_refusal NoMemory = true

refused_none : (m : HistMoment) (op : HistoryOp) (reply : HistoryReply) → is_refusal reply ≡ true → history_acts m op reply ≡ []
refused_none m op Done h = cc h
refused_none m op (Items given) h = cc h
refused_none m op (Wants told) h = cc h
refused_none m op TooManyKeys h = refl
refused_none m op TooManySubs h = refl
refused_none m op HistoryFull h = refl
refused_none m op Spent h = refl
refused_none m op NoMemory h = refl

refused : (t : Terms) (m : HistMoment) (op : HistoryOp) (reply : HistoryReply) → is_refusal reply ≡ true → Lawful t m → Lawful t (after m (history_acts m op reply))
refused t m op reply h w = subst (λ (acts : List HistAct). Lawful t (after m acts)) (sym (refused_none m op reply h)) (later t [] m tt w)

two_refusals : (b c : Bool) (x y r : HistoryReply) → is_refusal x ≡ true → is_refusal y ≡ true → (if b then Some x else if c then Some y else None) ≡ Some r → is_refusal r ≡ true
two_refusals true c x y r p q h = let s : x ≡ r = cc h in ap is_refusal (sym s) ∙ p
two_refusals false true x y r p q h = let s : y ≡ r = cc h in ap is_refusal (sym s) ∙ q
two_refusals false false x y r p q h = cc h

refusal_is : (base : ℕ) (m : HistMoment) (op : HistoryOp) (r : HistoryReply) → refusal base m op ≡ Some r → is_refusal r ≡ true
unfolding refusal
refusal_is base m (Add a subs) r h = two_refusals (too_many_keys m subs.items) (too_many_subs m a subs.items) TooManyKeys TooManySubs r refl refl h
refusal_is base m (Put items) r h = two_refusals (is_full base m items.items) (is_spent base m items.items) HistoryFull Spent r refl refl h
refusal_is base m (Remove a keys) r h = cc h
refusal_is base m (Close a) r h = cc h
refusal_is base m (Take a most out) r h = cc h
refusal_is base m (Watch w most out) r h = cc h

replied : (t : Terms) (m : HistMoment) (op : HistoryOp) (reply : HistoryReply) → Lawful t m → IsLawful t m op reply → Lawful t (after m (history_acts m op reply))
unfolding IsLawful
replied t m op reply w h = go (refusal t.base m op) refl h
  where
    go : (o : Option HistoryReply) → refusal t.base m op ≡ o → MatchOption o (Answers t m op reply ⊎ (MayWant op × (reply ≡ NoMemory))) (λ r. reply ≡ r) → Lawful t (after m (history_acts m op reply))
    go (Some r) q h = refused t m op reply (ap is_refusal h ∙ refusal_is t.base m op r q) w
    go None q (inl x) = answered t m op reply w x
    go None q (inr x) = refused t m op reply (ap is_refusal x.1) w

one_more : (log : List HistoryEntry) (e : HistoryEntry) → moment_of (log ++ e ∷ []) ≡ after (moment_of log) (history_acts (moment_of log) e.op e.reply)
unfolding moment_of after_entry
one_more log e = after_log-push history_acts [] log e

all_lawful : (t : Terms) (before log : List HistoryEntry) → Lawful t (moment_of before) → EachFollows (Follows t) before log → Lawful t (moment_of (before ++ log))
unfolding Follows
all_lawful t before [] w h = subst (λ (l : List HistoryEntry). Lawful t (moment_of l)) (sym (append-nil before)) w
all_lawful t before (e ∷ es) w h =
    let now = replied t (moment_of before) e.op e.reply w h.0 in
    let next = subst (λ (x : HistMoment). Lawful t x) (sym (one_more before e)) now in
    subst (λ (l : List HistoryEntry). Lawful t (moment_of l)) (append_assoc before (e ∷ []) es) (all_lawful t (before ++ e ∷ []) es next h.1)

-- in a legal log each item was lawful at its place
pub legal_lawful : (t : Terms) (log : List HistoryEntry) → IsLegal t log → Lawful t (moment_of log)
unfolding moment_of after_log
legal_lawful t log h = all_lawful t [] log tt h
