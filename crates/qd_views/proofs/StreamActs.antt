-- In a legal log of a stream each item was put for its own key, each one given was the first that was owed, and an agent that closed was subscribed to nothing.
use Rattle.std.proofs.Common.{◌≡◌, ◌⊎◌, inl, inr, ℕ, suc, zero, Bool, true, false, ◌&&◌, not, if◌then◌else◌, nat_eq, List, [], ◌∷◌, ◌++◌, map, refl, sym, ap, ◌∙◌, append_assoc, subst}
use Rattle.std.proofs.lemmas.List.{append-nil}
use Rattle.std.proofs.lemmas.Bool.{cases_Bool}
use Rattle.qd_scheme.specs.declared.key.Key.{Key}
use Rattle.qd_scheme.specs.Keys.{key_eq}
use Rattle.qd_gate.specs.declared.machine.Terms.{Terms}
use Rattle.qd_gate.specs.Logs.{EachFollows}
use Rattle.qd_sub.specs.declared.sub.Sub.{Sub}
use Rattle.qd_sub.specs.declared.sub.Want.{Want}
use Rattle.qd_sub.specs.declared.op.Op.TheVariants.{Add, Remove, Close, Put, Take, Watch}
use Rattle.qd_sub.specs.declared.op.Reply.TheVariants.{Done, TooManyKeys, TooManySubs}
use Rattle.qd_sub.specs.Acts.{Act, Subscribed, Unsubscribed, Closed, Came, Gave, Told, Full, is_pair}
use Rattle.qd_sub.specs.Subscriptions.{subscribed, keys_of}
use Rattle.qd_sub.specs.Holding.{has_key}
use Rattle.qd_sub.specs.Logs.{after, ends_of, after_entry, after_log}
use Rattle.qd_sub.specs.Watching.{watched}
use Rattle.qd_sub.proofs.LogLaws.{after_log-push}
use Rattle.qd_sub.proofs.SubscriptionLaws.{subscribed-unsub}
use Rattle.qd_sub.proofs.StepLaws.{keys_of-has}
use Rattle.qd_stream.specs.declared.item.StreamItem.{StreamItem}
use Rattle.qd_stream.specs.Items.{key_of_item}
use Rattle.qd_stream.specs.Waiting.{StreamMoment, matched, gone, waiting}
use Rattle.qd_stream.specs.Taking.{taken}
use Rattle.qd_stream.specs.Owed.{Loss, Owed, nothing, owed_at, with_item, report, first_owed, IsOwed}
use Rattle.qd_stream.specs.Legal.{StreamOp, StreamReply, StreamEntry, stream_acts, moment_of, reply_to, IsLawful, Follows, IsLegal, too_many_keys, too_many_subs}
use Rattle.qd_stream.proofs.OwedLaws.{owed-empty, owed-sub, owed-unsub, owed-closed, owed-closed_other, owed-gave_other, owed-unmatched, owed-came, owed-reported, owed-given, taken-owed}
use Rattle.qd_sub.proofs.SinceLaws.{and-right}
use Rattle.qd_views.specs.Views.{IsStreamMoment}
use Rattle.qd_views.proofs.ActKinds.{number-same, number-true}

abbrev pub ActFits : ℕ → Act StreamItem StreamItem → StreamMoment → Type 0
ActFits cap (Gave a k i) past = (k ≡ key_of_item i) × (first_owed 1 (owed_at cap a past) ≡ i ∷ [])
ActFits cap (Came k i) past = k ≡ key_of_item i
ActFits cap (Closed a) past = (k : Key) → subscribed a k past ≡ false
ActFits cap (Subscribed b j limit) past = Unit {0}
ActFits cap (Unsubscribed b j) past = Unit {0}
ActFits cap (Told w j total) past = Unit {0}
ActFits cap (Full b j) past = Unit {0}

abbrev pub EachFits : ℕ → StreamMoment → Type 0
EachFits cap [] = Unit {0}
EachFits cap (act ∷ past) = ActFits cap act past × EachFits cap past

fits-before : (cap : ℕ) (later now : StreamMoment) → EachFits cap (later ++ now) → EachFits cap now
fits-before cap [] now h = h
fits-before cap (act ∷ later) now h = fits-before cap later now h.1

-- an agent's subscriptions to all its keys end, and it closes
fits-close : (cap a : ℕ) (ks : List Key) (now : StreamMoment) → ((k : Key) → subscribed a k now ≡ true → has_key ks k ≡ true) → EachFits cap now → EachFits cap (after now (map (Unsubscribed a) ks ++ Closed a ∷ []))
unfolding after
fits-close cap a [] now all h = (λ k. none k (cases_Bool (subscribed a k now)), h)
  where
    none : (k : Key) → (subscribed a k now ≡ true) ⊎ (subscribed a k now ≡ false) → subscribed a k now ≡ false
    none k (inl e) = let z = all k e in cc z
    none k (inr e) = e
fits-close cap a (j ∷ ks) now all h = fits-close cap a ks (Unsubscribed a j ∷ now) (λ k e. left k (key_eq k j) refl (sym (subscribed-unsub a k a j now) ∙ e)) (tt, h)
  where
    left : (k : Key) (b : Bool) → key_eq k j ≡ b → (not (is_pair a k a j) && subscribed a k now) ≡ true → has_key ks k ≡ true
    left k true e h = let z : (not (nat_eq a a && true) && subscribed a k now) ≡ true = rw e at h in let y : false ≡ true = rw (number-same a) at z in cc y
    left k false e h =
        let t : has_key (j ∷ ks) k ≡ true = all k (and-right (not (is_pair a k a j)) (subscribed a k now) h) in rw e at t

fits-subs : (cap a : ℕ) (subs : List Sub) (now : StreamMoment) → EachFits cap now → EachFits cap (after now (map (λ (s : Sub). Subscribed a s.key 0) subs))
unfolding after
fits-subs cap a [] now h = h
fits-subs cap a (s ∷ subs) now h = fits-subs cap a subs (Subscribed a s.key 0 ∷ now) (tt, h)

fits-ends : (cap a : ℕ) (ks : List Key) (now : StreamMoment) → EachFits cap now → EachFits cap (after now (ends_of a now ks))
unfolding after ends_of
fits-ends cap a [] now h = h
fits-ends cap a (k ∷ ks) now h =
    elim (subscribed a k now) as (λ c. EachFits cap (after now (if c then Unsubscribed a k ∷ ends_of a (Unsubscribed a k ∷ now) ks else ends_of a now ks))) [
      | true ↦ fits-ends cap a ks (Unsubscribed a k ∷ now) (tt, h)
      | false ↦ fits-ends cap a ks now h
    ]

fits-puts : (cap : ℕ) (items : List StreamItem) (now : StreamMoment) → EachFits cap now → EachFits cap (after now (map (λ item. Came (key_of_item item) item) items))
unfolding after
fits-puts cap [] now h = h
fits-puts cap (item ∷ items) now h = fits-puts cap items (Came (key_of_item item) item ∷ now) (refl, h)

fits-told : (cap w : ℕ) (wants : List Want) (now : StreamMoment) → EachFits cap now → EachFits cap (after now (map (λ (want : Want). Told w want.key want.total) wants))
unfolding after
fits-told cap w [] now h = h
fits-told cap w (want ∷ wants) now h = fits-told cap w wants (Told w want.key want.total ∷ now) (tt, h)

fits-none : (cap : ℕ) (now : StreamMoment) → EachFits cap now → EachFits cap (after now [])
unfolding after
fits-none cap now h = h

-- what each act leaves of what is owed
owed-told : (cap a : ℕ) (o : Owed) (w : ℕ) (k : Key) (total : _) (now : StreamMoment) → IsOwed cap a o now → IsOwed cap a o (Told w k total ∷ now)
unfolding owed_at waiting gone matched
owed-told cap a o w k total now h = record { is = h.is; within = h.within }

owed-full : (cap a : ℕ) (o : Owed) (b : ℕ) (k : Key) (now : StreamMoment) → IsOwed cap a o now → IsOwed cap a o (Full b k ∷ now)
unfolding owed_at waiting gone matched
owed-full cap a o b k now h = record { is = h.is; within = h.within }

owed-gift : (cap a : ℕ) (k : Key) (i : StreamItem) (past : StreamMoment) (items : List StreamItem) (lost : List Loss) → k ≡ key_of_item i → first_owed 1 (record { items = items; lost = lost }) ≡ i ∷ [] → IsOwed cap a (record { items = items; lost = lost }) past
    → (p : Owed) × IsOwed cap a p (Gave a k i ∷ past)
unfolding first_owed
owed-gift cap a k i past items (l ∷ ls) e f h =
    let is : report l ≡ i = cc f in
    let key : k ≡ l.key = e ∙ sym (ap key_of_item is) in
    (_, subst (λ j. IsOwed cap a (record { items = items; lost = ls }) (Gave a j i ∷ past)) (sym key) (owed-reported cap a items l ls i past h))
owed-gift cap a k i past [] [] e f h = cc f
owed-gift cap a k i past (x ∷ xs) [] e f h = (_, owed-given cap a k x xs i past h)

owed-step : (cap a : ℕ) (act : Act StreamItem StreamItem) (past : StreamMoment) → ActFits cap act past → (o : Owed) → IsOwed cap a o past → (p : Owed) × IsOwed cap a p (act ∷ past)
owed-step cap a (Subscribed b k limit) past f o h = (o, owed-sub cap a o b k limit past h)
owed-step cap a (Unsubscribed b k) past f o h = (o, owed-unsub cap a o b k past h)
owed-step cap a (Told w k total) past f o h = (o, owed-told cap a o w k total past h)
owed-step cap a (Full b k) past f o h = (o, owed-full cap a o b k past h)
owed-step cap a (Closed b) past f o h = go (cases_Bool (nat_eq a b))
  where
    go : (nat_eq a b ≡ true) ⊎ (nat_eq a b ≡ false) → (p : Owed) × IsOwed cap a p (Closed b ∷ past)
    go (inl e) = (nothing, subst (λ c. IsOwed cap a nothing (Closed c ∷ past)) (number-true a b e) (owed-closed cap a o past h))
    go (inr e) = (o, owed-closed_other cap a o b past e h)
owed-step cap a (Came k item) past f o h = go (cases_Bool (subscribed a k past))
  where
    go : (subscribed a k past ≡ true) ⊎ (subscribed a k past ≡ false) → (p : Owed) × IsOwed cap a p (Came k item ∷ past)
    go (inl e) = (with_item cap o item, owed-came cap a o k item past e h)
    go (inr e) = (o, owed-unmatched cap a o k item past e h)
owed-step cap a (Gave b k item) past f o h = go (cases_Bool (nat_eq a b))
  where
    go : (nat_eq a b ≡ true) ⊎ (nat_eq a b ≡ false) → (p : Owed) × IsOwed cap a p (Gave b k item ∷ past)
    go (inl e) =
        let s = number-true a b e in
        let g : ActFits cap (Gave a k item) past = subst (λ c. ActFits cap (Gave c k item) past) (sym s) f in
        subst (λ c. (p : Owed) × IsOwed cap a p (Gave c k item ∷ past)) s (owed-gift cap a k item past o.items o.lost g.0 (ap (first_owed 1) (sym h.is) ∙ g.1) h)
    go (inr e) = (o, owed-gave_other cap a o b k item past e h)

-- what is owed, and no more is gone than matched
pub owed-now : (cap a : ℕ) (now : StreamMoment) → EachFits cap now → IsOwed cap a (owed_at cap a now) now
owed-now cap a [] h = let o = owed-empty cap a in subst (λ (x : Owed). IsOwed cap a x []) (sym o.is) o
owed-now cap a (act ∷ past) h = let o = owed-step cap a act past h.0 (owed_at cap a past) (owed-now cap a past h.1) in record { is = refl; within = o.1.within }

-- the gifts of a Take
fits-gifts : (cap a most : ℕ) (items : List StreamItem) (lost : List Loss) (now : StreamMoment) → IsOwed cap a (record { items = items; lost = lost }) now → EachFits cap now
    → EachFits cap (after now (map (λ i. Gave a (key_of_item i) i) (first_owed most (record { items = items; lost = lost }))))
unfolding first_owed after
fits-gifts cap a zero items lost now o h = h
fits-gifts cap a (suc n) items (l ∷ ls) now o h =
    fits-gifts cap a n items ls (Gave a l.key (report l) ∷ now) (owed-reported cap a items l ls (report l) now o) ((refl, ap (first_owed 1) o.is), h)
fits-gifts cap a (suc n) [] [] now o h = h
fits-gifts cap a (suc n) (i ∷ is) [] now o h =
    fits-gifts cap a n is [] (Gave a (key_of_item i) i ∷ now) (owed-given cap a (key_of_item i) i is i now o) ((refl, ap (first_owed 1) o.is), h)

fits-take : (cap a most : ℕ) (now : StreamMoment) → EachFits cap now → EachFits cap (after now (map (λ i. Gave a (key_of_item i) i) (taken cap a most now)))
fits-take cap a most now h =
    let o = owed-now cap a now h in
    subst (λ is. EachFits cap (after now (map (λ i. Gave a (key_of_item i) i) is))) (sym (taken-owed cap a most now))
    (fits-gifts cap a most (owed_at cap a now).items (owed_at cap a now).lost now o h)

fits-done : (cap : ℕ) (op : StreamOp) (now : StreamMoment) → EachFits cap now → EachFits cap (after now (stream_acts now op Done))
fits-done cap (Add agent subs) now h = fits-subs cap agent subs.items now h
fits-done cap (Remove agent keys) now h = fits-ends cap agent keys.items now h
fits-done cap (Close agent) now h = fits-close cap agent (keys_of agent now) now (λ k e. keys_of-has agent now k ∙ e) h
fits-done cap (Put items) now h = fits-puts cap items.items now h
fits-done cap (Take agent most out) now h = fits-none cap now h
fits-done cap (Watch watcher most out) now h = fits-none cap now h

refusal-or : (cap : ℕ) (b c : Bool) (op : StreamOp) (now : StreamMoment) → EachFits cap now → EachFits cap (after now (stream_acts now op Done)) → EachFits cap (after now (stream_acts now op (if b then TooManyKeys else if c then TooManySubs else Done)))
refusal-or cap true c op now h d = fits-none cap now h
refusal-or cap false true op now h d = fits-none cap now h
refusal-or cap false false op now h d = d

fits-reply : (cap : ℕ) (op : StreamOp) (now : StreamMoment) → EachFits cap now → EachFits cap (after now (stream_acts now op (reply_to cap now op)))
unfolding reply_to
fits-reply cap (Add agent subs) now h = refusal-or cap (too_many_keys cap now subs.items) (too_many_subs cap now agent subs.items) (Add agent subs) now h (fits-done cap (Add agent subs) now h)
fits-reply cap (Remove agent keys) now h = fits-done cap (Remove agent keys) now h
fits-reply cap (Close agent) now h = fits-done cap (Close agent) now h
fits-reply cap (Put items) now h = fits-done cap (Put items) now h
fits-reply cap (Take agent most out) now h = fits-take cap agent most now h
fits-reply cap (Watch watcher most out) now h = fits-told cap watcher (watched watcher most now) now h

fits-lawful : (cap : ℕ) (op : StreamOp) (reply : StreamReply) (now : StreamMoment) → EachFits cap now → IsLawful cap now op reply → EachFits cap (after now (stream_acts now op reply))
unfolding IsLawful
fits-lawful cap op reply now h (inl e) = subst (λ (r : StreamReply). EachFits cap (after now (stream_acts now op r))) (sym e) (fits-reply cap op now h)
fits-lawful cap op reply now h (inr e) = subst (λ (r : StreamReply). EachFits cap (after now (stream_acts now op r))) (sym e.1) (fits-none cap now h)

one-more : (log : List StreamEntry) (e : StreamEntry) → moment_of (log ++ e ∷ []) ≡ after (moment_of log) (stream_acts (moment_of log) e.op e.reply)
unfolding moment_of after_entry
one-more log e = after_log-push stream_acts [] log e

fits-follow : (terms : Terms) (before log : List StreamEntry) → EachFits terms.cap (moment_of before) → EachFollows (Follows terms) before log → EachFits terms.cap (moment_of (before ++ log))
unfolding Follows
fits-follow terms before [] w h = subst (λ (l : List StreamEntry). EachFits terms.cap (moment_of l)) (sym (append-nil before)) w
fits-follow terms before (e ∷ es) w h =
    let next = subst (EachFits terms.cap) (sym (one-more before e)) (fits-lawful terms.cap e.op e.reply (moment_of before) w h.0) in
    subst (λ (l : List StreamEntry). EachFits terms.cap (moment_of l)) (append_assoc before (e ∷ []) es) (fits-follow terms (before ++ e ∷ []) es next h.1)

fits-log : (terms : Terms) (log : List StreamEntry) → IsLegal terms log → EachFits terms.cap (moment_of log)
unfolding moment_of after_log
fits-log terms log h = fits-follow terms [] log tt h

pub fits-moment : (terms : Terms) (now : StreamMoment) → IsStreamMoment terms now → EachFits terms.cap now
fits-moment terms now m = fits-before terms.cap m.within.later now (subst (EachFits terms.cap) (sym m.within.is) (fits-log terms m.log m.legal))
