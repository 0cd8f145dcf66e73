-- Each step keeps the terms.
use Rattle.std.proofs.Common.{◌≡◌, inl, inr, ℕ, zero, suc, ◌≤◌, Bool, true, false, nat_lt, Option, Some, None, List, [], ◌∷◌, length, refl, ap, sym, ◌∙◌, arith}
use Rattle.std.specs.Prelude.{MatchBool}
use Rattle.std.proofs.lemmas.Bool.Decides.{nat_tests}
use Rattle.qd_scheme.specs.declared.key.Key.{Key}
use Rattle.qd_scheme.specs.declared.key.Event.{Event}
use Rattle.qd_sub.specs.declared.sub.Sub.{Sub}
use Rattle.qd_sub.specs.declared.op.Op.TheVariants.{Add, Remove, Close, Put, Take, Watch}
use Rattle.qd_slots.specs.Holds.{is_subscribed}
use Rattle.qd_table.specs.declared.table.SubFault.{SubFault}
use Rattle.qd_table.specs.declared.table.SubFault.TheVariants as faults
use Rattle.qd_table.specs.Tables.{key_at, slot_for, hold_for, fault_of}
use Rattle.qd_hist_rules.specs.declared.reply.HistoryReply.{HistoryReply}
use Rattle.qd_hist_rules.specs.Legal.{HistoryOp, terms_of}
use Rattle.qd_hist_stand.specs.Stripes.{Shown, terms_in}
use Rattle.qd_hist_stand.specs.Steps.{IsPut, IsDropped, IsRoomier}
use Rattle.qd_history.specs.Steps.{SubscribesAll, AddsBy, RemovesAt, RemovesAll, EndsAll, PutsAll, PutsBy, is_full, is_spent, Gift, GivesEach, Takes, StepsTo}

record Keeps (s t : Shown) : Type 0 where
  hcap : t.hcap ≡ s.hcap
  base : t.base ≡ s.base

same : (s t : Shown) → s ≡ t → Keeps s t
same s t e = record { hcap = ap (λ (x : Shown). x.hcap) (sym e); base = ap (λ (x : Shown). x.base) (sym e) }

join : (s m t : Shown) → Keeps s m → Keeps m t → Keeps s t
join s m t p q = record { hcap = q.hcap ∙ p.hcap; base = q.base ∙ p.base }

roomier : (s t : Shown) → IsRoomier s t → Keeps s t
roomier s t r = record { hcap = r.numbers.hcap; base = r.numbers.base }

subscribes : (a : ℕ) (subs : List Sub) (s t : Shown) → SubscribesAll s a subs t → Keeps s t
unfolding SubscribesAll
subscribes a [] s t e = same s t e
subscribes a (x ∷ xs) s t (slot, mid, step, rest) = join s mid t (record { hcap = step.numbers.hcap; base = step.numbers.base }) (subscribes a xs mid t rest)

adds : (o : Option SubFault) (s t : Shown) (a : ℕ) (subs : List Sub) (reply : HistoryReply) → AddsBy o s a subs reply t → Keeps s t
adds (Some faults.TooManyKeys) s t a subs reply (is, r) = roomier s t r
adds (Some faults.TooManySubs) s t a subs reply (is, r) = roomier s t r
adds (Some faults.NoMemory) s t a subs reply x = absurd x
adds None s t a subs reply (inl (is, added)) = join s added.mid t (roomier s added.mid added.roomier) (subscribes a subs added.mid t added.subscribed)
adds None s t a subs reply (inr (is, r)) = roomier s t r

dropped : (s t : Shown) (a slot : ℕ) → IsDropped s a slot t → Keeps s t
dropped s t a slot d = record { hcap = d.hcap; base = d.base }

removes-one : (o : Option ℕ) (s t : Shown) (a : ℕ) (k : Key) → RemovesAt o s a k t → Keeps s t
removes-one None s t a k e = same s t e
removes-one (Some slot) s t a k step = go (is_subscribed (hold_for s.table a slot)) step
  where
    go : (b : Bool) → MatchBool b ((key_at s.table slot ≡ Some k) × IsDropped s a slot t) (s ≡ t) → Keeps s t
    go true (key, d) = dropped s t a slot d
    go false e = same s t e

removes : (a : ℕ) (ks : List Key) (s t : Shown) → RemovesAll s a ks t → Keeps s t
unfolding RemovesAll
removes a [] s t e = same s t e
removes a (k ∷ ks) s t (mid, step, rest) = join s mid t (removes-one (slot_for s.table k) s mid a k step) (removes a ks mid t rest)

ends : (n : ℕ) (s t : Shown) (a : ℕ) → EndsAll n s a t → Keeps s t
unfolding EndsAll
ends zero s t a (none, e) = same s t e
ends (suc n) s t a (slot, mid, first, d, rest) = join s mid t (dropped s mid a slot d) (ends n mid t a rest)

put : (s t : Shown) (e : Event) → IsPut s e t → Keeps s t
put s t e (inl (unwanted, is)) = same s t (sym is)
put s t e (inr (slot, answer, p)) = record { hcap = p.hcap; base = p.base }

puts : (es : List Event) (s t : Shown) → PutsAll s es t → Keeps s t
unfolding PutsAll
puts [] s t e = same s t e
puts (e ∷ es) s t (mid, step, rest) = join s mid t (put s mid e step) (puts es mid t rest)

puts-by : (full spent : Bool) (s t : Shown) (es : List Event) (reply : HistoryReply) → PutsBy full spent s es reply t → Keeps s t
puts-by true spent s t es reply (is, e) = same s t e
puts-by false true s t es reply (is, e) = same s t e
puts-by false false s t es reply (inl (is, done)) = join s done.mid t (roomier s done.mid done.roomier) (puts es done.mid t done.put)
puts-by false false s t es reply (inr (is, r)) = roomier s t r

gives : (a : ℕ) (gs : List Gift) (s t : Shown) → GivesEach s a gs t → Keeps s t
unfolding GivesEach
gives a [] s t e = same s t e
gives a (g ∷ gs) s t (mid, given, rest) = join s mid t (record { hcap = given.numbers.hcap; base = given.numbers.base }) (gives a gs mid t rest)

takes : (s t : Shown) (a most : ℕ) (gs : List Gift) → Takes s a most gs t → Keeps s t
takes s t a most gs all = join s all.mid t (gives a gs s all.mid all.given) (go (nat_lt (length gs) most) refl)
  where
    go : (b : Bool) → nat_lt (length gs) most ≡ b → Keeps all.mid t
    go true h = same all.mid t (all.ends.idle (grind (arith, nat_tests))).1
    go false h =
        let full : length gs ≡ most = (let w : length gs ≤ most = all.ends.within in grind (arith, nat_tests)) in
        let turned = all.ends.turned full in
        record { hcap = turned.2.numbers.hcap; base = turned.2.numbers.base }

step : (s t : Shown) (op : HistoryOp) (reply : HistoryReply) → StepsTo s op reply t → Keeps s t
unfolding StepsTo
step s t (Add a subs) reply x = adds (fault_of s.table a subs.items) s t a subs.items reply x
step s t (Remove a keys) reply (is, x) = removes a keys.items s t x
step s t (Close a) reply (is, n, x) = ends n s t a x
step s t (Put items) reply x = puts-by (is_full s items.items) (is_spent s items.items) s t items.items reply x
step s t (Take a most out) reply (gs, is, x) = takes s t a most gs x
step s t (Watch w most out) reply (is, x) = record { hcap = x.numbers.hcap; base = x.numbers.base }

pub terms-step : (s t : Shown) (op : HistoryOp) (reply : HistoryReply) → StepsTo s op reply t → terms_in t ≡ terms_in s
terms-step s t op reply x = let k = step s t op reply x in λ i. terms_of (k.hcap i) (k.base i)
