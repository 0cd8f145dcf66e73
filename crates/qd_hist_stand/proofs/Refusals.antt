-- What a stripe keeps tells which Puts and which Adds are refused.
use Rattle.std.proofs.Common.{◌≡◌, inl, inr, ℕ, ◌+◌, ◌^◌, Bool, false, nat_lt, Option, Some, None, is_some, length, refl, ap, sym, ◌∙◌}
use Rattle.std.proofs.Math.Path.{fun_ext}
use Rattle.std.specs.List.{filter}
use Rattle.std.proofs.Math.Bool.{or-false}
use Rattle.qd_scheme.specs.declared.key.Key.{Key}
use Rattle.qd_scheme.specs.declared.key.Event.{Event}
use Rattle.qd_sub.specs.Subscriptions.{subscribed, wanted, keys_of}
use Rattle.qd_sub.specs.Holding.{held, held_keys, held_pairs}
use Rattle.qd_sub.proofs.StepLaws.{keys_of-has, held_pairs-has, held_pairs-once}
use Rattle.qd_sub.proofs.HeldLaws.{held-agent, held-watcher, held-holder, held_keys-has, held_keys-once}
use Rattle.qd_table.specs.Tables.{slot_for, is_wanted_slot, is_wanted_key}
use Rattle.qd_table.proofs.TableLaws.{key_at-found}
use Rattle.qd_table.proofs.StandLaws.{wanted-table, wanted-absent}
use Rattle.qd_table.proofs.TableCounts.{key-holder, fault-table}
use Rattle.qd_hist_rules.specs.Moments.{HistMoment}
use Rattle.qd_hist_rules.specs.Legal.{too_many_keys, too_many_subs, is_full, is_spent}
use Rattle.qd_hist_stand.specs.Stripes.{Shown, StandsAt, no_keeps}
use Rattle.qd_hist_stand.specs.Laws.{FullIsTold, SpentIsTold, FaultIsTold}

-- the wanted keys are those that the table says
pub wanted-key : (s : Shown) (now : HistMoment) → StandsAt s now → (k : Key) → wanted k now ≡ is_wanted_key s.table k
unfolding is_wanted_key
wanted-key s now st k = go (slot_for s.table k) refl
  where
    go : (o : Option ℕ) → slot_for s.table k ≡ o → wanted k now ≡ elim (slot_for s.table k) [ None ↦ false | Some slot ↦ is_wanted_slot s.table slot ]
    go None e = wanted-absent s.table no_keeps now st.table k e ∙ sym (ap (λ (o : Option ℕ). elim o [ None ↦ false | Some slot ↦ is_wanted_slot s.table slot ]) e)
    go (Some i) e =
        wanted-table s.table no_keeps now st.table k i (key_at-found s.table k i e) ∙ sym (ap (λ (o : Option ℕ). elim o [ None ↦ false | Some slot ↦ is_wanted_slot s.table slot ]) e)

pub full-told : FullIsTold
unfolding is_full
full-told s items now st =
    ap (λ (n : ℕ). nat_lt 262144 (n + length (filter (λ (e : Event). wanted e.key now) items))) (sym st.stock_is)
    ∙ ap (λ (p : Event → Bool). nat_lt 262144 (s.stock + length (filter p items))) (fun_ext (λ (e : Event). wanted-key s now st e.key))

pub spent-told : SpentIsTold
unfolding is_spent
spent-told s items now st = ap (λ (n : ℕ). nat_lt (2 ^ 63) (n + length items)) (sym st.count_is)

held-slot : (s : Shown) (now : HistMoment) (k : Key) → StandsAt s now → is_some (slot_for s.table k) ≡ held k now
held-slot s now k st =
    key-holder s.table no_keeps now k (held k now) st.table (λ a h. held-agent a k now (sym (or-false (subscribed a k now)) ∙ h)) (λ w h. held-watcher w k now h)
    (λ h. elim (held-holder k now h) [ inl f ↦ inl (f.0, or-false (subscribed f.0 k now) ∙ f.1) | inr f ↦ inr f ])

pub fault-told : FaultIsTold
unfolding too_many_keys too_many_subs
fault-told s a subs now st =
    fault-table s.table a subs (held_keys now) (keys_of a now) (held_pairs now) st.table.sound (held_keys-once now) (λ k. held_keys-has now k ∙ sym (held-slot s now k st)) (held_pairs-once now)
    (λ p. held_pairs-has now p ∙ sym (or-false (subscribed p.0 p.1 now)) ∙ st.table.held p.0 p.1) (λ k. keys_of-has a now k ∙ sym (or-false (subscribed a k now)) ∙ st.table.held a k)
