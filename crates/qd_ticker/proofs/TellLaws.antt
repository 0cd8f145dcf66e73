-- After tellings the stripe stands for the moment with their acts.
use Rattle.std.proofs.Common.{◌≡◌, ◌⊎◌, inl, inr, ℕ, ◌≤◌, Bool, true, false, ◌&&◌, not, if◌then◌else◌, nat_eq, Option, Some, None, List, [], ◌∷◌, map, take, refl, ap, sym, ◌∙◌, subst}
use Rattle.qd_scheme.specs.declared.key.Key.{Key}
use Rattle.qd_scheme.specs.declared.key.Record.{Record}
use Rattle.qd_pend.proofs.ListLaws.{equal}
use Rattle.qd_sub.specs.Acts.{Told}
use Rattle.qd_sub.specs.Subscriptions.{kept}
use Rattle.qd_sub.specs.Watching.{watched}
use Rattle.qd_sub.specs.Logs.{after}
use Rattle.qd_sub.specs.declared.sub.Want.{Want}
use Rattle.qd_sub.proofs.SubscriptionLaws.{wanted-none}
use Rattle.qd_sub.proofs.WatchLaws.{wanted-told}
use Rattle.qd_slots.specs.declared.holds.Hold.TheVariants.{Free}
use Rattle.qd_slots.specs.Holds.{is_subscribed, is_held}
use Rattle.qd_slots.proofs.NameLaws.{below-or-not}
use Rattle.qd_table.specs.Tables.{Table, key_at, hold_for, is_used, queue_of}
use Rattle.qd_table.specs.Steps.{IsTold, TellsAll}
use Rattle.qd_table.proofs.TableLaws.{below-any, subscribed-held, or-left, true-false}
use Rattle.qd_ticker.specs.Pending.{TickerMoment, last, last_record}
use Rattle.qd_ticker.specs.Kept.{IsKept, IsIdle}
use Rattle.qd_ticker.specs.Stripes.{Shown, StandsAt, last_at, queue_at, no_keeps}
use Rattle.qd_ticker.specs.Steps.{IsTelling}
use Rattle.qd_ticker.proofs.AboutLaws.{kept-same}
use Rattle.qd_ticker.proofs.KeptLaws.{kept-renamed, kept-alike}
use Rattle.qd_ticker.proofs.ActLaws.{kept-telling}
use Rattle.qd_table.proofs.StandLaws.{subscribed-table}
use Rattle.qd_table.proofs.StandChains.{stands-watched}
use Rattle.qd_ticker.proofs.StandLaws.{IsLabelled, lists_of, labels-same, with-false}

-- tellings
still-told : (wants : List Want) (w : ℕ) (name : ℕ → Option Key) (lasts : ℕ → Option Record) (queues : ℕ → List ℕ) (now : TickerMoment) → IsKept name lasts queues now → IsKept name lasts queues (after now (map (λ want. Told w want.key want.total) wants))
unfolding after
still-told [] w name lasts queues now kept = kept
still-told (want ∷ wants) w name lasts queues now kept = still-told wants w name lasts queues (Told w want.key want.total ∷ now) (kept-telling name lasts queues now w want.key want.total kept)

labels-told : (wants : List Want) (w : ℕ) (now : TickerMoment) → IsLabelled now → IsLabelled (after now (map (λ want. Told w want.key want.total) wants))
unfolding after last_record
labels-told [] w now labels = labels
labels-told (want ∷ wants) w now labels =
    labels-told wants w (Told w want.key want.total ∷ now) (labels-same (Told w want.key want.total) now (λ k. ap last (kept-same k (Told w want.key want.total) now (wanted-told k w want.key want.total now) (λ items. refl))) labels)

-- a slot lost its key, or not, and then nobody was subscribed to it
abbrev IsFreed : Table → Table → Type 0
IsFreed old new = (i : ℕ) → (key_at new i ≡ key_at old i) ⊎ ((key_at new i ≡ None) × ((a : ℕ) → is_subscribed (hold_for old a i) ≡ false))

freed-told : (old new : Table) (w slot : ℕ) → IsTold old w slot new → ((a : ℕ) → is_subscribed (hold_for new a slot) ≡ true → is_used new slot ≡ true) → IsFreed old new
freed-told old new w slot told uses i = go (nat_eq i slot) refl (is_used new slot) refl
  where
    go : (b : Bool) → nat_eq i slot ≡ b → (c : Bool) → is_used new slot ≡ c → (key_at new i ≡ key_at old i) ⊎ ((key_at new i ≡ None) × ((a : ℕ) → is_subscribed (hold_for old a i) ≡ false))
    go false e c u = inl (told.names i ∙ ap (λ b. if b && not (is_used new slot) then None else key_at old i) e)
    go true e true u = inl (told.names i ∙ ap (λ c. if nat_eq i slot && not c then None else key_at old i) u ∙ with-false (nat_eq i slot) None (key_at old i))
    go true e false u = inr (
      told.names i ∙ ap (λ c. if nat_eq i slot && not c then None else key_at old i) u ∙ ap (λ b. if b && true then None else key_at old i) e,
      λ a. (let see : (d : Bool) → is_subscribed (hold_for old a i) ≡ d → is_subscribed (hold_for old a i) ≡ false =
          elim [
            | true ↦ λ f. absurd (true-false (sym (uses a (ap is_subscribed (told.holds a slot) ∙ ap (λ j. is_subscribed (hold_for old a j)) (sym (equal i slot e)) ∙ f)) ∙ u))
            | false ↦ λ f. f
          ] in see (is_subscribed (hold_for old a i)) refl),
    )

used-subscribed : (t : Table) (a slot : ℕ) → ((b i : ℕ) → 128 ≤ b → hold_for t b i ≡ Free) → is_subscribed (hold_for t a slot) ≡ true → is_used t slot ≡ true
unfolding is_used
used-subscribed t a slot agents h = elim (below-or-not a 128) [
  | inl l ↦ or-left _ _ (below-any (λ b. is_held (hold_for t b slot)) 128 a l (subscribed-held (hold_for t a slot) h))
  | inr m ↦ absurd (true-false (sym h ∙ ap is_subscribed (agents a slot m)))
]

tells-freed : (slots : List ℕ) (old new : Table) (w : ℕ) → ((b i : ℕ) → 128 ≤ b → hold_for old b i ≡ Free) → TellsAll old w slots new → IsFreed old new
unfolding TellsAll
tells-freed [] old new w agents e i = inl (ap (λ x. key_at x i) (sym e))
tells-freed (slot ∷ slots) old new w agents (mid, told, rest) i =
    let still : (b j : ℕ) → 128 ≤ b → hold_for mid b j ≡ Free = λ b j m. told.holds b j ∙ agents b j m in
    let first = freed-told old mid w slot told (λ a h. used-subscribed mid a slot still h) i in
    elim (tells-freed slots mid new w still rest i) [
      | inl e ↦ elim first [
        | inl f ↦ inl (e ∙ f)
        | inr f ↦ inr (e ∙ f.0, f.1)
      ]
      | inr e ↦ inr (e.0, λ a. ap is_subscribed (sym (told.holds a i)) ∙ e.1 a)
    ]

pub StandsAt-told : (s t : Shown) (now : TickerMoment) (w most : ℕ) → StandsAt s now → IsTelling s w most t → StandsAt t (after now (map (λ want. Told w want.key want.total) (watched w most now)))
StandsAt-told s t now w most st tells = record {
  table = stands-watched s.table t.table no_keeps now w most st.table tells.watcher tells.table;
  kept = still-told (watched w most now) w (key_at t.table) (last_at t.lasts) (lists_of t) now
      (kept-renamed (key_at s.table) (key_at t.table) (last_at t.lasts) (lists_of t) now renamed
      (kept-alike (key_at s.table) (last_at s.lasts) (last_at t.lasts) (lists_of s) (lists_of t) now (λ i. ap (λ ls. last_at ls i) tells.lasts) (λ a. ap (λ qs. (queue_at qs a).list) tells.queues) st.kept));
  labels = labels-told (watched w most now) w now st.labels;
}
  where
    idle_at : (i : ℕ) → ((a : ℕ) → is_subscribed (hold_for s.table a i) ≡ false) → (o : Option Key) → key_at s.table i ≡ o → IsIdle o now
    idle_at i nobody None e = tt
    idle_at i nobody (Some k) e = wanted-none k now (λ a. subscribed-table s.table no_keeps now st.table a k i e ∙ nobody a)

    renamed : (i : ℕ) → (key_at t.table i ≡ key_at s.table i) ⊎ (IsIdle (key_at s.table i) now × IsIdle (key_at t.table i) now)
    renamed i = elim (tells-freed (take most (queue_of s.table w)) s.table t.table w st.table.sound.agents tells.table i) [
      | inl e ↦ inl e
      | inr e ↦ inr (idle_at i e.1 (key_at s.table i) refl, subst (λ o. IsIdle o now) (sym e.0) tt)
    ]
