-- What an event of a wanted key leaves of an agent's feed of that key.
use Rattle.std.proofs.Common.{◌≡◌, ℕ, ◌+◌, Bool, true, false, ◌&&◌, ◌||◌, not, List, ◌∷◌, length, reverse, refl, sym, ◌∙◌, ap, subst, Option, Some, None}
use Rattle.std.specs.Prelude.{if◌then◌else◌, nat_lt}
use Rattle.qd_scheme.specs.declared.key.Key.{Key}
use Rattle.qd_scheme.specs.declared.key.Event.{Event}
use Rattle.qd_flags.specs.declared.commits.Ingest.{Ingest}
use Rattle.qd_flags.specs.declared.commits.Ingest.TheVariants.{Ignored, Held, Update, Snapshot}
use Rattle.qd_flags.specs.Shown.{last_batch}
use Rattle.qd_flags.specs.Following.{answer_to}
use Rattle.qd_gate.specs.declared.machine.Terms.{Terms}
use Rattle.qd_sub.specs.Acts.{Came}
use Rattle.qd_sub.specs.Subscriptions.{subscribed, wanted}
use Rattle.qd_sub.proofs.SubscriptionLaws.{wanted-came}
use Rattle.qd_hist_rules.specs.declared.floor.AgentFloor.{AgentFloor}
use Rattle.qd_hist_rules.specs.declared.item.HistItem.{HistItem}
use Rattle.qd_hist_rules.specs.Moments.{HistMoment}
use Rattle.qd_hist_rules.specs.Source.{source, Commit, count, made, is_snapshot}
use Rattle.qd_hist_rules.specs.Agent.{agent_floor}
use Rattle.qd_hist_rules.specs.Standing.{standing, is_begun, has_overflowed, restarts, overflows_by, all_settled, is_snapshot_commit}
use Rattle.qd_hist_rules.specs.Lawful.{Lawful}
use Rattle.qd_hist_rules.proofs.ActFacts.{limit_came}
use Rattle.qd_hist_rules.proofs.EndedFit.{ended_fit}
use Rattle.qd_hist_feed.specs.declared.feed.Stage.{Stage}
use Rattle.qd_hist_feed.specs.declared.feed.Stage.TheVariants.{Waiting, Sweeping, Ended}
use Rattle.qd_hist_feed.specs.Feeding.{Feeding, nothing, owed_items}
use Rattle.qd_hist_feed.specs.Stands.{StandsBy, StandsFor}
use Rattle.qd_hist_feed.proofs.Sweeping.{quiet_stands, waiting_stays, update_stands}
use Rattle.qd_hist_stand.specs.Steps.{makes_commit, Part, part_after, updated, restarted, owing, more_owed}
use Rattle.qd_hist_stand.proofs.PutCommits.{IsMade, made_none, made_snapshot, made_update, update_batch, floor_update}

-- whether more comes to be owed, and is more than may be owed
abbrev pub passes : ℕ → ℕ → ℕ → Bool
passes hcap owed more = nat_lt 0 more && nat_lt hcap (owed + more)

-- what is owed to an agent in all tells of a commit that is no snapshot commit whether the pair may be restarted, or is not
pub record Tells (terms : Terms) (a : ℕ) (k : Key) (e : Event) (m : HistMoment) (stage : Stage) (owed : ℕ) : Type 0 where
  pub may_restart : (c : Commit) (f : AgentFloor) → agent_floor terms.base a k m ≡ Some f → made terms.base k (Came k e ∷ m) ≡ Some c → is_snapshot c ≡ false
      → passes terms.hcap owed (length (owed_items stage f.index c.number (reverse c.events))) ≡ true → (not (is_begun terms a k (Came k e ∷ m)) || has_overflowed terms a k (Came k e ∷ m)) ≡ true
  pub goes_on : (c : Commit) (f : AgentFloor) → agent_floor terms.base a k m ≡ Some f → made terms.base k (Came k e ∷ m) ≡ Some c → is_snapshot c ≡ false
      → passes terms.hcap owed (length (owed_items stage f.index c.number (reverse c.events))) ≡ false → restarts (standing terms a m) terms a k (Came k e) m ≡ false

-- a pair that is restarted is not begun
not_begun : (t : Terms) (a : ℕ) (k : Key) (e : Event) (m : HistMoment) → restarts (standing t a m) t a k (Came k e) m ≡ true → is_begun t a k (Came k e ∷ m) ≡ false
not_begun t a k e m h = ap (λ (b : Bool). subscribed a k (Came k e ∷ m) && (not b && (standing t a m k).begin_given)) h ∙ last (subscribed a k (Came k e ∷ m))
  where
    last : (b : Bool) → (b && false) ≡ false
    last true = refl
    last false = refl

snapshot_waits : (t : Terms) (a : ℕ) (k : Key) (e : Event) (m : HistMoment) → IsMade t.base k e m true → StandsFor t a k nothing (Came k e ∷ m)
snapshot_waits t a k e m c =
    let o : is_snapshot_commit (made t.base k (Came k e ∷ m)) ≡ true = ap is_snapshot_commit c.made_is ∙ c.snapshot_is in
    let r : restarts (standing t a m) t a k (Came k e) m ≡ true =
    ap (λ (b : Bool). b || (overflows_by (standing t a m) t a k m (made t.base k (Came k e ∷ m)) && all_settled (standing t a m) a m)) o in
    (refl, ap (λ (b : Bool). not b || has_overflowed t a k (Came k e ∷ m)) (not_begun t a k e m r))

none-some : (f : AgentFloor) → (let m : Option AgentFloor = None in let n : Option AgentFloor = Some f in m ≡ n) → ⊥
none-some f h = cc

-- a feed of a pair that does not fit waits
unfit_waits : (t : Terms) (a : ℕ) (k : Key) (e : Event) (m : HistMoment) (stage : Stage) (owed : List HistItem) → Lawful t m → agent_floor t.base a k m ≡ None → StandsBy stage owed t a k m → StandsBy stage owed t a k (Came k e ∷ m)
unfit_waits t a k e m Waiting owed w f h = (h.0, waiting_stays t a k (Came k e) m refl h.1)
unfit_waits t a k e m (Sweeping place) owed w f h = absurd (none-some h.floor (sym f ∙ h.floor_is))
unfit_waits t a k e m Ended owed w f h = let x = ended_fit t a k m w h.0 in absurd (none-some x.floor (sym f ∙ x.floor_is))

quiet_put : (t : Terms) (a : ℕ) (k : Key) (e : Event) (m : HistMoment) (s : Feeding) → made t.base k (Came k e ∷ m) ≡ None → StandsFor t a k s m → StandsFor t a k s (Came k e ∷ m)
quiet_put t a k e m s q h = quiet_stands t a k s (Came k e) m (record { no_gift = refl; no_commit = q; same_limit = limit_came a k k e m; no_sub = refl }) h

-- the feed after a commit that is no snapshot commit
update_then : (t : Terms) (a : ℕ) (k : Key) (e : Event) (m : HistMoment) (slot : ℕ) (p : Part) (c : Commit) (f : AgentFloor) → wanted k m ≡ true → Lawful t m → made t.base k (Came k e ∷ m) ≡ Some c → is_snapshot c ≡ false
    → agent_floor t.base a k m ≡ Some f → Tells t a k e m p.feed.stage p.owed → StandsFor t a k p.feed m → StandsFor t a k (updated t.hcap (Some f) c.number (reverse c.events) slot p).feed (Came k e ∷ m)
update_then t a k e m slot p c f w law q ns fl tells st = go (passes t.hcap p.owed (more_owed f.index c.number (reverse c.events) p)) refl
  where
    go : (b : Bool) → passes t.hcap p.owed (more_owed f.index c.number (reverse c.events) p) ≡ b
        → StandsFor t a k (let after : Part = if b then restarted (Some f) slot p else owing f.index c.number (reverse c.events) slot p in after.feed) (Came k e ∷ m)
    go true h = (refl, tells.may_restart c f fl q ns h)
    go false h =
        update_stands t a k p.feed e c f m law (record { wanted_before = w; wanted_after = wanted-came k k e m ∙ w; made_is = q; no_snapshot = ns; goes_on = tells.goes_on c f fl q ns h }) fl st

-- the feed after an event
pub feed_then : (t : Terms) (a : ℕ) (k : Key) (e : Event) (m : HistMoment) (slot : ℕ) (p : Part) (answer : Ingest) (floor : Option AgentFloor) (n : ℕ) (batch : List Event) → wanted k m ≡ true → Lawful t m
    → answer ≡ answer_to (source k (Came k e ∷ m)) → floor ≡ agent_floor t.base a k (Came k e ∷ m) → n ≡ count t.base (Came k e ∷ m) → batch ≡ reverse (last_batch (source k (Came k e ∷ m)))
    → Tells t a k e m p.feed.stage p.owed → StandsFor t a k p.feed m → StandsFor t a k (part_after t.hcap answer floor n batch slot p).feed (Came k e ∷ m)
feed_then t a k e m slot p Ignored floor n batch w law an fl nu ba tells st = quiet_put t a k e m p.feed (made_none t.base k e m w (ap makes_commit (sym an))) st
feed_then t a k e m slot p Held floor n batch w law an fl nu ba tells st = quiet_put t a k e m p.feed (made_none t.base k e m w (ap makes_commit (sym an))) st
feed_then t a k e m slot p Snapshot floor n batch w law an fl nu ba tells st = snapshot_waits t a k e m (made_snapshot t.base k e m w (sym an))
feed_then t a k e m slot p Update floor n batch w law an fl nu ba tells st = go floor (fl ∙ floor_update t.base a k e m w (sym an))
  where
    c : IsMade t.base k e m false
    c = made_update t.base k e m w (sym an)

    go : (o : Option AgentFloor) → o ≡ agent_floor t.base a k m → StandsFor t a k (updated t.hcap o n batch slot p).feed (Came k e ∷ m)
    go None h = unfit_waits t a k e m p.feed.stage p.feed.owed law (sym h) st
    go (Some f) h =
        subst (λ (x : ℕ). StandsFor t a k (updated t.hcap (Some f) x batch slot p).feed (Came k e ∷ m)) (c.number_is ∙ sym nu)
        (subst (λ (es : List Event). StandsFor t a k (updated t.hcap (Some f) c.commit.number es slot p).feed (Came k e ∷ m)) (ap (λ (es : List Event). reverse es) (c.events_is ∙ sym (update_batch (source k (Came k e ∷ m)) (sym an))) ∙ sym ba)
        (update_then t a k e m slot p c.commit f w law c.made_is c.snapshot_is (sym h) tells st))
