-- Before an agent's first subscription to a key, and within one.
use Rattle.std.proofs.Common.{◌≡◌, ℕ, suc, Bool, true, false, ◌&&◌, not, if◌then◌else◌, [], ◌∷◌, refl, sym, ◌∙◌, arith}
use Rattle.qd_scheme.specs.declared.key.Key.{Key}
use Rattle.qd_sub.specs.Acts.{Act, Moment}
use Rattle.qd_sub.specs.Subscriptions.{subscribed}
use Rattle.qd_sub.proofs.StepLaws.{subscribed-empty}
use Rattle.qd_views.specs.Views.{subscriptions, IsSteady}

pub true-false : {A : Type 0} → (b : Bool) → b ≡ true → b ≡ false → A
true-false b t f = let z = sym t ∙ f in absurd (cc z)

-- before its first subscription an agent is not subscribed
pub unbegun-off : {P T : Type 0} (a : ℕ) (k : Key) (now : Moment P T) → subscriptions a k now ≡ 0 → subscribed a k now ≡ false
unbegun-off a k [] h = subscribed-empty _ _ a k
unbegun-off a k (act ∷ past) h = go (subscribed a k (act ∷ past)) (subscribed a k past) refl refl h (unbegun-off a k past)
  where
    go : (b c : Bool) → subscribed a k (act ∷ past) ≡ b → subscribed a k past ≡ c → (if b && not c then suc (subscriptions a k past) else subscriptions a k past) ≡ 0 → (subscriptions a k past ≡ 0 → subscribed a k past ≡ false) → subscribed a k (act ∷ past) ≡ false
    go false c e f h ih = e
    go true false e f h ih = absurd (omega (arith, h))
    go true true e f h ih = true-false (subscribed a k past) f (ih h)

no-begin : {P T : Type 0} (a : ℕ) (k : Key) (act : Act P T) (past : Moment P T) (b c : Bool) → subscribed a k (act ∷ past) ≡ b → subscribed a k past ≡ c → (b && not c) ≡ false → subscriptions a k (act ∷ past) ≡ subscriptions a k past
no-begin a k act past b c e f h = rw (e, f, h) refl

-- and so it was at each moment before
pub unbegun-before : {P T : Type 0} (a : ℕ) (k : Key) (act : Act P T) (past : Moment P T) → subscriptions a k (act ∷ past) ≡ 0 → subscriptions a k past ≡ 0
unbegun-before a k act past h = sym (no-begin a k act past false (subscribed a k past) (unbegun-off a k (act ∷ past) h) refl refl) ∙ h

-- within one subscription: it has just begun, or goes on
pub data Within {P T : Type 0} (a : ℕ) (k : Key) (act : Act P T) (past : Moment P T) : Type 0 where
  First : subscriptions a k past ≡ 0 → subscribed a k past ≡ false → Within a k act past
  Later : subscribed a k past ≡ true → IsSteady a k past → Within a k act past

pub within : {P T : Type 0} (a : ℕ) (k : Key) (act : Act P T) (past : Moment P T) → IsSteady a k (act ∷ past) → Within a k act past
within a k act past st = go (subscribed a k past) refl (rw st.still at st.once)
  where
    go : (c : Bool) → subscribed a k past ≡ c → (if true && not (subscribed a k past) then suc (subscriptions a k past) else subscriptions a k past) ≡ 1 → Within a k act past
    go true e h = Later e (record { still = e; once = rw e at h })
    go false e h = let z : suc (subscriptions a k past) ≡ 1 = rw e at h in First (omega (arith, z)) e
