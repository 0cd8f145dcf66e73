-- What the end of an agent's first subscription leaves of its keys: the others, in their order.
use Rattle.std.proofs.Common.{◌≡◌, ℕ, Bool, true, false, not, if◌then◌else◌, List, [], ◌∷◌, refl, ap, sym, ◌∙◌}
use Rattle.std.specs.List.{filter}
use Rattle.std.proofs.lemmas.Bool.{not-true}
use Rattle.qd_scheme.specs.declared.key.Key.{Key}
use Rattle.qd_scheme.specs.Keys.{key_eq}
use Rattle.qd_scheme.proofs.KeyLaws.{key_eq-same}
use Rattle.qd_sub.specs.Acts.{Unsubscribed, Moment}
use Rattle.qd_sub.specs.Subscriptions.{keys_of}
use Rattle.qd_sub.specs.Holding.{has_key}
use Rattle.qd_sub.proofs.SinceLaws.{same_number, and-left}
use Rattle.qd_sub.proofs.OrderLaws.{once}
use Rattle.qd_sub.proofs.StepLaws.{keys_of-unsub, keys_of-once}

-- a key that is not in a list is taken out of it
pub filter-alone : (ks : List Key) (k : Key) → has_key ks k ≡ false → filter (λ j. not (key_eq k j)) ks ≡ ks
filter-alone [] k h = refl
filter-alone (j ∷ ks) k h =
    let go : (c : Bool) → key_eq k j ≡ c → filter (λ i. not (key_eq k i)) (j ∷ ks) ≡ j ∷ ks =
    elim [
      | true ↦ λ e. let z = rw e at h in cc
      | false ↦ λ e. rw e (ap (λ js. j ∷ js) (filter-alone ks k (rw e at h)))
    ] in
    go (key_eq k j) refl

once-first : (k : Key) (ks : List Key) → once key_eq (k ∷ ks) ≡ true → has_key ks k ≡ false
unfolding once
once-first k ks h = not-true (has_key ks k) (and-left (not (has_key ks k)) (once key_eq ks) h)

-- a list of different keys without its first one
pub filter-first : (k : Key) (ks : List Key) → once key_eq (k ∷ ks) ≡ true → filter (λ j. not (key_eq k j)) (k ∷ ks) ≡ ks
filter-first k ks h = rw (key_eq-same k) (filter-alone ks k (once-first k ks h))

pub keys-rest : {P T : Type 0} (a : ℕ) (k : Key) (ks : List Key) (m : Moment P T) → keys_of a m ≡ k ∷ ks → keys_of a (Unsubscribed a k ∷ m) ≡ ks
keys-rest a k ks m e =
    keys_of-unsub a a k m ∙ ap (λ b. if b then filter (λ j. not (key_eq k j)) (keys_of a m) else keys_of a m) (same_number a) ∙ ap (filter (λ j. not (key_eq k j))) e
    ∙ filter-first k ks (ap (once key_eq) (sym e) ∙ keys_of-once a m)
