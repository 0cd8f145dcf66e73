-- That the keys of a stripe are known there alone.
use Rattle.std.specs.Prelude.{◌≡◌, ◌≢◌, ℕ, false, List, All}
use Rattle.qd_scheme.specs.declared.key.Key.{Key}
use Rattle.qd_scheme.specs.Stripes.{stripe_of}
use Rattle.qd_gate.specs.declared.machine.Entry.{Entry}
use Rattle.qd_gate.specs.declared.machine.Terms.{Terms}
use Rattle.qd_sub.specs.declared.op.Op.{Op}
use Rattle.qd_sub.specs.Acts.{Moment, is_gift, is_told}
use Rattle.qd_sub.specs.Since.{last_place}
use Rattle.qd_sub.specs.Subscriptions.{wanted}
use Rattle.qd_hub.specs.Hubs.{IsOfStripe}

module _ {P T : Type 0} where
  -- nobody wants the key, nobody was ever given an item of it, and nobody was ever told of it
  pub record IsUnknown (k : Key) (now : Moment P T) : Type 0 where
    pub unwanted : wanted k now ≡ false
    pub never_given : (agent : ℕ) → last_place (is_gift agent k) now ≡ 0
    pub never_told : (watcher : ℕ) → last_place (is_told watcher k) now ≡ 0

module _ {P T R : Type 0} where
  -- each op of the log is of this stripe, of so many
  abbrev pub AreOfStripe : (P → Key) → ℕ → ℕ → List (Entry (Op P T) R) → Type 0
  AreOfStripe key stripes stripe log = All (λ e. IsOfStripe key stripes stripe e.op) log

  -- after a legal log whose ops are all of one stripe, no key of another stripe is known
  abbrev pub KeepsStripes : (Terms → List (Entry (Op P T) R) → Type 0) → (List (Entry (Op P T) R) → Moment P T) → (P → Key) → Type 0
  KeepsStripes legal moment_of key =
      (terms : Terms) (log : List (Entry (Op P T) R)) (stripes stripe : ℕ) (k : Key) → legal terms log → AreOfStripe key stripes stripe log
      → stripe_of k stripes ≢ stripe → IsUnknown k (moment_of log)
