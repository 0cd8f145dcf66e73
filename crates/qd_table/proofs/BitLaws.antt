-- The bits of a key's agents say who is subscribed.
use Rattle.std.proofs.Common.{◌≡◌, ℕ, zero, suc, ◌+◌, ◌*◌, ◌<◌, ◌≤◌, Bool, true, false, nat_eq, if◌then◌else◌, Option, Some, None, refl, ap, sym, ◌∙◌, arith}
use Rattle.std.specs.Prelude.{is_some, slice_index, ◌/◌, ◌%◌}
use Rattle.qd_scheme.specs.declared.key.Key.{Key}
use Rattle.qd_sub.specs.Acts.{Moment}
use Rattle.qd_sub.specs.Subscriptions.{subscribed}
use Rattle.qd_slots.specs.Holds.{is_subscribed, cell_at}
use Rattle.qd_table.specs.Tables.{Table, slot_for, hold_for, limit_for, limit_by, bit_at, bits_from, agent_bits}
use Rattle.qd_table.specs.Standing.{StandsFor}
use Rattle.qd_table.specs.Bits.{has_bit, SaysSubscribed}
use Rattle.qd_table.proofs.KeyCalls.{bits-none, bits-some, limit-none, limit-some}

low-bit : (s : Bool) (r : ℕ) → nat_eq (((if s then 1 else 0) + 2 * r) % 2) 1 ≡ s
low-bit true r = let e : (1 + 2 * r) % 2 ≡ 1 = omega arith in ap (λ n. nat_eq n 1) e
low-bit false r = let e : (0 + 2 * r) % 2 ≡ 0 = omega arith in ap (λ n. nat_eq n 1) e

upper-bits : (s : Bool) (r : ℕ) → ((if s then 1 else 0) + 2 * r) / 2 ≡ r
upper-bits true r = omega arith
upper-bits false r = omega arith

bit-from : (t : Table) (slot n a i : ℕ) → i < n → has_bit (bits_from t slot a n) i ≡ is_subscribed (hold_for t (a + i) slot)
unfolding has_bit bits_from bit_at
bit-from t slot zero a i l = absurd (omega (arith, l))
bit-from t slot (suc n) a zero l =
    let e : a ≡ a + 0 = omega arith in
    low-bit (is_subscribed (hold_for t a slot)) (bits_from t slot (suc a) n) ∙ ap (λ b. is_subscribed (hold_for t b slot)) e
bit-from t slot (suc n) a (suc i) l =
    let e : suc a + i ≡ a + suc i = omega arith in
    ap (λ r. has_bit r i) (upper-bits (is_subscribed (hold_for t a slot)) (bits_from t slot (suc a) n)) ∙ bit-from t slot n (suc a) i (omega (arith, l)) ∙ ap (λ b. is_subscribed (hold_for t b slot)) e

no-bit : (i : ℕ) → has_bit 0 i ≡ false
unfolding has_bit
no-bit zero = refl
no-bit (suc i) = no-bit i

some-if : (c : Bool) (n : ℕ) → is_some (if c then Some n else None) ≡ c
some-if true n = refl
some-if false n = refl

limit-subscribed : (t : Table) (a slot : ℕ) → is_some (limit_for t a slot) ≡ is_subscribed (hold_for t a slot)
unfolding limit_for hold_for
limit-subscribed t a slot = some-if (is_subscribed (hold_for t a slot)) (slice_index (cell_at t.holdings.cells slot).limits a)

bits-limit : (t : Table) (k : Key) (a : ℕ) → a < 128 → has_bit (agent_bits t k) a ≡ is_some (limit_by t a k)
bits-limit t k a l =
    let go : (o : Option ℕ) → slot_for t k ≡ o → has_bit (agent_bits t k) a ≡ is_some (limit_by t a k) =
    elim [
      | None ↦ λ e. ap (λ n. has_bit n a) (sym (bits-none t k e)) ∙ no-bit a ∙ ap is_some (limit-none t a k e)
      | Some slot ↦ λ e. ap (λ n. has_bit n a) (sym (bits-some t k slot e)) ∙ bit-from t slot 128 0 a l ∙ ap (λ b. is_subscribed (hold_for t b slot)) (let z : 0 + a ≡ a = omega arith in z) ∙ sym (limit-subscribed t a slot) ∙ ap is_some (limit-some t a k slot e)
    ] in
    go (slot_for t k) refl

pub bits-subscribed : {P T : Type 0} (t : Table) (k : Key) (bits : ℕ) (keeps : ℕ → Key → Bool) (now : Moment P T) → bits ≡ agent_bits t k → SaysSubscribed t k bits keeps now
unfolding subscribed
bits-subscribed t k bits keeps now e stands a l = ap (λ n. has_bit n a) e ∙ bits-limit t k a l ∙ sym (ap is_some (stands.limits a k))
