-- The sides of the agents of a slot, one after another.
use Rattle.std.proofs.Common.{◌≡◌, ◌⊎◌, inl, inr, ℕ, ◌+◌, ◌<◌, ◌≤◌, Bool, true, false, nat_eq, List, refl, ap, sym, ◌∙◌, arith, subst}
use Rattle.std.proofs.lemmas.Bool.Decides.{nat_tests}
use Rattle.qd_pend.proofs.ListLaws.{equal}
use Rattle.qd_slots.proofs.NameLaws.{below-or-not}
use Rattle.qd_table.proofs.TableLaws.{true-false}
use Rattle.qd_slots.specs.Holds.{is_subscribed}
use Rattle.qd_table.specs.Tables.{Table, hold_for}
use Rattle.qd_table.specs.Steps.{IsNextAgent}
use Rattle.qd_hist_stand.specs.Stripes.{Side}
use Rattle.qd_hist_stand.specs.Steps.{Part}
use Rattle.qd_history.specs.Sides.{sided_at, part_in, IsSided, AllSided}

-- each agent below a number that is subscribed to the slot has the part of it that f tells; of the others all is the same
pub record SidedBelow (t : Table) (slot from : ℕ) (f : ℕ → Part → Part) (old new : List Side) : Type 0 where
  pub sides : (a : ℕ) → a < from → is_subscribed (hold_for t a slot) ≡ true → IsSided (sided_at old a) slot (f a (part_in (sided_at old a) slot)) (sided_at new a)
  pub others : (a : ℕ) → (from ≤ a) ⊎ (is_subscribed (hold_for t a slot) ≡ false) → sided_at new a ≡ sided_at old a

pub sided-none : (t : Table) (slot : ℕ) (f : ℕ → Part → Part) (old : List Side) → SidedBelow t slot 0 f old old
sided-none t slot f old = record { sides = λ a h s. absurd (omega arith); others = λ a h. refl }

below-less : (a agent from : ℕ) → a < agent + 1 → nat_eq a agent ≡ false → a < agent
below-less a agent from h e = grind (arith, nat_tests)

pub sided-next : (t : Table) (slot from agent : ℕ) (f : ℕ → Part → Part) (old mid next : List Side) → IsNextAgent t slot from agent → SidedBelow t slot from f old mid
    → IsSided (sided_at mid agent) slot (f agent (part_in (sided_at mid agent) slot)) (sided_at next agent) → ((b : ℕ) → nat_eq b agent ≡ false → sided_at next b ≡ sided_at mid b)
    → SidedBelow t slot (agent + 1) f old next
sided-next t slot from agent f old mid next is_next was part rest = record {
  sides = λ a h s. sides a h s (nat_eq a agent) refl;
  others = λ a h. others a h (nat_eq a agent) refl;
}
  where
    after : from ≤ agent
    after = is_next.after

    untouched : sided_at mid agent ≡ sided_at old agent
    untouched = was.others agent (inl after)

    here : IsSided (sided_at old agent) slot (f agent (part_in (sided_at old agent) slot)) (sided_at next agent)
    here = subst (λ x. IsSided x slot (f agent (part_in x slot)) (sided_at next agent)) untouched part

    sides : (a : ℕ) → a < agent + 1 → is_subscribed (hold_for t a slot) ≡ true → (b : Bool) → nat_eq a agent ≡ b → IsSided (sided_at old a) slot (f a (part_in (sided_at old a) slot)) (sided_at next a)
    sides a h s true e = subst (λ x. IsSided (sided_at old x) slot (f x (part_in (sided_at old x) slot)) (sided_at next x)) (sym (equal a agent e)) here
    sides a h s false e =
        let less : a < agent = below-less a agent from h e in
        let same : sided_at next a ≡ sided_at mid a = rest a e in
        elim (below-or-not a from) [
          | inl l ↦ subst (λ x. IsSided (sided_at old a) slot (f a (part_in (sided_at old a) slot)) x) (sym same) (was.sides a l s)
          | inr m ↦ absurd (true-false (sym s ∙ is_next.none_before a m less))
        ]

    others : (a : ℕ) → (agent + 1 ≤ a) ⊎ (is_subscribed (hold_for t a slot) ≡ false) → (b : Bool) → nat_eq a agent ≡ b → sided_at next a ≡ sided_at old a
    others a (inl h) true e = absurd (let z : a ≡ agent = equal a agent e in omega arith)
    others a (inr h) true e = absurd (true-false (sym is_next.subscribed ∙ ap (λ x. is_subscribed (hold_for t x slot)) (sym (equal a agent e)) ∙ h))
    others a (inl h) false e = rest a e ∙ was.others a (inl (omega arith))
    others a (inr h) false e = rest a e ∙ was.others a (inr h)

pub sided-all : (t : Table) (slot from : ℕ) (f : ℕ → Part → Part) (old new : List Side) → ((c : ℕ) → from ≤ c → is_subscribed (hold_for t c slot) ≡ false) → SidedBelow t slot from f old new → AllSided t slot f old new
sided-all t slot from f old new none was = record {
  sides = λ a s. elim (below-or-not a from) [
    | inl l ↦ was.sides a l s
    | inr m ↦ absurd (true-false (sym s ∙ none a m))
  ];
  others = λ a h. was.others a (inr h);
}

-- a fact of each agent's side, where it holds of the one that changed and the others stay
pub each-next : (P : ℕ → Side → Type 0) (agent : ℕ) (mid next : List Side) → P agent (sided_at next agent) → ((b : ℕ) → nat_eq b agent ≡ false → sided_at next b ≡ sided_at mid b) → ((b : ℕ) → nat_eq b agent ≡ false → P b (sided_at mid b)) → (a : ℕ) → P a (sided_at next a)
each-next P agent mid next here rest was a = go (nat_eq a agent) refl
  where
    go : (b : Bool) → nat_eq a agent ≡ b → P a (sided_at next a)
    go true e = subst (λ x. P x (sided_at next x)) (sym (equal a agent e)) here
    go false e = subst (P a) (sym (rest a e)) (was a e)
