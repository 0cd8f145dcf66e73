-- Items that are cut by stripe, put together again.
use Rattle.std.proofs.Common.{ℕ, nat_eq, ◌≡◌, ◌<◌, Bool, true, false, List, [], ◌∷◌, refl, ap, ◌∙◌, arith}
use Rattle.std.proofs.lemmas.Bool.Decides.{nat_tests}
use Rattle.std.proofs.lemmas.Nat.{mod_below}
use Rattle.qd_buffer.specs.Splitting.{of_stripe}
use Rattle.qd_scheme.specs.declared.key.Key.{Key}
use Rattle.qd_scheme.specs.Stripes.{stripe_of}
use Rattle.qd_path.specs.Lists.{at_stripe}
use Rattle.qd_path.specs.Laws.{AreTogether, ComesTogether}
use Rattle.qd_path.proofs.Cuts.{cuts_by_stripe}

module _ {X : Type 0} (key : X → Key) (n : ℕ) (some : 0 < n) where
  -- an item stands in the part of its stripe
  own_part : (x : X) (xs : List X) → of_stripe key n (stripe_of (key x) n) (x ∷ xs) ≡ x ∷ of_stripe key n (stripe_of (key x) n) xs
  own_part x xs = let e : nat_eq (stripe_of (key x) n) (stripe_of (key x) n) ≡ true = grind (arith, nat_tests) in rw e refl

  -- and in no other one
  other_part : (x : X) (xs : List X) (j : ℕ) → nat_eq (stripe_of (key x) n) j ≡ false → of_stripe key n j (x ∷ xs) ≡ of_stripe key n j xs
  other_part x xs j e = rw e refl

  -- the parts behind an item
  behind : (parts : ℕ → List X) (x : X) (xs : List X) → ((i : ℕ) → i < n → parts i ≡ of_stripe key n i (x ∷ xs))
      → (j : ℕ) → j < n → (b : Bool) → nat_eq (stripe_of (key x) n) j ≡ b → at_stripe (stripe_of (key x) n) (of_stripe key n (stripe_of (key x) n) xs) parts j ≡ of_stripe key n j xs
  behind parts x xs same j h true e =
      let is : stripe_of (key x) n ≡ j = grind (arith, nat_tests) in
      rw e (ap (λ (i : ℕ). of_stripe key n i xs) is)
  behind parts x xs same j h false e = rw e (same j h ∙ other_part x xs j e)

  pub together : (parts : ℕ → List X) (xs : List X) → ((i : ℕ) → i < n → parts i ≡ of_stripe key n i xs) → AreTogether n parts xs
  together parts [] same = same
  together parts (x ∷ xs) same =
      let h : stripe_of (key x) n < n = mod_below _ n some in (
        stripe_of (key x) n,
        of_stripe key n (stripe_of (key x) n) xs,
        h,
        same (stripe_of (key x) n) h ∙ own_part x xs,
        together (at_stripe (stripe_of (key x) n) (of_stripe key n (stripe_of (key x) n) xs) parts) xs (λ j below. behind parts x xs same j below (nat_eq (stripe_of (key x) n) j) refl),
      )

pub comes_together : {X : Type 0} (key : X → Key) → ComesTogether key
comes_together key call n items some = (λ i. of_stripe key n i items, λ i h. cuts_by_stripe key call n i items h, together key n some (λ i. of_stripe key n i items) items (λ i h. refl))
