-- Which calls of a list that is cut by stripe are of one stripe.
use Rattle.std.proofs.Common.{ℕ, zero, suc, nat_eq, ◌≡◌, ◌<◌, ◌≤◌, Bool, true, false, List, [], ◌∷◌, ◌++◌, refl, ap, sym, ◌∙◌, subst, arith}
use Rattle.std.proofs.lemmas.Bool.Decides.{nat_tests}
use Rattle.std.proofs.lemmas.List.{append-nil}
use Rattle.std.proofs.lemmas.List.Elements.{filter-append}
use Rattle.qd_buffer.specs.Filled.{Filled}
use Rattle.qd_buffer.specs.Splitting.{of_stripe}
use Rattle.qd_scheme.specs.declared.key.Key.{Key}
use Rattle.qd_path.specs.declared.call.Asked.{Asked}
use Rattle.qd_path.specs.declared.call.Call.{Call}
use Rattle.qd_path.specs.Calls.{asks, asks_up_to}
use Rattle.qd_path.specs.Laws.{CutsByStripe, of_calls}

same_stripe : {X : Type 0} (call : Filled X → Call) (i : ℕ) (xs : List X) → of_calls i (asks call i xs) ≡ asks call i xs
same_stripe call i [] = refl
same_stripe call i (x ∷ xs) = let e : nat_eq i i ≡ true = grind (arith, nat_tests) in rw e refl

other_stripe : {X : Type 0} (call : Filled X → Call) (i k : ℕ) (xs : List X) → nat_eq k i ≡ false → of_calls i (asks call k xs) ≡ []
other_stripe call i k [] e = refl
other_stripe call i k (x ∷ xs) e = rw e refl

module _ {X : Type 0} (key : X → Key) (call : Filled X → Call) (n i : ℕ) (xs : List X) where
  -- the calls of one more stripe
  one_more : (k : ℕ) (a b : List Asked) → of_calls i (asks_up_to key call n xs k) ≡ a → of_calls i (asks call k (of_stripe key n k xs)) ≡ b → of_calls i (asks_up_to key call n xs (suc k)) ≡ a ++ b
  one_more k a b e f = filter-append (λ (x : Asked). nat_eq x.stripe i) (asks_up_to key call n xs k) (asks call k (of_stripe key n k xs)) ∙ ap (λ (l : List Asked). l ++ of_calls i (asks call k (of_stripe key n k xs))) e ∙ ap (λ (l : List Asked). a ++ l) f

  none_before : (k : ℕ) → k ≤ i → of_calls i (asks_up_to key call n xs k) ≡ []
  none_before zero h = refl
  none_before (suc k) h = one_more k [] [] (none_before k (omega (arith, h))) (other_stripe call i k (of_stripe key n k xs) (grind (arith, nat_tests)))

  one_behind : (k : ℕ) → i < k → of_calls i (asks_up_to key call n xs k) ≡ asks call i (of_stripe key n i xs)
  one_behind zero h = absurd (omega (arith, h))
  one_behind (suc k) h = go (nat_eq k i) refl (λ below. one_behind k below)
    where
      go : (b : Bool) → nat_eq k i ≡ b → (i < k → of_calls i (asks_up_to key call n xs k) ≡ asks call i (of_stripe key n i xs)) → of_calls i (asks_up_to key call n xs (suc k)) ≡ asks call i (of_stripe key n i xs)
      go true e before =
          let same : k ≡ i = grind (arith, nat_tests) in
          one_more k [] (asks call i (of_stripe key n i xs)) (none_before k (omega (arith, same)))
          (subst (λ (j : ℕ). of_calls i (asks call j (of_stripe key n j xs)) ≡ asks call i (of_stripe key n i xs)) (sym same) (same_stripe call i (of_stripe key n i xs)))
      go false e before =
          let below : i < k = grind (arith, nat_tests) in
          one_more k (asks call i (of_stripe key n i xs)) [] (before below) (other_stripe call i k (of_stripe key n k xs) e) ∙ append-nil (asks call i (of_stripe key n i xs))

pub cuts_by_stripe : {X : Type 0} (key : X → Key) → CutsByStripe key
cuts_by_stripe key call n i items h = one_behind key call n i items n h
