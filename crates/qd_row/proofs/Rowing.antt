-- The passes of a row, one gate after another.
use Rattle.std.proofs.Common.{◌≡◌, ℕ, zero, suc, ◌+◌, ◌<◌, List, [], ◌∷◌, ◌++◌, length, take, get_or, set, refl, sym, ap, ◌∙◌, subst, arith, Option, Some, ◌≢◌, Bool, true, false, nat_eq}
use Rattle.std.specs.Prelude.{slice_get, unwrap_or, Result}
use Rattle.std.specs.List.{AllZip}
use Rattle.std.proofs.lemmas.List.{set-get_or, length-map}
use Rattle.std.proofs.lemmas.List.Elements.{all_zip_more}
use Rattle.std.proofs.lemmas.Bool.Decides.{nat_tests}
use Rattle.std.proofs.lemmas.Option.{get_or_from_slice_get}
use Rattle.atomic_table.specs.Seated.{TableId}
use Rattle.qd_gate.specs.declared.machine.Entry.{Entry}
use Rattle.qd_gate.specs.declared.machine.Terms.{Terms}
use Rattle.qd_gate.specs.declared.gate.NoTurn.{NoTurn}
use Rattle.qd_gate.specs.Passes.{Pass}
use Rattle.qd_row.specs.Passes.{IsChild}
use Rattle.qd_row.specs.Rows.{homes, TurnsAt}

pub same_some : {X : Type 0} (x y : X) → Some x ≡ Some y → x ≡ y
same_some x y e = ap (λ (o : Option _). unwrap_or o x) e

module _ {O R : Type 0} where
  pub as_many : (passes : List (Pass O R)) (gates : List TableId) → homes passes ≡ gates → length passes ≡ length gates
  as_many passes gates e = sym (length-map passes (λ (p : Pass O R). p.home)) ∙ ap length e

  pub split_more : (items now fresh fresh' : List (Pass O R)) (i : ℕ) (x x' y : Pass O R) → now ≡ items → i < length items → x ≡ get_or now i x → x' ≡ x → IsChild x y → AllZip IsChild (take i items) fresh → fresh' ≡ fresh ++ y ∷ []
      → (set now i x' ≡ items) × AllZip IsChild (take (i + 1) items) fresh'
  split_more items now fresh fresh' i x x' y same below is still child all more = (
    ap (set now i) (still ∙ is) ∙ (set-get_or now i x ∙ same),
    subst (AllZip IsChild (take (i + 1) items)) (sym more) (all_zip_more IsChild items fresh i x y below (is ∙ ap (λ l. get_or l i x) same) all child),
  )

  homes_set : (xs : List (Pass O R)) (i : ℕ) (p q : Pass O R) → slice_get xs i ≡ Some p → q.home ≡ p.home → homes (set xs i q) ≡ homes xs
  homes_set [] i p q h e = refl
  homes_set (x ∷ xs) zero p q h e = ap (λ (t : TableId). t ∷ homes xs) (e ∙ ap (λ (y : Pass O R). y.home) (sym (same_some x p h)))
  homes_set (x ∷ xs) (suc i) p q h e = ap (λ (l : List TableId). x.home ∷ l) (homes_set xs i p q h e)

  -- a turn leaves the gates to which the passes belong
  pub turned_homes : {legal : Terms → List (Entry O R) → Type 0} (before after : List (Pass O R)) (i : ℕ) (op : O) (result : Result R (NoTurn O)) → TurnsAt legal before i op result after → homes after ≡ homes before
  turned_homes before after i op result t = ap homes t.after_is ∙ homes_set before i t.p t.q t.there t.turns.0.0

  -- what holds of the first k passes and of the next holds of one more
  pub next_too : (P : Pass O R → Type 0) (xs : List (Pass O R)) (k : ℕ) (x : Pass O R) → x ≡ get_or xs k x → P x → ((i : ℕ) (p : Pass O R) → i < k → slice_get xs i ≡ Some p → P p) → (i : ℕ) (p : Pass O R) → i < k + 1 → slice_get xs i ≡ Some p → P p
  next_too P xs k x is here before i p below at = go (nat_eq i k) refl
    where
      go : (b : Bool) → nat_eq i k ≡ b → P p
      go true e =
          let same : i ≡ k = grind (arith, nat_tests) in
          subst P (is ∙ get_or_from_slice_get xs k p x (ap (λ (n : ℕ). slice_get xs n) (sym same) ∙ at)) here
      go false e = let apart : i ≢ k = λ q. absurd (grind (arith, nat_tests)) in before i p (grind (arith, nat_tests)) at
