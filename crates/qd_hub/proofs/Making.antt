-- New states and new gates, one more at a time.
use Rattle.std.proofs.Common.{◌≡◌, ℕ, ◌+◌, List, [], ◌∷◌, ◌++◌, length, refl, sym, ap, ◌∙◌, subst, arith}
use Rattle.std.specs.Prelude.{All}
use Rattle.std.proofs.lemmas.List.{length-append}
use Rattle.std.proofs.lemmas.List.Elements.{All-push}
use Rattle.atomic_table.specs.Seated.{TableId}
use Rattle.qd_gate.specs.declared.machine.Entry.{Entry}
use Rattle.qd_gate.specs.declared.machine.Terms.{Terms}
use Rattle.qd_gate.specs.Passes.{Pass}
use Rattle.qd_row.specs.Passes.{IsFirst}
use Rattle.qd_row.specs.Rows.{homes, AddsFirst}
use Rattle.qd_hub.specs.Owns.{AllNew}
use Rattle.qd_hub.specs.Clients.{AreFirst}

all_none : {A : Type 0} (P : A → Type 0) → All P []
all_none P _ _ none = absurd (omega arith)

module _ {S O R : Type 0} where
  pub none_new : (stands : S → List (Entry O R) → Type 0) (terms_of : S → Terms) (terms : Terms) (states : List S) → states ≡ [] → AllNew stands terms_of 0 terms states
  none_new stands terms_of terms states e =
      subst (λ (l : List S). AllNew stands terms_of 0 terms l) (sym e) (record { count = refl; stand = all_none (λ s. stands s []); same = all_none (λ s. terms_of s ≡ terms) })

  pub one_more_new : (stands : S → List (Entry O R) → Type 0) (terms_of : S → Terms) (n : ℕ) (terms : Terms) (states more : List S) (x : S) → AllNew stands terms_of n terms states → stands x [] → terms_of x ≡ terms → more ≡ states ++ x ∷ [] → AllNew stands terms_of (n + 1) terms more
  one_more_new stands terms_of n terms states more x all h same e =
      subst (λ (l : List S). AllNew stands terms_of (n + 1) terms l) (sym e) (record {
        count = length-append states (x ∷ []) ∙ ap (λ (m : ℕ). m + 1) all.count;
        stand = All-push (λ (s : S). stands s []) states x all.stand h;
        same = All-push (λ (s : S). terms_of s ≡ terms) states x all.same same;
      })

  pub as_many_new : (stands : S → List (Entry O R) → Type 0) (terms_of : S → Terms) (n m : ℕ) (terms : Terms) (states : List S) → AllNew stands terms_of n terms states → n ≡ m → AllNew stands terms_of m terms states
  as_many_new stands terms_of n m terms states all e = subst (λ (k : ℕ). AllNew stands terms_of k terms states) e all

module _ {O R : Type 0} where
  pub none_first : (terms : Terms) (gates : List TableId) (passes : List (Pass O R)) → gates ≡ [] → passes ≡ [] → AreFirst gates 0 terms passes
  none_first terms gates passes g e =
      subst (λ (l : List (Pass O R)). AreFirst gates 0 terms l) (sym e) (record { of_gates = sym g; count = refl; first = all_none (λ (p : Pass O R). IsFirst terms p) })

  pub one_more_first : (n : ℕ) (terms made : Terms) (gates gates' : List TableId) (passes passes' : List (Pass O R)) → AreFirst gates n terms passes → homes passes' ≡ gates' → AddsFirst made passes passes' → made ≡ terms → AreFirst gates' (n + 1) terms passes'
  one_more_first n terms made gates gates' passes passes' all h added e = record {
    of_gates = h;
    count = ap length added.after_is ∙ length-append passes (added.p ∷ []) ∙ ap (λ (m : ℕ). m + 1) all.count;
    first = subst (λ (l : List (Pass O R)). All (IsFirst terms) l) (sym added.after_is) (All-push (IsFirst terms) passes added.p all.first (subst (λ (t : Terms). IsFirst t added.p) e added.first));
  }

  pub as_many_first : (n m : ℕ) (terms : Terms) (gates : List TableId) (passes : List (Pass O R)) → AreFirst gates n terms passes → n ≡ m → AreFirst gates m terms passes
  as_many_first n m terms gates passes all e = subst (λ (k : ℕ). AreFirst gates k terms passes) e all
