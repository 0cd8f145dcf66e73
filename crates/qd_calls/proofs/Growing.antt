-- Passes gain calls, one after the other.
use Rattle.std.proofs.Common.{ℕ, ◌≡◌, ◌≢◌, Bool, true, false, nat_eq, List, [], ◌∷◌, ◌++◌, map, refl, sym, ap, ◌∙◌, subst, arith, append_assoc, inl, inr}
use Rattle.std.specs.Prelude.{Ok, Err}
use Rattle.std.proofs.lemmas.List.{append-nil}
use mathlib.Core.List.{IsPrefix}
use Rattle.std.proofs.lemmas.Bool.Decides.{nat_tests}
use Rattle.qd_gate.specs.declared.machine.Entry.{Entry}
use Rattle.qd_gate.specs.declared.machine.Terms.{Terms}
use Rattle.qd_gate.specs.declared.gate.NoTurn.{NoTurn}
use Rattle.qd_gate.specs.declared.gate.NoTurn.TheVariants.{Busy, Spent}
use Rattle.qd_gate.specs.Logs.{entry}
use Rattle.qd_gate.specs.Passes.{Pass, Found}
use Rattle.qd_gate.proofs.Prefixes.{prefix_self}
use Rattle.qd_row.specs.Passes.{IsSound}
use Rattle.qd_row.specs.Rows.{Turns}
use Rattle.qd_hub.specs.Hubs.{LooksOnce}
use Rattle.qd_path.specs.Lists.{Gains, at_stripe}
use Rattle.qd_path.specs.declared.call.Asked.{Asked}
use Rattle.qd_path.specs.Made.{Made, asked_in, IsDone, AreDone}

module _ {O R : Type 0} where
  pub gains_none : (legal : Terms → List (Entry O R) → Type 0) (p : Pass O R) → IsSound legal p → Gains legal [] p p
  gains_none legal p sound = record {
    same = (refl, refl, refl);
    begins = prefix_self p.seen;
    mine = sym (append-nil p.mine);
    looked = prefix_self p.looked;
    sound = sound;
  }

  looked_once : (p q : Pass O R) → LooksOnce p q → IsPrefix p.looked q.looked
  looked_once p q (inl same) = subst (λ (l : List ℕ). IsPrefix p.looked l) (sym same) (prefix_self p.looked)
  looked_once p q (inr (word, one)) = (word ∷ [], sym one)

  -- an answered call is gained
  pub gains_one : (legal : Terms → List (Entry O R) → Type 0) (p : Pass O R) (op : O) (reply : R) (q : Pass O R) → Turns legal p op (Ok reply) q → LooksOnce p q → Gains legal (record { op = op; reply = reply } ∷ []) p q
  gains_one legal p op reply q t looks = record {
    same = t.0;
    begins = (t.1.between ++ entry p.number op reply ∷ [], sym (append_assoc p.seen t.1.between (entry p.number op reply ∷ [])) ∙ sym t.1.seen);
    mine = t.1.mine;
    looked = looked_once p q looks;
    sound = record { is_legal = t.1.is_legal; own = t.1.own };
  }

  found_none : (legal : Terms → List (Entry O R) → Type 0) (p : Pass O R) (words : List ℕ) (q : Pass O R) → IsSound legal p → (q.home ≡ p.home) × (q.number ≡ p.number) × (q.terms ≡ p.terms) → Found p words q → Gains legal [] p q
  found_none legal p words q sound s f = record {
    same = s;
    begins = subst (λ (l : List (Entry O R)). IsPrefix p.seen l) (sym f.0) (prefix_self p.seen);
    mine = f.1 ∙ sym (append-nil p.mine);
    looked = (words, sym f.2);
    sound = record { is_legal = rw (s.2, f.0) sound.is_legal; own = rw (s.1, f.0, f.1) sound.own };
  }

  -- where there was no turn, nothing is
  pub gains_no_turn : (legal : Terms → List (Entry O R) → Type 0) (p : Pass O R) (op : O) (why : NoTurn O) (q : Pass O R) → IsSound legal p → Turns legal p op (Err why) q → Gains legal [] p q
  gains_no_turn legal p op (Busy first found back) q sound (s, (b, (small, (inl f))), start) = found_none legal p _ q sound s f.2
  gains_no_turn legal p op (Busy first found back) q sound (s, (b, (small, (inr f))), start) = found_none legal p _ q sound s f.2
  gains_no_turn legal p op (Spent word back) q sound t = found_none legal p _ q sound t.0 t.1.1.1

-- one more call was made, and granted
pub map_more : (made : List Made) (x : Made) (due : List Asked) → map asked_in made ++ asked_in x ∷ due ≡ map asked_in (made ++ x ∷ []) ++ due
map_more [] x due = refl
map_more (y ∷ made) x due = ap (λ (l : List Asked). asked_in y ∷ l) (map_more made x due)

pub done_more : (made : List Made) (x : Made) → AreDone made → IsDone x → AreDone (made ++ x ∷ [])
done_more [] x d h = (h, tt)
done_more (y ∷ made) x d h = (d.0, done_more made x d.1 h)

-- what is so of a stripe and of all others is so of all
pub placed : {X : Type 0} (P : ℕ → X → Type 0) (i : ℕ) (x : X) (f : ℕ → X) (j : ℕ) → P i x → (j ≢ i → P j (f j)) → P j (at_stripe i x f j)
placed {X} P i x f j here there = go (nat_eq i j) refl
  where
    go : (b : Bool) → nat_eq i j ≡ b → P j (at_stripe i x f j)
    go true e = let same : i ≡ j = grind (arith, nat_tests) in rw e (subst (λ (k : ℕ). P k x) same here)
    go false e = rw e (there (λ s. absurd (grind (arith, nat_tests))))
