-- Exactly one of three.
use Rattle.std.proofs.Common.{◌≡◌, ℕ, Bool, true, false, refl, inl, inr, ap}
use Rattle.std.specs.Prelude.{◌⊎◌, Result, Ok, Err}
use Rattle.qd_grammar.specs.declared.item.Item.{Item}
use Rattle.qd_grammar.specs.declared.fault.Fault.{Fault}
use Rattle.qd_grammar.specs.declared.fault.Why.{Why}
use Rattle.qd_grammar.specs.Lines.{is_skipped, item_of, IsSkipped, Spells, HasFault}
use Rattle.qd_grammar.specs.Laws.{IsOneOfThree, IsOnlyOne, SpellsOne, HasOneFault}

pub some : IsOneOfThree
some mode s defs line = go (is_skipped line) refl (item_of mode s defs line) refl
  where
    go : (b : Bool) → is_skipped line ≡ b → (r : Result Item Fault) → item_of mode s defs line ≡ r → IsSkipped line ⊎ (((item : Item) × Spells mode s defs line item) ⊎ ((place : ℕ) × ((why : Why) × HasFault mode s defs line place why)))
    go true e r f = inl e
    go false e (Ok item) f = inr (inl (item, record { counts = e; judged = f }))
    go false e (Err x) f = inr (inr (x.place, (x.why, record { counts = e; judged = f })))

not_true : (b : Bool) → b ≡ true → b ≡ false → ⊥
not_true b p q = cc

pub only : IsOnlyOne
only mode s defs line item place why = (λ p q. not_true _ p q.counts, λ p q. not_true _ p q.counts, λ p q. let a = p.judged in let b = q.judged in cc)

same_item : (x : Result Item Fault) (a b : Item) → x ≡ Ok a → x ≡ Ok b → a ≡ b
same_item x a b p q = cc

same_fault : (x : Result Item Fault) (f g : Fault) → x ≡ Err f → x ≡ Err g → f ≡ g
same_fault x f g p q = cc

pub spells_one : SpellsOne
spells_one mode s defs line a b p q = same_item _ a b p.judged q.judged

pub has_one_fault : HasOneFault
has_one_fault mode s defs line p q v w h k =
    let e = same_fault _ _ _ h.judged k.judged in
    (ap (λ (f : Fault). f.place) e, ap (λ (f : Fault). f.why) e)
