-- The passes of one client on a row of gates.
use Rattle.std.specs.Prelude.{◌≡◌, ℕ, List, [], ◌∷◌, ◌++◌, map, length, Some, slice_get, Result, MatchResult, IfOk, slice_set}
use Rattle.atomic_table.specs.Seated.{TableId}
use Rattle.qd_gate.specs.declared.machine.Entry.{Entry}
use Rattle.qd_gate.specs.declared.machine.Terms.{Terms}
use Rattle.qd_gate.specs.declared.gate.NoTurn.{NoTurn}
use Rattle.qd_gate.specs.Passes.{Pass, IsSamePass, Answers}
use Rattle.qd_gate.specs.Refusals.{Refuses}
use Rattle.qd_row.specs.Passes.{IsFirst, IsUnion}

module _ {O R : Type 0} where
  -- the gates to which the passes belong
  abbrev pub homes : List (Pass O R) → List TableId
  homes passes = map (λ (p : Pass O R). p.home) passes

  -- one more pass, the first of a gate with these terms
  pub record AddsFirst (terms : Terms) (before after : List (Pass O R)) : Type 0 where
    pub p : Pass O R
    pub after_is : after ≡ before ++ p ∷ []
    pub first : IsFirst terms p

  -- what one call does to the pass of its stripe: it stays the pass that it is, of a gate that began where it did, and was answered or refused with its reason
  abbrev pub Turns : (Terms → List (Entry O R) → Type 0) → Pass O R → O → Result R (NoTurn O) → Pass O R → Type 0
  Turns legal p op result q = IsSamePass p q × MatchResult result (λ reply. Answers legal p op reply q) (λ why. Refuses legal p op why q) × (q.start ≡ p.start)

  -- the call changed the pass of its stripe and no other; where it was answered, one word was found
  pub record TurnsAt (legal : Terms → List (Entry O R) → Type 0) (before : List (Pass O R)) (stripe : ℕ) (op : O) (result : Result R (NoTurn O)) (after : List (Pass O R)) : Type 0 where
    pub p : Pass O R
    pub q : Pass O R
    pub there : slice_get before stripe ≡ Some p
    pub after_is : after ≡ slice_set before stripe q
    pub turns : Turns legal p op result q
    pub looked : IfOk result (λ reply. (word : ℕ) × (q.looked ≡ p.looked ++ word ∷ []))

  -- each pass took in the other one of its stripe
  pub record JoinsAll (legal : Terms → List (Entry O R) → Type 0) (before other after : List (Pass O R)) : Type 0 where
    pub count : length after ≡ length before
    pub each : (i : ℕ) (p w q : Pass O R) → slice_get before i ≡ Some p → slice_get other i ≡ Some w → slice_get after i ≡ Some q → IsUnion legal p w q
