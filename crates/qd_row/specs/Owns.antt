-- A call of one of several states.
use Rattle.std.specs.Prelude.{◌≡◌, ℕ, List, [], ◌∷◌, ◌++◌, Some, slice_get, slice_set}
use Rattle.qd_gate.specs.declared.machine.Entry.{Entry}
use Rattle.qd_gate.specs.declared.machine.Terms.{Terms}
use Rattle.qd_gate.specs.Logs.{entry}

module _ {S O R : Type 0} where
  -- whoever asks, a state that stood for a legal log then stands for it with the call, and that log is legal
  abbrev pub Enters : (S → Terms) → (S → List (Entry O R) → Type 0) → (Terms → List (Entry O R) → Type 0) → S → O → R → S → Type 0
  Enters terms stands legal x op reply y = (log : List (Entry O R)) (who : ℕ) → stands x log → legal (terms x) log
      → stands y (log ++ entry who op reply ∷ []) × legal (terms x) (log ++ entry who op reply ∷ [])

  -- the call changed the state of its stripe and no other
  pub record StepsAt (terms : S → Terms) (stands : S → List (Entry O R) → Type 0) (legal : Terms → List (Entry O R) → Type 0) (before : List S) (stripe : ℕ) (op : O) (reply : R) (after : List S) : Type 0 where
    pub x : S
    pub y : S
    pub there : slice_get before stripe ≡ Some x
    pub after_is : after ≡ slice_set before stripe y
    pub same_terms : terms y ≡ terms x
    pub enters : Enters terms stands legal x op reply y
