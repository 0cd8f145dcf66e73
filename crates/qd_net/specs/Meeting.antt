-- What the calls on a net do: listening, connections that come and that are dialled, and their end.
use Rattle.std.specs.Prelude.{ℕ, ◌+◌, ◌-◌, ◌^◌, ◌<◌, ◌≤◌, ◌≡◌, ◌⊎◌, Bool, true, false, Option, Some, None, List, [], ◌∷◌, ◌++◌, min}
use Rattle.qd_outside.specs.Causes.{Rose}

-- a call that listens, accepts or dials, with its address
pub data Asking : Type 0 where
  Listen : List ℕ → Asking
  Accept : Asking
  Dial : List ℕ → Asking

-- what a net tells: the byte lists of the connections to come, what was written to each of those that were hung up, and the calls that listened, accepted and dialled, where these are told; the number of connections that it gave; the faults of listening, accepting and dialling, and those of hanging up
pub record NetState : Type 0 where
  pub coming : Option (List (List ℕ))
  pub ended : Option (List (List ℕ))
  pub asked : Option (List Asking)
  pub opened : ℕ
  pub faults : ℕ
  pub hang_up_faults : ℕ

-- what a net tells before the first call
abbrev pub net_at_first : Option (List (List ℕ)) → Option (List (List ℕ)) → Option (List Asking) → NetState
net_at_first coming ended asked = record { coming = coming; ended = ended; asked = asked; opened = 0; faults = 0; hang_up_faults = 0 }

-- a count that is one higher, or stands at its end
abbrev pub one_more : ℕ → ℕ
one_more n = min (n + 1) (2 ^ 64 - 1)

-- the call is noted, where the calls are told; one that failed may be missing
abbrev pub IsAsked : Bool → Asking → Option (List Asking) → Option (List Asking) → Type 0
IsAsked answer call None now = now ≡ None
IsAsked answer call (Some before) None = ⊥
IsAsked answer call (Some before) (Some now) = (now ≡ before ++ call ∷ []) ⊎ ((answer ≡ false) × (now ≡ before))

-- the first of the lists to come is that of the connection, where they are told
abbrev pub GivesFirst : Option (List (List ℕ)) → Option (List (List ℕ)) → Option (List ℕ) → Type 0
GivesFirst None now got = (now ≡ None) × (got ≡ None)
GivesFirst (Some before) None got = ⊥
GivesFirst (Some before) (Some now) got = (first : List ℕ) × (before ≡ first ∷ now) × (got ≡ Some first)

-- a call failed: it is noted or missing, a fault was counted, and nothing else changes
pub record FailsAt (call : Asking) (before after : NetState) : Type 0 where
  pub same : after ≡ record before { asked = after.asked; faults = after.faults }
  pub asked : IsAsked false call before.asked after.asked
  pub rose : Rose before.faults after.faults
  pub later : before.faults ≤ after.faults

-- a net listens, or cannot
abbrev pub Listens : Bool → List ℕ → NetState → NetState → Type 0
Listens true addr before after = (after ≡ record before { asked = after.asked }) × IsAsked true (Listen addr) before.asked after.asked
Listens false addr before after = FailsAt (Listen addr) before after

-- a call gave a connection; list is what its peer sends, where that is told
pub record Connects (call : Asking) (list : Option (List ℕ)) (before after : NetState) : Type 0 where
  pub same : after ≡ record before { coming = after.coming; asked = after.asked; opened = after.opened }
  pub asked : IsAsked true call before.asked after.asked
  pub first : GivesFirst before.coming after.coming list
  pub opened : after.opened ≡ one_more before.opened

-- what was written to a connection is put behind the lists, where these are told
abbrev pub Ends : Option (List ℕ) → Option (List (List ℕ)) → Option (List (List ℕ)) → Type 0
Ends wrote None now = now ≡ None
Ends wrote (Some before) None = ⊥
Ends wrote (Some before) (Some now) = (text : List ℕ) × (wrote ≡ Some text) × (now ≡ before ++ text ∷ [])

-- a connection is hung up: a fault is counted exactly where one of its halves had one
pub record HangsUp (in_faults out_faults : ℕ) (wrote : Option (List ℕ)) (before after : NetState) : Type 0 where
  pub same : after ≡ record before { ended = after.ended; hang_up_faults = after.hang_up_faults }
  pub ended : Ends wrote before.ended after.ended
  pub sound : in_faults ≡ 0 → out_faults ≡ 0 → after.hang_up_faults ≡ before.hang_up_faults
  pub faulty : 0 < in_faults + out_faults → after.hang_up_faults ≡ one_more before.hang_up_faults

-- nothing was written to a connection yet, where that is told; it is told where the list is
abbrev pub IsUnwritten : Option (List ℕ) → Option (List ℕ) → Type 0
IsUnwritten None None = Unit {0}
IsUnwritten None (Some wrote) = wrote ≡ []
IsUnwritten (Some list) None = ⊥
IsUnwritten (Some list) (Some wrote) = wrote ≡ []

-- the input half has the list of its connection, where that is told
abbrev pub IsListOf : Option (List ℕ) → Option (List ℕ) → Type 0
IsListOf None left = Unit {0}
IsListOf (Some list) left = left ≡ Some list
