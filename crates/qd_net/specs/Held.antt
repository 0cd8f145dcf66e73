-- What a net in memory tells, and which of its calls fail.
use Rattle.std.specs.Prelude.{ℕ, ◌≡◌, ◌⊎◌, ◌+◌, Bool, true, false, Option, Some, None, List, [], ◌∷◌, ◌++◌, map, vec_len}
use Rattle.qd_net.specs.Meeting.{Asking, NetState, FailsAt}
use Rattle.qd_net.specs.Meeting.Asking.{Listen as Listening, Accept as Accepting, Dial as Dialling}
use Rattle.qd_net.specs.declared.list_net.Peer.{Peer}
use Rattle.qd_net.specs.declared.list_net.NetCall.{NetCall}
use Rattle.qd_net.specs.declared.list_net.NetCall.TheVariants.{Listen, Accept, Dial}
use Rattle.qd_net.specs.declared.list_net.Ended.{Ended, Nothing, Wrote'}
use Rattle.qd_net.specs.declared.list_net.ListNet.{ListNet}

-- what a peer sends
abbrev pub list_of : Peer → List ℕ
list_of p = p.sends.items

-- what was written to the connections that were hung up, the first one first
abbrev pub texts_of : Ended → List (List ℕ)
texts_of Nothing = []
texts_of (Wrote' sink shape before) = texts_of before ++ sink.written.items ∷ []

-- a call as it was noted
abbrev pub asking_of : NetCall → Asking
asking_of (Listen addr) = Listening addr.items
asking_of Accept = Accepting
asking_of (Dial addr) = Dialling addr.items

-- what a net in memory tells
abbrev pub told_in_memory : ListNet → NetState
told_in_memory s = record {
  coming = Some (map list_of s.peers.items);
  ended = Some (texts_of s.ended);
  asked = Some (map asking_of s.asked.items);
  opened = s.opened;
  faults = s.faults;
  hang_up_faults = s.hang_up_faults;
}

-- whether the next call is to fail: the list has true at its head
abbrev pub fails_first : List Bool → Bool
fails_first [] = false
fails_first (fails ∷ plan) = fails

-- the plan behind one more call
abbrev pub plan_behind : List Bool → List Bool
plan_behind [] = []
plan_behind (fails ∷ plan) = plan

-- whether there is no peer any more
abbrev pub is_deserted : List Peer → Bool
is_deserted [] = true
is_deserted (peer ∷ peers) = false

-- a call that goes on is noted; one that failed, or for which there was no memory, may be missing
abbrev pub NotesOr : Bool → Option NetCall → List NetCall → List NetCall → Type 0
NotesOr answer None before now = (answer ≡ false) × (now ≡ before)
NotesOr answer (Some call) before now = (now ≡ before ++ call ∷ []) ⊎ ((answer ≡ false) × (now ≡ before))

-- a call failed; it was noted under no name where there was no memory for one
abbrev pub FailsAs : Option NetCall → NetState → NetState → Type 0
FailsAs None before now = (call : Asking) → FailsAt call before now
FailsAs (Some call) before now = FailsAt (asking_of call) before now

-- a call was noted
abbrev pub NotesAsking : ListNet → ListNet → Type 0
NotesAsking before after = vec_len after.asked ≡ vec_len before.asked + 1
