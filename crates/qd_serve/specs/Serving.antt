-- What serving does: to the hub, to the net, to the spawner of jobs, and what it prints.
use Rattle.std.specs.Prelude.{ℕ, ◌≡◌, ◌≤◌, ◌+◌, ◌-◌, ◌^◌, ◌⊎◌, min, zero, suc, Bool, true, false, Option, Some, None, List, [], ◌∷◌, ◌++◌, All, length, map, slice_get}
use mathlib.Core.List.{IsPrefix}
use Rattle.qd_outside.specs.Causes.{Rose}
use Rattle.qd_outside.specs.Writing.{Writes}
use Rattle.qd_scheme.specs.declared.defs.RecordDef.{RecordDef}
use Rattle.qd_job.specs.Starting.{SpawnerState}
use Rattle.qd_net.specs.Meeting.{Asking, NetState, IsListOf, IsUnwritten}
use Rattle.qd_net.specs.Meeting.Asking.{Listen, Accept}
use Rattle.qd_path.specs.declared.side.Side.TheVariants.{Down}
use Rattle.qd_path.specs.Lists.{Lists}
use Rattle.qd_session.specs.Ins.{Sourced}
use Rattle.qd_replies.specs.Outs.{Sunk}
use Rattle.qd_link.specs.LinkIns.{LinkedIn}
use Rattle.qd_link.specs.LinkOuts.{LinkedOut}
use Rattle.qd_serve.specs.declared.ends.Told.{Told}
use Rattle.qd_serve.specs.declared.ends.ServeEnd.{ServeEnd}
use Rattle.qd_serve.specs.declared.ends.ServeEnd.TheVariants as ends
use Rattle.qd_serve.specs.Homes.{AreHome, AreApart}
use Rattle.qd_serve.specs.Printing.{told_text}

-- what the net, the spawner of jobs and the sink of the printed lines tell
pub record Around : Type 0 where
  pub net : NetState
  pub jobs : SpawnerState
  pub out : Sunk

-- a link that ran: what is told of it; what its peer sent, and what was written to it, where these are known
pub record Served : Type 0 where
  pub told : Told
  pub list : Option (List ℕ)
  pub wrote : Option (List ℕ)

-- the list at a place among those to come, where they are told
abbrev pub IsComing : Option (List (List ℕ)) → ℕ → Option (List ℕ) → Type 0
IsComing None place list = list ≡ None
IsComing (Some lists) place list = (sends : List ℕ) × (slice_get lists place ≡ Some sends) × (list ≡ Some sends)

-- A link was served, on clients of a hub that stood for the lists `l` before and stands for `m` now. Its two halves had a client each,
-- with a number of its own on each stripe, which no call had that was seen before. The reading half made the calls that the bytes of the
-- connection asked for, and closed the link's agent; the writing half went round and wrote what was due. All these calls stand in what the
-- hub has seen now, first of those of their numbers and in order, and the words that both found are among those that the hub found since.
pub record IsServed (defs : List RecordDef) (n : ℕ) (coming : Option (List (List ℕ))) (l m : Lists) (x : Served) : Type 0 where
  pub reader : Lists
  pub reader_then : Lists
  pub writer : Lists
  pub writer_then : Lists
  pub source : Sourced
  pub source_then : Sourced
  pub sink : Sunk
  pub sink_then : Sunk
  pub read : LinkedIn defs n (Down x.told.link) x.told.in_end reader reader_then source source_then
  pub written : LinkedOut defs n (Down x.told.link) x.told.out_end (2 ^ 63) writer writer_then sink sink_then
  pub reader_home : AreHome n l reader reader_then m
  pub writer_home : AreHome n l writer writer_then m
  pub apart : AreApart n reader writer
  pub comes : IsComing coming x.told.link x.list
  pub sent : IsListOf x.list source.left
  pub unwritten : IsUnwritten x.list sink.written
  pub sound : (source.faults ≡ 0) × (sink.faults ≡ 0)
  pub wrote : sink_then.written ≡ x.wrote

-- the first so many numbers
abbrev pub numbers : ℕ → List ℕ
numbers zero = []
numbers (suc k) = numbers k ++ k ∷ []

-- what is asked of the net: it listens, and accepts so many connections
abbrev pub asks_of : List ℕ → ℕ → List Asking
asks_of addr zero = Listen addr ∷ []
asks_of addr (suc k) = asks_of addr k ++ Accept ∷ []

-- of the net a first part of these calls was asked, where its calls are told
abbrev pub AsksFirst : List Asking → Option (List Asking) → Option (List Asking) → Type 0
AsksFirst calls None now = now ≡ None
AsksFirst calls (Some before) None = ⊥
AsksFirst calls (Some before) (Some now) = (part : List Asking) × IsPrefix part calls × (now ≡ before ++ part)

-- connections were hung up, in order: what was written to each is put behind the lists, where these are told
abbrev pub AllEnd : List Served → Option (List (List ℕ)) → Option (List (List ℕ)) → Type 0
AllEnd xs None now = now ≡ None
AllEnd xs (Some before) None = ⊥
AllEnd xs (Some before) (Some now) = (texts : List (List ℕ)) × (map (λ (x : Served). x.wrote) xs ≡ map (λ (t : List ℕ). Some t) texts) × (now ≡ before ++ texts)

-- a count after so many more, which stays at its end
abbrev pub rises_by : ℕ → ℕ → ℕ
rises_by zero count = count
rises_by (suc k) count = min (rises_by k count + 1) (2 ^ 64 - 1)

-- all links were served: so many connections were given and so many jobs started, and no call failed
pub record IsWhole (count : ℕ) (served : List Served) (v w : Around) : Type 0 where
  pub all : length served ≡ count
  pub opened : w.net.opened ≡ rises_by count v.net.opened
  pub started : w.jobs.started ≡ rises_by count v.jobs.started
  pub met : w.net.faults ≡ v.net.faults
  pub ran : w.jobs.faults ≡ v.jobs.faults

-- the cause of an end, where all lines were printed or not
abbrev pub ServeCause : ServeEnd → ℕ → Bool → List Served → Around → Around → Type 0
ServeCause ends.Done count printed served v w = (printed ≡ true) × IsWhole count served v w
ServeCause ends.WriteFault count printed served v w = (printed ≡ false) × IsWhole count served v w
ServeCause ends.NetFault count printed served v w = Rose v.net.faults w.net.faults ⊎ Rose v.jobs.faults w.jobs.faults
ServeCause ends.NoMemory count printed served v w = Unit {0}

-- serving, from its beginning to its end: which links ran, the first so many, each of them served; what was asked of the net, and what was
-- written to the connections; the line of each link is printed, in order, or a first part of these lines and a fault was counted; the end
-- has its cause
pub record Serves (defs : List RecordDef) (n : ℕ) (addr : List ℕ) (links : ℕ) (end : ServeEnd) (l m : Lists) (v w : Around) : Type 0 where
  pub served : List Served
  pub printed : Bool
  pub count : ℕ
  pub few : count ≤ links
  pub numbered : map (λ (x : Served). x.told.link) served ≡ numbers count
  pub each : All (IsServed defs n v.net.coming l m) served
  pub asked : AsksFirst (asks_of addr links) v.net.asked w.net.asked
  pub ended : AllEnd served v.net.ended w.net.ended
  pub lines : Writes printed (told_text (map (λ (x : Served). x.told) served)) v.out.written w.out.written v.out.faults w.out.faults
  pub cause : ServeCause end links printed served v w
