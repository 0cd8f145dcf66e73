-- The steps of serving: connections are accepted and jobs started, and then all are taken in.
use Rattle.std.specs.Prelude.{ℕ, ◌≡◌, ◌+◌, Option, Some, None, List, [], ◌∷◌, ◌++◌, All, length, map}
use Rattle.std.specs.List.{AllZip}
use Rattle.qd_row.specs.Passes.{IsChild}
use Rattle.qd_row.specs.Rows.{JoinsAll}
use Rattle.qd_scheme.specs.declared.defs.RecordDef.{RecordDef}
use Rattle.qd_ticker.specs.Legal as ticker
use Rattle.qd_stream.specs.Legal as stream
use Rattle.qd_hist_rules.specs.Legal as history
use Rattle.qd_job.specs.Starting.{SpawnerState}
use Rattle.qd_net.specs.Meeting.{Asking, HangsUp, NetState, IsListOf, IsUnwritten}
use Rattle.qd_hub.specs.Clients.{Client}
use Rattle.qd_path.specs.declared.side.Side.{Side}
use Rattle.qd_path.specs.declared.side.Side.TheVariants.{Down}
use Rattle.qd_path.specs.Lists.{Lists, GrewBy}
use Rattle.qd_session.specs.declared.ends.InEnd.{InEnd}
use Rattle.qd_session.specs.Ins.{Sourced}
use Rattle.qd_replies.specs.Outs.{Sunk}
use Rattle.qd_link.specs.declared.ends.OutEnd.{OutEnd}
use Rattle.qd_serve_link.specs.Running.{IsReadBy, IsWrittenBy}
use Rattle.qd_serve.specs.declared.ends.Told.{Told}
use Rattle.qd_serve.specs.Homes.{IsOf}
use Rattle.qd_serve.specs.Serving.{Served, IsServed, IsComing, AllEnd, asks_of, numbers, rises_by}

-- each item is as P says of its number, counted from k
abbrev pub AllFrom : {A : Type 0} → (ℕ → A → Type 0) → ℕ → List A → Type 0
AllFrom P k [] = Unit {0}
AllFrom P k (x ∷ xs) = P k x × AllFrom P (k + 1) xs

-- a client was split off from another
pub record IsSplit (c d : Client) : Type 0 where
  pub home : d.home ≡ c.home
  pub sizes : d.sizes ≡ c.sizes
  pub on_ticker : AllZip IsChild c.ticker d.ticker
  pub on_stream : AllZip IsChild c.stream d.stream
  pub on_history : AllZip IsChild c.history d.history

-- a client took in another
pub record TakesIn (c w d : Client) : Type 0 where
  pub home : d.home ≡ c.home
  pub sizes : d.sizes ≡ c.sizes
  pub on_ticker : JoinsAll ticker.IsLegal c.ticker w.ticker d.ticker
  pub on_stream : JoinsAll stream.IsLegal c.stream w.stream d.stream
  pub on_history : JoinsAll history.IsLegal c.history w.history d.history

-- the job of a link on a connection, before it runs: one client is split off from the hub, and the other from that; the halves of the
-- connection are new
pub record IsJobOf (c : Client) (defs : List RecordDef) (k : ℕ) (list : Option (List ℕ)) (from : List RecordDef) (side : Side) (reader writer : Client) (s : Sourced) (o : Sunk) : Type 0 where
  pub scheme : from ≡ defs
  pub is_below : side ≡ Down k
  pub first : IsSplit c reader
  pub second : IsSplit reader writer
  pub sent : IsListOf list s.left
  pub unwritten : IsUnwritten list o.written
  pub sound : (s.faults ≡ 0) × (o.faults ≡ 0)

-- the same, where the list of the connection is the one at its place among those to come
pub record IsJob (c : Client) (defs : List RecordDef) (coming : Option (List (List ℕ))) (k : ℕ) (from : List RecordDef) (side : Side) (reader writer : Client) (s : Sourced) (o : Sunk) : Type 0 where
  pub list : Option (List ℕ)
  pub comes : IsComing coming k list
  pub job : IsJobOf c defs k list from side reader writer s o

-- a link that ran, by what it gave back
pub record IsBack (c : Client) (defs : List RecordDef) (coming : Option (List (List ℕ))) (k : ℕ) (in_end : InEnd) (out_end : OutEnd) (reader writer : Client) (t : Sourced) (w : Sunk) : Type 0 where
  pub from : List RecordDef
  pub side : Side
  pub reader_first : Client
  pub writer_first : Client
  pub s : Sourced
  pub o : Sunk
  pub job : IsJob c defs coming k from side reader_first writer_first s o
  pub read : IsReadBy from side in_end reader_first reader s t
  pub written : IsWrittenBy from side out_end writer_first writer o w

-- the calls were asked, where they are told
abbrev pub AsksAll : List Asking → Option (List Asking) → Option (List Asking) → Type 0
AsksAll calls None now = now ≡ None
AsksAll calls (Some before) None = ⊥
AsksAll calls (Some before) (Some now) = now ≡ before ++ calls

-- the first so many lists were taken, where they are told
abbrev pub IsBehind : ℕ → Option (List (List ℕ)) → Option (List (List ℕ)) → Type 0
IsBehind k None now = now ≡ None
IsBehind k (Some before) None = ⊥
IsBehind k (Some before) (Some now) = (front : List (List ℕ)) × (before ≡ front ++ now) × (length front ≡ k)

-- the net listens, and gave so many connections
pub record HasAccepted (addr : List ℕ) (k : ℕ) (v w : NetState) : Type 0 where
  pub asked : AsksAll (asks_of addr k) v.asked w.asked
  pub behind : IsBehind k v.coming w.coming
  pub opened : w.opened ≡ rises_by k v.opened
  pub ended : w.ended ≡ v.ended
  pub faults : w.faults ≡ v.faults

-- so many jobs were started
pub record HasStarted (k : ℕ) (v w : SpawnerState) : Type 0 where
  pub started : w.started ≡ rises_by k v.started
  pub faults : w.faults ≡ v.faults

-- the hub took in the clients of links, one after the other, and their connections were hung up
pub record HasTaken (c : Client) (defs : List RecordDef) (coming : Option (List (List ℕ))) (told : List Told) (k : ℕ) (d : Client) (v w : NetState) : Type 0 where
  pub home : d.home ≡ c.home
  pub sizes : d.sizes ≡ c.sizes
  pub served : List Served
  pub told_is : told ≡ map (λ (x : Served). x.told) served
  pub numbered : map (λ (x : Served). x.told.link) served ≡ numbers k
  pub same : w ≡ record v { ended = w.ended; hang_up_faults = w.hang_up_faults }
  pub ended : AllEnd served v.ended w.ended
  pub lists : (l : Lists) → IsOf c l → (m : Lists) × IsOf d m × GrewBy c.sizes.stripes [] l m × All (IsServed defs c.sizes.stripes coming l m) served

-- where the hub took in the clients of one more link that ran, and its connection was hung up, that link is served too
abbrev pub TakesOneMore : Type 0
TakesOneMore =
    (c : Client) (defs : List RecordDef) (coming : Option (List (List ℕ))) (told : List Told) (k : ℕ) (d between e : Client) (v w x : NetState) (in_end : InEnd) (out_end : OutEnd) (reader writer : Client) (t : Sourced) (o : Sunk)
    → HasTaken c defs coming told k d v w → IsBack c defs coming k in_end out_end reader writer t o → TakesIn d reader between → TakesIn between writer e → HangsUp t.faults o.faults o.written w x
    → HasTaken c defs coming (told ++ record { link = k; in_end = in_end; out_end = out_end } ∷ []) (k + 1) e v x
