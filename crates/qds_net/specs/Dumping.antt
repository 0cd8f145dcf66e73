-- How `dump` ends, what it sends, and what it writes.
use Rattle.std.specs.Prelude.{ℕ, ◌≡◌, ◌⊎◌, Bool, List, Option, Some, None}
use Rattle.qd_client.specs.Dumps.{Ask, Dumps, AreFirstParts, AreFlushed, IsDecided}
use Rattle.qd_client.specs.declared.ends.DumpEnd.{DumpEnd}
use Rattle.qd_client.specs.declared.ends.DumpEnd.TheVariants as dumps
use Rattle.qd_items.specs.declared.ends.RunEnd.TheVariants as runs
use Rattle.qd_net.specs.Meeting.{NetState, IsListOf}
use Rattle.qd_scheme.specs.declared.defs.RecordDef.{RecordDef}
use Rattle.qd_sub.specs.declared.sub.Sub.{Sub}
use Rattle.qd_words.specs.NetAsking.{Dumped}
use Rattle.qds_tools.specs.declared.program_end.ProgramEnd.{ProgramEnd}
use Rattle.qds_tools.specs.declared.program_end.ProgramEnd.TheVariants.{Ran, NetFault}
use Rattle.qds_net.specs.Worlds.{World}
use Rattle.qds_net.specs.Connections.{IsUnconnected, IsConnection}
use Rattle.qds_net.specs.Wanting.{subs_of}

-- the end of the program where a dump ends so
abbrev pub end_of_dump : DumpEnd → ProgramEnd
end_of_dump dumps.Done = Ran runs.Done
end_of_dump (dumps.CutOff line) = Ran (runs.CutOff line)
end_of_dump (dumps.Bad bad) = Ran (runs.Bad bad)
end_of_dump (dumps.LineTooLong line) = Ran (runs.LineTooLong line)
end_of_dump dumps.TooMuch = Ran runs.TooMuch
end_of_dump dumps.LinkFault = NetFault
end_of_dump dumps.WriteFault = Ran runs.WriteFault
end_of_dump dumps.NoMemory = Ran runs.NoMemory

-- what is written to: the bytes written, where they are told, whether they are flushed, and the faults of writing
pub record Output : Type 0 where
  pub written : Option (List ℕ)
  pub flushed : Bool
  pub writes : ℕ

-- what came over a connection was written
pub record IsDumped (defs : List RecordDef) (addr : List ℕ) (ask : Ask) (before : Output) (end : DumpEnd) (after : Output) (net later : NetState) : Type 0 where
  pub list : Option (List ℕ)
  pub left : Option (List ℕ)
  pub rest : Option (List ℕ)
  pub was : Option (List ℕ)
  pub sent : Option (List ℕ)
  pub reads : ℕ
  pub sends : ℕ
  pub flushed : Bool
  pub connection : IsConnection addr list was sent reads sends net later
  pub comes : IsListOf list left
  pub dumps : Dumps defs ask (record { left = left; reads = 0; sent = was; sends = 0; written = before.written; writes = before.writes }) end (record { left = rest; reads = reads; sent = sent; sends = sends; written = after.written; writes = after.writes })
  pub flushes : AreFlushed end flushed after.flushed
  pub first : AreFirstParts defs ask (record { left = left; reads = 0; sent = was; sends = 0; written = before.written; writes = before.writes }) (record { left = rest; reads = reads; sent = sent; sends = sends; written = after.written; writes = after.writes })
  pub decided : IsDecided defs ask (record { left = left; reads = 0; sent = was; sends = 0; written = before.written; writes = before.writes }) end (record { left = rest; reads = reads; sent = sent; sends = sends; written = after.written; writes = after.writes })

-- what an address sends was written; or no connection came about, and nothing was written
abbrev pub DumpsFrom : List RecordDef → List ℕ → Ask → Output → ProgramEnd → Output → NetState → NetState → Type 0
DumpsFrom defs addr ask before end after net later =
    (IsUnconnected addr end net later × (after ≡ before))
    ⊎ ((ended : DumpEnd) × (end ≡ end_of_dump ended) × IsDumped defs addr ask before ended after net later)

-- what is asked of a server
abbrev pub ask_for : Dumped → List Sub → Ask
ask_for ask subs = record { collector = ask.collector; wants = subs; count = ask.count }

-- where a want says no key that is refused, and nothing is dialled; else what comes is written to standard output, and nothing else changes
abbrev pub DumpsFor : Option (List Sub) → List RecordDef → Dumped → ProgramEnd → World → World → Type 0
DumpsFor None defs ask end o w = (end ≡ Ran (runs.BadStep 0)) × (w ≡ o)
DumpsFor (Some subs) defs ask end o w =
    DumpsFrom defs ask.addr (ask_for ask subs) (record { written = o.written; flushed = o.flushed; writes = o.writes }) end (record { written = w.written; flushed = w.flushed; writes = w.writes }) o.net w.net
    × (w ≡ record o { net = w.net; written = w.written; flushed = w.flushed; writes = w.writes })

-- a dump with a scheme; or there was no memory for what is wanted
abbrev pub DumpsOn : List RecordDef → Dumped → ProgramEnd → World → World → Type 0
DumpsOn defs ask end o w = ((end ≡ Ran runs.NoMemory) × (w ≡ o)) ⊎ DumpsFor (subs_of defs ask.collector ask.limit ask.wants) defs ask end o w
