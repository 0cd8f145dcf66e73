-- Which ends of a post and of a dump end the program so.
use Rattle.std.proofs.Common.{◌≡◌, refl, inl, inr, List, ℕ}
use Rattle.std.specs.Prelude.{◌⊎◌}
use Rattle.qd_client.specs.Posts.{post_end}
use Rattle.qd_client.specs.declared.ends.DumpEnd.{DumpEnd}
use Rattle.qd_client.specs.declared.ends.DumpEnd.TheVariants as dumps
use Rattle.qd_client.specs.declared.ends.Halt.{Halt}
use Rattle.qd_client.specs.declared.ends.Halt.TheVariants as halts
use Rattle.qd_items.specs.declared.ends.RunEnd.{RunEnd}
use Rattle.qd_items.specs.declared.ends.RunEnd.TheVariants as runs
use Rattle.qd_items.specs.declared.ends.TextEnd.TheVariants as texts
use Rattle.qd_net.specs.Meeting.{NetState}
use Rattle.qd_scheme_file.specs.declared.no_scheme.NoScheme.{NoScheme}
use Rattle.qds_tools.specs.declared.program_end.ProgramEnd.{ProgramEnd}
use Rattle.qds_tools.specs.declared.program_end.ProgramEnd.TheVariants.{Usage, Refused, Ran, NetFault}
use Rattle.qds_net.specs.Connections.{IsUnconnected}
use Rattle.qds_net.specs.Dumping.{end_of_dump}
use Rattle.qds_net.specs.Posting.{end_of_post}

-- a fault of the net is a write that failed
pub net_of_post : (end : RunEnd) → NetFault ≡ end_of_post end → end ≡ runs.WriteFault
net_of_post runs.Done e = absurd (cc)
net_of_post (runs.CutOff line) e = absurd (cc)
net_of_post (runs.Bad bad) e = absurd (cc)
net_of_post (runs.LineTooLong line) e = absurd (cc)
net_of_post (runs.BadStep line) e = absurd (cc)
net_of_post (runs.Refused line limit) e = absurd (cc)
net_of_post runs.TooMuch e = absurd (cc)
net_of_post runs.ReadFault e = absurd (cc)
net_of_post runs.WriteFault e = refl
net_of_post runs.Spent e = absurd (cc)
net_of_post runs.NoMemory e = absurd (cc)

-- a read that failed
pub read_of_post : (end : RunEnd) → Ran runs.ReadFault ≡ end_of_post end → end ≡ runs.ReadFault
read_of_post runs.Done e = absurd (cc)
read_of_post (runs.CutOff line) e = absurd (cc)
read_of_post (runs.Bad bad) e = absurd (cc)
read_of_post (runs.LineTooLong line) e = absurd (cc)
read_of_post (runs.BadStep line) e = absurd (cc)
read_of_post (runs.Refused line limit) e = absurd (cc)
read_of_post runs.TooMuch e = absurd (cc)
read_of_post runs.ReadFault e = refl
read_of_post runs.WriteFault e = absurd (cc)
read_of_post runs.Spent e = absurd (cc)
read_of_post runs.NoMemory e = absurd (cc)

-- no write to standard output
pub written_of_post : (end : RunEnd) → Ran runs.WriteFault ≡ end_of_post end → ⊥
written_of_post runs.Done e = absurd (cc)
written_of_post (runs.CutOff line) e = absurd (cc)
written_of_post (runs.Bad bad) e = absurd (cc)
written_of_post (runs.LineTooLong line) e = absurd (cc)
written_of_post (runs.BadStep line) e = absurd (cc)
written_of_post (runs.Refused line limit) e = absurd (cc)
written_of_post runs.TooMuch e = absurd (cc)
written_of_post runs.ReadFault e = absurd (cc)
written_of_post runs.WriteFault e = absurd (cc)
written_of_post runs.Spent e = absurd (cc)
written_of_post runs.NoMemory e = absurd (cc)

-- all was posted
pub done_of_post : (end : RunEnd) → Ran runs.Done ≡ end_of_post end → end ≡ runs.Done
done_of_post runs.Done e = refl
done_of_post (runs.CutOff line) e = absurd (cc)
done_of_post (runs.Bad bad) e = absurd (cc)
done_of_post (runs.LineTooLong line) e = absurd (cc)
done_of_post (runs.BadStep line) e = absurd (cc)
done_of_post (runs.Refused line limit) e = absurd (cc)
done_of_post runs.TooMuch e = absurd (cc)
done_of_post runs.ReadFault e = absurd (cc)
done_of_post runs.WriteFault e = absurd (cc)
done_of_post runs.Spent e = absurd (cc)
done_of_post runs.NoMemory e = absurd (cc)

-- no scheme that was refused
pub refused_of_post : (end : RunEnd) (why : NoScheme) → Refused why ≡ end_of_post end → ⊥
refused_of_post runs.Done why e = absurd (cc)
refused_of_post (runs.CutOff line) why e = absurd (cc)
refused_of_post (runs.Bad bad) why e = absurd (cc)
refused_of_post (runs.LineTooLong line) why e = absurd (cc)
refused_of_post (runs.BadStep line) why e = absurd (cc)
refused_of_post (runs.Refused line limit) why e = absurd (cc)
refused_of_post runs.TooMuch why e = absurd (cc)
refused_of_post runs.ReadFault why e = absurd (cc)
refused_of_post runs.WriteFault why e = absurd (cc)
refused_of_post runs.Spent why e = absurd (cc)
refused_of_post runs.NoMemory why e = absurd (cc)

-- a fault of the net is one of the connection
pub net_of_dump : (end : DumpEnd) → NetFault ≡ end_of_dump end → end ≡ dumps.LinkFault
net_of_dump dumps.Done e = absurd (cc)
net_of_dump (dumps.CutOff line) e = absurd (cc)
net_of_dump (dumps.Bad bad) e = absurd (cc)
net_of_dump (dumps.LineTooLong line) e = absurd (cc)
net_of_dump dumps.TooMuch e = absurd (cc)
net_of_dump dumps.LinkFault e = refl
net_of_dump dumps.WriteFault e = absurd (cc)
net_of_dump dumps.NoMemory e = absurd (cc)

-- a write that failed
pub written_of_dump : (end : DumpEnd) → Ran runs.WriteFault ≡ end_of_dump end → end ≡ dumps.WriteFault
written_of_dump dumps.Done e = absurd (cc)
written_of_dump (dumps.CutOff line) e = absurd (cc)
written_of_dump (dumps.Bad bad) e = absurd (cc)
written_of_dump (dumps.LineTooLong line) e = absurd (cc)
written_of_dump dumps.TooMuch e = absurd (cc)
written_of_dump dumps.LinkFault e = absurd (cc)
written_of_dump dumps.WriteFault e = refl
written_of_dump dumps.NoMemory e = absurd (cc)

-- no read of a file
pub read_of_dump : (end : DumpEnd) → Ran runs.ReadFault ≡ end_of_dump end → ⊥
read_of_dump dumps.Done e = absurd (cc)
read_of_dump (dumps.CutOff line) e = absurd (cc)
read_of_dump (dumps.Bad bad) e = absurd (cc)
read_of_dump (dumps.LineTooLong line) e = absurd (cc)
read_of_dump dumps.TooMuch e = absurd (cc)
read_of_dump dumps.LinkFault e = absurd (cc)
read_of_dump dumps.WriteFault e = absurd (cc)
read_of_dump dumps.NoMemory e = absurd (cc)

-- no scheme that was refused
pub refused_of_dump : (end : DumpEnd) (why : NoScheme) → Refused why ≡ end_of_dump end → ⊥
refused_of_dump dumps.Done why e = absurd (cc)
refused_of_dump (dumps.CutOff line) why e = absurd (cc)
refused_of_dump (dumps.Bad bad) why e = absurd (cc)
refused_of_dump (dumps.LineTooLong line) why e = absurd (cc)
refused_of_dump dumps.TooMuch why e = absurd (cc)
refused_of_dump dumps.LinkFault why e = absurd (cc)
refused_of_dump dumps.WriteFault why e = absurd (cc)
refused_of_dump dumps.NoMemory why e = absurd (cc)

-- the text that is posted ends it with no write that failed
pub not_broken : (halt : Halt) → runs.WriteFault ≡ post_end halt → ⊥
not_broken (halts.Item line) e = absurd (cc)
not_broken (halts.Text texts.End) e = absurd (cc)
not_broken (halts.Text (texts.CutOff line)) e = absurd (cc)
not_broken (halts.Text (texts.Bad bad)) e = absurd (cc)
not_broken (halts.Text (texts.LineTooLong line)) e = absurd (cc)
not_broken (halts.Text texts.TooMuch) e = absurd (cc)
not_broken (halts.Text texts.ReadFault) e = absurd (cc)
not_broken (halts.Text texts.NoMemory) e = absurd (cc)

pub ran_of_post : (halt : Halt) → end_of_post (post_end halt) ≡ Ran (post_end halt)
ran_of_post (halts.Item line) = refl
ran_of_post (halts.Text texts.End) = refl
ran_of_post (halts.Text (texts.CutOff line)) = refl
ran_of_post (halts.Text (texts.Bad bad)) = refl
ran_of_post (halts.Text (texts.LineTooLong line)) = refl
ran_of_post (halts.Text texts.TooMuch) = refl
ran_of_post (halts.Text texts.ReadFault) = refl
ran_of_post (halts.Text texts.NoMemory) = refl

-- no connection came about: a fault of the net, or want of memory
pub unconnected_end : (addr : List ℕ) (end : ProgramEnd) (net later : NetState) → IsUnconnected addr end net later → (end ≡ NetFault) ⊎ (end ≡ Ran runs.NoMemory)
unconnected_end addr NetFault net later h = inl refl
unconnected_end addr Usage net later h = absurd h
unconnected_end addr (Refused why) net later h = absurd h
unconnected_end addr (Ran runs.Done) net later h = absurd h
unconnected_end addr (Ran (runs.CutOff line)) net later h = absurd h
unconnected_end addr (Ran (runs.Bad bad)) net later h = absurd h
unconnected_end addr (Ran (runs.LineTooLong line)) net later h = absurd h
unconnected_end addr (Ran (runs.BadStep line)) net later h = absurd h
unconnected_end addr (Ran (runs.Refused line limit)) net later h = absurd h
unconnected_end addr (Ran runs.TooMuch) net later h = absurd h
unconnected_end addr (Ran runs.ReadFault) net later h = absurd h
unconnected_end addr (Ran runs.WriteFault) net later h = absurd h
unconnected_end addr (Ran runs.Spent) net later h = absurd h
unconnected_end addr (Ran runs.NoMemory) net later h = inr refl
