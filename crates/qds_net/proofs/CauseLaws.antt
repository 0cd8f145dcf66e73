-- From which causes the program ends so.
use Rattle.std.proofs.Common.{◌≡◌, ℕ, List, Option, Some, None, sym, ◌∙◌, subst, inl, inr}
use Rattle.std.specs.Prelude.{◌⊎◌, Err}
use Rattle.qd_check.specs.Runs.{Outside}
use Rattle.qd_client.specs.Dumps.{Ask}
use Rattle.qd_client.specs.Posts.{Posts, post_end}
use Rattle.qd_client.specs.Reading.{HaltedBy}
use Rattle.qd_client.specs.Rules.{Rule}
use Rattle.qd_client.specs.declared.ends.DumpEnd.{DumpEnd}
use Rattle.qd_client.specs.declared.ends.DumpEnd.TheVariants as dumps
use Rattle.qd_client.specs.declared.ends.Halt.{Halt}
use Rattle.qd_client.specs.declared.ends.Halt.TheVariants as halts
use Rattle.qd_items.specs.Standing.{Past}
use Rattle.qd_items.specs.declared.ends.RunEnd.{RunEnd}
use Rattle.qd_items.specs.declared.ends.RunEnd.TheVariants as runs
use Rattle.qd_items.specs.declared.ends.TextEnd.TheVariants as texts
use Rattle.qd_net.specs.Meeting.{NetState}
use Rattle.qd_outside.specs.Causes.{Rose}
use Rattle.qd_outside.specs.Opening.{FilesState}
use Rattle.qd_scheme.specs.declared.defs.RecordDef.{RecordDef}
use Rattle.qd_scheme_file.specs.declared.no_scheme.NoScheme.{NoScheme}
use Rattle.qd_scheme_file.specs.declared.no_scheme.NoScheme.TheVariants as schemes
use Rattle.qd_sub.specs.declared.sub.Sub.{Sub}
use Rattle.qd_words.specs.NetAsking.{NetAsked, Dumped}
use Rattle.qd_words.specs.NetAsking.NetAsked.{Post, Dump}
use Rattle.qds_tools.specs.declared.program_end.ProgramEnd.{ProgramEnd}
use Rattle.qds_tools.specs.declared.program_end.ProgramEnd.TheVariants.{Refused, Ran, NetFault}
use Rattle.qds_tools.specs.Program.{SchemeComes}
use Rattle.qds_tools.specs.Statuses.{status_of}
use Rattle.qds_tools.proofs.DecidedLaws.{opened_faults, scheme_faults}
use Rattle.qds_net.specs.Worlds.{World}
use Rattle.qds_net.specs.Causes.{HasCause, IsServed}
use Rattle.qds_net.specs.Connections.{IsConnection, IsUnconnected}
use Rattle.qds_net.specs.Dumping.{DumpsFor, DumpsFrom, IsDumped, Output, ask_for}
use Rattle.qds_net.specs.Ends.{Ends, RunsOn, scheme_asked}
use Rattle.qds_net.specs.Posting.{IsPosted, PostsOf, PostsTo, Text}
use Rattle.qds_net.specs.Wanting.{subs_of}
use Rattle.qds_net.proofs.Connecting.{ended_one, opened_one, read_rose, send_rose}
use Rattle.qds_net.proofs.EndLaws.{net_of_dump, net_of_post, not_broken, read_of_dump, read_of_post, refused_of_dump, refused_of_post, written_of_dump, written_of_post}
use Rattle.qds_net.proofs.StatusLaws.{done_at, net_at, read_at, written_at}

-- a scheme file that could not be read
scheme_cause : (name : Option (List ℕ)) (before after : FilesState) → SchemeComes name (Err schemes.ReadFault) before after → Rose before.read_faults after.read_faults
scheme_cause None before after c = let e : ◌≡◌ {A = NoScheme} schemes.ReadFault schemes.NoMemory = c.0 in absurd (cc)
scheme_cause (Some name) before after (inl (opened, o, e, r)) = subst (λ (n : ℕ). Rose n after.read_faults) (opened_faults name before opened o) e.cause.0
scheme_cause (Some name) before after (inr (o, e)) = o.2

-- a post whose write failed, and one whose read failed
broken : (defs : List RecordDef) (o w : Outside) → Posts defs o runs.WriteFault w → Rose o.writes w.writes
broken defs o w (inl (halt, e, whole)) = absurd (not_broken halt e)
broken defs o w (inr (e, b)) = b.wrote.rose

read_halt : (halt : Halt) (rule : Rule) (defs : List RecordDef) (p : Past) (rest : List ℕ) (left : Option (List ℕ)) (before after : ℕ) → runs.ReadFault ≡ post_end halt → HaltedBy halt rule defs p rest left before after → Rose before after
read_halt (halts.Item line) rule defs p rest left before after e h = absurd (cc)
read_halt (halts.Text texts.End) rule defs p rest left before after e h = absurd (cc)
read_halt (halts.Text (texts.CutOff line)) rule defs p rest left before after e h = absurd (cc)
read_halt (halts.Text (texts.Bad bad)) rule defs p rest left before after e h = absurd (cc)
read_halt (halts.Text (texts.LineTooLong line)) rule defs p rest left before after e h = absurd (cc)
read_halt (halts.Text texts.TooMuch) rule defs p rest left before after e h = absurd (cc)
read_halt (halts.Text texts.ReadFault) rule defs p rest left before after e (over, (unended, few, rose)) = rose
read_halt (halts.Text texts.NoMemory) rule defs p rest left before after e h = absurd (cc)

read_broke : (defs : List RecordDef) (o w : Outside) → Posts defs o runs.ReadFault w → Rose o.reads w.reads
read_broke defs o w (inl (halt, e, whole)) = read_halt halt _ defs whole.past whole.rest w.left o.reads w.reads e whole.halted
read_broke defs o w (inr (e, b)) = absurd (cc)

-- no connection came about by such an end
pub unconnected : (addr : List ℕ) (end other : ProgramEnd) (net later : NetState) → IsUnconnected addr end net later → end ≡ other → IsUnconnected addr other net later
unconnected addr end other net later h e = subst (λ (x : ProgramEnd). IsUnconnected addr x net later) e h

-- the causes of a post
to_read : (defs : List RecordDef) (addr : List ℕ) (before after : Text) (end : ProgramEnd) (net later : NetState) → PostsTo defs addr before end after net later → end ≡ Ran runs.ReadFault → Rose before.reads after.reads
to_read defs addr before after end net later (inl (h, same)) e = absurd (unconnected addr end (Ran runs.ReadFault) net later h e)
to_read defs addr before after end net later (inr (ended, is, p)) e =
    let q : ended ≡ runs.ReadFault = read_of_post ended (sym e ∙ is) in
    let r = subst (λ (x : RunEnd). IsPosted defs addr before x after net later) q p in
    read_broke defs _ _ r.posts

to_net : (defs : List RecordDef) (addr : List ℕ) (before after : Text) (end : ProgramEnd) (net later : NetState) → PostsTo defs addr before end after net later → end ≡ NetFault → Rose net.faults later.faults ⊎ Rose net.hang_up_faults later.hang_up_faults
to_net defs addr before after end net later (inl (h, same)) e = inl (unconnected addr end NetFault net later h e).rose
to_net defs addr before after end net later (inr (ended, is, p)) e =
    let q : ended ≡ runs.WriteFault = net_of_post ended (sym e ∙ is) in
    let r = subst (λ (x : RunEnd). IsPosted defs addr before x after net later) q p in
    inr (send_rose addr r.list r.was r.sent 0 r.sends net later r.connection (broken defs _ _ r.posts))

to_written : (defs : List RecordDef) (addr : List ℕ) (before after : Text) (end : ProgramEnd) (net later : NetState) → PostsTo defs addr before end after net later → end ≡ Ran runs.WriteFault → ⊥
to_written defs addr before after end net later (inl (h, same)) e = absurd (unconnected addr end (Ran runs.WriteFault) net later h e)
to_written defs addr before after end net later (inr (ended, is, p)) e = absurd (written_of_post ended (sym e ∙ is))

to_refused : (defs : List RecordDef) (addr : List ℕ) (before after : Text) (end : ProgramEnd) (why : NoScheme) (net later : NetState) → PostsTo defs addr before end after net later → end ≡ Refused why → ⊥
to_refused defs addr before after end why net later (inl (h, same)) e = absurd (unconnected addr end (Refused why) net later h e)
to_refused defs addr before after end why net later (inr (ended, is, p)) e = absurd (refused_of_post ended why (sym e ∙ is))

-- what one connection leaves of the net
served : (addr : List ℕ) (list was sent : Option (List ℕ)) (reads sends : ℕ) (net later : NetState) → IsConnection addr list was sent reads sends net later → IsServed net later
served addr list was sent reads sends net later i = record {
  opened = opened_one addr list was sent reads sends net later i;
  ended = λ lists e. let x = ended_one addr list was sent reads sends net later i lists e in (x.0, x.2);
}

to_done : (defs : List RecordDef) (addr : List ℕ) (before after : Text) (end : ProgramEnd) (net later : NetState) → PostsTo defs addr before end after net later → end ≡ Ran runs.Done → IsServed net later
to_done defs addr before after end net later (inl (h, same)) e = absurd (unconnected addr end (Ran runs.Done) net later h e)
to_done defs addr before after end net later (inr (ended, is, p)) e = served addr p.list p.was p.sent 0 p.sends net later p.connection

-- over a file or standard input
of_read : (file : Option (List ℕ)) (defs : List RecordDef) (addr : List ℕ) (end : ProgramEnd) (o w : World) → PostsOf file defs addr end o w → end ≡ Ran runs.ReadFault → Rose o.files.read_faults w.files.read_faults ⊎ Rose o.reads w.reads
of_read None defs addr end o w (p, same) e = inr (to_read defs addr _ _ end o.net w.net p e)
of_read (Some name) defs addr end o w (inl (opened, op, p, on), same) e =
    inl (subst (λ (n : ℕ). Rose n w.files.read_faults) (opened_faults name o.files opened op) (to_read defs addr _ _ end o.net w.net p e))
of_read (Some name) defs addr end o w (inr (op, is, still), same) e = inl op.2

of_net : (file : Option (List ℕ)) (defs : List RecordDef) (addr : List ℕ) (end : ProgramEnd) (o w : World) → PostsOf file defs addr end o w → end ≡ NetFault → Rose o.net.faults w.net.faults ⊎ Rose o.net.hang_up_faults w.net.hang_up_faults
of_net None defs addr end o w (p, same) e = to_net defs addr _ _ end o.net w.net p e
of_net (Some name) defs addr end o w (inl (opened, op, p, on), same) e = to_net defs addr _ _ end o.net w.net p e
of_net (Some name) defs addr end o w (inr (op, is, still), same) e = let no : NetFault ≡ Ran runs.ReadFault = sym e ∙ is in absurd (cc)

of_written : (file : Option (List ℕ)) (defs : List RecordDef) (addr : List ℕ) (end : ProgramEnd) (o w : World) → PostsOf file defs addr end o w → end ≡ Ran runs.WriteFault → ⊥
of_written None defs addr end o w (p, same) e = to_written defs addr _ _ end o.net w.net p e
of_written (Some name) defs addr end o w (inl (opened, op, p, on), same) e = to_written defs addr _ _ end o.net w.net p e
of_written (Some name) defs addr end o w (inr (op, is, still), same) e = let no : Ran runs.WriteFault ≡ Ran runs.ReadFault = sym e ∙ is in absurd (cc)

of_refused : (file : Option (List ℕ)) (defs : List RecordDef) (addr : List ℕ) (end : ProgramEnd) (why : NoScheme) (o w : World) → PostsOf file defs addr end o w → end ≡ Refused why → ⊥
of_refused None defs addr end why o w (p, same) e = to_refused defs addr _ _ end why o.net w.net p e
of_refused (Some name) defs addr end why o w (inl (opened, op, p, on), same) e = to_refused defs addr _ _ end why o.net w.net p e
of_refused (Some name) defs addr end why o w (inr (op, is, still), same) e = let no : Refused why ≡ Ran runs.ReadFault = sym e ∙ is in absurd (cc)

of_done : (file : Option (List ℕ)) (defs : List RecordDef) (addr : List ℕ) (end : ProgramEnd) (o w : World) → PostsOf file defs addr end o w → end ≡ Ran runs.Done → IsServed o.net w.net
of_done None defs addr end o w (p, same) e = to_done defs addr _ _ end o.net w.net p e
of_done (Some name) defs addr end o w (inl (opened, op, p, on), same) e = to_done defs addr _ _ end o.net w.net p e
of_done (Some name) defs addr end o w (inr (op, is, still), same) e = let no : Ran runs.Done ≡ Ran runs.ReadFault = sym e ∙ is in absurd (cc)

-- the causes of a dump
from_net : (defs : List RecordDef) (addr : List ℕ) (ask : Ask) (before after : Output) (end : ProgramEnd) (net later : NetState) → DumpsFrom defs addr ask before end after net later → end ≡ NetFault → Rose net.faults later.faults ⊎ Rose net.hang_up_faults later.hang_up_faults
from_net defs addr ask before after end net later (inl (h, same)) e = inl (unconnected addr end NetFault net later h e).rose
from_net defs addr ask before after end net later (inr (ended, is, p)) e =
    let q : ended ≡ dumps.LinkFault = net_of_dump ended (sym e ∙ is) in
    let r = subst (λ (x : DumpEnd). IsDumped defs addr ask before x after net later) q p in
    inr (half r.list r.was r.sent r.reads r.sends r.connection r.dumps.cause)
  where
    half : (list was sent : Option (List ℕ)) (reads sends : ℕ) → IsConnection addr list was sent reads sends net later → Rose 0 reads ⊎ Rose 0 sends → Rose net.hang_up_faults later.hang_up_faults
    half list was sent reads sends i (inl x) = read_rose addr list was sent reads sends net later i x
    half list was sent reads sends i (inr x) = send_rose addr list was sent reads sends net later i x

from_written : (defs : List RecordDef) (addr : List ℕ) (ask : Ask) (before after : Output) (end : ProgramEnd) (net later : NetState) → DumpsFrom defs addr ask before end after net later → end ≡ Ran runs.WriteFault → Rose before.writes after.writes
from_written defs addr ask before after end net later (inl (h, same)) e = absurd (unconnected addr end (Ran runs.WriteFault) net later h e)
from_written defs addr ask before after end net later (inr (ended, is, p)) e =
    let q : ended ≡ dumps.WriteFault = written_of_dump ended (sym e ∙ is) in
    let r = subst (λ (x : DumpEnd). IsDumped defs addr ask before x after net later) q p in
    r.dumps.cause

from_read : (defs : List RecordDef) (addr : List ℕ) (ask : Ask) (before after : Output) (end : ProgramEnd) (net later : NetState) → DumpsFrom defs addr ask before end after net later → end ≡ Ran runs.ReadFault → ⊥
from_read defs addr ask before after end net later (inl (h, same)) e = absurd (unconnected addr end (Ran runs.ReadFault) net later h e)
from_read defs addr ask before after end net later (inr (ended, is, p)) e = absurd (read_of_dump ended (sym e ∙ is))

from_refused : (defs : List RecordDef) (addr : List ℕ) (ask : Ask) (before after : Output) (end : ProgramEnd) (why : NoScheme) (net later : NetState) → DumpsFrom defs addr ask before end after net later → end ≡ Refused why → ⊥
from_refused defs addr ask before after end why net later (inl (h, same)) e = absurd (unconnected addr end (Refused why) net later h e)
from_refused defs addr ask before after end why net later (inr (ended, is, p)) e = absurd (refused_of_dump ended why (sym e ∙ is))

from_done : (defs : List RecordDef) (addr : List ℕ) (ask : Ask) (before after : Output) (end : ProgramEnd) (net later : NetState) → DumpsFrom defs addr ask before end after net later → end ≡ Ran runs.Done → IsServed net later
from_done defs addr ask before after end net later (inl (h, same)) e = absurd (unconnected addr end (Ran runs.Done) net later h e)
from_done defs addr ask before after end net later (inr (ended, is, p)) e = served addr p.list p.was p.sent p.reads p.sends net later p.connection

for_net : (subs : Option (List Sub)) (defs : List RecordDef) (ask : Dumped) (end : ProgramEnd) (o w : World) → DumpsFor subs defs ask end o w → end ≡ NetFault → Rose o.net.faults w.net.faults ⊎ Rose o.net.hang_up_faults w.net.hang_up_faults
for_net None defs ask end o w (is, same) e = let no : NetFault ≡ Ran (runs.BadStep 0) = sym e ∙ is in absurd (cc)
for_net (Some subs) defs ask end o w (p, same) e = from_net defs ask.addr (ask_for ask subs) _ _ end o.net w.net p e

for_written : (subs : Option (List Sub)) (defs : List RecordDef) (ask : Dumped) (end : ProgramEnd) (o w : World) → DumpsFor subs defs ask end o w → end ≡ Ran runs.WriteFault → Rose o.writes w.writes
for_written None defs ask end o w (is, same) e = let no : Ran runs.WriteFault ≡ Ran (runs.BadStep 0) = sym e ∙ is in absurd (cc)
for_written (Some subs) defs ask end o w (p, same) e = from_written defs ask.addr (ask_for ask subs) _ _ end o.net w.net p e

for_read : (subs : Option (List Sub)) (defs : List RecordDef) (ask : Dumped) (end : ProgramEnd) (o w : World) → DumpsFor subs defs ask end o w → end ≡ Ran runs.ReadFault → ⊥
for_read None defs ask end o w (is, same) e = let no : Ran runs.ReadFault ≡ Ran (runs.BadStep 0) = sym e ∙ is in absurd (cc)
for_read (Some subs) defs ask end o w (p, same) e = from_read defs ask.addr (ask_for ask subs) _ _ end o.net w.net p e

for_refused : (subs : Option (List Sub)) (defs : List RecordDef) (ask : Dumped) (end : ProgramEnd) (why : NoScheme) (o w : World) → DumpsFor subs defs ask end o w → end ≡ Refused why → ⊥
for_refused None defs ask end why o w (is, same) e = let no : Refused why ≡ Ran (runs.BadStep 0) = sym e ∙ is in absurd (cc)
for_refused (Some subs) defs ask end why o w (p, same) e = from_refused defs ask.addr (ask_for ask subs) _ _ end why o.net w.net p e

for_done : (subs : Option (List Sub)) (defs : List RecordDef) (ask : Dumped) (end : ProgramEnd) (o w : World) → DumpsFor subs defs ask end o w → end ≡ Ran runs.Done → IsServed o.net w.net
for_done None defs ask end o w (is, same) e = let no : Ran runs.Done ≡ Ran (runs.BadStep 0) = sym e ∙ is in absurd (cc)
for_done (Some subs) defs ask end o w (p, same) e = from_done defs ask.addr (ask_for ask subs) _ _ end o.net w.net p e

-- the causes of a command
on_net : (ask : NetAsked) (defs : List RecordDef) (end : ProgramEnd) (o w : World) → RunsOn ask defs end o w → end ≡ NetFault → Rose o.net.faults w.net.faults ⊎ Rose o.net.hang_up_faults w.net.hang_up_faults
on_net (Post ask) defs end o w r e = of_net ask.file defs ask.addr end o w r e
on_net (Dump ask) defs end o w (inl (is, same)) e = let no : NetFault ≡ Ran runs.NoMemory = sym e ∙ is in absurd (cc)
on_net (Dump ask) defs end o w (inr r) e = for_net (subs_of defs ask.collector ask.limit ask.wants) defs ask end o w r e

on_written : (ask : NetAsked) (defs : List RecordDef) (end : ProgramEnd) (o w : World) → RunsOn ask defs end o w → end ≡ Ran runs.WriteFault → Rose o.writes w.writes
on_written (Post ask) defs end o w r e = absurd (of_written ask.file defs ask.addr end o w r e)
on_written (Dump ask) defs end o w (inl (is, same)) e = let no : Ran runs.WriteFault ≡ Ran runs.NoMemory = sym e ∙ is in absurd (cc)
on_written (Dump ask) defs end o w (inr r) e = for_written (subs_of defs ask.collector ask.limit ask.wants) defs ask end o w r e

on_read : (ask : NetAsked) (defs : List RecordDef) (end : ProgramEnd) (o w : World) → RunsOn ask defs end o w → end ≡ Ran runs.ReadFault → Rose o.files.read_faults w.files.read_faults ⊎ Rose o.reads w.reads
on_read (Post ask) defs end o w r e = of_read ask.file defs ask.addr end o w r e
on_read (Dump ask) defs end o w (inl (is, same)) e = let no : Ran runs.ReadFault ≡ Ran runs.NoMemory = sym e ∙ is in absurd (cc)
on_read (Dump ask) defs end o w (inr r) e = absurd (for_read (subs_of defs ask.collector ask.limit ask.wants) defs ask end o w r e)

on_refused : (ask : NetAsked) (defs : List RecordDef) (end : ProgramEnd) (why : NoScheme) (o w : World) → RunsOn ask defs end o w → end ≡ Refused why → ⊥
on_refused (Post ask) defs end why o w r e = of_refused ask.file defs ask.addr end why o w r e
on_refused (Dump ask) defs end why o w (inl (is, same)) e = let no : Refused why ≡ Ran runs.NoMemory = sym e ∙ is in absurd (cc)
on_refused (Dump ask) defs end why o w (inr r) e = for_refused (subs_of defs ask.collector ask.limit ask.wants) defs ask end why o w r e

on_done : (ask : NetAsked) (defs : List RecordDef) (end : ProgramEnd) (o w : World) → RunsOn ask defs end o w → end ≡ Ran runs.Done → IsServed o.net w.net
on_done (Post ask) defs end o w r e = of_done ask.file defs ask.addr end o w r e
on_done (Dump ask) defs end o w (inl (is, same)) e = let no : Ran runs.Done ≡ Ran runs.NoMemory = sym e ∙ is in absurd (cc)
on_done (Dump ask) defs end o w (inr r) e = for_done (subs_of defs ask.collector ask.limit ask.wants) defs ask end o w r e

-- the causes of the program's end
read_cause : (ask : NetAsked) (end : ProgramEnd) (o w : World) → Ends ask end o w → (end ≡ Refused schemes.ReadFault) ⊎ (end ≡ Ran runs.ReadFault) → Rose o.files.read_faults w.files.read_faults ⊎ Rose o.reads w.reads
read_cause ask end o w (inl (why, is, came, same)) (inl e) =
    let no : Refused why ≡ Refused schemes.ReadFault = sym is ∙ e in
    let q : why ≡ schemes.ReadFault = cc in
    inl (scheme_cause (scheme_asked ask) o.files w.files (subst (λ (x : NoScheme). SchemeComes (scheme_asked ask) (Err x) o.files w.files) q came))
read_cause ask end o w (inl (why, is, came, same)) (inr e) = let no : Refused why ≡ Ran runs.ReadFault = sym is ∙ e in absurd (cc)
read_cause ask end o w (inr (defs, files, came, r)) (inl e) = absurd (on_refused ask defs end schemes.ReadFault (record o { files = files }) w r e)
read_cause ask end o w (inr (defs, files, came, r)) (inr e) =
    subst (λ (n : ℕ). Rose n w.files.read_faults ⊎ Rose o.reads w.reads) (scheme_faults (scheme_asked ask) defs o.files files came) (on_read ask defs end (record o { files = files }) w r e)

write_cause : (ask : NetAsked) (end : ProgramEnd) (o w : World) → Ends ask end o w → end ≡ Ran runs.WriteFault → Rose o.writes w.writes
write_cause ask end o w (inl (why, is, came, same)) e = let no : Refused why ≡ Ran runs.WriteFault = sym is ∙ e in absurd (cc)
write_cause ask end o w (inr (defs, files, came, r)) e = on_written ask defs end (record o { files = files }) w r e

net_cause : (ask : NetAsked) (end : ProgramEnd) (o w : World) → Ends ask end o w → end ≡ NetFault → Rose o.net.faults w.net.faults ⊎ Rose o.net.hang_up_faults w.net.hang_up_faults
net_cause ask end o w (inl (why, is, came, same)) e = let no : Refused why ≡ NetFault = sym is ∙ e in absurd (cc)
net_cause ask end o w (inr (defs, files, came, r)) e = on_net ask defs end (record o { files = files }) w r e

pub has_cause : (ask : NetAsked) (end : ProgramEnd) (status : ℕ) (o w : World) → status ≡ status_of end → Ends ask end o w → HasCause status o w
has_cause ask end status o w s h = record {
  read = λ e. read_cause ask end o w h (read_at end (sym s ∙ e));
  write = λ e. inr (write_cause ask end o w h (written_at end (sym s ∙ e)));
  net = λ e. net_cause ask end o w h (net_at end (sym s ∙ e));
}

pub is_served : (ask : NetAsked) (end : ProgramEnd) (status : ℕ) (o w : World) → status ≡ status_of end → Ends ask end o w → status ≡ 0 → IsServed o.net w.net
is_served ask end status o w s (inl (why, is, came, same)) e = let no : Refused why ≡ Ran runs.Done = sym is ∙ done_at end (sym s ∙ e) in absurd (cc)
is_served ask end status o w s (inr (defs, files, came, r)) e = on_done ask defs end (record o { files = files }) w r (done_at end (sym s ∙ e))

-- an end of which nothing failed has no cause to have
pub no_cause : (status n : ℕ) (o w : World) → status ≡ n → (n ≡ 2) ⊎ (n ≡ 5) → HasCause status o w
no_cause status n o w s (inl two) = let q : status ≡ 2 = s ∙ two in record { read = λ e. let no : 2 ≡ 3 = sym q ∙ e in absurd (cc); write = λ e. let no : 2 ≡ 4 = sym q ∙ e in absurd (cc); net = λ e. let no : 2 ≡ 6 = sym q ∙ e in absurd (cc) }
no_cause status n o w s (inr five) = let q : status ≡ 5 = s ∙ five in record { read = λ e. let no : 5 ≡ 3 = sym q ∙ e in absurd (cc); write = λ e. let no : 5 ≡ 4 = sym q ∙ e in absurd (cc); net = λ e. let no : 5 ≡ 6 = sym q ∙ e in absurd (cc) }
