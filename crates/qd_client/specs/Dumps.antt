-- How a dump ends, with the cause of each end and what is sent and written then.
use Rattle.std.specs.Prelude.{ℕ, ◌≡◌, ◌<◌, ◌⊎◌, Bool, true, false, Option, Some, List, ◌++◌, length}
use Rattle.qd_grammar.specs.declared.item.Collector.{Collector}
use Rattle.qd_grammar.specs.declared.item.Item.TheVariants as items
use Rattle.qd_grammar.specs.declared.item.Mode.TheVariants.{Up}
use Rattle.qd_items.specs.declared.ends.TextEnd.{TextEnd}
use Rattle.qd_items.specs.declared.ends.TextEnd.TheVariants as texts
use Rattle.qd_items.specs.Deciding.{Decides}
use Rattle.qd_items.specs.Ends.{Causes}
use Rattle.qd_items.specs.Judging.{items_of, stop_of}
use Rattle.qd_items.specs.Judging.Stop.{AtEnd}
use Rattle.qd_items.specs.Standing.{Past, nothing}
use Rattle.qd_outside.specs.Causes.{Rose}
use Rattle.qd_outside.specs.Writing.{Gained, IsCutShort, IsWritten}
use Rattle.qd_path.specs.Texts.{line_of}
use Rattle.qd_scheme.specs.declared.defs.RecordDef.{RecordDef}
use Rattle.qd_sub.specs.declared.sub.Sub.{Sub}
use Rattle.qd_client.specs.declared.ends.DumpEnd.{DumpEnd}
use Rattle.qd_client.specs.declared.ends.DumpEnd.TheVariants.{Done, CutOff, Bad, LineTooLong, TooMuch, LinkFault, WriteFault, NoMemory}
use Rattle.qd_client.specs.declared.ends.Halt.{Halt}
use Rattle.qd_client.specs.declared.ends.Halt.TheVariants as halts
use Rattle.qd_client.specs.Asking.{asked, Sends}
use Rattle.qd_client.specs.Reading.{IsFirstPart, IsThrough, halt_of, items_in}
use Rattle.qd_client.specs.Rules.{dump_rule, given_of, printed, until_over}

-- what a dump asks for: keys of a collector, and a number of items
pub record Ask : Type 0 where
  pub collector : Collector
  pub wants : List Sub
  pub count : ℕ

-- what is told outside: of the connection the bytes left, the count of faults of reading, the bytes sent, the count of
-- faults of sending; and the bytes written, the count of faults of writing
pub record World : Type 0 where
  pub left : Option (List ℕ)
  pub reads : ℕ
  pub sent : Option (List ℕ)
  pub sends : ℕ
  pub written : Option (List ℕ)
  pub writes : ℕ

abbrev pub dump_end : Halt → DumpEnd
dump_end (halts.Item line) = Done
dump_end (halts.Text texts.End) = Done
dump_end (halts.Text (texts.CutOff line)) = CutOff line
dump_end (halts.Text (texts.Bad bad)) = Bad bad
dump_end (halts.Text (texts.LineTooLong line)) = LineTooLong line
dump_end (halts.Text texts.TooMuch) = TooMuch
dump_end (halts.Text texts.ReadFault) = LinkFault
dump_end (halts.Text texts.NoMemory) = NoMemory

-- how many records, events and Lost items came
abbrev pub came : List RecordDef → Past → ℕ
came defs p = length (given_of (items_of Up defs p.lines))

-- as many items came as were asked for, or the server's END before that
abbrev pub IsDone : List RecordDef → ℕ → Past → Type 0
IsDone defs count p = (came defs p ≡ count) ⊎ ((stop_of Up defs p.lines ≡ AtEnd (length p.lines)) × (came defs p < count))

-- the text is the cause, and fewer items came
abbrev pub IsOfText : TextEnd → List RecordDef → ℕ → Past → List ℕ → World → World → Type 0
IsOfText end defs count p rest o w = Causes end (stop_of Up defs p.lines) (length p.lines) rest (length p.taken) w.left × (came defs p < count) × (w.reads ≡ o.reads)

-- the cause of each end
abbrev pub HasCause : DumpEnd → List RecordDef → ℕ → Past → List ℕ → World → World → Type 0
HasCause Done defs count p rest o w = IsDone defs count p × (w.reads ≡ o.reads)
HasCause (CutOff line) defs count p rest o w = IsOfText (texts.CutOff line) defs count p rest o w
HasCause (Bad bad) defs count p rest o w = IsOfText (texts.Bad bad) defs count p rest o w
HasCause (LineTooLong line) defs count p rest o w = IsOfText (texts.LineTooLong line) defs count p rest o w
HasCause TooMuch defs count p rest o w = IsOfText texts.TooMuch defs count p rest o w
HasCause LinkFault defs count p rest o w = Rose o.reads w.reads ⊎ Rose o.sends w.sends
HasCause WriteFault defs count p rest o w = Rose o.writes w.writes
HasCause NoMemory defs count p rest o w = (p ≡ nothing) × (w.left ≡ o.left) × (w.reads ≡ o.reads)

-- what is sent at an end that is no fault: the subscription, and END exactly where the dump is done
abbrev pub sent_at : DumpEnd → List RecordDef → Ask → List ℕ
sent_at Done defs ask = asked defs ask.collector ask.wants ++ line_of defs items.End
sent_at end defs ask = asked defs ask.collector ask.wants

-- at a fault of the connection: a read failed once the subscription was sent; or a write did, and a first part was sent
abbrev pub IsSent : DumpEnd → List RecordDef → Ask → World → World → Type 0
IsSent LinkFault defs ask o w =
    (Rose o.reads w.reads × IsWritten (sent_at LinkFault defs ask) o.sent w.sent o.sends w.sends) ⊎ ((w.reads ≡ o.reads) × IsCutShort (sent_at Done defs ask) o.sent w.sent o.sends w.sends)
IsSent NoMemory defs ask o w = (w.sent ≡ o.sent) × (w.sends ≡ o.sends)
IsSent end defs ask o w = IsWritten (sent_at end defs ask) o.sent w.sent o.sends w.sends

-- what came is written, all of it but where a write of it failed
abbrev pub IsShown : DumpEnd → List ℕ → World → World → Type 0
IsShown WriteFault text o w = IsCutShort text o.written w.written o.writes w.writes
IsShown end text o w = IsWritten text o.written w.written o.writes w.writes

-- the end of a dump, with its cause, and what was read, sent and written
pub record Dumps (defs : List RecordDef) (ask : Ask) (o : World) (end : DumpEnd) (w : World) : Type 0 where
  pub past : Past
  pub rest : List ℕ
  pub through : IsThrough (dump_rule ask.count) defs o.left past rest w.left
  pub cause : HasCause end defs ask.count past rest o w
  pub sent : IsSent end defs ask o w
  pub shown : IsShown end (printed (dump_rule ask.count) defs (items_in (dump_rule ask.count) defs past)) o w

-- both sinks are flushed where nothing failed
abbrev pub AreFlushed : DumpEnd → Bool → Bool → Type 0
AreFlushed LinkFault sink out = Unit {0}
AreFlushed WriteFault sink out = Unit {0}
AreFlushed NoMemory sink out = Unit {0}
AreFlushed end sink out = (sink ≡ true) × (out ≡ true)

-- what is sent is a first part of what is where the dump is done, and so is what is written
abbrev pub AreFirstParts : List RecordDef → Ask → World → World → Type 0
AreFirstParts defs ask o w =
    ((part : List ℕ) × (rest : List ℕ) × (sent_at Done defs ask ≡ part ++ rest) × Gained o.sent w.sent part) × IsFirstPart (dump_rule ask.count) defs o.left o.written w.written

-- where no fault was counted, the text alone decides the end, and what is sent and written, but for want of memory
abbrev pub IsDecided : List RecordDef → Ask → World → DumpEnd → World → Type 0
IsDecided defs ask o end w =
    (text : List ℕ) (last : TextEnd) (lines : List (List ℕ)) → o.left ≡ Some text → Decides Up defs text last lines
    → (Rose o.reads w.reads → ⊥) → (Rose o.sends w.sends → ⊥) → (Rose o.writes w.writes → ⊥)
    → ((end ≡ dump_end (halt_of (dump_rule ask.count) last (items_of Up defs lines)))
    × Gained o.sent w.sent (sent_at end defs ask)
    × Gained o.written w.written (printed (dump_rule ask.count) defs (until_over (dump_rule ask.count) (items_of Up defs lines)))) ⊎ (end ≡ NoMemory)

-- where a dump is done END is sent, or a write of it failed; at another end nothing is
abbrev pub Leaving : DumpEnd → List RecordDef → DumpEnd → Option (List ℕ) → Option (List ℕ) → Bool → Bool → ℕ → ℕ → Type 0
Leaving Done defs Done was now before_flush flushed before after = Sends true (line_of defs items.End) was now flushed before after
Leaving Done defs LinkFault was now before_flush flushed before after = Sends false (line_of defs items.End) was now flushed before after
Leaving Done defs end was now before_flush flushed before after = ⊥
Leaving halted defs end was now before_flush flushed before after = (end ≡ halted) × (now ≡ was) × (flushed ≡ before_flush) × (after ≡ before)

abbrev pub Leaves : List RecordDef → Halt → DumpEnd → Option (List ℕ) → Option (List ℕ) → Bool → Bool → ℕ → ℕ → Type 0
Leaves defs halt end was now before_flush flushed before after = Leaving (dump_end halt) defs end was now before_flush flushed before after
