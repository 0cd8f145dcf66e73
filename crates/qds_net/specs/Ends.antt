-- How the program ends that speaks with a server.
use Rattle.std.specs.Prelude.{ℕ, ◌≡◌, ◌⊎◌, List, [], ◌∷◌, Option, Some, None, Ok, Err}
use Rattle.qd_client.specs.Dumps.{dump_end, sent_at}
use Rattle.qd_client.specs.Posts.{post_end}
use Rattle.qd_client.specs.Reading.{halt_of}
use Rattle.qd_client.specs.Rules.{post_rule, dump_rule, printed, until_over}
use Rattle.qd_grammar.specs.declared.item.Mode.TheVariants.{File, Up}
use Rattle.qd_items.specs.declared.ends.RunEnd.TheVariants as runs
use Rattle.qd_items.specs.declared.ends.TextEnd.{TextEnd}
use Rattle.qd_items.specs.Deciding.{Decides}
use Rattle.qd_items.specs.Judging.{items_of}
use Rattle.qd_outside.specs.Opening.{FilesState}
use Rattle.qd_outside.specs.Writing.{Gained}
use Rattle.qd_scheme.specs.declared.defs.RecordDef.{RecordDef}
use Rattle.qd_scheme_file.specs.declared.no_scheme.NoScheme.{NoScheme}
use Rattle.qd_sub.specs.declared.sub.Sub.{Sub}
use Rattle.qd_words.specs.NetAsking.{NetAsked}
use Rattle.qd_words.specs.NetAsking.NetAsked.{Post, Dump}
use Rattle.qds_tools.specs.declared.program_end.ProgramEnd.{ProgramEnd}
use Rattle.qds_tools.specs.declared.program_end.ProgramEnd.TheVariants.{Refused, Ran}
use Rattle.qds_tools.specs.Program.{SchemeComes, HasText}
use Rattle.qds_net.specs.Worlds.{World}
use Rattle.qds_net.specs.Connections.{IsSentOnce}
use Rattle.qds_net.specs.Posting.{PostsOf}
use Rattle.qds_net.specs.Dumping.{DumpsOn, ask_for, end_of_dump}
use Rattle.qds_net.specs.Wanting.{subs_of}

-- the scheme file of a command
abbrev pub scheme_asked : NetAsked → Option (List ℕ)
scheme_asked (Post ask) = ask.scheme
scheme_asked (Dump ask) = ask.scheme

-- a command ran with a scheme
abbrev pub RunsOn : NetAsked → List RecordDef → ProgramEnd → World → World → Type 0
RunsOn (Post ask) defs end o w = PostsOf ask.file defs ask.addr end o w
RunsOn (Dump ask) defs end o w = DumpsOn defs ask end o w

-- the scheme came, and the command ran
abbrev pub RunsBehind : NetAsked → ProgramEnd → World → World → Type 0
RunsBehind ask end o w = (defs : List RecordDef) × (files : FilesState) × SchemeComes (scheme_asked ask) (Ok defs) o.files files × RunsOn ask defs end (record o { files = files }) w

-- the scheme was refused, and nothing else was done
abbrev pub IsRefused : NetAsked → ProgramEnd → World → World → Type 0
IsRefused ask end o w = (why : NoScheme) × (end ≡ Refused why) × SchemeComes (scheme_asked ask) (Err why) o.files w.files × (w ≡ record o { files = w.files })

-- how what was asked ended: the scheme comes first
abbrev pub Ends : NetAsked → ProgramEnd → World → World → Type 0
Ends ask end o w = IsRefused ask end o w ⊎ RunsBehind ask end o w

-- the same, or there was no memory to read the words, and nothing was done
abbrev pub EndsOr : NetAsked → ProgramEnd → World → World → Type 0
EndsOr ask end o w = ((end ≡ Ran runs.NoMemory) × (w ≡ o)) ⊎ Ends ask end o w

-- the text that is posted is told
abbrev pub IsText : Option (List ℕ) → World → List ℕ → Type 0
IsText None o text = o.left ≡ Some text
IsText (Some name) o text = HasText o.files name text

-- the connection to come sends this text, as the net tells
abbrev pub IsComing : World → List ℕ → Type 0
IsComing o text = (more : List (List ℕ)) × (o.net.coming ≡ Some (text ∷ more))

-- what is told of a command leads it to this end, to these bytes that it sends, and to these that it writes
abbrev pub LeadsTo : NetAsked → List RecordDef → World → ProgramEnd → List ℕ → List ℕ → Type 0
LeadsTo (Post ask) defs o end sent written =
    (text : List ℕ) × (last : TextEnd) × (lines : List (List ℕ)) × IsText ask.file o text × Decides File defs text last lines
    × (end ≡ Ran (post_end (halt_of post_rule last (items_of File defs lines)))) × (sent ≡ printed post_rule defs (until_over post_rule (items_of File defs lines))) × (written ≡ [])
LeadsTo (Dump ask) defs o end sent written =
    (text : List ℕ) × (last : TextEnd) × (lines : List (List ℕ)) × (subs : List Sub) × IsComing o text × Decides Up defs text last lines × (subs_of defs ask.collector ask.limit ask.wants ≡ Some subs)
    × (end ≡ end_of_dump (dump_end (halt_of (dump_rule ask.count) last (items_of Up defs lines))))
    × (sent ≡ sent_at (dump_end (halt_of (dump_rule ask.count) last (items_of Up defs lines))) defs (ask_for ask subs))
    × (written ≡ printed (dump_rule ask.count) defs (until_over (dump_rule ask.count) (items_of Up defs lines)))

-- this was sent over one connection, and this was printed
pub record Leaves (sent printed : List ℕ) (o w : World) : Type 0 where
  pub sends : IsSentOnce sent o.net w.net
  pub prints : Gained o.written w.written printed

-- a want says no key, by the scheme
abbrev pub IsUnknown : NetAsked → List RecordDef → Type 0
IsUnknown (Post ask) defs = ⊥
IsUnknown (Dump ask) defs = subs_of defs ask.collector ask.limit ask.wants ≡ None
