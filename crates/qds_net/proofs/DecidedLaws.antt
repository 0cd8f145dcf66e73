-- Scheme and text alone decide how the program ends where nothing fails.
use Rattle.std.proofs.Common.{◌≡◌, ℕ, List, [], ◌∷◌, Option, Some, None, sym, ◌∙◌, ap, subst, inl, inr}
use Rattle.std.specs.Prelude.{◌⊎◌, Result, Ok, Err}
use Rattle.qd_client.specs.Dumps.{Ask, dump_end, sent_at}
use Rattle.qd_client.specs.Posts.{post_end}
use Rattle.qd_client.specs.Reading.{halt_of}
use Rattle.qd_client.specs.Rules.{dump_rule, post_rule, printed, until_over}
use Rattle.qd_client.specs.declared.ends.DumpEnd.{DumpEnd}
use Rattle.qd_client.specs.declared.ends.DumpEnd.TheVariants as dumps
use Rattle.qd_grammar.specs.declared.item.Mode.TheVariants.{File, Up}
use Rattle.qd_items.specs.Deciding.{Decides}
use Rattle.qd_items.specs.Judging.{items_of}
use Rattle.qd_items.specs.declared.ends.RunEnd.TheVariants as runs
use Rattle.qd_items.specs.declared.ends.TextEnd.{TextEnd}
use Rattle.qd_net.specs.Meeting.{NetState}
use Rattle.qd_outside.specs.Causes.{Rose}
use Rattle.qd_outside.specs.Opening.{FilesState}
use Rattle.qd_outside.specs.Writing.{Gained}
use Rattle.qd_outside.proofs.Streams.{Gained-none}
use Rattle.qd_scheme.specs.declared.defs.RecordDef.{RecordDef}
use Rattle.qd_scheme_file.specs.declared.no_scheme.NoScheme.{NoScheme}
use Rattle.qd_scheme_file.specs.declared.no_scheme.NoScheme.TheVariants as schemes
use Rattle.qd_sub.specs.declared.sub.Sub.{Sub}
use Rattle.qd_words.specs.NetAsking.{NetAsked, Dumped}
use Rattle.qd_words.specs.NetAsking.NetAsked.{Post, Dump}
use Rattle.qds_tools.specs.declared.program_end.ProgramEnd.{ProgramEnd}
use Rattle.qds_tools.specs.declared.program_end.ProgramEnd.TheVariants.{Refused, Ran, NetFault}
use Rattle.qds_tools.specs.Program.{IsScheme, SchemeComes}
use Rattle.qds_tools.specs.Statuses.{status_of}
use Rattle.qds_tools.proofs.DecidedLaws.{opened_faults, opened_text, refused_is, same_text, scheme_faults, scheme_holds, scheme_is}
use Rattle.qds_net.specs.Worlds.{World, NoFault}
use Rattle.qds_net.specs.Connections.{IsSentOnce, IsUnconnected}
use Rattle.qds_net.specs.Dumping.{DumpsFor, DumpsFrom, Output, ask_for, end_of_dump}
use Rattle.qds_net.specs.Ends.{Ends, IsText, IsUnknown, LeadsTo, Leaves, RunsOn, scheme_asked}
use Rattle.qds_net.specs.Posting.{PostsOf, PostsTo, Text, end_of_post}
use Rattle.qds_net.specs.Wanting.{subs_of}
use Rattle.qds_net.proofs.CauseLaws.{unconnected}
use Rattle.qds_net.proofs.Connecting.{comes_first, read_rose, send_rose, sent_once}
use Rattle.qds_net.proofs.EndLaws.{ran_of_post, unconnected_end}

-- no connection came about, and no fault was counted: there was no memory
no_connection : (addr : List ℕ) (end : ProgramEnd) (net later : NetState) → (Rose net.faults later.faults → ⊥) → IsUnconnected addr end net later → (end ≡ NetFault) ⊎ (end ≡ Ran runs.NoMemory) → end ≡ Ran runs.NoMemory
no_connection addr end net later sound h (inl e) = absurd (sound (unconnected addr end NetFault net later h e).rose)
no_connection addr end net later sound h (inr e) = e

-- a post
to_decided : (defs : List RecordDef) (addr : List ℕ) (before after : Text) (end : ProgramEnd) (net later : NetState) (text : List ℕ) (last : TextEnd) (lines : List (List ℕ))
    → PostsTo defs addr before end after net later → before.left ≡ Some text → Decides File defs text last lines
    → (Rose before.reads after.reads → ⊥) → (Rose net.faults later.faults → ⊥) → (Rose net.hang_up_faults later.hang_up_faults → ⊥)
    → ((end ≡ Ran (post_end (halt_of post_rule last (items_of File defs lines)))) × IsSentOnce (printed post_rule defs (until_over post_rule (items_of File defs lines))) net later) ⊎ (end ≡ Ran runs.NoMemory)
to_decided defs addr before after end net later text last lines (inl (h, same)) left d reads dials hung = inr (no_connection addr end net later dials h (unconnected_end addr end net later h))
to_decided defs addr before after end net later text last lines (inr (ended, is, p)) left d reads dials hung =
    go (p.decided text last lines left d reads (λ rose. hung (send_rose addr p.list p.was p.sent 0 p.sends net later p.connection rose)))
  where
    go : ((ended ≡ post_end (halt_of post_rule last (items_of File defs lines))) × Gained p.was p.sent (printed post_rule defs (until_over post_rule (items_of File defs lines)))) ⊎ (ended ≡ runs.NoMemory)
        → ((end ≡ Ran (post_end (halt_of post_rule last (items_of File defs lines)))) × IsSentOnce (printed post_rule defs (until_over post_rule (items_of File defs lines))) net later) ⊎ (end ≡ Ran runs.NoMemory)
    go (inl (x, g)) = inl (is ∙ ap end_of_post x ∙ ran_of_post (halt_of post_rule last (items_of File defs lines)), sent_once addr p.list p.was p.sent 0 p.sends net later _ p.connection g)
    go (inr x) = inr (is ∙ ap end_of_post x)

of_decided : (file : Option (List ℕ)) (defs : List RecordDef) (addr : List ℕ) (end : ProgramEnd) (o w : World) (text : List ℕ) (last : TextEnd) (lines : List (List ℕ))
    → PostsOf file defs addr end o w → IsText file o text → Decides File defs text last lines → NoFault o w
    → ((end ≡ Ran (post_end (halt_of post_rule last (items_of File defs lines)))) × IsSentOnce (printed post_rule defs (until_over post_rule (items_of File defs lines))) o.net w.net × Gained o.written w.written []) ⊎ (end ≡ Ran runs.NoMemory)
of_decided None defs addr end o w text last lines (p, same) t d n = with_none (to_decided defs addr _ _ end o.net w.net text last lines p t d n.reads n.dials n.hung_up)
  where
    with_none : ((end ≡ Ran (post_end (halt_of post_rule last (items_of File defs lines)))) × IsSentOnce (printed post_rule defs (until_over post_rule (items_of File defs lines))) o.net w.net) ⊎ (end ≡ Ran runs.NoMemory)
        → ((end ≡ Ran (post_end (halt_of post_rule last (items_of File defs lines)))) × IsSentOnce (printed post_rule defs (until_over post_rule (items_of File defs lines))) o.net w.net × Gained o.written w.written []) ⊎ (end ≡ Ran runs.NoMemory)
    with_none (inl (e, s)) = inl (e, s, subst (λ (x : Option (List ℕ)). Gained o.written x []) (sym (ap (λ (x : World). x.written) same)) (Gained-none o.written))
    with_none (inr e) = inr e
of_decided (Some name) defs addr end o w text last lines (inl (opened, op, p, on), same) t d n =
    with_none (to_decided defs addr _ _ end o.net w.net text last lines p (opened_text name text o.files opened op t) d (λ rose. n.files (subst (λ (m : ℕ). Rose m w.files.read_faults) (opened_faults name o.files opened op) rose)) n.dials n.hung_up)
  where
    with_none : ((end ≡ Ran (post_end (halt_of post_rule last (items_of File defs lines)))) × IsSentOnce (printed post_rule defs (until_over post_rule (items_of File defs lines))) o.net w.net) ⊎ (end ≡ Ran runs.NoMemory)
        → ((end ≡ Ran (post_end (halt_of post_rule last (items_of File defs lines)))) × IsSentOnce (printed post_rule defs (until_over post_rule (items_of File defs lines))) o.net w.net × Gained o.written w.written []) ⊎ (end ≡ Ran runs.NoMemory)
    with_none (inl (e, s)) = inl (e, s, subst (λ (x : Option (List ℕ)). Gained o.written x []) (sym (ap (λ (x : World). x.written) same)) (Gained-none o.written))
    with_none (inr e) = inr e
of_decided (Some name) defs addr end o w text last lines (inr (op, is, still), same) t d n = absurd (n.files op.2)

-- a dump
from_decided : (defs : List RecordDef) (addr : List ℕ) (ask : Ask) (before after : Output) (end : ProgramEnd) (net later : NetState) (text : List ℕ) (more : List (List ℕ)) (last : TextEnd) (lines : List (List ℕ))
    → DumpsFrom defs addr ask before end after net later → net.coming ≡ Some (text ∷ more) → Decides Up defs text last lines
    → (Rose before.writes after.writes → ⊥) → (Rose net.faults later.faults → ⊥) → (Rose net.hang_up_faults later.hang_up_faults → ⊥)
    → ((end ≡ end_of_dump (dump_end (halt_of (dump_rule ask.count) last (items_of Up defs lines))))
    × IsSentOnce (sent_at (dump_end (halt_of (dump_rule ask.count) last (items_of Up defs lines))) defs ask) net later
    × Gained before.written after.written (printed (dump_rule ask.count) defs (until_over (dump_rule ask.count) (items_of Up defs lines)))) ⊎ (end ≡ Ran runs.NoMemory)
from_decided defs addr ask before after end net later text more last lines (inl (h, same)) comes d writes dials hung = inr (no_connection addr end net later dials h (unconnected_end addr end net later h))
from_decided defs addr ask before after end net later text more last lines (inr (ended, is, p)) comes d writes dials hung =
    go (p.decided text last lines (comes_first addr p.list p.left p.was p.sent p.reads p.sends net later text more p.connection p.comes comes) d
    (λ rose. hung (read_rose addr p.list p.was p.sent p.reads p.sends net later p.connection rose))
    (λ rose. hung (send_rose addr p.list p.was p.sent p.reads p.sends net later p.connection rose)) writes)
  where
    go : ((ended ≡ dump_end (halt_of (dump_rule ask.count) last (items_of Up defs lines)))
        × Gained p.was p.sent (sent_at ended defs ask)
        × Gained before.written after.written (printed (dump_rule ask.count) defs (until_over (dump_rule ask.count) (items_of Up defs lines)))) ⊎ (ended ≡ dumps.NoMemory)
        → ((end ≡ end_of_dump (dump_end (halt_of (dump_rule ask.count) last (items_of Up defs lines))))
        × IsSentOnce (sent_at (dump_end (halt_of (dump_rule ask.count) last (items_of Up defs lines))) defs ask) net later
        × Gained before.written after.written (printed (dump_rule ask.count) defs (until_over (dump_rule ask.count) (items_of Up defs lines)))) ⊎ (end ≡ Ran runs.NoMemory)
    go (inl (x, s, g)) = inl (is ∙ ap end_of_dump x, sent_once addr p.list p.was p.sent p.reads p.sends net later _ p.connection (subst (λ (y : DumpEnd). Gained p.was p.sent (sent_at y defs ask)) x s), g)
    go (inr x) = inr (is ∙ ap end_of_dump x)

for_decided : (found : Option (List Sub)) (subs : List Sub) (defs : List RecordDef) (ask : Dumped) (end : ProgramEnd) (o w : World) (text : List ℕ) (more : List (List ℕ)) (last : TextEnd) (lines : List (List ℕ))
    → DumpsFor found defs ask end o w → found ≡ Some subs → o.net.coming ≡ Some (text ∷ more) → Decides Up defs text last lines → NoFault o w
    → ((end ≡ end_of_dump (dump_end (halt_of (dump_rule ask.count) last (items_of Up defs lines))))
    × IsSentOnce (sent_at (dump_end (halt_of (dump_rule ask.count) last (items_of Up defs lines))) defs (ask_for ask subs)) o.net w.net
    × Gained o.written w.written (printed (dump_rule ask.count) defs (until_over (dump_rule ask.count) (items_of Up defs lines)))) ⊎ (end ≡ Ran runs.NoMemory)
for_decided found subs defs ask end o w text more last lines f e comes d n =
    let p = subst (λ (x : Option (List Sub)). DumpsFor x defs ask end o w) e f in
    from_decided defs ask.addr (ask_for ask subs) _ _ end o.net w.net text more last lines p.0 comes d n.writes n.dials n.hung_up

-- a command
on_decided : (ask : NetAsked) (defs : List RecordDef) (end other : ProgramEnd) (sent written : List ℕ) (o w : World) → RunsOn ask defs end o w → LeadsTo ask defs o other sent written → NoFault o w
    → ((end ≡ other) × IsSentOnce sent o.net w.net × Gained o.written w.written written) ⊎ (end ≡ Ran runs.NoMemory)
on_decided (Post ask) defs end other sent written o w r (text, last, lines, t, d, e, s, p) n = go (of_decided ask.file defs ask.addr end o w text last lines r t d n)
  where
    go : ((end ≡ Ran (post_end (halt_of post_rule last (items_of File defs lines)))) × IsSentOnce (printed post_rule defs (until_over post_rule (items_of File defs lines))) o.net w.net × Gained o.written w.written []) ⊎ (end ≡ Ran runs.NoMemory)
        → ((end ≡ other) × IsSentOnce sent o.net w.net × Gained o.written w.written written) ⊎ (end ≡ Ran runs.NoMemory)
    go (inl (x, y, z)) = inl (x ∙ sym e, subst (λ (l : List ℕ). IsSentOnce l o.net w.net) (sym s) y, subst (λ (l : List ℕ). Gained o.written w.written l) (sym p) z)
    go (inr x) = inr x
on_decided (Dump ask) defs end other sent written o w (inl (is, same)) l n = inr is
on_decided (Dump ask) defs end other sent written o w (inr r) (text, last, lines, subs, (more, comes), d, found, e, s, p) n =
    go (for_decided (subs_of defs ask.collector ask.limit ask.wants) subs defs ask end o w text more last lines r found comes d n)
  where
    go : ((end ≡ end_of_dump (dump_end (halt_of (dump_rule ask.count) last (items_of Up defs lines))))
        × IsSentOnce (sent_at (dump_end (halt_of (dump_rule ask.count) last (items_of Up defs lines))) defs (ask_for ask subs)) o.net w.net
        × Gained o.written w.written (printed (dump_rule ask.count) defs (until_over (dump_rule ask.count) (items_of Up defs lines)))) ⊎ (end ≡ Ran runs.NoMemory)
        → ((end ≡ other) × IsSentOnce sent o.net w.net × Gained o.written w.written written) ⊎ (end ≡ Ran runs.NoMemory)
    go (inl (x, y, z)) = inl (x ∙ sym e, subst (λ (l : List ℕ). IsSentOnce l o.net w.net) (sym s) y, subst (λ (l : List ℕ). Gained o.written w.written l) (sym p) z)
    go (inr x) = inr x

-- what is told is still told once the scheme came
text_still : (file : Option (List ℕ)) (text : List ℕ) (o : World) (files : FilesState) → files.holds ≡ o.files.holds → IsText file o text → IsText file (record o { files = files }) text
text_still None text o files e t = t
text_still (Some name) text o files e t = same_text name text o.files files e t

leads_still : (ask : NetAsked) (defs : List RecordDef) (other : ProgramEnd) (sent written : List ℕ) (o : World) (files : FilesState) → files.holds ≡ o.files.holds → LeadsTo ask defs o other sent written → LeadsTo ask defs (record o { files = files }) other sent written
leads_still (Post ask) defs other sent written o files h (text, last, lines, t, d, e, s, p) = (text, last, lines, text_still ask.file text o files h t, d, e, s, p)
leads_still (Dump ask) defs other sent written o files h l = l

sound_still : (o w : World) (files : FilesState) → files.read_faults ≡ o.files.read_faults → files.write_faults ≡ o.files.write_faults → NoFault o w → NoFault (record o { files = files }) w
sound_still o w files r t n = record {
  files = λ rose. n.files (subst (λ (m : ℕ). Rose m w.files.read_faults) r rose);
  tapes = λ rose. n.tapes (subst (λ (m : ℕ). Rose m w.files.write_faults) t rose);
  dials = n.dials;
  hung_up = n.hung_up;
  reads = n.reads;
  writes = n.writes;
}

scheme_writes : (name : Option (List ℕ)) (defs : List RecordDef) (before after : FilesState) → SchemeComes name (Ok defs) before after → after.write_faults ≡ before.write_faults
scheme_writes None defs before after c = ap (λ (t : FilesState). t.write_faults) c.1
scheme_writes (Some name) defs before after (inl (opened, o, e, r)) = ap (λ (t : FilesState). t.write_faults) r ∙ ap (λ (t : FilesState). t.write_faults) o.0
scheme_writes (Some name) defs before after (inr (o, e)) = absurd (cc)

-- a scheme that is told was not refused, but for want of memory
not_refused : (ask : NetAsked) (defs : List RecordDef) (why : NoScheme) (end : ProgramEnd) (o w : World) → end ≡ Refused why → SchemeComes (scheme_asked ask) (Err why) o.files w.files → IsScheme (scheme_asked ask) o.files (Ok defs) → NoFault o w → status_of end ≡ 5
not_refused ask defs why end o w is came s n = go (refused_is (scheme_asked ask) why (Ok defs) o.files w.files came s n.files)
  where
    go : (◌≡◌ {A = Result (List RecordDef) NoScheme} (Err why) (Ok defs)) ⊎ (why ≡ schemes.NoMemory) → status_of end ≡ 5
    go (inl x) = absurd (cc)
    go (inr x) = ap status_of is ∙ ap (λ (y : NoScheme). status_of (Refused y)) x

-- a command ran with the scheme that is told
with_scheme : (ask : NetAsked) (came defs : List RecordDef) (files : FilesState) (end : ProgramEnd) (o w : World) → SchemeComes (scheme_asked ask) (Ok came) o.files files → IsScheme (scheme_asked ask) o.files (Ok defs)
    → RunsOn ask came end (record o { files = files }) w → RunsOn ask defs end (record o { files = files }) w
with_scheme ask came defs files end o w c s r =
    let x : ◌≡◌ {A = Result (List RecordDef) NoScheme} (Ok came) (Ok defs) = scheme_is (scheme_asked ask) came (Ok defs) o.files files c s in
    let same : came ≡ defs = cc in
    subst (λ (d : List RecordDef). RunsOn ask d end (record o { files = files }) w) same r

-- scheme and text alone decide how the program ends, what it sends and what it writes
pub run_decided : (ask : NetAsked) (defs : List RecordDef) (other : ProgramEnd) (sent written : List ℕ) (end : ProgramEnd) (o w : World)
    → Ends ask end o w → IsScheme (scheme_asked ask) o.files (Ok defs) → LeadsTo ask defs o other sent written → NoFault o w
    → ((end ≡ other) × Leaves sent written o w) ⊎ (status_of end ≡ 5)
run_decided ask defs other sent written end o w (inl (why, is, came, same)) s l n = inr (not_refused ask defs why end o w is came s n)
run_decided ask defs other sent written end o w (inr (came, files, c, r)) s l n =
    go (on_decided ask defs end other sent written (record o { files = files }) w (with_scheme ask came defs files end o w c s r)
    (leads_still ask defs other sent written o files (scheme_holds (scheme_asked ask) came o.files files c) l)
    (sound_still o w files (scheme_faults (scheme_asked ask) came o.files files c) (scheme_writes (scheme_asked ask) came o.files files c) n))
  where
    go : ((end ≡ other) × IsSentOnce sent o.net w.net × Gained o.written w.written written) ⊎ (end ≡ Ran runs.NoMemory)
        → ((end ≡ other) × Leaves sent written o w) ⊎ (status_of end ≡ 5)
    go (inl (e, x, y)) = inl (e, record { sends = x; prints = y })
    go (inr x) = inr (ap status_of x)

-- a want that says no key ends it before anything is dialled
on_unknown : (ask : NetAsked) (defs : List RecordDef) (end : ProgramEnd) (o w : World) → RunsOn ask defs end o w → IsUnknown ask defs → ((end ≡ Ran (runs.BadStep 0)) × (w.net ≡ o.net)) ⊎ (end ≡ Ran runs.NoMemory)
on_unknown (Post ask) defs end o w r u = absurd u
on_unknown (Dump ask) defs end o w (inl (is, same)) u = inr is
on_unknown (Dump ask) defs end o w (inr r) u =
    let p = subst (λ (x : Option (List Sub)). DumpsFor x defs ask end o w) u r in
    inl (p.0, ap (λ (x : World). x.net) p.1)

pub unknown_decided : (ask : NetAsked) (defs : List RecordDef) (end : ProgramEnd) (o w : World) → Ends ask end o w → IsScheme (scheme_asked ask) o.files (Ok defs) → IsUnknown ask defs → NoFault o w
    → ((end ≡ Ran (runs.BadStep 0)) × (w.net ≡ o.net)) ⊎ (status_of end ≡ 5)
unknown_decided ask defs end o w (inl (why, is, came, same)) s u n = inr (not_refused ask defs why end o w is came s n)
unknown_decided ask defs end o w (inr (came, files, c, r)) s u n = go (on_unknown ask defs end (record o { files = files }) w (with_scheme ask came defs files end o w c s r) u)
  where
    go : ((end ≡ Ran (runs.BadStep 0)) × (w.net ≡ o.net)) ⊎ (end ≡ Ran runs.NoMemory) → ((end ≡ Ran (runs.BadStep 0)) × (w.net ≡ o.net)) ⊎ (status_of end ≡ 5)
    go (inl x) = inl x
    go (inr x) = inr (ap status_of x)

-- a scheme file that is refused is told
pub refusal_decided : (ask : NetAsked) (why : NoScheme) (end : ProgramEnd) (o w : World) → Ends ask end o w → IsScheme (scheme_asked ask) o.files (Err why) → NoFault o w → (end ≡ Refused why) ⊎ (status_of end ≡ 5)
refusal_decided ask why end o w (inl (other, is, came, same)) s n = go (refused_is (scheme_asked ask) other (Err why) o.files w.files came s n.files)
  where
    go : (◌≡◌ {A = Result (List RecordDef) NoScheme} (Err other) (Err why)) ⊎ (other ≡ schemes.NoMemory) → (end ≡ Refused why) ⊎ (status_of end ≡ 5)
    go (inl x) = let y : other ≡ why = cc in inl (is ∙ ap Refused y)
    go (inr x) = inr (ap status_of is ∙ ap (λ (y : NoScheme). status_of (Refused y)) x)
refusal_decided ask why end o w (inr (came, files, c, r)) s n =
    let x : ◌≡◌ {A = Result (List RecordDef) NoScheme} (Ok came) (Err why) = scheme_is (scheme_asked ask) came (Err why) o.files files c s in absurd (cc)
