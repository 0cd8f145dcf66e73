-- Scheme and text alone decide how a run ends in which nothing fails.
use Rattle.std.proofs.Common.{◌≡◌, ℕ, Bool, true, List, Option, Some, None, sym, ◌∙◌, ap, subst, inl, inr}
use Rattle.std.specs.Prelude.{Result, Ok, Err, ◌⊎◌, IfSome}
use Rattle.qd_check.specs.Printing.{check_text, fmt_text}
use Rattle.qd_check.specs.Runs.{Outside, IsFlushed}
use Rattle.qd_items.specs.Runs.{run_end}
use Rattle.qd_items.specs.declared.ends.RunEnd.{RunEnd}
use Rattle.qd_items.specs.declared.ends.RunEnd.TheVariants as runs
use Rattle.qd_outside.specs.Causes.{Rose}
use Rattle.qd_outside.specs.Opening.{FilesState, OpensIn, IsHeld, LeftOf}
use Rattle.qd_outside.specs.Writing.{Gained}
use Rattle.qd_replay.specs.Ends.{IsFlushed as ReplayFlushed}
use Rattle.qd_scheme.specs.declared.defs.RecordDef.{RecordDef}
use Rattle.qd_scheme_file.specs.declared.no_scheme.NoScheme.{NoScheme}
use Rattle.qd_scheme_file.specs.declared.no_scheme.NoScheme.TheVariants as schemes
use Rattle.qd_scheme_file.specs.Ends.{Ends as FileEnds}
use Rattle.qd_scheme_file.proofs.EndLaws.{decided, decided_ok}
use Rattle.qd_words.specs.Asking.{Asked}
use Rattle.qd_words.specs.declared.ask.Command.{Command}
use Rattle.qd_words.specs.declared.ask.Command.TheVariants.{Check, Fmt, Replay}
use Rattle.qds_tools.specs.declared.program_end.ProgramEnd.{ProgramEnd}
use Rattle.qds_tools.specs.declared.program_end.ProgramEnd.TheVariants.{Usage, Refused, Ran, NetFault}
use Rattle.qds_tools.specs.Commands.{Setting, setting_of, RunsBy, LeadsTo}
use Rattle.qds_tools.specs.Program.{World, IsReadOn, SchemeComes, RunsOn, Ends, HasText, IsScheme, IsText, NoFault}
use Rattle.qds_tools.specs.Statuses.{status_of, Reports}

-- what is left of a file that was opened, where that is told
pub opened_text : (name bytes : List ℕ) (before opened : FilesState) → OpensIn true name before opened → HasText before name bytes → opened.left ≡ Some bytes
opened_text name bytes before opened o (holds, h, b) =
    subst (λ (x : Option (List ℕ)). LeftOf x opened.left) b (subst (λ (x : Option (List ℕ → Option (List ℕ))). IsHeld x name opened.left) h o.1)

pub opened_faults : (name : List ℕ) (before opened : FilesState) → OpensIn true name before opened → opened.read_faults ≡ before.read_faults
opened_faults name before opened o = ap (λ (t : FilesState). t.read_faults) o.0

pub opened_holds : (name : List ℕ) (before opened : FilesState) → OpensIn true name before opened → opened.holds ≡ before.holds
opened_holds name before opened o = ap (λ (t : FilesState). t.holds) o.0

pub read_holds : (before after : FilesState) → IsReadOn before after → after.holds ≡ before.holds
read_holds before after e = ap (λ (t : FilesState). t.holds) e

pub same_text : (name bytes : List ℕ) (before after : FilesState) → after.holds ≡ before.holds → HasText before name bytes → HasText after name bytes
same_text name bytes before after e (holds, h, b) = (holds, e ∙ h, b)

-- a scheme that came is the one that is told
pub scheme_is : (name : Option (List ℕ)) (defs : List RecordDef) (other : Result (List RecordDef) NoScheme) (before after : FilesState) → SchemeComes name (Ok defs) before after → IsScheme name before other → Ok defs ≡ other
scheme_is None defs other before after c i = ap (λ (d : List RecordDef). Ok d) c.0 ∙ sym i
scheme_is (Some name) defs other before after (inl (opened, o, e, r)) (bytes, h, d) =
    let left = opened_text name bytes before opened o h in
    decided_ok bytes defs other after.left opened.read_faults after.read_faults (subst (λ (x : Option (List ℕ)). FileEnds (Ok defs) x after.left opened.read_faults after.read_faults) left e) d
scheme_is (Some name) defs other before after (inr (o, e)) i = absurd (cc)

-- it leaves the counts of faults, and what the names hold
pub scheme_faults : (name : Option (List ℕ)) (defs : List RecordDef) (before after : FilesState) → SchemeComes name (Ok defs) before after → after.read_faults ≡ before.read_faults
scheme_faults None defs before after c = ap (λ (t : FilesState). t.read_faults) c.1
scheme_faults (Some name) defs before after (inl (opened, o, e, r)) = e.cause.1 ∙ opened_faults name before opened o
scheme_faults (Some name) defs before after (inr (o, e)) = absurd (cc)

pub scheme_holds : (name : Option (List ℕ)) (defs : List RecordDef) (before after : FilesState) → SchemeComes name (Ok defs) before after → after.holds ≡ before.holds
scheme_holds None defs before after c = ap (λ (t : FilesState). t.holds) c.1
scheme_holds (Some name) defs before after (inl (opened, o, e, r)) = read_holds opened after r ∙ opened_holds name before opened o
scheme_holds (Some name) defs before after (inr (o, e)) = absurd (cc)

-- a scheme that was refused is so by what is told
pub refused_is : (name : Option (List ℕ)) (why : NoScheme) (other : Result (List RecordDef) NoScheme) (before after : FilesState) → SchemeComes name (Err why) before after → IsScheme name before other → (Rose before.read_faults after.read_faults → ⊥)
    → (Err why ≡ other) ⊎ (why ≡ schemes.NoMemory)
refused_is None why other before after c i sound = inr c.0
refused_is (Some name) why other before after (inl (opened, o, e, r)) (bytes, h, d) sound =
    let left = opened_text name bytes before opened o h in
    let same = opened_faults name before opened o in
    go (decided bytes (Err why) other after.left opened.read_faults after.read_faults (subst (λ (x : Option (List ℕ)). FileEnds (Err why) x after.left opened.read_faults after.read_faults) left e) (λ rose. sound (subst (λ (n : ℕ). Rose n after.read_faults) same rose)) d)
  where
    go : ((Err why ≡ other) ⊎ (◌≡◌ {A = Result (List RecordDef) NoScheme} (Err why) (Err schemes.NoMemory))) → (Err why ≡ other) ⊎ (why ≡ schemes.NoMemory)
    go (inl x) = inl x
    go (inr x) = inr (cc)
refused_is (Some name) why other before after (inr (o, e)) i sound = absurd (sound o.2)

-- an end that is decided, by other names
renamed : (end last other : RunEnd) (was now : Option (List ℕ)) (text : List ℕ) (printed : Option (List ℕ)) → other ≡ last → printed ≡ Some text → ((end ≡ last) × Gained was now text) ⊎ (end ≡ runs.NoMemory) → ((end ≡ other) × IfSome printed (Gained was now)) ⊎ (end ≡ runs.NoMemory)
renamed end last other was now text printed e p (inl (x, g)) = inl (x ∙ sym e, subst (λ (t : Option (List ℕ)). IfSome t (Gained was now)) (sym p) g)
renamed end last other was now text printed e p (inr x) = inr x

-- the run of a command over a text that is told
by_text : (command : Command) (set : Setting) (text : List ℕ) (printed : Option (List ℕ)) (end other : RunEnd) (o w : Outside) → RunsBy command set o end w → o.left ≡ Some text → LeadsTo command set text other printed
    → (Rose o.reads w.reads → ⊥) → (Rose o.writes w.writes → ⊥) → ((end ≡ other) × IfSome printed (Gained o.written w.written)) ⊎ (end ≡ runs.NoMemory)
by_text Check set text printed end other o w r left (last, lines, d, e, p) reads writes = renamed end (run_end last) other o.written w.written (check_text set.defs lines) printed e p (r.1 text last lines left d reads writes)
by_text Fmt set text printed end other o w r left (last, lines, d, e, p) reads writes = renamed end (run_end last) other o.written w.written (fmt_text set.defs lines) printed e p (r.1 text last lines left d reads writes)
by_text Replay set text printed end other o w r left (sound, e, p) reads writes = done (r.1 text left sound (reads, writes))
  where
    done : (end ≡ runs.Done) ⊎ (end ≡ runs.NoMemory) → ((end ≡ other) × IfSome printed (Gained o.written w.written)) ⊎ (end ≡ runs.NoMemory)
    done (inl x) = inl (x ∙ sym e, subst (λ (t : Option (List ℕ)). IfSome t (Gained o.written w.written)) (sym p) tt)
    done (inr x) = inr x

-- what a replay says of the sink, as the other commands say it
pub flushed_by : (end : RunEnd) (flushed : Bool) → ReplayFlushed end flushed → IsFlushed end flushed
flushed_by end flushed h = h

-- the run over the text that is asked for
by_asked : (command : Command) (file : Option (List ℕ)) (set : Setting) (text : List ℕ) (printed : Option (List ℕ)) (end other : RunEnd) (o w : World) → RunsOn command set file end o w → IsText file o text → LeadsTo command set text other printed → NoFault o w
    → ((end ≡ other) × IfSome printed (Gained o.written w.written)) ⊎ (end ≡ runs.NoMemory)
by_asked command None set text printed end other o w r t l n =
    by_text command set text printed end other (record { left = o.left; reads = o.reads; written = o.written; writes = o.writes }) (record { left = w.left; reads = w.reads; written = w.written; writes = w.writes }) r.0 t l n.1 n.2
by_asked command (Some name) set text printed end other o w (inl (opened, p, r, f, k), u) t l n =
    by_text command set text printed end other (record { left = opened.left; reads = opened.read_faults; written = o.written; writes = o.writes }) (record { left = w.files.left; reads = w.files.read_faults; written = w.written; writes = w.writes })
    r (opened_text name text o.files opened p t) l (λ rose. n.0 (subst (λ (m : ℕ). Rose m w.files.read_faults) (opened_faults name o.files opened p) rose)) n.2
by_asked command (Some name) set text printed end other o w (inr r, u) t l n = absurd (n.0 r.0.2)

-- the text, and that no fault was counted, once the scheme came
text_still : (file : Option (List ℕ)) (text : List ℕ) (o : World) (files : FilesState) → files.holds ≡ o.files.holds → IsText file o text → IsText file (record o { files = files }) text
text_still None text o files e t = t
text_still (Some name) text o files e t = same_text name text o.files files e t

-- scheme and text alone decide how a run ends in which no fault is counted, and what it prints
pub run_decided : (ask : Asked) (defs : List RecordDef) (text : List ℕ) (printed : Option (List ℕ)) (other : RunEnd) (end : ProgramEnd) (o w : World)
    → Ends ask end o w → IsScheme ask.scheme o.files (Ok defs) → LeadsTo ask.command (setting_of ask defs) text other printed → IsText ask.file o text → NoFault o w
    → ((end ≡ Ran other) × IfSome printed (Gained o.written w.written)) ⊎ (status_of end ≡ 5)
run_decided ask defs text printed other Usage o w e s l t n = absurd e
run_decided ask defs text printed other NetFault o w e s l t n = absurd e
run_decided ask defs text printed other (Refused why) o w e s l t n = go (refused_is ask.scheme why (Ok defs) o.files w.files e.0 s n.0)
  where
    go : (◌≡◌ {A = Result (List RecordDef) NoScheme} (Err why) (Ok defs)) ⊎ (why ≡ schemes.NoMemory) → ((Refused why ≡ Ran other) × IfSome printed (Gained o.written w.written)) ⊎ (status_of (Refused why) ≡ 5)
    go (inl x) = absurd (cc)
    go (inr x) = inr (ap (λ (y : NoScheme). status_of (Refused y)) x)
run_decided ask defs text printed other (Ran end) o w (came, files, c, r) s l t n =
    go (by_asked ask.command ask.file (setting_of ask defs) text printed end other (record o { files = files }) w
    (subst (λ (d : List RecordDef). RunsOn ask.command (setting_of ask d) ask.file end (record o { files = files }) w) same r)
    (text_still ask.file text o files (scheme_holds ask.scheme came o.files files c) t) l
    ((λ rose. n.0 (subst (λ (m : ℕ). Rose m w.files.read_faults) (scheme_faults ask.scheme came o.files files c) rose)), n.1, n.2))
  where
    same : came ≡ defs
    same = let x : ◌≡◌ {A = Result (List RecordDef) NoScheme} (Ok came) (Ok defs) = scheme_is ask.scheme came (Ok defs) o.files files c s in cc

    go : ((end ≡ other) × IfSome printed (Gained o.written w.written)) ⊎ (end ≡ runs.NoMemory) → ((Ran end ≡ Ran other) × IfSome printed (Gained o.written w.written)) ⊎ (status_of (Ran end) ≡ 5)
    go (inl (x, g)) = inl (ap Ran x, g)
    go (inr x) = inr (ap (λ (y : RunEnd). status_of (Ran y)) x)

-- a scheme file that is refused is told, where no fault is counted
pub refusal_decided : (ask : Asked) (why : NoScheme) (end : ProgramEnd) (o w : World) → Ends ask end o w → IsScheme ask.scheme o.files (Err why) → NoFault o w → (end ≡ Refused why) ⊎ (status_of end ≡ 5)
refusal_decided ask why Usage o w e s n = absurd e
refusal_decided ask why NetFault o w e s n = absurd e
refusal_decided ask why (Refused other) o w e s n = go (refused_is ask.scheme other (Err why) o.files w.files e.0 s n.0)
  where
    go : (◌≡◌ {A = Result (List RecordDef) NoScheme} (Err other) (Err why)) ⊎ (other ≡ schemes.NoMemory) → (Refused other ≡ Refused why) ⊎ (status_of (Refused other) ≡ 5)
    go (inl x) = let y : other ≡ why = cc in inl (ap Refused y)
    go (inr x) = inr (ap (λ (y : NoScheme). status_of (Refused y)) x)
refusal_decided ask why (Ran end) o w (came, files, c, r) s n =
    let x : ◌≡◌ {A = Result (List RecordDef) NoScheme} (Ok came) (Err why) = scheme_is ask.scheme came (Err why) o.files files c s in absurd (cc)

-- what was found in the words is what they ask for
pub asked_ends : (found wanted : Asked) (asks : Option Asked) (end : ProgramEnd) (o w : World) → Some found ≡ asks → asks ≡ Some wanted → Ends found end o w → Ends wanted end o w
asked_ends found wanted asks end o w e f h = let same : found ≡ wanted = cc in subst (λ (x : Asked). Ends x end o w) same h

-- an end that is known is reported
pub reported : (end other : ProgramEnd) (status : ℕ) (was now : Option (List ℕ)) (flushed : Bool) (before after : ℕ) → (end ≡ other) ⊎ (status_of end ≡ 5) → Reports end status was now flushed before after → Reports other status was now flushed before after ⊎ (status ≡ 5)
reported end other status was now flushed before after (inl p) r = inl (subst (λ (x : ProgramEnd). Reports x status was now flushed before after) p r)
reported end other status was now flushed before after (inr p) r = inr (r.0 ∙ p)

pub reported_with : {A : Type 0} (end other : ProgramEnd) (status : ℕ) (was now : Option (List ℕ)) (flushed : Bool) (before after : ℕ) → ((end ≡ other) × A) ⊎ (status_of end ≡ 5) → Reports end status was now flushed before after → (Reports other status was now flushed before after × A) ⊎ (status ≡ 5)
reported_with end other status was now flushed before after (inl p) r = inl (subst (λ (x : ProgramEnd). Reports x status was now flushed before after) p.0 r, p.1)
reported_with end other status was now flushed before after (inr p) r = inr (r.0 ∙ p)
