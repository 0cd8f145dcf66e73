-- A run goes from item to item, and ends.
use Rattle.std.proofs.Common.{ℕ, ◌≡◌, ◌<◌, inl, inr, Bool, true, false, Option, Some, None, List, [], ◌∷◌, ◌++◌, length, refl, sym, ◌∙◌, ap, append_assoc, arith}
use Rattle.std.proofs.lemmas.List.{append-nil}
use Rattle.qd_grammar.specs.declared.item.Item.{Item}
use Rattle.qd_grammar.specs.declared.item.Item.TheVariants as items
use Rattle.qd_grammar.specs.declared.item.Mode.{Mode}
use Rattle.qd_grammar.specs.declared.item.Mode.TheVariants.{File}
use Rattle.qd_items.specs.declared.ends.RunEnd.{RunEnd}
use Rattle.qd_items.specs.declared.ends.RunEnd.TheVariants as ends
use Rattle.qd_items.specs.declared.ends.TextEnd.{TextEnd}
use Rattle.qd_items.specs.declared.ends.TextEnd.TheVariants as texts
use Rattle.qd_items.specs.declared.items.NextItem.{NextItem}
use Rattle.qd_items.specs.declared.items.NextItem.TheVariants as nexts
use Rattle.qd_items.specs.Ends.{ComesNext, last_items}
use Rattle.qd_items.specs.Judging.{Numbered, items_of, stop_of}
use Rattle.qd_items.specs.Judging.Stop.{Open}
use Rattle.qd_items.specs.Runs.{run_end}
use Rattle.qd_items.specs.Standing.{Kept, Past, IsTaken, IsRead, nothing, opening}
use Rattle.qd_items.specs.Steps.{Steps, WillRead}
use Rattle.qd_items.proofs.StepLaws.{comes_next, none_yet, opening_read, same_faults, went_on}
use Rattle.qd_outside.specs.Reading.{Took}
use Rattle.qd_outside.specs.Buffering.{Drains, Prints}
use Rattle.qd_outside.specs.Writing.{IsWritten, IsCutShort}
use Rattle.qd_outside.proofs.Streams.{Gained-none, Gained-more, Took-none, cut_more}
use Rattle.qd_scheme.specs.declared.defs.RecordDef.{RecordDef}
use Rattle.qd_calls.proofs.Adding.{grew_none}
use Rattle.qd_calls.proofs.Sizes.{after_few}
use Rattle.qd_path.specs.Groups.{size}
use Rattle.qd_path.specs.Lists.{Lists, AreSound}
use Rattle.qd_path.specs.Made.{Made}
use Rattle.qd_replay.specs.Ends.{Outside, sunk, stop_at, IsCaused, HasEnded, IsEnded, IsRunning, Ends, IsFlushed, Finishes, LastBy}
use Rattle.qd_replay.specs.Running.{AreLegal}
use Rattle.qd_replay.specs.Scripts.{Script, Act, start, after as item_after, script_of, acts_with, acts_of, AreOpen}
use Rattle.qd_replay.specs.Settings.{Books, Setting}
use Rattle.qd_replay.specs.Steps.{Kept as EngineKept, Sunk, IsShown, IsAt, Halts, Hears, Stops, is_write_fault, ToldBy}
use Rattle.qd_replay.proofs.Halts.{shown_cut, shown_more}

-- an open group has fewer than 4096 lines
pub script_few : (xs : List Numbered) → size (script_of xs).place.group < 4096
script_few [] = omega arith
script_few (x ∷ before) = after_few x.item (script_of before).place (script_few before)

-- before anything
pub opens : (set : Setting) (o : Outside) (l : Lists) (k : Kept) (e : EngineKept) → AreSound set.stripes l → k ≡ opening File → e ≡ record { script = start; held = [] } → IsRunning set o l k e l o
opens set o l k e sound i b = record {
  past = nothing;
  read = rw i (opening_read File set.defs o.left);
  mode = rw i refl;
  script = rw b refl;
  are_open = tt;
  at = record {
    made = [];
    out = [];
    ran = (refl, refl);
    grew = grew_none set.stripes l sound;
    shown = record { part = []; gained = Gained-none o.written; whole = rw b refl; same = refl };
  };
  same = refl;
}

-- a run ended at an item
halted_at : (set : Setting) (o w v : Outside) (e f : EngineKept) (l m k : Lists) (end : RunEnd) (last : Numbered) (before : List Numbered) (q : Past) (rest : List ℕ)
    → e.script ≡ script_of before → AreOpen before → IsAt set (sunk o) l (acts_of set.stripes before) m e.held (sunk w)
    → IsTaken q rest → Took o.left v.left q.taken → items_of File set.defs q.lines ≡ last ∷ before → last.line ≡ length q.lines → stop_of File set.defs q.lines ≡ stop_at last → v.reads ≡ o.reads
    → Halts set end e.script last.item last.line (acts_with set.stripes last.item e.script) e.held m (sunk w) f.held k (sunk v) → IsEnded set end o l k f.held v
halted_at set o w v e f l m k end last before q rest script going at bytes took these number stop reads halts =
    let h = halts (sunk o) l (acts_of set.stripes before) at in
    let acts = rw script at h.acts_are in
    let cause = rw script at h.cause in (
      record {
        past = q;
        rest = rest;
        done = acts_of set.stripes before ++ h.now;
        later = h.later;
        made = h.made;
        refused = h.refused;
        out = h.out;
        begun = record {
          bytes = bytes;
          took = took;
          acts = ap (acts_of set.stripes) these ∙ ap (λ (x : List Act). acts_of set.stripes before ++ x) acts ∙ sym (append_assoc (acts_of set.stripes before) h.now h.later);
          ran = h.ran;
        };
        cause = inl (record {
          last = last;
          before = before;
          now = h.now;
          items_are = these;
          newest = number;
          are_open = going;
          done_is = refl;
          stop_is = stop;
          cause = cause;
          reads = reads;
        });
        told = h.told;
      },
      h.grew,
    )

-- the next item is heard, and the script goes on
pub item_went : (set : Setting) (o : Outside) (l m z : Lists) (k new : Kept) (e f : EngineKept) (item : Item) (was now : Option (List ℕ)) (before after : ℕ) (written next : Option (List ℕ)) (writes faults : ℕ)
    → (run : IsRunning set o l k e m (record { left = was; reads = before; written = written; writes = writes }))
    → new.mode ≡ k.mode
    → ((from : Option (List ℕ)) (p : Past) → IsRead set.defs from k p was → ComesNext set.defs from p (nexts.Item item) new now before after)
    → Hears set item new.lines None e m (record { written = written; faults = writes }) f z (record { written = next; faults = faults })
    → IsRunning set o l new f z (record { left = now; reads = after; written = next; writes = faults })
item_went set o l m z k new e f item was now before after written next writes faults run mode comes h =
    let n = comes o.left run.past run.read in
    let file : new.mode ≡ File = mode ∙ run.mode in
    let these : items_of File set.defs n.0.lines ≡ record { line = new.lines; item = item } ∷ items_of File set.defs run.past.lines = rw file at n.3 in
    let at = rw run.script at (h.2 (sunk o) l (acts_of set.stripes (items_of File set.defs run.past.lines)) run.at) in
    record {
      past = n.0;
      read = n.1;
      mode = file;
      script = h.0 ∙ ap (λ (x : Script). item_after item x) run.script ∙ sym (ap script_of these);
      are_open = rw these (h.1, run.are_open);
      at = rw these at;
      same = n.5 ∙ run.same;
    }

-- the next item is heard, and ends the run
pub item_halted : (set : Setting) (o : Outside) (l m z : Lists) (k new : Kept) (e f : EngineKept) (item : Item) (end : RunEnd) (was now : Option (List ℕ)) (before after : ℕ) (written next : Option (List ℕ)) (writes faults : ℕ)
    → (run : IsRunning set o l k e m (record { left = was; reads = before; written = written; writes = writes }))
    → new.mode ≡ k.mode
    → ((from : Option (List ℕ)) (p : Past) → IsRead set.defs from k p was → ComesNext set.defs from p (nexts.Item item) new now before after)
    → Halts set end e.script item new.lines (acts_with set.stripes item e.script) e.held m (record { written = written; faults = writes }) f.held z (record { written = next; faults = faults })
    → IsEnded set end o l z f.held (record { left = now; reads = after; written = next; writes = faults })
item_halted set o l m z k new e f item end was now before after written next writes faults run mode comes h =
    let n = comes o.left run.past run.read in
    let file : new.mode ≡ File = mode ∙ run.mode in
    let these : items_of File set.defs n.0.lines ≡ record { line = new.lines; item = item } ∷ items_of File set.defs run.past.lines = rw file at n.3 in
    let none : stop_of File set.defs n.0.lines ≡ Open = rw file at n.1.stands.is_open in
    let stop : stop_at (record { line = new.lines; item = item }) ≡ Open = rw n.4 refl in
    halted_at set o (record { left = was; reads = before; written = written; writes = writes }) (record { left = now; reads = after; written = next; writes = faults }) e f l m z end
    (record { line = new.lines; item = item }) (items_of File set.defs run.past.lines) n.0 new.left run.script run.are_open run.at n.1.stands.bytes n.1.took these n.1.stands.count (none ∙ sym stop) (n.5 ∙ run.same) h

-- no end of a text is a fault of writing
no_write_fault : (end : TextEnd) → is_write_fault (run_end end) ≡ false
no_write_fault texts.End = refl
no_write_fault (texts.CutOff n) = refl
no_write_fault (texts.Bad b) = refl
no_write_fault (texts.LineTooLong n) = refl
no_write_fault texts.TooMuch = refl
no_write_fault texts.ReadFault = refl
no_write_fault texts.NoMemory = refl

-- the text ended before END
early_end : (set : Setting) (o : Outside) (l m : Lists) (k new : Kept) (e : EngineKept) (end : TextEnd) (was now : Option (List ℕ)) (before after : ℕ) (written : Option (List ℕ)) (writes : ℕ)
    → (run : IsRunning set o l k e m (record { left = was; reads = before; written = written; writes = writes }))
    → new.mode ≡ k.mode
    → ((from : Option (List ℕ)) (p : Past) → IsRead set.defs from k p was → ComesNext set.defs from p (nexts.Ended end) new now before after)
    → (end ≡ texts.End → ⊥) → ((line : ℕ) (ns : List Numbered) → last_items end line ns ≡ ns)
    → IsEnded set (run_end end) o l m e.held (record { left = now; reads = after; written = written; writes = writes })
early_end set o l m k new e end was now before after written writes run mode comes early none =
    let n = comes o.left run.past run.read in
    let file : new.mode ≡ File = mode ∙ run.mode in
    let here = rw file at n.2 in
    let these : items_of File set.defs n.0.lines ≡ items_of File set.defs run.past.lines = (rw file at n.4) ∙ none (length n.0.lines) (items_of File set.defs run.past.lines) in
    let cause = rw run.same at here.cause in (
      record {
        past = n.0;
        rest = n.1;
        done = acts_of set.stripes (items_of File set.defs run.past.lines);
        later = [];
        made = run.at.made;
        refused = [];
        out = run.at.out;
        begun = record { bytes = here.bytes; took = here.took; acts = ap (acts_of set.stripes) these ∙ sym (append-nil (acts_of set.stripes (items_of File set.defs run.past.lines))); ran = run.at.ran };
        cause = inr (inl (record { text_end = end; end_is = refl; early = early; are_open = rw these run.are_open; all_done = (refl, refl); cause = cause }));
        told = rw (no_write_fault end) run.at.shown;
      },
      rw (append-nil run.at.made) run.at.grew,
    )

-- the text ended before END, and so did the run
lasted_early : (set : Setting) (o : Outside) (l m z : Lists) (k new : Kept) (e f : EngineKept) (end : TextEnd) (result : RunEnd) (was now : Option (List ℕ)) (before after : ℕ) (written next : Option (List ℕ)) (writes faults : ℕ)
    → (run : IsRunning set o l k e m (record { left = was; reads = before; written = written; writes = writes }))
    → new.mode ≡ k.mode
    → ((from : Option (List ℕ)) (p : Past) → IsRead set.defs from k p was → ComesNext set.defs from p (nexts.Ended end) new now before after)
    → (end ≡ texts.End → ⊥) → ((line : ℕ) (ns : List Numbered) → last_items end line ns ≡ ns)
    → (result ≡ run_end end) × (f.held ≡ e.held) × (z ≡ m) × (◌≡◌ {A = Sunk} (record { written = next; faults = faults }) (record { written = written; faults = writes }))
    → IsEnded set result o l z f.held (record { left = now; reads = after; written = next; writes = faults })
lasted_early set o l m z k new e f end result was now before after written next writes faults run mode comes early none h =
    let same : Sunk = record { written = written; faults = writes } in
    let there : next ≡ written = ap (λ (x : Sunk). x.written) h.3 in
    let count : faults ≡ writes = ap (λ (x : Sunk). x.faults) h.3 in
    rw (h.0, h.1, h.2, there, count) (early_end set o l m k new e end was now before after written writes run mode comes early none)

-- the text ended, and so does the run
pub lasted : (set : Setting) (o : Outside) (l m z : Lists) (k new : Kept) (e f : EngineKept) (end : TextEnd) (result : RunEnd) (was now : Option (List ℕ)) (before after : ℕ) (written next : Option (List ℕ)) (writes faults : ℕ)
    → (run : IsRunning set o l k e m (record { left = was; reads = before; written = written; writes = writes }))
    → new.mode ≡ k.mode
    → ((from : Option (List ℕ)) (p : Past) → IsRead set.defs from k p was → ComesNext set.defs from p (nexts.Ended end) new now before after)
    → LastBy set end new.lines result e m (record { written = written; faults = writes }) f z (record { written = next; faults = faults })
    → IsEnded set result o l z f.held (record { left = now; reads = after; written = next; writes = faults })
lasted set o l m z k new e f texts.End result was now before after written next writes faults run mode comes h =
    let n = comes o.left run.past run.read in
    let file : new.mode ≡ File = mode ∙ run.mode in
    let here = rw file at n.2 in
    let number : new.lines ≡ length n.0.lines = n.5 in
    let these : items_of File set.defs n.0.lines ≡ record { line = length n.0.lines; item = items.End } ∷ items_of File set.defs run.past.lines = rw file at n.4 in
    halted_at set o (record { left = was; reads = before; written = written; writes = writes }) (record { left = now; reads = after; written = next; writes = faults }) e f l m z result
    (record { line = new.lines; item = items.End }) (items_of File set.defs run.past.lines) n.0 n.1 run.script run.are_open run.at here.bytes here.took (rw number these) number (rw number here.cause.0) (here.cause.1 ∙ run.same) h
lasted set o l m z k new e f (texts.CutOff x) result was now before after written next writes faults run mode comes h = lasted_early set o l m z k new e f (texts.CutOff x) result was now before after written next writes faults run mode comes (λ q. cc) (λ line ns. refl) h
lasted set o l m z k new e f (texts.Bad x) result was now before after written next writes faults run mode comes h = lasted_early set o l m z k new e f (texts.Bad x) result was now before after written next writes faults run mode comes (λ q. cc) (λ line ns. refl) h
lasted set o l m z k new e f (texts.LineTooLong x) result was now before after written next writes faults run mode comes h = lasted_early set o l m z k new e f (texts.LineTooLong x) result was now before after written next writes faults run mode comes (λ q. cc) (λ line ns. refl) h
lasted set o l m z k new e f texts.TooMuch result was now before after written next writes faults run mode comes h = lasted_early set o l m z k new e f texts.TooMuch result was now before after written next writes faults run mode comes (λ q. cc) (λ line ns. refl) h
lasted set o l m z k new e f texts.ReadFault result was now before after written next writes faults run mode comes h = lasted_early set o l m z k new e f texts.ReadFault result was now before after written next writes faults run mode comes (λ q. cc) (λ line ns. refl) h
lasted set o l m z k new e f texts.NoMemory result was now before after written next writes faults run mode comes h = lasted_early set o l m z k new e f texts.NoMemory result was now before after written next writes faults run mode comes (λ q. cc) (λ line ns. refl) h

-- nothing was begun for want of memory
not_begun : (set : Setting) (o : Outside) → HasEnded set ends.NoMemory o [] o
not_begun set o = record {
  past = nothing;
  rest = [];
  done = [];
  later = [];
  made = [];
  refused = [];
  out = [];
  begun = record { bytes = (opening_read File set.defs o.left).stands.bytes; took = Took-none o.left; acts = refl; ran = (refl, refl) };
  cause = inr (inl (record { text_end = texts.NoMemory; end_is = refl; early = λ q. cc; are_open = tt; all_done = (refl, refl); cause = (refl, refl, refl) }));
  told = record { part = []; gained = Gained-none o.written; whole = refl; same = refl };
}

-- nothing is let go
pub nothing_let_go : (held : List ℕ) (was : Option (List ℕ)) (before : ℕ) → Prints true [] held held was was before before
nothing_let_go held was before = ([], append-nil held, record { gained = Gained-none was; same = refl })

-- all that was held back is written, or a write failed
pub drained : (b : Bool) (old new : List ℕ) (was now : Option (List ℕ)) (flushed : Bool) (before after : ℕ) → Drains b old new was now flushed before after → Prints b [] old new was now before after
drained true old new was now flushed before after d = (old, ap (λ (l : List ℕ). old ++ l) (sym d.0), d.1)
drained false old new was now flushed before after c = cut_more old [] was now before after c

-- a step of the reader tells what a call that goes on to an item or the end tells
pub told_step : (defs : List RecordDef) (k new : Kept) (was now : Option (List ℕ)) (before after : ℕ) (next : NextItem) → new.mode ≡ k.mode → Steps defs k (Some next) new was now before after
    → (from : Option (List ℕ)) (p : Past) → IsRead defs from k p was → ComesNext defs from p next new now before after
told_step defs k new was now before after next mode s = λ from p r. comes_next defs from p k new was now before after next mode (none_yet defs from p k was r) s

-- what is alike in a mode that is that of a file is alike in a file
file_alike : (mode : Mode) (defs : List RecordDef) (a b : List (List ℕ)) → mode ≡ File → items_of mode defs a ≡ items_of mode defs b → items_of File defs a ≡ items_of File defs b
file_alike mode defs a b file alike = rw file at alike

-- a step that gives nothing to hear
pub step_went : (set : Setting) (o : Outside) (l m : Lists) (k new : Kept) (e : EngineKept) (was now : Option (List ℕ)) (before after : ℕ) (written : Option (List ℕ)) (writes : ℕ)
    → IsRunning set o l k e m (record { left = was; reads = before; written = written; writes = writes }) → new.mode ≡ k.mode → Steps set.defs k None new was now before after
    → IsRunning set o l new e m (record { left = now; reads = after; written = written; writes = writes })
step_went set o l m k new e was now before after written writes run mode step =
    let n = went_on set.defs o.left run.past k new was now before after (none_yet set.defs o.left run.past k was run.read) step in
    let file : new.mode ≡ File = mode ∙ run.mode in
    let these : items_of File set.defs n.past.lines ≡ items_of File set.defs run.past.lines = file_alike new.mode set.defs n.past.lines run.past.lines file n.same in
    record {
      past = n.past;
      read = n.read;
      mode = file;
      script = run.script ∙ sym (ap script_of these);
      are_open = rw these run.are_open;
      at = rw these run.at;
      same = same_faults set.defs k new was now before after step ∙ run.same;
    }

-- what was held back is written before a read
pub let_went : (set : Setting) (o : Outside) (l m : Lists) (k j : Kept) (e f : EngineKept) (left : Option (List ℕ)) (reads : ℕ) (was now : Option (List ℕ)) (before after : ℕ)
    → IsRunning set o l k e m (record { left = left; reads = reads; written = was; writes = before }) → j ≡ k → f.script ≡ e.script → Prints true [] e.held f.held was now before after
    → IsRunning set o l j f m (record { left = left; reads = reads; written = now; writes = after })
let_went set o l m k j e f left reads was now before after run same script p = rw same (record {
  past = run.past;
  read = run.read;
  mode = run.mode;
  script = script ∙ run.script;
  are_open = run.are_open;
  at = record {
    made = run.at.made;
    out = run.at.out;
    ran = run.at.ran;
    grew = run.at.grew;
    shown = rw (append-nil run.at.out) at (shown_more (sunk o) (record { written = was; faults = before }) (record { written = now; faults = after }) run.at.out e.held [] f.held run.at.shown p);
  };
  same = run.same;
})

-- or a write of it failed, and the run ended
pub let_short : (set : Setting) (o : Outside) (l m : Lists) (k : Kept) (e f : EngineKept) (left : Option (List ℕ)) (reads : ℕ) (was now : Option (List ℕ)) (before after : ℕ)
    → IsRunning set o l k e m (record { left = left; reads = reads; written = was; writes = before }) → WillRead k → Prints false [] e.held f.held was now before after
    → IsEnded set ends.WriteFault o l m f.held (record { left = left; reads = reads; written = now; writes = after })
let_short set o l m k e f left reads was now before after run hungry p =
    let cut = rw (append-nil run.at.out) at (shown_cut (sunk o) (record { written = was; faults = before }) (record { written = now; faults = after }) run.at.out e.held [] run.at.shown p) in
    let none : stop_of File set.defs run.past.lines ≡ Open = rw run.mode at run.read.stands.is_open in (
      record {
        past = run.past;
        rest = k.left;
        done = acts_of set.stripes (items_of File set.defs run.past.lines);
        later = [];
        made = run.at.made;
        refused = [];
        out = run.at.out;
        begun = record { bytes = run.read.stands.bytes; took = run.read.took; acts = sym (append-nil (acts_of set.stripes (items_of File set.defs run.past.lines))); ran = run.at.ran };
        cause = inr (inr (record { end_is = refl; are_open = run.are_open; unended = (none, hungry.hungry); all_done = (refl, refl); rose = cut.rose; reads = run.same }));
        told = cut;
      },
      rw (append-nil run.at.made) run.at.grew,
    )

is_fault : (end : RunEnd) → is_write_fault end ≡ true → end ≡ ends.WriteFault
is_fault ends.WriteFault h = refl
is_fault ends.Done h = absurd (cc)
is_fault (ends.CutOff n) h = absurd (cc)
is_fault (ends.Bad b) h = absurd (cc)
is_fault (ends.LineTooLong n) h = absurd (cc)
is_fault (ends.BadStep n) h = absurd (cc)
is_fault (ends.Refused n limit) h = absurd (cc)
is_fault ends.TooMuch h = absurd (cc)
is_fault ends.ReadFault h = absurd (cc)
is_fault ends.Spent h = absurd (cc)
is_fault ends.NoMemory h = absurd (cc)

-- the cause of an end that is no fault of writing does not speak of the writes
other_stop : (end : RunEnd) (s : Script) (item : Item) (line : ℕ) (later : List Act) (refused : List Made) (before after now : ℕ)
    → is_write_fault end ≡ false → Stops end s item line later refused before after → Stops end s item line later refused before now
other_stop ends.WriteFault s item line later refused before after now h c = absurd (cc)
other_stop ends.Done s item line later refused before after now h c = c
other_stop (ends.CutOff n) s item line later refused before after now h c = c
other_stop (ends.Bad b) s item line later refused before after now h c = c
other_stop (ends.LineTooLong n) s item line later refused before after now h c = c
other_stop (ends.BadStep n) s item line later refused before after now h c = c
other_stop (ends.Refused n limit) s item line later refused before after now h c = c
other_stop ends.TooMuch s item line later refused before after now h c = c
other_stop ends.ReadFault s item line later refused before after now h c = c
other_stop ends.Spent s item line later refused before after now h c = c
other_stop ends.NoMemory s item line later refused before after now h c = c

-- what the outside tells once more was written
abbrev pub later_on : Outside → Option (List ℕ) → ℕ → Outside
later_on w now after = record { left = w.left; reads = w.reads; written = now; writes = after }

other_cause : (end : RunEnd) (set : Setting) (p : Past) (rest : List ℕ) (done later : List Act) (refused : List Made) (o w : Outside) (now : Option (List ℕ)) (after : ℕ)
    → is_write_fault end ≡ false → IsCaused end set p rest done later refused o w → IsCaused end set p rest done later refused o (later_on w now after)
other_cause end set p rest done later refused o w now after h (inl i) = inl (record {
  last = i.last;
  before = i.before;
  now = i.now;
  items_are = i.items_are;
  newest = i.newest;
  are_open = i.are_open;
  done_is = i.done_is;
  stop_is = i.stop_is;
  cause = other_stop end (script_of i.before) i.last.item i.last.line later refused o.writes w.writes after h i.cause;
  reads = i.reads;
})
other_cause end set p rest done later refused o w now after h (inr (inl t)) = inr (inl (record { text_end = t.text_end; end_is = t.end_is; early = t.early; are_open = t.are_open; all_done = t.all_done; cause = t.cause }))
other_cause end set p rest done later refused o w now after h (inr (inr t)) = let fault : true ≡ false = ap is_write_fault (sym t.end_is) ∙ h in absurd (cc)

-- all that was shown is written
all_written : (o w : Sunk) (out held : List ℕ) (now : Option (List ℕ)) (after : ℕ) → IsShown o w out held → IsWritten held w.written now w.faults after → IsWritten out o.written now o.faults after
all_written o w out held now after s d = record { gained = rw s.whole (Gained-more o.written w.written now s.part held s.gained d.gained); same = d.same ∙ s.same }

all_cut : (o w : Sunk) (out held : List ℕ) (now : Option (List ℕ)) (after : ℕ) → IsShown o w out held → IsCutShort held w.written now w.faults after → IsCutShort out o.written now o.faults after
all_cut o w out held now after s c =
    let longer : IsCutShort (held ++ []) w.written now w.faults after = rw (append-nil held) c in
    let cut = shown_cut o w (record { written = now; faults = after }) out held [] s longer in
    rw (append-nil out) at cut

-- what is told of an end, as the end is a fault of writing or not
told_cut : (end : RunEnd) (o w : Sunk) (out held : List ℕ) → is_write_fault end ≡ true → ToldBy (is_write_fault end) o w out held → IsCutShort out o.written w.written o.faults w.faults
told_cut end o w out held h t = let x = rw h at t in x

told_shown : (end : RunEnd) (o w : Sunk) (out held : List ℕ) → is_write_fault end ≡ false → ToldBy (is_write_fault end) o w out held → IsShown o w out held
told_shown end o w out held h t = let x = rw h at t in x

flushed_so : (end : RunEnd) (flushed : Bool) → flushed ≡ true → IsFlushed end flushed
flushed_so ends.WriteFault flushed h = tt
flushed_so ends.Done flushed h = h
flushed_so (ends.CutOff n) flushed h = h
flushed_so (ends.Bad b) flushed h = h
flushed_so (ends.LineTooLong n) flushed h = h
flushed_so (ends.BadStep n) flushed h = h
flushed_so (ends.Refused n limit) flushed h = h
flushed_so ends.TooMuch flushed h = h
flushed_so ends.ReadFault flushed h = h
flushed_so ends.Spent flushed h = h
flushed_so ends.NoMemory flushed h = h

-- the sink is flushed at the end
pub flushed_at : (end last : RunEnd) (held : List ℕ) (was now : Option (List ℕ)) (flushed : Bool) (before after : ℕ) → Finishes end last held was now flushed before after → IsFlushed last flushed
flushed_at end last held was now flushed before after (inl f) = rw (f.1 ∙ is_fault end f.0) tt
flushed_at end last held was now flushed before after (inr (inl f)) = flushed_so last flushed f.2
flushed_at end last held was now flushed before after (inr (inr f)) = rw f.1 tt

-- what was run is over: how it ended, and that the sink is flushed
pub record IsOver (set : Setting) (books : Books) (calls : List Made) (last : RunEnd) (o w : Outside) (flushed : Bool) : Type 0 where
  pub ends : Ends set books calls last o w
  pub is_flushed : IsFlushed last flushed

module _ (set : Setting) (books : Books) (calls : List Made) (end last : RunEnd) (o w : Outside) (held : List ℕ) (now : Option (List ℕ)) (flushed : Bool) (after : ℕ) (e : HasEnded set end o held w)
    (these : calls ≡ e.made ++ e.refused) (legal : AreLegal set.stripes books calls) where
  over_fault : is_write_fault end ≡ true → last ≡ end → now ≡ w.written → after ≡ w.writes → IsOver set books calls last o (later_on w now after) flushed
  over_fault f l n a =
      let fault : last ≡ ends.WriteFault = l ∙ is_fault end f in
      let cut = told_cut end (sunk o) (sunk w) e.out held f e.told in
      rw (n, a) (record {
        ends = record {
          reached = end;
          past = e.past;
          rest = e.rest;
          done = e.done;
          later = e.later;
          made = e.made;
          refused = e.refused;
          out = e.out;
          calls_are = these;
          begun = record { bytes = e.begun.bytes; took = e.begun.took; acts = e.begun.acts; ran = e.begun.ran };
          legal = legal;
          cause = e.cause;
          last = inl l;
          wrote = inr (fault, cut);
        };
        is_flushed = rw fault tt;
      })

  over_drained : is_write_fault end ≡ false → last ≡ end → flushed ≡ true → IsWritten held w.written now w.writes after → IsOver set books calls last o (later_on w now after) flushed
  over_drained f l fl d = record {
    ends = record {
      reached = end;
      past = e.past;
      rest = e.rest;
      done = e.done;
      later = e.later;
      made = e.made;
      refused = e.refused;
      out = e.out;
      calls_are = these;
      begun = record { bytes = e.begun.bytes; took = e.begun.took; acts = e.begun.acts; ran = e.begun.ran };
      legal = legal;
      cause = other_cause end set e.past e.rest e.done e.later e.refused o w now after f e.cause;
      last = inl l;
      wrote = inl (all_written (sunk o) (sunk w) e.out held now after (told_shown end (sunk o) (sunk w) e.out held f e.told) d);
    };
    is_flushed = flushed_so last flushed fl;
  }

  over_cut : is_write_fault end ≡ false → last ≡ ends.WriteFault → IsCutShort held w.written now w.writes after → IsOver set books calls last o (later_on w now after) flushed
  over_cut f l c =
      let cut = all_cut (sunk o) (sunk w) e.out held now after (told_shown end (sunk o) (sunk w) e.out held f e.told) c in
      record {
        ends = record {
          reached = end;
          past = e.past;
          rest = e.rest;
          done = e.done;
          later = e.later;
          made = e.made;
          refused = e.refused;
          out = e.out;
          calls_are = these;
          begun = record { bytes = e.begun.bytes; took = e.begun.took; acts = e.begun.acts; ran = e.begun.ran };
          legal = legal;
          cause = other_cause end set e.past e.rest e.done e.later e.refused o w now after f e.cause;
          last = inr (l, cut.rose);
          wrote = inr (l, cut);
        };
        is_flushed = rw l tt;
      }

  pub over : Finishes end last held w.written now flushed w.writes after → IsOver set books calls last o (later_on w now after) flushed
  over (inl f) = over_fault f.0 f.1 f.2 f.3
  over (inr (inl f)) = over_drained f.0 f.1 f.2 f.3
  over (inr (inr f)) = over_cut f.0 f.1 f.2

-- no call is a legal log
legal_none : (n : ℕ) (books : Books) → AreLegal n books []
legal_none n books = record { on_ticker = λ i w. tt; on_stream = λ i w. tt; on_history = λ i w. tt }

-- a run that was not begun for want of memory
pub never_begun : (set : Setting) (books : Books) (last : RunEnd) (o : Outside) (now : Option (List ℕ)) (flushed : Bool) (after : ℕ)
    → Finishes ends.NoMemory last [] o.written now flushed o.writes after → IsOver set books [] last o (later_on o now after) flushed
unfolding not_begun
never_begun set books last o now flushed after f = over set books [] ends.NoMemory last o o [] now flushed after (not_begun set o) refl (legal_none set.stripes books) f
