-- How a dump ends.
use Rattle.std.proofs.Common.{ℕ, ◌≡◌, ◌+◌, ◌<◌, ◌≤◌, Bool, true, false, Option, Some, None, List, [], ◌∷◌, ◌++◌, length, refl, sym, ◌∙◌, ap, subst, arith, inl, inr}
use Rattle.std.proofs.lemmas.Bool.Decides.{nat_tests}
use Rattle.std.proofs.lemmas.List.{append-nil}
use Rattle.std.specs.Prelude.{◌⊎◌, ◌||◌, if◌then◌else◌, nat_eq}
use Rattle.qd_check.specs.Runs.{Outside}
use Rattle.qd_grammar.specs.declared.item.Item.{Item}
use Rattle.qd_grammar.specs.declared.item.Item.TheVariants as items
use Rattle.qd_grammar.specs.declared.item.Message.{Message}
use Rattle.qd_items.specs.declared.ends.TextEnd.TheVariants as texts
use Rattle.qd_items.specs.Judging.{Numbered, is_end}
use Rattle.qd_items.specs.Standing.{Past, nothing}
use Rattle.qd_outside.specs.Causes.{Rose}
use Rattle.qd_outside.specs.Writing.{Gained, IsCutShort, IsWritten}
use Rattle.qd_outside.proofs.Streams.{Gained-none, cut_after, cut_more, written_after}
use Rattle.qd_path.specs.Texts.{ReplyItem, line_of}
use Rattle.qd_scheme.specs.declared.defs.RecordDef.{RecordDef}
use Rattle.qd_client.specs.declared.ends.DumpEnd.{DumpEnd}
use Rattle.qd_client.specs.declared.ends.DumpEnd.TheVariants.{Done, CutOff, Bad, LineTooLong, TooMuch, LinkFault, WriteFault, NoMemory}
use Rattle.qd_client.specs.declared.ends.Halt.{Halt}
use Rattle.qd_client.specs.declared.ends.Halt.TheVariants as halts
use Rattle.qd_client.specs.Asking.{asked}
use Rattle.qd_client.specs.Dumps.{AreFirstParts, AreFlushed, Ask, Dumps, HasCause, IsDecided, IsSent, IsShown, Leaving, World, dump_end, sent_at}
use Rattle.qd_client.specs.Reading.{HaltedBy, HasMemory, IsBroken, IsWhole, items_in}
use Rattle.qd_client.specs.Rules.{Rule, dump_rule, ends_with, given_of, given_with, is_given, is_over, message_of, printed, until_over}
use Rattle.qd_client.proofs.PostLaws.{through_none}
use Rattle.qd_client.proofs.TextLaws.{decided, first_part}

-- END is no item that a collector gives
end_not_given : (item : Item) → is_end item ≡ true → is_given item ≡ false
end_not_given items.End e = refl
end_not_given items.Protocol e = refl
end_not_given (items.Head m) e = refl
end_not_given (items.Describe n) e = refl
end_not_given (items.Rec r) e = absurd (cc)
end_not_given (items.Ev v) e = absurd (cc)
end_not_given (items.Sub k) e = refl
end_not_given (items.HistSub s) e = refl
end_not_given (items.Lost k n) e = absurd (cc)
end_not_given items.Heartbeat e = refl
end_not_given (items.Time n) e = refl
end_not_given (items.Link n) e = refl
end_not_given (items.Take c n) e = refl
end_not_given (items.Node n m) e = refl
end_not_given (items.At n m) e = refl
end_not_given (items.Pump n) e = refl
end_not_given (items.Move n way b) e = refl

not_given : (message : Option Message) (item : Item) (before : List ReplyItem) → is_given item ≡ false → given_with message item before ≡ before
not_given None item before e = refl
not_given (Some message) item before e = rw e refl

-- an item adds one at most
given_few : (message : Option Message) (item : Item) (before : List ReplyItem) → length (given_with message item before) ≤ length before + 1
given_few None item before = omega arith
given_few (Some message) item before = go (is_given item)
  where
    go : (b : Bool) → length (if b then record { message = message; item = item } ∷ before else before) ≤ length before + 1
    go true = omega arith
    go false = omega arith

-- while the dump goes on, fewer items came than were asked for
given_less : (count : ℕ) (items : List Numbered) → 0 < count → is_over (dump_rule count) items ≡ false → length (given_of items) < count
given_less count [] some e = some
given_less count (n ∷ before) some e = go (is_over (dump_rule count) before) refl (given_less count before some)
  where
    one : (b : Bool) → is_end n.item ≡ b → length (given_of before) < count → (if b then false else nat_eq (length (given_with (message_of before) n.item (given_of before))) count) ≡ false
        → length (given_with (message_of before) n.item (given_of before)) < count
    one true f less h = rw (not_given (message_of before) n.item (given_of before) (end_not_given n.item f)) less
    one false f less h = let few = given_few (message_of before) n.item (given_of before) in grind (arith, nat_tests)

    go : (b : Bool) → is_over (dump_rule count) before ≡ b → (is_over (dump_rule count) before ≡ false → length (given_of before) < count) → length (given_of (n ∷ before)) < count
    go true f less = let s : (true || ends_with (dump_rule count) before n.item) ≡ false = rw f at e in absurd (cc)
    go false f less = one (is_end n.item) refl (less f) (rw f at e)

until_short : (rule : Rule) (items : List Numbered) → length (until_over rule items) ≤ length items
until_short rule [] = omega arith
until_short rule (n ∷ before) = go (is_over rule before) (until_short rule before)
  where
    go : (b : Bool) → length (until_over rule before) ≤ length before → length (if b then until_over rule before else n ∷ before) ≤ length (n ∷ before)
    go true r = omega (arith, r)
    go false r = omega arith

-- where the newest item ends the dump, as many came as were asked for
given_exact : (count : ℕ) (items : List Numbered) → is_over (dump_rule count) items ≡ true → until_over (dump_rule count) items ≡ items → length (given_of items) ≡ count
given_exact count [] e first = absurd (cc)
given_exact count (n ∷ before) e first = go (is_over (dump_rule count) before) refl
  where
    one : (b : Bool) → (if b then false else nat_eq (length (given_with (message_of before) n.item (given_of before))) count) ≡ true → length (given_with (message_of before) n.item (given_of before)) ≡ count
    one true h = absurd (cc)
    one false h = grind (arith, nat_tests)

    go : (b : Bool) → is_over (dump_rule count) before ≡ b → length (given_of (n ∷ before)) ≡ count
    go true f =
        let same : until_over (dump_rule count) before ≡ n ∷ before = rw f at first in
        let size = ap (λ (l : List Numbered). length l) same in
        let short = until_short (dump_rule count) before in
        absurd (omega (arith, size, short))
    go false f = one (is_end n.item) (rw f at e)

-- what is told of the connection's text and of what is written
abbrev pub text_of : World → Outside
text_of o = record { left = o.left; reads = o.reads; written = o.written; writes = o.writes }

-- the end of a dump in a past
record IsAt (defs : List RecordDef) (ask : Ask) (o : World) (end : DumpEnd) (past : Past) (rest : List ℕ) (sink out : Bool) (w : World) : Type 0 where
  cause : HasCause end defs ask.count past rest o w
  sent : IsSent end defs ask o w
  shown : IsShown end (printed (dump_rule ask.count) defs (items_in (dump_rule ask.count) defs past)) o w
  flushed : AreFlushed end sink out

-- what was sent, and what is told of END
abbrev Said : List RecordDef → Ask → World → Option (List ℕ) → ℕ → Type 0
Said defs ask o mid between = IsWritten (asked defs ask.collector ask.wants) o.sent mid o.sends between

-- the dump is done, but for END
done_at : (defs : List RecordDef) (ask : Ask) (o w : World) (end : DumpEnd) (past : Past) (rest : List ℕ) (mid : Option (List ℕ)) (between : ℕ) (before_flush sink out : Bool)
    → HasCause Done defs ask.count past rest o w → IsWritten (printed (dump_rule ask.count) defs (items_in (dump_rule ask.count) defs past)) o.written w.written o.writes w.writes → out ≡ true
    → Said defs ask o mid between → Leaving Done defs end mid w.sent before_flush sink between w.sends → IsAt defs ask o end past rest sink out w
done_at defs ask o w Done past rest mid between before_flush sink out cause shown flushed s l = record {
  cause = cause;
  sent = written_after (asked defs ask.collector ask.wants) (line_of defs items.End) o.sent mid w.sent o.sends between w.sends s l.0;
  shown = shown;
  flushed = (l.1, flushed);
}
done_at defs ask o w LinkFault past rest mid between before_flush sink out cause shown flushed s l =
    let c = cut_after (asked defs ask.collector ask.wants) (line_of defs items.End) o.sent mid w.sent o.sends between w.sends s l in
    record { cause = inr c.rose; sent = inr (cause.1, c); shown = shown; flushed = tt }
done_at defs ask o w (CutOff line) past rest mid between before_flush sink out cause shown flushed s l = absurd l
done_at defs ask o w (Bad bad) past rest mid between before_flush sink out cause shown flushed s l = absurd l
done_at defs ask o w (LineTooLong line) past rest mid between before_flush sink out cause shown flushed s l = absurd l
done_at defs ask o w TooMuch past rest mid between before_flush sink out cause shown flushed s l = absurd l
done_at defs ask o w WriteFault past rest mid between before_flush sink out cause shown flushed s l = absurd l
done_at defs ask o w NoMemory past rest mid between before_flush sink out cause shown flushed s l = absurd l

-- nothing more is sent
still_sent : (text : List ℕ) (was mid now : Option (List ℕ)) (before between after : ℕ) → IsWritten text was mid before between → now ≡ mid → after ≡ between → IsWritten text was now before after
still_sent text was mid now before between after s e f = rw (e, f) s

-- a dump halted and was left
at_end : (defs : List RecordDef) (ask : Ask) (o w : World) (halt : Halt) (end : DumpEnd) (past : Past) (rest : List ℕ) (mid : Option (List ℕ)) (between : ℕ) (before_flush sink out : Bool) → 0 < ask.count
    → until_over (dump_rule ask.count) (items_in (dump_rule ask.count) defs past) ≡ items_in (dump_rule ask.count) defs past
    → HaltedBy halt (dump_rule ask.count) defs past rest w.left o.reads w.reads → HasMemory halt
    → IsWritten (printed (dump_rule ask.count) defs (items_in (dump_rule ask.count) defs past)) o.written w.written o.writes w.writes → out ≡ true
    → Said defs ask o mid between → before_flush ≡ true → Leaving (dump_end halt) defs end mid w.sent before_flush sink between w.sends → IsAt defs ask o end past rest sink out w
at_end defs ask o w (halts.Item line) end past rest mid between before_flush sink out some first halted memory shown flushed s f l =
    done_at defs ask o w end past rest mid between before_flush sink out (inl (given_exact ask.count (items_in (dump_rule ask.count) defs past) halted.0 first), halted.4) shown flushed s l
at_end defs ask o w (halts.Text texts.End) end past rest mid between before_flush sink out some first halted memory shown flushed s f l =
    done_at defs ask o w end past rest mid between before_flush sink out (inr (halted.1.0, given_less ask.count (items_in (dump_rule ask.count) defs past) some halted.0), halted.1.1) shown flushed s l
at_end defs ask o w (halts.Text (texts.CutOff line)) end past rest mid between before_flush sink out some first halted memory shown flushed s f (e, now, g, after) =
    subst (λ (x : DumpEnd). IsAt defs ask o x past rest sink out w) (sym e) (record {
      cause = (halted.1.0, given_less ask.count (items_in (dump_rule ask.count) defs past) some halted.0, halted.1.1);
      sent = still_sent (asked defs ask.collector ask.wants) o.sent mid w.sent o.sends between w.sends s now after;
      shown = shown;
      flushed = (g ∙ f, flushed);
    })
at_end defs ask o w (halts.Text (texts.Bad bad)) end past rest mid between before_flush sink out some first halted memory shown flushed s f (e, now, g, after) =
    subst (λ (x : DumpEnd). IsAt defs ask o x past rest sink out w) (sym e) (record {
      cause = (halted.1.0, given_less ask.count (items_in (dump_rule ask.count) defs past) some halted.0, halted.1.1);
      sent = still_sent (asked defs ask.collector ask.wants) o.sent mid w.sent o.sends between w.sends s now after;
      shown = shown;
      flushed = (g ∙ f, flushed);
    })
at_end defs ask o w (halts.Text (texts.LineTooLong line)) end past rest mid between before_flush sink out some first halted memory shown flushed s f (e, now, g, after) =
    subst (λ (x : DumpEnd). IsAt defs ask o x past rest sink out w) (sym e) (record {
      cause = (halted.1.0, given_less ask.count (items_in (dump_rule ask.count) defs past) some halted.0, halted.1.1);
      sent = still_sent (asked defs ask.collector ask.wants) o.sent mid w.sent o.sends between w.sends s now after;
      shown = shown;
      flushed = (g ∙ f, flushed);
    })
at_end defs ask o w (halts.Text texts.TooMuch) end past rest mid between before_flush sink out some first halted memory shown flushed s f (e, now, g, after) =
    subst (λ (x : DumpEnd). IsAt defs ask o x past rest sink out w) (sym e) (record {
      cause = (halted.1.0, given_less ask.count (items_in (dump_rule ask.count) defs past) some halted.0, halted.1.1);
      sent = still_sent (asked defs ask.collector ask.wants) o.sent mid w.sent o.sends between w.sends s now after;
      shown = shown;
      flushed = (g ∙ f, flushed);
    })
at_end defs ask o w (halts.Text texts.ReadFault) end past rest mid between before_flush sink out some first halted memory shown flushed s f (e, now, g, after) =
    subst (λ (x : DumpEnd). IsAt defs ask o x past rest sink out w) (sym e) (record {
      cause = inl halted.1.2;
      sent = inl (halted.1.2, still_sent (asked defs ask.collector ask.wants) o.sent mid w.sent o.sends between w.sends s now after);
      shown = shown;
      flushed = tt;
    })
at_end defs ask o w (halts.Text texts.NoMemory) end past rest mid between before_flush sink out some first halted memory shown flushed s f l = absurd memory

-- a dump that could not begin, and one whose subscription was cut short
pub no_memory : (defs : List RecordDef) (ask : Ask) (o : World) → Dumps defs ask o NoMemory o
no_memory defs ask o = record {
  past = nothing;
  rest = [];
  through = through_none (dump_rule ask.count) defs o.left;
  cause = (refl, refl, refl);
  sent = (refl, refl);
  shown = record { gained = Gained-none o.written; same = refl };
}

-- what is told once something was sent
abbrev pub sent_so : World → Option (List ℕ) → ℕ → World
sent_so o sent sends = record { left = o.left; reads = o.reads; sent = sent; sends = sends; written = o.written; writes = o.writes }

pub not_asked : (defs : List RecordDef) (ask : Ask) (o : World) (now : Option (List ℕ)) (after : ℕ) → IsCutShort (asked defs ask.collector ask.wants) o.sent now o.sends after → Dumps defs ask o LinkFault (sent_so o now after)
not_asked defs ask o now after c = record {
  past = nothing;
  rest = [];
  through = through_none (dump_rule ask.count) defs o.left;
  cause = inr c.rose;
  sent = inr (refl, cut_more (asked defs ask.collector ask.wants) (line_of defs items.End) o.sent now o.sends after c);
  shown = record { gained = Gained-none o.written; same = refl };
}

-- what is told once something was sent, read and written
abbrev pub world_so : Outside → Option (List ℕ) → ℕ → World
world_so t sent sends = record { left = t.left; reads = t.reads; sent = sent; sends = sends; written = t.written; writes = t.writes }

-- what came could not be written
pub not_shown : (defs : List RecordDef) (ask : Ask) (o t : Outside) (sent now : Option (List ℕ)) (sends after : ℕ) → IsBroken (dump_rule ask.count) defs o t
    → IsWritten (asked defs ask.collector ask.wants) sent now sends after → Dumps defs ask (world_so o sent sends) WriteFault (world_so t now after)
not_shown defs ask o t sent now sends after b s = record { past = b.past; rest = b.rest; through = b.through; cause = b.wrote.rose; sent = s; shown = b.wrote }

-- the end of a dump that halted
pub record IsLeft (defs : List RecordDef) (ask : Ask) (o : World) (end : DumpEnd) (sink out : Bool) (w : World) : Type 0 where
  pub dumps : Dumps defs ask o end w
  pub flushed : AreFlushed end sink out
  pub decided : IsDecided defs ask o end w

leaving_end : (halted end : DumpEnd) (defs : List RecordDef) (was now : Option (List ℕ)) (before_flush flushed : Bool) (before after : ℕ) → Leaving halted defs end was now before_flush flushed before after → (Rose before after → ⊥) → end ≡ halted
leaving_end Done Done defs was now before_flush flushed before after l n = refl
leaving_end Done LinkFault defs was now before_flush flushed before after l n = absurd (n l.rose)
leaving_end Done (CutOff line) defs was now before_flush flushed before after l n = absurd l
leaving_end Done (Bad bad) defs was now before_flush flushed before after l n = absurd l
leaving_end Done (LineTooLong line) defs was now before_flush flushed before after l n = absurd l
leaving_end Done TooMuch defs was now before_flush flushed before after l n = absurd l
leaving_end Done WriteFault defs was now before_flush flushed before after l n = absurd l
leaving_end Done NoMemory defs was now before_flush flushed before after l n = absurd l
leaving_end (CutOff line) end defs was now before_flush flushed before after l n = l.0
leaving_end (Bad bad) end defs was now before_flush flushed before after l n = l.0
leaving_end (LineTooLong line) end defs was now before_flush flushed before after l n = l.0
leaving_end TooMuch end defs was now before_flush flushed before after l n = l.0
leaving_end LinkFault end defs was now before_flush flushed before after l n = l.0
leaving_end WriteFault end defs was now before_flush flushed before after l n = l.0
leaving_end NoMemory end defs was now before_flush flushed before after l n = l.0

-- what is sent where no fault was counted
sent_whole : (end : DumpEnd) (defs : List RecordDef) (ask : Ask) (o w : World) → IsSent end defs ask o w → (Rose o.reads w.reads → ⊥) → (Rose o.sends w.sends → ⊥) → Gained o.sent w.sent (sent_at end defs ask) ⊎ (end ≡ NoMemory)
sent_whole Done defs ask o w s reads sends = inl s.gained
sent_whole (CutOff line) defs ask o w s reads sends = inl s.gained
sent_whole (Bad bad) defs ask o w s reads sends = inl s.gained
sent_whole (LineTooLong line) defs ask o w s reads sends = inl s.gained
sent_whole TooMuch defs ask o w s reads sends = inl s.gained
sent_whole LinkFault defs ask o w (inl s) reads sends = absurd (reads s.0)
sent_whole LinkFault defs ask o w (inr s) reads sends = absurd (sends s.1.rose)
sent_whole WriteFault defs ask o w s reads sends = inl s.gained
sent_whole NoMemory defs ask o w s reads sends = inr refl

pub left : (defs : List RecordDef) (ask : Ask) (o t : Outside) (halt : Halt) (end : DumpEnd) (sent mid now : Option (List ℕ)) (sends between after : ℕ) (before_flush sink out : Bool) → 0 < ask.count
    → IsWhole (dump_rule ask.count) defs o halt t × (out ≡ true) × HasMemory halt → IsWritten (asked defs ask.collector ask.wants) sent mid sends between → before_flush ≡ true
    → Leaving (dump_end halt) defs end mid now before_flush sink between after
    → IsLeft defs ask (world_so o sent sends) end sink out (world_so t now after)
left defs ask o t halt end sent mid now sends between after before_flush sink out some (p, flushed, memory) s f l =
    let a = at_end defs ask (world_so o sent sends) (world_so t now after) halt end p.past p.rest mid between before_flush sink out some p.through.first p.halted memory p.wrote flushed s f l in
    record {
      dumps = record { past = p.past; rest = p.rest; through = p.through; cause = a.cause; sent = a.sent; shown = a.shown };
      flushed = a.flushed;
      decided = λ text last lines told d no_reads no_sends no_writes.
          let e : end ≡ dump_end halt = leaving_end (dump_end halt) end defs mid now before_flush sink between after l (λ r. no_sends (rw s.same at r)) in
          elim (decided (dump_rule ask.count) defs o.left t.left halt p.past p.rest o.reads t.reads text last lines p.through p.halted told d no_reads) [
            | inl same ↦ elim (sent_whole end defs ask (world_so o sent sends) (world_so t now after) a.sent no_reads no_sends) [
              | inl gained ↦ inl (e ∙ ap dump_end same.0, gained, subst (λ (ns : List Numbered). Gained o.written t.written (printed (dump_rule ask.count) defs ns)) (sym same.1) p.wrote.gained)
              | inr none ↦ inr none
            ]
            | inr none ↦ inr (e ∙ ap dump_end none)
          ];
    }

-- what was sent and written at any end is a first part
sent_first : (end : DumpEnd) (defs : List RecordDef) (ask : Ask) (o w : World) → IsSent end defs ask o w → (part : List ℕ) × (rest : List ℕ) × (sent_at Done defs ask ≡ part ++ rest) × Gained o.sent w.sent part
sent_first Done defs ask o w s = (sent_at Done defs ask, [], sym (append-nil (sent_at Done defs ask)), s.gained)
sent_first (CutOff line) defs ask o w s = (asked defs ask.collector ask.wants, line_of defs items.End, refl, s.gained)
sent_first (Bad bad) defs ask o w s = (asked defs ask.collector ask.wants, line_of defs items.End, refl, s.gained)
sent_first (LineTooLong line) defs ask o w s = (asked defs ask.collector ask.wants, line_of defs items.End, refl, s.gained)
sent_first TooMuch defs ask o w s = (asked defs ask.collector ask.wants, line_of defs items.End, refl, s.gained)
sent_first LinkFault defs ask o w (inl s) = (asked defs ask.collector ask.wants, line_of defs items.End, refl, s.1.gained)
sent_first LinkFault defs ask o w (inr s) = (s.1.part, s.1.rest, s.1.whole, s.1.gained)
sent_first WriteFault defs ask o w s = (asked defs ask.collector ask.wants, line_of defs items.End, refl, s.gained)
sent_first NoMemory defs ask o w s = ([], sent_at Done defs ask, refl, subst (λ (l : Option (List ℕ)). Gained o.sent l []) (sym s.0) (Gained-none o.sent))

-- a text that was written, or a first part of it
record IsBegun (text : List ℕ) (was now : Option (List ℕ)) : Type 0 where
  part : List ℕ
  rest : List ℕ
  whole : text ≡ part ++ rest
  gained : Gained was now part

whole_begun : (text : List ℕ) (was now : Option (List ℕ)) (before after : ℕ) → IsWritten text was now before after → IsBegun text was now
whole_begun text was now before after s = record { part = text; rest = []; whole = sym (append-nil text); gained = s.gained }

shown_begun : (end : DumpEnd) (text : List ℕ) (o w : World) → IsShown end text o w → IsBegun text o.written w.written
shown_begun Done text o w s = whole_begun text o.written w.written o.writes w.writes s
shown_begun (CutOff line) text o w s = whole_begun text o.written w.written o.writes w.writes s
shown_begun (Bad bad) text o w s = whole_begun text o.written w.written o.writes w.writes s
shown_begun (LineTooLong line) text o w s = whole_begun text o.written w.written o.writes w.writes s
shown_begun TooMuch text o w s = whole_begun text o.written w.written o.writes w.writes s
shown_begun LinkFault text o w s = whole_begun text o.written w.written o.writes w.writes s
shown_begun WriteFault text o w s = record { part = s.part; rest = s.rest; whole = s.whole; gained = s.gained }
shown_begun NoMemory text o w s = whole_begun text o.written w.written o.writes w.writes s

pub dumps_first : (defs : List RecordDef) (ask : Ask) (o : World) (end : DumpEnd) (w : World) → Dumps defs ask o end w → AreFirstParts defs ask o w
dumps_first defs ask o end w d =
    let b = shown_begun end (printed (dump_rule ask.count) defs (items_in (dump_rule ask.count) defs d.past)) o w d.shown in
    (sent_first end defs ask o w d.sent, first_part (dump_rule ask.count) defs o.left w.left o.written w.written d.past d.rest b.part b.rest d.through b.whole b.gained)

-- a dump that could not begin decides nothing
pub undecided_memory : (defs : List RecordDef) (ask : Ask) (o w : World) → IsDecided defs ask o NoMemory w
undecided_memory defs ask o w = λ text last lines told d no_reads no_sends no_writes. inr refl
