-- A run over a text, item by item.
use Rattle.std.proofs.Common.{ℕ, ◌≡◌, Bool, true, false, Option, Some, None, List, [], ◌∷◌, ◌++◌, length, refl, sym, ◌∙◌, ap, subst, inl}
use Rattle.std.proofs.lemmas.List.{append-nil}
use Rattle.std.specs.Prelude.{◌||◌}
use Rattle.qd_check.specs.Runs.{Outside}
use Rattle.qd_grammar.specs.declared.item.Item.{Item}
use Rattle.qd_grammar.specs.declared.item.Mode.{Mode}
use Rattle.qd_items.specs.declared.ends.TextEnd.{TextEnd}
use Rattle.qd_items.specs.declared.ends.TextEnd.TheVariants.{End, CutOff, Bad, LineTooLong, TooMuch, ReadFault, NoMemory}
use Rattle.qd_items.specs.declared.items.NextItem.{NextItem}
use Rattle.qd_items.specs.declared.items.NextItem.TheVariants as nexts
use Rattle.qd_items.specs.Ends.{Cause, ComesNext, EndsAt as TextEndsAt, last_items}
use Rattle.qd_items.specs.Judging.{Numbered, is_end, items_of, stop_of}
use Rattle.qd_items.specs.Judging.Stop.{Open}
use Rattle.qd_items.specs.Standing.{Kept, Past, IsRead, nothing, opening}
use Rattle.qd_items.specs.Steps.{Steps}
use Rattle.qd_items.proofs.Counts.{none_behind_end}
use Rattle.qd_items.proofs.StepLaws.{none_yet, opening_read, same_faults, went_on}
use Rattle.qd_outside.specs.Buffering.{Drains, Prints}
use Rattle.qd_outside.proofs.Streams.{Gained-none}
use Rattle.qd_scheme.specs.declared.defs.RecordDef.{RecordDef}
use Rattle.qd_client.specs.declared.ends.Halt.{Halt}
use Rattle.qd_client.specs.declared.ends.Halt.TheVariants as halts
use Rattle.qd_client.specs.Reading.{EndsAt, HaltedBy, HasMemory, IsBroken, IsPrinted, IsThrough, ReadsThrough, WritesThrough, end_text, items_in, newest_line}
use Rattle.qd_client.specs.Rules.{Hears, Rule, ends_with, is_over, printed, until_over}
use Rattle.qd_client.proofs.Prints.{drained, printed_more, printed_on}

-- what is told outside
abbrev pub told_so : Option (List ℕ) → ℕ → Option (List ℕ) → ℕ → Outside
told_so left reads written writes = record { left = left; reads = reads; written = written; writes = writes }

-- a run between two items: of those read none ends the run, each was heard, and what they print is written but for what is held back
pub record IsReading (rule : Rule) (defs : List RecordDef) (heard : List Numbered → Type 0) (o : Outside) (k : Kept) (held : List ℕ) (w : Outside) : Type 0 where
  pub past : Past
  pub read : IsRead defs o.left k past w.left
  pub reads : w.reads ≡ o.reads
  pub told : heard (items_in rule defs past)
  pub not_over : is_over rule (items_in rule defs past) ≡ false
  pub prints : Prints true (printed rule defs (items_in rule defs past)) [] held o.written w.written o.writes w.writes

-- where no item ends the run, none stands behind one that does
pub first_open : (rule : Rule) (items : List Numbered) → is_over rule items ≡ false → until_over rule items ≡ items
first_open rule [] e = refl
first_open rule (n ∷ before) e = go (is_over rule before) refl
  where
    go : (b : Bool) → is_over rule before ≡ b → until_over rule (n ∷ before) ≡ n ∷ before
    go true f = let s : (true || ends_with rule before n.item) ≡ false = rw f at e in absurd (cc)
    go false f = rw f refl

pub first_next : (rule : Rule) (n : Numbered) (before : List Numbered) → is_over rule before ≡ false → until_over rule (n ∷ before) ≡ n ∷ before
first_next rule n before f = rw f refl

-- before anything
pub reading_none : (rule : Rule) (defs : List RecordDef) (heard : List Numbered → Type 0) (o : Outside) (k : Kept) (held : List ℕ) → k ≡ opening rule.mode → held ≡ [] → heard [] → IsReading rule defs heard o k held o
reading_none rule defs heard o k held e h t = rw (e, h) (record {
  past = nothing;
  read = opening_read rule.mode defs o.left;
  reads = refl;
  told = t;
  not_over = refl;
  prints = ([], refl, record { gained = Gained-none o.written; same = refl });
})

-- what is read so far
through : (rule : Rule) (defs : List RecordDef) (heard : List Numbered → Type 0) (o w : Outside) (k : Kept) (held : List ℕ) (m : k.mode ≡ rule.mode) (p : IsReading rule defs heard o k held w) → IsThrough rule defs o.left p.past k.left w.left
through rule defs heard o w k held m p = record {
  bytes = p.read.stands.bytes;
  took = p.read.took;
  none_behind = inl (subst (λ (x : Mode). stop_of x defs p.past.lines ≡ Open) m p.read.stands.is_open);
  first = first_open rule (items_in rule defs p.past) p.not_over;
}

-- what is held back is written, or a write of it failed
pub let_went : (rule : Rule) (defs : List RecordDef) (heard : List Numbered → Type 0) (o w : Outside) (k : Kept) (held more : List ℕ) (now : Option (List ℕ)) (after : ℕ) → IsReading rule defs heard o k held w
    → Prints true [] held more w.written now w.writes after → IsReading rule defs heard o k more (told_so w.left w.reads now after)
let_went rule defs heard o w k held more now after p q = record {
  past = p.past;
  read = p.read;
  reads = p.reads;
  told = p.told;
  not_over = p.not_over;
  prints = printed_on true (printed rule defs (items_in rule defs p.past)) [] held more o.written w.written now o.writes w.writes after p.prints q;
}

pub let_short : (rule : Rule) (defs : List RecordDef) (heard : List Numbered → Type 0) (o w : Outside) (k : Kept) (held more : List ℕ) (now : Option (List ℕ)) (after : ℕ) → k.mode ≡ rule.mode → IsReading rule defs heard o k held w
    → Prints false [] held more w.written now w.writes after → IsBroken rule defs o (told_so w.left w.reads now after)
let_short rule defs heard o w k held more now after m p q = record {
  past = p.past;
  rest = k.left;
  through = through rule defs heard o w k held m p;
  wrote = printed_on false (printed rule defs (items_in rule defs p.past)) [] held more o.written w.written now o.writes w.writes after p.prints q;
}

-- a step that gives no item
pub step_went : (rule : Rule) (defs : List RecordDef) (heard : List Numbered → Type 0) (o w : Outside) (k new : Kept) (held : List ℕ) (left : Option (List ℕ)) (reads : ℕ) → new.mode ≡ rule.mode → IsReading rule defs heard o k held w
    → Steps defs k None new w.left left w.reads reads → IsReading rule defs heard o new held (told_so left reads w.written w.writes)
step_went rule defs heard o w k new held left reads m p s =
    let n = went_on defs o.left p.past k new w.left left w.reads reads (none_yet defs o.left p.past k w.left p.read) s in
    let same : items_in rule defs n.past ≡ items_in rule defs p.past = subst (λ (x : Mode). items_of x defs n.past.lines ≡ items_of x defs p.past.lines) m n.same in
    record {
      past = n.past;
      read = n.read;
      reads = same_faults defs k new w.left left w.reads reads s ∙ p.reads;
      told = subst heard (sym same) p.told;
      not_over = ap (is_over rule) same ∙ p.not_over;
      prints = subst (λ (ns : List Numbered). Prints true (printed rule defs ns) [] held o.written w.written o.writes w.writes) (sym same) p.prints;
    }

-- what the next call of a reader tells
abbrev pub Told : List RecordDef → Kept → Outside → NextItem → Kept → Option (List ℕ) → ℕ → Type 0
Told defs k w next new left reads = (start : Option (List ℕ)) (p : Past) → IsRead defs start k p w.left → ComesNext defs start p next new left w.reads reads

-- an item came and was printed, or its printing was cut short
record IsCome (last : Bool) (rule : Rule) (defs : List RecordDef) (o : Outside) (k : Kept) (item : Item) (over : Bool) (before : List Numbered) (held : List ℕ) (w : Outside) : Type 0 where
  past : Past
  read : IsRead defs o.left k past w.left
  reads : w.reads ≡ o.reads
  these : items_in rule defs past ≡ record { line = k.lines; item = item } ∷ before
  over_is : is_over rule (items_in rule defs past) ≡ over
  first : until_over rule (items_in rule defs past) ≡ items_in rule defs past
  prints : Prints last (printed rule defs (items_in rule defs past)) [] held o.written w.written o.writes w.writes

over_with : (rule : Rule) (n : Numbered) (before : List Numbered) (over : Bool) → is_over rule before ≡ false → is_end n.item ≡ false → over ≡ rule.ends before n.item → is_over rule (n ∷ before) ≡ over
over_with rule n before over f e h = rw (f, e) (sym h)

come : (last : Bool) (rule : Rule) (defs : List RecordDef) (heard : List Numbered → Type 0) (o w : Outside) (k new : Kept) (item : Item) (over : Bool) (line held more : List ℕ) (left now : Option (List ℕ)) (reads after : ℕ) → new.mode ≡ rule.mode
    → (p : IsReading rule defs heard o k held w) → Told defs k w (nexts.Item item) new left reads → ((items : List Numbered) → heard items → Hears rule defs items item over line)
    → Prints last line held more w.written now w.writes after
    → IsCome last rule defs o new item over (items_in rule defs p.past) more (told_so left reads now after)
come last rule defs heard o w k new item over line held more left now reads after m p told hears q =
    let n = told o.left p.past p.read in
    let before : List Numbered = items_in rule defs p.past in
    let h = hears before p.told in
    let these : items_in rule defs n.0 ≡ record { line = new.lines; item = item } ∷ before = subst (λ (x : Mode). items_of x defs n.0.lines ≡ record { line = new.lines; item = item } ∷ items_of x defs p.past.lines) m n.3 in
    record {
      past = n.0;
      read = n.1;
      reads = n.5 ∙ p.reads;
      these = these;
      over_is = ap (is_over rule) these ∙ over_with rule (record { line = new.lines; item = item }) before over p.not_over n.4 h.ends;
      first = ap (until_over rule) these ∙ first_next rule (record { line = new.lines; item = item }) before p.not_over ∙ sym these;
      prints = subst (λ (ns : List Numbered). Prints last (printed rule defs ns) [] more o.written now o.writes after) (sym these)
          (printed_more last (printed rule defs before) (rule.text defs before item) [] held more o.written w.written now o.writes w.writes after p.prints
          (subst (λ (l : List ℕ). Prints last l held more w.written now w.writes after) h.text q));
    }

come_through : (last : Bool) (rule : Rule) (defs : List RecordDef) (o w : Outside) (k : Kept) (item : Item) (over : Bool) (before : List Numbered) (held : List ℕ) → k.mode ≡ rule.mode
    → (c : IsCome last rule defs o k item over before held w) → IsThrough rule defs o.left c.past k.left w.left
come_through last rule defs o w k item over before held m c = record {
  bytes = c.read.stands.bytes;
  took = c.read.took;
  none_behind = inl (subst (λ (x : Mode). stop_of x defs c.past.lines ≡ Open) m c.read.stands.is_open);
  first = c.first;
}

-- an item that does not end the run
pub item_went : (rule : Rule) (defs : List RecordDef) (heard more_heard : List Numbered → Type 0) (o w : Outside) (k new : Kept) (item : Item) (line held more : List ℕ) (left now : Option (List ℕ)) (reads after : ℕ) → new.mode ≡ rule.mode
    → IsReading rule defs heard o k held w → Told defs k w (nexts.Item item) new left reads → ((items : List Numbered) → heard items → Hears rule defs items item false line)
    → ((items : List Numbered) (number : ℕ) → heard items → more_heard (record { line = number; item = item } ∷ items))
    → Prints true line held more w.written now w.writes after → IsReading rule defs more_heard o new more (told_so left reads now after)
item_went rule defs heard more_heard o w k new item line held more left now reads after m p told hears hear q =
    let c = come true rule defs heard o w k new item false line held more left now reads after m p told hears q in
    record {
      past = c.past;
      read = c.read;
      reads = c.reads;
      told = subst more_heard (sym c.these) (hear (items_in rule defs p.past) new.lines p.told);
      not_over = c.over_is;
      prints = c.prints;
    }

-- an item that ends it
pub item_halted : (rule : Rule) (defs : List RecordDef) (heard : List Numbered → Type 0) (o w : Outside) (k new : Kept) (item : Item) (line held more : List ℕ) (left now : Option (List ℕ)) (reads after : ℕ) → new.mode ≡ rule.mode
    → IsReading rule defs heard o k held w → Told defs k w (nexts.Item item) new left reads → ((items : List Numbered) → heard items → Hears rule defs items item true line)
    → Prints true line held more w.written now w.writes after → IsPrinted rule defs o (halts.Item new.lines) more (told_so left reads now after)
item_halted rule defs heard o w k new item line held more left now reads after m p told hears q =
    let c = come true rule defs heard o w k new item true line held more left now reads after m p told hears q in
    let t = come_through true rule defs o (told_so left reads now after) new item true (items_in rule defs p.past) more m c in
    record {
      past = c.past;
      rest = new.left;
      through = t;
      halted = (c.over_is, subst (λ (x : Mode). stop_of x defs c.past.lines ≡ Open) m c.read.stands.is_open, c.read.stands.count, ap newest_line c.these, c.reads);
      wrote = c.prints;
      memory = tt;
    }

-- an item whose printing is cut short
pub item_broke : (rule : Rule) (defs : List RecordDef) (heard : List Numbered → Type 0) (o w : Outside) (k new : Kept) (item : Item) (over : Bool) (line held more : List ℕ) (left now : Option (List ℕ)) (reads after : ℕ) → new.mode ≡ rule.mode
    → IsReading rule defs heard o k held w → Told defs k w (nexts.Item item) new left reads → ((items : List Numbered) → heard items → Hears rule defs items item over line)
    → Prints false line held more w.written now w.writes after → IsBroken rule defs o (told_so left reads now after)
item_broke rule defs heard o w k new item over line held more left now reads after m p told hears q =
    let c = come false rule defs heard o w k new item over line held more left now reads after m p told hears q in
    record {
      past = c.past;
      rest = new.left;
      through = come_through false rule defs o (told_so left reads now after) new item over (items_in rule defs p.past) more m c;
      wrote = c.prints;
    }

-- what the end of a text prints, and that it ends no run
printed_end : (rule : Rule) (defs : List RecordDef) (end : TextEnd) (n : ℕ) (before : List Numbered) → printed rule defs (last_items end n before) ≡ printed rule defs before ++ end_text rule defs before end
printed_end rule defs End n before = refl
printed_end rule defs (CutOff line) n before = sym (append-nil (printed rule defs before))
printed_end rule defs (Bad bad) n before = sym (append-nil (printed rule defs before))
printed_end rule defs (LineTooLong line) n before = sym (append-nil (printed rule defs before))
printed_end rule defs TooMuch n before = sym (append-nil (printed rule defs before))
printed_end rule defs ReadFault n before = sym (append-nil (printed rule defs before))
printed_end rule defs NoMemory n before = sym (append-nil (printed rule defs before))

end_open : (rule : Rule) (end : TextEnd) (n : ℕ) (before : List Numbered) → is_over rule before ≡ false → is_over rule (last_items end n before) ≡ false
end_open rule End n before f = rw f refl
end_open rule (CutOff line) n before f = f
end_open rule (Bad bad) n before f = f
end_open rule (LineTooLong line) n before f = f
end_open rule TooMuch n before f = f
end_open rule ReadFault n before f = f
end_open rule NoMemory n before f = f

has_memory : (end : TextEnd) → (end ≡ NoMemory → ⊥) → HasMemory (halts.Text end)
has_memory End n = tt
has_memory (CutOff line) n = tt
has_memory (Bad bad) n = tt
has_memory (LineTooLong line) n = tt
has_memory TooMuch n = tt
has_memory ReadFault n = tt
has_memory NoMemory n = absurd (n refl)

-- the text ended, and its end was printed or its printing was cut short
record IsTextEnd (last : Bool) (rule : Rule) (defs : List RecordDef) (o : Outside) (end : TextEnd) (held : List ℕ) (w : Outside) : Type 0 where
  past : Past
  rest : List ℕ
  through : IsThrough rule defs o.left past rest w.left
  halted : HaltedBy (halts.Text end) rule defs past rest w.left o.reads w.reads
  memory : HasMemory (halts.Text end)
  prints : Prints last (printed rule defs (items_in rule defs past)) [] held o.written w.written o.writes w.writes

text_end : (last : Bool) (rule : Rule) (defs : List RecordDef) (heard : List Numbered → Type 0) (o w : Outside) (k new : Kept) (end : TextEnd) (held more : List ℕ) (left now : Option (List ℕ)) (reads after : ℕ) → new.mode ≡ rule.mode
    → (p : IsReading rule defs heard o k held w) → Told defs k w (nexts.Ended end) new left reads → Prints last (end_text rule defs (items_in rule defs p.past) end) held more w.written now w.writes after
    → IsTextEnd last rule defs o end more (told_so left reads now after)
text_end last rule defs heard o w k new end held more left now reads after m p told q =
    let before : List Numbered = items_in rule defs p.past in
    let n : TextEndsAt rule.mode defs o.left p.past end new.lines left w.reads reads = subst (λ (x : Mode). TextEndsAt x defs o.left p.past end new.lines left w.reads reads) m (told o.left p.past p.read) in
    let not_over : is_over rule (items_in rule defs n.0) ≡ false = ap (is_over rule) n.4 ∙ end_open rule end (length n.0.lines) before p.not_over in
    record {
      past = n.0;
      rest = n.1;
      through = record { bytes = n.2.bytes; took = n.2.took; none_behind = none_behind_end rule.mode defs o.left end n.0 n.1 left w.reads reads n.2; first = first_open rule (items_in rule defs n.0) not_over };
      halted = (not_over, subst (λ (r : ℕ). Cause end (stop_of rule.mode defs n.0.lines) (length n.0.lines) n.1 (length n.0.taken) left r reads) p.reads n.2.cause);
      memory = has_memory end n.6;
      prints = subst (λ (l : List ℕ). Prints last l [] more o.written now o.writes after) (sym (ap (printed rule defs) n.4 ∙ printed_end rule defs end (length n.0.lines) before))
          (printed_more last (printed rule defs before) (end_text rule defs before end) [] held more o.written w.written now o.writes w.writes after p.prints q);
    }

pub text_ended : (rule : Rule) (defs : List RecordDef) (heard : List Numbered → Type 0) (o w : Outside) (k new : Kept) (end : TextEnd) (result : Option Halt) (held more : List ℕ) (left now : Option (List ℕ)) (reads after : ℕ) → new.mode ≡ rule.mode
    → IsReading rule defs heard o k held w → Told defs k w (nexts.Ended end) new left reads
    → ((items : List Numbered) → heard items → EndsAt rule defs items end result held more w.written now w.writes after)
    → ReadsThrough rule defs o result more (told_so left reads now after)
text_ended rule defs heard o w k new end (Some halt) held more left now reads after m p told ends =
    let e = ends (items_in rule defs p.past) p.told in
    let t = text_end true rule defs heard o w k new end held more left now reads after m p told e.1 in
    subst (λ (h : Halt). IsPrinted rule defs o h more (told_so left reads now after)) (sym e.0) (record { past = t.past; rest = t.rest; through = t.through; halted = t.halted; wrote = t.prints; memory = t.memory })
text_ended rule defs heard o w k new end None held more left now reads after m p told ends =
    let t = text_end false rule defs heard o w k new end held more left now reads after m p told (ends (items_in rule defs p.past) p.told) in
    record { past = t.past; rest = t.rest; through = t.through; wrote = t.prints }

-- all that was printed is written at the end, or a write failed
pub all_written : (rule : Rule) (defs : List RecordDef) (o w : Outside) (halt : Halt) (held new : List ℕ) (now : Option (List ℕ)) (flushed : Bool) (after : ℕ) → IsPrinted rule defs o halt held w
    → Drains true held new w.written now flushed w.writes after → WritesThrough rule defs o (Some halt) flushed (told_so w.left w.reads now after)
all_written rule defs o w halt held new now flushed after p d =
    let s = drained true (printed rule defs (items_in rule defs p.past)) held new o.written w.written now flushed o.writes w.writes after p.wrote d in
    (record { past = p.past; rest = p.rest; through = p.through; halted = p.halted; wrote = s.0 }, s.1, p.memory)

pub not_all_written : (rule : Rule) (defs : List RecordDef) (o w : Outside) (halt : Halt) (held new : List ℕ) (now : Option (List ℕ)) (flushed : Bool) (after : ℕ) → IsPrinted rule defs o halt held w
    → Drains false held new w.written now flushed w.writes after → IsBroken rule defs o (told_so w.left w.reads now after)
not_all_written rule defs o w halt held new now flushed after p d =
    record { past = p.past; rest = p.rest; through = p.through; wrote = drained false (printed rule defs (items_in rule defs p.past)) held new o.written w.written now flushed o.writes w.writes after p.wrote d }
