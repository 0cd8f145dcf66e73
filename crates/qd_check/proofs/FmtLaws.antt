-- What fmt prints, item by item.
use Rattle.std.proofs.Common.{ℕ, ◌≡◌, true, Option, Some, None, List, [], ◌∷◌, ◌++◌, length, refl, sym, ◌∙◌, ap, subst, append_assoc, inl}
use Rattle.std.proofs.lemmas.List.{append-nil}
use Rattle.qd_grammar.specs.declared.item.Item.{Item}
use Rattle.qd_grammar.specs.declared.item.Mode.{Mode}
use Rattle.qd_grammar.specs.declared.item.Mode.TheVariants.{File}
use Rattle.qd_items.specs.declared.ends.TextEnd.{TextEnd}
use Rattle.qd_items.specs.declared.ends.TextEnd.TheVariants.{End, CutOff, Bad, LineTooLong, TooMuch, ReadFault, NoMemory}
use Rattle.qd_items.specs.declared.items.NextItem.{NextItem}
use Rattle.qd_items.specs.declared.items.NextItem.TheVariants as nexts
use Rattle.qd_items.specs.Ends.{ComesNext, EndsAt, last_items}
use Rattle.qd_items.specs.Judging.{Numbered, items_of, stop_of}
use Rattle.qd_items.specs.Judging.Stop.{Open}
use Rattle.qd_items.specs.Standing.{Kept, Past, IsRead, nothing, opening}
use Rattle.qd_items.proofs.Counts.{none_behind_end}
use Rattle.qd_items.specs.Steps.{Steps}
use Rattle.qd_items.proofs.StepLaws.{comes_next, none_yet, opening_read, same_faults, went_on}
use Rattle.qd_outside.specs.Buffering.{Prints}
use Rattle.qd_outside.specs.Writing.{Gained, IsCutShort}
use Rattle.qd_outside.proofs.Streams.{Gained-none, Gained-more}
use Rattle.qd_scheme.specs.declared.defs.RecordDef.{RecordDef}
use Rattle.qd_check.specs.Printing.{line_of, lines_of, fmt_text, end_line}
use Rattle.qd_check.specs.Counting.{PrintsEnd, PrintsLines}
use Rattle.qd_check.specs.Runs.{Outside, IsPrinted, IsBroken}

-- what was read so far is printed, and written but for what is held back
pub record IsPrinting (defs : List RecordDef) (o : Outside) (k : Kept) (held : List ℕ) (w : Outside) : Type 0 where
  pub past : Past
  pub read : IsRead defs o.left k past w.left
  pub reads : w.reads ≡ o.reads
  pub part : List ℕ
  pub gained : Gained o.written w.written part
  pub whole : fmt_text defs past.lines ≡ part ++ held
  pub same : w.writes ≡ o.writes

-- what the next call of a reader tells
abbrev pub Told : List RecordDef → Outside → Kept → Outside → NextItem → Kept → Option (List ℕ) → ℕ → Type 0
Told defs o k w next new left reads = (start : Option (List ℕ)) (p : Past) → IsRead defs start k p w.left → ComesNext defs start p next new left w.reads reads

-- more is printed behind what is held back
held_more : (text part held new piece line : List ℕ) → text ≡ part ++ held → held ++ line ≡ piece ++ new → text ++ line ≡ (part ++ piece) ++ new
held_more text part held new piece line e f =
    ap (λ (l : List ℕ). l ++ line) e ∙ append_assoc part held line ∙ ap (λ (l : List ℕ). part ++ l) f ∙ sym (append_assoc part piece new)

-- what is printed of the items, with one more
printed_more : (mode : Mode) (defs : List RecordDef) (p q : Past) (n : ℕ) (item : Item) → mode ≡ File → items_of mode defs q.lines ≡ record { line = n; item = item } ∷ items_of mode defs p.lines
    → fmt_text defs q.lines ≡ fmt_text defs p.lines ++ line_of defs item
printed_more mode defs p q n item m e =
    ap (lines_of defs) (subst (λ (x : Mode). items_of x defs q.lines ≡ record { line = n; item = item } ∷ items_of x defs p.lines) m e)

-- an item is printed
pub print_went : (defs : List RecordDef) (o w : Outside) (k new : Kept) (held more : List ℕ) (item : Item) (left now : Option (List ℕ)) (reads after : ℕ) → new.mode ≡ File → IsPrinting defs o k held w
    → Told defs o k w (nexts.Item item) new left reads → Prints true (line_of defs item) held more w.written now w.writes after
    → IsPrinting defs o new more (record { left = left; reads = reads; written = now; writes = after })
print_went defs o w k new held more item left now reads after m p told (piece, e, c) =
    let n = told o.left p.past p.read in record {
      past = n.0;
      read = n.1;
      reads = n.5 ∙ p.reads;
      part = p.part ++ piece;
      gained = Gained-more o.written w.written now p.part piece p.gained c.gained;
      whole = printed_more new.mode defs p.past n.0 new.lines item m n.3 ∙ held_more (fmt_text defs p.past.lines) p.part held more piece (line_of defs item) p.whole e;
      same = c.same ∙ p.same;
    }

-- its line is cut short
pub print_broke : (defs : List RecordDef) (o w : Outside) (k new : Kept) (held : List ℕ) (item : Item) (left now : Option (List ℕ)) (reads after : ℕ) → new.mode ≡ File → IsPrinting defs o k held w
    → Told defs o k w (nexts.Item item) new left reads → IsCutShort (held ++ line_of defs item) w.written now w.writes after
    → IsBroken (fmt_text defs) defs o (record { left = left; reads = reads; written = now; writes = after })
print_broke defs o w k new held item left now reads after m p told c =
    let n = told o.left p.past p.read in record {
      past = n.0;
      rest = new.left;
      bytes = n.1.stands.bytes;
      took = n.1.took;
      none_behind = inl (subst (λ (x : Mode). stop_of x defs n.0.lines ≡ Open) m n.1.stands.is_open);
      part = p.part ++ c.part;
      more = c.rest;
      gained = Gained-more o.written w.written now p.part c.part p.gained c.gained;
      whole = printed_more new.mode defs p.past n.0 new.lines item m n.3
          ∙ held_more (fmt_text defs p.past.lines) p.part held c.rest c.part (line_of defs item) p.whole c.whole;
      rose = rw p.same at c.rose;
    }

-- a step that gives an item or the end tells what a call that goes on to it tells
pub told_step : (defs : List RecordDef) (k l new : Kept) (was left : Option (List ℕ)) (before reads : ℕ) (next : NextItem) → l ≡ k → new.mode ≡ l.mode → Steps defs l (Some next) new was left before reads
    → (start : Option (List ℕ)) (p : Past) → IsRead defs start k p was → ComesNext defs start p next new left before reads
told_step defs k l new was left before reads next e m s = λ start p r. comes_next defs start p l new was left before reads next m (none_yet defs start p l was (subst (λ (x : Kept). IsRead defs start x p was) (sym e) r)) s

-- nothing is printed of a step that gives no item
pub print_passed : (defs : List RecordDef) (o w : Outside) (k new : Kept) (held : List ℕ) (left : Option (List ℕ)) (reads : ℕ) → new.mode ≡ File → IsPrinting defs o k held w → Steps defs k None new w.left left w.reads reads
    → IsPrinting defs o new held (record { left = left; reads = reads; written = w.written; writes = w.writes })
print_passed defs o w k new held left reads m p s =
    let n = went_on defs o.left p.past k new w.left left w.reads reads (none_yet defs o.left p.past k w.left p.read) s in
    record {
      past = n.past;
      read = n.read;
      reads = same_faults defs k new w.left left w.reads reads s ∙ p.reads;
      part = p.part;
      gained = p.gained;
      whole = ap (lines_of defs) (subst (λ (x : Mode). items_of x defs n.past.lines ≡ items_of x defs p.past.lines) m n.same) ∙ p.whole;
      same = p.same;
    }

-- what is held back is written
pub print_let_go : (defs : List RecordDef) (o w : Outside) (k : Kept) (held more : List ℕ) (now : Option (List ℕ)) (after : ℕ) → IsPrinting defs o k held w → Prints true [] held more w.written now w.writes after
    → IsPrinting defs o k more (record { left = w.left; reads = w.reads; written = now; writes = after })
print_let_go defs o w k held more now after p (piece, e, c) = record {
  past = p.past;
  read = p.read;
  reads = p.reads;
  part = p.part ++ piece;
  gained = Gained-more o.written w.written now p.part piece p.gained c.gained;
  whole = sym (append-nil (fmt_text defs p.past.lines)) ∙ held_more (fmt_text defs p.past.lines) p.part held more piece [] p.whole e;
  same = c.same ∙ p.same;
}

-- or a write of it failed
pub print_let_short : (defs : List RecordDef) (o w : Outside) (k : Kept) (held : List ℕ) (now : Option (List ℕ)) (after : ℕ) → k.mode ≡ File → IsPrinting defs o k held w → IsCutShort (held ++ []) w.written now w.writes after
    → IsBroken (fmt_text defs) defs o (record { left = w.left; reads = w.reads; written = now; writes = after })
print_let_short defs o w k held now after m p c = record {
  past = p.past;
  rest = k.left;
  bytes = p.read.stands.bytes;
  took = p.read.took;
  none_behind = inl (subst (λ (x : Mode). stop_of x defs p.past.lines ≡ Open) m p.read.stands.is_open);
  part = p.part ++ c.part;
  more = c.rest;
  gained = Gained-more o.written w.written now p.part c.part p.gained c.gained;
  whole = sym (append-nil (fmt_text defs p.past.lines)) ∙ held_more (fmt_text defs p.past.lines) p.part held c.rest c.part [] p.whole c.whole;
  rose = rw p.same at c.rose;
}

-- what is printed of the items at the end
printed_end : (defs : List RecordDef) (end : TextEnd) (n : ℕ) (before : List Numbered) → lines_of defs (last_items end n before) ≡ lines_of defs before ++ end_line defs end
printed_end defs End n before = refl
printed_end defs (CutOff line) n before = sym (append-nil (lines_of defs before))
printed_end defs (Bad bad) n before = sym (append-nil (lines_of defs before))
printed_end defs (LineTooLong line) n before = sym (append-nil (lines_of defs before))
printed_end defs TooMuch n before = sym (append-nil (lines_of defs before))
printed_end defs ReadFault n before = sym (append-nil (lines_of defs before))
printed_end defs NoMemory n before = sym (append-nil (lines_of defs before))

-- the end is printed, or a write failed
end_went : (defs : List RecordDef) (o w : Outside) (end : TextEnd) (p : Past) (lines : ℕ) (part held more : List ℕ) (left now : Option (List ℕ)) (reads after : ℕ) → w.reads ≡ o.reads → Gained o.written w.written part → fmt_text defs p.lines ≡ part ++ held → w.writes ≡ o.writes
    → EndsAt File defs o.left p end lines left w.reads reads → Prints true (end_line defs end) held more w.written now w.writes after
    → IsPrinted (fmt_text defs) defs o end more (record { left = left; reads = reads; written = now; writes = after })
end_went defs o w end p lines part held more left now reads after r gained whole same n (piece, e, c) =
    record {
      past = n.0;
      rest = n.1;
      ended = rw r at n.2;
      part = part ++ piece;
      gained = Gained-more o.written w.written now part piece gained c.gained;
      whole = ap (lines_of defs) n.4 ∙ printed_end defs end (length n.0.lines) (items_of File defs p.lines) ∙ held_more (fmt_text defs p.lines) part held more piece (end_line defs end) whole e;
      same = c.same ∙ same;
    }

end_broke : (defs : List RecordDef) (o w : Outside) (end : TextEnd) (p : Past) (lines : ℕ) (part held : List ℕ) (left now : Option (List ℕ)) (reads after : ℕ) → Gained o.written w.written part → fmt_text defs p.lines ≡ part ++ held → w.writes ≡ o.writes
    → EndsAt File defs o.left p end lines left w.reads reads → IsCutShort (held ++ end_line defs end) w.written now w.writes after
    → IsBroken (fmt_text defs) defs o (record { left = left; reads = reads; written = now; writes = after })
end_broke defs o w end p lines part held left now reads after gained whole same n c =
    record {
      past = n.0;
      rest = n.1;
      bytes = n.2.bytes;
      took = n.2.took;
      none_behind = none_behind_end File defs o.left end n.0 n.1 left w.reads reads n.2;
      part = part ++ c.part;
      more = c.rest;
      gained = Gained-more o.written w.written now part c.part gained c.gained;
      whole = ap (lines_of defs) n.4 ∙ printed_end defs end (length n.0.lines) (items_of File defs p.lines) ∙ held_more (fmt_text defs p.lines) part held c.rest c.part (end_line defs end) whole c.whole;
      rose = rw same at c.rose;
    }

pub print_ended : (defs : List RecordDef) (o w : Outside) (k new : Kept) (held more : List ℕ) (end : TextEnd) (result : Option TextEnd) (left now : Option (List ℕ)) (reads after : ℕ) → new.mode ≡ File → IsPrinting defs o k held w
    → Told defs o k w (nexts.Ended end) new left reads → PrintsEnd (end_line defs end) end result held more w.written now w.writes after
    → PrintsLines defs o result more (record { left = left; reads = reads; written = now; writes = after })
print_ended defs o w k new held more end None left now reads after m p told c =
    let n = subst (λ (x : Mode). EndsAt x defs o.left p.past end new.lines left w.reads reads) m (told o.left p.past p.read) in
    end_broke defs o w end p.past new.lines p.part held left now reads after p.gained p.whole p.same n c
print_ended defs o w k new held more end (Some last) left now reads after m p told (e, c) =
    let n = subst (λ (x : Mode). EndsAt x defs o.left p.past end new.lines left w.reads reads) m (told o.left p.past p.read) in
    subst (λ (x : TextEnd). IsPrinted (fmt_text defs) defs o x more (record { left = left; reads = reads; written = now; writes = after })) (sym e)
    (end_went defs o w end p.past new.lines p.part held more left now reads after p.reads p.gained p.whole p.same n c)

-- before anything
pub print_none : (defs : List RecordDef) (o : Outside) (k : Kept) (held : List ℕ) → k ≡ opening File → held ≡ [] → IsPrinting defs o k held o
print_none defs o k held e h = rw (e, h) (record {
  past = nothing;
  read = opening_read File defs o.left;
  reads = refl;
  part = [];
  gained = Gained-none o.written;
  whole = refl;
  same = refl;
})

-- nothing is printed at this end
pub nothing_printed : (held : List ℕ) (was : Option (List ℕ)) (before : ℕ) → Prints true [] held held was was before before
nothing_printed held was before = ([], append-nil held, record { gained = Gained-none was; same = refl })
