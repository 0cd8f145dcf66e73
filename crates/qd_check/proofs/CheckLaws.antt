-- What check prints.
use Rattle.std.proofs.Common.{ℕ, ◌≡◌, ◌+◌, ◌≤◌, ◌^◌, Bool, Option, Some, None, List, [], ◌∷◌, ◌++◌, length, refl, sym, ◌∙◌, ap, subst, arith}
use Rattle.std.specs.Prelude.{cond, codes, decimal, nat_le, nat_lt, ◌<◌}
use Rattle.std.proofs.Common.{append_assoc, length-append}
use Rattle.std.proofs.lemmas.Bool.{le-leb, lt-ltb}
use Rattle.qd_decimal.proofs.Fractions.{count_short}
use Rattle.qd_grammar.specs.declared.item.Item.{Item}
use Rattle.qd_grammar.specs.declared.item.Mode.{Mode}
use Rattle.qd_grammar.specs.declared.item.Mode.TheVariants.{File}
use Rattle.qd_items.specs.declared.ends.TextEnd.{TextEnd}
use Rattle.qd_items.specs.declared.ends.TextEnd.TheVariants.{End, CutOff, Bad, LineTooLong, TooMuch, ReadFault, NoMemory}
use Rattle.qd_items.specs.declared.items.NextItem.TheVariants as nexts
use Rattle.qd_items.specs.Ends.{ComesNext, EndsAt}
use Rattle.qd_items.specs.Judging.{Numbered, Stop, items_of}
use Rattle.qd_items.specs.Standing.{Kept, Past, IsRead, nothing, opening}
use Rattle.qd_items.proofs.Counts.{few, none_behind_end}
use Rattle.qd_items.proofs.StepLaws.{opening_read}
use Rattle.qd_scheme.specs.declared.defs.RecordDef.{RecordDef}
use Rattle.qd_check.specs.Printing.{at_end, check_text, count_line, end_count}
use Rattle.qd_check.specs.Counting.{Counts, PrintsEnd}
use Rattle.qd_check.specs.Runs.{Outside, IsPrinted, IsBroken}

-- so many items were read so far
pub record IsCounting (defs : List RecordDef) (start : Option (List ℕ)) (k : Kept) (count : ℕ) (left : Option (List ℕ)) : Type 0 where
  pub past : Past
  pub read : IsRead defs start k past left
  pub items : length (items_of File defs past.lines) ≡ count
  pub few : count ≤ 2 ^ 40

pub count_none : (defs : List RecordDef) (start : Option (List ℕ)) (k : Kept) → k ≡ opening File → IsCounting defs start k 0 start
count_none defs start k e = rw e (record { past = nothing; read = opening_read File defs start; items = refl; few = omega arith })

-- one more
pub count_went : (defs : List RecordDef) (start : Option (List ℕ)) (k new : Kept) (count : ℕ) (item : Item) (was left : Option (List ℕ)) (before after : ℕ) → new.mode ≡ File → IsCounting defs start k count was
    → ((start : Option (List ℕ)) (p : Past) → IsRead defs start k p was → ComesNext defs start p (nexts.Item item) new left before after) → IsCounting defs start new (count + 1) left
count_went defs start k new count item was left before after m c told =
    let n = told start c.past c.read in
    let more = subst (λ (x : Mode). items_of x defs n.0.lines ≡ record { line = new.lines; item = item } ∷ items_of x defs c.past.lines) m n.3 in
    let size = ap (λ (is : List Numbered). length is) more in
    let items = c.items in
    let size_few = few File defs n.0 new.left n.1.stands.bytes in
    record { past = n.0; read = n.1; items = omega (arith, size, items); few = omega (arith, size, items, size_few) }

pub same_reads : (defs : List RecordDef) (start : Option (List ℕ)) (k new : Kept) (count : ℕ) (item : Item) (was left : Option (List ℕ)) (before after : ℕ) → IsCounting defs start k count was
    → ((start : Option (List ℕ)) (p : Past) → IsRead defs start k p was → ComesNext defs start p (nexts.Item item) new left before after) → after ≡ before
same_reads defs start k new count item was left before after c told = (told start c.past c.read).5

pub count_ended : (defs : List RecordDef) (start : Option (List ℕ)) (k new : Kept) (count : ℕ) (end : TextEnd) (was left : Option (List ℕ)) (before between after : ℕ) → new.mode ≡ File → between ≡ before → IsCounting defs start k count was
    → ((start : Option (List ℕ)) (p : Past) → IsRead defs start k p was → ComesNext defs start p (nexts.Ended end) new left between after) → Counts defs start end count left before after
count_ended defs start k new count end was left before between after m e c told =
    (c.past, c.items, new.lines, rw e at (subst (λ (x : Mode). EndsAt x defs start c.past end new.lines left between after) m (told start c.past c.read)))

-- what check prints of the lines at an end
printed_end : (defs : List RecordDef) (start : Option (List ℕ)) (end : TextEnd) (p : Past) (lines : ℕ) (left : Option (List ℕ)) (before after : ℕ) (n : EndsAt File defs start p end lines left before after)
    → check_text defs n.0.lines ≡ end_count end (length (items_of File defs p.lines))
printed_end defs start End p lines left before after n =
    let size = ap (λ (is : List Numbered). length is) n.4 in
    let more : length (items_of File defs n.0.lines) ≡ length (items_of File defs p.lines) + 1 = omega (arith, size) in
    ap (λ (s : Stop). at_end s (count_line (length (items_of File defs n.0.lines)))) n.2.cause.0 ∙ ap count_line more
printed_end defs start (CutOff line) p lines left before after n = ap (λ (s : Stop). at_end s (count_line (length (items_of File defs n.0.lines)))) n.2.cause.0.0.0
printed_end defs start (Bad bad) p lines left before after n = ap (λ (s : Stop). at_end s (count_line (length (items_of File defs n.0.lines)))) n.2.cause.0.0
printed_end defs start (LineTooLong line) p lines left before after n = ap (λ (s : Stop). at_end s (count_line (length (items_of File defs n.0.lines)))) n.2.cause.0.0
printed_end defs start TooMuch p lines left before after n = ap (λ (s : Stop). at_end s (count_line (length (items_of File defs n.0.lines)))) n.2.cause.0.0.0
printed_end defs start ReadFault p lines left before after n = ap (λ (s : Stop). at_end s (count_line (length (items_of File defs n.0.lines)))) n.2.cause.0.0
printed_end defs start NoMemory p lines left before after n = ap (λ (s : Stop). at_end s (count_line (length (items_of File defs n.0.lines)))) n.2.cause.0

-- the count is printed at the end
pub count_printed : (defs : List RecordDef) (o : Outside) (end last : TextEnd) (count : ℕ) (held : List ℕ) (left now : Option (List ℕ)) (reads after : ℕ) → Counts defs o.left end count left o.reads reads
    → PrintsEnd (end_count end count) end (Some last) [] held o.written now o.writes after
    → IsPrinted (check_text defs) defs o last held (record { left = left; reads = reads; written = now; writes = after })
count_printed defs o end last count held left now reads after (p, size, lines, n) (e, (piece, whole, c)) =
    subst (λ (x : TextEnd). IsPrinted (check_text defs) defs o x held (record { left = left; reads = reads; written = now; writes = after })) (sym e) (record {
      past = n.0;
      rest = n.1;
      ended = n.2;
      part = piece;
      gained = c.gained;
      whole = printed_end defs o.left end p lines left o.reads reads n ∙ ap (end_count end) size ∙ whole;
      same = c.same;
    })

pub count_broke : (defs : List RecordDef) (o : Outside) (end : TextEnd) (count : ℕ) (held : List ℕ) (left now : Option (List ℕ)) (reads after : ℕ) → Counts defs o.left end count left o.reads reads
    → PrintsEnd (end_count end count) end None [] held o.written now o.writes after
    → IsBroken (check_text defs) defs o (record { left = left; reads = reads; written = now; writes = after })
count_broke defs o end count held left now reads after (p, size, lines, n) c = record {
  past = n.0;
  rest = n.1;
  bytes = n.2.bytes;
  took = n.2.took;
  none_behind = none_behind_end File defs o.left end n.0 n.1 left o.reads reads n.2;
  part = c.part;
  more = c.rest;
  gained = c.gained;
  whole = printed_end defs o.left end p lines left o.reads reads n ∙ ap (end_count end) size ∙ c.whole;
  rose = c.rose;
}

-- bytes for which there is room
added : (done : Bool) (old text new : List ℕ) → done ≡ nat_le (length old + length text) 4096 → length old + length text ≤ 4096 → new ≡ cond done (old ++ text) old → new ≡ old ++ text
added done old text new r l e = e ∙ ap (λ (t : Bool). cond t (old ++ text) old) (r ∙ le-leb (length old + length text) 4096 l)

pub count_set : (n : ℕ) (a b c : Bool) (first second third : List ℕ) → n < 2 ^ 64 → a ≡ nat_le 6 4096 → first ≡ cond a (codes "items ") []
    → b ≡ nat_le (length first + length (decimal n)) 4096 → second ≡ cond b (first ++ decimal n) first → c ≡ nat_lt (length second) 4096 → third ≡ cond c (second ++ 10 ∷ []) second
    → third ≡ count_line n
count_set n a b c first second third fits p e q f r g =
    let size = count_short n fits in
    let x : first ≡ codes "items " = e ∙ ap (λ (t : Bool). cond t (codes "items ") []) p in
    let x_size : length first ≡ 6 = ap length x in
    let y : second ≡ first ++ decimal n = added b first (decimal n) second q (omega (arith, x_size, size)) f in
    let y_size : length second ≡ 6 + length (decimal n) = ap length y ∙ length-append first (decimal n) ∙ ap (λ (m : ℕ). m + length (decimal n)) x_size in
    let z : third ≡ second ++ 10 ∷ [] = g ∙ ap (λ (t : Bool). cond t (second ++ 10 ∷ []) second) (r ∙ lt-ltb (length second) 4096 (omega (arith, y_size, size))) in
    z ∙ ap (λ (l : List ℕ). l ++ 10 ∷ []) (y ∙ ap (λ (l : List ℕ). l ++ decimal n) x) ∙ append_assoc (codes "items ") (decimal n) (10 ∷ [])
