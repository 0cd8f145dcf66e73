-- A step leads from a past to a longer one, to an item or to the end.
use Rattle.std.proofs.Common.{ℕ, ◌≡◌, ◌+◌, ◌<◌, ◌≤◌, ◌^◌, true, false, Option, Some, None, Ok, Err, List, [], ◌∷◌, ◌++◌, length, refl, sym, ◌∙◌, ap, subst, arith, append_assoc, inl, inr, length-append}
use Rattle.std.specs.Prelude.{◌==◌, Bool, cond}
use Rattle.std.proofs.lemmas.List.{append-nil}
use Rattle.qd_grammar.specs.declared.item.Item.{Item}
use Rattle.qd_grammar.specs.declared.item.Item.TheVariants as items
use Rattle.qd_grammar.specs.declared.item.Mode.{Mode}
use Rattle.qd_grammar.specs.declared.state.State.{State}
use Rattle.qd_line.specs.Lines.{is_one_line, joined, without_cr}
use Rattle.qd_line.proofs.Feeds.{has_feed}
use Rattle.qd_line.proofs.Pasts.{cut_more}
use Rattle.qd_outside.specs.Reading.{Took}
use Rattle.qd_outside.proofs.Streams.{Took-none, Took-more}
use Rattle.qd_scheme.specs.declared.defs.RecordDef.{RecordDef}
use Rattle.qd_text.specs.Reading.{state_after}
use Rattle.qd_text.specs.declared.reader.BadLine.{BadLine}
use Rattle.qd_items.specs.declared.ends.TextEnd.{TextEnd}
use Rattle.qd_items.specs.declared.ends.TextEnd.TheVariants.{End, CutOff, Bad, LineTooLong, TooMuch, ReadFault, NoMemory}
use Rattle.qd_items.specs.declared.items.NextItem.{NextItem}
use Rattle.qd_items.specs.declared.items.NextItem.TheVariants as nexts
use Rattle.qd_items.specs.Judging.{Numbered, is_end, said, items_of, state_of, stop_of, stop_with, with_said, or_first}
use Rattle.qd_items.specs.Judging.Stop.{Open, AtBad}
use Rattle.qd_items.specs.Standing.{Kept, Past, IsTaken, StandsFor, IsRead, opening, nothing}
use Rattle.qd_items.specs.Steps.{IsOfRead, Judges, Steps, WentOn, WillRead}
use Rattle.qd_items.specs.Work.{work, Lowers}
use Rattle.qd_items.specs.Ends.{EndsAt, ComesNext}

-- the past with one more line judged, and with more bytes taken
abbrev pub with_line : List ℕ → Past → Past
with_line line p = record { taken = p.taken; lines = line ∷ p.lines }

abbrev with_bytes : List ℕ → Past → Past
with_bytes bytes p = record { taken = p.taken ++ bytes; lines = p.lines }

-- where the lines stop with one more, what the items are, and which state it leaves
pub stop_line : (mode : Mode) (defs : List RecordDef) (ls : List (List ℕ)) (line : List ℕ) (s : State) → stop_of mode defs ls ≡ Open → s ≡ state_of mode defs ls
    → stop_of mode defs (line ∷ ls) ≡ stop_with (length (line ∷ ls)) (said mode defs s line)
stop_line mode defs ls line s o e =
    ap (λ t. or_first t (stop_with (length (line ∷ ls)) (said mode defs (state_of mode defs ls) line))) o
    ∙ ap (λ (t : State). stop_with (length (line ∷ ls)) (said mode defs t line)) (sym e)

items_line : (mode : Mode) (defs : List RecordDef) (ls : List (List ℕ)) (line : List ℕ) (s : State) → s ≡ state_of mode defs ls
    → items_of mode defs (line ∷ ls) ≡ with_said (length (line ∷ ls)) (said mode defs s line) (items_of mode defs ls)
items_line mode defs ls line s e = ap (λ (t : State). with_said (length (line ∷ ls)) (said mode defs t line) (items_of mode defs ls)) (sym e)

state_line : (mode : Mode) (defs : List RecordDef) (ls : List (List ℕ)) (line : List ℕ) (s : State) → s ≡ state_of mode defs ls
    → state_after (said mode defs s line) s ≡ state_of mode defs (line ∷ ls)
state_line mode defs ls line s e = ap (λ (t : State). state_after (said mode defs t line) t) e

pub taken_line : (p : Past) (left line rest : List ℕ) → IsTaken p left → left ≡ line ++ 10 ∷ rest → is_one_line line ≡ true → length line ≤ 4096 → IsTaken (with_line line p) rest
taken_line p left line rest t stood one short = record { cut = cut_more p.taken line rest p.lines left t.cut stood one; short = (short, t.short); within = t.within }

taken_bytes : (p : Past) (left bytes : List ℕ) → IsTaken p left → length p.taken + length bytes ≤ 2 ^ 40 → IsTaken (with_bytes bytes p) (left ++ bytes)
taken_bytes p left bytes t within =
    let n = length-append p.taken bytes in
    let whole = t.cut.whole in
    record {
      cut = record { whole = ap (λ (l : List ℕ). l ++ bytes) whole ∙ append_assoc (joined p.lines) left bytes; each = t.cut.each };
      short = t.short;
      within = omega (arith, n, within);
    }

-- the reader once this line was judged
abbrev after_line : List RecordDef → Kept → List ℕ → List ℕ → Item → Kept
after_line defs k line rest item = record k { item = item; state = state_after (said k.mode defs k.state line) k.state; left = rest; lines = k.lines + 1 }

stands_line : (defs : List RecordDef) (k : Kept) (line rest : List ℕ) (told : Item) (p : Past) → StandsFor defs k p → IsTaken (with_line line p) rest
    → stop_with (length (line ∷ p.lines)) (said k.mode defs k.state line) ≡ Open → StandsFor defs (after_line defs k line rest told) (with_line line p)
stands_line defs k line rest told p s t o =
    let n = s.count in
    record {
      bytes = t;
      is_open = stop_line k.mode defs p.lines line k.state s.is_open s.state ∙ o;
      state = state_line k.mode defs p.lines line k.state s.state;
      count = omega (arith, n);
      number = s.number;
    }

stands_bytes : (defs : List RecordDef) (k : Kept) (bytes : List ℕ) (p : Past) → StandsFor defs k p → k.taken + length bytes ≤ 2 ^ 40
    → StandsFor defs (record k { left = k.left ++ bytes; taken = k.taken + length bytes }) (with_bytes bytes p)
stands_bytes defs k bytes p s within =
    let n = s.number in
    let m = length-append p.taken bytes in
    record {
      bytes = taken_bytes p k.left bytes s.bytes (omega (arith, n, within));
      is_open = s.is_open;
      state = s.state;
      count = s.count;
      number = omega (arith, n, m);
    }

-- nothing has happened yet
pub none_yet : (defs : List RecordDef) (start : Option (List ℕ)) (p : Past) (k : Kept) (left : Option (List ℕ)) → IsRead defs start k p left → WentOn defs start p k left
none_yet defs start p k left r = record { past = p; read = r; more = []; lines = refl; same = refl }

-- a line that is skipped
skipped : (defs : List RecordDef) (start : Option (List ℕ)) (p : Past) (k : Kept) (line rest : List ℕ) (told : Item) (was : Option (List ℕ)) (w : WentOn defs start p k was) → IsTaken (with_line line w.past) rest
    → said k.mode defs k.state line ≡ Ok None → WentOn defs start p (after_line defs k line rest told) was
skipped defs start p k line rest told was w t e = record {
  past = with_line line w.past;
  read = record { stands = stands_line defs k line rest told w.past w.read.stands t (ap (λ s. stop_with (length (line ∷ w.past.lines)) s) e); took = w.read.took };
  more = line ∷ w.more;
  lines = ap (λ (ls : List (List ℕ)). line ∷ ls) w.lines;
  same = items_line k.mode defs w.past.lines line k.state w.read.stands.state
      ∙ ap (λ s. with_said (length (line ∷ w.past.lines)) s (items_of k.mode defs w.past.lines)) e ∙ w.same;
}

judged_taken : (defs : List RecordDef) (start : Option (List ℕ)) (p : Past) (k new : Kept) (line : List ℕ) (was : Option (List ℕ)) (w : WentOn defs start p k was) → Judges defs k new line → IsTaken (with_line line w.past) new.left
judged_taken defs start p k new line was w j = taken_line w.past k.left line new.left w.read.stands.bytes j.stood j.one j.short

-- a step that gives no item
pub went_on : (defs : List RecordDef) (start : Option (List ℕ)) (p : Past) (k new : Kept) (was now : Option (List ℕ)) (before after : ℕ) → WentOn defs start p k was → Steps defs k None new was now before after → WentOn defs start p new now
went_on defs start p k new was now before after w (inl (line, j, e, same)) =
    subst (λ (l : Option (List ℕ)). WentOn defs start p new l) (sym same.0)
    (subst (λ (n : Kept). WentOn defs start p n was) (sym j.after) (skipped defs start p k line new.left new.item was w (judged_taken defs start p k new line was w j) e))
went_on defs start p k new was now before after w (inr r) = subst (λ (n : Kept). WentOn defs start p n now) (sym r.after_them) (record {
  past = with_bytes r.bytes w.past;
  read = record { stands = stands_bytes defs k r.bytes w.past w.read.stands r.within; took = Took-more start was now w.past.taken r.bytes w.read.took r.took };
  more = w.more;
  lines = w.lines;
  same = w.same;
})

pub same_faults : (defs : List RecordDef) (k new : Kept) (was now : Option (List ℕ)) (before after : ℕ) → Steps defs k None new was now before after → after ≡ before
same_faults defs k new was now before after (inl (line, j, e, same)) = same.1
same_faults defs k new was now before after (inr r) = r.same

-- a step that gives an item
item_comes : (defs : List RecordDef) (start : Option (List ℕ)) (p : Past) (k : Kept) (line rest : List ℕ) (told : Item) (was : Option (List ℕ)) (item : Item) (before after : ℕ) (w : WentOn defs start p k was)
    → IsTaken (with_line line w.past) rest → said k.mode defs k.state line ≡ Ok (Some item) → is_end item ≡ false → after ≡ before
    → ComesNext defs start p (nexts.Item item) (after_line defs k line rest told) was before after
item_comes defs start p k line rest told was item before after w t e other same =
    let n = w.read.stands.count in
    let number : length (line ∷ w.past.lines) ≡ k.lines + 1 = omega (arith, n) in
    let is_open : stop_with (length (line ∷ w.past.lines)) (said k.mode defs k.state line) ≡ Open = rw (e, other) refl in (
      with_line line w.past,
      record { stands = stands_line defs k line rest told w.past w.read.stands t is_open; took = w.read.took },
      (line ∷ w.more, ap (λ (ls : List (List ℕ)). line ∷ ls) w.lines),
      items_line k.mode defs w.past.lines line k.state w.read.stands.state
          ∙ ap (λ s. with_said (length (line ∷ w.past.lines)) s (items_of k.mode defs w.past.lines)) e
          ∙ ap (λ (m : ℕ). record { line = m; item = item } ∷ items_of k.mode defs w.past.lines) number
          ∙ ap (λ (is : List Numbered). record { line = k.lines + 1; item = item } ∷ is) w.same,
      other,
      same,
    )

-- a step whose line ends the text
end_comes : (defs : List RecordDef) (start : Option (List ℕ)) (p : Past) (k : Kept) (line rest : List ℕ) (lines : ℕ) (was : Option (List ℕ)) (before after : ℕ) (w : WentOn defs start p k was)
    → IsTaken (with_line line w.past) rest → said k.mode defs k.state line ≡ Ok (Some items.End) → after ≡ before → lines ≡ k.lines + 1 → EndsAt k.mode defs start p End lines was before after
end_comes defs start p k line rest lines was before after w t e same counted = (
  with_line line w.past,
  rest,
  record {
    bytes = t;
    took = w.read.took;
    cause = (
      stop_line k.mode defs w.past.lines line k.state w.read.stands.is_open w.read.stands.state ∙ ap (λ s. stop_with (length (line ∷ w.past.lines)) s) e,
      same,
    );
  },
  (line ∷ w.more, ap (λ (ls : List (List ℕ)). line ∷ ls) w.lines),
  items_line k.mode defs w.past.lines line k.state w.read.stands.state
      ∙ ap (λ s. with_said (length (line ∷ w.past.lines)) s (items_of k.mode defs w.past.lines)) e
      ∙ ap (λ (is : List Numbered). record { line = length (line ∷ w.past.lines); item = items.End } ∷ is) w.same,
  let n = w.read.stands.count in omega (arith, n, counted),
  λ e. cc,
)

bad_comes : (defs : List RecordDef) (start : Option (List ℕ)) (p : Past) (k : Kept) (line rest : List ℕ) (lines : ℕ) (was : Option (List ℕ)) (bad : BadLine) (before after : ℕ) (w : WentOn defs start p k was)
    → IsTaken (with_line line w.past) rest → said k.mode defs k.state line ≡ Err (record { place = bad.place; why = bad.why }) → bad.line ≡ k.lines + 1 → after ≡ before
    → lines ≡ k.lines + 1 → EndsAt k.mode defs start p (Bad bad) lines was before after
bad_comes defs start p k line rest lines was bad before after w t e number same counted =
    let n = w.read.stands.count in
    let count : bad.line ≡ length (line ∷ w.past.lines) = omega (arith, n, number) in (
      with_line line w.past,
      rest,
      record {
        bytes = t;
        took = w.read.took;
        cause = (
          (
            stop_line k.mode defs w.past.lines line k.state w.read.stands.is_open w.read.stands.state
                ∙ ap (λ s. stop_with (length (line ∷ w.past.lines)) s) e
                ∙ ap (λ (m : ℕ). AtBad (record { line = m; place = bad.place; why = bad.why })) (sym count),
            count,
          ),
          same,
        );
      },
      (line ∷ w.more, ap (λ (ls : List (List ℕ)). line ∷ ls) w.lines),
      items_line k.mode defs w.past.lines line k.state w.read.stands.state
          ∙ ap (λ s. with_said (length (line ∷ w.past.lines)) s (items_of k.mode defs w.past.lines)) e
          ∙ w.same,
      omega (arith, n, counted),
      λ e. cc,
    )

-- nothing more was taken
took_nothing : (start was now : Option (List ℕ)) (bytes : List ℕ) → Took start was bytes → Took was now [] → Took start now bytes
took_nothing start was now bytes a b = subst (λ (l : List ℕ). Took start now l) (append-nil bytes) (Took-more start was now bytes [] a b)

-- a step that ends the text
pub ends_at : (defs : List RecordDef) (start : Option (List ℕ)) (p : Past) (k new : Kept) (was now : Option (List ℕ)) (before after : ℕ) (end : TextEnd) → WentOn defs start p k was
    → Steps defs k (Some (nexts.Ended end)) new was now before after → EndsAt k.mode defs start p end new.lines now before after
ends_at defs start p k new was now before after End w (line, j, e, same) =
    subst (λ (l : Option (List ℕ)). EndsAt k.mode defs start p End new.lines l before after) (sym same.0)
    (end_comes defs start p k line new.left new.lines was before after w (judged_taken defs start p k new line was w j) e same.1 (ap (λ (n : Kept). n.lines) j.after))
ends_at defs start p k new was now before after (Bad bad) w (line, j, e, number, same) =
    subst (λ (l : Option (List ℕ)). EndsAt k.mode defs start p (Bad bad) new.lines l before after) (sym same.0)
    (bad_comes defs start p k line new.left new.lines was bad before after w (judged_taken defs start p k new line was w j) e number same.1 (ap (λ (n : Kept). n.lines) j.after))
ends_at defs start p k new was now before after (LineTooLong line) w (long, number, counted, same) =
    let s = w.read.stands in
    let n = s.count in (
      w.past,
      k.left,
      record { bytes = s.bytes; took = rw same.0 w.read.took; cause = ((s.is_open, long, omega (arith, n, number)), same.1) },
      (w.more, w.lines),
      w.same,
      counted ∙ s.count,
      λ e. cc,
    )
ends_at defs start p k new was now before after (CutOff line) w (hungry, number, counted, few, took, spent, same) =
    let s = w.read.stands in
    let n = s.count in
    let m = s.number in (
      w.past,
      k.left,
      record { bytes = s.bytes; took = took_nothing start was now w.past.taken w.read.took took; cause = (((s.is_open, hungry), omega (arith, m, few), spent, omega (arith, n, number)), same) },
      (w.more, w.lines),
      w.same,
      counted ∙ s.count,
      λ e. cc,
    )
ends_at defs start p k new was now before after TooMuch w (hungry, full, counted, same) =
    let s = w.read.stands in
    let m = s.number in (
      w.past,
      k.left,
      record { bytes = s.bytes; took = rw same.0 w.read.took; cause = (((s.is_open, hungry), omega (arith, m, full)), same.1) },
      (w.more, w.lines),
      w.same,
      counted ∙ s.count,
      λ e. cc,
    )
ends_at defs start p k new was now before after ReadFault w (hungry, few, counted, took, rose) =
    let s = w.read.stands in
    let m = s.number in (
      w.past,
      k.left,
      record { bytes = s.bytes; took = took_nothing start was now w.past.taken w.read.took took; cause = ((s.is_open, hungry), omega (arith, m, few), rose) },
      (w.more, w.lines),
      w.same,
      counted ∙ s.count,
      λ e. cc,
    )
ends_at defs start p k new was now before after NoMemory w s = absurd s

-- a step that gives an item or an end
pub comes_next : (defs : List RecordDef) (start : Option (List ℕ)) (p : Past) (k new : Kept) (was now : Option (List ℕ)) (before after : ℕ) (next : NextItem) → new.mode ≡ k.mode → WentOn defs start p k was
    → Steps defs k (Some next) new was now before after → ComesNext defs start p next new now before after
comes_next defs start p k new was now before after (nexts.Item item) m w (line, j, e, other, same) =
    subst (λ (l : Option (List ℕ)). ComesNext defs start p (nexts.Item item) new l before after) (sym same.0)
    (subst (λ (n : Kept). ComesNext defs start p (nexts.Item item) n was before after) (sym j.after)
    (item_comes defs start p k line new.left new.item was item before after w (judged_taken defs start p k new line was w j) e other same.1))
comes_next defs start p k new was now before after (nexts.Ended end) m w s =
    subst (λ (mode : Mode). EndsAt mode defs start p end new.lines now before after) (sym m) (ends_at defs start p k new was now before after end w s)

-- each step lowers the work
pub step_less : (defs : List RecordDef) (k new : Kept) (was now : Option (List ℕ)) (before after : ℕ) → Steps defs k None new was now before after → work new < work k
unfolding work
step_less defs k new was now before after (inl (line, j, e, same)) =
    let n = ap length j.stood in
    let m = length-append line (10 ∷ new.left) in
    let t : new.taken ≡ k.taken = ap (λ (x : Kept). x.taken) j.after in
    rw t (omega (arith, n, m))
step_less defs k new was now before after (inr r) =
    let t : new.taken ≡ k.taken + length r.bytes = ap (λ (x : Kept). x.taken) r.after_them in
    let l : new.left ≡ k.left ++ r.bytes = ap (λ (x : Kept). x.left) r.after_them in
    let n = length-append k.left r.bytes in
    let some = r.some in
    let within = r.within in
    rw (t, l) (omega (arith, n, some, within))

pub next_less : (defs : List RecordDef) (k new : Kept) (was now : Option (List ℕ)) (before after : ℕ) (next : NextItem) → Steps defs k (Some next) new was now before after → Lowers next k new
unfolding work
next_less defs k new was now before after (nexts.Item item) (line, j, e, other, same) =
    let n = ap length j.stood in
    let m = length-append line (10 ∷ new.left) in
    let t : new.taken ≡ k.taken = ap (λ (x : Kept). x.taken) j.after in
    rw t (omega (arith, n, m))
next_less defs k new was now before after (nexts.Ended end) s = tt

pub lowers_more : (next : NextItem) (k mid new : Kept) → work mid ≤ work k → Lowers next mid new → Lowers next k new
lowers_more (nexts.Item item) k mid new l h = omega (arith, l, h)
lowers_more (nexts.Ended end) k mid new l h = tt

-- a reader that will read has no line to judge
no_judge : (defs : List RecordDef) (k new : Kept) (line : List ℕ) → WillRead k → Judges defs k new line → ⊥
no_judge defs k new line h j = has_feed line new.left (subst (λ (l : List ℕ). is_one_line l ≡ true) j.stood h.hungry.one)

pub hungry_reads : (defs : List RecordDef) (k new : Kept) (next : Option NextItem) (was now : Option (List ℕ)) (before after : ℕ)
    → WillRead k → Steps defs k next new was now before after → IsOfRead defs k next new was now before after
hungry_reads defs k new None was now before after h (inl (line, j, e, same)) = absurd (no_judge defs k new line h j)
hungry_reads defs k new None was now before after h (inr r) = r
hungry_reads defs k new (Some (nexts.Item item)) was now before after h s = absurd (no_judge defs k new s.0 h s.1)
hungry_reads defs k new (Some (nexts.Ended End)) was now before after h s = absurd (no_judge defs k new s.0 h s.1)
hungry_reads defs k new (Some (nexts.Ended (Bad bad))) was now before after h s = absurd (no_judge defs k new s.0 h s.1)
hungry_reads defs k new (Some (nexts.Ended (LineTooLong n))) was now before after h s = let a = h.hungry.short in let b = s.0.long in absurd (omega arith)
hungry_reads defs k new (Some (nexts.Ended (CutOff n))) was now before after h s = (s.4, s.5)
hungry_reads defs k new (Some (nexts.Ended TooMuch)) was now before after h s = let a = h.few in let b = s.1 in absurd (omega arith)
hungry_reads defs k new (Some (nexts.Ended ReadFault)) was now before after h s = s.4
hungry_reads defs k new (Some (nexts.Ended NoMemory)) was now before after h s = absurd s

-- a line is no shorter than its text
pub text_short : (line : List ℕ) → length (without_cr line) ≤ length line
text_short [] = omega arith
text_short (b ∷ []) = go (b == 13)
  where
    go : (t : Bool) → length (cond t [] (b ∷ [])) ≤ length (b ∷ [])
    go true = omega arith
    go false = omega arith
text_short (b ∷ c ∷ line) = let r = text_short (c ∷ line) in omega (arith, r)

-- before anything
pub opening_read : (mode : Mode) (defs : List RecordDef) (left : Option (List ℕ)) → IsRead defs left (opening mode) nothing left
opening_read mode defs left = record {
  stands = record { bytes = record { cut = record { whole = refl; each = tt }; short = tt; within = omega arith }; is_open = refl; state = refl; count = refl; number = refl };
  took = Took-none left;
}
