-- An engine reads on.
use Rattle.std.proofs.Common.{ℕ, ◌≡◌, ◌+◌, ◌<◌, ◌⊎◌, inl, inr, Bool, true, false, Option, Some, None, List, [], ◌∷◌, ◌++◌, length, map, refl, sym, ap, ◌∙◌, subst, arith}
use Rattle.std.specs.Prelude.{Result, Ok, Err, is_ok, is_err}
use Rattle.std.proofs.lemmas.List.{append-nil}
use Rattle.qd_grammar.specs.declared.item.Item.{Item}
use Rattle.qd_grammar.specs.declared.item.Item.TheVariants as items
use Rattle.qd_grammar.specs.declared.item.Mode.{Mode}
use Rattle.qd_items.specs.declared.ends.TextEnd.{TextEnd}
use Rattle.qd_items.specs.declared.ends.TextEnd.TheVariants as texts
use Rattle.qd_items.specs.declared.items.NextItem.TheVariants as nexts
use Rattle.qd_items.specs.Ends.{EndsAt, ComesNext, last_items}
use Rattle.qd_items.specs.Judging.{Numbered, items_of}
use Rattle.qd_items.specs.Standing.{Kept, Past, IsRead}
use Rattle.qd_items.specs.Steps as items_steps
use Rattle.qd_items.specs.Steps.{Steps, WillRead}
use Rattle.qd_items.proofs.StepLaws.{none_yet, went_on, same_faults, comes_next, hungry_reads}
use Rattle.qd_scheme.specs.declared.defs.RecordDef.{RecordDef}
use Rattle.qd_path.specs.declared.call.Asked.{Asked}
use Rattle.qd_path.specs.Calls.{Place, mode_of, agent_of, place_of, calls, calls_with, calls_of_items, after}
use Rattle.qd_path.specs.Lists.{Lists}
use Rattle.qd_path.specs.Made.{Made, asked_in}
use Rattle.qd_session.specs.declared.ends.InEnd.TheVariants as ends
use Rattle.qd_session.specs.declared.ends.InTurn.TheVariants as turns
use Rattle.qd_session.specs.Ins.{InKept, InStands, HasRead, Sourced, ReadOn, ReadOut, InCause, IsOfRead, in_end}

step_further : (defs : List RecordDef) (k new : Kept) (was now : Option (List ℕ)) (before after : ℕ) → Steps defs k None new was now before after → (new.lines ≡ k.lines + 1) ⊎ (k.taken < new.taken)
step_further defs k new was now before after (inl (line, j, e, same)) = inl (ap (λ (x : Kept). x.lines) j.after)
step_further defs k new was now before after (inr r) = let a = ap (λ (x : Kept). x.taken) r.after_them in let s = r.some in inr (omega (arith, a, s))

numbers : (a b c d e f x y : ℕ) → (a ≡ b + 1) ⊎ (c < d) → a ≡ x → b ≡ y → c ≡ e → d ≡ f → (x ≡ y + 1) ⊎ (e < f)
numbers a b c d e f x y (inl h) p q r s = inl (omega (arith, h, p, q))
numbers a b c d e f x y (inr h) p q r s = inr (omega (arith, h, r, s))

module _ (defs : List RecordDef) (n : ℕ) (from : Option (List ℕ)) (k : InKept) (new : Kept) (p : Past) (made : List Made) (s t : Sourced) (mode : new.mode ≡ k.items.mode) (unclosed : k.closing ≡ false) (none : k.due ≡ []) (stands : InStands defs n from k p made s.left) where
  read : IsRead defs from k.items p s.left
  read = subst (λ (b : Bool). HasRead b defs k.side from k.items p s.left) unclosed stands.read

  file : new.mode ≡ mode_of k.side
  file = mode ∙ stands.mode

  -- all that the lines ask for was made
  all_made : calls defs k.side n p.lines ≡ map asked_in made
  all_made = stands.asked ∙ ap (λ (d : List Asked). map asked_in made ++ d) none ∙ append-nil (map asked_in made)

  -- no item came
  pub read_went : Steps defs k.items None new s.left t.left s.faults t.faults → ReadOn defs n from (record { side = k.side; items = new; place = k.place; due = k.due; closing = k.closing; ended = k.ended }) p made s t
  read_went steps =
      let w = went_on defs from p k.items new s.left t.left s.faults t.faults (none_yet defs from p k.items s.left read) steps in
      let same : items_of (mode_of k.side) defs w.past.lines ≡ items_of (mode_of k.side) defs p.lines = subst (λ (m : Mode). items_of m defs w.past.lines ≡ items_of m defs p.lines) file w.same in
      record {
        past = w.past;
        stands = record {
          read = subst (λ (b : Bool). HasRead b defs k.side from new w.past t.left) (sym unclosed) w.read;
          mode = file;
          place = stands.place ∙ ap place_of (sym same);
          asked = ap (calls_of_items n (agent_of k.side)) same ∙ stands.asked;
          done = stands.done;
          is_open = stands.is_open;
        };
        further = numbers new.lines k.items.lines k.items.taken new.taken (length p.taken) (length w.past.taken) (length w.past.lines) (length p.lines)
            (step_further defs k.items new s.left t.left s.faults t.faults steps) w.read.stands.count read.stands.count read.stands.number w.read.stands.number;
        same = same_faults defs k.items new s.left t.left s.faults t.faults steps;
      }

  comes : (item : Item) → Steps defs k.items (Some (nexts.Item item)) new s.left t.left s.faults t.faults → ComesNext defs from p (nexts.Item item) new t.left s.faults t.faults
  comes item steps = comes_next defs from p k.items new s.left t.left s.faults t.faults (nexts.Item item) mode (none_yet defs from p k.items s.left read) steps

  -- what lines with one more item ask for
  asked_more : (line : ℕ) (item : Item) (lines : List (List ℕ)) → items_of (mode_of k.side) defs lines ≡ record { line = line; item = item } ∷ items_of (mode_of k.side) defs p.lines
      → calls defs k.side n lines ≡ map asked_in made ++ calls_with n (agent_of k.side) item k.place
  asked_more line item lines these =
      ap (calls_of_items n (agent_of k.side)) these
      ∙ ap (λ (c : List Asked). c ++ calls_with n (agent_of k.side) item (place_of (items_of (mode_of k.side) defs p.lines))) all_made
      ∙ ap (λ (q : Place). map asked_in made ++ calls_with n (agent_of k.side) item q) (sym stands.place)

  -- an item came, and the calls of the group that it ends are due
  pub read_came : (item : Item) (place : Place) (due : List Asked) → Steps defs k.items (Some (nexts.Item item)) new s.left t.left s.faults t.faults
      → place ≡ after item k.place → due ≡ k.due ++ calls_with n (agent_of k.side) item k.place
      → ReadOn defs n from (record { side = k.side; items = new; place = place; due = due; closing = k.closing; ended = k.ended }) p made s t
  read_came item place due steps at are =
      let c = comes item steps in
      let these : items_of (mode_of k.side) defs c.0.lines ≡ record { line = new.lines; item = item } ∷ items_of (mode_of k.side) defs p.lines =
      subst (λ (m : Mode). items_of m defs c.0.lines ≡ record { line = new.lines; item = item } ∷ items_of m defs p.lines) file c.3 in
      let due_is : due ≡ calls_with n (agent_of k.side) item k.place = are ∙ ap (λ (d : List Asked). d ++ calls_with n (agent_of k.side) item k.place) none in
      record {
        past = c.0;
        stands = record {
          read = subst (λ (b : Bool). HasRead b defs k.side from new c.0 t.left) (sym unclosed) c.1;
          mode = file;
          place = at ∙ ap (after item) stands.place ∙ sym (ap place_of these);
          asked = asked_more new.lines item c.0.lines these ∙ ap (λ (d : List Asked). map asked_in made ++ d) (sym due_is);
          done = stands.done;
          is_open = stands.is_open;
        };
        further = inl (let a = ap (λ (x : Kept). x.lines) steps.1.after in let b = c.1.stands.count in let d = read.stands.count in omega (arith, a, b, d));
        same = c.5;
      }

  -- an item came, and there was no memory for its calls
  pub read_came_wanting : (item : Item) → Steps defs k.items (Some (nexts.Item item)) new s.left t.left s.faults t.faults → ReadOut defs n from k.side ends.NoMemory made s t
  read_came_wanting item steps =
      let c = comes item steps in
      let these : items_of (mode_of k.side) defs c.0.lines ≡ record { line = new.lines; item = item } ∷ items_of (mode_of k.side) defs p.lines =
      subst (λ (m : Mode). items_of m defs c.0.lines ≡ record { line = new.lines; item = item } ∷ items_of m defs p.lines) file c.3 in
      record {
        past = c.0;
        rest = new.left;
        later = calls_with n (agent_of k.side) item k.place;
        bytes = c.1.stands.bytes;
        took = c.1.took;
        asked = asked_more new.lines item c.0.lines these;
        cause = λ l. (inl refl, c.5);
      }

  ends_so : (end : TextEnd) → Steps defs k.items (Some (nexts.Ended end)) new s.left t.left s.faults t.faults → EndsAt (mode_of k.side) defs from p end new.lines t.left s.faults t.faults
  ends_so end steps = subst (λ (m : Mode). EndsAt m defs from p end new.lines t.left s.faults t.faults) file
      (comes_next defs from p k.items new s.left t.left s.faults t.faults (nexts.Ended end) mode (none_yet defs from p k.items s.left read) steps)

  -- END was judged, and no call is due
  pub read_end : (due : List Asked) → Steps defs k.items (Some (nexts.Ended texts.End)) new s.left t.left s.faults t.faults → due ≡ k.due ++ calls_with n (agent_of k.side) items.End k.place → due ≡ []
      → ReadOut defs n from k.side ends.End made s t
  read_end due steps are empty =
      let e = ends_so texts.End steps in
      let due_is : calls_with n (agent_of k.side) items.End k.place ≡ [] = sym (are ∙ ap (λ (d : List Asked). d ++ calls_with n (agent_of k.side) items.End k.place) none) ∙ empty in
      record {
        past = e.0;
        rest = e.1;
        later = [];
        bytes = e.2.bytes;
        took = e.2.took;
        asked = asked_more (length e.0.lines) items.End e.0.lines e.4 ∙ ap (λ (d : List Asked). map asked_in made ++ d) due_is;
        cause = λ l. (tt, refl, e.2.cause.0, e.2.cause.1);
      }

  -- END was judged, and calls are due
  pub read_closing : (place : Place) (due : List Asked) → Steps defs k.items (Some (nexts.Ended texts.End)) new s.left t.left s.faults t.faults
      → place ≡ after items.End k.place → due ≡ k.due ++ calls_with n (agent_of k.side) items.End k.place
      → ReadOn defs n from (record { side = k.side; items = new; place = place; due = due; closing = true; ended = k.ended }) p made s t
  read_closing place due steps at are =
      let e = ends_so texts.End steps in
      let due_is : due ≡ calls_with n (agent_of k.side) items.End k.place = are ∙ ap (λ (d : List Asked). d ++ calls_with n (agent_of k.side) items.End k.place) none in
      record {
        past = e.0;
        stands = record {
          read = ((e.1, e.2.bytes), e.2.took, e.2.cause.0, e.5);
          mode = file;
          place = at ∙ ap (after items.End) stands.place ∙ sym (ap place_of e.4);
          asked = asked_more (length e.0.lines) items.End e.0.lines e.4 ∙ ap (λ (d : List Asked). map asked_in made ++ d) (sym due_is);
          done = stands.done;
          is_open = stands.is_open;
        };
        further = inl (let a = ap (λ (x : Kept). x.lines) steps.1.after in let b = e.5 in let d = read.stands.count in omega (arith, a, b, d));
        same = e.2.cause.1;
      }

  pub read_end_wanting : Steps defs k.items (Some (nexts.Ended texts.End)) new s.left t.left s.faults t.faults → ReadOut defs n from k.side ends.NoMemory made s t
  read_end_wanting steps =
      let e = ends_so texts.End steps in
      record {
        past = e.0;
        rest = e.1;
        later = calls_with n (agent_of k.side) items.End k.place;
        bytes = e.2.bytes;
        took = e.2.took;
        asked = asked_more (length e.0.lines) items.End e.0.lines e.4;
        cause = λ l. (inl refl, e.2.cause.1);
      }

  ended_with : (end : TextEnd) → EndsAt (mode_of k.side) defs from p end new.lines t.left s.faults t.faults → ((line : ℕ) (before : List Numbered) → last_items end line before ≡ before)
      → ((e : EndsAt (mode_of k.side) defs from p end new.lines t.left s.faults t.faults) → (l : Lists) → InCause (in_end end) defs k.side e.0 e.1 [] [] l l s t)
      → ReadOut defs n from k.side (in_end end) made s t
  ended_with end e same cause = record {
    past = e.0;
    rest = e.1;
    later = [];
    bytes = e.2.bytes;
    took = e.2.took;
    asked = ap (calls_of_items n (agent_of k.side)) (e.4 ∙ same (length e.0.lines) (items_of (mode_of k.side) defs p.lines)) ∙ all_made ∙ sym (append-nil (map asked_in made));
    cause = cause e;
  }

  -- the text ended before END
  pub read_out : (end : TextEnd) → (end ≡ texts.End → ⊥) → Steps defs k.items (Some (nexts.Ended end)) new s.left t.left s.faults t.faults → ReadOut defs n from k.side (in_end end) made s t
  read_out texts.End early steps = absurd (early refl)
  read_out (texts.CutOff line) early steps = ended_with (texts.CutOff line) (ends_so (texts.CutOff line) steps) (λ l b. refl) (λ e l. let c = e.2.cause in (refl, refl, ((c.0.0, c.0.1, c.0.2, refl), c.1)))
  read_out (texts.Bad bad) early steps = ended_with (texts.Bad bad) (ends_so (texts.Bad bad) steps) (λ l b. refl) (λ e l. (refl, refl, e.2.cause))
  read_out (texts.LineTooLong line) early steps = ended_with (texts.LineTooLong line) (ends_so (texts.LineTooLong line) steps) (λ l b. refl) (λ e l. (refl, refl, e.2.cause))
  read_out texts.TooMuch early steps = ended_with texts.TooMuch (ends_so texts.TooMuch steps) (λ l b. refl) (λ e l. (refl, refl, e.2.cause))
  read_out texts.ReadFault early steps = ended_with texts.ReadFault (ends_so texts.ReadFault steps) (λ l b. refl) (λ e l. (refl, refl, e.2.cause))
  read_out texts.NoMemory early steps = ended_with texts.NoMemory (ends_so texts.NoMemory steps) (λ l b. refl) (λ e l. (inl refl, e.2.cause.2))

-- a result that is no error
pub no_error : {A E : Type 0} (r : Result A E) (b : Bool) → b ≡ is_err r → b ≡ false → is_ok r ≡ true
no_error (Ok a) b e f = refl
no_error (Err x) b e f = absurd (cc)

-- a read that came to bytes
pub read_bytes : (defs : List RecordDef) (k new : Kept) (s t : Sourced) → WillRead k → Steps defs k None new s.left t.left s.faults t.faults → IsOfRead turns.Went s t
read_bytes defs k new s t will steps = let r = hungry_reads defs k new None s.left t.left s.faults t.faults will steps in (r.bytes, r.took, r.some, r.same)

-- a read gives no item
pub read_no_item : (defs : List RecordDef) (k new : Kept) (s t : Sourced) (item : Item) → WillRead k → Steps defs k (Some (nexts.Item item)) new s.left t.left s.faults t.faults → ⊥
read_no_item defs k new s t item will steps = hungry_reads defs k new (Some (nexts.Item item)) s.left t.left s.faults t.faults will steps

-- nor END
pub read_no_end : (defs : List RecordDef) (k new : Kept) (s t : Sourced) → WillRead k → Steps defs k (Some (nexts.Ended texts.End)) new s.left t.left s.faults t.faults → ⊥
read_no_end defs k new s t will steps = hungry_reads defs k new (Some (nexts.Ended texts.End)) s.left t.left s.faults t.faults will steps

-- a read that ended the text
pub read_ended : (defs : List RecordDef) (k new : Kept) (s t : Sourced) (end : TextEnd) → WillRead k → Steps defs k (Some (nexts.Ended end)) new s.left t.left s.faults t.faults → IsOfRead (turns.Ended (in_end end)) s t
read_ended defs k new s t end will steps = told end (hungry_reads defs k new (Some (nexts.Ended end)) s.left t.left s.faults t.faults will steps)
  where
    told : (end : TextEnd) → items_steps.IsOfRead defs k (Some (nexts.Ended end)) new s.left t.left s.faults t.faults → IsOfRead (turns.Ended (in_end end)) s t
    told texts.End r = r
    told (texts.CutOff line) r = r
    told (texts.Bad bad) r = r
    told (texts.LineTooLong line) r = r
    told texts.TooMuch r = r
    told texts.ReadFault r = r
    told texts.NoMemory r = r
