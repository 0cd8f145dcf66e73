-- The text of a generated script comes to END with exactly the items of the script.
use Rattle.std.proofs.Common.{ℕ, zero, suc, ◌≡◌, ◌+◌, ◌*◌, ◌≤◌, ◌<◌, ◌^◌, ◌%◌, Bool, true, false, Some, List, [], ◌∷◌, ◌++◌, length, refl, sym, ◌∙◌, ap, subst, arith, length-append, append_assoc}
use Rattle.std.specs.Prelude.{if◌then◌else◌, ◌==◌, Ok, Option, Result}
use Rattle.std.specs.List.{AllByRecursion}
use Rattle.std.proofs.lemmas.List.{append-nil}
use Rattle.qd_check.specs.Printing.{line_of}
use Rattle.qd_grammar.specs.Canonical.{canonical}
use Rattle.qd_grammar.specs.Lines.{Spells, after, answer_of, first_state}
use Rattle.qd_grammar.specs.declared.fault.Fault.{Fault}
use Rattle.qd_grammar.specs.declared.item.Item.{Item}
use Rattle.qd_grammar.specs.declared.item.Item.TheVariants.{Head, End}
use Rattle.qd_grammar.specs.declared.item.Message.TheVariants.{TickerData, StreamData, HistoryData}
use Rattle.qd_grammar.specs.declared.item.Mode.TheVariants.{File}
use Rattle.qd_grammar.specs.declared.state.State.{State}
use Rattle.qd_items.specs.Judging.{Numbered, Stop, is_end, items_of, or_first, said, state_of, stop_of, stop_with, with_said}
use Rattle.qd_items.specs.Judging.Stop.{Open, AtEnd}
use Rattle.qd_line.specs.Lines.{AreLines}
use Rattle.qd_line.specs.Lines as lines
use Rattle.qd_line.specs.Cutter.{AreShort}
use Rattle.qd_scheme.specs.Builtin.{builtin_defs}
use Rattle.qd_text.specs.Reading.{state_after}
use Rattle.qd_tape.specs.Reading.{AreRead, IsScriptWhole, numbered_behind}
use Rattle.qd_tape.specs.Scripts.{drawn, fed, fed_block, first_items, generated, generated_items, is_taking, lines_text, opening_block, quote_of, three_takes, trade_of, candle_of}
use Rattle.qd_tape.proofs.PlainLines.{IsFine, end_plain, is_plain, plain_line, plain_same, fine-append, first_fine, maybe_fine, heads_fine, quote_fine, trade_fine, candle_fine}
use Rattle.qd_tape.proofs.ScriptLaws.{script_read, drawn_fits}

-- the lines of items behind these, the newest first
abbrev lines_on : List (List ℕ) → List Item → List (List ℕ)
lines_on before [] = before
lines_on before (item ∷ more) = lines_on (canonical builtin_defs item ∷ before) more

joined_on : (before : List (List ℕ)) (items : List Item) → lines.joined (lines_on before items) ≡ lines.joined before ++ lines_text builtin_defs items
joined_on before [] = sym (append-nil (lines.joined before))
joined_on before (item ∷ more) = joined_on (canonical builtin_defs item ∷ before) more ∙ append_assoc (lines.joined before) (line_of builtin_defs item) (lines_text builtin_defs more)

-- a reader of a file has read these items off these lines, and goes on
record HasRead (before : List (List ℕ)) (s : State) (seen : List Numbered) : Type 0 where
  pub state : state_of File builtin_defs before ≡ s
  pub is_open : stop_of File builtin_defs before ≡ Open
  pub items : items_of File builtin_defs before ≡ seen
  pub count : length before ≡ length seen
  pub each : AreLines before
  pub short : AreShort before

-- what the line of an item says
says : (before : List (List ℕ)) (s : State) (item : Item) → state_of File builtin_defs before ≡ s → Spells File s builtin_defs (canonical builtin_defs item) item → is_plain (canonical builtin_defs item) ≡ true
    → said File builtin_defs (state_of File builtin_defs before) (canonical builtin_defs item) ≡ Ok (Some item)
says before s item e sp plain =
    ap (λ (t : State). said File builtin_defs t (canonical builtin_defs item)) e ∙ ap (answer_of File s builtin_defs) (plain_same (canonical builtin_defs item) plain) ∙ rw (sp.counts, sp.judged) refl

state_more : (answer : Result (Option Item) Fault) (s t : State) (item : Item) → answer ≡ Ok (Some item) → s ≡ t → state_after answer s ≡ after item t
state_more answer s t item e f = rw (e, f) refl

stop_more : (answer : Result (Option Item) Fault) (stop : Stop) (item : Item) (n : ℕ) (b : Bool) → answer ≡ Ok (Some item) → stop ≡ Open → is_end item ≡ b → or_first stop (stop_with n answer) ≡ (if b then AtEnd n else Open)
stop_more answer stop item n b e f g = rw (e, f, g) refl

items_more : (answer : Result (Option Item) Fault) (old seen : List Numbered) (item : Item) (n : ℕ) → answer ≡ Ok (Some item) → old ≡ seen → n ≡ length seen + 1 → with_said n answer old ≡ record { line = length seen + 1; item = item } ∷ seen
items_more answer old seen item n e f g = rw (e, f, g) refl

read_more : (before : List (List ℕ)) (s : State) (seen : List Numbered) (item : Item) → HasRead before s seen → Spells File s builtin_defs (canonical builtin_defs item) item → IsFine item
    → HasRead (canonical builtin_defs item ∷ before) (after item s) (record { line = length seen + 1; item = item } ∷ seen)
read_more before s seen item h sp fine =
    let answer = says before s item h.state sp fine.plain in
    let n = h.count in
    let few = fine.short in
    record {
      state = state_more _ _ _ item answer h.state;
      is_open = stop_more _ _ item (length (canonical builtin_defs item ∷ before)) false answer h.is_open fine.goes_on;
      items = items_more _ _ seen item (length (canonical builtin_defs item ∷ before)) answer h.items (omega (arith, n));
      count = omega (arith, n);
      each = (plain_line (canonical builtin_defs item) fine.plain, h.each);
      short = (omega (arith, few), h.short);
    }

-- and has come to END
record HasEnded (before : List (List ℕ)) (items : List Numbered) : Type 0 where
  pub stop : stop_of File builtin_defs before ≡ AtEnd (length before)
  pub said : items_of File builtin_defs before ≡ items
  pub each : AreLines before
  pub short : AreShort before

read_end : (before : List (List ℕ)) (s : State) (seen : List Numbered) → HasRead before s seen → Spells File s builtin_defs (canonical builtin_defs End) End
    → HasEnded (canonical builtin_defs End ∷ before) (record { line = length seen + 1; item = End } ∷ seen)
read_end before s seen h sp =
    let answer = says before s End h.state sp end_plain.0 in
    let n = h.count in
    let few = end_plain.1 in
    record {
      stop = stop_more _ _ End (length (canonical builtin_defs End ∷ before)) true answer h.is_open refl;
      said = items_more _ _ seen End (length (canonical builtin_defs End ∷ before)) answer h.items (omega (arith, n));
      each = (plain_line (canonical builtin_defs End) end_plain.0, h.each);
      short = (omega (arith, few), h.short);
    }

read_on : (before : List (List ℕ)) (s : State) (seen : List Numbered) (items : List Item) → HasRead before s seen → AreRead s builtin_defs (items ++ End ∷ []) → AllByRecursion IsFine items
    → HasEnded (lines_on before (items ++ End ∷ [])) (numbered_behind seen (items ++ End ∷ []))
read_on before s seen [] h (sp, more) fine = read_end before s seen h sp
read_on before s seen (item ∷ items) h (sp, more) (one, fine) =
    read_on (canonical builtin_defs item ∷ before) (after item s) (record { line = length seen + 1; item = item } ∷ seen) items (read_more before s seen item h sp one) more fine

none_read : HasRead [] first_state []
none_read = record { state = refl; is_open = refl; items = refl; count = refl; each = tt; short = tt }

-- how long the text is

text_short : (items : List Item) → AllByRecursion IsFine items → length (lines_text builtin_defs (items ++ End ∷ [])) ≤ 300 * (length items + 1)
text_short [] fine = let n = length-append (canonical builtin_defs End) (10 ∷ []) in let m = length-append (line_of builtin_defs End) [] in let k = end_plain.1 in omega (arith, n, m, k)
text_short (item ∷ items) (one, fine) =
    let n = length-append (canonical builtin_defs item) (10 ∷ []) in
    let m = length-append (line_of builtin_defs item) (lines_text builtin_defs (items ++ End ∷ [])) in
    let k = one.short in
    let r = text_short items fine in
    omega (arith, n, m, k, r)

-- what is fed is plain

one_fine : (b c : Bool) (i x : ℕ) → i < 2 ^ 32 → x < 2 ^ 32 → IsFine (Head (if b then TickerData else (if c then StreamData else HistoryData))) × IsFine (if b then quote_of i x else (if c then trade_of i x else candle_of i x))
one_fine true c i x h k = (heads_fine.0, quote_fine i x h)
one_fine false true i x h k = (heads_fine.1.0, trade_fine i x h k)
one_fine false false i x h k = (heads_fine.1.1.0, candle_fine i x h)

block_fine : (start count i : ℕ) → start < 2 ^ 32 → i < 2 ^ 32 → AllByRecursion IsFine (fed_block start count i)
block_fine start count i h k =
    let one = one_fine (i % 3 == 0) (i % 3 == 1) i (drawn start (suc i)) k (drawn_fits start (suc i) h) in (one.0, (one.1, maybe_fine (is_taking count (i + 1))))

fed_fine : (start count i n : ℕ) → start < 2 ^ 32 → i + n < 2 ^ 32 → AllByRecursion IsFine (fed start count i n)
fed_fine start count i zero h k = tt
fed_fine start count i (suc n) h k = fine-append (fed_block start count i) (fed start count (i + 1) n) (block_fine start count i h (omega arith)) (fed_fine start count (i + 1) n h (omega arith))

takes_few : (b : Bool) → length (if b then three_takes else []) ≤ 3
takes_few true = omega arith
takes_few false = omega arith

fed_few : (start count i n : ℕ) → length (fed start count i n) ≤ 5 * n
fed_few start count i zero = omega arith
fed_few start count i (suc n) =
    let t = takes_few (is_taking count (i + 1)) in
    let m = length-append (fed_block start count i) (fed start count (i + 1) n) in
    let r = fed_few start count (i + 1) n in
    omega (arith, t, m, r)

first_few : length first_items ≡ 45
unfolding first_items
first_few = refl

-- all items but END
abbrev before_end : ℕ → ℕ → List Item
before_end start count = opening_block count ++ fed start count 0 count

script_is : (start count : ℕ) → generated_items start count ≡ before_end start count ++ End ∷ []
script_is start count = sym (append_assoc (opening_block count) (fed start count 0 count) (End ∷ []))

script_fine : (start count : ℕ) → start < 2 ^ 32 → count ≤ 600000 → AllByRecursion IsFine (before_end start count)
script_fine start count h k =
    fine-append (opening_block count) (fed start count 0 count) (fine-append first_items (if count == 0 then three_takes else []) first_fine (maybe_fine (count == 0))) (fed_fine start count 0 count h (omega (arith, k)))

script_few : (start count : ℕ) → count ≤ 600000 → length (before_end start count) ≤ 3000048
script_few start count k =
    let a = length-append (opening_block count) (fed start count 0 count) in
    let b = length-append first_items (if count == 0 then three_takes else []) in
    let c = takes_few (count == 0) in
    let d = fed_few start count 0 count in
    let e = first_few in
    omega (arith, a, b, c, d, e, k)

pub script_whole : IsScriptWhole
unfolding generated
script_whole start count h k =
    let items : List Item = before_end start count in
    let fine : AllByRecursion IsFine items = script_fine start count h k in
    let read : AreRead first_state builtin_defs (items ++ End ∷ []) = subst (AreRead first_state builtin_defs) (script_is start count) (script_read start count h (omega (arith, k))) in
    let ended : HasEnded (lines_on [] (items ++ End ∷ [])) (numbered_behind [] (items ++ End ∷ [])) = read_on [] first_state [] items none_read read fine in
    let text : generated start count ≡ lines_text builtin_defs (items ++ End ∷ []) = ap (lines_text builtin_defs) (script_is start count) in
    let few = script_few start count k in
    let long = text_short items fine in (
      lines_on [] (items ++ End ∷ []),
      record {
        bytes = lines_text builtin_defs (items ++ End ∷ []);
        tail = [];
        rest = [];
        whole = text ∙ sym (append-nil (lines_text builtin_defs (items ++ End ∷ [])));
        taken = record {
          cut = record { whole = sym (joined_on [] (items ++ End ∷ [])) ∙ sym (append-nil (lines.joined (lines_on [] (items ++ End ∷ [])))); each = ended.each };
          short = ended.short;
          within = omega (arith, few, long);
        };
        cause = ended.stop;
      },
      ended.said ∙ ap (numbered_behind []) (sym (script_is start count)),
    )
