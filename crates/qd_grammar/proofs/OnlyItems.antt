-- What a line spells is an item, and one that may stand there.
use Rattle.std.proofs.Common.{◌≡◌, ℕ, ◌+◌, ◌^◌, ◌<◌, ◌≤◌, Bool, true, false, cond, nat_eq, List, [], ◌∷◌, length, drop, refl, sym, ◌∙◌, subst, arith, inl, inr}
use Rattle.std.specs.Prelude.{◌⊎◌, nat_lt, codes, Option, Some, None, Result, Ok, Err}
use Rattle.std.specs.Cmp.Lexicographic.{pointwise}
use Rattle.std.proofs.lemmas.Bool.Decides.{nat_tests}
use Rattle.std.proofs.lemmas.Option.{slice_get_within}
use Rattle.qd_scheme.specs.Finding.{number_of_record}
use Rattle.qd_scheme.specs.declared.defs.RecordDef.{RecordDef}
use Rattle.qd_grammar.specs.declared.fault.Fault.{Fault}
use Rattle.qd_grammar.specs.declared.fault.Why.TheVariants.{Form, UnknownRecord}
use Rattle.qd_grammar.specs.declared.state.State.{State}
use Rattle.qd_grammar.specs.declared.item.Collector.{Collector}
use Rattle.qd_grammar.specs.declared.item.Way.{Way}
use Rattle.qd_grammar.specs.declared.item.Mode.{Mode}
use Rattle.qd_grammar.specs.declared.item.Mode.TheVariants as modes
use Rattle.qd_grammar.specs.declared.item.Message.{Message}
use Rattle.qd_grammar.specs.declared.item.Message.TheVariants.{TickerData, StreamData, HistoryData, StreamLost, TickerAdd, StreamAdd, HistoryAdd, TickerRemove, StreamRemove, HistoryRemove}
use Rattle.qd_grammar.specs.declared.item.Item.{Item}
use Rattle.qd_grammar.specs.declared.item.Item.TheVariants.{Protocol, Head, Describe, Heartbeat, End, Time, Link, Take, Node, At, Pump, Move}
use Rattle.qd_grammar.specs.declared.word.Word.{Word}
use Rattle.qd_grammar.specs.declared.word.Word.TheVariants as w
use Rattle.qd_grammar.specs.Parts.{Part, parts_of, no_part}
use Rattle.qd_grammar.specs.Words.{word_of, collectors_by_name, ways_by_name}
use Rattle.qd_grammar.specs.Fields.{word_at, or_fault}
use Rattle.qd_grammar.specs.Body.{message_line, line_under, body_line}
use Rattle.qd_grammar.specs.Control.{number_at, alone, one_number, two_numbers, in_order, time_line, take_line, move_line, protocol_line, behind_word, may_come, control_line, describe_line}
use Rattle.qd_grammar.specs.Items.{IsItem, IsOneOf, IsUnderOne, data_heads, sub_heads, MayStand}
use Rattle.qd_grammar.specs.Lines.{is_control, is_description, first_line, later_line, judged_parts, item_of}
use Rattle.qd_grammar.specs.Laws.{SpellsItems}
use Rattle.qd_grammar.proofs.Binds.{stepped, some_of, same_ok}
use Rattle.qd_grammar.proofs.PartsRead.{found_record}
use Rattle.qd_grammar.proofs.LinesRead.{number_read, record_line_gives, event_line_gives, sub_line_gives, history_sub_line_gives, hist_sub_line_gives, lost_line_gives}
use Rattle.qd_grammar.proofs.Steps.{one_done, two_second, time_order, time_done, time_second, take_second, move_third, move_second, tail_of_word, from_word, described, from_record}

-- an item that may stand there
abbrev Stands : Mode → State → List RecordDef → Item → Type 0
Stands mode s defs item = IsItem defs item × MayStand mode s defs item

-- body lines

under : (s : State) (message : Message) (messages : List Message) → s.started ≡ true → s.message ≡ Some message → IsOneOf message messages → IsUnderOne s messages
under s message messages n m one = record { started = n; message = message; current = m; one = one }

message_gives : (mode : Mode) (s : State) (defs : List RecordDef) (end : ℕ) (parts : List Part) (item : Item) (message : Message) → s.started ≡ true → s.message ≡ Some message → message_line defs message end parts ≡ Ok item → Stands mode s defs item
message_gives mode s defs end parts item TickerData n m e = record_line_gives defs end parts item (Stands mode s defs) (λ r h. (h, under s TickerData (TickerData ∷ StreamData ∷ []) n m (inl refl))) e
message_gives mode s defs end parts item StreamData n m e = record_line_gives defs end parts item (Stands mode s defs) (λ r h. (h, under s StreamData (TickerData ∷ StreamData ∷ []) n m (inr (inl refl)))) e
message_gives mode s defs end parts item HistoryData n m e = event_line_gives defs end parts item (Stands mode s defs) (λ v h. (h, under s HistoryData (HistoryData ∷ []) n m (inl refl))) e
message_gives mode s defs end parts item StreamLost n m e = lost_line_gives defs end parts item (Stands mode s defs) (λ key k h b. ((h, b), under s StreamLost (StreamLost ∷ []) n m (inl refl))) e
message_gives mode s defs end parts item TickerAdd n m e = sub_line_gives defs end parts item (Stands mode s defs) (λ key h. (h, inl (under s TickerAdd sub_heads n m (inl refl)))) e
message_gives mode s defs end parts item StreamAdd n m e = sub_line_gives defs end parts item (Stands mode s defs) (λ key h. (h, inl (under s StreamAdd sub_heads n m (inr (inl refl))))) e
message_gives mode s defs end parts item HistoryAdd n m e = hist_sub_line_gives defs end parts item (Stands mode s defs) (λ v h b. ((h, b), under s HistoryAdd (HistoryAdd ∷ []) n m (inl refl))) e
message_gives mode s defs end parts item TickerRemove n m e = sub_line_gives defs end parts item (Stands mode s defs) (λ key h. (h, inl (under s TickerRemove sub_heads n m (inr (inr (inl refl)))))) e
message_gives mode s defs end parts item StreamRemove n m e = sub_line_gives defs end parts item (Stands mode s defs) (λ key h. (h, inl (under s StreamRemove sub_heads n m (inr (inr (inr (inl refl))))))) e
message_gives mode s defs end parts item HistoryRemove n m e = history_sub_line_gives defs end parts item (Stands mode s defs) (λ key h. ((h.0, h.1.0), inr (under s HistoryRemove (HistoryRemove ∷ []) n m (inl refl), h))) e

body_gives : (mode : Mode) (s : State) (defs : List RecordDef) (end : ℕ) (parts : List Part) (item : Item) (current : Option Message) → s.started ≡ true → s.message ≡ current → line_under current defs end parts ≡ Ok item → Stands mode s defs item
body_gives mode s defs end parts item None n m e = cc
body_gives mode s defs end parts item (Some message) n m e = message_gives mode s defs end parts item message n m e

alone_is : (item x : Item) (end : ℕ) (parts : List Part) → alone x end parts ≡ Ok item → x ≡ item
alone_is item x end parts e = let s = stepped (no_part end parts) (λ u. Ok x) item e in same_ok _ _ s.rest

-- control lines: what holds of each item of a form holds of what they spell

one_gives : (f : ℕ → Item) (end : ℕ) (parts : List Part) (item : Item) (P : Item → Type 0) → ((n : ℕ) → n < 2 ^ 63 → P (f n)) → one_number f end parts ≡ Ok item → P item
one_gives f end parts item P all e =
    let a = stepped (number_at end parts) (one_done f end) item e in
    let n : ℕ = a.of_first.0 in
    subst P (alone_is item (f n) end a.of_first.1 a.rest) (all n (number_read end parts a.of_first a.was))

two_gives : (f : ℕ → ℕ → Item) (end : ℕ) (parts : List Part) (item : Item) (P : Item → Type 0) → ((n m : ℕ) → (n < 2 ^ 63) × (m < 2 ^ 63) → P (f n m)) → two_numbers f end parts ≡ Ok item → P item
two_gives f end parts item P all e =
    let a = stepped (number_at end parts) (two_second f end) item e in
    let n : ℕ = a.of_first.0 in
    let b = stepped (number_at end a.of_first.1) (one_done (f n) end) item a.rest in
    let m : ℕ = b.of_first.0 in
    subst P (alone_is item (f n m) end b.of_first.1 b.rest) (all n m (number_read end parts a.of_first a.was, number_read end a.of_first.1 b.of_first b.was))

not_back : (s : State) (ms : ℕ) (u : Unit {0}) → time_order s ms ≡ Ok u → s.time ≤ ms
not_back s ms u e = go (nat_lt ms s.time) refl e
  where
    go : (b : Bool) → nat_lt ms s.time ≡ b → in_order (cond b false true) ≡ Ok u → s.time ≤ ms
    go true h e = cc
    go false h e = grind (arith, nat_tests)

time_gives : (s : State) (end : ℕ) (parts : List Part) (item : Item) (P : Item → Type 0) → ((ms : ℕ) → ms < 2 ^ 63 → s.time ≤ ms → P (Time ms)) → time_line s end parts ≡ Ok item → P item
time_gives s end parts item P all e =
    let a = stepped (number_at end parts) (time_second s end) item e in
    let ms : ℕ = a.of_first.0 in
    let b = stepped (time_order s ms) (time_done end a.of_first) item a.rest in
    subst P (alone_is item (Time ms) end a.of_first.1 b.rest) (all ms (number_read end parts a.of_first a.was) (not_back s ms b.of_first b.was))

take_gives : (end : ℕ) (parts : List Part) (item : Item) (P : Item → Type 0) → ((c : Collector) (n : ℕ) → n < 2 ^ 63 → P (Take c n)) → take_line end parts ≡ Ok item → P item
take_gives end parts item P all e =
    let a = stepped (word_at collectors_by_name end parts) (take_second end) item e in
    let c : Collector = a.of_first.0 in
    let b = stepped (number_at end a.of_first.1) (one_done (Take c) end) item a.rest in
    let n : ℕ = b.of_first.0 in
    subst P (alone_is item (Take c n) end b.of_first.1 b.rest) (all c n (number_read end a.of_first.1 b.of_first b.was))

move_gives : (end : ℕ) (parts : List Part) (item : Item) (P : Item → Type 0) → ((n : ℕ) (way : Way) (b : ℕ) → (n < 2 ^ 63) × (b < 2 ^ 63) → P (Move n way b)) → move_line end parts ≡ Ok item → P item
move_gives end parts item P all e =
    let a = stepped (number_at end parts) (move_second end) item e in
    let n : ℕ = a.of_first.0 in
    let v = stepped (word_at ways_by_name end a.of_first.1) (move_third end n) item a.rest in
    let way : Way = v.of_first.0 in
    let b = stepped (number_at end v.of_first.1) (one_done (Move n way) end) item v.rest in
    let m : ℕ = b.of_first.0 in
    subst P (alone_is item (Move n way m) end b.of_first.1 b.rest) (all n way m (number_read end parts a.of_first a.was, number_read end v.of_first.1 b.of_first b.was))

protocol_is : (end : ℕ) (parts : List Part) (item : Item) → protocol_line end parts ≡ Ok item → Protocol ≡ item
protocol_is end parts item e =
    let done : Unit {0} × List Part → Result Item Fault = λ (version : Unit {0} × List Part). alone Protocol end version.1 in
    let a = stepped (word_at {A = Unit {0}} ((codes "1", tt) ∷ []) end parts) done item e in
    alone_is item Protocol end a.of_first.1 a.rest

-- where words stand

in_file : (mode : Mode) (u : Unit {0}) (word : Word) → may_come modes.Down word ≡ may_come modes.Up word → (may_come modes.Up word ≡ Ok u → ⊥) → may_come mode word ≡ Ok u → mode ≡ modes.File
in_file modes.Down u word same never e = absurd (never (sym same ∙ e))
in_file modes.Up u word same never e = absurd (never e)
in_file modes.File u word same never e = refl

no_fault : {A : Type 0} (f : Fault) (x : A) → Err f ≡ Ok x → ⊥
no_fault f x e = cc

head_from : (mode : Mode) (u : Unit {0}) (message : Message) → may_come mode (w.Head message) ≡ Ok u → mode ≡ modes.Up → IsOneOf message data_heads
head_from mode u message e up = go message (subst (λ (m : Mode). may_come m (w.Head message) ≡ Ok u) up e)
  where
    go : (message : Message) → may_come modes.Up (w.Head message) ≡ Ok u → IsOneOf message data_heads
    go TickerData e = inl refl
    go StreamData e = inr (inl refl)
    go HistoryData e = inr (inr (inl refl))
    go StreamLost e = inr (inr (inr (inl refl)))
    go TickerAdd e = cc
    go StreamAdd e = cc
    go HistoryAdd e = cc
    go TickerRemove e = cc
    go StreamRemove e = cc
    go HistoryRemove e = cc

word_gives : (mode : Mode) (s : State) (defs : List RecordDef) (end : ℕ) (parts : List Part) (item : Item) (word : Word) (u : Unit {0}) → s.started ≡ true → may_come mode word ≡ Ok u → behind_word word s end parts ≡ Ok item → Stands mode s defs item
unfolding behind_word
word_gives mode s defs end parts item w.Protocol u n m e = cc
word_gives mode s defs end parts item (w.Head message) u n m e = subst (Stands mode s defs) (alone_is item (Head message) end parts e) (tt, (n, head_from mode u message m))
word_gives mode s defs end parts item w.Heartbeat u n m e = subst (Stands mode s defs) (alone_is item Heartbeat end parts e) (tt, n)
word_gives mode s defs end parts item w.End u n m e = subst (Stands mode s defs) (alone_is item End end parts e) (tt, n)
word_gives mode s defs end parts item w.Time u n m e = time_gives s end parts item (Stands mode s defs) (λ ms h b. (h, ((n, in_file mode u w.Time refl (no_fault _ u) m), b))) e
word_gives mode s defs end parts item w.Link u n m e = one_gives Link end parts item (Stands mode s defs) (λ k h. (h, (n, in_file mode u w.Link refl (no_fault _ u) m))) e
word_gives mode s defs end parts item w.Take u n m e = take_gives end parts item (Stands mode s defs) (λ c k h. (h, (n, in_file mode u w.Take refl (no_fault _ u) m))) e
word_gives mode s defs end parts item w.Node u n m e = two_gives Node end parts item (Stands mode s defs) (λ k l h. (h, (n, in_file mode u w.Node refl (no_fault _ u) m))) e
word_gives mode s defs end parts item w.At u n m e = two_gives At end parts item (Stands mode s defs) (λ k l h. (h, (n, in_file mode u w.At refl (no_fault _ u) m))) e
word_gives mode s defs end parts item w.Pump u n m e = one_gives Pump end parts item (Stands mode s defs) (λ k h. (h, (n, in_file mode u w.Pump refl (no_fault _ u) m))) e
word_gives mode s defs end parts item w.Move u n m e = move_gives end parts item (Stands mode s defs) (λ k way b h. (h, (n, in_file mode u w.Move refl (no_fault _ u) m))) e

control_gives : (mode : Mode) (s : State) (defs : List RecordDef) (end : ℕ) (part : Part) (parts : List Part) (item : Item) → s.started ≡ true → control_line mode s end part parts ≡ Ok item → Stands mode s defs item
control_gives mode s defs end part parts item n e =
    let a = stepped (or_fault 3 Form (word_of part.bytes)) (from_word mode s end parts) item e in
    let b = stepped (may_come mode a.of_first) (tail_of_word s end parts a.of_first) item a.rest in
    word_gives mode s defs end parts item a.of_first b.of_first n b.was b.rest

-- descriptions

describe_gives : (mode : Mode) (s : State) (defs : List RecordDef) (end : ℕ) (part : Part) (parts : List Part) (item : Item) → s.started ≡ true → describe_line defs end part parts ≡ Ok item → Stands mode s defs item
unfolding describe_line
describe_gives mode s defs end part parts item n e =
    let a = stepped (or_fault 2 UnknownRecord (number_of_record (drop 1 part.bytes) defs)) (from_record defs end parts) item e in
    let rec : ℕ = a.of_first in
    let b = stepped (described defs end parts rec) (λ u. Ok (Describe rec)) item a.rest in
    let f = found_record defs (drop 1 part.bytes) rec (some_of 2 UnknownRecord (number_of_record (drop 1 part.bytes) defs) rec a.was) in
    subst (Stands mode s defs) (same_ok _ _ b.rest) (slice_get_within defs rec f.def f.at, n)

-- any line

chosen : {A : Type 0} (test : Bool) (x y z : A) → cond test x y ≡ z → ((test ≡ true) × (x ≡ z)) ⊎ ((test ≡ false) × (y ≡ z))
chosen true x y z e = inl (refl, e)
chosen false x y z e = inr (refl, e)

later_gives : (mode : Mode) (s : State) (defs : List RecordDef) (line : List ℕ) (first : Part) (parts : List Part) (item : Item) → s.started ≡ true → later_line mode s defs line first parts ≡ Ok item → Stands mode s defs item
later_gives mode s defs line first parts item n e =
    let end : ℕ = length line + 1 in
    let body : Result Item Fault = body_line s defs end (first ∷ parts) in
    let description : Result Item Fault = describe_line defs end first parts in
    elim (chosen (is_control line) (control_line mode s end first parts) (cond (is_description line) description body) (Ok item) e) [
      | inl a ↦ control_gives mode s defs end first parts item n a.1
      | inr b ↦ elim (chosen (is_description line) description body (Ok item) b.1) [
        | inl c ↦ describe_gives mode s defs end first parts item n c.1
        | inr d ↦ body_gives mode s defs end (first ∷ parts) item s.message n refl d.1
      ]
    ]

first_gives : (mode : Mode) (s : State) (defs : List RecordDef) (end : ℕ) (first : Part) (parts : List Part) (item : Item) → s.started ≡ false → first_line end first parts ≡ Ok item → Stands mode s defs item
first_gives mode s defs end first parts item n e =
    let a = stepped (in_order (pointwise nat_eq first.bytes (codes "==PROTOCOL"))) (λ u. protocol_line end parts) item e in
    subst (Stands mode s defs) (protocol_is end parts item a.rest) (tt, n)

parts_give : (mode : Mode) (s : State) (defs : List RecordDef) (line : List ℕ) (parts : List Part) (item : Item) → judged_parts mode s defs line parts ≡ Ok item → Stands mode s defs item
parts_give mode s defs line [] item e = cc
parts_give mode s defs line (first ∷ parts) item e = elim (chosen s.started (later_line mode s defs line first parts) (first_line (length line + 1) first parts) (Ok item) e) [
  | inl a ↦ later_gives mode s defs line first parts item a.0 a.1
  | inr b ↦ first_gives mode s defs (length line + 1) first parts item b.0 b.1
]

pub spells_items : SpellsItems
unfolding item_of
spells_items mode s defs line item h = parts_give mode s defs line (parts_of line) item h.judged
