-- The texts of an item of a control line or a description are read as the item.
use Rattle.std.proofs.Common.{◌≡◌, ℕ, ◌+◌, ◌-◌, ◌^◌, Bool, true, false, cond, List, [], ◌∷◌, length, map, nat_eq, refl, sym, ◌∙◌, ap, subst}
use Rattle.std.specs.Prelude.{decimal, slice_get, codes, Some, Ok}
use Rattle.std.specs.Cmp.Lexicographic.{pointwise}
use Rattle.std.proofs.lemmas.Bool.{eq-eqb}
use Rattle.qd_scheme.specs.Finding.{number_of_record}
use Rattle.qd_scheme.specs.declared.defs.FieldDef.{FieldDef}
use Rattle.qd_scheme.specs.declared.defs.RecordDef.{RecordDef}
use Rattle.qd_grammar.specs.declared.fault.Why.TheVariants.{Form, UnknownRecord}
use Rattle.qd_grammar.specs.declared.state.State.{State}
use Rattle.qd_grammar.specs.declared.item.Mode.{Mode}
use Rattle.qd_grammar.specs.declared.item.Message.TheVariants.{TickerData, StreamData, HistoryData, StreamLost, TickerAdd, StreamAdd, HistoryAdd, TickerRemove, StreamRemove, HistoryRemove}
use Rattle.qd_grammar.specs.declared.item.Collector.{Collector}
use Rattle.qd_grammar.specs.declared.item.Way.{Way}
use Rattle.qd_grammar.specs.declared.item.Item.{Item}
use Rattle.qd_grammar.specs.declared.item.Item.TheVariants.{Protocol, Describe, Time, Take, Move}
use Rattle.qd_grammar.specs.declared.word.Word.{Word}
use Rattle.qd_grammar.specs.declared.word.Word.TheVariants as w
use Rattle.qd_grammar.specs.Words.{word_of, collectors_by_name, ways_by_name}
use Rattle.qd_grammar.specs.Fields.{count_told, word_at, or_fault}
use Rattle.qd_grammar.specs.Control.{number_at, alone, one_number, two_numbers, time_line, take_line, move_line, protocol_line, behind_word, may_come, control_line, field_text, description, description_at, same_parts, describe_line}
use Rattle.qd_grammar.specs.Canonical.{name_at, texts_of, head_text, collector_text, way_text}
use Rattle.qd_grammar.proofs.Steps.{one_done, two_second, time_order, time_done, time_second, take_second, move_third, move_second, tail_of_word, from_word, described, from_record}
use Rattle.qd_grammar.proofs.Binds.{step}
use Rattle.qd_grammar.proofs.Tabs.{HaveNoTab, no_tabs-append, placed}
use Rattle.qd_grammar.proofs.PartsAgain.{Says, says-collector, says-way, IsPlainName, ArePlainFields, IsPlain, ArePlain}
use Rattle.qd_grammar.proofs.LinesAgain.{count_part, word_part, reads, IsAgain, first_part}

-- numbers of control lines

abbrev pub IsNumber : ℕ → Type 0
IsNumber n = Says (count_told (2 ^ 63 - 1)) n (decimal n)

number_again : (n : ℕ) → IsNumber n → (end place : ℕ) (texts : List (List ℕ)) → number_at end (placed place (decimal n ∷ texts)) ≡ Ok (n, placed (place + length (decimal n) + 1) texts)
number_again n h end place texts = reads (count_part (2 ^ 63 - 1)) n (decimal n) h end place (placed (place + length (decimal n) + 1) texts)

-- nothing more behind

pub alone_is_again : (defs : List RecordDef) (x : Item) (word : List ℕ) → texts_of defs x ≡ word ∷ [] → IsAgain (alone x) defs x word
alone_is_again defs x word t = record { rest = []; texts = t; no_tabs = tt; again = λ q p. refl }

-- one number, and two

pub one_is_again : (defs : List RecordDef) (f : ℕ → Item) (n : ℕ) (word : List ℕ) → texts_of defs (f n) ≡ word ∷ decimal n ∷ [] → IsNumber n → IsAgain (one_number f) defs (f n) word
one_is_again defs f n word t h = record {
  rest = decimal n ∷ [];
  texts = t;
  no_tabs = (h.no_tab, tt);
  again = λ q p. step (number_at q (placed p (decimal n ∷ []))) (one_done f q) (n, []) (number_again n h q p []);
}

pub two_is_again : (defs : List RecordDef) (f : ℕ → ℕ → Item) (n m : ℕ) (word : List ℕ) → texts_of defs (f n m) ≡ word ∷ decimal n ∷ decimal m ∷ [] → IsNumber n → IsNumber m → IsAgain (two_numbers f) defs (f n m) word
two_is_again defs f n m word t h k = record {
  rest = decimal n ∷ decimal m ∷ [];
  texts = t;
  no_tabs = (h.no_tab, (k.no_tab, tt));
  again = λ q p.
      let p1 : ℕ = p + length (decimal n) + 1 in
      step (number_at q (placed p (decimal n ∷ decimal m ∷ []))) (two_second f q) (n, placed p1 (decimal m ∷ [])) (number_again n h q p (decimal m ∷ []))
      ∙ step (number_at q (placed p1 (decimal m ∷ []))) (one_done (f n) q) (m, []) (number_again m k q p1 []);
}

-- TIME

pub time_is_again : (defs : List RecordDef) (s : State) (ms : ℕ) → IsNumber ms → time_order s ms ≡ Ok tt → IsAgain (time_line s) defs (Time ms) (codes "==TIME")
time_is_again defs s ms h o = record {
  rest = decimal ms ∷ [];
  texts = refl;
  no_tabs = (h.no_tab, tt);
  again = λ q p.
      step (number_at q (placed p (decimal ms ∷ []))) (time_second s q) (ms, []) (number_again ms h q p [])
      ∙ step (time_order s ms) (time_done q (ms, [])) tt o;
}

-- TAKE

pub take_is_again : (defs : List RecordDef) (c : Collector) (n : ℕ) → IsNumber n → IsAgain take_line defs (Take c n) (codes "==TAKE")
take_is_again defs c n k =
    let h = says-collector c in
    record {
      rest = collector_text c ∷ decimal n ∷ [];
      texts = refl;
      no_tabs = (h.no_tab, (k.no_tab, tt));
      again = λ q p.
          let p1 : ℕ = p + length (collector_text c) + 1 in
          step (word_at collectors_by_name q (placed p (collector_text c ∷ decimal n ∷ []))) (take_second q) (c, placed p1 (decimal n ∷ [])) (reads (word_part collectors_by_name) c (collector_text c) h q p (placed p1 (decimal n ∷ [])))
          ∙ step (number_at q (placed p1 (decimal n ∷ []))) (one_done (Take c) q) (n, []) (number_again n k q p1 []);
    }

-- MOVE

pub move_is_again : (defs : List RecordDef) (n : ℕ) (way : Way) (m : ℕ) → IsNumber n → IsNumber m → IsAgain move_line defs (Move n way m) (codes "==MOVE")
move_is_again defs n way m h k =
    let g = says-way way in
    record {
      rest = decimal n ∷ way_text way ∷ decimal m ∷ [];
      texts = refl;
      no_tabs = (h.no_tab, (g.no_tab, (k.no_tab, tt)));
      again = λ q p.
          let p1 : ℕ = p + length (decimal n) + 1 in
          let p2 : ℕ = p1 + length (way_text way) + 1 in
          step (number_at q (placed p (decimal n ∷ way_text way ∷ decimal m ∷ []))) (move_second q) (n, placed p1 (way_text way ∷ decimal m ∷ [])) (number_again n h q p (way_text way ∷ decimal m ∷ []))
          ∙ step (word_at ways_by_name q (placed p1 (way_text way ∷ decimal m ∷ []))) (move_third q n) (way, placed p2 (decimal m ∷ [])) (reads (word_part ways_by_name) way (way_text way) g q p1 (placed p2 (decimal m ∷ [])))
          ∙ step (number_at q (placed p2 (decimal m ∷ []))) (one_done (Move n way) q) (m, []) (number_again m k q p2 []);
    }

-- PROTOCOL

pub protocol_is_again : (defs : List RecordDef) → IsAgain protocol_line defs Protocol (codes "==PROTOCOL")
unfolding word_at
protocol_is_again defs = record { rest = codes "1" ∷ []; texts = refl; no_tabs = ((refl, tt), tt); again = λ q p. refl }

-- the word that begins a control line
abbrev pub word_text : Word → List ℕ
word_text w.Protocol = codes "==PROTOCOL"
word_text (w.Head message) = head_text message
word_text w.Heartbeat = codes "==HEARTBEAT"
word_text w.End = codes "==END"
word_text w.Time = codes "==TIME"
word_text w.Link = codes "==LINK"
word_text w.Take = codes "==TAKE"
word_text w.Node = codes "==NODE"
word_text w.At = codes "==AT"
word_text w.Pump = codes "==PUMP"
word_text w.Move = codes "==MOVE"

-- the word is known by its text
pub word_known : (word : Word) → word_of (word_text word) ≡ Some word
unfolding word_of
word_known w.Protocol = refl
word_known (w.Head TickerData) = refl
word_known (w.Head StreamData) = refl
word_known (w.Head HistoryData) = refl
word_known (w.Head StreamLost) = refl
word_known (w.Head TickerAdd) = refl
word_known (w.Head StreamAdd) = refl
word_known (w.Head HistoryAdd) = refl
word_known (w.Head TickerRemove) = refl
word_known (w.Head StreamRemove) = refl
word_known (w.Head HistoryRemove) = refl
word_known w.Heartbeat = refl
word_known w.End = refl
word_known w.Time = refl
word_known w.Link = refl
word_known w.Take = refl
word_known w.Node = refl
word_known w.At = refl
word_known w.Pump = refl
word_known w.Move = refl

-- a control line is spelled by its word and the texts behind it

pub control_is_again : (mode : Mode) (s : State) (defs : List RecordDef) (item : Item) (word : Word) → may_come mode word ≡ Ok tt → IsAgain (behind_word word s) defs item (word_text word) → IsAgain (λ q rest. control_line mode s q (first_part (word_text word)) rest) defs item (word_text word)
control_is_again mode s defs item word m g = record {
  rest = g.rest;
  texts = g.texts;
  no_tabs = g.no_tabs;
  again = λ q p.
      step (or_fault 3 Form (word_of (word_text word))) (from_word mode s q (placed p g.rest)) word (rw (word_known word) refl)
      ∙ step (may_come mode word) (tail_of_word s q (placed p g.rest) word) tt m
      ∙ g.again q p;
}

-- descriptions

pub same_text : (text : List ℕ) → pointwise nat_eq text text ≡ true
same_text [] = refl
same_text (b ∷ text) = let h : nat_eq b b ≡ true = eq-eqb b b refl in rw h (same_text text)

same_texts : (texts : List (List ℕ)) (end place : ℕ) → same_parts texts end (placed place texts) ≡ Ok tt
same_texts [] end place = refl
same_texts (text ∷ texts) end place = rw (same_text text) (same_texts texts end (place + length text + 1))

no_tabs-fields : (fields : List FieldDef) → ArePlainFields fields → HaveNoTab (map field_text fields)
no_tabs-fields [] h = tt
no_tabs-fields (field ∷ fields) h = (h.0, no_tabs-fields fields h.1)

no_tabs-star : (hist : Bool) → HaveNoTab (cond hist (codes "*" ∷ []) [])
no_tabs-star true = ((refl, tt), tt)
no_tabs-star false = tt

no_tabs-description : (def : RecordDef) → IsPlain def → HaveNoTab (description def)
no_tabs-description def h = no_tabs-append (cond def.hist (codes "*" ∷ []) []) (map field_text def.fields) (no_tabs-star def.hist) (no_tabs-fields def.fields h.fields)

-- the line of a description: a `=` and a name, and the record's parts
pub record IsDescribedAgain (defs : List RecordDef) (item : Item) : Type 0 where
  pub name : List ℕ
  pub plain : IsPlainName name
  pub again : IsAgain (λ q rest. describe_line defs q (first_part (61 ∷ name)) rest) defs item (61 ∷ name)

pub described_again : (defs : List RecordDef) (rec : ℕ) (def : RecordDef) → ArePlain defs → slice_get defs rec ≡ Some def → number_of_record def.name defs ≡ Some rec → IsDescribedAgain defs (Describe rec)
unfolding describe_line
described_again defs rec def h at number =
    let plain = h rec def at in
    let texts : List (List ℕ) = description_at (slice_get defs rec) in
    let same : texts ≡ description def = ap description_at at in
    let named : name_at (slice_get defs rec) ≡ def.name = ap name_at at in
    record {
      name = def.name;
      plain = plain.name;
      again = record {
        rest = texts;
        texts = ap (λ (n : List ℕ). (61 ∷ n) ∷ texts) named;
        no_tabs = subst HaveNoTab (sym same) (no_tabs-description def plain);
        again = λ q p.
            step (or_fault 2 UnknownRecord (number_of_record def.name defs)) (from_record defs q (placed p texts)) rec (rw number refl)
            ∙ step (described defs q (placed p texts) rec) (λ u. Ok (Describe rec)) tt (same_texts texts q p);
      };
    }
