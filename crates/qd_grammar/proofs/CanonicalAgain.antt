-- The texts of an item, joined to a line, are judged as the item.
use Rattle.std.proofs.Common.{◌≡◌, ℕ, suc, ◌+◌, Bool, true, false, cond, List, [], ◌∷◌, ◌++◌, length, refl, sym, ◌∙◌, ap, subst, arith}
use Rattle.std.specs.Prelude.{◌==◌, ◌&&◌, nat_lt, codes, Option, Some, Ok}
use Rattle.std.proofs.lemmas.Bool.Decides.{nat_tests}
use Rattle.std.proofs.Math.Bool.{and-false}
use Rattle.qd_scheme.specs.declared.defs.RecordDef.{RecordDef}
use Rattle.qd_grammar.specs.declared.state.State.{State}
use Rattle.qd_grammar.specs.declared.item.Mode.{Mode}
use Rattle.qd_grammar.specs.declared.item.Message.{Message}
use Rattle.qd_grammar.specs.declared.item.Message.TheVariants.{TickerData, StreamData, HistoryData, StreamLost, TickerAdd, StreamAdd, HistoryAdd, TickerRemove, StreamRemove, HistoryRemove}
use Rattle.qd_grammar.specs.declared.item.Item.{Item}
use Rattle.qd_grammar.specs.declared.word.Word.{Word}
use Rattle.qd_grammar.specs.declared.word.Word.TheVariants as w
use Rattle.qd_grammar.specs.Body.{message_line}
use Rattle.qd_grammar.specs.Control.{protocol_line, control_line, describe_line}
use Rattle.qd_grammar.specs.Lines.{is_skipped, is_control, is_description, first_line, later_line, judged_parts, item_of, Spells}
use Rattle.qd_grammar.specs.Canonical.{behind, joined, texts_of, canonical}
use Rattle.qd_grammar.proofs.Tabs.{HasNoTab, HaveNoTab, placed, parts_of-joined}
use Rattle.qd_grammar.proofs.PartsAgain.{IsPlainName}
use Rattle.qd_grammar.proofs.LinesAgain.{IsAgain, IsBodyAgain, first_part}
use Rattle.qd_grammar.proofs.ControlAgain.{word_text, IsDescribedAgain}

-- how a line begins

begins_control : (bytes : List ℕ) → is_control (61 ∷ 61 ∷ bytes) ≡ true
begins_control bytes = let h : nat_lt 1 (suc (suc (length bytes))) ≡ true = grind (arith, nat_tests) in rw h refl

begins_description : (bytes : List ℕ) → is_description (61 ∷ bytes) ≡ true
begins_description bytes = let h : nat_lt 0 (suc (length bytes)) ≡ true = grind (arith, nat_tests) in rw h refl

no_control : (first second : ℕ) (bytes : List ℕ) → (second == 61) ≡ false → is_control (first ∷ second ∷ bytes) ≡ false
no_control first second bytes e = rw e (and-false (nat_lt 1 (suc (suc (length bytes))) && (first == 61)))

no_description : (first : ℕ) (bytes : List ℕ) → (first == 61) ≡ false → is_description (first ∷ bytes) ≡ false
no_description first bytes e = rw e (and-false (nat_lt 0 (suc (length bytes))))

no_control_first : (first : ℕ) (bytes : List ℕ) → (first == 61) ≡ false → is_control (first ∷ bytes) ≡ false
no_control_first first bytes e = let a = and-false (nat_lt 1 (suc (length bytes))) in rw e (rw a refl)

no_skipped : (first : ℕ) (bytes : List ℕ) → (first == 35) ≡ false → is_skipped (first ∷ bytes) ≡ false
no_skipped first bytes e = let z : (suc (length bytes) == 0) ≡ false = grind (arith, nat_tests) in rw z e

-- the texts of an item's line, which is judged as the item
pub record IsLineAgain (mode : Mode) (s : State) (defs : List RecordDef) (item : Item) : Type 0 where
  word : List ℕ
  rest : List (List ℕ)
  texts : texts_of defs item ≡ word ∷ rest
  no_tab : HasNoTab word
  no_tabs : HaveNoTab rest
  counts : is_skipped (word ++ behind rest) ≡ false
  judged : judged_parts mode s defs (word ++ behind rest) (placed 1 (word ∷ rest)) ≡ Ok item

if_true : {A : Type 0} (test : Bool) (x y z : A) → test ≡ true → x ≡ z → cond test x y ≡ z
if_true test x y z t e = rw t e

-- the first line

pub first_is_again : (mode : Mode) (s : State) (defs : List RecordDef) (item : Item) → s.started ≡ false → IsAgain protocol_line defs item (codes "==PROTOCOL") → IsLineAgain mode s defs item
first_is_again mode s defs item n g =
    let line : List ℕ = codes "==PROTOCOL" ++ behind g.rest in
    record {
      word = codes "==PROTOCOL";
      rest = g.rest;
      texts = g.texts;
      no_tab = (refl, (refl, (refl, (refl, (refl, (refl, (refl, (refl, (refl, (refl, tt))))))))));
      no_tabs = g.no_tabs;
      counts = no_skipped 61 (codes "=PROTOCOL" ++ behind g.rest) refl;
      judged = rw n (g.again (length line + 1) 12);
    }

-- control lines

-- a test of the same, which computes
abbrev has_no_tab : List ℕ → Bool
has_no_tab [] = true
has_no_tab (byte ∷ bytes) = cond (byte == 9) false (has_no_tab bytes)

test_first : (test rest : Bool) → cond test false rest ≡ true → (test ≡ false) × (rest ≡ true)
test_first true rest e = cc
test_first false rest e = (refl, e)

tested : (text : List ℕ) → has_no_tab text ≡ true → HasNoTab text
tested [] e = tt
tested (byte ∷ bytes) e = let t = test_first (byte == 9) (has_no_tab bytes) e in (t.0, tested bytes t.1)

-- a control word begins with two `=`
record IsControlWord (text : List ℕ) : Type 0 where
  others : List ℕ
  begins : text ≡ 61 ∷ 61 ∷ others
  no_tab : HasNoTab others

control_word : (word : Word) → IsControlWord (word_text word)
control_word w.Protocol = record { others = codes "PROTOCOL"; begins = refl; no_tab = tested (codes "PROTOCOL") refl }
control_word (w.Head TickerData) = record { others = codes "TICKER_DATA"; begins = refl; no_tab = tested (codes "TICKER_DATA") refl }
control_word (w.Head StreamData) = record { others = codes "STREAM_DATA"; begins = refl; no_tab = tested (codes "STREAM_DATA") refl }
control_word (w.Head HistoryData) = record { others = codes "HISTORY_DATA"; begins = refl; no_tab = tested (codes "HISTORY_DATA") refl }
control_word (w.Head StreamLost) = record { others = codes "STREAM_LOST"; begins = refl; no_tab = tested (codes "STREAM_LOST") refl }
control_word (w.Head TickerAdd) = record { others = codes "TICKER_ADD_SUBSCRIPTION"; begins = refl; no_tab = tested (codes "TICKER_ADD_SUBSCRIPTION") refl }
control_word (w.Head StreamAdd) = record { others = codes "STREAM_ADD_SUBSCRIPTION"; begins = refl; no_tab = tested (codes "STREAM_ADD_SUBSCRIPTION") refl }
control_word (w.Head HistoryAdd) = record { others = codes "HISTORY_ADD_SUBSCRIPTION"; begins = refl; no_tab = tested (codes "HISTORY_ADD_SUBSCRIPTION") refl }
control_word (w.Head TickerRemove) = record { others = codes "TICKER_REMOVE_SUBSCRIPTION"; begins = refl; no_tab = tested (codes "TICKER_REMOVE_SUBSCRIPTION") refl }
control_word (w.Head StreamRemove) = record { others = codes "STREAM_REMOVE_SUBSCRIPTION"; begins = refl; no_tab = tested (codes "STREAM_REMOVE_SUBSCRIPTION") refl }
control_word (w.Head HistoryRemove) = record { others = codes "HISTORY_REMOVE_SUBSCRIPTION"; begins = refl; no_tab = tested (codes "HISTORY_REMOVE_SUBSCRIPTION") refl }
control_word w.Heartbeat = record { others = codes "HEARTBEAT"; begins = refl; no_tab = tested (codes "HEARTBEAT") refl }
control_word w.End = record { others = codes "END"; begins = refl; no_tab = tested (codes "END") refl }
control_word w.Time = record { others = codes "TIME"; begins = refl; no_tab = tested (codes "TIME") refl }
control_word w.Link = record { others = codes "LINK"; begins = refl; no_tab = tested (codes "LINK") refl }
control_word w.Take = record { others = codes "TAKE"; begins = refl; no_tab = tested (codes "TAKE") refl }
control_word w.Node = record { others = codes "NODE"; begins = refl; no_tab = tested (codes "NODE") refl }
control_word w.At = record { others = codes "AT"; begins = refl; no_tab = tested (codes "AT") refl }
control_word w.Pump = record { others = codes "PUMP"; begins = refl; no_tab = tested (codes "PUMP") refl }
control_word w.Move = record { others = codes "MOVE"; begins = refl; no_tab = tested (codes "MOVE") refl }

pub word_is_again : (mode : Mode) (s : State) (defs : List RecordDef) (item : Item) (known : Word) → s.started ≡ true → IsAgain (λ q rest. control_line mode s q (first_part (word_text known)) rest) defs item (word_text known) → IsLineAgain mode s defs item
word_is_again mode s defs item known n g =
    let word : List ℕ = word_text known in
    let b = control_word known in
    let line : List ℕ = word ++ behind g.rest in
    let begins : line ≡ 61 ∷ 61 ∷ (b.others ++ behind g.rest) = ap (λ (t : List ℕ). t ++ behind g.rest) b.begins in
    let is : is_control line ≡ true = ap is_control begins ∙ begins_control (b.others ++ behind g.rest) in
    record {
      word = word;
      rest = g.rest;
      texts = g.texts;
      no_tab = subst HasNoTab (sym b.begins) (refl, (refl, b.no_tab));
      no_tabs = g.no_tabs;
      counts = ap is_skipped begins ∙ no_skipped 61 (61 ∷ (b.others ++ behind g.rest)) refl;
      judged = if_true s.started (later_line mode s defs line (first_part word) (placed (1 + length word + 1) g.rest)) (first_line (length line + 1) (first_part word) (placed (1 + length word + 1) g.rest)) (Ok item) n (rw is (g.again (length line + 1) (1 + length word + 1)));
    }

-- descriptions and body lines

pub described_line_again : (mode : Mode) (s : State) (defs : List RecordDef) (item : Item) → s.started ≡ true → IsDescribedAgain defs item → IsLineAgain mode s defs item
described_line_again mode s defs item n d = go d.name d.plain d.again
  where
    go : (name : List ℕ) → IsPlainName name → IsAgain (λ q rest. describe_line defs q (first_part (61 ∷ name)) rest) defs item (61 ∷ name) → IsLineAgain mode s defs item
    go [] h g = absurd h
    go (byte ∷ bytes) h g =
        let line : List ℕ = 61 ∷ byte ∷ (bytes ++ behind g.rest) in
        let c : is_control line ≡ false = no_control 61 byte (bytes ++ behind g.rest) h.0.0 in
        let d : is_description line ≡ true = begins_description (byte ∷ (bytes ++ behind g.rest)) in
        record {
          word = 61 ∷ byte ∷ bytes;
          rest = g.rest;
          texts = g.texts;
          no_tab = (refl, h.1);
          no_tabs = g.no_tabs;
          counts = no_skipped 61 (byte ∷ (bytes ++ behind g.rest)) refl;
          judged = rw n (rw c (rw d (g.again (length line + 1) (1 + length (61 ∷ byte ∷ bytes) + 1))));
        }

-- the current message of a body line, under which its texts are read as the item
pub record IsUnder (current : Option Message) (defs : List RecordDef) (item : Item) : Type 0 where
  pub message : Message
  pub is : current ≡ Some message
  pub again : IsBodyAgain (message_line defs message) defs item

pub body_line_again : (mode : Mode) (s : State) (defs : List RecordDef) (item : Item) → s.started ≡ true → IsUnder s.message defs item → IsLineAgain mode s defs item
body_line_again mode s defs item n u = go u.again.name u.again.plain u.again.again
  where
    go : (name : List ℕ) → IsPlainName name → IsAgain (λ q rest. message_line defs u.message q (first_part name ∷ rest)) defs item name → IsLineAgain mode s defs item
    go [] h g = absurd h
    go (byte ∷ bytes) h g =
        let line : List ℕ = byte ∷ (bytes ++ behind g.rest) in
        let c : is_control line ≡ false = no_control_first byte (bytes ++ behind g.rest) h.0.0 in
        let d : is_description line ≡ false = no_description byte (bytes ++ behind g.rest) h.0.0 in
        let m : s.message ≡ Some u.message = u.is in
        record {
          word = byte ∷ bytes;
          rest = g.rest;
          texts = g.texts;
          no_tab = h.1;
          no_tabs = g.no_tabs;
          counts = no_skipped byte (bytes ++ behind g.rest) h.0.1;
          judged = rw n (rw c (rw d (rw m (g.again (length line + 1) (1 + length (byte ∷ bytes) + 1)))));
        }

pub spelled_again : (mode : Mode) (s : State) (defs : List RecordDef) (item : Item) → IsLineAgain mode s defs item → Spells mode s defs (canonical defs item) item
unfolding canonical item_of
spelled_again mode s defs item g =
    let line : List ℕ = g.word ++ behind g.rest in
    let same : joined (texts_of defs item) ≡ line = ap joined g.texts in
    subst (λ (l : List ℕ). Spells mode s defs l item) (sym same)
    (record { counts = g.counts; judged = ap (judged_parts mode s defs line) (parts_of-joined g.word g.rest g.no_tab g.no_tabs) ∙ g.judged })
