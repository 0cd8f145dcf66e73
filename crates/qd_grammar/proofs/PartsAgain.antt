-- The canonical text of what a part may say says it, at every place.
use Rattle.std.proofs.Common.{◌≡◌, ℕ, ◌-◌, ◌^◌, ◌<◌, ◌≤◌, Bool, true, false, List, [], ◌∷◌, refl, sym, ◌∙◌, ap, subst, arith}
use Rattle.std.specs.Prelude.{◌==◌, ◌||◌, not, decimal, slice_get, bit_and, Option, Some, Result, Ok}
use lib.IntN.{ℤ}
use Rattle.qd_decimal.specs.declared.fault.DecFault.{DecFault}
use Rattle.qd_decimal.specs.Reading.{count_of}
use Rattle.qd_scheme.specs.Symbols.{symbol_of}
use Rattle.qd_scheme.specs.declared.defs.RecordDef.{RecordDef}
use Rattle.qd_scheme.specs.declared.defs.FieldDef.{FieldDef}
use Rattle.qd_scheme.specs.Finding.{number_of_record}
use Rattle.qd_scheme.specs.declared.defs.FieldKind.{FieldKind}
use Rattle.qd_grammar.specs.declared.fault.Fault.{Fault}
use Rattle.qd_grammar.specs.declared.fault.Why.TheVariants.{Form, UnknownRecord, BadFlags}
use Rattle.qd_grammar.specs.declared.item.Collector.{Collector}
use Rattle.qd_grammar.specs.declared.item.Collector.TheVariants as collectors
use Rattle.qd_grammar.specs.declared.item.Way.{Way}
use Rattle.qd_grammar.specs.declared.item.Way.TheVariants as ways
use Rattle.qd_grammar.specs.Words.{collectors_by_name, ways_by_name}
use Rattle.qd_grammar.specs.Fields.{told_at, number_of_kind, cell_of, count_told, symbol_fault, symbol_told, word_told, passing, or_fault, hist_at, record_told, flags_told, loss_told}
use Rattle.qd_grammar.specs.Control.{field_text}
use Rattle.qd_grammar.specs.Canonical.{cell_text, name_at, collector_text, way_text}
use Rattle.qd_grammar.specs.Items.{IsSymbolText}
use Rattle.qd_grammar.proofs.SymbolTexts.{symbol_again, no_tab-symbol}
use Rattle.qd_grammar.proofs.Binds.{step, passes}
use Rattle.qd_grammar.proofs.Tabs.{HasNoTab}
use Rattle.qd_grammar.proofs.NumberTexts.{IsInReach, cell_again, no_tab-cell, number_again, no_tab-number}

-- a text that says a value wherever it stands
pub record Says {A : Type 0} (says : ℕ → List ℕ → Result A Fault) (value : A) (text : List ℕ) : Type 0 where
  pub again : (place : ℕ) → says place text ≡ Ok value
  pub no_tab : HasNoTab text

told_again : {A : Type 0} (place : ℕ) (read : Result A DecFault) (value : A) → read ≡ Ok value → told_at place read ≡ Ok value
told_again place read value e = rw e refl

-- a number in reach is said by its canonical text

pub cell_says : (kind : FieldKind) (value : ℤ) → IsInReach value → Says (cell_of kind) value (cell_text kind value)
cell_says kind value h = record {
  again = λ p. told_again p (number_of_kind kind (cell_text kind value)) value (cell_again kind value h);
  no_tab = no_tab-cell kind value h;
}

pub count_says : (most n : ℕ) → most < 2 ^ 64 → n ≤ most → Says (count_told most) n (decimal n)
count_says most n k h = record {
  again = λ p. told_again p (count_of most (decimal n)) n (number_again most n k h);
  no_tab = no_tab-number most n k h;
}

pub flags_says : (n : ℕ) → n ≤ 255 → (bit_and n 160 == 0) ≡ true → Says flags_told n (decimal n)
flags_says n h test =
    let check : ℕ → ℕ → Result ℕ Fault = λ p m. passing (bit_and m 160 == 0) m p BadFlags in
    let count = count_says 255 n (omega arith) h in
    record {
      again = λ p. step (told_at p (count_of 255 (decimal n))) (check p) n (count.again p) ∙ passes (bit_and n 160 == 0) n p BadFlags test;
      no_tab = count.no_tab;
    }

pub loss_says : (n : ℕ) → n ≤ 2 ^ 64 - 1 → not (n == 0) ≡ true → Says loss_told n (decimal n)
loss_says n h test =
    let most : ℕ = 2 ^ 64 - 1 in
    let check : ℕ → ℕ → Result ℕ Fault = λ p m. passing (not (m == 0)) m p Form in
    let count = count_says most n (omega arith) h in
    record {
      again = λ p. step (told_at p (count_of most (decimal n))) (check p) n (count.again p) ∙ passes (not (n == 0)) n p Form test;
      no_tab = count.no_tab;
    }

-- symbols

symbol_fault_again : (place : ℕ) (read : Result (List ℕ) ℕ) (symbol : List ℕ) → read ≡ Ok symbol → symbol_fault place read ≡ Ok symbol
symbol_fault_again place read symbol e = rw e refl

pub symbol_says : (symbol : List ℕ) → IsSymbolText symbol → Says symbol_told symbol symbol
symbol_says symbol h = record {
  again = λ p. symbol_fault_again p (symbol_of symbol) symbol (symbol_again symbol h);
  no_tab = no_tab-symbol symbol h.printed;
}

-- words

pub says-collector : (c : Collector) → Says (word_told collectors_by_name) c (collector_text c)
says-collector collectors.Ticker = record { again = λ p. refl; no_tab = (refl, (refl, (refl, (refl, (refl, (refl, tt)))))) }
says-collector collectors.Stream = record { again = λ p. refl; no_tab = (refl, (refl, (refl, (refl, (refl, (refl, tt)))))) }
says-collector collectors.History = record { again = λ p. refl; no_tab = (refl, (refl, (refl, (refl, (refl, (refl, (refl, tt))))))) }

pub says-way : (w : Way) → Says (word_told ways_by_name) w (way_text w)
says-way ways.Up = record { again = λ p. refl; no_tab = (refl, (refl, tt)) }
says-way ways.Down = record { again = λ p. refl; no_tab = (refl, (refl, (refl, (refl, tt)))) }

-- records

-- a name that can begin a body line
abbrev pub IsPlainName : List ℕ → Type 0
IsPlainName [] = ⊥
IsPlainName (byte ∷ bytes) = (((byte == 61) ≡ false) × ((byte == 35) ≡ false)) × HasNoTab (byte ∷ bytes)

abbrev pub ArePlainFields : List FieldDef → Type 0
ArePlainFields [] = Unit {0}
ArePlainFields (field ∷ fields) = HasNoTab (field_text field) × ArePlainFields fields

pub record IsPlain (def : RecordDef) : Type 0 where
  pub name : IsPlainName def.name
  pub fields : ArePlainFields def.fields

abbrev pub ArePlain : List RecordDef → Type 0
ArePlain defs = (i : ℕ) (def : RecordDef) → slice_get defs i ≡ Some def → IsPlain def

no_tab-plain : (name : List ℕ) → IsPlainName name → HasNoTab name
no_tab-plain [] h = absurd h
no_tab-plain (byte ∷ bytes) h = h.1

name_of : (o : Option RecordDef) (def : RecordDef) → o ≡ Some def → name_at o ≡ def.name
name_of o def e = ap name_at e

-- what a record's part says, and that its name can begin a line
pub record SaysRecord (hist : Bool) (defs : List RecordDef) (rec : ℕ) : Type 0 where
  pub says : Says (record_told hist defs) rec (name_at (slice_get defs rec))
  pub plain : IsPlainName (name_at (slice_get defs rec))

pub record_says : (hist : Bool) (defs : List RecordDef) (rec : ℕ) (def : RecordDef) → ArePlain defs → slice_get defs rec ≡ Some def → number_of_record def.name defs ≡ Some rec → (not hist || hist_at defs rec) ≡ true → SaysRecord hist defs rec
record_says hist defs rec def h at number test =
    let check : ℕ → ℕ → Result ℕ Fault = λ p n. passing (not hist || hist_at defs n) n p Form in
    let p = h rec def at in
    let name : name_at (slice_get defs rec) ≡ def.name = name_of (slice_get defs rec) def at in
    let plain : IsPlainName (name_at (slice_get defs rec)) = subst IsPlainName (sym name) p.name in
    let again : number_of_record (name_at (slice_get defs rec)) defs ≡ Some rec = subst (λ (n : List ℕ). number_of_record n defs ≡ Some rec) (sym name) number in
    record {
      says = record {
        again = λ p. step (or_fault p UnknownRecord (number_of_record (name_at (slice_get defs rec)) defs)) (check p) rec (rw again refl) ∙ passes (not hist || hist_at defs rec) rec p Form test;
        no_tab = no_tab-plain (name_at (slice_get defs rec)) plain;
      };
      plain = plain;
    }
