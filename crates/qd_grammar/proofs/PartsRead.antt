-- What a part that is read gives is what an item has.
use Rattle.std.proofs.Common.{◌≡◌, ℕ, suc, cond, nat_eq, [], ◌∷◌, ◌+◌, ◌-◌, ◌^◌, ◌<◌, ◌≤◌, Bool, true, false, List, refl, sym, ap, subst, arith}
use Rattle.std.specs.Cmp.Lexicographic.{pointwise}
use Rattle.std.proofs.lemmas.Bool.{eqb-true}
use Rattle.std.specs.Prelude.{◌==◌, ◌||◌, ◌&&◌, None, option_map, not, bit_and, slice_get, Option, Some, Result, Ok, Err}
use Rattle.std.proofs.lemmas.Bool.Decides.{nat_tests}
use lib.IntN.{ℤ, pos, negsuc}
use Rattle.qd_decimal.specs.declared.fault.DecFault.{DecFault}
use Rattle.qd_decimal.specs.Reading.{count_of}
use Rattle.qd_scheme.specs.Symbols.{symbol_of}
use Rattle.qd_scheme.specs.Finding.{number_of_record}
use Rattle.qd_scheme.specs.declared.defs.RecordDef.{RecordDef}
use Rattle.qd_scheme.specs.declared.defs.FieldKind.{FieldKind}
use Rattle.qd_grammar.specs.declared.fault.Why.TheVariants.{Form, UnknownRecord, BadFlags}
use Rattle.qd_grammar.specs.Fields.{told_at, number_of_kind, cell_of, count_told, symbol_fault, symbol_told, passing, or_fault, hist_at, record_told, flags_told, loss_told}
use Rattle.qd_grammar.specs.Items.{IsCell, AreFlags, IsSymbolText}
use Rattle.qd_grammar.proofs.Binds.{stepped, some_of, passed, same_ok}
use Rattle.qd_grammar.proofs.NumberTexts.{IsInReach, cell_reach, count_reach}
use Rattle.qd_grammar.proofs.Flags.{passing_flags}
use Rattle.qd_grammar.proofs.SymbolTexts.{symbol_read}

told_ok : {A : Type 0} (place : ℕ) (read : Result A DecFault) (value : A) → told_at place read ≡ Ok value → read ≡ Ok value
told_ok {A = A} place (Ok x) value e = ap (λ (y : A). Ok y) (same_ok _ _ e)
told_ok place (Err f) value e = cc

reached : (value : ℤ) → IsInReach value → IsCell value
reached (pos n) h = omega arith
reached (negsuc n) h = omega arith

pub cell_told : (kind : FieldKind) (place : ℕ) (text : List ℕ) (value : ℤ) → cell_of kind place text ≡ Ok value → IsCell value
cell_told kind place text value e = reached value (cell_reach kind text value (told_ok place (number_of_kind kind text) value e))

pub number_told : (place : ℕ) (text : List ℕ) (n : ℕ) → count_told (2 ^ 63 - 1) place text ≡ Ok n → n < 2 ^ 63
number_told place text n e = let h : n ≤ 2 ^ 63 - 1 = count_reach (2 ^ 63 - 1) text n (told_ok place (count_of (2 ^ 63 - 1) text) n e) in omega arith

pub are_flags_told : (place : ℕ) (text : List ℕ) (n : ℕ) → flags_told place text ≡ Ok n → AreFlags n
are_flags_told place text n e =
    let s = stepped (told_at place (count_of 255 text)) (λ m. passing (bit_and m 160 == 0) m place BadFlags) n e in
    let t = passed (bit_and s.of_first 160 == 0) s.of_first n place BadFlags s.rest in
    subst AreFlags t.same (passing_flags s.of_first (count_reach 255 text s.of_first (told_ok place (count_of 255 text) s.of_first s.was)) t.was)

some_loss : (n : ℕ) → not (n == 0) ≡ true → 0 < n
some_loss n e = grind (arith, nat_tests)

pub is_loss_told : (place : ℕ) (text : List ℕ) (n : ℕ) → loss_told place text ≡ Ok n → (0 < n) × (n < 2 ^ 64)
is_loss_told place text n e =
    let most : ℕ = 2 ^ 64 - 1 in
    let s = stepped (told_at place (count_of most text)) (λ m. passing (not (m == 0)) m place Form) n e in
    let t = passed (not (s.of_first == 0)) s.of_first n place Form s.rest in
    let few : s.of_first ≤ most = count_reach most text s.of_first (told_ok place (count_of most text) s.of_first s.was) in
    subst (λ m. (0 < m) × (m < 2 ^ 64)) t.same (some_loss s.of_first t.was, omega arith)

symbol_fault_ok : (place : ℕ) (read : Result (List ℕ) ℕ) (symbol : List ℕ) → symbol_fault place read ≡ Ok symbol → read ≡ Ok symbol
symbol_fault_ok place (Ok x) symbol e = ap (λ (y : List ℕ). Ok y) (same_ok _ _ e)
symbol_fault_ok place (Err f) symbol e = cc

pub is_symbol_told : (place : ℕ) (text symbol : List ℕ) → symbol_told place text ≡ Ok symbol → IsSymbolText symbol
is_symbol_told place text symbol e = symbol_read text symbol (symbol_fault_ok place (symbol_of text) symbol e)

-- records

same_first : (a b : ℕ) (t u : Bool) → nat_eq a b ≡ t → (t && u) ≡ true → (a ≡ b) × (u ≡ true)
same_first a b true u p q = (eqb-true a b p, q)
same_first a b false u p q = cc

same_texts : (x y : List ℕ) → pointwise nat_eq x y ≡ true → x ≡ y
same_texts [] [] e = refl
same_texts [] (b ∷ y) e = cc
same_texts (a ∷ x) [] e = cc
same_texts (a ∷ x) (b ∷ y) e = let f = same_first a b (nat_eq a b) (pointwise nat_eq x y) refl e in let h : a ≡ b = f.0 in let k : x ≡ y = same_texts x y f.1 in cc

-- the record that a name found
pub record IsFound (defs : List RecordDef) (text : List ℕ) (rec : ℕ) : Type 0 where
  pub def : RecordDef
  pub at : slice_get defs rec ≡ Some def
  pub name : def.name ≡ text

found_later : (o : Option ℕ) (rec : ℕ) → option_map (λ n. n + 1) o ≡ Some rec → (n : ℕ) × ((o ≡ Some n) × (rec ≡ suc n))
found_later None rec e = cc
found_later (Some n) rec e = let h : n + 1 ≡ rec = cc in (n, (refl, omega arith))

found_first : (def : RecordDef) (defs : List RecordDef) (text : List ℕ) (rec : ℕ) (t : Bool) → pointwise nat_eq def.name text ≡ t → cond t (Some 0) (option_map (λ n. n + 1) (number_of_record text defs)) ≡ Some rec → ((n : ℕ) → number_of_record text defs ≡ Some n → IsFound defs text n) → IsFound (def ∷ defs) text rec
found_first def defs text rec true p q later = let z : 0 ≡ rec = cc in record { def = def; at = subst (λ n. slice_get (def ∷ defs) n ≡ Some def) z refl; name = same_texts def.name text p }
found_first def defs text rec false p q later =
    let n = found_later (number_of_record text defs) rec q in
    let f = later n.0 n.1.0 in
    record { def = f.def; at = subst (λ m. slice_get (def ∷ defs) m ≡ Some f.def) (sym n.1.1) f.at; name = f.name }

pub found_record : (defs : List RecordDef) (text : List ℕ) (rec : ℕ) → number_of_record text defs ≡ Some rec → IsFound defs text rec
found_record [] text rec e = cc
found_record (def ∷ defs) text rec e = found_first def defs text rec (pointwise nat_eq def.name text) refl e (λ n k. found_record defs text n k)

-- a record of the scheme, which is one of the history where such alone may stand
pub record IsRecordTold (hist : Bool) (defs : List RecordDef) (rec : ℕ) : Type 0 where
  pub def : RecordDef
  pub declared : slice_get defs rec ≡ Some def
  pub allowed : (not hist || def.hist) ≡ true

pub is_record_told : (hist : Bool) (defs : List RecordDef) (place : ℕ) (text : List ℕ) (rec : ℕ) → record_told hist defs place text ≡ Ok rec → IsRecordTold hist defs rec
unfolding hist_at
is_record_told hist defs place text rec e =
    let s = stepped (or_fault place UnknownRecord (number_of_record text defs)) (λ n. passing (not hist || hist_at defs n) n place Form) rec e in
    let t = passed (not hist || hist_at defs s.of_first) s.of_first rec place Form s.rest in
    let f = found_record defs text s.of_first (some_of place UnknownRecord (number_of_record text defs) s.of_first s.was) in
    let allowed : (not hist || f.def.hist) ≡ true = rw f.at at t.was in
    subst (IsRecordTold hist defs) t.same (record { def = f.def; declared = f.at; allowed = allowed })
