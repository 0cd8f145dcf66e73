-- The names of a scheme can begin a line.
use Rattle.std.proofs.Common.{◌≡◌, ℕ, suc, ◌≤◌, Bool, true, false, List, [], ◌∷◌, ◌++◌, length, take, refl, arith}
use Rattle.std.specs.Prelude.{◌==◌, ◌&&◌, nat_le, codes, slice_get, IsTrue, Some}
use Rattle.std.specs.List.{list_all}
use Rattle.std.proofs.lemmas.Bool.Decides.{nat_tests}
use Rattle.qd_scheme.specs.Names.{is_name, is_letter, is_name_byte}
use Rattle.qd_scheme.specs.Faults.{has_scale}
use Rattle.qd_scheme.specs.Schemes.{IsField, IsScheme}
use Rattle.qd_scheme.specs.declared.defs.FieldKind.{FieldKind}
use Rattle.qd_scheme.specs.declared.defs.FieldKind.TheVariants.{Int, Dec}
use Rattle.qd_scheme.specs.declared.defs.FieldDef.{FieldDef}
use Rattle.qd_scheme.specs.declared.defs.RecordDef.{RecordDef}
use Rattle.qd_grammar.specs.Control.{kind_text, field_text}
use Rattle.qd_grammar.proofs.Flags.{both}
use Rattle.qd_grammar.proofs.Tabs.{HasNoTab, no_tab-append}
use Rattle.qd_grammar.proofs.NumberTexts.{no_tab-decimal}
use Rattle.qd_grammar.proofs.PartsAgain.{IsPlainName, ArePlainFields, ArePlain}

true_of : {b : Bool} → IsTrue b → b ≡ true
true_of h = h

-- a byte of a name is no TAB, and its first one also no `=` and no `#`

letter_not : (b : ℕ) → is_letter b ≡ true → (((b == 61) ≡ false) × ((b == 35) ≡ false)) × ((b == 9) ≡ false)
letter_not b e = ((grind (arith, nat_tests), grind (arith, nat_tests)), grind (arith, nat_tests))

name_byte_not : (b : ℕ) → is_name_byte b ≡ true → (b == 9) ≡ false
name_byte_not b e = grind (arith, nat_tests)

no_tab-name_bytes : (bytes : List ℕ) → list_all is_name_byte bytes ≡ true → HasNoTab bytes
no_tab-name_bytes [] e = tt
no_tab-name_bytes (b ∷ bytes) e = let p = both (is_name_byte b) (list_all is_name_byte bytes) e in (name_byte_not b p.0, no_tab-name_bytes bytes p.1)

plain_name : (name : List ℕ) → is_name name ≡ true → IsPlainName name
plain_name [] e = cc
plain_name (first ∷ others) e =
    let p = both (is_letter first && list_all is_name_byte others) (nat_le (length others) 31) e in
    let q = both (is_letter first) (list_all is_name_byte others) p.0 in
    let n = letter_not first q.0 in
    (n.0, (n.1, no_tab-name_bytes others q.1))

no_tab-name : (name : List ℕ) → is_name name ≡ true → HasNoTab name
no_tab-name [] e = tt
no_tab-name (first ∷ others) e = (plain_name (first ∷ others) e).1

no_tab-kind : (kind : FieldKind) → has_scale kind ≡ true → HasNoTab (kind_text kind)
no_tab-kind Int e = (refl, tt)
no_tab-kind (Dec scale) e = let h : scale ≤ 9 = grind (arith, nat_tests) in (refl, no_tab-decimal scale (omega arith))

no_tab-field : (before : List FieldDef) (field : FieldDef) → IsField before field → HasNoTab (field_text field)
no_tab-field before field h = no_tab-append (field.name ++ codes ":") (kind_text field.kind) (no_tab-append field.name (codes ":") (no_tab-name field.name (true_of h.named)) (refl, tt)) (no_tab-kind field.kind (true_of h.scaled))

plain_fields : (fields : List FieldDef) → ((i : ℕ) (field : FieldDef) → slice_get fields i ≡ Some field → (before : List FieldDef) × IsField before field) → ArePlainFields fields
plain_fields [] h = tt
plain_fields (field ∷ fields) h = let f = h 0 field refl in (no_tab-field f.0 field f.1, plain_fields fields (λ i. h (suc i)))

-- the names of a scheme have no TAB, and none begins with `=` or `#`
pub plain_scheme : (defs : List RecordDef) → IsScheme defs → ArePlain defs
plain_scheme defs s i def at =
    let r = s.records i def at in
    record {
      name = plain_name def.name (true_of r.named);
      fields = plain_fields def.fields (λ j field f. (take j def.fields, r.fields j field f));
    }
