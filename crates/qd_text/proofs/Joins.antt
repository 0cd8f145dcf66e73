-- Texts joined by TABs, as they are appended one by one.
use Rattle.std.proofs.Common.{◌≡◌, ℕ, zero, suc, ◌+◌, ◌≤◌, ◌<◌, List, [], ◌∷◌, ◌++◌, length, map, get_or, drop, refl, sym, ◌∙◌, ap, subst, arith, append_assoc, length-append}
use Rattle.std.specs.Prelude.{Option, None, slice_get, All}
use Rattle.std.proofs.lemmas.List.{drop_more}
use lib.IntN.{ℤ, pos}
use Rattle.qd_scheme.specs.declared.defs.FieldKind.{FieldKind}
use Rattle.qd_scheme.specs.declared.defs.FieldDef.{FieldDef}
use Rattle.qd_scheme.specs.declared.defs.RecordDef.{RecordDef}
use Rattle.qd_grammar.specs.Body.{kinds_of, kinds_at}
use Rattle.qd_grammar.specs.Control.{field_text}
use Rattle.qd_grammar.specs.Canonical.{behind, joined, cell_text, cell_texts}
use Rattle.qd_text.proofs.Cells.{kinds_left}

pub byte_then : (old : List ℕ) (byte : ℕ) (text : List ℕ) → (old ++ byte ∷ []) ++ text ≡ old ++ byte ∷ text
byte_then old byte text = append_assoc old (byte ∷ []) text

append_none : (xs : List ℕ) → xs ++ [] ≡ xs
append_none [] = refl
append_none (x ∷ xs) = ap (λ (ys : List ℕ). x ∷ ys) (append_none xs)

behind-append : (x y : List (List ℕ)) → behind (x ++ y) ≡ behind x ++ behind y
behind-append [] y = refl
behind-append (text ∷ x) y = ap (λ (ys : List ℕ). 9 ∷ (text ++ ys)) (behind-append x y) ∙ ap (λ (ys : List ℕ). 9 ∷ ys) (sym (append_assoc text (behind x) (behind y)))

-- more parts behind a line
pub more_parts : (old word : List ℕ) (texts more : List (List ℕ)) → (old ++ joined (word ∷ texts)) ++ behind more ≡ old ++ joined (word ∷ (texts ++ more))
more_parts old word texts more =
    append_assoc old (word ++ behind texts) (behind more)
    ∙ ap (λ (ys : List ℕ). old ++ ys) (append_assoc word (behind texts) (behind more) ∙ ap (λ (ys : List ℕ). word ++ ys) (sym (behind-append texts more)))

-- one more part behind a line
pub one_more_part : (old word : List ℕ) (texts : List (List ℕ)) (text : List ℕ) → (old ++ joined (word ∷ texts)) ++ 9 ∷ text ≡ old ++ joined (word ∷ (texts ++ text ∷ []))
one_more_part old word texts text = ap (λ (ys : List ℕ). (old ++ joined (word ∷ texts)) ++ 9 ∷ ys) (sym (append_none text)) ∙ more_parts old word texts (text ∷ [])

pub one_text : (old word : List ℕ) → old ++ word ≡ old ++ joined (word ∷ [])
one_text old word = ap (λ (ys : List ℕ). old ++ ys) (sym (append_none word))

pub two_parts : (old word text : List ℕ) → (old ++ word) ++ 9 ∷ text ≡ old ++ joined (word ∷ text ∷ [])
two_parts old word text = ap (λ (ys : List ℕ). ys ++ 9 ∷ text) (one_text old word) ∙ one_more_part old word [] text

-- cells

first_value : (values : List ℤ) (i : ℕ) (value : ℤ) → i < length values → value ≡ get_or values i (pos 0) → drop i values ≡ value ∷ drop (i + 1) values
first_value values i value h e = drop_more values i (pos 0) h ∙ ap (λ (v : ℤ). v ∷ drop (i + 1) values) (sym e)

pub cells_left : (old : List ℕ) (fields : List FieldDef) (values : List ℤ) (i : ℕ) (field : FieldDef) → i < length fields → i < length values → field ≡ get_or fields i field → (old ++ 9 ∷ cell_text field.kind (get_or values i (pos 0))) ++ behind (cell_texts (kinds_of (drop (i + 1) fields)) (drop (i + 1) values)) ≡ old ++ behind (cell_texts (kinds_of (drop i fields)) (drop i values))
cells_left old fields values i field h k e =
    let value : ℤ = get_or values i (pos 0) in
    let text : List ℕ = cell_text field.kind value in
    let kinds : List FieldKind = kinds_of (drop (i + 1) fields) in
    let rest : List ℤ = drop (i + 1) values in
    append_assoc old (9 ∷ text) (behind (cell_texts kinds rest))
    ∙ ap (λ (xs : List FieldKind). old ++ behind (cell_texts xs (value ∷ rest))) (sym (kinds_left fields i field h e))
    ∙ ap (λ (xs : List ℤ). old ++ behind (cell_texts (kinds_of (drop i fields)) xs)) (sym (first_value values i value k refl))

none_past : {A : Type 0} (xs : List A) (i : ℕ) → length xs ≤ i → drop i xs ≡ []
none_past [] zero h = refl
none_past [] (suc i) h = refl
none_past (x ∷ xs) zero h = absurd (omega arith)
none_past (x ∷ xs) (suc i) h = none_past xs i (omega arith)

cells_none : (kinds : List FieldKind) → cell_texts kinds [] ≡ []
cells_none [] = refl
cells_none (kind ∷ kinds) = refl

pub no_values : (old : List ℕ) (fields : List FieldDef) (values : List ℤ) (i : ℕ) → length values ≤ i → old ≡ old ++ behind (cell_texts (kinds_of (drop i fields)) (drop i values))
no_values old fields values i h =
    sym (append_none old)
    ∙ ap (λ (xs : List (List ℕ)). old ++ behind xs) (sym (ap (λ (xs : List ℤ). cell_texts (kinds_of (drop i fields)) xs) (none_past values i h) ∙ cells_none (kinds_of (drop i fields))))

pub no_fields_left : (old : List ℕ) (fields : List FieldDef) (values : List ℤ) (i : ℕ) → length fields ≤ i → old ≡ old ++ behind (cell_texts (kinds_of (drop i fields)) (drop i values))
no_fields_left old fields values i h = sym (append_none old) ∙ ap (λ (xs : List FieldDef). old ++ behind (cell_texts (kinds_of xs) (drop i values))) (sym (none_past fields i h))

-- a record that is none of the scheme has no cells
pub no_kinds : (defs : List RecordDef) (rec : ℕ) (values : List ℤ) (old : List ℕ) → slice_get defs rec ≡ None → old ≡ old ++ behind (cell_texts (kinds_at (slice_get defs rec)) values)
no_kinds defs rec values old e = sym (append_none old) ∙ ap (λ (o : Option RecordDef). old ++ behind (cell_texts (kinds_at o) values)) (sym e)

-- fields

pub field_parts : (old name kind : List ℕ) → (((old ++ 9 ∷ []) ++ name) ++ 58 ∷ []) ++ kind ≡ old ++ 9 ∷ ((name ++ 58 ∷ []) ++ kind)
field_parts old name kind = simp append_assoc

pub named_field : (fields : List FieldDef) (i : ℕ) (field : FieldDef) → All (λ (f : FieldDef). length f.name ≤ 32) fields → i < length fields → field ≡ get_or fields i field → length field.name ≤ 32
named_field fields i field h k e = subst (λ (f : FieldDef). length f.name ≤ 32) (sym e) (h i field k)

pub fields_left : (old : List ℕ) (fields : List FieldDef) (i : ℕ) (field : FieldDef) → i < length fields → field ≡ get_or fields i field → (old ++ 9 ∷ field_text field) ++ behind (map field_text (drop (i + 1) fields)) ≡ old ++ behind (map field_text (drop i fields))
fields_left old fields i field h e =
    append_assoc old (9 ∷ field_text field) (behind (map field_text (drop (i + 1) fields)))
    ∙ ap (λ (f : FieldDef). old ++ 9 ∷ (field_text f ++ behind (map field_text (drop (i + 1) fields)))) e
    ∙ ap (λ (xs : List FieldDef). old ++ behind (map field_text xs)) (sym (drop_more fields i field h))

pub no_more_fields : (old : List ℕ) (fields : List FieldDef) (i : ℕ) → length fields ≤ i → old ++ behind (map field_text (drop i fields)) ≡ old
no_more_fields old fields i h = ap (λ (xs : List FieldDef). old ++ behind (map field_text xs)) (none_past fields i h) ∙ append_none old

pub starred : (old fields : List ℕ) → (old ++ 9 ∷ 42 ∷ []) ++ fields ≡ old ++ 9 ∷ 42 ∷ fields
starred old fields = append_assoc old (9 ∷ 42 ∷ []) fields

pub described_parts : (old name : List ℕ) (texts : List (List ℕ)) → ((old ++ 61 ∷ []) ++ name) ++ behind texts ≡ old ++ joined ((61 ∷ name) ∷ texts)
described_parts old name texts = simp append_assoc

-- how long what was appended is
pub line_short : (old line : List ℕ) (n : ℕ) → length (old ++ line) ≤ length old + n → length line ≤ n
line_short old line n h = omega (arith, length-append old line)
