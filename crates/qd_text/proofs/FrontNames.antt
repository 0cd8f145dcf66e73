-- A line that begins with the name of a record and a TAB, or that is the name, says that record.
use Rattle.std.proofs.Common.{◌≡◌, ℕ, zero, suc, ◌+◌, ◌-◌, ◌≤◌, ◌<◌, Bool, true, false, nat_eq, List, [], ◌∷◌, ◌++◌, length, take, drop, slice_range, refl, sym, ◌∙◌, ap, arith}
use Rattle.std.specs.Prelude.{◌==◌, ◌&&◌, ◌||◌, not, nat_le, Option, Some, option_map, Ok, slice_get}
use Rattle.std.specs.List.{prefix_len, list_any, list_all, starts_with}
use Rattle.std.specs.Cmp.Lexicographic.{pointwise}
use Rattle.std.proofs.lemmas.Bool.Decides.{nat_tests}
use Rattle.qd_decimal.specs.Fronts.{ends_part}
use Rattle.qd_decimal.proofs.AtFront.{AreInside, part_ends}
use Rattle.qd_scheme.specs.Names.{name_eq, is_name, is_letter, is_name_byte}
use Rattle.qd_scheme.specs.Finding.{number_of_record}
use Rattle.qd_scheme.specs.Schemes.{IsScheme}
use Rattle.qd_scheme.specs.declared.defs.RecordDef.{RecordDef}
use Rattle.qd_grammar.specs.Fields.{record_at, hist_at}
use Rattle.qd_text.specs.Cursor.{left}
use Rattle.qd_text.proofs.Cuts.{parts_from}

both : (a b : Bool) → (a && b) ≡ true → (a ≡ true) × (b ≡ true)
both true b h = (refl, h)
both false b h = cc

same_byte : (x y : ℕ) → nat_eq x y ≡ true → x ≡ y
same_byte x y h = grind (arith, nat_tests)

byte_itself : (x : ℕ) → nat_eq x x ≡ true
byte_itself x = grind (arith, nat_tests)

same_name : (xs ys : List ℕ) → pointwise nat_eq xs ys ≡ true → xs ≡ ys
same_name [] [] h = refl
same_name [] (y ∷ ys) h = cc
same_name (x ∷ xs) [] h = cc
same_name (x ∷ xs) (y ∷ ys) h =
    let p : (nat_eq x y ≡ true) × (pointwise nat_eq xs ys ≡ true) = both (nat_eq x y) (pointwise nat_eq xs ys) h in
    ap (λ (z : ℕ). z ∷ xs) (same_byte x y p.0) ∙ ap (λ (zs : List ℕ). y ∷ zs) (same_name xs ys p.1)

itself : (xs : List ℕ) → pointwise nat_eq xs xs ≡ true
itself [] = refl
itself (x ∷ xs) = rw (byte_itself x) (itself xs)

neither : (a b : Bool) → (a || b) ≡ false → (a ≡ false) × (b ≡ false)
neither true b h = cc
neither false b h = (refl, h)

-- the number of a record whose name no record before it has
number_there : (defs : List RecordDef) (rec : ℕ) (def : RecordDef) → slice_get defs rec ≡ Some def → list_any (λ d. name_eq d.name def.name) (take rec defs) ≡ false → number_of_record def.name defs ≡ Some rec
number_there [] rec def h n = cc
number_there (d ∷ defs) zero def h n = let e : d ≡ def = cc in let t : name_eq d.name def.name ≡ true = rw e (itself def.name) in rw t refl
number_there (d ∷ defs) (suc rec) def h n =
    let p : (name_eq d.name def.name ≡ false) × (list_any (λ d. name_eq d.name def.name) (take rec defs) ≡ false) = neither (name_eq d.name def.name) (list_any (λ d. name_eq d.name def.name) (take rec defs)) n in
    let one : rec + 1 ≡ suc rec = omega arith in
    rw p.0 (ap (λ (o : Option ℕ). option_map (λ n. n + 1) o) (number_there defs rec def h p.1) ∙ ap (λ m. Some m) one)

letter_inside : (b : ℕ) → is_letter b ≡ true → not (b == 9) ≡ true
letter_inside b h = grind (arith, nat_tests)

byte_inside : (b : ℕ) → is_name_byte b ≡ true → not (b == 9) ≡ true
byte_inside b h = grind (arith, nat_tests)

bytes_inside : (xs : List ℕ) → list_all is_name_byte xs ≡ true → AreInside xs
bytes_inside [] h = tt
bytes_inside (x ∷ xs) h = let p : (is_name_byte x ≡ true) × (list_all is_name_byte xs ≡ true) = both (is_name_byte x) (list_all is_name_byte xs) h in (byte_inside x p.0, bytes_inside xs p.1)

name_inside : (name : List ℕ) → is_name name ≡ true → AreInside name
name_inside [] h = cc
name_inside (x ∷ xs) h =
    let p : ((is_letter x && list_all is_name_byte xs) ≡ true) × (nat_le (length xs) 31 ≡ true) = both (is_letter x && list_all is_name_byte xs) (nat_le (length xs) 31) h in
    let q : (is_letter x ≡ true) × (list_all is_name_byte xs ≡ true) = both (is_letter x) (list_all is_name_byte xs) p.0 in
    (letter_inside x q.0, bytes_inside xs q.1)

-- the record that a line says, where it may stand there
pub near_record : (line : List ℕ) (defs : List RecordDef) (rec : ℕ) (def : RecordDef) (hist : Bool) → IsScheme defs → slice_get defs rec ≡ Some def → (not hist || def.hist) ≡ true → length def.name ≤ length line → starts_with nat_eq line def.name ≡ true → ends_part line (length def.name) ≡ true → Ok (rec, left line (length def.name + 1)) ≡ record_at hist defs (length line + 1) (left line 0)
unfolding record_at hist_at
near_record line defs rec def hist s g h l b e =
    let r = s.records rec def g in
    let front : take (length def.name) line ≡ def.name = sym (same_name def.name (take (length def.name) line) b) in
    let to : length def.name ≡ 0 + prefix_len (λ b. not (b == 9)) (drop 0 line) = part_ends line def.name (length def.name) l front (name_inside def.name r.named) e ∙ omega arith in
    let zero : length def.name - 0 ≡ length def.name = omega arith in
    let number : number_of_record (slice_range line 0 (length def.name)) defs ≡ Some rec = ap (λ n. number_of_record (take n line) defs) zero ∙ ap (λ (t : List ℕ). number_of_record t defs) front ∙ number_there defs rec def g r.new in
    rw (parts_from line 0 (length def.name) (omega arith) to) (rw number (rw g (rw h refl)))

pub near_known : (defs : List RecordDef) (rec : ℕ) (def : RecordDef) → slice_get defs rec ≡ Some def → rec < length defs
near_known [] rec def e = cc
near_known (d ∷ defs) zero def e = omega arith
near_known (d ∷ defs) (suc rec) def e = omega (arith, near_known defs rec def e)
