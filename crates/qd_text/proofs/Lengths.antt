-- How long the parts of canonical lines are.
use Rattle.std.proofs.Common.{◌≡◌, ℕ, ◌+◌, ◌≤◌, Bool, true, false, cond, List, [], ◌∷◌, ◌++◌, length, get_or, ap, arith, length-append}
use Rattle.std.specs.Prelude.{◌&&◌, nat_le, slice_get, All, Some}
use Rattle.std.specs.List.{list_all}
use Rattle.std.proofs.lemmas.Bool.Decides.{nat_tests}
use Rattle.std.proofs.lemmas.Option.{slice_get-get_or}
use Rattle.qd_scheme.specs.Names.{is_name, is_letter, is_name_byte}
use Rattle.qd_scheme.specs.Schemes.{IsScheme}
use Rattle.qd_scheme.specs.declared.defs.FieldDef.{FieldDef}
use Rattle.qd_scheme.specs.declared.defs.RecordDef.{RecordDef}
pub use Rattle.qd_decimal.proofs.Fractions.{text_short, count_short}

second : (a b : Bool) → (a && b) ≡ true → b ≡ true
second true b e = e
second false b e = cc

short_if : (name : List ℕ) → is_name name ≡ true → length name ≤ 32
short_if [] e = omega arith
short_if (first ∷ others) e = let h = second (is_letter first && list_all is_name_byte others) (nat_le (length others) 31) e in let n : length others ≤ 31 = grind (arith, nat_tests) in omega arith

-- a name of a scheme has at most 32 bytes
pub name_short : (defs : List RecordDef) (rec : ℕ) (def : RecordDef) → IsScheme defs → slice_get defs rec ≡ Some def → length def.name ≤ 32
name_short defs rec def s e = short_if def.name (s.records rec def e).named

-- so have the names of its fields
pub named_fields : (defs : List RecordDef) (rec : ℕ) (def : RecordDef) → IsScheme defs → slice_get defs rec ≡ Some def → All (λ (f : FieldDef). length f.name ≤ 32) def.fields
named_fields defs rec def s e = λ k d h. short_if (get_or def.fields k d).name ((s.records rec def e).fields k (get_or def.fields k d) (slice_get-get_or def.fields k d h)).named

-- a text that was appended, or was not for want of room
pub either_short : (done : Bool) (old text new : List ℕ) (n : ℕ) → new ≡ cond done (old ++ text) old → length text ≤ n → length new ≤ length old + n
either_short true old text new n e h = omega (arith, ap length e, length-append old text)
either_short false old text new n e h = omega (arith, ap length e)
