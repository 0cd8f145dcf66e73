-- What an item is made of is said by its texts.
use Rattle.std.proofs.Common.{◌≡◌, ℕ, zero, suc, ◌+◌, ◌-◌, ◌^◌, ◌<◌, Bool, true, false, List, [], ◌∷◌, length, take, refl, sym, ◌∙◌, ap, subst, arith}
use Rattle.std.specs.Prelude.{◌||◌, not, slice_get, option_map, decimal, Option, Some}
use Rattle.std.specs.List.{AllByRecursion, list_any}
use Rattle.std.proofs.lemmas.Bool.Decides.{nat_tests}
use lib.IntN.{ℤ, pos, negsuc}
use Rattle.qd_scheme.specs.Names.{name_eq}
use Rattle.qd_scheme.specs.Finding.{number_of_record}
use Rattle.qd_scheme.specs.Schemes.{IsScheme}
use Rattle.qd_scheme.specs.declared.defs.RecordDef.{RecordDef}
use Rattle.qd_scheme.specs.declared.defs.FieldDef.{FieldDef}
use Rattle.qd_scheme.specs.declared.key.Key.{Key}
use Rattle.qd_grammar.specs.Fields.{flags_told, loss_told, hist_at}
use Rattle.qd_grammar.specs.Body.{kinds_of, kinds_at}
use Rattle.qd_grammar.specs.Items.{IsCell, AreCells, IsKeyOf, AreFlags}
use Rattle.qd_grammar.proofs.NumberTexts.{IsInReach}
use Rattle.qd_grammar.proofs.Flags.{flags_pass}
use Rattle.qd_grammar.proofs.PartsAgain.{Says, cell_says, count_says, flags_says, loss_says, symbol_says, record_says}
use Rattle.qd_grammar.proofs.Plain.{plain_scheme}
use Rattle.qd_grammar.proofs.LinesAgain.{AreSaid, IsKeySaid}
use Rattle.qd_grammar.proofs.ControlAgain.{IsNumber, same_text}

-- cells

in_reach : (value : ℤ) → IsCell value → IsInReach value
in_reach (pos n) h = omega arith
in_reach (negsuc n) h = omega arith

cells_are_said : (fields : List FieldDef) (values : List ℤ) → length values ≡ length fields → AllByRecursion IsCell values → AreSaid (kinds_of fields) values
cells_are_said [] [] e h = tt
cells_are_said [] (value ∷ values) e h = let no : ⊥ = omega arith in absurd no
cells_are_said (field ∷ fields) [] e h = let no : ⊥ = omega arith in absurd no
cells_are_said (field ∷ fields) (value ∷ values) e h = (cell_says field.kind value (in_reach value h.0), cells_are_said fields values (omega arith) h.1)

pub cells_facts : (defs : List RecordDef) (rec : ℕ) (def : RecordDef) (values : List ℤ) → slice_get defs rec ≡ Some def → AreCells def.fields values → AreSaid (kinds_at (slice_get defs rec)) values
cells_facts defs rec def values at h = subst (λ (o : Option RecordDef). AreSaid (kinds_at o) values) (sym at) (cells_are_said def.fields values h.count h.each)

-- counts

pub number_facts : (n : ℕ) → n < 2 ^ 63 → IsNumber n
number_facts n h = count_says (2 ^ 63 - 1) n (omega arith) (omega arith)

pub loss_facts : (n : ℕ) → 0 < n → n < 2 ^ 64 → Says loss_told n (decimal n)
loss_facts n h k = loss_says n (omega arith) (grind (arith, nat_tests))

pub flags_facts : (n : ℕ) → AreFlags n → Says flags_told n (decimal n)
flags_facts n h = flags_says n h.few (flags_pass n h)

-- records

neither : (a b : Bool) → (a || b) ≡ false → (a ≡ false) × (b ≡ false)
neither true b e = cc
neither false b e = (refl, e)

-- the number of a record whose name no record before it has
number_there : (defs : List RecordDef) (rec : ℕ) (def : RecordDef) → slice_get defs rec ≡ Some def → list_any (λ d. name_eq d.name def.name) (take rec defs) ≡ false → number_of_record def.name defs ≡ Some rec
number_there [] rec def h n = cc
number_there (d ∷ defs) zero def h n = let e : d ≡ def = cc in let t : name_eq d.name def.name ≡ true = rw e (same_text def.name) in rw t refl
number_there (d ∷ defs) (suc rec) def h n =
    let p = neither (name_eq d.name def.name) (list_any (λ d. name_eq d.name def.name) (take rec defs)) n in
    let one : rec + 1 ≡ suc rec = omega arith in
    rw p.0 (ap (λ (o : Option ℕ). option_map (λ n. n + 1) o) (number_there defs rec def h p.1) ∙ ap (λ m. Some m) one)

pub number_is : (defs : List RecordDef) (rec : ℕ) (def : RecordDef) → IsScheme defs → slice_get defs rec ≡ Some def → number_of_record def.name defs ≡ Some rec
number_is defs rec def s at = number_there defs rec def at (s.records rec def at).new

pub key_facts : (hist : Bool) (defs : List RecordDef) (def : RecordDef) (key : Key) → IsScheme defs → IsKeyOf defs def key → (not hist || def.hist) ≡ true → IsKeySaid hist defs key
unfolding hist_at
key_facts hist defs def key s h test =
    let allowed : (not hist || hist_at defs key.rec) ≡ true = rw h.declared test in
    record {
      rec = record_says hist defs key.rec def (plain_scheme defs s) h.declared (number_is defs key.rec def s h.declared) allowed;
      symbol = symbol_says key.sym h.symbol;
    }
