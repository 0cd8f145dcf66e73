-- Scheme files that say what they should.
use Rattle.std.proofs.Common.{◌≡◌, ℕ, false, List, [], ◌∷◌, ◌++◌, refl}
use Rattle.std.specs.Prelude.{codes, Ok, Err}
use Rattle.qd_grammar.specs.declared.fault.Why.TheVariants.{Form}
use Rattle.qd_scheme.specs.Faults.{scheme_fault}
use Rattle.qd_scheme.specs.declared.defs.FieldKind.TheVariants.{Dec}
use Rattle.qd_scheme.specs.declared.faults.SchemeWhy.TheVariants.{DuplicateName}
use Rattle.qd_text.specs.SchemeLines.{scheme_line}
use Rattle.qd_scheme_file.specs.declared.no_scheme.NoScheme.TheVariants.{Bad, Wrong}
use Rattle.qd_scheme_file.specs.Told.{read_on, told}

-- a record of one price with two digits after the point
bar : List ℕ
bar = codes "=Bar" ++ 9 ∷ codes "P:d2"

one_record : told (bar ++ 10 ∷ []) ≡ Ok (record { name = codes "Bar"; hist = false; fields = record { name = codes "P"; kind = Dec 2 } ∷ [] } ∷ [])
unfolding told read_on scheme_line scheme_fault bar
one_record = refl

-- a last line needs no line feed
no_line_feed : told bar ≡ told (bar ++ 10 ∷ [])
unfolding told read_on scheme_line scheme_fault bar
no_line_feed = refl

-- the second of two records with one name is at fault
twice : told (bar ++ 10 ∷ bar) ≡ Err (Wrong 2 DuplicateName)
unfolding told read_on scheme_line scheme_fault bar
twice = refl

-- a kind that is none
no_kind : told (codes "=Bar" ++ 9 ∷ codes "P:x") ≡ Err (Bad (record { line = 1; place = 6; why = Form }))
unfolding told read_on scheme_line scheme_fault
no_kind = refl

-- a line that describes nothing is told before a record at fault that stands before it
line_first : told (bar ++ 10 ∷ bar ++ 10 ∷ codes "Bar") ≡ Err (Bad (record { line = 3; place = 1; why = Form }))
unfolding told read_on scheme_line scheme_fault bar
line_first = refl
