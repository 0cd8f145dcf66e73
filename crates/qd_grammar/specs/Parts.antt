-- The parts of a line, and how a line is read part by part from the left.
use Rattle.std.specs.Prelude.{ℕ, ◌+◌, ◌==◌, cond, List, [], ◌∷◌, Result, Ok, Err}
use Rattle.qd_grammar.specs.declared.fault.Fault.{Fault}
use Rattle.qd_grammar.specs.declared.fault.Why.{Why}
use Rattle.qd_grammar.specs.declared.fault.Why.TheVariants.{Form}

-- what stands between two TABs, and the place of its first byte, or where that byte would stand
pub record Part : Type 0 where
  pub place : ℕ
  pub bytes : List ℕ

abbrev pub with_front : ℕ → ℕ → List Part → List Part
with_front place byte [] = []
with_front place byte (part ∷ parts) = record { place = place; bytes = byte ∷ part.bytes } ∷ parts

-- the parts of the bytes of a line from a place on
abbrev pub cut : ℕ → List ℕ → List Part
cut place [] = record { place = place; bytes = [] } ∷ []
cut place (byte ∷ bytes) = cond (byte == 9) (record { place = place; bytes = [] } ∷ cut (place + 1) bytes) (with_front place byte (cut (place + 1) bytes))

-- the parts of a line
abbrev pub parts_of : List ℕ → List Part
parts_of line = cut 1 line

abbrev pub fault : {A : Type 0} → ℕ → Why → Result A Fault
fault place why = Err (record { place = place; why = why })

infixl 10 ◌>>=◌
abbrev pub ◌>>=◌ : {A B : Type 0} → Result A Fault → (A → Result B Fault) → Result B Fault
(Ok x) >>= f = f x
(Err e) >>= f = Err e

-- Something is read off the parts that are left: its value and the parts behind it, or the first fault.
-- A missing part is missed at the end of the line.
abbrev pub Reads : Type 0 → Type 0
Reads A = ℕ → List Part → Result (A × List Part) Fault

abbrev pub a_part : Reads Part
a_part end [] = fault end Form
a_part end (part ∷ parts) = Ok (part, parts)

-- A line ends where its parts do.
abbrev pub no_part : ℕ → List Part → Result (Unit {0}) Fault
no_part end [] = Ok tt
no_part end (part ∷ parts) = fault part.place Form
