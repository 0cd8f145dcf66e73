-- A reading in steps gives a value exactly where each of its steps does.
use Rattle.std.proofs.Common.{◌≡◌, ℕ, Bool, true, false, List, [], ◌∷◌, refl, ◌∙◌, ap}
use Rattle.std.specs.Prelude.{Option, Some, None, Result, Ok, Err}
use Rattle.qd_grammar.specs.declared.fault.Fault.{Fault}
use Rattle.qd_grammar.specs.declared.fault.Why.{Why}
use Rattle.qd_grammar.specs.Parts.{Part, ◌>>=◌}
use Rattle.qd_grammar.specs.Fields.{part_says, or_fault, passing}

-- the value of a first step, and what the steps behind it give
pub record Stepped {A B : Type 0} (first : Result A Fault) (then : A → Result B Fault) (value : B) : Type 0 where
  pub of_first : A
  pub was : first ≡ Ok of_first
  pub rest : then of_first ≡ Ok value

pub stepped : {A B : Type 0} (first : Result A Fault) (then : A → Result B Fault) (value : B) → (first >>= then) ≡ Ok value → Stepped first then value
stepped (Ok x) then value e = record { of_first = x; was = refl; rest = e }
stepped (Err f) then value e = cc

pub step : {A B : Type 0} (first : Result A Fault) (then : A → Result B Fault) (x : A) → first ≡ Ok x → (first >>= then) ≡ then x
step {A = A} first then x e = ap (λ (r : Result A Fault). r >>= then) e

pub same_ok : {A E : Type 0} (a b : A) → ◌≡◌ {A = Result A E} (Ok a) (Ok b) → a ≡ b
same_ok a b e = cc

-- a part that says a value: its bytes, and what is left
pub record Said {A : Type 0} (says : ℕ → List ℕ → Result A Fault) (value : A) (parts rest : List Part) : Type 0 where
  pub part : Part
  pub said : says part.place part.bytes ≡ Ok value

pub part_said : {A : Type 0} (says : ℕ → List ℕ → Result A Fault) (end : ℕ) (parts : List Part) (read : A × List Part) → part_says says end parts ≡ Ok read → Said says read.0 parts read.1
part_said {A = A} says end [] read e = cc
part_said {A = A} says end (part ∷ parts) read e =
    let s = stepped (says part.place part.bytes) (λ value. Ok (value, parts)) read e in
    let p : (s.of_first, parts) ≡ read = same_ok _ _ s.rest in
    record { part = part; said = s.was ∙ ap (λ (r : A × List Part). Ok r.0) p }

pub says_again : {A : Type 0} (says : ℕ → List ℕ → Result A Fault) (value : A) (end : ℕ) (part : Part) (parts : List Part) → says part.place part.bytes ≡ Ok value → part_says says end (part ∷ parts) ≡ Ok (value, parts)
says_again says value end part parts e = step (says part.place part.bytes) (λ v. Ok (v, parts)) value e

-- a value of an option, and one that passed a test
pub some_of : {A : Type 0} (place : ℕ) (why : Why) (o : Option A) (value : A) → or_fault place why o ≡ Ok value → o ≡ Some value
some_of {A = A} place why None value e = cc
some_of {A = A} place why (Some x) value e = ap (λ (y : A). Some y) (same_ok _ _ e)

-- a test, and the value that passed it
pub record Passed {A : Type 0} (test : Bool) (x value : A) : Type 0 where
  pub was : test ≡ true
  pub same : x ≡ value

pub passed : {A : Type 0} (test : Bool) (x value : A) (place : ℕ) (why : Why) → passing test x place why ≡ Ok value → Passed test x value
passed true x value place why e = record { was = refl; same = same_ok _ _ e }
passed false x value place why e = cc

pub passes : {A : Type 0} (test : Bool) (value : A) (place : ℕ) (why : Why) → test ≡ true → passing test value place why ≡ Ok value
passes test value place why e = rw e refl
