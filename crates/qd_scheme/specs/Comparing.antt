-- The tests of keys and cells are exact, and so they are equivalences.
use Rattle.std.proofs.Common.{◌≡◌, ℕ, Bool, true, false, ◌&&◌, nat_eq, List, [], ◌∷◌, refl, ap, sym, ◌∙◌, eq-eqb}
use Rattle.std.specs.Ordering.{int_eq}
use Rattle.std.proofs.lemmas.Bool.{eqb-true}
use Rattle.std.specs.Cmp.{IsEquivalence, int_eq_equiv}
use Rattle.std.specs.Cmp.Lexicographic.{pointwise, lists_equiv}
use Rattle.qd_scheme.specs.declared.sym.Sym.{Sym}
use Rattle.qd_scheme.specs.declared.key.Key.{Key}
use Rattle.qd_scheme.specs.Keys.{sym_eq, key_eq}

and-left : (a b : Bool) → (a && b) ≡ true → a ≡ true
and-left true b h = refl
and-left false b h = cc

and-right : (a b : Bool) → (a && b) ≡ true → b ≡ true
and-right true b h = h
and-right false b h = cc

-- texts that the test finds equal are one text
pub sym_eq-true : (xs ys : List ℕ) → sym_eq xs ys ≡ true → xs ≡ ys
sym_eq-true [] [] h = refl
sym_eq-true [] (y ∷ ys) h = cc
sym_eq-true (x ∷ xs) [] h = cc
sym_eq-true (x ∷ xs) (y ∷ ys) h =
    let e : x ≡ y = eqb-true x y (and-left (nat_eq x y) (sym_eq xs ys) h) in
    let r : xs ≡ ys = sym_eq-true xs ys (and-right (nat_eq x y) (sym_eq xs ys) h) in
    cc

-- the test finds a text equal to itself
pub sym_eq-same : (xs : List ℕ) → sym_eq xs xs ≡ true
sym_eq-same [] = refl
sym_eq-same (x ∷ xs) = rw (eq-eqb x x refl) (sym_eq-same xs)

-- the test finds a key equal to itself
pub key_eq-same : (a : Key) → key_eq a a ≡ true
unfolding key_eq
key_eq-same a = rw (eq-eqb a.rec a.rec refl) (sym_eq-same a.sym)

same_key : (n m : ℕ) (xs ys : Sym) → n ≡ m → xs ≡ ys → (let a : Key = record { rec = n; sym = xs } in let b : Key = record { rec = m; sym = ys } in a ≡ b)
same_key n m xs ys p q = cc

-- keys that it finds equal are one key
pub key_eq-true : (a b : Key) → key_eq a b ≡ true → a ≡ b
unfolding key_eq
key_eq-true a b h =
    let r : a.rec ≡ b.rec = eqb-true a.rec b.rec (and-left (nat_eq a.rec b.rec) (sym_eq a.sym b.sym) h) in
    same_key a.rec b.rec a.sym b.sym r (sym_eq-true a.sym b.sym (and-right (nat_eq a.rec b.rec) (sym_eq a.sym b.sym) h))

-- it does not matter which key is the first
pub key_eq-comm : (a b : Key) → key_eq a b ≡ key_eq b a
key_eq-comm a b =
    let go : (c d : Bool) → key_eq a b ≡ c → key_eq b a ≡ d → key_eq a b ≡ key_eq b a =
    elim [
      | true ↦ λ d e f. e ∙ sym (ap (λ x. key_eq b x) (key_eq-true a b e) ∙ key_eq-same b)
      | false ↦ elim [
        | true ↦ λ e f. ap (λ x. key_eq a x) (key_eq-true b a f) ∙ key_eq-same a ∙ sym f
        | false ↦ λ e f. e ∙ sym f
      ]
    ] in
    go (key_eq a b) (key_eq b a) refl refl

-- one key in place of an equal one
pub key_eq-congr : (a b c : Key) → key_eq a b ≡ true → key_eq a c ≡ key_eq b c
key_eq-congr a b c h = ap (λ x. key_eq x c) (key_eq-true a b h)

pub key_eq-equiv : IsEquivalence key_eq
key_eq-equiv = record { refl = key_eq-same; symm = key_eq-comm; congr = key_eq-congr }

pub int_list_eq_equiv : IsEquivalence (pointwise int_eq)
int_list_eq_equiv = lists_equiv int_eq_equiv
