-- What stands before and behind the first byte of one kind in a word.
use Rattle.std.proofs.Common.{◌≡◌, ◌≢◌, ℕ, suc, ◌<◌, Bool, true, false, cond, List, [], ◌∷◌, ◌++◌, length, get_or, refl, ap, arith}
use Rattle.std.specs.Prelude.{◌==◌, Some, None}
use Rattle.std.proofs.lemmas.Bool.Decides.{nat_tests}
use Rattle.qd_words.specs.Words.{before_byte, behind_byte, name_in, value_in}

-- a text has no such byte
abbrev pub HasNone : ℕ → List ℕ → Type 0
HasNone c text = (i : ℕ) → i < length text → get_or text i 0 ≢ c

first_other : (c b : ℕ) (text : List ℕ) → HasNone c (b ∷ text) → (b == c) ≡ false
first_other c b text h = let ne : b ≢ c = h 0 (omega arith) in grind (arith, nat_tests)

rest_other : (c b : ℕ) (text : List ℕ) → HasNone c (b ∷ text) → HasNone c text
rest_other c b text h i l = h (suc i) (omega arith)

pub before_byte-at : (c : ℕ) (name value : List ℕ) → HasNone c name → before_byte c (name ++ c ∷ value) ≡ name
before_byte-at c [] value h = let e : (c == c) ≡ true = grind (arith, nat_tests) in rw e refl
before_byte-at c (b ∷ name) value h = let e = first_other c b name h in rw e (ap (λ (t : List ℕ). b ∷ t) (before_byte-at c name value (rest_other c b name h)))

pub behind_byte-at : (c : ℕ) (name value : List ℕ) → HasNone c name → behind_byte c (name ++ c ∷ value) ≡ Some value
behind_byte-at c [] value h = let e : (c == c) ≡ true = grind (arith, nat_tests) in rw e refl
behind_byte-at c (b ∷ name) value h = let e = first_other c b name h in rw e (behind_byte-at c name value (rest_other c b name h))

pub before_byte-without : (c : ℕ) (word : List ℕ) → HasNone c word → before_byte c word ≡ word
before_byte-without c [] h = refl
before_byte-without c (b ∷ word) h = let e = first_other c b word h in rw e (ap (λ (t : List ℕ). b ∷ t) (before_byte-without c word (rest_other c b word h)))

pub behind_byte-without : (c : ℕ) (word : List ℕ) → HasNone c word → behind_byte c word ≡ None
behind_byte-without c [] h = refl
behind_byte-without c (b ∷ word) h = let e = first_other c b word h in rw e (behind_byte-without c word (rest_other c b word h))

alone_step : (t : Bool) (b : ℕ) (word : List ℕ) → (value_in word ≡ None → name_in word ≡ word) → cond t (Some word) (value_in word) ≡ None → cond t [] (b ∷ name_in word) ≡ b ∷ word
alone_step true b word k h = absurd (cc)
alone_step false b word k h = ap (λ (t : List ℕ). b ∷ t) (k h)

-- a word that has no value is its name
pub name_alone : (word : List ℕ) → value_in word ≡ None → name_in word ≡ word
name_alone [] h = refl
name_alone (b ∷ word) h = alone_step (b == 61) b word (name_alone word) h
