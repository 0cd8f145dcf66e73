-- A text is read as a symbol exactly where it is one, and then as itself.
use Rattle.std.proofs.Common.{◌≡◌, ◌≢◌, ℕ, suc, ◌+◌, ◌≤◌, min, Bool, true, false, cond, List, [], ◌∷◌, length, refl, ap, subst, arith}
use Rattle.std.specs.Prelude.{◌==◌, ◌&&◌, nat_lt, slice_index, Result, Ok, Err}
use Rattle.std.specs.List.{AllByRecursion, prefix_len}
use Rattle.std.proofs.lemmas.Bool.Decides.{nat_tests}
use Rattle.qd_scheme.specs.Symbols.{symbol_of, is_symbol_byte, is_reserved}
use Rattle.qd_grammar.specs.Items.{IsSymbolByte, IsSymbolText}
use Rattle.qd_grammar.proofs.Binds.{same_ok}
use Rattle.qd_grammar.proofs.Tabs.{HasNoTab}

printed_byte : (b : ℕ) → IsSymbolByte b → is_symbol_byte b ≡ true
printed_byte b h = let p = h.0 in let q = h.1 in grind (arith, nat_tests)

all_printed : (text : List ℕ) → AllByRecursion IsSymbolByte text → prefix_len is_symbol_byte text ≡ length text
all_printed [] h = refl
all_printed (b ∷ text) h = let p = printed_byte b h.0 in let e = all_printed text h.1 in rw (p, e) (omega arith)

no_single : (text : List ℕ) → text ≢ 34 ∷ [] → ((length text == 1) && (slice_index text 0 == 34)) ≡ false
no_single [] h = refl
no_single (b ∷ []) h = go (b == 34) refl
  where
    go : (t : Bool) → (b == 34) ≡ t → (b == 34) ≡ false
    go true e = let same : b ≡ 34 = grind (arith, nat_tests) in absurd (h (ap (λ (x : ℕ). x ∷ []) same))
    go false e = e
no_single (b ∷ c ∷ text) h = let e : (length (b ∷ c ∷ text) == 1) ≡ false = grind (arith, nat_tests) in rw e refl

not_reserved : (b : ℕ) → b ≢ 61 → b ≢ 35 → is_reserved b ≡ false
not_reserved b h k = grind (arith, nat_tests)

pub symbol_again : (text : List ℕ) → IsSymbolText text → symbol_of text ≡ Ok text
unfolding symbol_of
symbol_again text h =
    let some : (length text == 0) ≡ false = let s = h.some in grind (arith, nat_tests) in
    let front = not_reserved (slice_index text 0) h.no_equals h.no_hash in
    let single = no_single text h.no_quote in
    let all : nat_lt (length text) (min (length text) 64) ≡ false = grind (arith, nat_tests) in
    let few : nat_lt 64 (length text) ≡ false = let f = h.few in grind (arith, nat_tests) in
    rw some (rw front (rw single (rw (all_printed text h.printed) (rw all (rw few refl)))))

no_tab-byte : (b : ℕ) → IsSymbolByte b → (b == 9) ≡ false
no_tab-byte b h = let p = h.0 in grind (arith, nat_tests)

pub no_tab-symbol : (text : List ℕ) → AllByRecursion IsSymbolByte text → HasNoTab text
no_tab-symbol [] h = tt
no_tab-symbol (b ∷ text) h = (no_tab-byte b h.0, no_tab-symbol text h.1)

-- what was read

refused : {A : Type 0} (test : Bool) (f : ℕ) (rest : Result A ℕ) (value : A) → cond test (Err f) rest ≡ Ok value → (test ≡ false) × (rest ≡ Ok value)
refused true f rest value e = cc
refused false f rest value e = (refl, e)

byte_printed : (b : ℕ) → is_symbol_byte b ≡ true → IsSymbolByte b
byte_printed b e = (grind (arith, nat_tests), grind (arith, nat_tests))

first_printed : (b : ℕ) (text : List ℕ) (t : Bool) → is_symbol_byte b ≡ t → suc (length text) ≤ cond t (1 + prefix_len is_symbol_byte text) 0 → IsSymbolByte b × (length text ≤ prefix_len is_symbol_byte text)
first_printed b text true p q = (byte_printed b p, omega arith)
first_printed b text false p q = let no : ⊥ = omega arith in absurd no

prefix_printed : (text : List ℕ) → length text ≤ prefix_len is_symbol_byte text → AllByRecursion IsSymbolByte text
prefix_printed [] h = tt
prefix_printed (b ∷ text) h = let f = first_printed b text (is_symbol_byte b) refl h in (f.0, prefix_printed text f.1)

reserved_not : (b : ℕ) → is_reserved b ≡ false → (b ≢ 61) × (b ≢ 35)
reserved_not b e = (λ h. let no : true ≡ false = subst (λ x. is_reserved x ≡ false) h e in cc, λ h. let no : true ≡ false = subst (λ x. is_reserved x ≡ false) h e in cc)

not_single : (text : List ℕ) → ((length text == 1) && (slice_index text 0 == 34)) ≡ false → text ≢ 34 ∷ []
not_single text e h = let no : true ≡ false = subst (λ (t : List ℕ). ((length t == 1) && (slice_index t 0 == 34)) ≡ false) h e in cc

enough : (good n : ℕ) → nat_lt good (min n 64) ≡ false → nat_lt 64 n ≡ false → n ≤ good
enough good n h k = grind (arith, nat_tests)

pub symbol_read : (text symbol : List ℕ) → symbol_of text ≡ Ok symbol → IsSymbolText symbol
unfolding symbol_of
symbol_read text symbol e =
    let good : ℕ = prefix_len is_symbol_byte text in
    let last : Result (List ℕ) ℕ = cond (nat_lt 64 (length text)) (Err 65) (Ok text) in
    let fourth : Result (List ℕ) ℕ = cond (nat_lt good (min (length text) 64)) (Err (good + 1)) last in
    let third : Result (List ℕ) ℕ = cond ((length text == 1) && (slice_index text 0 == 34)) (Err 1) fourth in
    let second : Result (List ℕ) ℕ = cond (is_reserved (slice_index text 0)) (Err 1) third in
    let a = refused (length text == 0) 1 second symbol e in
    let b = refused (is_reserved (slice_index text 0)) 1 third symbol a.1 in
    let c = refused ((length text == 1) && (slice_index text 0 == 34)) 1 fourth symbol b.1 in
    let d = refused (nat_lt good (min (length text) 64)) (good + 1) last symbol c.1 in
    let f = refused (nat_lt 64 (length text)) 65 (Ok text) symbol d.1 in
    let some = a.0 in
    let short = f.0 in
    let front = reserved_not (slice_index text 0) b.0 in
    subst IsSymbolText (same_ok _ _ f.1) (record {
      some = grind (arith, nat_tests);
      few = grind (arith, nat_tests);
      printed = prefix_printed text (enough good (length text) d.0 short);
      no_equals = front.0;
      no_hash = front.1;
      no_quote = not_single text c.0;
    })
