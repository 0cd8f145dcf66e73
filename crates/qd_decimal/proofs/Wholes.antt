-- What reading a whole number or a count gives is what the grammar says.
use Rattle.std.proofs.Common.{◌≡◌, ℕ, ◌+◌, ◌-◌, ◌*◌, ◌^◌, ◌<◌, ◌≤◌, Bool, true, false, List, [], ◌∷◌, ◌++◌, length, take, drop, slice_range, refl, sym, ◌∙◌, ap, subst, arith, append_assoc, length-append, length-drop, inl, inr}
use Rattle.std.specs.Prelude.{◌==◌, ◌⊎◌, nat_le, Option, Some, Result, Ok, Err, IfOk}
use Rattle.std.specs.List.{prefix_len}
use Rattle.std.proofs.lemmas.Bool.Decides.{nat_tests}
use Rattle.std.proofs.lemmas.List.{take-append-drop, take_all}
use Rattle.std.proofs.Math.Seq.{drop-append_seam}
use lib.IntN.{ℤ}
use Rattle.qd_decimal.specs.Grammar.{is_digit, AreDigits, sign, IsCount, IsWhole, Begins, IsWrongAt, number_of}
use Rattle.qd_decimal.specs.Numbers.{fitting, with_digits, reach, signed_fit, count_fit}
use Rattle.qd_decimal.specs.Reading.{digits_end, has_minus, start_of, whole_at, int_of, count_of, ◌>>=◌}
use Rattle.qd_decimal.specs.Exact.{HasDigits, ReadsWhole, ReadsCount}
use Rattle.qd_decimal.specs.declared.fault.DecFault.{DecFault}
use Rattle.qd_decimal.specs.declared.fault.DecFault.TheVariants.{Empty, BadByte, TooLarge}
use Rattle.qd_decimal.proofs.Shapes.{all_digits, append_none, start_is}
use Rattle.qd_decimal.proofs.Places.{eq_or_not, end_from, end_within, start_within, digits_local, start_local, length_local}
use Rattle.qd_decimal.proofs.Alive.{sign_text, start_small, taken, digits_taken, digits_then, prefix_of_end}
use Rattle.qd_decimal.proofs.Formed.{fraction_are}
use Rattle.qd_decimal.proofs.OnePass.{whole_none, whole_stops, whole_good}
use Rattle.qd_decimal.proofs.Values.{sum_digits, fits, no_fit, fit_ok, fit_large, lt_or_le}

-- digits alone end at the end
count_ends : (text : List ℕ) → AreDigits text → digits_end text 0 ≡ length text
unfolding digits_end
count_ends text h =
    let p : prefix_len is_digit (text ++ []) ≡ length text + 0 = all_digits text [] h in
    let q : prefix_len is_digit text ≡ length text + 0 = rw (append_none text) at p in
    omega arith

behind : (x ds : List ℕ) → AreDigits ds → digits_end (x ++ ds) (length x) ≡ length (x ++ ds)
unfolding digits_end
behind x ds h =
    let e : drop (length x) (x ++ ds) ≡ ds = drop-append_seam x ds in
    let q : digits_end ds 0 ≡ length ds = count_ends ds h in
    rw e (omega (arith, length-append x ds, q))

pub start_whole : (negative : Bool) (digits : List ℕ) → IsCount digits → start_of (sign negative ++ digits) ≡ length (sign negative)
start_whole negative digits c =
    let e : (sign negative ++ digits) ++ [] ≡ sign negative ++ digits = append_none (sign negative ++ digits) in
    let s : start_of ((sign negative ++ digits) ++ []) ≡ length (sign negative) = start_is negative digits [] c.0 c.1 in
    rw e at s

-- a whole number's digits go from its sign to its end
pub record Goes (text : List ℕ) (from : ℕ) : Type 0 where
  pub some : from < digits_end text from
  pub all : digits_end text from ≡ length text

pub count_goes : (text : List ℕ) → IsCount text → Goes text 0
count_goes text c = let e : digits_end text 0 ≡ length text = count_ends text c.1 in record { some = omega (arith, c.0); all = e }

pub spelled_goes : (negative : Bool) (digits : List ℕ) → IsCount digits → Goes (sign negative ++ digits) (start_of (sign negative ++ digits))
spelled_goes negative digits c =
    let s : start_of (sign negative ++ digits) ≡ length (sign negative) = start_whole negative digits c in
    let e : digits_end (sign negative ++ digits) (length (sign negative)) ≡ length (sign negative ++ digits) = behind (sign negative) digits c.1 in
    rw s (record { some = omega (arith, c.0, length-append (sign negative) digits); all = e })

whole_goes : (text : List ℕ) → IsWhole text → Goes text (start_of text)
whole_goes text (negative, digits, c, e) = subst (λ (t : List ℕ). Goes t (start_of t)) (sym e) (spelled_goes negative digits c)

-- No text that begins with the bytes up to the wrong one has its digits go to the end.
stuck : (text rest : List ℕ) (from place : ℕ) → from < place → place ≤ length text → digits_end text from < place → Goes (take place text ++ rest) from → ⊥
stuck text rest from place a b c g =
    let l : digits_end (take place text ++ rest) from ≡ digits_end text from = digits_local text rest from place (omega arith) b c in
    let n : length (take place text ++ rest) ≡ place + length rest = length_local place text rest b in
    let all : digits_end (take place text ++ rest) from ≡ length (take place text ++ rest) = g.all in
    omega arith

zero_digit : AreDigits (48 ∷ [])
zero_digit = (refl, tt)

-- the digits so far and one more
digits_alive : (text : List ℕ) (from n : ℕ) → from ≤ n → n ≤ digits_end text from → IsCount (take (n - from) (drop from text) ++ 48 ∷ [])
digits_alive text from n h k = (
  omega (arith, length-append (take (n - from) (drop from text)) (48 ∷ [])),
  digits_then _ _ (digits_taken _ _ (prefix_of_end text from n h k)) zero_digit,
)

count_alive : (text : List ℕ) (n : ℕ) → n ≤ digits_end text 0 → Begins IsCount (take n text)
count_alive text n h = let e : n - 0 ≡ n = omega arith in let c : IsCount (take (n - 0) text ++ 48 ∷ []) = digits_alive text 0 n (omega arith) h in (48 ∷ [], rw e at c)

whole_alive : (text : List ℕ) (n : ℕ) → n ≤ digits_end text (start_of text) → Begins IsWhole (take n text)
whole_alive text n h = elim (lt_or_le n (start_of text)) [
  | inl l ↦ let e : n ≡ 0 = omega (arith, start_small text) in rw e (48 ∷ [], (false, 48 ∷ [], (omega arith, zero_digit), refl))
  | inr l ↦ (48 ∷ [], (has_minus text, take (n - start_of text) (drop (start_of text) text) ++ 48 ∷ [], digits_alive text (start_of text) n l h, spell _ _ _ _ _ (taken text (start_of text) n l) (sign_text text)))
]
  where
    spell : (front before digits nought : List ℕ) (negative : Bool) → front ≡ before ++ digits → before ≡ sign negative → front ++ nought ≡ sign negative ++ (digits ++ nought)
    spell front before digits nought negative p q = ap (λ (t : List ℕ). t ++ nought) (p ∙ ap (λ (t : List ℕ). t ++ digits) q) ∙ append_assoc (sign negative) digits nought

-- A text whose digits do not go to its end goes wrong behind them.
count_wrong : (text : List ℕ) → (Goes text 0 → ⊥) → IsWrongAt IsCount text (digits_end text 0 + 1)
count_wrong text h =
    let w : digits_end text 0 ≤ length text = end_within text 0 (omega arith) in
    record {
      within = omega arith;
      alive = λ n l. count_alive text n (omega arith);
      dead = λ l (rest, c). stuck text rest 0 (digits_end text 0 + 1) (omega arith) l (omega arith) (count_goes _ c);
      refused = λ c. h (count_goes text c);
    }

whole_wrong : (text : List ℕ) → (Goes text (start_of text) → ⊥) → IsWrongAt IsWhole text (digits_end text (start_of text) + 1)
whole_wrong text h =
    let w : digits_end text (start_of text) ≤ length text = end_within text (start_of text) (start_within text) in
    let f : start_of text ≤ digits_end text (start_of text) = end_from text (start_of text) in
    record {
      within = omega arith;
      alive = λ n l. whole_alive text n (omega arith);
      dead = λ l (rest, c). stuck text rest (start_of text) (digits_end text (start_of text) + 1) (omega arith) l (omega arith) (subst (λ n. Goes (take (digits_end text (start_of text) + 1) text ++ rest) n) (start_local (digits_end text (start_of text) + 1) text rest (omega arith) l) (whole_goes _ c));
      refused = λ c. h (whole_goes text c);
    }

-- what the digits from a place on are
pub data Digits (text : List ℕ) (from : ℕ) : Type 0 where
  go : Goes text from → whole_at text from ≡ Ok (fitting (number_of (drop from text))) → Digits text from
  stop : (Goes text from → ⊥) → whole_at text from ≡ Err (BadByte (digits_end text from + 1)) → Digits text from

number_fits : (digits : List ℕ) → with_digits (Some 0) digits ≡ fitting (number_of digits)
number_fits digits = sum_digits 0 digits ∙ ap fitting (omega arith)

all_of : (text : List ℕ) (from e : ℕ) → e ≡ length text → slice_range text from e ≡ drop from text
all_of text from e h = take_all (e - from) (drop from text) (omega (arith, length-drop from text))

pub digits_of : (text : List ℕ) (from : ℕ) → from ≤ length text → Digits text from
digits_of text from h =
    let f : from ≤ digits_end text from = end_from text from in
    elim (eq_or_not (digits_end text from) from) [
      | inl n ↦ stop (λ g. let s : from < digits_end text from = g.some in omega arith) (whole_none text from (digits_end text from) refl n)
      | inr n ↦ elim (eq_or_not (digits_end text from) (length text)) [
        | inl a ↦ go (record { some = omega arith; all = a }) (whole_good text from (digits_end text from) refl n a ∙ ap (λ v. Ok v) (ap (λ (t : List ℕ). with_digits (Some 0) t) (all_of text from (digits_end text from) a) ∙ number_fits (drop from text)))
        | inr a ↦ stop (λ g. a g.all) (whole_stops text from (digits_end text from) refl n a)
      ]
    ]

-- reading, step by step
pub int_empty : (text : List ℕ) → length text ≡ 0 → int_of text ≡ Err Empty
unfolding int_of
int_empty text h = let t : (length text == 0) ≡ true = grind (arith, nat_tests) in rw t refl

int_steps : (text : List ℕ) → 0 < length text → int_of text ≡ (whole_at text (start_of text) >>= λ number. signed_fit (has_minus text) number)
unfolding int_of
int_steps text h = let t : (length text == 0) ≡ false = grind (arith, nat_tests) in rw t refl

pub count_empty : (most : ℕ) (text : List ℕ) → length text ≡ 0 → count_of most text ≡ Err Empty
unfolding count_of
count_empty most text h = let t : (length text == 0) ≡ true = grind (arith, nat_tests) in rw t refl

count_steps : (most : ℕ) (text : List ℕ) → 0 < length text → count_of most text ≡ (whole_at text 0 >>= λ number. count_fit most number)
unfolding count_of
count_steps most text h = let t : (length text == 0) ≡ false = grind (arith, nat_tests) in rw t refl

pub int_bad : (text : List ℕ) → (length text ≡ 0 → ⊥) → (f : DecFault) → whole_at text (start_of text) ≡ Err f → int_of text ≡ Err f
int_bad text h f e = int_steps text (omega arith) ∙ rw e refl

pub int_good : (text : List ℕ) → (length text ≡ 0 → ⊥) → (v : Option ℕ) → whole_at text (start_of text) ≡ Ok v → int_of text ≡ signed_fit (has_minus text) v
int_good text h v e = int_steps text (omega arith) ∙ rw e refl

pub count_bad : (most : ℕ) (text : List ℕ) → (length text ≡ 0 → ⊥) → (f : DecFault) → whole_at text 0 ≡ Err f → count_of most text ≡ Err f
count_bad most text h f e = count_steps most text (omega arith) ∙ rw e refl

pub count_good : (most : ℕ) (text : List ℕ) → (length text ≡ 0 → ⊥) → (v : Option ℕ) → whole_at text 0 ≡ Ok v → count_of most text ≡ count_fit most v
count_good most text h v e = count_steps most text (omega arith) ∙ rw e refl

has_digits : (text : List ℕ) → Goes text (start_of text) → HasDigits text (has_minus text) (drop (start_of text) text)
has_digits text g = record {
  count = (let s = g.some in let a = g.all in omega (arith, length-drop (start_of text) text), fraction_are text (start_of text) (start_within text) g.all);
  spells = sym (take-append-drop (start_of text) text) ∙ ap (λ (t : List ℕ). t ++ drop (start_of text) text) (sign_text text);
}

whole_reads : (text : List ℕ) → 0 < length text → Goes text (start_of text) → int_of text ≡ signed_fit (has_minus text) (fitting (number_of (drop (start_of text) text))) → ReadsWhole text (int_of text)
whole_reads text h g e = elim (lt_or_le (reach (has_minus text)) (number_of (drop (start_of text) text))) [
  | inl l ↦ subst (λ (r : Result ℤ DecFault). ReadsWhole text r) (sym (e ∙ fit_large (has_minus text) (number_of (drop (start_of text) text)) l)) (has_minus text, drop (start_of text) text, has_digits text g, l)
  | inr l ↦ subst (λ (r : Result ℤ DecFault). ReadsWhole text r) (sym (e ∙ fit_ok (has_minus text) (number_of (drop (start_of text) text)) l)) (has_minus text, drop (start_of text) text, has_digits text g, l, refl)
]

pub reads_whole : (text : List ℕ) → ReadsWhole text (int_of text)
reads_whole text = elim (lt_or_le 0 (length text)) [
  | inl h ↦ elim (digits_of text (start_of text) (start_within text)) [
    | go g e ↦ whole_reads text h g (int_steps text h ∙ rw e refl)
    | stop n e ↦ let b : int_of text ≡ Err (BadByte (digits_end text (start_of text) + 1)) = int_steps text h ∙ rw e refl in subst (λ (r : Result ℤ DecFault). ReadsWhole text r) (sym b) (h, whole_wrong text n)
  ]
  | inr h ↦ let e : length text ≡ 0 = omega arith in subst (λ (r : Result ℤ DecFault). ReadsWhole text r) (sym (int_empty text e)) e
]

pub count_ok : (most n : ℕ) → most < 2 ^ 64 → n ≤ most → count_fit most (fitting n) ≡ Ok n
count_ok most n s h = let t : nat_le n most ≡ true = grind (arith, nat_tests) in rw (fits n (omega arith)) (rw t refl)

count_large : (most n : ℕ) → most < n → count_fit most (fitting n) ≡ Err TooLarge
count_large most n h = elim (lt_or_le n (2 ^ 64)) [
  | inl l ↦ let t : nat_le n most ≡ false = grind (arith, nat_tests) in rw (fits n l) (rw t refl)
  | inr l ↦ rw (no_fit n l) refl
]

count_reads : (most : ℕ) (text : List ℕ) → most < 2 ^ 64 → Goes text 0 → count_of most text ≡ count_fit most (fitting (number_of text)) → ReadsCount most text (count_of most text)
count_reads most text s g e =
    let c : IsCount text = (let a = g.some in let b = g.all in omega arith, fraction_are text 0 (omega arith) g.all) in
    elim (lt_or_le most (number_of text)) [
      | inl l ↦ subst (λ (r : Result ℕ DecFault). ReadsCount most text r) (sym (e ∙ count_large most (number_of text) l)) (c, l)
      | inr l ↦ subst (λ (r : Result ℕ DecFault). ReadsCount most text r) (sym (e ∙ count_ok most (number_of text) s l)) (c, l, refl)
    ]

pub reads_count : (most : ℕ) (text : List ℕ) → most < 2 ^ 64 → ReadsCount most text (count_of most text)
reads_count most text s = elim (lt_or_le 0 (length text)) [
  | inl h ↦ elim (digits_of text 0 (omega arith)) [
    | go g e ↦ count_reads most text s g (count_steps most text h ∙ rw e refl)
    | stop n e ↦ let b : count_of most text ≡ Err (BadByte (digits_end text 0 + 1)) = count_steps most text h ∙ rw e refl in subst (λ (r : Result ℕ DecFault). ReadsCount most text r) (sym b) (h, count_wrong text n)
  ]
  | inr h ↦ let e : length text ≡ 0 = omega arith in subst (λ (r : Result ℕ DecFault). ReadsCount most text r) (sym (count_empty most text e)) e
]

pub count_within : (most : ℕ) (text : List ℕ) (r : Result ℕ DecFault) → ReadsCount most text r → IfOk r (λ n. n ≤ most)
count_within most text (Ok n) h = rw h.2 h.1
count_within most text (Err e) h = tt
