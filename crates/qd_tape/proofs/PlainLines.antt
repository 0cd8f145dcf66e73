-- The lines of a generated script are plain: they have no line feed and no carriage return, and are short.
use Rattle.std.proofs.Common.{ℕ, zero, suc, ◌≡◌, ◌+◌, ◌*◌, ◌/◌, ◌%◌, ◌≤◌, ◌<◌, ◌^◌, Bool, true, false, cond, List, [], ◌∷◌, ◌++◌, length, refl, ◌∙◌, ap, arith, length-append}
use Rattle.std.specs.Prelude.{if◌then◌else◌, ◌==◌, ◌&&◌, ◌||◌, nat_lt, nat_le, nat_eq, not, codes, decimal, pos}
use Rattle.std.specs.Fmt.{digits}
use Rattle.std.specs.List.{list_all, AllByRecursion}
use Rattle.std.proofs.lemmas.Bool.Decides.{nat_tests}
use Rattle.std.proofs.lemmas.Fmt.{decimal_by_steps}
use Rattle.std.proofs.lemmas.List.Folds.{list_all-append}
use Rattle.qd_decimal.specs.Texts.{fraction_text, point_text, magnitude_text, dec_text}
use Rattle.qd_decimal.proofs.Fractions.{text_short, count_short}
use Rattle.qd_grammar.specs.Canonical.{behind, joined, canonical}
use Rattle.qd_grammar.specs.declared.item.Item.{Item}
use Rattle.qd_grammar.specs.declared.item.Item.TheVariants.{Head, End}
use Rattle.qd_grammar.specs.declared.item.Message.TheVariants.{TickerData, StreamData, HistoryData}
use Rattle.qd_items.specs.Judging.{is_end}
use Rattle.qd_line.specs.Lines.{is_one_line, without_cr}
use Rattle.qd_scheme.specs.Builtin.{builtin_defs}
use Rattle.qd_tape.specs.Scripts.{candle_of, first_items, quote_of, three_takes, trade_of}

-- a TAB or a printed byte
abbrev plain_byte : ℕ → Bool
plain_byte b = nat_lt 31 b || nat_eq b 9

abbrev pub is_plain : List ℕ → Bool
is_plain text = list_all plain_byte text

both_true : (a b : Bool) → a ≡ true → b ≡ true → (a && b) ≡ true
both_true true b h k = k
both_true false b h k = absurd (cc)

first_true : (a b : Bool) → (a && b) ≡ true → (a ≡ true) × (b ≡ true)
first_true true b h = (refl, h)
first_true false b h = absurd (cc)

plain-append : (x y : List ℕ) → is_plain x ≡ true → is_plain y ≡ true → is_plain (x ++ y) ≡ true
plain-append x y h k = list_all-append plain_byte x y ∙ both_true (is_plain x) (is_plain y) h k

-- a plain line is one line, with nothing to drop at its end

no_feed : (b : ℕ) → plain_byte b ≡ true → not (nat_eq b 10) ≡ true
no_feed b h = grind (arith, nat_tests)

no_return : (b : ℕ) → plain_byte b ≡ true → (b == 13) ≡ false
no_return b h = grind (arith, nat_tests)

pub plain_line : (line : List ℕ) → is_plain line ≡ true → is_one_line line ≡ true
plain_line [] h = refl
plain_line (b ∷ line) h = let p = first_true (plain_byte b) (is_plain line) h in both_true (not (nat_eq b 10)) (is_one_line line) (no_feed b p.0) (plain_line line p.1)

pub plain_same : (line : List ℕ) → is_plain line ≡ true → without_cr line ≡ line
plain_same [] h = refl
plain_same (b ∷ []) h = let p = first_true (plain_byte b) true h in rw (no_return b p.0) refl
plain_same (b ∷ c ∷ line) h = let p = first_true (plain_byte b) (is_plain (c ∷ line)) h in ap (λ (l : List ℕ). b ∷ l) (plain_same (c ∷ line) p.1)

-- numbers are plain

digit_plain : (n : ℕ) → plain_byte (48 + n) ≡ true
digit_plain n = grind (arith, nat_tests)

one_digit : (n : ℕ) → is_plain ((48 + n) ∷ []) ≡ true
one_digit n = both_true (plain_byte (48 + n)) true (digit_plain n) refl

decimal_plain : (n : ℕ) → n < 2 ^ 64 → is_plain (decimal n) ≡ true
decimal_plain = decimal_by_steps (λ n ds. is_plain ds ≡ true) (λ n h. one_digit n) (λ n ds h t. plain-append ds ((48 + n % 10) ∷ []) t (one_digit (n % 10)))

plain_unless : (t : Bool) (text : List ℕ) → is_plain text ≡ true → is_plain (cond t [] text) ≡ true
plain_unless true text h = refl
plain_unless false text h = h

fraction_plain : (places rest : ℕ) → is_plain (fraction_text places rest) ≡ true
fraction_plain zero rest = refl
fraction_plain (suc places) rest =
    plain_unless (rest == 0) _ (both_true (plain_byte (48 + rest / 10 ^ places)) (is_plain (fraction_text places (rest % 10 ^ places))) (digit_plain (rest / 10 ^ places)) (fraction_plain places (rest % 10 ^ places)))

less : (n q : ℕ) → n < 2 ^ 64 → n / q < 2 ^ 64
less n q h = let l : n / q ≤ n = grind arith in omega arith

dec_plain : (scale n : ℕ) → n < 2 ^ 64 → is_plain (dec_text scale (pos n)) ≡ true
unfolding dec_text magnitude_text
dec_plain scale n h = plain-append (decimal (n / 10 ^ scale)) (point_text scale (n % 10 ^ scale)) (decimal_plain (n / 10 ^ scale) (less n (10 ^ scale) h)) (plain_unless (n % 10 ^ scale == 0) _ (fraction_plain scale (n % 10 ^ scale)))

-- the parts of a line, and a line of few of them
record IsPart (text : List ℕ) : Type 0 where
  pub plain : is_plain text ≡ true
  pub short : length text ≤ 32

behind_plain : (texts : List (List ℕ)) → AllByRecursion IsPart texts → is_plain (behind texts) ≡ true
behind_plain [] all = refl
behind_plain (text ∷ texts) (part, all) = plain-append text (behind texts) part.plain (behind_plain texts all)

behind_short : (texts : List (List ℕ)) → AllByRecursion IsPart texts → length (behind texts) ≤ 33 * length texts
behind_short [] all = omega arith
behind_short (text ∷ texts) (part, all) = let n = length-append text (behind texts) in let r = behind_short texts all in let s = part.short in omega (arith, n, r, s)

-- an item whose line is plain and short, and that does not end the text
pub record IsFine (item : Item) : Type 0 where
  pub plain : is_plain (canonical builtin_defs item) ≡ true
  pub short : length (canonical builtin_defs item) ≤ 299
  pub goes_on : is_end item ≡ false

parts_fine : (item : Item) (text : List ℕ) (texts : List (List ℕ)) → canonical builtin_defs item ≡ joined (text ∷ texts) → AllByRecursion IsPart (text ∷ texts) → length texts ≤ 8 → is_end item ≡ false → IsFine item
parts_fine item text texts e (part, all) few goes = record {
  plain = ap is_plain e ∙ plain-append text (behind texts) part.plain (behind_plain texts all);
  short = let n = ap length e in let m = length-append text (behind texts) in let r = behind_short texts all in let s = part.short in omega (arith, n, m, r, s, few);
  goes_on = goes;
}

dec_part : (scale n : ℕ) → scale ≤ 9 → n < 2 ^ 63 → IsPart (dec_text scale (pos n))
dec_part scale n h k = record { plain = dec_plain scale n (omega arith); short = let s = text_short scale (pos n) h (omega arith) in omega (arith, s) }

count_part : (n : ℕ) → n < 2 ^ 63 → IsPart (decimal n)
count_part n h = record { plain = decimal_plain n (omega arith); short = let s = count_short n (omega arith) in omega (arith, s) }

symbol_part : (digit : ℕ) → IsPart (83 ∷ (48 + digit) ∷ [])
symbol_part digit = record { plain = one_digit digit; short = omega arith }

price_few : (x : ℕ) → x % 1000000 + 1 ≤ 1000000
price_few x = omega arith

price_part : (x : ℕ) → IsPart (dec_text 4 (pos (x % 1000000 + 1)))
price_part x = let p = price_few x in dec_part 4 (x % 1000000 + 1) (omega arith) (omega (arith, p))

pub quote_fine : (i x : ℕ) → i < 2 ^ 32 → IsFine (quote_of i x)
unfolding canonical
quote_fine i x h =
    let p = price_few x in
    parts_fine (quote_of i x) (codes "Quote")
    ((83 ∷ (48 + x % 10) ∷ []) ∷ dec_text 4 (pos (x % 1000000 + 1)) ∷ dec_text 0 (pos i) ∷ dec_text 4 (pos (x % 1000000 + 1 + 100)) ∷ dec_text 0 (pos (i + 1)) ∷ []) refl
    (record { plain = refl; short = omega arith }, (symbol_part (x % 10), (price_part x, (dec_part 0 i (omega arith) (omega arith), (dec_part 4 (x % 1000000 + 1 + 100) (omega arith) (omega (arith, p)), (dec_part 0 (i + 1) (omega arith) (omega arith), tt))))))
    (omega arith) refl

pub trade_fine : (i x : ℕ) → i < 2 ^ 32 → x < 2 ^ 32 → IsFine (trade_of i x)
unfolding canonical
trade_fine i x h k =
    parts_fine (trade_of i x) (codes "Trade")
    ((83 ∷ (48 + x % 10) ∷ []) ∷ dec_text 4 (pos (x % 1000000 + 1)) ∷ dec_text 0 (pos i) ∷ dec_text 0 (pos x) ∷ []) refl
    (record { plain = refl; short = omega arith }, (symbol_part (x % 10), (price_part x, (dec_part 0 i (omega arith) (omega arith), (dec_part 0 x (omega arith) (omega arith), tt)))))
    (omega arith) refl

pub candle_fine : (i x : ℕ) → i < 2 ^ 32 → IsFine (candle_of i x)
unfolding canonical
candle_fine i x h =
    let price : List ℕ = dec_text 4 (pos (x % 1000000 + 1)) in
    parts_fine (candle_of i x) (codes "Candle")
    ((83 ∷ (48 + x % 10) ∷ []) ∷ decimal (i + 1) ∷ decimal 0 ∷ price ∷ price ∷ price ∷ price ∷ dec_text 0 (pos i) ∷ []) refl
    (record { plain = refl; short = omega arith }, (symbol_part (x % 10), (count_part (i + 1) (omega arith), (count_part 0 (omega arith), (price_part x, (price_part x, (price_part x, (price_part x, (dec_part 0 i (omega arith) (omega arith), tt)))))))))
    (omega arith) refl

-- items whose lines are found to be plain and short
abbrev is_fine : Item → Bool
is_fine item = is_plain (canonical builtin_defs item) && (nat_le (length (canonical builtin_defs item)) 299 && not (is_end item))

no_end : (b : Bool) → not b ≡ true → b ≡ false
no_end true h = absurd (cc)
no_end false h = refl

found_fine : (item : Item) → is_fine item ≡ true → IsFine item
found_fine item h =
    let p = first_true (is_plain (canonical builtin_defs item)) _ h in
    let q = first_true (nat_le (length (canonical builtin_defs item)) 299) (not (is_end item)) p.1 in
    record { plain = p.0; short = grind (arith, nat_tests); goes_on = no_end (is_end item) q.1 }

all_found : (items : List Item) → list_all is_fine items ≡ true → AllByRecursion IsFine items
all_found [] h = tt
all_found (item ∷ items) h = let p = first_true (is_fine item) (list_all is_fine items) h in (found_fine item p.0, all_found items p.1)

pub first_fine : AllByRecursion IsFine first_items
unfolding first_items canonical digits dec_text magnitude_text
first_fine = all_found first_items refl

pub takes_fine : AllByRecursion IsFine three_takes
unfolding canonical digits
takes_fine = all_found three_takes refl

pub heads_fine : AllByRecursion IsFine (Head TickerData ∷ Head StreamData ∷ Head HistoryData ∷ [])
unfolding canonical
heads_fine = all_found (Head TickerData ∷ Head StreamData ∷ Head HistoryData ∷ []) refl

pub end_plain : (is_plain (canonical builtin_defs End) ≡ true) × (length (canonical builtin_defs End) ≡ 5)
unfolding canonical
end_plain = (refl, refl)

pub fine-append : (a b : List Item) → AllByRecursion IsFine a → AllByRecursion IsFine b → AllByRecursion IsFine (a ++ b)
fine-append [] b h k = k
fine-append (x ∷ a) b h k = (h.0, fine-append a b h.1 k)

pub maybe_fine : (b : Bool) → AllByRecursion IsFine (if b then three_takes else [])
maybe_fine true = takes_fine
maybe_fine false = tt
