-- How the bytes of a scheme file are read on.
use Rattle.std.proofs.Common.{◌≡◌, ℕ, zero, suc, ◌+◌, ◌<◌, ◌≤◌, Bool, true, false, cond, List, [], ◌∷◌, ◌++◌, length, take, refl, sym, ◌∙◌, ap, arith, append_assoc, length-append}
use Rattle.std.specs.Prelude.{◌==◌, not, nat_eq, nat_le, Result, Ok, Err}
use Rattle.std.proofs.lemmas.Bool.Decides.{nat_tests}
use Rattle.std.proofs.lemmas.List.{append-nil}
use Rattle.qd_line.specs.Lines.{is_one_line}
use Rattle.qd_line.proofs.Feeds.{and_left, and_right}
use Rattle.qd_text.specs.SchemeLines.{SchemeText}
use Rattle.qd_scheme_file.specs.declared.no_scheme.NoScheme.{NoScheme}
use Rattle.qd_scheme_file.specs.declared.no_scheme.NoScheme.TheVariants.{LineTooLong}
use Rattle.qd_scheme_file.specs.Told.{read_on, with_text, ◌then◌}

-- what was read, and the bytes of the line that does not end
abbrev pub Was : Type 0
Was = Result (SchemeText × List ℕ) NoScheme

-- a byte that ends no line
pub other_byte : (b : ℕ) → not (nat_eq b 10) ≡ true → (b == 10) ≡ false
other_byte b h = go (nat_eq b 10) h
  where
    go : (t : Bool) → not t ≡ true → t ≡ false
    go true h = absurd (cc)
    go false h = refl

then_both : (first : Result SchemeText NoScheme) (f : SchemeText → Was) (g : SchemeText → Was) (k : SchemeText × List ℕ → Was) → ((t : SchemeText) → g t ≡ (f t then k)) → (first then g) ≡ ((first then f) then k)
then_both (Ok t) f g k h = h t
then_both (Err e) f g k h = refl

one_step : (ends long : Bool) (line more line' more' : Was) (e : NoScheme) (k : SchemeText × List ℕ → Was) → line' ≡ (line then k) → more' ≡ (more then k) → cond ends line' (cond long (Err e) more') ≡ (cond ends line (cond long (Err e) more) then k)
one_step true long line more line' more' e k p q = p
one_step false true line more line' more' e k p q = refl
one_step false false line more line' more' e k p q = q

-- what two pieces in a row say: what the first says, and then what the second says behind it
pub read_on-append : (text : SchemeText) (front first second : List ℕ) → read_on text front (first ++ second) ≡ (read_on text front first then (λ (r : SchemeText × List ℕ). read_on r.0 r.1 second))
unfolding read_on
read_on-append text front [] second = refl
read_on-append text front (b ∷ first) second =
    one_step (b == 10) (nat_le 4096 (length front))
    (with_text text front then (λ (next : SchemeText). read_on next [] first)) (read_on text (front ++ b ∷ []) first)
    (with_text text front then (λ (next : SchemeText). read_on next [] (first ++ second))) (read_on text (front ++ b ∷ []) (first ++ second))
    (LineTooLong (text.lines + 1)) (λ (r : SchemeText × List ℕ). read_on r.0 r.1 second)
    (then_both (with_text text front) (λ (next : SchemeText). read_on next [] first) (λ (next : SchemeText). read_on next [] (first ++ second)) (λ (r : SchemeText × List ℕ). read_on r.0 r.1 second) (λ t. read_on-append t [] first second))
    (read_on-append text (front ++ b ∷ []) first second)

-- one more byte of a line that is short
short_step : (text : SchemeText) (front bytes : List ℕ) (b : ℕ) → (b == 10) ≡ false → length front < 4096 → read_on text front (b ∷ bytes) ≡ read_on text (front ++ b ∷ []) bytes
unfolding read_on
short_step text front bytes b e h = let long : nat_le 4096 (length front) ≡ false = grind (arith, nat_tests) in rw (e, long) refl

-- a line that ends, and what follows it
pub read_on-nothing : (text : SchemeText) (front : List ℕ) → read_on text front [] ≡ Ok (text, front)
unfolding read_on
read_on-nothing text front = refl

pub read_on-line : (text : SchemeText) (front line rest : List ℕ) → is_one_line line ≡ true → length front + length line ≤ 4096 → read_on text front (line ++ 10 ∷ rest) ≡ (with_text text (front ++ line) then (λ (next : SchemeText). read_on next [] rest))
unfolding read_on
read_on-line text front [] rest h l = ap (λ (t : List ℕ). with_text text t then (λ (next : SchemeText). read_on next [] rest)) (sym (append-nil front))
read_on-line text front (b ∷ line) rest h l =
    short_step text front (line ++ 10 ∷ rest) b (other_byte b (and_left (not (nat_eq b 10)) (is_one_line line) h)) (omega arith)
    ∙ read_on-line text (front ++ b ∷ []) line rest (and_right (not (nat_eq b 10)) (is_one_line line) h) (simp length-append (omega arith))
    ∙ ap (λ (t : List ℕ). with_text text t then (λ (next : SchemeText). read_on next [] rest)) (append_assoc front (b ∷ []) line)

-- bytes with no line feed are left
pub read_on-rest : (text : SchemeText) (front left : List ℕ) → is_one_line left ≡ true → length front + length left ≤ 4096 → read_on text front left ≡ Ok (text, front ++ left)
unfolding read_on
read_on-rest text front [] h l = ap (λ (t : List ℕ). Ok (text, t)) (sym (append-nil front))
read_on-rest text front (b ∷ left) h l =
    short_step text front left b (other_byte b (and_left (not (nat_eq b 10)) (is_one_line left) h)) (omega arith)
    ∙ read_on-rest text (front ++ b ∷ []) left (and_right (not (nat_eq b 10)) (is_one_line left) h) (simp length-append (omega arith))
    ∙ ap (λ (t : List ℕ). Ok (text, t)) (append_assoc front (b ∷ []) left)

long_step : (text : SchemeText) (front left : List ℕ) (b : ℕ) (long : Bool) → nat_le 4096 (length front) ≡ long → (length front < 4096 → read_on text (front ++ b ∷ []) left ≡ Err (LineTooLong (text.lines + 1))) → cond long (Err (LineTooLong (text.lines + 1))) (read_on text (front ++ b ∷ []) left) ≡ Err (LineTooLong (text.lines + 1))
long_step text front left b true e k = refl
long_step text front left b false e k = let s : length front < 4096 = grind (arith, nat_tests) in k s

-- 4097 bytes with no line feed are too long
pub read_on-long : (text : SchemeText) (front left : List ℕ) (n : ℕ) → is_one_line (take n left) ≡ true → n ≤ length left → length front ≤ 4096 → 4096 < length front + n → read_on text front left ≡ Err (LineTooLong (text.lines + 1))
unfolding read_on
read_on-long text front [] n h w s l = absurd (omega arith)
read_on-long text front (b ∷ left) zero h w s l = absurd (omega arith)
read_on-long text front (b ∷ left) (suc n) h w s l =
    let e : (b == 10) ≡ false = other_byte b (and_left (not (nat_eq b 10)) (is_one_line (take n left)) h) in
    rw e (long_step text front left b (nat_le 4096 (length front)) refl (λ k. read_on-long text (front ++ b ∷ []) left n (and_right (not (nat_eq b 10)) (is_one_line (take n left)) h) (omega arith) (simp length-append (omega arith)) (simp length-append (omega arith))))
