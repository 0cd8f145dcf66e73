-- The lines of one text, cut off in two ways: one list is the first of the other, and a further line begins with the rest.
use Rattle.std.proofs.Common.{ℕ, ◌≡◌, ◌-◌, ◌≤◌, true, List, [], ◌∷◌, ◌++◌, length, take, drop, sym, ◌∙◌, ap, subst, arith, length-append, length-drop}
use Rattle.std.specs.Prelude.{not, nat_eq}
use Rattle.std.proofs.lemmas.List.{append_cancel_left, take-append-drop}
use Rattle.qd_line.specs.Lines.{is_one_line, joined, IsCut}
use Rattle.qd_line.proofs.Feeds.{and_right, no_feed_at}
use Rattle.qd_line.proofs.LineLaws.{cut_less, same_cuts}

-- a text cut at its first lines alone
record IsShorter (text : List ℕ) (lines : List (List ℕ)) : Type 0 where
  rest : List ℕ
  cut : IsCut text lines rest

shorter : (text : List ℕ) (more lines : List (List ℕ)) (rest : List ℕ) → IsCut text (more ++ lines) rest → IsShorter text lines
shorter text [] lines rest c = record { rest = rest; cut = c }
shorter text (line ∷ more) lines rest c = shorter text more lines (line ++ 10 ∷ rest) (cut_less text line rest (more ++ lines) c)

-- of two lists of lines of one text, the longer one goes on from the shorter one
pub goes_on : (text : List ℕ) (a b : List (List ℕ)) (x y : List ℕ) → IsCut text a x → IsCut text b y → length a ≤ length b → (more : List (List ℕ)) × (b ≡ more ++ a)
goes_on text a b x y h k l =
    let n = length b - length a in
    let parts : b ≡ take n b ++ drop n b = sym (take-append-drop n b) in
    let s = shorter text (take n b) (drop n b) y (subst (λ (ls : List (List ℕ)). IsCut text ls y) parts k) in
    let size = length-drop n b in
    let same = same_cuts text a (drop n b) x s.rest h s.cut (omega (arith, size, l)) in
    (take n b, parts ∙ ap (λ (ls : List (List ℕ)). take n b ++ ls) (sym same.0))

-- bytes with no line feed are no longer than the line that they begin
pub long_line : (x t l z : List ℕ) → is_one_line x ≡ true → x ++ t ≡ l ++ 10 ∷ z → length x ≤ length l
long_line [] t l z c e = omega arith
long_line (a ∷ x) t [] z c e = let q : a ≡ 10 = cc in absurd (no_feed_at (a ∷ x) 0 c (omega arith) q)
long_line (a ∷ x) t (b ∷ l) z c e =
    let tail : x ++ t ≡ l ++ 10 ∷ z = cc in
    let r = long_line x t l z (and_right (not (nat_eq a 10)) (is_one_line x) c) tail in
    omega (arith, r)

-- a further line begins with what is left behind the lines before it
pub next_line : (text : List ℕ) (lines more : List (List ℕ)) (line x t rest : List ℕ) → IsCut text lines (x ++ t) → is_one_line x ≡ true → IsCut text (more ++ line ∷ lines) rest → length x ≤ length line
next_line text lines more line x t rest h one k =
    let s = shorter text more (line ∷ lines) rest k in
    let c = cut_less text line s.rest lines s.cut in
    long_line x t line s.rest one (append_cancel_left (joined lines) (x ++ t) (line ++ 10 ∷ s.rest) (sym h.whole ∙ c.whole))

-- more lines take more bytes
pub joined_more : (more ls : List (List ℕ)) → length (joined ls) ≤ length (joined (more ++ ls))
joined_more [] ls = omega arith
joined_more (l ∷ more) ls = let r = joined_more more ls in let n = length-append (joined (more ++ ls)) (l ++ 10 ∷ []) in omega (arith, r, n)
