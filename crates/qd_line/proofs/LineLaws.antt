-- The laws of lines.
use Rattle.std.proofs.Common.{◌≡◌, ℕ, ◌<◌, Bool, true, false, cond, List, [], ◌∷◌, ◌++◌, length, take, get_or, reverse, refl, sym, ◌∙◌, ap, subst, arith, append_assoc, length-append, length-take}
use Rattle.std.specs.Prelude.{◌==◌, not, nat_eq, map}
use Rattle.std.proofs.lemmas.List.{get_or-take, take-append-le, append-nil, reverse-append}
use Rattle.std.proofs.Math.Seq.{get_or-append_seam}
use Rattle.qd_line.specs.Held.{Held}
use Rattle.qd_line.specs.Lines.{is_one_line, without_cr, lines_behind, lines, last_behind, last_bytes, joined, IsCut}
use Rattle.qd_line.specs.Cutter.{Answers, GivesLine, IsHungry, IsTooLong, Past, StandsFor}
use Rattle.qd_line.specs.declared.cutter.Next.{Next}
use Rattle.qd_line.specs.declared.cutter.Next.TheVariants.{Line, None, TooLong}
use Rattle.qd_line.proofs.Feeds.{and_left, and_right, no_feed_at}

other_byte : (b : ℕ) → not (nat_eq b 10) ≡ true → (b == 10) ≡ false
other_byte b h = go (nat_eq b 10) h
  where
    go : (t : Bool) → not t ≡ true → t ≡ false
    go true h = absurd (cc)
    go false h = refl

one_more : (front : List ℕ) (b : ℕ) → is_one_line front ≡ true → (b == 10) ≡ false → is_one_line (front ++ b ∷ []) ≡ true
one_more [] b h e = rw e refl
one_more (c ∷ front) b h e =
    let first : not (nat_eq c 10) ≡ true = and_left (not (nat_eq c 10)) (is_one_line front) h in
    let others : is_one_line (front ++ b ∷ []) ≡ true = one_more front b (and_right (not (nat_eq c 10)) (is_one_line front) h) e in
    rw (first, others) refl

-- a line, and the lines of what follows it
line_first : (front line rest : List ℕ) → is_one_line line ≡ true → lines_behind front (line ++ 10 ∷ rest) ≡ without_cr (front ++ line) ∷ lines rest
line_first front [] rest h = ap (λ (t : List ℕ). without_cr t ∷ lines rest) (sym (append-nil front))
line_first front (b ∷ line) rest h =
    let e : (b == 10) ≡ false = other_byte b (and_left (not (nat_eq b 10)) (is_one_line line) h) in
    rw e (line_first (front ++ b ∷ []) line rest (and_right (not (nat_eq b 10)) (is_one_line line) h) ∙ ap (λ (t : List ℕ). without_cr t ∷ lines rest) (append_assoc front (b ∷ []) line))

no_line : (front left : List ℕ) → is_one_line left ≡ true → lines_behind front left ≡ []
no_line front [] h = refl
no_line front (b ∷ left) h =
    let e : (b == 10) ≡ false = other_byte b (and_left (not (nat_eq b 10)) (is_one_line left) h) in
    rw e (no_line (front ++ b ∷ []) left (and_right (not (nat_eq b 10)) (is_one_line left) h))

pub no_line_left : (left : List ℕ) → is_one_line left ≡ true → lines left ≡ []
no_line_left left h = no_line [] left h

one_front : (done front bytes : List ℕ) → is_one_line front ≡ true → lines_behind done (front ++ bytes) ≡ lines_behind (done ++ front) bytes
one_front done [] bytes h = ap (λ (t : List ℕ). lines_behind t bytes) (sym (append-nil done))
one_front done (b ∷ front) bytes h =
    let e : (b == 10) ≡ false = other_byte b (and_left (not (nat_eq b 10)) (is_one_line front) h) in
    rw e (one_front (done ++ b ∷ []) front bytes (and_right (not (nat_eq b 10)) (is_one_line front) h) ∙ ap (λ (t : List ℕ). lines_behind t bytes) (append_assoc done (b ∷ []) front))

behind_both : (front first second : List ℕ) → is_one_line front ≡ true → lines_behind front (first ++ second) ≡ lines_behind front first ++ lines (last_behind front first ++ second)
behind_both front [] second h = sym (one_front [] front second h)
behind_both front (b ∷ first) second h =
    let go : (t : Bool) → (b == 10) ≡ t → cond t (without_cr front ∷ lines (first ++ second)) (lines_behind (front ++ b ∷ []) (first ++ second)) ≡ cond t (without_cr front ∷ lines first) (lines_behind (front ++ b ∷ []) first) ++ lines (cond t (last_bytes first) (last_behind (front ++ b ∷ []) first) ++ second) = elim [
      | true ↦ λ e. ap (λ (ts : List (List ℕ)). without_cr front ∷ ts) (behind_both [] first second refl)
      | false ↦ λ e. behind_both (front ++ b ∷ []) first second (one_more front b h e)
    ] in
    go (b == 10) refl

pub lines_in_a_row : (first second : List ℕ) → lines (first ++ second) ≡ lines first ++ lines (last_bytes first ++ second)
lines_in_a_row first second = behind_both [] first second refl

-- two ways to cut a line off
pub same_cut : (a b x y : List ℕ) → is_one_line a ≡ true → is_one_line b ≡ true → a ++ 10 ∷ x ≡ b ++ 10 ∷ y → (a ≡ b) × (x ≡ y)
same_cut [] [] x y h k e = (refl, cc)
same_cut [] (c ∷ b) x y h k e = let q : 10 ≡ c = cc in absurd (no_feed_at (c ∷ b) 0 k (omega arith) (sym q))
same_cut (c ∷ a) [] x y h k e = let q : c ≡ 10 = cc in absurd (no_feed_at (c ∷ a) 0 h (omega arith) q)
same_cut (c ∷ a) (d ∷ b) x y h k e =
    let q : c ≡ d = cc in
    let r : a ++ 10 ∷ x ≡ b ++ 10 ∷ y = cc in
    let s = same_cut a b x y (and_right (not (nat_eq c 10)) (is_one_line a) h) (and_right (not (nat_eq d 10)) (is_one_line b) k) r in
    (ap (λ (t : List ℕ). c ∷ t) s.0 ∙ ap (λ (n : ℕ). n ∷ b) q, s.1)

-- the last line of a cut goes back to what is left
pub cut_less : (text line rest : List ℕ) (before : List (List ℕ)) → IsCut text (line ∷ before) rest → IsCut text before (line ++ 10 ∷ rest)
cut_less text line rest before cut = record {
  whole = cut.whole ∙ append_assoc (joined before) (line ++ 10 ∷ []) rest ∙ ap (λ (t : List ℕ). joined before ++ t) (append_assoc line (10 ∷ []) rest);
  each = cut.each.1;
}

pub same_cuts : (text : List ℕ) (a b : List (List ℕ)) (x y : List ℕ) → IsCut text a x → IsCut text b y → length a ≡ length b → (a ≡ b) × (x ≡ y)
same_cuts text [] [] x y h k e = (refl, sym h.whole ∙ k.whole)
same_cuts text [] (d ∷ b) x y h k e = absurd (omega arith)
same_cuts text (c ∷ a) [] x y h k e = absurd (omega arith)
same_cuts text (c ∷ a) (d ∷ b) x y h k e =
    let s = same_cuts text a b (c ++ 10 ∷ x) (d ++ 10 ∷ y) (cut_less text c x a h) (cut_less text d y b k) (omega arith) in
    let t = same_cut c d x y h.each.0 k.each.0 s.1 in
    (ap (λ (ls : List (List ℕ)). c ∷ ls) s.0 ∙ ap (λ (l : List ℕ). l ∷ b) t.0, t.1)

pub any_cutting : (one other : Held) (past than : Past) → StandsFor one past → StandsFor other than → past.fed ≡ than.fed → one.line ≡ other.line → (past.given ≡ than.given) × (one.left ≡ other.left)
any_cutting one other past than (a, h) (b, k) e n =
    let c : IsCut past.fed b other.left = subst (λ (t : List ℕ). IsCut t b other.left) (sym e) k.cut in
    let s = same_cuts past.fed a b one.left other.left h.cut c (let p = h.counted in let q = k.counted in omega arith) in
    (h.texts ∙ ap (λ (ls : List (List ℕ)). map without_cr ls) s.0 ∙ sym k.texts, s.1)

cut_lines : (text : List ℕ) (before : List (List ℕ)) (rest : List ℕ) → IsCut text before rest → lines text ≡ reverse (map without_cr before) ++ lines rest
cut_lines text [] rest cut = ap lines cut.whole
cut_lines text (line ∷ before) rest cut =
    cut_lines text before (line ++ 10 ∷ rest) (cut_less text line rest before cut)
    ∙ ap (λ (ls : List (List ℕ)). reverse (map without_cr before) ++ ls) (line_first [] line rest cut.each.0)
    ∙ sym (append_assoc (reverse (map without_cr before)) (without_cr line ∷ []) (lines rest))
    ∙ ap (λ (ls : List (List ℕ)). ls ++ lines rest) (sym (reverse-append (without_cr line ∷ []) (map without_cr before)))

pub lines_given : (held : Held) (past : Past) → StandsFor held past → lines past.fed ≡ reverse past.given ++ lines held.left
lines_given held past (before, h) = cut_lines past.fed before held.left h.cut ∙ ap (λ (ls : List (List ℕ)). reverse ls ++ lines held.left) (sym h.texts)

pub too_long_stays : (left piece : List ℕ) → IsTooLong left → IsTooLong (left ++ piece)
too_long_stays left piece h =
    let e : take 4097 (left ++ piece) ≡ take 4097 left = take-append-le 4097 left piece (let l = h.long in omega arith) in
    record { long = let l = h.long in omega (arith, length-append left piece); one = ap (λ (t : List ℕ). is_one_line t) e ∙ h.one }

-- a line feed stands behind a line, among the first 4097 bytes
feed_behind : (left line rest : List ℕ) → left ≡ line ++ 10 ∷ rest → (length line < length left) × (get_or left (length line) 0 ≡ 10)
feed_behind left line rest e = (
  omega (arith, ap (λ (t : List ℕ). length t) e, length-append line (10 ∷ rest)),
  ap (λ (t : List ℕ). get_or t (length line) 0) e ∙ get_or-append_seam line 10 rest 0,
)

line_not_hungry : (old new : Held) (line : List ℕ) → GivesLine old new line → is_one_line old.left ≡ true → ⊥
line_not_hungry old new line gives one =
    let f = feed_behind old.left line new.left gives.stood in
    no_feed_at old.left (length line) one f.0 f.1

line_not_long : (old new : Held) (line : List ℕ) → GivesLine old new line → IsTooLong old.left → ⊥
line_not_long old new line gives long =
    let f = feed_behind old.left line new.left gives.stood in
    let l : length line < 4097 = let s = gives.short in omega arith in
    let size : length line < length (take 4097 old.left) = let g = f.0 in omega (arith, length-take 4097 old.left) in
    no_feed_at (take 4097 old.left) (length line) long.one size (get_or-take 4097 old.left (length line) 0 l ∙ f.1)

hungry_not_long : (left : List ℕ) → IsHungry left → IsTooLong left → ⊥
hungry_not_long left h k = let a = h.short in let b = k.long in omega arith

held_same : (one other : Held) → one.text ≡ other.text → one.left ≡ other.left → one.line ≡ other.line → one ≡ other
held_same one other p q r =
    let held : List ℕ → List ℕ → ℕ → Held = λ t l n. record { text = t; left = l; line = n } in
    ap (λ (t : List ℕ). held t one.left one.line) p ∙ ap (λ (t : List ℕ). held other.text t one.line) q ∙ ap (λ (n : ℕ). held other.text other.left n) r

same_line : (old one other : Held) (line than : List ℕ) → GivesLine old one line → GivesLine old other than → one ≡ other
same_line old one other line than h k =
    let c = same_cut line than one.left other.left h.one k.one (sym h.stood ∙ k.stood) in
    held_same one other (h.text ∙ ap without_cr c.0 ∙ sym k.text) c.1 (h.counted ∙ sym k.counted)

pub one_answer : (old one other : Held) (answer than : Next) → Answers old one answer → Answers old other than → (answer ≡ than) × (one ≡ other)
one_answer old one other Line Line (line, h) (than, k) = (refl, same_line old one other line than h k)
one_answer old one other Line None (line, h) k = absurd (line_not_hungry old one line h k.0.one)
one_answer old one other Line (TooLong n) (line, h) k = absurd (line_not_long old one line h k.0)
one_answer old one other None Line h (than, k) = absurd (line_not_hungry old other than k h.0.one)
one_answer old one other None None h k = (refl, h.1 ∙ sym k.1)
one_answer old one other None (TooLong n) h k = absurd (hungry_not_long old.left h.0 k.0)
one_answer old one other (TooLong m) Line h (than, k) = absurd (line_not_long old other than k h.0)
one_answer old one other (TooLong m) None h k = absurd (hungry_not_long old.left k.0 h.0)
one_answer old one other (TooLong m) (TooLong n) h k = (ap (λ (i : ℕ). TooLong i) (h.1 ∙ sym k.1), h.2 ∙ sym k.2)
