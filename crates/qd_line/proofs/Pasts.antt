-- What a cutter of lines stands for, call by call.
use Rattle.std.proofs.Common.{◌≡◌, ℕ, true, List, [], ◌∷◌, ◌++◌, sym, ◌∙◌, ap, arith, append_assoc}
use Rattle.qd_line.specs.Held.{Held}
use Rattle.qd_line.specs.Lines.{is_one_line, without_cr, joined, IsCut}
use Rattle.qd_line.specs.Cutter.{GivesLine, Past, StandsFor, with_answer}
use Rattle.qd_line.specs.declared.cutter.Next.TheVariants.{Line}

-- one more line off the front of what is left
pub cut_more : (text line rest : List ℕ) (before : List (List ℕ)) (left : List ℕ) → IsCut text before left → left ≡ line ++ 10 ∷ rest → is_one_line line ≡ true → IsCut text (line ∷ before) rest
cut_more text line rest before left cut e one = record {
  whole = cut.whole ∙ ap (λ (t : List ℕ). joined before ++ t) (e ∙ sym (append_assoc line (10 ∷ []) rest)) ∙ sym (append_assoc (joined before) (line ++ 10 ∷ []) rest);
  each = (one, cut.each);
}

pub stands_line : (old new : Held) (line : List ℕ) → GivesLine old new line → (past : Past) → StandsFor old past → StandsFor new (with_answer past Line new.text)
stands_line old new line gives past (lines, has) = (
  line ∷ lines,
  record {
    cut = cut_more past.fed line new.left lines old.left has.cut gives.stood gives.one;
    texts = ap (λ (t : List ℕ). t ∷ past.given) gives.text ∙ ap (λ (ts : List (List ℕ)). without_cr line ∷ ts) has.texts;
    short = (gives.short, has.short);
    counted = let a = gives.counted in let b = has.counted in omega arith;
  },
)
