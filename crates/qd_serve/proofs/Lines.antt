-- Lines are written one after the other.
use Rattle.std.proofs.Common.{◌≡◌, ℕ, ◌+◌, ◌<◌, List, [], ◌∷◌, ◌++◌, length, take, drop, get_or, Option, refl, sym, ap, ◌∙◌, subst, append_assoc, add-one}
use Rattle.std.proofs.Math.Seq.{take-suc}
use Rattle.std.proofs.lemmas.List.{append-nil, take-append-drop}
use Rattle.qd_outside.specs.Writing.{IsWritten, IsCutShort}
use Rattle.qd_outside.proofs.Streams.{written_after, cut_after, cut_more}
use Rattle.qd_serve.specs.declared.ends.Told.{Told}
use Rattle.qd_serve.specs.Printing.{told_line, told_text}

text_append : (xs ys : List Told) → told_text (xs ++ ys) ≡ told_text xs ++ told_text ys
text_append [] ys = refl
text_append (x ∷ xs) ys = ap (λ (l : List ℕ). told_line x ++ l) (text_append xs ys) ∙ sym (append_assoc (told_line x) (told_text xs) (told_text ys))

text_more : (told : List Told) (i : ℕ) (d : Told) → i < length told → told_text (take (i + 1) told) ≡ told_text (take i told) ++ told_line (get_or told i d)
text_more told i d h =
    ap (λ (n : ℕ). told_text (take n told)) (add-one i) ∙ ap told_text (take-suc told i d h) ∙ text_append (take i told) (get_or told i d ∷ [])
    ∙ ap (λ (l : List ℕ). told_text (take i told) ++ l) (append-nil (told_line (get_or told i d)))

pub lines_more : (told : List Told) (i : ℕ) (d : Told) (was mid now : Option (List ℕ)) (f g h : ℕ) → i < length told → IsWritten (told_text (take i told)) was mid f g → IsWritten (told_line (get_or told i d)) mid now g h → IsWritten (told_text (take (i + 1) told)) was now f h
lines_more told i d was mid now f g h below w v = subst (λ (l : List ℕ). IsWritten l was now f h) (sym (text_more told i d below)) (written_after (told_text (take i told)) (told_line (get_or told i d)) was mid now f g h w v)

pub lines_cut : (told : List Told) (i : ℕ) (d : Told) (was mid now : Option (List ℕ)) (f g h : ℕ) → i < length told → IsWritten (told_text (take i told)) was mid f g → IsCutShort (told_line (get_or told i d)) mid now g h → IsCutShort (told_text told) was now f h
lines_cut told i d was mid now f g h below w v =
    let all : told_text (take (i + 1) told) ++ told_text (drop (i + 1) told) ≡ told_text told = sym (text_append (take (i + 1) told) (drop (i + 1) told)) ∙ ap told_text (take-append-drop (i + 1) told) in
    subst (λ (l : List ℕ). IsCutShort l was now f h) all
    (cut_more (told_text (take (i + 1) told)) (told_text (drop (i + 1) told)) was now f h
    (subst (λ (l : List ℕ). IsCutShort l was now f h) (sym (text_more told i d below)) (cut_after (told_text (take i told)) (told_line (get_or told i d)) was mid now f g h w v)))
