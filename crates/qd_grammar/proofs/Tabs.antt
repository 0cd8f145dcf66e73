-- Texts without a TAB, joined by TABs, are the parts of the line.
use Rattle.std.proofs.Common.{◌≡◌, ℕ, ◌+◌, true, false, List, [], ◌∷◌, ◌++◌, length, refl, ◌∙◌, ap, arith}
use Rattle.std.specs.Prelude.{◌==◌}
use Rattle.qd_grammar.specs.Parts.{Part, cut, parts_of, with_front}
use Rattle.qd_grammar.specs.Canonical.{behind, joined}

-- no byte of a text is a TAB
abbrev pub HasNoTab : List ℕ → Type 0
HasNoTab [] = Unit {0}
HasNoTab (byte ∷ bytes) = ((byte == 9) ≡ false) × HasNoTab bytes

abbrev pub HaveNoTab : List (List ℕ) → Type 0
HaveNoTab [] = Unit {0}
HaveNoTab (text ∷ texts) = HasNoTab text × HaveNoTab texts

pub no_tab-append : (x y : List ℕ) → HasNoTab x → HasNoTab y → HasNoTab (x ++ y)
no_tab-append [] y h k = k
no_tab-append (b ∷ x) y h k = (h.0, no_tab-append x y h.1 k)

pub no_tabs-append : (x y : List (List ℕ)) → HaveNoTab x → HaveNoTab y → HaveNoTab (x ++ y)
no_tabs-append [] y h k = k
no_tabs-append (t ∷ x) y h k = (h.0, no_tabs-append x y h.1 k)

-- texts as the parts of a line from a place on
abbrev pub placed : ℕ → List (List ℕ) → List Part
placed place [] = []
placed place (text ∷ texts) = record { place = place; bytes = text } ∷ placed (place + length text + 1) texts

-- the parts behind a text
abbrev behind_text : ℕ → List ℕ → List Part
behind_text place [] = []
behind_text place (byte ∷ bytes) = cut (place + 1) bytes

-- what follows a text is nothing, or begins with a TAB
abbrev Follows : List ℕ → Type 0
Follows [] = Unit {0}
Follows (byte ∷ bytes) = (byte == 9) ≡ true

one_part : (place m n : ℕ) (text rest : List ℕ) → m ≡ n → ◌≡◌ {A = List Part} (record { place = place; bytes = text } ∷ behind_text m rest) (record { place = place; bytes = text } ∷ behind_text n rest)
one_part place m n text rest e = ap (λ k. record { place = place; bytes = text } ∷ behind_text k rest) e

cut_text : (place : ℕ) (text rest : List ℕ) → HasNoTab text → Follows rest → cut place (text ++ rest) ≡ record { place = place; bytes = text } ∷ behind_text (place + length text) rest
cut_text place [] [] h f = refl
cut_text place [] (byte ∷ bytes) h f = let e : place + 0 ≡ place = omega arith in rw (f, e) refl
cut_text place (b ∷ text) rest h f =
    let e : place + 1 + length text ≡ place + length (b ∷ text) = omega arith in
    rw h.0 (ap (with_front place b) (cut_text (place + 1) text rest h.1 f) ∙ one_part place _ _ (b ∷ text) rest e)

follows : (texts : List (List ℕ)) → Follows (behind texts)
follows [] = tt
follows (text ∷ texts) = refl

cut_texts : (place : ℕ) (text : List ℕ) (texts : List (List ℕ)) → HasNoTab text → HaveNoTab texts → cut place (text ++ behind texts) ≡ placed place (text ∷ texts)
cut_texts place text [] h k = cut_text place text [] h tt
cut_texts place text (next ∷ texts) h k =
    cut_text place text (behind (next ∷ texts)) h refl
    ∙ ap (λ (ps : List Part). record { place = place; bytes = text } ∷ ps) (cut_texts (place + length text + 1) next texts k.0 k.1)

-- the parts of a line that was joined
pub parts_of-joined : (text : List ℕ) (texts : List (List ℕ)) → HasNoTab text → HaveNoTab texts → parts_of (joined (text ∷ texts)) ≡ placed 1 (text ∷ texts)
parts_of-joined text texts h k = cut_texts 1 text texts h k
