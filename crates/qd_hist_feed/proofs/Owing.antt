-- The events of a commit are owed one by one.
use Rattle.std.proofs.Common.{◌≡◌, ℕ, zero, suc, ◌+◌, ◌<◌, Bool, true, false, ◌||◌, List, [], ◌∷◌, ◌++◌, length, drop, get_or, refl, sym, ◌∙◌, ap, arith, append_assoc, length-append, drop-cons, add-one}
use Rattle.std.specs.Prelude.{if◌then◌else◌, nat_le, nat_lt}
use Rattle.std.proofs.lemmas.Bool.{le-ltb}
use Rattle.std.proofs.lemmas.Bool.Decides.{nat_tests}
use Rattle.qd_scheme.specs.declared.key.Event.{Event}
use Rattle.qd_hist_rules.specs.declared.item.HistItem.{HistItem}
use Rattle.qd_hist_feed.specs.declared.feed.Stage.{Stage}
use Rattle.qd_hist_feed.specs.Feeding.{number_for, has_above, owed_item, owed_items, end_of}

pub end_none : (f : ℕ) (es : List Event) → has_above f es ≡ false → end_of f es ≡ 0
end_none f [] h = refl
end_none f (e ∷ es) h = go (nat_le f e.index) (has_above f es) h
  where
    go : (a b : Bool) → (a || b) ≡ false → (if b then 1 + end_of f es else if a then 1 else 0) ≡ 0
    go true b h = cc h
    go false true h = cc h
    go false false h = refl

pub end_start : (f : ℕ) (es : List Event) → end_of f es ≡ (if has_above f es then 0 + end_of f es else 0)
end_start f es = go (has_above f es) refl
  where
    go : (b : Bool) → has_above f es ≡ b → end_of f es ≡ (if b then 0 + end_of f es else 0)
    go true h = omega arith
    go false h = end_none f es h

-- an event is above the floor behind a place just where the place is before the end of the share
pub above_behind : (f j : ℕ) (es : List Event) → has_above f (drop j es) ≡ nat_lt j (end_of f es)
above_behind f zero [] = refl
above_behind f (suc j) [] = sym (le-ltb (suc j) 0 (omega arith))
above_behind f zero (e ∷ es) = go (nat_le f e.index) (has_above f es)
  where
    go : (a b : Bool) → (a || b) ≡ nat_lt 0 (if b then 1 + end_of f es else if a then 1 else 0)
    go a true = elim a as (λ a. (a || true) ≡ nat_lt 0 (1 + end_of f es)) [ true ↦ grind (arith, nat_tests) | false ↦ grind (arith, nat_tests) ]
    go true false = refl
    go false false = refl
above_behind f (suc j) (e ∷ es) = above_behind f j es ∙ go (has_above f es) refl
  where
    rest : (a : Bool) (x : ℕ) → x ≡ 0 → nat_lt j x ≡ nat_lt (suc j) (if a then 1 else 0)
    rest true x h = grind (arith, nat_tests)
    rest false x h = grind (arith, nat_tests)

    go : (b : Bool) → has_above f es ≡ b → nat_lt j (end_of f es) ≡ nat_lt (suc j) (if b then 1 + end_of f es else if nat_le f e.index then 1 else 0)
    go true h = grind (arith, nat_tests)
    go false h = rest (nat_le f e.index) (end_of f es) (end_none f es h)

-- what is owed so far, with what comes to be owed of the rest
pub owed_step : (stage : Stage) (f n end i : ℕ) (es : List Event) (e : Event) (xs : List HistItem) → i < length es → e ≡ get_or es i e → end ≡ end_of f es
    → (xs ++ owed_item stage f (number_for stage n) (nat_lt (i + 1) end) e) ++ owed_items stage f n (drop (i + 1) es) ≡ xs ++ owed_items stage f n (drop i es)
owed_step stage f n end i es e xs h at en =
    append_assoc xs (owed_item stage f (number_for stage n) (nat_lt (i + 1) end) e) (owed_items stage f n (drop (i + 1) es))
    ∙ ap (λ (ys : List HistItem). xs ++ ys)
    (ap (λ (b : Bool). owed_item stage f (number_for stage n) b e ++ owed_items stage f n (drop (i + 1) es)) (ap (λ (m : ℕ). nat_lt (i + 1) m) en ∙ sym (above_behind f (i + 1) es))
    ∙ ap (λ (ys : List Event). owed_items stage f n ys) (sym cons))
  where
    cons : drop i es ≡ e ∷ drop (i + 1) es
    cons = drop-cons es i e h ∙ ap (λ (x : Event). x ∷ drop (suc i) es) (sym at) ∙ ap (λ (j : ℕ). e ∷ drop j es) (sym (add-one i))

-- and how many they are
pub owed_count : (stage : Stage) (f n end i : ℕ) (es : List Event) (e : Event) → i < length es → e ≡ get_or es i e → end ≡ end_of f es
    → length (owed_item stage f (number_for stage n) (nat_lt (i + 1) end) e) + length (owed_items stage f n (drop (i + 1) es)) ≡ length (owed_items stage f n (drop i es))
owed_count stage f n end i es e h at en =
    sym (length-append (owed_item stage f (number_for stage n) (nat_lt (i + 1) end) e) (owed_items stage f n (drop (i + 1) es)))
    ∙ ap {B = ℕ} (λ (xs : List HistItem). length xs) (owed_step stage f n end i es e [] h at en)
