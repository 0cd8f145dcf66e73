-- Entries after events, and the map that they list.
use Rattle.std.proofs.Common.{◌≡◌, ℕ, Bool, true, false, List, [], ◌∷◌, ◌++◌, reverse, refl, sym, ◌∙◌, ap, Option, Some, None}
use Rattle.std.specs.Prelude.{if◌then◌else◌, nat_le, ◌==◌, ◌&&◌}
use Rattle.std.proofs.lemmas.List.{reverse-append}
use Rattle.std.proofs.lemmas.Bool.{eqb-true}
use Rattle.qd_scheme.specs.declared.key.Event.{Event}
use Rattle.qd_scheme.specs.declared.cells.Cells.{Cells}
use Rattle.qd_entries.specs.declared.Entry.{Entry}
use Rattle.qd_entries.specs.Entries.{Falls, cells_at, put_entry, without_index}
use Rattle.qd_entries.proofs.Falling.{Falls-put_entry, Falls-without, cells_at-put_entry, cells_at-without}
use Rattle.qd_flags.specs.Bits.{is_remove}
use Rattle.qd_flags.specs.Shown.{Map}
use Rattle.qd_flags.specs.Following.{applied, all_applied, over}

pub Falls-applied : (f : ℕ) (e : Event) (xs : List Entry) → Falls xs → Falls (applied f e xs)
Falls-applied f e xs h = go (nat_le f e.index) (is_remove e)
  where
    go : (a b : Bool) → Falls (if a then (if b then without_index e.index xs else put_entry (record { index = e.index; cells = e.cells }) xs) else xs)
    go true true = Falls-without e.index xs h
    go true false = Falls-put_entry (record { index = e.index; cells = e.cells }) xs h
    go false b = h

-- what stands at an index after one event
pub cells_at-applied : (f : ℕ) (e : Event) (xs : List Entry) (q : ℕ) → Falls xs → cells_at (applied f e xs) q ≡ over f (e ∷ []) (λ k. cells_at xs k) q
cells_at-applied f e xs q h = go (nat_le f e.index) (is_remove e) refl
  where
    at_q : (a : Bool) → nat_le f e.index ≡ a → (t : Bool) → (e.index == q) ≡ t → (t && nat_le f q) ≡ (t && a)
    at_q a p true w = ap (λ (k : ℕ). nat_le f k) (sym (eqb-true e.index q w)) ∙ p
    at_q a p false w = refl

    keep : (t : Bool) (r o : Option Cells) → (if (t && false) then r else o) ≡ o
    keep true r o = refl
    keep false r o = refl

    all : (t : Bool) (r o : Option Cells) → (if (t && true) then r else o) ≡ (if t then r else o)
    all true r o = refl
    all false r o = refl

    go : (a b : Bool) → nat_le f e.index ≡ a
        → cells_at (if a then (if b then without_index e.index xs else put_entry (record { index = e.index; cells = e.cells }) xs) else xs) q
        ≡ (if e.index == q && nat_le f q then (if b then None else Some e.cells) else cells_at xs q)
    go true true p =
        cells_at-without e.index xs q h
        ∙ sym (ap (λ (c : Bool). if c then None else cells_at xs q) (at_q true p (e.index == q) refl) ∙ all (e.index == q) None (cells_at xs q))
    go true false p =
        cells_at-put_entry (record { index = e.index; cells = e.cells }) xs q
        ∙ sym (ap (λ (c : Bool). if c then Some e.cells else cells_at xs q) (at_q true p (e.index == q) refl) ∙ all (e.index == q) (Some e.cells) (cells_at xs q))
    go false b p =
        sym (ap (λ (c : Bool). if c then (if b then None else Some e.cells) else cells_at xs q) (at_q false p (e.index == q) refl) ∙ keep (e.index == q) (if b then None else Some e.cells) (cells_at xs q))

pub Falls-all_applied : (f : ℕ) (es : List Event) (xs : List Entry) → Falls xs → Falls (all_applied f es xs)
Falls-all_applied f [] xs h = h
Falls-all_applied f (e ∷ es) xs h = Falls-all_applied f es (applied f e xs) (Falls-applied f e xs h)

over-append : (f : ℕ) (g h : List Event) (m : Map) (q : ℕ) → over f (g ++ h) m q ≡ over f g (over f h m) q
over-append f [] h m q = refl
over-append f (e ∷ g) h m q = ap (λ (o : Option Cells). if e.index == q && nat_le f q then (if is_remove e then None else Some e.cells) else o) (over-append f g h m q)

over-same : (f : ℕ) (h : List Event) (m n : Map) → ((k : ℕ) → m k ≡ n k) → (q : ℕ) → over f h m q ≡ over f h n q
over-same f [] m n s q = s q
over-same f (e ∷ h) m n s q = ap (λ (o : Option Cells). if e.index == q && nat_le f q then (if is_remove e then None else Some e.cells) else o) (over-same f h m n s q)

-- what stands at an index after events in order
pub cells_at-all_applied : (f : ℕ) (es : List Event) (xs : List Entry) → Falls xs → (q : ℕ) → cells_at (all_applied f es xs) q ≡ over f (reverse es) (λ k. cells_at xs k) q
cells_at-all_applied f [] xs h q = refl
cells_at-all_applied f (e ∷ es) xs h q =
    cells_at-all_applied f es (applied f e xs) (Falls-applied f e xs h) q
    ∙ over-same f (reverse es) (λ k. cells_at (applied f e xs) k) (over f (e ∷ []) (λ k. cells_at xs k)) (λ k. cells_at-applied f e xs k h) q
    ∙ sym (over-append f (reverse es) (e ∷ []) (λ k. cells_at xs k) q)
    ∙ ap (λ (zs : List Event). over f zs (λ k. cells_at xs k) q) (sym (reverse-append (e ∷ []) es))
