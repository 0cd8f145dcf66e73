-- A link of a list is put in its own place, or links are added that are none.
use Rattle.std.proofs.Common.{ℕ, zero, suc, ◌≡◌, Option, Some, None, List, [], ◌∷◌, ◌++◌, refl, ap, sym, ◌∙◌, slice_get, slice_set, get_or, length, ◌<◌, ◌≢◌}
use Rattle.qd_relay.specs.declared.link.Link.{Link}
use Rattle.qd_hub.proofs.Turning.{get-set_same, get-set_other}
use Rattle.qd_path.specs.declared.side.Side.TheVariants.{Down}
use Rattle.qd_relay.specs.Links.{new_link}
use Rattle.qd_relay.specs.Nodes.{NodeKept, with_child, flat, or_new}

pub set_same : {X : Type 0} (xs : List X) (i : ℕ) (x : X) → slice_get xs i ≡ Some x → slice_set xs i x ≡ xs
set_same [] i x e = refl
set_same (y ∷ ys) zero x e = ap (λ (z : _). z ∷ ys) (cc)
set_same (y ∷ ys) (suc i) x e = ap (λ (zs : List _). y ∷ zs) (set_same ys i x e)

pub same_child : {H : Type 0} (n : NodeKept H) (agent : ℕ) (link : Link) → slice_get n.children agent ≡ Some (Some link) → with_child n.hub agent link n ≡ n
same_child n agent link e = ap (λ (xs : List (Option Link)). record { hub = n.hub; parent = n.parent; children = xs }) (set_same n.children agent (Some link) e)

pub flat_more : (xs : List (Option Link)) (a : ℕ) → flat (slice_get (xs ++ None ∷ []) a) ≡ flat (slice_get xs a)
flat_more [] zero = refl
flat_more [] (suc a) = refl
flat_more (x ∷ xs) zero = refl
flat_more (x ∷ xs) (suc a) = flat_more xs a

-- the link that was found at the place of a child
pub child_here : (xs : List (Option Link)) (i : ℕ) (now : Option Link) (link : Link) → (flat (slice_get xs i) ≡ None → ⊥) → now ≡ get_or xs i now → now ≡ Some link → slice_get xs i ≡ Some (Some link)
child_here [] i now link some e f = absurd (some refl)
child_here (y ∷ ys) zero now link some e f = ap Some (sym e ∙ f)
child_here (y ∷ ys) (suc i) now link some e f = child_here ys i now link some e f

-- the link that was put there
pub child_after : (xs : List (Option Link)) (at i : ℕ) (link new : Link) → at ≡ i → slice_get xs i ≡ Some (Some link) → or_new (new_link (Down i)) (flat (slice_get (slice_set xs at (Some new)) i)) ≡ new
child_after xs at i link new same here = rw same (rw (set_here xs i (Some link) (Some new) here) refl)
  where
    set_here : {X : Type 0} (ys : List X) (j : ℕ) (x y : X) → slice_get ys j ≡ Some x → slice_get (slice_set ys j y) j ≡ Some y
    set_here [] j x y e = absurd (cc)
    set_here (z ∷ zs) zero x y e = refl
    set_here (z ∷ zs) (suc j) x y e = set_here zs j x y e

pub in_place : (P : Link → Link → Type 0) (a b c d : Link) → a ≡ c → b ≡ d → P c d → P a b
in_place P a b c d e f p = rw (e, f) p

-- a link that is put at a place is that of the place, and leaves the others
pub child_set : (xs : List (Option Link)) (at i : ℕ) (new : Link) → at ≡ i → at < length xs → flat (slice_get (slice_set xs at (Some new)) i) ≡ Some new
child_set xs at i new same within = rw (← same) (rw (get-set_same xs at (Some new) within) refl)

pub child_kept : (xs : List (Option Link)) (at i j : ℕ) (new : Link) → at ≡ i → j ≢ i → flat (slice_get (slice_set xs at (Some new)) j) ≡ flat (slice_get xs j)
child_kept xs at i j new same apart = rw same (ap flat (get-set_other xs i j (Some new) apart))
