-- What a list of events shows depends on its events from the last BEGIN on alone.
use Rattle.std.proofs.Common.{◌≡◌, true, false, ◌||◌, List, [], ◌∷◌, ◌++◌, refl, arith}
use Rattle.std.specs.Prelude.{IsTrue, if◌then◌else◌}
use Rattle.qd_scheme.specs.declared.key.Event.{Event}
use Rattle.qd_flags.specs.Bits.{is_begin}
use Rattle.qd_flags.specs.Shown.{has_begin, since_begin, is_open, shown}

pub has_begin-append : (s p : List Event) → IsTrue (has_begin s) → IsTrue (has_begin (s ++ p))
has_begin-append [] p h = cc h
has_begin-append (e ∷ s) p h =
    (elim (is_begin e) as (λ b. IsTrue (b || has_begin s) → IsTrue (b || has_begin (s ++ p)))
    [ true ↦ λ h. h | false ↦ λ h. has_begin-append s p h ]) h

pub since_begin-append : (s p : List Event) → IsTrue (has_begin s) → since_begin (s ++ p) ≡ since_begin s
since_begin-append [] p h = cc h
since_begin-append (e ∷ s) p h =
    (elim (is_begin e) as (λ b. IsTrue (b || has_begin s) → (if b then e ∷ [] else if has_begin (s ++ p) then e ∷ since_begin (s ++ p) else []) ≡ (if b then e ∷ [] else if has_begin s then e ∷ since_begin s else [])) [
      | true ↦ λ h. refl
      | false ↦ λ h. grind (arith, has_begin-append s p h, since_begin-append s p h, h)
    ]) h

pub is_open-append : (s p : List Event) → IsTrue (has_begin s) → is_open (s ++ p) ≡ is_open s
is_open-append [] p h = cc h
is_open-append (e ∷ s) p h = refl

pub shown-append : (s p : List Event) → IsTrue (has_begin s) → shown (s ++ p) ≡ shown s
shown-append s p h = rw (since_begin-append s p h, is_open-append s p h) refl
