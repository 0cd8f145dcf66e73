-- What is left of an event that is passed on.
use Rattle.std.proofs.Common.{◌≡◌, ℕ, Bool, true, false, ◌&&◌, ◌==◌, [], ◌∷◌, refl, ap, Some, None}
use Rattle.std.specs.Prelude.{if◌then◌else◌, nat_le, bit_and}
use Rattle.qd_scheme.specs.declared.key.Event.{Event}
use Rattle.qd_flags.specs.Bits.{has_bits, is_pending, is_remove, is_begin, is_end, is_snip}
use Rattle.qd_flags.specs.Shown.{Map, ends}
use Rattle.qd_flags.specs.Following.{over}
use Rattle.qd_hist_rules.specs.Agent.{passed, passed_flags}
use Rattle.qd_hist_rules.specs.Lawful.{bare_flags}

flags_begin : (p r : Bool) → has_bits (passed_flags p r) 4 ≡ false
flags_begin true true = refl
flags_begin true false = refl
flags_begin false true = refl
flags_begin false false = refl

flags_end : (p r : Bool) → has_bits (passed_flags p r) 8 ≡ false
flags_end true true = refl
flags_end true false = refl
flags_end false true = refl
flags_end false false = refl

flags_snip : (p r : Bool) → has_bits (passed_flags p r) 16 ≡ false
flags_snip true true = refl
flags_snip true false = refl
flags_snip false true = refl
flags_snip false false = refl

flags_pending : (p r : Bool) → has_bits (passed_flags p r) 1 ≡ p
flags_pending true true = refl
flags_pending true false = refl
flags_pending false true = refl
flags_pending false false = refl

flags_remove : (p r : Bool) → has_bits (passed_flags p r) 2 ≡ r
flags_remove true true = refl
flags_remove true false = refl
flags_remove false true = refl
flags_remove false false = refl

pub passed_begin : (p : Bool) (e : Event) → is_begin (passed p e) ≡ false
unfolding is_begin
passed_begin p e = flags_begin p (is_remove e)

pub passed_end : (p : Bool) (e : Event) → is_end (passed p e) ≡ false
unfolding is_end
passed_end p e = flags_end p (is_remove e)

pub passed_snip : (p : Bool) (e : Event) → is_snip (passed p e) ≡ false
unfolding is_snip
passed_snip p e = flags_snip p (is_remove e)

pub passed_ends : (p : Bool) (e : Event) → ends (passed p e) ≡ false
passed_ends p e = rw (passed_end p e, passed_snip p e) refl

pub passed_pending : (p : Bool) (e : Event) → is_pending (passed p e) ≡ p
unfolding is_pending
passed_pending p e = flags_pending p (is_remove e)

pub passed_remove : (p : Bool) (e : Event) → is_remove (passed p e) ≡ is_remove e
unfolding is_remove
passed_remove p e = flags_remove p (is_remove e)

bare_flags_passed : (p r : Bool) → bit_and (passed_flags p r) 227 ≡ passed_flags p r
bare_flags_passed true true = refl
bare_flags_passed true false = refl
bare_flags_passed false true = refl
bare_flags_passed false false = refl

pub passed_bare : (p : Bool) (e : Event) → bare_flags (passed p e) ≡ (passed p e).flags
passed_bare p e = bare_flags_passed p (is_remove e)

-- an event that is passed on changes a map as the event does
pub over_passed : (f : ℕ) (p : Bool) (e : Event) (m : Map) → over f (passed p e ∷ []) m ≡ over f (e ∷ []) m
over_passed f p e m = ap (λ (b : Bool). λ (q : ℕ). if e.index == q && nat_le f q then (if b then None else Some e.cells) else m q) (passed_remove p e)
