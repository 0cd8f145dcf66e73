-- What a clock tells: the moments that it gave.
use Rattle.std.specs.Prelude.{ℕ, ◌≡◌, Option, Some, None, List, [], ◌∷◌, ◌++◌, slice_get, unwrap_or}
use Rattle.qd_clock.specs.declared.list_clock.Past.{Past, Start, Gave'}
use Rattle.qd_clock.specs.declared.list_clock.ListClock.{ListClock}

-- a moment was put behind those that were given, where they are told
abbrev pub Notes : ℕ → Option (List ℕ) → Option (List ℕ) → Type 0
Notes moment None now = now ≡ None
Notes moment (Some before) now = now ≡ Some (before ++ moment ∷ [])

-- the moments that a clock gave in the past, in order
abbrev pub given : Past → List ℕ
given Start = []
given (Gave' shape before moment) = given before ++ moment ∷ []

-- the moment that a clock in memory gives next: that of its list, and past the end of the list the last one that it gave
abbrev pub next_moment : ListClock → ℕ
next_moment clock = unwrap_or (slice_get clock.moments.items clock.asked) clock.last
