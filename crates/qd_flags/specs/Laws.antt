-- Laws of what events show.
use Rattle.std.specs.Prelude.{◌≡◌, ℕ, ◌≤◌, false, List, ◌∷◌, ◌++◌, IsTrue, Some}
use Rattle.qd_scheme.specs.declared.key.Event.{Event}
use Rattle.qd_flags.specs.Shown.{Map, Shown, cut, has_begin, shown, last_shown, events_of}
use Rattle.qd_flags.specs.Following.{over}

-- a segment that has a BEGIN shows what the list up to its end shows: whole or not, the map, the floor and the snip
abbrev pub SegmentShows : Type 0
SegmentShows = (segment before : List Event) → IsTrue (has_begin segment) → shown (segment ++ before) ≡ shown segment

-- a map cut at f and then at a g that is no less is the map cut at g
abbrev pub CutTwice : Type 0
CutTwice = (f g : ℕ) (m : Map) → f ≤ g → cut g (cut f m) ≡ cut g m

-- the newest event makes a commit without a BEGIN: the map it shows, and the one shown before it
abbrev pub IsUpdate : Event → List Event → Shown → Shown → Type 0
IsUpdate e es now was = (shown (e ∷ es) ≡ Some now) × (last_shown es ≡ Some was) × (has_begin (events_of (e ∷ es)) ≡ false)

-- such a commit has the floor and the snip of the commit before it
abbrev pub UpdateKeepsFloor : Type 0
UpdateKeepsFloor = (e : Event) (es : List Event) (now was : Shown) → IsUpdate e es now was → (now.floor ≡ was.floor) × (now.snipped ≡ was.snipped)

-- and its map is the one before it after its events
abbrev pub UpdateChangesByItsEvents : Type 0
UpdateChangesByItsEvents = (e : Event) (es : List Event) (now was : Shown) → IsUpdate e es now was → (q : ℕ) → now.map q ≡ over was.floor (events_of (e ∷ es)) was.map q
