-- What the state of a key stands for.
use Rattle.std.specs.Prelude.{◌≡◌, ℕ, ◌^◌, ◌<◌, ◌≤◌, Bool, List, [], ◌∷◌, length, Option, Some, None, if◌then◌else◌}
use Rattle.qd_scheme.specs.declared.key.Event.{Event}
use Rattle.qd_flags.specs.declared.commits.Floor.{Floor}
use Rattle.qd_flags.specs.Bits.{is_begin}
use Rattle.qd_flags.specs.Following as following
use Rattle.qd_hist_key.specs.Kept.{Kept}

-- how many cells the last BEGIN event has, None where there is no BEGIN
abbrev pub begin_width : List Event → Option ℕ
begin_width [] = None
begin_width (e ∷ es) = if is_begin e then Some (length e.cells) else begin_width es

-- these events came, the newest first
pub record StandsFor (s : Kept) (past : List Event) : Type 0 where
  pub now : following.StandsFor s.now past
  pub width_is : s.width ≡ begin_width past

-- an index is a u64, and an event has at most 16 cells
abbrev pub Fits : Event → Type 0
Fits e = (e.index < 2 ^ 64) × (length e.cells ≤ 16)

abbrev pub AllFit : List Event → Type 0
AllFit [] = Unit {0}
AllFit (e ∷ es) = Fits e × AllFit es

-- an event has at most 16 cells, by how many the last BEGIN event has
abbrev pub FewCells : Option ℕ → Type 0
FewCells None = Unit {0}
FewCells (Some width) = width ≤ 16

abbrev pub floor_and_snip : Floor → ℕ × Bool
floor_and_snip f = (f.index, f.snipped)

-- the floor where it is snipped
abbrev pub snip_floor : Option Floor → Option ℕ
snip_floor None = None
snip_floor (Some f) = if f.snipped then Some f.index else None
