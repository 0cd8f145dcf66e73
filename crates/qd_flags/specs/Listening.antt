-- What a listener tells.
use Rattle.std.specs.Prelude.{ℕ, List, Option, option_map, is_some, if◌then◌else◌}
use Rattle.qd_scheme.specs.declared.key.Event.{Event}
use Rattle.qd_scheme.specs.declared.cells.Cells.{Cells}
use Rattle.qd_entries.specs.declared.Entry.{Entry}
use Rattle.qd_flags.specs.declared.commits.Floor.{Floor}
use Rattle.qd_flags.specs.declared.commits.Ingest.{Ingest}
use Rattle.qd_flags.specs.declared.commits.Ingest.TheVariants.{Ignored, Update, Snapshot, Held as HeldBack}
use Rattle.qd_flags.specs.declared.listener.Shown.{Shown}
use Rattle.qd_flags.specs.declared.listener.Shown.TheVariants.{Committed, Held}
use Rattle.qd_flags.specs.Shown.{shown}

-- what a listener answers to an event that did this
abbrev pub shown_by : Ingest → Shown
shown_by Snapshot = Committed
shown_by Update = Committed
shown_by HeldBack = Held
shown_by Ignored = Held

-- all events are a commit place, or not
abbrev pub shown_of : List Event → Shown
shown_of es = if is_some (shown es) then Committed else Held

abbrev pub floor_index : Option Floor → Option ℕ
floor_index o = option_map (λ f. f.index) o

abbrev pub pair_of : Entry → ℕ × Cells
pair_of e = (e.index, e.cells)
