-- How far an agent has come with one key, and what each step leaves of that.
use Rattle.std.specs.Prelude.{ℕ, ◌+◌, ◌-◌, Bool, true, false, ◌&&◌, ◌==◌, nat_le, nat_lt, pos, List, [], ◌∷◌, ◌++◌, replicate, Option, Some, None, option_map, if◌then◌else◌}
use Rattle.std.specs.List.{list_any}
use Rattle.qd_scheme.specs.declared.key.Key.{Key}
use Rattle.qd_scheme.specs.declared.key.Event.{Event}
use Rattle.qd_scheme.specs.declared.cells.Cells.{Cells}
use Rattle.qd_entries.specs.Entries.{entry_at_or_below}
use Rattle.qd_flags.specs.Listening.{pair_of}
use Rattle.qd_hist_key.specs.Kept.{Kept}
use Rattle.qd_hist_rules.specs.declared.floor.AgentFloor.{AgentFloor}
use Rattle.qd_hist_rules.specs.declared.item.HistItem.{HistItem}
use Rattle.qd_hist_rules.specs.Agent.{passed}
use Rattle.qd_hist_feed.specs.declared.feed.Stage.{Stage}
use Rattle.qd_hist_feed.specs.declared.feed.Stage.TheVariants.{Waiting, Sweeping, Ended}

-- how far the snapshot has come, and the items owed, in order
pub record Feeding : Type 0 where
  pub stage : Stage
  pub owed : List HistItem

-- the same, and how many items more there is room for
pub record Spared : Type 0 where
  pub now : Feeding
  pub spare : ℕ

-- the snapshot is not begun
abbrev pub nothing : Feeding
nothing = record { stage = Waiting; owed = [] }

abbrev pub has_ended : Stage → Bool
has_ended Waiting = false
has_ended (Sweeping place) = false
has_ended Ended = true

abbrev pub is_empty : List HistItem → Bool
is_empty [] = true
is_empty (i ∷ is) = false

abbrev pub is_waiting : Stage → Bool
is_waiting Waiting = true
is_waiting (Sweeping place) = false
is_waiting Ended = false

-- nothing is to be given
abbrev pub is_done : Feeding → Bool
is_done s = has_ended s.stage && is_empty s.owed

-- the agent was given what stood at the index, so that a later event there is owed
abbrev pub is_swept : Stage → ℕ → Bool
is_swept Waiting index = false
is_swept (Sweeping place) index = nat_lt place index
is_swept Ended index = true

-- numbers are told once the snapshot is ended
abbrev pub number_for : Stage → ℕ → Option ℕ
number_for Waiting n = None
number_for (Sweeping place) n = None
number_for Ended n = Some n

-- one of the events is at or above the floor
abbrev pub has_above : ℕ → List Event → Bool
has_above floor es = list_any (λ e. nat_le floor e.index) es

-- the item of a share's event, which is the last one or not
abbrev pub item_of : Option ℕ → Bool → Event → HistItem
item_of n true e = record { event = passed true e; at = None }
item_of n false e = record { event = passed false e; at = n }

-- the item that comes to be owed of an event, if it is of the share and swept
abbrev pub owed_item : Stage → ℕ → Option ℕ → Bool → Event → List HistItem
owed_item stage floor n pending e = if nat_le floor e.index && is_swept stage e.index then item_of n pending e ∷ [] else []

-- the items that come to be owed of a commit's events, which stand in order; the last event of the share is not pending
abbrev pub owed_items : Stage → ℕ → ℕ → List Event → List HistItem
owed_items stage floor n [] = []
owed_items stage floor n (e ∷ es) = owed_item stage floor (number_for stage n) (has_above floor es) e ++ owed_items stage floor n es

-- after a commit that is no snapshot commit
abbrev pub with_commit : Feeding → ℕ → ℕ → List Event → Feeding
with_commit s floor n es = record { stage = s.stage; owed = s.owed ++ owed_items s.stage floor n es }

-- the flags of an item of a snapshot: BEGIN or none
abbrev pub begin_flags : Bool → ℕ
begin_flags true = 4
begin_flags false = 0

-- and of its last item: END or SNIP, with BEGIN or not, with REMOVE_EVENT or not
abbrev pub end_flags : Bool → Bool → Bool → ℕ
end_flags begin by_snip removed = (if by_snip then 16 else 8) + (if begin then 4 else 0) + (if removed then 2 else 0)

-- a kept entry
abbrev pub kept_item : Bool → Key → ℕ × Cells → HistItem
kept_item begin key entry = record { event = record { key = key; index = entry.0; flags = begin_flags begin; cells = entry.1 }; at = None }

-- as many zeros as the last BEGIN event has cells
abbrev pub zeros : Option ℕ → Cells
zeros None = []
zeros (Some width) = replicate width (pos 0)

-- the item that ends a snapshot: the entry at the floor, or the marker
abbrev pub end_item : Bool → Key → AgentFloor → Option ℕ → ℕ → Option Cells → HistItem
end_item begin key floor width n (Some cells) = record { event = record { key = key; index = floor.index; flags = end_flags begin floor.by_snip false; cells = cells }; at = Some n }
end_item begin key floor width n None = record { event = record { key = key; index = floor.index; flags = end_flags begin floor.by_snip true; cells = zeros width }; at = Some n }

-- the cells of an entry at the floor
abbrev pub cells_on : ℕ → ℕ × Cells → Option Cells
cells_on floor entry = if entry.0 == floor then Some entry.1 else None

-- what a sweep gives, by the entry that it finds at or below its place
abbrev pub sweep_item : Bool → Key → AgentFloor → Option ℕ → ℕ → Option (ℕ × Cells) → HistItem
sweep_item begin key floor width n None = end_item begin key floor width n None
sweep_item begin key floor width n (Some entry) =
    if nat_lt floor.index entry.0 then kept_item begin key entry else end_item begin key floor width n (cells_on floor.index entry)

-- and the stage that it leaves
abbrev pub stage_after : ℕ → Option (ℕ × Cells) → Stage
stage_after floor None = Ended
stage_after floor (Some entry) = if nat_lt floor entry.0 then Sweeping (entry.0 - 1) else Ended

-- the greatest index
abbrev pub top : ℕ
top = 18446744073709551615

-- the entry that a sweep finds
abbrev pub found_from : ℕ → Kept → Option (ℕ × Cells)
found_from place state = option_map pair_of (entry_at_or_below place state.now.entries)

-- the next item: what is owed first, then what the sweep gives
abbrev pub next_by : Stage → List HistItem → Key → Kept → AgentFloor → ℕ → Option HistItem
next_by stage (i ∷ is) key state floor n = Some i
next_by Ended [] key state floor n = None
next_by Waiting [] key state floor n = Some (sweep_item true key floor state.width n (found_from top state))
next_by (Sweeping place) [] key state floor n = Some (sweep_item false key floor state.width n (found_from place state))

abbrev pub next_item : Feeding → Key → Kept → AgentFloor → ℕ → Option HistItem
next_item s key state floor n = next_by s.stage s.owed key state floor n

-- what is left after it
abbrev pub left_by_next : Stage → List HistItem → Kept → AgentFloor → Feeding
left_by_next stage (i ∷ is) state floor = record { stage = stage; owed = is }
left_by_next Ended [] state floor = record { stage = Ended; owed = [] }
left_by_next Waiting [] state floor = record { stage = stage_after floor.index (found_from top state); owed = [] }
left_by_next (Sweeping place) [] state floor = record { stage = stage_after floor.index (found_from place state); owed = [] }

abbrev pub after_next : Feeding → Kept → AgentFloor → Feeding
after_next s state floor = left_by_next s.stage s.owed state floor

-- how many events there are up to the last one at or above the floor
abbrev pub end_of : ℕ → List Event → ℕ
end_of floor [] = 0
end_of floor (e ∷ es) = if has_above floor es then 1 + end_of floor es else if nat_le floor e.index then 1 else 0
