-- What a watcher knows of each slot, and which slots differ from that.
use Rattle.std.specs.Prelude.{ℕ, zero, suc, ◌≡◌, ◌<◌, ◌≤◌, Bool, false, ◌&&◌, ◌||◌, not, if◌then◌else◌, Option, None, is_some, List, [], ◌∷◌, ◌++◌, length, slice_set, slice_index_or}
use Rattle.std.specs.List.{list_any}
use Rattle.qd_sub.specs.Watching.{same_total}
use Rattle.qd_pend.specs.Slots.{SlotList, has, without}
use Rattle.qd_slots.specs.declared.views.View.{View}

-- what a watcher knows of each slot, and the slots that differ for it, in order
pub record Viewing : Type 0 where
  pub views : List View
  pub queue : SlotList

abbrev pub no_view : View
no_view = record { known = None; outdated = false }

abbrev pub no_viewing : Viewing
no_viewing = record { views = []; queue = record { list = []; slots = 0 } }

abbrev pub view_at : List View → ℕ → View
view_at views slot = slice_index_or views slot no_view

-- so many slots of which nothing is known
unfoldable pub no_views : ℕ → List View
no_views zero = []
no_views (suc n) = no_view ∷ no_views n

-- what is known is not this total, or is outdated
abbrev pub view_differs : View → Option ℕ → Bool
view_differs view total = not (same_total view.known total) || view.outdated

-- what a watcher knows of a slot, once that slot has this total: where there is none, what it knows is outdated
abbrev pub view_after : View → Option ℕ → View
view_after view total = record { known = view.known; outdated = view.outdated || (is_some view.known && not (is_some total)) }

-- what a watcher knows once it was told this
abbrev pub view_told : Option ℕ → View
view_told told = record { known = told; outdated = false }

-- a list of different slots, where this one stays or comes last, or is not in it
unfoldable pub queued : List ℕ → ℕ → Bool → List ℕ
queued list slot waits = if waits then (if has list slot then list else list ++ slot ∷ []) else without list slot

-- a list of different slots, where this one leaves its place and comes last, or is not in it
unfoldable pub queued_again : List ℕ → ℕ → Bool → List ℕ
queued_again list slot waits = without list slot ++ (if waits then slot ∷ [] else [])

-- another list with the same room
abbrev pub with_list : SlotList → List ℕ → SlotList
with_list queue list = record { list = list; slots = queue.slots }

-- after a slot has another total
abbrev pub with_total : Viewing → ℕ → Option ℕ → Viewing
with_total v slot total =
    let view = view_after (view_at v.views slot) total in
    record { views = slice_set v.views slot view; queue = with_list v.queue (queued v.queue.list slot (view_differs view total)) }

-- after this was told of a slot that has this total
abbrev pub with_told : Viewing → ℕ → Option ℕ → Option ℕ → Viewing
with_told v slot told total =
    record { views = slice_set v.views slot (view_told told); queue = with_list v.queue (queued_again v.queue.list slot (view_differs (view_told told) total)) }

-- slots of which nothing is known were added, and there may be more room
pub record IsWider (old new : Viewing) : Type 0 where
  pub views : (n : ℕ) × (new.views ≡ old.views ++ no_views n)
  pub list : new.queue.list ≡ old.queue.list
  pub slots : old.queue.slots ≤ new.queue.slots

abbrev pub viewing_at : List Viewing → ℕ → Viewing
viewing_at viewings w = slice_index_or viewings w no_viewing

-- each watcher may know something of the slots below a number
abbrev pub HasSlots : ℕ → List Viewing → Type 0
HasSlots slots viewings = (w : ℕ) → w < 8 → (slots ≤ length (viewing_at viewings w).views) × (slots ≤ (viewing_at viewings w).queue.slots)

-- each watcher may know something of a slot
abbrev pub HasSlot : ℕ → List Viewing → Type 0
HasSlot slot viewings = (w : ℕ) → w < 8 → (slot < length (viewing_at viewings w).views) × (slot < (viewing_at viewings w).queue.slots)

-- there is more room for each watcher
pub record EachWider (old new : List Viewing) : Type 0 where
  pub count : length new ≡ length old
  pub wider : (w : ℕ) → w < 8 → IsWider (viewing_at old w) (viewing_at new w)

-- each watcher saw that a slot has this total
pub record EachSaw (slot : ℕ) (total : Option ℕ) (old new : List Viewing) : Type 0 where
  pub count : length new ≡ length old
  pub saw : (w : ℕ) → w < 8 → viewing_at new w ≡ with_total (viewing_at old w) slot total

-- some watcher knows a total of a slot
abbrev pub is_known_by : List Viewing → ℕ → Bool
is_known_by viewings slot = list_any (λ v. is_some (view_at v.views slot).known) viewings
