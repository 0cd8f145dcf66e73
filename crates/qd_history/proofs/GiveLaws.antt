-- What an item that is given leaves.
use Rattle.std.proofs.Common.{◌≡◌, ℕ, ◌<◌, ◌≤◌, ◌^◌, true, Option, Some, None, is_some, List, [], ◌∷◌, length, slice_set, refl, ap, sym, ◌∙◌, arith, subst}
use Rattle.qd_scheme.specs.declared.key.Key.{Key}
use Rattle.qd_entries.specs.Entries.{AllBelow}
use Rattle.qd_flags.specs.declared.commits.Floor.{Floor}
use Rattle.qd_pend.specs.Slots.{first_in}
use Rattle.qd_slots.specs.Holds.{is_subscribed}
use Rattle.qd_table.specs.Tables.{Table, key_at, hold_for, limit_for}
use Rattle.qd_table.proofs.TableLaws.{limit_for-some, some-none}
use Rattle.qd_hist_key.specs.Kept.{Kept}
use Rattle.qd_hist_rules.specs.declared.floor.AgentFloor.{AgentFloor}
use Rattle.qd_hist_rules.specs.declared.item.HistItem.{HistItem}
use Rattle.qd_hist_feed.specs.declared.feed.Stage.{Stage}
use Rattle.qd_hist_feed.specs.declared.feed.Stage.TheVariants.{Waiting, Sweeping, Ended}
use Rattle.qd_hist_feed.specs.Feeding.{next_item, after_next, left_by_next}
use Rattle.qd_hist_stand.specs.Stripes.{Shown, Side, Track, side_at, floor_in}
use Rattle.qd_hist_stand.specs.Steps.{KeepsNumbers, after_gift, IsGiven}
use Rattle.qd_history.specs.Tracks.{track_at}
use Rattle.qd_history.specs.Sides.{sided_at, spared_at, part_in, IsSided}
use Rattle.qd_history.specs.Sound.{IsSound}
use Rattle.qd_history.proofs.SoundLaws.{placed-side, within-side, part-set}

-- a pair that has a floor is subscribed
pub floor-subscribed : (t : Table) (a slot : ℕ) (f : Option Floor) (g : AgentFloor) → floor_in (limit_for t a slot) f ≡ Some g → is_subscribed (hold_for t a slot) ≡ true
floor-subscribed t a slot f g h = sym (limit_for-some t a slot) ∙ go (limit_for t a slot) h
  where
    go : (o : Option ℕ) → floor_in o f ≡ Some g → is_some o ≡ true
    go (Some limit) e = refl
    go None e = absurd (some-none g (sym e))

fewer : (stage : Stage) (owed : List HistItem) (state : Kept) (floor : AgentFloor) → length (left_by_next stage owed state floor).owed ≤ length owed
fewer stage (i ∷ is) state floor = omega arith
fewer Ended [] state floor = omega arith
fewer Waiting [] state floor = omega arith
fewer (Sweeping place) [] state floor = omega arith

-- a gift leaves no more owed than there was
gift-owed : (k : Track) (floor : AgentFloor) (slot : ℕ) (r : Side) → (after_gift k.state floor slot (part_in r slot)).owed ≤ r.owed
gift-owed k floor slot r = (let f : length (after_next (spared_at r slot).now k.state floor).owed ≤ length (spared_at r slot).now.owed = fewer (spared_at r slot).now.stage (spared_at r slot).now.owed k.state floor in omega arith)

pub sound-gift : (s t : Shown) (tally n slot : ℕ) (k : Track) (floor : AgentFloor) (r x : Side) → IsSound s tally → n < 128 → r ≡ sided_at s.sides n → IsSided r slot (after_gift k.state floor slot (part_in r slot)) x
    → t.table ≡ s.table → t.tracks ≡ s.tracks → t.sides ≡ slice_set s.sides n x → t.hcap ≡ s.hcap → t.count ≡ s.count → t.stock ≡ s.stock → IsSound t tally
sound-gift s t tally n slot k floor r x sound few here sided table tracks is hcap count stock =
    let within : n < length s.sides = omega (arith, sound.placed.agents) in
    let owed : x.owed ≤ r.owed = (let l : (after_gift k.state floor slot (part_in r slot)).owed ≤ r.owed = gift-owed k floor slot r in let e : x.owed ≡ (after_gift k.state floor slot (part_in r slot)).owed = sided.owed in omega arith) in
    let same : r.owed ≡ (side_at s n).owed = ap (λ (y : Side). y.owed) here in
    record {
      placed = placed-side s t n x sound.placed few is (λ i j h. ap (λ y. key_at y i) (sym table) ∙ h) (λ b i h. ap (λ y. is_subscribed (hold_for y b i)) (sym table) ∙ h) (ap length tracks)
          (sided.feeds ∙ ap (λ (y : Side). length y.feeds) here) (sided.slots ∙ ap (λ (y : Side). y.queue.slots) here);
      within = within-side s t n x sound.within within is hcap count (omega arith) (omega arith);
      tallied = (let e : length t.tracks ≡ length s.tracks = ap length tracks in omega (arith, sound.tallied));
    }

-- an agent was given the next item of the slot that is due first
pub given-step : (s t : Shown) (a slot : ℕ) (i : HistItem) (key : Key) (floor : AgentFloor) (r x : Side) (k : Track) → a < length s.sides → r ≡ sided_at s.sides a → k ≡ track_at s.tracks slot
    → first_in (sided_at s.sides a).queue.list ≡ Some slot → key_at s.table slot ≡ Some key → floor_in (limit_for s.table a slot) (track_at s.tracks slot).state.now.floor ≡ Some floor → floor.index < 2 ^ 64
    → AllBelow (2 ^ 64) (track_at s.tracks slot).state.now.entries → next_item (spared_at r slot).now key k.state floor k.number ≡ Some i → t.table ≡ s.table → t.tracks ≡ s.tracks → KeepsNumbers s t → t.sides ≡ slice_set s.sides a x
    → IsSided r slot (after_gift k.state floor slot (part_in r slot)) x → IsGiven s a slot i t
given-step s t a slot i key floor r x k within here track first named floor_is low entries item table tracks numbers is sided = record {
  key = key;
  key_is = named;
  first = first;
  floor = floor;
  floor_is = floor_is;
  floor_low = low;
  low = entries;
  item_is = subst (λ (y : Side). next_item (spared_at y slot).now key (track_at s.tracks slot).state floor (track_at s.tracks slot).number ≡ Some i) here (subst (λ (y : Track). next_item (spared_at r slot).now key y.state floor y.number ≡ Some i) track item);
  table = table;
  tracks = record { states = λ j. ap (λ y. (track_at y j).state) tracks; numbers = λ j. ap (λ y. (track_at y j).number) tracks };
  numbers = numbers;
  part = part-set s t a slot (after_gift (track_at s.tracks slot).state floor slot (part_in (sided_at s.sides a) slot)) x within is
      (subst (λ (y : Side). IsSided y slot (after_gift (track_at s.tracks slot).state floor slot (part_in y slot)) x) here (subst (λ (y : Track). IsSided r slot (after_gift y.state floor slot (part_in r slot)) x) track sided));
}
