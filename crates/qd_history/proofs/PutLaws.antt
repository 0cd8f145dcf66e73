-- What an event that is put leaves.
use Rattle.std.proofs.Common.{◌≡◌, inl, inr, ℕ, ◌+◌, ◌≤◌, ◌^◌, Bool, true, false, ◌&&◌, if◌then◌else◌, nat_eq, Option, Some, None, List, [], ◌∷◌, length, refl, ap, sym, ◌∙◌, arith, subst, add-one}
use Rattle.qd_scheme.specs.declared.key.Event.{Event}
use Rattle.qd_flags.specs.declared.commits.Ingest.{Ingest}
use Rattle.qd_flags.specs.declared.commits.Ingest.TheVariants.{Ignored, Held, Update, Snapshot}
use Rattle.qd_flags.specs.Following.{answer_to}
use Rattle.qd_pend.proofs.ListLaws.{equal}
use Rattle.qd_slots.specs.Holds.{is_subscribed}
use Rattle.qd_table.specs.Tables.{key_at, hold_for, limit_for}
use Rattle.qd_hist_key.specs.Keeping as keeping
use Rattle.qd_hist_rules.specs.declared.floor.AgentFloor.{AgentFloor}
use Rattle.qd_hist_feed.specs.Feeding.{Spared}
use Rattle.qd_hist_stand.specs.Stripes.{Shown, Side, Track, state_at, number_at, feed_at, queue_at, owed_at, floor_in}
use Rattle.qd_hist_stand.specs.Steps.{Part, part_at, part_after, makes_commit, IsParted, IsPut}
use Rattle.qd_history.specs.Tracks.{track_at, track_size, wanted_slot}
use Rattle.qd_history.specs.Sides.{sided_at, spared_at, AllSided, CanFollow, HasRoom}
use Rattle.qd_history.specs.Rooms.{count_at, HasPlace, CanPut}
use Rattle.qd_history.specs.Sound.{IsPlaced, IsWithin, IsSound}
use Rattle.qd_history.proofs.OwedLaws.{room-less}
use Rattle.qd_history.proofs.SoundLaws.{placed-as}
use Rattle.qd_history.proofs.RoomLaws.{wanted-key, unwanted-key, count-here}

-- the parts of the agents of a slot
pub parted-all : (s t : Shown) (slot : ℕ) (f : ℕ → Part → Part) → AllSided s.table slot f s.sides t.sides → IsParted s slot f t
parted-all s t slot f all = record {
  feeds = λ a i. feeds a i (is_subscribed (hold_for s.table a slot)) refl (nat_eq i slot) refl;
  queues = λ a. queues a (is_subscribed (hold_for s.table a slot)) refl;
  owed = λ a. owed a (is_subscribed (hold_for s.table a slot)) refl;
}
  where
    feeds : (a i : ℕ) (b : Bool) → is_subscribed (hold_for s.table a slot) ≡ b → (c : Bool) → nat_eq i slot ≡ c → feed_at t a i ≡ (if c && b then (f a (part_at s a slot)).feed else feed_at s a i)
    feeds a i true h true e = ap (feed_at t a) (equal i slot e) ∙ (all.sides a h).feed
    feeds a i true h false e = ap (λ (x : Spared). x.now) ((all.sides a h).others i e)
    feeds a i false h true e = ap (λ (x : Side). (spared_at x i).now) (all.others a h)
    feeds a i false h false e = ap (λ (x : Side). (spared_at x i).now) (all.others a h)

    queues : (a : ℕ) (b : Bool) → is_subscribed (hold_for s.table a slot) ≡ b → queue_at t a ≡ (if b then (f a (part_at s a slot)).queue else queue_at s a)
    queues a true h = (all.sides a h).queue
    queues a false h = ap (λ (x : Side). x.queue.list) (all.others a h)

    owed : (a : ℕ) (b : Bool) → is_subscribed (hold_for s.table a slot) ≡ b → owed_at t a ≡ (if b then (f a (part_at s a slot)).owed else owed_at s a)
    owed a true h = (all.sides a h).owed
    owed a false h = ap (λ (x : Side). x.owed) (all.others a h)

-- all agents' parts stay
pub parted-same : (s t : Shown) (slot : ℕ) (f : ℕ → Part → Part) → t.sides ≡ s.sides → ((a : ℕ) (p : Part) → f a p ≡ p) → IsParted s slot f t
parted-same s t slot f is stays = record {
  feeds = λ a i. ap (λ sides. (spared_at (sided_at sides a) i).now) is ∙ feeds a i (is_subscribed (hold_for s.table a slot)) (nat_eq i slot) refl;
  queues = λ a. ap (λ sides. (sided_at sides a).queue.list) is ∙ queues a (is_subscribed (hold_for s.table a slot));
  owed = λ a. ap (λ sides. (sided_at sides a).owed) is ∙ owed a (is_subscribed (hold_for s.table a slot));
}
  where
    feeds : (a i : ℕ) (b c : Bool) → nat_eq i slot ≡ c → feed_at s a i ≡ (if c && b then (f a (part_at s a slot)).feed else feed_at s a i)
    feeds a i true true e = ap (feed_at s a) (equal i slot e) ∙ sym (ap (λ (p : Part). p.feed) (stays a (part_at s a slot)))
    feeds a i false true e = refl
    feeds a i b false e = refl

    queues : (a : ℕ) (b : Bool) → queue_at s a ≡ (if b then (f a (part_at s a slot)).queue else queue_at s a)
    queues a true = sym (ap (λ (p : Part). p.queue) (stays a (part_at s a slot)))
    queues a false = refl

    owed : (a : ℕ) (b : Bool) → owed_at s a ≡ (if b then (f a (part_at s a slot)).owed else owed_at s a)
    owed a true = sym (ap (λ (p : Part). p.owed) (stays a (part_at s a slot)))
    owed a false = refl

pub stays-after : (hcap : ℕ) (answer : Ingest) → makes_commit answer ≡ false → (floor : Option AgentFloor) (n : ℕ) (batch : List Event) (slot : ℕ) (p : Part) → part_after hcap answer floor n batch slot p ≡ p
stays-after hcap Ignored h floor n batch slot p = refl
stays-after hcap Held h floor n batch slot p = refl
stays-after hcap Update h floor n batch slot p = cc
stays-after hcap Snapshot h floor n batch slot p = cc

-- what the state of the slot's key makes of an event
pub record Takes (s : Shown) (e : Event) (slot : ℕ) (answer : Ingest) (t : Shown) : Type 0 where
  pub found : wanted_slot s.table e.key ≡ Some slot
  pub table : t.table ≡ s.table
  pub hcap : t.hcap ≡ s.hcap
  pub base : t.base ≡ s.base
  pub stands : (past : List Event) → keeping.StandsFor (track_at s.tracks slot).state past → keeping.StandsFor (track_at t.tracks slot).state (e ∷ past)
  pub answered : (past : List Event) → keeping.StandsFor (track_at s.tracks slot).state past → answer ≡ answer_to (e ∷ past)
  pub others : (i : ℕ) → nat_eq i slot ≡ false → track_at t.tracks i ≡ track_at s.tracks i
  pub number : (track_at t.tracks slot).number ≡ (if makes_commit answer then s.count + 1 else (track_at s.tracks slot).number)
  pub count : t.count ≡ (if makes_commit answer then s.count + 1 else s.count)
  pub stock : t.stock + track_size (track_at s.tracks slot) ≡ s.stock + track_size (track_at t.tracks slot)

put-parts : (s t : Shown) (e : Event) (slot : ℕ) (answer : Ingest) → Takes s e slot answer t
    → IsParted s slot (λ a p. part_after s.hcap answer (floor_in (limit_for s.table a slot) (state_at t slot).now.floor) t.count (state_at t slot).now.batch slot p) t → IsPut s e t
put-parts s t e slot answer takes parts = inr (
  slot,
  answer,
  record {
    found = (wanted-key s.table e.key slot takes.found).0;
    wanted = (wanted-key s.table e.key slot takes.found).1;
    table = takes.table;
    hcap = takes.hcap;
    base = takes.base;
    stands = takes.stands;
    answered = takes.answered;
    others = λ i h. ap (λ (x : Track). x.state) (takes.others i h);
    count = takes.count ∙ ap (λ n. if makes_commit answer then n else s.count) (add-one s.count);
    numbers = λ i. numbers i (nat_eq i slot) refl (makes_commit answer) refl;
    stock = takes.stock;
    parts = parts;
  },
)
  where
    numbers : (i : ℕ) (b : Bool) → nat_eq i slot ≡ b → (c : Bool) → makes_commit answer ≡ c → number_at t i ≡ (if b && c then t.count else number_at s i)
    numbers i true e true h = ap (number_at t) (equal i slot e) ∙ takes.number ∙ ap (λ c. if c then s.count + 1 else (track_at s.tracks slot).number) h ∙ sym (takes.count ∙ ap (λ c. if c then s.count + 1 else s.count) h)
    numbers i true e false h = ap (number_at t) (equal i slot e) ∙ takes.number ∙ ap (λ c. if c then s.count + 1 else (track_at s.tracks slot).number) h ∙ ap (number_at s) (sym (equal i slot e))
    numbers i false e c h = ap (λ (x : Track). x.number) (takes.others i e)

-- an event that makes a commit
pub put-commit : (s t : Shown) (e : Event) (slot : ℕ) (answer : Ingest) → Takes s e slot answer t → makes_commit answer ≡ true
    → AllSided s.table slot (λ a. part_after s.hcap answer (floor_in (limit_for s.table a slot) (track_at t.tracks slot).state.now.floor) (track_at t.tracks slot).number (track_at t.tracks slot).state.now.batch slot) s.sides t.sides → IsPut s e t
put-commit s t e slot answer takes h all =
    let n : (track_at t.tracks slot).number ≡ t.count = takes.number ∙ ap (λ c. if c then s.count + 1 else (track_at s.tracks slot).number) h ∙ sym (takes.count ∙ ap (λ c. if c then s.count + 1 else s.count) h) in
    put-parts s t e slot answer takes (parted-all s t slot (λ a p. part_after s.hcap answer (floor_in (limit_for s.table a slot) (state_at t slot).now.floor) t.count (state_at t slot).now.batch slot p)
    (subst (λ m. AllSided s.table slot (λ a. part_after s.hcap answer (floor_in (limit_for s.table a slot) (track_at t.tracks slot).state.now.floor) m (track_at t.tracks slot).state.now.batch slot) s.sides t.sides) n all))

-- one that makes none
pub put-held : (s t : Shown) (e : Event) (slot : ℕ) (answer : Ingest) → Takes s e slot answer t → makes_commit answer ≡ false → t.sides ≡ s.sides → IsPut s e t
put-held s t e slot answer takes h is =
    put-parts s t e slot answer takes (parted-same s t slot (λ a p. part_after s.hcap answer (floor_in (limit_for s.table a slot) (state_at t slot).now.floor) t.count (state_at t slot).now.batch slot p) is
    (λ a p. stays-after s.hcap answer h (floor_in (limit_for s.table a slot) (state_at t slot).now.floor) t.count (state_at t slot).now.batch slot p))

-- one of a key to which no agent is subscribed
pub put-unwanted : (s : Shown) (e : Event) → wanted_slot s.table e.key ≡ None → IsPut s e s
put-unwanted s e h = inl (unwanted-key s.table e.key h, refl)

-- an event of a wanted slot has its place
first-place : (s : Shown) (e : Event) (slot : ℕ) → wanted_slot s.table e.key ≡ Some slot → CanPut s (e ∷ []) → HasPlace s.hcap s.table s.tracks s.sides slot 1
first-place s e slot h can = let c : count_at s.table slot (e ∷ []) ≡ 1 = count-here s.table slot e [] h in subst (λ n. HasPlace s.hcap s.table s.tracks s.sides slot n) c (can.places slot (omega arith))

-- what comes to be owed of a commit has room
pub can-follow : (s : Shown) (e : Event) (slot : ℕ) (k : Track) → wanted_slot s.table e.key ≡ Some slot → CanPut s (e ∷ []) → IsPlaced s → IsWithin s → length k.state.now.held + length k.state.now.batch ≤ length (track_at s.tracks slot).state.now.held + 1 → CanFollow s.hcap s.table slot (length k.state.now.batch) s.sides
can-follow s e slot k h can placed within few = record {
  feeds = λ a sub. placed.feeds a slot sub;
  slots = λ a sub. placed.slots a slot sub;
  within = within.owed;
  room = λ a sub. room-less s.hcap (spared_at (sided_at s.sides a) slot) (length (track_at s.tracks slot).state.now.held + 1) (length k.state.now.batch) ((first-place s e slot h can).feeds a sub) (omega arith);
}

-- of other slots all stays
pub sided-others : (s t : Shown) (slot : ℕ) (f : ℕ → Part → Part) → AllSided s.table slot f s.sides t.sides → (a i : ℕ) → nat_eq i slot ≡ false → spared_at (sided_at t.sides a) i ≡ spared_at (sided_at s.sides a) i
sided-others s t slot f all a i e = go (is_subscribed (hold_for s.table a slot)) refl
  where
    go : (b : Bool) → is_subscribed (hold_for s.table a slot) ≡ b → spared_at (sided_at t.sides a) i ≡ spared_at (sided_at s.sides a) i
    go true h = (all.sides a h).others i e
    go false h = ap (λ (x : Side). spared_at x i) (all.others a h)

sided-places : (s t : Shown) (slot : ℕ) (f : ℕ → Part → Part) → AllSided s.table slot f s.sides t.sides → (a : ℕ) → (length (sided_at t.sides a).feeds ≡ length (sided_at s.sides a).feeds) × ((sided_at t.sides a).queue.slots ≡ (sided_at s.sides a).queue.slots)
sided-places s t slot f all a = go (is_subscribed (hold_for s.table a slot)) refl
  where
    go : (b : Bool) → is_subscribed (hold_for s.table a slot) ≡ b → (length (sided_at t.sides a).feeds ≡ length (sided_at s.sides a).feeds) × ((sided_at t.sides a).queue.slots ≡ (sided_at s.sides a).queue.slots)
    go true h = ((all.sides a h).feeds, (all.sides a h).slots)
    go false h = (ap (λ (x : Side). length x.feeds) (all.others a h), ap (λ (x : Side). x.queue.slots) (all.others a h))

-- the places stay, and the numbers are within
sound-put : (s t : Shown) (tally : ℕ) → IsSound s tally → t.table ≡ s.table → t.hcap ≡ s.hcap → length t.tracks ≡ length s.tracks → length t.sides ≡ length s.sides
    → ((a : ℕ) → (length (sided_at t.sides a).feeds ≡ length (sided_at s.sides a).feeds) × ((sided_at t.sides a).queue.slots ≡ (sided_at s.sides a).queue.slots)) → ((a : ℕ) → (sided_at t.sides a).owed ≤ s.hcap) → t.stock ≤ 262144 → t.count ≤ 2 ^ 63 → IsSound t tally
sound-put s t tally sound table hcap tracks sides places owed stock count = record {
  placed = placed-as s t sound.placed sides (λ i k h. ap (λ y. key_at y i) (sym table) ∙ h) (λ a i h. ap (λ y. is_subscribed (hold_for y a i)) (sym table) ∙ h) (omega arith)
      (λ a. (let e = (places a).0 in omega arith)) (λ a. (let e = (places a).1 in omega arith));
  within = record {
    some = omega (arith, sound.within.some);
    few = omega (arith, sound.within.few);
    owed = λ a. (let l : (sided_at t.sides a).owed ≤ s.hcap = owed a in omega arith);
    stock = stock;
    count = count;
  };
  tallied = omega (arith, sound.tallied);
}

pub sound-commit : (s t : Shown) (tally slot : ℕ) (f : ℕ → Part → Part) → IsSound s tally → t.table ≡ s.table → t.hcap ≡ s.hcap → length t.tracks ≡ length s.tracks → length t.sides ≡ length s.sides → AllSided s.table slot f s.sides t.sides
    → ((a : ℕ) → (sided_at t.sides a).owed ≤ s.hcap) → t.stock ≤ 262144 → t.count ≤ 2 ^ 63 → IsSound t tally
sound-commit s t tally slot f sound table hcap tracks sides all owed stock count = sound-put s t tally sound table hcap tracks sides (sided-places s t slot f all) owed stock count

pub sound-held : (s t : Shown) (tally : ℕ) → IsSound s tally → t.table ≡ s.table → t.hcap ≡ s.hcap → length t.tracks ≡ length s.tracks → t.sides ≡ s.sides → t.stock ≤ 262144 → t.count ≤ 2 ^ 63 → IsSound t tally
sound-held s t tally sound table hcap tracks sides stock count =
    sound-put s t tally sound table hcap tracks (ap length sides) (λ a. (ap (λ y. length (sided_at y a).feeds) sides, ap (λ y. (sided_at y a).queue.slots) sides)) (λ a. subst (λ y. (sided_at y a).owed ≤ s.hcap) (sym sides) (sound.within.owed a)) stock count

-- room where no commit was made
pub held-room : (s t : Shown) (slot : ℕ) → t.sides ≡ s.sides → (a n : ℕ) → HasRoom s.hcap (spared_at (sided_at s.sides a) slot) (length (track_at t.tracks slot).state.now.batch + n) → HasRoom s.hcap (spared_at (sided_at t.sides a) slot) n
held-room s t slot is a n h = subst (λ y. HasRoom s.hcap (spared_at (sided_at y a) slot) n) (sym is) (room-less s.hcap (spared_at (sided_at s.sides a) slot) (length (track_at t.tracks slot).state.now.batch + n) n h (omega arith))
