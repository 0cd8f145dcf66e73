-- What is true of the fields of a stripe stays true.
use Rattle.std.proofs.Common.{◌≡◌, ℕ, zero, suc, ◌<◌, ◌≤◌, ◌^◌, Bool, true, false, ◌&&◌, not, if◌then◌else◌, nat_eq, Option, Some, None, List, [], ◌∷◌, length, replicate, slice_set, get_or-set_other, get_or-set_same, refl, ap, sym, ◌∙◌, arith, subst}
use Rattle.std.proofs.lemmas.List.{length-set}
use Rattle.qd_scheme.specs.declared.key.Key.{Key}
use Rattle.qd_pend.proofs.ListLaws.{equal}
use Rattle.qd_slots.specs.declared.holds.Hold.TheVariants.{Free, Subscribed}
use Rattle.qd_slots.specs.Holds.{is_subscribed, after_end}
use Rattle.qd_table.specs.Tables.{Table, key_at, slots_in, hold_for, is_used, no_table}
use Rattle.qd_table.specs.Steps.{IsSubscribed, IsEnded, TellsAll, is_cell}
use Rattle.qd_table.proofs.TableLaws.{key_at-within, some-none, true-false, apart-numbers}
use Rattle.qd_hist_feed.specs.Feeding.{Spared}
use Rattle.qd_hist_stand.specs.Stripes.{Shown, Side, no_side, side_at, feed_at, queue_at, owed_at}
use Rattle.qd_hist_stand.specs.Steps.{Part, IsPartOf}
use Rattle.qd_history.specs.Sides.{sided_at, spared_at, IsSided}
use Rattle.qd_history.specs.Sound.{IsPlaced, IsWithin, IsSound, HasSlots}
use Rattle.qd_sub.proofs.SinceLaws.{and-right}

-- the sides with another one at a place
pub side-set : (sides : List Side) (a : ℕ) (x : Side) → a < length sides → (b : ℕ) → sided_at (slice_set sides a x) b ≡ (if nat_eq b a then x else sided_at sides b)
side-set sides a x h b =
    let go : (c : Bool) → nat_eq b a ≡ c → sided_at (slice_set sides a x) b ≡ (if c then x else sided_at sides b) =
    elim [
      | true ↦ λ e. ap (sided_at (slice_set sides a x)) (equal b a e) ∙ get_or-set_same sides a x no_side h
      | false ↦ λ e. get_or-set_other sides a b x no_side (apart-numbers b a e)
    ] in
    go (nat_eq b a) refl

-- where an agent's side is not set, and where it is
pub side-here : (sides : List Side) (a : ℕ) (x : Side) → a < length sides → sided_at (slice_set sides a x) a ≡ x
side-here sides a x h = get_or-set_same sides a x no_side h

pub side-other : (sides : List Side) (a : ℕ) (x : Side) (b : ℕ) → nat_eq b a ≡ false → sided_at (slice_set sides a x) b ≡ sided_at sides b
side-other sides a x b e = get_or-set_other sides a b x no_side (apart-numbers b a e)

-- fewer keys and subscriptions, with as many places
pub placed-as : (s t : Shown) → IsPlaced s → length t.sides ≡ length s.sides → ((i : ℕ) (k : Key) → key_at t.table i ≡ Some k → key_at s.table i ≡ Some k) → ((a i : ℕ) → is_subscribed (hold_for t.table a i) ≡ true → is_subscribed (hold_for s.table a i) ≡ true)
    → length s.tracks ≤ length t.tracks → ((a : ℕ) → length (side_at s a).feeds ≤ length (side_at t a).feeds) → ((a : ℕ) → (side_at s a).queue.slots ≤ (side_at t a).queue.slots) → IsPlaced t
placed-as s t p sides keys holds tracks feeds slots = record {
  agents = sides ∙ p.agents;
  tracks = λ i k h. (let w : i < length s.tracks = p.tracks i k (keys i k h) in omega arith);
  feeds = λ a i h. (let w : i < length (side_at s a).feeds = p.feeds a i (holds a i h) in let v : length (side_at s a).feeds ≤ length (side_at t a).feeds = feeds a in omega arith);
  slots = λ a i h. (let w : i < (side_at s a).queue.slots = p.slots a i (holds a i h) in let v : (side_at s a).queue.slots ≤ (side_at t a).queue.slots = slots a in omega arith);
}

-- a fact of the side that was set, and of the others
set-sides : (P : ℕ → Side → Type 0) (sides : List Side) (a : ℕ) (x : Side) → a < length sides → P a x → ((b : ℕ) → P b (sided_at sides b)) → (b : ℕ) → P b (sided_at (slice_set sides a x) b)
set-sides P sides a x h here rest b = subst (P b) (sym (side-set sides a x h b)) (go (nat_eq b a) refl)
  where
    go : (c : Bool) → nat_eq b a ≡ c → P b (if c then x else sided_at sides b)
    go true e = subst (λ i. P i x) (sym (equal b a e)) here
    go false e = rest b

-- one side changes, with as many places
pub placed-side : (s t : Shown) (a : ℕ) (x : Side) → IsPlaced s → a < 128 → t.sides ≡ slice_set s.sides a x → ((i : ℕ) (k : Key) → key_at t.table i ≡ Some k → key_at s.table i ≡ Some k) → ((b i : ℕ) → is_subscribed (hold_for t.table b i) ≡ true → is_subscribed (hold_for s.table b i) ≡ true)
    → length t.tracks ≡ length s.tracks → length x.feeds ≡ length (side_at s a).feeds → x.queue.slots ≡ (side_at s a).queue.slots → IsPlaced t
placed-side s t a x p few is keys holds tracks feeds slots =
    let within : a < length s.sides = omega (arith, p.agents) in
    placed-as s t p (ap length is ∙ length-set s.sides a x) keys holds (omega arith)
    (λ b. subst (λ sides. length (side_at s b).feeds ≤ length (sided_at sides b).feeds) (sym is) (set-sides (λ i (y : Side). length (side_at s i).feeds ≤ length y.feeds) s.sides a x within (omega arith) (λ i. (let l : length (side_at s i).feeds ≤ length (side_at s i).feeds = omega arith in l)) b))
    (λ b. subst (λ sides. (side_at s b).queue.slots ≤ (sided_at sides b).queue.slots) (sym is) (set-sides (λ i (y : Side). (side_at s i).queue.slots ≤ y.queue.slots) s.sides a x within (omega arith) (λ i. (let l : (side_at s i).queue.slots ≤ (side_at s i).queue.slots = omega arith in l)) b))

-- the numbers stay within
pub within-side : (s t : Shown) (a : ℕ) (x : Side) → IsWithin s → a < length s.sides → t.sides ≡ slice_set s.sides a x → t.hcap ≡ s.hcap → t.count ≡ s.count → t.stock ≤ s.stock → x.owed ≤ (side_at s a).owed → IsWithin t
within-side s t a x w h is hcap count stock owed = record {
  some = omega (arith, w.some);
  few = omega (arith, w.few);
  owed = λ b. subst (λ sides. (sided_at sides b).owed ≤ t.hcap) (sym is) (set-sides (λ i (y : Side). y.owed ≤ t.hcap) s.sides a x h (let l : (side_at s a).owed ≤ s.hcap = w.owed a in omega arith) (λ i. (let l : (side_at s i).owed ≤ s.hcap = w.owed i in omega arith)) b);
  stock = omega (arith, w.stock);
  count = omega (arith, w.count);
}

-- of an agent's part of a slot this is left
pub part-set : (s t : Shown) (a slot : ℕ) (p : Part) (x : Side) → a < length s.sides → t.sides ≡ slice_set s.sides a x → IsSided (side_at s a) slot p x → IsPartOf s a slot p t
part-set s t a slot p x h is sided = record {
  feeds = λ b i. ap (λ sides. (spared_at (sided_at sides b) i).now) is ∙ ap (λ y. (spared_at y i).now) (side-set s.sides a x h b) ∙ feeds b i (nat_eq b a) (nat_eq i slot) refl refl;
  queues = λ b. ap (λ sides. (sided_at sides b).queue.list) is ∙ ap (λ (y : Side). y.queue.list) (side-set s.sides a x h b) ∙ queues b (nat_eq b a) refl;
  owed = λ b. ap (λ sides. (sided_at sides b).owed) is ∙ ap (λ (y : Side). y.owed) (side-set s.sides a x h b) ∙ owed b (nat_eq b a) refl;
}
  where
    feeds : (b i : ℕ) (c d : Bool) → nat_eq b a ≡ c → nat_eq i slot ≡ d → (spared_at (if c then x else sided_at s.sides b) i).now ≡ (if c && d then p.feed else feed_at s b i)
    feeds b i true true e f = ap (λ j. (spared_at x j).now) (equal i slot f) ∙ sided.feed
    feeds b i true false e f = ap (λ (y : Spared). y.now) (sided.others i f) ∙ ap (λ j. feed_at s j i) (sym (equal b a e))
    feeds b i false d e f = refl

    queues : (b : ℕ) (c : Bool) → nat_eq b a ≡ c → (let y : Side = if c then x else sided_at s.sides b in y.queue.list) ≡ (if c then p.queue else queue_at s b)
    queues b true e = sided.queue
    queues b false e = refl

    owed : (b : ℕ) (c : Bool) → nat_eq b a ≡ c → (let y : Side = if c then x else sided_at s.sides b in y.owed) ≡ (if c then p.owed else owed_at s b)
    owed b true e = sided.owed
    owed b false e = refl

-- tellings
if-some : (b : Bool) (o : Option Key) (k : Key) → (let n : Option Key = None in (if b then n else o) ≡ Some k) → o ≡ Some k
if-some true o k h = absurd (some-none k (sym h))
if-some false o k h = h

pub tells-names : (slots : List ℕ) (old new : Table) (w : ℕ) → TellsAll old w slots new → (i : ℕ) (k : Key) → key_at new i ≡ Some k → key_at old i ≡ Some k
unfolding TellsAll
tells-names [] old new w e i k h = ap (λ x. key_at x i) e ∙ h
tells-names (slot ∷ slots) old new w (mid, told, rest) i k h = if-some (nat_eq i slot && not (is_used mid slot)) (key_at old i) k (sym (told.names i) ∙ tells-names slots mid new w rest i k h)

pub tells-holds : (slots : List ℕ) (old new : Table) (w : ℕ) → TellsAll old w slots new → (a i : ℕ) → hold_for new a i ≡ hold_for old a i
unfolding TellsAll
tells-holds [] old new w e a i = ap (λ x. hold_for x a i) (sym e)
tells-holds (slot ∷ slots) old new w (mid, told, rest) a i = tells-holds slots mid new w rest a i ∙ told.holds a i

pub sound-told : (s t : Shown) (tally w : ℕ) (slots : List ℕ) → IsSound s tally → TellsAll s.table w slots t.table → t.tracks ≡ s.tracks → t.sides ≡ s.sides → t.hcap ≡ s.hcap → t.count ≡ s.count → t.stock ≡ s.stock → IsSound t tally
sound-told s t tally w slots sound tells tracks sides hcap count stock = record {
  placed = placed-as s t sound.placed (ap length sides) (tells-names slots s.table t.table w tells) (λ a i h. ap is_subscribed (sym (tells-holds slots s.table t.table w tells a i)) ∙ h) (omega (arith, ap length tracks))
      (λ a. (let e : length (side_at t a).feeds ≡ length (side_at s a).feeds = ap (λ x. length (sided_at x a).feeds) sides in omega arith)) (λ a. (let e : (side_at t a).queue.slots ≡ (side_at s a).queue.slots = ap (λ x. (sided_at x a).queue.slots) sides in omega arith));
  within = record {
    some = omega (arith, sound.within.some);
    few = omega (arith, sound.within.few);
    owed = λ a. (let e : owed_at t a ≡ owed_at s a = ap (λ x. (sided_at x a).owed) sides in let l : owed_at s a ≤ s.hcap = sound.within.owed a in omega arith);
    stock = omega (arith, sound.within.stock);
    count = omega (arith, sound.within.count);
  };
  tallied = omega (arith, sound.tallied, ap length tracks);
}

-- a subscription ends
pub ended-names : (old new : Table) (a slot : ℕ) → IsEnded old a slot false new → (i : ℕ) (k : Key) → key_at new i ≡ Some k → key_at old i ≡ Some k
ended-names old new a slot ended i k h = if-some (nat_eq i slot && not (is_used new slot)) (key_at old i) k (sym (ended.names i) ∙ h)

pub ended-holds : (old new : Table) (a slot : ℕ) → IsEnded old a slot false new → (b i : ℕ) → is_subscribed (hold_for new b i) ≡ true → is_subscribed (hold_for old b i) ≡ true
ended-holds old new a slot ended b i h = go (is_cell b i a slot) refl
  where
    go : (c : Bool) → is_cell b i a slot ≡ c → is_subscribed (hold_for old b i) ≡ true
    go true f = absurd (true-false (sym h ∙ ap is_subscribed (ended.holds b i) ∙ ap (λ c. is_subscribed (if c then after_end false else hold_for old b i)) f))
    go false f = sym (ap is_subscribed (ended.holds b i) ∙ ap (λ c. is_subscribed (if c then after_end false else hold_for old b i)) f) ∙ h

-- a subscription, where there is room for all slots
pub placed-added : (s t : Shown) (a slot limit : ℕ) (k : Key) (x : Side) → IsPlaced s → IsSubscribed s.table a k limit slot t.table → HasSlots s a → a < 128 → t.sides ≡ slice_set s.sides a x → length t.tracks ≡ length s.tracks → length x.feeds ≡ length (side_at s a).feeds → x.queue.slots ≡ (side_at s a).queue.slots → IsPlaced t
placed-added s t a slot limit k x p added room few is tracks feeds slots = record {
  agents = ap length is ∙ length-set s.sides a x ∙ p.agents;
  tracks = λ i j h. (let w : i < slots_in t.table = key_at-within t.table i j h in let e : slots_in t.table ≡ slots_in s.table = added.slots in let r : slots_in s.table ≤ length s.tracks = room.tracks in omega arith);
  feeds = λ b i h. subst (λ sides. i < length (sided_at sides b).feeds) (sym is) (subst (λ (y : Side). i < length y.feeds) (sym (side-set s.sides a x within b)) (in-feeds b i h (nat_eq b a) refl));
  slots = λ b i h. subst (λ sides. i < (sided_at sides b).queue.slots) (sym is) (subst (λ (y : Side). i < y.queue.slots) (sym (side-set s.sides a x within b)) (in-slots b i h (nat_eq b a) refl));
}
  where
    within : a < length s.sides
    within = omega (arith, p.agents)

    was : (b i : ℕ) → is_subscribed (hold_for t.table b i) ≡ true → is_cell b i a slot ≡ false → is_subscribed (hold_for s.table b i) ≡ true
    was b i h f = sym (ap is_subscribed (added.holds b i) ∙ ap (λ c. is_subscribed (if c then Subscribed else hold_for s.table b i)) f) ∙ h

    low : (b i : ℕ) → is_subscribed (hold_for t.table b i) ≡ true → nat_eq b a ≡ true → (c : Bool) → is_cell b i a slot ≡ c → (n : ℕ) → slots_in s.table ≤ n → ((j : ℕ) → is_subscribed (hold_for s.table a j) ≡ true → j < n) → i < n
    low b i h e true f n l old = (let w : slot < slots_in t.table = added.within in let g : slots_in t.table ≡ slots_in s.table = added.slots in let z : i ≡ slot = equal i slot (and-right (nat_eq b a) (nat_eq i slot) f) in omega arith)
    low b i h e false f n l old = old i (ap (λ x. is_subscribed (hold_for s.table x i)) (sym (equal b a e)) ∙ was b i h f)

    other : (b i : ℕ) → nat_eq b a ≡ false → is_cell b i a slot ≡ false
    other b i e = ap (λ c. c && nat_eq i slot) e

    in-feeds : (b i : ℕ) → is_subscribed (hold_for t.table b i) ≡ true → (c : Bool) → nat_eq b a ≡ c → i < length (let y : Side = if c then x else sided_at s.sides b in y.feeds)
    in-feeds b i h true e = (let l : i < length (side_at s a).feeds = low b i h e (is_cell b i a slot) refl (length (side_at s a).feeds) room.feeds (p.feeds a) in omega arith)
    in-feeds b i h false e = p.feeds b i (was b i h (other b i e))

    in-slots : (b i : ℕ) → is_subscribed (hold_for t.table b i) ≡ true → (c : Bool) → nat_eq b a ≡ c → i < (let y : Side = if c then x else sided_at s.sides b in y.queue.slots)
    in-slots b i h true e = (let l : i < (side_at s a).queue.slots = low b i h e (is_cell b i a slot) refl (side_at s a).queue.slots room.slots (p.slots a) in omega arith)
    in-slots b i h false e = p.slots b i (was b i h (other b i e))

-- at first
replicate-length : (n : ℕ) → length (replicate n no_side) ≡ n
replicate-length zero = refl
replicate-length (suc n) = ap suc (replicate-length n)

replicate-at : (n a : ℕ) → sided_at (replicate n no_side) a ≡ no_side
replicate-at zero a = refl
replicate-at (suc n) zero = refl
replicate-at (suc n) (suc a) = replicate-at n a

no-key : (i : ℕ) → key_at no_table i ≡ None
unfolding key_at
no-key i = refl

no-hold : (a i : ℕ) → hold_for no_table a i ≡ Free
unfolding hold_for
no-hold a i = refl

pub sound-new : (s : Shown) (tally : ℕ) → s.table ≡ no_table → s.tracks ≡ [] → s.sides ≡ replicate 128 no_side → s.stock ≡ 0 → 1 ≤ s.hcap → s.hcap ≤ 4096 → s.count ≤ 2 ^ 63 → IsSound s tally
sound-new s tally table tracks sides stock some few count = record {
  placed = record {
    agents = ap length sides ∙ replicate-length 128;
    tracks = λ i k h. absurd (some-none k (sym h ∙ ap (λ x. key_at x i) table ∙ no-key i));
    feeds = λ a i h. absurd (true-false (sym h ∙ ap (λ x. is_subscribed (hold_for x a i)) table ∙ ap is_subscribed (no-hold a i)));
    slots = λ a i h. absurd (true-false (sym h ∙ ap (λ x. is_subscribed (hold_for x a i)) table ∙ ap is_subscribed (no-hold a i)));
  };
  within = record {
    some = some;
    few = few;
    owed = λ a. (let z : owed_at s a ≡ 0 = ap (λ x. (sided_at x a).owed) sides ∙ ap (λ (x : Side). x.owed) (replicate-at 128 a) in omega arith);
    stock = omega arith;
    count = count;
  };
  tallied = (let z : length s.tracks ≡ 0 = ap length tracks in omega arith);
}
