-- Where only the room has changed.
use Rattle.std.proofs.Common.{◌≡◌, ℕ, ◌≤◌, List, length, refl, ap, sym, ◌∙◌, arith}
use Rattle.qd_table.specs.Tables.{Table}
use Rattle.qd_table.specs.Steps.{IsSame}
use Rattle.qd_hist_stand.specs.Stripes.{Shown, Track, Side}
use Rattle.qd_hist_stand.specs.Steps.{IsRoomier}
use Rattle.qd_history.specs.Tracks.{Tracks, IsSameTrack, track_at}
use Rattle.qd_history.specs.Sides.{sided_at, IsSameSide}
use Rattle.qd_history.specs.Rooms.{KeepsTracks, KeepsSides, KeepsOtherFeeds}
use Rattle.qd_history.specs.Sound.{IsSound}
use Rattle.qd_history.proofs.SoundLaws.{placed-as}
use Rattle.qd_slots.specs.Holds.{is_subscribed}

pub table-same : (t : Table) → IsSame t t
table-same t = record {
  slots = omega arith;
  names = λ i. refl;
  finds = λ k. refl;
  holds = λ b i. refl;
  limits = λ b i. refl;
  orders = λ b. refl;
  pairs = refl;
  views = λ w i. refl;
  queues = λ w. refl;
}

pub table-trans : (a b c : Table) → IsSame a b → IsSame b c → IsSame a c
table-trans a b c p q = record {
  slots = omega (arith, p.slots, q.slots);
  names = λ i. q.names i ∙ p.names i;
  finds = λ k. q.finds k ∙ p.finds k;
  holds = λ x i. q.holds x i ∙ p.holds x i;
  limits = λ x i. q.limits x i ∙ p.limits x i;
  orders = λ x. q.orders x ∙ p.orders x;
  pairs = q.pairs ∙ p.pairs;
  views = λ w i. q.views w i ∙ p.views w i;
  queues = λ w. q.queues w ∙ p.queues w;
}

pub track-same : (t : Track) → IsSameTrack t t
track-same t = record { now = refl; width = refl; number = refl }

pub track-trans : (a b c : Track) → IsSameTrack a b → IsSameTrack b c → IsSameTrack a c
track-trans a b c p q = record { now = q.now ∙ p.now; width = q.width ∙ p.width; number = q.number ∙ p.number }

pub side-same : (s : Side) → IsSameSide s s
side-same s = record { feeds = λ i. refl; queue = refl; owed = refl; more = omega arith; slots = omega arith }

pub side-trans : (a b c : Side) → IsSameSide a b → IsSameSide b c → IsSameSide a c
side-trans a b c p q = record { feeds = λ i. q.feeds i ∙ p.feeds i; queue = q.queue ∙ p.queue; owed = q.owed ∙ p.owed; more = omega (arith, p.more, q.more); slots = omega (arith, p.slots, q.slots) }

pub tracks-same : (t : Tracks) → KeepsTracks t t
tracks-same t = record { same = λ i. track-same (track_at t.list i); stock = refl; len = refl }

pub tracks-trans : (a b c : Tracks) → KeepsTracks a b → KeepsTracks b c → KeepsTracks a c
tracks-trans a b c p q = record { same = λ i. track-trans (track_at a.list i) (track_at b.list i) (track_at c.list i) (p.same i) (q.same i); stock = q.stock ∙ p.stock; len = q.len ∙ p.len }

pub sides-same : (s : List Side) → KeepsSides s s
sides-same s = record { same = λ a. side-same (sided_at s a); len = refl }

pub sides-trans : (a b c : List Side) → KeepsSides a b → KeepsSides b c → KeepsSides a c
sides-trans a b c p q = record { same = λ i. side-trans (sided_at a i) (sided_at b i) (sided_at c i) (p.same i) (q.same i); len = q.len ∙ p.len }

pub other-feeds-same : (slot : ℕ) (s : List Side) → KeepsOtherFeeds slot s s
other-feeds-same slot s = record { keeps = sides-same s; others = λ a i e. refl }

pub other-feeds-trans : (slot : ℕ) (a b c : List Side) → KeepsOtherFeeds slot a b → KeepsOtherFeeds slot b c → KeepsOtherFeeds slot a c
other-feeds-trans slot a b c p q = record { keeps = sides-trans a b c p.keeps q.keeps; others = λ x i e. q.others x i e ∙ p.others x i e }

-- more room for all that is kept
pub roomier-by : (s t : Shown) → IsSame s.table t.table → ((i : ℕ) → IsSameTrack (track_at s.tracks i) (track_at t.tracks i)) → ((a : ℕ) → IsSameSide (sided_at s.sides a) (sided_at t.sides a)) → t.hcap ≡ s.hcap → t.base ≡ s.base → t.count ≡ s.count → t.stock ≡ s.stock → IsRoomier s t
roomier-by s t table tracks sides hcap base count stock = record {
  table = table;
  states = λ i. (tracks i).now;
  widths = λ i. (tracks i).width;
  track_numbers = λ i. (tracks i).number;
  numbers = record { hcap = hcap; base = base; count = count; stock = stock };
  feeds = λ b i. (sides b).feeds i;
  queues = λ b. (sides b).queue;
  owed = λ b. (sides b).owed;
}

pub roomier-trans : (s m t : Shown) → IsRoomier s m → IsRoomier m t → IsRoomier s t
roomier-trans s m t p q = record {
  table = table-trans s.table m.table t.table p.table q.table;
  states = λ i. q.states i ∙ p.states i;
  widths = λ i. q.widths i ∙ p.widths i;
  track_numbers = λ i. q.track_numbers i ∙ p.track_numbers i;
  numbers = record { hcap = q.numbers.hcap ∙ p.numbers.hcap; base = q.numbers.base ∙ p.numbers.base; count = q.numbers.count ∙ p.numbers.count; stock = q.numbers.stock ∙ p.numbers.stock };
  feeds = λ b i. q.feeds b i ∙ p.feeds b i;
  queues = λ b. q.queues b ∙ p.queues b;
  owed = λ b. q.owed b ∙ p.owed b;
}

-- more room keeps a stripe sound
pub sound-roomier : (s t : Shown) (tally more : ℕ) → IsSound s tally → IsSame s.table t.table → length s.tracks ≤ length t.tracks → ((a : ℕ) → IsSameSide (sided_at s.sides a) (sided_at t.sides a)) → length t.sides ≡ length s.sides → t.hcap ≡ s.hcap → t.count ≡ s.count → t.stock ≡ s.stock → length t.tracks ≤ more → IsSound t more
sound-roomier s t tally more sound table tracks sides len hcap count stock tallied = record {
  placed = placed-as s t sound.placed len (λ i k h. sym (table.names i) ∙ h) (λ a i h. ap is_subscribed (sym (table.holds a i)) ∙ h) tracks (λ a. (sides a).more) (λ a. (sides a).slots);
  within = record {
    some = omega (arith, sound.within.some);
    few = omega (arith, sound.within.few);
    owed = λ a. (let e : (sided_at t.sides a).owed ≡ (sided_at s.sides a).owed = (sides a).owed in let l : (sided_at s.sides a).owed ≤ s.hcap = sound.within.owed a in omega arith);
    stock = omega (arith, sound.within.stock);
    count = omega (arith, sound.within.count);
  };
  tallied = tallied;
}
