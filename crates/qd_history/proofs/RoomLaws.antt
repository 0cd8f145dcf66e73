-- Room for the events of a Put, before each of them.
use Rattle.std.proofs.Common.{◌≡◌, inl, inr, ℕ, suc, ◌+◌, ◌<◌, ◌≤◌, ◌^◌, Bool, true, false, if◌then◌else◌, nat_eq, min, Option, Some, None, List, [], ◌∷◌, length, drop, get_or, refl, ap, sym, ◌∙◌, arith, subst, add-one}
use Rattle.std.proofs.Math.Seq.{drop-cons}
use Rattle.qd_scheme.specs.declared.key.Key.{Key}
use Rattle.qd_scheme.specs.declared.key.Event.{Event}
use Rattle.qd_pend.proofs.ListLaws.{same, equal, unequal}
use Rattle.qd_table.specs.Tables.{Table, slot_for, is_wanted_slot, is_wanted_key}
use Rattle.qd_table.proofs.TableLaws.{some-same, some-none, apart-numbers}
use Rattle.qd_hist_feed.specs.Feeding.{Spared}
use Rattle.qd_hist_stand.specs.Stripes.{Shown, Track, Side}
use Rattle.qd_history.specs.Tracks.{track_at, wanted_in, wanted_slot}
use Rattle.qd_history.specs.Sides.{sided_at, spared_at, HasRoom, IsReserved}
use Rattle.qd_history.specs.Rooms.{is_slot, count_at, wanted_count, HasPlace, HasPlaces, CanPut}
use Rattle.qd_history.proofs.OwedLaws.{room-less}

-- the rest of a list from a place on
pub left-from : {X : Type 0} (xs : List X) (i : ℕ) (x : X) → i < length xs → x ≡ get_or xs i x → drop i xs ≡ x ∷ drop (i + 1) xs
left-from xs i x h e = drop-cons xs i x h ∙ ap (λ y. y ∷ drop (suc i) xs) (sym e) ∙ ap (λ n. x ∷ drop n xs) (sym (add-one i))

-- a key's slot that is wanted, or none
pub wanted-key : (t : Table) (k : Key) (slot : ℕ) → wanted_slot t k ≡ Some slot → (slot_for t k ≡ Some slot) × (is_wanted_slot t slot ≡ true)
wanted-key t k slot h = go (slot_for t k) refl h
  where
    by : (i : ℕ) (b : Bool) → is_wanted_slot t i ≡ b → (let n : Option ℕ = None in (if b then Some i else n) ≡ Some slot) → (i ≡ slot) × (is_wanted_slot t slot ≡ true)
    by i true w e = (some-same i slot e, ap (is_wanted_slot t) (sym (some-same i slot e)) ∙ w)
    by i false w e = absurd (some-none slot (sym e))

    go : (o : Option ℕ) → slot_for t k ≡ o → wanted_in t o ≡ Some slot → (slot_for t k ≡ Some slot) × (is_wanted_slot t slot ≡ true)
    go None f e = absurd (some-none slot (sym e))
    go (Some i) f e = let found = by i (is_wanted_slot t i) refl e in (f ∙ ap (λ j. Some j) found.0, found.1)

pub unwanted-key : (t : Table) (k : Key) → wanted_slot t k ≡ None → (slot : ℕ) → slot_for t k ≡ Some slot → is_wanted_slot t slot ≡ false
unwanted-key t k h slot f = by (is_wanted_slot t slot) refl (ap (wanted_in t) (sym f) ∙ h)
  where
    by : (b : Bool) → is_wanted_slot t slot ≡ b → (let n : Option ℕ = None in (if b then Some slot else n) ≡ n) → is_wanted_slot t slot ≡ false
    by true w e = absurd (some-none slot e)
    by false w e = w

-- an event counts where it is of the slot
count-by : (t : Table) (i : ℕ) (e : Event) (es : List Event) (o : Option ℕ) → wanted_slot t e.key ≡ o → count_at t i (e ∷ es) ≡ (if is_slot i o then suc (count_at t i es) else count_at t i es)
count-by t i e es o h = ap (λ x. if is_slot i x then suc (count_at t i es) else count_at t i es) h

pub count-here : (t : Table) (slot : ℕ) (e : Event) (es : List Event) → wanted_slot t e.key ≡ Some slot → count_at t slot (e ∷ es) ≡ suc (count_at t slot es)
count-here t slot e es h = count-by t slot e es (Some slot) h ∙ ap (λ b. if b then suc (count_at t slot es) else count_at t slot es) (same slot)

pub count-other : (t : Table) (i slot : ℕ) (e : Event) (es : List Event) → wanted_slot t e.key ≡ Some slot → nat_eq slot i ≡ false → count_at t i (e ∷ es) ≡ count_at t i es
count-other t i slot e es h f = count-by t i e es (Some slot) h ∙ ap (λ b. if b then suc (count_at t i es) else count_at t i es) f

pub count-none : (t : Table) (i : ℕ) (e : Event) (es : List Event) → wanted_slot t e.key ≡ None → count_at t i (e ∷ es) ≡ count_at t i es
count-none t i e es h = count-by t i e es None h

-- at most one more for one event more
pub count-more : (t : Table) (i : ℕ) (e : Event) (es : List Event) → (count_at t i es ≤ count_at t i (e ∷ es)) × (count_at t i (e ∷ es) ≤ suc (count_at t i es))
count-more t i e es = go (is_slot i (wanted_slot t e.key))
  where
    go : (b : Bool) → (count_at t i es ≤ (if b then suc (count_at t i es) else count_at t i es)) × ((if b then suc (count_at t i es) else count_at t i es) ≤ suc (count_at t i es))
    go true = (omega arith, omega arith)
    go false = (omega arith, omega arith)

pub count-length : (t : Table) (i : ℕ) (es : List Event) → count_at t i es ≤ length es
count-length t i [] = omega arith
count-length t i (e ∷ es) = omega (arith, count-length t i es, (count-more t i e es).1)

-- an event that counts is of its slot
pub count-alone : (t : Table) (i : ℕ) (e : Event) → 0 < count_at t i (e ∷ []) → count_at t i (e ∷ []) ≡ 1
count-alone t i e h = let m : count_at t i (e ∷ []) ≤ suc 0 = (count-more t i e []).1 in omega arith

pub place-less : (hcap : ℕ) (t : Table) (tracks : List Track) (sides : List Side) (slot n m : ℕ) → HasPlace hcap t tracks sides slot n → m ≤ n → HasPlace hcap t tracks sides slot m
place-less hcap t tracks sides slot n m p h = record {
  state = (let w : n ≤ (track_at tracks slot).state.spare = p.state in omega arith);
  feeds = λ a s. room-less hcap (spared_at (sided_at sides a) slot) (length (track_at tracks slot).state.now.held + n) (length (track_at tracks slot).state.now.held + m) (p.feeds a s) (omega arith);
}

-- how many are wanted: as many and one more
wanted-by : (t : Table) (k : Key) (o : Option ℕ) → wanted_slot t k ≡ o → is_wanted_key t k ≡ (let f : Option ℕ → Bool = elim [ None ↦ false | Some i ↦ true ] in f o)
unfolding is_wanted_key
wanted-by t k o h = go (slot_for t k) refl o h
  where
    by : (i : ℕ) (b : Bool) → is_wanted_slot t i ≡ b → (o : Option ℕ) → (let n : Option ℕ = None in (if b then Some i else n) ≡ o) → is_wanted_slot t i ≡ (let f : Option ℕ → Bool = elim [ None ↦ false | Some j ↦ true ] in f o)
    by i true w (Some j) e = w
    by i true w None e = absurd (some-none i e)
    by i false w None e = w
    by i false w (Some j) e = absurd (some-none j (sym e))

    go : (s : Option ℕ) → slot_for t k ≡ s → (o : Option ℕ) → wanted_in t s ≡ o → (let f : Option ℕ → Bool = elim [ None ↦ false | Some slot ↦ is_wanted_slot t slot ] in f (slot_for t k)) ≡ (let f : Option ℕ → Bool = elim [ None ↦ false | Some i ↦ true ] in f o)
    go None f None e = rw f refl
    go None f (Some j) e = absurd (some-none j (sym e))
    go (Some i) f o e = rw f (by i (is_wanted_slot t i) refl o e)

pub wanted-some : (t : Table) (k : Key) (slot : ℕ) → wanted_slot t k ≡ Some slot → is_wanted_key t k ≡ true
wanted-some t k slot h = wanted-by t k (Some slot) h

pub wanted-none : (t : Table) (k : Key) → wanted_slot t k ≡ None → is_wanted_key t k ≡ false
wanted-none t k h = wanted-by t k None h

pub counts-some : (t : Table) (e : Event) (es : List Event) → is_wanted_key t e.key ≡ true → wanted_count t (e ∷ es) ≡ suc (wanted_count t es)
counts-some t e es h = rw h refl

pub counts-none : (t : Table) (e : Event) (es : List Event) → is_wanted_key t e.key ≡ false → wanted_count t (e ∷ es) ≡ wanted_count t es
counts-none t e es h = rw h refl

counts-less : (t : Table) (e : Event) (es : List Event) (b : Bool) → is_wanted_key t e.key ≡ b → (wanted_count t (e ∷ []) ≤ wanted_count t (e ∷ es)) × (wanted_count t es ≤ wanted_count t (e ∷ es))
counts-less t e es true h = let m : wanted_count t (e ∷ es) ≡ suc (wanted_count t es) = counts-some t e es h in let n : wanted_count t (e ∷ []) ≡ 1 = counts-some t e [] h in (omega arith, omega arith)
counts-less t e es false h = let m : wanted_count t (e ∷ es) ≡ wanted_count t es = counts-none t e es h in let n : wanted_count t (e ∷ []) ≡ 0 = counts-none t e [] h in (omega arith, omega arith)

-- one of the events may be put
pub can-one : (s : Shown) (e : Event) (es : List Event) → CanPut s (e ∷ es) → CanPut s (e ∷ [])
can-one s e es can = record {
  places = λ slot h.
      (let one : count_at s.table slot (e ∷ []) ≡ 1 = count-alone s.table slot e h in
      let more : 0 < count_at s.table slot (e ∷ es) = here slot h in
      place-less s.hcap s.table s.tracks s.sides slot (count_at s.table slot (e ∷ es)) (count_at s.table slot (e ∷ [])) (can.places slot more) (omega arith));
  stock = (let l : wanted_count s.table (e ∷ []) ≤ wanted_count s.table (e ∷ es) = (counts-less s.table e es (is_wanted_key s.table e.key) refl).0 in omega (arith, can.stock));
  count = omega (arith, can.count);
}
  where
    here : (slot : ℕ) → 0 < count_at s.table slot (e ∷ []) → 0 < count_at s.table slot (e ∷ es)
    here slot h = go (is_slot slot (wanted_slot s.table e.key)) h
      where
        go : (b : Bool) → 0 < (if b then suc 0 else 0) → 0 < (if b then suc (count_at s.table slot es) else count_at s.table slot es)
        go true h = omega arith
        go false h = absurd (omega arith)

-- an event of an unwanted key is passed over
pub can-unwanted : (s : Shown) (e : Event) (es : List Event) → wanted_slot s.table e.key ≡ None → CanPut s (e ∷ es) → CanPut s es
can-unwanted s e es h can = record {
  places = λ slot p.
      (let c : count_at s.table slot (e ∷ es) ≡ count_at s.table slot es = count-none s.table slot e es h in
      subst (λ n. HasPlace s.hcap s.table s.tracks s.sides slot n) c (can.places slot (omega arith)));
  stock = (let l : wanted_count s.table es ≤ wanted_count s.table (e ∷ es) = (counts-less s.table e es (is_wanted_key s.table e.key) refl).1 in omega (arith, can.stock));
  count = omega (arith, can.count);
}

-- what one event leaves of the room
pub record TakesRoom (s : Shown) (slot : ℕ) (t : Shown) : Type 0 where
  pub table : t.table ≡ s.table
  pub hcap : t.hcap ≡ s.hcap
  pub few : length (track_at t.tracks slot).state.now.held + length (track_at t.tracks slot).state.now.batch ≤ length (track_at s.tracks slot).state.now.held + 1
  pub spare : (track_at s.tracks slot).state.spare ≤ (track_at t.tracks slot).state.spare + 1
  pub others : (i : ℕ) → nat_eq i slot ≡ false → track_at t.tracks i ≡ track_at s.tracks i
  pub room : (a n : ℕ) → HasRoom s.hcap (spared_at (sided_at s.sides a) slot) (length (track_at t.tracks slot).state.now.batch + n) → HasRoom s.hcap (spared_at (sided_at t.sides a) slot) n
  pub feeds : (a i : ℕ) → nat_eq i slot ≡ false → spared_at (sided_at t.sides a) i ≡ spared_at (sided_at s.sides a) i
  pub stock : t.stock ≤ s.stock + 1
  pub count : t.count ≤ s.count + 1

-- an event of this slot was put: there is room for the rest
pub can-rest : (s t : Shown) (slot : ℕ) (e : Event) (es : List Event) → wanted_slot s.table e.key ≡ Some slot → TakesRoom s slot t → CanPut s (e ∷ es) → CanPut t es
can-rest s t slot e es h takes can = record {
  places = λ i p. subst (λ hcap. HasPlace hcap t.table t.tracks t.sides i (count_at t.table i es)) (sym takes.hcap) (subst (λ table. HasPlace s.hcap table t.tracks t.sides i (count_at table i es)) (sym takes.table) (place i (subst (λ table. 0 < count_at table i es) takes.table p) (nat_eq slot i) refl));
  stock = (let w : wanted_count s.table (e ∷ es) ≡ suc (wanted_count s.table es) = counts-some s.table e es (wanted-some s.table e.key slot h) in
      let v : wanted_count t.table es ≡ wanted_count s.table es = ap (λ x. wanted_count x es) takes.table in omega (arith, can.stock, takes.stock));
  count = omega (arith, can.count, takes.count);
}
  where
    place : (i : ℕ) → 0 < count_at s.table i es → (b : Bool) → nat_eq slot i ≡ b → HasPlace s.hcap s.table t.tracks t.sides i (count_at s.table i es)
    place i p true f = subst (λ j. HasPlace s.hcap s.table t.tracks t.sides j (count_at s.table j es)) (equal slot i f) (record {
      state = (let w : suc (count_at s.table slot es) ≤ (track_at s.tracks slot).state.spare = first.state in omega (arith, takes.spare));
      feeds = λ a sub. takes.room a (length (track_at t.tracks slot).state.now.held + count_at s.table slot es)
          (room-less s.hcap (spared_at (sided_at s.sides a) slot) (length (track_at s.tracks slot).state.now.held + suc (count_at s.table slot es)) (length (track_at t.tracks slot).state.now.batch + (length (track_at t.tracks slot).state.now.held + count_at s.table slot es)) (first.feeds a sub) (omega (arith, takes.few)));
    })
      where
        first : HasPlace s.hcap s.table s.tracks s.sides slot (suc (count_at s.table slot es))
        first = subst (λ n. HasPlace s.hcap s.table s.tracks s.sides slot n) (count-here s.table slot e es h) (can.places slot (let c : count_at s.table slot (e ∷ es) ≡ suc (count_at s.table slot es) = count-here s.table slot e es h in omega arith))
    place i p false f = record {
      state = subst (λ (x : Track). count_at s.table i es ≤ x.state.spare) (sym (takes.others i apart)) old.state;
      feeds = λ a sub. subst (λ (x : Track). HasRoom s.hcap (spared_at (sided_at t.sides a) i) (length x.state.now.held + count_at s.table i es)) (sym (takes.others i apart))
          (subst (λ x. HasRoom s.hcap x (length (track_at s.tracks i).state.now.held + count_at s.table i es)) (sym (takes.feeds a i apart)) (old.feeds a sub));
    }
      where
        apart : nat_eq i slot ≡ false
        apart = unequal i slot (λ x. apart-numbers slot i f (sym x))

        old : HasPlace s.hcap s.table s.tracks s.sides i (count_at s.table i es)
        old = (let c : count_at s.table i (e ∷ es) ≡ count_at s.table i es = count-other s.table i slot e es h f in subst (λ n. HasPlace s.hcap s.table s.tracks s.sides i n) c (can.places i (omega arith)))

-- room that was reserved
pub reserved-room : (hcap : ℕ) (f : Spared) (held events : ℕ) → IsReserved f (min hcap (held + events)) → HasRoom hcap f (held + events)
reserved-room hcap f held events (inl w) = inl w
reserved-room hcap f held events (inr r) = inr (omega arith)

pub one-more : (t : Table) (e : Event) (n : ℕ) → n ≡ (if is_wanted_key t e.key then 1 else 0) → n ≤ 1
one-more t e n h = subst (λ m. m ≤ 1) (sym h) (go (is_wanted_key t e.key))
  where
    go : (b : Bool) → (if b then 1 else 0) ≤ 1
    go true = omega arith
    go false = omega arith

-- one event more was counted
pub count-step : (t : Table) (es : List Event) (i n one all : ℕ) (e : Event) → i < length es → e ≡ get_or es i e → one ≡ (if is_wanted_key t e.key then 1 else 0) → n + wanted_count t (drop i es) ≡ all → (n + one) + wanted_count t (drop (i + 1) es) ≡ all
count-step t es i n one all e h is o was = go (is_wanted_key t e.key) refl
  where
    now : n + wanted_count t (e ∷ drop (i + 1) es) ≡ all
    now = ap (λ xs. n + wanted_count t xs) (sym (left-from es i e h is)) ∙ was

    go : (b : Bool) → is_wanted_key t e.key ≡ b → (n + one) + wanted_count t (drop (i + 1) es) ≡ all
    go true w =
        let k : wanted_count t (e ∷ drop (i + 1) es) ≡ suc (wanted_count t (drop (i + 1) es)) = counts-some t e (drop (i + 1) es) w in
        let m : one ≡ 1 = o ∙ ap (λ b. if b then 1 else 0) w in
        let z : n + wanted_count t (e ∷ drop (i + 1) es) ≡ all = now in
        omega arith
    go false w =
        let k : wanted_count t (e ∷ drop (i + 1) es) ≡ wanted_count t (drop (i + 1) es) = counts-none t e (drop (i + 1) es) w in
        let m : one ≡ 0 = o ∙ ap (λ b. if b then 1 else 0) w in
        let z : n + wanted_count t (e ∷ drop (i + 1) es) ≡ all = now in
        omega arith

-- the stock has room for an event of a wanted slot
pub stock-room : (s : Shown) (e : Event) (slot : ℕ) → wanted_slot s.table e.key ≡ Some slot → CanPut s (e ∷ []) → s.stock < 262144
stock-room s e slot h can =
    let w : wanted_count s.table (e ∷ []) ≡ 1 = counts-some s.table e [] (wanted-some s.table e.key slot h) in
    omega (arith, can.stock)

-- with room for all events they may be put
pub can-put : (s m : Shown) (es : List Event) → m.table ≡ s.table → m.stock ≡ s.stock → m.count ≡ s.count → HasPlaces m.hcap m.table m.tracks m.sides es → s.stock + wanted_count s.table es ≤ 262144 → s.count + length es ≤ 2 ^ 63 → CanPut m es
can-put s m es table stock count places kept numbered = record {
  places = places;
  stock = (let w : wanted_count m.table es ≡ wanted_count s.table es = ap (λ x. wanted_count x es) table in omega arith);
  count = omega arith;
}
