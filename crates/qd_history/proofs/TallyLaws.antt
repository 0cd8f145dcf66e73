-- How many events of each slot were counted, while room is made for them.
use Rattle.std.proofs.Common.{◌≡◌, ◌⊎◌, inl, inr, ℕ, zero, suc, ◌+◌, ◌<◌, ◌≤◌, Bool, true, false, nat_eq, Some, None, List, [], ◌∷◌, length, drop, slice_set, get_or-set_other, get_or-set_same, refl, ap, sym, ◌∙◌, arith, subst}
use Rattle.qd_scheme.specs.declared.key.Event.{Event}
use Rattle.qd_pend.proofs.ListLaws.{equal, unequal}
use Rattle.qd_table.specs.Tables.{Table}
use Rattle.qd_table.proofs.TableLaws.{apart-numbers}
use Rattle.qd_hist_stand.specs.Stripes.{Track, Side}
use Rattle.qd_history.specs.Tracks.{Tracks, track_at, wanted_slot}
use Rattle.qd_history.specs.Sides.{sided_at, spared_at, HasRoom}
use Rattle.qd_history.specs.Rooms.{count_at, tally_at, HasPlace, HasPlaces, IsTallied, HasAll, KeepsTracks, KeepsSides, KeepsOthers, KeepsOtherFeeds}
use Rattle.qd_history.proofs.RoomLaws.{count-here, count-other, count-none, count-more, count-length}

pub tally-here : (tally : List ℕ) (slot n : ℕ) → slot < length tally → tally_at (slice_set tally slot n) slot ≡ n
tally-here tally slot n h = get_or-set_same tally slot n 0 h

pub tally-other : (tally : List ℕ) (slot n j : ℕ) → nat_eq slot j ≡ false → tally_at (slice_set tally slot n) j ≡ tally_at tally j
tally-other tally slot n j e = get_or-set_other tally slot j n 0 (λ x. apart-numbers slot j e (sym x))

-- the tally of each event's slot is zero, or the event is still to come
abbrev pub IsSettled : Table → List Event → List Event → List ℕ → Type 0
IsSettled t items left tally = (slot : ℕ) → 0 < count_at t slot items → (tally_at tally slot ≡ 0) ⊎ (0 < count_at t slot left)

pub settled-some : (t : Table) (items rest : List Event) (e : Event) (tally : List ℕ) (slot : ℕ) → wanted_slot t e.key ≡ Some slot → slot < length tally → IsSettled t items (e ∷ rest) tally → IsSettled t items rest (slice_set tally slot 0)
settled-some t items rest e tally slot w h was j p = go (nat_eq slot j) refl
  where
    go : (b : Bool) → nat_eq slot j ≡ b → (tally_at (slice_set tally slot 0) j ≡ 0) ⊎ (0 < count_at t j rest)
    go true f = inl (ap (tally_at (slice_set tally slot 0)) (sym (equal slot j f)) ∙ tally-here tally slot 0 h)
    go false f = elim (was j p) [
      | inl z ↦ inl (tally-other tally slot 0 j f ∙ z)
      | inr m ↦ inr (subst (λ n. 0 < n) (count-other t j slot e rest w f) m)
    ]

pub settled-none : (t : Table) (items rest : List Event) (e : Event) (tally : List ℕ) → wanted_slot t e.key ≡ None → IsSettled t items (e ∷ rest) tally → IsSettled t items rest tally
settled-none t items rest e tally w was j p = elim (was j p) [
  | inl z ↦ inl z
  | inr m ↦ inr (subst (λ n. 0 < n) (count-none t j e rest w) m)
]

pub settled-end : (t : Table) (items : List Event) (tally : List ℕ) → IsSettled t items [] tally → (slot : ℕ) → 0 < count_at t slot items → tally_at tally slot ≡ 0
settled-end t items tally was slot p = elim (was slot p) [
  | inl z ↦ z
  | inr m ↦ absurd (omega arith)
]

pub tallied-start : (hcap : ℕ) (t : Table) (items : List Event) (tally : List ℕ) (tracks : List Track) (sides : List Side) → ((slot : ℕ) → 0 < count_at t slot items → tally_at tally slot ≡ 0) → IsTallied hcap t items items tally tracks sides
tallied-start hcap t items tally tracks sides zeros = record {
  counts = λ slot p. (let z : tally_at tally slot ≡ 0 = zeros slot p in omega arith);
  places = λ slot p. inl (zeros slot p);
}

pub tallied-none : (hcap : ℕ) (t : Table) (items rest : List Event) (e : Event) (tally : List ℕ) (tracks : List Track) (sides : List Side) → wanted_slot t e.key ≡ None → IsTallied hcap t items (e ∷ rest) tally tracks sides → IsTallied hcap t items rest tally tracks sides
tallied-none hcap t items rest e tally tracks sides w was = record {
  counts = λ slot p. ap (λ n. tally_at tally slot + n) (sym (count-none t slot e rest w)) ∙ was.counts slot p;
  places = was.places;
}

pub place-other : (hcap : ℕ) (t : Table) (old new : Tracks) (sides next : List Side) (slot j n : ℕ) → nat_eq slot j ≡ false → KeepsOthers slot old new → KeepsOtherFeeds slot sides next → HasPlace hcap t old.list sides j n → HasPlace hcap t new.list next j n
place-other hcap t old new sides next slot j n f tracks feeds place =
    let apart : nat_eq j slot ≡ false = unequal j slot (λ x. apart-numbers slot j f (sym x)) in
    record {
      state = subst (λ (x : Track). n ≤ x.state.spare) (sym (tracks.others j apart)) place.state;
      feeds = λ a s. subst (λ (x : Track). HasRoom hcap (spared_at (sided_at next a) j) (length x.state.now.held + n)) (sym (tracks.others j apart))
          (subst (λ x. HasRoom hcap x (length (track_at old.list j).state.now.held + n)) (sym (feeds.others a j apart)) (place.feeds a s));
    }

pub tallied-some : (hcap : ℕ) (t : Table) (items rest : List Event) (e : Event) (tally next : List ℕ) (old new : Tracks) (sides after : List Side) (slot n : ℕ) → wanted_slot t e.key ≡ Some slot → slot < length tally → n ≡ tally_at tally slot + 1 → next ≡ slice_set tally slot n
    → KeepsOthers slot old new → KeepsOtherFeeds slot sides after → HasPlace hcap t new.list after slot n → IsTallied hcap t items (e ∷ rest) tally old.list sides → IsTallied hcap t items rest next new.list after
tallied-some hcap t items rest e tally next old new sides after slot n w h more is tracks feeds place was = record {
  counts = λ j p. ap (λ x. tally_at x j + count_at t j rest) is ∙ counts j p (nat_eq slot j) refl;
  places = λ j p. subst (λ x. (tally_at x j ≡ 0) ⊎ HasPlace hcap t new.list after j (tally_at x j)) (sym is) (places j p (nat_eq slot j) refl);
}
  where
    counts : (j : ℕ) → 0 < count_at t j items → (b : Bool) → nat_eq slot j ≡ b → tally_at (slice_set tally slot n) j + count_at t j rest ≡ count_at t j items
    counts j p true f =
        let here : slot ≡ j = equal slot j f in
        let z : tally_at (slice_set tally slot n) j ≡ n = ap (tally_at (slice_set tally slot n)) (sym here) ∙ tally-here tally slot n h in
        let m : n ≡ tally_at tally j + 1 = more ∙ ap (λ i. tally_at tally i + 1) here in
        let c : count_at t j (e ∷ rest) ≡ suc (count_at t j rest) = ap (λ i. count_at t i (e ∷ rest)) (sym here) ∙ count-here t slot e rest w ∙ ap (λ i. suc (count_at t i rest)) here in
        let o : tally_at tally j + count_at t j (e ∷ rest) ≡ count_at t j items = was.counts j p in
        omega arith
    counts j p false f = ap (λ m. m + count_at t j rest) (tally-other tally slot n j f) ∙ ap (λ m. tally_at tally j + m) (sym (count-other t j slot e rest w f)) ∙ was.counts j p

    places : (j : ℕ) → 0 < count_at t j items → (b : Bool) → nat_eq slot j ≡ b → (tally_at (slice_set tally slot n) j ≡ 0) ⊎ HasPlace hcap t new.list after j (tally_at (slice_set tally slot n) j)
    places j p true f = inr (subst (λ i. HasPlace hcap t new.list after i (tally_at (slice_set tally slot n) i)) (equal slot j f) (subst (λ m. HasPlace hcap t new.list after slot m) (sym (tally-here tally slot n h)) place))
    places j p false f = elim (was.places j p) [
      | inl z ↦ inl (tally-other tally slot n j f ∙ z)
      | inr o ↦ inr (subst (λ m. HasPlace hcap t new.list after j m) (sym (tally-other tally slot n j f)) (place-other hcap t old new sides after slot j (tally_at tally j) f tracks feeds o))
    ]

pub tallied-end : (hcap : ℕ) (t : Table) (items : List Event) (tally : List ℕ) (tracks : List Track) (sides : List Side) → IsTallied hcap t items [] tally tracks sides → HasPlaces hcap t tracks sides items
tallied-end hcap t items tally tracks sides was slot p =
    let e : tally_at tally slot + 0 ≡ count_at t slot items = was.counts slot p in
    let is : tally_at tally slot ≡ count_at t slot items = omega arith in
    elim (was.places slot p) [
      | inl z ↦ absurd (omega arith)
      | inr o ↦ subst (λ m. HasPlace hcap t tracks sides slot m) is o
    ]

-- what is still to come counts no more than all
pub count-drop : (t : Table) (slot i : ℕ) (es : List Event) → count_at t slot (drop i es) ≤ count_at t slot es
count-drop t slot zero es = omega arith
count-drop t slot (suc i) [] = omega arith
count-drop t slot (suc i) (e ∷ es) = omega (arith, count-drop t slot i es, (count-more t slot e es).0)

-- an event that is still to come was not counted
pub tallied-few : (hcap : ℕ) (t : Table) (items rest : List Event) (e : Event) (tally : List ℕ) (tracks : List Track) (sides : List Side) (slot : ℕ) → wanted_slot t e.key ≡ Some slot → count_at t slot (e ∷ rest) ≤ count_at t slot items → IsTallied hcap t items (e ∷ rest) tally tracks sides → tally_at tally slot < length items
tallied-few hcap t items rest e tally tracks sides slot w more was =
    let c : count_at t slot (e ∷ rest) ≡ suc (count_at t slot rest) = count-here t slot e rest w in
    let l : count_at t slot items ≤ length items = count-length t slot items in
    let o : tally_at tally slot + count_at t slot (e ∷ rest) ≡ count_at t slot items = was.counts slot (omega arith) in
    omega arith

-- the places are kept
pub all-kept : (t : Table) (tally more : ℕ) (old new : Tracks) (sides next : List Side) → HasAll t tally (length old.list) sides → more ≡ tally → KeepsTracks old new → KeepsSides sides next → HasAll t more (length new.list) next
all-kept t tally more old new sides next all len tracks kept = record {
  tallied = λ i k h. (let l : i < tally = all.tallied i k h in omega arith);
  tracked = λ i k h. (let l : i < length old.list = all.tracked i k h in omega (arith, tracks.len));
  agents = kept.len ∙ all.agents;
  feeds = λ a i h. (let l : i < length (sided_at sides a).feeds = all.feeds a i h in let m : length (sided_at sides a).feeds ≤ length (sided_at next a).feeds = (kept.same a).more in omega arith);
}
