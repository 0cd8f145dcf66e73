-- What each step leaves of the room for what comes for each subscription.
use Rattle.std.proofs.Common.{◌≡◌, ℕ, ◌<◌, ◌≤◌, Bool, true, false, ◌&&◌, nat_eq, nat_lt, if◌then◌else◌, List, [], ◌∷◌, ◌++◌, length, drop, refl, ap, sym, ◌∙◌, subst, arith, length-set, ◌⊎◌, inl, inr}
use Rattle.std.specs.Prelude.{max}
use Rattle.std.proofs.lemmas.Bool.{eqb-true}
use Rattle.std.proofs.lemmas.List.{get_or-set_same, get_or-set_other}
use Rattle.qd_scheme.specs.declared.key.Key.{Key}
use Rattle.qd_sub.proofs.SinceLaws.{same_number}
use Rattle.qd_slots.specs.declared.holds.Hold.TheVariants.{Free, Subscribed}
use Rattle.qd_slots.specs.Holds.{is_subscribed, is_kept, after_end}
use Rattle.qd_table.specs.Tables.{Table, slots_in, hold_for}
use Rattle.qd_table.specs.Steps.{is_cell, IsSame, IsEnded, IsLetGo, TellsAll}
use Rattle.qd_stream.specs.declared.outbox.Waiting.{Waiting}
use Rattle.qd_stream.specs.Outboxes.{Outstanding, with_waiting, with_first_lost}
use Rattle.qd_stream.specs.Boxes.{Boxes, box_at, with_box, with_slots}
use Rattle.qd_stream.specs.Stripes.{Shown, IsReady}
use Rattle.qd_stream.specs.Steps.{SubscribesAll, IsPushed}

apart : (m n : ℕ) → nat_eq m n ≡ false → (m ≡ n → ⊥)
apart m n h e = let t = same_number m in let f : nat_eq m n ≡ true = sym (ap (nat_eq m) e) ∙ t in absurd (cc (f, h))

-- the outbox that was changed, and the other ones
pub box-same : (b : Boxes) (a : ℕ) (o : Outstanding) → a < length b.list → box_at (with_box b a o) a ≡ o
box-same b a o h = get_or-set_same b.list a o _ h

pub box-other : (b : Boxes) (a c : ℕ) (o : Outstanding) → nat_eq c a ≡ false → box_at (with_box b a o) c ≡ box_at b c
box-other b a c o h = get_or-set_other b.list a c o _ (apart c a h)

-- one more item leaves the room for slots
pub waiting-slots : (o : Outstanding) (w : Waiting) → (with_waiting o w).slots ≡ o.slots
unfolding with_waiting
waiting-slots o w =
    let fits : Outstanding = record { cap = o.cap; items = o.items ++ w ∷ []; lost = o.lost; slots = o.slots } in
    let over : Outstanding = record { cap = o.cap; items = drop 1 (o.items ++ w ∷ []); lost = with_first_lost o.lost (o.items ++ w ∷ []); slots = o.slots } in
    elim (nat_lt (length o.items) o.cap) as (λ (c : Bool). (let p : Outstanding = if c then fits else over in p.slots) ≡ o.slots) [ true ↦ refl | false ↦ refl ]

pub ready-pushed : (s : Shown) (w : Waiting) (new : Boxes) → IsReady s → IsPushed s.table s.boxes w new → IsReady (record { table = s.table; boxes = new })
ready-pushed s w new r p = record {
  agents = p.agents ∙ r.agents;
  room = λ a slot h. (let go : (c : Bool) → slot < (let o : Outstanding = if c then with_waiting (box_at s.boxes a) w else box_at s.boxes a in o.slots) =
      elim [
        | true ↦ subst (λ n. slot < n) (sym (waiting-slots (box_at s.boxes a) w)) (r.room a slot h)
        | false ↦ r.room a slot h
      ] in subst (λ (o : Outstanding). slot < o.slots) (sym (p.boxes a)) (go (is_subscribed (hold_for s.table a w.slot))));
}

-- where fewer are subscribed, there is room still
pub ready-fewer : (s : Shown) (new : Table) → IsReady s → ((a slot : ℕ) → is_subscribed (hold_for new a slot) ≡ true → is_subscribed (hold_for s.table a slot) ≡ true) → IsReady (record { table = new; boxes = s.boxes })
ready-fewer s new r fewer = record { agents = r.agents; room = λ a slot h. r.room a slot (fewer a slot h) }

ended-hold : (keep : Bool) → is_subscribed (after_end keep) ≡ true → ⊥
ended-hold true h = cc
ended-hold false h = cc

pub ready-ended : (s : Shown) (a slot : ℕ) (keep : Bool) (new : Table) → IsReady s → IsEnded s.table a slot keep new → IsReady (record { table = new; boxes = s.boxes })
ready-ended s a slot keep new r e = ready-fewer s new r (λ b i h.
    let go : (c : Bool) → is_subscribed (if c then after_end keep else hold_for s.table b i) ≡ true → is_subscribed (hold_for s.table b i) ≡ true =
    elim [
      | true ↦ λ t. absurd (ended-hold keep t)
      | false ↦ λ t. t
    ] in
    go (is_cell b i a slot) (sym (ap is_subscribed (e.holds b i)) ∙ h))

pub ready-let_go : (s : Shown) (a slot : ℕ) (new : Table) → IsReady s → IsLetGo s.table a slot new → IsReady (record { table = new; boxes = s.boxes })
ready-let_go s a slot new r e = ready-fewer s new r (λ b i h.
    let go : (c : Bool) → is_subscribed (if c then Free else hold_for s.table b i) ≡ true → is_subscribed (hold_for s.table b i) ≡ true =
    elim [
      | true ↦ λ t. cc
      | false ↦ λ t. t
    ] in
    go (is_cell b i a slot && is_kept (hold_for s.table b i)) (sym (ap is_subscribed (e.holds b i)) ∙ h))

-- a watcher's tellings leave what agents have
pub told-holds : (old new : Table) (w : ℕ) (slots : List ℕ) → TellsAll old w slots new → (a i : ℕ) → hold_for new a i ≡ hold_for old a i
unfolding TellsAll
told-holds old new w [] e a i = ap (λ t. hold_for t a i) (sym e)
told-holds old new w (slot ∷ slots) (mid, one, rest) a i = told-holds mid new w slots rest a i ∙ one.holds a i

pub ready-told : (s : Shown) (w : ℕ) (slots : List ℕ) (new : Table) → IsReady s → TellsAll s.table w slots new → IsReady (record { table = new; boxes = s.boxes })
ready-told s w slots new r told = ready-fewer s new r (λ a i h. sym (ap is_subscribed (told-holds s.table new w slots told a i)) ∙ h)

-- who is subscribed was so before, or is the agent, at a slot for which there is room
pub subscribed-before : (old new : Table) (a : ℕ) (ks : List Key) → SubscribesAll old a ks new → (b i : ℕ) → is_subscribed (hold_for new b i) ≡ true → (is_subscribed (hold_for old b i) ≡ true) ⊎ ((b ≡ a) × (i < slots_in old))
unfolding SubscribesAll
subscribed-before old new a [] e b i h = inl (ap (λ t. is_subscribed (hold_for t b i)) e ∙ h)
subscribed-before old new a (k ∷ ks) (slot, mid, one, rest) b i h =
    elim (subscribed-before mid new a ks rest b i h) [
      | inr both ↦ inr (both.0, subst (λ n. i < n) one.slots both.1)
      | inl t ↦ (let go : (c d : Bool) → nat_eq b a ≡ c → nat_eq i slot ≡ d → is_subscribed (if c && d then Subscribed else hold_for old b i) ≡ true → (is_subscribed (hold_for old b i) ≡ true) ⊎ ((b ≡ a) × (i < slots_in old)) =
          elim [
            | true ↦ elim [
              | true ↦ λ e f u. inr (eqb-true b a e, subst (λ n. n < slots_in old) (sym (eqb-true i slot f)) (subst (λ n. slot < n) one.slots one.within))
              | false ↦ λ e f u. inl u
            ]
            | false ↦ λ d e f u. inl u
          ] in go (nat_eq b a) (nat_eq i slot) refl refl (sym (ap is_subscribed (one.holds b i)) ∙ t))
    ]

pub ready-grown : (s : Shown) (t : Table) (a : ℕ) → a < 128 → IsReady s → IsSame s.table t → IsReady (record { table = t; boxes = with_box s.boxes a (with_slots (box_at s.boxes a) (slots_in t)) })
ready-grown s t a below r same = record {
  agents = length-set s.boxes.list a _ ∙ r.agents;
  room = λ b i h. (let old = r.room b i (sym (ap is_subscribed (same.holds b i)) ∙ h) in
      let go : (c : Bool) → nat_eq b a ≡ c → i < (box_at (with_box s.boxes a (with_slots (box_at s.boxes a) (slots_in t))) b).slots =
      elim [
        | true ↦ λ e. grown b i (eqb-true b a e) old
        | false ↦ λ e. subst (λ (o : Outstanding). i < o.slots) (sym (box-other s.boxes a b _ e)) old
      ] in go (nat_eq b a) refl);
}
  where
    grown : (b i : ℕ) → b ≡ a → i < (box_at s.boxes b).slots → i < (box_at (with_box s.boxes a (with_slots (box_at s.boxes a) (slots_in t))) b).slots
    grown b i e old =
        let size = r.agents in
        let lt : a < length s.boxes.list = omega arith in
        let here : i < (box_at s.boxes a).slots = subst (λ n. i < (box_at s.boxes n).slots) e old in
        let more : i < max (box_at s.boxes a).slots (slots_in t) = omega arith in
        subst (λ n. i < (box_at (with_box s.boxes a (with_slots (box_at s.boxes a) (slots_in t))) n).slots) (sym e)
        (subst (λ (o : Outstanding). i < o.slots) (sym (box-same s.boxes a (with_slots (box_at s.boxes a) (slots_in t)) lt)) more)

pub ready-subscribed : (s : Shown) (new : Table) (a : ℕ) (ks : List Key) → IsReady s → slots_in s.table ≤ (box_at s.boxes a).slots → SubscribesAll s.table a ks new → IsReady (record { table = new; boxes = s.boxes })
ready-subscribed s new a ks r all subs = record {
  agents = r.agents;
  room = λ b i h. elim (subscribed-before s.table new a ks subs b i h) [
    | inl t ↦ r.room b i t
    | inr both ↦ (let lt = both.1 in let wide : i < (box_at s.boxes a).slots = omega arith in subst (λ n. i < (box_at s.boxes n).slots) (sym both.0) wide)
  ];
}

pub wide-grown : (s : Shown) (t : Table) (a : ℕ) → a < 128 → IsReady s → slots_in t ≤ (box_at (with_box s.boxes a (with_slots (box_at s.boxes a) (slots_in t))) a).slots
wide-grown s t a below r =
    let size = r.agents in
    let lt : a < length s.boxes.list = omega arith in
    let wide : slots_in t ≤ max (box_at s.boxes a).slots (slots_in t) = omega arith in
    subst (λ (o : Outstanding). slots_in t ≤ o.slots) (sym (box-same s.boxes a (with_slots (box_at s.boxes a) (slots_in t)) lt)) wide
