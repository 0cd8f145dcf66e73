-- Cells, orders, views and names after one of them is set.
use Rattle.std.proofs.Common.{◌≡◌, inl, inr, ℕ, ◌+◌, ◌<◌, Bool, true, false, ◌&&◌, if◌then◌else◌, nat_eq, Option, Some, None, Result, Ok, Err, OnOk, OnErr, List, ◌∷◌, length, slice_index, slice_index_or, slice_set, get_or-set_other, get_or-set_same, refl, ap, sym, ◌∙◌, arith, subst}
use Rattle.std.proofs.lemmas.List.{length-set, get_or_past, set-get_or}
use Rattle.qd_scheme.specs.declared.key.Key.{Key}
use Rattle.qd_pend.proofs.ListLaws.{equal}
use Rattle.qd_slots.specs.declared.holds.Hold.{Hold}
use Rattle.qd_slots.specs.declared.holds.Hold.TheVariants.{Free, Subscribed}
use Rattle.qd_slots.specs.declared.holds.Cell.{Cell}
use Rattle.std.specs.declared.alloc.AllocError.{AllocError}
use Rattle.qd_slots.specs.Names.{NameList, name_at, IsGrown}
use Rattle.qd_slots.proofs.IndexLaws.{grown-none}
use Rattle.qd_slots.specs.Holds.{no_cell, cell_at, hold_at, hold_in, limit_in, is_subscribed, with_hold, with_limit}
use Rattle.qd_slots.specs.Views.{Viewing, no_viewing, no_view, view_at, viewing_at, view_after, view_told, view_differs, queued, queued_again, with_told, EachSaw}
use Rattle.qd_slots.proofs.NameLaws.{below-or-not}
use Rattle.qd_table.proofs.TableLaws.{apart-numbers, some-none}

-- an item after one was set
pub at-set : {X : Type 0} (xs : List X) (i : ℕ) (x d : X) (j : ℕ) → i < length xs → slice_index_or (slice_set xs i x) j d ≡ (if nat_eq j i then x else slice_index_or xs j d)
at-set xs i x d j l =
    let go : (c : Bool) → nat_eq j i ≡ c → slice_index_or (slice_set xs i x) j d ≡ (if c then x else slice_index_or xs j d) =
    elim [
      | true ↦ λ e. ap (λ k. slice_index_or (slice_set xs i x) k d) (equal j i e) ∙ get_or-set_same xs i x d l
      | false ↦ λ e. get_or-set_other xs i j x d (apart-numbers j i e)
    ] in
    go (nat_eq j i) refl

-- also beyond the list, where what is set is what is read there
pub at-set_any : {X : Type 0} (xs : List X) (i : ℕ) (d : X) (j : ℕ) → slice_index_or (slice_set xs i d) j d ≡ (if nat_eq j i then d else slice_index_or xs j d)
at-set_any xs i d j = elim (below-or-not i (length xs)) [
  | inl l ↦ at-set xs i d d j l
  | inr m ↦ (let go : (c : Bool) → nat_eq j i ≡ c → slice_index_or (slice_set xs i d) j d ≡ (if c then d else slice_index_or xs j d) =
      elim [
        | true ↦ λ e. ap (λ k. slice_index_or (slice_set xs i d) k d) (equal j i e) ∙ get_or_past (slice_set xs i d) i d (let l = length-set xs i d in omega (arith, m, l))
        | false ↦ λ e. get_or-set_other xs i j d d (apart-numbers j i e)
      ] in
      go (nat_eq j i) refl)
]

-- a hold was set in a cell
pub hold-set : (cells cells' : List Cell) (cell : Cell) (slot a : ℕ) (hold : Hold) → slot < length cells → a < length (cell_at cells slot).holds → cells' ≡ slice_set cells slot cell → cell.holds ≡ slice_set (cell_at cells slot).holds a hold →
    (b i : ℕ) → hold_at cells' i b ≡ (if nat_eq b a && nat_eq i slot then hold else hold_at cells i b)
hold-set cells cells' cell slot a hold l w e f b i =
    ap (λ cs. hold_at cs i b) e ∙ ap (λ c. hold_in c b) (at-set cells slot cell no_cell i l)
    ∙ (let go : (c : Bool) → nat_eq i slot ≡ c → hold_in (if c then cell else cell_at cells i) b ≡ (if nat_eq b a && c then hold else hold_at cells i b) =
    elim [
      | true ↦ λ p. ap (λ hs. slice_index_or hs b Free) f ∙ at-set (cell_at cells slot).holds a hold Free b w ∙ own (nat_eq b a) p
      | false ↦ λ p. sym (other (nat_eq b a))
    ] in
    go (nat_eq i slot) refl)
  where
    own : (d : Bool) → nat_eq i slot ≡ true → (if d then hold else hold_at cells slot b) ≡ (if d && true then hold else hold_at cells i b)
    own true p = refl
    own false p = ap (λ j. hold_at cells j b) (sym (equal i slot p))

    other : (d : Bool) → (if d && false then hold else hold_at cells i b) ≡ hold_at cells i b
    other true = refl
    other false = refl

limit-equal : (one two : Cell) (a : ℕ) → is_subscribed (hold_in one a) ≡ is_subscribed (hold_in two a) → slice_index one.limits a ≡ slice_index two.limits a → limit_in one a ≡ limit_in two a
limit-equal one two a e f = ap (λ c. if c then Some (slice_index one.limits a) else None) e ∙ ap (λ n. if is_subscribed (hold_in two a) then Some n else None) f

-- a limit was set in a cell, with its subscription
pub limit-set : (cells cells' : List Cell) (slot a limit : ℕ) → slot < length cells → a < length (cell_at cells slot).holds → a < length (cell_at cells slot).limits → cells' ≡ slice_set cells slot (with_limit (with_hold (cell_at cells slot) a Subscribed) a limit) →
    (b i : ℕ) → limit_in (cell_at cells' i) b ≡ (if nat_eq b a && nat_eq i slot then Some limit else limit_in (cell_at cells i) b)
limit-set cells cells' slot a limit l w v e b i =
    ap (λ cs. limit_in (cell_at cs i) b) e ∙ ap (λ c. limit_in c b) (at-set cells slot (with_limit (with_hold (cell_at cells slot) a Subscribed) a limit) no_cell i l)
    ∙ (let go : (c d : Bool) → nat_eq i slot ≡ c → nat_eq b a ≡ d → limit_in (if c then with_limit (with_hold (cell_at cells slot) a Subscribed) a limit else cell_at cells i) b ≡ (if d && c then Some limit else limit_in (cell_at cells i) b) =
    elim [
      | true ↦ elim [
        | true ↦ λ p q. ap (λ c. if c then Some (slice_index (slice_set (cell_at cells slot).limits a limit) b) else None) (ap is_subscribed (at-set (cell_at cells slot).holds a Subscribed Free b w ∙ ap (λ d. if d then Subscribed else hold_in (cell_at cells slot) b) q))
            ∙ ap (λ n. let o : Option ℕ = Some n in o) (at-set (cell_at cells slot).limits a limit 0 b v ∙ ap (λ d. if d then limit else slice_index (cell_at cells slot).limits b) q)
        | false ↦ λ p q. limit-equal (with_limit (with_hold (cell_at cells slot) a Subscribed) a limit) (cell_at cells slot) b
            (ap is_subscribed (at-set (cell_at cells slot).holds a Subscribed Free b w ∙ ap (λ d. if d then Subscribed else hold_in (cell_at cells slot) b) q))
            (at-set (cell_at cells slot).limits a limit 0 b v ∙ ap (λ d. if d then limit else slice_index (cell_at cells slot).limits b) q)
            ∙ ap (λ j. limit_in (cell_at cells j) b) (sym (equal i slot p))
      ]
      | false ↦ elim [ true ↦ λ p q. refl | false ↦ λ p q. refl ]
    ] in
    go (nat_eq i slot) (nat_eq b a) refl refl)

-- a hold that is no subscription was set
pub limit-ended : (cells cells' : List Cell) (slot a : ℕ) (hold : Hold) → slot < length cells → a < length (cell_at cells slot).holds → is_subscribed hold ≡ false → cells' ≡ slice_set cells slot (with_hold (cell_at cells slot) a hold) →
    (b i : ℕ) → limit_in (cell_at cells' i) b ≡ (if nat_eq b a && nat_eq i slot then None else limit_in (cell_at cells i) b)
limit-ended cells cells' slot a hold l w none e b i =
    ap (λ cs. limit_in (cell_at cs i) b) e ∙ ap (λ c. limit_in c b) (at-set cells slot (with_hold (cell_at cells slot) a hold) no_cell i l)
    ∙ (let go : (c d : Bool) → nat_eq i slot ≡ c → nat_eq b a ≡ d → limit_in (if c then with_hold (cell_at cells slot) a hold else cell_at cells i) b ≡ (if d && c then None else limit_in (cell_at cells i) b) =
    elim [
      | true ↦ elim [
        | true ↦ λ p q. ap (λ c. if c then Some (slice_index (cell_at cells slot).limits b) else None) (ap is_subscribed (at-set (cell_at cells slot).holds a hold Free b w ∙ ap (λ d. if d then hold else hold_in (cell_at cells slot) b) q) ∙ none)
        | false ↦ λ p q. limit-equal (with_hold (cell_at cells slot) a hold) (cell_at cells slot) b
            (ap is_subscribed (at-set (cell_at cells slot).holds a hold Free b w ∙ ap (λ d. if d then hold else hold_in (cell_at cells slot) b) q)) refl
            ∙ ap (λ j. limit_in (cell_at cells j) b) (sym (equal i slot p))
      ]
      | false ↦ elim [ true ↦ λ p q. refl | false ↦ λ p q. refl ]
    ] in
    go (nat_eq i slot) (nat_eq b a) refl refl)

-- cells keep their sizes
pub sizes-set : (f : Cell → ℕ) (cells cells' : List Cell) (cell : Cell) (slot n : ℕ) → slot < length cells → cells' ≡ slice_set cells slot cell → f cell ≡ f (cell_at cells slot) → ((i : ℕ) → i < length cells → f (cell_at cells i) ≡ n) → (i : ℕ) → i < length cells' → f (cell_at cells' i) ≡ n
sizes-set f cells cells' cell slot n l e g h i w =
    let len : length cells' ≡ length cells = ap length e ∙ length-set cells slot cell in
    ap (λ cs. f (cell_at cs i)) e ∙ ap f (at-set cells slot cell no_cell i l)
    ∙ (let go : (c : Bool) → nat_eq i slot ≡ c → f (if c then cell else cell_at cells i) ≡ n =
    elim [ true ↦ λ p. g ∙ h slot l | false ↦ λ p. h i (omega (arith, w, len)) ] in
    go (nat_eq i slot) refl)

-- one watcher's views after each saw a total
pub view-saw : (old new : List Viewing) (slot : ℕ) (total : Option ℕ) → EachSaw slot total old new → length old ≡ 8 → ((w : ℕ) → w < 8 → slot < length (viewing_at old w).views) → (w i : ℕ) →
    view_at (viewing_at new w).views i ≡ (if nat_eq i slot then view_after (view_at (viewing_at old w).views slot) total else view_at (viewing_at old w).views i)
view-saw old new slot total s len room w i = elim (below-or-not w 8) [
  | inl l ↦ ap (λ v. view_at v.views i) (s.saw w l) ∙ at-set (viewing_at old w).views slot (view_after (view_at (viewing_at old w).views slot) total) no_view i (room w l)
  | inr m ↦ ap (λ v. view_at v.views i) (get_or_past new w no_viewing (let c = s.count in omega (arith, c, len, m)))
      ∙ sym (ap (λ v. if nat_eq i slot then view_after (view_at v.views slot) total else view_at v.views i) (get_or_past old w no_viewing (omega (arith, len, m))) ∙ nothing (nat_eq i slot))
]
  where
    nothing : (c : Bool) → (if c then view_after no_view total else no_view) ≡ no_view
    nothing true = refl
    nothing false = refl

pub queue-saw : (old new : List Viewing) (slot : ℕ) (total : Option ℕ) → EachSaw slot total old new → (w : ℕ) → w < 8 → (viewing_at new w).queue.list ≡ queued (viewing_at old w).queue.list slot (view_differs (view_after (view_at (viewing_at old w).views slot) total) total)
queue-saw old new slot total s w l = ap (λ v. v.queue.list) (s.saw w l)

-- and after one was told
pub view-told : (old new : List Viewing) (u slot : ℕ) (told total : Option ℕ) → new ≡ slice_set old u (with_told (viewing_at old u) slot told total) → u < length old → slot < length (viewing_at old u).views → (w i : ℕ) →
    view_at (viewing_at new w).views i ≡ (if nat_eq w u && nat_eq i slot then view_told told else view_at (viewing_at old w).views i)
view-told old new u slot told total e l room w i =
    ap (λ vs. view_at (viewing_at vs w).views i) e ∙ ap (λ v. view_at v.views i) (at-set old u (with_told (viewing_at old u) slot told total) no_viewing w l)
    ∙ (let go : (c : Bool) → nat_eq w u ≡ c → view_at (if c then with_told (viewing_at old u) slot told total else viewing_at old w).views i ≡ (if c && nat_eq i slot then view_told told else view_at (viewing_at old w).views i) =
    elim [
      | true ↦ λ p. at-set (viewing_at old u).views slot (view_told told) no_view i room ∙ ap (λ x. if nat_eq i slot then view_told told else view_at (viewing_at old x).views i) (sym (equal w u p))
      | false ↦ λ p. refl
    ] in
    go (nat_eq w u) refl)

pub queue-told : (old new : List Viewing) (u slot : ℕ) (told total : Option ℕ) → new ≡ slice_set old u (with_told (viewing_at old u) slot told total) → u < length old → (w : ℕ) →
    (viewing_at new w).queue.list ≡ (if nat_eq w u then queued_again (viewing_at old w).queue.list slot (view_differs (view_told told) total) else (viewing_at old w).queue.list)
queue-told old new u slot told total e l w =
    ap (λ vs. (viewing_at vs w).queue.list) e ∙ ap (λ v. v.queue.list) (at-set old u (with_told (viewing_at old u) slot told total) no_viewing w l)
    ∙ (let go : (c : Bool) → nat_eq w u ≡ c → (if c then with_told (viewing_at old u) slot told total else viewing_at old w).queue.list ≡ (if c then queued_again (viewing_at old w).queue.list slot (view_differs (view_told told) total) else (viewing_at old w).queue.list) =
    elim [
      | true ↦ λ p. ap (λ x. queued_again (viewing_at old x).queue.list slot (view_differs (view_told told) total)) (sym (equal w u p))
      | false ↦ λ p. refl
    ] in
    go (nat_eq w u) refl)

pub name-again : (names : List (Option Key)) (i : ℕ) (o : Option Key) → name_at names i ≡ o → slice_set names i o ≡ names
name-again names i o e = ap (slice_set names i) (sym e) ∙ set-get_or names i None

pub name-within : (names : List (Option Key)) (i : ℕ) (k : Key) → name_at names i ≡ Some k → i < length names
name-within names i k h = elim (below-or-not i (length names)) [
  | inl l ↦ l
  | inr m ↦ absurd (some-none k (sym h ∙ get_or_past names i None m))
]

-- free slots were added, or all is as before
pub grown-either : (r : Result (Unit {0}) AllocError) (old new : NameList) → OnOk r (IsGrown old.names new.names) → OnErr r (new ≡ old) → IsGrown old.names new.names
grown-either (Ok x) old new g e = g
grown-either (Err x) old new g e = subst (λ (n : NameList). IsGrown old.names n.names) (sym e) (grown-none old.names)
