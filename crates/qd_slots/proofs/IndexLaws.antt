-- The map of slots, the names and the free slots fit together after each call.
use Rattle.std.proofs.Common.{◌≡◌, ◌≢◌, inl, inr, ℕ, ◌+◌, ◌-◌, ◌^◌, ◌<◌, ◌≤◌, Bool, true, false, nat_eq, ◌||◌, if◌then◌else◌, Option, Some, None, List, [], ◌∷◌, ◌++◌, length, max, slice_set, append_assoc, refl, ap, sym, ◌∙◌, arith, subst}
use Rattle.std.proofs.lemmas.List.{length-set, get_or_past, length-append, append-nil}
use Rattle.qd_scheme.specs.declared.seeded.SeededState.{SeededState}
use Rattle.indexmap.specs.IndexMap.{IndexMap, get, spare}
use Rattle.std.specs.Map.{lookup}
use Rattle.qd_scheme.specs.declared.key.Key.{Key}
use Rattle.qd_scheme.specs.Keys.{key_eq}
use Rattle.qd_scheme.proofs.KeyLaws.{key_eq-true, key_eq-comm}
use Rattle.qd_pend.specs.Slots.{SlotList, has, first_in, rest_of, EachOnce}
use Rattle.qd_pend.proofs.ListLaws.{same, equal, has-here, has-later, has-push, has-apart, EachOnce-push}
use Rattle.qd_slots.specs.Names.{is_name, slot_from, slot_in, name_at, named_in, nones, IsFound, IsVacant, IsGrown, IsReady}
use Rattle.qd_slots.specs.Indexed.{IsIndexed}
use Rattle.qd_slots.proofs.NameLaws.{at-same, at-other, slot_in-new, slot_in-other, slot_in-freed, slot_in-grown, found-new, found-freed, found-grown, below-or-not, name_at-grown, nones-more, named-more, named-less, named_in-grown}

abbrev Slots : Type 0
Slots = IndexMap Key ℕ SeededState

indexed-none : (slots : Slots) → slots.entries ≡ [] → (let f : SlotList = record { list = []; slots = 0 } in IsIndexed slots [] f 0 0)
unfolding EachOnce slot_from
indexed-none slots e = record {
  looked = λ k. ap (lookup (key_eq k)) e;
  found = λ i k h. let z : None ≡ Some k = h in cc;
  vacant = λ i h. let z : false ≡ true = h in cc;
  once = tt;
  numbers = omega arith;
  few = omega arith;
  counted = refl;
  all = refl;
  room_free = omega arith;
  room_spare = omega arith;
}

pub indexed-new : (slots : Slots) (names : List (Option Key)) (free : SlotList) → slots.entries ≡ [] → names ≡ [] → free ≡ record { list = []; slots = 0 } → IsIndexed slots names free 0 0
indexed-new slots names free e n f = subst (λ (ns : List (Option Key)). IsIndexed slots ns free 0 0) (sym n) (subst (λ (q : SlotList). IsIndexed slots [] q 0 0) (sym f) (indexed-none slots e))

-- the first free slot
pub first-free : (list : List ℕ) (slot : ℕ) → Some slot ≡ first_in list → has list slot ≡ true
first-free [] slot h = cc
first-free (s ∷ rest) slot h = let e : slot ≡ s = cc in subst (λ (x : ℕ). has (s ∷ rest) x ≡ true) (sym e) (has-here s rest)

first-alone : (list : List ℕ) (slot : ℕ) → EachOnce list → Some slot ≡ first_in list → has (rest_of list) slot ≡ false
unfolding EachOnce
first-alone [] slot once h = cc
first-alone (s ∷ rest) slot once h = let e : slot ≡ s = cc in subst (λ (x : ℕ). has rest x ≡ false) (sym e) once.0

has-of_rest : (list : List ℕ) (i : ℕ) → has (rest_of list) i ≡ true → has list i ≡ true
has-of_rest [] i h = h
has-of_rest (s ∷ rest) i h = has-later s rest i h

once-rest : (list : List ℕ) → EachOnce list → EachOnce (rest_of list)
unfolding EachOnce
once-rest [] h = h
once-rest (s ∷ rest) h = h.1

length-rest : (list : List ℕ) → length (rest_of list) ≡ length list - 1
length-rest [] = refl
length-rest (s ∷ rest) = omega arith

no-first : (list : List ℕ) → None ≡ first_in list → length list ≡ 0
no-first [] h = refl
no-first (s ∷ rest) h = cc

-- where there is room, a slot is free
pub first-is : (slots : Slots) (names : List (Option Key)) (free : SlotList) (count room : ℕ) → IsIndexed slots names free count room → 0 < room → None ≡ first_in free.list → ⊥
first-is slots names free count room x r h = let e = no-first free.list h in let a = x.counted in let b = x.room_free in omega arith

pub free-within : (slots : Slots) (names : List (Option Key)) (free : SlotList) (count room slot : ℕ) → IsIndexed slots names free count room → Some slot ≡ first_in free.list → slot < length names
free-within slots names free count room slot x h = (x.vacant slot (first-free free.list slot h)).0

pub free-vacant : (slots : Slots) (names : List (Option Key)) (free : SlotList) (count room slot : ℕ) → IsIndexed slots names free count room → Some slot ≡ first_in free.list → name_at names slot ≡ None
free-vacant slots names free count room slot x h = (x.vacant slot (first-free free.list slot h)).1

pub indexed-name : (slots slots' : Slots) (names names' : List (Option Key)) (free free' : SlotList) (count room slot : ℕ) (k : Key) → IsIndexed slots names free count room → slot_in names k ≡ None → 0 < room →
    Some slot ≡ first_in free.list → (let f : SlotList = record { list = rest_of free.list; slots = free.slots } in free' ≡ f) → names' ≡ slice_set names slot (Some k) →
    ((q : Key) → get key_eq slots' q ≡ (if key_eq k q then Some slot else get key_eq slots q)) → spare slots ≤ spare slots' + 1 → IsIndexed slots' names' free' (count - 1) (room - 1)
indexed-name slots slots' names names' free free' count room slot k x absent r first f n looked sp =
    let within = free-within slots names free count room slot x first in
    let vacant = free-vacant slots names free count room slot x first in
    let list : free'.list ≡ rest_of free.list = ap (λ q. q.list) f in
    let slots_same : free'.slots ≡ free.slots = ap (λ q. q.slots) f in
    let len : length names' ≡ length names = ap length n ∙ length-set names slot (Some k) in
    let left : length free'.list ≡ length free.list - 1 = ap length list ∙ length-rest free.list in
    let named = ap (λ ns. length (named_in ns)) n ∙ named-more names slot k within vacant in
    let a = x.counted in
    let all = x.all in
    let b = x.room_free in
    let c = x.room_spare in
    let d = x.numbers in
    let e = x.few in
    record {
      looked = λ q. looked q ∙ found q ∙ ap (λ ns. slot_in ns q) (sym n);
      found = subst (λ (ns : List (Option Key)). IsFound ns) (sym n) (found-new names k slot x.found absent within vacant);
      vacant = λ i h.
          let was = has-of_rest free.list i (ap (λ l. has l i) (sym list) ∙ h) in
          let other : i ≢ slot = has-apart (rest_of free.list) i slot (ap (λ l. has l i) (sym list) ∙ h) (first-alone free.list slot x.once first) in
          let v = x.vacant i was in
          let lt : i < length names' = let z = v.0 in omega arith in
          (lt, ap (λ ns. name_at ns i) n ∙ at-other names slot i (Some k) other ∙ v.1);
      once = subst (λ (l : List ℕ). EachOnce l) (sym list) (once-rest free.list x.once);
      numbers = omega arith;
      few = omega arith;
      counted = omega arith;
      all = omega arith;
      room_free = omega arith;
      room_spare = omega arith;
    }
  where
    found : (q : Key) → (if key_eq k q then Some slot else get key_eq slots q) ≡ slot_in (slice_set names slot (Some k)) q
    found q =
        let go : (b : Bool) → key_eq k q ≡ b → (if key_eq k q then Some slot else get key_eq slots q) ≡ slot_in (slice_set names slot (Some k)) q =
        elim [
          | true ↦ λ e. rw e (sym (subst (λ (y : Key). slot_in (slice_set names slot (Some k)) y ≡ Some slot) (key_eq-true k q e) (slot_in-new names k slot absent (free-within slots names free count room slot x first))))
          | false ↦ λ e. rw e (x.looked q ∙ sym (slot_in-other names slot (Some k) q (ap (is_name q) (free-vacant slots names free count room slot x first)) (key_eq-comm q k ∙ e)))
        ] in
        go (key_eq k q) refl

named-within : (names : List (Option Key)) (slot : ℕ) (k : Key) → name_at names slot ≡ Some k → slot < length names
named-within names slot k h = elim (below-or-not slot (length names)) [ inl w ↦ w | inr w ↦ absurd (let z : None ≡ Some k = sym (get_or_past names slot None w) ∙ h in cc) ]

pub freed-within : (slots : Slots) (names : List (Option Key)) (free : SlotList) (count room slot : ℕ) (k : Key) → IsIndexed slots names free count room → name_at names slot ≡ Some k → slot < free.slots
freed-within slots names free count room slot k x at = let w = named-within names slot k at in let n = x.numbers in omega arith

-- one more free slot can be counted
pub freed-counted : (slots : Slots) (names : List (Option Key)) (free : SlotList) (count room slot : ℕ) (k : Key) → IsIndexed slots names free count room → name_at names slot ≡ Some k → count + 1 < 2 ^ 32
freed-counted slots names free count room slot k x at =
    let less = named-less names slot k (named-within names slot k at) at in
    let all = x.all in
    let few = x.few in
    omega arith

pub freed-absent : (slots : Slots) (names : List (Option Key)) (free : SlotList) (count room slot : ℕ) (k : Key) → IsIndexed slots names free count room → name_at names slot ≡ Some k → has free.list slot ≡ false
freed-absent slots names free count room slot k x at =
    let go : (b : Bool) → has free.list slot ≡ b → b ≡ false =
    elim [ true ↦ λ h. absurd (let z : None ≡ Some k = sym (x.vacant slot h).1 ∙ at in cc) | false ↦ λ h. refl ] in
    go (has free.list slot) refl

pub indexed-free : (slots slots' : Slots) (names names' : List (Option Key)) (free free' : SlotList) (count count' room slot : ℕ) (k : Key) → IsIndexed slots names free count room → name_at names slot ≡ Some k →
    (let f : SlotList = record { list = free.list ++ slot ∷ []; slots = free.slots } in free' ≡ f) → names' ≡ slice_set names slot None →
    ((q : Key) → get key_eq slots' q ≡ (if key_eq k q then None else get key_eq slots q)) → spare slots ≤ spare slots' → count' ≡ count + 1 → IsIndexed slots' names' free' count' room
indexed-free slots slots' names names' free free' count count' room slot k x at f n looked sp more =
    let within = named-within names slot k at in
    let absent = freed-absent slots names free count room slot k x at in
    let list : free'.list ≡ free.list ++ slot ∷ [] = ap (λ q. q.list) f in
    let slots_same : free'.slots ≡ free.slots = ap (λ q. q.slots) f in
    let len : length names' ≡ length names = ap length n ∙ length-set names slot None in
    let left : length free'.list ≡ length free.list + 1 = ap length list ∙ length-append free.list (slot ∷ []) in
    let named = ap (λ ns. length (named_in ns)) n in
    let less = named-less names slot k within at in
    let a = x.counted in
    let all = x.all in
    let b = x.room_free in
    let c = x.room_spare in
    let d = x.numbers in
    let e = x.few in
    record {
      looked = λ q. looked q ∙ found q ∙ ap (λ ns. slot_in ns q) (sym n);
      found = subst (λ (ns : List (Option Key)). IsFound ns) (sym n) (found-freed names k slot x.found at within);
      vacant = λ i h.
          let go : (b : Bool) → nat_eq i slot ≡ b → (i < length names') × (name_at names' i ≡ None) =
          elim [
            | true ↦ λ y. let here = equal i slot y in
                let lt : i < length names' = omega arith in
                (lt, ap (λ ns. name_at ns i) n ∙ ap (name_at (slice_set names slot None)) here ∙ at-same names slot None within)
            | false ↦ λ y.
                let other : i ≢ slot = λ w. (let z : true ≡ false = sym (same i) ∙ ap (nat_eq i) w ∙ y in cc) in
                let was : has free.list i ≡ true = or-false (has free.list i) (nat_eq i slot) (sym (has-push free.list slot i) ∙ ap (λ l. has l i) (sym list) ∙ h) y in
                let v = x.vacant i was in
                let lt : i < length names' = let z = v.0 in omega arith in
                (lt, ap (λ ns. name_at ns i) n ∙ at-other names slot i None other ∙ v.1)
          ] in
          go (nat_eq i slot) refl;
      once = subst (λ (l : List ℕ). EachOnce l) (sym list) (EachOnce-push free.list slot x.once absent);
      numbers = omega arith;
      few = omega arith;
      counted = omega arith;
      all = omega arith;
      room_free = omega arith;
      room_spare = omega arith;
    }
  where
    or-false : (b c : Bool) → (b || c) ≡ true → c ≡ false → b ≡ true
    or-false true c h z = refl
    or-false false c h z = let w : true ≡ false = sym h ∙ z in cc

    found : (q : Key) → (if key_eq k q then None else get key_eq slots q) ≡ slot_in (slice_set names slot None) q
    found q =
        let go : (b : Bool) → key_eq k q ≡ b → (if key_eq k q then None else get key_eq slots q) ≡ slot_in (slice_set names slot None) q =
        elim [
          | true ↦ λ e. rw e (sym (subst (λ (y : Key). slot_in (slice_set names slot None) y ≡ None) (key_eq-true k q e) (slot_in-freed names k slot x.found at (named-within names slot k at))))
          | false ↦ λ e. rw e (x.looked q ∙ sym (slot_in-other names slot None q (ap (is_name q) at ∙ key_eq-comm q k ∙ e) refl))
        ] in
        go (key_eq k q) refl

-- the map has more room
pub indexed-roomy : (slots slots' : Slots) (names : List (Option Key)) (free free' : SlotList) (count room : ℕ) → IsIndexed slots names free count room → slots'.entries ≡ slots.entries → spare slots ≤ spare slots' → free'.list ≡ free.list → free.slots ≤ free'.slots → IsIndexed slots' names free' count room
indexed-roomy slots slots' names free free' count room x e sp list more =
    let d = x.numbers in
    let c = x.room_spare in
    let a = x.counted in
    let len : length free'.list ≡ length free.list = ap length list in
    record {
      looked = λ q. ap (lookup (key_eq q)) e ∙ x.looked q;
      found = x.found;
      vacant = subst (λ (l : List ℕ). IsVacant names l) (sym list) x.vacant;
      once = subst (λ (l : List ℕ). EachOnce l) (sym list) x.once;
      numbers = omega arith;
      few = x.few;
      counted = omega arith;
      all = x.all;
      room_free = x.room_free;
      room_spare = omega arith;
    }

-- free slots were added
pub indexed-grown : (slots : Slots) (names names' : List (Option Key)) (free free' : SlotList) (count count' room room' n : ℕ) → IsIndexed slots names free count room → names' ≡ names ++ nones n → IsVacant names' free'.list → EachOnce free'.list →
    length names' ≤ free'.slots → length names' < 2 ^ 32 → count' ≡ length free'.list → length names' + count ≡ length names + count' → room' ≤ count' → room' ≤ spare slots → IsIndexed slots names' free' count' room'
indexed-grown slots names names' free free' count count' room room' n x e vacant once numbers few counted more room_free room_spare = record {
  looked = λ q. x.looked q ∙ sym (slot_in-grown names n q) ∙ ap (λ ns. slot_in ns q) (sym e);
  found = subst (λ (ns : List (Option Key)). IsFound ns) (sym e) (found-grown names n x.found);
  vacant = vacant;
  once = once;
  numbers = numbers;
  few = few;
  counted = counted;
  all = let a = x.all in let named = ap (λ ns. length (named_in ns)) e ∙ ap length (named_in-grown names n) in omega arith;
  room_free = room_free;
  room_spare = room_spare;
}

-- no slot was added
pub grown-none : (names : List (Option Key)) → IsGrown names names
unfolding nones
grown-none names = (0, sym (append-nil names))

pub grown-same : (old new : List (Option Key)) (n m : ℕ) → new ≡ old ++ nones n → IsGrown old new
grown-same old new n m e = (n, e)

pub ready-none : (names : List (Option Key)) (free : SlotList) (count more : ℕ) → count ≡ length free.list → IsVacant names free.list → EachOnce free.list → length names ≤ free.slots → length names < 2 ^ 32 → more ≤ count → IsReady names names free count more
ready-none names free count more c v o n f m = record { grown = grown-none names; added = omega arith; vacant = v; once = o; numbers = n; few = f; counted = omega arith }

-- a free slot at the end
pub vacant-more : (names names' : List (Option Key)) (free free' : SlotList) (slot : ℕ) → slot ≡ length names → IsVacant names free.list → names' ≡ names ++ None ∷ [] →
    (let f : SlotList = record { list = free.list ++ slot ∷ []; slots = free.slots } in free' ≡ f) → IsVacant names' free'.list
unfolding nones
vacant-more names names' free free' slot l v n f' i h =
    let f : free' ≡ (let x : SlotList = record { list = free.list ++ length names ∷ []; slots = free.slots } in x) = f' ∙ ap (λ m. let x : SlotList = record { list = free.list ++ m ∷ []; slots = free.slots } in x) l in
    let len : length names' ≡ length names + 1 = ap length n ∙ length-append names (None ∷ []) in
    let go : (b : Bool) → nat_eq i (length names) ≡ b → (i < length names') × (name_at names' i ≡ None) =
    elim [
      | true ↦ λ e. let here = equal i (length names) e in
          let lt : i < length names' = omega arith in
          (lt, ap (λ ns. name_at ns i) n ∙ name_at-grown names 1 i ∙ get_or_past names i None (omega arith))
      | false ↦ λ e.
          let was : has free.list i ≡ true = or-false (has free.list i) (nat_eq i (length names)) (sym (has-push free.list (length names) i) ∙ ap (λ q. has q.list i) (sym f) ∙ h) e in
          let w = v i was in
          let lt : i < length names' = let z = w.0 in omega arith in
          (lt, ap (λ ns. name_at ns i) n ∙ name_at-grown names 1 i ∙ w.1)
    ] in
    go (nat_eq i (length names)) refl
  where
    or-false : (b c : Bool) → (b || c) ≡ true → c ≡ false → b ≡ true
    or-false true c h z = refl
    or-false false c h z = let w : true ≡ false = sym h ∙ z in cc

pub vacant-absent : (names : List (Option Key)) (list : List ℕ) (i : ℕ) → IsVacant names list → i ≡ length names → has list i ≡ false
vacant-absent names list i v e =
    let go : (b : Bool) → has list i ≡ b → b ≡ false =
    elim [ true ↦ λ h. absurd (let z = (v i h).0 in omega arith) | false ↦ λ h. refl ] in
    go (has list i) refl

pub none-yet : (names : List (Option Key)) (from : ℕ) → names ≡ names ++ nones (from - from)
unfolding nones
none-yet names from = let e : from - from ≡ 0 = omega arith in rw e (sym (append-nil names))

pub one-more : (old names names' : List (Option Key)) (from slot : ℕ) → names ≡ old ++ nones (slot - from) → names' ≡ names ++ None ∷ [] → from ≤ slot → names' ≡ old ++ nones (slot + 1 - from)
one-more old names names' from slot e n le =
    let count : slot + 1 - from ≡ (slot - from) + 1 = omega arith in
    n ∙ ap (λ ns. ns ++ None ∷ []) e ∙ append_assoc old (nones (slot - from)) (None ∷ []) ∙ ap (λ ns. old ++ ns) (sym (nones-more (slot - from)) ∙ ap nones (sym count))

-- after a reservation
pub indexed-reserved : (slots slots' : Slots) (names names' : List (Option Key)) (free free' : SlotList) (count count' room more : ℕ) → IsIndexed slots names free count room → slots'.entries ≡ slots.entries → spare slots ≤ spare slots' → more ≤ spare slots' →
    IsReady names names' free' count more → length free.list ≤ length free'.list → free.slots ≤ free'.slots → count' ≡ max count more → IsIndexed slots' names' free' count' more
indexed-reserved slots slots' names names' free free' count count' room more x e sp sp' r kept num c =
    let a = x.counted in
    let b = r.counted in
    let d = r.added in
    indexed-grown slots' names names' free free' count count' room more (r.grown.0) (indexed-roomy slots slots' names free free count room x e sp refl (omega arith)) r.grown.1 r.vacant r.once r.numbers r.few (omega arith) (omega arith) (omega arith) sp'
