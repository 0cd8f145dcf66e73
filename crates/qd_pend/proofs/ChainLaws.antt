-- A vector of links spells a list before and after each change.
use Rattle.std.proofs.Common.{◌≡◌, ◌≢◌, ◌⊎◌, inl, inr, ℕ, zero, suc, ◌+◌, ◌-◌, ◌^◌, ◌<◌, ◌≤◌, Bool, true, false, ◌||◌, not, nat_eq, nat_lt, List, [], ◌∷◌, ◌++◌, length, slice_index, slice_set, get_or-set_other, get_or-set_same, refl, ap, sym, ◌∙◌, arith, subst}
use Rattle.std.proofs.lemmas.List.{length-map, length-set, get_or_append_left, get_or-append_right}
use Rattle.std.proofs.lemmas.Bool.Decides.{nat_tests}
use Rattle.qd_pend.specs.declared.links.Link.{Link}
use Rattle.qd_pend.specs.Slots.{SlotList, has, without, EachOnce, first_in, next_in, list_is_empty}
use Rattle.qd_pend.specs.Linked.{Linked, listed, numbers, nexts, prevs, slot_of, IsChain}
use Rattle.qd_pend.proofs.ListLaws.{same, equal, unequal, has-apart, has-less, has-without, has-push, EachOnce-push, EachOnce-without, length-≤}
use Rattle.qd_pend.proofs.LinkLaws.{Off, Pushed, Cut, Linked-agree, Linked-push, Linked-cut, prev-root_cases, prev_cases, next_cases, next-apart, prev-apart, walk-linked, slot_of-next, slot_of-next_in}

-- the place after a place, and before it
abbrev pub next_at : List Link → ℕ → ℕ
next_at links = slice_index (nexts links)

abbrev pub prev_at : List Link → ℕ → ℕ
prev_at links = slice_index (prevs links)

at-other : (xs : List ℕ) (i j v : ℕ) → j ≢ i → slice_index (slice_set xs i v) j ≡ slice_index xs j
at-other xs i j v h = get_or-set_other xs i j v 0 h

at-same : (xs : List ℕ) (i v : ℕ) → i < length xs → slice_index (slice_set xs i v) i ≡ v
at-same xs i v h = get_or-set_same xs i v 0 h

at-twice_other : (xs : List ℕ) (i j v w p : ℕ) → p ≢ i → p ≢ j → slice_index (slice_set (slice_set xs i v) j w) p ≡ slice_index xs p
at-twice_other xs i j v w p h k = at-other (slice_set xs i v) j p w k ∙ at-other xs i p v h

at-twice_first : (xs : List ℕ) (i j v w : ℕ) → i ≢ j → i < length xs → slice_index (slice_set (slice_set xs i v) j w) i ≡ v
at-twice_first xs i j v w h k = at-other (slice_set xs i v) j i w h ∙ at-same xs i v k

at-twice_second : (xs : List ℕ) (i j v w : ℕ) → j < length xs → slice_index (slice_set (slice_set xs i v) j w) j ≡ w
at-twice_second xs i j v w k = at-same (slice_set xs i v) j w (subst (λ (n : ℕ). j < n) (sym (length-set xs i v)) k)

length-nexts : (links : List Link) → length (nexts links) ≡ length links
length-nexts links = length-map links (λ l. l.next)

length-prevs : (links : List Link) → length (prevs links) ≡ length links
length-prevs links = length-map links (λ l. l.prev)

off-root : (list : List ℕ) → Off 0 list
off-root list s h e = omega arith

-- the walk over a chain finds its list
pub listed-chain : (links : List Link) (list : List ℕ) → IsChain links list → listed links ≡ list
unfolding listed
listed-chain links list c =
    let few : length list ≤ length links = length-≤ list (length links) c.once (λ s h. let w = c.within s h in omega arith) in
    walk-linked (length links) (next_at links) (prev_at links) 0 list c.linked few

-- the place before the root is a place
pub last-within : (links : List Link) (list : List ℕ) → IsChain links list → prev_at links 0 < length links
last-within links list c = elim (prev-root_cases (next_at links) (prev_at links) 0 list c.linked) [
  | inl e ↦ let z = c.rooted in omega arith
  | inr r ↦ let z = c.within r.0 r.1 in let e = r.2 in omega arith
]

-- the neighbours of a listed slot are places
pub prev-within : (links : List Link) (list : List ℕ) (s : ℕ) → IsChain links list → has list s ≡ true → prev_at links (suc s) < length links
prev-within links list s c h = elim (prev_cases (next_at links) (prev_at links) 0 list s c.linked h) [
  | inl e ↦ let z = c.rooted in omega arith
  | inr r ↦ let z = c.within r.0 r.1 in let e = r.2 in omega arith
]

pub next-within : (links : List Link) (list : List ℕ) (s : ℕ) → IsChain links list → has list s ≡ true → next_at links (suc s) < length links
next-within links list s c h = elim (next_cases (next_at links) (prev_at links) 0 list s c.linked h) [
  | inl e ↦ let z = c.rooted in omega arith
  | inr r ↦ let z = c.within r.0 r.1 in let e = r.2 in omega arith
]

-- a slot is listed where, and only where, it is not its own next
pub has-links : (links : List Link) (list : List ℕ) (s : ℕ) → IsChain links list → suc s < length links → not (nat_eq (next_at links (suc s)) (suc s)) ≡ has list s
has-links links list s c w =
    let go : (b : Bool) → has list s ≡ b → not (nat_eq (next_at links (suc s)) (suc s)) ≡ b =
    elim [
      | true ↦ λ h. ap not (unequal (next_at links (suc s)) (suc s) (next-apart (next_at links) (prev_at links) 0 list s c.linked c.once h))
      | false ↦ λ h. ap (λ p. not (nat_eq p (suc s))) (c.free s w h) ∙ ap not (same (suc s))
    ] in
    go (has list s) refl

pub has-beyond : (links : List Link) (list : List ℕ) (s : ℕ) → IsChain links list → length links ≤ suc s → has list s ≡ false
has-beyond links list s c w =
    let go : (b : Bool) → has list s ≡ b → b ≡ false =
    elim [ true ↦ λ h. absurd (let z = c.within s h in omega arith) | false ↦ λ h. refl ] in
    go (has list s) refl

-- the place before the root is not that of a slot that is not listed
last-apart : (links : List Link) (list : List ℕ) (s : ℕ) → IsChain links list → has list s ≡ false → prev_at links 0 ≢ suc s
last-apart links list s c h e = elim (prev-root_cases (next_at links) (prev_at links) 0 list c.linked) [
  | inl z ↦ omega arith
  | inr r ↦ has-apart list r.0 s r.1 h (let z = r.2 in omega arith)
]

or-left : (a b : Bool) → (a || b) ≡ false → a ≡ false
or-left true b h = cc
or-left false b h = refl

or-right : (a b : Bool) → (a || b) ≡ false → b ≡ false
or-right true b h = cc
or-right false b h = h

either : (a b : Bool) → (a || b) ≡ true → (a ≡ true) ⊎ (b ≡ true)
either true b h = inl refl
either false b h = inr h

-- two joins put a slot at the end
pub chain-push : (old new : List Link) (list : List ℕ) (s : ℕ) → IsChain old list → suc s < length old → has list s ≡ false → length new ≡ length old →
    nexts new ≡ slice_set (slice_set (nexts old) (prev_at old 0) (suc s)) (suc s) 0 → prevs new ≡ slice_set (slice_set (prevs old) (suc s) (prev_at old 0)) 0 (suc s) → IsChain new (list ++ s ∷ [])
chain-push old new list s c w absent len n p =
    let last = last-within old list c in
    let apart = last-apart old list s c absent in
    let ln = length-nexts old in
    let lp = length-prevs old in
    let pushed : Pushed (next_at old) (prev_at old) (next_at new) (prev_at new) s = record {
      from_last = ap (λ xs. slice_index xs (prev_at old 0)) n ∙ at-twice_first (nexts old) (prev_at old 0) (suc s) (suc s) 0 apart (omega arith);
      to_root = ap (λ xs. slice_index xs (suc s)) n ∙ at-twice_second (nexts old) (prev_at old 0) (suc s) (suc s) 0 (omega arith);
      next_else = λ q x y. ap (λ xs. slice_index xs q) n ∙ at-twice_other (nexts old) (prev_at old 0) (suc s) (suc s) 0 q x y;
      to_last = ap (λ xs. slice_index xs (suc s)) p ∙ at-twice_first (prevs old) (suc s) 0 (prev_at old 0) (suc s) (λ e. omega arith) (omega arith);
      from_root = ap (λ xs. slice_index xs 0) p ∙ at-twice_second (prevs old) (suc s) 0 (prev_at old 0) (suc s) (omega arith);
      prev_else = λ q x y. ap (λ xs. slice_index xs q) p ∙ at-twice_other (prevs old) (suc s) 0 (prev_at old 0) (suc s) q y x;
    } in
    record {
      linked = Linked-push (next_at old) (prev_at old) (next_at new) (prev_at new) 0 list s c.linked (off-root list) c.once absent (λ e. omega arith) pushed;
      once = EachOnce-push list s c.once absent;
      within = λ t h. elim (either (has list t) (nat_eq t s) (sym (has-push list s t) ∙ h)) [
        | inl k ↦ let z = c.within t k in omega arith
        | inr k ↦ let z = equal t s k in omega arith
      ];
      free = λ t v h.
          let both = sym (has-push list s t) ∙ h in
          let out = or-left (has list t) (nat_eq t s) both in
          let other : t ≢ s = λ e. (let z : true ≡ false = sym (same s) ∙ ap (λ x. nat_eq x s) (sym e) ∙ or-right (has list t) (nat_eq t s) both in cc) in
          pushed.next_else (suc t) (λ e. last-apart old list t c out (sym e)) (λ e. other (omega arith)) ∙ c.free t (omega arith) out;
      rooted = let z = c.rooted in omega arith;
      few = let z = c.few in omega arith;
    }

-- two joins take a slot out
pub chain-cut : (old new : List Link) (list : List ℕ) (s : ℕ) → IsChain old list → has list s ≡ true → length new ≡ length old →
    nexts new ≡ slice_set (slice_set (nexts old) (prev_at old (suc s)) (next_at old (suc s))) (suc s) (suc s) →
    prevs new ≡ slice_set (slice_set (prevs old) (next_at old (suc s)) (prev_at old (suc s))) (suc s) (suc s) → IsChain new (without list s)
chain-cut old new list s c there len n p =
    let w = c.within s there in
    let before = prev-within old list s c there in
    let after = next-within old list s c there in
    let next_apart = next-apart (next_at old) (prev_at old) 0 list s c.linked c.once there in
    let prev_apart = prev-apart (next_at old) (prev_at old) 0 list s c.linked (off-root list) c.once there in
    let ln = length-nexts old in
    let lp = length-prevs old in
    let cut : Cut (next_at old) (prev_at old) (next_at new) (prev_at new) s = record {
      over = ap (λ xs. slice_index xs (prev_at old (suc s))) n ∙ at-twice_first (nexts old) (prev_at old (suc s)) (suc s) (next_at old (suc s)) (suc s) prev_apart (omega arith);
      back = ap (λ xs. slice_index xs (next_at old (suc s))) p ∙ at-twice_first (prevs old) (next_at old (suc s)) (suc s) (prev_at old (suc s)) (suc s) next_apart (omega arith);
      next_else = λ q x y. ap (λ xs. slice_index xs q) n ∙ at-twice_other (nexts old) (prev_at old (suc s)) (suc s) (next_at old (suc s)) (suc s) q x y;
      prev_else = λ q x y. ap (λ xs. slice_index xs q) p ∙ at-twice_other (prevs old) (next_at old (suc s)) (suc s) (prev_at old (suc s)) (suc s) q x y;
    } in
    let itself : next_at new (suc s) ≡ suc s = ap (λ xs. slice_index xs (suc s)) n ∙ at-twice_second (nexts old) (prev_at old (suc s)) (suc s) (next_at old (suc s)) (suc s) (omega arith) in
    record {
      linked = Linked-cut (next_at old) (prev_at old) (next_at new) (prev_at new) 0 list s c.linked (off-root list) c.once there (λ e. omega arith) cut;
      once = EachOnce-without list s c.once;
      within = λ t h. let z = c.within t (has-less list s t h) in omega arith;
      free = λ t v h.
          let go : (b : Bool) → nat_eq s t ≡ b → next_at new (suc t) ≡ suc t =
          elim [
            | true ↦ λ e. subst (λ (x : ℕ). next_at new (suc x) ≡ suc x) (equal s t e) itself
            | false ↦ λ e.
                let other : s ≢ t = λ x. (let z : true ≡ false = sym (same s) ∙ ap (nat_eq s) x ∙ e in cc) in
                let out = sym (has-without list s t other) ∙ h in
                cut.next_else (suc t) (λ x. stays t out x) (λ x. other (omega arith)) ∙ c.free t (omega arith) out
          ] in
          go (nat_eq s t) refl;
      rooted = let z = c.rooted in omega arith;
      few = let z = c.few in omega arith;
    }
  where
    stays : (t : ℕ) → has list t ≡ false → suc t ≢ prev_at old (suc s)
    stays t out x = elim (prev_cases (next_at old) (prev_at old) 0 list s c.linked there) [
      | inl e ↦ omega arith
      | inr r ↦ has-apart list r.0 t r.1 out (let z = r.2 in omega arith)
    ]

length-numbers : (from count : ℕ) → length (numbers from count) ≡ count
unfolding numbers
length-numbers from zero = refl
length-numbers from (suc count) = ap (λ n. suc n) (length-numbers (suc from) count)

at-numbers : (from count i : ℕ) → i < count → slice_index (numbers from count) i ≡ from + i
unfolding numbers
at-numbers from zero i h = absurd (omega arith)
at-numbers from (suc count) zero h = omega arith
at-numbers from (suc count) (suc i) h = let z = at-numbers (suc from) count i (omega arith) in omega arith

below-or-not : (m k : ℕ) → (m < k) ⊎ (k ≤ m)
below-or-not m k =
    let go : (b : Bool) → nat_lt m k ≡ b → (m < k) ⊎ (k ≤ m) =
    elim [ true ↦ λ e. inl (grind (arith, nat_tests)) | false ↦ λ e. inr (grind (arith, nat_tests)) ] in
    go (nat_lt m k) refl

-- more places, each its own next, change no list
pub chain-grow : (old new : List Link) (list : List ℕ) (count : ℕ) → IsChain old list → length old + count ≤ 2 ^ 32 →
    nexts new ≡ nexts old ++ numbers (length old) count → prevs new ≡ prevs old ++ numbers (length old) count → length new ≡ length old + count → IsChain new list
chain-grow old new list count c few n p len =
    let ln = length-nexts old in
    let lp = length-prevs old in
    let next_same : (q : ℕ) → q < length old → next_at new q ≡ next_at old q = λ q h. ap (λ xs. slice_index xs q) n ∙ get_or_append_left (nexts old) (numbers (length old) count) 0 q (omega arith) in
    let prev_same : (q : ℕ) → q < length old → prev_at new q ≡ prev_at old q = λ q h. ap (λ xs. slice_index xs q) p ∙ get_or_append_left (prevs old) (numbers (length old) count) 0 q (omega arith) in
    record {
      linked = Linked-agree (next_at old) (prev_at old) (next_at new) (prev_at new) 0 list c.linked (next_same 0 c.rooted) (prev_same 0 c.rooted) (λ s h. next_same (suc s) (c.within s h)) (λ s h. prev_same (suc s) (c.within s h));
      once = c.once;
      within = λ s h. let z = c.within s h in omega arith;
      free = λ s v h. elim (below-or-not (suc s) (length old)) [
        | inl k ↦ next_same (suc s) k ∙ c.free s k h
        | inr k ↦
            let e : slice_index (numbers (length old) count) (suc s - length old) ≡ length old + (suc s - length old) = at-numbers (length old) count (suc s - length old) (omega arith) in
            ap (λ xs. slice_index xs (suc s)) n ∙ get_or-append_right (nexts old) (numbers (length old) count) (length old) (suc s) 0 ln k ∙ e ∙ omega arith
      ];
      rooted = let z = c.rooted in omega arith;
      few = omega arith;
    }

-- one root alone spells the empty list
pub chain-new : (links : List Link) → links ≡ record { prev = 0; next = 0 } ∷ [] → IsChain links []
unfolding Linked EachOnce
chain-new links e = subst (λ (ls : List Link). IsChain ls []) (sym e) (record {
  linked = (refl, refl);
  once = tt;
  within = λ s h. let z : false ≡ true = h in cc;
  free = λ s h k. absurd (omega arith);
  rooted = omega arith;
  few = omega arith;
})

-- the first of the list, and whether there is one
pub first-links : (links : List Link) (list : List ℕ) → IsChain links list → slot_of (next_at links 0) ≡ first_in list
first-links links list c = slot_of-next (next_at links) (prev_at links) 0 list c.linked

empty-from : (links : List Link) (list : List ℕ) → Linked (next_at links) (prev_at links) 0 list → nat_eq (next_at links 0) 0 ≡ list_is_empty list
unfolding Linked
empty-from links [] l = ap (λ p. nat_eq p 0) l.0
empty-from links (s ∷ rest) l = ap (λ p. nat_eq p 0) l.0 ∙ unequal (suc s) 0 (λ e. omega arith)

pub empty-links : (links : List Link) (list : List ℕ) → IsChain links list → nat_eq (next_at links 0) 0 ≡ list_is_empty list
empty-links links list c = empty-from links list c.linked

pub after-links : (links : List Link) (list : List ℕ) (s : ℕ) → IsChain links list → has list s ≡ true → slot_of (next_at links (suc s)) ≡ next_in list s
after-links links list s c h = slot_of-next_in (next_at links) (prev_at links) 0 list s c.linked h

-- a vector that spells a list is a queue with that list
pub chain-kept : (links : List Link) (list : List ℕ) → IsChain links list → IsChain links (listed links)
chain-kept links list c = subst (λ (xs : List ℕ). IsChain links xs) (sym (listed-chain links list c)) c

pub shown : (links : List Link) (list : List ℕ) (slots : ℕ) → IsChain links list → length links - 1 ≡ slots → (let x : SlotList = record { list = listed links; slots = length links - 1 } in let y : SlotList = record { list = list; slots = slots } in x ≡ y)
shown links list slots c e = rw (listed-chain links list c, e) refl
