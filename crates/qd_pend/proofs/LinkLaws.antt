-- What joins and cuts do to a chain of links.
use Rattle.std.proofs.Common.{◌≡◌, ◌≢◌, ◌⊎◌, inl, inr, ℕ, zero, suc, ◌≤◌, Bool, true, false, nat_eq, List, [], ◌∷◌, ◌++◌, length, refl, ap, sym, ◌∙◌, arith, subst}
use Rattle.qd_pend.specs.Slots.{has, without, EachOnce, first_in, next_in}
use Rattle.std.proofs.Common.{None}
use Rattle.qd_pend.specs.Linked.{Linked, walk, slot_of}
use Rattle.qd_pend.proofs.ListLaws.{same, equal, unequal, has-here, has-later, has-apart, has-first, has-rest, without-first}

-- the place of none of these slots
abbrev pub Off : ℕ → List ℕ → Type 0
Off place list = (s : ℕ) → has list s ≡ true → place ≢ suc s

suc-injective : (m n : ℕ) → suc m ≡ suc n → m ≡ n
suc-injective m n h = omega arith

pub Off-rest : (t : ℕ) (rest : List ℕ) → has rest t ≡ false → Off (suc t) rest
Off-rest t rest alone s h e = has-apart rest s t h alone (sym (suc-injective t s e))

-- links that agree at these places spell the same
pub Linked-agree : (f g f' g' : ℕ → ℕ) (from : ℕ) (list : List ℕ) → Linked f g from list → f' from ≡ f from → g' 0 ≡ g 0 → ((s : ℕ) → has list s ≡ true → f' (suc s) ≡ f (suc s)) → ((s : ℕ) → has list s ≡ true → g' (suc s) ≡ g (suc s)) → Linked f' g' from list
unfolding Linked
Linked-agree f g f' g' from [] h e z fs gs = (e ∙ h.0, z ∙ h.1)
Linked-agree f g f' g' from (s ∷ rest) h e z fs gs =
    (e ∙ h.0, gs s (has-here s rest) ∙ h.1, Linked-agree f g f' g' (suc s) rest h.2 (fs s (has-here s rest)) z (λ t k. fs t (has-later s rest t k)) (λ t k. gs t (has-later s rest t k)))

-- the last place
last_place : ℕ → List ℕ → ℕ
last_place from [] = from
last_place from (s ∷ rest) = last_place (suc s) rest

prev-root : (f g : ℕ → ℕ) (from : ℕ) (list : List ℕ) → Linked f g from list → g 0 ≡ last_place from list
unfolding Linked last_place
prev-root f g from [] h = h.1
prev-root f g from (s ∷ rest) h = prev-root f g (suc s) rest h.2

last_place-listed : (s : ℕ) (rest : List ℕ) → (t : ℕ) × (has (s ∷ rest) t ≡ true) × (last_place (suc s) rest ≡ suc t)
unfolding last_place
last_place-listed s [] = (s, has-here s [], refl)
last_place-listed s (u ∷ rest) = let r = last_place-listed u rest in (r.0, has-later s (u ∷ rest) r.0 r.1, r.2)

-- the place before the root is where the chain starts, or that of a slot
pub prev-root_cases : (f g : ℕ → ℕ) (from : ℕ) (list : List ℕ) → Linked f g from list → (g 0 ≡ from) ⊎ ((t : ℕ) × (has list t ≡ true) × (g 0 ≡ suc t))
unfolding Linked last_place
prev-root_cases f g from [] h = inl h.1
prev-root_cases f g from (s ∷ rest) h = let r = last_place-listed s rest in inr (r.0, r.1, prev-root f g (suc s) rest h.2 ∙ r.2)

-- the place before that of a slot is where the chain starts, or that of another
pub prev_cases : (f g : ℕ → ℕ) (from : ℕ) (list : List ℕ) (s : ℕ) → Linked f g from list → has list s ≡ true → (g (suc s) ≡ from) ⊎ ((t : ℕ) × (has list t ≡ true) × (g (suc s) ≡ suc t))
unfolding Linked
prev_cases f g from [] s h k = cc
prev_cases f g from (u ∷ rest) s h k =
    let go : (b : Bool) → nat_eq s u ≡ b → (g (suc s) ≡ from) ⊎ ((t : ℕ) × (has (u ∷ rest) t ≡ true) × (g (suc s) ≡ suc t)) =
    elim [
      | true ↦ λ e. inl (ap (λ x. g (suc x)) (equal s u e) ∙ h.1)
      | false ↦ λ e. elim (prev_cases f g (suc u) rest s h.2 (rw e at k)) [
        | inl p ↦ inr (u, has-here u rest, p)
        | inr r ↦ inr (r.0, has-later u rest r.0 r.1, r.2)
      ]
    ] in
    go (nat_eq s u) refl

-- the place after that of a slot is the root, or that of another
pub next_cases : (f g : ℕ → ℕ) (from : ℕ) (list : List ℕ) (s : ℕ) → Linked f g from list → has list s ≡ true → (f (suc s) ≡ 0) ⊎ ((t : ℕ) × (has list t ≡ true) × (f (suc s) ≡ suc t))
unfolding Linked
next_cases f g from [] s h k = cc
next_cases f g from (u ∷ rest) s h k =
    let go : (b : Bool) → nat_eq s u ≡ b → (f (suc s) ≡ 0) ⊎ ((t : ℕ) × (has (u ∷ rest) t ≡ true) × (f (suc s) ≡ suc t)) =
    elim [
      | true ↦ λ e. first rest h.2 (ap (λ x. f (suc x)) (equal s u e))
      | false ↦ λ e. elim (next_cases f g (suc u) rest s h.2 (rw e at k)) [
        | inl p ↦ inl p
        | inr r ↦ inr (r.0, has-later u rest r.0 r.1, r.2)
      ]
    ] in
    go (nat_eq s u) refl
  where
    first : (more : List ℕ) → Linked f g (suc u) more → f (suc s) ≡ f (suc u) → (f (suc s) ≡ 0) ⊎ ((t : ℕ) × (has (u ∷ more) t ≡ true) × (f (suc s) ≡ suc t))
    first [] l e = inl (e ∙ l.0)
    first (v ∷ more) l e = inr (v, has-later u (v ∷ more) v (has-here v more), e ∙ l.0)

-- the links after a push of s: the two joins of the last place with that of s, and of that with the root
pub record Pushed (f g f' g' : ℕ → ℕ) (s : ℕ) : Type 0 where
  pub from_last : f' (g 0) ≡ suc s
  pub to_root : f' (suc s) ≡ 0
  pub next_else : (p : ℕ) → p ≢ g 0 → p ≢ suc s → f' p ≡ f p
  pub to_last : g' (suc s) ≡ g 0
  pub from_root : g' 0 ≡ suc s
  pub prev_else : (p : ℕ) → p ≢ 0 → p ≢ suc s → g' p ≡ g p

pub Linked-push : (f g f' g' : ℕ → ℕ) (from : ℕ) (list : List ℕ) (s : ℕ) → Linked f g from list → Off from list → EachOnce list → has list s ≡ false → from ≢ suc s → Pushed f g f' g' s → Linked f' g' from (list ++ s ∷ [])
unfolding Linked EachOnce last_place
Linked-push f g f' g' from [] s h off once absent apart p =
    (ap f' (sym h.1) ∙ p.from_last, p.to_last ∙ h.1, (p.to_root, p.from_root))
Linked-push f g f' g' from (u ∷ rest) s h off once absent apart p =
    let r = last_place-listed u rest in
    let other : from ≢ g 0 = λ e. off r.0 r.1 (e ∙ prev-root f g (suc u) rest h.2 ∙ r.2) in
    let away : u ≢ s = λ e. has-first u rest s absent (sym e) in (
      p.next_else from other apart ∙ h.0,
      p.prev_else (suc u) (λ e. omega arith) (λ e. away (suc-injective u s e)) ∙ h.1,
      Linked-push f g f' g' (suc u) rest s h.2 (Off-rest u rest once.0) once.1 (has-rest u rest s absent) (λ e. away (suc-injective u s e)) p,
    )

-- the links after s was cut out: its neighbours are joined, and it is its own next
pub record Cut (f g f' g' : ℕ → ℕ) (s : ℕ) : Type 0 where
  pub over : f' (g (suc s)) ≡ f (suc s)
  pub back : g' (f (suc s)) ≡ g (suc s)
  pub next_else : (p : ℕ) → p ≢ g (suc s) → p ≢ suc s → f' p ≡ f p
  pub prev_else : (p : ℕ) → p ≢ f (suc s) → p ≢ suc s → g' p ≡ g p

cut-first : (f g f' g' : ℕ → ℕ) (from : ℕ) (s : ℕ) (rest : List ℕ) → Linked f g from (s ∷ rest) → Off from (s ∷ rest) → EachOnce (s ∷ rest) → Cut f g f' g' s → Linked f' g' from rest
unfolding Linked EachOnce
cut-first f g f' g' from s [] h off once p =
    let a : f' from ≡ 0 = ap f' (sym h.1) ∙ p.over ∙ h.2.0 in
    let b : g' 0 ≡ from = ap g' (sym h.2.0) ∙ p.back ∙ h.1 in
    (a, b)
cut-first f g f' g' from s (u ∷ rest) h off once p =
    let a : f' from ≡ suc u = ap f' (sym h.1) ∙ p.over ∙ h.2.0 in
    let b : g' (suc u) ≡ from = ap g' (sym h.2.0) ∙ p.back ∙ h.1 in
    let before : (t : ℕ) → has (u ∷ rest) t ≡ true → suc t ≢ g (suc s) = λ t k e. off t (has-later s (u ∷ rest) t k) (sym h.1 ∙ sym e) in
    let itself : (t : ℕ) → has (u ∷ rest) t ≡ true → suc t ≢ suc s = λ t k e. has-apart (u ∷ rest) t s k once.0 (suc-injective t s e) in
    let after : (t : ℕ) → has rest t ≡ true → suc t ≢ f (suc s) = λ t k e. has-apart rest t u k once.1.0 (suc-injective t u (e ∙ h.2.0)) in (
      a,
      b,
      Linked-agree f g f' g' (suc u) rest h.2.2 (p.next_else (suc u) (before u (has-here u rest)) (itself u (has-here u rest)))
          (p.prev_else 0 (λ e. root (f (suc s)) u e h.2.0) (λ e. omega arith))
          (λ t k. p.next_else (suc t) (before t (has-later u rest t k)) (itself t (has-later u rest t k)))
          (λ t k. p.prev_else (suc t) (after t k) (itself t (has-later u rest t k))),
    )
  where
    root : (n v : ℕ) → 0 ≡ n → n ≡ suc v → ⊥
    root n v e k = omega arith

pub Linked-cut : (f g f' g' : ℕ → ℕ) (from : ℕ) (list : List ℕ) (s : ℕ) → Linked f g from list → Off from list → EachOnce list → has list s ≡ true → from ≢ suc s → Cut f g f' g' s → Linked f' g' from (without list s)
unfolding Linked EachOnce
Linked-cut f g f' g' from [] s h off once there apart p = cc
Linked-cut f g f' g' from (u ∷ rest) s h off once there apart p =
    let go : (b : Bool) → nat_eq s u ≡ b → Linked f' g' from (without (u ∷ rest) s) =
    elim [
      | true ↦ λ e.
          let w = equal s u e in
          subst (λ (x : ℕ). Cut f g f' g' x → Linked f' g' from (without (u ∷ rest) x)) (sym w)
          (λ q. subst (λ (l : List ℕ). Linked f' g' from l) (sym (without-first u rest once.0)) (cut-first f g f' g' from u rest h off once q)) p
      | false ↦ λ e.
          let later : has rest s ≡ true = rw e at there in
          let away : u ≢ s = λ x. let z : true ≡ false = sym (same s) ∙ ap (nat_eq s) (sym x) ∙ e in cc in
          let prev : from ≢ g (suc s) = λ x. elim (prev_cases f g (suc u) rest s h.2 later) [
            | inl q ↦ off u (has-here u rest) (x ∙ q)
            | inr r ↦ off r.0 (has-later u rest r.0 r.1) (x ∙ r.2)
          ] in
          let next : suc u ≢ f (suc s) = λ x. elim (next_cases f g (suc u) rest s h.2 later) [
            | inl q ↦ root (f (suc s)) u (sym x) q
            | inr r ↦ Off-rest u rest once.0 r.0 r.1 (x ∙ r.2)
          ] in
          rw e (
            p.next_else from prev apart ∙ h.0,
            p.prev_else (suc u) next (λ x. away (suc-injective u s x)) ∙ h.1,
            Linked-cut f g f' g' (suc u) rest s h.2 (Off-rest u rest once.0) once.1 later (λ x. away (suc-injective u s x)) p,
          )
    ] in
    go (nat_eq s u) refl
  where
    root : (n v : ℕ) → n ≡ suc v → n ≡ 0 → ⊥
    root n v e k = omega arith

-- a walk finds the list
pub walk-linked : (n : ℕ) (f g : ℕ → ℕ) (from : ℕ) (list : List ℕ) → Linked f g from list → length list ≤ n → walk n f (f from) ≡ list
unfolding Linked walk
walk-linked zero f g from [] h le = refl
walk-linked (suc n) f g from [] h le = ap (walk (suc n) f) h.0
walk-linked zero f g from (s ∷ rest) h le = absurd (omega arith)
walk-linked (suc n) f g from (s ∷ rest) h le = ap (walk (suc n) f) h.0 ∙ ap (λ ts. s ∷ ts) (walk-linked n f g (suc s) rest h.2 (omega arith))

-- the slot at the place after one
pub slot_of-next : (f g : ℕ → ℕ) (from : ℕ) (list : List ℕ) → Linked f g from list → slot_of (f from) ≡ first_in list
unfolding Linked
slot_of-next f g from [] h = ap slot_of h.0
slot_of-next f g from (s ∷ rest) h = ap slot_of h.0

pub slot_of-next_in : (f g : ℕ → ℕ) (from : ℕ) (list : List ℕ) (s : ℕ) → Linked f g from list → has list s ≡ true → slot_of (f (suc s)) ≡ next_in list s
unfolding Linked next_in
slot_of-next_in f g from [] s h k = cc
slot_of-next_in f g from (u ∷ rest) s h k =
    let go : (b : Bool) → nat_eq s u ≡ b → slot_of (f (suc s)) ≡ next_in (u ∷ rest) s =
    elim [
      | true ↦ λ e. rw e (ap (λ x. slot_of (f (suc x))) (equal s u e) ∙ slot_of-next f g (suc u) rest h.2)
      | false ↦ λ e. rw e (slot_of-next_in f g (suc u) rest s h.2 (rw e at k))
    ] in
    go (nat_eq s u) refl

pub next_in-absent : (list : List ℕ) (s : ℕ) → has list s ≡ false → next_in list s ≡ None
unfolding next_in
next_in-absent [] s h = refl
next_in-absent (u ∷ rest) s h = rw (unequal s u (has-first u rest s h)) (next_in-absent rest s (has-rest u rest s h))

-- a listed slot is not its own next
pub next-apart : (f g : ℕ → ℕ) (from : ℕ) (list : List ℕ) (s : ℕ) → Linked f g from list → EachOnce list → has list s ≡ true → f (suc s) ≢ suc s
unfolding Linked EachOnce
next-apart f g from [] s h once k = cc
next-apart f g from (u ∷ rest) s h once k =
    let go : (b : Bool) → nat_eq s u ≡ b → f (suc s) ≢ suc s =
    elim [
      | true ↦ λ e x. first rest h.2 once.0 (ap (λ y. f (suc y)) (sym (equal s u e)) ∙ x ∙ ap (λ y. suc y) (equal s u e))
      | false ↦ λ e. next-apart f g (suc u) rest s h.2 once.1 (rw e at k)
    ] in
    go (nat_eq s u) refl
  where
    first : (more : List ℕ) → Linked f g (suc u) more → has more u ≡ false → f (suc u) ≡ suc u → ⊥
    first [] l a x = root (f (suc u)) u (sym l.0) x
      where
        root : (n v : ℕ) → 0 ≡ n → n ≡ suc v → ⊥
        root n v e k = omega arith
    first (v ∷ more) l a x = has-first v more u a (suc-injective u v (sym x ∙ l.0))

-- nor its own prev
pub prev-apart : (f g : ℕ → ℕ) (from : ℕ) (list : List ℕ) (s : ℕ) → Linked f g from list → Off from list → EachOnce list → has list s ≡ true → g (suc s) ≢ suc s
unfolding Linked EachOnce
prev-apart f g from [] s h off once k = cc
prev-apart f g from (u ∷ rest) s h off once k =
    let go : (b : Bool) → nat_eq s u ≡ b → g (suc s) ≢ suc s =
    elim [
      | true ↦ λ e x. off u (has-here u rest) (sym h.1 ∙ ap (λ y. g (suc y)) (sym (equal s u e)) ∙ x ∙ ap (λ y. suc y) (equal s u e))
      | false ↦ λ e. prev-apart f g (suc u) rest s h.2 (Off-rest u rest once.0) once.1 (rw e at k)
    ] in
    go (nat_eq s u) refl
