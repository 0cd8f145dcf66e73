-- Lists of different slots and of different pairs.
use Rattle.std.proofs.Common.{◌≡◌, ◌≢◌, ℕ, zero, suc, Bool, true, false, ◌&&◌, ◌||◌, not, if◌then◌else◌, nat_eq, Option, List, [], ◌∷◌, ◌++◌, length, refl, ap, sym, subst, ◌∙◌}
use Rattle.std.proofs.lemmas.List.{append-nil}
use Rattle.std.specs.List.{list_any, filter, filter_map}
use Rattle.std.proofs.Math.Bool.{or-false}
use Rattle.std.proofs.lemmas.Bool.{and_from, not-true}
use Rattle.qd_scheme.specs.declared.key.Key.{Key}
use Rattle.qd_sub.proofs.OrderLaws.{once}
use Rattle.qd_sub.proofs.StepLaws.{pair_eq, pair_eq-true}
use Rattle.qd_pend.specs.Slots.{has, without, EachOnce}
use Rattle.qd_pend.proofs.ListLaws.{same, unequal, without-absent, has-without, has-without_same, EachOnce-without, EachOnce-push, has-push}
use Rattle.qd_slots.specs.Views.{queued, queued_again}
use Rattle.qd_table.specs.Tables.{below}
use Rattle.qd_table.specs.Sound.{EachPairOnce}
use Rattle.qd_sub.proofs.SinceLaws.{and-left, and-right}

push-other : (list : List ℕ) (slot i : ℕ) → i ≢ slot → has (list ++ slot ∷ []) i ≡ has list i
push-other list slot i n = has-push list slot i ∙ ap (λ b. has list i || b) (unequal i slot n) ∙ or-false (has list i)

push-own : (list : List ℕ) (slot : ℕ) → has list slot ≡ false → has (list ++ slot ∷ []) slot ≡ true
push-own list slot h = has-push list slot slot ∙ ap (λ b. b || nat_eq slot slot) h ∙ same slot

turned : (i slot : ℕ) → i ≢ slot → slot ≢ i
turned i slot n e = n (sym e)

-- who is in a list after a slot joins or leaves it
pub queued-other : (list : List ℕ) (slot : ℕ) (b : Bool) (i : ℕ) → i ≢ slot → has (queued list slot b) i ≡ has list i
unfolding queued
queued-other list slot true i n =
    elim (has list slot) as (λ c. has (if c then list else list ++ slot ∷ []) i ≡ has list i) [ true ↦ refl | false ↦ push-other list slot i n ]
queued-other list slot false i n = has-without list slot i (turned i slot n)

pub queued-own : (list : List ℕ) (slot : ℕ) (b : Bool) → has (queued list slot b) slot ≡ b
unfolding queued
queued-own list slot true =
    let go : (c : Bool) → has list slot ≡ c → has (if c then list else list ++ slot ∷ []) slot ≡ true =
    elim [ true ↦ λ e. e | false ↦ λ e. push-own list slot e ] in
    go (has list slot) refl
queued-own list slot false = has-without_same list slot

pub queued-once : (list : List ℕ) (slot : ℕ) (b : Bool) → EachOnce list → EachOnce (queued list slot b)
unfolding queued
queued-once list slot true o =
    let go : (c : Bool) → has list slot ≡ c → EachOnce (if c then list else list ++ slot ∷ []) =
    elim [ true ↦ λ e. o | false ↦ λ e. EachOnce-push list slot o e ] in
    go (has list slot) refl
queued-once list slot false o = EachOnce-without list slot o

-- a slot that stays as it was
pub queued-as : (list : List ℕ) (slot : ℕ) → queued list slot (has list slot) ≡ list
unfolding queued
queued-as list slot =
    let go : (c : Bool) → has list slot ≡ c → (if c then (if c then list else list ++ slot ∷ []) else without list slot) ≡ list =
    elim [ true ↦ λ e. refl | false ↦ λ e. without-absent list slot e ] in
    go (has list slot) refl

pub again-other : (list : List ℕ) (slot : ℕ) (b : Bool) (i : ℕ) → i ≢ slot → has (queued_again list slot b) i ≡ has list i
unfolding queued_again
again-other list slot true i n = push-other (without list slot) slot i n ∙ has-without list slot i (turned i slot n)
again-other list slot false i n = ap (λ xs. has xs i) (append-nil (without list slot)) ∙ has-without list slot i (turned i slot n)

pub again-own : (list : List ℕ) (slot : ℕ) (b : Bool) → has (queued_again list slot b) slot ≡ b
unfolding queued_again
again-own list slot true = push-own (without list slot) slot (has-without_same list slot)
again-own list slot false = ap (λ xs. has xs slot) (append-nil (without list slot)) ∙ has-without_same list slot

pub again-once : (list : List ℕ) (slot : ℕ) (b : Bool) → EachOnce list → EachOnce (queued_again list slot b)
unfolding queued_again
again-once list slot true o = EachOnce-push (without list slot) slot (EachOnce-without list slot o) (has-without_same list slot)
again-once list slot false o = subst (λ (xs : List ℕ). EachOnce xs) (sym (append-nil (without list slot))) (EachOnce-without list slot o)

-- what a function gives of the numbers below one
pub gives-same : {X : Type 0} (f g : ℕ → Option X) (n : ℕ) → ((a : ℕ) → f a ≡ g a) → filter_map f (below n) ≡ filter_map g (below n)
unfolding below
gives-same f g zero h = refl
gives-same f g (suc n) h = rw (h n, gives-same f g n h) refl

-- different pairs, by the test and by the fact

pub once-each : (ps : List (ℕ × Key)) → once pair_eq ps ≡ true → EachPairOnce ps
unfolding once EachPairOnce
once-each [] h = tt
once-each (p ∷ ps) h = (not-true (list_any (pair_eq p) ps) (and-left (not (list_any (pair_eq p) ps)) (once pair_eq ps) h), once-each ps (and-right (not (list_any (pair_eq p) ps)) (once pair_eq ps) h))

pub each-once : (ps : List (ℕ × Key)) → EachPairOnce ps → once pair_eq ps ≡ true
unfolding once EachPairOnce
each-once [] h = refl
each-once (p ∷ ps) h = and_from (not (list_any (pair_eq p) ps)) (once pair_eq ps) (ap not h.0) (each-once ps h.1)

filter-absent : (p : ℕ × Key) (ps : List (ℕ × Key)) → list_any (pair_eq p) ps ≡ false → filter (λ q. not (pair_eq p q)) ps ≡ ps
filter-absent p [] h = refl
filter-absent p (q ∷ ps) h =
    let go : (c : Bool) → pair_eq p q ≡ c → filter (λ x. not (pair_eq p x)) (q ∷ ps) ≡ q ∷ ps =
    elim [
      | true ↦ λ e. let z = rw e at h in cc
      | false ↦ λ e. (let rest = filter-absent p ps (rw e at h) in rw (e, rest) refl)
    ] in
    go (pair_eq p q) refl

-- a list of different pairs is longer by one than without one of them
pub length-less : (p : ℕ × Key) (ps : List (ℕ × Key)) → once pair_eq ps ≡ true → list_any (pair_eq p) ps ≡ true → length ps ≡ suc (length (filter (λ q. not (pair_eq p q)) ps))
unfolding once
length-less p [] o h = cc
length-less p (q ∷ ps) o h =
    let alone = not-true (list_any (pair_eq q) ps) (and-left (not (list_any (pair_eq q) ps)) (once pair_eq ps) o) in
    let rest = and-right (not (list_any (pair_eq q) ps)) (once pair_eq ps) o in
    let go : (c : Bool) → pair_eq p q ≡ c → length (q ∷ ps) ≡ suc (length (filter (λ x. not (pair_eq p x)) (q ∷ ps))) =
    elim [
      | true ↦ λ e. (let absent : list_any (pair_eq p) ps ≡ false = ap (λ x. list_any (pair_eq x) ps) (pair_eq-true p q e) ∙ alone in
          rw e (ap (λ xs. suc (length xs)) (sym (filter-absent p ps absent))))
      | false ↦ λ e. rw e (ap suc (length-less p ps rest (rw e at h)))
    ] in
    go (pair_eq p q) refl
