-- Calls of a row, splits and joins as they may be, and some that may not be, by the definitions alone.
use Rattle.std.proofs.Common.{◌≡◌, ℕ, zero, suc, ◌<◌, ◌^◌, List, [], ◌∷◌, length, get_or, refl, sym, ap, arith, inl, ⊎_elim}
use Rattle.std.specs.Prelude.{All, Ok, Err}
use Rattle.std.proofs.lemmas.List.{length-append}
use Rattle.atomic_table.specs.Seated.{TableId}
use Rattle.qd_gate.specs.declared.machine.Entry.{Entry}
use Rattle.qd_gate.specs.declared.machine.Terms.{Terms}
use Rattle.qd_gate.specs.declared.gate.NoTurn.TheVariants.{Busy}
use Rattle.qd_gate.specs.Logs.{entry}
use Rattle.qd_gate.specs.Passes.{Pass}
use Rattle.qd_row.specs.Passes.{IsChild, IsUnion}
use Rattle.qd_row.specs.Rows.{Turns, TurnsAt}
use Rattle.qd_row.proofs.Rowing.{same_some}

abbrev Call : Type 0
Call = Entry ℕ ℕ

abbrev P : Type 0
P = Pass ℕ ℕ

abbrev Any : Terms → List Call → Type 0
Any t log = Unit {0}

abbrev with_cap : ℕ → Terms
with_cap cap = record { cap = cap; hcap = 0; base = 0 }

abbrev ours : Call
ours = entry 7 5 6

-- a gate, by how many words it has: those of different numbers are not the same
abbrev gate : ℕ → TableId
gate n = record { words = n; slots = 1; views_name = 0; atom = 0; block = 0; offset = 0; slot_names = [] }

abbrev asked : P
asked = record { home = gate 1; number = 7; terms = with_cap 0; start = 4; seen = []; mine = []; looked = [] }

abbrev answered : P
answered = record asked { seen = ours ∷ []; mine = ours ∷ []; looked = 4 ∷ [] }

abbrev refused : P
refused = record asked { looked = 7 ∷ [] }

small : All (λ n. n < 2 ^ 63) (4 ∷ [])
small zero d below = omega arith
small (suc i) d below = absurd (omega (arith, below))

-- the pass stays that of its gate, which began where it did
a_turn : Turns Any asked 5 (Ok 6) answered
a_turn = ((refl, refl, refl), record { between = []; seen = refl; mine = refl; own = refl; is_legal = tt; small = small }, refl)

no_turn : Turns Any asked 5 (Err (Busy 7 7 5)) refused
no_turn = ((refl, refl, refl), (refl, (omega arith, inl (refl, refl, (refl, refl, refl)))), refl)

another_start : Turns Any asked 5 (Ok 6) (record answered { start = 6 }) → ⊥
another_start t = let e = t.2 in omega (arith, e)

another_start_without_a_turn : Turns Any asked 5 (Err (Busy 7 7 5)) (record refused { start = 6 }) → ⊥
another_start_without_a_turn t = let e = t.2 in omega (arith, e)

another_gate : Turns Any asked 5 (Err (Busy 7 7 5)) (record refused { home = gate 2 }) → ⊥
another_gate t = let e = ap (λ (g : TableId). g.words) t.0.0 in omega (arith, e)

another_number : Turns Any asked 5 (Err (Busy 7 7 5)) (record refused { number = 8 }) → ⊥
another_number t = let e = t.0.1 in omega (arith, e)

another_cap : Turns Any asked 5 (Err (Busy 7 7 5)) (record refused { terms = with_cap 1 }) → ⊥
another_cap t = let e = ap (λ (terms : Terms). terms.cap) t.0.2 in omega (arith, e)

an_answer_without_a_call : Turns Any asked 5 (Ok 6) (record asked { looked = 4 ∷ [] }) → ⊥
an_answer_without_a_call t = let e = ap length t.1.mine in omega (arith, e)

a_call_without_an_answer : Turns Any asked 5 (Err (Busy 7 7 5)) (record answered { looked = 7 ∷ [] }) → ⊥
a_call_without_an_answer t = ⊎_elim (λ odd. let e = ap length odd.2.1 in absurd (omega (arith, e))) (λ even. let e = even.0 in absurd (omega (arith, e))) t.1.1.1

-- a turn adds one word to those that were found
one_word : TurnsAt Any (asked ∷ refused ∷ []) 0 5 (Ok 6) (answered ∷ refused ∷ [])
one_word = record { p = asked; q = answered; there = refl; after_is = refl; turns = a_turn; looked = (4, refl) }

the_words_before_are_dropped : TurnsAt Any (refused ∷ []) 0 5 (Ok 6) (answered ∷ []) → ⊥
the_words_before_are_dropped t =
    let before = ap (λ (p : P). length p.looked) (same_some refused t.p t.there) in
    let after = ap (λ (l : List P). length (get_or l 0 asked).looked) t.after_is in
    let more = ap length t.looked.1 in
    let size = length-append t.p.looked (t.looked.0 ∷ []) in
    omega (arith, before, after, more, size)

-- a pass that has seen a call of the number 8, and one that was split off from it
abbrev theirs : Call
theirs = entry 8 1 2

abbrev parent : P
parent = record asked { seen = theirs ∷ []; looked = 6 ∷ [] }

abbrev child : P
child = record asked { number = 9; seen = theirs ∷ [] }

a_child : IsChild parent child
a_child = record { home = refl; terms = refl; start = refl; number = λ e. absurd (omega (arith, e)); unseen = refl; seen = refl; mine = refl; looked = refl }

a_child_with_a_number_that_was_seen : IsChild parent (record child { number = 8 }) → ⊥
a_child_with_a_number_that_was_seen c = let e = ap length c.unseen in omega (arith, e)

a_child_with_the_number_of_its_parent : IsChild parent (record child { number = 7 }) → ⊥
a_child_with_the_number_of_its_parent c = c.number refl

a_child_that_has_seen_less : IsChild parent (record child { seen = [] }) → ⊥
a_child_that_has_seen_less c = let e = ap length c.seen in omega (arith, e)

a_child_with_a_call : IsChild parent (record child { mine = entry 9 1 2 ∷ [] }) → ⊥
a_child_with_a_call c = let e = ap length c.mine in omega (arith, e)

a_child_with_a_word : IsChild parent (record child { looked = 6 ∷ [] }) → ⊥
a_child_with_a_word c = let e = ap length c.looked in omega (arith, e)

a_child_of_another_gate : IsChild parent (record child { home = gate 2 }) → ⊥
a_child_of_another_gate c = let e = ap (λ (g : TableId). g.words) c.home in omega (arith, e)

a_child_with_another_start : IsChild parent (record child { start = 6 }) → ⊥
a_child_with_another_start c = let e = c.start in omega (arith, e)

-- a pass that made a call, one that made another behind it, and what they are together
abbrev earlier : P
earlier = record asked { seen = ours ∷ []; mine = ours ∷ []; looked = 4 ∷ [] }

abbrev later : P
later = record asked { number = 8; seen = ours ∷ theirs ∷ []; mine = theirs ∷ []; looked = 6 ∷ [] }

abbrev union : P
union = record earlier { seen = ours ∷ theirs ∷ []; looked = 4 ∷ 6 ∷ [] }

a_union : IsUnion Any earlier later union
a_union = record {
  same = (refl, refl, refl);
  start = refl;
  begins = (theirs ∷ [], refl);
  begins_too = ([], refl);
  is_legal = tt;
  mine = refl;
  own = refl;
  other = refl;
  apart = λ e. absurd (omega (arith, e));
  looked = refl;
}

a_union_with_a_further_call_of_the_other : IsUnion Any earlier later (record union { seen = ours ∷ theirs ∷ theirs ∷ [] }) → ⊥
a_union_with_a_further_call_of_the_other u = let e = ap length u.other in omega (arith, e)

a_union_with_a_further_call_of_its_own : IsUnion Any earlier later (record union { seen = ours ∷ theirs ∷ ours ∷ [] }) → ⊥
a_union_with_a_further_call_of_its_own u = let e = ap length u.own in omega (arith, e)

a_union_with_the_calls_of_both : IsUnion Any earlier later (record union { mine = ours ∷ theirs ∷ [] }) → ⊥
a_union_with_the_calls_of_both u = let e = ap length u.mine in omega (arith, e)

a_union_that_drops_the_words : IsUnion Any earlier later (record union { looked = 4 ∷ [] }) → ⊥
a_union_that_drops_the_words u = let e = ap length u.looked in omega (arith, e)

a_union_with_the_number_of_the_other : IsUnion Any earlier later (record union { number = 8 }) → ⊥
a_union_with_the_number_of_the_other u = let e = u.same.1 in omega (arith, e)

a_union_of_one_number : (p w q : P) → p.number ≡ w.number → IsUnion Any p w q → ⊥
a_union_of_one_number p w q same u = u.apart (sym same)
