-- Calls that were answered and refused as they may be, and some that were not, by the definitions alone.
use Rattle.std.proofs.Common.{◌≡◌, ℕ, zero, suc, ◌+◌, ◌-◌, ◌^◌, ◌<◌, ◌≤◌, List, [], ◌∷◌, ◌++◌, length, get_or, refl, ap, arith, inl, inr, ⊎_elim}
use Rattle.std.specs.Prelude.{All}
use Rattle.std.proofs.lemmas.List.Elements.{All-head}
use Rattle.atomic_table.specs.Seated.{TableId}
use Rattle.qd_gate.specs.declared.machine.Entry.{Entry}
use Rattle.qd_gate.specs.declared.machine.Terms.{Terms}
use Rattle.qd_gate.specs.declared.gate.NoTurn.TheVariants.{Busy, Spent}
use Rattle.qd_gate.specs.Logs.{entry, calls_of, IsCount}
use Rattle.qd_gate.specs.Passes.{Pass, Answers, Found, FoundBusy, FoundSpent}
use Rattle.qd_gate.specs.Refusals.{Refuses}

abbrev Call : Type 0
Call = Entry ℕ ℕ

abbrev P : Type 0
P = Pass ℕ ℕ

abbrev terms : Terms
terms = record { cap = 0; hcap = 0; base = 0 }

-- a log of at most two calls is legal
abbrev Short : Terms → List Call → Type 0
Short t log = length log ≤ 2

-- a call of the pass 8, and one of the pass 7
abbrev theirs : Call
theirs = entry 8 1 2

abbrev ours : Call
ours = entry 7 5 6

-- the pass 7 of a gate that began at the word `start`, with what it has seen, its own calls, and the words that it found
abbrev pass : TableId → ℕ → List Call → List Call → List ℕ → P
pass home start seen mine looked = record { home = home; number = 7; terms = terms; start = start; seen = seen; mine = mine; looked = looked }

abbrev first_op : List Call → ℕ
first_op [] = 0
first_op (e ∷ es) = e.op

abbrev last_op : ℕ → List Call → ℕ
last_op n [] = n
last_op n (e ∷ es) = last_op e.op es

last_is : (n : ℕ) (log : List Call) (e : Call) → last_op n (log ++ e ∷ []) ≡ e.op
last_is n [] e = refl
last_is n (x ∷ xs) e = last_is x.op xs e

small_words : (n : ℕ) → n < 2 ^ 63 → All (λ m. m < 2 ^ 63) (n ∷ [])
small_words n h = λ i d below. one i d below
  where
    one : (i : ℕ) (d : ℕ) → i < 1 → get_or (n ∷ []) i d < 2 ^ 63
    one zero d below = h
    one (suc i) d below = absurd (omega (arith, below))

module _ (home : TableId) where
  -- the pass had seen a call of another one, and made none
  abbrev before : P
  before = pass home 4 (theirs ∷ []) [] []

  -- its call stands behind all that it had seen
  an_answer : Answers Short before 5 6 (pass home 4 (theirs ∷ ours ∷ []) (ours ∷ []) (6 ∷ []))
  an_answer = record { between = []; seen = refl; mine = refl; own = refl; is_legal = omega arith; small = small_words 6 (omega arith) }

  what_was_seen_is_lost : Answers Short before 5 6 (pass home 4 (entry 8 3 2 ∷ ours ∷ []) (ours ∷ []) (6 ∷ [])) → ⊥
  what_was_seen_is_lost a = let e = ap first_op a.seen in omega (arith, e)

  another_call_comes_last : Answers Short before 5 6 (pass home 4 (theirs ∷ ours ∷ theirs ∷ []) (ours ∷ []) (6 ∷ [])) → ⊥
  another_call_comes_last a = let e = ap (last_op 0) a.seen in let l = last_is 0 (before.seen ++ a.between) ours in omega (arith, e, l)

  a_call_of_ours_is_lost : Answers Short (pass home 4 (theirs ∷ []) (ours ∷ []) []) 5 6 (pass home 4 (theirs ∷ ours ∷ []) (ours ∷ []) (6 ∷ [])) → ⊥
  a_call_of_ours_is_lost a = let e = ap length a.mine in omega (arith, e)

  a_call_in_our_name : Answers Short (pass home 4 [] [] []) 5 6 (pass home 4 (entry 7 1 2 ∷ ours ∷ []) (ours ∷ []) (6 ∷ [])) → ⊥
  a_call_in_our_name a = let e = ap length a.own in omega (arith, e)

  an_answer_that_is_not_legal : (p q : P) → Answers (λ t log. ⊥) p 5 6 q → ⊥
  an_answer_that_is_not_legal p q a = a.is_legal

  an_answer_behind_the_end : Answers Short before 5 6 (pass home 4 (theirs ∷ ours ∷ []) (ours ∷ []) (2 ^ 63 ∷ [])) → ⊥
  an_answer_behind_the_end a = let e = All-head (λ n. n < 2 ^ 63) (2 ^ 63) [] a.small in omega (arith, e)

  -- the words were found, and nothing else changed
  two_words : Found (pass home 4 (theirs ∷ []) [] (4 ∷ [])) (5 ∷ 6 ∷ []) (pass home 4 (theirs ∷ []) [] (4 ∷ 5 ∷ 6 ∷ []))
  two_words = (refl, refl, refl)

  a_word_and_a_call : Found before (6 ∷ []) (pass home 4 (theirs ∷ theirs ∷ []) [] (6 ∷ [])) → ⊥
  a_word_and_a_call f = let e = ap length f.0 in omega (arith, e)

  a_word_and_a_call_of_ours : Found before (6 ∷ []) (pass home 4 (theirs ∷ []) (ours ∷ []) (6 ∷ [])) → ⊥
  a_word_and_a_call_of_ours f = let e = ap length f.1 in omega (arith, e)

  a_word_too_few : Found before (6 ∷ []) (pass home 4 (theirs ∷ []) [] []) → ⊥
  a_word_too_few f = let e = ap length f.2 in omega (arith, e)

  -- another pass had a turn, or began one between the look and the exchange
  an_odd_word : FoundBusy before 7 7 (pass home 4 (theirs ∷ []) [] (7 ∷ []))
  an_odd_word = (omega arith, inl (refl, refl, (refl, refl, refl)))

  a_greater_word : FoundBusy before 6 7 (pass home 4 (theirs ∷ []) [] (6 ∷ 7 ∷ []))
  a_greater_word = (omega arith, inr (refl, omega arith, (refl, refl, refl)))

  -- an even word that stays is no other turn
  an_even_word : (p q : P) → FoundBusy p 2 2 q → ⊥
  an_even_word p q f = ⊎_elim (λ odd. let e = odd.0 in absurd (omega (arith, e))) (λ even. let e = even.1 in absurd (omega (arith, e))) f.1

  a_word_that_falls : (p q : P) → FoundBusy p 4 3 q → ⊥
  a_word_that_falls p q f = ⊎_elim (λ odd. let e = odd.0 in absurd (omega (arith, e))) (λ even. let e = even.1 in absurd (omega (arith, e))) f.1

  an_odd_word_that_grows : (p q : P) → FoundBusy p 3 5 q → ⊥
  an_odd_word_that_grows p q f = ⊎_elim (λ odd. let e = odd.1 in absurd (omega (arith, e))) (λ even. let e = even.0 in absurd (omega (arith, e))) f.1

  busy_behind_the_end : (p q : P) → FoundBusy p (2 ^ 63 + 1) (2 ^ 63 + 1) q → ⊥
  busy_behind_the_end p q f = let e = f.0 in omega (arith, e)

  an_odd_word_found_twice : FoundBusy before 7 7 (pass home 4 (theirs ∷ []) [] (7 ∷ 7 ∷ [])) → ⊥
  an_odd_word_found_twice f = ⊎_elim (λ odd. let e = ap length odd.2.2 in absurd (omega (arith, e))) (λ even. let e = even.0 in absurd (omega (arith, e))) f.1

  a_greater_word_that_is_not_told : FoundBusy before 6 7 (pass home 4 (theirs ∷ []) [] (6 ∷ [])) → ⊥
  a_greater_word_that_is_not_told f = ⊎_elim (λ odd. let e = odd.0 in absurd (omega (arith, e))) (λ even. let e = ap length even.2.2 in absurd (omega (arith, e))) f.1

  -- one call brought the word to its end
  at_its_end : FoundSpent Short (pass home (2 ^ 63 - 2) (theirs ∷ []) [] []) (2 ^ 63) (pass home (2 ^ 63 - 2) (theirs ∷ []) [] (2 ^ 63 ∷ []))
  at_its_end = (
    omega arith,
    (refl, refl, refl),
    record { log = theirs ∷ []; held = 0; counted = refl; one_turn = omega arith; is_legal = omega arith; begins = ([], refl); own = refl },
  )

  before_its_end : (legal : Terms → List Call → Type 0) (p q : P) → FoundSpent legal p (2 ^ 63 - 1) q → ⊥
  before_its_end legal p q s = let e = s.0 in omega (arith, e)

  an_end_that_was_not_found : FoundSpent Short (pass home (2 ^ 63 - 2) (theirs ∷ []) [] []) (2 ^ 63) (pass home (2 ^ 63 - 2) (theirs ∷ []) [] []) → ⊥
  an_end_that_was_not_found s = let e = ap length s.1.2 in omega (arith, e)

  -- no calls bring a word back, and none of them counts for more than 2
  a_word_below_the_start : IsCount (Short terms) (2 ^ 63 + 2) 7 [] [] (2 ^ 63) → ⊥
  a_word_below_the_start c = let e = c.counted in omega (arith, e)

  more_words_than_calls : IsCount (Short terms) 4 7 [] [] 10 → ⊥
  more_words_than_calls c = let e = c.counted in let l = c.is_legal in let h = c.one_turn in omega (arith, e, l, h)

  a_turn_and_two_calls : IsCount (Short terms) 4 7 (theirs ∷ []) [] 9
  a_turn_and_two_calls = record { log = theirs ∷ theirs ∷ []; held = 1; counted = refl; one_turn = omega arith; is_legal = omega arith; begins = (theirs ∷ [], refl); own = refl }

  a_count_that_is_not_legal : (start number word : ℕ) (seen mine : List Call) → IsCount (λ log. ⊥) start number seen mine word → ⊥
  a_count_that_is_not_legal start number word seen mine c = c.is_legal

  fewer_calls_than_were_seen : IsCount (Short terms) 4 7 (theirs ∷ []) [] 4 → ⊥
  fewer_calls_than_were_seen c = let e = c.counted in let b = ap length c.begins.1 in omega (arith, e, b)

  no_call_of_ours : IsCount (Short terms) 4 7 [] (ours ∷ []) 4 → ⊥
  no_call_of_ours c = none c.log (let e = c.counted in omega (arith, e)) c.own
    where
      none : (log : List Call) → length log ≡ 0 → calls_of 7 log ≡ ours ∷ [] → ⊥
      none [] h e = cc e
      none (x ∷ xs) h e = absurd (omega (arith, h))

  -- the op that comes back is the one that was asked
  another_op_comes_back : (p q : P) → Refuses Short p 5 (Busy 7 7 6) q → ⊥
  another_op_comes_back p q r = let e = r.0 in omega (arith, e)

  another_op_comes_back_at_the_end : (p q : P) → Refuses Short p 5 (Spent (2 ^ 63) 6) q → ⊥
  another_op_comes_back_at_the_end p q r = let e = r.0 in omega (arith, e)
