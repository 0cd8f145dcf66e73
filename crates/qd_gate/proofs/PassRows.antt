-- Rows of the definitions of passes: what an answer, a refusal and a look tell, and what they rule out.
use Rattle.std.proofs.Common.{arith, ◌≡◌, ◌+◌, ◌*◌, ◌<◌, ◌≤◌, ◌^◌, ℕ, List, [], ◌∷◌, ◌++◌, length, inl, inr, refl}
use Rattle.std.specs.Prelude.{All}
use mathlib.Core.List.{IsPrefix}
use Rattle.qd_gate.specs.declared.machine.Entry.{Entry}
use Rattle.qd_gate.specs.declared.machine.Terms.{Terms}
use Rattle.qd_gate.specs.declared.gate.NoTurn.TheVariants.{Busy, Spent}
use Rattle.qd_gate.specs.Logs.{entry, calls_of, EachFollows, IsCount}
use Rattle.qd_gate.specs.Passes.{Pass, IsSamePass, Answers, Found, FoundBusy, FoundSpent}
use Rattle.qd_gate.specs.Refusals.{Refuses}

-- the calls of a pass are those of its number, in order
calls_of_one : calls_of {O = ℕ} {R = ℕ} 1 (entry 1 10 20 ∷ entry 2 11 21 ∷ entry 1 12 22 ∷ []) ≡ entry 1 10 20 ∷ entry 1 12 22 ∷ []
calls_of_one = refl

-- each call is judged by what stands before it alone
two_follow : {O R : Type 0} (follows : List (Entry O R) → Entry O R → Type 0) (a b : Entry O R) → EachFollows follows [] (a ∷ b ∷ []) → follows [] a × follows (a ∷ []) b
two_follow follows a b e = (e.0, e.1.0)

module _ {O R : Type 0} (legal : List (Entry O R) → Type 0) (start number word : ℕ) (seen mine : List (Entry O R)) where
  -- a word is two for each call, and one more at most
  count_one_turn : (c : IsCount legal start number seen mine word) → (start + 2 * length c.log ≤ word) × (word ≤ start + 2 * length c.log + 1)
  count_one_turn c = let a = c.counted in let b = c.one_turn in (omega (arith, a, b), omega (arith, a, b))

  count_legal : (c : IsCount legal start number seen mine word) → legal c.log × IsPrefix seen c.log × (calls_of number c.log ≡ mine)
  count_legal c = (c.is_legal, c.begins, c.own)

module _ {O R : Type 0} (legal : Terms → List (Entry O R) → Type 0) (p q : Pass O R) (op : O) (reply : R) where
  -- a pass stays of its gate, its number and its terms
  same_pass : IsSamePass p q → (q.home ≡ p.home) × (q.number ≡ p.number) × (q.terms ≡ p.terms)
  same_pass s = s

  -- a call that was answered is the last of the log that is seen, and one more of the pass
  answered_last : (a : Answers legal p op reply q) → q.seen ≡ (p.seen ++ a.between) ++ entry p.number op reply ∷ []
  answered_last a = a.seen

  answered_mine : Answers legal p op reply q → q.mine ≡ p.mine ++ entry p.number op reply ∷ []
  answered_mine a = a.mine

  answered_own : Answers legal p op reply q → (calls_of q.number q.seen ≡ q.mine) × legal q.terms q.seen
  answered_own a = (a.own, a.is_legal)

  -- no gate that is spent answers
  answered_small : Answers legal p op reply q → All (λ n. n < 2 ^ 63) q.looked
  answered_small a = a.small

  -- a look leaves the log and the calls as they are, and puts the word behind those that were found
  found : (word : ℕ) → Found p (word ∷ []) q → (q.seen ≡ p.seen) × (q.mine ≡ p.mine) × (q.looked ≡ p.looked ++ word ∷ [])
  found word f = f

  -- an even word that stands still is no sign of another's turn, nor is a word at its end
  busy_at_rest : FoundBusy p 4 4 q → ⊥
  busy_at_rest (first, inl odd) = let e = odd.0 in absurd (cc)
  busy_at_rest (first, inr even) = omega (arith, even.1)

  busy_at_an_odd_word : FoundBusy p 5 6 q → ⊥
  busy_at_an_odd_word (first, inl odd) = let e = odd.1 in omega (arith, e)
  busy_at_an_odd_word (first, inr even) = let e = even.0 in absurd (cc)

  busy_at_the_end : (then : ℕ) → FoundBusy p (2 ^ 63) then q → ⊥
  busy_at_the_end then b = omega (arith, b.0)

  -- a gate is spent at the end of its words alone
  spent_early : (word : ℕ) → word < 2 ^ 63 → FoundSpent legal p word q → ⊥
  spent_early word small s = omega (arith, small, s.0)

  spent_found : (word : ℕ) → FoundSpent legal p word q → (q.looked ≡ p.looked ++ word ∷ []) × IsCount (legal p.terms) p.start p.number p.seen p.mine word
  spent_found word s = (s.1.2, s.2)

  -- the op comes back as it was, and the words say why
  busy_back : (first then : ℕ) (back : O) → Refuses legal p op (Busy first then back) q → (back ≡ op) × FoundBusy p first then q
  busy_back first then back r = r

  spent_back : (word : ℕ) (back : O) → Refuses legal p op (Spent word back) q → (back ≡ op) × FoundSpent legal p word q
  spent_back word back r = r
