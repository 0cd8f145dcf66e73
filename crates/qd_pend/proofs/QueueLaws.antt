-- What the calls of a queue find and leave, over the vectors of links that they pass through.
use Rattle.std.proofs.Common.{◌≡◌, ℕ, zero, suc, ◌+◌, ◌-◌, ◌^◌, ◌<◌, ◌≤◌, true, false, not, nat_eq, Option, Some, None, List, [], ◌∷◌, ◌++◌, map, append_assoc, length, slice_index, slice_set, add-one, refl, ap, sym, ◌∙◌, arith, subst}
use Rattle.std.proofs.lemmas.List.{append-nil, map-append}
use Rattle.qd_pend.specs.declared.links.Link.{Link}
use Rattle.qd_pend.specs.Slots.{SlotList, has, without, first_in, rest_of, next_in, EachOnce}
use Rattle.qd_pend.specs.Linked.{listed, numbers, nexts, prevs, slot_of, IsChain}
use Rattle.qd_pend.proofs.ListLaws.{without-first}
use Rattle.qd_pend.proofs.ChainLaws.{chain-push, chain-cut, chain-grow, has-links, has-beyond, after-links, prev-within, next-within}

-- a chain of what it lists, seen as the list
pub as_list : (links : List Link) (list : List ℕ) → listed links ≡ list → IsChain links (listed links) → IsChain links list
as_list links list e c = subst (λ (xs : List ℕ). IsChain links xs) e c

pub contains-within : (links : List Link) (list : List ℕ) (s r : ℕ) → IsChain links list → r ≡ slice_index (nexts links) (s + 1) → s + 1 < length links → not (nat_eq r (s + 1)) ≡ has list s
contains-within links list s r c e w = rw (e, add-one s) (has-links links list s c (omega arith))

pub contains-beyond : (links : List Link) (list : List ℕ) (s : ℕ) → IsChain links list → length links ≤ s + 1 → false ≡ has list s
contains-beyond links list s c w = sym (has-beyond links list s c (omega arith))

pub next_after-there : (links : List Link) (list : List ℕ) (s r : ℕ) (o : Option ℕ) → IsChain links list → has list s ≡ true → r ≡ slice_index (nexts links) (s + 1) → o ≡ slot_of r → o ≡ next_in list s
next_after-there links list s r o c h e k = k ∙ ap slot_of (e ∙ ap (slice_index (nexts links)) (add-one s)) ∙ after-links links list s c h

-- a push: the last place is joined with the slot's, and that with the root
pub pushed : (l0 l1 l2 : List Link) (list : List ℕ) (s last : ℕ) → IsChain l0 list → s < length l0 - 1 → has list s ≡ false → last ≡ slice_index (prevs l0) 0 →
    nexts l1 ≡ slice_set (nexts l0) last (s + 1) → prevs l1 ≡ slice_set (prevs l0) (s + 1) last → nexts l2 ≡ slice_set (nexts l1) (s + 1) 0 → prevs l2 ≡ slice_set (prevs l1) 0 (s + 1) →
    length l2 ≡ length l0 → IsChain l2 (list ++ s ∷ [])
pushed l0 l1 l2 list s last c w absent e n1 p1 n2 p2 len =
    chain-push l0 l2 list s c (omega arith) absent len
    (n2 ∙ ap (λ xs. slice_set xs (s + 1) 0) (n1 ∙ ap (λ p. slice_set (nexts l0) p (s + 1)) e) ∙ ap (λ p. slice_set (slice_set (nexts l0) (slice_index (prevs l0) 0) p) p 0) (add-one s))
    (p2 ∙ ap (λ xs. slice_set xs 0 (s + 1)) (p1 ∙ ap (λ p. slice_set (prevs l0) (s + 1) p) e) ∙ ap (λ p. slice_set (slice_set (prevs l0) p (slice_index (prevs l0) 0)) 0 p) (add-one s))

-- a cut: the neighbours are joined, and the slot's place with itself
pub cut : (l0 l1 l2 : List Link) (list : List ℕ) (s before after : ℕ) → IsChain l0 list → has list s ≡ true → before ≡ slice_index (prevs l0) (s + 1) → after ≡ slice_index (nexts l0) (s + 1) →
    nexts l1 ≡ slice_set (nexts l0) before after → prevs l1 ≡ slice_set (prevs l0) after before → nexts l2 ≡ slice_set (nexts l1) (s + 1) (s + 1) → prevs l2 ≡ slice_set (prevs l1) (s + 1) (s + 1) →
    length l2 ≡ length l0 → IsChain l2 (without list s)
cut l0 l1 l2 list s before after c there b a n1 p1 n2 p2 len =
    let bs = b ∙ ap (slice_index (prevs l0)) (add-one s) in
    let as' = a ∙ ap (slice_index (nexts l0)) (add-one s) in
    chain-cut l0 l2 list s c there len
    (n2 ∙ ap (λ xs. slice_set xs (s + 1) (s + 1)) (n1 ∙ ap (λ p. slice_set (nexts l0) p after) bs ∙ ap (slice_set (nexts l0) (slice_index (prevs l0) (suc s))) as') ∙ ap (λ p. slice_set (slice_set (nexts l0) (slice_index (prevs l0) (suc s)) (slice_index (nexts l0) (suc s))) p p) (add-one s))
    (p2 ∙ ap (λ xs. slice_set xs (s + 1) (s + 1)) (p1 ∙ ap (λ p. slice_set (prevs l0) p before) as' ∙ ap (slice_set (prevs l0) (slice_index (nexts l0) (suc s))) bs) ∙ ap (λ p. slice_set (slice_set (prevs l0) (slice_index (nexts l0) (suc s)) (slice_index (prevs l0) (suc s))) p p) (add-one s))

pub before-within : (links : List Link) (list : List ℕ) (s r : ℕ) → IsChain links list → has list s ≡ true → r ≡ slice_index (prevs links) (s + 1) → r < length links
before-within links list s r c h e = let z = prev-within links list s c h in let f = e ∙ ap (slice_index (prevs links)) (add-one s) in omega arith

pub after-within : (links : List Link) (list : List ℕ) (s r : ℕ) → IsChain links list → has list s ≡ true → r ≡ slice_index (nexts links) (s + 1) → r < length links
after-within links list s r c h e = let z = next-within links list s c h in let f = e ∙ ap (slice_index (nexts links)) (add-one s) in omega arith

-- the list without its first
pub without-front : (list : List ℕ) (s : ℕ) → EachOnce list → Some s ≡ first_in list → without list s ≡ rest_of list
unfolding EachOnce
without-front [] s once e = cc
without-front (u ∷ rest) s once e = let same_one : s ≡ u = cc in subst (λ (x : ℕ). without (u ∷ rest) x ≡ rest) (sym same_one) (without-first u rest once.0)

numbers-more : (from count : ℕ) → numbers from (count + 1) ≡ numbers from count ++ (from + count) ∷ []
unfolding numbers
numbers-more from zero = ap (λ n. n ∷ []) (omega arith)
numbers-more from (suc count) = rw (add-one (suc count)) (ap (λ xs. from ∷ xs) (ap (numbers (suc from)) (sym (add-one count)) ∙ numbers-more (suc from) count ∙ ap (λ n. numbers (suc from) count ++ n ∷ []) (omega arith)))

-- one more place that is its own
pub grown : (f : Link → ℕ) (l0 l1 : List Link) (before : List ℕ) (from place : ℕ) (one : Link) → f one ≡ place → from ≤ place → map f l0 ≡ before ++ numbers from (place - from) → l1 ≡ l0 ++ one ∷ [] →
    map f l1 ≡ before ++ numbers from (place + 1 - from)
grown f l0 l1 before from place one e le was is =
    let count : place + 1 - from ≡ (place - from) + 1 = omega arith in
    let last : from + (place - from) ≡ place = omega arith in
    ap (map f) is ∙ map-append f l0 (one ∷ []) ∙ ap (λ xs. xs ++ f one ∷ []) was ∙ ap (λ n. (before ++ numbers from (place - from)) ++ n ∷ []) (e ∙ sym last)
    ∙ append_assoc before (numbers from (place - from)) ((from + (place - from)) ∷ []) ∙ ap (λ xs. before ++ xs) (sym (numbers-more from (place - from)) ∙ ap (numbers from) (sym count))

pub none-yet : (before : List ℕ) (from : ℕ) → before ≡ before ++ numbers from (from - from)
unfolding numbers
none-yet before from = let e : from - from ≡ 0 = omega arith in rw e (sym (append-nil before))

-- the links after a growth
pub grown-chain : (l0 l1 l2 : List Link) (list : List ℕ) (len places : ℕ) → IsChain l0 list → l1 ≡ l0 → length l0 ≡ len → len ≤ places → places ≤ 2 ^ 32 →
    nexts l2 ≡ nexts l1 ++ numbers len (places - len) → prevs l2 ≡ prevs l1 ++ numbers len (places - len) → length l2 ≡ places → IsChain l2 list
grown-chain l0 l1 l2 list len places c same l le few n p m =
    chain-grow l0 l2 list (places - len) c (omega arith) (n ∙ ap (λ ls. nexts ls ++ numbers len (places - len)) same ∙ ap (λ k. nexts l0 ++ numbers k (places - len)) (sym l)) (p ∙ ap (λ ls. prevs ls ++ numbers len (places - len)) same ∙ ap (λ k. prevs l0 ++ numbers k (places - len)) (sym l)) (omega arith)

-- the queue with another list that is its own
pub as_shown : (q : SlotList) (list : List ℕ) → q.list ≡ list → (let other : SlotList = record { list = list; slots = q.slots } in q ≡ other)
as_shown q list e = ap (λ xs. let x : SlotList = record { list = xs; slots = q.slots } in x) e

-- where there is no first, nothing is left
pub nothing-left : (q : SlotList) → None ≡ first_in q.list → (let other : SlotList = record { list = rest_of q.list; slots = q.slots } in q ≡ other)
nothing-left q e = as_shown q (rest_of q.list) (none q.list e)
  where
    none : (list : List ℕ) → None ≡ first_in list → list ≡ rest_of list
    none [] h = refl
    none (s ∷ rest) h = cc
