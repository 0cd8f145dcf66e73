-- Counting fresh keys one by one, and what the counts say of a table.
use Rattle.std.proofs.Common.{◌≡◌, ℕ, suc, ◌+◌, ◌<◌, ◌≤◌, Bool, true, false, ◌&&◌, ◌||◌, if◌then◌else◌, nat_lt, Option, Some, None, is_some, Result, Ok, Err, OnOk, IfErr, List, [], ◌∷◌, length, map, drop, slice_index_or, subst, refl, ap, sym, ◌∙◌, arith}
use Rattle.std.proofs.lemmas.Bool.Decides.{nat_tests}
use Rattle.std.proofs.lemmas.List.{drop_more, length-map}
use Rattle.std.proofs.Math.ListN.{drop_of_length-le}
use Rattle.std.specs.List.{filter}
use Rattle.qd_scheme.specs.declared.key.Key.{Key}
use Rattle.qd_scheme.specs.Keys.{key_eq}
use Rattle.qd_scheme.proofs.KeyLaws.{key_eq-true}
use Rattle.qd_sub.specs.declared.sub.Sub.{Sub}
use Rattle.qd_sub.specs.Holding.{has_key, fresh}
use Rattle.qd_sub.proofs.OrderLaws.{any-filter}
use Rattle.qd_slots.specs.Names.{slot_in, slot_from, named_in}
use Rattle.qd_slots.specs.Holds.{Holdings, hold_at, is_held}
use Rattle.qd_table.specs.declared.table.SubFault.{SubFault}
use Rattle.qd_table.specs.declared.table.SubFault.TheVariants.{TooManyKeys, TooManySubs, NoMemory}
use Rattle.qd_table.specs.Tables.{Table, slot_for, keys_in, hold_for, holds_by, keys_held, pairs_in, too_many_keys, too_many_subs, fault_of}
use Rattle.qd_table.specs.Steps.{IsCause}
use Rattle.qd_table.specs.Judging.{fresh_count, has_slot, holds_key, seen_or, verdict_for, verdict_of}
use Rattle.qd_table.specs.Stored.{Store, table_of, IsStored}
use Rattle.qd_table.proofs.TableLaws.{by}

pub count-same : (p q : Key → Bool) (ks : List Key) → ((j : Key) → p j ≡ q j) → fresh_count p ks ≡ fresh_count q ks
unfolding fresh_count
count-same p q [] h = refl
count-same p q (k ∷ ks) h =
    ap (λ c. if c then fresh_count p ks else suc (fresh_count (λ j. key_eq j k || p j) ks)) (h k)
    ∙ ap (λ n. if q k then n else suc (fresh_count (λ j. key_eq j k || p j) ks)) (count-same p q ks h)
    ∙ ap (λ n. if q k then fresh_count q ks else suc n) (count-same (λ j. key_eq j k || p j) (λ j. key_eq j k || q j) ks (λ j. ap (λ c. key_eq j k || c) (h j)))

pub count-fresh : (held ks : List Key) → length (fresh held ks) ≡ fresh_count (has_key held) ks
unfolding fresh fresh_count
count-fresh held [] = refl
count-fresh held (k ∷ ks) = elim (has_key held k) as (λ c. length (if c then fresh held ks else k ∷ fresh (k ∷ held) ks) ≡ (if c then fresh_count (has_key held) ks else suc (fresh_count (λ j. key_eq j k || has_key held j) ks))) [ true ↦ count-fresh held ks | false ↦ ap suc (count-fresh (k ∷ held) ks) ]

pub count-≤ : (p : Key → Bool) (ks : List Key) → fresh_count p ks ≤ length ks
unfolding fresh_count
count-≤ p [] = omega arith
count-≤ p (k ∷ ks) = elim (p k) as (λ c. (if c then fresh_count p ks else suc (fresh_count (λ j. key_eq j k || p j) ks)) ≤ suc (length ks)) [ true ↦ (let r = count-≤ p ks in omega (arith, r)) | false ↦ (let r = count-≤ (λ j. key_eq j k || p j) ks in omega (arith, r)) ]

-- a key that was seen counts no more
pub count-seen : (seen : List Key) (p : Key → Bool) (k : Key) (ks : List Key) → has_key seen k ≡ true → fresh_count (seen_or seen p) ks ≡ fresh_count (seen_or seen p) (k ∷ ks)
unfolding fresh_count
count-seen seen p k ks h = sym (ap (λ c. if c || p k then fresh_count (seen_or seen p) ks else suc (fresh_count (λ j. key_eq j k || seen_or seen p j) ks)) h)

-- a key that was not, once
pub count-noted : (seen seen' : List Key) (p : Key → Bool) (k : Key) (ks : List Key) → has_key seen k ≡ false → ((q : Key) → has_key seen' q ≡ (key_eq q k || has_key seen q)) → (if p k then 0 else 1) + fresh_count (seen_or seen' p) ks ≡ fresh_count (seen_or seen p) (k ∷ ks)
unfolding fresh_count
count-noted seen seen' p k ks h more =
    let go : (c : Bool) → p k ≡ c → (if c then 0 else 1) + fresh_count (seen_or seen' p) ks ≡ (if has_key seen k || c then fresh_count (seen_or seen p) ks else suc (fresh_count (λ j. key_eq j k || seen_or seen p j) ks)) =
    elim [
      | true ↦ λ e. (let same_count = count-same (seen_or seen' p) (seen_or seen p) ks (λ j. ap (λ c. c || p j) (more j) ∙ known j (key_eq j k) refl e) in
          omega (arith, same_count) ∙ sym (ap (λ c. if c || true then fresh_count (seen_or seen p) ks else suc (fresh_count (λ j. key_eq j k || seen_or seen p j) ks)) h))
      | false ↦ λ e. (let same_count = count-same (seen_or seen' p) (λ j. key_eq j k || seen_or seen p j) ks (λ j. ap (λ c. c || p j) (more j) ∙ or-assoc (key_eq j k) (has_key seen j) (p j)) in
          omega (arith, same_count) ∙ sym (ap (λ c. if c || false then fresh_count (seen_or seen p) ks else suc (fresh_count (λ j. key_eq j k || seen_or seen p j) ks)) h))
    ] in
    go (p k) refl
  where
    or-assoc : (a b c : Bool) → ((a || b) || c) ≡ (a || (b || c))
    or-assoc true b c = refl
    or-assoc false b c = refl

    or-true : (b : Bool) → (b || true) ≡ true
    or-true true = refl
    or-true false = refl

    known : (j : Key) (c : Bool) → key_eq j k ≡ c → p k ≡ true → ((c || has_key seen j) || p j) ≡ (has_key seen j || p j)
    known j true e f = sym (ap (λ x. has_key seen j || x) (ap p (key_eq-true j k e) ∙ f) ∙ or-true (has_key seen j))
    known j false e f = refl

pub count-start : (seen : List Key) (p : Key → Bool) (ks : List Key) → seen ≡ [] → fresh_count (seen_or seen p) ks ≡ fresh_count p ks
count-start seen p ks e = count-same (seen_or seen p) p ks (λ j. ap (λ xs. has_key xs j || p j) e)

-- numbers within the limits
pub verdict-few : (keys pairs : ℕ) → keys ≤ 16384 → pairs ≤ 262144 → verdict_for keys pairs ≡ Ok tt
verdict-few keys pairs p q = ap (λ c. if c then Err TooManyKeys else if nat_lt 262144 pairs then Err TooManySubs else Ok tt) (not-less 16384 keys p) ∙ ap (λ c. if c then Err TooManySubs else Ok tt) (not-less 262144 pairs q)
  where
    not-less : (m n : ℕ) → n ≤ m → nat_lt m n ≡ false
    not-less m n l = grind (arith, nat_tests)

-- the keys that have a slot
named-from : (n : ℕ) (names : List (Option Key)) (k : Key) → has_key (named_in names) k ≡ is_some (slot_from n names k)
unfolding slot_from
named-from n [] k = refl
named-from n (None ∷ names) k = named-from (suc n) names k
named-from n (Some j ∷ names) k =
    let rest = named-from (suc n) names k in
    elim (key_eq k j) as (λ c. (c || has_key (named_in names) k) ≡ is_some (if c then Some n else slot_from (suc n) names k)) [ true ↦ refl | false ↦ rest ]

pub named-has : (names : List (Option Key)) (k : Key) → has_key (named_in names) k ≡ has_slot names k
named-has names k = named-from 0 names k

held-has : (s : Store) (a : ℕ) (k : Key) → has_key (filter (holds_by (table_of s) a) (named_in s.names.names)) k ≡ holds_key s.names.names s.holdings.cells a k
unfolding holds_by slot_for hold_for
held-has s a k =
    any-filter key_eq key_eq-true (holds_by (table_of s) a) (named_in s.names.names) k
    ∙ ap (λ c. holds_by (table_of s) a k && c) (named-has s.names.names k)
    ∙ both (slot_in s.names.names k)
  where
    and-true : (b : Bool) → (b && true) ≡ b
    and-true true = refl
    and-true false = refl

    both : (o : Option ℕ) → (by o (λ slot. is_held (hold_at s.holdings.cells slot a)) false && is_some o) ≡ by o (λ slot. is_held (hold_at s.holdings.cells slot a)) false
    both None = refl
    both (Some slot) = and-true (is_held (hold_at s.holdings.cells slot a))

-- the judgement of the parts is that of the table
pub keys-judged : {s : Store} → IsStored s → (keys : List Key) → too_many_keys (table_of s) keys ≡ nat_lt 16384 (s.named + fresh_count (has_slot s.names.names) keys)
unfolding too_many_keys keys_in
keys-judged {s} inv keys =
    ap (λ n. nat_lt 16384 (length (named_in s.names.names) + n)) (count-fresh (named_in s.names.names) keys ∙ count-same (has_key (named_in s.names.names)) (has_slot s.names.names) keys (named-has s.names.names))
    ∙ ap (λ n. nat_lt 16384 (n + fresh_count (has_slot s.names.names) keys)) (sym inv.counted)

pub subs-judged : {s : Store} → IsStored s → (a : ℕ) (keys : List Key) → too_many_subs (table_of s) a keys ≡ nat_lt 262144 (s.holdings.pairs + fresh_count (holds_key s.names.names s.holdings.cells a) keys)
unfolding too_many_subs keys_held keys_in pairs_in
subs-judged {s} inv a keys =
    ap (λ n. nat_lt 262144 (s.holdings.pairs + n)) (count-fresh (filter (holds_by (table_of s) a) (named_in s.names.names)) keys
    ∙ count-same (has_key (filter (holds_by (table_of s) a) (named_in s.names.names))) (holds_key s.names.names s.holdings.cells a) keys (held-has s a))

fault-is : (t : Table) (a : ℕ) (subs : List Sub) (c d : Bool) → too_many_keys t (map (λ s. s.key) subs) ≡ c → too_many_subs t a (map (λ s. s.key) subs) ≡ d → fault_of t a subs ≡ (if c then Some TooManyKeys else if d then Some TooManySubs else None)
unfolding fault_of
fault-is t a subs c d e f = ap (λ x. if x then Some TooManyKeys else if too_many_subs t a (map (λ s. s.key) subs) then Some TooManySubs else None) e ∙ ap (λ x. if c then Some TooManyKeys else if x then Some TooManySubs else None) f

verdict-is : (s : Store) (a : ℕ) (keys : List Key) → verdict_of s.names.names s.named s.holdings a keys
    ≡ (if nat_lt 16384 (s.named + fresh_count (has_slot s.names.names) keys) then Err TooManyKeys else if nat_lt 262144 (s.holdings.pairs + fresh_count (holds_key s.names.names s.holdings.cells a) keys) then Err TooManySubs else Ok tt)
unfolding verdict_of
verdict-is s a keys = refl

fault-none : (f : SubFault) → (let o : Option SubFault = Some f in o ≡ None) → ⊥
fault-none f h = cc

ok-err : (x : Unit {0}) (f : SubFault) → (let r : Result (Unit {0}) SubFault = Ok x in let q : Result (Unit {0}) SubFault = Err f in r ≡ q) → ⊥
ok-err x f h = cc

err-ok : (f : SubFault) → (let r : Result (Unit {0}) SubFault = Err f in let q : Result (Unit {0}) SubFault = Ok tt in r ≡ q) → ⊥
err-ok f h = cc

keys-subs : (let r : Result (Unit {0}) SubFault = Err TooManyKeys in let q : Result (Unit {0}) SubFault = Err TooManySubs in r ≡ q) → ⊥
keys-subs h = cc

memory-keys : (let r : Result (Unit {0}) SubFault = Err NoMemory in let q : Result (Unit {0}) SubFault = Err TooManyKeys in r ≡ q) → ⊥
memory-keys h = cc

memory-subs : (let r : Result (Unit {0}) SubFault = Err NoMemory in let q : Result (Unit {0}) SubFault = Err TooManySubs in r ≡ q) → ⊥
memory-subs h = cc

pub judged-ok : {s : Store} → IsStored s → (a : ℕ) (subs : List Sub) (r : Result (Unit {0}) SubFault) → r ≡ verdict_of s.names.names s.named s.holdings a (map (λ x. x.key) subs) → OnOk r (fault_of (table_of s) a subs ≡ None)
judged-ok {s} inv a subs r e = go r (nat_lt 16384 (s.named + fresh_count (has_slot s.names.names) (map (λ x. x.key) subs))) (nat_lt 262144 (s.holdings.pairs + fresh_count (holds_key s.names.names s.holdings.cells a) (map (λ x. x.key) subs))) (keys-judged inv (map (λ x. x.key) subs)) (subs-judged inv a (map (λ x. x.key) subs)) (e ∙ verdict-is s a (map (λ x. x.key) subs))
  where
    go : (r : Result (Unit {0}) SubFault) (c d : Bool) → too_many_keys (table_of s) (map (λ x. x.key) subs) ≡ c → too_many_subs (table_of s) a (map (λ x. x.key) subs) ≡ d → r ≡ (if c then Err TooManyKeys else if d then Err TooManySubs else Ok tt) → OnOk r (fault_of (table_of s) a subs ≡ None)
    go (Err x) c d p q h = tt
    go (Ok x) true d p q h = absurd (ok-err x TooManyKeys h)
    go (Ok x) false true p q h = absurd (ok-err x TooManySubs h)
    go (Ok x) false false p q h = fault-is (table_of s) a subs false false p q

pub judged-err : {s : Store} → IsStored s → (a : ℕ) (subs : List Sub) (r : Result (Unit {0}) SubFault) → r ≡ verdict_of s.names.names s.named s.holdings a (map (λ x. x.key) subs) → IfErr r (λ fault. IsCause (table_of s) a subs fault)
judged-err {s} inv a subs r e = go r (nat_lt 16384 (s.named + fresh_count (has_slot s.names.names) (map (λ x. x.key) subs))) (nat_lt 262144 (s.holdings.pairs + fresh_count (holds_key s.names.names s.holdings.cells a) (map (λ x. x.key) subs))) (keys-judged inv (map (λ x. x.key) subs)) (subs-judged inv a (map (λ x. x.key) subs)) (e ∙ verdict-is s a (map (λ x. x.key) subs))
  where
    go : (r : Result (Unit {0}) SubFault) (c d : Bool) → too_many_keys (table_of s) (map (λ x. x.key) subs) ≡ c → too_many_subs (table_of s) a (map (λ x. x.key) subs) ≡ d → r ≡ (if c then Err TooManyKeys else if d then Err TooManySubs else Ok tt) → IfErr r (λ fault. IsCause (table_of s) a subs fault)
    go (Ok x) c d p q h = tt
    go (Err TooManyKeys) true d p q h = fault-is (table_of s) a subs true d p q
    go (Err TooManyKeys) false true p q h = absurd (keys-subs h)
    go (Err TooManyKeys) false false p q h = absurd (err-ok TooManyKeys h)
    go (Err TooManySubs) true d p q h = absurd (keys-subs (sym h))
    go (Err TooManySubs) false true p q h = fault-is (table_of s) a subs false true p q
    go (Err TooManySubs) false false p q h = absurd (err-ok TooManySubs h)
    go (Err NoMemory) true d p q h = absurd (memory-keys h)
    go (Err NoMemory) false true p q h = absurd (memory-subs h)
    go (Err NoMemory) false false p q h = absurd (err-ok NoMemory h)

-- one step of the count
pub count-more : (seen seen' : List Key) (p : Key → Bool) (k : Key) (ks : List Key) (n m : ℕ) (known : Bool) → has_key seen k ≡ false → ((q : Key) → has_key seen' q ≡ (key_eq q k || has_key seen q)) → known ≡ p k → m ≡ (if known then 0 else 1) →
    (n + m) + fresh_count (seen_or seen' p) ks ≡ n + fresh_count (seen_or seen p) (k ∷ ks)
count-more seen seen' p k ks n m known h more e f =
    let step = count-noted seen seen' p k ks h more in
    let g = f ∙ ap (λ c. if c then 0 else 1) e in
    omega (arith, step, g)

pub count-loop : (p q : Key → Bool) (subs : List Sub) (i : ℕ) (s : Sub) (n m : ℕ) → i < length subs → s ≡ slice_index_or subs i s → m + fresh_count q (map (λ x. x.key) (drop (i + 1) subs)) ≡ n + fresh_count p (s.key ∷ map (λ x. x.key) (drop (i + 1) subs)) →
    m + fresh_count q (map (λ x. x.key) (drop (i + 1) subs)) ≡ n + fresh_count p (map (λ x. x.key) (drop i subs))
count-loop p q subs i s n m l e h = h ∙ ap (λ xs. n + fresh_count p (map (λ x. x.key) xs)) (ap (λ x. x ∷ drop (i + 1) subs) e ∙ sym (drop_more subs i s l))

pub count-done : (p : Key → Bool) (subs : List Sub) (i n : ℕ) → length subs ≤ i → n ≡ n + fresh_count p (map (λ x. x.key) (drop i subs))
unfolding fresh_count
count-done p subs i n l = let e : n ≡ n + 0 = omega arith in e ∙ ap (λ xs. n + fresh_count p (map (λ (x : Sub). x.key) xs)) (sym (drop_of_length-le subs {i = i} l))

pub judged-few : (names : List (Option Key)) (named : ℕ) (holdings : Holdings) (a : ℕ) (subs : List Sub) → named + length subs ≤ 16384 → holdings.pairs + length subs ≤ 262144 → verdict_of names named holdings a (map (λ s. s.key) subs) ≡ Ok tt
unfolding verdict_of
judged-few names named holdings a subs p q =
    let m = length-map subs (λ (s : Sub). s.key) in
    let x = count-≤ (has_slot names) (map (λ s. s.key) subs) in
    let y = count-≤ (holds_key names holdings.cells a) (map (λ s. s.key) subs) in
    verdict-few (named + fresh_count (has_slot names) (map (λ s. s.key) subs)) (holdings.pairs + fresh_count (holds_key names holdings.cells a) (map (λ s. s.key) subs)) (omega (arith, m, x, p)) (omega (arith, m, y, q))

pub judged-counted : (names : List (Option Key)) (named : ℕ) (holdings : Holdings) (a : ℕ) (keys : List Key) (n m pairs : ℕ) → n ≡ fresh_count (has_slot names) keys → m ≡ fresh_count (holds_key names holdings.cells a) keys → pairs ≡ holdings.pairs → verdict_of names named holdings a keys ≡ verdict_for (named + n) (pairs + m)
unfolding verdict_of
judged-counted names named holdings a keys n m pairs e f g =
    ap (λ x. verdict_for (named + x) (holdings.pairs + fresh_count (holds_key names holdings.cells a) keys)) (sym e) ∙ ap (λ x. verdict_for (named + n) (holdings.pairs + x)) (sym f) ∙ ap (λ x. verdict_for (named + n) (x + m)) (sym g)

-- the judgement, by its answer
pub judged-cause : {s : Store} {now : Table} → IsStored s → table_of s ≡ now → (a agent : ℕ) (subs : List Sub) (r : Result (Unit {0}) SubFault) (fault : SubFault) → a ≡ agent → r ≡ verdict_of s.names.names s.named s.holdings a (map (λ x. x.key) subs) → r ≡ Err fault → IsCause now agent subs fault
judged-cause {s} {now} inv e a agent subs r fault n h k =
    subst (λ (b : ℕ). IsCause now b subs fault) n (subst (λ (t : Table). IsCause t a subs fault) e (subst (λ (q : Result (Unit {0}) SubFault). IfErr q (λ f. IsCause (table_of s) a subs f)) k (judged-err inv a subs r h)))

pub judged-allowed : {s : Store} {now : Table} → IsStored s → table_of s ≡ now → (a agent : ℕ) (subs : List Sub) (r : Result (Unit {0}) SubFault) (x : Unit {0}) → a ≡ agent → r ≡ verdict_of s.names.names s.named s.holdings a (map (λ x. x.key) subs) → r ≡ Ok x → fault_of now agent subs ≡ None
judged-allowed {s} {now} inv e a agent subs r x n h k =
    subst (λ (b : ℕ). fault_of now b subs ≡ None) n (subst (λ (t : Table). fault_of t a subs ≡ None) e (subst (λ (q : Result (Unit {0}) SubFault). OnOk q (fault_of (table_of s) a subs ≡ None)) k (judged-ok inv a subs r h)))

-- what is allowed leaves few keys and pairs
not-more : (m n : ℕ) → nat_lt m n ≡ false → n ≤ m
not-more m n h = grind (arith, nat_tests)

allowed-both : (t : Table) (a : ℕ) (subs : List Sub) → fault_of t a subs ≡ None → (too_many_keys t (map (λ s. s.key) subs) ≡ false) × (too_many_subs t a (map (λ s. s.key) subs) ≡ false)
allowed-both t a subs h =
    let go : (c d : Bool) → too_many_keys t (map (λ s. s.key) subs) ≡ c → too_many_subs t a (map (λ s. s.key) subs) ≡ d → (too_many_keys t (map (λ s. s.key) subs) ≡ false) × (too_many_subs t a (map (λ s. s.key) subs) ≡ false) =
    elim [
      | true ↦ λ d e f. absurd (fault-none TooManyKeys (sym (fault-is t a subs true d e f) ∙ h))
      | false ↦ elim [
        | true ↦ λ e f. absurd (fault-none TooManySubs (sym (fault-is t a subs false true e f) ∙ h))
        | false ↦ λ e f. (e, f)
      ]
    ] in
    go (too_many_keys t (map (λ s. s.key) subs)) (too_many_subs t a (map (λ s. s.key) subs)) refl refl

pub allowed-keys : (t : Table) (a : ℕ) (subs : List Sub) → fault_of t a subs ≡ None → length (keys_in t) ≤ 16384
unfolding too_many_keys
allowed-keys t a subs h = let l = not-more 16384 (length (keys_in t) + length (fresh (keys_in t) (map (λ s. s.key) subs))) (allowed-both t a subs h).0 in omega (arith, l)

pub allowed-pairs : (t : Table) (a : ℕ) (subs : List Sub) → fault_of t a subs ≡ None → pairs_in t ≤ 262144
unfolding too_many_subs
allowed-pairs t a subs h = let l = not-more 262144 (pairs_in t + length (fresh (keys_held t a) (map (λ s. s.key) subs))) (allowed-both t a subs h).1 in omega (arith, l)
