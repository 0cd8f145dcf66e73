-- The numbers by which an Add is judged are those of the held keys and pairs of the moment, for any definition of held that agrees with the table.
use Rattle.std.proofs.Common.{◌≡◌, ◌⊎◌, inl, inr, ℕ, suc, ◌+◌, Bool, true, false, ◌&&◌, ◌||◌, not, if◌then◌else◌, nat_lt, Option, Some, None, is_some, List, [], ◌∷◌, length, map, refl, ap, sym, ◌∙◌, arith}
use Rattle.std.specs.List.{list_any, filter}
use Rattle.std.proofs.lemmas.Bool.{not-true}
use Rattle.qd_scheme.specs.declared.key.Key.{Key}
use Rattle.qd_scheme.specs.Keys.{key_eq}
use Rattle.qd_scheme.proofs.KeyLaws.{key_eq-true, key_eq-same, key_eq-comm}
use Rattle.qd_sub.specs.declared.sub.Sub.{Sub}
use Rattle.qd_sub.specs.Acts.{Moment}
use Rattle.qd_sub.specs.Subscriptions.{subscribed}
use Rattle.qd_sub.specs.Watching.{known}
use Rattle.qd_sub.specs.Holding.{has_key, fresh}
use Rattle.qd_sub.proofs.OrderLaws.{once, once-filter, any-filter}
use Rattle.qd_sub.proofs.StepLaws.{pair_eq}
use Rattle.qd_slots.specs.Names.{name_at, named_in}
use Rattle.qd_slots.specs.Holds.{is_held}
use Rattle.qd_table.specs.declared.table.SubFault.TheVariants.{TooManyKeys, TooManySubs}
use Rattle.qd_table.specs.Tables.{Table, key_at, slot_for, keys_in, keys_held, hold_for, holds_by, pairs_in, too_many_keys, too_many_subs, fault_of}
use Rattle.qd_table.specs.Sound.{IsSound}
use Rattle.qd_table.specs.Standing.{StandsFor}
use Rattle.qd_table.proofs.TableLaws.{true-false, some-same, or-left, same-truth, some-from, key_at-found, used-holder}
use Rattle.qd_table.proofs.FreshLaws.{but-alone}
use Rattle.qd_table.proofs.ListLaws.{once-each}
use Rattle.qd_table.proofs.StandLaws.{holds_by-at, holds_by-none, known_by-at, known_by-none}
use Rattle.qd_table.proofs.JudgeLaws.{count-same, count-fresh, named-has}
use Rattle.qd_sub.proofs.SinceLaws.{and-left, and-right}

-- a key of a list

length-less : (k : Key) (ks : List Key) → once key_eq ks ≡ true → has_key ks k ≡ true → length ks ≡ suc (length (filter (λ j. not (key_eq k j)) ks))
unfolding once
length-less k [] o h = cc
length-less k (j ∷ ks) o h =
    let alone = not-true (list_any (key_eq j) ks) (and-left (not (list_any (key_eq j) ks)) (once key_eq ks) o) in
    let rest = and-right (not (list_any (key_eq j) ks)) (once key_eq ks) o in
    let go : (c : Bool) → key_eq k j ≡ c → length (j ∷ ks) ≡ suc (length (filter (λ x. not (key_eq k x)) (j ∷ ks))) =
    elim [
      | true ↦ λ e. (let absent : has_key ks k ≡ false = ap (λ x. has_key ks x) (key_eq-true k j e) ∙ alone in
          rw e (ap (λ xs. suc (length xs)) (sym (but-alone k ks absent))))
      | false ↦ λ e. rw e (ap suc (length-less k ks rest (rw e at h)))
    ] in
    go (key_eq k j) refl

-- two lists of the same keys, each once, are as long
pub keys-length : (ks js : List Key) → once key_eq ks ≡ true → once key_eq js ≡ true → ((k : Key) → has_key ks k ≡ has_key js k) → length ks ≡ length js
unfolding once
keys-length [] [] o p h = refl
keys-length [] (j ∷ js) o p h = absurd (true-false (sym (or-left (key_eq j j) (has_key js j) (key_eq-same j)) ∙ sym (h j)))
keys-length (k ∷ ks) js o p h =
    let there : has_key js k ≡ true = sym (h k) ∙ or-left (key_eq k k) (has_key ks k) (key_eq-same k) in
    let alone = not-true (list_any (key_eq k) ks) (and-left (not (list_any (key_eq k) ks)) (once key_eq ks) o) in
    let rest = keys-length ks (filter (λ j. not (key_eq k j)) js) (and-right (not (list_any (key_eq k) ks)) (once key_eq ks) o) (once-filter key_eq key_eq-true (λ j. not (key_eq k j)) js p) (λ j. others k ks js j alone (h j)) in
    ap suc rest ∙ sym (length-less k js p there)
  where
    others : (k : Key) (ks js : List Key) (j : Key) → has_key ks k ≡ false → (key_eq j k || has_key ks j) ≡ has_key js j → has_key ks j ≡ has_key (filter (λ x. not (key_eq k x)) js) j
    others k ks js j alone e =
        let go : (c : Bool) → key_eq k j ≡ c → has_key ks j ≡ (not (key_eq k j) && has_key js j) =
        elim [
          | true ↦ λ f. ap (has_key ks) (sym (key_eq-true k j f)) ∙ alone ∙ sym (ap (λ c. not c && has_key js j) f)
          | false ↦ λ f. sym (ap (λ c. c || has_key ks j) (key_eq-comm j k ∙ f)) ∙ e ∙ sym (ap (λ c. not c && has_key js j) f)
        ] in
        go (key_eq k j) refl ∙ sym (any-filter key_eq key_eq-true (λ x. not (key_eq k x)) js j)

-- the keys that have a slot stand once in the list of them
later-named : (names : List (Option Key)) (k : Key) → ((i : ℕ) → name_at names i ≡ Some k → ⊥) → has_key (named_in names) k ≡ false
later-named [] k none = refl
later-named (None ∷ names) k none = later-named names k (λ i. none (suc i))
later-named (Some j ∷ names) k none =
    let go : (c : Bool) → key_eq k j ≡ c → (key_eq k j || has_key (named_in names) k) ≡ false =
    elim [
      | true ↦ λ e. absurd (none 0 (ap (λ x. Some x) (sym (key_eq-true k j e))))
      | false ↦ λ e. ap (λ c. c || has_key (named_in names) k) e ∙ later-named names k (λ i. none (suc i))
    ] in
    go (key_eq k j) refl

named-once : (names : List (Option Key)) → ((i j : ℕ) (k : Key) → name_at names i ≡ Some k → name_at names j ≡ Some k → i ≡ j) → once key_eq (named_in names) ≡ true
unfolding once
named-once [] h = refl
named-once (None ∷ names) h = named-once names (λ i j k e f. suc-same (h (suc i) (suc j) k e f))
  where
    suc-same : {i j : ℕ} → suc i ≡ suc j → i ≡ j
    suc-same e = omega (arith, e)
named-once (Some k ∷ names) h =
    let alone = later-named names k (λ i e. zero-suc (h 0 (suc i) k refl e)) in
    ap (λ c. not c && once key_eq (named_in names)) alone ∙ named-once names (λ i j l e f. suc-same (h (suc i) (suc j) l e f))
  where
    zero-suc : {i : ℕ} → 0 ≡ suc i → ⊥
    zero-suc e = absurd (omega (arith, e))

    suc-same : {i j : ℕ} → suc i ≡ suc j → i ≡ j
    suc-same e = omega (arith, e)

pub keys_in-once : (t : Table) → IsSound t → once key_eq (keys_in t) ≡ true
unfolding keys_in key_at
keys_in-once t s = named-once t.names (λ i j k e f. some-same i j (sym (s.found i k e) ∙ s.found j k f))

pub keys_in-has : (t : Table) (k : Key) → has_key (keys_in t) k ≡ is_some (slot_for t k)
unfolding keys_in slot_for
keys_in-has t k = named-has t.names k

-- the number of keys
pub keys-count : (t : Table) (ks : List Key) → IsSound t → once key_eq ks ≡ true → ((k : Key) → has_key ks k ≡ is_some (slot_for t k)) → length ks ≡ length (keys_in t)
keys-count t ks s o h = keys-length ks (keys_in t) o (keys_in-once t s) (λ k. h k ∙ sym (keys_in-has t k))

-- the number of pairs
pub pairs-count : (t : Table) (ps : List (ℕ × Key)) → IsSound t → once pair_eq ps ≡ true → ((p : ℕ × Key) → list_any (pair_eq p) ps ≡ holds_by t p.0 p.1) → length ps ≡ pairs_in t
pairs-count t ps s o h = s.counted ps (once-each ps o) (λ a k. h (a, k))

-- a key has a slot just where it is held, by any test that says so
pub key-holder : {P T : Type 0} (t : Table) (keeps : ℕ → Key → Bool) (now : Moment P T) (k : Key) (b : Bool) → StandsFor t keeps now → ((a : ℕ) → (subscribed a k now || keeps a k) ≡ true → b ≡ true) → ((w : ℕ) → is_some (known w k now) ≡ true → b ≡ true) →
    (b ≡ true → ((a : ℕ) × ((subscribed a k now || keeps a k) ≡ true)) ⊎ ((w : ℕ) × (is_some (known w k now) ≡ true))) → is_some (slot_for t k) ≡ b
key-holder t keeps now k b st agent watcher holder = same-truth (is_some (slot_for t k)) b up down
  where
    up : is_some (slot_for t k) ≡ true → b ≡ true
    up e =
        let f = some-from (slot_for t k) e in
        let own = key_at-found t k f.0 f.1 in
        elim (used-holder t f.0 (sym (st.sound.used f.0) ∙ ap is_some own)) [
          | inl x ↦ agent x.0 (st.held x.0 k ∙ holds_by-at t x.0 k f.0 f.1 ∙ x.1)
          | inr x ↦ watcher x.0 (ap is_some (st.known x.0 k ∙ known_by-at t x.0 k f.0 f.1) ∙ x.1)
        ]

    down : b ≡ true → is_some (slot_for t k) ≡ true
    down e =
        let go : (o : Option ℕ) → slot_for t k ≡ o → is_some (slot_for t k) ≡ true =
        elim [
          | None ↦ λ g. elim (holder e) [
            | inl x ↦ absurd (true-false (sym x.1 ∙ st.held x.0 k ∙ holds_by-none t x.0 k g))
            | inr x ↦ absurd (true-false (sym x.1 ∙ ap is_some (st.known x.0 k ∙ known_by-none t x.0 k g)))
          ]
          | Some slot ↦ λ g. ap is_some g
        ] in
        go (slot_for t k) refl

-- fresh keys are counted by what is held alone
pub fresh-same : (ks js new : List Key) → ((k : Key) → has_key ks k ≡ has_key js k) → length (fresh ks new) ≡ length (fresh js new)
fresh-same ks js new h = count-fresh ks new ∙ count-same (has_key ks) (has_key js) new h ∙ sym (count-fresh js new)

keys_held-has : (t : Table) (a : ℕ) (k : Key) → has_key (keys_held t a) k ≡ holds_by t a k
unfolding keys_held holds_by
keys_held-has t a k =
    any-filter key_eq key_eq-true (holds_by t a) (keys_in t) k ∙ ap (λ c. holds_by t a k && c) (keys_in-has t k) ∙ both (slot_for t k)
  where
    and-true : (b : Bool) → (b && true) ≡ b
    and-true true = refl
    and-true false = refl

    both : (o : Option ℕ) → (elim o [ None ↦ false | Some slot ↦ is_held (hold_for t a slot) ] && is_some o) ≡ elim o [ None ↦ false | Some slot ↦ is_held (hold_for t a slot) ]
    both None = refl
    both (Some slot) = and-true (is_held (hold_for t a slot))

-- the judgement, by the held keys and pairs of the moment
pub fault-table : (t : Table) (a : ℕ) (subs : List Sub) (ks own : List Key) (ps : List (ℕ × Key)) → IsSound t → once key_eq ks ≡ true → ((k : Key) → has_key ks k ≡ is_some (slot_for t k)) → once pair_eq ps ≡ true → ((p : ℕ × Key) → list_any (pair_eq p) ps ≡ holds_by t p.0 p.1) → ((k : Key) → has_key own k ≡ holds_by t a k) →
    fault_of t a subs ≡ (if nat_lt 16384 (length ks + length (fresh ks (map (λ s. s.key) subs))) then Some TooManyKeys else if nat_lt 262144 (length ps + length (fresh own (map (λ s. s.key) subs))) then Some TooManySubs else None)
unfolding fault_of too_many_keys too_many_subs
fault-table t a subs ks own ps s once_keys has_keys once_pairs has_pairs has_own =
    ap (λ n. if nat_lt 16384 (n + length (fresh (keys_in t) (map (λ x. x.key) subs))) then Some TooManyKeys else if nat_lt 262144 (pairs_in t + length (fresh (keys_held t a) (map (λ x. x.key) subs))) then Some TooManySubs else None) (sym (keys-count t ks s once_keys has_keys))
    ∙ ap (λ n. if nat_lt 16384 (length ks + n) then Some TooManyKeys else if nat_lt 262144 (pairs_in t + length (fresh (keys_held t a) (map (λ x. x.key) subs))) then Some TooManySubs else None) (fresh-same (keys_in t) ks (map (λ x. x.key) subs) (λ k. keys_in-has t k ∙ sym (has_keys k)))
    ∙ ap (λ n. if nat_lt 16384 (length ks + length (fresh ks (map (λ x. x.key) subs))) then Some TooManyKeys else if nat_lt 262144 (n + length (fresh (keys_held t a) (map (λ x. x.key) subs))) then Some TooManySubs else None) (sym (pairs-count t ps s once_pairs has_pairs))
    ∙ ap (λ n. if nat_lt 16384 (length ks + length (fresh ks (map (λ x. x.key) subs))) then Some TooManyKeys else if nat_lt 262144 (length ps + n) then Some TooManySubs else None) (fresh-same (keys_held t a) own (map (λ x. x.key) subs) (λ k. keys_held-has t a k ∙ sym (has_own k)))
