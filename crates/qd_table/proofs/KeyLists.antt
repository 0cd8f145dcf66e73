-- The keys of a list of slots, after a slot joins it or leaves it.
use Rattle.std.proofs.Common.{◌≡◌, ℕ, Bool, true, false, ◌||◌, not, if◌then◌else◌, nat_eq, Option, Some, None, List, [], ◌∷◌, ◌++◌, refl, ap, sym, ◌∙◌}
use Rattle.std.proofs.lemmas.List.{append-nil}
use Rattle.std.proofs.lemmas.List.Elements.{filter_map-append}
use Rattle.std.specs.List.{list_any, filter, filter_map, cons_option}
use Rattle.qd_scheme.specs.declared.key.Key.{Key}
use Rattle.qd_scheme.specs.Keys.{key_eq}
use Rattle.qd_scheme.proofs.KeyLaws.{key_eq-same, key_eq-true}
use Rattle.qd_sub.specs.Holding.{has_key}
use Rattle.qd_sub.proofs.SinceLaws.{grown}
use Rattle.qd_pend.specs.Slots.{has, without}
use Rattle.qd_pend.proofs.ListLaws.{same, equal, has-without_same, has-here, has-later}
use Rattle.qd_slots.specs.Views.{queued, queued_again}
use Rattle.qd_table.specs.Tables.{Table, key_at, keys_at}
use Rattle.qd_table.proofs.TableLaws.{true-false, some-none, some-same, or-left}

-- tables that agree on the slots of a list
pub keys-agree : (new old : Table) (list : List ℕ) → ((i : ℕ) → has list i ≡ true → key_at new i ≡ key_at old i) → keys_at new list ≡ keys_at old list
unfolding keys_at
keys-agree new old [] h = refl
keys-agree new old (i ∷ list) h =
    ap (λ o. cons_option o (filter_map (key_at new) list)) (h i (has-here i list))
    ∙ ap (λ ks. cons_option (key_at old i) ks) (keys-agree new old list (λ j t. h j (has-later i list j t)))

-- a slot is k's alone, as far as a list knows it
abbrev pub IsOwn : Table → Key → ℕ → List ℕ → Type 0
IsOwn t k slot list = ((i : ℕ) → key_at t i ≡ Some k → i ≡ slot) × (has list slot ≡ true → key_at t slot ≡ Some k)

own-rest : (t : Table) (k : Key) (slot i : ℕ) (list : List ℕ) → IsOwn t k slot (i ∷ list) → IsOwn t k slot list
own-rest t k slot i list h = (h.0, λ e. h.1 (has-later i list slot e))

-- the first of the list has the key just where it is the slot
own-first : (t : Table) (k : Key) (slot i : ℕ) (list : List ℕ) → IsOwn t k slot (i ∷ list) → (j : Key) → key_at t i ≡ Some j → key_eq k j ≡ nat_eq slot i
own-first t k slot i list h j e =
    let go : (c d : Bool) → key_eq k j ≡ c → nat_eq slot i ≡ d → c ≡ d =
    elim [
      | true ↦ elim [
        | true ↦ λ p q. refl
        | false ↦ λ p q. (let z : i ≡ slot = h.0 i (e ∙ ap (λ x. let o : Option Key = Some x in o) (sym (key_eq-true k j p))) in sym (sym q ∙ ap (nat_eq slot) z ∙ same slot))
      ]
      | false ↦ elim [
        | true ↦ λ p q. (let own : key_at t slot ≡ Some k = h.1 (or-left (nat_eq slot i) (has list slot) q) in
            let z : k ≡ j = some-same k j (sym own ∙ ap (key_at t) (equal slot i q) ∙ e) in sym p ∙ ap (key_eq k) (sym z) ∙ key_eq-same k)
        | false ↦ λ p q. refl
      ]
    ] in
    go (key_eq k j) (nat_eq slot i) refl refl

no-slot : (t : Table) (k : Key) (slot i : ℕ) (list : List ℕ) → IsOwn t k slot (i ∷ list) → key_at t i ≡ None → nat_eq slot i ≡ false
no-slot t k slot i list h e =
    let go : (c : Bool) → nat_eq slot i ≡ c → nat_eq slot i ≡ false =
    elim [
      | true ↦ λ q. absurd (some-none k (sym (h.1 (or-left (nat_eq slot i) (has list slot) q)) ∙ ap (key_at t) (equal slot i q) ∙ e))
      | false ↦ λ q. q
    ] in
    go (nat_eq slot i) refl

pub keys-has : (t : Table) (k : Key) (slot : ℕ) (list : List ℕ) → IsOwn t k slot list → has_key (keys_at t list) k ≡ has list slot
unfolding keys_at
keys-has t k slot [] h = refl
keys-has t k slot (i ∷ list) h =
    let rest = keys-has t k slot list (own-rest t k slot i list h) in
    let go : (o : Option Key) → key_at t i ≡ o → list_any (λ j. key_eq k j) (cons_option o (filter_map (key_at t) list)) ≡ (nat_eq slot i || has list slot) =
    elim [
      | None ↦ λ e. rest ∙ sym (ap (λ c. c || has list slot) (no-slot t k slot i list h e))
      | Some j ↦ λ e. ap (λ c. c || list_any (λ x. key_eq k x) (filter_map (key_at t) list)) (own-first t k slot i list h j e) ∙ ap (λ c. nat_eq slot i || c) rest
    ] in
    go (key_at t i) refl

pub keys-without : (t : Table) (k : Key) (slot : ℕ) (list : List ℕ) → IsOwn t k slot list → keys_at t (without list slot) ≡ filter (λ j. not (key_eq k j)) (keys_at t list)
unfolding keys_at
keys-without t k slot [] h = refl
keys-without t k slot (i ∷ list) h =
    let rest = keys-without t k slot list (own-rest t k slot i list h) in
    let go : (o : Option Key) → key_at t i ≡ o → (c : Bool) → nat_eq slot i ≡ c → filter_map (key_at t) (if not c then i ∷ without list slot else without list slot) ≡ filter (λ j. not (key_eq k j)) (cons_option o (filter_map (key_at t) list)) =
    elim [
      | None ↦ λ e. elim [
        | true ↦ λ q. absurd (true-false (sym q ∙ no-slot t k slot i list h e))
        | false ↦ λ q. ap (λ o. cons_option o (filter_map (key_at t) (without list slot))) e ∙ rest
      ]
      | Some j ↦ λ e. elim [
        | true ↦ λ q. rest ∙ sym (ap (λ c. if not c then j ∷ filter (λ x. not (key_eq k x)) (filter_map (key_at t) list) else filter (λ x. not (key_eq k x)) (filter_map (key_at t) list)) (own-first t k slot i list h j e ∙ q))
        | false ↦ λ q. ap (λ o. cons_option o (filter_map (key_at t) (without list slot))) e ∙ ap (λ ks. j ∷ ks) rest
            ∙ sym (ap (λ c. if not c then j ∷ filter (λ x. not (key_eq k x)) (filter_map (key_at t) list) else filter (λ x. not (key_eq k x)) (filter_map (key_at t) list)) (own-first t k slot i list h j e ∙ q))
      ]
    ] in
    go (key_at t i) refl (nat_eq slot i) refl

-- a list without the slot
apart-from : (list : List ℕ) (slot i : ℕ) → has list slot ≡ false → has list i ≡ true → nat_eq i slot ≡ false
apart-from list slot i h t =
    let go : (c : Bool) → nat_eq i slot ≡ c → nat_eq i slot ≡ false =
    elim [ true ↦ λ e. absurd (true-false (sym t ∙ ap (has list) (equal i slot e) ∙ h)) | false ↦ λ e. e ] in
    go (nat_eq i slot) refl

without-agree : (new old : Table) (slot : ℕ) (list : List ℕ) → ((i : ℕ) → nat_eq i slot ≡ false → key_at new i ≡ key_at old i) → keys_at new (without list slot) ≡ keys_at old (without list slot)
without-agree new old slot list elsewhere = keys-agree new old (without list slot) (λ i t. elsewhere i (apart-from (without list slot) slot i (has-without_same list slot) t))

pushed : (t : Table) (list : List ℕ) (slot : ℕ) (k : Key) → key_at t slot ≡ Some k → keys_at t (list ++ slot ∷ []) ≡ keys_at t list ++ k ∷ []
unfolding keys_at
pushed t list slot k e = filter_map-append (key_at t) list (slot ∷ []) ∙ ap (λ o. filter_map (key_at t) list ++ cons_option o []) e

grown-there : (ks : List Key) (k : Key) → has_key ks k ≡ true → grown key_eq ks k ≡ ks
unfolding grown
grown-there ks k h = ap (λ c. if c then ks else ks ++ k ∷ []) h

grown-new : (ks : List Key) (k : Key) → has_key ks k ≡ false → grown key_eq ks k ≡ ks ++ k ∷ []
unfolding grown
grown-new ks k h = ap (λ c. if c then ks else ks ++ k ∷ []) h

pub keys-queued : (new old : Table) (k : Key) (slot : ℕ) (list : List ℕ) (b : Bool) → IsOwn old k slot list → ((i : ℕ) → nat_eq i slot ≡ false → key_at new i ≡ key_at old i) → (b ≡ true → key_at new slot ≡ Some k) →
    keys_at new (queued list slot b) ≡ (if b then grown key_eq (keys_at old list) k else filter (λ j. not (key_eq k j)) (keys_at old list))
unfolding queued
keys-queued new old k slot list true own elsewhere here =
    let go : (c : Bool) → has list slot ≡ c → keys_at new (if c then list else list ++ slot ∷ []) ≡ grown key_eq (keys_at old list) k =
    elim [
      | true ↦ λ e. keys-agree new old list (λ i t. alike i (nat_eq i slot) refl (own.1 e)) ∙ sym (grown-there (keys_at old list) k (keys-has old k slot list own ∙ e))
      | false ↦ λ e. pushed new list slot k (here refl) ∙ ap (λ ks. ks ++ k ∷ []) (keys-agree new old list (λ i t. elsewhere i (apart-from list slot i e t))) ∙ sym (grown-new (keys_at old list) k (keys-has old k slot list own ∙ e))
    ] in
    go (has list slot) refl
  where
    alike : (i : ℕ) (c : Bool) → nat_eq i slot ≡ c → key_at old slot ≡ Some k → key_at new i ≡ key_at old i
    alike i true e f = ap (key_at new) (equal i slot e) ∙ here refl ∙ sym f ∙ ap (key_at old) (sym (equal i slot e))
    alike i false e f = elsewhere i e
keys-queued new old k slot list false own elsewhere here = without-agree new old slot list elsewhere ∙ keys-without old k slot list own

pub keys-again : (new old : Table) (k : Key) (slot : ℕ) (list : List ℕ) (b : Bool) → IsOwn old k slot list → ((i : ℕ) → nat_eq i slot ≡ false → key_at new i ≡ key_at old i) → (b ≡ true → key_at new slot ≡ Some k) →
    keys_at new (queued_again list slot b) ≡ filter (λ j. not (key_eq k j)) (keys_at old list) ++ (if b then k ∷ [] else [])
unfolding queued_again
keys-again new old k slot list true own elsewhere here =
    pushed new (without list slot) slot k (here refl) ∙ ap (λ ks. ks ++ k ∷ []) (without-agree new old slot list elsewhere ∙ keys-without old k slot list own)
keys-again new old k slot list false own elsewhere here =
    ap (keys_at new) (append-nil (without list slot)) ∙ without-agree new old slot list elsewhere ∙ keys-without old k slot list own ∙ sym (append-nil (filter (λ j. not (key_eq k j)) (keys_at old list)))
