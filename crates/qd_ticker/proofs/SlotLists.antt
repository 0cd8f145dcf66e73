-- Lists of slots, and the keys of their slots.
use Rattle.std.proofs.Common.{◌≡◌, ℕ, Bool, true, false, ◌&&◌, ◌||◌, not, if◌then◌else◌, nat_eq, Option, Some, None, List, [], ◌∷◌, ◌++◌, refl, ap, sym, ◌∙◌, arith}
use Rattle.std.proofs.lemmas.Bool.Decides.{nat_tests}
use Rattle.std.specs.List.{filter, filter_map, cons_option}
use Rattle.std.proofs.lemmas.List.Elements.{filter_map-append}
use Rattle.qd_scheme.specs.declared.key.Key.{Key}
use Rattle.qd_scheme.specs.Keys.{key_eq}
use Rattle.qd_pend.specs.Slots.{has, without, EachOnce}
use Rattle.qd_pend.proofs.ListLaws.{same, equal, has-push, has-without, has-without_same, EachOnce-push}
use Rattle.qd_sub.specs.Holding.{has_key}
use Rattle.qd_sub.proofs.SinceLaws.{grown}
use Rattle.qd_table.proofs.SlotKeys.{IsApart, same-slot}
use Rattle.qd_ticker.specs.Kept.{with_slot}

none-some : (k : Key) → (let m : Option Key = None in let n : Option Key = Some k in m ≡ n) → ⊥
none-some k h = cc

-- a slot without a key is not k's
pub other-slot : (name : ℕ → Option Key) (slot : ℕ) (k : Key) → name slot ≡ Some k → (s : ℕ) → name s ≡ None → nat_eq slot s ≡ false
other-slot name slot k here s gone =
    let go : (b : Bool) → nat_eq slot s ≡ b → b ≡ false =
    elim [
      | true ↦ λ e. absurd (none-some k (sym gone ∙ ap name (sym (equal slot s e)) ∙ here))
      | false ↦ λ e. refl
    ] in
    go (nat_eq slot s) refl

-- the keys of a list of slots have k just where the list has its slot
pub names-has : (name : ℕ → Option Key) → IsApart name → (slot : ℕ) (k : Key) → name slot ≡ Some k → (list : List ℕ) → has_key (filter_map name list) k ≡ has list slot
names-has name apart slot k here [] = refl
names-has name apart slot k here (s ∷ list) =
    let rest = names-has name apart slot k here list in
    let go : (o : Option Key) → name s ≡ o → has_key (cons_option o (filter_map name list)) k ≡ (nat_eq slot s || has list slot) =
    elim [
      | None ↦ λ e. rest ∙ sym (ap (λ b. b || has list slot) (other-slot name slot k here s e))
      | Some j ↦ λ e. ap (λ b. key_eq k j || b) rest ∙ sym (ap (λ b. b || has list slot) (same-slot name apart slot k here s j e))
    ] in
    go (name s) refl

pub names-without : (name : ℕ → Option Key) → IsApart name → (slot : ℕ) (k : Key) → name slot ≡ Some k → (list : List ℕ) → filter_map name (without list slot) ≡ filter (λ j. not (key_eq k j)) (filter_map name list)
names-without name apart slot k here [] = refl
names-without name apart slot k here (s ∷ list) =
    let rest = names-without name apart slot k here list in
    let go : (o : Option Key) (b : Bool) → name s ≡ o → nat_eq slot s ≡ b → filter_map name (if not b then s ∷ without list slot else without list slot) ≡ filter (λ j. not (key_eq k j)) (cons_option o (filter_map name list)) =
    elim [
      | None ↦ elim [
        | true ↦ λ e f. rest
        | false ↦ λ e f. ap (λ o. cons_option o (filter_map name (without list slot))) e ∙ rest
      ]
      | Some j ↦ elim [
        | true ↦ λ e f. let t : key_eq k j ≡ true = sym (same-slot name apart slot k here s j e) ∙ f in rw t rest
        | false ↦ λ e f. let t : key_eq k j ≡ false = sym (same-slot name apart slot k here s j e) ∙ f in rw t (ap (λ o. cons_option o (filter_map name (without list slot))) e ∙ ap (λ js. j ∷ js) rest)
      ]
    ] in
    go (name s) (nat_eq slot s) refl refl

pub names-with : (name : ℕ → Option Key) → IsApart name → (slot : ℕ) (k : Key) → name slot ≡ Some k → (list : List ℕ) → filter_map name (with_slot list slot) ≡ grown key_eq (filter_map name list) k
unfolding grown
names-with name apart slot k here list =
    let there = names-has name apart slot k here list in
    let go : (b : Bool) → has list slot ≡ b → filter_map name (if b then list else list ++ slot ∷ []) ≡ (if has_key (filter_map name list) k then filter_map name list else filter_map name list ++ k ∷ []) =
    elim [
      | true ↦ λ e. rw (there ∙ e) refl
      | false ↦ λ e. rw (there ∙ e) (filter_map-append name list (slot ∷ []) ∙ ap (λ o. filter_map name list ++ cons_option o []) here)
    ] in
    go (has list slot) refl

-- the slots of a list with one more
pub has-with : (list : List ℕ) (slot s : ℕ) → has (with_slot list slot) s ≡ (nat_eq slot s || has list s)
has-with list slot s =
    let go : (b c : Bool) → has list slot ≡ b → nat_eq slot s ≡ c → has (if b then list else list ++ slot ∷ []) s ≡ (c || has list s) =
    elim [
      | true ↦ elim [
        | true ↦ λ e f. ap (has list) (sym (equal slot s f)) ∙ e
        | false ↦ λ e f. refl
      ]
      | false ↦ λ c e f. has-push list slot s ∙ turned (has list s) (nat_eq s slot) ∙ ap (λ b. b || has list s) (flip slot s ∙ f)
    ] in
    go (has list slot) (nat_eq slot s) refl refl
  where
    turned : (a b : Bool) → (a || b) ≡ (b || a)
    turned true true = refl
    turned true false = refl
    turned false true = refl
    turned false false = refl

    flip : (m n : ℕ) → nat_eq n m ≡ nat_eq m n
    flip m n = grind (arith, nat_tests)

pub EachOnce-with : (list : List ℕ) (slot : ℕ) → EachOnce list → EachOnce (with_slot list slot)
EachOnce-with list slot once =
    let go : (b : Bool) → has list slot ≡ b → EachOnce (if b then list else list ++ slot ∷ []) =
    elim [ true ↦ λ e. once | false ↦ λ e. EachOnce-push list slot once e ] in
    go (has list slot) refl

pub has-less : (list : List ℕ) (slot s : ℕ) → has (without list slot) s ≡ (not (nat_eq slot s) && has list s)
has-less list slot s =
    let go : (b : Bool) → nat_eq slot s ≡ b → has (without list slot) s ≡ (not b && has list s) =
    elim [
      | true ↦ λ e. ap (has (without list slot)) (sym (equal slot s e)) ∙ has-without_same list slot
      | false ↦ λ e. has-without list slot s (λ x. let z : true ≡ false = sym (same slot) ∙ ap (nat_eq slot) x ∙ e in cc)
    ] in
    go (nat_eq slot s) refl
