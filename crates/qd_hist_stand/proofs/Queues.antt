-- Lists of slots and the keys of their slots; and the queue of an agent's due slots after an act about the key of one slot.
use Rattle.std.proofs.Common.{◌≡◌, ℕ, Bool, true, false, ◌&&◌, ◌||◌, not, if◌then◌else◌, nat_eq, Some, List, [], ◌∷◌, ◌++◌, refl, ap, sym, ◌∙◌}
use Rattle.std.proofs.lemmas.List.{append-nil}
use Rattle.std.specs.List.{filter}
use Rattle.qd_scheme.specs.declared.key.Key.{Key}
use Rattle.qd_scheme.specs.Keys.{key_eq}
use Rattle.qd_scheme.proofs.KeyLaws.{key_eq-true, key_eq-comm}
use Rattle.qd_pend.specs.Slots.{has, without, EachOnce}
use Rattle.qd_pend.proofs.ListLaws.{same, equal, has-push, has-without, has-without_same, without-absent, EachOnce-without, EachOnce-push}
use Rattle.qd_gate.specs.declared.machine.Terms.{Terms}
use Rattle.qd_sub.specs.Acts.{newest_key}
use Rattle.qd_sub.specs.Holding.{has_key}
use Rattle.qd_sub.proofs.OrderLaws.{is_about}
use Rattle.qd_sub.proofs.SinceLaws.{grown, by_since-holds, filter-agree_within, filter-all}
use Rattle.qd_slots.specs.Views.{queued}
use Rattle.qd_hist_rules.specs.Moments.{HistAct, HistMoment, fills}
use Rattle.qd_hist_rules.specs.Standing.{is_due, due_keys}
use Rattle.qd_hist_rules.proofs.DueKeys.{due_about, due_keys-has}
use Rattle.qd_hist_rules.proofs.DueOrder.{due_keys-step}

-- which slots a list has, once this one stays or comes last, or is not in it
pub has-queued : (list : List ℕ) (slot : ℕ) (waits : Bool) (s : ℕ) → has (queued list slot waits) s ≡ (if nat_eq s slot then waits else has list s)
unfolding queued
has-queued list slot true s =
    let go : (b c : Bool) → has list slot ≡ b → nat_eq s slot ≡ c → has (if b then list else list ++ slot ∷ []) s ≡ (if c then true else has list s) =
    elim [
      | true ↦ elim [
        | true ↦ λ e f. ap (has list) (equal s slot f) ∙ e
        | false ↦ λ e f. refl
      ]
      | false ↦ λ c e f. has-push list slot s ∙ ap (λ b. has list s || b) f ∙ turned (has list s) c
    ] in
    go (has list slot) (nat_eq s slot) refl refl
  where
    turned : (a b : Bool) → (a || b) ≡ (if b then true else a)
    turned true true = refl
    turned true false = refl
    turned false true = refl
    turned false false = refl
has-queued list slot false s =
    let go : (b : Bool) → nat_eq s slot ≡ b → has (without list slot) s ≡ (if b then false else has list s) =
    elim [
      | true ↦ λ e. ap (has (without list slot)) (equal s slot e) ∙ has-without_same list slot
      | false ↦ λ e. has-without list slot s (λ x. let z : true ≡ false = sym (same s) ∙ ap (nat_eq s) (sym x) ∙ e in cc)
    ] in
    go (nat_eq s slot) refl

pub EachOnce-queued : (list : List ℕ) (slot : ℕ) (waits : Bool) → EachOnce list → EachOnce (queued list slot waits)
unfolding queued
EachOnce-queued list slot false once = EachOnce-without list slot once
EachOnce-queued list slot true once =
    let go : (b : Bool) → has list slot ≡ b → EachOnce (if b then list else list ++ slot ∷ []) =
    elim [ true ↦ λ e. once | false ↦ λ e. EachOnce-push list slot once e ] in
    go (has list slot) refl

-- the due keys after an act about a key that is no mark: that key is among them, at its place or last, if it is due, and not if it is not
pub due_keys-about : (t : Terms) (a : ℕ) (act : HistAct) (m : HistMoment) (k : Key) → newest_key (act ∷ m) ≡ Some k → ((y : Key) → fills a y act ≡ false)
    → due_keys t a (act ∷ m) ≡ (if is_due t a k (act ∷ m) then grown key_eq (due_keys t a m) k else filter (λ j. not (key_eq k j)) (due_keys t a m))
unfolding grown
due_keys-about t a act m k q n = due_keys-step t a act m k q n ∙ go (is_due t a k (act ∷ m)) (is_due t a k m) refl refl
  where
    about : (y : Key) (b : Bool) → key_eq k y ≡ b → is_about key_eq y (newest_key (act ∷ m)) ≡ b
    about y b e = ap (λ o. is_about key_eq y o) q ∙ key_eq-comm y k ∙ e

    stays : is_due t a k (act ∷ m) ≡ true → (y : Key) → is_due t a y m ≡ true → is_due t a y (act ∷ m) ≡ true
    stays d y h =
        let at : (b : Bool) → key_eq k y ≡ b → is_due t a y (act ∷ m) ≡ true =
        elim [
          | true ↦ λ e. ap (λ z. is_due t a z (act ∷ m)) (sym (key_eq-true k y e)) ∙ d
          | false ↦ λ e. due_about t a act m y (about y false e) ∙ h
        ] in
        at (key_eq k y) refl

    leaves : is_due t a k (act ∷ m) ≡ false → (y : Key) → is_due t a y m ≡ true → is_due t a y (act ∷ m) ≡ not (key_eq k y)
    leaves d y h =
        let at : (b : Bool) → key_eq k y ≡ b → is_due t a y (act ∷ m) ≡ not b =
        elim [
          | true ↦ λ e. ap (λ z. is_due t a z (act ∷ m)) (sym (key_eq-true k y e)) ∙ d
          | false ↦ λ e. due_about t a act m y (about y false e) ∙ h
        ] in
        at (key_eq k y) refl

    kept : is_due t a k (act ∷ m) ≡ true → filter (λ y. is_due t a y (act ∷ m)) (due_keys t a m) ≡ due_keys t a m
    kept d =
        filter-agree_within (λ y. is_due t a y m) (λ y. is_due t a y (act ∷ m)) (λ y. true) (due_keys t a m) (by_since-holds newest_key (fills a) (is_due t a) m) (stays d)
        ∙ filter-all (due_keys t a m)

    go : (new old : Bool) → is_due t a k (act ∷ m) ≡ new → is_due t a k m ≡ old
        → filter (λ y. is_due t a y (act ∷ m)) (due_keys t a m) ++ (if new && not old then k ∷ [] else [])
        ≡ (if new then (if has_key (due_keys t a m) k then due_keys t a m else due_keys t a m ++ k ∷ []) else filter (λ j. not (key_eq k j)) (due_keys t a m))
    go true true d o = rw (due_keys-has t a m k ∙ o) (append-nil (filter (λ y. is_due t a y (act ∷ m)) (due_keys t a m)) ∙ kept d)
    go true false d o = rw (due_keys-has t a m k ∙ o) (ap (λ ks. ks ++ k ∷ []) (kept d))
    go false old d o =
        append-nil (filter (λ y. is_due t a y (act ∷ m)) (due_keys t a m))
        ∙ filter-agree_within (λ y. is_due t a y m) (λ y. is_due t a y (act ∷ m)) (λ j. not (key_eq k j)) (due_keys t a m) (by_since-holds newest_key (fills a) (is_due t a) m) (leaves d)

-- a list that has the slot just where it waits stays
pub queued-same : (list : List ℕ) (slot : ℕ) (waits : Bool) → has list slot ≡ waits → queued list slot waits ≡ list
unfolding queued
queued-same list slot true h = rw h refl
queued-same list slot false h = without-absent list slot h
