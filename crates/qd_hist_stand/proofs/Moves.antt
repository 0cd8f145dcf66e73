-- The queues after an act about the key of one slot.
use Rattle.std.proofs.Common.{◌≡◌, ℕ, ◌+◌, Bool, true, false, nat_eq, Option, Some, List, ◌∷◌, map, refl, ap, sym, ◌∙◌, arith, subst}
use Rattle.std.specs.Prelude.{sum}
use Rattle.std.proofs.lemmas.Bool.Decides.{nat_tests}
use Rattle.qd_scheme.specs.declared.key.Key.{Key}
use Rattle.qd_scheme.specs.Keys.{key_eq}
use Rattle.qd_scheme.proofs.KeyLaws.{key_eq-comm}
use Rattle.qd_pend.specs.Slots.{has, without, EachOnce}
use Rattle.qd_pend.proofs.ListLaws.{equal, without-absent}
use Rattle.qd_sub.specs.Acts.{newest_key}
use Rattle.qd_slots.specs.Views.{queued}
use Rattle.qd_slots.proofs.ViewLaws.{queued-out, queued-there, queued-new}
use Rattle.qd_table.specs.Tables.{key_at, keys_at}
use Rattle.qd_table.specs.Steps.{IsSlotFor}
use Rattle.qd_table.proofs.TableLaws.{true-false, apart-numbers}
use Rattle.qd_table.proofs.ListLaws.{queued-own, queued-other, queued-once}
use Rattle.qd_hist_rules.specs.Moments.{HistAct, HistMoment, fills}
use Rattle.qd_hist_rules.specs.Standing.{is_due, due_keys}
use Rattle.qd_hist_stand.specs.Stripes.{Shown, StandsAt, queue_at, due_at, terms_in}
use Rattle.qd_table.proofs.SlotKeys.{IsApart, same-slot}
use Rattle.qd_hist_stand.proofs.Base.{order-about}
use Rattle.qd_hist_stand.proofs.Sums.{sum-agree, sum-push, sum-with, sum-without}

nat-flip : (m n : ℕ) → nat_eq m n ≡ nat_eq n m
nat-flip m n = grind (arith, nat_tests)

-- another slot has another key
pub key-apart : (name : ℕ → Option Key) → IsApart name → (slot i : ℕ) (k j : Key) → name slot ≡ Some k → name i ≡ Some j → nat_eq i slot ≡ false → key_eq j k ≡ false
key-apart name apart slot i k j here there e = key_eq-comm j k ∙ sym (same-slot name apart slot k here i j there) ∙ nat-flip slot i ∙ e

-- the queues are those of before but for one slot, which waits just where it is due; what is due of other slots is the same
pub record IsMoved (s t : Shown) (slot : ℕ) : Type 0 where
  pub queues : (b : ℕ) → queue_at t b ≡ queued (queue_at s b) slot (due_at t b slot)
  pub elsewhere : (b i : ℕ) → nat_eq i slot ≡ false → due_at t b i ≡ due_at s b i

pub due-moved : (s t : Shown) (slot : ℕ) (now : HistMoment) → StandsAt s now → IsMoved s t slot → (b i : ℕ) → has (queue_at t b) i ≡ due_at t b i
due-moved s t slot now st m b i = ap (λ (q : List ℕ). has q i) (m.queues b) ∙ go (nat_eq i slot) refl
  where
    go : (c : Bool) → nat_eq i slot ≡ c → has (queued (queue_at s b) slot (due_at t b slot)) i ≡ due_at t b i
    go true e =
        let here : i ≡ slot = equal i slot e in
        ap (λ (x : ℕ). has (queued (queue_at s b) slot (due_at t b slot)) x) here ∙ queued-own (queue_at s b) slot (due_at t b slot) ∙ ap (due_at t b) (sym here)
    go false e = queued-other (queue_at s b) slot (due_at t b slot) i (apart-numbers i slot e) ∙ st.due b i ∙ sym (m.elsewhere b i e)

pub once-moved : (s t : Shown) (slot : ℕ) (now : HistMoment) → StandsAt s now → IsMoved s t slot → (b : ℕ) → EachOnce (queue_at t b)
once-moved s t slot now st m b = subst EachOnce (sym (m.queues b)) (queued-once (queue_at s b) slot (due_at t b slot) (st.once b))

pub order-moved : (s t : Shown) (slot : ℕ) (now : HistMoment) → StandsAt s now → IsMoved s t slot → (b : ℕ) (k : Key) (act : HistAct) → IsSlotFor s.table k slot
    → newest_key (act ∷ now) ≡ Some k → ((y : Key) → fills b y act ≡ false) → ((i : ℕ) → nat_eq i slot ≡ false → key_at t.table i ≡ key_at s.table i) → (due_at t b slot ≡ true → key_at t.table slot ≡ Some k)
    → is_due (terms_in s) b k (act ∷ now) ≡ due_at t b slot → due_keys (terms_in s) b (act ∷ now) ≡ keys_at t.table (queue_at t b)
order-moved s t slot now st m b k act own q n elsewhere here d =
    order-about s now st t.table b slot k act (due_at t b slot) own q n elsewhere here d ∙ sym (ap (keys_at t.table) (m.queues b))

-- a sum over a list in which a slot comes last, stays or is no more, and counts nothing there
pub sum-queued : (f g : ℕ → ℕ) (slot : ℕ) (list : List ℕ) (b : Bool) → EachOnce list → (has list slot ≡ false → f slot ≡ 0) → g slot ≡ 0 → ((i : ℕ) → nat_eq i slot ≡ false → g i ≡ f i)
    → sum (map g (queued list slot b)) + f slot ≡ sum (map f list)
sum-queued f g slot list b once absent none alike = go (has list slot) refl b
  where
    apart : has list slot ≡ false → (i : ℕ) → has list i ≡ true → nat_eq i slot ≡ false
    apart h i t =
        let see : (c : Bool) → nat_eq i slot ≡ c → nat_eq i slot ≡ false =
        elim [ true ↦ λ e. absurd (true-false (sym t ∙ ap (has list) (equal i slot e) ∙ h)) | false ↦ λ e. e ] in
        see (nat_eq i slot) refl

    alone : has list slot ≡ false → sum (map g list) ≡ sum (map f list)
    alone h = sum-agree f g list (λ i t. alike i (apart h i t))

    go : (c : Bool) → has list slot ≡ c → (d : Bool) → sum (map g (queued list slot d)) + f slot ≡ sum (map f list)
    go true h true =
        let list_is : sum (map g (queued list slot true)) ≡ sum (map g list) = ap (λ (xs : List ℕ). sum (map g xs)) (queued-there list slot h) in
        let parts : sum (map g list) + f slot ≡ sum (map f list) + g slot = sum-with f g slot list once h alike in
        omega (arith, list_is, parts, none)
    go true h false =
        let list_is : sum (map g (queued list slot false)) ≡ sum (map g (without list slot)) = ap (λ (xs : List ℕ). sum (map g xs)) (queued-out list slot) in
        let less : sum (map g (without list slot)) + g slot ≡ sum (map g list) = sum-without g slot list once h in
        let parts : sum (map g list) + f slot ≡ sum (map f list) + g slot = sum-with f g slot list once h alike in
        omega (arith, list_is, less, parts, none)
    go false h true =
        let list_is : sum (map g (queued list slot true)) ≡ sum (map g list) + g slot = ap (λ (xs : List ℕ). sum (map g xs)) (queued-new list slot h) ∙ sum-push g list slot in
        let same_sum : sum (map g list) ≡ sum (map f list) = alone h in
        let zero_then : f slot ≡ 0 = absent h in
        omega (arith, list_is, same_sum, zero_then, none)
    go false h false =
        let list_is : sum (map g (queued list slot false)) ≡ sum (map g list) = ap (λ (xs : List ℕ). sum (map g xs)) (queued-out list slot ∙ without-absent list slot h) in
        let same_sum : sum (map g list) ≡ sum (map f list) = alone h in
        let zero_then : f slot ≡ 0 = absent h in
        omega (arith, list_is, same_sum, zero_then)
