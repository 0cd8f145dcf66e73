-- The order by positions, where a fact begins only with an act about the one of which it holds, and may end at any act.
use Rattle.std.proofs.Common.{◌≡◌, suc, Bool, true, false, ◌&&◌, ◌||◌, not, if◌then◌else◌, nat_eq, List, [], ◌∷◌, ◌++◌, length, refl, ap, sym, ◌∙◌}
use Rattle.std.specs.Prelude.{Option, Some, None}
use Rattle.std.specs.List.{filter, list_any}
use Rattle.std.proofs.lemmas.List.{append-nil}
use Rattle.std.proofs.lemmas.List.Folds.{list_any-append}
use Rattle.std.proofs.Math.Bool.{or-false}
use Rattle.qd_sub.specs.Since.{since, unbroken, begun_at, begun_within, by_since}
use Rattle.qd_sub.proofs.SinceLaws.{by_since-step}
use Rattle.qd_sub.proofs.OrderLaws.{is_about, any-filter, any-one, once, once-filter, once-end}
use Rattle.qd_sub.proofs.OrderSteps.{begins-at}

module _ {A X : Type 0} (about : List A → Option X) (holds : X → List A → Bool) (eq : X → X → Bool) (exact : (x y : X) → eq x y ≡ true → x ≡ y) where
  -- the fact begins only with an act about the one of which it holds
  abbrev pub OnlyBegins : A → List A → Type 0
  OnlyBegins act now = (x : X) → holds x (act ∷ now) ≡ true → holds x now ≡ false → is_about eq x (about (act ∷ now)) ≡ true

  abbrev order : List A → List X
  order now = by_since about unbroken holds now

  abbrev stays : A → List A → X → Bool
  stays act now x = holds x (act ∷ now) && not false

  newcomer : A → List A → Option X → List X
  newcomer act now o = begun_at unbroken holds (act ∷ now) (suc (length now)) o

  new-has : (act : A) (now : List A) (y : X) (o : Option X) → list_any (eq y) (begun_at unbroken holds (act ∷ now) (suc (length now)) o) ≡ (is_about eq y o && (holds y (act ∷ now) && not (holds y now)))
  new-has act now y None = refl
  new-has act now y (Some x) =
      any-one (eq y) (nat_eq (since (unbroken x) (holds x) (act ∷ now)) (suc (length now))) x
      ∙ ap (λ b. eq y x && b) (begins-at unbroken holds act now x ∙ ap (λ b. holds x (act ∷ now) && b) (or-false (not (holds x now))))
      ∙ (let go : (c : Bool) → eq y x ≡ c → (c && (holds x (act ∷ now) && not (holds x now))) ≡ (c && (holds y (act ∷ now) && not (holds y now))) =
      elim [
        | true ↦ λ e. (let same : y ≡ x = exact y x e in ap (λ z. holds z (act ∷ now) && not (holds z now)) (sym same))
        | false ↦ λ e. refl
      ] in go (eq y x) refl)

  joined : (now' was about' : Bool) → (now' ≡ true → was ≡ false → about' ≡ true) → (((now' && true) && was) || (about' && (now' && not was))) ≡ now'
  joined false was about' begins = ap (λ b. false || b) (and-none about')
    where
      and-none : (b : Bool) → (b && false) ≡ false
      and-none true = refl
      and-none false = refl
  joined true true about' begins = refl
  joined true false about' begins = ap (λ b. b && true) (begins refl refl)

  begun-has : (act : A) (now : List A) → OnlyBegins act now → ((y : X) → list_any (eq y) (order now) ≡ holds y now) → (y : X) → list_any (eq y) (order (act ∷ now)) ≡ holds y (act ∷ now)
  begun-has act now begins before y =
      ap (list_any (eq y)) (by_since-step about unbroken holds act now)
      ∙ list_any-append (eq y) (filter (stays act now) (order now)) (begun_at unbroken holds (act ∷ now) (suc (length now)) (about (act ∷ now)))
      ∙ ap (λ b. b || list_any (eq y) (begun_at unbroken holds (act ∷ now) (suc (length now)) (about (act ∷ now)))) (any-filter eq exact (stays act now) (order now) y)
      ∙ ap (λ b. ((holds y (act ∷ now) && true) && list_any (eq y) (order now)) || b) (new-has act now y (about (act ∷ now)))
      ∙ ap (λ b. ((holds y (act ∷ now) && true) && b) || (is_about eq y (about (act ∷ now)) && (holds y (act ∷ now) && not (holds y now)))) (before y)
      ∙ joined (holds y (act ∷ now)) (holds y now) (is_about eq y (about (act ∷ now))) (begins y)

  begun-once : ((x y : X) → eq x y ≡ eq y x) → (act : A) (now : List A) → ((y : X) → list_any (eq y) (order now) ≡ holds y now) → once eq (order now) ≡ true → once eq (order (act ∷ now)) ≡ true
  begun-once comm act now before single =
      ap (once eq) (by_since-step about unbroken holds act now) ∙ with_new (about (act ∷ now))
    where
      left : once eq (filter (stays act now) (order now)) ≡ true
      left = once-filter eq exact (stays act now) (order now) single

      absent : (x : X) → (holds x (act ∷ now) && (not (holds x now) || false)) ≡ true → list_any (eq x) (filter (stays act now) (order now)) ≡ false
      absent x h =
          any-filter eq exact (stays act now) (order now) x
          ∙ ap (λ b. (holds x (act ∷ now) && true) && b) (before x)
          ∙ (let go : (c d : Bool) → (c && (not d || false)) ≡ true → ((c && true) && d) ≡ false =
          elim [
            | true ↦ elim [ true ↦ λ e. sym e | false ↦ λ e. refl ]
            | false ↦ λ d e. refl
          ] in go (holds x (act ∷ now)) (holds x now) h)

      with_new : (o : Option X) → once eq (filter (stays act now) (order now) ++ begun_at unbroken holds (act ∷ now) (suc (length now)) o) ≡ true
      with_new None = ap (once eq) (append-nil (filter (stays act now) (order now))) ∙ left
      with_new (Some x) =
          let go : (c : Bool) → nat_eq (since (unbroken x) (holds x) (act ∷ now)) (suc (length now)) ≡ c → once eq (filter (stays act now) (order now) ++ (if c then x ∷ [] else [])) ≡ true =
          elim [
            | true ↦ λ e. once-end eq comm (filter (stays act now) (order now)) x left (absent x (sym (begins-at unbroken holds act now x) ∙ e))
            | false ↦ λ e. ap (once eq) (append-nil (filter (stays act now) (order now))) ∙ left
          ] in
          go (nat_eq (since (unbroken x) (holds x) (act ∷ now)) (suc (length now))) refl

  start-has : ((y : X) → holds y [] ≡ false) → (y : X) → list_any (eq y) (order []) ≡ holds y []
  unfolding by_since begun_within
  start-has none y = sym (none y)

  start-once : once eq (order []) ≡ true
  unfolding by_since begun_within once
  start-once = refl

  -- along a past of which each act only begins so, the order has just those of which the fact holds, each once
  module _ (good : List A → Type 0) (rest : (act : A) (now : List A) → good (act ∷ now) → good now) (begins : (act : A) (now : List A) → good (act ∷ now) → OnlyBegins act now) (none : (y : X) → holds y [] ≡ false) where
    pub ordered-has : (now : List A) → good now → (y : X) → list_any (eq y) (order now) ≡ holds y now
    ordered-has [] g = start-has none
    ordered-has (act ∷ now) g = begun-has act now (begins act now g) (ordered-has now (rest act now g))

    pub ordered-once : ((x y : X) → eq x y ≡ eq y x) → (now : List A) → good now → once eq (order now) ≡ true
    ordered-once comm [] g = start-once
    ordered-once comm (act ∷ now) g = begun-once comm act now (ordered-has now (rest act now g)) (ordered-once comm now (rest act now g))
