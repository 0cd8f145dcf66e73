-- The slots of a table have different keys, so that a slot is told by its key.
use Rattle.std.proofs.Common.{◌≡◌, ℕ, Bool, true, false, nat_eq, Option, Some, refl, ap, sym, ◌∙◌}
use Rattle.qd_scheme.specs.declared.key.Key.{Key}
use Rattle.qd_scheme.specs.Keys.{key_eq}
use Rattle.qd_scheme.proofs.KeyLaws.{key_eq-same, key_eq-true}
use Rattle.qd_pend.proofs.ListLaws.{same, equal}
use Rattle.qd_table.proofs.TableLaws.{some-same}

-- different slots have different keys
abbrev pub IsApart : (ℕ → Option Key) → Type 0
IsApart name = (i j : ℕ) (k : Key) → name i ≡ Some k → name j ≡ Some k → i ≡ j

-- a slot is k's just where its key is k
pub same-slot : (name : ℕ → Option Key) → IsApart name → (slot : ℕ) (k : Key) → name slot ≡ Some k → (s : ℕ) (j : Key) → name s ≡ Some j → nat_eq slot s ≡ key_eq k j
same-slot name apart slot k here s j there =
    let go : (b c : Bool) → nat_eq slot s ≡ b → key_eq k j ≡ c → b ≡ c =
    elim [
      | true ↦ λ c e f. sym (key_eq-same k) ∙ ap (key_eq k) (some-same k j (sym here ∙ ap name (equal slot s e) ∙ there)) ∙ f
      | false ↦ elim [
        | true ↦ λ e f. sym e ∙ ap (nat_eq slot) (sym (apart slot s k here (there ∙ ap (λ x. (let o : Option Key = Some x in o)) (sym (key_eq-true k j f))))) ∙ same slot
        | false ↦ λ e f. refl
      ]
    ] in
    go (nat_eq slot s) (key_eq k j) refl refl
