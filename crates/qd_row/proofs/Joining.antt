-- Passes that take in those of another row, one stripe after another from the last.
use Rattle.std.proofs.Common.{◌≡◌, ◌≢◌, ℕ, ◌+◌, ◌<◌, ◌≤◌, List, [], ◌∷◌, ◌++◌, length, get_or, set, refl, sym, ap, ◌∙◌, subst, arith, append_assoc, Bool, true, false, nat_eq}
use Rattle.std.proofs.Math.Seq.{get_or-append_seam}
use Rattle.std.proofs.lemmas.List.{length-append, length-set, get_or-map, get_or-set_other, get_or_default}
use Rattle.std.proofs.lemmas.Grind.{get_or-set_at}
use Rattle.std.proofs.lemmas.Bool.{false≢true}
use Rattle.std.proofs.lemmas.Bool.Decides.{nat_tests}
use Rattle.std.proofs.lemmas.Option.{slice_get_within, get_or_from_slice_get}
use Rattle.atomic_table.specs.Seated.{TableId}
use Rattle.qd_gate.specs.declared.machine.Entry.{Entry}
use Rattle.qd_gate.specs.declared.machine.Terms.{Terms}
use Rattle.qd_gate.specs.Passes.{Pass}
use Rattle.qd_row.specs.Passes.{IsUnion}
use Rattle.qd_row.specs.Rows.{homes, JoinsAll}
use Rattle.qd_row.proofs.Rowing.{as_many}

module _ {O R : Type 0} where
  -- the passes of the stripes behind `rest` took in theirs; those before are as they were
  pub record Joining (legal : Terms → List (Entry O R) → Type 0) (before other now rest : List (Pass O R)) : Type 0 where
    pub count : length now ≡ length before
    pub done : List (Pass O R)
    pub parts : other ≡ rest ++ done
    pub untouched : (i : ℕ) (d : Pass O R) → i < length rest → get_or now i d ≡ get_or before i d
    pub joined : (i : ℕ) (d : Pass O R) → length rest ≤ i → i < length other → IsUnion legal (get_or before i d) (get_or other i d) (get_or now i d)

  append_nil : (xs : List (Pass O R)) → xs ≡ xs ++ []
  append_nil [] = refl
  append_nil (x ∷ xs) = ap (λ ys. x ∷ ys) (append_nil xs)

  pub join_start : (legal : Terms → List (Entry O R) → Type 0) (before other : List (Pass O R)) → Joining legal before other before other
  join_start legal before other = record { count = refl; done = []; parts = append_nil other; untouched = λ i d h. refl; joined = λ i d h below. absurd (omega (arith, h, below)) }

  -- the gate of a stripe's pass
  pub home_at : (passes : List (Pass O R)) (gates : List TableId) (i : ℕ) (d : Pass O R) (e : TableId) → homes passes ≡ gates → i < length passes → (get_or passes i d).home ≡ get_or gates i e
  home_at passes gates i d e h below = sym (get_or-map (λ (p : Pass O R). p.home) passes i d e below) ∙ ap (λ (l : List TableId). get_or l i e) h

  pub join_step : (legal : Terms → List (Entry O R) → Type 0) (before other now rest left : List (Pass O R)) (w p q : Pass O R) → Joining legal before other now rest → rest ≡ left ++ w ∷ [] → length other ≡ length before
      → p ≡ get_or now (length left) p → IsUnion legal p w q → Joining legal before other (set now (length left) q) left
  join_step legal before other now rest left w p q j more same read union =
      let size : length rest ≡ length left + 1 = ap length more ∙ length-append left (w ∷ []) in
      let whole : other ≡ left ++ w ∷ j.done = j.parts ∙ ap (λ (l : List (Pass O R)). l ++ j.done) more ∙ append_assoc left (w ∷ []) j.done in
      let long : length left < length other = let a = ap length whole ∙ length-append left (w ∷ j.done) in omega (arith, a) in
      record {
        count = length-set now (length left) q ∙ j.count;
        done = w ∷ j.done;
        parts = whole;
        untouched = λ i d h. get_or-set_other now (length left) i q d (λ e. absurd (omega (arith, e, h))) ∙ j.untouched i d (omega (arith, size, h));
        joined = λ i d h below. at i d h below (nat_eq i (length left)) refl;
      }
    where
      long : length left < length other
      long =
          let whole : other ≡ left ++ w ∷ j.done = j.parts ∙ ap (λ (l : List (Pass O R)). l ++ j.done) more ∙ append_assoc left (w ∷ []) j.done in
          let a = ap length whole ∙ length-append left (w ∷ j.done) in
          omega (arith, a)

      here : (i : ℕ) (d : Pass O R) → i ≡ length left → IsUnion legal (get_or before i d) (get_or other i d) (get_or (set now (length left) q) i d)
      here i d e =
          let whole : other ≡ left ++ w ∷ j.done = j.parts ∙ ap (λ (l : List (Pass O R)). l ++ j.done) more ∙ append_assoc left (w ∷ []) j.done in
          let size : length rest ≡ length left + 1 = ap length more ∙ length-append left (w ∷ []) in
          let in_now : length left < length now = omega (arith, long, same, j.count) in
          let old : get_or before i d ≡ p = ap (λ (n : ℕ). get_or before n d) e ∙ sym (j.untouched (length left) d (omega (arith, size))) ∙ get_or_default now (length left) d p in_now ∙ sym read in
          let theirs : get_or other i d ≡ w = ap (λ (n : ℕ). get_or other n d) e ∙ ap (λ (l : List (Pass O R)). get_or l (length left) d) whole ∙ get_or-append_seam left w j.done d in
          let new : get_or (set now (length left) q) i d ≡ q = get_or-set_at now (length left) i q d e in_now in
          subst (λ (x : Pass O R). IsUnion legal (get_or before i d) (get_or other i d) x) (sym new)
          (subst (λ (x : Pass O R). IsUnion legal (get_or before i d) x q) (sym theirs)
          (subst (λ (x : Pass O R). IsUnion legal x w q) (sym old) union))

      at : (i : ℕ) (d : Pass O R) → length left ≤ i → i < length other → (b : Bool) → nat_eq i (length left) ≡ b → IsUnion legal (get_or before i d) (get_or other i d) (get_or (set now (length left) q) i d)
      at i d h below true e = here i d (grind (arith, nat_tests))
      at i d h below false e =
          let size : length rest ≡ length left + 1 = ap length more ∙ length-append left (w ∷ []) in
          let apart : i ≢ length left = λ x. absurd (grind (arith, nat_tests)) in
          let further : length rest ≤ i = grind (arith, nat_tests) in
          subst (λ (x : Pass O R). IsUnion legal (get_or before i d) (get_or other i d) x) (sym (get_or-set_other now (length left) i q d apart)) (j.joined i d further below)

  pub join_end : (legal : Terms → List (Entry O R) → Type 0) (before other now : List (Pass O R)) → Joining legal before other now [] → length other ≡ length before → JoinsAll legal before other now
  join_end legal before other now j same = record {
    count = j.count;
    each = λ i p w q a b c.
        let below : i < length other = slice_get_within other i w b in
        let u = j.joined i p (omega arith) below in
        subst (λ (x : Pass O R). IsUnion legal p w x) (get_or_from_slice_get now i q p c)
        (subst (λ (x : Pass O R). IsUnion legal p x (get_or now i p)) (get_or_from_slice_get other i w p b)
        (subst (λ (x : Pass O R). IsUnion legal x (get_or other i p) (get_or now i p)) (get_or_from_slice_get before i p p a) u));
  }

  -- the passes that a step joins are both of the stripe's gate
  pub of_gate : (legal : Terms → List (Entry O R) → Type 0) (before other now rest left : List (Pass O R)) (gates : List TableId) (i : ℕ) (w p : Pass O R) (gate : TableId) → Joining legal before other now rest → rest ≡ left ++ w ∷ [] → i ≡ length left
      → homes before ≡ gates → homes other ≡ gates → p ≡ get_or now i p → gate ≡ get_or gates i gate → (p.home ≡ gate) × (w.home ≡ gate)
  of_gate legal before other now rest left gates i w p gate j more at mine theirs read found = (
    ap (λ (x : Pass O R). x.home) (read ∙ j.untouched i p (omega (arith, at, size))) ∙ home_at before gates i p gate mine in_before ∙ sym found,
    ap (λ (x : Pass O R). x.home) (sym last) ∙ home_at other gates i p gate theirs long ∙ sym found,
  )
    where
      size : length rest ≡ length left + 1
      size = ap length more ∙ length-append left (w ∷ [])

      whole : other ≡ left ++ w ∷ j.done
      whole = j.parts ∙ ap (λ (l : List (Pass O R)). l ++ j.done) more ∙ append_assoc left (w ∷ []) j.done

      long : i < length other
      long = let a = ap length whole ∙ length-append left (w ∷ j.done) in omega (arith, a, at)

      in_before : i < length before
      in_before = let a = as_many before gates mine in let b = as_many other gates theirs in omega (arith, long)

      last : get_or other i p ≡ w
      last = ap (λ (n : ℕ). get_or other n p) at ∙ ap (λ (l : List (Pass O R)). get_or l (length left) p) whole ∙ get_or-append_seam left w j.done p

  -- the same where the place is told by a number
  pub join_stepped : (legal : Terms → List (Entry O R) → Type 0) (before other now rest left : List (Pass O R)) (i : ℕ) (w p q : Pass O R) → Joining legal before other now rest → rest ≡ left ++ w ∷ [] → i ≡ length left → length other ≡ length before
      → p ≡ get_or now i p → IsUnion legal p w q → Joining legal before other (set now i q) left
  join_stepped legal before other now rest left i w p q j more at same read union =
      subst (λ (n : ℕ). Joining legal before other (set now n q) left) (sym at) (join_step legal before other now rest left w p q j more same (read ∙ ap (λ (n : ℕ). get_or now n p) at) union)

  -- a list that is not longer than nothing
  pub no_items : {n : ℕ} (xs : List (Pass O R)) → (0 < n → false ≡ true) → n ≡ length xs → xs ≡ []
  no_items [] none size = refl
  no_items {n} (x ∷ xs) none size = absurd (false≢true (none (omega (arith, size))))

  pub join_ended : (legal : Terms → List (Entry O R) → Type 0) (before other now rest mine theirs : List (Pass O R)) → Joining legal before other now rest → rest ≡ [] → length other ≡ length before → before ≡ mine → other ≡ theirs → JoinsAll legal mine theirs now
  join_ended legal before other now rest mine theirs j none same a b =
      subst (λ (x : List (Pass O R)). JoinsAll legal x theirs now) a
      (subst (λ (x : List (Pass O R)). JoinsAll legal before x now) b
      (join_end legal before other now (subst (λ (x : List (Pass O R)). Joining legal before other now x) none j) same))
