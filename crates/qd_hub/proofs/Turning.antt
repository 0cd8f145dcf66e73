-- What a turn of one stripe leaves of a client's passes.
use Rattle.std.proofs.Common.{◌≡◌, ◌≢◌, ℕ, zero, suc, ◌<◌, ◌≤◌, Bool, true, false, nat_eq, List, [], ◌∷◌, ◌++◌, inr, length, get_or, set, refl, sym, ap, ◌∙◌, subst, arith, Option, Some, None}
use Rattle.std.specs.Prelude.{slice_get, All, Result, Ok, Err, IfOk, IfErr, nat_lt}
use Rattle.std.proofs.lemmas.Bool.Decides.{nat_tests}
use Rattle.std.proofs.lemmas.List.{length-set, get_or-set_same, get_or-set_other}
use Rattle.std.proofs.lemmas.List.Elements.{All-set, AllZip-get_or}
use Rattle.std.proofs.lemmas.Option.{slice_get_past, slice_get_within, slice_get-get_or, get_or_from_slice_get}
use Rattle.atomic_table.specs.Seated.{TableId}
use Rattle.qd_gate.specs.declared.machine.Entry.{Entry}
use Rattle.qd_gate.specs.declared.machine.Terms.{Terms}
use Rattle.qd_gate.specs.declared.gate.NoTurn.{NoTurn}
use Rattle.qd_gate.specs.Passes.{Pass}
use Rattle.std.specs.List.{AllZip}
use Rattle.qd_row.specs.Passes.{IsChild, IsUnion, IsSound}
use Rattle.qd_row.specs.Rows.{homes, Turns, TurnsAt, JoinsAll}
use Rattle.qd_row.proofs.Rowing.{as_many, same_some, turned_homes}
use Rattle.qd_gate.specs.declared.gate.NoTurn.TheVariants.{Busy, Spent}
use Rattle.qd_hub.specs.Hubs.{Asks, LooksOnce, GivesBack, LeavesOthers, Alike, HasLists, AreOf}
use Rattle.qd_hub.specs.Clients.{number_at, IsPassAt, ArePasses, AreFirst}

abbrev number_of : {O R : Type 0} → Option (Pass O R) → ℕ
number_of None = 0
number_of (Some p) = p.number

pub get-set_same : {X : Type 0} (xs : List X) (i : ℕ) (y : X) → i < length xs → slice_get (set xs i y) i ≡ Some y
get-set_same xs i y h =
    slice_get-get_or (set xs i y) i y (let a = length-set xs i y in omega (arith, a, h)) ∙ ap (λ x. Some x) (get_or-set_same xs i y y h)

pub get-set_other : {X : Type 0} (xs : List X) (i j : ℕ) (y : X) → j ≢ i → slice_get (set xs i y) j ≡ slice_get xs j
get-set_other {X} xs i j y apart = go (nat_lt j (length xs)) refl
  where
    go : (b : Bool) → nat_lt j (length xs) ≡ b → slice_get (set xs i y) j ≡ slice_get xs j
    go true e =
        let below : j < length xs = grind (arith, nat_tests) in
        slice_get-get_or (set xs i y) j y (let a = length-set xs i y in omega (arith, a, below)) ∙ ap (λ x. Some x) (get_or-set_other xs i j y y apart) ∙ sym (slice_get-get_or xs j y below)
    go false e =
        let past : length xs ≤ j = grind (arith, nat_tests) in
        slice_get_past (set xs i y) j (let a = length-set xs i y in omega (arith, a, past)) ∙ sym (slice_get_past xs j past)

pub All-at : {X : Type 0} (P : X → Type 0) (xs : List X) (i : ℕ) (x : X) → All P xs → slice_get xs i ≡ Some x → P x
All-at P xs i x all h = subst P (get_or_from_slice_get xs i x x h) (all i x (slice_get_within xs i x h))

pub found : {X : Type 0} (xs : List X) (i : ℕ) → i < length xs → (x : X) × (slice_get xs i ≡ Some x)
found [] i h = absurd (omega (arith, h))
found (x ∷ xs) zero h = (x, refl)
found (x ∷ xs) (suc i) h = found xs i (omega (arith, h))

module _ {O R : Type 0} where
  -- the passes stay those of the gates
  pub turned_passes : (legal : Terms → List (Entry O R) → Type 0) (gates : List TableId) (n : ℕ) (terms : Terms) (before after : List (Pass O R)) (i : ℕ) (op : O) (result : Result R (NoTurn O)) → ArePasses gates n terms before
      → TurnsAt legal before i op result after → ArePasses gates n terms after
  turned_passes legal gates n terms before after i op result are t =
      subst (λ (l : List (Pass O R)). ArePasses gates n terms l) (sym t.after_is) (record {
        of_gates = ap homes (sym t.after_is) ∙ turned_homes before after i op result t ∙ are.of_gates;
        count = length-set before i t.q ∙ are.count;
        same = All-set (λ (p : Pass O R). p.terms ≡ terms) before i t.q (t.turns.0.2 ∙ All-at (λ (p : Pass O R). p.terms ≡ terms) before i t.p are.same t.there) are.same;
      })

  -- and have the same numbers
  pub turned_numbers : (legal : Terms → List (Entry O R) → Type 0) (before after : List (Pass O R)) (i : ℕ) (op : O) (result : Result R (NoTurn O)) → TurnsAt legal before i op result after → Alike (number_at before) (number_at after)
  turned_numbers legal before after i op result t j =
      ap (λ (l : List (Pass O R)). number_at l j) t.after_is ∙ go (nat_eq j i) refl
    where
      go : (b : Bool) → nat_eq j i ≡ b → number_at (set before i t.q) j ≡ number_at before j
      go false e = ap number_of (get-set_other before i j t.q (λ x. absurd (grind (arith, nat_tests))))
      go true e =
          let at : j ≡ i = grind (arith, nat_tests) in
          ap (λ (k : ℕ). number_at (set before i t.q) k) at ∙ ap number_of (get-set_same before i t.q (slice_get_within before i t.p t.there)) ∙ t.turns.0.1
          ∙ sym (ap number_of t.there) ∙ sym (ap (λ (k : ℕ). number_at before k) at)

  looked_once : (result : Result R (NoTurn O)) (p q : Pass O R) → IfOk result (λ (reply : R). (word : ℕ) × (q.looked ≡ p.looked ++ word ∷ [])) → IfOk result (λ (reply : R). LooksOnce p q)
  looked_once (Ok reply) p q one = inr one
  looked_once (Err why) p q one = tt

  -- the pass of the stripe took the turn
  pub turned_asks : (legal : Terms → List (Entry O R) → Type 0) (before after : List (Pass O R)) (i : ℕ) (op : O) (result : Result R (NoTurn O)) → TurnsAt legal before i op result after → Asks legal (IsPassAt before i) (IsPassAt after i) op result
  turned_asks legal before after i op result t p h = (
    t.q,
    ap (λ (l : List (Pass O R)). slice_get l i) t.after_is ∙ get-set_same before i t.q (slice_get_within before i t.p t.there),
    subst (λ (x : Pass O R). Turns legal x op result t.q) (same_some t.p p (sym t.there ∙ h)) t.turns,
    subst (λ (x : Pass O R). IfOk result (λ (reply : R). LooksOnce x t.q)) (same_some t.p p (sym t.there ∙ h)) (looked_once result t.p t.q t.looked),
  )

  -- where there was none, the op comes back
  pub turned_back : (legal : Terms → List (Entry O R) → Type 0) (before after : List (Pass O R)) (i : ℕ) (op : O) (result : Result R (NoTurn O)) → TurnsAt legal before i op result after → IfErr result (λ why. GivesBack op why)
  turned_back legal before after i op (Ok reply) t = tt
  turned_back legal before after i op (Err (Busy first then back)) t = t.turns.1.0
  turned_back legal before after i op (Err (Spent word back)) t = t.turns.1.0

  -- no other did
  pub turned_others : (legal : Terms → List (Entry O R) → Type 0) (before after : List (Pass O R)) (i : ℕ) (op : O) (result : Result R (NoTurn O)) → TurnsAt legal before i op result after → LeavesOthers i (IsPassAt before) (IsPassAt after)
  turned_others legal before after i op result t j p apart h = ap (λ (l : List (Pass O R)). slice_get l j) t.after_is ∙ get-set_other before i j t.q apart ∙ h

  -- what is asked of the terms is asked of the pass
  pub asked_of : (may : Terms → O → Type 0) (gates : List TableId) (n : ℕ) (terms : Terms) (passes : List (Pass O R)) (i : ℕ) (op : O) → ArePasses gates n terms passes → may terms op → (p : Pass O R) → slice_get passes i ≡ Some p → may p.terms op
  asked_of may gates n terms passes i op are h p at = subst (λ (t : Terms). may t op) (sym (All-at (λ (q : Pass O R). q.terms ≡ terms) passes i p are.same at)) h

  -- the stripe has a gate
  pub gate_of : (gates : List TableId) (n : ℕ) (terms : Terms) (passes : List (Pass O R)) (i : ℕ) → ArePasses gates n terms passes → i < n → i < length gates
  gate_of gates n terms passes i are h = let a = as_many passes gates are.of_gates in let b = are.count in omega (arith, h)

  -- the lists of the passes have the terms and their numbers
  pub passes_are : (gates : List TableId) (n : ℕ) (terms : Terms) (passes : List (Pass O R)) (legal : Terms → List (Entry O R) → Type 0) → ArePasses gates n terms passes
      → ((i : ℕ) (p : Pass O R) → slice_get passes i ≡ Some p → IsSound legal p) → AreOf legal (λ i. terms) (number_at passes) (IsPassAt passes)
  passes_are gates n terms passes legal are sound i p h = (All-at (λ (q : Pass O R). q.terms ≡ terms) passes i p are.same h, sym (ap number_of h), sound i p h)

  -- there is a pass on each stripe
  pub passes_there : (gates : List TableId) (n : ℕ) (terms : Terms) (passes : List (Pass O R)) → ArePasses gates n terms passes → HasLists n (IsPassAt passes)
  passes_there gates n terms passes are i below = found passes i (let c = are.count in omega (arith, below))

  homes_alike : (xs ys : List (Pass O R)) → length xs ≡ length ys → ((i : ℕ) (p q : Pass O R) → slice_get xs i ≡ Some p → slice_get ys i ≡ Some q → q.home ≡ p.home) → homes ys ≡ homes xs
  homes_alike [] [] e each = refl
  homes_alike [] (y ∷ ys) e each = absurd (omega (arith, e))
  homes_alike (x ∷ xs) [] e each = absurd (omega (arith, e))
  homes_alike (x ∷ xs) (y ∷ ys) e each =
      ap (λ (t : TableId). t ∷ homes ys) (each 0 x y refl refl) ∙ ap (λ (l : List TableId). x.home ∷ l) (homes_alike xs ys (omega (arith, e)) (λ i p q a b. each (suc i) p q a b))

  -- passes that took others in stay those of the gates
  pub joined_passes : (legal : Terms → List (Entry O R) → Type 0) (gates others : List TableId) (n m : ℕ) (terms terms' : Terms) (before other after : List (Pass O R)) → ArePasses gates n terms before → ArePasses others m terms' other → m ≡ n
      → JoinsAll legal before other after → ArePasses gates n terms after
  joined_passes legal gates others n m terms terms' before other after are theirs e j = record {
    of_gates = homes_alike before after (sym j.count) (λ i p q a b. (union i p q a b).1.same.0) ∙ are.of_gates;
    count = j.count ∙ are.count;
    same = λ i d h. at i d h (found before i (let a = j.count in omega (arith, h)));
  }
    where
      union : (i : ℕ) (p q : Pass O R) → (a : slice_get before i ≡ Some p) → (b : slice_get after i ≡ Some q) → (w : Pass O R) × IsUnion legal p w q
      union i p q a b =
          let below = slice_get_within before i p a in
          let w = found other i (let c = are.count in let d = theirs.count in omega (arith, below, e)) in
          (w.0, j.each i p w.0 q a w.1 b)

      at : (i : ℕ) (d : Pass O R) → i < length after → (x : Pass O R) × (slice_get before i ≡ Some x) → (get_or after i d).terms ≡ terms
      at i d h x =
          let q : slice_get after i ≡ Some (get_or after i d) = slice_get-get_or after i d h in
          (union i x.0 (get_or after i d) x.1 q).1.same.2 ∙ All-at (λ (p : Pass O R). p.terms ≡ terms) before i x.0 are.same x.1

  -- passes that were split off are those of the gates
  pub children_passes : (gates : List TableId) (n : ℕ) (terms : Terms) (passes fresh : List (Pass O R)) → ArePasses gates n terms passes → AllZip IsChild passes fresh → ArePasses gates n terms fresh
  children_passes gates n terms passes fresh are zip = record {
    of_gates = homes_of passes fresh zip ∙ are.of_gates;
    count = count_of passes fresh zip ∙ are.count;
    same = λ i d h.
        let a = count_of passes fresh zip in
        (AllZip-get_or IsChild passes fresh i d d zip (omega (arith, h, a))).terms ∙ are.same i d (omega (arith, h, a));
  }
    where
      homes_of : (xs ys : List (Pass O R)) → AllZip IsChild xs ys → homes ys ≡ homes xs
      homes_of [] [] z = refl
      homes_of [] (y ∷ ys) z = absurd z
      homes_of (x ∷ xs) [] z = absurd z
      homes_of (x ∷ xs) (y ∷ ys) z = ap (λ (t : TableId). t ∷ homes ys) z.0.home ∙ ap (λ (l : List TableId). x.home ∷ l) (homes_of xs ys z.1)

      count_of : (xs ys : List (Pass O R)) → AllZip IsChild xs ys → length ys ≡ length xs
      count_of [] [] z = refl
      count_of [] (y ∷ ys) z = absurd z
      count_of (x ∷ xs) [] z = absurd z
      count_of (x ∷ xs) (y ∷ ys) z = ap suc (count_of xs ys z.1)

  -- first passes are those of the gates
  pub first_passes : (gates : List TableId) (n m : ℕ) (terms : Terms) (passes : List (Pass O R)) → AreFirst gates n terms passes → n ≡ m → ArePasses gates m terms passes
  first_passes gates n m terms passes are e = record { of_gates = are.of_gates; count = are.count ∙ e; same = λ i d h. (are.first i d h).terms_are }

  -- passes of the same gates are as many
  pub same_count : (gates others : List TableId) (n m : ℕ) (terms terms' : Terms) (passes theirs : List (Pass O R)) → ArePasses gates n terms passes → ArePasses others m terms' theirs → others ≡ gates → m ≡ n
  same_count gates others n m terms terms' passes theirs a b e =
      let x = as_many passes gates a.of_gates in
      let y = as_many theirs others b.of_gates in
      let z = ap length e in
      let p = a.count in
      let q = b.count in
      omega arith
