-- A call of a state that one thread has.
use Rattle.std.proofs.Common.{◌≡◌, ℕ, ◌^◌, ◌<◌, List, [], ◌∷◌, ◌++◌, length, refl, sym, ap, ◌∙◌, subst, arith, cond, eq-eqb, Some, inl}
use Rattle.std.specs.Prelude.{All, Ok, slice_get}
use Rattle.std.proofs.lemmas.List.{length-set}
use Rattle.std.proofs.lemmas.List.Elements.{All-push, All-head, All-tail, All-set, All-weaker}
use Rattle.std.proofs.lemmas.Option.{slice_get_within}
use Rattle.qd_gate.specs.declared.machine.Entry.{Entry}
use Rattle.qd_gate.specs.declared.machine.Terms.{Terms}
use Rattle.qd_gate.specs.Logs.{entry, calls_of}
use Rattle.qd_gate.specs.Passes.{Pass}
use Rattle.qd_row.specs.Passes.{IsFirst}
use Rattle.qd_row.specs.Rows.{Turns}
use Rattle.qd_row.specs.Owns.{Enters, StepsAt}
use Rattle.qd_hub.specs.Hubs.{Asks, LeavesOthers, HasLists, AreOf, AreOwn}
use Rattle.qd_hub.specs.Owns.{IsOwn, IsOwnAt, HasOwn, AllNew}
use Rattle.qd_row.proofs.Rowing.{same_some}
use Rattle.qd_hub.proofs.Turning.{All-at, found, get-set_same, get-set_other}

append_nil : {A : Type 0} (xs : List A) → xs ++ [] ≡ xs
append_nil [] = refl
append_nil (x ∷ xs) = ap (λ ys. x ∷ ys) (append_nil xs)

-- where each call is of the number n, the calls of n are all of them
all_calls : {O R : Type 0} (n : ℕ) (log : List (Entry O R)) → All (λ e. e.who ≡ n) log → calls_of n log ≡ log
all_calls n [] all = refl
all_calls {O} {R} n (e ∷ es) all =
    ap (λ b. cond b (e ∷ calls_of n es) (calls_of n es)) (eq-eqb e.who n (All-head (λ (e : Entry O R). e.who ≡ n) e es all)) ∙ ap (λ l. e ∷ l) (all_calls n es (All-tail (λ (e : Entry O R). e.who ≡ n) e es all))

-- what is asked of the terms is asked of the state
pub asked_of_own : {S O : Type 0} (may : Terms → O → Type 0) (terms_of : S → Terms) (terms : Terms) (states : List S) (i : ℕ) (op : O) → All (λ s. terms_of s ≡ terms) states → may terms op → (s : S) → slice_get states i ≡ Some s → may (terms_of s) op
asked_of_own {S} may terms_of terms states i op all h s at = subst (λ (t : Terms). may t op) (sym (All-at (λ (s : S). terms_of s ≡ terms) states i s all at)) h

module _ {S O R : Type 0} where
  own_turns : (legal : Terms → List (Entry O R) → Type 0) (terms_of : S → Terms) (stands : S → List (Entry O R) → Type 0) (terms : Terms) (x y : S) (op : O) (reply : R) (p : Pass O R) → terms_of x ≡ terms → Enters terms_of stands legal x op reply y
      → IsOwn legal stands terms x p → (q : Pass O R) × IsOwn legal stands terms y q × (Turns legal p op (Ok reply) q × (q.looked ≡ p.looked))
  own_turns legal terms_of stands terms x y op reply p same step own =
      let e : Entry O R = entry p.number op reply in
      let of : p.terms ≡ terms_of x = own.same_terms ∙ sym same in
      let next = step p.seen p.number own.stands_for (subst (λ (t : Terms). legal t p.seen) of own.is_legal) in
      let all : All (λ (e : Entry O R). e.who ≡ 0) (p.seen ++ e ∷ []) = All-push (λ (e : Entry O R). e.who ≡ 0) p.seen e own.own own.number in
      let ok : legal p.terms (p.seen ++ e ∷ []) = subst (λ (t : Terms). legal t (p.seen ++ e ∷ [])) (sym of) next.1 in (
        record p { seen = p.seen ++ e ∷ []; mine = p.mine ++ e ∷ [] },
        record {
          number = own.number;
          same_terms = own.same_terms;
          stands_for = next.0;
          is_legal = ok;
          own = all;
          mine = ap (λ (l : List (Entry O R)). l ++ e ∷ []) own.mine;
          looked = own.looked;
        },
        (
          (
            (refl, refl, refl),
            record {
              between = [];
              seen = ap (λ (l : List (Entry O R)). l ++ e ∷ []) (sym (append_nil p.seen));
              mine = refl;
              own = subst (λ (n : ℕ). calls_of n (p.seen ++ e ∷ []) ≡ p.mine ++ e ∷ []) (sym own.number) (all_calls 0 (p.seen ++ e ∷ []) all ∙ ap (λ (l : List (Entry O R)). l ++ e ∷ []) (sym own.mine));
              is_legal = ok;
              small = subst (λ (l : List ℕ). All (λ n. n < 2 ^ 63) l) (sym own.looked) (λ _ _ none. absurd (omega arith));
            },
            refl,
          ),
          refl,
        ),
      )

  -- the states keep their terms and their number
  pub stepped_terms : (terms_of : S → Terms) (stands : S → List (Entry O R) → Type 0) (legal : Terms → List (Entry O R) → Type 0) (terms : Terms) (before after : List S) (i : ℕ) (op : O) (reply : R) → StepsAt terms_of stands legal before i op reply after
      → All (λ s. terms_of s ≡ terms) before → All (λ s. terms_of s ≡ terms) after
  stepped_terms terms_of stands legal terms before after i op reply t all =
      subst (λ (l : List S). All (λ s. terms_of s ≡ terms) l) (sym t.after_is) (All-set (λ (s : S). terms_of s ≡ terms) before i t.y (t.same_terms ∙ All-at (λ (s : S). terms_of s ≡ terms) before i t.x all t.there) all)

  pub stepped_count : (terms_of : S → Terms) (stands : S → List (Entry O R) → Type 0) (legal : Terms → List (Entry O R) → Type 0) (n : ℕ) (before after : List S) (i : ℕ) (op : O) (reply : R) → StepsAt terms_of stands legal before i op reply after
      → length before ≡ n → length after ≡ n
  stepped_count terms_of stands legal n before after i op reply t e = ap length t.after_is ∙ length-set before i t.y ∙ e

  -- the lists of the stripe have the call
  pub stepped_asks : (terms_of : S → Terms) (stands : S → List (Entry O R) → Type 0) (legal : Terms → List (Entry O R) → Type 0) (terms : Terms) (before after : List S) (i : ℕ) (op : O) (reply : R) → StepsAt terms_of stands legal before i op reply after
      → All (λ s. terms_of s ≡ terms) before → Asks legal (IsOwnAt legal stands terms before i) (IsOwnAt legal stands terms after i) op (Ok reply)
  stepped_asks terms_of stands legal terms before after i op reply t all p own =
      let here : own.0 ≡ t.x = same_some own.0 t.x (sym own.1 ∙ t.there) in
      let turn = own_turns legal terms_of stands terms t.x t.y op reply p (All-at (λ (s : S). terms_of s ≡ terms) before i t.x all t.there) t.enters (subst (λ (x : S). IsOwn legal stands terms x p) here own.2) in
      (turn.0, (t.y, ap (λ (l : List S). slice_get l i) t.after_is ∙ get-set_same before i t.y (slice_get_within before i t.x t.there), turn.1), turn.2.0, inl turn.2.1)

  -- and no others
  pub stepped_others : (terms_of : S → Terms) (stands : S → List (Entry O R) → Type 0) (legal : Terms → List (Entry O R) → Type 0) (terms : Terms) (before after : List S) (i : ℕ) (op : O) (reply : R) → StepsAt terms_of stands legal before i op reply after
      → LeavesOthers i (IsOwnAt legal stands terms before) (IsOwnAt legal stands terms after)
  stepped_others terms_of stands legal terms before after i op reply t j p apart own = (own.0, ap (λ (l : List S). slice_get l j) t.after_is ∙ get-set_other before i j t.y apart ∙ own.1, own.2)

  -- each state has lists still
  pub stepped_has : (terms_of : S → Terms) (stands : S → List (Entry O R) → Type 0) (legal : Terms → List (Entry O R) → Type 0) (terms : Terms) (before after : List S) (i : ℕ) (op : O) (reply : R) → StepsAt terms_of stands legal before i op reply after
      → All (λ s. terms_of s ≡ terms) before → All (HasOwn legal stands terms) before → All (HasOwn legal stands terms) after
  stepped_has terms_of stands legal terms before after i op reply t all has =
      let h = All-at (HasOwn legal stands terms) before i t.x has t.there in
      let turn = own_turns legal terms_of stands terms t.x t.y op reply h.0 (All-at (λ (s : S). terms_of s ≡ terms) before i t.x all t.there) t.enters h.1 in
      subst (λ (l : List S). All (HasOwn legal stands terms) l) (sym t.after_is) (All-set (HasOwn legal stands terms) before i t.y (turn.0, turn.1) has)

  -- so there are lists on each stripe
  pub owns_there : (legal : Terms → List (Entry O R) → Type 0) (stands : S → List (Entry O R) → Type 0) (terms : Terms) (n : ℕ) (states : List S) → length states ≡ n → All (HasOwn legal stands terms) states → HasLists n (IsOwnAt legal stands terms states)
  owns_there legal stands terms n states count has i below =
      let at = found states i (omega (arith, below, count)) in
      let h = All-at (HasOwn legal stands terms) states i at.0 has at.1 in
      (h.0, (at.0, at.1, h.1))

  -- the lists have the terms and the number 0
  pub owns_are : (legal : Terms → List (Entry O R) → Type 0) (stands : S → List (Entry O R) → Type 0) (terms : Terms) (states : List S) → AreOf legal (λ i. terms) (λ i. 0) (IsOwnAt legal stands terms states)
  owns_are legal stands terms states i p own = (
    own.2.same_terms,
    own.2.number,
    record {
      is_legal = own.2.is_legal;
      own = ap (λ (n : ℕ). calls_of n p.seen) own.2.number ∙ all_calls 0 p.seen own.2.own ∙ sym own.2.mine;
    },
  )

  -- they are its own
  pub owns_own : (legal : Terms → List (Entry O R) → Type 0) (stands : S → List (Entry O R) → Type 0) (terms : Terms) (states : List S) → AreOwn (IsOwnAt legal stands terms states)
  owns_own legal stands terms states i p own = (own.2.mine, own.2.looked)

  -- new states stand for the empty lists
  pub new_owns : (legal : Terms → List (Entry O R) → Type 0) (stands : S → List (Entry O R) → Type 0) (terms_of : S → Terms) (terms : Terms) (n : ℕ) (states : List S) → AllNew stands terms_of n terms states → legal terms []
      → (i : ℕ) (p : Pass O R) → i < n → IsFirst terms p → IsOwnAt legal stands terms states i p
  new_owns legal stands terms_of terms n states all ok i p below first =
      let at = found states i (let c = all.count in omega (arith, below)) in (
        at.0,
        at.1,
        record {
          number = first.number;
          same_terms = first.terms_are;
          stands_for = subst (λ (l : List (Entry O R)). stands at.0 l) (sym first.seen) (All-at (λ (s : S). stands s []) states i at.0 all.stand at.1);
          is_legal = subst (λ (l : List (Entry O R)). legal p.terms l) (sym first.seen) (subst (λ (t : Terms). legal t []) (sym first.terms_are) ok);
          own = subst (λ (l : List (Entry O R)). All (λ e. e.who ≡ 0) l) (sym first.seen) (λ _ _ none. absurd (omega arith));
          mine = first.mine ∙ sym first.seen;
          looked = first.looked;
        },
      )

  -- new states have the empty lists
  pub new_has : (legal : Terms → List (Entry O R) → Type 0) (stands : S → List (Entry O R) → Type 0) (terms_of : S → Terms) (terms : Terms) (n : ℕ) (states : List S) → AllNew stands terms_of n terms states → legal terms []
      → All (HasOwn legal stands terms) states
  new_has legal stands terms_of terms n states all ok =
      All-weaker (λ (s : S). stands s []) (HasOwn legal stands terms) (λ s h. (nobody, record { number = refl; same_terms = refl; stands_for = h; is_legal = ok; own = λ _ _ none. absurd (omega arith); mine = refl; looked = refl })) states all.stand
    where
      nobody : Pass O R
      nobody = record { home = record { words = 0; slots = 0; views_name = 0; atom = 0; block = 0; offset = 0; slot_names = [] }; number = 0; terms = terms; start = 0; seen = []; mine = []; looked = [] }

  -- so a row of new states has so many, with these terms and the empty lists
  pub new_row : (legal : Terms → List (Entry O R) → Type 0) (stands : S → List (Entry O R) → Type 0) (terms_of : S → Terms) (terms : Terms) (n m : ℕ) (states row : List S) → row ≡ states → n ≡ m → AllNew stands terms_of n terms states → legal terms []
      → (length row ≡ m) × All (λ s. terms_of s ≡ terms) row × All (HasOwn legal stands terms) row
  new_row legal stands terms_of terms n m states row is many all ok =
      subst (λ (l : List S). (length l ≡ m) × All (λ s. terms_of s ≡ terms) l × All (HasOwn legal stands terms) l) (sym is)
      (all.count ∙ many, all.same, new_has legal stands terms_of terms n states all ok)
