-- Items that account for others.
use Rattle.std.proofs.Common.{◌≡◌, inl, inr, ℕ, ◌+◌, List, [], ◌∷◌, ◌++◌, refl, sym, ap, ◌∙◌, arith, append_assoc, subst}
use Rattle.std.specs.Prelude.{min}
use Rattle.std.specs.List.{sum_by}
use Rattle.std.proofs.lemmas.List.{append-nil}
use Rattle.std.proofs.lemmas.List.Sums.{sum_by-append, sum_by-cons}
use Rattle.qd_scheme.specs.declared.key.Key.{Key}
use Rattle.qd_stream.specs.declared.item.StreamItem.{StreamItem}
use Rattle.qd_stream.specs.declared.item.StreamItem.TheVariants.{Lost}
use Rattle.qd_stream.specs.Items.{weight}
use Rattle.qd_views.specs.Views.{StandsFor, Accounts}

-- one more item, and its run
pub accounts-push : (k : Key) (items all : List StreamItem) (item : StreamItem) (run : List StreamItem) → Accounts k items all → StandsFor k item run → Accounts k (items ++ item ∷ []) (all ++ run)
accounts-push k [] all item run h s = (run, [], ap (λ xs. xs ++ run) h ∙ sym (append-nil run), s, refl)
accounts-push k (one ∷ items) all item run (first, rest, is, s0, h) s =
    (first, rest ++ run, ap (λ xs. xs ++ run) is ∙ append_assoc first rest run, s0, accounts-push k items rest item run h s)

-- the first items account for the first ones, and the others for the rest
pub record Split (k : Key) (xs ys all : List StreamItem) : Type 0 where
  pub front : List StreamItem
  pub back : List StreamItem
  pub is : all ≡ front ++ back
  pub first : Accounts k xs front
  pub second : Accounts k ys back

pub accounts-split : (k : Key) (xs ys all : List StreamItem) → Accounts k (xs ++ ys) all → Split k xs ys all
accounts-split k [] ys all h = record { front = []; back = all; is = refl; first = refl; second = h }
accounts-split k (x ∷ xs) ys all (run, rest, is, s, h) =
    let w = accounts-split k xs ys rest h in
    record {
      front = run ++ w.front;
      back = w.back;
      is = is ∙ ap (λ zs. run ++ zs) w.is ∙ sym (append_assoc run w.front w.back);
      first = (run, w.front, refl, s, w.first);
      second = w.second;
    }

abbrev most : ℕ
most = 18446744073709551615

min-more : (s t u : ℕ) → min s most ≡ min t most → min (u + s) most ≡ min (u + t) most
min-more s t u h = omega (arith, h)

min-once : (s t u : ℕ) → min s most ≡ min t most → min (min u most + s) most ≡ min (u + t) most
min-once s t u h = omega (arith, h)

-- what accounts for items weighs as they do, up to the most that is counted
pub accounts-weigh : (k : Key) (items all : List StreamItem) → Accounts k items all → min (sum_by weight items) most ≡ min (sum_by weight all) most
accounts-weigh k [] all h = ap (λ xs. min (sum_by weight xs) most) (sym h)
accounts-weigh k (item ∷ items) all (run, rest, is, s, h) = go run is s (accounts-weigh k items rest h)
  where
    go : (run : List StreamItem) → all ≡ run ++ rest → StandsFor k item run → min (sum_by weight items) most ≡ min (sum_by weight rest) most → min (sum_by weight (item ∷ items)) most ≡ min (sum_by weight all) most
    go [] is s e = absurd s
    go (one ∷ more) is (inl (none, same)) e =
        let a = sum_by-cons weight item items in
        let b : sum_by weight all ≡ weight one + sum_by weight rest = ap (sum_by weight) (is ∙ ap (λ xs. one ∷ (xs ++ rest)) none) ∙ sum_by-cons weight one rest in
        let c : weight item ≡ weight one = ap weight same in
        ap (λ n. min n most) (a ∙ ap (λ n. n + sum_by weight items) c) ∙ min-more (sum_by weight items) (sum_by weight rest) (weight one) e ∙ ap (λ n. min n most) (sym b)
    go (one ∷ more) is (inr lost) e =
        let a = sum_by-cons weight item items in
        let b : sum_by weight all ≡ sum_by weight (one ∷ more) + sum_by weight rest = ap (sum_by weight) is ∙ sum_by-append weight (one ∷ more) rest in
        let c : weight item ≡ min (sum_by weight (one ∷ more)) most = ap weight lost in
        ap (λ n. min n most) (a ∙ ap (λ n. n + sum_by weight items) c) ∙ min-once (sum_by weight items) (sum_by weight rest) (sum_by weight (one ∷ more)) e ∙ ap (λ n. min n most) (sym b)

abbrev pub NotEmpty : List StreamItem → Type 0
NotEmpty [] = ⊥
NotEmpty (x ∷ xs) = Unit {0}

pub stands-lost : (k : Key) (item : StreamItem) (run : List StreamItem) → NotEmpty run → item ≡ Lost k (min (sum_by weight run) most) → StandsFor k item run
stands-lost k item [] n e = absurd n
stands-lost k item (x ∷ xs) n e = inr e

run-full : (k : Key) (item : StreamItem) (run rest : List StreamItem) → StandsFor k item run → NotEmpty (run ++ rest)
run-full k item [] rest s = absurd s
run-full k item (x ∷ xs) rest s = tt

-- an item that stands for a run stands for what the run accounts for
stands-through : (k : Key) (item : StreamItem) (run all : List StreamItem) → StandsFor k item run → Accounts k run all → StandsFor k item all
stands-through k item [] all s h = absurd s
stands-through k item (one ∷ more) all (inl (none, same)) (first, rest, is, s0, h) =
    let nil : rest ≡ [] = subst (λ xs. Accounts k xs rest) none h in
    let whole : all ≡ first = is ∙ ap (λ xs. first ++ xs) nil ∙ append-nil first in
    subst (λ xs. StandsFor k item xs) (sym whole) (subst (λ x. StandsFor k x first) (sym same) s0)
stands-through k item (one ∷ more) all (inr lost) (first, rest, is, s0, h) =
    stands-lost k item all (subst NotEmpty (sym is) (run-full k one first rest s0))
    (lost ∙ ap (Lost k) (accounts-weigh k (one ∷ more) all (first, rest, is, s0, h)))

-- what accounts for items that account for others accounts for these
pub accounts-through : (k : Key) (xs ys zs : List StreamItem) → Accounts k xs ys → Accounts k ys zs → Accounts k xs zs
accounts-through k [] ys zs h g = subst (λ l. Accounts k l zs) h g
accounts-through k (x ∷ xs) ys zs (run, rest, is, s, h) g =
    let w = accounts-split k run rest zs (subst (λ l. Accounts k l zs) is g) in
    (w.front, w.back, w.is, stands-through k x run w.front s w.first, accounts-through k xs rest w.back h w.second)
