-- The laws of links and paths of tickers.
use Rattle.std.proofs.Common.{◌≡◌, inl, inr, ℕ, ◌≤◌, ◌<◌, Option, Some, List, [], ◌∷◌, ◌++◌, length, map, refl, sym, ap, ◌∙◌, arith, length-append}
use Rattle.std.specs.Prelude.{All, Contains}
use Rattle.std.proofs.lemmas.List.Elements.{All-map, All-weaker, All-contains_itself}
use Rattle.qd_scheme.specs.declared.key.Key.{Key}
use Rattle.qd_scheme.specs.declared.key.Record.{Record}
use Rattle.qd_ticker.specs.Pending.{last}
use Rattle.qd_views.specs.Views.{IsTickerMoment, puts, given, item_at, origins, offered, TickerView}
use Rattle.qd_views.proofs.Lists.{part-all, item_at-more}
use Rattle.qd_views.proofs.TickerViews.{ticker_view}
use Rattle.qd_ways.specs.Links.{Delivers, TickerLink}
use Rattle.qd_ways.specs.Paths.{root, TickerStage, IsTickerPath, number_of, root_origins, last_place, TickerPathView, TickerPath}
use Rattle.qd_ways.proofs.Places.{IsPlace, is-place, head-same, tail-same, same-length, image-at, images-through, are-places, pairs-map, in-places, at-place, by-order, last-map, last-none, last-of-all, no-length}

-- what the images of the first items are
record Cut {X : Type 0} (g : ℕ → Option X) (ns : List ℕ) (xs ys : List X) : Type 0 where
  firsts : List ℕ
  rest : List ℕ
  is : ns ≡ firsts ++ rest
  images : map Some xs ≡ map g firsts

cut-images : {X : Type 0} (g : ℕ → Option X) (ns : List ℕ) (xs ys : List X) → map Some (xs ++ ys) ≡ map g ns → Cut g ns xs ys
cut-images g ns [] ys h = record { firsts = []; rest = ns; is = refl; images = refl }
cut-images g [] (x ∷ xs) ys h = cc h
cut-images g (n ∷ ns) (x ∷ xs) ys h =
    let c = cut-images g ns xs ys (tail-same (Some x) (g n) (map Some (xs ++ ys)) (map g ns) h) in
    let one = head-same (Some x) (g n) (map Some (xs ++ ys)) (map g ns) h in
    record { firsts = n ∷ c.firsts; rest = c.rest; is = ap (λ ms. n ∷ ms) c.is; images = let e = c.images in cc (one, e) }

pub ticker_link : TickerLink
ticker_link terms up low a k m d =
    let v = ticker_view terms up m a k in
    let c = cut-images (λ n. item_at n (puts k up)) (origins a k up) (puts k low) d.in_flight (ap (map Some) d.first_ones ∙ v.repeats) in
    (c.rest, c.firsts, c.is, c.images)

first-moment : (k : Key) (low : TickerStage) (above : List TickerStage) → IsTickerPath k low above → IsTickerMoment low.terms low.now
first-moment k low [] w = w
first-moment k low (up ∷ above) w = w.0

root-path : (k : Key) (leaf : TickerStage) → IsTickerMoment leaf.terms leaf.now → TickerPathView k leaf []
root-path k leaf m =
    let v = ticker_view leaf.terms leaf.now m leaf.agent k in
    record {
      repeats = v.repeats;
      never_back = v.never_back;
      rises = v.rises;
      offered_there = λ st. part-all (Contains (offered leaf.agent k leaf.now)) (origins leaf.agent k leaf.now) (offered leaf.agent k leaf.now) v.part (All-contains_itself (offered leaf.agent k leaf.now));
      up_to_date = λ st links waits. v.up_to_date st waits;
    }

-- one stage more
step : (k : Key) (low up : TickerStage) (above : List TickerStage) → IsTickerMoment low.terms low.now → Delivers (given up.agent k up.now) (puts k low.now) → TickerPathView k up above → TickerPathView k low (up ∷ above)
step k low up above m d ih = record {
  repeats = images-through (λ n. item_at n below) (λ n. item_at n (puts k top.now)) through (given low.agent k low.now) numbers found v.repeats;
  never_back = pairs-map ◌≤◌ ◌≤◌ (IsPlace higher) through numbers kept_order places v.never_back;
  rises = λ st. pairs-map ◌<◌ ◌<◌ (IsPlace higher) through numbers (λ i j p q lt. in-places ◌<◌ higher i j (ih.rises st.1) p q lt) places (v.rises st.0);
  offered_there = λ st. All-map (Contains (offered top.agent k top.now)) through numbers
      (All-weaker (IsPlace higher) (λ n. Contains (offered top.agent k top.now) (through n)) (λ n p. at-place (Contains (offered top.agent k top.now)) higher n (ih.offered_there st.1) p) numbers places);
  up_to_date = λ st links waits. newest (given up.agent k up.now) refl (v.up_to_date st.0 waits.0 ∙ links.0) (ih.up_to_date st.1 links.1 waits.1);
}
  where
    top : TickerStage
    top = root up above

    v : TickerView low.agent k low.now
    v = ticker_view low.terms low.now m low.agent k

    higher : List ℕ
    higher = root_origins k up above

    numbers : List ℕ
    numbers = origins low.agent k low.now

    below : List Record
    below = puts k low.now

    through : ℕ → ℕ
    through n = number_of n (root_origins k up above)

    as_long : length (given up.agent k up.now) ≡ length (root_origins k up above)
    as_long = same-length Some (λ n. item_at n (puts k (root up above).now)) (given up.agent k up.now) (root_origins k up above) ih.repeats

    no_longer : length (puts k low.now) ≤ length (given up.agent k up.now)
    no_longer = let e = ap length d.first_ones in let f = length-append (puts k low.now) d.in_flight in omega (arith, e, f)

    found : (n : ℕ) (r : Record) → item_at n (puts k low.now) ≡ Some r → item_at (number_of n (root_origins k up above)) (puts k (root up above).now) ≡ Some r
    found n r h =
        let p = is-place n (puts k low.now) r h in
        let there : item_at n (given up.agent k up.now) ≡ Some r = ap (item_at n) (sym d.first_ones) ∙ item_at-more n (puts k low.now) d.in_flight p.1 ∙ h in
        image-at (λ n. item_at n (puts k (root up above).now)) n (given up.agent k up.now) (root_origins k up above) r ih.repeats there

    places : All (IsPlace (root_origins k up above)) (origins low.agent k low.now)
    places = are-places (λ n. item_at n (puts k low.now)) (IsPlace (root_origins k up above)) (given low.agent k low.now) (origins low.agent k low.now)
        (λ n r h. let p = is-place n (puts k low.now) r h in (p.0, omega (arith, p.1, no_longer, as_long))) v.repeats

    kept_order : (i j : ℕ) → IsPlace (root_origins k up above) i → IsPlace (root_origins k up above) j → i ≤ j → number_of i (root_origins k up above) ≤ number_of j (root_origins k up above)
    kept_order i j p q le = elim (by-order i j le) [
      | inl lt ↦ in-places ◌≤◌ (root_origins k up above) i j ih.never_back p q lt
      | inr same ↦ (let e = ap (λ n. number_of n (root_origins k up above)) same in omega (arith, e))
    ]

    newest : (gs : List Record) → given up.agent k up.now ≡ gs → last (origins low.agent k low.now) ≡ last_place (given up.agent k up.now) → last (root_origins k up above) ≡ last (offered (root up above).agent k (root up above).now)
        → last (map (λ n. number_of n (root_origins k up above)) (origins low.agent k low.now)) ≡ last (offered (root up above).agent k (root up above).now)
    newest [] e h g =
        let none : origins low.agent k low.now ≡ [] = last-none (origins low.agent k low.now) (h ∙ ap last_place e) in
        let empty : root_origins k up above ≡ [] = no-length (root_origins k up above) (sym as_long ∙ ap length e) in
        ap (λ ns. last (map (λ n. number_of n (root_origins k up above)) ns)) none ∙ sym (ap last empty) ∙ g
    newest (r ∷ rs) e h g =
        last-map (λ n. number_of n (root_origins k up above)) (origins low.agent k low.now) (length (r ∷ rs)) (h ∙ ap last_place e)
        ∙ sym (last-of-all (root_origins k up above) (length rs) (sym as_long ∙ ap length e)) ∙ g

pub ticker_path : TickerPath
ticker_path k leaf [] w = root-path k leaf w
ticker_path k leaf (up ∷ above) w = step k leaf up above w.0 w.1 (ticker_path k up above w.2)
