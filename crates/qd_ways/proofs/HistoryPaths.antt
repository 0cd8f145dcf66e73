-- The law of a path of histories, by induction over its links.
use Rattle.std.proofs.Common.{◌≡◌, ◌⊎◌, inl, inr, ℕ, suc, ◌≤◌, true, false, List, [], ◌∷◌, ◌++◌, length, refl, ◌∙◌, ap, arith, Option, Some, None}
use Rattle.std.specs.Prelude.{option_and_then}
use Rattle.std.proofs.lemmas.Bool.{cases_Bool, ne_eqb}
use Rattle.qd_scheme.specs.declared.key.Key.{Key}
use Rattle.qd_flags.specs.Shown.{Map, cut}
use Rattle.qd_flags.proofs.Cuts.{cut_twice}
use Rattle.qd_hist_rules.specs.Moments.{HistAct, HistMoment, given, gives}
use Rattle.qd_hist_rules.specs.Source.{Commit, commit}
use Rattle.qd_hist_rules.specs.Lawful.{Lawful}
use Rattle.qd_hist_rules.proofs.ActFacts.{gives_gave, given_now, given_stays}
use Rattle.qd_hist_rules.proofs.OneLog.{history}
use Rattle.qd_hist_rules.proofs.Numbers.{commit_stays}
use Rattle.qd_views.specs.Views.{puts}
use Rattle.qd_views.proofs.HistoryViews.{lawful-moment}
use Rattle.qd_ways.specs.Links.{number_at, number_above, ComesFrom}
use Rattle.qd_ways.specs.Paths.{root, HistoryStage, IsHistoryPath, origin, HistoryPath, OriginsRise, Later, OriginsStay, NeverBack}
use Rattle.qd_ways.proofs.HistoryLinks.{link, number_at_last}
use Rattle.qd_ways.proofs.Rises.{rises, number_within, not_above}

lawful_low : (k : Key) (low : HistoryStage) (above : List HistoryStage) → IsHistoryPath k low above → Lawful low.terms low.now
lawful_low k low [] w = lawful-moment low.terms low.now w
lawful_low k low (up ∷ above) w = lawful-moment low.terms low.now w.0

-- a commit of a stage is that of its origin, cut at any floor that is no less than its own
record Rooted (k : Key) (low : HistoryStage) (above : List HistoryStage) (n : ℕ) (c : Commit) : Type 0 where
  r : ℕ
  root_c : Commit
  origin_is : origin k low above n ≡ Some r
  is_commit : commit (root low above).terms.base k r (root low above).now ≡ Some root_c
  map_is : (f : ℕ) → c.shown.floor ≤ f → cut f c.shown.map ≡ cut f root_c.shown.map
  above_source : root_c.shown.floor ≤ c.shown.floor

rooted : (k : Key) (low : HistoryStage) (above : List HistoryStage) → IsHistoryPath k low above → (n : ℕ) (c : Commit) → commit low.terms.base k n low.now ≡ Some c → Rooted k low above n c
rooted k low [] w n c h = record { r = n; root_c = c; origin_is = refl; is_commit = h; map_is = λ f le. refl; above_source = omega arith }
rooted k low (up ∷ above) w n c h =
    let g = link up.terms low.terms up.agent k up.now low.now (lawful_low k up above w.2) w.1 n c h in
    step g (rooted k up above w.2 g.n g.commit_n g.is_commit)
  where
    step : (g : ComesFrom up.terms up.agent k up.now c) → Rooted k up above g.n g.commit_n → Rooted k low (up ∷ above) n c
    step g i =
        let le : g.commit_n.shown.floor ≤ c.shown.floor = g.above_source in
        record {
          r = i.r;
          root_c = i.root_c;
          origin_is = rw (h, g.number_is) i.origin_is;
          is_commit = i.is_commit;
          map_is = λ f lf. ap (λ (m : Map). cut f m) g.map_is ∙ cut_twice c.shown.floor f g.commit_n.shown.map lf ∙ i.map_is f (omega (arith, le, lf));
          above_source = let x : i.root_c.shown.floor ≤ g.commit_n.shown.floor = i.above_source in omega (arith, x, le);
        }

pub history_path : HistoryPath
history_path k leaf above w s h =
    let g = history leaf.terms leaf.now (lawful_low k leaf above w) leaf.agent k s h in
    let i = rooted k leaf above w g.n g.commit_n g.is_commit in
    let x : i.root_c.shown.floor ≤ g.commit_n.shown.floor = i.above_source in
    let y : g.commit_n.shown.floor ≤ s.floor = g.above_source in
    record {
      n = g.n;
      origin_n = i.r;
      commit_n = i.root_c;
      limit_then = g.limit_then;
      number_is = g.number_is;
      origin_is = i.origin_is;
      is_commit = i.is_commit;
      map_is = g.map_is ∙ i.map_is s.floor y;
      above_source = omega (arith, x, y);
      limit_is = g.limit_is;
      above_limit = g.above_limit;
      none_above = g.none_above;
    }

unpack : {A B : Type 0} (o : Option A) (f : A → Option B) (y : B) → option_and_then f o ≡ Some y → (x : A) × (o ≡ Some x) × (f x ≡ Some y)
unpack None f y h = cc h
unpack (Some x) f y h = (x, refl, h)

pub origins_rise : OriginsRise
origins_rise k leaf [] w n p q r le h g = let x : n ≡ q = cc h in let y : p ≡ r = cc g in omega (arith, x, y, le)
origins_rise k leaf (up ∷ above) w n p q r le h g =
    let a = unpack (commit leaf.terms.base k n leaf.now) (λ (c : Commit). option_and_then (λ (x : ℕ). origin k up above x) (number_above up.agent k up.now c)) q h in
    let b = unpack (commit leaf.terms.base k p leaf.now) (λ (c : Commit). option_and_then (λ (x : ℕ). origin k up above x) (number_above up.agent k up.now c)) r g in
    let aa = unpack (number_above up.agent k up.now a.0) (λ (x : ℕ). origin k up above x) q a.2 in
    let bb = unpack (number_above up.agent k up.now b.0) (λ (x : ℕ). origin k up above x) r b.2 in
    origins_rise k up above w.2 aa.0 bb.0 q r (rises up.terms leaf.terms up.agent k up.now leaf.now (lawful_low k up above w.2) n p a.0 b.0 a.1 b.1 le aa.0 bb.0 aa.1 bb.1) aa.2 bb.2

commit_stays_long : (base : ℕ) (k : Key) (n : ℕ) (since m : HistMoment) (c : Commit) → commit base k n m ≡ Some c → commit base k n (since ++ m) ≡ Some c
commit_stays_long base k n [] m c h = h
commit_stays_long base k n (act ∷ since) m c h = commit_stays base k n act (since ++ m) c (commit_stays_long base k n since m c h)

number_stays_once : (a : ℕ) (k : Key) (j n : ℕ) (act : HistAct) (m : HistMoment) → number_at j (given a k m) ≡ Some n → number_at j (given a k (act ∷ m)) ≡ Some n
number_stays_once a k j n act m h = go (cases_Bool (gives a k act))
  where
    go : (gives a k act ≡ true) ⊎ (gives a k act ≡ false) → number_at j (given a k (act ∷ m)) ≡ Some n
    go (inr x) = ap (number_at j) (given_stays a k act m x) ∙ h
    go (inl y) =
        let i = gives_gave a k act y in
        let same : given a k (act ∷ m) ≡ i.0 ∷ given a k m = ap (λ (x : HistAct). given a k (x ∷ m)) i.1 ∙ given_now a k i.0 m in
        let w : j ≤ length (given a k m) = number_within j n (given a k m) h in
        ap (number_at j) same ∙ rw (ne_eqb (suc (length (given a k m))) j (λ e. omega (arith, e, w))) h

number_stays : (a : ℕ) (k : Key) (j n : ℕ) (since m : HistMoment) → number_at j (given a k m) ≡ Some n → number_at j (given a k (since ++ m)) ≡ Some n
number_stays a k j n [] m h = h
number_stays a k j n (act ∷ since) m h = number_stays_once a k j n act (since ++ m) (number_stays a k j n since m h)

commit_later : (k : Key) (n : ℕ) (old new : HistoryStage) (c : Commit) → Later old new → commit old.terms.base k n old.now ≡ Some c → commit new.terms.base k n new.now ≡ Some c
commit_later k n old new c l h = rw (l.now_is, l.terms_is) (commit_stays_long old.terms.base k n l.since old.now c h)

number_later : (k : Key) (j n : ℕ) (old new : HistoryStage) → Later old new → number_at j (given old.agent k old.now) ≡ Some n → number_at j (given new.agent k new.now) ≡ Some n
number_later k j n old new l h = rw (l.now_is, l.agent_is) (number_stays old.agent k j n l.since old.now h)

pub origins_stay : OriginsStay
origins_stay k old new [] [] l ls n r h = h
origins_stay k old new [] (y ∷ ys) l ls n r h = elim ls [ ]
origins_stay k old new (x ∷ xs) [] l ls n r h = elim ls [ ]
origins_stay k old new (x ∷ xs) (y ∷ ys) l ls n r h =
    let a = unpack (commit old.terms.base k n old.now) (λ (c : Commit). option_and_then (λ (p : ℕ). origin k x xs p) (number_above x.agent k x.now c)) r h in
    let b = unpack (number_above x.agent k x.now a.0) (λ (p : ℕ). origin k x xs p) r a.2 in
    let c = commit_later k n old new a.0 l a.1 in
    let d = number_later k (length (puts k a.0.when)) b.0 x y ls.0 b.1 in
    let o = origins_stay k x y xs ys ls.0 ls.1 b.0 r b.2 in
    rw (c, d) o

pub never_back : NeverBack
never_back k old new olds news l ls w n p q r hn hq s hs hp hr =
    let g = history_path k new news w s hs in
    let e : g.n ≡ p = cc (g.number_is, hp) in
    let x = number_later k (length (given old.agent k old.now)) n old new l (number_at_last (given old.agent k old.now) n hn) in
    let y : n ≤ g.n = not_above g.n (length (given old.agent k old.now)) n (given new.agent k new.now) g.none_above x in
    origins_rise k new news w n p q r (omega (arith, e, y)) (origins_stay k old new olds news l ls n q hq) hr
