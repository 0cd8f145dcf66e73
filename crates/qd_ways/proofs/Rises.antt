-- The numbers above a link rise with the numbers below.
use Rattle.std.proofs.Common.{◌≡◌, ◌⊎◌, inl, inr, ℕ, suc, ◌≤◌, Bool, true, false, ◌==◌, if◌then◌else◌, List, [], ◌∷◌, ◌++◌, length, refl, sym, ◌∙◌, ap, arith, cond, Option, Some, None, subst, length-append}
use Rattle.std.specs.Prelude.{option_to_list, find, IfSome}
use Rattle.std.proofs.lemmas.Bool.{cases_Bool, eqb-true}
use Rattle.qd_scheme.specs.declared.key.Key.{Key}
use Rattle.qd_flags.specs.Shown.{Shown, shown}
use Rattle.qd_gate.specs.declared.machine.Terms.{Terms}
use Rattle.qd_sub.specs.Acts.{Gave}
use Rattle.qd_hist_rules.specs.declared.item.HistItem.{HistItem}
use Rattle.qd_hist_rules.specs.Moments.{HistAct, HistMoment, events, given, gives}
use Rattle.qd_hist_rules.specs.Source.{Commit, made, commits, commit}
use Rattle.qd_hist_rules.specs.Lawful.{Lawful, LawfulItem, NoneAbove, NumberFits}
use Rattle.qd_hist_rules.proofs.ActFacts.{gives_gave, given_now, given_stays, lawful_before}
use Rattle.qd_hist_rules.proofs.Numbers.{commit_within, made_facts, count_now}
use Rattle.qd_views.specs.Views.{puts}
use Rattle.qd_views.proofs.HistoryViews.{lawful-moment}
use Rattle.qd_ways.specs.Links.{number_at, number_above, HistoryLinkRises}
use Rattle.qd_ways.proofs.HistoryLinks.{placed, Placed}

-- the numbers of items never fall
abbrev pub Ordered : List HistItem → Type 0
Ordered [] = Unit {0}
Ordered (i ∷ is) = IfSome i.at (λ n. NoneAbove n is) × Ordered is

number-last : (t : Terms) (a : ℕ) (k : Key) (i : HistItem) (m : HistMoment) → LawfulItem t a k i m → IfSome i.at (λ n. NoneAbove n (given a k m))
number-last t a k i m w = go (shown (events (given a k (Gave a k i ∷ m)))) w.number_fits
  where
    go : (s : Option Shown) → NumberFits t a k i m s → IfSome i.at (λ n. NoneAbove n (given a k m))
    go None f = rw f tt
    go (Some s) (n, q, sc) = rw q sc.none_above

pub ordered : (t : Terms) (m : HistMoment) → Lawful t m → (a : ℕ) (k : Key) → Ordered (given a k m)
ordered t [] w a k = tt
ordered t (act ∷ m) w a k = go (cases_Bool (gives a k act)) (ordered t m (lawful_before t act m w) a k)
  where
    go : (gives a k act ≡ true) ⊎ (gives a k act ≡ false) → Ordered (given a k m) → Ordered (given a k (act ∷ m))
    go (inr n) o = subst Ordered (sym (given_stays a k act m n)) o
    go (inl y) o =
        let i = gives_gave a k act y in
        let law : Lawful t (Gave a k i.0 ∷ m) = subst (λ (x : HistAct). Lawful t (x ∷ m)) i.1 w in
        let same : given a k (act ∷ m) ≡ i.0 ∷ given a k m = ap (λ (x : HistAct). given a k (x ∷ m)) i.1 ∙ given_now a k i.0 m in
        subst Ordered (sym same) (number-last t a k i.0 m law.0, o)

pub not_above : (n j q : ℕ) (is : List HistItem) → NoneAbove n is → number_at j is ≡ Some q → q ≤ n
not_above n j q [] w h = cc h
not_above n j q (i ∷ is) w h = go (length (i ∷ is) == j) h (not_above n j q is w.1)
  where
    go : (b : Bool) → (if b then i.at else number_at j is) ≡ Some q → (number_at j is ≡ Some q → q ≤ n) → q ≤ n
    go false h ih = ih h
    go true h ih = rw h at w.0

pub number_within : (j q : ℕ) (is : List HistItem) → number_at j is ≡ Some q → j ≤ length is
number_within j q [] h = cc h
number_within j q (i ∷ is) h = go (length (i ∷ is) == j) refl h (number_within j q is)
  where
    go : (b : Bool) → (length (i ∷ is) == j) ≡ b → (if b then i.at else number_at j is) ≡ Some q → (number_at j is ≡ Some q → j ≤ length is) → j ≤ suc (length is)
    go false e h ih = let w : j ≤ length is = ih h in omega (arith, w)
    go true e h ih = let w : suc (length is) ≡ j = eqb-true (suc (length is)) j e in omega (arith, w)

numbers_rise : (is : List HistItem) (j l q r : ℕ) → Ordered is → j ≤ l → number_at j is ≡ Some q → number_at l is ≡ Some r → q ≤ r
numbers_rise [] j l q r o le h g = cc h
numbers_rise (i ∷ is) j l q r o le h g = go (length (i ∷ is) == j) (length (i ∷ is) == l) refl refl h g (numbers_rise is j l q r o.1 le)
  where
    go : (b c : Bool) → (length (i ∷ is) == j) ≡ b → (length (i ∷ is) == l) ≡ c → (if b then i.at else number_at j is) ≡ Some q → (if c then i.at else number_at l is) ≡ Some r
        → (number_at j is ≡ Some q → number_at l is ≡ Some r → q ≤ r) → q ≤ r
    go true true eb ec h g ih = let s : q ≡ r = cc (h, g) in omega (arith, s)
    go true false eb ec h g ih =
        let w : suc (length is) ≡ j = eqb-true (suc (length is)) j eb in
        let v : l ≤ length is = number_within l r is g in absurd (omega (arith, w, v, le))
    go false true eb ec h g ih = let w : NoneAbove r is = rw g at o.0 in not_above r j q is w h
    go false false eb ec h g ih = ih h g

grown_length : (k : Key) (c : Commit) (m : HistMoment) → Placed k c m → length (puts k c.when) ≤ length (puts k m)
grown_length k c m p = let e = ap length p.grown.grown_is in let f = length-append (puts k c.when) p.grown.newer in omega (arith, e, f)

commits_in_order : (base : ℕ) (k : Key) (n p : ℕ) (m : HistMoment) (c d : Commit) → commit base k n m ≡ Some c → commit base k p m ≡ Some d → n ≤ p → length (puts k c.when) ≤ length (puts k d.when)
commits_in_order base k n p [] c d h g le = cc h
commits_in_order base k n p (act ∷ m) c d h g le = go (made base k (act ∷ m)) refl h g (λ h g. commits_in_order base k n p m c d h g le)
  where
    go : (o : Option Commit) → made base k (act ∷ m) ≡ o → find (λ c. c.number == n) (option_to_list o ++ commits base k m) ≡ Some c → find (λ c. c.number == p) (option_to_list o ++ commits base k m) ≡ Some d
        → (commit base k n m ≡ Some c → commit base k p m ≡ Some d → length (puts k c.when) ≤ length (puts k d.when)) → length (puts k c.when) ≤ length (puts k d.when)
    go None e h g ih = ih h g
    go (Some x) e hx gx ih = at (x.number == n) (x.number == p) refl refl hx gx
      where
        at : (b q : Bool) → (x.number == n) ≡ b → (x.number == p) ≡ q → cond b (Some x) (commit base k n m) ≡ Some c → cond q (Some x) (commit base k p m) ≡ Some d → length (puts k c.when) ≤ length (puts k d.when)
        at b true eb eq hb gq =
            let f = made_facts base k (act ∷ m) x e in
            let s : x ≡ d = cc gq in
            let w : d.when ≡ act ∷ m = ap (λ (c : Commit). c.when) (sym s) ∙ f.when_is in
            let l = grown_length k c (act ∷ m) (placed base k n (act ∷ m) c h) in
            subst (λ (z : HistMoment). length (puts k c.when) ≤ length (puts k z)) (sym w) l
        at false false eb eq hb gq = ih hb gq
        at true false eb eq hb gq =
            let f = made_facts base k (act ∷ m) x e in
            let v = commit_within base k p m d gq in
            let xn : x.number ≡ n = eqb-true x.number n eb in
            absurd (omega (arith, f.number_is, count_now base act m f.is_now, v.0, xn, le))

pub rises : (t u : Terms) (a : ℕ) (k : Key) (up low : HistMoment) → Lawful t up → (n p : ℕ) (c d : Commit) → commit u.base k n low ≡ Some c → commit u.base k p low ≡ Some d → n ≤ p
    → (q r : ℕ) → number_above a k up c ≡ Some q → number_above a k up d ≡ Some r → q ≤ r
rises t u a k up low w n p c d h g le q r hq hr =
    numbers_rise (given a k up) (length (puts k c.when)) (length (puts k d.when)) q r (ordered t up w a k) (commits_in_order u.base k n p low c d h g le) hq hr

pub history_rises : HistoryLinkRises
history_rises terms below up low a k m n p c d h g le q r hq hr = rises terms below a k up low (lawful-moment terms up m) n p c d h g le q r hq hr
