-- The last commit of a key has the greatest number of its commits, and of all that an agent was given.
use Rattle.std.proofs.Common.{◌≡◌, ℕ, ◌≤◌, Bool, true, false, ◌==◌, List, [], ◌∷◌, ◌++◌, refl, sym, ◌∙◌, ap, arith, Option, Some, None, inl, inr, subst}
use Rattle.std.specs.Prelude.{if◌then◌else◌, option_to_list, ◌⊎◌, find, IfSome}
use Rattle.std.proofs.lemmas.Bool.{cases_Bool}
use Rattle.qd_scheme.specs.declared.key.Key.{Key}
use Rattle.qd_flags.specs.Shown.{Shown, shown, or_else}
use Rattle.qd_gate.specs.declared.machine.Terms.{Terms}
use Rattle.qd_sub.specs.Acts.{Gave}
use Rattle.qd_sub.specs.Subscriptions.{wanted}
use Rattle.qd_hist_rules.specs.declared.item.HistItem.{HistItem}
use Rattle.qd_hist_rules.specs.Moments.{HistAct, HistMoment, events, given, gives, begins}
use Rattle.qd_hist_rules.specs.Source.{Commit, made, commits, commit, last, count}
use Rattle.qd_hist_rules.specs.Agent.{begin_moment}
use Rattle.qd_hist_rules.specs.Lawful.{Lawful, NumberFits, NoneAbove}
use Rattle.qd_hist_rules.proofs.ActFacts.{given_now, given_stays, gives_gave, lawful_before}
use Rattle.qd_hist_rules.proofs.Numbers.{NoneBeyond, found_within, commit_stays, count_rises, only_if}
use Rattle.qd_hist_rules.proofs.AllFit.{found_now, none_after_last}
use Rattle.qd_hist_rules.proofs.Begun.{begin_stays, begin_now}

-- the last commit is found by its number
pub last_found : (base : ℕ) (k : Key) (m : HistMoment) (c : Commit) → last base k m ≡ Some c → commit base k c.number m ≡ Some c
last_found base k [] c h = cc h
last_found base k (act ∷ m) c h =
    go (made base k (act ∷ m)) refl (only_if (wanted k (act ∷ m)) (or_else (made base k (act ∷ m)) (last base k m)) c h).1 (last_found base k m c)
  where
    go : (o : Option Commit) → made base k (act ∷ m) ≡ o → or_else o (last base k m) ≡ Some c → (last base k m ≡ Some c → commit base k c.number m ≡ Some c) → commit base k c.number (act ∷ m) ≡ Some c
    go (Some d) q e ih = let s : d ≡ c = cc e in subst (λ (x : Commit). commit base k x.number (act ∷ m) ≡ Some x) s (found_now base k act m d q)
    go None q e ih = ap (λ (o : Option Commit). find (λ (x : Commit). x.number == c.number) (option_to_list o ++ commits base k m)) q ∙ ih e

-- a commit that stood at the last BEGIN stands now
pub commit_since_begin : (base a : ℕ) (k : Key) (n : ℕ) (m : HistMoment) (d : Commit) → commit base k n (begin_moment a k m) ≡ Some d → commit base k n m ≡ Some d
commit_since_begin base a k n [] d h = h
commit_since_begin base a k n (act ∷ m) d h = go (cases_Bool (begins a k act)) (commit_since_begin base a k n m d)
  where
    go : (begins a k act ≡ true) ⊎ (begins a k act ≡ false) → (commit base k n (begin_moment a k m) ≡ Some d → commit base k n m ≡ Some d) → commit base k n (act ∷ m) ≡ Some d
    go (inl b) ih = sym (ap (λ (x : HistMoment). commit base k n x) (begin_now a k act m b)) ∙ h
    go (inr b) ih = commit_stays base k n act m d (ih (sym (ap (λ (x : HistMoment). commit base k n x) (begin_stays a k act m b)) ∙ h))

-- the last commit at the BEGIN is not after the last one now
pub begin_not_after : (base a : ℕ) (k : Key) (m : HistMoment) (b c : Commit) → last base k (begin_moment a k m) ≡ Some b → last base k m ≡ Some c → b.number ≤ c.number
begin_not_after base a k m b c h l =
    (found_within c.number b.number (commits base k m) b (commit_since_begin base a k b.number m b (last_found base k (begin_moment a k m) b h)) (none_after_last base k m c l)).0

beyond_back : (n : ℕ) (xs ys : List Commit) → NoneBeyond n (xs ++ ys) → NoneBeyond n ys
beyond_back n [] ys h = h
beyond_back n (x ∷ xs) ys h = beyond_back n xs ys h.1

-- no number that was given of a key is beyond those of its commits
pub none_given_beyond : (t : Terms) (a : ℕ) (k : Key) (n : ℕ) (m : HistMoment) → Lawful t m → NoneBeyond n (commits t.base k m) → NoneAbove n (given a k m)
none_given_beyond t a k n [] w h = tt
none_given_beyond t a k n (act ∷ m) w h = go (cases_Bool (gives a k act)) (none_given_beyond t a k n m (lawful_before t act m w) (beyond_back n (option_to_list (made t.base k (act ∷ m))) (commits t.base k m) h))
  where
    number : (i : HistItem) (o : Option Shown) → NumberFits t a k i m o → NoneBeyond n (commits t.base k m) → IfSome i.at (λ p. p ≤ n)
    number i None f b = subst (λ (o : Option ℕ). IfSome o (λ p. p ≤ n)) (sym f) tt
    number i (Some s) f b = subst (λ (o : Option ℕ). IfSome o (λ p. p ≤ n)) (sym f.1) (found_within n f.0 (commits t.base k m) f.2.commit_n f.2.is_commit b).0

    gave : (i : HistItem) → Lawful t (Gave a k i ∷ m) → NoneAbove n (given a k m) → NoneAbove n (given a k (Gave a k i ∷ m))
    gave i w ih = subst (λ (is : List HistItem). NoneAbove n is) (sym (given_now a k i m)) (number i (shown (events (given a k (Gave a k i ∷ m)))) w.0.number_fits (beyond_back n (option_to_list (made t.base k (act ∷ m))) (commits t.base k m) h), ih)

    go : (gives a k act ≡ true) ⊎ (gives a k act ≡ false) → NoneAbove n (given a k m) → NoneAbove n (given a k (act ∷ m))
    go (inl g) ih = let i = gives_gave a k act g in subst (λ (x : HistAct). Lawful t (x ∷ m) → NoneAbove n (given a k (x ∷ m))) (sym i.1) (λ w. gave i.0 w ih) w
    go (inr g) ih = subst (λ (is : List HistItem). NoneAbove n is) (sym (given_stays a k act m g)) ih

-- fewer commits were made when the last BEGIN was given
pub begin_count : (base a : ℕ) (k : Key) (m : HistMoment) → count base (begin_moment a k m) ≤ count base m
begin_count base a k [] = omega arith
begin_count base a k (act ∷ m) = go (begins a k act) (begin_count base a k m) (count_rises base act m)
  where
    go : (b : Bool) → count base (begin_moment a k m) ≤ count base m → count base m ≤ count base (act ∷ m) → count base (if b then act ∷ m else begin_moment a k m) ≤ count base (act ∷ m)
    go true x y = omega arith
    go false x y = omega arith
