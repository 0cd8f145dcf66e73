-- Commits are numbered in order, and a commit stays what it is.
use Rattle.std.proofs.Common.{◌≡◌, ℕ, suc, ◌≤◌, Bool, true, false, ◌&&◌, ◌==◌, List, [], ◌∷◌, ◌++◌, refl, sym, ◌∙◌, ap, arith, cond, Option, Some, None, inl, inr, subst}
use Rattle.std.specs.Prelude.{if◌then◌else◌, is_some, option_map, option_to_list, find, ◌⊎◌}
use Rattle.std.proofs.lemmas.Bool.{cases_Bool, ne_eqb, eqb-true, and_parts}
use Rattle.qd_scheme.specs.declared.key.Key.{Key}
use Rattle.qd_scheme.specs.declared.key.Event.{Event}
use Rattle.qd_scheme.proofs.KeyLaws.{key_eq-same}
use Rattle.qd_flags.specs.Shown.{last_shown, events_of, or_else, Shown, shown}
use Rattle.qd_sub.specs.Acts.{Came, is_put}
use Rattle.qd_sub.specs.Subscriptions.{wanted}
use Rattle.qd_hist_rules.specs.Moments.{HistAct, HistMoment}
use Rattle.qd_hist_rules.specs.Source.{source, Commit, commits_now, count, puts_now, made, commits, commit, last}
use Rattle.qd_hist_rules.proofs.ActFacts.{puts_came, source_stays, source_came, wanted_came}

-- what is known of the commit that the newest act makes
pub record Made (base : ℕ) (k : Key) (m : HistMoment) (c : Commit) : Type 0 where
  pub is_put : puts_now k m ≡ true
  pub is_now : commits_now m ≡ true
  pub number_is : c.number ≡ count base m
  pub when_is : c.when ≡ m
  pub events_is : c.events ≡ events_of (source k m)
  pub shown_is : shown (source k m) ≡ Some c.shown

pub made_facts : (base : ℕ) (k : Key) (m : HistMoment) (c : Commit) → made base k m ≡ Some c → Made base k m c
made_facts base k m c h = go (puts_now k m) (commits_now m) (shown (source k m)) refl refl refl h
  where
    go : (p q : Bool) (o : Option Shown) → puts_now k m ≡ p → commits_now m ≡ q → shown (source k m) ≡ o
        → (if p && q then option_map (λ s. record { number = count base m; when = m; events = events_of (source k m); shown = s }) o else None) ≡ Some c → Made base k m c
    go false q o ep eq eo h = cc h
    go true false o ep eq eo h = cc h
    go true true None ep eq eo h = cc h
    go true true (Some s) ep eq eo h = record { is_put = ep; is_now = eq; number_is = cc h; when_is = cc h; events_is = cc h; shown_is = cc (h, eo) }

-- a commit is made by an event of its key, while the key is wanted
pub made_came : (base : ℕ) (k : Key) (act : HistAct) (m : HistMoment) (c : Commit) → made base k (act ∷ m) ≡ Some c → (e : Event) × (act ≡ Came k e) × (wanted k m ≡ true)
made_came base k act m c h =
    let f = made_facts base k (act ∷ m) c h in
    let p = puts_came k act f.is_put in
    let now : commits_now (Came k p.0 ∷ m) ≡ true = subst (λ (x : HistAct). commits_now (x ∷ m) ≡ true) p.1 f.is_now in
    (p.0, p.1, (and_parts (wanted k m) (is_some (shown (source k (Came k p.0 ∷ m)))) now).0)

pub count_now : (base : ℕ) (act : HistAct) (m : HistMoment) → commits_now (act ∷ m) ≡ true → count base (act ∷ m) ≡ suc (count base m)
count_now base act m h = rw h refl

pub count_rises : (base : ℕ) (act : HistAct) (m : HistMoment) → count base m ≤ count base (act ∷ m)
count_rises base act m =
    elim (commits_now (act ∷ m)) as (λ b. count base m ≤ (if b then suc (count base m) else count base m))
    [ true ↦ omega arith | false ↦ omega arith ]

abbrev pub NoneBeyond : ℕ → List Commit → Type 0
NoneBeyond b [] = Unit {0}
NoneBeyond b (c ∷ cs) = (c.number ≤ b) × NoneBeyond b cs

pub none_beyond_more : (b d : ℕ) (cs : List Commit) → b ≤ d → NoneBeyond b cs → NoneBeyond d cs
none_beyond_more b d [] h n = tt
none_beyond_more b d (c ∷ cs) h n = (let m : c.number ≤ b = n.0 in omega arith, none_beyond_more b d cs h n.1)

pub none_beyond : (base : ℕ) (k : Key) (m : HistMoment) → NoneBeyond (count base m) (commits base k m)
none_beyond base k [] = tt
none_beyond base k (act ∷ m) = go (made base k (act ∷ m)) refl (none_beyond base k m)
  where
    go : (o : Option Commit) → made base k (act ∷ m) ≡ o → NoneBeyond (count base m) (commits base k m)
        → NoneBeyond (count base (act ∷ m)) (option_to_list o ++ commits base k m)
    go None e ih = none_beyond_more (count base m) (count base (act ∷ m)) (commits base k m) (count_rises base act m) ih
    go (Some c) e ih =
        let f = made_facts base k (act ∷ m) c e in (
          let n : c.number ≡ count base (act ∷ m) = f.number_is in omega arith,
          none_beyond_more (count base m) (count base (act ∷ m)) (commits base k m) (count_rises base act m) ih,
        )

pub found_within : (b n : ℕ) (cs : List Commit) (d : Commit) → find (λ c. c.number == n) cs ≡ Some d → NoneBeyond b cs → (n ≤ b) × (d.number ≡ n)
found_within b n [] d h w = cc h
found_within b n (c ∷ cs) d h w = go (c.number == n) refl h (λ h. found_within b n cs d h w.1)
  where
    go : (t : Bool) → (c.number == n) ≡ t → cond t (Some c) (find (λ c. c.number == n) cs) ≡ Some d
        → (find (λ c. c.number == n) cs ≡ Some d → (n ≤ b) × (d.number ≡ n)) → (n ≤ b) × (d.number ≡ n)
    go true e h ih =
        let q : c.number ≡ n = eqb-true c.number n e in let r : c.number ≤ b = w.0 in let s : c ≡ d = cc h in
        (omega arith, cc (q, s))
    go false e h ih = ih h

pub commit_within : (base : ℕ) (k : Key) (n : ℕ) (m : HistMoment) (d : Commit) → commit base k n m ≡ Some d → (n ≤ count base m) × (d.number ≡ n)
commit_within base k n m d h = found_within (count base m) n (commits base k m) d h (none_beyond base k m)

-- a commit stays what it is
pub commit_stays : (base : ℕ) (k : Key) (n : ℕ) (act : HistAct) (m : HistMoment) (d : Commit) → commit base k n m ≡ Some d → commit base k n (act ∷ m) ≡ Some d
commit_stays base k n act m d h = go (made base k (act ∷ m)) refl
  where
    go : (o : Option Commit) → made base k (act ∷ m) ≡ o → find (λ c. c.number == n) (option_to_list o ++ commits base k m) ≡ Some d
    go None e = h
    go (Some c) e =
        let f = made_facts base k (act ∷ m) c e in
        let w = commit_within base k n m d h in
        let ne : c.number ≡ n → ⊥ = λ q. omega (arith, f.number_is, count_now base act m f.is_now, w.0, q) in
        rw (ne_eqb c.number n ne) h

-- no commit of the key has a greater number than its last one
pub last_is_newest : (base : ℕ) (k : Key) (n : ℕ) (m : HistMoment) (c d : Commit) → last base k m ≡ Some c → commit base k n m ≡ Some d → c.number ≤ n → d ≡ c
last_is_newest base k n [] c d l h le = cc l
last_is_newest base k n (act ∷ m) c d l h le = go (wanted k (act ∷ m)) (made base k (act ∷ m)) refl l h (λ l h. last_is_newest base k n m c d l h le)
  where
    go : (b : Bool) (o : Option Commit) → made base k (act ∷ m) ≡ o → (if b then or_else o (last base k m) else None) ≡ Some c
        → find (λ c. c.number == n) (option_to_list o ++ commits base k m) ≡ Some d
        → (last base k m ≡ Some c → commit base k n m ≡ Some d → d ≡ c) → d ≡ c
    go false o e l h ih = cc l
    go true None e l h ih = ih l h
    go true (Some x) e l h ih = at (x.number == n) refl h
      where
        at : (t : Bool) → (x.number == n) ≡ t → cond t (Some x) (commit base k n m) ≡ Some d → d ≡ c
        at true q h = cc (h, l)
        at false q h =
            let f = made_facts base k (act ∷ m) x e in
            let w = commit_within base k n m d h in
            let s : x ≡ c = cc l in
            let sn : x.number ≡ c.number = ap (λ (c : Commit). c.number) s in
            absurd (omega (arith, f.number_is, count_now base act m f.is_now, w.0, le, sn))

pub only_if : {A : Type 0} (b : Bool) (o : Option A) (x : A) → (if b then o else None) ≡ Some x → (b ≡ true) × (o ≡ Some x)
only_if true o x h = (refl, h)
only_if false o x h = cc h

place_shown : (es : List Event) (s : Shown) → shown es ≡ Some s → last_shown es ≡ Some s
place_shown [] s h = cc h
place_shown (e ∷ es) s h = rw h refl

is_made : (base : ℕ) (k : Key) (m : HistMoment) (s : Shown) → puts_now k m ≡ true → commits_now m ≡ true → shown (source k m) ≡ Some s → is_some (made base k m) ≡ true
is_made base k m s p q r = rw (p, q, r) refl

-- an event that makes no commit leaves no commit place
pub no_place : (base : ℕ) (k : Key) (e : Event) (m : HistMoment) → wanted k m ≡ true → made base k (Came k e ∷ m) ≡ None → shown (source k (Came k e ∷ m)) ≡ None
no_place base k e m w h = go (shown (source k (Came k e ∷ m))) refl
  where
    go : (o : Option Shown) → shown (source k (Came k e ∷ m)) ≡ o → shown (source k (Came k e ∷ m)) ≡ None
    go None q = q
    go (Some s) q =
        let n : commits_now (Came k e ∷ m) ≡ true = rw (w, q) refl in
        let i = is_made base k (Came k e ∷ m) s (key_eq-same k) n q in
        let j : false ≡ true = rw h at i in
        cc j

-- an act that makes no commit of the key leaves what the source's last commit place shows
pub last_shown_stays : (base : ℕ) (k : Key) (act : HistAct) (m : HistMoment) → wanted k (act ∷ m) ≡ true → made base k (act ∷ m) ≡ None → last_shown (source k (act ∷ m)) ≡ last_shown (source k m)
last_shown_stays base k act m w n = go (cases_Bool (is_put k act))
  where
    came : (e : Event) → act ≡ Came k e → last_shown (source k (act ∷ m)) ≡ last_shown (source k m)
    came e q = subst (λ (x : HistAct). wanted k (x ∷ m) ≡ true → made base k (x ∷ m) ≡ None → last_shown (source k (x ∷ m)) ≡ last_shown (source k m)) (sym q) at w n
      where
        at : wanted k (Came k e ∷ m) ≡ true → made base k (Came k e ∷ m) ≡ None → last_shown (source k (Came k e ∷ m)) ≡ last_shown (source k m)
        at w n =
            let v = wanted_came k e m w in
            let es = source_came k e m v in
            let none : shown (e ∷ source k m) ≡ None = ap (λ (xs : List Event). shown xs) (sym es) ∙ no_place base k e m v n in
            ap (λ (xs : List Event). last_shown xs) es ∙ ap (λ (o : Option Shown). or_else o (last_shown (source k m))) none

    go : (is_put k act ≡ true) ⊎ (is_put k act ≡ false) → last_shown (source k (act ∷ m)) ≡ last_shown (source k m)
    go (inl p) = let c = puts_came k act p in came c.0 c.1
    go (inr p) = ap (λ (xs : List Event). last_shown xs) (source_stays k act m w p)

-- what the key's last commit shows is what the last commit place of its source shows
pub last_place : (base : ℕ) (k : Key) (m : HistMoment) (c : Commit) → last base k m ≡ Some c → last_shown (source k m) ≡ Some c.shown
last_place base k [] c h = cc h
last_place base k (act ∷ m) c h =
    let p = only_if (wanted k (act ∷ m)) (or_else (made base k (act ∷ m)) (last base k m)) c h in
    go (made base k (act ∷ m)) refl p.0 p.1 (last_place base k m c)
  where
    go : (o : Option Commit) → made base k (act ∷ m) ≡ o → wanted k (act ∷ m) ≡ true → or_else o (last base k m) ≡ Some c
        → (last base k m ≡ Some c → last_shown (source k m) ≡ Some c.shown) → last_shown (source k (act ∷ m)) ≡ Some c.shown
    go (Some d) q w h ih =
        let f = made_facts base k (act ∷ m) d q in
        let s : d ≡ c = cc h in
        place_shown (source k (act ∷ m)) c.shown (f.shown_is ∙ ap (λ (x : Commit). Some x.shown) s)
    go None q w h ih = last_shown_stays base k act m w q ∙ ih h
