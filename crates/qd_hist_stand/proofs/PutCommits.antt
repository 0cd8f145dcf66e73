-- What an event of a wanted key makes: a commit or none, as the answer of the key's state tells.
use Rattle.std.proofs.Common.{◌≡◌, ℕ, suc, Bool, true, false, ◌&&◌, ◌||◌, List, [], ◌∷◌, refl, sym, ◌∙◌, ap, Option, Some, None}
use Rattle.std.specs.Prelude.{if◌then◌else◌, is_some, option_map}
use Rattle.std.proofs.lemmas.Bool.{and_right}
use Rattle.qd_scheme.specs.declared.key.Key.{Key}
use Rattle.qd_scheme.specs.declared.key.Event.{Event}
use Rattle.qd_scheme.proofs.KeyLaws.{key_eq-same}
use Rattle.qd_flags.specs.declared.commits.Ingest.{Ingest}
use Rattle.qd_flags.specs.declared.commits.Ingest.TheVariants.{Ignored, Held, Update, Snapshot}
use Rattle.qd_flags.specs.Bits.{is_begin}
use Rattle.qd_flags.specs.Shown as flags
use Rattle.qd_flags.specs.Shown.{shown, has_begin, since_begin, last_shown, after_place, without_stale, events_of, last_batch}
use Rattle.qd_flags.specs.Following.{answer_to}
use Rattle.qd_flags.proofs.Feeding.{if_true, if_false, begin_known}
use Rattle.qd_flags.proofs.Followed.{nothing_shown}
use Rattle.qd_sub.specs.Acts.{Came}
use Rattle.qd_sub.specs.Subscriptions.{limit_of, wanted}
use Rattle.qd_sub.proofs.SubscriptionLaws.{wanted-came}
use Rattle.qd_hist_rules.specs.Moments.{HistMoment}
use Rattle.qd_hist_rules.specs.Source.{source, Commit, commits_now, count, puts_now, made, last, is_snapshot}
use Rattle.qd_hist_rules.specs.Agent.{agent_floor, meet}
use Rattle.qd_hist_rules.proofs.ActFacts.{source_came, limit_came}
use Rattle.qd_hist_rules.proofs.Numbers.{made_facts}
use Rattle.qd_hist_rules.proofs.Begun.{last_quiet, last_made}
use Rattle.qd_hist_rules.proofs.Shares.{floor_stays}
use Rattle.qd_hist_stand.specs.Steps.{makes_commit}
use Rattle.qd_hist_stand.proofs.Floors.{shown_in, shows_last}

abbrev answer_by : Bool → Bool → Bool → Ingest
answer_by begun shows begins = if begun then (if shows then (if begins then Snapshot else Update) else Held) else Ignored

makes : (es : List Event) → makes_commit (answer_to es) ≡ is_some (shown es)
makes es = go (has_begin es) refl (is_some (shown es)) refl (has_begin (events_of es))
  where
    none : has_begin es ≡ false → (s : Bool) → is_some (shown es) ≡ s → false ≡ s
    none h s e = sym (ap (λ (o : Option flags.Shown). is_some o) (nothing_shown es h)) ∙ e

    go : (h : Bool) → has_begin es ≡ h → (s : Bool) → is_some (shown es) ≡ s → (b : Bool) → makes_commit (answer_by h s b) ≡ s
    go true p true q true = refl
    go true p true q false = refl
    go true p false q b = refl
    go false p s q b = none p s q

by_snapshot : (h s b : Bool) → answer_by h s b ≡ Snapshot → (s ≡ true) × (b ≡ true)
by_snapshot true true true e = (refl, refl)
by_snapshot true true false e = cc e
by_snapshot true false b e = cc e
by_snapshot false s b e = cc e

by_update : (h s b : Bool) → answer_by h s b ≡ Update → (h ≡ true) × (s ≡ true) × (b ≡ false)
by_update true true true e = cc e
by_update true true false e = (refl, refl, refl)
by_update true false b e = cc e
by_update false s b e = cc e

-- the answer tells whether a commit is made
pub commits_by : (k : Key) (e : Event) (m : HistMoment) → wanted k m ≡ true → commits_now (Came k e ∷ m) ≡ makes_commit (answer_to (source k (Came k e ∷ m)))
commits_by k e m w = ap (λ (b : Bool). b && is_some (shown (source k (Came k e ∷ m)))) w ∙ sym (makes (source k (Came k e ∷ m)))

pub count_by : (base : ℕ) (k : Key) (e : Event) (m : HistMoment) → wanted k m ≡ true
    → count base (Came k e ∷ m) ≡ (if makes_commit (answer_to (source k (Came k e ∷ m))) then suc (count base m) else count base m)
count_by base k e m w = ap (λ (b : Bool). if b then suc (count base m) else count base m) (commits_by k e m w)

-- no commit of any key is made where none is made now
no_commit : (base : ℕ) (j : Key) (m : HistMoment) → commits_now m ≡ false → made base j m ≡ None
no_commit base j m h = rw (and_right (puts_now j m) (commits_now m) h) refl

pub made_none : (base : ℕ) (k : Key) (e : Event) (m : HistMoment) → wanted k m ≡ true → makes_commit (answer_to (source k (Came k e ∷ m))) ≡ false → made base k (Came k e ∷ m) ≡ None
made_none base k e m w h = no_commit base k (Came k e ∷ m) (commits_by k e m w ∙ h)

-- an event of an unwanted key makes no commit of any key
pub made_unwanted : (base : ℕ) (j k : Key) (e : Event) (m : HistMoment) → wanted k m ≡ false → made base j (Came k e ∷ m) ≡ None
made_unwanted base j k e m w = no_commit base j (Came k e ∷ m) (ap (λ (b : Bool). b && is_some (shown (source k (Came k e ∷ m)))) w)

pub count_unwanted : (base : ℕ) (k : Key) (e : Event) (m : HistMoment) → wanted k m ≡ false → count base (Came k e ∷ m) ≡ count base m
count_unwanted base k e m w = ap (λ (b : Bool). if b then suc (count base m) else count base m) (ap (λ (b : Bool). b && is_some (shown (source k (Came k e ∷ m)))) w)

-- the commit that is made, with a BEGIN among its events or not
pub record IsMade (base : ℕ) (k : Key) (e : Event) (m : HistMoment) (begins : Bool) : Type 0 where
  pub commit : Commit
  pub made_is : made base k (Came k e ∷ m) ≡ Some commit
  pub number_is : commit.number ≡ count base (Came k e ∷ m)
  pub snapshot_is : is_snapshot commit ≡ begins
  pub events_is : commit.events ≡ events_of (source k (Came k e ∷ m))
  pub last_is : last base k (Came k e ∷ m) ≡ Some commit

some_from : {A : Type 0} (o : Option A) → is_some o ≡ true → (x : A) × (o ≡ Some x)
some_from None h = cc h
some_from (Some x) h = (x, refl)

is_made : (base : ℕ) (k : Key) (m : HistMoment) (s : flags.Shown) → puts_now k m ≡ true → commits_now m ≡ true → shown (source k m) ≡ Some s → is_some (made base k m) ≡ true
is_made base k m s p q r = rw (p, q, r) refl

made_some : (base : ℕ) (k : Key) (e : Event) (m : HistMoment) (b : Bool) → wanted k m ≡ true → is_some (shown (source k (Came k e ∷ m))) ≡ true → has_begin (events_of (source k (Came k e ∷ m))) ≡ b → IsMade base k e m b
made_some base k e m b w h g =
    let s = some_from (shown (source k (Came k e ∷ m))) h in
    let now : commits_now (Came k e ∷ m) ≡ true = ap (λ (x : Bool). x && is_some (shown (source k (Came k e ∷ m)))) w ∙ h in
    let c = some_from (made base k (Came k e ∷ m)) (is_made base k (Came k e ∷ m) s.0 (key_eq-same k) now s.1) in
    let f = made_facts base k (Came k e ∷ m) c.0 c.1 in
    record {
      commit = c.0;
      made_is = c.1;
      number_is = f.number_is;
      snapshot_is = ap (λ (es : List Event). has_begin es) f.events_is ∙ g;
      events_is = f.events_is;
      last_is = last_made base k (Came k e) m c.0 c.1 (wanted-came k k e m ∙ w);
    }

pub made_snapshot : (base : ℕ) (k : Key) (e : Event) (m : HistMoment) → wanted k m ≡ true → answer_to (source k (Came k e ∷ m)) ≡ Snapshot → IsMade base k e m true
made_snapshot base k e m w h =
    let es = source k (Came k e ∷ m) in
    let p = by_snapshot (has_begin es) (is_some (shown es)) (has_begin (events_of es)) h in
    made_some base k e m true w p.0 p.1

pub made_update : (base : ℕ) (k : Key) (e : Event) (m : HistMoment) → wanted k m ≡ true → answer_to (source k (Came k e ∷ m)) ≡ Update → IsMade base k e m false
made_update base k e m w h =
    let es = source k (Came k e ∷ m) in
    let p = by_update (has_begin es) (is_some (shown es)) (has_begin (events_of es)) h in
    made_some base k e m false w p.1 p.2

-- the batch of a commit without a BEGIN has all its events
pub update_batch : (es : List Event) → answer_to es ≡ Update → last_batch es ≡ events_of es
update_batch es h =
    let p = by_update (has_begin es) (is_some (shown es)) (has_begin (events_of es)) h in
    if_true (is_some (shown es)) (without_stale (events_of es)) [] p.1 ∙ if_false (has_begin (events_of es)) (since_begin (events_of es)) (events_of es) p.2

-- before a commit without a BEGIN there was a commit
place_before : (e : Event) (es : List Event) → has_begin (e ∷ es) ≡ true → has_begin (events_of (e ∷ es)) ≡ false → is_some (last_shown es) ≡ true
place_before e es h n = go (is_begin e) (has_begin es) (has_begin (after_place es)) (is_some (last_shown es)) (begin_known es) h n
  where
    go : (a b c d : Bool) → b ≡ (c || d) → (a || b) ≡ true → (a || c) ≡ false → d ≡ true
    go true b c d p h n = cc n
    go false b true d p h n = cc n
    go false b false d p h n = sym p ∙ h

pub last_before : (base : ℕ) (k : Key) (e : Event) (m : HistMoment) → wanted k m ≡ true → answer_to (source k (Came k e ∷ m)) ≡ Update → (r : Commit) × (last base k m ≡ Some r)
last_before base k e m w h =
    let es = source k (Came k e ∷ m) in
    let p = by_update (has_begin es) (is_some (shown es)) (has_begin (events_of es)) h in
    let q = source_came k e m w in
    let there : is_some (last_shown (source k m)) ≡ true =
    place_before e (source k m) (ap (λ (xs : List Event). has_begin xs) (sym q) ∙ p.0) (ap (λ (xs : List Event). has_begin (events_of xs)) (sym q) ∙ p.2) in
    some_from (last base k m) (mapped (last base k m) ∙ ap (λ (o : Option flags.Shown). is_some o) (sym (shows_last base k m)) ∙ there)
  where
    mapped : (o : Option Commit) → is_some o ≡ is_some (option_map shown_in o)
    mapped None = refl
    mapped (Some c) = refl

-- a commit without a BEGIN leaves the floors, and so does an event without a commit
pub floor_update : (base a : ℕ) (k : Key) (e : Event) (m : HistMoment) → wanted k m ≡ true → answer_to (source k (Came k e ∷ m)) ≡ Update → agent_floor base a k (Came k e ∷ m) ≡ agent_floor base a k m
floor_update base a k e m w h =
    let c = made_update base k e m w h in
    let r = last_before base k e m w h in
    floor_stays base a k e m c.commit r.0 w (wanted-came k k e m ∙ w) c.made_is r.1 c.snapshot_is

pub floor_quiet : (base a : ℕ) (k : Key) (e : Event) (m : HistMoment) → wanted k m ≡ true → makes_commit (answer_to (source k (Came k e ∷ m))) ≡ false → agent_floor base a k (Came k e ∷ m) ≡ agent_floor base a k m
floor_quiet base a k e m w h =
    ap (λ (o : Option ℕ). meet o (last base k (Came k e ∷ m))) (limit_came a k k e m)
    ∙ ap (λ (o : Option Commit). meet (limit_of a k m) o) (last_quiet base k (Came k e) m (made_none base k e m w h) (wanted-came k k e m ∙ w))

-- the number of the last commit
pub number_then : (base : ℕ) (k : Key) (e : Event) (m : HistMoment) (n old : ℕ) (c : Commit) → wanted k m ≡ true → n ≡ count base (Came k e ∷ m) → (last base k m ≡ Some c → old ≡ c.number) → last base k (Came k e ∷ m) ≡ Some c
    → (if makes_commit (answer_to (source k (Came k e ∷ m))) then n else old) ≡ c.number
number_then base k e m n old c w nu was h = go (makes_commit (answer_to (source k (Came k e ∷ m)))) refl
  where
    number : Option Commit → ℕ
    number None = 0
    number (Some d) = d.number

    go : (b : Bool) → makes_commit (answer_to (source k (Came k e ∷ m))) ≡ b → (if b then n else old) ≡ c.number
    go true q =
        let d = made_some base k e m (has_begin (events_of (source k (Came k e ∷ m)))) w (sym (makes (source k (Came k e ∷ m))) ∙ q) refl in
        nu ∙ sym d.number_is ∙ ap number (sym d.last_is ∙ h)
    go false q = was (sym (last_quiet base k (Came k e) m (made_none base k e m w q) (wanted-came k k e m ∙ w)) ∙ h)
