-- What each act leaves of which keys are wanted and held, and of their totals.
use Rattle.std.proofs.Common.{◌≡◌, ◌⊎◌, inl, inr, ℕ, ◌≤◌, min, Bool, true, false, ◌||◌, not, if◌then◌else◌, nat_eq, Option, Some, None, is_some, List, [], ◌∷◌, refl, ap, sym, ◌∙◌, arith}
use Rattle.std.proofs.lemmas.Bool.Decides.{nat_tests}
use Rattle.std.specs.List.{filter, list_any, filter_map, cons_option}
use Rattle.std.proofs.Math.Bool.{and-false}
use Rattle.std.proofs.lemmas.Bool.{or_left, or_right}
use Rattle.qd_scheme.specs.declared.key.Key.{Key}
use Rattle.qd_scheme.specs.Keys.{key_eq}
use Rattle.qd_scheme.proofs.KeyLaws.{key_eq-true, key_eq-comm}
use Rattle.qd_sub.specs.Acts.{Act, Subscribed, Unsubscribed, Closed, Came, Gave, Told, Full, Moment, is_pair, newest_key}
use Rattle.qd_sub.specs.Since.{unbroken}
use Rattle.qd_sub.specs.Subscriptions.{limit_of, subscribed, agents, wanted, least, total}
use Rattle.qd_sub.specs.Watching.{known}
use Rattle.qd_sub.specs.Holding.{watchers, held, held_keys, has_key}
use Rattle.qd_sub.proofs.SinceLaws.{grown, by_since-same, same_number}
use Rattle.qd_sub.proofs.OrderLaws.{is_about, by_since-has, once, by_since-once}
use Rattle.qd_sub.proofs.OrderSteps.{by_since-about}
use Rattle.qd_sub.proofs.SubscriptionLaws.{subscribed-closed, wanted-by, wanted-agent, wanted-subscribed, known-closed}
use Rattle.qd_sub.proofs.StepLaws.{subscribed-about}

same-truth : (a b : Bool) → (a ≡ true → b ≡ true) → (b ≡ true → a ≡ true) → a ≡ b
same-truth true true f g = refl
same-truth true false f g = sym (f refl)
same-truth false true f g = g refl
same-truth false false f g = refl

number-true : (m n : ℕ) → nat_eq m n ≡ true → m ≡ n
number-true m n h = grind (arith, nat_tests)

-- where the agents of a key are the same, it is wanted as before
pub wanted-same : {P T : Type 0} (k : Key) (act : Act P T) (now : Moment P T) → ((a : ℕ) → subscribed a k (act ∷ now) ≡ subscribed a k now) → wanted k (act ∷ now) ≡ wanted k now
wanted-same k act now same =
    wanted-by k (act ∷ now) (wanted k now) (λ a t. wanted-subscribed a k now (sym (same a) ∙ t)) (λ t. let found = wanted-agent k now t in (found.0, same found.0 ∙ found.1))

pub wanted-about : {P T : Type 0} (act : Act P T) (now : Moment P T) (k : Key) → is_about key_eq k (newest_key (act ∷ now)) ≡ false → wanted k (act ∷ now) ≡ wanted k now
wanted-about act now k h = wanted-same k act now (λ a. subscribed-about a act now k h)

-- an act about another key leaves what a watcher knows of this one
pub known-about : {P T : Type 0} (w : ℕ) (act : Act P T) (now : Moment P T) (k : Key) → is_about key_eq k (newest_key (act ∷ now)) ≡ false → known w k (act ∷ now) ≡ known w k now
unfolding known
known-about w (Subscribed b j limit) now k h = refl
known-about w (Unsubscribed b j) now k h = refl
known-about w (Closed b) now k h = refl
known-about w (Came j item) now k h = refl
known-about w (Gave b j item) now k h = refl
known-about w (Told v j t) now k h = rw (h, and-false (nat_eq w v)) refl
known-about w (Full b j) now k h = refl

-- a watcher that knows a total was told one
watcher-listed : {P T : Type 0} (w : ℕ) (k : Key) (now : Moment P T) → is_some (known w k now) ≡ true → list_any (λ v. nat_eq w v) (watchers now) ≡ true
unfolding known watchers
watcher-listed w k [] h = cc
watcher-listed w k (Subscribed b j limit ∷ now) h = watcher-listed w k now h
watcher-listed w k (Unsubscribed b j ∷ now) h = watcher-listed w k now h
watcher-listed w k (Closed b ∷ now) h = watcher-listed w k now h
watcher-listed w k (Came j item ∷ now) h = watcher-listed w k now h
watcher-listed w k (Gave b j item ∷ now) h = watcher-listed w k now h
watcher-listed w k (Full b j ∷ now) h = watcher-listed w k now h
watcher-listed w k (Told v j t ∷ now) h =
    let go : (c : Bool) → nat_eq w v ≡ c → list_any (λ u. nat_eq w u) (v ∷ watchers now) ≡ true =
    elim [
      | true ↦ λ e. rw e refl
      | false ↦ λ e. rw e (watcher-listed w k now (rw e at h))
    ] in
    go (nat_eq w v) refl

any-there : (p : ℕ → Bool) (w : ℕ) (vs : List ℕ) → p w ≡ true → list_any (λ v. nat_eq w v) vs ≡ true → list_any p vs ≡ true
any-there p w [] h k = k
any-there p w (v ∷ vs) h k =
    let go : (c : Bool) → nat_eq w v ≡ c → (p v || list_any p vs) ≡ true =
    elim [
      | true ↦ λ e. let f : p v ≡ true = ap p (sym (number-true w v e)) ∙ h in rw f refl
      | false ↦ λ e. let f : list_any p vs ≡ true = any-there p w vs h (rw e at k) in
          elim (p v) as (λ d. (d || list_any p vs) ≡ true) [ true ↦ refl | false ↦ f ]
    ] in
    go (nat_eq w v) refl

any-found : {X : Type 0} (p : X → Bool) (xs : List X) → list_any p xs ≡ true → (x : X) × (p x ≡ true)
any-found p [] h = cc
any-found p (x ∷ xs) h =
    let go : (c : Bool) → p x ≡ c → (y : _) × (p y ≡ true) =
    elim [ true ↦ λ e. (x, e) | false ↦ λ e. any-found p xs (rw e at h) ] in
    go (p x) refl

or-cases : (a b : Bool) → (a || b) ≡ true → (a ≡ true) ⊎ (b ≡ true)
or-cases true b h = inl refl
or-cases false b h = inr h

-- a key is held where an agent is subscribed to it, or a watcher knows a total of it
pub held-agent : {P T : Type 0} (a : ℕ) (k : Key) (now : Moment P T) → subscribed a k now ≡ true → held k now ≡ true
unfolding held
held-agent a k now h = or_left (wanted k now) (list_any (λ w. is_some (known w k now)) (watchers now)) (wanted-subscribed a k now h)

pub held-watcher : {P T : Type 0} (w : ℕ) (k : Key) (now : Moment P T) → is_some (known w k now) ≡ true → held k now ≡ true
unfolding held
held-watcher w k now h = or_right (wanted k now) (list_any (λ v. is_some (known v k now)) (watchers now)) (any-there (λ v. is_some (known v k now)) w (watchers now) h (watcher-listed w k now h))

-- and only there
pub held-holder : {P T : Type 0} (k : Key) (now : Moment P T) → held k now ≡ true → ((a : ℕ) × (subscribed a k now ≡ true)) ⊎ ((w : ℕ) × (is_some (known w k now) ≡ true))
unfolding held
held-holder k now h =
    elim (or-cases (wanted k now) (list_any (λ w. is_some (known w k now)) (watchers now)) h) [
      | inl t ↦ inl (wanted-agent k now t)
      | inr t ↦ inr (any-found (λ w. is_some (known w k now)) (watchers now) t)
    ]

-- where a test says so of it
pub held-by : {P T : Type 0} (k : Key) (now : Moment P T) (b : Bool) → ((a : ℕ) → subscribed a k now ≡ true → b ≡ true) → ((w : ℕ) → is_some (known w k now) ≡ true → b ≡ true) →
    (b ≡ true → ((a : ℕ) × (subscribed a k now ≡ true)) ⊎ ((w : ℕ) × (is_some (known w k now) ≡ true))) → held k now ≡ b
held-by k now b agent watcher holder =
    same-truth (held k now) b
    (λ t. elim (held-holder k now t) [ inl f ↦ agent f.0 f.1 | inr f ↦ watcher f.0 f.1 ])
    (λ t. elim (holder t) [ inl f ↦ held-agent f.0 k now f.1 | inr f ↦ held-watcher f.0 k now f.1 ])

pub held-same : {P T : Type 0} (k : Key) (act : Act P T) (now : Moment P T) → ((a : ℕ) → subscribed a k (act ∷ now) ≡ subscribed a k now) → ((w : ℕ) → known w k (act ∷ now) ≡ known w k now) → held k (act ∷ now) ≡ held k now
held-same k act now subs knows =
    held-by k (act ∷ now) (held k now)
    (λ a t. held-agent a k now (sym (subs a) ∙ t))
    (λ w t. held-watcher w k now (sym (ap is_some (knows w)) ∙ t))
    (λ t. elim (held-holder k now t) [ inl f ↦ inl (f.0, subs f.0 ∙ f.1) | inr f ↦ inr (f.0, ap is_some (knows f.0) ∙ f.1) ])

pub held-about : {P T : Type 0} (act : Act P T) (now : Moment P T) (k : Key) → is_about key_eq k (newest_key (act ∷ now)) ≡ false → held k (act ∷ now) ≡ held k now
held-about act now k h = held-same k act now (λ a. subscribed-about a act now k h) (λ w. known-about w act now k h)

pub held-empty : (P T : Type 0) (k : Key) → held {P = P} {T = T} k [] ≡ false
unfolding held wanted agents watchers
held-empty P T k = refl

-- the held keys
pub held_keys-has : {P T : Type 0} (now : Moment P T) (k : Key) → has_key (held_keys now) k ≡ held k now
unfolding held_keys
held_keys-has now k = by_since-has newest_key held key_eq key_eq-true (held-empty _ _) held-about now k

pub held_keys-once : {P T : Type 0} (now : Moment P T) → once key_eq (held_keys now) ≡ true
unfolding held_keys
held_keys-once now = by_since-once newest_key held key_eq key_eq-true key_eq-comm (held-empty _ _) held-about now

-- an act about k leaves the held keys, with k last where it begins to be held, and without it where it is not held
pub held_keys-about : {P T : Type 0} (act : Act P T) (now : Moment P T) (k : Key) → newest_key (act ∷ now) ≡ Some k → held_keys (act ∷ now) ≡ (if held k (act ∷ now) then grown key_eq (held_keys now) k else filter (λ j. not (key_eq k j)) (held_keys now))
unfolding held_keys
held_keys-about act now k about =
    by_since-about newest_key unbroken held key_eq key_eq-true act now k about (λ j. refl) (λ j e. held-about act now j (ap (is_about key_eq j) about ∙ key_eq-comm j k ∙ e)) (held_keys-has now k)

pub held_keys-closed : {P T : Type 0} (a : ℕ) (now : Moment P T) → held_keys (Closed a ∷ now) ≡ held_keys now
unfolding held_keys
held_keys-closed a now = by_since-same newest_key held (Closed a) now (λ k. held-same k (Closed a) now (λ b. subscribed-closed b k a now) (λ w. known-closed w k a now))

-- limits
pub limit_of-sub : {P T : Type 0} (a : ℕ) (k : Key) (b : ℕ) (j : Key) (limit : ℕ) (now : Moment P T) → limit_of a k (Subscribed b j limit ∷ now) ≡ (if is_pair a k b j then Some limit else limit_of a k now)
unfolding limit_of
limit_of-sub a k b j limit now = refl

pub limit_of-unsub : {P T : Type 0} (a : ℕ) (k : Key) (b : ℕ) (j : Key) (now : Moment P T) → limit_of a k (Unsubscribed b j ∷ now) ≡ (if is_pair a k b j then None else limit_of a k now)
unfolding limit_of
limit_of-unsub a k b j now = refl

-- the act is neither a subscription nor the end of one
abbrev pub is_quiet : {P T : Type 0} → Act P T → Bool
is_quiet (Subscribed b j limit) = false
is_quiet (Unsubscribed b j) = false
is_quiet (Closed b) = true
is_quiet (Came j item) = true
is_quiet (Gave b j item) = true
is_quiet (Told w j t) = true
is_quiet (Full b j) = true

pub limit_of-quiet : {P T : Type 0} (a : ℕ) (k : Key) (act : Act P T) (now : Moment P T) → is_quiet act ≡ true → limit_of a k (act ∷ now) ≡ limit_of a k now
unfolding limit_of
limit_of-quiet a k (Subscribed b j limit) now h = cc
limit_of-quiet a k (Unsubscribed b j) now h = cc
limit_of-quiet a k (Closed b) now h = refl
limit_of-quiet a k (Came j item) now h = refl
limit_of-quiet a k (Gave b j item) now h = refl
limit_of-quiet a k (Told w j t) now h = refl
limit_of-quiet a k (Full b j) now h = refl

pub limit_of-about : {P T : Type 0} (a : ℕ) (act : Act P T) (now : Moment P T) (k : Key) → is_about key_eq k (newest_key (act ∷ now)) ≡ false → limit_of a k (act ∷ now) ≡ limit_of a k now
limit_of-about a (Subscribed b j limit) now k h = limit_of-sub a k b j limit now ∙ rw (h, and-false (nat_eq a b)) refl
limit_of-about a (Unsubscribed b j) now k h = limit_of-unsub a k b j now ∙ rw (h, and-false (nat_eq a b)) refl
limit_of-about a (Closed b) now k h = limit_of-quiet a k (Closed b) now refl
limit_of-about a (Came j item) now k h = limit_of-quiet a k (Came j item) now refl
limit_of-about a (Gave b j item) now k h = limit_of-quiet a k (Gave b j item) now refl
limit_of-about a (Told w j t) now k h = limit_of-quiet a k (Told w j t) now refl
limit_of-about a (Full b j) now k h = limit_of-quiet a k (Full b j) now refl

-- an agent with a limit subscribed once
agent-listed : {P T : Type 0} (a : ℕ) (k : Key) (now : Moment P T) → is_some (limit_of a k now) ≡ true → list_any (λ b. nat_eq a b) (agents now) ≡ true
unfolding limit_of agents
agent-listed a k [] h = cc
agent-listed a k (Subscribed b j limit ∷ now) h =
    let go : (c : Bool) → nat_eq a b ≡ c → list_any (λ d. nat_eq a d) (b ∷ agents now) ≡ true =
    elim [
      | true ↦ λ e. rw e refl
      | false ↦ λ e. rw e (agent-listed a k now (rw e at h))
    ] in
    go (nat_eq a b) refl
agent-listed a k (Unsubscribed b j ∷ now) h =
    let go : (c : Bool) → is_pair a k b j ≡ c → list_any (λ d. nat_eq a d) (agents now) ≡ true =
    elim [
      | true ↦ λ e. let z = rw e at h in cc
      | false ↦ λ e. agent-listed a k now (rw e at h)
    ] in
    go (is_pair a k b j) refl
agent-listed a k (Closed b ∷ now) h = agent-listed a k now h
agent-listed a k (Came j item ∷ now) h = agent-listed a k now h
agent-listed a k (Gave b j item ∷ now) h = agent-listed a k now h
agent-listed a k (Told w j t ∷ now) h = agent-listed a k now h
agent-listed a k (Full b j ∷ now) h = agent-listed a k now h

-- the least of some numbers
abbrev stands_in : List ℕ → ℕ → Bool
stands_in ns n = list_any (nat_eq n) ns

some-same : (m n : ℕ) → (let a : Option ℕ = Some m in let b : Option ℕ = Some n in a ≡ b) → m ≡ n
some-same m n h = cc

none-some : (n : ℕ) → (let a : Option ℕ = None in let b : Option ℕ = Some n in a ≡ b) → ⊥
none-some n h = cc

least-none : (ns : List ℕ) (n : ℕ) → least ns ≡ None → stands_in ns n ≡ false
unfolding least
least-none [] n h = refl
least-none (m ∷ ns) n h = absurd (none-some _ (sym h))

pub record IsLeast (ns : List ℕ) (m : ℕ) : Type 0 where
  pub there : stands_in ns m ≡ true
  pub below : (n : ℕ) → stands_in ns n ≡ true → m ≤ n

least-some : (ns : List ℕ) (m : ℕ) → least ns ≡ Some m → IsLeast ns m
unfolding least
least-some [] m h = absurd (none-some m h)
least-some (x ∷ ns) m h =
    let go : (o : Option ℕ) → least ns ≡ o → elim o [ None ↦ x | Some y ↦ min x y ] ≡ m → IsLeast (x ∷ ns) m =
    elim [
      | None ↦ λ e f. record {
        there = or_left (nat_eq m x) (stands_in ns m) (ap (λ z. nat_eq m z) f ∙ same_number m);
        below = λ n t. elim (or-cases (nat_eq n x) (stands_in ns n) t) [
          | inl g ↦ let s : n ≡ x = number-true n x g in omega (arith, s, f)
          | inr g ↦ let z : true ≡ false = sym g ∙ least-none ns n e in cc
        ];
      }
      | Some y ↦ λ e f.
          let rest = least-some ns y e in
          record {
            there = least-there x y m ns rest.there f;
            below = λ n t. elim (or-cases (nat_eq n x) (stands_in ns n) t) [
              | inl g ↦ let s : n ≡ x = number-true n x g in omega (arith, s, f)
              | inr g ↦ omega (arith, f, rest.below n g)
            ];
          }
    ] in
    go (least ns) refl (some-same _ m h)
  where
    least-there : (x y m : ℕ) (ns : List ℕ) → stands_in ns y ≡ true → min x y ≡ m → (nat_eq m x || stands_in ns m) ≡ true
    least-there x y m ns t f =
        elim (nat_eq m x) as (λ c. nat_eq m x ≡ c → (c || stands_in ns m) ≡ true) [
          | true ↦ λ e. refl
          | false ↦ λ e. let s : m ≡ y = grind (arith, nat_tests) in ap (stands_in ns) s ∙ t
        ] refl

pub least-same : (ms ns : List ℕ) → ((n : ℕ) → stands_in ms n ≡ stands_in ns n) → least ms ≡ least ns
least-same ms ns same =
    let go : (o p : Option ℕ) → least ms ≡ o → least ns ≡ p → o ≡ p =
    elim [
      | None ↦ elim [
        | None ↦ λ e f. refl
        | Some n ↦ λ e f. let z : true ≡ false = sym (same n ∙ (least-some ns n f).there) ∙ least-none ms n e in cc
      ]
      | Some m ↦ elim [
        | None ↦ λ e f. let z : true ≡ false = sym (sym (same m) ∙ (least-some ms m e).there) ∙ least-none ns m f in cc
        | Some n ↦ λ e f.
            let p = least-some ms m e in
            let q = least-some ns n f in
            let s : m ≡ n = omega (arith, p.below n (same n ∙ q.there), q.below m (sym (same m) ∙ p.there)) in
            ap (λ x. Some x) s
      ]
    ] in
    go (least ms) (least ns) refl refl

-- the numbers that a list of agents leads to
map-there : (f : ℕ → Option ℕ) (bs : List ℕ) (a n : ℕ) → list_any (λ b. nat_eq a b) bs ≡ true → f a ≡ Some n → stands_in (filter_map f bs) n ≡ true
map-there f [] a n h e = cc
map-there f (b ∷ bs) a n h e =
    elim (or-cases (nat_eq a b) (list_any (λ b. nat_eq a b) bs) h) [
      | inl g ↦ let s : f b ≡ Some n = ap f (sym (number-true a b g)) ∙ e in rw s (or_left (nat_eq n n) (stands_in (filter_map f bs) n) (same_number n))
      | inr g ↦ cons-there (f b) (filter_map f bs) n (map-there f bs a n g e)
    ]
  where
    cons-there : (o : Option ℕ) (ns : List ℕ) (n : ℕ) → stands_in ns n ≡ true → stands_in (cons_option o ns) n ≡ true
    cons-there None ns n h = h
    cons-there (Some m) ns n h = or_right (nat_eq n m) (stands_in ns n) h

map-from : (f : ℕ → Option ℕ) (bs : List ℕ) (n : ℕ) → stands_in (filter_map f bs) n ≡ true → (a : ℕ) × (f a ≡ Some n)
map-from f [] n h = cc
map-from f (b ∷ bs) n h =
    let go : (o : Option ℕ) → f b ≡ o → stands_in (cons_option o (filter_map f bs)) n ≡ true → (a : ℕ) × (f a ≡ Some n) =
    elim [
      | None ↦ λ e t. map-from f bs n t
      | Some m ↦ λ e t. elim (or-cases (nat_eq n m) (stands_in (filter_map f bs) n) t) [
        | inl g ↦ (b, e ∙ ap (λ x. Some x) (sym (number-true n m g)))
        | inr g ↦ map-from f bs n g
      ]
    ] in
    go (f b) refl h

some-is : (o : Option ℕ) (n : ℕ) → o ≡ Some n → is_some o ≡ true
some-is o n h = rw h refl

-- the total of a key is the least limit over any list that has all of its agents
pub total-by : {P T : Type 0} (k : Key) (now : Moment P T) (bs : List ℕ) → ((a : ℕ) → is_some (limit_of a k now) ≡ true → list_any (λ b. nat_eq a b) bs ≡ true) → total k now ≡ least (filter_map (λ a. limit_of a k now) bs)
unfolding total
total-by k now bs all =
    least-same (filter_map (λ a. limit_of a k now) (agents now)) (filter_map (λ a. limit_of a k now) bs) (λ n. same-truth _ _
    (λ t. let found = map-from (λ a. limit_of a k now) (agents now) n t in map-there (λ a. limit_of a k now) bs found.0 n (all found.0 (some-is (limit_of found.0 k now) n found.1)) found.1)
    (λ t. let found = map-from (λ a. limit_of a k now) bs n t in map-there (λ a. limit_of a k now) (agents now) found.0 n (agent-listed found.0 k now (some-is (limit_of found.0 k now) n found.1)) found.1))

map-agree : (f g : ℕ → Option ℕ) (bs : List ℕ) → ((a : ℕ) → f a ≡ g a) → filter_map f bs ≡ filter_map g bs
map-agree f g [] h = refl
map-agree f g (a ∷ bs) h = rw (h a, map-agree f g bs h) refl

-- where the limits of a key are the same, so is its total
pub total-same : {P T : Type 0} (k : Key) (act : Act P T) (now : Moment P T) → ((a : ℕ) → limit_of a k (act ∷ now) ≡ limit_of a k now) → total k (act ∷ now) ≡ total k now
total-same k act now same =
    total-by k (act ∷ now) (agents now) (λ a t. agent-listed a k now (sym (ap is_some (same a)) ∙ t))
    ∙ ap least (map-agree (λ a. limit_of a k (act ∷ now)) (λ a. limit_of a k now) (agents now) same)
    ∙ sym (total-by k now (agents now) (λ a t. agent-listed a k now t))

pub total-about : {P T : Type 0} (act : Act P T) (now : Moment P T) (k : Key) → is_about key_eq k (newest_key (act ∷ now)) ≡ false → total k (act ∷ now) ≡ total k now
total-about act now k h = total-same k act now (λ a. limit_of-about a act now k h)

pub total-quiet : {P T : Type 0} (k : Key) (act : Act P T) (now : Moment P T) → is_quiet act ≡ true → total k (act ∷ now) ≡ total k now
total-quiet k act now h = total-same k act now (λ a. limit_of-quiet a k act now h)
