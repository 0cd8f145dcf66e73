-- The pairs and the keys that a stream holds: each is in its list once, where each item was put for its own key.
use Rattle.std.proofs.Common.{◌≡◌, ℕ, suc, zero, ◌+◌, ◌-◌, ◌≤◌, Bool, true, false, ◌&&◌, ◌||◌, not, if◌then◌else◌, nat_eq, nat_lt, List, [], ◌∷◌, ◌++◌, length, drop, refl, ap, sym, ◌∙◌, subst, arith, ◌⊎◌, inl, inr}
use Rattle.std.specs.Prelude.{Option, Some, None, is_some, slice_get}
use Rattle.std.specs.List.{filter, list_any}
use Rattle.std.specs.Option.{option_to_list}
use Rattle.std.proofs.lemmas.Bool.Decides.{nat_tests}
use Rattle.std.proofs.lemmas.List.Folds.{list_any-append}
use Rattle.qd_scheme.specs.declared.key.Key.{Key}
use Rattle.qd_scheme.specs.Keys.{key_eq}
use Rattle.qd_scheme.proofs.KeyLaws.{key_eq-true, key_eq-comm}
use Rattle.qd_sub.specs.Acts.{Act, Subscribed, Unsubscribed, Closed, Came, Gave, Told, Full, is_pair, newest_key}
use Rattle.qd_sub.specs.Subscriptions.{limit_of, subscribed, agents}
use Rattle.qd_sub.specs.Watching.{known}
use Rattle.qd_sub.specs.Holding.{watchers, newest_pair, has_key}
use Rattle.qd_sub.proofs.SinceLaws.{and-right}
use Rattle.qd_sub.proofs.SubscriptionLaws.{subscribed-sub, subscribed-unsub, subscribed-closed, subscribed-came, subscribed-gave}
use Rattle.qd_sub.proofs.StepLaws.{subscribed-told, subscribed-full, subscribed-empty, pair_eq, pair_eq-true, pair_eq-comm}
use Rattle.qd_sub.proofs.HeldLaws.{known-about}
use Rattle.qd_sub.proofs.OrderLaws.{is_about, once}
use Rattle.qd_table.proofs.TableLaws.{or-left, or-right, or-cases, true-false}
use Rattle.qd_stream.specs.declared.item.StreamItem.{StreamItem}
use Rattle.qd_stream.specs.Items.{key_of_item}
use Rattle.qd_stream.specs.Waiting.{StreamMoment, matched, Gone, none_gone, after_match, after_gift, gone, waiting}
use Rattle.qd_stream.specs.Holding.{is_owed, holds_pair, held, held_keys, held_pairs, held_by}
use Rattle.qd_stream.proofs.WaitingLaws.{drop-none}
use Rattle.qd_stream.proofs.BegunLaws.{ordered-has, ordered-once}

-- each item was put for its own key
unfoldable pub EachKeyed : StreamMoment → Type 0
EachKeyed [] = Unit {0}
EachKeyed (Came k item ∷ past) = (k ≡ key_of_item item) × EachKeyed past
EachKeyed (Subscribed b j limit ∷ past) = EachKeyed past
EachKeyed (Unsubscribed b j ∷ past) = EachKeyed past
EachKeyed (Closed b ∷ past) = EachKeyed past
EachKeyed (Gave b j item ∷ past) = EachKeyed past
EachKeyed (Told w j total ∷ past) = EachKeyed past
EachKeyed (Full b j ∷ past) = EachKeyed past

pub keyed-rest : (act : Act StreamItem StreamItem) (now : StreamMoment) → EachKeyed (act ∷ now) → EachKeyed now
unfolding EachKeyed
keyed-rest (Came k item) now h = h.1
keyed-rest (Subscribed b j limit) now h = h
keyed-rest (Unsubscribed b j) now h = h
keyed-rest (Closed b) now h = h
keyed-rest (Gave b j item) now h = h
keyed-rest (Told w j total) now h = h
keyed-rest (Full b j) now h = h

-- an item of k
abbrev is_of : Key → StreamItem → Bool
is_of k i = key_eq k (key_of_item i)

any-more : (p : StreamItem → Bool) (n : ℕ) (xs : List StreamItem) (x : StreamItem) → list_any p (drop n (xs ++ x ∷ [])) ≡ true → (list_any p (drop n xs) ≡ true) ⊎ (p x ≡ true)
any-more p zero xs x h = elim (or-cases (list_any p xs) (p x || false) (sym (list_any-append p xs (x ∷ [])) ∙ h)) [
  | inl t ↦ inl t
  | inr t ↦ elim (or-cases (p x) false t) [ inl u ↦ inr u | inr u ↦ absurd (true-false (sym u)) ]
]
any-more p (suc n) [] x h = absurd (true-false (sym h ∙ ap (list_any p) (drop-none n)))
any-more p (suc n) (y ∷ ys) x h = any-more p n ys x h

any-later : (p : StreamItem → Bool) (n d : ℕ) (xs : List StreamItem) → list_any p (drop (n + d) xs) ≡ true → list_any p (drop n xs) ≡ true
any-later p n zero xs h = (let same : n + 0 ≡ n = omega arith in subst (λ m. list_any p (drop m xs) ≡ true) same h)
any-later p zero (suc d) [] h = absurd (true-false (sym h ∙ ap (list_any p) (let e : 0 + suc d ≡ suc d = omega arith in ap (λ m. drop m (let ys : List StreamItem = [] in ys)) e)))
any-later p zero (suc d) (x ∷ xs) h =
    let less : 0 + suc d ≡ suc (0 + d) = omega arith in
    or-right (p x) (list_any p xs) (any-later p 0 d xs (subst (λ m. list_any p (drop m (x ∷ xs)) ≡ true) less h))
any-later p (suc n) (suc d) [] h = absurd (true-false (sym h ∙ ap (list_any p) (let e : suc n + suc d ≡ suc (n + suc d) = omega arith in ap (λ m. drop m (let ys : List StreamItem = [] in ys)) e)))
any-later p (suc n) (suc d) (x ∷ xs) h =
    let less : suc n + suc d ≡ suc (n + suc d) = omega arith in
    any-later p n (suc d) xs (subst (λ m. list_any p (drop m (x ∷ xs)) ≡ true) less h)

any-at : (p : StreamItem → Bool) (n : ℕ) (xs : List StreamItem) → list_any p (option_to_list (slice_get xs n)) ≡ true → list_any p (drop n xs) ≡ true
any-at p zero [] h = h
any-at p zero (x ∷ xs) h = elim (or-cases (p x) false h) [ inl t ↦ or-left (p x) (list_any p xs) t | inr t ↦ absurd (true-false (sym t)) ]
any-at p (suc n) [] h = h
any-at p (suc n) (x ∷ xs) h = any-at p n xs h

any-kept : (p q : StreamItem → Bool) (xs : List StreamItem) → list_any p (filter q xs) ≡ true → list_any p xs ≡ true
any-kept p q [] h = h
any-kept p q (x ∷ xs) h =
    let go : (c : Bool) → list_any p (if c then x ∷ filter q xs else filter q xs) ≡ true → (p x || list_any p xs) ≡ true =
    elim [
      | true ↦ λ t. elim (or-cases (p x) (list_any p (filter q xs)) t) [ inl u ↦ or-left (p x) (list_any p xs) u | inr u ↦ or-right (p x) (list_any p xs) (any-kept p q xs u) ]
      | false ↦ λ t. or-right (p x) (list_any p xs) (any-kept p q xs t)
    ] in
    go (q x) h

-- something of k is among these
abbrev owes_of : Key → List StreamItem → Gone → Bool
owes_of k items g = list_any (is_of k) g.unreported || list_any (is_of k) (drop g.count items)

owes-match : (cap : ℕ) (k : Key) (items : List StreamItem) (item : StreamItem) (g : Gone) → owes_of k (items ++ item ∷ []) (after_match cap (items ++ item ∷ []) g) ≡ true → (owes_of k items g ≡ true) ⊎ (is_of k item ≡ true)
owes-match cap k items item g h =
    let all : List StreamItem = items ++ item ∷ [] in
    let waits : list_any (is_of k) (drop g.count all) ≡ true → (owes_of k items g ≡ true) ⊎ (is_of k item ≡ true) =
    λ t. elim (any-more (is_of k) g.count items item t) [
      | inl u ↦ inl (or-right (list_any (is_of k) g.unreported) (list_any (is_of k) (drop g.count items)) u)
      | inr u ↦ inr u
    ] in
    let lost : list_any (is_of k) g.unreported ≡ true → (owes_of k items g ≡ true) ⊎ (is_of k item ≡ true) = λ t. inl (or-left (list_any (is_of k) g.unreported) (list_any (is_of k) (drop g.count items)) t) in
    let over : Gone = record { count = length all - cap; unreported = g.unreported ++ option_to_list (slice_get all g.count) } in
    let go : (c : Bool) → nat_lt g.count (length all - cap) ≡ c → owes_of k all (if c then over else g) ≡ true → (owes_of k items g ≡ true) ⊎ (is_of k item ≡ true) =
    elim [
      | true ↦ λ e t. elim (or-cases (list_any (is_of k) (g.unreported ++ option_to_list (slice_get all g.count))) (list_any (is_of k) (drop (length all - cap) all)) t) [
        | inl u ↦ elim (or-cases (list_any (is_of k) g.unreported) (list_any (is_of k) (option_to_list (slice_get all g.count))) (sym (list_any-append (is_of k) g.unreported (option_to_list (slice_get all g.count))) ∙ u)) [
          | inl v ↦ lost v
          | inr v ↦ waits (any-at (is_of k) g.count all v)
        ]
        | inr u ↦ (let apart : length all - cap ≡ g.count + (length all - cap - g.count) = (let lt = less g.count (length all - cap) e in omega arith) in
            waits (any-later (is_of k) g.count (length all - cap - g.count) all (subst (λ n. list_any (is_of k) (drop n all) ≡ true) apart u)))
      ]
      | false ↦ λ e t. elim (or-cases (list_any (is_of k) g.unreported) (list_any (is_of k) (drop g.count all)) t) [ inl u ↦ lost u | inr u ↦ waits u ]
    ] in
    go (nat_lt g.count (length all - cap)) refl h
  where
    less : (m n : ℕ) → nat_lt m n ≡ true → m ≤ n
    less m n t = grind (arith, nat_tests)

owes-gift : (j k : Key) (items : List StreamItem) (count : ℕ) (unreported : List StreamItem) → owes_of k items (after_gift j count unreported) ≡ true → owes_of k items (record { count = count; unreported = unreported }) ≡ true
owes-gift j k items count [] h = any-later (is_of k) count 1 items h
owes-gift j k items count (x ∷ xs) h =
    elim (or-cases (list_any (is_of k) (filter (λ i. not (key_eq j (key_of_item i))) (x ∷ xs))) (list_any (is_of k) (drop count items)) h) [
      | inl t ↦ or-left (list_any (is_of k) (x ∷ xs)) (list_any (is_of k) (drop count items)) (any-kept (is_of k) (λ i. not (key_eq j (key_of_item i))) (x ∷ xs) t)
      | inr t ↦ or-right (list_any (is_of k) (x ∷ xs)) (list_any (is_of k) (drop count items)) t
    ]

module _ (cap : ℕ) where
  -- what becomes owed is of a key that is subscribed
  owed-before : (act : Act StreamItem StreamItem) (now : StreamMoment) → EachKeyed (act ∷ now) → (a : ℕ) (k : Key) → is_owed cap a k (act ∷ now) ≡ true → (is_owed cap a k now ≡ true) ⊎ (subscribed a k now ≡ true)
  unfolding is_owed waiting gone matched EachKeyed
  owed-before (Came j item) now keyed a k h =
      let go : (c : Bool) → subscribed a j now ≡ c → owes_of k (if c then matched a now ++ item ∷ [] else matched a now) (if c then after_match cap (matched a now ++ item ∷ []) (gone cap a now) else gone cap a now) ≡ true →
      (owes_of k (matched a now) (gone cap a now) ≡ true) ⊎ (subscribed a k now ≡ true) =
      elim [
        | true ↦ λ e t. elim (owes-match cap k (matched a now) item (gone cap a now) t) [
          | inl u ↦ inl u
          | inr u ↦ inr (ap (λ x. subscribed a x now) (key_eq-true k (key_of_item item) u ∙ sym keyed.0) ∙ e)
        ]
        | false ↦ λ e t. inl t
      ] in
      go (subscribed a j now) refl h
  owed-before (Gave b j item) now keyed a k h =
      let go : (c : Bool) → owes_of k (matched a now) (if c then after_gift j (gone cap a now).count (gone cap a now).unreported else gone cap a now) ≡ true → (owes_of k (matched a now) (gone cap a now) ≡ true) ⊎ (subscribed a k now ≡ true) =
      elim [
        | true ↦ λ t. inl (owes-gift j k (matched a now) (gone cap a now).count (gone cap a now).unreported t)
        | false ↦ λ t. inl t
      ] in
      go (nat_eq a b) h
  owed-before (Closed b) now keyed a k h =
      let go : (c : Bool) → owes_of k (if c then [] else matched a now) (if c then none_gone else gone cap a now) ≡ true → (owes_of k (matched a now) (gone cap a now) ≡ true) ⊎ (subscribed a k now ≡ true) =
      elim [
        | true ↦ λ t. absurd (true-false (sym t))
        | false ↦ λ t. inl t
      ] in
      go (nat_eq a b) h
  owed-before (Subscribed b j limit) now keyed a k h = inl h
  owed-before (Unsubscribed b j) now keyed a k h = inl h
  owed-before (Told w j total) now keyed a k h = inl h
  owed-before (Full b j) now keyed a k h = inl h

  subscribed-before : (act : Act StreamItem StreamItem) (now : StreamMoment) (a : ℕ) (k : Key) → subscribed a k (act ∷ now) ≡ true → subscribed a k now ≡ false → is_about pair_eq (a, k) (newest_pair (act ∷ now)) ≡ true
  subscribed-before (Subscribed b j limit) now a k h none = elim (or-cases (is_pair a k b j) (subscribed a k now) (sym (subscribed-sub a k b j limit now) ∙ h)) [ inl t ↦ t | inr t ↦ absurd (true-false (sym t ∙ none)) ]
  subscribed-before (Unsubscribed b j) now a k h none = absurd (true-false (sym (and-right (not (is_pair a k b j)) (subscribed a k now) (sym (subscribed-unsub a k b j now) ∙ h)) ∙ none))
  subscribed-before (Came j item) now a k h none = absurd (true-false (sym h ∙ subscribed-came a k j item now ∙ none))
  subscribed-before (Gave b j item) now a k h none = absurd (true-false (sym h ∙ subscribed-gave a k b j item now ∙ none))
  subscribed-before (Closed b) now a k h none = absurd (true-false (sym h ∙ subscribed-closed a k b now ∙ none))
  subscribed-before (Told w j total) now a k h none = absurd (true-false (sym h ∙ subscribed-told a k w j total now ∙ none))
  subscribed-before (Full b j) now a k h none = absurd (true-false (sym h ∙ subscribed-full a k b j now ∙ none))

  or-none : (c d : Bool) → (c || d) ≡ false → (c ≡ false) × (d ≡ false)
  or-none true d h = absurd (true-false h)
  or-none false d h = (refl, h)

  -- a pair becomes held only by its subscription
  pub pair-begins : (act : Act StreamItem StreamItem) (now : StreamMoment) → EachKeyed (act ∷ now) → (a : ℕ) (k : Key) → holds_pair cap a k (act ∷ now) ≡ true → holds_pair cap a k now ≡ false → is_about pair_eq (a, k) (newest_pair (act ∷ now)) ≡ true
  unfolding holds_pair
  pair-begins act now keyed a k h none =
      let out = or-none (subscribed a k now) (is_owed cap a k now) none in
      elim (or-cases (subscribed a k (act ∷ now)) (is_owed cap a k (act ∷ now)) h) [
        | inl t ↦ subscribed-before act now a k t out.0
        | inr t ↦ elim (owed-before act now keyed a k t) [
          | inl u ↦ absurd (true-false (sym u ∙ out.1))
          | inr u ↦ absurd (true-false (sym u ∙ out.0))
        ]
      ]

  key-about : (act : Act StreamItem StreamItem) (now : StreamMoment) (a : ℕ) (k : Key) → is_about pair_eq (a, k) (newest_pair (act ∷ now)) ≡ true → is_about key_eq k (newest_key (act ∷ now)) ≡ true
  key-about (Subscribed b j limit) now a k h = second (nat_eq a b) (key_eq k j) h
    where
      second : (c d : Bool) → (c && d) ≡ true → d ≡ true
      second true d t = t
      second false d t = cc
  key-about (Unsubscribed b j) now a k h = second (nat_eq a b) (key_eq k j) h
    where
      second : (c d : Bool) → (c && d) ≡ true → d ≡ true
      second true d t = t
      second false d t = cc
  key-about (Gave b j item) now a k h = second (nat_eq a b) (key_eq k j) h
    where
      second : (c d : Bool) → (c && d) ≡ true → d ≡ true
      second true d t = t
      second false d t = cc
  key-about (Full b j) now a k h = second (nat_eq a b) (key_eq k j) h
    where
      second : (c d : Bool) → (c && d) ≡ true → d ≡ true
      second true d t = t
      second false d t = cc
  key-about (Closed b) now a k h = absurd (true-false (sym h))
  key-about (Came j item) now a k h = absurd (true-false (sym h))
  key-about (Told w j total) now a k h = absurd (true-false (sym h))

  -- who never subscribed is owed nothing
  abbrev listed : ℕ → StreamMoment → Bool
  listed a now = list_any (λ b. nat_eq a b) (agents now)

  unlisted-subscribed : (a : ℕ) (k : Key) (now : StreamMoment) → listed a now ≡ false → limit_of a k now ≡ None
  unfolding agents limit_of
  unlisted-subscribed a k [] h = refl
  unlisted-subscribed a k (Subscribed b j limit ∷ now) h =
      let out = or-none (nat_eq a b) (listed a now) h in
      ap (λ c. if c && key_eq k j then Some limit else limit_of a k now) out.0 ∙ unlisted-subscribed a k now out.1
  unlisted-subscribed a k (Unsubscribed b j ∷ now) h = elim (is_pair a k b j) as (λ c. (let o : Option ℕ = if c then None else limit_of a k now in o) ≡ None) [ true ↦ refl | false ↦ unlisted-subscribed a k now h ]
  unlisted-subscribed a k (Closed b ∷ now) h = unlisted-subscribed a k now h
  unlisted-subscribed a k (Came j item ∷ now) h = unlisted-subscribed a k now h
  unlisted-subscribed a k (Gave b j item ∷ now) h = unlisted-subscribed a k now h
  unlisted-subscribed a k (Told w j total ∷ now) h = unlisted-subscribed a k now h
  unlisted-subscribed a k (Full b j ∷ now) h = unlisted-subscribed a k now h

  not-subscribed : (a : ℕ) (k : Key) (now : StreamMoment) → listed a now ≡ false → subscribed a k now ≡ false
  unfolding subscribed
  not-subscribed a k now h = ap is_some (unlisted-subscribed a k now h)

  unlisted-owed : (a : ℕ) (now : StreamMoment) → listed a now ≡ false → (matched a now ≡ []) × ((gone cap a now).unreported ≡ [])
  unfolding agents matched gone
  unlisted-owed a [] h = (refl, refl)
  unlisted-owed a (Subscribed b j limit ∷ now) h = unlisted-owed a now (or-none (nat_eq a b) (listed a now) h).1
  unlisted-owed a (Unsubscribed b j ∷ now) h = unlisted-owed a now h
  unlisted-owed a (Closed b ∷ now) h =
      let all = unlisted-owed a now h in
      elim (nat_eq a b) as (λ c. ((if c then [] else matched a now) ≡ []) × ((let g : Gone = if c then none_gone else gone cap a now in g.unreported) ≡ [])) [ true ↦ (refl, refl) | false ↦ all ]
  unlisted-owed a (Came j item ∷ now) h =
      let all = unlisted-owed a now h in
      let none = not-subscribed a j now h in (
        ap (λ c. if c then matched a now ++ item ∷ [] else matched a now) none ∙ all.0,
        ap (λ c. let g : Gone = if c then after_match cap (matched a now ++ item ∷ []) (gone cap a now) else gone cap a now in g.unreported) none ∙ all.1,
      )
  unlisted-owed a (Gave b j item ∷ now) h =
      let all = unlisted-owed a now h in (
        all.0,
        elim (nat_eq a b) as (λ c. (let g : Gone = if c then after_gift j (gone cap a now).count (gone cap a now).unreported else gone cap a now in g.unreported) ≡ []) [
          | true ↦ ap (λ us. (after_gift j (gone cap a now).count us).unreported) all.1
          | false ↦ all.1
        ],
      )
  unlisted-owed a (Told w j total ∷ now) h = unlisted-owed a now h
  unlisted-owed a (Full b j ∷ now) h = unlisted-owed a now h

  pair-listed : (a : ℕ) (k : Key) (now : StreamMoment) → holds_pair cap a k now ≡ true → listed a now ≡ true
  unfolding holds_pair is_owed waiting
  pair-listed a k now h =
      let go : (c : Bool) → listed a now ≡ c → listed a now ≡ true =
      elim [
        | true ↦ λ e. e
        | false ↦ λ e.
            let all = unlisted-owed a now e in
            let one = ap (λ us. list_any (is_of k) us) all.1 in
            let two = ap (λ ms. list_any (is_of k) (drop (gone cap a now).count ms)) all.0 ∙ ap (list_any (is_of k)) (drop-none (gone cap a now).count) in
            absurd (true-false (sym h ∙ (λ i. not-subscribed a k now e i || (one i || two i))))
      ] in
      go (listed a now) refl

  number-true : (m n : ℕ) → nat_eq m n ≡ true → m ≡ n
  number-true m n h = grind (arith, nat_tests)

  any-there : (p : ℕ → Bool) (w : ℕ) (vs : List ℕ) → p w ≡ true → list_any (λ v. nat_eq w v) vs ≡ true → list_any p vs ≡ true
  any-there p w [] h k = k
  any-there p w (v ∷ vs) h k = elim (or-cases (nat_eq w v) (list_any (λ u. nat_eq w u) vs) k) [
    | inl e ↦ or-left (p v) (list_any p vs) (ap p (sym (number-true w v e)) ∙ h)
    | inr t ↦ or-right (p v) (list_any p vs) (any-there p w vs h t)
  ]

  any-found : (p : ℕ → Bool) (xs : List ℕ) → list_any p xs ≡ true → (x : ℕ) × (p x ≡ true)
  any-found p [] h = absurd (true-false (sym h))
  any-found p (x ∷ xs) h = elim (or-cases (p x) (list_any p xs) h) [ inl e ↦ (x, e) | inr t ↦ any-found p xs t ]

  watcher-listed : (w : ℕ) (k : Key) (now : StreamMoment) → list_any (λ v. nat_eq w v) (watchers now) ≡ false → known w k now ≡ None
  unfolding watchers known
  watcher-listed w k [] h = refl
  watcher-listed w k (Told v j total ∷ now) h =
      let out = or-none (nat_eq w v) (list_any (λ u. nat_eq w u) (watchers now)) h in
      ap (λ c. if c && key_eq k j then total else known w k now) out.0 ∙ watcher-listed w k now out.1
  watcher-listed w k (Subscribed b j limit ∷ now) h = watcher-listed w k now h
  watcher-listed w k (Unsubscribed b j ∷ now) h = watcher-listed w k now h
  watcher-listed w k (Closed b ∷ now) h = watcher-listed w k now h
  watcher-listed w k (Came j item ∷ now) h = watcher-listed w k now h
  watcher-listed w k (Gave b j item ∷ now) h = watcher-listed w k now h
  watcher-listed w k (Full b j ∷ now) h = watcher-listed w k now h

  -- a key is held where a pair of it is, or where a watcher knows a total of it
  pub held-pair : (a : ℕ) (k : Key) (now : StreamMoment) → holds_pair cap a k now ≡ true → held cap k now ≡ true
  unfolding held
  held-pair a k now h = or-left (list_any (λ b. holds_pair cap b k now) (agents now)) (list_any (λ w. is_some (known w k now)) (watchers now)) (any-there (λ b. holds_pair cap b k now) a (agents now) h (pair-listed a k now h))

  pub held-known : (w : ℕ) (k : Key) (now : StreamMoment) → is_some (known w k now) ≡ true → held cap k now ≡ true
  unfolding held
  held-known w k now h =
      let go : (c : Bool) → list_any (λ v. nat_eq w v) (watchers now) ≡ c → c ≡ true =
      elim [ true ↦ λ e. refl | false ↦ λ e. absurd (true-false (sym h ∙ ap is_some (watcher-listed w k now e))) ] in
      or-right (list_any (λ b. holds_pair cap b k now) (agents now)) (list_any (λ v. is_some (known v k now)) (watchers now)) (any-there (λ v. is_some (known v k now)) w (watchers now) h (go (list_any (λ v. nat_eq w v) (watchers now)) refl))

  pub held-holder : (k : Key) (now : StreamMoment) → held cap k now ≡ true → ((a : ℕ) × (holds_pair cap a k now ≡ true)) ⊎ ((w : ℕ) × (is_some (known w k now) ≡ true))
  unfolding held
  held-holder k now h = elim (or-cases (list_any (λ a. holds_pair cap a k now) (agents now)) (list_any (λ w. is_some (known w k now)) (watchers now)) h) [
    | inl t ↦ inl (any-found (λ a. holds_pair cap a k now) (agents now) t)
    | inr t ↦ inr (any-found (λ w. is_some (known w k now)) (watchers now) t)
  ]

  -- a key becomes held only by an act about it
  key-begins : (act : Act StreamItem StreamItem) (now : StreamMoment) → EachKeyed (act ∷ now) → (k : Key) → held cap k (act ∷ now) ≡ true → held cap k now ≡ false → is_about key_eq k (newest_key (act ∷ now)) ≡ true
  key-begins act now keyed k h none = elim (held-holder k (act ∷ now) h) [
    | inl found ↦ (let go : (c : Bool) → holds_pair cap found.0 k now ≡ c → is_about key_eq k (newest_key (act ∷ now)) ≡ true =
        elim [
          | true ↦ λ e. absurd (true-false (sym (held-pair found.0 k now e) ∙ none))
          | false ↦ λ e. key-about act now found.0 k (pair-begins act now keyed found.0 k found.1 e)
        ] in go (holds_pair cap found.0 k now) refl)
    | inr found ↦ (let go : (c : Bool) → is_about key_eq k (newest_key (act ∷ now)) ≡ c → c ≡ true =
        elim [
          | true ↦ λ e. refl
          | false ↦ λ e. absurd (true-false (sym (held-known found.0 k now (sym (ap is_some (known-about found.0 act now k e)) ∙ found.1)) ∙ none))
        ] in go (is_about key_eq k (newest_key (act ∷ now))) refl)
  ]

  pair-none : (a : ℕ) (k : Key) → holds_pair cap a k [] ≡ false
  unfolding holds_pair is_owed waiting gone matched
  pair-none a k = ap (λ c. c || false) (subscribed-empty _ _ a k)

  held-none : (k : Key) → held cap k [] ≡ false
  unfolding held agents watchers
  held-none k = refl

  module _ (now : StreamMoment) (keyed : EachKeyed now) where
    pub held_keys-has : (k : Key) → has_key (held_keys cap now) k ≡ held cap k now
    unfolding held_keys
    held_keys-has k = ordered-has newest_key (held cap) key_eq key_eq-true EachKeyed keyed-rest key-begins held-none now keyed k

    pub held_keys-once : once key_eq (held_keys cap now) ≡ true
    unfolding held_keys
    held_keys-once = ordered-once newest_key (held cap) key_eq key_eq-true EachKeyed keyed-rest key-begins held-none key_eq-comm now keyed

    pub held_pairs-has : (p : ℕ × Key) → list_any (pair_eq p) (held_pairs cap now) ≡ holds_pair cap p.0 p.1 now
    unfolding held_pairs
    held_pairs-has p = ordered-has newest_pair (λ q past. holds_pair cap q.0 q.1 past) pair_eq pair_eq-true EachKeyed keyed-rest (λ act past g q. pair-begins act past g q.0 q.1) (λ q. pair-none q.0 q.1) now keyed p

    pub held_pairs-once : once pair_eq (held_pairs cap now) ≡ true
    unfolding held_pairs
    held_pairs-once = ordered-once newest_pair (λ q past. holds_pair cap q.0 q.1 past) pair_eq pair_eq-true EachKeyed keyed-rest (λ act past g q. pair-begins act past g q.0 q.1) (λ q. pair-none q.0 q.1) pair_eq-comm now keyed

    pub held_by-has : (a : ℕ) (k : Key) → has_key (held_by cap a now) k ≡ holds_pair cap a k now
    unfolding held_by
    held_by-has a k = ordered-has newest_key (holds_pair cap a) key_eq key_eq-true EachKeyed keyed-rest (λ act past g j h none. key-about act past a j (pair-begins act past g a j h none)) (λ j. pair-none a j) now keyed k
