-- What an agent of a stream was given of a key, at each moment of a legal log.
use Rattle.std.proofs.Common.{◌≡◌, ◌⊎◌, inl, inr, ℕ, ◌+◌, ◌≤◌, Bool, true, false, ◌||◌, not, if◌then◌else◌, nat_eq, nat_lt, List, [], ◌∷◌, ◌++◌, length, refl, sym, ap, ◌∙◌, arith, append_assoc, subst}
use Rattle.std.specs.Prelude.{take, drop, slice_get}
use Rattle.std.specs.List.{filter, list_any}
use Rattle.std.specs.Option.{option_to_list}
use Rattle.std.proofs.lemmas.List.{append-nil, drop-append-le}
use Rattle.std.proofs.lemmas.List.Elements.{filter-append}
use Rattle.std.proofs.lemmas.Bool.{cases_Bool}
use Rattle.qd_scheme.specs.declared.key.Key.{Key}
use Rattle.qd_scheme.specs.Keys.{key_eq}
use Rattle.qd_scheme.proofs.KeyLaws.{key_eq-same, key_eq-true}
use Rattle.qd_sub.specs.Acts.{Act, Subscribed, Unsubscribed, Closed, Came, Gave, Told, Full, is_pair}
use Rattle.qd_sub.specs.Subscriptions.{subscribed}
use Rattle.qd_sub.specs.Holding.{fresh}
use Rattle.qd_sub.proofs.SubscriptionLaws.{subscribed-came, subscribed-gave, subscribed-unsub}
use Rattle.qd_stream.specs.declared.item.StreamItem.{StreamItem}
use Rattle.qd_stream.specs.declared.item.StreamItem.TheVariants.{Lost}
use Rattle.qd_stream.specs.Items.{key_of_item}
use Rattle.qd_stream.specs.Waiting.{StreamMoment, matched, Gone, after_match, after_gift, gone, waiting}
use Rattle.qd_stream.specs.Holding.{is_owed}
use Rattle.qd_stream.specs.Losses.{weight_of}
use Rattle.qd_stream.specs.Owed.{Loss, losses, owed_at, report, first_owed}
use Rattle.qd_stream.proofs.LossLaws.{losses-first}
use Rattle.qd_stream.proofs.WaitingLaws.{few-gone, came-fits, came-over, drop-twice}
use Rattle.qd_views.specs.Views.{puts, given, given_open, subscriptions, IsSteady, of_key, Accounts, StreamSteady, StreamLaw}
use Rattle.qd_views.proofs.Accounting.{accounts-push, stands-lost, NotEmpty}
use Rattle.qd_views.proofs.ActKinds.{number-same, number-true, Kind, Puts, Gives, Begins, Ends, Rests, kind_of, pair-same}
use Rattle.qd_views.proofs.Steady.{true-false, unbegun-off, unbegun-before, First, Later, within}
use Rattle.qd_views.proofs.StreamActs.{ActFits, EachFits, owed-now, fits-moment}

record Stands (cap a : ℕ) (k : Key) (now : StreamMoment) : Type 0 where
  told : List StreamItem
  is : of_key k (matched a now) ≡ told ++ of_key k ((gone cap a now).unreported ++ waiting cap a now)
  accounts : Accounts k (given_open a k now) told

of_key-append : (k : Key) (xs ys : List StreamItem) → of_key k (xs ++ ys) ≡ of_key k xs ++ of_key k ys
of_key-append k xs ys = filter-append (λ i. key_eq k (key_of_item i)) xs ys

first-rest : (xs : List StreamItem) → option_to_list (slice_get xs 0) ++ drop 1 xs ≡ xs
first-rest [] = refl
first-rest (x ∷ xs) = refl

-- one more item matched: it comes behind what is unreported and what waits
match-all : (cap : ℕ) (items : List StreamItem) (item : StreamItem) (g : Gone) → g.count ≤ length items → length items ≤ g.count + cap
    → (after_match cap (items ++ item ∷ []) g).unreported ++ drop (after_match cap (items ++ item ∷ []) g).count (items ++ item ∷ []) ≡ (g.unreported ++ drop g.count items) ++ item ∷ []
match-all cap items item g within few = go (cases_Bool (nat_lt (length (drop g.count items)) cap))
  where
    ahead : drop g.count (items ++ item ∷ []) ≡ drop g.count items ++ item ∷ []
    ahead = drop-append-le g.count items (item ∷ []) within

    one : g.count + 1 ≡ 1 + g.count
    one = omega arith

    go : (nat_lt (length (drop g.count items)) cap ≡ true) ⊎ (nat_lt (length (drop g.count items)) cap ≡ false)
        → (after_match cap (items ++ item ∷ []) g).unreported ++ drop (after_match cap (items ++ item ∷ []) g).count (items ++ item ∷ []) ≡ (g.unreported ++ drop g.count items) ++ item ∷ []
    go (inl e) =
        ap (λ (x : Gone). x.unreported ++ drop x.count (items ++ item ∷ [])) (came-fits cap items item g within few e)
        ∙ ap (λ xs. g.unreported ++ xs) ahead ∙ sym (append_assoc g.unreported (drop g.count items) (item ∷ []))
    go (inr e) =
        let ws = drop g.count items ++ item ∷ [] in
        let rest : drop (g.count + 1) (items ++ item ∷ []) ≡ drop 1 ws = drop-twice (g.count + 1) 1 g.count (items ++ item ∷ []) one ∙ ap (drop 1) ahead in
        ap (λ (x : Gone). x.unreported ++ drop x.count (items ++ item ∷ [])) (came-over cap items item g within few e)
        ∙ ap (λ xs. (g.unreported ++ option_to_list (slice_get ws 0)) ++ xs) rest
        ∙ append_assoc g.unreported (option_to_list (slice_get ws 0)) (drop 1 ws)
        ∙ ap (λ xs. g.unreported ++ xs) (first-rest ws)
        ∙ sym (append_assoc g.unreported (drop g.count items) (item ∷ []))

-- what a gift leaves
record Given (k j : Key) (i : StreamItem) (m : List StreamItem) (g : Gone) (gifts : List StreamItem) : Type 0 where
  now_told : List StreamItem
  now_is : of_key k m ≡ now_told ++ of_key k ((after_gift j g.count g.unreported).unreported ++ drop (after_gift j g.count g.unreported).count m)
  now_accounts : Accounts k (if key_eq k j then gifts ++ i ∷ [] else gifts) now_told

take-one : (xs : List StreamItem) (i : StreamItem) → take 1 xs ≡ i ∷ [] → xs ≡ i ∷ drop 1 xs
take-one [] i h = cc h
take-one (x ∷ xs) i h = let s : x ≡ i = cc h in ap (λ y. y ∷ xs) s

-- a waiting item is given
gift-item : (k j : Key) (i : StreamItem) (m : List StreamItem) (count : ℕ) (told gifts : List StreamItem) → j ≡ key_of_item i → take 1 (drop count m) ≡ i ∷ [] → of_key k m ≡ told ++ of_key k (drop count m) → Accounts k gifts told
    → Given k j i m (record { count = count; unreported = [] }) gifts
gift-item k j i m count told gifts e f is acc = go (key_eq k j) refl
  where
    one : count + 1 ≡ 1 + count
    one = omega arith

    left : drop count m ≡ i ∷ drop (count + 1) m
    left = take-one (drop count m) i f ∙ ap (λ xs. i ∷ xs) (sym (drop-twice (count + 1) 1 count m one))

    here : (b : Bool) → key_eq k j ≡ b → of_key k (i ∷ drop (count + 1) m) ≡ (if b then i ∷ of_key k (drop (count + 1) m) else of_key k (drop (count + 1) m))
    here b q = ap (λ (c : Bool). if c then i ∷ of_key k (drop (count + 1) m) else of_key k (drop (count + 1) m)) (sym (ap (key_eq k) e) ∙ q)

    go : (b : Bool) → key_eq k j ≡ b → Given k j i m (record { count = count; unreported = [] }) gifts
    go true q = record {
      now_told = told ++ i ∷ [];
      now_is = is ∙ ap (λ xs. told ++ xs) (ap (of_key k) left ∙ here true q) ∙ sym (append_assoc told (i ∷ []) (of_key k (drop (count + 1) m)));
      now_accounts = rw q (accounts-push k gifts told i (i ∷ []) acc (inl (refl, refl)));
    }
    go false q = record {
      now_told = told;
      now_is = is ∙ ap (λ xs. told ++ xs) (ap (of_key k) left ∙ here false q);
      now_accounts = rw q acc;
    }

-- the items of k that are of another key
filter-none : (k : Key) (us : List StreamItem) → of_key k (filter (λ x. not (key_eq k (key_of_item x))) us) ≡ []
filter-none k [] = refl
filter-none k (u ∷ us) = go (key_eq k (key_of_item u)) refl (filter-none k us)
  where
    go : (b : Bool) → key_eq k (key_of_item u) ≡ b → of_key k (filter (λ x. not (key_eq k (key_of_item x))) us) ≡ [] → of_key k (if not b then u ∷ filter (λ x. not (key_eq k (key_of_item x))) us else filter (λ x. not (key_eq k (key_of_item x))) us) ≡ []
    go true q ih = ih
    go false q ih = rw q ih

filter-other : (k j : Key) (us : List StreamItem) → key_eq k j ≡ false → of_key k (filter (λ x. not (key_eq j (key_of_item x))) us) ≡ of_key k us
filter-other k j [] n = refl
filter-other k j (u ∷ us) n = go (key_eq j (key_of_item u)) refl (filter-other k j us n)
  where
    go : (b : Bool) → key_eq j (key_of_item u) ≡ b → of_key k (filter (λ x. not (key_eq j (key_of_item x))) us) ≡ of_key k us
        → of_key k (if not b then u ∷ filter (λ x. not (key_eq j (key_of_item x))) us else filter (λ x. not (key_eq j (key_of_item x))) us) ≡ of_key k (u ∷ us)
    go true q ih = let s : key_eq k (key_of_item u) ≡ false = sym (ap (key_eq k) (key_eq-true j (key_of_item u) q)) ∙ n in rw s ih
    go false q ih = elim (key_eq k (key_of_item u)) as (λ b. (if b then u ∷ of_key k (filter (λ x. not (key_eq j (key_of_item x))) us) else of_key k (filter (λ x. not (key_eq j (key_of_item x))) us)) ≡ (if b then u ∷ of_key k us else of_key k us)) [
      | true ↦ ap (λ xs. u ∷ xs) ih
      | false ↦ ih
    ]

-- a loss is reported
gift-report : (k j : Key) (i : StreamItem) (m : List StreamItem) (count : ℕ) (u : StreamItem) (us told gifts : List StreamItem) → j ≡ key_of_item u → i ≡ Lost j (weight_of j (u ∷ us)) → of_key k m ≡ told ++ of_key k ((u ∷ us) ++ drop count m) → Accounts k gifts told
    → Given k j i m (record { count = count; unreported = u ∷ us }) gifts
unfolding weight_of
gift-report k j i m count u us told gifts e f is acc = go (cases_Bool (key_eq k j))
  where
    go : (key_eq k j ≡ true) ⊎ (key_eq k j ≡ false) → Given k j i m (record { count = count; unreported = u ∷ us }) gifts
    go (inl q) = subst (λ x. Given k x i m (record { count = count; unreported = u ∷ us }) gifts) same (record {
      now_told = told ++ of_key k (u ∷ us);
      now_is = is ∙ ap (λ xs. told ++ xs) (of_key-append k (u ∷ us) (drop count m)) ∙ sym (append_assoc told (of_key k (u ∷ us)) (of_key k (drop count m)))
          ∙ ap (λ xs. (told ++ of_key k (u ∷ us)) ++ xs) (sym (of_key-append k (filter (λ x. not (key_eq k (key_of_item x))) (u ∷ us)) (drop count m) ∙ ap (λ xs. xs ++ of_key k (drop count m)) (filter-none k (u ∷ us))));
      now_accounts = rw (key_eq-same k) (accounts-push k gifts told i (of_key k (u ∷ us)) acc (stands-lost k i (of_key k (u ∷ us)) full (f ∙ ap (λ x. Lost x (weight_of x (u ∷ us))) (sym same))));
    })
      where
        same : k ≡ j
        same = key_eq-true k j q

        mine : key_eq k (key_of_item u) ≡ true
        mine = sym (ap (key_eq k) e) ∙ q

        full : NotEmpty (of_key k (u ∷ us))
        full = rw mine tt
    go (inr q) = record {
      now_told = told;
      now_is = is ∙ ap (λ xs. told ++ xs) (of_key-append k (u ∷ us) (drop count m) ∙ ap (λ xs. xs ++ of_key k (drop count m)) (sym (filter-other k j (u ∷ us) q)) ∙ sym (of_key-append k (filter (λ x. not (key_eq j (key_of_item x))) (u ∷ us)) (drop count m)));
      now_accounts = rw q acc;
    }

first-report : (un : List StreamItem) (items : List StreamItem) (l : Loss) (ls : List Loss) (i : StreamItem) → losses un ≡ l ∷ ls → first_owed 1 (record { items = items; lost = losses un }) ≡ i ∷ [] → report l ≡ i
unfolding first_owed
first-report un items l ls i e f = let z = ap (λ x. first_owed 1 (record { items = items; lost = x })) (sym e) ∙ f in cc z

no-report : (items : List StreamItem) (i : StreamItem) → first_owed 1 (record { items = items; lost = losses [] }) ≡ i ∷ [] → take 1 items ≡ i ∷ []
unfolding first_owed losses fresh
no-report items i f = f

gift : (k j : Key) (i : StreamItem) (m : List StreamItem) (count : ℕ) (un told gifts : List StreamItem) → j ≡ key_of_item i → first_owed 1 (record { items = drop count m; lost = losses un }) ≡ i ∷ []
    → of_key k m ≡ told ++ of_key k (un ++ drop count m) → Accounts k gifts told → Given k j i m (record { count = count; unreported = un }) gifts
gift k j i m count [] told gifts e f is acc = gift-item k j i m count told gifts e (no-report (drop count m) i f) is acc
gift k j i m count (u ∷ us) told gifts e f is acc =
    let first : Lost (key_of_item u) (weight_of (key_of_item u) (u ∷ us)) ≡ i = first-report (u ∷ us) (drop count m) _ _ i (losses-first u us) f in
    let key : j ≡ key_of_item u = e ∙ ap key_of_item (sym first) in
    gift-report k j i m count u us told gifts key (sym first ∙ ap (λ x. Lost x (weight_of x (u ∷ us))) (sym key)) is acc

of_key-one : (k j : Key) (item : StreamItem) → j ≡ key_of_item item → of_key k (item ∷ []) ≡ (if key_eq k j then item ∷ [] else [])
of_key-one k j item e = ap (λ x. if key_eq k x then item ∷ [] else []) (sym e)

-- an item is matched
matches : (cap a : ℕ) (k j : Key) (item : StreamItem) (past : StreamMoment) → EachFits cap past → subscribed a j past ≡ true → Stands cap a k past → Stands cap a k (Came j item ∷ past)
unfolding matched gone waiting owed_at
matches cap a k j item past f e s =
    let g = gone cap a past in
    let m = matched a past in
    record {
      told = s.told;
      is = rw e (of_key-append k m (item ∷ []) ∙ ap (λ xs. xs ++ of_key k (item ∷ [])) s.is ∙ append_assoc s.told (of_key k (g.unreported ++ drop g.count m)) (of_key k (item ∷ []))
          ∙ ap (λ xs. s.told ++ xs) (sym (of_key-append k (g.unreported ++ drop g.count m) (item ∷ [])) ∙ ap (of_key k) (sym (match-all cap m item g (owed-now cap a past f).within (few-gone cap a past)))));
      accounts = s.accounts;
    }

unmatched : (cap a : ℕ) (k j : Key) (item : StreamItem) (past : StreamMoment) → subscribed a j past ≡ false → Stands cap a k past → Stands cap a k (Came j item ∷ past)
unfolding matched gone waiting
unmatched cap a k j item past e s = record { told = s.told; is = rw e s.is; accounts = s.accounts }

gives : (cap a : ℕ) (k j : Key) (i : StreamItem) (past : StreamMoment) → ActFits cap (Gave a j i) past → Stands cap a k past → Stands cap a k (Gave a j i ∷ past)
unfolding matched gone waiting owed_at
gives cap a k j i past f s =
    let g = gift k j i (matched a past) (gone cap a past).count (gone cap a past).unreported s.told (given_open a k past) f.0 f.1 s.is s.accounts in
    record { told = g.now_told; is = rw (number-same a) g.now_is; accounts = rw (number-same a) g.now_accounts }

gives-other : (cap a : ℕ) (k : Key) (b : ℕ) (j : Key) (i : StreamItem) (past : StreamMoment) → nat_eq a b ≡ false → Stands cap a k past → Stands cap a k (Gave b j i ∷ past)
unfolding matched gone waiting
gives-other cap a k b j i past e s = record { told = s.told; is = rw e s.is; accounts = rw e s.accounts }

closes-now : (cap a : ℕ) (k : Key) (past : StreamMoment) → Stands cap a k (Closed a ∷ past)
unfolding matched gone waiting
closes-now cap a k past = record { told = []; is = rw (number-same a) refl; accounts = rw (number-same a) refl }

closes-other : (cap a : ℕ) (k : Key) (b : ℕ) (past : StreamMoment) → nat_eq a b ≡ false → Stands cap a k past → Stands cap a k (Closed b ∷ past)
unfolding matched gone waiting
closes-other cap a k b past e s = record { told = s.told; is = rw e s.is; accounts = rw e s.accounts }

abbrev Calm : ℕ → ℕ → Key → Act StreamItem StreamItem → StreamMoment → Type 0
Calm cap a k act past = Stands cap a k past → Stands cap a k (act ∷ past)

calm-sub : (cap a : ℕ) (k : Key) (b : ℕ) (j : Key) (limit : ℕ) (past : StreamMoment) → Calm cap a k (Subscribed b j limit) past
unfolding matched gone waiting
calm-sub cap a k b j limit past s = record { told = s.told; is = s.is; accounts = s.accounts }

calm-unsub : (cap a : ℕ) (k : Key) (b : ℕ) (j : Key) (past : StreamMoment) → Calm cap a k (Unsubscribed b j) past
unfolding matched gone waiting
calm-unsub cap a k b j past s = record { told = s.told; is = s.is; accounts = s.accounts }

calm-told : (cap a : ℕ) (k : Key) (w : ℕ) (j : Key) (total : _) (past : StreamMoment) → Calm cap a k (Told w j total) past
unfolding matched gone waiting
calm-told cap a k w j total past s = record { told = s.told; is = s.is; accounts = s.accounts }

calm-full : (cap a : ℕ) (k : Key) (b : ℕ) (j : Key) (past : StreamMoment) → Calm cap a k (Full b j) past
unfolding matched gone waiting
calm-full cap a k b j past s = record { told = s.told; is = s.is; accounts = s.accounts }

starts : (cap a : ℕ) (k : Key) → Stands cap a k []
unfolding matched gone waiting
starts cap a k = record { told = []; is = refl; accounts = refl }

step : (cap a : ℕ) (k : Key) (act : Act StreamItem StreamItem) (past : StreamMoment) → ActFits cap act past → EachFits cap past → Stands cap a k past → Stands cap a k (act ∷ past)
step cap a k (Subscribed b j limit) past f fs s = calm-sub cap a k b j limit past s
step cap a k (Unsubscribed b j) past f fs s = calm-unsub cap a k b j past s
step cap a k (Told w j total) past f fs s = calm-told cap a k w j total past s
step cap a k (Full b j) past f fs s = calm-full cap a k b j past s
step cap a k (Came j item) past f fs s = elim (cases_Bool (subscribed a j past)) [
  | inl e ↦ matches cap a k j item past fs e s
  | inr e ↦ unmatched cap a k j item past e s
]
step cap a k (Gave b j i) past f fs s = elim (cases_Bool (nat_eq a b)) [
  | inl e ↦ (let same = number-true a b e in subst (λ c. ActFits cap (Gave c j i) past → Stands cap a k (Gave c j i ∷ past)) same (λ g. gives cap a k j i past g s) f)
  | inr e ↦ gives-other cap a k b j i past e s
]
step cap a k (Closed b) past f fs s = elim (cases_Bool (nat_eq a b)) [
  | inl e ↦ subst (λ c. Stands cap a k (Closed c ∷ past)) (number-true a b e) (closes-now cap a k past)
  | inr e ↦ closes-other cap a k b past e s
]

stands : (cap a : ℕ) (k : Key) (now : StreamMoment) → EachFits cap now → Stands cap a k now
stands cap a k [] h = starts cap a k
stands cap a k (act ∷ past) h = step cap a k act past h.0 h.1 (stands cap a k past h.1)

-- before its first subscription an agent was given nothing
accounts-none : (k : Key) (items : List StreamItem) → Accounts k items [] → items ≡ []
accounts-none k [] h = refl
accounts-none k (x ∷ xs) ([], rest, is, s, h) = absurd s
accounts-none k (x ∷ xs) (r ∷ run, rest, is, s, h) = cc is

nil-left : (xs ys : List StreamItem) → [] ≡ xs ++ ys → xs ≡ []
nil-left [] ys h = refl
nil-left (x ∷ xs) ys h = cc h

none-open : (cap a : ℕ) (k : Key) (now : StreamMoment) → EachFits cap now → of_key k (matched a now) ≡ [] → given_open a k now ≡ []
none-open cap a k now f e =
    let s = stands cap a k now f in
    accounts-none k (given_open a k now) (subst (Accounts k (given_open a k now)) (nil-left s.told (of_key k ((gone cap a now).unreported ++ waiting cap a now)) (sym e ∙ s.is)) s.accounts)

none-matched : (cap a : ℕ) (k : Key) (act : Act StreamItem StreamItem) (past : StreamMoment) → ActFits cap act past → subscribed a k past ≡ false → of_key k (matched a past) ≡ [] → of_key k (matched a (act ∷ past)) ≡ []
unfolding matched
none-matched cap a k (Subscribed b j limit) past f off h = h
none-matched cap a k (Unsubscribed b j) past f off h = h
none-matched cap a k (Told w j total) past f off h = h
none-matched cap a k (Full b j) past f off h = h
none-matched cap a k (Gave b j i) past f off h = h
none-matched cap a k (Closed b) past f off h = elim (nat_eq a b) as (λ c. of_key k (if c then [] else matched a past) ≡ []) [ true ↦ refl | false ↦ h ]
none-matched cap a k (Came j item) past f off h = go (cases_Bool (key_eq k j))
  where
    go : (key_eq k j ≡ true) ⊎ (key_eq k j ≡ false) → of_key k (if subscribed a j past then matched a past ++ item ∷ [] else matched a past) ≡ []
    go (inl e) = let n : subscribed a j past ≡ false = ap (λ i. subscribed a i past) (sym (key_eq-true k j e)) ∙ off in rw n h
    go (inr e) = elim (subscribed a j past) as (λ c. of_key k (if c then matched a past ++ item ∷ [] else matched a past) ≡ []) [
      | true ↦ of_key-append k (matched a past) (item ∷ []) ∙ ap (λ xs. xs ++ of_key k (item ∷ [])) h ∙ of_key-one k j item f ∙ rw e refl
      | false ↦ h
    ]

start-matched : (a : ℕ) (k : Key) → of_key k (matched a []) ≡ []
unfolding matched
start-matched a k = refl

all-unmatched : (cap a : ℕ) (k : Key) (now : StreamMoment) → EachFits cap now → subscriptions a k now ≡ 0 → of_key k (matched a now) ≡ []
all-unmatched cap a k [] f h = start-matched a k
all-unmatched cap a k (act ∷ past) f h =
    let z = unbegun-before a k act past h in
    none-matched cap a k act past f.0 (unbegun-off a k past z) (all-unmatched cap a k past f.1 z)

push-full : {X : Type 0} (xs : List X) (x : X) → xs ++ x ∷ [] ≡ [] → ⊥
push-full [] x h = cc h
push-full (y ∷ ys) x h = cc h

none-given : (cap a : ℕ) (k : Key) (now : StreamMoment) → EachFits cap now → subscriptions a k now ≡ 0 → given a k now ≡ []
none-given cap a k [] f h = refl
none-given cap a k (act ∷ past) f h = go act (kind_of a k act past) (none-open cap a k (act ∷ past) f (all-unmatched cap a k (act ∷ past) f h)) (none-given cap a k past f.1 (unbegun-before a k act past h))
  where
    go : (act : Act StreamItem StreamItem) → Kind a k past act → given_open a k (act ∷ past) ≡ [] → given a k past ≡ [] → given a k (act ∷ past) ≡ []
    go _ (Puts item) o ih = ih
    go _ (Gives i) o ih = let z : given_open a k past ++ i ∷ [] ≡ [] = rw (pair-same a k) at o in absurd (push-full (given_open a k past) i z)
    go _ (Begins limit s) o ih = ih
    go _ Ends o ih = ih
    go _ (Rests act q) o ih = q.gifts_same (given a k past) ∙ ih

-- within one subscription
steady-later : (cap a : ℕ) (k : Key) (act : Act StreamItem StreamItem) (past : StreamMoment) → ActFits cap act past → subscribed a k past ≡ true → StreamSteady a k past → StreamSteady a k (act ∷ past)
unfolding matched
steady-later cap a k (Subscribed b j limit) past f e s = record { before = s.before; puts_is = s.puts_is; all_given = s.all_given }
steady-later cap a k (Unsubscribed b j) past f e s = record { before = s.before; puts_is = s.puts_is; all_given = s.all_given }
steady-later cap a k (Told w j total) past f e s = record { before = s.before; puts_is = s.puts_is; all_given = s.all_given }
steady-later cap a k (Full b j) past f e s = record { before = s.before; puts_is = s.puts_is; all_given = s.all_given }
steady-later cap a k (Gave b j i) past f e s = record { before = s.before; puts_is = s.puts_is; all_given = ap (λ xs. if is_pair a k b j then xs ++ i ∷ [] else xs) s.all_given }
steady-later cap a k (Closed b) past f e s = go (cases_Bool (nat_eq a b))
  where
    go : (nat_eq a b ≡ true) ⊎ (nat_eq a b ≡ false) → StreamSteady a k (Closed b ∷ past)
    go (inl q) = true-false (subscribed a k past) e (ap (λ c. subscribed c k past) (number-true a b q) ∙ f k)
    go (inr q) = record { before = s.before; puts_is = rw q s.puts_is; all_given = rw q s.all_given }
steady-later cap a k (Came j item) past f e s = go (cases_Bool (key_eq k j))
  where
    go : (key_eq k j ≡ true) ⊎ (key_eq k j ≡ false) → StreamSteady a k (Came j item ∷ past)
    go (inl q) =
        let t : subscribed a j past ≡ true = ap (λ i. subscribed a i past) (sym (key_eq-true k j q)) ∙ e in
        let one : of_key k (item ∷ []) ≡ item ∷ [] = of_key-one k j item f ∙ rw q refl in
        record {
          before = s.before;
          puts_is = rw (q, t) (ap (λ xs. xs ++ item ∷ []) s.puts_is ∙ append_assoc s.before (of_key k (matched a past)) (item ∷ []) ∙ ap (λ xs. s.before ++ xs) (sym (of_key-append k (matched a past) (item ∷ []) ∙ ap (λ xs. of_key k (matched a past) ++ xs) one)));
          all_given = s.all_given;
        }
    go (inr q) =
        let none : of_key k (item ∷ []) ≡ [] = of_key-one k j item f ∙ rw q refl in
        let same : of_key k (if subscribed a j past then matched a past ++ item ∷ [] else matched a past) ≡ of_key k (matched a past) =
        elim (subscribed a j past) as (λ c. of_key k (if c then matched a past ++ item ∷ [] else matched a past) ≡ of_key k (matched a past)) [
          | true ↦ of_key-append k (matched a past) (item ∷ []) ∙ ap (λ xs. of_key k (matched a past) ++ xs) none ∙ append-nil (of_key k (matched a past))
          | false ↦ refl
        ] in
        record { before = s.before; puts_is = rw q (s.puts_is ∙ ap (λ xs. s.before ++ xs) (sym same)); all_given = s.all_given }

steady-first : (cap a : ℕ) (k : Key) (act : Act StreamItem StreamItem) (past : StreamMoment) → EachFits cap (act ∷ past) → subscribed a k (act ∷ past) ≡ true → subscriptions a k past ≡ 0 → subscribed a k past ≡ false → StreamSteady a k (act ∷ past)
steady-first cap a k act past f t z off = go act (kind_of a k act past) t f
  where
    go : (act : Act StreamItem StreamItem) → Kind a k past act → subscribed a k (act ∷ past) ≡ true → EachFits cap (act ∷ past) → StreamSteady a k (act ∷ past)
    go _ (Puts item) t f = true-false (subscribed a k past) (sym (subscribed-came a k k item past) ∙ t) off
    go _ (Gives i) t f = true-false (subscribed a k past) (sym (subscribed-gave a k a k i past) ∙ t) off
    go _ Ends t f = true-false (subscribed a k (Unsubscribed a k ∷ past)) t (subscribed-unsub a k a k past ∙ rw (pair-same a k) refl)
    go _ (Rests act q) t f = true-false (subscribed a k past) (sym q.same ∙ t) off
    go _ (Begins limit s) t f =
        let none = none-matched cap a k (Subscribed a k limit) past tt off (all-unmatched cap a k past f.1 z) in
        record {
          before = puts k past;
          puts_is = sym (ap (λ xs. puts k past ++ xs) none ∙ append-nil (puts k past));
          all_given = none-open cap a k past f.1 (all-unmatched cap a k past f.1 z) ∙ sym (none-given cap a k past f.1 z);
        }

steady : (cap a : ℕ) (k : Key) (now : StreamMoment) → EachFits cap now → IsSteady a k now → StreamSteady a k now
steady cap a k [] f st = true-false (subscribed a k []) st.still (unbegun-off a k [] refl)
steady cap a k (act ∷ past) f st = elim (within a k act past st) [
  | First z off ↦ steady-first cap a k act past f st.still z off
  | Later e was ↦ steady-later cap a k act past f.0 e (steady cap a k past f.1 was)
]

-- nothing of the key is owed
none-of : (k : Key) (xs : List StreamItem) → list_any (λ i. key_eq k (key_of_item i)) xs ≡ false → of_key k xs ≡ []
none-of k [] h = refl
none-of k (x ∷ xs) h = go (key_eq k (key_of_item x)) h (none-of k xs)
  where
    go : (b : Bool) → (b || list_any (λ i. key_eq k (key_of_item i)) xs) ≡ false → (list_any (λ i. key_eq k (key_of_item i)) xs ≡ false → of_key k xs ≡ []) → (if b then x ∷ of_key k xs else of_key k xs) ≡ []
    go true h ih = cc h
    go false h ih = ih h

or-none : (b c : Bool) → (b || c) ≡ false → (b ≡ false) × (c ≡ false)
or-none true c h = cc h
or-none false c h = (refl, h)

none-owed : (cap a : ℕ) (k : Key) (now : StreamMoment) → is_owed cap a k now ≡ false → of_key k ((gone cap a now).unreported ++ waiting cap a now) ≡ []
unfolding is_owed
none-owed cap a k now h =
    let p = or-none _ _ h in
    of_key-append k (gone cap a now).unreported (waiting cap a now) ∙ ap (λ xs. xs ++ of_key k (waiting cap a now)) (none-of k (gone cap a now).unreported p.0) ∙ none-of k (waiting cap a now) p.1

pub stream_view : StreamLaw
stream_view terms now m a k =
    let f = fits-moment terms now m in
    let s = stands terms.cap a k now f in (
      record {
        told = s.told;
        untold = of_key k ((gone terms.cap a now).unreported ++ waiting terms.cap a now);
        matched_is = s.is;
        accounts = s.accounts;
        reaches = none-owed terms.cap a k now;
      },
      steady terms.cap a k now f,
    )
