-- What each act does to the items that wait for an agent, and to those that were dropped.
use Rattle.std.proofs.Common.{◌≡◌, ℕ, suc, zero, ◌+◌, ◌-◌, ◌<◌, ◌≤◌, Bool, true, false, if◌then◌else◌, nat_eq, nat_lt, List, [], ◌∷◌, ◌++◌, length, drop, refl, ap, sym, ◌∙◌, arith, length-append, length-drop}
use Rattle.std.specs.Prelude.{slice_get}
use Rattle.std.specs.Option.{option_to_list}
use Rattle.std.proofs.lemmas.Bool.Decides.{nat_tests}
use Rattle.std.proofs.lemmas.List.{drop-append-le}
use Rattle.qd_scheme.specs.declared.key.Key.{Key}
use Rattle.qd_sub.specs.Acts.{Subscribed, Unsubscribed, Closed, Came, Gave, Told, Full}
use Rattle.qd_sub.specs.Subscriptions.{subscribed}
use Rattle.qd_stream.specs.declared.item.StreamItem.{StreamItem}
use Rattle.qd_stream.specs.Waiting.{StreamMoment, matched, Gone, none_gone, after_match, after_gift, gone, waiting}

lt-is : (m n : ℕ) (c : Bool) → nat_lt m n ≡ c → (c ≡ true → m < n) × (c ≡ false → n ≤ m)
lt-is m n c h = (λ t. grind (arith, nat_tests), λ t. grind (arith, nat_tests))

match-count : (cap : ℕ) (items : List StreamItem) (g : Gone) → length items ≤ (after_match cap items g).count + cap
match-count cap items g =
    let go : (c : Bool) → nat_lt g.count (length items - cap) ≡ c → length items ≤ (after_match cap items g).count + cap =
    elim [
      | true ↦ λ e. rw e (omega arith)
      | false ↦ λ e. let le = (lt-is g.count (length items - cap) false e).1 refl in rw e (omega arith)
    ] in
    go (nat_lt g.count (length items - cap)) refl

gift-count : (k : Key) (count : ℕ) (items : List StreamItem) → count ≤ (after_gift k count items).count
gift-count k count [] = omega arith
gift-count k count (item ∷ items) = omega arith

-- no more than cap items wait
pub few-gone : (cap a : ℕ) (now : StreamMoment) → length (matched a now) ≤ (gone cap a now).count + cap
unfolding matched gone
few-gone cap a [] = omega arith
few-gone cap a (Came k item ∷ past) =
    elim (subscribed a k past) as (λ c. length (if c then matched a past ++ item ∷ [] else matched a past) ≤ (if c then after_match cap (matched a past ++ item ∷ []) (gone cap a past) else gone cap a past).count + cap) [
      | true ↦ match-count cap (matched a past ++ item ∷ []) (gone cap a past)
      | false ↦ few-gone cap a past
    ]
few-gone cap a (Gave b k item ∷ past) =
    elim (nat_eq a b) as (λ c. length (matched a past) ≤ (if c then after_gift k (gone cap a past).count (gone cap a past).unreported else gone cap a past).count + cap) [
      | true ↦ omega (arith, few-gone cap a past, gift-count k (gone cap a past).count (gone cap a past).unreported)
      | false ↦ few-gone cap a past
    ]
few-gone cap a (Closed b ∷ past) =
    elim (nat_eq a b) as (λ c. length (if c then [] else matched a past) ≤ (if c then none_gone else gone cap a past).count + cap) [
      | true ↦ omega arith
      | false ↦ few-gone cap a past
    ]
few-gone cap a (Subscribed b j limit ∷ past) = few-gone cap a past
few-gone cap a (Unsubscribed b j ∷ past) = few-gone cap a past
few-gone cap a (Told w j total ∷ past) = few-gone cap a past
few-gone cap a (Full b j ∷ past) = few-gone cap a past

pub length-waiting : (cap a : ℕ) (now : StreamMoment) → length (waiting cap a now) ≤ cap
unfolding waiting
length-waiting cap a now = omega (arith, length-drop (gone cap a now).count (matched a now), few-gone cap a now)

pub drop-none : {X : Type 0} (k : ℕ) → drop k (let ys : List X = [] in ys) ≡ []
drop-none zero = refl
drop-none (suc k) = refl

pub drop-twice : {X : Type 0} (m n c : ℕ) (xs : List X) → m ≡ n + c → drop m xs ≡ drop n (drop c xs)
drop-twice m n zero xs e = let same : m ≡ n = omega arith in ap (λ k. drop k xs) same
drop-twice m n (suc c) [] e = drop-none m ∙ sym (drop-none n)
drop-twice zero n (suc c) (x ∷ xs) e = absurd (omega arith)
drop-twice (suc m) n (suc c) (x ∷ xs) e = let less : m ≡ n + c = omega arith in drop-twice m n c xs less

-- what stands first behind those that are dropped
first-dropped : {X : Type 0} (n : ℕ) (xs : List X) → option_to_list (slice_get xs n) ≡ option_to_list (slice_get (drop n xs) 0)
first-dropped zero xs = refl
first-dropped (suc n) [] = refl
first-dropped (suc n) (x ∷ xs) = first-dropped n xs

-- no more is gone than matched, after one more match
pub within-match : (cap : ℕ) (items : List StreamItem) (g : Gone) → g.count ≤ length items → (after_match cap items g).count ≤ length items
within-match cap items g h =
    let go : (c : Bool) → nat_lt g.count (length items - cap) ≡ c → (after_match cap items g).count ≤ length items =
    elim [ true ↦ λ e. rw e (omega arith) | false ↦ λ e. rw e h ] in
    go (nat_lt g.count (length items - cap)) refl

-- where fewer than cap wait, one more does
pub came-fits : (cap : ℕ) (items : List StreamItem) (item : StreamItem) (g : Gone) → g.count ≤ length items → length items ≤ g.count + cap → nat_lt (length (drop g.count items)) cap ≡ true → after_match cap (items ++ item ∷ []) g ≡ g
came-fits cap items item g within few h =
    let lt = (lt-is (length (drop g.count items)) cap true h).0 refl in
    let size = length-drop g.count items in
    let more : length (items ++ item ∷ []) ≡ length items + 1 = length-append items (item ∷ []) in
    let go : (c : Bool) → nat_lt g.count (length (items ++ item ∷ []) - cap) ≡ c → after_match cap (items ++ item ∷ []) g ≡ g =
    elim [
      | true ↦ λ e. let up = (lt-is g.count (length (items ++ item ∷ []) - cap) true e).0 refl in absurd (omega arith)
      | false ↦ λ e. rw e refl
    ] in
    go (nat_lt g.count (length (items ++ item ∷ []) - cap)) refl

-- where cap wait, the oldest is dropped
pub came-over : (cap : ℕ) (items : List StreamItem) (item : StreamItem) (g : Gone) → g.count ≤ length items → length items ≤ g.count + cap → nat_lt (length (drop g.count items)) cap ≡ false →
    after_match cap (items ++ item ∷ []) g ≡ record { count = g.count + 1; unreported = g.unreported ++ option_to_list (slice_get (drop g.count items ++ item ∷ []) 0) }
came-over cap items item g within few h =
    let le = (lt-is (length (drop g.count items)) cap false h).1 refl in
    let size = length-drop g.count items in
    let more : length (items ++ item ∷ []) ≡ length items + 1 = length-append items (item ∷ []) in
    let next : length (items ++ item ∷ []) - cap ≡ g.count + 1 = omega arith in
    let go : (c : Bool) → nat_lt g.count (length (items ++ item ∷ []) - cap) ≡ c → after_match cap (items ++ item ∷ []) g ≡ record { count = g.count + 1; unreported = g.unreported ++ option_to_list (slice_get (drop g.count items ++ item ∷ []) 0) } =
    elim [
      | true ↦ λ e. rw e (λ i. record { count = next i; unreported = g.unreported ++ (first-dropped g.count (items ++ item ∷ []) ∙ ap (λ xs. option_to_list (slice_get xs 0)) (drop-append-le g.count items (item ∷ []) within)) i })
      | false ↦ λ e. let low = (lt-is g.count (length (items ++ item ∷ []) - cap) false e).1 refl in absurd (omega arith)
    ] in
    go (nat_lt g.count (length (items ++ item ∷ []) - cap)) refl
