-- What each act does to how much is kept of all wanted keys.
use Rattle.std.proofs.Common.{◌≡◌, ℕ, ◌+◌, ◌≤◌, Bool, true, false, ◌&&◌, not, if◌then◌else◌, List, [], ◌∷◌, length, reverse, refl, sym, ◌∙◌, ap, arith, Option, Some, None, inl, inr, subst}
use Rattle.std.specs.Prelude.{◌⊎◌}
use Rattle.std.specs.List.{sum_by}
use Rattle.std.proofs.lemmas.Bool.{cases_Bool}
use Rattle.std.proofs.lemmas.List.Sums.{sum-map}
use Rattle.qd_scheme.specs.declared.key.Key.{Key}
use Rattle.qd_scheme.specs.declared.key.Event.{Event}
use Rattle.qd_scheme.specs.Keys.{key_eq}
use Rattle.qd_scheme.proofs.KeyLaws.{key_eq-true, key_eq-same, key_eq-comm}
use Rattle.qd_flags.specs.Shown.{held_back, or_else, last_shown, shown}
use Rattle.qd_flags.proofs.Feeding.{if_true, if_false}
use Rattle.qd_sub.specs.Acts.{Subscribed, Unsubscribed, Closed, Came, Gave, Told, Full, is_pair, is_put, newest_key}
use Rattle.qd_sub.specs.Since.{unbroken}
use Rattle.qd_sub.specs.Subscriptions.{wanted, agents, subscribed}
use Rattle.qd_sub.specs.Holding.{has_key}
use Rattle.qd_sub.proofs.SinceLaws.{grown, by_since-same}
use Rattle.qd_sub.proofs.OrderLaws.{is_about, by_since-has, once, by_since-once}
use Rattle.qd_sub.proofs.OrderSteps.{by_since-about}
use Rattle.qd_sub.proofs.SubscriptionLaws.{kept-unwanted, kept-sub, wanted-came, wanted-gave, wanted-sub, wanted-closed, wanted-agent, wanted-subscribed, subscribed-unsub}
use Rattle.qd_sub.proofs.StepLaws.{subscribed-full, subscribed-told}
use Rattle.qd_sub.proofs.HeldLaws.{wanted-about, wanted-same}
use Rattle.qd_hist_rules.specs.declared.item.HistItem.{HistItem}
use Rattle.qd_hist_rules.specs.Moments.{HistAct, HistMoment}
use Rattle.qd_hist_rules.specs.Source.{source, Commit, made, last, map_size, wanted_keys, stock}
use Rattle.qd_hist_rules.proofs.ActFacts.{source_stays}
use Rattle.qd_hist_rules.proofs.Numbers.{made_facts, only_if, last_shown_stays}
use Rattle.qd_hist_rules.proofs.DueKeys.{made_not, last_unwanted, last_elsewhere, elsewhere}
use Rattle.qd_hist_rules.proofs.Sums.{others, sum-parted, sum-agree, sum-others, others-grown, others-twice}

-- the indexes of the last commit's map of a key and the events held back after it
abbrev pub key_stock : ℕ → Key → HistMoment → ℕ
key_stock base k now = map_size k (last base k now) + length (held_back (source k now))

no_source : (k : Key) (now : HistMoment) → wanted k now ≡ false → source k now ≡ []
no_source k now h = ap (λ (es : List Event). reverse es) (kept-unwanted k now h)

-- of an unwanted key nothing is kept
pub key_stock-unwanted : (base : ℕ) (k : Key) (now : HistMoment) → wanted k now ≡ false → key_stock base k now ≡ 0
key_stock-unwanted base k now h =
    ap (λ (o : Option Commit). map_size k o + length (held_back (source k now))) (last_unwanted base k now h)
    ∙ ap (λ (es : List Event). 0 + length (held_back es)) (no_source k now h)

source_same : (k : Key) (act : HistAct) (now : HistMoment) → is_put k act ≡ false → wanted k (act ∷ now) ≡ wanted k now → source k (act ∷ now) ≡ source k now
source_same k act now h w = go (cases_Bool (wanted k now))
  where
    go : (wanted k now ≡ true) ⊎ (wanted k now ≡ false) → source k (act ∷ now) ≡ source k now
    go (inl t) = source_stays k act now (w ∙ t) h
    go (inr f) = no_source k (act ∷ now) (w ∙ f) ∙ sym (no_source k now f)

-- an act that puts no event of the key, and leaves whether it is wanted, leaves what is kept of it
pub key_stock-same : (base : ℕ) (k : Key) (act : HistAct) (now : HistMoment) → is_put k act ≡ false → wanted k (act ∷ now) ≡ wanted k now → key_stock base k (act ∷ now) ≡ key_stock base k now
key_stock-same base k act now h w =
    ap (λ (o : Option Commit). map_size k o + length (held_back (source k (act ∷ now)))) (last_elsewhere base k act now (made_not base k act now h) w)
    ∙ ap (λ (es : List Event). map_size k (last base k now) + length (held_back es)) (source_same k act now h w)

-- and so does an act about another key
pub key_stock-about : (base : ℕ) (k : Key) (act : HistAct) (now : HistMoment) → is_about key_eq k (newest_key (act ∷ now)) ≡ false → key_stock base k (act ∷ now) ≡ key_stock base k now
key_stock-about base k act now h = key_stock-same base k act now (elsewhere 0 k act now h).no_put (wanted-about act now k h)

stock-sum : (base : ℕ) (now : HistMoment) → stock base now ≡ sum_by (λ k. key_stock base k now) (wanted_keys now)
unfolding stock
stock-sum base now = sum-map (λ k. key_stock base k now) (wanted_keys now)

none_wanted : (k : Key) → wanted {P = Event} {T = HistItem} k [] ≡ false
unfolding wanted agents
none_wanted k = refl

-- the list of the wanted keys has just those, each once
pub wanted_keys-has : (now : HistMoment) (k : Key) → has_key (wanted_keys now) k ≡ wanted k now
wanted_keys-has now k = by_since-has newest_key wanted key_eq key_eq-true none_wanted wanted-about now k

pub wanted_keys-once : (now : HistMoment) → once key_eq (wanted_keys now) ≡ true
wanted_keys-once now = by_since-once newest_key wanted key_eq key_eq-true key_eq-comm none_wanted wanted-about now

-- an act about a key leaves the other wanted keys
others_same : (act : HistAct) (now : HistMoment) (k : Key) → newest_key (act ∷ now) ≡ Some k → others key_eq k (wanted_keys (act ∷ now)) ≡ others key_eq k (wanted_keys now)
others_same act now k about =
    ap (λ (ks : List Key). others key_eq k ks)
    (by_since-about newest_key unbroken wanted key_eq key_eq-true act now k about (λ j. refl) (λ j e. wanted-about act now j (ap (λ (o : Option Key). is_about key_eq j o) about ∙ key_eq-comm j k ∙ e)) (wanted_keys-has now k))
    ∙ go (wanted k (act ∷ now))
  where
    go : (b : Bool) → others key_eq k (if b then grown key_eq (wanted_keys now) k else others key_eq k (wanted_keys now)) ≡ others key_eq k (wanted_keys now)
    go true = others-grown key_eq k (wanted_keys now) (key_eq-same k)
    go false = others-twice key_eq k (wanted_keys now)

-- the stock is that of the other keys with that of k
parted : (base : ℕ) (now : HistMoment) (k : Key) → stock base now ≡ sum_by (λ j. key_stock base j now) (others key_eq k (wanted_keys now)) + key_stock base k now
parted base now k =
    stock-sum base now
    ∙ sum-parted key_eq key_eq-true (λ j. key_stock base j now) k (wanted_keys now) (wanted_keys-once now)
    ∙ ap (λ (b : Bool). sum_by (λ j. key_stock base j now) (others key_eq k (wanted_keys now)) + (if b then key_stock base k now else 0)) (wanted_keys-has now k)
    ∙ go (cases_Bool (wanted k now))
  where
    go : (wanted k now ≡ true) ⊎ (wanted k now ≡ false) → sum_by (λ j. key_stock base j now) (others key_eq k (wanted_keys now)) + (if wanted k now then key_stock base k now else 0)
        ≡ sum_by (λ j. key_stock base j now) (others key_eq k (wanted_keys now)) + key_stock base k now
    go (inl t) = ap (λ (n : ℕ). sum_by (λ j. key_stock base j now) (others key_eq k (wanted_keys now)) + n) (if_true (wanted k now) (key_stock base k now) 0 t)
    go (inr f) = ap (λ (n : ℕ). sum_by (λ j. key_stock base j now) (others key_eq k (wanted_keys now)) + n) (if_false (wanted k now) (key_stock base k now) 0 f ∙ sym (key_stock-unwanted base k now f))

-- what is kept of a key is part of the stock
pub key_stock-≤ : (base : ℕ) (k : Key) (now : HistMoment) → key_stock base k now ≤ stock base now
key_stock-≤ base k now = let p = parted base now k in omega (arith, p)

-- an act about a key changes the stock by what it changes of that key
pub stock-about : (base : ℕ) (act : HistAct) (now : HistMoment) (k : Key) → newest_key (act ∷ now) ≡ Some k → stock base (act ∷ now) + key_stock base k now ≡ stock base now + key_stock base k (act ∷ now)
stock-about base act now k about =
    let old = parted base now k in
    let new = parted base (act ∷ now) k in
    let list : sum_by (λ j. key_stock base j (act ∷ now)) (others key_eq k (wanted_keys (act ∷ now))) ≡ sum_by (λ j. key_stock base j (act ∷ now)) (others key_eq k (wanted_keys now)) =
    ap (λ (ks : List Key). sum_by (λ j. key_stock base j (act ∷ now)) ks) (others_same act now k about) in
    let numbers : sum_by (λ j. key_stock base j (act ∷ now)) (others key_eq k (wanted_keys now)) ≡ sum_by (λ j. key_stock base j now) (others key_eq k (wanted_keys now)) =
    sum-others key_eq (λ j. key_stock base j (act ∷ now)) (λ j. key_stock base j now) k (wanted_keys now)
    (λ j e. key_stock-about base j act now (ap (λ (o : Option Key). is_about key_eq j o) about ∙ key_eq-comm j k ∙ e)) in
    omega (arith, old, new, list, numbers)

-- an act that puts nothing, and leaves whether its key is wanted, leaves the stock
pub stock-still : (base : ℕ) (act : HistAct) (now : HistMoment) (k : Key) → newest_key (act ∷ now) ≡ Some k → is_put k act ≡ false → wanted k (act ∷ now) ≡ wanted k now → stock base (act ∷ now) ≡ stock base now
stock-still base act now k about h w = let c = stock-about base act now k about in let s = key_stock-same base k act now h w in omega (arith, c, s)

pub stock-gave : (base a : ℕ) (k : Key) (i : HistItem) (now : HistMoment) → stock base (Gave a k i ∷ now) ≡ stock base now
stock-gave base a k i now = stock-still base (Gave a k i) now k refl refl (wanted-gave k a k i now)

pub stock-told : (base w : ℕ) (k : Key) (total : Option ℕ) (now : HistMoment) → stock base (Told w k total ∷ now) ≡ stock base now
stock-told base w k total now = stock-still base (Told w k total) now k refl refl (wanted-same k (Told w k total) now (λ a. subscribed-told a k w k total now))

pub stock-full : (base a : ℕ) (k : Key) (now : HistMoment) → stock base (Full a k ∷ now) ≡ stock base now
stock-full base a k now = stock-still base (Full a k) now k refl refl (wanted-same k (Full a k) now (λ b. subscribed-full b k a k now))

pub stock-closed : (base a : ℕ) (now : HistMoment) → stock base (Closed a ∷ now) ≡ stock base now
stock-closed base a now =
    stock-sum base (Closed a ∷ now)
    ∙ ap (λ (ks : List Key). sum_by (λ k. key_stock base k (Closed a ∷ now)) ks) (by_since-same newest_key wanted (Closed a) now (λ k. wanted-closed k a now))
    ∙ sum-agree (λ k. key_stock base k (Closed a ∷ now)) (λ k. key_stock base k now) (wanted_keys now) (λ k. key_stock-same base k (Closed a) now refl (wanted-closed k a now))
    ∙ sym (stock-sum base now)

-- an event of an unwanted key leaves the stock
pub stock-unwanted : (base : ℕ) (k : Key) (e : Event) (now : HistMoment) → wanted k now ≡ false → stock base (Came k e ∷ now) ≡ stock base now
stock-unwanted base k e now h =
    let c = stock-about base (Came k e) now k refl in
    let old = key_stock-unwanted base k now h in
    let new = key_stock-unwanted base k (Came k e ∷ now) (wanted-came k k e now ∙ h) in
    omega (arith, c, old, new)

both_none : (b : Bool) → (let o : Option Commit = if b then None else None in let none : Option Commit = None in o ≡ none)
both_none true = refl
both_none false = refl

-- a key that becomes wanted has nothing yet
pub stock-subscribed : (base a : ℕ) (k : Key) (limit : ℕ) (now : HistMoment) → stock base (Subscribed a k limit ∷ now) ≡ stock base now
stock-subscribed base a k limit now = go (cases_Bool (wanted k now))
  where
    nothing_last : wanted k now ≡ false → last base k (Subscribed a k limit ∷ now) ≡ None
    nothing_last f =
        ap (λ (o : Option Commit). if wanted k (Subscribed a k limit ∷ now) then or_else o (last base k now) else None) (made_not base k (Subscribed a k limit) now refl)
        ∙ ap (λ (o : Option Commit). if wanted k (Subscribed a k limit ∷ now) then o else None) (last_unwanted base k now f)
        ∙ both_none (wanted k (Subscribed a k limit ∷ now))

    nothing : wanted k now ≡ false → key_stock base k (Subscribed a k limit ∷ now) ≡ 0
    nothing f =
        ap (λ (o : Option Commit). map_size k o + length (held_back (source k (Subscribed a k limit ∷ now)))) (nothing_last f)
        ∙ ap (λ (es : List Event). 0 + length (held_back es)) (ap (λ (es : List Event). reverse es) (kept-sub k a k limit now) ∙ no_source k now f)

    go : (wanted k now ≡ true) ⊎ (wanted k now ≡ false) → stock base (Subscribed a k limit ∷ now) ≡ stock base now
    go (inl t) = stock-still base (Subscribed a k limit) now k refl refl (wanted-sub k a k limit now t ∙ sym t)
    go (inr f) =
        let c = stock-about base (Subscribed a k limit) now k refl in
        let old = key_stock-unwanted base k now f in
        let new = nothing f in
        omega (arith, c, old, new)

-- while the key stays wanted the stock stays
pub stock-unsubscribed : (base a : ℕ) (k : Key) (now : HistMoment) → wanted k (Unsubscribed a k ∷ now) ≡ true → stock base (Unsubscribed a k ∷ now) ≡ stock base now
stock-unsubscribed base a k now w = stock-still base (Unsubscribed a k) now k refl refl (w ∙ sym before)
  where
    right : (b c : Bool) → (b && c) ≡ true → c ≡ true
    right true c h = h
    right false c h = cc h

    before : wanted k now ≡ true
    before =
        let found = wanted-agent k (Unsubscribed a k ∷ now) w in
        wanted-subscribed found.0 k now (right (not (is_pair found.0 k a k)) (subscribed found.0 k now) (sym (subscribed-unsub found.0 k a k now) ∙ found.1))

-- else it falls by what was kept of the key
pub stock-dropped : (base a : ℕ) (k : Key) (now : HistMoment) → wanted k (Unsubscribed a k ∷ now) ≡ false → stock base (Unsubscribed a k ∷ now) + key_stock base k now ≡ stock base now
stock-dropped base a k now w = let c = stock-about base (Unsubscribed a k) now k refl in let new = key_stock-unwanted base k (Unsubscribed a k ∷ now) w in omega (arith, c, new)

-- the source shows the last commit's state at the moment of that commit
pub last_when : (base : ℕ) (k : Key) (m : HistMoment) (c : Commit) → last base k m ≡ Some c → shown (source k c.when) ≡ Some c.shown
last_when base k [] c h = cc h
last_when base k (act ∷ m) c h = go (made base k (act ∷ m)) refl (only_if (wanted k (act ∷ m)) (or_else (made base k (act ∷ m)) (last base k m)) c h).1 (last_when base k m c)
  where
    go : (o : Option Commit) → made base k (act ∷ m) ≡ o → or_else o (last base k m) ≡ Some c → (last base k m ≡ Some c → shown (source k c.when) ≡ Some c.shown) → shown (source k c.when) ≡ Some c.shown
    go (Some d) q e ih =
        let f = made_facts base k (act ∷ m) d q in
        let s : d ≡ c = cc e in
        subst (λ (x : Commit). shown (source k x.when) ≡ Some x.shown) s (ap (λ (w : HistMoment). shown (source k w)) f.when_is ∙ f.shown_is)
    go None q e ih = ih e

-- without a commit the source has no commit place
pub none_shown : (base : ℕ) (k : Key) (m : HistMoment) → last base k m ≡ None → last_shown (source k m) ≡ None
none_shown base k [] h = ap (λ (es : List Event). last_shown es) (no_source k [] (none_wanted k))
none_shown base k (act ∷ m) h = go (cases_Bool (wanted k (act ∷ m))) (none_shown base k m)
  where
    still : wanted k (act ∷ m) ≡ true → (o : Option Commit) → made base k (act ∷ m) ≡ o → or_else o (last base k m) ≡ None → (last base k m ≡ None → last_shown (source k m) ≡ None) → last_shown (source k (act ∷ m)) ≡ None
    still w (Some d) q e ih = cc e
    still w None q e ih = last_shown_stays base k act m w q ∙ ih e

    go : (wanted k (act ∷ m) ≡ true) ⊎ (wanted k (act ∷ m) ≡ false) → (last base k m ≡ None → last_shown (source k m) ≡ None) → last_shown (source k (act ∷ m)) ≡ None
    go (inl w) ih = still w (made base k (act ∷ m)) refl (sym (if_true (wanted k (act ∷ m)) (or_else (made base k (act ∷ m)) (last base k m)) None w) ∙ h) ih
    go (inr w) ih = ap (λ (es : List Event). last_shown es) (no_source k (act ∷ m) w)
