-- The shares of the commits grow by the share of each commit, and what is owed falls by one with each item given.
use Rattle.std.proofs.Common.{◌≡◌, ℕ, zero, suc, ◌≤◌, Bool, true, false, List, [], ◌∷◌, ◌++◌, length, reverse, drop, refl, sym, ◌∙◌, ap, arith, Option, Some, None}
use Rattle.std.specs.Prelude.{if◌then◌else◌, is_some, option_to_list, flat_map, filter, nat_lt, nat_le}
use Rattle.std.proofs.lemmas.List.{reverse-append}
use Rattle.std.proofs.lemmas.Bool.{lt-ltb}
use Rattle.qd_scheme.specs.declared.key.Key.{Key}
use Rattle.qd_scheme.specs.declared.key.Event.{Event}
use Rattle.qd_flags.specs.Bits.{is_begin}
use Rattle.qd_flags.specs.Shown.{first_end, shown, has_begin, events_of}
use Rattle.qd_flags.proofs.Places.{same_floor, same_snip}
use Rattle.qd_flags.proofs.Feeding.{if_true, if_false}
use Rattle.qd_sub.specs.Acts.{Came, Gave}
use Rattle.qd_sub.specs.Subscriptions.{limit_of, wanted, subscribed}
use Rattle.qd_sub.proofs.SubscriptionLaws.{wanted-subscribed, subscribed-gave}
use Rattle.qd_hist_rules.specs.declared.item.HistItem.{HistItem}
use Rattle.qd_hist_rules.specs.Moments.{HistAct, HistMoment, events}
use Rattle.qd_hist_rules.specs.Source.{source, Commit, made, commits, last, count, is_snapshot}
use Rattle.qd_hist_rules.specs.declared.floor.AgentFloor.{AgentFloor}
use Rattle.qd_hist_rules.specs.Agent.{meet, agent_floor, since_begin_given, after_end, at_end, snapshot, share_from, share, numbered, shares_after, owed_after, owed}
use Rattle.qd_hist_rules.proofs.ActFacts.{limit_given, limit_came, source_came, given_now}
use Rattle.qd_hist_rules.proofs.Numbers.{made_facts, count_now, last_place}
use Rattle.qd_hist_rules.proofs.Begun.{last_quiet, last_made}

pub drop_next : (n : ℕ) (xs : List HistItem) → drop (suc n) xs ≡ drop 1 (drop n xs)
drop_next zero xs = refl
drop_next (suc n) [] = refl
drop_next (suc n) (x ∷ xs) = drop_next n xs

pub drop_front : (n : ℕ) (xs ys : List HistItem) → n ≤ length xs → drop n (xs ++ ys) ≡ drop n xs ++ ys
drop_front zero xs ys h = refl
drop_front (suc n) [] ys h = absurd (omega arith)
drop_front (suc n) (x ∷ xs) ys h = drop_front n xs ys (omega arith)

-- an item leaves the floor
pub floor_given : (base a : ℕ) (k : Key) (i : HistItem) (m : HistMoment) → subscribed a k m ≡ true → agent_floor base a k (Gave a k i ∷ m) ≡ agent_floor base a k m
floor_given base a k i m s =
    let w = wanted-subscribed a k (Gave a k i ∷ m) (subscribed-gave a k a k i m ∙ s) in
    ap (λ (o : Option ℕ). meet o (last base k (Gave a k i ∷ m))) (limit_given a k a k i m) ∙ ap (λ (o : Option Commit). meet (limit_of a k m) o) (last_quiet base k (Gave a k i) m refl w)

-- an act without a commit of the key leaves the shares where it leaves the floor
pub shares_stay : (base a : ℕ) (k : Key) (n : ℕ) (act : HistAct) (m : HistMoment) → made base k (act ∷ m) ≡ None → agent_floor base a k (act ∷ m) ≡ agent_floor base a k m → shares_after base a k (act ∷ m) n ≡ shares_after base a k m n
shares_stay base a k n act m h fl =
    ap (λ (g : Option AgentFloor). listed (commits base k (act ∷ m)) g) fl
    ∙ ap (λ (o : Option Commit). listed (option_to_list o ++ commits base k m) (agent_floor base a k m)) h
  where
    listed : List Commit → Option AgentFloor → List HistItem
    listed cs g = reverse (flat_map (λ (d : Commit). numbered d.number (share_from g d)) (filter (λ (d : Commit). nat_lt n d.number) cs))

pub shares_given : (base a : ℕ) (k : Key) (n : ℕ) (i : HistItem) (m : HistMoment) → subscribed a k m ≡ true → shares_after base a k (Gave a k i ∷ m) n ≡ shares_after base a k m n
shares_given base a k n i m s = shares_stay base a k n (Gave a k i) m refl (floor_given base a k i m s)

pub snapshot_given : (a : ℕ) (k : Key) (i : HistItem) (m : HistMoment) → is_begin i.event ≡ false → snapshot a k (Gave a k i ∷ m) ≡ i ∷ snapshot a k m
snapshot_given a k i m b =
    ap since_begin_given (given_now a k i m) ∙ if_false (is_begin i.event) (i ∷ []) (i ∷ snapshot a k m) b

pub owed_falls : (base a : ℕ) (k : Key) (i : HistItem) (m : HistMoment) → subscribed a k m ≡ true → is_some (first_end (events (snapshot a k m))) ≡ true → is_begin i.event ≡ false
    → owed base a k (Gave a k i ∷ m) ≡ drop 1 (owed base a k m)
owed_falls base a k i m s e b =
    ap (λ (is : List HistItem). from is) (snapshot_given a k i m b)
    ∙ ap (λ (o : Option ℕ). with (after_end (i ∷ snapshot a k m)) o) (if_true (is_some (first_end (events (snapshot a k m)))) (at_end (snapshot a k m)) i.at e)
    ∙ ap (λ (is : List HistItem). with is (at_end (snapshot a k m))) (if_true (is_some (first_end (events (snapshot a k m)))) (i ∷ after_end (snapshot a k m)) [] e)
    ∙ last_step (at_end (snapshot a k m))
  where
    with : List HistItem → Option ℕ → List HistItem
    with gone None = []
    with gone (Some n) = drop (length gone) (shares_after base a k (Gave a k i ∷ m) n)

    from : List HistItem → List HistItem
    from is = with (after_end is) (at_end is)

    last_step : (o : Option ℕ) → with (i ∷ after_end (snapshot a k m)) o ≡ drop 1 (owed_after base a k m o)
    last_step None = refl
    last_step (Some n) =
        ap (λ (xs : List HistItem). drop (suc (length (after_end (snapshot a k m)))) xs) (shares_given base a k n i m s)
        ∙ drop_next (length (after_end (snapshot a k m))) (shares_after base a k m n)

-- a commit that is no snapshot leaves the floor of each agent
pub floor_stays : (base a : ℕ) (k : Key) (e : Event) (m : HistMoment) (c r : Commit) → wanted k m ≡ true → wanted k (Came k e ∷ m) ≡ true → made base k (Came k e ∷ m) ≡ Some c → last base k m ≡ Some r → is_snapshot c ≡ false
    → agent_floor base a k (Came k e ∷ m) ≡ agent_floor base a k m
floor_stays base a k e m c r w v h l n =
    let f = made_facts base k (Came k e ∷ m) c h in
    let es : source k (Came k e ∷ m) ≡ e ∷ source k m = source_came k e m w in
    let shows : shown (e ∷ source k m) ≡ Some c.shown = ap (λ (xs : List Event). shown xs) (sym es) ∙ f.shown_is in
    let new : has_begin (events_of (e ∷ source k m)) ≡ false = ap (λ (xs : List Event). has_begin (events_of xs)) (sym es) ∙ sym (ap has_begin f.events_is) ∙ n in
    let fl = same_floor e (source k m) c.shown r.shown shows (last_place base k m r l) new in
    let sn = same_snip e (source k m) c.shown r.shown shows (last_place base k m r l) new in
    ap (λ (o : Option ℕ). meet o (last base k (Came k e ∷ m))) (limit_came a k k e m)
    ∙ ap (λ (o : Option Commit). meet (limit_of a k m) o) (last_made base k (Came k e) m c h v) ∙ same (limit_of a k m) fl sn ∙ sym (ap (λ (o : Option Commit). meet (limit_of a k m) o) l)
  where
    same : (o : Option ℕ) → c.shown.floor ≡ r.shown.floor → c.shown.snipped ≡ r.shown.snipped → meet o (Some c) ≡ meet o (Some r)
    same None fl sn = refl
    same (Some x) fl sn =
        ap (λ (f : ℕ). if nat_le f x then Some (record { index = x; by_snip = false }) else if c.shown.snipped then Some (record { index = f; by_snip = true }) else None) fl
        ∙ ap (λ (b : Bool). if nat_le r.shown.floor x then Some (record { index = x; by_snip = false }) else if b then Some (record { index = r.shown.floor; by_snip = true }) else None) sn

-- the share of a commit comes behind those of the commits before it
pub shares_grow : (base a : ℕ) (k : Key) (n : ℕ) (e : Event) (m : HistMoment) (c : Commit) → made base k (Came k e ∷ m) ≡ Some c → agent_floor base a k (Came k e ∷ m) ≡ agent_floor base a k m → n ≤ count base m
    → shares_after base a k (Came k e ∷ m) n ≡ shares_after base a k m n ++ reverse (numbered c.number (share base a k m c))
shares_grow base a k n e m c h fl le =
    ap (λ (g : Option AgentFloor). listed (commits base k (Came k e ∷ m)) g) fl
    ∙ ap (λ (o : Option Commit). listed (option_to_list o ++ commits base k m) (agent_floor base a k m)) h
    ∙ ap (λ (b : Bool). reverse (flat_map (λ (d : Commit). numbered d.number (share base a k m d)) (if b then c ∷ filter (λ (d : Commit). nat_lt n d.number) (commits base k m) else filter (λ (d : Commit). nat_lt n d.number) (commits base k m)))) later
    ∙ reverse-append (numbered c.number (share base a k m c)) (flat_map (λ (d : Commit). numbered d.number (share base a k m d)) (filter (λ (d : Commit). nat_lt n d.number) (commits base k m)))
  where
    later : nat_lt n c.number ≡ true
    later = let f = made_facts base k (Came k e ∷ m) c h in lt-ltb n c.number (omega (arith, f.number_is, count_now base (Came k e) m f.is_now))

    listed : List Commit → Option AgentFloor → List HistItem
    listed cs g = reverse (flat_map (λ (d : Commit). numbered d.number (share_from g d)) (filter (λ (d : Commit). nat_lt n d.number) cs))

-- the share of a commit is owed behind what was owed
pub owed_grows : (base a : ℕ) (k : Key) (n : ℕ) (e : Event) (m : HistMoment) (c : Commit) → made base k (Came k e ∷ m) ≡ Some c → agent_floor base a k (Came k e ∷ m) ≡ agent_floor base a k m
    → at_end (snapshot a k m) ≡ Some n → n ≤ count base m → length (after_end (snapshot a k m)) ≤ length (shares_after base a k m n)
    → owed base a k (Came k e ∷ m) ≡ owed base a k m ++ reverse (numbered c.number (share base a k m c))
owed_grows base a k n e m c h fl at le room =
    ap (λ (o : Option ℕ). owed_after base a k (Came k e ∷ m) o) at
    ∙ ap (λ (xs : List HistItem). drop (length (after_end (snapshot a k m))) xs) (shares_grow base a k n e m c h fl le)
    ∙ drop_front (length (after_end (snapshot a k m))) (shares_after base a k m n) (reverse (numbered c.number (share base a k m c))) room
    ∙ ap (λ (o : Option ℕ). owed_after base a k m o ++ reverse (numbered c.number (share base a k m c))) (sym at)
