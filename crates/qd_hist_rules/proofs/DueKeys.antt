-- The keys that are due for an agent are those of their list, each once.
use Rattle.std.proofs.Common.{◌≡◌, ℕ, suc, ◌<◌, ◌≤◌, Bool, true, false, ◌&&◌, ◌||◌, ◌==◌, not, nat_eq, List, [], ◌∷◌, length, drop, refl, sym, ◌∙◌, ap, arith, Option, Some, None, inl, inr}
use Rattle.std.specs.Prelude.{if◌then◌else◌, is_some, ◌⊎◌}
use Rattle.std.specs.List.{filter}
use Rattle.std.proofs.lemmas.Bool.{cases_Bool, and_right}
use Rattle.std.proofs.lemmas.Bool.Decides.{nat_tests}
use Rattle.std.proofs.lemmas.List.Folds.{list_any-append}
use Rattle.qd_scheme.specs.declared.key.Key.{Key}
use Rattle.qd_scheme.specs.Keys.{key_eq}
use Rattle.qd_scheme.proofs.KeyLaws.{key_eq-true}
use Rattle.qd_flags.specs.Shown.{first_end, or_else}
use Rattle.qd_flags.proofs.Feeding.{if_true, if_false}
use Rattle.qd_gate.specs.declared.machine.Terms.{Terms}
use Rattle.qd_sub.specs.Acts.{Subscribed, Unsubscribed, Closed, Came, Gave, Told, Full, is_put, newest_key}
use Rattle.qd_sub.specs.Since.{since, begun_at, begun_within, by_since}
use Rattle.qd_sub.specs.Subscriptions.{limit_of, subscribed, wanted}
use Rattle.qd_sub.specs.Holding.{has_key}
use Rattle.qd_sub.proofs.SinceLaws.{since-≤, by_since-step, same_number}
use Rattle.qd_sub.proofs.OrderLaws.{is_about, any-filter, any-one}
use Rattle.qd_sub.proofs.HeldLaws.{limit_of-about, wanted-about, wanted-same}
use Rattle.qd_sub.proofs.StepLaws.{subscribed-full}
use Rattle.qd_hist_rules.specs.declared.floor.AgentFloor.{AgentFloor}
use Rattle.qd_hist_rules.specs.declared.item.HistItem.{HistItem}
use Rattle.qd_hist_rules.specs.Moments.{HistAct, HistMoment, events, gives, begins, subscribes, fills}
use Rattle.qd_hist_rules.specs.Source.{Commit, made, last, count}
use Rattle.qd_hist_rules.specs.Agent.{agent_floor, meet, begin_moment, since_begin_given, after_end, at_end, snapshot, shares_after, shares_since_begin, owed_after, owed}
use Rattle.qd_hist_rules.specs.Standing.{standing, restarts, overflows_by, all_settled, is_snapshot_commit, is_begun, is_ended, is_due, due_keys}
use Rattle.qd_hist_rules.proofs.ActFacts.{is_subscribed, given_stays, no_gift_no_begin}
use Rattle.qd_hist_rules.proofs.Begun.{begin_stays}
use Rattle.qd_hist_rules.proofs.Shares.{shares_stay}

-- what an act does not do that neither puts an event of the key nor concerns the pair
pub record Elsewhere (a : ℕ) (k : Key) (act : HistAct) : Type 0 where
  pub no_put : is_put k act ≡ false
  pub no_gift : gives a k act ≡ false
  pub no_sub : subscribes a k act ≡ false

no_mark : (a : ℕ) (k : Key) (act : HistAct) (m : HistMoment) → is_about key_eq k (newest_key (act ∷ m)) ≡ false → fills a k act ≡ false
no_mark a k (Full b j) m h = and_right (nat_eq a b) (key_eq k j) h
no_mark a k (Came j e) m h = refl
no_mark a k (Subscribed b j l) m h = refl
no_mark a k (Unsubscribed b j) m h = refl
no_mark a k (Closed b) m h = refl
no_mark a k (Gave b j i) m h = refl
no_mark a k (Told w j x) m h = refl

pub elsewhere : (a : ℕ) (k : Key) (act : HistAct) (m : HistMoment) → is_about key_eq k (newest_key (act ∷ m)) ≡ false → Elsewhere a k act
elsewhere a k (Came j e) m h = record { no_put = h; no_gift = refl; no_sub = refl }
elsewhere a k (Subscribed b j l) m h = record { no_put = refl; no_gift = refl; no_sub = and_right (nat_eq a b) (key_eq k j) h }
elsewhere a k (Unsubscribed b j) m h = record { no_put = refl; no_gift = refl; no_sub = refl }
elsewhere a k (Closed b) m h = record { no_put = refl; no_gift = refl; no_sub = refl }
elsewhere a k (Gave b j i) m h = record { no_put = refl; no_gift = and_right (nat_eq a b) (key_eq k j) h; no_sub = refl }
elsewhere a k (Told w j x) m h = record { no_put = refl; no_gift = refl; no_sub = refl }
elsewhere a k (Full b j) m h = record { no_put = refl; no_gift = refl; no_sub = refl }

pub made_not : (base : ℕ) (k : Key) (act : HistAct) (m : HistMoment) → is_put k act ≡ false → made base k (act ∷ m) ≡ None
made_not base k act m h = rw h refl

pub last_unwanted : (base : ℕ) (k : Key) (m : HistMoment) → wanted k m ≡ false → last base k m ≡ None
last_unwanted base k [] h = refl
last_unwanted base k (act ∷ m) h = if_false (wanted k (act ∷ m)) (or_else (made base k (act ∷ m)) (last base k m)) None h

pub last_elsewhere : (base : ℕ) (k : Key) (act : HistAct) (m : HistMoment) → made base k (act ∷ m) ≡ None → wanted k (act ∷ m) ≡ wanted k m → last base k (act ∷ m) ≡ last base k m
last_elsewhere base k act m n w =
    ap (λ (o : Option Commit). if wanted k (act ∷ m) then or_else o (last base k m) else None) n
    ∙ ap (λ (b : Bool). if b then last base k m else None) w ∙ go (cases_Bool (wanted k m))
  where
    go : (wanted k m ≡ true) ⊎ (wanted k m ≡ false) → (if wanted k m then last base k m else None) ≡ last base k m
    go (inl h) = if_true (wanted k m) (last base k m) None h
    go (inr h) = if_false (wanted k m) (last base k m) None h ∙ sym (last_unwanted base k m h)

abbrev due_by : Option AgentFloor → Bool → Bool → ℕ → ℕ → Bool
due_by floor ended begun behind shares = is_some floor && not (ended && (if ended then behind else if begun then shares else 0) == 0)

abbrev owed_with : ℕ → ℕ → Key → HistMoment → List HistItem → Option ℕ → List HistItem
owed_with base a k m is None = []
owed_with base a k m is (Some n) = drop (length (after_end is)) (shares_after base a k m n)

owed_is : (base a : ℕ) (k : Key) (m : HistMoment) (o : Option ℕ) → owed_after base a k m o ≡ owed_with base a k m (snapshot a k m) o
owed_is base a k m None = refl
owed_is base a k m (Some n) = refl

-- an act that neither puts an event of the key nor concerns the pair leaves whether the pair is due
pub due_same : (t : Terms) (a : ℕ) (act : HistAct) (m : HistMoment) (k : Key) → Elsewhere a k act → limit_of a k (act ∷ m) ≡ limit_of a k m → wanted k (act ∷ m) ≡ wanted k m → is_due t a k (act ∷ m) ≡ is_due t a k m
due_same t a act m k E limit want =
    ap (λ (o : Option AgentFloor). due_by o (is_ended t a k (act ∷ m)) (is_begun t a k (act ∷ m)) (length (owed t.base a k (act ∷ m))) (length (shares_since_begin t.base a k (act ∷ m)))) floor
    ∙ ap (λ (b : Bool). due_by (agent_floor t.base a k m) b (is_begun t a k (act ∷ m)) (length (owed t.base a k (act ∷ m))) (length (shares_since_begin t.base a k (act ∷ m)))) ended
    ∙ ap (λ (b : Bool). due_by (agent_floor t.base a k m) (is_ended t a k m) b (length (owed t.base a k (act ∷ m))) (length (shares_since_begin t.base a k (act ∷ m)))) begun
    ∙ ap (λ (is : List HistItem). due_by (agent_floor t.base a k m) (is_ended t a k m) (is_begun t a k m) (length is) (length (shares_since_begin t.base a k (act ∷ m)))) owes
    ∙ ap (λ (is : List HistItem). due_by (agent_floor t.base a k m) (is_ended t a k m) (is_begun t a k m) (length (owed t.base a k m)) (length is)) shares
  where
    none : made t.base k (act ∷ m) ≡ None
    none = made_not t.base k act m E.no_put

    floor : agent_floor t.base a k (act ∷ m) ≡ agent_floor t.base a k m
    floor = ap (λ (o : Option ℕ). meet o (last t.base k (act ∷ m))) limit ∙ ap (λ (o : Option Commit). meet (limit_of a k m) o) (last_elsewhere t.base k act m none want)

    no_begin : begins a k act ≡ false
    no_begin = no_gift_no_begin a k act E.no_gift

    not_restarted : restarts (standing t a m) t a k act m ≡ false
    not_restarted =
        ap (λ (b : Bool). b || is_snapshot_commit (made t.base k (act ∷ m)) || (overflows_by (standing t a m) t a k m (made t.base k (act ∷ m)) && all_settled (standing t a m) a m)) E.no_sub
        ∙ ap (λ (o : Option Commit). is_snapshot_commit o || (overflows_by (standing t a m) t a k m o && all_settled (standing t a m) a m)) none

    begun : is_begun t a k (act ∷ m) ≡ is_begun t a k m
    begun =
        ap (λ (b : Bool). b && (standing t a (act ∷ m) k).begin_given) (is_subscribed a k (act ∷ m) ∙ ap is_some limit ∙ sym (is_subscribed a k m))
        ∙ ap (λ (b : Bool). subscribed a k m && (b || (not (restarts (standing t a m) t a k act m) && (standing t a m k).begin_given))) no_begin
        ∙ ap (λ (b : Bool). subscribed a k m && (not b && (standing t a m k).begin_given)) not_restarted

    snap : snapshot a k (act ∷ m) ≡ snapshot a k m
    snap = ap since_begin_given (given_stays a k act m E.no_gift)

    ended : is_ended t a k (act ∷ m) ≡ is_ended t a k m
    ended = ap (λ (b : Bool). b && is_some (first_end (events (snapshot a k (act ∷ m))))) begun ∙ ap (λ (is : List HistItem). is_begun t a k m && is_some (first_end (events is))) snap

    shares : shares_since_begin t.base a k (act ∷ m) ≡ shares_since_begin t.base a k m
    shares = ap (λ (x : HistMoment). shares_after t.base a k (act ∷ m) (count t.base x)) (begin_stays a k act m no_begin) ∙ shares_stay t.base a k (count t.base (begin_moment a k m)) act m none floor

    owed_at : (o : Option ℕ) → owed_with t.base a k (act ∷ m) (snapshot a k m) o ≡ owed_with t.base a k m (snapshot a k m) o
    owed_at None = refl
    owed_at (Some n) = ap (λ (xs : List HistItem). drop (length (after_end (snapshot a k m))) xs) (shares_stay t.base a k n act m none floor)

    owes : owed t.base a k (act ∷ m) ≡ owed t.base a k m
    owes =
        owed_is t.base a k (act ∷ m) (at_end (snapshot a k (act ∷ m)))
        ∙ ap (λ (is : List HistItem). owed_with t.base a k (act ∷ m) is (at_end is)) snap
        ∙ owed_at (at_end (snapshot a k m)) ∙ sym (owed_is t.base a k m (at_end (snapshot a k m)))

-- an act about another key leaves what is due of this one
pub due_about : (t : Terms) (a : ℕ) (act : HistAct) (m : HistMoment) (k : Key) → is_about key_eq k (newest_key (act ∷ m)) ≡ false → is_due t a k (act ∷ m) ≡ is_due t a k m
due_about t a act m k h = due_same t a act m k (elsewhere a k act m h) (limit_of-about a act m k h) (wanted-about act m k h)

-- a mark leaves what is due
pub due_mark : (t : Terms) (a : ℕ) (b : ℕ) (j : Key) (m : HistMoment) (k : Key) → is_due t a k (Full b j ∷ m) ≡ is_due t a k m
unfolding limit_of
due_mark t a b j m k = due_same t a (Full b j) m k (record { no_put = refl; no_gift = refl; no_sub = refl }) refl (wanted-same k (Full b j) m (λ c. subscribed-full c k b j m))

eq_apart : (m n : ℕ) → m < n → nat_eq m n ≡ false
eq_apart m n h = grind (arith, nat_tests)

pub new_test : (h w b : Bool) (s l : ℕ) → s ≤ l → nat_eq (if h then (if w && not b then s else suc l) else 0) (suc l) ≡ (h && not (w && not b))
new_test true true true s l le = same_number (suc l)
new_test true true false s l le = eq_apart s (suc l) (omega arith)
new_test true false b s l le = same_number (suc l)
new_test false w b s l le = eq_apart 0 (suc l) (omega arith)

joined : (h w b abt : Bool) → (abt ≡ false → h ≡ w) → (abt ≡ false → b ≡ false) → (((h && not b) && w) || (abt && (h && not (w && not b)))) ≡ h
joined true true true true l r = refl
joined true true false true l r = refl
joined true false true true l r = refl
joined true false false true l r = refl
joined false w true true l r = refl
joined false w false true l r = refl
joined h w true false l r = cc (r refl)
joined true true false false l r = refl
joined true false false false l r = cc (l refl)
joined false w false false l r = refl

begun_has : (t : Terms) (a : ℕ) (act : HistAct) (m : HistMoment) (y : Key) (o : Option Key) →
    has_key (begun_at (fills a) (is_due t a) (act ∷ m) (suc (length m)) o) y ≡ (is_about key_eq y o && (is_due t a y (act ∷ m) && not (is_due t a y m && not (fills a y act))))
unfolding since
begun_has t a act m y None = refl
begun_has t a act m y (Some x) =
    any-one (key_eq y) (nat_eq (since (fills a x) (is_due t a x) (act ∷ m)) (suc (length m))) x
    ∙ ap (λ (b : Bool). key_eq y x && b) (now x) ∙ go (key_eq y x) refl
  where
    now : (x : Key) → nat_eq (since (fills a x) (is_due t a x) (act ∷ m)) (suc (length m)) ≡ (is_due t a x (act ∷ m) && not (is_due t a x m && not (fills a x act)))
    now x = new_test (is_due t a x (act ∷ m)) (is_due t a x m) (fills a x act) (since (fills a x) (is_due t a x) m) (length m) (since-≤ (fills a x) (is_due t a x) m)

    go : (b : Bool) → key_eq y x ≡ b → (key_eq y x && (is_due t a x (act ∷ m) && not (is_due t a x m && not (fills a x act)))) ≡ (key_eq y x && (is_due t a y (act ∷ m) && not (is_due t a y m && not (fills a y act))))
    go true e = ap (λ (z : Key). key_eq y x && (is_due t a z (act ∷ m) && not (is_due t a z m && not (fills a z act)))) (sym (key_eq-true y x e))
    go false e = ap (λ (b : Bool). b && (is_due t a x (act ∷ m) && not (is_due t a x m && not (fills a x act)))) e ∙ sym (ap (λ (b : Bool). b && (is_due t a y (act ∷ m) && not (is_due t a y m && not (fills a y act)))) e)

start_none : (t : Terms) (a : ℕ) (y : Key) → has_key (due_keys t a []) y ≡ false
unfolding by_since begun_within
start_none t a y = refl

due_start : (t : Terms) (a : ℕ) (y : Key) → is_due t a y [] ≡ false
unfolding limit_of
due_start t a y = refl

-- the list of the due keys has just those that are due
pub due_keys-has : (t : Terms) (a : ℕ) (m : HistMoment) (y : Key) → has_key (due_keys t a m) y ≡ is_due t a y m
due_keys-has t a [] y = start_none t a y ∙ sym (due_start t a y)
due_keys-has t a (act ∷ m) y =
    ap (λ (ks : List Key). has_key ks y) (by_since-step newest_key (fills a) (is_due t a) act m)
    ∙ list_any-append (key_eq y) (filter (λ (x : Key). is_due t a x (act ∷ m) && not (fills a x act)) (due_keys t a m)) (begun_at (fills a) (is_due t a) (act ∷ m) (suc (length m)) (newest_key (act ∷ m)))
    ∙ ap (λ (b : Bool). b || has_key (begun_at (fills a) (is_due t a) (act ∷ m) (suc (length m)) (newest_key (act ∷ m))) y)
    (any-filter key_eq key_eq-true (λ (x : Key). is_due t a x (act ∷ m) && not (fills a x act)) (due_keys t a m) y ∙ ap (λ (b : Bool). (is_due t a y (act ∷ m) && not (fills a y act)) && b) (due_keys-has t a m y))
    ∙ ap (λ (b : Bool). ((is_due t a y (act ∷ m) && not (fills a y act)) && is_due t a y m) || b) (begun_has t a act m y (newest_key (act ∷ m)))
    ∙ joined (is_due t a y (act ∷ m)) (is_due t a y m) (fills a y act) (is_about key_eq y (newest_key (act ∷ m))) (λ h. due_about t a act m y h) (λ h. no_mark a y act m h)
