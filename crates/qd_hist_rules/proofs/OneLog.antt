-- The law of the history in one log.
use Rattle.std.proofs.Common.{◌≡◌, ℕ, ◌≤◌, ◌<◌, Bool, true, false, ◌||◌, List, [], ◌∷◌, refl, sym, ◌∙◌, ap, arith, Option, Some, None, inl, inr, subst}
use Rattle.std.specs.Prelude.{if◌then◌else◌, is_some, option_map, ◌⊎◌, nat_le, IfSome}
use Rattle.std.proofs.lemmas.Bool.{cases_Bool, and_parts, and_from, leb-true, leb-false}
use Rattle.qd_scheme.specs.declared.key.Key.{Key}
use Rattle.qd_flags.specs.Bits.{is_begin}
use Rattle.qd_flags.specs.Shown.{Shown, shown}
use Rattle.qd_gate.specs.declared.machine.Terms.{Terms}
use Rattle.qd_sub.specs.Acts.{Gave}
use Rattle.qd_sub.specs.Subscriptions.{limit_of, subscribed, wanted}
use Rattle.qd_sub.proofs.SubscriptionLaws.{subscribed-gave}
use Rattle.qd_hist_rules.specs.declared.item.HistItem.{HistItem}
use Rattle.qd_hist_rules.specs.Moments.{HistAct, HistMoment, events, given, gives, begins}
use Rattle.qd_hist_rules.specs.Source.{Commit, last}
use Rattle.qd_hist_rules.specs.declared.floor.AgentFloor.{AgentFloor}
use Rattle.qd_hist_rules.specs.Agent.{meet, floor_for}
use Rattle.qd_hist_rules.specs.Standing.{standing, is_begun}
use Rattle.qd_hist_rules.specs.Lawful.{Lawful, MayCome, NumberFits, ShowsCommit, NoneAbove}
use Rattle.qd_hist_rules.specs.Laws.{ShowsOne}
use Rattle.qd_hist_rules.proofs.ActFacts.{self_pair, is_subscribed, limit_given, given_now, given_stays, gives_gave, no_gift_no_begin, lawful_before}
use Rattle.qd_hist_rules.proofs.Numbers.{commit_stays, only_if}
use Rattle.qd_hist_rules.proofs.Begun.{begun, meets, begin_stays}

-- the floor of an agent is no less than the limit and the source's floor
pub above_both : (l : ℕ) (s : Shown) (f : ℕ) → option_map (λ (f : AgentFloor). f.index) (floor_for l s) ≡ Some f → (l ≤ f) × (s.floor ≤ f)
above_both l s f h = go (nat_le s.floor l) s.snipped refl h
  where
    go : (b c : Bool) → nat_le s.floor l ≡ b
        → option_map (λ (f : AgentFloor). f.index) (if b then Some (record { index = l; by_snip = false }) else if c then Some (record { index = s.floor; by_snip = true }) else None) ≡ Some f → (l ≤ f) × (s.floor ≤ f)
    go true c e h = let q : l ≡ f = cc h in let w : s.floor ≤ l = leb-true s.floor l e in (omega arith, omega arith)
    go false true e h = let q : s.floor ≡ f = cc h in let w : l < s.floor = leb-false s.floor l e in (omega arith, omega arith)
    go false false e h = cc h

pub none_above_self : (n : ℕ) (i : HistItem) (is : List HistItem) → i.at ≡ Some n → NoneAbove n is → NoneAbove n (i ∷ is)
none_above_self n i is h w = (rw h (omega arith), w)

-- an act that gives nothing of the pair
stays : (t : Terms) (a : ℕ) (k : Key) (s : Shown) (act : HistAct) (m : HistMoment) → given a k (act ∷ m) ≡ given a k m → begins a k act ≡ false → ShowsOne t a k s m → ShowsOne t a k s (act ∷ m)
stays t a k s act m same nb g = record {
  n = g.n;
  commit_n = g.commit_n;
  limit_then = g.limit_then;
  number_is = rw same g.number_is;
  is_commit = commit_stays t.base k g.n act m g.commit_n g.is_commit;
  map_is = g.map_is;
  above_source = g.above_source;
  limit_is = ap (λ (x : HistMoment). limit_of a k x) (begin_stays a k act m nb) ∙ g.limit_is;
  above_limit = g.above_limit;
  none_above = rw same g.none_above;
}

pub floor_at : (o : Option ℕ) (p : Option Commit) (l : ℕ) (c : Commit) (f : ℕ) → o ≡ Some l → p ≡ Some c → option_map (λ (f : AgentFloor). f.index) (meet o p) ≡ Some f → option_map (λ (f : AgentFloor). f.index) (floor_for l c.shown) ≡ Some f
floor_at o p l c f ho hp h = rw (ho, hp) at h

-- after a lawful item the pair is begun
pub begun_now : (t : Terms) (a : ℕ) (k : Key) (i : HistItem) (m : HistMoment) → subscribed a k m ≡ true → MayCome t a k i m → is_begun t a k (Gave a k i ∷ m) ≡ true
begun_now t a k i m sub c =
    and_from (subscribed a k (Gave a k i ∷ m)) (standing t a (Gave a k i ∷ m) k).begin_given (subscribed-gave a k a k i m ∙ sub) (rw (self_pair a k) (go (is_begin i.event) refl))
  where
    go : (b : Bool) → is_begin i.event ≡ b → (is_begin i.event || (standing t a m k).begin_given) ≡ true
    go true q = rw q refl
    go false q = at (cases_Bool (is_begun t a k m))
      where
        at : (is_begun t a k m ≡ true) ⊎ (is_begun t a k m ≡ false) → (is_begin i.event || (standing t a m k).begin_given) ≡ true
        at (inl y) = rw (q, (and_parts (subscribed a k m) (standing t a m k).begin_given y).1) refl
        at (inr n) = rw (c.begin_first n) refl

-- an item of number n that shows a commit
stands_now : (t : Terms) (a : ℕ) (k : Key) (s : Shown) (i : HistItem) (m : HistMoment) → Lawful t (Gave a k i ∷ m) → MayCome t a k i m
    → (n : ℕ) → i.at ≡ Some n → ShowsCommit t a k n s m (Gave a k i ∷ m) → given a k (Gave a k i ∷ m) ≡ i ∷ given a k m
    → (l : ℕ) (c : Commit) → limit_of a k m ≡ Some l → last t.base k m ≡ Some c → ShowsOne t a k s (Gave a k i ∷ m)
stands_now t a k s i m w may n at_is sc same l c hl hc =
    let g = begun t a k (Gave a k i ∷ m) w (begun_now t a k i m (is_subscribed a k m ∙ ap is_some hl) may) in
    let last_m : last t.base k m ≡ Some g.last_c = (only_if (wanted k (Gave a k i ∷ m)) (last t.base k m) g.last_c g.last_is).1 in
    let le : g.begin_c.number ≤ n = subst (λ (o : Option Commit). IfSome o (λ c. c.number ≤ n)) g.begin_is sc.since_begin in
    let fl : sc.commit_n.shown.floor ≡ g.last_c.shown.floor = g.flat n sc.commit_n sc.is_commit le in
    let fi : option_map (λ (f : AgentFloor). f.index) (floor_for l g.last_c.shown) ≡ Some s.floor = floor_at (limit_of a k m) (last t.base k m) l g.last_c s.floor hl last_m sc.floor_is in
    let ab = above_both l g.last_c.shown s.floor fi in
    record {
      n = n;
      commit_n = sc.commit_n;
      limit_then = l;
      number_is = rw same at_is;
      is_commit = sc.is_commit;
      map_is = sc.map_is;
      above_source = let q : g.last_c.shown.floor ≤ s.floor = ab.1 in omega (arith, fl, q);
      limit_is = sym g.same_limit ∙ limit_now ∙ hl;
      above_limit = ab.0;
      none_above = rw same (none_above_self n i (given a k m) at_is sc.none_above);
    }
  where
    limit_now : limit_of a k (Gave a k i ∷ m) ≡ limit_of a k m
    limit_now = limit_given a k a k i m

-- an item after which what was given shows whole
gave_whole : (t : Terms) (a : ℕ) (k : Key) (s : Shown) (i : HistItem) (m : HistMoment) → Lawful t (Gave a k i ∷ m) → shown (events (given a k (Gave a k i ∷ m))) ≡ Some s → ShowsOne t a k s (Gave a k i ∷ m)
gave_whole t a k s i m w h =
    let same : given a k (Gave a k i ∷ m) ≡ i ∷ given a k m = given_now a k i m in
    let nf : NumberFits t a k i m (Some s) = subst (λ (o : Option Shown). NumberFits t a k i m o) h w.0.number_fits in
    let f = meets (limit_of a k m) (last t.base k m) w.0.may_come.fits in
    stands_now t a k s i m w w.0.may_come nf.0 nf.1 nf.2 same f.0 f.1 f.2 f.3

pub history : (t : Terms) (m : HistMoment) → Lawful t m → (a : ℕ) (k : Key) (s : Shown) → shown (events (given a k m)) ≡ Some s → ShowsOne t a k s m
history t [] w a k s h = cc h
history t (act ∷ m) w a k s h = go (cases_Bool (gives a k act)) (history t m (lawful_before t act m w) a k s)
  where
    go : (gives a k act ≡ true) ⊎ (gives a k act ≡ false) → (shown (events (given a k m)) ≡ Some s → ShowsOne t a k s m) → ShowsOne t a k s (act ∷ m)
    go (inl g) ih =
        let i = gives_gave a k act g in
        subst (λ (x : HistAct). Lawful t (x ∷ m) → shown (events (given a k (x ∷ m))) ≡ Some s → ShowsOne t a k s (x ∷ m)) (sym i.1)
        (λ w h. gave_whole t a k s i.0 m w h) w h
    go (inr n) ih =
        let same = given_stays a k act m n in
        stays t a k s act m same (no_gift_no_begin a k act n) (ih (ap (λ (is : List HistItem). shown (events is)) (sym same) ∙ h))
