-- While a snapshot that was begun goes on, and after its end, the floor of the source and the limit stay.
use Rattle.std.proofs.Common.{◌≡◌, ℕ, ◌≤◌, Bool, true, false, not, ◌&&◌, ◌||◌, ◌==◌, List, [], ◌∷◌, refl, sym, ◌∙◌, ap, cond, Option, Some, None, inl, inr, subst}
use Rattle.std.specs.Prelude.{is_some, ◌⊎◌}
use Rattle.std.proofs.lemmas.Bool.{cases_Bool, and_parts, and_from}
use Rattle.qd_scheme.specs.declared.key.Key.{Key}
use Rattle.qd_scheme.specs.declared.key.Event.{Event}
use Rattle.qd_flags.specs.Shown.{events_of, shown, has_begin, or_else}
use Rattle.qd_flags.proofs.Places.{same_floor}
use Rattle.qd_flags.proofs.Feeding.{if_true, if_false}
use Rattle.qd_gate.specs.declared.machine.Terms.{Terms}
use Rattle.qd_sub.specs.Acts.{Came, Gave}
use Rattle.qd_sub.specs.Subscriptions.{limit_of, subscribed, wanted}
use Rattle.qd_sub.proofs.SubscriptionLaws.{wanted-subscribed}
use Rattle.qd_hist_rules.specs.declared.item.HistItem.{HistItem}
use Rattle.qd_hist_rules.specs.Moments.{HistAct, HistMoment, begins, subscribes}
use Rattle.qd_hist_rules.specs.Source.{source, Commit, made, commit, last}
use Rattle.qd_hist_rules.specs.Agent.{begin_moment, agent_floor, meet}
use Rattle.qd_hist_rules.specs.Standing.{restarts, overflows_by, all_settled, is_snapshot_commit, standing, is_begun}
use Rattle.qd_hist_rules.specs.Lawful.{Lawful}
use Rattle.qd_hist_rules.proofs.ActFacts.{is_subscribed, limit_stays, limit_given, begins_gave, lawful_before, source_came}
use Rattle.qd_hist_rules.proofs.Numbers.{made_facts, made_came, last_is_newest, last_place}

-- what holds of a pair that is begun
pub record Begun (t : Terms) (a : ℕ) (k : Key) (m : HistMoment) : Type 0 where
  pub last_c : Commit
  pub begin_c : Commit
  pub last_is : last t.base k m ≡ Some last_c
  pub begin_is : last t.base k (begin_moment a k m) ≡ Some begin_c
  pub flat : (n : ℕ) (d : Commit) → commit t.base k n m ≡ Some d → begin_c.number ≤ n → d.shown.floor ≡ last_c.shown.floor
  pub same_limit : limit_of a k m ≡ limit_of a k (begin_moment a k m)

pub last_quiet : (base : ℕ) (k : Key) (act : HistAct) (m : HistMoment) → made base k (act ∷ m) ≡ None → wanted k (act ∷ m) ≡ true → last base k (act ∷ m) ≡ last base k m
last_quiet base k act m n w = if_true (wanted k (act ∷ m)) (or_else (made base k (act ∷ m)) (last base k m)) None w ∙ ap (λ (o : Option Commit). or_else o (last base k m)) n

pub last_made : (base : ℕ) (k : Key) (act : HistAct) (m : HistMoment) (d : Commit) → made base k (act ∷ m) ≡ Some d → wanted k (act ∷ m) ≡ true → last base k (act ∷ m) ≡ Some d
last_made base k act m d n w = if_true (wanted k (act ∷ m)) (or_else (made base k (act ∷ m)) (last base k m)) None w ∙ ap (λ (o : Option Commit). or_else o (last base k m)) n

-- an act that gives no BEGIN leaves the moment of the last BEGIN
pub begin_stays : (a : ℕ) (k : Key) (act : HistAct) (m : HistMoment) → begins a k act ≡ false → begin_moment a k (act ∷ m) ≡ begin_moment a k m
begin_stays a k act m h = if_false (begins a k act) (act ∷ m) (begin_moment a k m) h

pub begin_now : (a : ℕ) (k : Key) (act : HistAct) (m : HistMoment) → begins a k act ≡ true → begin_moment a k (act ∷ m) ≡ act ∷ m
begin_now a k act m h = if_true (begins a k act) (act ∷ m) (begin_moment a k m) h

-- an act that makes no commit of the key, gives no BEGIN and leaves the limit
quiet : (t : Terms) (a : ℕ) (k : Key) (act : HistAct) (m : HistMoment) → begins a k act ≡ false → made t.base k (act ∷ m) ≡ None → limit_of a k (act ∷ m) ≡ limit_of a k m
    → wanted k (act ∷ m) ≡ true → Begun t a k m → Begun t a k (act ∷ m)
quiet t a k act m nb nm same w g = record {
  last_c = g.last_c;
  begin_c = g.begin_c;
  last_is = last_quiet t.base k act m nm w ∙ g.last_is;
  begin_is = ap (λ (x : HistMoment). last t.base k x) (begin_stays a k act m nb) ∙ g.begin_is;
  flat = λ n d h le. g.flat n d (rw nm at h) le;
  same_limit = same ∙ g.same_limit ∙ sym (ap (λ (x : HistMoment). limit_of a k x) (begin_stays a k act m nb));
}

pub meets : (o : Option ℕ) (p : Option Commit) → is_some (meet o p) ≡ true → (l : ℕ) × (c : Commit) × (o ≡ Some l) × (p ≡ Some c)
meets None p h = cc h
meets (Some l) None h = cc h
meets (Some l) (Some c) h = (l, c, refl, refl)

keeps : (b r g : Bool) → (b || (not r && g)) ≡ true → b ≡ false → (r ≡ false) × (g ≡ true)
keeps true r g h e = cc e
keeps false true g h e = cc h
keeps false false g h e = (refl, h)

no_restart : (x y z : Bool) → (x || y || z) ≡ false → (x ≡ false) × (y ≡ false)
no_restart true y z h = cc h
no_restart false true z h = cc h
no_restart false false z h = (refl, refl)

-- what a pair that is begun after the act, which gives no BEGIN, was before
pub record Before (t : Terms) (a : ℕ) (k : Key) (act : HistAct) (m : HistMoment) : Type 0 where
  pub subscribed_is : subscribed a k (act ∷ m) ≡ true
  pub wanted_is : wanted k (act ∷ m) ≡ true
  pub same_limit : limit_of a k (act ∷ m) ≡ limit_of a k m
  pub begun_is : is_begun t a k m ≡ true
  pub no_snapshot : is_snapshot_commit (made t.base k (act ∷ m)) ≡ false

pub before : (t : Terms) (a : ℕ) (k : Key) (act : HistAct) (m : HistMoment) → is_begun t a k (act ∷ m) ≡ true → begins a k act ≡ false → Before t a k act m
before t a k act m h nb =
    let p = and_parts (subscribed a k (act ∷ m)) (standing t a (act ∷ m) k).begin_given h in
    let q = keeps (begins a k act) (restarts (standing t a m) t a k act m) (standing t a m k).begin_given p.1 nb in
    let r = no_restart (subscribes a k act) (is_snapshot_commit (made t.base k (act ∷ m))) (overflows_by (standing t a m) t a k m (made t.base k (act ∷ m)) && all_settled (standing t a m) a m) q.0 in
    let same = limit_stays a k act m r.0 p.0 in
    let sub : subscribed a k m ≡ true = is_subscribed a k m ∙ ap is_some (sym same) ∙ sym (is_subscribed a k (act ∷ m)) ∙ p.0 in
    record {
      subscribed_is = p.0;
      wanted_is = wanted-subscribed a k (act ∷ m) p.0;
      same_limit = same;
      begun_is = and_from (subscribed a k m) (standing t a m k).begin_given sub q.1;
      no_snapshot = r.1;
    }

-- a BEGIN that may come
begin_given : (t : Terms) (a : ℕ) (k : Key) (i : HistItem) (m : HistMoment) → is_some (agent_floor t.base a k m) ≡ true → begins a k (Gave a k i) ≡ true → Begun t a k (Gave a k i ∷ m)
begin_given t a k i m f g =
    let (l, c, hl, hc) = meets (limit_of a k m) (last t.base k m) f in
    let w : wanted k (Gave a k i ∷ m) ≡ true = wanted-subscribed a k (Gave a k i ∷ m) (is_subscribed a k (Gave a k i ∷ m) ∙ ap is_some (limit_given a k a k i m ∙ hl)) in
    let ls = last_quiet t.base k (Gave a k i) m refl w ∙ hc in
    let bm = begin_now a k (Gave a k i) m g in
    record {
      last_c = c;
      begin_c = c;
      last_is = ls;
      begin_is = ap (λ (x : HistMoment). last t.base k x) bm ∙ ls;
      flat = λ n d h le. ap (λ (c : Commit). c.shown.floor) (last_is_newest t.base k n m c d hc h le);
      same_limit = ap (λ (x : HistMoment). limit_of a k x) (sym bm);
    }

abbrev floor_or : Option Commit → ℕ
floor_or None = 0
floor_or (Some c) = c.shown.floor

-- a commit that is no snapshot commit has the floor of the one before it
pub floor_of_made : (t : Terms) (k : Key) (e : Event) (m : HistMoment) (c d : Commit) → wanted k m ≡ true → made t.base k (Came k e ∷ m) ≡ Some d → last t.base k m ≡ Some c
    → is_snapshot_commit (Some d) ≡ false → d.shown.floor ≡ c.shown.floor
floor_of_made t k e m c d w q l s =
    let f = made_facts t.base k (Came k e ∷ m) d q in
    let es = source_came k e m w in
    let shows : shown (e ∷ source k m) ≡ Some d.shown = ap (λ (xs : List Event). shown xs) (sym es) ∙ f.shown_is in
    let new : has_begin (events_of (e ∷ source k m)) ≡ false = ap (λ (xs : List Event). has_begin (events_of xs)) (sym es) ∙ sym (ap has_begin f.events_is) ∙ s in
    same_floor e (source k m) d.shown c.shown shows (last_place t.base k m c l) new

-- a commit of the key
put_same : (t : Terms) (a : ℕ) (k : Key) (e : Event) (m : HistMoment) (d : Commit) → wanted k m ≡ true → wanted k (Came k e ∷ m) ≡ true → limit_of a k (Came k e ∷ m) ≡ limit_of a k m
    → Begun t a k m → made t.base k (Came k e ∷ m) ≡ Some d → is_snapshot_commit (Some d) ≡ false → Begun t a k (Came k e ∷ m)
put_same t a k e m d v w same g q s =
    let fl : d.shown.floor ≡ g.last_c.shown.floor = floor_of_made t k e m g.last_c d v q g.last_is s in
    record {
      last_c = d;
      begin_c = g.begin_c;
      last_is = last_made t.base k (Came k e) m d q w;
      begin_is = g.begin_is;
      flat = λ n x h le. at n x le fl (d.number == n) refl (rw q at h);
      same_limit = same ∙ g.same_limit;
    }
  where
    at : (n : ℕ) (x : Commit) → g.begin_c.number ≤ n → d.shown.floor ≡ g.last_c.shown.floor → (b : Bool) → (d.number == n) ≡ b → cond b (Some d) (commit t.base k n m) ≡ Some x → x.shown.floor ≡ d.shown.floor
    at n x le fl true q h = ap (λ (o : Option Commit). floor_or o) (sym h)
    at n x le fl false q h = g.flat n x h le ∙ sym fl

pub begun : (t : Terms) (a : ℕ) (k : Key) (m : HistMoment) → Lawful t m → is_begun t a k m ≡ true → Begun t a k m
begun t a k [] w h = cc (and_parts (subscribed a k []) false h).1
begun t a k (act ∷ m) w h = go (cases_Bool (begins a k act)) (begun t a k m (lawful_before t act m w))
  where
    first : (i : HistItem) → act ≡ Gave a k i → begins a k act ≡ true → Begun t a k (act ∷ m)
    first i q g =
        subst (λ (x : HistAct). begins a k x ≡ true → Lawful t (x ∷ m) → Begun t a k (x ∷ m)) (sym q)
        (λ (g : begins a k (Gave a k i) ≡ true) (w : Lawful t (Gave a k i ∷ m)). begin_given t a k i m w.0.may_come.fits g) g w

    later : Before t a k act m → begins a k act ≡ false → (o : Option Commit) → made t.base k (act ∷ m) ≡ o → is_snapshot_commit o ≡ false → Begun t a k m → Begun t a k (act ∷ m)
    later b nb None q s g = quiet t a k act m nb q b.same_limit b.wanted_is g
    later b nb (Some d) q s g =
        let c = made_came t.base k act m d q in
        subst (λ (x : HistAct). wanted k (x ∷ m) ≡ true → limit_of a k (x ∷ m) ≡ limit_of a k m → made t.base k (x ∷ m) ≡ Some d → Begun t a k (x ∷ m)) (sym c.1)
        (λ w same q. put_same t a k c.0 m d c.2 w same g q s) b.wanted_is b.same_limit q

    go : (begins a k act ≡ true) ⊎ (begins a k act ≡ false) → (is_begun t a k m ≡ true → Begun t a k m) → Begun t a k (act ∷ m)
    go (inl g) ih = let i = begins_gave a k act g in first i.0 i.1 g
    go (inr nb) ih = let b = before t a k act m h nb in later b nb (made t.base k (act ∷ m)) refl b.no_snapshot (ih b.begun_is)
