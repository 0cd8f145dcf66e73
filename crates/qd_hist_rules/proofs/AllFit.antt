-- While a pair is begun, the shares after each commit since its BEGIN can be given where that commit is shown.
use Rattle.std.proofs.Common.{◌≡◌, ℕ, suc, ◌≤◌, true, false, ◌==◌, List, [], ◌∷◌, ◌++◌, reverse, refl, sym, ◌∙◌, ap, arith, Option, Some, None, inl, inr, subst}
use Rattle.std.specs.Prelude.{is_some, option_map, option_to_list, flat_map, filter, find, nat_lt, ◌⊎◌}
use Rattle.std.proofs.Math.Path.{fun_ext}
use Rattle.std.proofs.lemmas.Bool.{cases_Bool, eqb-true, eq-eqb, and_parts, le-ltb}
use Rattle.qd_scheme.specs.declared.key.Key.{Key}
use Rattle.qd_scheme.specs.declared.key.Event.{Event}
use Rattle.qd_flags.specs.Shown.{Map, shown, cut, or_else, has_begin, events_of}
use Rattle.qd_flags.specs.Following.{over}
use Rattle.qd_flags.proofs.Updates.{map_by_events, cut_over}
use Rattle.qd_flags.proofs.Feeding.{if_true, if_false}
use Rattle.qd_gate.specs.declared.machine.Terms.{Terms}
use Rattle.qd_sub.specs.Acts.{Came, Gave}
use Rattle.qd_sub.specs.Subscriptions.{limit_of, subscribed, wanted}
use Rattle.qd_sub.proofs.SubscriptionLaws.{wanted-subscribed}
use Rattle.qd_hist_rules.specs.declared.item.HistItem.{HistItem}
use Rattle.qd_hist_rules.specs.Moments.{HistAct, HistMoment, begins}
use Rattle.qd_hist_rules.specs.Source.{source, Commit, made, commits, commit, last, count, is_snapshot}
use Rattle.qd_hist_rules.specs.declared.floor.AgentFloor.{AgentFloor}
use Rattle.qd_hist_rules.specs.Agent.{meet, agent_floor, begin_moment, share, share_from, above, passed_all, numbered, shares_after, with_items}
use Rattle.qd_hist_rules.specs.Standing.{is_snapshot_commit, is_begun}
use Rattle.qd_hist_rules.specs.Lawful.{Lawful}
use Rattle.qd_hist_rules.proofs.ActFacts.{is_subscribed, limit_given, begins_gave, lawful_before, source_came}
use Rattle.qd_hist_rules.proofs.Numbers.{made_facts, made_came, count_now, count_rises, commit_within, last_is_newest, last_place, NoneBeyond, none_beyond, none_beyond_more, only_if}
use Rattle.qd_hist_rules.proofs.Begun.{Before, before, meets, last_quiet, last_made, begin_stays, begin_now}
use Rattle.qd_hist_rules.proofs.OneLog.{above_both}
use Rattle.qd_hist_rules.proofs.Shares.{floor_stays, shares_grow, shares_stay}
use Rattle.qd_hist_rules.proofs.Serve.{low_after, Fits, fits_append, run_append, low_append, fits_stay, whole_share}

-- the shares after commit n, which is d, where c is the last commit
pub record From (base a : ℕ) (k : Key) (f : ℕ) (m : HistMoment) (n : ℕ) (d c : Commit) : Type 0 where
  pub fits : Fits base k f m n (cut f d.shown.map) (shares_after base a k m n)
  pub run_is : with_items f (cut f d.shown.map) (shares_after base a k m n) ≡ cut f c.shown.map
  pub low_is : low_after n (shares_after base a k m n) ≤ count base m

pub record AllFit (t : Terms) (a : ℕ) (k : Key) (m : HistMoment) : Type 0 where
  pub begin_c : Commit
  pub last_c : Commit
  pub floor : AgentFloor
  pub begin_is : last t.base k (begin_moment a k m) ≡ Some begin_c
  pub last_is : last t.base k m ≡ Some last_c
  pub floor_is : agent_floor t.base a k m ≡ Some floor
  pub all : (n : ℕ) (d : Commit) → commit t.base k n m ≡ Some d → begin_c.number ≤ n → From t.base a k floor.index m n d last_c

number_or : Option Commit → ℕ
number_or None = 0
number_or (Some c) = c.number

-- no commit of the key has a greater number than its last one
pub none_after_last : (base : ℕ) (k : Key) (m : HistMoment) (c : Commit) → last base k m ≡ Some c → NoneBeyond c.number (commits base k m)
unfolding number_or
none_after_last base k [] c h = cc h
none_after_last base k (act ∷ m) c h = go (made base k (act ∷ m)) refl (only_if (wanted k (act ∷ m)) (or_else (made base k (act ∷ m)) (last base k m)) c h).1 (none_after_last base k m c)
  where
    go : (o : Option Commit) → made base k (act ∷ m) ≡ o → or_else o (last base k m) ≡ Some c → (last base k m ≡ Some c → NoneBeyond c.number (commits base k m)) → NoneBeyond c.number (option_to_list o ++ commits base k m)
    go None e h ih = ih h
    go (Some x) e h ih =
        let f = made_facts base k (act ∷ m) x e in
        let s : x.number ≡ c.number = ap (λ (o : Option Commit). number_or o) h in
        (omega (arith, s), none_beyond_more (count base m) c.number (commits base k m) (omega (arith, s, f.number_is, count_now base act m f.is_now)) (none_beyond base k m))

pub filter_none : (n : ℕ) (cs : List Commit) → NoneBeyond n cs → filter (λ (c : Commit). nat_lt n c.number) cs ≡ []
filter_none n [] w = refl
filter_none n (c ∷ cs) w = rw (le-ltb n c.number w.0) (filter_none n cs w.1)

-- after the last commit there is no share
pub from_last : (base a : ℕ) (k : Key) (f : ℕ) (m : HistMoment) (n : ℕ) (d c : Commit) → last base k m ≡ Some c → commit base k n m ≡ Some d → c.number ≤ n → From base a k f m n d c
from_last base a k f m n d c l h le =
    let s : d ≡ c = last_is_newest base k n m c d l h le in
    let w = commit_within base k n m d h in
    let e : c.number ≡ n = ap (λ (c : Commit). c.number) (sym s) ∙ w.1 in
    let none : NoneBeyond n (commits base k m) = subst (λ (x : ℕ). NoneBeyond x (commits base k m)) e (none_after_last base k m c l) in
    let z : shares_after base a k m n ≡ [] = ap (λ (cs : List Commit). reverse (flat_map (λ (c : Commit). numbered c.number (share base a k m c)) cs)) (filter_none n (commits base k m) none) in
    record {
      fits = subst (λ (xs : List HistItem). Fits base k f m n (cut f d.shown.map) xs) (sym z) tt;
      run_is = ap (λ (xs : List HistItem). with_items f (cut f d.shown.map) xs) z ∙ ap (λ (c : Commit). cut f c.shown.map) s;
      low_is = let q : low_after n (shares_after base a k m n) ≡ n = ap (λ (xs : List HistItem). low_after n xs) z in omega (arith, q, w.0);
    }

-- an act that makes no commit of the key and leaves the limit leaves the floor
pub floor_quiet : (base a : ℕ) (k : Key) (act : HistAct) (m : HistMoment) → made base k (act ∷ m) ≡ None → limit_of a k (act ∷ m) ≡ limit_of a k m → wanted k (act ∷ m) ≡ true → agent_floor base a k (act ∷ m) ≡ agent_floor base a k m
floor_quiet base a k act m nm same w =
    ap (λ (o : Option ℕ). meet o (last base k (act ∷ m))) same ∙ ap (λ (o : Option Commit). meet (limit_of a k m) o) (last_quiet base k act m nm w)

-- an act that makes no commit of the key, gives no BEGIN and leaves the limit
quiet : (t : Terms) (a : ℕ) (k : Key) (act : HistAct) (m : HistMoment) → begins a k act ≡ false → made t.base k (act ∷ m) ≡ None → limit_of a k (act ∷ m) ≡ limit_of a k m
    → wanted k (act ∷ m) ≡ true → AllFit t a k m → AllFit t a k (act ∷ m)
quiet t a k act m nb nm same w g =
    let fl = floor_quiet t.base a k act m nm same w in
    record {
      begin_c = g.begin_c;
      last_c = g.last_c;
      floor = g.floor;
      begin_is = ap (λ (x : HistMoment). last t.base k x) (begin_stays a k act m nb) ∙ g.begin_is;
      last_is = last_quiet t.base k act m nm w ∙ g.last_is;
      floor_is = fl ∙ g.floor_is;
      all = λ n d h le. from n d (g.all n d (rw nm at h) le) fl;
    }
  where
    from : (n : ℕ) (d : Commit) → From t.base a k g.floor.index m n d g.last_c → agent_floor t.base a k (act ∷ m) ≡ agent_floor t.base a k m → From t.base a k g.floor.index (act ∷ m) n d g.last_c
    from n d x fl =
        let s = shares_stay t.base a k n act m nm fl in
        record {
          fits = subst (λ (xs : List HistItem). Fits t.base k g.floor.index (act ∷ m) n (cut g.floor.index d.shown.map) xs) (sym s) (fits_stay t.base k g.floor.index act m n (cut g.floor.index d.shown.map) (shares_after t.base a k m n) x.fits);
          run_is = ap (λ (xs : List HistItem). with_items g.floor.index (cut g.floor.index d.shown.map) xs) s ∙ x.run_is;
          low_is = let q = ap (λ (xs : List HistItem). low_after n xs) s in let y : low_after n (shares_after t.base a k m n) ≤ count t.base m = x.low_is in omega (arith, q, y, count_rises t.base act m);
        }

some_floor : (o : Option AgentFloor) → is_some o ≡ true → (x : AgentFloor) × (o ≡ Some x)
some_floor None h = cc h
some_floor (Some x) h = (x, refl)

-- a BEGIN that may come
begin_fit : (t : Terms) (a : ℕ) (k : Key) (i : HistItem) (m : HistMoment) → is_some (agent_floor t.base a k m) ≡ true → begins a k (Gave a k i) ≡ true → AllFit t a k (Gave a k i ∷ m)
begin_fit t a k i m f g =
    let (l, c, hl, hc) = meets (limit_of a k m) (last t.base k m) f in
    let w : wanted k (Gave a k i ∷ m) ≡ true = wanted-subscribed a k (Gave a k i ∷ m) (is_subscribed a k (Gave a k i ∷ m) ∙ ap is_some (limit_given a k a k i m ∙ hl)) in
    let ls : last t.base k (Gave a k i ∷ m) ≡ Some c = last_quiet t.base k (Gave a k i) m refl w ∙ hc in
    let fl = some_floor (agent_floor t.base a k m) f in
    record {
      begin_c = c;
      last_c = c;
      floor = fl.0;
      begin_is = ap (λ (x : HistMoment). last t.base k x) (begin_now a k (Gave a k i) m g) ∙ ls;
      last_is = ls;
      floor_is = floor_quiet t.base a k (Gave a k i) m refl (limit_given a k a k i m) w ∙ fl.1;
      all = λ n d h le. from_last t.base a k fl.0.index (Gave a k i ∷ m) n d c ls h le;
    }

-- the source's floor is not above the agent's
pub source_below : (o : Option ℕ) (p : Option Commit) (c : Commit) (f : AgentFloor) → p ≡ Some c → meet o p ≡ Some f → c.shown.floor ≤ f.index
source_below None p c f hp h = cc h
source_below (Some l) p c f hp h =
    let x : meet (Some l) (Some c) ≡ Some f = ap (λ (p : Option Commit). meet (Some l) p) (sym hp) ∙ h in
    (above_both l c.shown f.index (ap (λ (o : Option AgentFloor). option_map (λ (f : AgentFloor). f.index) o) x)).1

-- the map of a commit that is no snapshot, from the one before and its events
pub map_of_made : (base : ℕ) (k : Key) (e : Event) (m : HistMoment) (x c : Commit) → wanted k m ≡ true → made base k (Came k e ∷ m) ≡ Some x → last base k m ≡ Some c → is_snapshot x ≡ false
    → (q : ℕ) → x.shown.map q ≡ over c.shown.floor x.events c.shown.map q
map_of_made base k e m x c w h l n q =
    let g = made_facts base k (Came k e ∷ m) x h in
    let es : source k (Came k e ∷ m) ≡ e ∷ source k m = source_came k e m w in
    let shows : shown (e ∷ source k m) ≡ Some x.shown = ap (λ (xs : List Event). shown xs) (sym es) ∙ g.shown_is in
    let ev : x.events ≡ events_of (e ∷ source k m) = g.events_is ∙ ap events_of es in
    let new : has_begin (events_of (e ∷ source k m)) ≡ false = sym (ap has_begin ev) ∙ n in
    map_by_events e (source k m) x.shown c.shown shows (last_place base k m c l) new q ∙ sym (ap (λ (xs : List Event). over c.shown.floor xs c.shown.map q) ev)

-- the same, cut at an agent's floor, from its share
pub next_map : (base : ℕ) (k : Key) (e : Event) (m : HistMoment) (x c : Commit) (f : AgentFloor) → wanted k m ≡ true → made base k (Came k e ∷ m) ≡ Some x → last base k m ≡ Some c → is_snapshot x ≡ false → c.shown.floor ≤ f.index
    → over f.index (above f.index x) (cut f.index c.shown.map) ≡ cut f.index x.shown.map
next_map base k e m x c f w h l n le =
    fun_ext (λ (q : ℕ). cut_over c.shown.floor f.index x.events c.shown.map le q)
    ∙ ap (λ (y : Map). cut f.index y) (sym (fun_ext (λ (q : ℕ). map_of_made base k e m x c w h l n q)))

pub found_now : (base : ℕ) (k : Key) (act : HistAct) (m : HistMoment) (x : Commit) → made base k (act ∷ m) ≡ Some x → commit base k x.number (act ∷ m) ≡ Some x
found_now base k act m x q =
    ap (λ (o : Option Commit). find (λ (c : Commit). c.number == x.number) (option_to_list o ++ commits base k m)) q
    ∙ if_true (x.number == x.number) (Some x) (commit base k x.number m) (eq-eqb x.number x.number refl)

put_fit : (t : Terms) (a : ℕ) (k : Key) (e : Event) (m : HistMoment) (x : Commit) → wanted k m ≡ true → wanted k (Came k e ∷ m) ≡ true → AllFit t a k m → made t.base k (Came k e ∷ m) ≡ Some x → is_snapshot x ≡ false → AllFit t a k (Came k e ∷ m)
put_fit t a k e m x w v g q s =
    let fl = floor_stays t.base a k e m x g.last_c w v q g.last_is s in
    let ls : last t.base k (Came k e ∷ m) ≡ Some x = last_made t.base k (Came k e) m x q v in
    record {
      begin_c = g.begin_c;
      last_c = x;
      floor = g.floor;
      begin_is = g.begin_is;
      last_is = ls;
      floor_is = fl ∙ g.floor_is;
      all = λ n d h le. at n d le ls fl (cases_Bool (x.number == n)) h;
    }
  where
    below : g.last_c.shown.floor ≤ g.floor.index
    below = source_below (limit_of a k m) (last t.base k m) g.last_c g.floor g.last_is g.floor_is

    next : over g.floor.index (above g.floor.index x) (cut g.floor.index g.last_c.shown.map) ≡ cut g.floor.index x.shown.map
    next = next_map t.base k e m x g.last_c g.floor w q g.last_is s below

    found : commit t.base k x.number (Came k e ∷ m) ≡ Some x
    found = found_now t.base k (Came k e) m x q

    older : (n : ℕ) (d : Commit) → (x.number == n) ≡ false → commit t.base k n (Came k e ∷ m) ≡ Some d → commit t.base k n m ≡ Some d
    older n d y h = sym (if_false (x.number == n) (Some x) (commit t.base k n m) y)
        ∙ sym (ap (λ (o : Option Commit). find (λ (c : Commit). c.number == n) (option_to_list o ++ commits t.base k m)) q) ∙ h

    grown : (n : ℕ) (d : Commit) → agent_floor t.base a k (Came k e ∷ m) ≡ agent_floor t.base a k m → From t.base a k g.floor.index m n d g.last_c → commit t.base k n m ≡ Some d → From t.base a k g.floor.index (Came k e ∷ m) n d x
    grown n d fl r hd =
        let F = g.floor.index in
        let S = shares_after t.base a k m n in
        let us = above g.floor.index x in
        let cur = cut g.floor.index d.shown.map in
        let hw : n ≤ count t.base m = (commit_within t.base k n m d hd).0 in
        let f = made_facts t.base k (Came k e ∷ m) x q in
        let cn : count t.base (Came k e ∷ m) ≡ suc (count t.base m) = count_now t.base (Came k e) m f.is_now in
        let lo : low_after n S ≤ count t.base m = r.low_is in
        let total : shares_after t.base a k (Came k e ∷ m) n ≡ S ++ reverse (numbered x.number (passed_all us)) =
        shares_grow t.base a k n e m x q fl hw ∙ ap (λ (o : Option AgentFloor). S ++ reverse (numbered x.number (share_from o x))) g.floor_is in
        let shown_x : over F us (with_items F cur S) ≡ cut F x.shown.map = ap (λ (y : Map). over F us y) r.run_is ∙ next in
        let W = whole_share t.base k F (Came k e ∷ m) (low_after n S) x.number (with_items F cur S) us x found (omega (arith, lo, f.number_is, cn)) shown_x in
        record {
          fits = subst (λ (xs : List HistItem). Fits t.base k F (Came k e ∷ m) n cur xs) (sym total)
              (fits_append t.base k F (Came k e ∷ m) n cur S (reverse (numbered x.number (passed_all us))) (fits_stay t.base k F (Came k e) m n cur S r.fits) W.fits);
          run_is = ap (λ (xs : List HistItem). with_items F cur xs) total ∙ run_append F cur S (reverse (numbered x.number (passed_all us))) ∙ W.run_is ∙ shown_x;
          low_is =
              let z : low_after n (shares_after t.base a k (Came k e ∷ m) n) ≡ low_after (low_after n S) (reverse (numbered x.number (passed_all us))) =
              ap (λ (xs : List HistItem). low_after n xs) total ∙ low_append n S (reverse (numbered x.number (passed_all us))) in
              let y = W.low_is (count t.base (Came k e ∷ m)) (omega (arith, lo, cn)) (omega (arith, f.number_is)) in
              omega (arith, z, y);
        }

    at : (n : ℕ) (d : Commit) → g.begin_c.number ≤ n → last t.base k (Came k e ∷ m) ≡ Some x → agent_floor t.base a k (Came k e ∷ m) ≡ agent_floor t.base a k m
        → ((x.number == n) ≡ true) ⊎ ((x.number == n) ≡ false) → commit t.base k n (Came k e ∷ m) ≡ Some d → From t.base a k g.floor.index (Came k e ∷ m) n d x
    at n d le ls fl (inl y) h = let z : x.number ≡ n = eqb-true x.number n y in from_last t.base a k g.floor.index (Came k e ∷ m) n d x ls h (omega (arith, z))
    at n d le ls fl (inr y) h = grown n d fl (g.all n d (older n d y h) le) (older n d y h)

pub all_fit : (t : Terms) (a : ℕ) (k : Key) (m : HistMoment) → Lawful t m → is_begun t a k m ≡ true → AllFit t a k m
all_fit t a k [] w h = cc (and_parts (subscribed a k []) false h).1
all_fit t a k (act ∷ m) w h = go (cases_Bool (begins a k act)) (all_fit t a k m (lawful_before t act m w))
  where
    first : (i : HistItem) → act ≡ Gave a k i → begins a k act ≡ true → AllFit t a k (act ∷ m)
    first i q g =
        subst (λ (x : HistAct). begins a k x ≡ true → Lawful t (x ∷ m) → AllFit t a k (x ∷ m)) (sym q)
        (λ (g : begins a k (Gave a k i) ≡ true) (w : Lawful t (Gave a k i ∷ m)). begin_fit t a k i m w.0.may_come.fits g) g w

    later : Before t a k act m → begins a k act ≡ false → (o : Option Commit) → made t.base k (act ∷ m) ≡ o → is_snapshot_commit o ≡ false → AllFit t a k m → AllFit t a k (act ∷ m)
    later b nb None q s g = quiet t a k act m nb q b.same_limit b.wanted_is g
    later b nb (Some d) q s g =
        let c = made_came t.base k act m d q in
        subst (λ (x : HistAct). wanted k (x ∷ m) ≡ true → made t.base k (x ∷ m) ≡ Some d → AllFit t a k (x ∷ m)) (sym c.1)
        (λ v q. put_fit t a k c.0 m d c.2 v g q s) b.wanted_is q

    go : (begins a k act ≡ true) ⊎ (begins a k act ≡ false) → (is_begun t a k m ≡ true → AllFit t a k m) → AllFit t a k (act ∷ m)
    go (inl g) ih = let i = begins_gave a k act g in first i.0 i.1 g
    go (inr nb) ih = let b = before t a k act m h nb in later b nb (made t.base k (act ∷ m)) refl b.no_snapshot (ih b.begun_is)
