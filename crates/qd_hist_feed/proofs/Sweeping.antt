-- A feed stands for what happens: acts that concern neither the pair nor the key's commits, and commits.
use Rattle.std.proofs.Common.{◌≡◌, ℕ, ◌<◌, ◌≤◌, Bool, true, false, ◌&&◌, ◌||◌, not, List, [], ◌∷◌, ◌++◌, reverse, length, length-append, drop, refl, sym, ◌∙◌, ap, arith, Option, Some, None, inl, inr, subst}
use Rattle.std.specs.Prelude.{◌⊎◌, is_some, nat_le}
use Rattle.std.proofs.lemmas.Bool.{cases_Bool, and_parts, and_from, le-leb, or_right, or_left}
use Rattle.std.proofs.lemmas.Option.{same_Some}
use Rattle.std.proofs.lemmas.List.{append-nil}
use Rattle.qd_scheme.specs.declared.key.Key.{Key}
use Rattle.qd_scheme.specs.declared.key.Event.{Event}
use Rattle.qd_flags.specs.Shown.{Map, cut, first_end, left_by}
use Rattle.qd_flags.specs.Following.{over}
use Rattle.qd_flags.proofs.Feeding.{if_true}
use Rattle.qd_gate.specs.declared.machine.Terms.{Terms}
use Rattle.qd_sub.specs.Acts.{Came}
use Rattle.qd_sub.specs.Subscriptions.{limit_of, subscribed, wanted}
use Rattle.qd_sub.proofs.SubscriptionLaws.{wanted-subscribed}
use Rattle.qd_hist_rules.specs.declared.floor.AgentFloor.{AgentFloor}
use Rattle.qd_hist_rules.specs.declared.item.HistItem.{HistItem}
use Rattle.qd_hist_rules.specs.Moments.{HistAct, HistMoment, events, gives, subscribes}
use Rattle.qd_hist_rules.specs.Source.{Commit, made, last, count}
use Rattle.qd_hist_rules.specs.Agent as agent
use Rattle.qd_hist_rules.specs.Agent.{agent_floor, begin_moment, since_begin_given, after_end, at_end, snapshot, share_from, share, owed_after, above, numbered, shares_after, shares_since_begin, with_items}
use Rattle.qd_hist_rules.specs.Standing.{standing, is_begun, has_overflowed, restarts, overflows_by, all_settled, is_snapshot_commit}
use Rattle.qd_hist_rules.specs.Lawful.{at_index, Lawful}
use Rattle.qd_hist_rules.specs.Snapshots.{AllAbove}
use Rattle.qd_hist_rules.proofs.ActFacts.{is_subscribed, limit_came, given_stays, no_gift_no_begin}
use Rattle.qd_hist_rules.proofs.Begun.{before, last_quiet, last_made, begin_stays}
use Rattle.qd_hist_rules.proofs.Shares.{shares_stay, shares_grow, floor_stays, owed_grows}
use Rattle.qd_hist_rules.proofs.Serve.{run_append, with_share}
use Rattle.qd_hist_rules.proofs.AllFit.{floor_quiet, next_map, source_below}
use Rattle.qd_hist_rules.proofs.EndedFit.{ended_fit}
use Rattle.qd_hist_rules.proofs.LastCommits.{begin_count}
use Rattle.qd_hist_feed.specs.declared.feed.Stage.{Stage}
use Rattle.qd_hist_feed.specs.declared.feed.Stage.TheVariants.{Waiting, Sweeping, Ended}
use Rattle.qd_hist_feed.specs.Feeding.{Feeding, owed_items, with_commit}
use Rattle.qd_hist_feed.specs.Stands.{AllOwed, Sweeps, StandsBy, StandsFor}
use Rattle.qd_hist_feed.specs.Laws.{IsQuiet, IsUpdate}
use Rattle.qd_hist_feed.proofs.InOrder.{share_items, share_in_order, owed_whole, none_waiting, at_append, owed_fewer, owed_shorter, over_at, owed_shows, owed_more, owed_behind, owed_append, owed_each}

restarts_not : (x y z : Bool) → x ≡ false → y ≡ false → z ≡ false → (x || y || z) ≡ false
restarts_not x y z p q r = ap (λ (b : Bool). b || y || z) p ∙ ap (λ (b : Bool). b || z) q ∙ r

-- such an act does not restart the pair
quiet_restarts : (t : Terms) (a : ℕ) (k : Key) (act : HistAct) (m : HistMoment) → IsQuiet t a k act m → restarts (standing t a m) t a k act m ≡ false
quiet_restarts t a k act m z =
    restarts_not (subscribes a k act) (is_snapshot_commit (made t.base k (act ∷ m))) (overflows_by (standing t a m) t a k m (made t.base k (act ∷ m)) && all_settled (standing t a m) a m) z.no_sub
    (ap is_snapshot_commit z.no_commit) (ap (λ (o : Option Commit). overflows_by (standing t a m) t a k m o && all_settled (standing t a m) a m) z.no_commit)

quiet_begun : (t : Terms) (a : ℕ) (k : Key) (act : HistAct) (m : HistMoment) → IsQuiet t a k act m → is_begun t a k (act ∷ m) ≡ is_begun t a k m
quiet_begun t a k act m z =
    ap (λ (b : Bool). b && (standing t a (act ∷ m) k).begin_given) sub
    ∙ ap (λ (b : Bool). subscribed a k m && (b || (not (restarts (standing t a m) t a k act m) && (standing t a m k).begin_given))) (no_gift_no_begin a k act z.no_gift)
    ∙ ap (λ (b : Bool). subscribed a k m && (not b && (standing t a m k).begin_given)) (quiet_restarts t a k act m z)
  where
    sub : subscribed a k (act ∷ m) ≡ subscribed a k m
    sub = is_subscribed a k (act ∷ m) ∙ ap is_some z.same_limit ∙ sym (is_subscribed a k m)

quiet_overflowed : (t : Terms) (a : ℕ) (k : Key) (act : HistAct) (m : HistMoment) → IsQuiet t a k act m → has_overflowed t a k (act ∷ m) ≡ has_overflowed t a k m
quiet_overflowed t a k act m z =
    ap (λ (o : Option Commit). overflows_by (standing t a m) t a k m o || (not (gives a k act) && (standing t a m k).overflowed)) z.no_commit
    ∙ ap (λ (b : Bool). not b && (standing t a m k).overflowed) z.no_gift

wanted_begun : (t : Terms) (a : ℕ) (k : Key) (m : HistMoment) → is_begun t a k m ≡ true → wanted k m ≡ true
wanted_begun t a k m h = wanted-subscribed a k m (and_parts (subscribed a k m) (standing t a m k).begin_given h).0

sweeps_quiet : (t : Terms) (a : ℕ) (k : Key) (place : ℕ) (owed : List HistItem) (act : HistAct) (m : HistMoment) → IsQuiet t a k act m → Sweeps t a k place owed m → Sweeps t a k place owed (act ∷ m)
sweeps_quiet t a k place owed act m z s =
    let bg = quiet_begun t a k act m z ∙ s.begun in
    let w = wanted_begun t a k (act ∷ m) bg in
    let gv = given_stays a k act m z.no_gift in
    let nb = no_gift_no_begin a k act z.no_gift in
    let fl = floor_quiet t.base a k act m z.no_commit z.same_limit w in
    let sn : snapshot a k (act ∷ m) ≡ snapshot a k m = ap since_begin_given gv in
    let sh : shares_since_begin t.base a k (act ∷ m) ≡ shares_since_begin t.base a k m =
    ap (λ (x : HistMoment). shares_after t.base a k (act ∷ m) (count t.base x)) (begin_stays a k act m nb) ∙ shares_stay t.base a k (count t.base (begin_moment a k m)) act m z.no_commit fl in
    record {
      begun = bg;
      no_end = ap (λ (is : List HistItem). first_end (events is)) sn ∙ s.no_end;
      floor = s.floor;
      floor_is = fl ∙ s.floor_is;
      at_floor = s.at_floor;
      last_c = s.last_c;
      last_is = last_quiet t.base k act m z.no_commit w ∙ s.last_is;
      above = subst (λ (is : List HistItem). AllAbove place is) (sym sn) s.above;
      each = subst (λ (is : List HistItem). AllOwed place is owed) (sym sh) s.each;
      shows = λ q lt. ap (λ (is : List HistItem). with_items s.floor.index (left_by (events is)) owed q) sn ∙ s.shows q lt;
      fewer = let y = ap {B = ℕ} (λ (is : List HistItem). length is) sh in let z = s.fewer in omega (arith, y, z);
      counts = λ q. let x = ap (λ (is : List HistItem). at_index q is) sn in let y = ap (λ (is : List HistItem). at_index q is) sh in let c = s.counts q in omega (arith, x, y, c);
    }

abbrev pub owed_with : ℕ → ℕ → Key → HistMoment → List HistItem → Option ℕ → List HistItem
owed_with base a k m is None = []
owed_with base a k m is (Some n) = drop (length (after_end is)) (shares_after base a k m n)

pub owed_is : (base a : ℕ) (k : Key) (m : HistMoment) (o : Option ℕ) → owed_after base a k m o ≡ owed_with base a k m (snapshot a k m) o
owed_is base a k m None = refl
owed_is base a k m (Some n) = refl

-- what is owed to an ended pair stays
pub owed_quiet : (t : Terms) (a : ℕ) (k : Key) (act : HistAct) (m : HistMoment) → gives a k act ≡ false → made t.base k (act ∷ m) ≡ None → limit_of a k (act ∷ m) ≡ limit_of a k m → is_begun t a k (act ∷ m) ≡ true → agent.owed t.base a k (act ∷ m) ≡ agent.owed t.base a k m
owed_quiet t a k act m ng nm same bg =
    let w = wanted_begun t a k (act ∷ m) bg in
    let fl = floor_quiet t.base a k act m nm same w in
    let sn : snapshot a k (act ∷ m) ≡ snapshot a k m = ap since_begin_given (given_stays a k act m ng) in
    owed_is t.base a k (act ∷ m) (at_end (snapshot a k (act ∷ m)))
    ∙ ap (λ (is : List HistItem). owed_with t.base a k (act ∷ m) is (at_end is)) sn
    ∙ at (at_end (snapshot a k m)) fl ∙ sym (owed_is t.base a k m (at_end (snapshot a k m)))
  where
    at : (o : Option ℕ) → agent_floor t.base a k (act ∷ m) ≡ agent_floor t.base a k m → owed_with t.base a k (act ∷ m) (snapshot a k m) o ≡ owed_with t.base a k m (snapshot a k m) o
    at None fl = refl
    at (Some n) fl = ap (λ (xs : List HistItem). drop (length (after_end (snapshot a k m))) xs) (shares_stay t.base a k n act m nm fl)

or_second : (b c : Bool) → (b || c) ≡ true → b ≡ false → c ≡ true
or_second true c h e = cc e
or_second false c h e = h

-- where a BEGIN may be given, it may be given after any act that gives nothing of the pair
pub waiting_stays : (t : Terms) (a : ℕ) (k : Key) (act : HistAct) (m : HistMoment) → gives a k act ≡ false
    → (not (is_begun t a k m) || has_overflowed t a k m) ≡ true → (not (is_begun t a k (act ∷ m)) || has_overflowed t a k (act ∷ m)) ≡ true
waiting_stays t a k act m ng may = go (cases_Bool (is_begun t a k (act ∷ m)))
  where
    go : (is_begun t a k (act ∷ m) ≡ true) ⊎ (is_begun t a k (act ∷ m) ≡ false) → (not (is_begun t a k (act ∷ m)) || has_overflowed t a k (act ∷ m)) ≡ true
    go (inr n) = or_left (not (is_begun t a k (act ∷ m))) (has_overflowed t a k (act ∷ m)) (ap not n)
    go (inl y) =
        let b = before t a k act m y (no_gift_no_begin a k act ng) in
        let over : has_overflowed t a k m ≡ true = or_second (not (is_begun t a k m)) (has_overflowed t a k m) may (ap not b.begun_is) in
        or_right (not (is_begun t a k (act ∷ m))) (has_overflowed t a k (act ∷ m))
        (or_right (overflows_by (standing t a m) t a k m (made t.base k (act ∷ m))) (not (gives a k act) && (standing t a m k).overflowed)
        (and_from (not (gives a k act)) (standing t a m k).overflowed (ap not ng) over))

-- a feed stands for a quiet act
pub quiet_stands : (t : Terms) (a : ℕ) (k : Key) (s : Feeding) (act : HistAct) (m : HistMoment) → IsQuiet t a k act m → StandsFor t a k s m → StandsFor t a k s (act ∷ m)
quiet_stands t a k s act m z h = go s.stage h
  where
    go : (stage : Stage) → StandsBy stage s.owed t a k m → StandsBy stage s.owed t a k (act ∷ m)
    go Waiting h = (h.0, waiting_stays t a k act m z.no_gift h.1)
    go (Sweeping place) h = sweeps_quiet t a k place s.owed act m z h
    go Ended h =
        let p = and_parts (is_begun t a k m) (is_some (first_end (events (snapshot a k m)))) h.0 in
        let bg = quiet_begun t a k act m z ∙ p.0 in (
          and_from (is_begun t a k (act ∷ m)) (is_some (first_end (events (snapshot a k (act ∷ m))))) bg (ap (λ (is : List HistItem). is_some (first_end (events (since_begin_given is)))) (given_stays a k act m z.no_gift) ∙ p.1),
          h.1 ∙ sym (owed_quiet t a k act m z.no_gift z.no_commit z.same_limit bg),
        )

update_begun : (t : Terms) (a : ℕ) (k : Key) (e : Event) (c : Commit) (m : HistMoment) → IsUpdate t a k e c m → is_begun t a k (Came k e ∷ m) ≡ is_begun t a k m
update_begun t a k e c m u =
    ap (λ (b : Bool). b && (standing t a (Came k e ∷ m) k).begin_given) (is_subscribed a k (Came k e ∷ m) ∙ ap is_some (limit_came a k k e m) ∙ sym (is_subscribed a k m))
    ∙ ap (λ (b : Bool). subscribed a k m && (not b && (standing t a m k).begin_given)) u.goes_on

abbrev pub in_order : AgentFloor → Commit → List HistItem
in_order f c = share_items f.index (Some c.number) (reverse c.events)

pub share_is : (t : Terms) (a : ℕ) (k : Key) (c : Commit) (f : AgentFloor) (m : HistMoment) → agent_floor t.base a k m ≡ Some f → reverse (numbered c.number (share t.base a k m c)) ≡ in_order f c
share_is t a k c f m fl =
    ap (λ (o : Option AgentFloor). reverse (numbered c.number (share_from o c))) fl ∙ sym (share_in_order f.index c.number c.events)

-- the last commit, the floor and the shares after such a commit
record Updated (t : Terms) (a : ℕ) (k : Key) (e : Event) (c r : Commit) (f : AgentFloor) (m : HistMoment) : Type 0 where
  floor_is : agent_floor t.base a k (Came k e ∷ m) ≡ Some f
  last_is : last t.base k (Came k e ∷ m) ≡ Some c
  shares_are : shares_since_begin t.base a k (Came k e ∷ m) ≡ shares_since_begin t.base a k m ++ in_order f c
  map_is : (q : ℕ) → f.index ≤ q → over f.index (above f.index c) r.shown.map q ≡ c.shown.map q

updated : (t : Terms) (a : ℕ) (k : Key) (e : Event) (c r : Commit) (f : AgentFloor) (m : HistMoment) → IsUpdate t a k e c m → last t.base k m ≡ Some r → agent_floor t.base a k m ≡ Some f → Updated t a k e c r f m
updated t a k e c r f m u l fl =
    let stays = floor_stays t.base a k e m c r u.wanted_before u.wanted_after u.made_is l u.no_snapshot in
    let below = source_below (limit_of a k m) (last t.base k m) r f l fl in
    record {
      floor_is = stays ∙ fl;
      last_is = last_made t.base k (Came k e) m c u.made_is u.wanted_after;
      shares_are = shares_grow t.base a k (count t.base (begin_moment a k m)) e m c u.made_is stays (begin_count t.base a k m) ∙ ap (λ (xs : List HistItem). shares_since_begin t.base a k m ++ xs) (share_is t a k c f m fl);
      map_is = λ q le.
          let up : nat_le f.index q ≡ true = le-leb f.index q le in
          over_at f.index (above f.index c) r.shown.map (cut f.index r.shown.map) q (sym (if_true (nat_le f.index q) (r.shown.map q) None up))
          ∙ ap (λ (x : Map). x q) (next_map t.base k e m c r f u.wanted_before u.made_is l u.no_snapshot below)
          ∙ if_true (nat_le f.index q) (c.shown.map q) None up;
    }

sweeps_update : (t : Terms) (a : ℕ) (k : Key) (place : ℕ) (owed : List HistItem) (e : Event) (c : Commit) (m : HistMoment) → IsUpdate t a k e c m → (s : Sweeps t a k place owed m)
    → Sweeps t a k place (owed ++ owed_items (Sweeping place) s.floor.index c.number (reverse c.events)) (Came k e ∷ m)
sweeps_update t a k place owed e c m u s =
    let F = s.floor.index in
    let news = owed_items (Sweeping place) s.floor.index c.number (reverse c.events) in
    let whole = in_order s.floor c in
    let d = updated t a k e c s.last_c s.floor m u s.last_is s.floor_is in
    record {
      begun = update_begun t a k e c m u ∙ s.begun;
      no_end = s.no_end;
      floor = s.floor;
      floor_is = d.floor_is;
      at_floor = s.at_floor;
      last_c = c;
      last_is = d.last_is;
      above = s.above;
      each = subst (λ (xs : List HistItem). AllOwed place xs (owed ++ news)) (sym d.shares_are)
          (owed_append place (shares_since_begin t.base a k m ++ whole) owed news
          (owed_more place (shares_since_begin t.base a k m) whole owed s.each)
          (owed_behind place (shares_since_begin t.base a k m) whole news (owed_each F c.number place (Some c.number) (reverse c.events))));
      shows = λ q lt. shown q lt;
      fewer =
          let x = ap {B = ℕ} (λ (xs : List HistItem). length xs) d.shares_are in
          let y = length-append (shares_since_begin t.base a k m) whole in
          let z = length-append owed news in
          let v = owed_shorter F c.number (Some c.number) (Sweeping place) (reverse c.events) in
          let b = s.fewer in
          omega (arith, x, y, z, v, b);
      counts = λ q.
          let x = ap (λ (xs : List HistItem). at_index q xs) d.shares_are in
          let y = at_append q (shares_since_begin t.base a k m) whole in
          let z = at_append q owed news in
          let v = owed_fewer q F c.number (Some c.number) (Sweeping place) (reverse c.events) in
          let b = s.counts q in
          omega (arith, x, y, z, v, b);
    }
  where
    shown : (q : ℕ) → place < q → with_items s.floor.index (left_by (events (snapshot a k m))) (owed ++ owed_items (Sweeping place) s.floor.index c.number (reverse c.events)) q ≡ c.shown.map q
    shown q lt =
        let F = s.floor.index in
        let start = left_by (events (snapshot a k m)) in
        let d = updated t a k e c s.last_c s.floor m u s.last_is s.floor_is in
        let floor_le : s.floor.index ≤ place = s.at_floor in
        ap (λ (x : Map). x q) (run_append F start owed (owed_items (Sweeping place) F c.number (reverse c.events)))
        ∙ owed_shows F c.number place (Some c.number) (reverse c.events) (with_items F start owed) s.last_c.shown.map q lt (s.shows q lt)
        ∙ ap (λ (xs : List HistItem). with_items F s.last_c.shown.map xs q) (share_in_order F c.number c.events)
        ∙ ap (λ (x : Map). x q) (with_share F c.number s.last_c.shown.map (above F c))
        ∙ d.map_is q (omega (arith, floor_le, lt))

-- after a commit that does not restart the pair
pub update_stands : (t : Terms) (a : ℕ) (k : Key) (s : Feeding) (e : Event) (c : Commit) (f : AgentFloor) (m : HistMoment) → Lawful t m → IsUpdate t a k e c m → agent_floor t.base a k m ≡ Some f
    → StandsFor t a k s m → StandsFor t a k (with_commit s f.index c.number (reverse c.events)) (Came k e ∷ m)
update_stands t a k s e c f m w u fl h = go s.stage h
  where
    go : (stage : Stage) → StandsBy stage s.owed t a k m → StandsBy stage (s.owed ++ owed_items stage f.index c.number (reverse c.events)) t a k (Came k e ∷ m)
    go Waiting h =
        (ap (λ (xs : List HistItem). s.owed ++ xs) (none_waiting f.index c.number (reverse c.events)) ∙ append-nil s.owed ∙ h.0, waiting_stays t a k (Came k e) m refl h.1)
    go (Sweeping place) h =
        let same : h.floor ≡ f = same_Some h.floor f (sym h.floor_is ∙ fl) in
        subst (λ (x : AgentFloor). Sweeps t a k place (s.owed ++ owed_items (Sweeping place) x.index c.number (reverse c.events)) (Came k e ∷ m)) same (sweeps_update t a k place s.owed e c m u h)
    go Ended h =
        let p = and_parts (is_begun t a k m) (is_some (first_end (events (snapshot a k m)))) h.0 in
        let g = ended_fit t a k m w h.0 in
        let stays = floor_stays t.base a k e m c g.last_c u.wanted_before u.wanted_after u.made_is g.last_is u.no_snapshot in (
          and_from (is_begun t a k (Came k e ∷ m)) (is_some (first_end (events (snapshot a k m)))) (update_begun t a k e c m u ∙ p.0) p.1,
          ap (λ (xs : List HistItem). xs ++ owed_items Ended f.index c.number (reverse c.events)) h.1
              ∙ ap (λ (xs : List HistItem). agent.owed t.base a k m ++ xs) (owed_whole f.index c.number (reverse c.events) ∙ sym (share_is t a k c f m fl))
              ∙ sym (owed_grows t.base a k g.n0 e m c u.made_is stays g.snap_end g.n0_le g.room),
        )
