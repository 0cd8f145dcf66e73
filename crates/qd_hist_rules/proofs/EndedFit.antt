-- After the end of a snapshot the next event owed is lawful: it shows what its number says.
use Rattle.std.proofs.Common.{◌≡◌, ℕ, zero, suc, ◌≤◌, ◌<◌, Bool, true, false, ◌&&◌, ◌||◌, ◌==◌, not, List, [], ◌∷◌, ◌++◌, length, reverse, drop, length-append, refl, sym, ◌∙◌, ap, arith, Option, Some, None, inl, inr, subst}
use Rattle.std.specs.Prelude.{if◌then◌else◌, is_some, option_map, nat_le, ◌⊎◌, IfSome, slice_get}
use Rattle.std.proofs.lemmas.Bool.{cases_Bool, eqb-true, and_parts, and_from, or_right}
use Rattle.std.proofs.lemmas.Option.{same_Some}
use Rattle.std.proofs.Math.Path.{fun_ext}
use Rattle.qd_scheme.specs.declared.key.Key.{Key}
use Rattle.qd_scheme.specs.declared.key.Event.{Event}
use Rattle.qd_flags.specs.Bits.{is_pending, is_remove, is_begin, is_end, is_snip}
use Rattle.qd_flags.specs.Shown.{Map, Shown, shown, shown_from, cut, left_by, ends, has_begin, since_begin, first_end}
use Rattle.qd_flags.specs.Following.{over}
use Rattle.qd_flags.proofs.Places.{begin_of_end}
use Rattle.qd_flags.proofs.Feeding.{if_true, if_false}
use Rattle.qd_gate.specs.declared.machine.Terms.{Terms}
use Rattle.qd_sub.specs.Acts.{Came, Gave, is_pair}
use Rattle.qd_sub.specs.Subscriptions.{limit_of, subscribed, wanted}
use Rattle.qd_sub.proofs.SubscriptionLaws.{wanted-subscribed, subscribed-gave}
use Rattle.qd_hist_rules.specs.declared.item.HistItem.{HistItem}
use Rattle.qd_hist_rules.specs.Moments.{HistAct, HistMoment, events, given, gives, begins}
use Rattle.qd_hist_rules.specs.Source.{Commit, made, last, count, is_snapshot}
use Rattle.qd_hist_rules.specs.declared.floor.AgentFloor.{AgentFloor}
use Rattle.qd_hist_rules.specs.Agent.{agent_floor, begin_moment, since_begin_given, after_end, at_end, snapshot, share, share_from, above, passed_all, numbered, shares_after, shares_since_begin, owed_after, owed, with_item, with_items}
use Rattle.qd_hist_rules.specs.Standing.{restarts, is_snapshot_commit, standing, is_begun, is_ended}
use Rattle.qd_hist_rules.specs.Lawful.{Lawful, LawfulItem, NumberFits, ShowsCommit, NoneAbove, stands_right, same_bool, is_kept, is_shared, is_marker, in_order, snapshot_before}
use Rattle.qd_hist_rules.proofs.ActFacts.{gives_gave, given_now, given_stays, no_gift_no_begin, lawful_before}
use Rattle.qd_hist_rules.proofs.Numbers.{made_facts, made_came, count_now, count_rises, commit_within}
use Rattle.qd_hist_rules.proofs.Begun.{Before, before, last_quiet, last_made, begin_stays}
use Rattle.qd_hist_rules.proofs.OneLog.{none_above_self}
use Rattle.qd_hist_rules.proofs.Shares.{shares_stay, shares_grow, floor_stays, owed_grows, owed_falls, snapshot_given, floor_given, shares_given}
use Rattle.qd_hist_rules.proofs.Serve.{low_after, Fits, Marks, next_low, fits_stay, fits_append, run_append, low_append, whole_share}
use Rattle.qd_hist_rules.proofs.AllFit.{AllFit, all_fit, next_map, source_below, found_now, floor_quiet}

-- the map shown at or above f by what the agent was given since the last BEGIN, whole or not
abbrev pub map_now : ℕ → ℕ → Key → HistMoment → Map
map_now f a k m = cut f (left_by (since_begin (events (given a k m))))

pub record OwedFits (t : Terms) (a : ℕ) (k : Key) (m : HistMoment) : Type 0 where
  pub floor : AgentFloor
  pub begin_c : Commit
  pub last_c : Commit
  pub lo : ℕ
  pub n0 : ℕ
  pub end_x : Event
  pub floor_is : agent_floor t.base a k m ≡ Some floor
  pub begin_is : last t.base k (begin_moment a k m) ≡ Some begin_c
  pub last_is : last t.base k m ≡ Some last_c
  pub none_above : NoneAbove lo (given a k m)
  pub begin_le : begin_c.number ≤ lo
  pub end_is : first_end (since_begin (events (given a k m))) ≡ Some end_x
  pub end_at : end_x.index ≡ floor.index
  pub snap_end : at_end (snapshot a k m) ≡ Some n0
  pub n0_le : n0 ≤ count t.base m
  pub room : length (after_end (snapshot a k m)) ≤ length (shares_after t.base a k m n0)
  pub fits : Fits t.base k floor.index m lo (map_now floor.index a k m) (owed t.base a k m)
  pub run_is : with_items floor.index (map_now floor.index a k m) (owed t.base a k m) ≡ cut floor.index last_c.shown.map
  pub low_is : low_after lo (owed t.base a k m) ≤ count t.base m

pub none_more : (lo p : ℕ) (is : List HistItem) → lo ≤ p → NoneAbove lo is → NoneAbove p is
none_more lo p [] le w = tt
none_more lo p (i ∷ is) le w = (go i.at w.0, none_more lo p is le w.1)
  where
    go : (o : Option ℕ) → IfSome o (λ q. q ≤ lo) → IfSome o (λ q. q ≤ p)
    go None h = h
    go (Some q) h = let x : q ≤ lo = h in omega arith

-- the shown state after one more event without BEGIN and TX_PENDING
shown_next : (e : Event) (es : List Event) (x : Event) → is_begin e ≡ false → is_pending e ≡ false → first_end (since_begin es) ≡ Some x
    → shown (e ∷ es) ≡ Some (record { map = cut x.index (left_by (e ∷ since_begin es)); floor = x.index; snipped = is_snip x })
shown_next e es x nb np h =
    if_false (is_pending e) None (shown_from (since_begin (e ∷ es))) np
    ∙ ap (λ (xs : List Event). shown_from xs) (if_false (is_begin e) (e ∷ []) (if has_begin es then e ∷ since_begin es else []) nb ∙ if_true (has_begin es) (e ∷ since_begin es) [] (begin_of_end es x h))
    ∙ ap (λ (o : Option Event). option_map {U = Shown} (λ y. record { map = cut y.index (left_by (e ∷ since_begin es)); floor = y.index; snipped = is_snip y }) (if is_some o then o else if ends e then Some e else None)) h

shown_open : (e : Event) (es : List Event) → is_pending e ≡ true → shown (e ∷ es) ≡ None
shown_open e es p = if_true (is_pending e) None (shown_from (since_begin (e ∷ es))) p

-- cut at its own floor, one more event changes the map by itself
pub left_next : (f : ℕ) (e : Event) (es : List Event) (q : ℕ) → cut f (left_by (e ∷ es)) q ≡ over f (e ∷ []) (cut f (left_by es)) q
left_next f e es q = step_at (e.index == q) (nat_le f q)
  where
    step_at : (a b : Bool) → (if b then (if a then (if is_remove e then None else Some e.cells) else left_by es q) else None)
        ≡ (if a && b then (if is_remove e then None else Some e.cells) else if b then left_by es q else None)
    step_at true true = refl
    step_at true false = refl
    step_at false b = refl

pub and_false : (a b : Bool) → b ≡ false → (a && b) ≡ false
and_false true b h = h
and_false false b h = refl

-- the number of the next item owed
pub head_fits : (t : Terms) (a : ℕ) (k : Key) (m : HistMoment) → OwedFits t a k m → (i : HistItem) (is : List HistItem) → owed t.base a k m ≡ i ∷ is
    → NumberFits t a k i m (shown (events (given a k (Gave a k i ∷ m))))
head_fits t a k m g i is h =
    subst (λ (o : Option Shown). NumberFits t a k i m o) (ap (λ (xs : List HistItem). shown (events xs)) (sym (given_now a k i m))) core
  where
    F : Fits t.base k g.floor.index m g.lo (map_now g.floor.index a k m) (i ∷ is)
    F = subst (λ (xs : List HistItem). Fits t.base k g.floor.index m g.lo (map_now g.floor.index a k m) xs) h g.fits

    no_begin : begins a k (Gave a k i) ≡ false
    no_begin = and_false (is_pair a k a k) (is_begin i.event) F.0

    same_begin : last t.base k (begin_moment a k (Gave a k i ∷ m)) ≡ Some g.begin_c
    same_begin = ap (λ (x : HistMoment). last t.base k x) (begin_stays a k (Gave a k i) m no_begin) ∙ g.begin_is

    core : NumberFits t a k i m (shown (i.event ∷ events (given a k m)))
    core = go i.at refl F.1
      where
        go : (at : Option ℕ) → i.at ≡ at → Marks t.base k g.floor.index m g.lo (with_item g.floor.index i (map_now g.floor.index a k m)) at (is_pending i.event) → NumberFits t a k i m (shown (i.event ∷ events (given a k m)))
        go None q w = subst (λ (o : Option Shown). NumberFits t a k i m o) (sym (shown_open i.event (events (given a k m)) w)) q
        go (Some p) q w =
            let hit = w.1 in
            subst (λ (o : Option Shown). NumberFits t a k i m o) (sym (shown_next i.event (events (given a k m)) g.end_x F.0 w.0 g.end_is)) (
              p,
              q,
              record {
                commit_n = hit.commit_p;
                is_commit = hit.is_commit;
                none_above = none_more g.lo p (given a k m) hit.rises g.none_above;
                since_begin = subst (λ (o : Option Commit). IfSome o (λ c. c.number ≤ p)) (sym same_begin) (let x : g.lo ≤ p = hit.rises in let y : g.begin_c.number ≤ g.lo = g.begin_le in omega arith);
                map_is = subst (λ (f : ℕ). cut f (left_by (i.event ∷ since_begin (events (given a k m)))) ≡ cut f hit.commit_p.shown.map) (sym g.end_at)
                    (fun_ext (λ (q : ℕ). left_next g.floor.index i.event (since_begin (events (given a k m))) q) ∙ hit.map_is);
                floor_is = ap (λ (o : Option AgentFloor). option_map (λ (f : AgentFloor). f.index) o) g.floor_is ∙ ap Some (sym g.end_at);
              },
            )

or_false : (a b : Bool) → a ≡ false → (a || b) ≡ true → b ≡ true
or_false true b h g = cc h
or_false false b h g = g

pub events_since : (is : List HistItem) → has_begin (events is) ≡ true → events (since_begin_given is) ≡ since_begin (events is)
events_since [] h = cc h
events_since (i ∷ is) h = go (is_begin i.event) refl (events_since is)
  where
    go : (b : Bool) → is_begin i.event ≡ b → (has_begin (events is) ≡ true → events (since_begin_given is) ≡ since_begin (events is)) → events (since_begin_given (i ∷ is)) ≡ since_begin (events (i ∷ is))
    go true q ih = ap (λ (xs : List HistItem). events xs) (if_true (is_begin i.event) (i ∷ []) (i ∷ since_begin_given is) q) ∙ sym (if_true (is_begin i.event) (i.event ∷ []) (if has_begin (events is) then i.event ∷ since_begin (events is) else []) q)
    go false q ih =
        let b : has_begin (events is) ≡ true = or_false (is_begin i.event) (has_begin (events is)) q h in
        ap (λ (xs : List HistItem). events xs) (if_false (is_begin i.event) (i ∷ []) (i ∷ since_begin_given is) q) ∙ ap (λ (xs : List Event). i.event ∷ xs) (ih b)
        ∙ sym (if_false (is_begin i.event) (i.event ∷ []) (if has_begin (events is) then i.event ∷ since_begin (events is) else []) q ∙ if_true (has_begin (events is)) (i.event ∷ since_begin (events is)) [] b)

begun_step : (x y z g : Bool) → (x || (not y && g)) ≡ true → x ≡ false → g ≡ true
begun_step true y z g h e = cc e
begun_step false true z g h e = cc h
begun_step false false z g h e = h

-- where a BEGIN counts, one was given
pub begun_given : (t : Terms) (a : ℕ) (k : Key) (m : HistMoment) → (standing t a m k).begin_given ≡ true → has_begin (events (given a k m)) ≡ true
begun_given t a k [] h = cc h
begun_given t a k (act ∷ m) h = go (cases_Bool (gives a k act)) (begun_given t a k m)
  where
    go : (gives a k act ≡ true) ⊎ (gives a k act ≡ false) → ((standing t a m k).begin_given ≡ true → has_begin (events (given a k m)) ≡ true) → has_begin (events (given a k (act ∷ m))) ≡ true
    go (inr n) ih =
        ap (λ (xs : List HistItem). has_begin (events xs)) (given_stays a k act m n)
        ∙ ih (begun_step (begins a k act) (restarts (standing t a m) t a k act m) true (standing t a m k).begin_given h (no_gift_no_begin a k act n))
    go (inl g) ih =
        let i = gives_gave a k act g in
        subst (λ (x : HistAct). (standing t a (x ∷ m) k).begin_given ≡ true → has_begin (events (given a k (x ∷ m))) ≡ true) (sym i.1)
        (λ h. ap (λ (xs : List HistItem). has_begin (events xs)) (given_now a k i.0 m) ∙ at i.0 (is_begin i.0.event) refl h) h
      where
        at : (i : HistItem) (b : Bool) → is_begin i.event ≡ b → (standing t a (Gave a k i ∷ m) k).begin_given ≡ true → has_begin (i.event ∷ events (given a k m)) ≡ true
        at i true q h = ap (λ (b : Bool). b || has_begin (events (given a k m))) q
        at i false q h = or_right (is_begin i.event) (has_begin (events (given a k m)))
            (ih (begun_step (begins a k (Gave a k i)) (restarts (standing t a m) t a k (Gave a k i) m) true (standing t a m k).begin_given h (and_false (is_pair a k a k) (is_begin i.event) q)))

owed_is : (base a : ℕ) (k : Key) (n : ℕ) (m : HistMoment) → at_end (snapshot a k m) ≡ Some n → owed base a k m ≡ drop (length (after_end (snapshot a k m))) (shares_after base a k m n)
owed_is base a k n m h = ap (λ (o : Option ℕ). owed_after base a k m o) h

-- an act that gives nothing of the pair, makes no commit of the key and leaves the limit
quiet : (t : Terms) (a : ℕ) (k : Key) (act : HistAct) (m : HistMoment) → given a k (act ∷ m) ≡ given a k m → begins a k act ≡ false → made t.base k (act ∷ m) ≡ None → limit_of a k (act ∷ m) ≡ limit_of a k m
    → wanted k (act ∷ m) ≡ true → OwedFits t a k m → OwedFits t a k (act ∷ m)
quiet t a k act m gv nb nm same w g =
    let fl = floor_quiet t.base a k act m nm same w in
    let sn : snapshot a k (act ∷ m) ≡ snapshot a k m = ap since_begin_given gv in
    let se : at_end (snapshot a k (act ∷ m)) ≡ Some g.n0 = ap at_end sn ∙ g.snap_end in
    let sh : shares_after t.base a k (act ∷ m) g.n0 ≡ shares_after t.base a k m g.n0 = shares_stay t.base a k g.n0 act m nm fl in
    let ow : owed t.base a k (act ∷ m) ≡ owed t.base a k m =
    owed_is t.base a k g.n0 (act ∷ m) se ∙ ap (λ (xs : List HistItem). drop (length (after_end xs)) (shares_after t.base a k (act ∷ m) g.n0)) sn
    ∙ ap (λ (xs : List HistItem). drop (length (after_end (snapshot a k m))) xs) sh ∙ sym (owed_is t.base a k g.n0 m g.snap_end) in
    let mp : map_now g.floor.index a k (act ∷ m) ≡ map_now g.floor.index a k m = ap (λ (is : List HistItem). cut g.floor.index (left_by (since_begin (events is)))) gv in
    record {
      floor = g.floor;
      begin_c = g.begin_c;
      last_c = g.last_c;
      lo = g.lo;
      n0 = g.n0;
      end_x = g.end_x;
      floor_is = fl ∙ g.floor_is;
      begin_is = ap (λ (x : HistMoment). last t.base k x) (begin_stays a k act m nb) ∙ g.begin_is;
      last_is = last_quiet t.base k act m nm w ∙ g.last_is;
      none_above = subst (λ (is : List HistItem). NoneAbove g.lo is) (sym gv) g.none_above;
      begin_le = g.begin_le;
      end_is = ap (λ (is : List HistItem). first_end (since_begin (events is))) gv ∙ g.end_is;
      end_at = g.end_at;
      snap_end = se;
      n0_le = let x : g.n0 ≤ count t.base m = g.n0_le in omega (arith, x, count_rises t.base act m);
      room = let x = ap (λ (is : List HistItem). length (after_end is)) sn in let y = ap length sh in let z : length (after_end (snapshot a k m)) ≤ length (shares_after t.base a k m g.n0) = g.room in omega (arith, x, y, z);
      fits = subst (λ (xs : List HistItem). Fits t.base k g.floor.index (act ∷ m) g.lo (map_now g.floor.index a k (act ∷ m)) xs) (sym ow)
          (subst (λ (x : Map). Fits t.base k g.floor.index (act ∷ m) g.lo x (owed t.base a k m)) (sym mp) (fits_stay t.base k g.floor.index act m g.lo (map_now g.floor.index a k m) (owed t.base a k m) g.fits));
      run_is = ap (λ (xs : List HistItem). with_items g.floor.index (map_now g.floor.index a k (act ∷ m)) xs) ow ∙ ap (λ (x : Map). with_items g.floor.index x (owed t.base a k m)) mp ∙ g.run_is;
      low_is = let x = ap (λ (xs : List HistItem). low_after g.lo xs) ow in let y : low_after g.lo (owed t.base a k m) ≤ count t.base m = g.low_is in omega (arith, x, y, count_rises t.base act m);
    }

put_same : (t : Terms) (a : ℕ) (k : Key) (e : Event) (m : HistMoment) (x : Commit) → wanted k m ≡ true → wanted k (Came k e ∷ m) ≡ true → OwedFits t a k m → made t.base k (Came k e ∷ m) ≡ Some x → is_snapshot x ≡ false → OwedFits t a k (Came k e ∷ m)
put_same t a k e m x w v g q s =
    let F = g.floor.index in
    let us = above g.floor.index x in
    let cur = map_now g.floor.index a k m in
    let O = owed t.base a k m in
    let f = made_facts t.base k (Came k e ∷ m) x q in
    let cn : count t.base (Came k e ∷ m) ≡ suc (count t.base m) = count_now t.base (Came k e) m f.is_now in
    let fl = floor_stays t.base a k e m x g.last_c w v q g.last_is s in
    let ls : last t.base k (Came k e ∷ m) ≡ Some x = last_made t.base k (Came k e) m x q v in
    let below = source_below (limit_of a k m) (last t.base k m) g.last_c g.floor g.last_is g.floor_is in
    let total : owed t.base a k (Came k e ∷ m) ≡ O ++ reverse (numbered x.number (passed_all us)) =
    owed_grows t.base a k g.n0 e m x q fl g.snap_end g.n0_le g.room ∙ ap (λ (o : Option AgentFloor). O ++ reverse (numbered x.number (share_from o x))) g.floor_is in
    let shown_x : over F us (with_items F cur O) ≡ cut F x.shown.map = ap (λ (y : Map). over F us y) g.run_is ∙ next_map t.base k e m x g.last_c g.floor w q g.last_is s below in
    let lo : low_after g.lo O ≤ count t.base m = g.low_is in
    let W = whole_share t.base k F (Came k e ∷ m) (low_after g.lo O) x.number (with_items F cur O) us x (found_now t.base k (Came k e) m x q) (omega (arith, lo, f.number_is, cn)) shown_x in
    let sh = shares_grow t.base a k g.n0 e m x q fl g.n0_le in
    record {
      floor = g.floor;
      begin_c = g.begin_c;
      last_c = x;
      lo = g.lo;
      n0 = g.n0;
      end_x = g.end_x;
      floor_is = fl ∙ g.floor_is;
      begin_is = g.begin_is;
      last_is = ls;
      none_above = g.none_above;
      begin_le = g.begin_le;
      end_is = g.end_is;
      end_at = g.end_at;
      snap_end = g.snap_end;
      n0_le = let y : g.n0 ≤ count t.base m = g.n0_le in omega (arith, y, cn);
      room =
          let y = ap length sh in
          let z = length-append (shares_after t.base a k m g.n0) (reverse (numbered x.number (share t.base a k m x))) in
          let v : length (after_end (snapshot a k m)) ≤ length (shares_after t.base a k m g.n0) = g.room in omega (arith, y, z, v);
      fits = subst (λ (xs : List HistItem). Fits t.base k F (Came k e ∷ m) g.lo cur xs) (sym total)
          (fits_append t.base k F (Came k e ∷ m) g.lo cur O (reverse (numbered x.number (passed_all us))) (fits_stay t.base k F (Came k e) m g.lo cur O g.fits) W.fits);
      run_is = ap (λ (xs : List HistItem). with_items F cur xs) total ∙ run_append F cur O (reverse (numbered x.number (passed_all us))) ∙ W.run_is ∙ shown_x;
      low_is =
          let z : low_after g.lo (owed t.base a k (Came k e ∷ m)) ≡ low_after (low_after g.lo O) (reverse (numbered x.number (passed_all us))) =
          ap (λ (xs : List HistItem). low_after g.lo xs) total ∙ low_append g.lo O (reverse (numbered x.number (passed_all us))) in
          let y = W.low_is (count t.base (Came k e ∷ m)) (omega (arith, lo, cn)) (omega (arith, f.number_is)) in
          omega (arith, z, y);
    }

pub head_is : (xs : List HistItem) (i : HistItem) → slice_get xs 0 ≡ Some i → (is : List HistItem) × (xs ≡ i ∷ is)
head_is [] i h = cc h
head_is (x ∷ xs) i h = (xs, ap (λ (y : HistItem). y ∷ xs) (same_Some x i h))

drop_some : (n : ℕ) (xs : List HistItem) (i : HistItem) (is : List HistItem) → drop n xs ≡ i ∷ is → n < length xs
drop_some zero [] i is h = cc h
drop_some zero (x ∷ xs) i is h = omega arith
drop_some (suc n) [] i is h = cc h
drop_some (suc n) (x ∷ xs) i is h = let y = drop_some n xs i is h in omega arith

-- the next event owed is given
give_next : (t : Terms) (a : ℕ) (k : Key) (i : HistItem) (m : HistMoment) → subscribed a k m ≡ true → is_some (first_end (events (snapshot a k m))) ≡ true → is_begin i.event ≡ false
    → slice_get (owed t.base a k m) 0 ≡ Some i → OwedFits t a k m → OwedFits t a k (Gave a k i ∷ m)
give_next t a k i m sub e nb hd g =
    let x = head_is (owed t.base a k m) i hd in
    next x.0 x.1
  where
    gv : given a k (Gave a k i ∷ m) ≡ i ∷ given a k m
    gv = given_now a k i m

    low_up : (at : Option ℕ) → i.at ≡ at → Marks t.base k g.floor.index m g.lo (with_item g.floor.index i (map_now g.floor.index a k m)) at (is_pending i.event) → (g.lo ≤ next_low g.lo at) × NoneAbove (next_low g.lo at) (i ∷ given a k m)
    low_up None q w = (omega arith, (subst (λ (o : Option ℕ). IfSome o (λ p. p ≤ g.lo)) (sym q) tt, g.none_above))
    low_up (Some p) q w = let r : g.lo ≤ p = w.1.rises in (r, (subst (λ (o : Option ℕ). IfSome o (λ q. q ≤ p)) (sym q) (omega arith), none_more g.lo p (given a k m) r g.none_above))

    next : (is : List HistItem) → owed t.base a k m ≡ i ∷ is → OwedFits t a k (Gave a k i ∷ m)
    next is h =
        let F = g.floor.index in
        let w : wanted k (Gave a k i ∷ m) ≡ true = wanted-subscribed a k (Gave a k i ∷ m) (subscribed-gave a k a k i m ∙ sub) in
        let fit : Fits t.base k F m g.lo (map_now F a k m) (i ∷ is) = subst (λ (xs : List HistItem). Fits t.base k F m g.lo (map_now F a k m) xs) h g.fits in
        let up = low_up i.at refl fit.1 in
        let hb = begin_of_end (events (given a k m)) g.end_x g.end_is in
        let since : since_begin (i.event ∷ events (given a k m)) ≡ i.event ∷ since_begin (events (given a k m)) =
        if_false (is_begin i.event) (i.event ∷ []) (if has_begin (events (given a k m)) then i.event ∷ since_begin (events (given a k m)) else []) nb
        ∙ if_true (has_begin (events (given a k m))) (i.event ∷ since_begin (events (given a k m))) [] hb in
        let sn = snapshot_given a k i m nb in
        let se : at_end (snapshot a k (Gave a k i ∷ m)) ≡ Some g.n0 = ap at_end sn ∙ if_true (is_some (first_end (events (snapshot a k m)))) (at_end (snapshot a k m)) i.at e ∙ g.snap_end in
        let gone : after_end (snapshot a k (Gave a k i ∷ m)) ≡ i ∷ after_end (snapshot a k m) = ap after_end sn ∙ if_true (is_some (first_end (events (snapshot a k m)))) (i ∷ after_end (snapshot a k m)) [] e in
        let sh = shares_given t.base a k g.n0 i m sub in
        let ow : owed t.base a k (Gave a k i ∷ m) ≡ is = owed_falls t.base a k i m sub e nb ∙ ap (λ (xs : List HistItem). drop 1 xs) h in
        let mp : map_now F a k (Gave a k i ∷ m) ≡ with_item F i (map_now F a k m) =
        ap (λ (xs : List HistItem). cut F (left_by (since_begin (events xs)))) gv ∙ ap (λ (xs : List Event). cut F (left_by xs)) since ∙ fun_ext (λ (q : ℕ). left_next F i.event (since_begin (events (given a k m))) q) in
        record {
          floor = g.floor;
          begin_c = g.begin_c;
          last_c = g.last_c;
          lo = next_low g.lo i.at;
          n0 = g.n0;
          end_x = g.end_x;
          floor_is = floor_given t.base a k i m sub ∙ g.floor_is;
          begin_is = ap (λ (x : HistMoment). last t.base k x) (begin_stays a k (Gave a k i) m (and_false (is_pair a k a k) (is_begin i.event) nb)) ∙ g.begin_is;
          last_is = last_quiet t.base k (Gave a k i) m refl w ∙ g.last_is;
          none_above = subst (λ (xs : List HistItem). NoneAbove (next_low g.lo i.at) xs) (sym gv) up.1;
          begin_le = let x : g.begin_c.number ≤ g.lo = g.begin_le in let y : g.lo ≤ next_low g.lo i.at = up.0 in omega arith;
          end_is = ap (λ (xs : List HistItem). first_end (since_begin (events xs))) gv ∙ ap first_end since
              ∙ ap (λ (o : Option Event). if is_some o then o else if ends i.event then Some i.event else None) g.end_is;
          end_at = g.end_at;
          snap_end = se;
          n0_le = g.n0_le;
          room =
              let x = drop_some (length (after_end (snapshot a k m))) (shares_after t.base a k m g.n0) i is (sym (owed_is t.base a k g.n0 m g.snap_end) ∙ h) in
              let y = ap length gone in let z = ap length sh in omega (arith, x, y, z);
          fits = subst (λ (xs : List HistItem). Fits t.base k F (Gave a k i ∷ m) (next_low g.lo i.at) (map_now F a k (Gave a k i ∷ m)) xs) (sym ow)
              (subst (λ (x : Map). Fits t.base k F (Gave a k i ∷ m) (next_low g.lo i.at) x is) (sym mp) (fits_stay t.base k F (Gave a k i) m (next_low g.lo i.at) (with_item F i (map_now F a k m)) is fit.2));
          run_is = ap (λ (xs : List HistItem). with_items F (map_now F a k (Gave a k i ∷ m)) xs) ow ∙ ap (λ (x : Map). with_items F x is) mp
              ∙ sym (ap (λ (xs : List HistItem). with_items F (map_now F a k m) xs) h) ∙ g.run_is;
          low_is = let x = ap (λ (xs : List HistItem). low_after (next_low g.lo i.at) xs) ow in let y = ap (λ (xs : List HistItem). low_after g.lo xs) h in let z : low_after g.lo (owed t.base a k m) ≤ count t.base m = g.low_is in omega (arith, x, y, z);
        }

well_parts : (u n b c d p : Bool) → (u && (not n || (b && c && d && not p))) ≡ true → n ≡ true → (b ≡ true) × (p ≡ false)
well_parts false n b c d p h e = cc h
well_parts true false b c d p h e = cc e
well_parts true true false c d p h e = cc h
well_parts true true true false d p h e = cc h
well_parts true true true true false p h e = cc h
well_parts true true true true true true h e = cc h
well_parts true true true true true false h e = (refl, refl)

-- the item that ends a snapshot stands at the agent's floor, and has no TX_PENDING
ends_well : (o : Option AgentFloor) (e : Event) (f : AgentFloor) → stands_right o e ≡ true → ends e ≡ true → o ≡ Some f → (e.index ≡ f.index) × (is_pending e ≡ false)
ends_well None e f h n q = cc q
ends_well (Some x) e f h n q =
    let w = well_parts (nat_le x.index e.index) (ends e) (e.index == x.index) (same_bool (is_snip e) x.by_snip) (same_bool (is_end e) (not x.by_snip)) (is_pending e) h n in
    (eqb-true e.index x.index w.0 ∙ ap (λ (f : AgentFloor). f.index) (same_Some x f q), w.1)

record Ending (a : ℕ) (k : Key) (i : HistItem) (m : HistMoment) : Type 0 where
  ends_i : ends i.event ≡ true
  first_is : first_end (since_begin (i.event ∷ events (given a k m))) ≡ Some i.event
  snap_at : at_end (snapshot a k (Gave a k i ∷ m)) ≡ i.at
  snap_after : after_end (snapshot a k (Gave a k i ∷ m)) ≡ []

some_if : (b : Bool) (e : Event) → is_some (if b then Some e else None) ≡ true → b ≡ true
some_if true e h = refl
some_if false e h = h

ending_begin : (a : ℕ) (k : Key) (i : HistItem) (m : HistMoment) → is_begin i.event ≡ true → is_some (first_end (events (snapshot a k (Gave a k i ∷ m)))) ≡ true → Ending a k i m
ending_begin a k i m b h =
    let sn : snapshot a k (Gave a k i ∷ m) ≡ i ∷ [] = ap since_begin_given (given_now a k i m) ∙ if_true (is_begin i.event) (i ∷ []) (i ∷ since_begin_given (given a k m)) b in
    let en : ends i.event ≡ true = some_if (ends i.event) i.event (sym (ap (λ (is : List HistItem). is_some (first_end (events is))) sn) ∙ h) in
    record {
      ends_i = en;
      first_is = ap first_end (if_true (is_begin i.event) (i.event ∷ []) (if has_begin (events (given a k m)) then i.event ∷ since_begin (events (given a k m)) else []) b) ∙ if_true (ends i.event) (Some i.event) None en;
      snap_at = ap at_end sn;
      snap_after = ap after_end sn;
    }

ending_more : (t : Terms) (a : ℕ) (k : Key) (i : HistItem) (m : HistMoment) → is_begin i.event ≡ false → (standing t a m k).begin_given ≡ true → is_some (first_end (events (snapshot a k m))) ≡ false
    → is_some (first_end (events (snapshot a k (Gave a k i ∷ m)))) ≡ true → Ending a k i m
ending_more t a k i m b g none h =
    let sn = snapshot_given a k i m b in
    let hb = begun_given t a k m g in
    let one : first_end (events (i ∷ snapshot a k m)) ≡ (if ends i.event then Some i.event else None) =
    if_false (is_some (first_end (events (snapshot a k m)))) (first_end (events (snapshot a k m))) (if ends i.event then Some i.event else None) none in
    let en : ends i.event ≡ true = some_if (ends i.event) i.event (sym (ap is_some one) ∙ sym (ap (λ (is : List HistItem). is_some (first_end (events is))) sn) ∙ h) in
    let ev = events_since (given a k m) hb in
    record {
      ends_i = en;
      first_is =
          ap first_end
          (if_false (is_begin i.event) (i.event ∷ []) (if has_begin (events (given a k m)) then i.event ∷ since_begin (events (given a k m)) else []) b
          ∙ if_true (has_begin (events (given a k m))) (i.event ∷ since_begin (events (given a k m))) [] hb ∙ ap (λ (xs : List Event). i.event ∷ xs) (sym ev))
          ∙ one ∙ if_true (ends i.event) (Some i.event) None en;
      snap_at = ap at_end sn ∙ if_false (is_some (first_end (events (snapshot a k m)))) (at_end (snapshot a k m)) i.at none;
      snap_after = ap after_end sn ∙ if_false (is_some (first_end (events (snapshot a k m)))) (i ∷ after_end (snapshot a k m)) [] none;
    }

-- after the ending item, whose number is n
end_record : (t : Terms) (a : ℕ) (k : Key) (i : HistItem) (m : HistMoment) → Ending a k i m
    → (f : ℕ) (s : Shown) → s.map ≡ cut f (left_by (since_begin (i.event ∷ events (given a k m)))) → s.floor ≡ f
    → (n : ℕ) → i.at ≡ Some n → ShowsCommit t a k n s m (Gave a k i ∷ m) → (A : AllFit t a k (Gave a k i ∷ m)) → f ≡ A.floor.index → i.event.index ≡ f → OwedFits t a k (Gave a k i ∷ m)
end_record t a k i m E f s sm sf n at_is sc A fi ei =
    let F = A.floor.index in
    let le : A.begin_c.number ≤ n = subst (λ (o : Option Commit). IfSome o (λ c. c.number ≤ n)) A.begin_is sc.since_begin in
    let R = A.all n sc.commit_n sc.is_commit le in
    let se : at_end (snapshot a k (Gave a k i ∷ m)) ≡ Some n = E.snap_at ∙ at_is in
    let ow : owed t.base a k (Gave a k i ∷ m) ≡ shares_after t.base a k (Gave a k i ∷ m) n =
    owed_is t.base a k n (Gave a k i ∷ m) se ∙ ap (λ (xs : List HistItem). drop (length xs) (shares_after t.base a k (Gave a k i ∷ m) n)) E.snap_after in
    let at_f : cut f (left_by (since_begin (i.event ∷ events (given a k m)))) ≡ cut f sc.commit_n.shown.map = sym sm ∙ sc.map_is ∙ ap (λ (x : ℕ). cut x sc.commit_n.shown.map) sf in
    let mp : map_now F a k (Gave a k i ∷ m) ≡ cut F sc.commit_n.shown.map =
    ap (λ (xs : List HistItem). cut F (left_by (since_begin (events xs)))) (given_now a k i m)
    ∙ subst (λ (x : ℕ). cut x (left_by (since_begin (i.event ∷ events (given a k m)))) ≡ cut x sc.commit_n.shown.map) fi at_f in
    record {
      floor = A.floor;
      begin_c = A.begin_c;
      last_c = A.last_c;
      lo = n;
      n0 = n;
      end_x = i.event;
      floor_is = A.floor_is;
      begin_is = A.begin_is;
      last_is = A.last_is;
      none_above = subst (λ (xs : List HistItem). NoneAbove n xs) (sym (given_now a k i m)) (none_above_self n i (given a k m) at_is sc.none_above);
      begin_le = le;
      end_is = ap (λ (xs : List HistItem). first_end (since_begin (events xs))) (given_now a k i m) ∙ E.first_is;
      end_at = ei ∙ fi;
      snap_end = se;
      n0_le = (commit_within t.base k n m sc.commit_n sc.is_commit).0;
      room = let x = ap length E.snap_after in omega (arith, x);
      fits = subst (λ (xs : List HistItem). Fits t.base k F (Gave a k i ∷ m) n (map_now F a k (Gave a k i ∷ m)) xs) (sym ow)
          (subst (λ (x : Map). Fits t.base k F (Gave a k i ∷ m) n x (shares_after t.base a k (Gave a k i ∷ m) n)) (sym mp) R.fits);
      run_is = ap (λ (xs : List HistItem). with_items F (map_now F a k (Gave a k i ∷ m)) xs) ow ∙ ap (λ (x : Map). with_items F x (shares_after t.base a k (Gave a k i ∷ m) n)) mp ∙ R.run_is;
      low_is = let x = ap (λ (xs : List HistItem). low_after n xs) ow in let y : low_after n (shares_after t.base a k (Gave a k i ∷ m) n) ≤ count t.base (Gave a k i ∷ m) = R.low_is in omega (arith, x, y);
    }

-- the item that ends a snapshot
end_now : (t : Terms) (a : ℕ) (k : Key) (i : HistItem) (m : HistMoment) → Lawful t (Gave a k i ∷ m) → is_begun t a k (Gave a k i ∷ m) ≡ true → subscribed a k m ≡ true → (is_begin i.event || not (is_ended t a k m)) ≡ true
    → Ending a k i m → OwedFits t a k (Gave a k i ∷ m)
end_now t a k i m w h sub c E =
    let A = all_fit t a k (Gave a k i ∷ m) w h in
    let fl : agent_floor t.base a k m ≡ Some A.floor = sym (floor_given t.base a k i m sub) ∙ A.floor_is in
    let p = and_parts (kind && right) order (w.0.in_snapshot c) in
    let r = and_parts kind right p.0 in
    let v = ends_well (agent_floor t.base a k m) i.event A.floor r.1 E.ends_i fl in
    let nf : NumberFits t a k i m (Some state) = subst (λ (o : Option Shown). NumberFits t a k i m o) (whole v.1) w.0.number_fits in
    end_record t a k i m E i.event.index state refl refl nf.0 nf.1 nf.2 A v.0 refl
  where
    kind : Bool
    kind = is_kept t.base a k i.event m (Gave a k i ∷ m) || is_shared t.base a k i.event (Gave a k i ∷ m) || is_marker t.base a k i m

    right : Bool
    right = stands_right (agent_floor t.base a k m) i.event

    order : Bool
    order = in_order (shares_since_begin t.base a k (Gave a k i ∷ m)) (snapshot_before a k i m) i.event

    S : List Event
    S = since_begin (i.event ∷ events (given a k m))

    state : Shown
    state = record { map = cut i.event.index (left_by S); floor = i.event.index; snipped = is_snip i.event }

    whole : is_pending i.event ≡ false → shown (events (given a k (Gave a k i ∷ m))) ≡ Some state
    whole np =
        ap (λ (xs : List HistItem). shown (events xs)) (given_now a k i m)
        ∙ if_false (is_pending i.event) None (shown_from S) np
        ∙ ap (λ (o : Option Event). option_map {U = Shown} (λ y. record { map = cut y.index (left_by S); floor = y.index; snipped = is_snip y }) o) E.first_is

and_right : (x y : Bool) → (x && y) ≡ false → x ≡ true → y ≡ false
and_right true y h e = h
and_right false y h e = cc e

gave_same : (t : Terms) (a : ℕ) (k : Key) (i : HistItem) (m : HistMoment) → Lawful t (Gave a k i ∷ m) → is_ended t a k (Gave a k i ∷ m) ≡ true → (is_ended t a k m ≡ true → OwedFits t a k m) → OwedFits t a k (Gave a k i ∷ m)
gave_same t a k i m w h ih =
    let p = and_parts (is_begun t a k (Gave a k i ∷ m)) (is_some (first_end (events (snapshot a k (Gave a k i ∷ m))))) h in
    let sub : subscribed a k m ≡ true = sym (subscribed-gave a k a k i m) ∙ (and_parts (subscribed a k (Gave a k i ∷ m)) (standing t a (Gave a k i ∷ m) k).begin_given p.0).0 in
    go p.0 p.1 sub (is_begin i.event) refl (cases_Bool (is_ended t a k m)) (cases_Bool (is_begun t a k m))
  where
    go : is_begun t a k (Gave a k i ∷ m) ≡ true → is_some (first_end (events (snapshot a k (Gave a k i ∷ m)))) ≡ true → subscribed a k m ≡ true
        → (b : Bool) → is_begin i.event ≡ b → (is_ended t a k m ≡ true) ⊎ (is_ended t a k m ≡ false) → (is_begun t a k m ≡ true) ⊎ (is_begun t a k m ≡ false) → OwedFits t a k (Gave a k i ∷ m)
    go bg en sub true q c d = end_now t a k i m w bg sub (ap (λ (b : Bool). b || not (is_ended t a k m)) q) (ending_begin a k i m q en)
    go bg en sub false q (inl y) d =
        give_next t a k i m sub (and_parts (is_begun t a k m) (is_some (first_end (events (snapshot a k m)))) y).1 q (w.0.next_owed y q) (ih y)
    go bg en sub false q (inr n) (inl x) =
        let g = (and_parts (subscribed a k m) (standing t a m k).begin_given x).1 in
        let none = and_right (is_begun t a k m) (is_some (first_end (events (snapshot a k m)))) n x in
        end_now t a k i m w bg sub (ap (λ (b : Bool). b || not (is_ended t a k m)) q ∙ ap not n) (ending_more t a k i m q g none en)
    go bg en sub false q (inr n) (inr x) = let y : is_begin i.event ≡ true = w.0.may_come.begin_first x in cc (q, y)

pub ended_fit : (t : Terms) (a : ℕ) (k : Key) (m : HistMoment) → Lawful t m → is_ended t a k m ≡ true → OwedFits t a k m
ended_fit t a k [] w h = cc (and_parts (is_begun t a k []) false h).1
ended_fit t a k (act ∷ m) w h = go (cases_Bool (gives a k act)) (ended_fit t a k m (lawful_before t act m w))
  where
    later : Before t a k act m → gives a k act ≡ false → (o : Option Commit) → made t.base k (act ∷ m) ≡ o → is_snapshot_commit o ≡ false → OwedFits t a k m → OwedFits t a k (act ∷ m)
    later b n None q s g = quiet t a k act m (given_stays a k act m n) (no_gift_no_begin a k act n) q b.same_limit b.wanted_is g
    later b n (Some d) q s g =
        let c = made_came t.base k act m d q in
        subst (λ (x : HistAct). wanted k (x ∷ m) ≡ true → made t.base k (x ∷ m) ≡ Some d → OwedFits t a k (x ∷ m)) (sym c.1)
        (λ v q. put_same t a k c.0 m d c.2 v g q s) b.wanted_is q

    go : (gives a k act ≡ true) ⊎ (gives a k act ≡ false) → (is_ended t a k m ≡ true → OwedFits t a k m) → OwedFits t a k (act ∷ m)
    go (inl g) ih =
        let i = gives_gave a k act g in
        subst (λ (x : HistAct). Lawful t (x ∷ m) → is_ended t a k (x ∷ m) ≡ true → OwedFits t a k (x ∷ m)) (sym i.1)
        (λ w h. gave_same t a k i.0 m w h ih) w h
    go (inr n) ih =
        let x = and_parts (is_begun t a k (act ∷ m)) (is_some (first_end (events (snapshot a k (act ∷ m))))) h in
        let b = before t a k act m x.0 (no_gift_no_begin a k act n) in
        let sn : is_some (first_end (events (snapshot a k m))) ≡ true = sym (ap (λ (is : List HistItem). is_some (first_end (events (since_begin_given is)))) (given_stays a k act m n)) ∙ x.1 in
        later b n (made t.base k (act ∷ m)) refl b.no_snapshot (ih (and_from (is_begun t a k m) (is_some (first_end (events (snapshot a k m)))) b.begun_is sn))

never : (b e : Bool) → b ≡ false → e ≡ true → (b || not e) ≡ true → ⊥
never true e p q r = cc p
never false true p q r = cc r
never false false p q r = cc q

-- the next event owed to an ended pair is lawful
pub owed_lawful : (t : Terms) (m : HistMoment) → Lawful t m → (a : ℕ) (k : Key) (i : HistItem) → is_ended t a k m ≡ true → slice_get (owed t.base a k m) 0 ≡ Some i → LawfulItem t a k i m
owed_lawful t m w a k i h hd =
    let g = ended_fit t a k m w h in
    let x = head_is (owed t.base a k m) i hd in
    let fit = subst (λ (xs : List HistItem). Fits t.base k g.floor.index m g.lo (map_now g.floor.index a k m) xs) x.1 g.fits in
    let bg = (and_parts (is_begun t a k m) (is_some (first_end (events (snapshot a k m)))) h).0 in
    record {
      number_fits = head_fits t a k m g i x.0 x.1;
      next_owed = λ e n. hd;
      may_come = record {
        fits = ap is_some g.floor_is;
        begin_first = λ n. cc (n, bg);
        begin_where = λ b. let nb : is_begin i.event ≡ false = fit.0 in cc (b, nb);
      };
      in_snapshot = λ s. absurd (never (is_begin i.event) (is_ended t a k m) fit.0 h s);
    }
