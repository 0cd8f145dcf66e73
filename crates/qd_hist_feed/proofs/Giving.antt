-- What a feed gives is lawful, and the feed that is left stands for what was given.
use Rattle.std.proofs.Common.{◌≡◌, ℕ, zero, suc, ◌+◌, ◌-◌, ◌<◌, ◌≤◌, Bool, true, false, ◌&&◌, ◌||◌, ◌==◌, not, List, [], ◌∷◌, length, reverse, drop, refl, sym, ◌∙◌, ap, arith, cond, Option, Some, None, inl, inr, subst}
use Rattle.std.specs.Prelude.{if◌then◌else◌, is_some, pos, replicate, nat_le, nat_lt, ◌⊎◌, option_map, slice_get, flat_map}
use Rattle.std.specs.List.{list_any}
use Rattle.std.proofs.lemmas.Option.{same_Some}
use Rattle.std.proofs.lemmas.Bool.{cases_Bool, and_parts, and_from, le-leb, eq-eqb, ne_eqb, eqb-true, eqb-false, ltb-true, ltb-false, cases_order}
use Rattle.qd_scheme.specs.declared.key.Key.{Key}
use Rattle.qd_scheme.specs.declared.key.Event.{Event}
use Rattle.qd_scheme.specs.declared.cells.Cells.{Cells}
use Rattle.qd_entries.specs.declared.Entry.{Entry}
use Rattle.qd_entries.specs.Entries.{cells_at, entry_at_or_below}
use Rattle.qd_flags.specs.Bits.{is_pending, is_remove, is_begin, is_end, is_snip}
use Rattle.qd_flags.specs.Shown.{ends, first_end, left_by}
use Rattle.qd_flags.specs.Listening.{pair_of}
use Rattle.qd_flags.proofs.Feeding.{if_true, if_false}
use Rattle.qd_gate.specs.declared.machine.Terms.{Terms}
use Rattle.qd_sub.specs.Acts.{Gave, is_pair}
use Rattle.qd_sub.specs.Subscriptions.{limit_of, subscribed, wanted}
use Rattle.qd_sub.proofs.SubscriptionLaws.{wanted-subscribed, subscribed-gave}
use Rattle.qd_hist_key.specs.Kept.{Kept}
use Rattle.qd_hist_key.specs.Keeping as keeping
use Rattle.qd_hist_rules.specs.declared.floor.AgentFloor.{AgentFloor}
use Rattle.qd_hist_rules.specs.declared.item.HistItem.{HistItem}
use Rattle.qd_hist_rules.specs.Moments.{HistMoment, events, given, begins}
use Rattle.qd_hist_rules.specs.Source.{source, Commit, commits, last, count}
use Rattle.qd_hist_rules.specs.Agent as agent
use Rattle.qd_hist_rules.specs.Agent.{agent_floor, begin_moment, since_begin_given, after_end, at_end, snapshot, numbered, shares_after, shares_since_begin, with_item, with_items}
use Rattle.qd_hist_rules.specs.Standing.{standing, is_begun, is_ended, has_overflowed}
use Rattle.qd_hist_rules.specs.Lawful.{Lawful, LawfulItem, bare_flags, is_event, same_cells, at_index, snapshot_before, width_of}
use Rattle.qd_hist_rules.specs.Snapshots.{AllAbove, Inside}
use Rattle.qd_hist_rules.proofs.ActFacts.{self_pair, is_subscribed, given_now}
use Rattle.qd_hist_rules.proofs.Begun.{meets, last_quiet, begin_stays, begin_now}
use Rattle.qd_hist_rules.proofs.OneLog.{begun_now}
use Rattle.qd_hist_rules.proofs.Shares.{floor_given, shares_given, snapshot_given, owed_falls}
use Rattle.qd_hist_rules.proofs.Serve.{Fits}
use Rattle.qd_hist_rules.proofs.AllFit.{all_fit, none_after_last, filter_none}
use Rattle.qd_hist_rules.proofs.EndedFit.{and_false, map_now, ended_fit, owed_lawful}
use Rattle.qd_hist_rules.proofs.LastCommits.{last_found, begin_not_after, none_given_beyond}
use Rattle.qd_hist_rules.proofs.SnapshotItems.{none_at, kept_lawful, shared_lawful, at_floor_lawful}
use Rattle.qd_hist_feed.specs.declared.feed.Stage.{Stage}
use Rattle.qd_hist_feed.specs.declared.feed.Stage.TheVariants.{Waiting, Sweeping, Ended}
use Rattle.qd_hist_feed.specs.Feeding.{Feeding, kept_item, end_item, cells_on, sweep_item, stage_after, top, found_from, next_by, next_item, left_by_next, after_next}
use Rattle.qd_hist_feed.specs.Stands.{AllOwed, Sweeps, StandsBy, StandsFor}
use Rattle.qd_hist_feed.specs.Laws.{CanGive}
use Rattle.qd_hist_feed.proofs.InOrder.{at_cons, with_items_at}
use Rattle.qd_hist_feed.proofs.Sweeping.{owed_with, owed_is}
use Rattle.qd_hist_feed.proofs.Flagged.{kept_flags, ending_flags}
use Rattle.qd_hist_feed.proofs.Found.{Finds, finds, finds_none, entries_map, width_is}

-- an item of a sweep, at its turn: B are the items of the snapshot before it
record Turn (t : Terms) (a : ℕ) (k : Key) (f : AgentFloor) (c : Commit) (B : List HistItem) (place : ℕ) (m : HistMoment) (i : HistItem) : Type 0 where
  within : Inside t a k i m
  floor_same : within.floor ≡ f
  last_is : last t.base k m ≡ Some c
  later : within.begin_c.number ≤ c.number
  before_is : snapshot_before a k i m ≡ B
  now_is : snapshot a k (Gave a k i ∷ m) ≡ i ∷ B
  at_floor : f.index ≤ place
  above : AllAbove place B
  shows : (q : ℕ) → place < q → left_by (events B) q ≡ c.shown.map q
  counts : (q : ℕ) → at_index q B ≤ 1 + at_index q (shares_since_begin t.base a k (Gave a k i ∷ m))
  sub : subscribed a k m ≡ true

wanted_now : (a : ℕ) (k : Key) (i : HistItem) (m : HistMoment) → subscribed a k m ≡ true → wanted k (Gave a k i ∷ m) ≡ true
wanted_now a k i m s = wanted-subscribed a k (Gave a k i ∷ m) (subscribed-gave a k a k i m ∙ s)

begins_not : (a : ℕ) (k : Key) (i : HistItem) → is_begin i.event ≡ false → begins a k (Gave a k i) ≡ false
begins_not a k i h = and_false (is_pair a k a k) (is_begin i.event) h

-- the first item of a snapshot
turn_begin : (t : Terms) (a : ℕ) (k : Key) (f : AgentFloor) (c : Commit) (m : HistMoment) (i : HistItem) → agent_floor t.base a k m ≡ Some f → last t.base k m ≡ Some c
    → (not (is_begun t a k m) || has_overflowed t a k m) ≡ true → f.index ≤ top → ((q : ℕ) → top < q → c.shown.map q ≡ None) → is_begin i.event ≡ true → Turn t a k f c [] top m i
turn_begin t a k f c m i fl l may le high b =
    let x = meets (limit_of a k m) (last t.base k m) (ap is_some fl) in
    let s : subscribed a k m ≡ true = is_subscribed a k m ∙ ap is_some x.2 in
    let ls = last_quiet t.base k (Gave a k i) m refl (wanted_now a k i m s) ∙ l in
    record {
      within = record {
        may = record { fits = ap is_some fl; begin_first = λ n. b; begin_where = λ y. may };
        going = inl b;
        unfinished = λ e n. cc (b, n);
        no_end = ap (λ (is : List HistItem). first_end (events is)) (if_true (is_begin i.event) [] (snapshot a k m) b);
        begin_c = c;
        begin_is = ap (λ (x : HistMoment). last t.base k x) (begin_now a k (Gave a k i) m (and_from (is_pair a k a k) (is_begin i.event) (self_pair a k) b)) ∙ ls;
        floor = f;
        floor_is = fl;
      };
      floor_same = refl;
      last_is = l;
      later = omega arith;
      before_is = if_true (is_begin i.event) [] (snapshot a k m) b;
      now_is = ap since_begin_given (given_now a k i m) ∙ if_true (is_begin i.event) (i ∷ []) (i ∷ since_begin_given (given a k m)) b;
      at_floor = le;
      above = tt;
      shows = λ q lt. sym (high q lt);
      counts = λ q. omega arith;
      sub = s;
    }

pub not_ended : (t : Terms) (a : ℕ) (k : Key) (m : HistMoment) → first_end (events (snapshot a k m)) ≡ None → is_ended t a k m ≡ true → ⊥
not_ended t a k m n e =
    let x = (and_parts (is_begun t a k m) (is_some (first_end (events (snapshot a k m)))) e).1 in
    let y : false ≡ true = sym (ap is_some n) ∙ x in
    cc y

-- inside a snapshot that goes on
inside_sweep : (t : Terms) (a : ℕ) (k : Key) (place : ℕ) (owed : List HistItem) (m : HistMoment) (i : HistItem) → Lawful t m → (s : Sweeps t a k place owed m) → is_begin i.event ≡ false
    → (w : Inside t a k i m) × (w.floor ≡ s.floor) × (w.begin_c.number ≤ s.last_c.number)
inside_sweep t a k place owed m i w s nb =
    let A = all_fit t a k m w s.begun in (
      record {
        may = record { fits = ap is_some s.floor_is; begin_first = λ n. absurd (never n s.begun); begin_where = λ x. absurd (never nb x) };
        going = inr (nb, s.begun);
        unfinished = λ e n. not_ended t a k m s.no_end e;
        no_end = ap (λ (is : List HistItem). first_end (events is)) (if_false (is_begin i.event) [] (snapshot a k m) nb) ∙ s.no_end;
        begin_c = A.begin_c;
        begin_is = ap (λ (x : HistMoment). last t.base k x) (begin_stays a k (Gave a k i) m (begins_not a k i nb)) ∙ A.begin_is;
        floor = s.floor;
        floor_is = s.floor_is;
      },
      refl,
      begin_not_after t.base a k m A.begin_c s.last_c A.begin_is s.last_is,
    )
  where
    never : {b : Bool} → b ≡ false → b ≡ true → ⊥
    never p q = cc (p, q)

sub_begun : (t : Terms) (a : ℕ) (k : Key) (m : HistMoment) → is_begun t a k m ≡ true → subscribed a k m ≡ true
sub_begun t a k m h = (and_parts (subscribed a k m) (standing t a m k).begin_given h).0

shares_gave : (t : Terms) (a : ℕ) (k : Key) (i : HistItem) (m : HistMoment) → subscribed a k m ≡ true → is_begin i.event ≡ false → shares_since_begin t.base a k (Gave a k i ∷ m) ≡ shares_since_begin t.base a k m
shares_gave t a k i m s nb =
    ap (λ (x : HistMoment). shares_after t.base a k (Gave a k i ∷ m) (count t.base x)) (begin_stays a k (Gave a k i) m (begins_not a k i nb)) ∙ shares_given t.base a k (count t.base (begin_moment a k m)) i m s

turn_sweep : (t : Terms) (a : ℕ) (k : Key) (place : ℕ) (m : HistMoment) (i : HistItem) → Lawful t m → (s : Sweeps t a k place [] m) → is_begin i.event ≡ false → Turn t a k s.floor s.last_c (snapshot a k m) place m i
turn_sweep t a k place m i w s nb =
    let x = inside_sweep t a k place [] m i w s nb in
    let sub = sub_begun t a k m s.begun in
    record {
      within = x.0;
      floor_same = x.1;
      last_is = s.last_is;
      later = x.2;
      before_is = if_false (is_begin i.event) [] (snapshot a k m) nb;
      now_is = snapshot_given a k i m nb;
      at_floor = s.at_floor;
      above = s.above;
      shows = s.shows;
      counts = λ q. let y = ap (λ (is : List HistItem). at_index q is) (shares_gave t a k i m sub nb) in let z = s.counts q in omega (arith, y, z);
      sub = sub;
    }

all_lower : (x place : ℕ) (ds : List HistItem) → x ≤ place → AllAbove place ds → AllAbove x ds
all_lower x place [] le w = tt
all_lower x place (d ∷ ds) le w = (let y : place < d.event.index = w.0 in omega arith, all_lower x place ds le w.1)

-- items above a place leave nothing at or below it
left_none : (place q : ℕ) (ds : List HistItem) → AllAbove place ds → q ≤ place → left_by (events ds) q ≡ None
left_none place q [] w le = refl
left_none place q (d ∷ ds) w le =
    if_false (d.event.index == q) (if is_remove d.event then None else Some d.event.cells) (left_by (events ds) q) (ne_eqb d.event.index q (λ e. let y : place < d.event.index = w.0 in omega (arith, e)))
    ∙ left_none place q ds w.1 le

no_end_now : (i : HistItem) (B : List HistItem) → first_end (events B) ≡ None → ends i.event ≡ false → first_end (i.event ∷ events B) ≡ None
no_end_now i B h n = ap (λ (o : Option Event). if is_some o then o else if ends i.event then Some i.event else None) h ∙ if_false (ends i.event) (Some i.event) None n

-- a kept item: its index is the greatest one at or below the place, and above the floor
record IsKept (c : Commit) (f : AgentFloor) (place : ℕ) (i : HistItem) : Type 0 where
  no_number : i.at ≡ None
  ends_none : ends i.event ≡ false
  bare : bare_flags i.event ≡ 0
  sets : is_remove i.event ≡ false
  over_floor : f.index < i.event.index
  below : i.event.index ≤ place
  there : c.shown.map i.event.index ≡ Some i.event.cells
  none_between : (q : ℕ) → i.event.index < q → q ≤ place → c.shown.map q ≡ None

kept_turn : (t : Terms) (a : ℕ) (k : Key) (f : AgentFloor) (c : Commit) (B : List HistItem) (place : ℕ) (m : HistMoment) (i : HistItem) → Turn t a k f c B place m i → IsKept c f place i
    → LawfulItem t a k i m × Sweeps t a k (i.event.index - 1) [] (Gave a k i ∷ m)
kept_turn t a k f c B place m i T g =
    let fs : T.within.floor.index ≡ f.index = ap (λ (x : AgentFloor). x.index) T.floor_same in
    let gf : f.index < i.event.index = g.over_floor in
    let gb : i.event.index ≤ place = g.below in (
      kept_lawful t a k i m (record {
        within = T.within;
        no_number = g.no_number;
        ends_none = g.ends_none;
        bare = g.bare;
        at_floor = omega (arith, fs, gf);
        n = c.number;
        kept_c = c;
        found = last_found t.base k m c T.last_is;
        later = T.later;
        cells_is = g.there;
        above = subst (λ (is : List HistItem). AllAbove i.event.index is) (sym T.before_is) (all_lower i.event.index place B gb T.above);
      }),
      record {
        begun = begun_now t a k i m T.sub T.within.may;
        no_end = ap (λ (is : List HistItem). first_end (events is)) T.now_is ∙ no_end_now i B none g.ends_none;
        floor = T.within.floor;
        floor_is = floor_given t.base a k i m T.sub ∙ T.within.floor_is;
        at_floor = omega (arith, fs, gf);
        last_c = c;
        last_is = last_quiet t.base k (Gave a k i) m refl (wanted_now a k i m T.sub) ∙ T.last_is;
        above = subst (λ (is : List HistItem). AllAbove (i.event.index - 1) is) (sym T.now_is) (omega (arith, gf), all_lower (i.event.index - 1) place B (omega (arith, gb)) T.above);
        each = tt;
        shows = λ q lt. ap (λ (is : List HistItem). left_by (events is) q) T.now_is ∙ shown q lt (cases_order i.event.index q) (cases_order place q);
        fewer = omega arith;
        counts = λ q. let x = ap (λ (is : List HistItem). at_index q is) T.now_is in let y = at_cons q i B in counted q x y (cases_Bool (i.event.index == q));
      },
    )
  where
    none : first_end (events B) ≡ None
    none = sym (ap (λ (is : List HistItem). first_end (events is)) T.before_is) ∙ T.within.no_end

    shown : (q : ℕ) → i.event.index - 1 < q → (i.event.index ≡ q) ⊎ ((i.event.index < q) ⊎ (q < i.event.index)) → (place ≡ q) ⊎ ((place < q) ⊎ (q < place)) → left_by (i.event ∷ events B) q ≡ c.shown.map q
    shown q lt (inl e) o =
        subst (λ (q : ℕ). left_by (i.event ∷ events B) q ≡ c.shown.map q) e
        (if_true (i.event.index == i.event.index) (if is_remove i.event then None else Some i.event.cells) (left_by (events B) i.event.index) (eq-eqb i.event.index i.event.index refl)
        ∙ if_false (is_remove i.event) None (Some i.event.cells) g.sets ∙ sym g.there)
    shown q lt (inr (inr gt)) o = absurd (let gf : f.index < i.event.index = g.over_floor in omega arith)
    shown q lt (inr (inl up)) o =
        if_false (i.event.index == q) (if is_remove i.event then None else Some i.event.cells) (left_by (events B) q) (ne_eqb i.event.index q (λ e. omega (arith, e, up))) ∙ at o
      where
        at : (place ≡ q) ⊎ ((place < q) ⊎ (q < place)) → left_by (events B) q ≡ c.shown.map q
        at (inl e) = left_none place q B T.above (omega (arith, e)) ∙ sym (g.none_between q up (omega (arith, e)))
        at (inr (inl h)) = T.shows q h
        at (inr (inr h)) = left_none place q B T.above (omega (arith, h)) ∙ sym (g.none_between q up (omega (arith, h)))

    counted : (q : ℕ) → at_index q (snapshot a k (Gave a k i ∷ m)) ≡ at_index q (i ∷ B) → at_index q (i ∷ B) ≡ cond (i.event.index == q) 1 0 + at_index q B → ((i.event.index == q) ≡ true) ⊎ ((i.event.index == q) ≡ false)
        → at_index q (snapshot a k (Gave a k i ∷ m)) + at_index q [] ≤ 1 + at_index q (shares_since_begin t.base a k (Gave a k i ∷ m))
    counted q x y (inl e) =
        let s : i.event.index ≡ q = eqb-true i.event.index q e in
        let gb : i.event.index ≤ place = g.below in
        let z : at_index q B ≡ 0 = none_at q B (all_lower q place B (omega (arith, s, gb)) T.above) in
        let v = ap {B = ℕ} (λ (b : Bool). cond b 1 0) e in
        omega (arith, x, y, z, v)
    counted q x y (inr e) =
        let v = ap {B = ℕ} (λ (b : Bool). cond b 1 0) e in
        let z = T.counts q in
        omega (arith, x, y, z, v)

drop_nil : (n : ℕ) → drop {A = HistItem} n [] ≡ []
drop_nil zero = refl
drop_nil (suc n) = refl

-- the item at the floor, where nothing above it is left
record IsEnd (t : Terms) (k : Key) (c : Commit) (f : AgentFloor) (place : ℕ) (m : HistMoment) (i : HistItem) : Type 0 where
  number_is : i.at ≡ Some c.number
  index_is : i.event.index ≡ f.index
  end_is : is_end i.event ≡ not f.by_snip
  snip_is : is_snip i.event ≡ f.by_snip
  closed : is_pending i.event ≡ false
  none_above : (q : ℕ) → f.index < q → q ≤ place → c.shown.map q ≡ None
  there : ((bare_flags i.event ≡ 0) × (is_remove i.event ≡ false) × (c.shown.map f.index ≡ Some i.event.cells))
      ⊎ ((bare_flags i.event ≡ 2) × (is_remove i.event ≡ true) × (c.shown.map f.index ≡ None) × (i.event.cells ≡ replicate (width_of (source k m)) (pos 0)))

end_turn : (t : Terms) (a : ℕ) (k : Key) (f : AgentFloor) (c : Commit) (B : List HistItem) (place : ℕ) (m : HistMoment) (i : HistItem) → Lawful t m → Turn t a k f c B place m i → IsEnd t k c f place m i
    → LawfulItem t a k i m × (is_ended t a k (Gave a k i ∷ m) ≡ true) × ([] ≡ agent.owed t.base a k (Gave a k i ∷ m))
end_turn t a k f c B place m i w T g =
    let fs : T.within.floor ≡ f = T.floor_same in (
      at_floor_lawful t a k i m (record {
        within = T.within;
        n = c.number;
        shown_c = c;
        number_is = g.number_is;
        found = last_found t.base k m c T.last_is;
        shown_number = refl;
        later = T.later;
        none_above = none_given_beyond t a k c.number m w (none_after_last t.base k m c T.last_is);
        index_is = g.index_is ∙ sym (ap (λ (x : AgentFloor). x.index) fs);
        end_is = g.end_is ∙ sym (ap (λ (x : AgentFloor). not x.by_snip) fs);
        snip_is = g.snip_is ∙ sym (ap (λ (x : AgentFloor). x.by_snip) fs);
        closed = g.closed;
        above = subst (λ (is : List HistItem). AllAbove i.event.index is) (sym T.before_is) (all_lower i.event.index place B (let x : i.event.index ≡ f.index = g.index_is in let y : f.index ≤ place = T.at_floor in omega (arith, x, y)) T.above);
        shows = λ q lt. ap (λ (is : List HistItem). left_by (events is) q) T.before_is ∙ shown q (let x = ap {B = ℕ} (λ (x : AgentFloor). x.index) fs in omega (arith, x, lt)) (cases_order place q);
        there = subst (λ (x : AgentFloor). ((bare_flags i.event ≡ 0) × (is_remove i.event ≡ false) × (c.shown.map x.index ≡ Some i.event.cells))
            ⊎ ((bare_flags i.event ≡ 2) × (is_remove i.event ≡ true) × (c.shown.map x.index ≡ None) × (i.event.cells ≡ replicate (width_of (source k m)) (pos 0)))) (sym fs) g.there;
      }),
      and_from (is_begun t a k (Gave a k i ∷ m)) (is_some (first_end (events (snapshot a k (Gave a k i ∷ m))))) (begun_now t a k i m T.sub T.within.may)
          (ap (λ (is : List HistItem). is_some (first_end (events is))) T.now_is ∙ ap (λ (o : Option Event). is_some (if is_some o then o else if ends i.event then Some i.event else None)) none
          ∙ ap is_some (if_true (ends i.event) (Some i.event) None ends_i)),
      sym no_more,
    )
  where
    none : first_end (events B) ≡ None
    none = sym (ap (λ (is : List HistItem). first_end (events is)) T.before_is) ∙ T.within.no_end

    ends_i : ends i.event ≡ true
    ends_i = ap (λ (b : Bool). b || is_snip i.event) g.end_is ∙ ap (λ (b : Bool). not f.by_snip || b) g.snip_is ∙ either f.by_snip
      where
        either : (b : Bool) → (not b || b) ≡ true
        either true = refl
        either false = refl

    shown : (q : ℕ) → f.index < q → (place ≡ q) ⊎ ((place < q) ⊎ (q < place)) → left_by (events B) q ≡ c.shown.map q
    shown q lt (inl e) = left_none place q B T.above (omega (arith, e)) ∙ sym (g.none_above q lt (omega (arith, e)))
    shown q lt (inr (inl h)) = T.shows q h
    shown q lt (inr (inr h)) = left_none place q B T.above (omega (arith, h)) ∙ sym (g.none_above q lt (omega (arith, h)))

    no_shares : shares_after t.base a k (Gave a k i ∷ m) c.number ≡ []
    no_shares = ap (λ (cs : List Commit). reverse (flat_map (λ (d : Commit). numbered d.number (agent.share t.base a k (Gave a k i ∷ m) d)) cs)) (filter_none c.number (commits t.base k m) (none_after_last t.base k m c T.last_is))

    no_more : agent.owed t.base a k (Gave a k i ∷ m) ≡ []
    no_more =
        owed_is t.base a k (Gave a k i ∷ m) (at_end (snapshot a k (Gave a k i ∷ m)))
        ∙ ap (λ (is : List HistItem). owed_with t.base a k (Gave a k i ∷ m) is (at_end is)) T.now_is
        ∙ ap (λ (o : Option Event). owed_with t.base a k (Gave a k i ∷ m) (i ∷ B) (if is_some o then at_end B else i.at)) none
        ∙ ap (λ (o : Option ℕ). owed_with t.base a k (Gave a k i ∷ m) (i ∷ B) o) g.number_is
        ∙ ap (λ (xs : List HistItem). drop (length (after_end (i ∷ B))) xs) no_shares ∙ drop_nil (length (after_end (i ∷ B)))

kept_begin : (b : Bool) (k : Key) (x : ℕ × Cells) → is_begin (kept_item b k x).event ≡ b
unfolding is_begin
kept_begin b k x = (kept_flags b).begins

kept_no_end : (b : Bool) (k : Key) (x : ℕ × Cells) → is_end (kept_item b k x).event ≡ false
unfolding is_end
kept_no_end b k x = (kept_flags b).no_end

kept_no_snip : (b : Bool) (k : Key) (x : ℕ × Cells) → is_snip (kept_item b k x).event ≡ false
unfolding is_snip
kept_no_snip b k x = (kept_flags b).no_snip

kept_sets : (b : Bool) (k : Key) (x : ℕ × Cells) → is_remove (kept_item b k x).event ≡ false
unfolding is_remove
kept_sets b k x = (kept_flags b).sets

kept_ends : (b : Bool) (k : Key) (x : ℕ × Cells) → ends (kept_item b k x).event ≡ false
kept_ends b k x = ap (λ (c : Bool). c || is_snip (kept_item b k x).event) (kept_no_end b k x) ∙ kept_no_snip b k x

abbrev removed : Option Cells → Bool
removed None = true
removed (Some cells) = false

end_begin : (b : Bool) (k : Key) (f : AgentFloor) (w : Option ℕ) (n : ℕ) (o : Option Cells) → is_begin (end_item b k f w n o).event ≡ b
unfolding is_begin
end_begin b k f w n None = (ending_flags b f.by_snip true).begins
end_begin b k f w n (Some x) = (ending_flags b f.by_snip false).begins

end_end : (b : Bool) (k : Key) (f : AgentFloor) (w : Option ℕ) (n : ℕ) (o : Option Cells) → is_end (end_item b k f w n o).event ≡ not f.by_snip
unfolding is_end
end_end b k f w n None = (ending_flags b f.by_snip true).ends
end_end b k f w n (Some x) = (ending_flags b f.by_snip false).ends

end_snip : (b : Bool) (k : Key) (f : AgentFloor) (w : Option ℕ) (n : ℕ) (o : Option Cells) → is_snip (end_item b k f w n o).event ≡ f.by_snip
unfolding is_snip
end_snip b k f w n None = (ending_flags b f.by_snip true).snips
end_snip b k f w n (Some x) = (ending_flags b f.by_snip false).snips

end_remove : (b : Bool) (k : Key) (f : AgentFloor) (w : Option ℕ) (n : ℕ) (o : Option Cells) → is_remove (end_item b k f w n o).event ≡ removed o
unfolding is_remove
end_remove b k f w n None = (ending_flags b f.by_snip true).removes
end_remove b k f w n (Some x) = (ending_flags b f.by_snip false).removes

end_closed : (b : Bool) (k : Key) (f : AgentFloor) (w : Option ℕ) (n : ℕ) (o : Option Cells) → is_pending (end_item b k f w n o).event ≡ false
unfolding is_pending
end_closed b k f w n None = (ending_flags b f.by_snip true).closed
end_closed b k f w n (Some x) = (ending_flags b f.by_snip false).closed

end_number : (b : Bool) (k : Key) (f : AgentFloor) (w : Option ℕ) (n : ℕ) (o : Option Cells) → (end_item b k f w n o).at ≡ Some n
end_number b k f w n None = refl
end_number b k f w n (Some x) = refl

end_index : (b : Bool) (k : Key) (f : AgentFloor) (w : Option ℕ) (n : ℕ) (o : Option Cells) → (end_item b k f w n o).event.index ≡ f.index
end_index b k f w n None = refl
end_index b k f w n (Some x) = refl

-- the item that ends a sweep which finds nothing above the floor
end_is : (t : Terms) (k : Key) (c : Commit) (f : AgentFloor) (place : ℕ) (m : HistMoment) (b : Bool) (w : ℕ) (o : Option Cells) → w ≡ width_of (source k m) → c.shown.map f.index ≡ o
    → ((q : ℕ) → f.index < q → q ≤ place → c.shown.map q ≡ None) → IsEnd t k c f place m (end_item b k f (Some w) c.number o)
end_is t k c f place m b w o wd at none = record {
  number_is = end_number b k f (Some w) c.number o;
  index_is = end_index b k f (Some w) c.number o;
  end_is = end_end b k f (Some w) c.number o;
  snip_is = end_snip b k f (Some w) c.number o;
  closed = end_closed b k f (Some w) c.number o;
  none_above = none;
  there = go o at;
}
  where
    go : (o : Option Cells) → c.shown.map f.index ≡ o
        → ((bare_flags (end_item b k f (Some w) c.number o).event ≡ 0) × (is_remove (end_item b k f (Some w) c.number o).event ≡ false) × (c.shown.map f.index ≡ Some (end_item b k f (Some w) c.number o).event.cells))
        ⊎ ((bare_flags (end_item b k f (Some w) c.number o).event ≡ 2) × (is_remove (end_item b k f (Some w) c.number o).event ≡ true) × (c.shown.map f.index ≡ None) × ((end_item b k f (Some w) c.number o).event.cells ≡ replicate (width_of (source k m)) (pos 0)))
    go None at = inr ((ending_flags b f.by_snip true).bare, end_remove b k f (Some w) c.number None, at, ap (λ (x : ℕ). replicate x (pos 0)) wd)
    go (Some x) at = inl ((ending_flags b f.by_snip false).bare, end_remove b k f (Some w) c.number (Some x), at)

-- an item of a sweep is lawful, and the feed that is left stands for it
abbrev Gives : Terms → ℕ → Key → AgentFloor → ℕ → Option ℕ → Bool → HistMoment → Option (ℕ × Cells) → Type 0
Gives t a k f n w b m o = LawfulItem t a k (sweep_item b k f w n o) m × StandsBy (stage_after f.index o) [] t a k (Gave a k (sweep_item b k f w n o) ∷ m)

abbrev GivesIf : Terms → ℕ → Key → AgentFloor → ℕ → Option ℕ → Bool → HistMoment → ℕ × Cells → Bool → Type 0
GivesIf t a k f n w b m p c =
    LawfulItem t a k (if c then kept_item b k p else end_item b k f w n (cells_on f.index p)) m
    × StandsBy (if c then Sweeping (p.0 - 1) else Ended) [] t a k (Gave a k (if c then kept_item b k p else end_item b k f w n (cells_on f.index p)) ∷ m)

-- what a sweep gives, where each item with or without BEGIN has its turn
sweep_gives : (t : Terms) (a : ℕ) (k : Key) (f : AgentFloor) (c : Commit) (B : List HistItem) (place : ℕ) (m : HistMoment) (state : Kept) (b : Bool) → Lawful t m → last t.base k m ≡ Some c → keeping.StandsFor state (source k m) → f.index ≤ place
    → ((i : HistItem) → is_begin i.event ≡ b → Turn t a k f c B place m i) → Gives t a k f c.number state.width b m (found_from place state)
sweep_gives t a k f c B place m state b w l st le turn = go (entry_at_or_below place state.now.entries) refl
  where
    wd : state.width ≡ Some (width_of (source k m))
    wd = width_is t.base k m c state l st

    mp : (q : ℕ) → c.shown.map q ≡ cells_at state.now.entries q
    mp q = sym (entries_map t.base k m c state l st q)

    kept : (x : Entry) → Finds state.now.entries place x → nat_lt f.index x.index ≡ true → Gives t a k f c.number state.width b m (Some (x.index, x.cells))
    kept x F h =
        let I = kept_item b k (x.index, x.cells) in
        let r = kept_turn t a k f c B place m I (turn I (kept_begin b k (x.index, x.cells))) (record {
          no_number = refl;
          ends_none = kept_ends b k (x.index, x.cells);
          bare = (kept_flags b).bare;
          sets = kept_sets b k (x.index, x.cells);
          over_floor = ltb-true f.index x.index h;
          below = F.below;
          there = mp x.index ∙ F.there;
          none_between = λ q lt up. mp q ∙ F.none_between q lt up;
        }) in
        subst (λ (d : Bool). GivesIf t a k f c.number state.width b m (x.index, x.cells) d) (sym h) (r.0, r.1)

    ended : (o : Option Cells) → c.shown.map f.index ≡ o → ((q : ℕ) → f.index < q → q ≤ place → c.shown.map q ≡ None)
        → LawfulItem t a k (end_item b k f state.width c.number o) m × StandsBy Ended [] t a k (Gave a k (end_item b k f state.width c.number o) ∷ m)
    ended o at none =
        let W = width_of (source k m) in
        let I = end_item b k f (Some W) c.number o in
        let r = end_turn t a k f c B place m I w (turn I (end_begin b k f (Some W) c.number o)) (end_is t k c f place m b W o refl at none) in
        subst (λ (v : Option ℕ). LawfulItem t a k (end_item b k f v c.number o) m × StandsBy Ended [] t a k (Gave a k (end_item b k f v c.number o) ∷ m)) (sym wd) (r.0, (r.1, r.2))

    low : (x : Entry) → Finds state.now.entries place x → nat_lt f.index x.index ≡ false → (e : Bool) → (x.index == f.index) ≡ e → c.shown.map f.index ≡ (if e then Some x.cells else None)
    low x F h true e = let s : x.index ≡ f.index = eqb-true x.index f.index e in ap (λ (q : ℕ). c.shown.map q) (sym s) ∙ mp x.index ∙ F.there
    low x F h false e =
        let ne = eqb-false x.index f.index e in
        let ge = ltb-false f.index x.index h in
        mp f.index ∙ F.none_between f.index (strict ne ge) le
      where
        strict : (x.index ≡ f.index → ⊥) → x.index ≤ f.index → x.index < f.index
        strict ne ge = by_order (cases_order x.index f.index) ne ge
          where
            by_order : (x.index ≡ f.index) ⊎ ((x.index < f.index) ⊎ (f.index < x.index)) → (x.index ≡ f.index → ⊥) → x.index ≤ f.index → x.index < f.index
            by_order (inl e) ne ge = absurd (ne e)
            by_order (inr (inl lt)) ne ge = lt
            by_order (inr (inr gt)) ne ge = absurd (omega arith)

    found : (x : Entry) → Finds state.now.entries place x → (nat_lt f.index x.index ≡ true) ⊎ (nat_lt f.index x.index ≡ false) → Gives t a k f c.number state.width b m (Some (x.index, x.cells))
    found x F (inl h) = kept x F h
    found x F (inr h) =
        let ge = ltb-false f.index x.index h in
        subst (λ (d : Bool). GivesIf t a k f c.number state.width b m (x.index, x.cells) d) (sym h)
        (ended (cells_on f.index (x.index, x.cells)) (low x F h (x.index == f.index) refl) (λ q lt up. mp q ∙ F.none_between q (omega (arith, ge, lt)) up))

    go : (o : Option Entry) → entry_at_or_below place state.now.entries ≡ o → Gives t a k f c.number state.width b m (option_map pair_of o)
    go None e = ended None (mp f.index ∙ finds_none state.now.entries place f.index e le) (λ q lt up. mp q ∙ finds_none state.now.entries place q e up)
    go (Some x) e = found x (finds state.now.entries place x st.now.falls e) (cases_Bool (nat_lt f.index x.index))

-- an event of a share is counted among them
any_counted : (e : Event) (ds : List HistItem) → list_any (λ d. is_event e d.event) ds ≡ true → 0 < at_index e.index ds
any_counted e [] h = cc h
any_counted e (d ∷ ds) h = go (is_event e d.event) refl h (any_counted e ds)
  where
    go : (b : Bool) → is_event e d.event ≡ b → (b || list_any (λ d. is_event e d.event) ds) ≡ true → (list_any (λ d. is_event e d.event) ds ≡ true → 0 < at_index e.index ds) → 0 < at_index e.index (d ∷ ds)
    go true q h ih =
        let x = (and_parts (e.index == d.event.index && same_cells e.cells (Some d.event.cells)) (bare_flags e == d.event.flags) q).0 in
        let y = (and_parts (e.index == d.event.index) (same_cells e.cells (Some d.event.cells)) x).0 in
        let s = eq-eqb d.event.index e.index (sym (eqb-true e.index d.event.index y)) in
        let z = at_cons e.index d ds in
        let v = ap {B = ℕ} (λ (b : Bool). cond b 1 0) s in
        omega (arith, z, v)
    go false q h ih = let z = at_cons e.index d ds in let r = ih h in omega (arith, z, r)

passes_if : {X : Type 0} (a b : Bool) (v m : X) → b ≡ true → (if a then v else m) ≡ (if a && b then v else m)
passes_if true b v m h = sym (if_true b v m h)
passes_if false b v m h = refl

-- what is owed inside a snapshot
shared_turn : (t : Terms) (a : ℕ) (k : Key) (place : ℕ) (x : HistItem) (xs : List HistItem) (m : HistMoment) → Lawful t m → Sweeps t a k place (x ∷ xs) m → LawfulItem t a k x m × Sweeps t a k place xs (Gave a k x ∷ m)
shared_turn t a k place x xs m w s =
    let o = s.each.0 in
    let I = inside_sweep t a k place (x ∷ xs) m x w s o.no_begin in
    let sub = sub_begun t a k m s.begun in
    let sh = shares_gave t a k x m sub o.no_begin in
    let sn = snapshot_given a k x m o.no_begin in
    let up : place < x.event.index = o.swept in
    let lo : s.floor.index ≤ place = s.at_floor in (
      shared_lawful t a k x m (record {
        within = I.0;
        no_number = o.no_number;
        ends_none = o.no_end;
        at_floor = let y = ap {B = ℕ} (λ (f : AgentFloor). f.index) I.1 in omega (arith, y, up, lo);
        shared = ap (λ (ds : List HistItem). list_any (λ d. is_event x.event d.event) ds) sh ∙ o.shared;
        counted =
            let y = ap {B = ℕ} (λ (ds : List HistItem). at_index x.event.index ds) (if_false (is_begin x.event) [] (snapshot a k m) o.no_begin) in
            let z = ap {B = ℕ} (λ (ds : List HistItem). at_index x.event.index ds) sh in
            let v = at_cons x.event.index x xs in
            let u = ap {B = ℕ} (λ (b : Bool). cond b 1 0) (eq-eqb x.event.index x.event.index refl) in
            let r = s.counts x.event.index in
            omega (arith, y, z, v, u, r);
        there = let z = ap {B = ℕ} (λ (ds : List HistItem). at_index x.event.index ds) sh in let r = any_counted x.event (shares_since_begin t.base a k m) o.shared in omega (arith, z, r);
      }),
      record {
        begun = begun_now t a k x m sub I.0.may;
        no_end = ap (λ (is : List HistItem). first_end (events is)) sn ∙ no_end_now x (snapshot a k m) s.no_end o.no_end;
        floor = s.floor;
        floor_is = floor_given t.base a k x m sub ∙ s.floor_is;
        at_floor = s.at_floor;
        last_c = s.last_c;
        last_is = last_quiet t.base k (Gave a k x) m refl (wanted_now a k x m sub) ∙ s.last_is;
        above = subst (λ (is : List HistItem). AllAbove place is) (sym sn) (o.swept, s.above);
        each = subst (λ (ds : List HistItem). AllOwed place ds xs) (sym sh) s.each.1;
        shows = λ q lt. ap (λ (is : List HistItem). with_items s.floor.index (left_by (events is)) xs q) sn ∙ with_items_at s.floor.index (left_by (x.event ∷ events (snapshot a k m))) (with_item s.floor.index x (left_by (events (snapshot a k m)))) xs q (one q lt) ∙ s.shows q lt;
        fewer = let y = ap {B = ℕ} (λ (ds : List HistItem). length ds) sh in let z : length (x ∷ xs) ≤ length (shares_since_begin t.base a k m) = s.fewer in omega (arith, y, z);
        counts = λ q.
            let y = ap {B = ℕ} (λ (is : List HistItem). at_index q is) sn in
            let z = ap {B = ℕ} (λ (ds : List HistItem). at_index q ds) sh in
            let v = at_cons q x (snapshot a k m) in
            let u = at_cons q x xs in
            let r = s.counts q in
            omega (arith, y, z, v, u, r);
      },
    )
  where
    one : (q : ℕ) → place < q → left_by (x.event ∷ events (snapshot a k m)) q ≡ with_item s.floor.index x (left_by (events (snapshot a k m))) q
    one q lt =
        passes_if (x.event.index == q) (nat_le s.floor.index q) (if is_remove x.event then None else Some x.event.cells) (left_by (events (snapshot a k m)) q)
        (le-leb s.floor.index q (let lo : s.floor.index ≤ place = s.at_floor in omega (arith, lo, lt)))

some_stays : (o p : Option Event) → is_some o ≡ true → is_some (if is_some o then o else p) ≡ true
some_stays None p h = cc h
some_stays (Some x) p h = refl

-- what is owed after the end of a snapshot
owed_turn : (t : Terms) (a : ℕ) (k : Key) (x : HistItem) (xs : List HistItem) (m : HistMoment) → Lawful t m → is_ended t a k m ≡ true → x ∷ xs ≡ agent.owed t.base a k m
    → LawfulItem t a k x m × ((is_ended t a k (Gave a k x ∷ m) ≡ true) × (xs ≡ agent.owed t.base a k (Gave a k x ∷ m)))
owed_turn t a k x xs m w e o =
    let law = owed_lawful t m w a k x e (ap (λ (is : List HistItem). slice_get is 0) (sym o)) in
    let g = ended_fit t a k m w e in
    let fit = subst (λ (is : List HistItem). Fits t.base k g.floor.index m g.lo (map_now g.floor.index a k m) is) (sym o) g.fits in
    let p = and_parts (is_begun t a k m) (is_some (first_end (events (snapshot a k m)))) e in
    let sub = sub_begun t a k m p.0 in
    let sn = snapshot_given a k x m fit.0 in (
      law,
      (
        and_from (is_begun t a k (Gave a k x ∷ m)) (is_some (first_end (events (snapshot a k (Gave a k x ∷ m))))) (begun_now t a k x m sub law.may_come)
            (ap (λ (is : List HistItem). is_some (first_end (events is))) sn ∙ some_stays (first_end (events (snapshot a k m))) (if ends x.event then Some x.event else None) p.1),
        ap (λ (is : List HistItem). drop 1 is) o ∙ sym (owed_falls t.base a k x m sub p.1 fit.0),
      ),
    )

-- the next item of a feed is lawful, and the feed that is left stands for it
pub gift_stands : (t : Terms) (a : ℕ) (k : Key) (s : Feeding) (f : AgentFloor) (c : Commit) (state : Kept) (m : HistMoment) (i : HistItem) → CanGive t a k f c state m → StandsFor t a k s m → next_item s k state f c.number ≡ Some i
    → LawfulItem t a k i m × StandsFor t a k (after_next s state f) (Gave a k i ∷ m)
gift_stands t a k s f c state m i g h e = go s.stage s.owed h e
  where
    go : (stage : Stage) (owed : List HistItem) → StandsBy stage owed t a k m → next_by stage owed k state f c.number ≡ Some i
        → LawfulItem t a k i m × (let left = left_by_next stage owed state f in StandsBy left.stage left.owed t a k (Gave a k i ∷ m))
    go Waiting [] h e =
        subst (λ (x : HistItem). LawfulItem t a k x m × StandsBy (stage_after f.index (found_from top state)) [] t a k (Gave a k x ∷ m))
        (same_Some (sweep_item true k f state.width c.number (found_from top state)) i e)
        (sweep_gives t a k f c [] top m state true g.lawful g.last_is g.state_is g.floor_low (λ x b. turn_begin t a k f c m x g.floor_is g.last_is h.1 g.floor_low g.high b))
    go Waiting (x ∷ xs) h e = cc h.0
    go (Sweeping place) [] h e =
        let sf : h.floor ≡ f = same_Some h.floor f (sym h.floor_is ∙ g.floor_is) in
        let sc : h.last_c ≡ c = same_Some h.last_c c (sym h.last_is ∙ g.last_is) in
        let le : f.index ≤ place = let x = ap {B = ℕ} (λ (f : AgentFloor). f.index) sf in let y : h.floor.index ≤ place = h.at_floor in omega (arith, x, y) in
        subst (λ (x : HistItem). LawfulItem t a k x m × StandsBy (stage_after f.index (found_from place state)) [] t a k (Gave a k x ∷ m))
        (same_Some (sweep_item false k f state.width c.number (found_from place state)) i e)
        (sweep_gives t a k f c (snapshot a k m) place m state false g.lawful g.last_is g.state_is le
        (λ x b. subst (λ (f : AgentFloor). Turn t a k f c (snapshot a k m) place m x) sf (subst (λ (c : Commit). Turn t a k h.floor c (snapshot a k m) place m x) sc (turn_sweep t a k place m x g.lawful h b))))
    go (Sweeping place) (x ∷ xs) h e =
        let r = shared_turn t a k place x xs m g.lawful h in
        subst (λ (y : HistItem). LawfulItem t a k y m × Sweeps t a k place xs (Gave a k y ∷ m)) (same_Some x i e) (r.0, r.1)
    go Ended [] h e = cc e
    go Ended (x ∷ xs) h e =
        let r = owed_turn t a k x xs m g.lawful h.0 h.1 in
        subst (λ (y : HistItem). LawfulItem t a k y m × ((is_ended t a k (Gave a k y ∷ m) ≡ true) × (xs ≡ agent.owed t.base a k (Gave a k y ∷ m)))) (same_Some x i e) (r.0, r.1)
