-- The items of a snapshot are lawful: kept ones in falling order, events of shares, and the item at the floor.
use Rattle.std.proofs.Common.{◌≡◌, ℕ, ◌+◌, ◌≤◌, ◌<◌, Bool, true, false, ◌&&◌, ◌||◌, ◌==◌, not, List, [], ◌∷◌, refl, sym, ◌∙◌, ap, arith, cond, Option, Some, None, inl, inr, subst}
use Rattle.std.specs.Prelude.{if◌then◌else◌, is_some, option_map, find, nat_le, nat_lt, pos, replicate, ◌⊎◌, IfSome}
use Rattle.std.specs.List.{list_any, fold}
use Rattle.std.proofs.lemmas.Bool.{eq-eqb, and_parts, and_from, le-leb, lt-leb, ne_eqb, lt-ltb, cases_order, or_right, or_left}
use Rattle.std.proofs.Math.Path.{fun_ext}
use Rattle.std.proofs.lemmas.Option.{same_Some}
use Rattle.qd_scheme.specs.declared.key.Key.{Key}
use Rattle.qd_scheme.specs.declared.key.Event.{Event}
use Rattle.qd_scheme.specs.declared.cells.Cells.{Cells}
use Rattle.qd_scheme.specs.Comparing.{int_list_eq_equiv}
use Rattle.qd_flags.specs.Bits.{is_pending, is_remove, is_begin, is_end, is_snip}
use Rattle.qd_flags.specs.Shown.{Shown, shown, shown_from, cut, left_by, ends, has_begin, since_begin, first_end}
use Rattle.qd_flags.proofs.Feeding.{if_true, if_false}
use Rattle.qd_gate.specs.declared.machine.Terms.{Terms}
use Rattle.qd_sub.specs.Acts.{Gave}
use Rattle.qd_sub.specs.Subscriptions.{subscribed}
use Rattle.qd_hist_rules.specs.declared.item.HistItem.{HistItem}
use Rattle.qd_hist_rules.specs.Moments.{HistMoment, events, given}
use Rattle.qd_hist_rules.specs.Source.{source, Commit, commits, last}
use Rattle.qd_hist_rules.specs.declared.floor.AgentFloor.{AgentFloor}
use Rattle.qd_hist_rules.specs.Agent.{agent_floor, begin_moment, snapshot, shares_since_begin}
use Rattle.qd_hist_rules.specs.Standing.{standing, is_begun}
use Rattle.qd_hist_rules.specs.Lawful.{LawfulItem, NumberFits, same_cells, same_bool, bare_flags, not_before, is_kept, is_shared, is_marker, stands_right, at_index, in_order, snapshot_before, is_snapshot_item, width_of, lacks, has_nothing}
use Rattle.qd_hist_rules.specs.Snapshots.{AllAbove, Inside, Kept, Shared, AtFloor}
use Rattle.qd_hist_rules.proofs.ActFacts.{given_now}
use Rattle.qd_hist_rules.proofs.EndedFit.{begun_given, events_since}

found_any : (n : ℕ) (p : Commit → Bool) (b : Commit) (cs : List Commit) → find (λ (c : Commit). c.number == n) cs ≡ Some b → p b ≡ true → list_any p cs ≡ true
found_any n p b [] h q = cc h
found_any n p b (c ∷ cs) h q = go (c.number == n) h (found_any n p b cs)
  where
    go : (t : Bool) → cond t (Some c) (find (λ (c : Commit). c.number == n) cs) ≡ Some b → (find (λ (c : Commit). c.number == n) cs ≡ Some b → p b ≡ true → list_any p cs ≡ true) → (p c || list_any p cs) ≡ true
    go true h ih = let s : b ≡ c = cc h in ap (λ (x : Bool). x || list_any p cs) (ap p (sym s) ∙ q)
    go false h ih = or_right (p c) (list_any p cs) (ih h q)

-- none of them is at or below the index
none_low : (i : ℕ) (shares : List HistItem) (ds : List HistItem) → AllAbove i ds → list_any (λ d. at_index d.event.index shares == 0 && nat_le d.event.index i) ds ≡ false
none_low i shares [] w = refl
none_low i shares (d ∷ ds) w = both (at_index d.event.index shares == 0) (nat_le d.event.index i) (list_any (λ d. at_index d.event.index shares == 0 && nat_le d.event.index i) ds) (lt-leb d.event.index i w.0) (none_low i shares ds w.1)
  where
    both : (a b c : Bool) → b ≡ false → c ≡ false → ((a && b) || c) ≡ false
    both true b c p q = cc (p, q)
    both false b c p q = q

none_fold : (i acc : ℕ) (ds : List HistItem) → AllAbove i ds → fold (λ a x. a + cond (x.event.index == i) 1 0) acc ds ≡ acc
none_fold i acc [] w = refl
none_fold i acc (d ∷ ds) w =
    let ne : (d.event.index == i) ≡ false = ne_eqb d.event.index i (λ e. omega (arith, e, w.0)) in
    ap (λ (b : Bool). fold (λ a x. a + cond (x.event.index == i) 1 0) (acc + cond b 1 0) ds) ne ∙ none_fold i (acc + 0) ds w.1 ∙ omega arith

pub none_at : (i : ℕ) (ds : List HistItem) → AllAbove i ds → at_index i ds ≡ 0
none_at i [] w = refl
none_at i (d ∷ ds) w = none_fold i 0 (d ∷ ds) w

ordered : (shares ds : List HistItem) (e : Event) → AllAbove e.index ds → in_order shares ds e ≡ true
ordered shares ds e w =
    and_from (nat_le (at_index e.index ds) (at_index e.index shares)) (nat_lt 0 (at_index e.index shares) || not (list_any (λ d. at_index d.event.index shares == 0 && nat_le d.event.index e.index) ds))
    (le-leb (at_index e.index ds) (at_index e.index shares) (let z = none_at e.index ds w in omega (arith, z)))
    (or_right (nat_lt 0 (at_index e.index shares)) (not (list_any (λ d. at_index d.event.index shares == 0 && nat_le d.event.index e.index) ds)) (ap not (none_low e.index shares ds w)))

-- the events from the BEGIN on, with an item inside a snapshot
since_now : (t : Terms) (a : ℕ) (k : Key) (i : HistItem) (m : HistMoment) → (is_begin i.event ≡ true) ⊎ ((is_begin i.event ≡ false) × (is_begun t a k m ≡ true))
    → since_begin (i.event ∷ events (given a k m)) ≡ i.event ∷ events (snapshot_before a k i m)
since_now t a k i m (inl b) =
    if_true (is_begin i.event) (i.event ∷ []) (if has_begin (events (given a k m)) then i.event ∷ since_begin (events (given a k m)) else []) b
    ∙ ap (λ (is : List HistItem). i.event ∷ events is) (sym (if_true (is_begin i.event) [] (snapshot a k m) b))
since_now t a k i m (inr x) =
    let hb = begun_given t a k m (and_parts (subscribed a k m) (standing t a m k).begin_given x.1).1 in
    if_false (is_begin i.event) (i.event ∷ []) (if has_begin (events (given a k m)) then i.event ∷ since_begin (events (given a k m)) else []) x.0
    ∙ if_true (has_begin (events (given a k m))) (i.event ∷ since_begin (events (given a k m))) [] hb
    ∙ ap (λ (xs : List Event). i.event ∷ xs) (sym (events_since (given a k m) hb))
    ∙ ap (λ (is : List HistItem). i.event ∷ events is) (sym (if_false (is_begin i.event) [] (snapshot a k m) x.0))

no_shown : (b : Bool) (es : List Event) (o : Option Event) → o ≡ None → (if b then None else option_map {U = Shown} (λ y. record { map = cut y.index (left_by es); floor = y.index; snipped = is_snip y }) o) ≡ None
no_shown true es o h = refl
no_shown false es o h = rw h refl

-- an item inside a snapshot that ends nothing leaves no whole state
not_whole : (t : Terms) (a : ℕ) (k : Key) (i : HistItem) (m : HistMoment) → Inside t a k i m → ends i.event ≡ false → shown (events (given a k (Gave a k i ∷ m))) ≡ None
not_whole t a k i m w e =
    ap (λ (is : List HistItem). shown (events is)) (given_now a k i m)
    ∙ no_shown (is_pending i.event) (since_begin (i.event ∷ events (given a k m))) (first_end (since_begin (i.event ∷ events (given a k m))))
    (ap first_end (since_now t a k i m w.going)
    ∙ ap (λ (o : Option Event). if is_some o then o else if ends i.event then Some i.event else None) w.no_end ∙ if_false (ends i.event) (Some i.event) None e)

pub same_cells_refl : (c : Cells) → same_cells c (Some c) ≡ true
same_cells_refl c = int_list_eq_equiv.refl c

cells_same : (c d : Cells) → c ≡ d → same_cells c (Some d) ≡ true
cells_same c d h = ap (λ (x : Cells). same_cells c (Some x)) (sym h) ∙ same_cells_refl c

-- an item above the floor that ends nothing stands right
right_above : (o : Option AgentFloor) (f : AgentFloor) (e : Event) → o ≡ Some f → f.index ≤ e.index → ends e ≡ false → stands_right o e ≡ true
right_above None f e h le n = cc h
right_above (Some x) f e h le n =
    let s : x.index ≡ f.index = ap (λ (f : AgentFloor). f.index) (same_Some x f h) in
    and_from (nat_le x.index e.index) (not (ends e) || (e.index == x.index && same_bool (is_snip e) x.by_snip && same_bool (is_end e) (not x.by_snip) && not (is_pending e)))
    (le-leb x.index e.index (omega (arith, s, le)))
    (ap (λ (b : Bool). not b || (e.index == x.index && same_bool (is_snip e) x.by_snip && same_bool (is_end e) (not x.by_snip) && not (is_pending e))) n)

in_snap : (t : Terms) (a : ℕ) (k : Key) (i : HistItem) (m : HistMoment)
    → (is_kept t.base a k i.event m (Gave a k i ∷ m) || is_shared t.base a k i.event (Gave a k i ∷ m) || is_marker t.base a k i m) ≡ true
    → stands_right (agent_floor t.base a k m) i.event ≡ true → in_order (shares_since_begin t.base a k (Gave a k i ∷ m)) (snapshot_before a k i m) i.event ≡ true
    → is_snapshot_item t.base a k i m ≡ true
in_snap t a k i m kind right order =
    and_from ((is_kept t.base a k i.event m (Gave a k i ∷ m) || is_shared t.base a k i.event (Gave a k i ∷ m) || is_marker t.base a k i m) && stands_right (agent_floor t.base a k m) i.event) (in_order (shares_since_begin t.base a k (Gave a k i ∷ m)) (snapshot_before a k i m) i.event)
    (and_from (is_kept t.base a k i.event m (Gave a k i ∷ m) || is_shared t.base a k i.event (Gave a k i ∷ m) || is_marker t.base a k i m) (stands_right (agent_floor t.base a k m) i.event) kind right) order

-- cells from a commit that is not before the one at the BEGIN are kept ones
kept_kind : (t : Terms) (a : ℕ) (k : Key) (i : HistItem) (m : HistMoment) (b c : Commit) (n : ℕ) → last t.base k (begin_moment a k (Gave a k i ∷ m)) ≡ Some b → find (λ (c : Commit). c.number == n) (commits t.base k m) ≡ Some c
    → b.number ≤ c.number → c.shown.map i.event.index ≡ Some i.event.cells → bare_flags i.event ≡ 0 → is_kept t.base a k i.event m (Gave a k i ∷ m) ≡ true
kept_kind t a k i m b c n begin_is found later cells bare =
    and_from (bare_flags i.event == 0) (list_any pred (commits t.base k m)) (eq-eqb (bare_flags i.event) 0 bare)
    (found_any n pred c (commits t.base k m) found
    (and_from (not_before (last t.base k (begin_moment a k (Gave a k i ∷ m))) c) (same_cells i.event.cells (c.shown.map i.event.index))
    (ap (λ (o : Option Commit). not_before o c) begin_is ∙ le-leb b.number c.number later)
    (ap (λ (o : Option Cells). same_cells i.event.cells o) cells ∙ same_cells_refl i.event.cells)))
  where
    pred : Commit → Bool
    pred c = not_before (last t.base k (begin_moment a k (Gave a k i ∷ m))) c && same_cells i.event.cells (c.shown.map i.event.index)

pub kept_lawful : (t : Terms) (a : ℕ) (k : Key) (i : HistItem) (m : HistMoment) → Kept t a k i m → LawfulItem t a k i m
kept_lawful t a k i m g = record {
  number_fits = subst (λ (o : Option Shown). NumberFits t a k i m o) (sym (not_whole t a k i m g.within g.ends_none)) g.no_number;
  next_owed = λ e b. absurd (g.within.unfinished e b);
  may_come = g.within.may;
  in_snapshot = λ s. in_snap t a k i m
      (ap (λ (b : Bool). b || is_shared t.base a k i.event (Gave a k i ∷ m) || is_marker t.base a k i m) (kept_kind t a k i m g.within.begin_c g.kept_c g.n g.within.begin_is g.found g.later g.cells_is g.bare))
      (right_above (agent_floor t.base a k m) g.within.floor i.event g.within.floor_is g.at_floor g.ends_none)
      (ordered (shares_since_begin t.base a k (Gave a k i ∷ m)) (snapshot_before a k i m) i.event g.above);
}

or_middle : (a b c : Bool) → b ≡ true → (a || b || c) ≡ true
or_middle true b c h = refl
or_middle false b c h = ap (λ (x : Bool). x || c) h

pub shared_lawful : (t : Terms) (a : ℕ) (k : Key) (i : HistItem) (m : HistMoment) → Shared t a k i m → LawfulItem t a k i m
shared_lawful t a k i m g = record {
  number_fits = subst (λ (o : Option Shown). NumberFits t a k i m o) (sym (not_whole t a k i m g.within g.ends_none)) g.no_number;
  next_owed = λ e b. absurd (g.within.unfinished e b);
  may_come = g.within.may;
  in_snapshot = λ s. in_snap t a k i m
      (or_middle (is_kept t.base a k i.event m (Gave a k i ∷ m)) (is_shared t.base a k i.event (Gave a k i ∷ m)) (is_marker t.base a k i m) g.shared)
      (right_above (agent_floor t.base a k m) g.within.floor i.event g.within.floor_is g.at_floor g.ends_none)
      (and_from (nat_le (at_index i.event.index (snapshot_before a k i m)) (at_index i.event.index (shares_since_begin t.base a k (Gave a k i ∷ m))))
      (nat_lt 0 (at_index i.event.index (shares_since_begin t.base a k (Gave a k i ∷ m))) || not (list_any (λ d. at_index d.event.index (shares_since_begin t.base a k (Gave a k i ∷ m)) == 0 && nat_le d.event.index i.event.index) (snapshot_before a k i m)))
      (le-leb (at_index i.event.index (snapshot_before a k i m)) (at_index i.event.index (shares_since_begin t.base a k (Gave a k i ∷ m))) g.counted)
      (or_left (nat_lt 0 (at_index i.event.index (shares_since_begin t.base a k (Gave a k i ∷ m)))) (not (list_any (λ d. at_index d.event.index (shares_since_begin t.base a k (Gave a k i ∷ m)) == 0 && nat_le d.event.index i.event.index) (snapshot_before a k i m)))
      (lt-ltb 0 (at_index i.event.index (shares_since_begin t.base a k (Gave a k i ∷ m))) g.there)));
}

same_bool_refl : (b c : Bool) → b ≡ c → same_bool b c ≡ true
same_bool_refl true true h = refl
same_bool_refl true false h = cc h
same_bool_refl false true h = cc h
same_bool_refl false false h = refl

pub at_floor_lawful : (t : Terms) (a : ℕ) (k : Key) (i : HistItem) (m : HistMoment) → AtFloor t a k i m → LawfulItem t a k i m
at_floor_lawful t a k i m g = record {
  number_fits = subst (λ (o : Option Shown). NumberFits t a k i m o) (sym whole) (
    g.n,
    g.number_is,
    record {
      commit_n = g.shown_c;
      is_commit = g.found;
      none_above = g.none_above;
      since_begin = subst (λ (o : Option Commit). IfSome o (λ c. c.number ≤ g.n)) (sym g.within.begin_is) g.later;
      map_is = fun_ext (λ (q : ℕ). at q (cases_order i.event.index q));
      floor_is = ap (λ (o : Option AgentFloor). option_map (λ (f : AgentFloor). f.index) o) g.within.floor_is ∙ ap Some (sym g.index_is);
    },
  );
  next_owed = λ e b. absurd (g.within.unfinished e b);
  may_come = g.within.may;
  in_snapshot = λ s. in_snap t a k i m (kind g.there) (right (agent_floor t.base a k m) g.within.floor_is) (ordered (shares_since_begin t.base a k (Gave a k i ∷ m)) (snapshot_before a k i m) i.event g.above);
}
  where
    before : List Event
    before = events (snapshot_before a k i m)

    ends_i : ends i.event ≡ true
    ends_i = ap (λ (b : Bool). b || is_snip i.event) g.end_is ∙ ap (λ (b : Bool). not g.within.floor.by_snip || b) g.snip_is ∙ either g.within.floor.by_snip
      where
        either : (b : Bool) → (not b || b) ≡ true
        either true = refl
        either false = refl

    whole : shown (events (given a k (Gave a k i ∷ m))) ≡ Some (record { map = cut i.event.index (left_by (i.event ∷ before)); floor = i.event.index; snipped = is_snip i.event })
    whole =
        ap (λ (is : List HistItem). shown (events is)) (given_now a k i m)
        ∙ if_false (is_pending i.event) None (shown_from (since_begin (i.event ∷ events (given a k m)))) g.closed
        ∙ ap (λ (xs : List Event). shown_from xs) (since_now t a k i m g.within.going)
        ∙ ap (λ (o : Option Event). option_map {U = Shown} (λ y. record { map = cut y.index (left_by (i.event ∷ before)); floor = y.index; snipped = is_snip y }) o)
        (ap (λ (o : Option Event). if is_some o then o else if ends i.event then Some i.event else None) g.within.no_end ∙ if_true (ends i.event) (Some i.event) None ends_i)

    there_is : ((bare_flags i.event ≡ 0) × (is_remove i.event ≡ false) × (g.shown_c.shown.map g.within.floor.index ≡ Some i.event.cells))
        ⊎ ((bare_flags i.event ≡ 2) × (is_remove i.event ≡ true) × (g.shown_c.shown.map g.within.floor.index ≡ None) × (i.event.cells ≡ replicate (width_of (source k m)) (pos 0)))
        → (if is_remove i.event then None else Some i.event.cells) ≡ g.shown_c.shown.map g.within.floor.index
    there_is (inl x) = if_false (is_remove i.event) None (Some i.event.cells) x.1 ∙ sym x.2
    there_is (inr x) = if_true (is_remove i.event) None (Some i.event.cells) x.1 ∙ sym x.2

    at : (q : ℕ) → (i.event.index ≡ q) ⊎ ((i.event.index < q) ⊎ (q < i.event.index)) → cut i.event.index (left_by (i.event ∷ before)) q ≡ cut i.event.index g.shown_c.shown.map q
    at q (inl e) = subst (λ (q : ℕ). cut i.event.index (left_by (i.event ∷ before)) q ≡ cut i.event.index g.shown_c.shown.map q) e
        (if_true (nat_le i.event.index i.event.index) (left_by (i.event ∷ before) i.event.index) None here
        ∙ if_true (i.event.index == i.event.index) (if is_remove i.event then None else Some i.event.cells) (left_by before i.event.index) (eq-eqb i.event.index i.event.index refl)
        ∙ there_is g.there ∙ ap g.shown_c.shown.map (sym g.index_is)
        ∙ sym (if_true (nat_le i.event.index i.event.index) (g.shown_c.shown.map i.event.index) None here))
      where
        here : nat_le i.event.index i.event.index ≡ true
        here = le-leb i.event.index i.event.index (omega arith)
    at q (inr (inl lt)) =
        let up : nat_le i.event.index q ≡ true = le-leb i.event.index q (omega arith) in
        if_true (nat_le i.event.index q) (left_by (i.event ∷ before) q) None up
        ∙ if_false (i.event.index == q) (if is_remove i.event then None else Some i.event.cells) (left_by before q) (ne_eqb i.event.index q (λ e. omega (arith, e, lt)))
        ∙ g.shows q (let x : i.event.index ≡ g.within.floor.index = g.index_is in omega (arith, x, lt))
        ∙ sym (if_true (nat_le i.event.index q) (g.shown_c.shown.map q) None up)
    at q (inr (inr gt)) =
        let down : nat_le i.event.index q ≡ false = lt-leb i.event.index q gt in
        if_false (nat_le i.event.index q) (left_by (i.event ∷ before) q) None down ∙ sym (if_false (nat_le i.event.index q) (g.shown_c.shown.map q) None down)

    right : (o : Option AgentFloor) → o ≡ Some g.within.floor → stands_right o i.event ≡ true
    right None h = cc h
    right (Some x) h =
        let xs : x ≡ g.within.floor = same_Some x g.within.floor h in
        let ix : i.event.index ≡ x.index = g.index_is ∙ ap (λ (f : AgentFloor). f.index) (sym xs) in
        let a = eq-eqb i.event.index x.index ix in
        let b = same_bool_refl (is_snip i.event) x.by_snip (g.snip_is ∙ ap (λ (f : AgentFloor). f.by_snip) (sym xs)) in
        let c = same_bool_refl (is_end i.event) (not x.by_snip) (g.end_is ∙ ap (λ (f : AgentFloor). not f.by_snip) (sym xs)) in
        let A = i.event.index == x.index in
        let B = same_bool (is_snip i.event) x.by_snip in
        let C = same_bool (is_end i.event) (not x.by_snip) in
        and_from (nat_le x.index i.event.index) (not (ends i.event) || (A && B && C && not (is_pending i.event)))
        (le-leb x.index i.event.index (omega (arith, ix)))
        (or_right (not (ends i.event)) (A && B && C && not (is_pending i.event))
        (and_from (A && B && C) (not (is_pending i.event)) (and_from (A && B) C (and_from A B a b) c) (ap not g.closed)))

    marker : (bare_flags i.event ≡ 2) → (g.shown_c.shown.map g.within.floor.index ≡ None) → (i.event.cells ≡ replicate (width_of (source k m)) (pos 0)) → is_marker t.base a k i m ≡ true
    marker r x w =
        let R = bare_flags i.event == 2 in
        let W = same_cells i.event.cells (Some (replicate (width_of (source k m)) (pos 0))) in
        and_from (R && ends i.event && W) (lacks t.base k i.at i.event.index m)
        (and_from (R && ends i.event) W (and_from R (ends i.event) (eq-eqb (bare_flags i.event) 2 r) ends_i) (cells_same i.event.cells (replicate (width_of (source k m)) (pos 0)) w))
        (ap (λ (o : Option ℕ). lacks t.base k o i.event.index m) g.number_is ∙ ap (λ (o : Option Commit). has_nothing o i.event.index) g.found
        ∙ ap (λ (o : Option Cells). not (is_some o)) (ap g.shown_c.shown.map g.index_is ∙ x))

    kind : ((bare_flags i.event ≡ 0) × (is_remove i.event ≡ false) × (g.shown_c.shown.map g.within.floor.index ≡ Some i.event.cells))
        ⊎ ((bare_flags i.event ≡ 2) × (is_remove i.event ≡ true) × (g.shown_c.shown.map g.within.floor.index ≡ None) × (i.event.cells ≡ replicate (width_of (source k m)) (pos 0)))
        → (is_kept t.base a k i.event m (Gave a k i ∷ m) || is_shared t.base a k i.event (Gave a k i ∷ m) || is_marker t.base a k i m) ≡ true
    kind (inl x) = ap (λ (b : Bool). b || is_shared t.base a k i.event (Gave a k i ∷ m) || is_marker t.base a k i m)
        (kept_kind t a k i m g.within.begin_c g.shown_c g.n g.within.begin_is g.found (let y : g.shown_c.number ≡ g.n = g.shown_number in let z : g.within.begin_c.number ≤ g.n = g.later in omega (arith, y, z))
        (ap g.shown_c.shown.map g.index_is ∙ x.2) x.0)
    kind (inr x) = or_right (is_kept t.base a k i.event m (Gave a k i ∷ m) || is_shared t.base a k i.event (Gave a k i ∷ m)) (is_marker t.base a k i m) (marker x.0 x.2 x.3)
