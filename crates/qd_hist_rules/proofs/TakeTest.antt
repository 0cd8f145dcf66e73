-- A test of which answers to a Take are lawful, that rows can be computed with; every lawful answer passes it.
use Rattle.std.proofs.Common.{◌≡◌, ℕ, zero, suc, ◌≤◌, Bool, true, false, not, ◌&&◌, ◌||◌, ◌==◌, List, [], ◌∷◌, refl, sym, ◌∙◌, ap, Option, Some, None, length, inl, inr}
use Rattle.std.specs.Prelude.{if◌then◌else◌, is_some, option_map, slice_get, nat_le, take, ◌⊎◌, IfSome}
use Rattle.std.specs.List.{list_any}
use Rattle.std.specs.Cmp.Lexicographic.{pointwise}
use Rattle.std.proofs.lemmas.Bool.{eq-eqb, and_from, le-leb}
use Rattle.std.proofs.lemmas.Option.{same_Some}
use Rattle.qd_scheme.specs.declared.key.Key.{Key}
use Rattle.qd_scheme.specs.declared.cells.Cells.{Cells}
use Rattle.qd_scheme.specs.Keys.{key_eq}
use Rattle.qd_scheme.proofs.KeyLaws.{key_eq-same}
use Rattle.qd_flags.specs.Bits.{is_begin}
use Rattle.qd_flags.specs.Shown.{Shown, shown, cut, Map}
use Rattle.qd_flags.proofs.Feeding.{if_true}
use Rattle.qd_gate.specs.declared.machine.Terms.{Terms}
use Rattle.qd_sub.specs.Acts.{Gave}
use Rattle.qd_hist_rules.specs.declared.item.HistItem.{HistItem}
use Rattle.qd_hist_rules.specs.Moments.{HistMoment, events, given}
use Rattle.qd_hist_rules.specs.Source.{Commit, commit, last}
use Rattle.qd_hist_rules.specs.declared.floor.AgentFloor.{AgentFloor}
use Rattle.qd_hist_rules.specs.Agent.{agent_floor, begin_moment, owed}
use Rattle.qd_hist_rules.specs.Standing.{is_begun, is_ended, has_overflowed, due_keys}
use Rattle.qd_hist_rules.specs.Lawful.{NoneAbove, ShowsCommit, NumberFits, LawfulItem, is_snapshot_item, same_cells}
use Rattle.qd_hist_rules.specs.Takes.{after_gifts, LawfulItems, turns, each_done, LawfulTake}
use Rattle.qd_hist_rules.proofs.SnapshotItems.{same_cells_refl}

-- maps are compared at the indexes below 64
abbrev pub same_option : Option Cells → Option Cells → Bool
same_option None o = not (is_some o)
same_option (Some d) o = same_cells d o

abbrev pub agree : ℕ → Map → Map → Bool
agree zero m d = true
agree (suc i) m d = same_option (m i) (d i) && agree i m d

abbrev pub at_most : Option ℕ → ℕ → Bool
at_most None m = true
at_most (Some q) m = nat_le q m

abbrev pub number_of : Option Commit → Option ℕ
number_of None = None
number_of (Some d) = Some d.number

abbrev pub floor_is : Option AgentFloor → ℕ → Bool
floor_is None m = false
floor_is (Some f) m = f.index == m

abbrev pub shows : Terms → ℕ → HistItem → HistMoment → ℕ → Shown → Option Commit → Bool
shows t a i m number s None = false
shows t a i m number s (Some d) =
    agree 64 s.map (cut s.floor d.shown.map) && floor_is (agent_floor t.base a i.event.key m) s.floor
    && not (list_any (λ j. not (at_most j.at number)) (given a i.event.key m))
    && at_most (number_of (last t.base i.event.key (begin_moment a i.event.key (Gave a i.event.key i ∷ m)))) number

-- an item has the right number, or none
abbrev pub number_fits : Terms → ℕ → HistItem → HistMoment → Option Shown → Option ℕ → Bool
number_fits t a i m None None = true
number_fits t a i m None (Some number) = false
number_fits t a i m (Some s) None = false
number_fits t a i m (Some s) (Some number) = shows t a i m number s (commit t.base i.event.key number m)

abbrev pub same_number : Option ℕ → Option ℕ → Bool
same_number None None = true
same_number None (Some m) = false
same_number (Some m) None = false
same_number (Some m) (Some q) = m == q

abbrev pub same_item : Option HistItem → HistItem → Bool
same_item None i = false
same_item (Some j) i =
    i.event.index == j.event.index && i.event.flags == j.event.flags && same_cells i.event.cells (Some j.event.cells) && same_number j.at i.at

-- the test of LawfulItem
abbrev pub item_ok : Terms → ℕ → HistItem → HistMoment → Bool
item_ok t a i m =
    number_fits t a i m (shown (events (given a i.event.key (Gave a i.event.key i ∷ m)))) i.at
    && (not (is_ended t a i.event.key m) || is_begin i.event || same_item (slice_get (owed t.base a i.event.key m) 0) i)
    && is_some (agent_floor t.base a i.event.key m) && (is_begun t a i.event.key m || is_begin i.event)
    && (not (is_begin i.event) || not (is_begun t a i.event.key m) || has_overflowed t a i.event.key m)
    && ((not (is_begin i.event) && is_ended t a i.event.key m) || is_snapshot_item t.base a i.event.key i m)

abbrev pub items_ok : Terms → ℕ → List HistItem → HistMoment → Bool
items_ok t a [] m = true
items_ok t a (i ∷ is) m = if item_ok t a i m then items_ok t a is (Gave a i.event.key i ∷ m) else false

abbrev pub no_keys : List Key → Bool
no_keys [] = true
no_keys (k ∷ ks) = false

-- the test of LawfulTake
abbrev pub take_ok : Terms → ℕ → ℕ → List HistItem → HistMoment → Bool
take_ok t a most is m =
    items_ok t a is m && nat_le (length is) most && (length is == most || no_keys (due_keys t a (after_gifts a is m)))
    && pointwise key_eq (turns is) (take (length (turns is)) (due_keys t a m)) && each_done t a is m

cells_agree : (o : Option Cells) → same_option o o ≡ true
cells_agree None = refl
cells_agree (Some c) = same_cells_refl c

maps_agree : (n : ℕ) (m : Map) → agree n m m ≡ true
maps_agree zero m = refl
maps_agree (suc n) m = and_from (same_option (m n) (m n)) (agree n m m) (cells_agree (m n)) (maps_agree n m)

numbers_agree : (o : Option ℕ) → same_number o o ≡ true
numbers_agree None = refl
numbers_agree (Some n) = eq-eqb n n refl

floors_agree : (o : Option AgentFloor) (n : ℕ) → option_map (λ f. f.index) o ≡ Some n → floor_is o n ≡ true
floors_agree None n h = cc h
floors_agree (Some f) n h = eq-eqb f.index n (same_Some f.index n h)

at_most_it : (o : Option ℕ) (n : ℕ) → IfSome o (λ p. p ≤ n) → at_most o n ≡ true
at_most_it None n h = refl
at_most_it (Some p) n h = le-leb p n h

commit_at_most : (o : Option Commit) (n : ℕ) → IfSome o (λ c. c.number ≤ n) → at_most (number_of o) n ≡ true
commit_at_most None n h = refl
commit_at_most (Some c) n h = le-leb c.number n h

no_number_above : (n : ℕ) (is : List HistItem) → NoneAbove n is → not (list_any (λ j. not (at_most j.at n)) is) ≡ true
no_number_above n [] h = refl
no_number_above n (i ∷ is) h = ap (λ (b : Bool). not (not b || list_any (λ j. not (at_most j.at n)) is)) (at_most_it i.at n h.0) ∙ no_number_above n is h.1

all_keys_agree : (ks : List Key) → pointwise key_eq ks ks ≡ true
all_keys_agree [] = refl
all_keys_agree (k ∷ ks) = and_from (key_eq k k) (pointwise key_eq ks ks) (key_eq-same k) (all_keys_agree ks)

and_3 : (a b c : Bool) → a ≡ true → b ≡ true → c ≡ true → (a && b && c) ≡ true
and_3 a b c p q r = and_from (a && b) c (and_from a b p q) r

and_4 : (a b c d : Bool) → a ≡ true → b ≡ true → c ≡ true → d ≡ true → (a && b && c && d) ≡ true
and_4 a b c d p q r s = and_from (a && b && c) d (and_3 a b c p q r) s

same_items : (o : Option HistItem) (i : HistItem) → o ≡ Some i → same_item o i ≡ true
same_items None i h = cc h
same_items (Some j) i h =
    ap (λ (x : HistItem). same_item (Some x) i) (same_Some j i h)
    ∙ and_4 (i.event.index == i.event.index) (i.event.flags == i.event.flags) (same_cells i.event.cells (Some i.event.cells)) (same_number i.at i.at)
    (eq-eqb i.event.index i.event.index refl) (eq-eqb i.event.flags i.event.flags refl) (same_cells_refl i.event.cells) (numbers_agree i.at)

number_shows : (t : Terms) (a : ℕ) (i : HistItem) (m : HistMoment) (n : ℕ) (s : Shown) → ShowsCommit t a i.event.key n s m (Gave a i.event.key i ∷ m) → shows t a i m n s (commit t.base i.event.key n m) ≡ true
number_shows t a i m n s S =
    ap (shows t a i m n s) S.is_commit
    ∙ and_4 (agree 64 s.map (cut s.floor S.commit_n.shown.map)) (floor_is (agent_floor t.base a i.event.key m) s.floor) (not (list_any (λ j. not (at_most j.at n)) (given a i.event.key m)))
    (at_most (number_of (last t.base i.event.key (begin_moment a i.event.key (Gave a i.event.key i ∷ m)))) n)
    (ap (agree 64 s.map) (sym S.map_is) ∙ maps_agree 64 s.map)
    (floors_agree (agent_floor t.base a i.event.key m) s.floor S.floor_is)
    (no_number_above n (given a i.event.key m) S.none_above)
    (commit_at_most (last t.base i.event.key (begin_moment a i.event.key (Gave a i.event.key i ∷ m))) n S.since_begin)

number_passes : (t : Terms) (a : ℕ) (i : HistItem) (m : HistMoment) (o : Option Shown) → NumberFits t a i.event.key i m o → number_fits t a i m o i.at ≡ true
number_passes t a i m None h = ap (number_fits t a i m None) h
number_passes t a i m (Some s) h = ap (number_fits t a i m (Some s)) h.1 ∙ number_shows t a i m h.0 s h.2

-- what the parts of a lawful item say of tests of the same form
owed_part : (e b s : Bool) → (e ≡ true → b ≡ false → s ≡ true) → (not e || b || s) ≡ true
owed_part true true s h = refl
owed_part true false s h = h refl refl
owed_part false b s h = refl

first_part : (g b : Bool) → (g ≡ false → b ≡ true) → (g || b) ≡ true
first_part true b h = refl
first_part false b h = h refl

begin_part : (b g o : Bool) → (b ≡ true → (not g || o) ≡ true) → (not b || not g || o) ≡ true
begin_part true g o h = h refl
begin_part false g o h = refl

inside_part : (b e s : Bool) → ((b || not e) ≡ true → s ≡ true) → ((not b && e) || s) ≡ true
inside_part true e s h = h refl
inside_part false true s h = refl
inside_part false false s h = h refl

and_6 : (a b c d e f : Bool) → a ≡ true → b ≡ true → c ≡ true → d ≡ true → e ≡ true → f ≡ true → (a && b && c && d && e && f) ≡ true
and_6 a b c d e f p q r s u v = and_3 (a && b && c && d) e f (and_4 a b c d p q r s) u v

item_passes : (t : Terms) (a : ℕ) (i : HistItem) (m : HistMoment) → LawfulItem t a i.event.key i m → item_ok t a i m ≡ true
item_passes t a i m L =
    and_6 (number_fits t a i m (shown (events (given a i.event.key (Gave a i.event.key i ∷ m)))) i.at)
    (not (is_ended t a i.event.key m) || is_begin i.event || same_item (slice_get (owed t.base a i.event.key m) 0) i)
    (is_some (agent_floor t.base a i.event.key m))
    (is_begun t a i.event.key m || is_begin i.event)
    (not (is_begin i.event) || not (is_begun t a i.event.key m) || has_overflowed t a i.event.key m)
    ((not (is_begin i.event) && is_ended t a i.event.key m) || is_snapshot_item t.base a i.event.key i m)
    (number_passes t a i m (shown (events (given a i.event.key (Gave a i.event.key i ∷ m)))) L.number_fits)
    (owed_part (is_ended t a i.event.key m) (is_begin i.event) (same_item (slice_get (owed t.base a i.event.key m) 0) i) (λ e b. same_items (slice_get (owed t.base a i.event.key m) 0) i (L.next_owed e b)))
    L.may_come.fits
    (first_part (is_begun t a i.event.key m) (is_begin i.event) L.may_come.begin_first)
    (begin_part (is_begin i.event) (is_begun t a i.event.key m) (has_overflowed t a i.event.key m) L.may_come.begin_where)
    (inside_part (is_begin i.event) (is_ended t a i.event.key m) (is_snapshot_item t.base a i.event.key i m) L.in_snapshot)

items_pass : (t : Terms) (a : ℕ) (is : List HistItem) (m : HistMoment) → LawfulItems t a is m → items_ok t a is m ≡ true
items_pass t a [] m h = refl
items_pass t a (i ∷ is) m h = if_true (item_ok t a i m) (items_ok t a is (Gave a i.event.key i ∷ m)) false (item_passes t a i m h.0) ∙ items_pass t a is (Gave a i.event.key i ∷ m) h.1

full_part : (t : Terms) (a most : ℕ) (is : List HistItem) (m : HistMoment) → (length is ≡ most) ⊎ (due_keys t a (after_gifts a is m) ≡ []) → (length is == most || no_keys (due_keys t a (after_gifts a is m))) ≡ true
full_part t a most is m (inl h) = ap (λ (b : Bool). b || no_keys (due_keys t a (after_gifts a is m))) (eq-eqb (length is) most h)
full_part t a most is m (inr h) = ap (λ (ks : List Key). length is == most || no_keys ks) h ∙ or_true (length is == most)
  where
    or_true : (b : Bool) → (b || true) ≡ true
    or_true true = refl
    or_true false = refl

-- every lawful answer passes the test; so an answer that fails it is not lawful
pub take_passes : (t : Terms) (a most : ℕ) (is : List HistItem) (m : HistMoment) → LawfulTake t a most is m → take_ok t a most is m ≡ true
take_passes t a most is m L =
    and_from (items_ok t a is m && nat_le (length is) most && (length is == most || no_keys (due_keys t a (after_gifts a is m))) && pointwise key_eq (turns is) (take (length (turns is)) (due_keys t a m))) (each_done t a is m)
    (and_4 (items_ok t a is m) (nat_le (length is) most) (length is == most || no_keys (due_keys t a (after_gifts a is m))) (pointwise key_eq (turns is) (take (length (turns is)) (due_keys t a m)))
    (items_pass t a is m L.each) (le-leb (length is) most L.within) (full_part t a most is m L.full_or_done) (ap (pointwise key_eq (turns is)) (sym L.order) ∙ all_keys_agree (turns is)))
    L.done
