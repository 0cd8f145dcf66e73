-- What is kept after one more event stands for the events with it.
use Rattle.std.proofs.Common.{◌≡◌, ℕ, Bool, true, false, ◌||◌, List, [], ◌∷◌, ◌++◌, reverse, refl, sym, ◌∙◌, ap, Option, Some, None}
use Rattle.std.specs.Prelude.{if◌then◌else◌, is_some, option_map}
use Rattle.std.proofs.lemmas.List.{reverse-append, reverse-reverse}
use Rattle.std.proofs.lemmas.Option.{same_Some}
use Rattle.qd_scheme.specs.declared.key.Event.{Event}
use Rattle.qd_entries.specs.declared.Entry.{Entry}
use Rattle.qd_entries.specs.Entries.{Falls, cells_at}
use Rattle.qd_flags.specs.Bits.{is_begin, is_pending, is_snip}
use Rattle.qd_flags.specs.declared.commits.Floor.{Floor}
use Rattle.qd_flags.specs.declared.commits.Ingest.TheVariants.{Ignored, Held, Update, Snapshot}
use Rattle.qd_flags.specs.Shown.{Map, Shown, cut, left_by, has_begin, since_begin, first_end, is_open, shown, shown_from, last_shown, after_place, events_of, held_back, last_batch, without_stale, or_else}
use Rattle.qd_flags.specs.Following.{Following, StandsFor, answer_to, floor_of, map_at, over, start_of, all_applied, end_in, next_end, next_held, takes, forgotten, with_held, with_commit}
use Rattle.qd_flags.proofs.Places.{or_parts, no_begin}
use Rattle.qd_flags.proofs.Feeding.{begin_known, end_next, held_next, without_stale-next, after_next, last_next, map_next, over_same, if_true, if_false}
use Rattle.qd_flags.proofs.Applying.{Falls-all_applied, cells_at-all_applied}

-- a BEGIN came, by what is kept
pub takes-is : (s : Following) (past : List Event) (e : Event) → StandsFor s past → takes e s ≡ has_begin (e ∷ past)
takes-is s past e h = outer (is_begin e)
  where
    map_some : (o : Option Shown) → is_some (option_map floor_of o) ≡ is_some o
    map_some None = refl
    map_some (Some r) = refl

    inner : (s.begun || is_some s.floor) ≡ has_begin past
    inner =
        ap (λ (b : Bool). b || is_some s.floor) h.begun_is ∙ ap (λ (o : Option Floor). has_begin (after_place past) || is_some o) h.floor_is
        ∙ ap (λ (b : Bool). has_begin (after_place past) || b) (map_some (last_shown past)) ∙ sym (begin_known past)

    outer : (b : Bool) → ((b || s.begun) || is_some s.floor) ≡ (b || has_begin past)
    outer true = refl
    outer false = inner

both_none : {A : Type 0} (b : Bool) → ◌≡◌ {A = Option A} (if b then None else None) None
both_none true = refl
both_none false = refl

both_nil : (b : Bool) → ◌≡◌ {A = List Event} (if b then [] else []) []
both_nil true = refl
both_nil false = refl

-- without a BEGIN nothing is shown
pub nothing_shown : (es : List Event) → has_begin es ≡ false → shown es ≡ None
nothing_shown es h = ap (λ (xs : List Event). if is_open es then None else shown_from xs) (no_begin es h) ∙ both_none (is_open es)

-- an end on the last event or before it, and no TX_PENDING, make a commit place
whole_there : (e : Event) (es : List Event) (f : Floor) → is_pending e ≡ false → end_in (since_begin (e ∷ es)) ≡ Some f → (s : Shown) × (shown (e ∷ es) ≡ Some s) × (floor_of s ≡ f)
whole_there e es f p h = go (first_end (since_begin (e ∷ es))) refl h
  where
    go : (o : Option Event) → first_end (since_begin (e ∷ es)) ≡ o → option_map {U = Floor} (λ x. record { index = x.index; snipped = is_snip x }) o ≡ Some f → (s : Shown) × (shown (e ∷ es) ≡ Some s) × (floor_of s ≡ f)
    go None w h = cc h
    go (Some x) w h = (
      record { map = cut x.index (left_by (since_begin (e ∷ es))); floor = x.index; snipped = is_snip x },
      if_false (is_pending e) None (shown_from (since_begin (e ∷ es))) p
          ∙ ap (λ (o : Option Event). option_map {U = Shown} (λ x. record { map = cut x.index (left_by (since_begin (e ∷ es))); floor = x.index; snipped = is_snip x }) o) w,
      same_Some (record { index = x.index; snipped = is_snip x }) f h,
    )

pub open_there : (e : Event) (es : List Event) → is_pending e ≡ true → shown (e ∷ es) ≡ None
open_there e es p = if_true (is_pending e) None (shown_from (since_begin (e ∷ es))) p

no_end_there : (e : Event) (es : List Event) → end_in (since_begin (e ∷ es)) ≡ None → shown (e ∷ es) ≡ None
no_end_there e es h = go (first_end (since_begin (e ∷ es))) refl h
  where
    go : (o : Option Event) → first_end (since_begin (e ∷ es)) ≡ o → option_map {U = Floor} (λ x. record { index = x.index; snipped = is_snip x }) o ≡ None → shown (e ∷ es) ≡ None
    go None w h =
        ap (λ (o : Option Event). if is_pending e then None else option_map {U = Shown} (λ x. record { map = cut x.index (left_by (since_begin (e ∷ es))); floor = x.index; snipped = is_snip x }) o) w
        ∙ both_none (is_pending e)
    go (Some x) w h = cc h

-- no end came since the last BEGIN, by what is kept
pub no_place : (s : Following) (past : List Event) (e : Event) → StandsFor s past → takes e s ≡ true → next_end s.end e ≡ None → shown (e ∷ past) ≡ None
no_place s past e h t n =
    let hb : has_begin (e ∷ past) ≡ true = sym (takes-is s past e h) ∙ t in
    no_end_there e past (end_next e past hb ∙ ap (λ (o : Option Floor). next_end o e) (sym h.end_is) ∙ n)

held_none : (es : List Event) → has_begin es ≡ false → held_back es ≡ []
held_none es h =
    let a = (or_parts (has_begin (after_place es)) (is_some (last_shown es)) (sym (begin_known es) ∙ h)).0 in
    if_false (has_begin (after_place es)) (since_begin (after_place es)) (if has_begin es then after_place es else []) a ∙ if_false (has_begin es) (after_place es) [] h

reversed : (b : Bool) (e : Event) (es : List Event) → (if b then e ∷ [] else reverse es ++ e ∷ []) ≡ reverse (if b then e ∷ [] else e ∷ es)
reversed true e es = refl
reversed false e es = sym (reverse-append (e ∷ []) es)

no_batch : (es : List Event) → shown es ≡ None → last_batch es ≡ []
no_batch es n = ap (λ (o : Option Shown). if is_some o then without_stale (events_of es) else []) n

-- an event that is ignored
pub ignored : (s : Following) (past : List Event) (e : Event) → StandsFor s past → takes e s ≡ false → StandsFor (forgotten s) (e ∷ past) × (answer_to (e ∷ past) ≡ Ignored)
ignored s past e h t =
    let n : has_begin (e ∷ past) ≡ false = sym (takes-is s past e h) ∙ t in
    let np : has_begin past ≡ false = (or_parts (is_begin e) (has_begin past) n).1 in
    let none = nothing_shown (e ∷ past) n in
    let lb = (or_parts (is_begin e) s.begun (or_parts (is_begin e || s.begun) (is_some s.floor) t).0).1 in
    let ab = (or_parts (has_begin (after_place (e ∷ past))) (is_some (last_shown (e ∷ past))) (sym (begin_known (e ∷ past)) ∙ n)).0 in (
      record {
        floor_is = h.floor_is ∙ ap (λ (o : Option Shown). option_map floor_of o) (sym (last_next e past none));
        falls = h.falls;
        map_is = λ q. h.map_is q ∙ ap (λ (o : Option Shown). map_at o q) (sym (last_next e past none));
        held_is = h.held_is ∙ ap reverse (held_none past np ∙ sym (held_none (e ∷ past) n));
        batch_is = ap reverse (sym (no_batch (e ∷ past) none));
        begun_is = lb ∙ sym ab;
        end_is = h.end_is ∙ ap end_in (no_begin past np ∙ sym (no_begin (e ∷ past) n));
      },
      if_false (has_begin (e ∷ past)) (if is_some (shown (e ∷ past)) then (if has_begin (events_of (e ∷ past)) then Snapshot else Update) else Held) Ignored n,
    )

-- an event that makes no commit place, since it has TX_PENDING or no end came
pub held : (s : Following) (past : List Event) (e : Event) → StandsFor s past → takes e s ≡ true → shown (e ∷ past) ≡ None → StandsFor (with_held e s) (e ∷ past) × (answer_to (e ∷ past) ≡ Held)
held s past e h t none =
    let hb : has_begin (e ∷ past) ≡ true = sym (takes-is s past e h) ∙ t in (
      record {
        floor_is = h.floor_is ∙ ap (λ (o : Option Shown). option_map floor_of o) (sym (last_next e past none));
        falls = h.falls;
        map_is = λ q. h.map_is q ∙ ap (λ (o : Option Shown). map_at o q) (sym (last_next e past none));
        held_is = ap (λ (xs : List Event). next_held xs e) h.held_is ∙ reversed (is_begin e) e (held_back past) ∙ ap reverse (sym (held_next e past none hb));
        batch_is = ap reverse (sym (no_batch (e ∷ past) none));
        begun_is = ap (λ (x : Bool). is_begin e || x) h.begun_is ∙ sym (ap has_begin (after_next e past none));
        end_is = ap (λ (o : Option Floor). next_end o e) h.end_is ∙ sym (end_next e past hb);
      },
      if_true (has_begin (e ∷ past)) (if is_some (shown (e ∷ past)) then (if has_begin (events_of (e ∷ past)) then Snapshot else Update) else Held) Ignored hb
          ∙ ap (λ (o : Option Shown). if is_some o then (if has_begin (events_of (e ∷ past)) then Snapshot else Update) else Held) none,
    )

start_entries : (b : Bool) (xs : List Entry) (k : ℕ) → cells_at (if b then [] else xs) k ≡ start_of b (λ k. cells_at xs k) k
start_entries true xs k = refl
start_entries false xs k = refl

start_same : (b : Bool) (m n : Map) → ((k : ℕ) → m k ≡ n k) → (k : ℕ) → start_of b m k ≡ (if b then (λ k. None) else n) k
start_same true m n s k = refl
start_same false m n s k = s k

falls_start : (b : Bool) (xs : List Entry) → Falls xs → Falls (if b then [] else xs)
falls_start true xs f = tt
falls_start false xs f = f

unreversed : (b : Bool) (e : Event) (es : List Event) → reverse (if b then e ∷ [] else reverse es ++ e ∷ []) ≡ e ∷ (if b then [] else es)
unreversed true e es = refl
unreversed false e es = reverse-append (reverse es) (e ∷ []) ∙ ap (λ (xs : List Event). e ∷ xs) (reverse-reverse es)

-- an event that makes a commit place
pub committed : (s : Following) (past : List Event) (e : Event) (f : Floor) → StandsFor s past → takes e s ≡ true → is_pending e ≡ false → next_end s.end e ≡ Some f
    → StandsFor (with_commit f (with_held e s)) (e ∷ past) × (answer_to (e ∷ past) ≡ (if is_begin e || s.begun then Snapshot else Update))
committed s past e f h t p n =
    let hb : has_begin (e ∷ past) ≡ true = sym (takes-is s past e h) ∙ t in
    let ends_at : end_in (since_begin (e ∷ past)) ≡ Some f = end_next e past hb ∙ ap (λ (o : Option Floor). next_end o e) (sym h.end_is) ∙ n in
    let w = whole_there e past f p ends_at in
    let l : last_shown (e ∷ past) ≡ Some w.0 = ap (λ (o : Option Shown). or_else o (last_shown past)) w.1 in
    let a : after_place (e ∷ past) ≡ [] = ap (λ (o : Option Shown). if is_some o then [] else e ∷ after_place past) w.1 in
    let i : f.index ≡ w.0.floor = ap (λ (f : Floor). f.index) (sym w.2) in (
      record {
        floor_is = ap Some (sym w.2) ∙ ap (λ (o : Option Shown). option_map floor_of o) (sym l);
        falls = Falls-all_applied f.index (next_held s.held e) (if is_begin e || s.begun then [] else s.entries) (falls_start (is_begin e || s.begun) s.entries h.falls);
        map_is = λ q. same_map w.0 i q ∙ sym (map_next e past w.0 w.1 q) ∙ ap (λ (o : Option Shown). map_at o q) (sym l);
        held_is = ap reverse (sym (ap (λ (xs : List Event). if has_begin xs then since_begin xs else if has_begin (e ∷ past) then xs else []) a ∙ both_nil (has_begin (e ∷ past))));
        batch_is =
            ap (λ (xs : List Event). next_held xs e) h.held_is ∙ reversed (is_begin e) e (held_back past)
            ∙ ap reverse (sym (ap (λ (o : Option Shown). if is_some o then without_stale (events_of (e ∷ past)) else []) w.1 ∙ without_stale-next e past hb));
        begun_is = sym (ap has_begin a);
        end_is = sym ends_at;
      },
      if_true (has_begin (e ∷ past)) (if is_some (shown (e ∷ past)) then (if has_begin (events_of (e ∷ past)) then Snapshot else Update) else Held) Ignored hb
          ∙ ap (λ (o : Option Shown). if is_some o then (if has_begin (events_of (e ∷ past)) then Snapshot else Update) else Held) w.1
          ∙ ap (λ (b : Bool). if is_begin e || b then Snapshot else Update) (sym h.begun_is),
    )
  where
    same_map : (r : Shown) → f.index ≡ r.floor → (q : ℕ)
        → cells_at (all_applied f.index (next_held s.held e) (if is_begin e || s.begun then [] else s.entries)) q
        ≡ over r.floor (e ∷ (if is_begin e then [] else held_back past)) (if is_begin e || has_begin (after_place past) then (λ k. None) else map_at (last_shown past)) q
    same_map r i q =
        cells_at-all_applied f.index (next_held s.held e) (if is_begin e || s.begun then [] else s.entries) (falls_start (is_begin e || s.begun) s.entries h.falls) q
        ∙ over_same f.index (reverse (next_held s.held e)) (λ k. cells_at (if is_begin e || s.begun then [] else s.entries) k) (start_of (is_begin e || s.begun) (λ k. cells_at s.entries k)) q
        (λ k. start_entries (is_begin e || s.begun) s.entries k)
        ∙ ap (λ (x : ℕ). over x (reverse (next_held s.held e)) (start_of (is_begin e || s.begun) (λ k. cells_at s.entries k)) q) i
        ∙ ap (λ (xs : List Event). over r.floor xs (start_of (is_begin e || s.begun) (λ k. cells_at s.entries k)) q)
        (ap (λ (xs : List Event). reverse (next_held xs e)) h.held_is ∙ unreversed (is_begin e) e (held_back past))
        ∙ ap (λ (x : Bool). over r.floor (e ∷ (if is_begin e then [] else held_back past)) (start_of (is_begin e || x) (λ k. cells_at s.entries k)) q) h.begun_is
        ∙ over_same r.floor (e ∷ (if is_begin e then [] else held_back past)) (start_of (is_begin e || has_begin (after_place past)) (λ k. cells_at s.entries k))
        (if is_begin e || has_begin (after_place past) then (λ k. None) else map_at (last_shown past)) q
        (start_same (is_begin e || has_begin (after_place past)) (λ k. cells_at s.entries k) (map_at (last_shown past)) h.map_is)
