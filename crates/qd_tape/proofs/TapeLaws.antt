-- Tapes are read back.
use Rattle.std.proofs.Common.{ℕ, ◌≡◌, ◌≤◌, Bool, true, false, Option, Some, None, List, [], ◌∷◌, ◌++◌, refl, sym, ◌∙◌, ap, subst, arith, append_assoc, inl, inr}
use Rattle.std.specs.Prelude.{if◌then◌else◌, ◌&&◌}
use Rattle.std.proofs.lemmas.Bool.Decides.{nat_tests}
use Rattle.qd_check.specs.Printing.{line_of}
use Rattle.qd_grammar.specs.Items.{IsStarted, IsUnderOne, MayStand}
use Rattle.qd_grammar.specs.Lines.{after, first_state}
use Rattle.qd_grammar.specs.declared.item.Item.{Item}
use Rattle.qd_grammar.specs.declared.item.Item.TheVariants.{Protocol, Head, Describe, Rec, Ev, Sub, HistSub, Lost, Heartbeat, End, Time, Link, Take, Node, At, Pump, Move}
use Rattle.qd_grammar.specs.declared.item.Message.{Message}
use Rattle.qd_grammar.specs.declared.item.Mode.TheVariants.{File}
use Rattle.qd_grammar.specs.declared.state.State.{State}
use Rattle.qd_grammar.proofs.EachItem.{each_spells}
use Rattle.qd_scheme.specs.Schemes.{IsScheme}
use Rattle.qd_scheme.specs.declared.defs.RecordDef.{RecordDef}
use Rattle.qd_tape.specs.Reading.{Came, taped, tape_of, AreRead, is_time, MayCome, MayFollow, IsWrittenAsSaid, IsReadAsSaid}
use Rattle.qd_tape.specs.Scripts.{lines_text}
use Rattle.qd_tape.specs.Tapes.{has_time, is_later, is_timed, last_time}

-- what is written is the lines of what is said

one_written : (b : Bool) (defs : List RecordDef) (ms : ℕ) (item : Item) (text : List ℕ) (more : List Item) → text ≡ lines_text defs more
    → ((if b then line_of defs (Time ms) else []) ++ line_of defs item) ++ text ≡ lines_text defs ((if b then Time ms ∷ [] else []) ++ item ∷ more)
one_written true defs ms item text more e = append_assoc (line_of defs (Time ms)) (line_of defs item) text ∙ ap (λ (l : List ℕ). line_of defs (Time ms) ++ (line_of defs item ++ l)) e
one_written false defs ms item text more e = ap (λ (l : List ℕ). line_of defs item ++ l) e

written_behind : (defs : List RecordDef) (last : Option ℕ) (items : List Came) → tape_of defs last items ≡ lines_text defs (taped last items)
written_behind defs last [] = refl
written_behind defs last (x ∷ more) = one_written (has_time last x.ms x.item) defs x.ms x.item _ _ (written_behind defs (last_time last x.ms x.item) more)

pub written_as_said : IsWrittenAsSaid
written_as_said defs items = written_behind defs None items

-- a state at another time
abbrev at_time : State → ℕ → State
at_time s t = record s { time = t }

under_later : (s : State) (t : ℕ) (messages : List Message) → IsUnderOne s messages → IsUnderOne (at_time s t) messages
under_later s t messages u = record { started = u.started; message = u.message; current = u.current; one = u.one }

-- an item that is no time may stand at any
may_later : (s : State) (t : ℕ) (defs : List RecordDef) (item : Item) → is_time item ≡ false → MayStand File s defs item → MayStand File (at_time s t) defs item
may_later s t defs Protocol n h = h
may_later s t defs (Head message) n h = h
may_later s t defs (Describe rec) n h = h
may_later s t defs (Rec r) n h = under_later s t _ h
may_later s t defs (Ev e) n h = under_later s t _ h
may_later s t defs (Sub key) n (inl u) = inl (under_later s t _ u)
may_later s t defs (Sub key) n (inr (u, k)) = inr (under_later s t _ u, k)
may_later s t defs (HistSub sub) n h = under_later s t _ h
may_later s t defs (Lost key m) n h = under_later s t _ h
may_later s t defs Heartbeat n h = h
may_later s t defs End n h = h
may_later s t defs (Time ms) n h = absurd (cc)
may_later s t defs (Link m) n h = h
may_later s t defs (Take c m) n h = h
may_later s t defs (Node m k) n h = h
may_later s t defs (At m k) n h = h
may_later s t defs (Pump m) n h = h
may_later s t defs (Move m way b) n h = h

-- and leaves the time as it is
after_later : (s : State) (t : ℕ) (item : Item) → is_time item ≡ false → after item (at_time s t) ≡ at_time (after item s) t
after_later s t Protocol n = refl
after_later s t (Head message) n = refl
after_later s t (Describe rec) n = refl
after_later s t (Rec r) n = refl
after_later s t (Ev e) n = refl
after_later s t (Sub key) n = refl
after_later s t (HistSub sub) n = refl
after_later s t (Lost key m) n = refl
after_later s t Heartbeat n = refl
after_later s t End n = refl
after_later s t (Time ms) n = absurd (cc)
after_later s t (Link m) n = refl
after_later s t (Take c m) n = refl
after_later s t (Node m k) n = refl
after_later s t (At m k) n = refl
after_later s t (Pump m) n = refl
after_later s t (Move m way b) n = refl

-- all items but PROTOCOL stand behind it
started : (s : State) (defs : List RecordDef) (item : Item) → is_timed item ≡ true → MayStand File s defs item → IsStarted s
started s defs Protocol n h = absurd (cc)
started s defs (Head message) n h = h.0
started s defs (Describe rec) n h = h
started s defs (Rec r) n h = h.started
started s defs (Ev e) n h = h.started
started s defs (Sub key) n (inl u) = u.started
started s defs (Sub key) n (inr (u, k)) = u.started
started s defs (HistSub sub) n h = h.started
started s defs (Lost key m) n h = h.started
started s defs Heartbeat n h = h
started s defs End n h = h
started s defs (Time ms) n h = h.0.0
started s defs (Link m) n h = h.0
started s defs (Take c m) n h = h.0
started s defs (Node m k) n h = h.0
started s defs (At m k) n h = h.0
started s defs (Pump m) n h = h.0
started s defs (Move m way b) n h = h.0

-- the time that a reader has kept; before the first one it is 0
abbrev time_of : Option ℕ → ℕ
time_of None = 0
time_of (Some ms) = ms

no_earlier : (last : Option ℕ) (ms : ℕ) → is_later last ms ≡ true → time_of last ≤ ms
no_earlier None ms h = omega arith
no_earlier (Some last) ms h = grind (arith, nat_tests)

both : (a b : Bool) → (a && b) ≡ true → (a ≡ true) × (b ≡ true)
both true b h = (refl, h)
both false b h = absurd (cc)

-- an item is read, and what follows
read_then : (defs : List RecordDef) (s : State) (t : ℕ) (x : Came) (more : List Item) → IsScheme defs → MayCome s defs x → AreRead (at_time (after x.item s) t) defs more → AreRead (at_time s t) defs (x.item ∷ more)
read_then defs s t x more scheme m rest = (
  each_spells File (at_time s t) defs x.item scheme m.item (may_later s t defs x.item m.no_time m.place),
  subst (λ (u : State). AreRead u defs more) (sym (after_later s t x.item m.no_time)) rest,
)

-- with its time, or without
read_one : (b : Bool) (defs : List RecordDef) (s : State) (last : Option ℕ) (x : Came) (more : Option ℕ → List Item) → has_time last x.ms x.item ≡ b → IsScheme defs → MayCome s defs x
    → ((l : Option ℕ) → AreRead (at_time (after x.item s) (time_of l)) defs (more l))
    → AreRead (at_time s (time_of last)) defs ((if b then Time x.ms ∷ [] else []) ++ x.item ∷ more (if b then Some x.ms else last))
read_one true defs s last x more e scheme m rest =
    let h = both (is_timed x.item) (is_later last x.ms) e in (
      each_spells File (at_time s (time_of last)) defs (Time x.ms) scheme m.few ((started s defs x.item h.0 m.place, refl), no_earlier last x.ms h.1),
      read_then defs s x.ms x (more (Some x.ms)) scheme m (rest (Some x.ms)),
    )
read_one false defs s last x more e scheme m rest = read_then defs s (time_of last) x (more last) scheme m (rest last)

read_behind : (defs : List RecordDef) (s : State) (last : Option ℕ) (items : List Came) → IsScheme defs → MayFollow s defs items → AreRead (at_time s (time_of last)) defs (taped last items)
read_behind defs s last [] scheme m = tt
read_behind defs s last (x ∷ more) scheme (m, later) =
    read_one (has_time last x.ms x.item) defs s last x (λ l. taped l more) refl scheme m (λ l. read_behind defs (after x.item s) l more scheme later)

pub read_as_said : IsReadAsSaid
read_as_said defs items scheme m = read_behind defs first_state None items scheme m
