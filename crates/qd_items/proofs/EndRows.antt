-- Rows of the definitions of ends and steps: the cause of each end, what a step does, and what they rule out.
use Rattle.std.proofs.Common.{arith, ℕ, ◌≡◌, ◌+◌, ◌<◌, ◌≤◌, ◌^◌, true, false, Option, Some, None, Ok, Err, List, [], ◌∷◌, ◌++◌, length, refl, ap}
use Rattle.qd_grammar.specs.declared.item.Item.{Item}
use Rattle.qd_grammar.specs.declared.item.Item.TheVariants as items
use Rattle.qd_grammar.specs.declared.item.Mode.{Mode}
use Rattle.qd_line.specs.Cutter.{IsHungry, IsTooLong}
use Rattle.qd_outside.specs.Causes.{Rose}
use Rattle.qd_outside.specs.Reading.{Took, IsSpent}
use Rattle.qd_scheme.specs.declared.defs.RecordDef.{RecordDef}
use Rattle.qd_text.specs.declared.reader.BadLine.{BadLine}
use Rattle.qd_items.specs.declared.ends.RunEnd.TheVariants as runs
use Rattle.qd_items.specs.declared.ends.TextEnd.TheVariants.{End, CutOff, Bad, LineTooLong, TooMuch, ReadFault, NoMemory}
use Rattle.qd_items.specs.declared.items.NextItem.TheVariants as nexts
use Rattle.qd_items.specs.declared.items.Turn.TheVariants as turns
use Rattle.qd_items.specs.Ends.{Causes, Cause, last_items, EndsAt, ComesNext}
use Rattle.qd_items.specs.Gives.{Gives, came, told}
use Rattle.qd_items.specs.Judging.{Numbered, Stop, StopsAt, is_end, with_said, stop_with, stop_of, or_first}
use Rattle.qd_items.specs.Judging.Stop.{Open, AtEnd, AtBad}
use Rattle.qd_items.specs.Runs.{run_end, IsFlushed}
use Rattle.qd_items.specs.Standing.{Kept, Past, nothing, opening, IsTaken, StandsFor}
use Rattle.qd_items.specs.Steps.{Judges, IsSame, Reads, Steps, WillRead, TellsRead, IsOfRead}
use Rattle.qd_items.specs.Work.{work, Lowers}

-- a text is at its end by its last line alone, and no line stands behind one that stops
end_elsewhere : (rest : List ℕ) (left : Option (List ℕ)) → Causes End (AtEnd 3) 4 rest 9 left → ⊥
end_elsewhere rest left c = absurd (cc)

end_open : (rest : List ℕ) (left : Option (List ℕ)) → Causes End Open 3 rest 9 left → ⊥
end_open rest left c = absurd (cc)

-- a text is cut off where nothing is left, no line stops it, and a run might read on
cut_off_needs : (line count taken : ℕ) (stop : Stop) (rest : List ℕ) (left : Option (List ℕ)) → Causes (CutOff line) stop count rest taken left → (stop ≡ Open) × IsHungry rest × (taken < 2 ^ 40) × IsSpent left × (line ≡ count)
cut_off_needs line count taken stop rest left c = (c.0.0, c.0.1, c.1, c.2, c.3)

cut_off_with_bytes_left : (line count taken : ℕ) (stop : Stop) (rest : List ℕ) → Causes (CutOff line) stop count rest taken (Some (1 ∷ [])) → ⊥
cut_off_with_bytes_left line count taken stop rest c = let e = c.2 in absurd (cc)

-- a bad line is the last one, with its place and its fault
bad_needs : (bad : BadLine) (stop : Stop) (count taken : ℕ) (rest : List ℕ) (left : Option (List ℕ)) → Causes (Bad bad) stop count rest taken left → (stop ≡ AtBad bad) × (bad.line ≡ count)
bad_needs bad stop count taken rest left c = c

-- too long a line is the one behind those that were judged
too_long_needs : (line count taken : ℕ) (stop : Stop) (rest : List ℕ) (left : Option (List ℕ)) → Causes (LineTooLong line) stop count rest taken left → (stop ≡ Open) × IsTooLong rest × (line ≡ count + 1)
too_long_needs line count taken stop rest left c = c

-- a text is too much where all that a run reads was read, and no line stops it
too_much_needs : (count taken : ℕ) (stop : Stop) (rest : List ℕ) (left : Option (List ℕ)) → Causes TooMuch stop count rest taken left → (stop ≡ Open) × IsHungry rest × (taken ≡ 2 ^ 40)
too_much_needs count taken stop rest left c = (c.0.0, c.0.1, c.1)

-- neither a fault nor want of memory is of the bytes
no_text_fails : (count taken : ℕ) (stop : Stop) (rest : List ℕ) (left : Option (List ℕ)) → Causes ReadFault stop count rest taken left → ⊥
no_text_fails count taken stop rest left c = c

no_text_wants : (count taken : ℕ) (stop : Stop) (rest : List ℕ) (left : Option (List ℕ)) → Causes NoMemory stop count rest taken left → ⊥
no_text_wants count taken stop rest left c = c

-- a fault is counted where a read failed, and nowhere else
fault_needs : (count taken before after : ℕ) (stop : Stop) (rest : List ℕ) (left : Option (List ℕ)) → Cause ReadFault stop count rest taken left before after → (stop ≡ Open) × IsHungry rest × (taken < 2 ^ 40) × Rose before after
fault_needs count taken before after stop rest left c = (c.0.0, c.0.1, c.1, c.2)

want_needs : (count taken before after : ℕ) (stop : Stop) (rest : List ℕ) (left : Option (List ℕ)) → Cause NoMemory stop count rest taken left before after → (stop ≡ Open) × (taken ≡ 0) × (after ≡ before)
want_needs count taken before after stop rest left c = c

end_with_fault : (count taken n : ℕ) (stop : Stop) (rest : List ℕ) (left : Option (List ℕ)) → Cause End stop count rest taken left n (n + 1) → ⊥
end_with_fault count taken n stop rest left c = omega (arith, c.1)

too_much_with_fault : (count taken n : ℕ) (stop : Stop) (rest : List ℕ) (left : Option (List ℕ)) → Cause TooMuch stop count rest taken left n (n + 1) → ⊥
too_much_with_fault count taken n stop rest left c = omega (arith, c.1)

-- END is an item, on the last line; no other end adds one
end_adds : (before : List Numbered) → last_items End 7 before ≡ record { line = 7; item = items.End } ∷ before
end_adds before = refl

too_much_adds : (before : List Numbered) → last_items TooMuch 7 before ≡ before
too_much_adds before = refl

-- a reader that is there ends for no want of memory, and tells the lines that were judged
ends_at : (mode : Mode) (defs : List RecordDef) (start left : Option (List ℕ)) (p : Past) (lines before after : ℕ) → EndsAt mode defs start p NoMemory lines left before after → ⊥
ends_at mode defs start left p lines before after (q, rest, ended, more, same, count, never) = never refl

-- what comes next is not END, and counts no fault
next_is_no_end : (defs : List RecordDef) (start left : Option (List ℕ)) (p : Past) (k : Kept) (before after : ℕ) → ComesNext defs start p (nexts.Item items.End) k left before after → ⊥
next_is_no_end defs start left p k before after (q, read, more, same, other, still) = absurd (cc)

next_without_fault : (defs : List RecordDef) (start left : Option (List ℕ)) (p : Past) (item : Item) (k : Kept) (n : ℕ) → ComesNext defs start p (nexts.Item item) k left n (n + 1) → ⊥
next_without_fault defs start left p item k n (q, read, more, same, other, still) = omega (arith, still)

-- what an answer gives: its item, but for END, which ends the text
gives_item : (item : Item) → is_end item ≡ false → Gives (Ok (Some item)) 3 (Some (nexts.Item item))
gives_item item e = (refl, e)

gives_end : Gives (Ok (Some items.End)) 3 (Some (nexts.Ended End))
gives_end = refl

gives_end_as_item : Gives (Ok (Some items.End)) 3 (Some (nexts.Item items.End)) → ⊥
gives_end_as_item g = let e = g.1 in absurd (cc)

gives_nothing : Gives (Ok (Some items.Heartbeat)) 3 None → ⊥
gives_nothing g = absurd (cc)

gives_bad_elsewhere : (bad : BadLine) → bad.line ≡ 4 → Gives (Err (record { place = bad.place; why = bad.why })) 3 (Some (nexts.Ended (Bad bad))) → ⊥
gives_bad_elsewhere bad l g = let e = g.1 in absurd (cc)

came_item : (item : Item) → (came None item ≡ nexts.Item item) × (came (Some TooMuch) item ≡ nexts.Ended TooMuch)
came_item item = (refl, refl)

told_turn : (item : Item) → (told turns.Went item ≡ None) × (told turns.Came item ≡ Some (nexts.Item item)) × (told (turns.Ended End) item ≡ Some (nexts.Ended End))
told_turn item = (refl, refl, refl)

-- the first line that stops a text is where it stops
first_stop : (or_first Open (AtEnd 2) ≡ AtEnd 2) × (or_first (AtEnd 1) (AtEnd 2) ≡ AtEnd 1)
first_stop = (refl, refl)

stops_elsewhere : StopsAt (AtEnd 3) 4 → ⊥
stops_elsewhere s = absurd (cc)

stops_nowhere : StopsAt Open 4 → ⊥
stops_nowhere s = s

stops_at_bad : (bad : BadLine) → StopsAt (AtBad bad) 4 → bad.line ≡ 4
stops_at_bad bad s = s

numbers_the_line : (before : List Numbered) → (with_said 5 (Ok (Some items.Heartbeat)) before ≡ record { line = 5; item = items.Heartbeat } ∷ before) × (with_said 5 (Ok None) before ≡ before)
numbers_the_line before = (refl, refl)

stops_with : (stop_with 5 (Ok (Some items.End)) ≡ AtEnd 5) × (stop_with 5 (Ok (Some items.Heartbeat)) ≡ Open) × (stop_with 5 (Ok None) ≡ Open)
stops_with = (refl, refl, refl)

-- the end of a run is that of its text, and the sink is flushed at each but a fault of writing
run_ends : (run_end End ≡ runs.Done) × (run_end (CutOff 3) ≡ runs.CutOff 3) × (run_end (LineTooLong 4) ≡ runs.LineTooLong 4) × (run_end TooMuch ≡ runs.TooMuch) × (run_end ReadFault ≡ runs.ReadFault) × (run_end NoMemory ≡ runs.NoMemory)
run_ends = (refl, refl, refl, refl, refl, refl)

unflushed_done : IsFlushed runs.Done false → ⊥
unflushed_done e = absurd (cc)

unflushed_fault : IsFlushed runs.WriteFault false
unflushed_fault = tt

-- a reader before anything
nothing_taken : (nothing.taken ≡ []) × (nothing.lines ≡ [])
nothing_taken = (refl, refl)

opens : (mode : Mode) → ((opening mode).mode ≡ mode) × ((opening mode).left ≡ []) × ((opening mode).lines ≡ 0) × ((opening mode).taken ≡ 0)
opens mode = (refl, refl, refl, refl)

-- no more is taken than a run reads, and what a reader keeps is told exactly
taken_within : (p : Past) (rest : List ℕ) → IsTaken p rest → length p.taken ≤ 2 ^ 40
taken_within p rest t = t.within

stands_exactly : (defs : List RecordDef) (k : Kept) (p : Past) → StandsFor defs k p → (k.lines ≡ length p.lines) × (k.taken ≡ length p.taken) × (stop_of k.mode defs p.lines ≡ Open)
stands_exactly defs k p s = (s.count, s.number, s.is_open)

-- a step that judges counts one line and no byte; one that reads counts bytes and no line
judges_one : (defs : List RecordDef) (k new : Kept) (line : List ℕ) → Judges defs k new line → (new.lines ≡ k.lines + 1) × (new.taken ≡ k.taken) × (new.mode ≡ k.mode) × (k.left ≡ line ++ 10 ∷ new.left)
judges_one defs k new line j = (ap (λ (x : Kept). x.lines) j.after, ap (λ (x : Kept). x.taken) j.after, ap (λ (x : Kept). x.mode) j.after, j.stood)

reads_some : (k new : Kept) (was now : Option (List ℕ)) (before after : ℕ) (r : Reads k new was now before after)
    → (new.lines ≡ k.lines) × (new.taken ≡ k.taken + length r.bytes) × (new.left ≡ k.left ++ r.bytes) × (1 ≤ length r.bytes) × Took was now r.bytes × (after ≡ before)
reads_some k new was now before after r = (ap (λ (x : Kept). x.lines) r.after_them, ap (λ (x : Kept). x.taken) r.after_them, ap (λ (x : Kept). x.left) r.after_them, r.some, r.took, r.same)

same_outside : (was now : Option (List ℕ)) (before after : ℕ) → IsSame was now before after → (now ≡ was) × (after ≡ before)
same_outside was now before after s = s

-- the ends of a step: each leaves the lines as they are, and but for a read what is left
step_cut_off : (defs : List RecordDef) (k new : Kept) (line before after : ℕ) (was now : Option (List ℕ)) → Steps defs k (Some (nexts.Ended (CutOff line))) new was now before after
    → IsHungry k.left × (line ≡ k.lines) × (new.lines ≡ k.lines) × (k.taken < 2 ^ 40) × Took was now [] × IsSpent now × (after ≡ before)
step_cut_off defs k new line before after was now s = s

step_fault : (defs : List RecordDef) (k new : Kept) (before after : ℕ) (was now : Option (List ℕ)) → Steps defs k (Some (nexts.Ended ReadFault)) new was now before after
    → IsHungry k.left × (k.taken < 2 ^ 40) × (new.lines ≡ k.lines) × Took was now [] × Rose before after
step_fault defs k new before after was now s = s

step_too_much : (defs : List RecordDef) (k new : Kept) (before after : ℕ) (was now : Option (List ℕ)) → Steps defs k (Some (nexts.Ended TooMuch)) new was now before after
    → IsHungry k.left × (k.taken ≡ 2 ^ 40) × (new.lines ≡ k.lines) × IsSame was now before after
step_too_much defs k new before after was now s = s

step_too_long : (defs : List RecordDef) (k new : Kept) (line before after : ℕ) (was now : Option (List ℕ)) → Steps defs k (Some (nexts.Ended (LineTooLong line))) new was now before after
    → IsTooLong k.left × (line ≡ k.lines + 1) × (new.lines ≡ k.lines) × IsSame was now before after
step_too_long defs k new line before after was now s = s

step_wants : (defs : List RecordDef) (k new : Kept) (before after : ℕ) (was now : Option (List ℕ)) → Steps defs k (Some (nexts.Ended NoMemory)) new was now before after → ⊥
step_wants defs k new before after was now s = s

-- whether the next step reads is told exactly
told_to_read : (k : Kept) → TellsRead true k → IsHungry k.left × (k.taken < 2 ^ 40)
told_to_read k w = (w.hungry, w.few)

told_not_to_read : (k : Kept) → TellsRead false k → WillRead k → ⊥
told_not_to_read k told_no w = told_no w

read_to_nothing : (defs : List RecordDef) (k new : Kept) (before after : ℕ) (was now : Option (List ℕ)) → IsOfRead defs k (Some (nexts.Ended TooMuch)) new was now before after → ⊥
read_to_nothing defs k new before after was now s = s

read_to_the_end : (defs : List RecordDef) (k new : Kept) (line before after : ℕ) (was now : Option (List ℕ)) → IsOfRead defs k (Some (nexts.Ended (CutOff line))) new was now before after → Took was now [] × IsSpent now
read_to_the_end defs k new line before after was now s = s

-- an item lowers what may still come
lowers : (old new : Kept) (item : Item) → Lowers (nexts.Item item) old new → work new < work old
lowers old new item l = l
