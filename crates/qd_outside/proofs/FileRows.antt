-- Rows of the definitions of files in memory, of plans, of adapters, and of texts that were cut short.
use Rattle.std.proofs.Common.{arith, ◌≡◌, ◌<◌, ◌+◌, ◌-◌, ◌^◌, ℕ, Bool, true, false, Option, Some, None, List, [], ◌∷◌, ◌++◌, inl, inr, refl, sym, ap, subst, drop}
use Rattle.std.specs.Prelude.{nat_eq, map, slice_get, unwrap_or, vec_len}
use Rattle.std.specs.Cmp.Lexicographic.{pointwise}
use Rattle.std.specs.Io.KnownBytes.{Consumes, IsAtEnd, Appends}
use Rattle.qd_outside.specs.Buffering.{Prints, Drains}
use Rattle.qd_outside.specs.Causes.{Rose}
use Rattle.qd_outside.specs.Opening.{Opening, In, Out, told_at_first, IsHeld, IsNoted, IsEmptied, held_in, opening_at, opening_of, told_by, told_of_system, NotesCall}
use Rattle.qd_outside.specs.Passing.{FileConsumes, FileIsAtEnd, FileAppends}
use Rattle.qd_outside.specs.Planning.{fails_next, after_call, is_failed, WritesAs}
use Rattle.qd_outside.specs.Writing.{Gained, IsCutShort}
use Rattle.qd_outside.specs.declared.list_files.HeldFile.{HeldFile}
use Rattle.qd_outside.specs.declared.list_files.ListFiles.{ListFiles}
use Rattle.qd_outside.specs.declared.list_files.OpenCall.{OpenCall}
use Rattle.qd_outside.specs.declared.plan.Plan.{Plan}
use Rattle.qd_outside.specs.declared.source.Read.TheVariants.{Got, End, Failed as ReadFailed}
use Rattle.qd_outside.specs.declared.sink.Write.TheVariants.{Wrote, Failed}

-- before the first call no file is open, nothing waits to be flushed, and no fault is counted
at_first : (told_at_first None None None None).flushed ≡ true
at_first = refl

closed_at_first : ((told_at_first None None None None).is_reading ≡ false) × ((told_at_first None None None None).is_writing ≡ false)
closed_at_first = (refl, refl)

faultless_at_first : ((told_at_first None None None None).read_faults ≡ 0) × ((told_at_first None None None None).write_faults ≡ 0)
faultless_at_first = (refl, refl)

-- the first file of a name is the one that is held
nothing_held : (name : List ℕ) → held_in [] name ≡ None
nothing_held name = refl

held_first : (f : HeldFile) (files : List HeldFile) (name : List ℕ) → pointwise nat_eq f.name.items name ≡ true → held_in (f ∷ files) name ≡ Some f.bytes.items
held_first f files name e = rw e refl

held_later : (f : HeldFile) (files : List HeldFile) (name : List ℕ) → pointwise nat_eq f.name.items name ≡ false → held_in (f ∷ files) name ≡ held_in files name
held_later f files name e = rw e refl

-- where nothing is told of what the names hold, nothing is told of what is left
untold_left : (name left : List ℕ) → IsHeld None name (Some left) → ⊥
untold_left name left e = absurd (cc)

-- where no calls are told, none is told afterwards
untold_calls : (answer : Bool) (call : Opening) (calls : List Opening) → IsNoted answer call None (Some calls) → ⊥
untold_calls answer call calls e = absurd (cc)

untold_bytes : (bytes : List ℕ) → IsEmptied None (Some bytes) → ⊥
untold_bytes bytes e = absurd (cc)

opened_out : opening_at true (1 ∷ []) ≡ Out (1 ∷ [])
opened_out = refl

opened_in : opening_at false (1 ∷ []) ≡ In (1 ∷ [])
opened_in = refl

noted_as : (a : OpenCall) → opening_of a ≡ opening_at a.is_out a.name.items
noted_as a = refl

-- what files in memory tell
told_left : (s : ListFiles) → (told_by s).left ≡ Some (drop s.at s.bytes.items)
told_left s = refl

told_written : (s : ListFiles) → (told_by s).written ≡ Some s.written.items
told_written s = refl

told_open : (s : ListFiles) → ((told_by s).is_reading ≡ s.is_reading) × ((told_by s).is_writing ≡ s.is_writing) × ((told_by s).flushed ≡ s.flushed)
told_open s = (refl, refl, refl)

told_faults : (s : ListFiles) → ((told_by s).read_faults ≡ s.read_faults) × ((told_by s).write_faults ≡ s.write_faults)
told_faults s = (refl, refl)

told_held : (s : ListFiles) → (told_by s).holds ≡ Some (held_in s.files.items)
told_held s = refl

told_asked : (s : ListFiles) → (told_by s).asked ≡ Some (map opening_of s.asked.items)
told_asked s = refl

-- what the files of the system tell: no bytes
reading_alone : {F : Type 0} (f : F) → ((told_of_system (Some f) None true 2 3).is_reading ≡ true) × ((told_of_system (Some f) None true 2 3).is_writing ≡ false)
reading_alone f = (refl, refl)

writing_alone : {F : Type 0} (f : F) → ((told_of_system None (Some f) true 2 3).is_reading ≡ false) × ((told_of_system None (Some f) true 2 3).is_writing ≡ true)
writing_alone f = (refl, refl)

system_faults : {F : Type 0} (f : F) → ((told_of_system (Some f) None false 2 3).read_faults ≡ 2) × ((told_of_system (Some f) None false 2 3).write_faults ≡ 3) × ((told_of_system (Some f) None false 2 3).flushed ≡ false)
system_faults f = (refl, refl, refl)

system_bytes : {F : Type 0} (f : F) → ((told_of_system (Some f) None true 2 3).holds ≡ None) × ((told_of_system (Some f) None true 2 3).left ≡ None) × ((told_of_system (Some f) None true 2 3).written ≡ None) × ((told_of_system (Some f) None true 2 3).asked ≡ None)
system_bytes f = (refl, refl, refl, refl)

notes_one : (before after : ListFiles) → NotesCall before after → vec_len after.asked ≡ vec_len before.asked + 1
notes_one before after e = e

-- what a file that is open knows of its bytes passes through; the file that was open is open still
consumes : (remaining : ℕ → Option (List ℕ)) (old new : ℕ) (bytes : List ℕ) → FileConsumes remaining (Some old) (Some new) bytes → Consumes (remaining old) (remaining new) bytes
consumes remaining old new bytes c = c

consumes_and_shuts : (remaining : ℕ → Option (List ℕ)) (old : ℕ) (bytes : List ℕ) → FileConsumes remaining (Some old) None bytes → ⊥
consumes_and_shuts remaining old bytes c = c

at_end : (remaining : ℕ → Option (List ℕ)) (file : ℕ) → FileIsAtEnd remaining (Some file) → IsAtEnd (remaining file)
at_end remaining file e = e

shut_at_end : (remaining : ℕ → Option (List ℕ)) → FileIsAtEnd remaining None → ⊥
shut_at_end remaining e = e

appends : (contents : ℕ → Option (List ℕ)) (old new : ℕ) (bytes : List ℕ) → FileAppends contents (Some old) (Some new) bytes → Appends (contents old) (contents new) bytes
appends contents old new bytes a = a

appends_and_shuts : (contents : ℕ → Option (List ℕ)) (old : ℕ) (bytes : List ℕ) → FileAppends contents (Some old) None bytes → ⊥
appends_and_shuts contents old bytes a = a

-- a call fails where the plan says so at its number, and not past the plan
planned : (plan : Plan) (b : Bool) → slice_get plan.fails.items plan.calls ≡ Some b → fails_next plan ≡ b
planned plan b e = ap (λ (o : Option Bool). unwrap_or o false) e

past_the_plan : (plan : Plan) → slice_get plan.fails.items plan.calls ≡ None → fails_next plan ≡ false
past_the_plan plan e = ap (λ (o : Option Bool). unwrap_or o false) e

one_call_more : (plan : Plan) → plan.calls < 2 ^ 64 - 1 → (after_call plan).calls ≡ plan.calls + 1
one_call_more plan small = omega (arith, small)

same_plan : (plan : Plan) → (after_call plan).fails ≡ plan.fails
same_plan plan = refl

failed_read : (is_failed ReadFailed ≡ true) × (is_failed End ≡ false) × (is_failed (Got 1) ≡ false)
failed_read = (refl, refl, refl)

-- a write to memory takes the whole piece or nothing, and fails only by the plan or where there is no room
planned_write : WritesAs true (Wrote 1) (7 ∷ []) 5 → ⊥
planned_write e = absurd (cc)

part_of_a_piece : WritesAs false (Wrote 1) (7 ∷ 8 ∷ []) 5 → ⊥
part_of_a_piece (inl e) = absurd (cc)
part_of_a_piece (inr e) = let no = e.0 in absurd (cc)

failed_with_room : WritesAs false Failed (7 ∷ []) 1 → ⊥
failed_with_room (inl e) = absurd (cc)
failed_with_room (inr e) = omega (arith, e.1)

whole_piece : WritesAs false (Wrote 2) (7 ∷ 8 ∷ []) 0
whole_piece = inl refl

no_room : WritesAs false Failed (7 ∷ 8 ∷ []) 1
no_room = inr (refl, omega arith)

-- what was written of a text that was cut short begins it; the count does not fall
cut_otherwise : (before after : ℕ) → IsCutShort (1 ∷ []) (Some []) (Some (2 ∷ [])) before after → ⊥
cut_otherwise before after w = let e = subst (λ (p : List ℕ). 1 ∷ [] ≡ p ++ w.rest) (sym w.gained) w.whole in absurd (cc)

cut_with_fewer : (text : List ℕ) (was now : Option (List ℕ)) (n : ℕ) → IsCutShort text was now (n + 1) n → ⊥
cut_with_fewer text was now n w = omega (arith, w.later)

cut_rises : (text : List ℕ) (was now : Option (List ℕ)) (before after : ℕ) → IsCutShort text was now before after → Rose before after
cut_rises text was now before after w = w.rose

-- a print and a drain that failed wrote a first part of all, and counted a fault
prints_cut : (text old new : List ℕ) (was now : Option (List ℕ)) (before after : ℕ) → Prints false text old new was now before after → IsCutShort (old ++ text) was now before after
prints_cut text old new was now before after p = p

prints_written : (text old new : List ℕ) (was now : Option (List ℕ)) (before after : ℕ) → Prints true text old new was now before after → after ≡ before
prints_written text old new was now before after p = p.2.same

drains_cut : (old new : List ℕ) (was now : Option (List ℕ)) (flushed : Bool) (before after : ℕ) → Drains false old new was now flushed before after → IsCutShort old was now before after
drains_cut old new was now flushed before after d = d

drains_whole : (old new : List ℕ) (was now : Option (List ℕ)) (flushed : Bool) (before after : ℕ) → Drains true old new was now flushed before after → Gained was now old
drains_whole old new was now flushed before after d = d.1.gained
