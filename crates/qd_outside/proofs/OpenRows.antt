-- Rows of the definitions of files: what an open, a read, a write and a flush change, and what they leave.
use Rattle.std.proofs.Common.{◌≡◌, inl, inr, ℕ, Bool, true, false, Option, Some, None, List, [], ◌∷◌, ◌++◌, refl, ap, subst}
use Rattle.qd_outside.specs.Causes.{Rose}
use Rattle.qd_outside.specs.Opening.{Opening, In, Out, FilesState, LeftOf, IsHeld, IsNoted, IsEmptied, OpensIn, OpensOut, ReadsFile, WritesFile, FlushesFile}
use Rattle.qd_outside.specs.declared.source.Read.{Read}
use Rattle.qd_outside.specs.declared.sink.Write.{Write}

-- a file that was opened to be read is open, and one that was not is not
open_in : (name : List ℕ) (before after : FilesState) → OpensIn true name before after → after.is_reading ≡ true
open_in name before after o = ap (λ (t : FilesState). t.is_reading) o.0

not_open_in : (name : List ℕ) (before after : FilesState) → OpensIn false name before after → after.is_reading ≡ false
not_open_in name before after o = ap (λ (t : FilesState). t.is_reading) o.0

open_out : (name : List ℕ) (before after : FilesState) → OpensOut true name before after → after.is_writing ≡ true
open_out name before after o = ap (λ (t : FilesState). t.is_writing) o.0

not_open_out : (name : List ℕ) (before after : FilesState) → OpensOut false name before after → after.is_writing ≡ false
not_open_out name before after o = ap (λ (t : FilesState). t.is_writing) o.0

-- an open of the one side leaves the other as it is
in_leaves_out : (answer : Bool) (name : List ℕ) (before after : FilesState) → OpensIn answer name before after
    → (after.holds ≡ before.holds) × (after.written ≡ before.written) × (after.flushed ≡ before.flushed) × (after.is_writing ≡ before.is_writing) × (after.write_faults ≡ before.write_faults)
in_leaves_out true name before after o =
    (ap (λ (t : FilesState). t.holds) o.0, ap (λ (t : FilesState). t.written) o.0, ap (λ (t : FilesState). t.flushed) o.0, ap (λ (t : FilesState). t.is_writing) o.0, ap (λ (t : FilesState). t.write_faults) o.0)
in_leaves_out false name before after o =
    (ap (λ (t : FilesState). t.holds) o.0, ap (λ (t : FilesState). t.written) o.0, ap (λ (t : FilesState). t.flushed) o.0, ap (λ (t : FilesState). t.is_writing) o.0, ap (λ (t : FilesState). t.write_faults) o.0)

out_leaves_in : (answer : Bool) (name : List ℕ) (before after : FilesState) → OpensOut answer name before after
    → (after.holds ≡ before.holds) × (after.left ≡ before.left) × (after.flushed ≡ before.flushed) × (after.is_reading ≡ before.is_reading) × (after.read_faults ≡ before.read_faults)
out_leaves_in true name before after o =
    (ap (λ (t : FilesState). t.holds) o.0, ap (λ (t : FilesState). t.left) o.0, ap (λ (t : FilesState). t.flushed) o.0, ap (λ (t : FilesState). t.is_reading) o.0, ap (λ (t : FilesState). t.read_faults) o.0)
out_leaves_in false name before after o =
    (ap (λ (t : FilesState). t.holds) o.0, ap (λ (t : FilesState). t.left) o.0, ap (λ (t : FilesState). t.flushed) o.0, ap (λ (t : FilesState). t.is_reading) o.0, ap (λ (t : FilesState). t.read_faults) o.0)

-- an open that failed took and wrote nothing, and a fault was counted
failed_in : (name : List ℕ) (before after : FilesState) → OpensIn false name before after → (after.left ≡ before.left) × Rose before.read_faults after.read_faults
failed_in name before after o = (ap (λ (t : FilesState). t.left) o.0, o.2)

failed_out : (name : List ℕ) (before after : FilesState) → OpensOut false name before after → (after.written ≡ before.written) × Rose before.write_faults after.write_faults
failed_out name before after o = (ap (λ (t : FilesState). t.written) o.0, o.2)

-- one that did not fail counts no fault
opened_in : (name : List ℕ) (before after : FilesState) → OpensIn true name before after → after.read_faults ≡ before.read_faults
opened_in name before after o = ap (λ (t : FilesState). t.read_faults) o.0

opened_out : (name : List ℕ) (before after : FilesState) → OpensOut true name before after → after.write_faults ≡ before.write_faults
opened_out name before after o = ap (λ (t : FilesState). t.write_faults) o.0

-- an opened file is the one of that name, from its start; a name that is not held is not opened
held_left : (holds : List ℕ → Option (List ℕ)) (name bytes : List ℕ) (before after : FilesState) → before.holds ≡ Some holds → holds name ≡ Some bytes → OpensIn true name before after → after.left ≡ Some bytes
held_left holds name bytes before after h e o = subst (λ (x : Option (List ℕ)). LeftOf x after.left) e (subst (λ (x : Option (List ℕ → Option (List ℕ))). IsHeld x name after.left) h o.1)

not_held : (holds : List ℕ → Option (List ℕ)) (name : List ℕ) (before after : FilesState) → before.holds ≡ Some holds → holds name ≡ None → OpensIn true name before after → ⊥
not_held holds name before after h e o = subst (λ (x : Option (List ℕ)). LeftOf x after.left) e (subst (λ (x : Option (List ℕ → Option (List ℕ))). IsHeld x name after.left) h o.1)

-- a file that is opened to be written is empty
emptied : IsEmptied (Some (1 ∷ [])) (Some [])
emptied = refl

not_emptied : IsEmptied (Some (1 ∷ [])) (Some (1 ∷ [])) → ⊥
not_emptied e = absurd (cc)

-- a call that opened is noted, as the last one; one that failed may be missing
noted : (call : Opening) (before now : List Opening) → IsNoted true call (Some before) (Some now) → now ≡ before ++ call ∷ []
noted call before now (inl e) = e
noted call before now (inr e) = let no = e.0 in absurd (cc)

missing : (call : Opening) (before : List Opening) → IsNoted false call (Some before) (Some before)
missing call before = inr (refl, refl)

noted_otherwise : IsNoted false (In (1 ∷ [])) (Some []) (Some (In (2 ∷ []) ∷ [])) → ⊥
noted_otherwise (inl e) = absurd (cc)
noted_otherwise (inr e) = let no = e.1 in absurd (cc)

noted_for_out : IsNoted true (In []) (Some []) (Some (Out [] ∷ [])) → ⊥
noted_for_out (inl e) = absurd (cc)
noted_for_out (inr e) = let no = e.0 in absurd (cc)

noted_untold : (answer : Bool) (call : Opening) (before : List Opening) → IsNoted answer call (Some before) None → ⊥
noted_untold answer call before e = e

-- a read leaves what is written, and a write and a flush what is read; none of them opens or shuts a file
read_leaves : (answer : Read) (buf : List ℕ) (before after : FilesState) → ReadsFile answer buf before after
    → (after.holds ≡ before.holds) × (after.written ≡ before.written) × (after.asked ≡ before.asked) × (after.flushed ≡ before.flushed) × (after.is_reading ≡ before.is_reading) × (after.is_writing ≡ before.is_writing) × (after.write_faults ≡ before.write_faults)
read_leaves answer buf before after r =
    (ap (λ (t : FilesState). t.holds) r.same, ap (λ (t : FilesState). t.written) r.same, ap (λ (t : FilesState). t.asked) r.same, ap (λ (t : FilesState). t.flushed) r.same, ap (λ (t : FilesState). t.is_reading) r.same, ap (λ (t : FilesState). t.is_writing) r.same, ap (λ (t : FilesState). t.write_faults) r.same)

write_leaves : (answer : Write) (piece : List ℕ) (before after : FilesState) → WritesFile answer piece before after
    → (after.holds ≡ before.holds) × (after.left ≡ before.left) × (after.asked ≡ before.asked) × (after.is_reading ≡ before.is_reading) × (after.is_writing ≡ before.is_writing) × (after.read_faults ≡ before.read_faults)
write_leaves answer piece before after w =
    (ap (λ (t : FilesState). t.holds) w.same, ap (λ (t : FilesState). t.left) w.same, ap (λ (t : FilesState). t.asked) w.same, ap (λ (t : FilesState). t.is_reading) w.same, ap (λ (t : FilesState). t.is_writing) w.same, ap (λ (t : FilesState). t.read_faults) w.same)

flush_leaves : (answer : Bool) (before after : FilesState) → FlushesFile answer before after
    → (after.holds ≡ before.holds) × (after.left ≡ before.left) × (after.written ≡ before.written) × (after.asked ≡ before.asked) × (after.is_reading ≡ before.is_reading) × (after.is_writing ≡ before.is_writing) × (after.read_faults ≡ before.read_faults)
flush_leaves answer before after f =
    (ap (λ (t : FilesState). t.holds) f.same, ap (λ (t : FilesState). t.left) f.same, ap (λ (t : FilesState). t.written) f.same, ap (λ (t : FilesState). t.asked) f.same, ap (λ (t : FilesState). t.is_reading) f.same, ap (λ (t : FilesState). t.is_writing) f.same, ap (λ (t : FilesState). t.read_faults) f.same)
