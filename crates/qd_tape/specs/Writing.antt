-- What is written at each answer.
use Rattle.std.specs.Prelude.{ℕ, ◌≡◌, Bool, true, Option, List}
use Rattle.qd_outside.specs.Writing.{IsWritten, IsCutShort}
use Rattle.qd_tape.specs.declared.generating.GenEnd.{GenEnd}
use Rattle.qd_tape.specs.declared.generating.GenEnd.TheVariants as ends
use Rattle.qd_tape.specs.declared.tape.Wrote.{Wrote}
use Rattle.qd_tape.specs.declared.tape.Wrote.TheVariants.{Done, WriteFault}

-- a text was put behind what was written, or a fault was counted and a first part of it was
abbrev pub Tapes : Wrote → List ℕ → Option (List ℕ) → Option (List ℕ) → ℕ → ℕ → Type 0
Tapes Done text was now before after = IsWritten text was now before after
Tapes WriteFault text was now before after = IsCutShort text was now before after

-- the whole text was written and flushed, or a fault was counted and a first part of it was written; want of memory is no end
abbrev pub Generates : GenEnd → List ℕ → Option (List ℕ) → Option (List ℕ) → Bool → ℕ → ℕ → Type 0
Generates ends.Done text was now flushed before after = IsWritten text was now before after × (flushed ≡ true)
Generates ends.WriteFault text was now flushed before after = IsCutShort text was now before after
Generates ends.NoMemory text was now flushed before after = ⊥
