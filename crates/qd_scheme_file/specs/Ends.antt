-- How the reading of a scheme file ends, and why.
use Rattle.std.specs.Prelude.{ℕ, ◌≡◌, ◌≤◌, ◌<◌, ◌⊎◌, ◌^◌, true, List, ◌++◌, length, Option, Some, Result, Ok, Err, is_ok, is_err}
use Rattle.qd_outside.specs.Causes.{Rose}
use Rattle.qd_outside.specs.Reading.{Took, IsSpent}
use Rattle.qd_scheme.specs.declared.defs.RecordDef.{RecordDef}
use Rattle.qd_scheme_file.specs.declared.no_scheme.NoScheme.{NoScheme}
use Rattle.qd_scheme_file.specs.declared.no_scheme.NoScheme.TheVariants.{Bad, Wrong, LineTooLong, TooMuch, ReadFault, NoMemory}
use Rattle.qd_scheme_file.specs.Told.{begun, told}

-- the bytes that were read say this: they are the whole file, or say it whatever follows
abbrev pub IsSaid : Result (List RecordDef) NoScheme → List ℕ → Option (List ℕ) → Type 0
IsSaid end taken left = (told taken ≡ end) × ((IsSpent left × (length taken < 2 ^ 40)) ⊎ (is_err (begun taken) ≡ true))

-- the cause of an end that the bytes lead to: those that were taken, and those that are left
abbrev pub IsLedTo : Result (List RecordDef) NoScheme → List ℕ → Option (List ℕ) → Type 0
IsLedTo (Err TooMuch) taken left = (length taken ≡ 2 ^ 40) × (is_ok (begun taken) ≡ true)
IsLedTo (Err ReadFault) taken left = ⊥
IsLedTo (Err NoMemory) taken left = ⊥
IsLedTo (Err (Bad bad)) taken left = IsSaid (Err (Bad bad)) taken left
IsLedTo (Err (Wrong line why)) taken left = IsSaid (Err (Wrong line why)) taken left
IsLedTo (Err (LineTooLong line)) taken left = IsSaid (Err (LineTooLong line)) taken left
IsLedTo (Ok defs) taken left = IsSaid (Ok defs) taken left

-- the cause of each end; the counts of read faults before and after
abbrev pub Cause : Result (List RecordDef) NoScheme → List ℕ → Option (List ℕ) → ℕ → ℕ → Type 0
Cause (Err ReadFault) taken left before after = Rose before after × (before ≤ after)
Cause (Err NoMemory) taken left before after = after ≡ before
Cause (Err TooMuch) taken left before after = IsLedTo (Err TooMuch) taken left × (after ≡ before)
Cause (Err (Bad bad)) taken left before after = IsLedTo (Err (Bad bad)) taken left × (after ≡ before)
Cause (Err (Wrong line why)) taken left before after = IsLedTo (Err (Wrong line why)) taken left × (after ≡ before)
Cause (Err (LineTooLong line)) taken left before after = IsLedTo (Err (LineTooLong line)) taken left × (after ≡ before)
Cause (Ok defs) taken left before after = IsLedTo (Ok defs) taken left × (after ≡ before)

-- a scheme file was read to this end: the bytes that were taken are its cause
pub record Ends (end : Result (List RecordDef) NoScheme) (was left : Option (List ℕ)) (before after : ℕ) : Type 0 where
  pub taken : List ℕ
  pub took : Took was left taken
  pub within : length taken ≤ 2 ^ 40
  pub cause : Cause end taken left before after

-- a file with these bytes leads to this end, where nothing fails
pub record Decides (bytes : List ℕ) (end : Result (List RecordDef) NoScheme) : Type 0 where
  pub taken : List ℕ
  pub tail : List ℕ
  pub whole : bytes ≡ taken ++ tail
  pub within : length taken ≤ 2 ^ 40
  pub cause : IsLedTo end taken (Some tail)
