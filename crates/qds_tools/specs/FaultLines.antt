-- The line that the program writes to standard error where something is refused or failed.
use Rattle.std.specs.Prelude.{ℕ, List, [], ◌∷◌, ◌++◌, codes}
use Rattle.std.specs.Fmt.{decimal}
use Rattle.qd_decimal.specs.declared.fault.DecFault.{DecFault}
use Rattle.qd_decimal.specs.declared.fault.DecFault.TheVariants.{Empty, BadByte, TooFine, TooLarge}
use Rattle.qd_grammar.specs.declared.fault.Why.{Why}
use Rattle.qd_grammar.specs.declared.fault.Why.TheVariants.{Form, UnknownRecord, SchemeMismatch, Number, BadSymbol, BadFlags, Order}
use Rattle.qd_items.specs.declared.ends.Limit.{Limit}
use Rattle.qd_items.specs.declared.ends.Limit.TheVariants.{TooManyKeys, TooManySubs, HistoryFull}
use Rattle.qd_items.specs.declared.ends.RunEnd.{RunEnd}
use Rattle.qd_items.specs.declared.ends.RunEnd.TheVariants as runs
use Rattle.qd_scheme.specs.declared.faults.SchemeWhy.{SchemeWhy}
use Rattle.qd_scheme.specs.declared.faults.SchemeWhy.TheVariants.{TooManyRecords, BadName, DuplicateName, TooManyFields, BadScale}
use Rattle.qd_scheme_file.specs.declared.no_scheme.NoScheme.{NoScheme}
use Rattle.qd_scheme_file.specs.declared.no_scheme.NoScheme.TheVariants as schemes
use Rattle.qds_tools.specs.declared.program_end.ProgramEnd.{ProgramEnd}
use Rattle.qds_tools.specs.declared.program_end.ProgramEnd.TheVariants.{Usage, Refused, Ran, NetFault}

-- the name of a number's fault
abbrev pub number_name : DecFault → List ℕ
number_name Empty = codes "Empty"
number_name (BadByte place) = codes "BadByte"
number_name (TooFine place) = codes "TooFine"
number_name TooLarge = codes "TooLarge"

-- the name of a line's fault
abbrev pub why_name : Why → List ℕ
why_name Form = codes "Form"
why_name UnknownRecord = codes "UnknownRecord"
why_name SchemeMismatch = codes "SchemeMismatch"
why_name (Number fault) = number_name fault
why_name BadSymbol = codes "BadSymbol"
why_name BadFlags = codes "BadFlags"
why_name Order = codes "Order"

-- the name of a limit
abbrev pub limit_name : Limit → List ℕ
limit_name TooManyKeys = codes "TooManyKeys"
limit_name TooManySubs = codes "TooManySubs"
limit_name HistoryFull = codes "HistoryFull"

-- the name of what is wrong with the records of a scheme
abbrev pub scheme_name : SchemeWhy → List ℕ
scheme_name TooManyRecords = codes "TooManyRecords"
scheme_name BadName = codes "BadName"
scheme_name DuplicateName = codes "DuplicateName"
scheme_name TooManyFields = codes "TooManyFields"
scheme_name BadScale = codes "BadScale"

-- a line that says what it was
abbrev pub plain_line : List ℕ → List ℕ
plain_line name = (codes "qds: " ++ name) ++ 10 ∷ []

-- a line that also says at which line of a text
abbrev pub numbered_line : List ℕ → ℕ → List ℕ → List ℕ
numbered_line start line name = (((start ++ decimal line) ++ codes ": ") ++ name) ++ 10 ∷ []

-- a line that also says at which place of that line
abbrev pub placed_line : List ℕ → ℕ → ℕ → List ℕ → List ℕ
placed_line start line place name = (((((start ++ decimal line) ++ codes ", place ") ++ decimal place) ++ codes ": ") ++ name) ++ 10 ∷ []

-- the line on a refused scheme file
abbrev pub scheme_line : NoScheme → List ℕ
scheme_line (schemes.Bad bad) = placed_line (codes "qds: scheme line ") bad.line bad.place (why_name bad.why)
scheme_line (schemes.Wrong line why) = numbered_line (codes "qds: scheme line ") line (scheme_name why)
scheme_line (schemes.LineTooLong line) = numbered_line (codes "qds: scheme line ") line (codes "LineTooLong")
scheme_line schemes.TooMuch = plain_line (codes "scheme: TooMuch")
scheme_line schemes.ReadFault = plain_line (codes "read fault")
scheme_line schemes.NoMemory = plain_line (codes "no memory")

-- the line on the end of a run; none where all was done
abbrev pub run_line : RunEnd → List ℕ
run_line runs.Done = []
run_line (runs.CutOff line) = numbered_line (codes "qds: after line ") line (codes "CutOff")
run_line (runs.Bad bad) = placed_line (codes "qds: line ") bad.line bad.place (why_name bad.why)
run_line (runs.LineTooLong line) = numbered_line (codes "qds: line ") line (codes "LineTooLong")
run_line (runs.BadStep line) = numbered_line (codes "qds: line ") line (codes "BadStep")
run_line (runs.Refused line limit) = numbered_line (codes "qds: line ") line (limit_name limit)
run_line runs.TooMuch = plain_line (codes "TooMuch")
run_line runs.ReadFault = plain_line (codes "read fault")
run_line runs.WriteFault = plain_line (codes "write fault")
run_line runs.Spent = plain_line (codes "spent")
run_line runs.NoMemory = plain_line (codes "no memory")

-- the line on the end of the program
abbrev pub fault_line : ProgramEnd → List ℕ
fault_line Usage = plain_line (codes "usage")
fault_line (Refused why) = scheme_line why
fault_line (Ran end) = run_line end
fault_line NetFault = plain_line (codes "net fault")
