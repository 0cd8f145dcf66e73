-- What the answer of a line gives, and what the code tells of it.
use Rattle.std.specs.Prelude.{ℕ, ◌≡◌, false, Option, Some, None, Result, Ok, Err}
use Rattle.qd_grammar.specs.declared.fault.Fault.{Fault}
use Rattle.qd_grammar.specs.declared.item.Item.{Item}
use Rattle.qd_grammar.specs.declared.item.Item.TheVariants as items
use Rattle.qd_items.specs.declared.ends.TextEnd.{TextEnd}
use Rattle.qd_items.specs.declared.ends.TextEnd.TheVariants.{End, CutOff, Bad, LineTooLong, TooMuch, ReadFault, NoMemory}
use Rattle.qd_items.specs.declared.items.NextItem.{NextItem}
use Rattle.qd_items.specs.declared.items.NextItem.TheVariants as nexts
use Rattle.qd_items.specs.declared.items.Turn.{Turn}
use Rattle.qd_items.specs.declared.items.Turn.TheVariants as turns
use Rattle.qd_items.specs.declared.places.Way.{Way}
use Rattle.qd_items.specs.declared.places.Way.TheVariants as ways
use Rattle.qd_items.specs.Judging.{is_end}

-- nothing where the line of this number is skipped; the end where it spells END or has a fault; else its item
abbrev pub Gives : Result (Option Item) Fault → ℕ → Option NextItem → Type 0
Gives said line None = said ≡ Ok None
Gives said line (Some (nexts.Item item)) = (said ≡ Ok (Some item)) × (is_end item ≡ false)
Gives said line (Some (nexts.Ended End)) = said ≡ Ok (Some items.End)
Gives said line (Some (nexts.Ended (Bad bad))) = (said ≡ Err (record { place = bad.place; why = bad.why })) × (bad.line ≡ line)
Gives said line (Some (nexts.Ended (LineTooLong n))) = ⊥
Gives said line (Some (nexts.Ended (CutOff n))) = ⊥
Gives said line (Some (nexts.Ended TooMuch)) = ⊥
Gives said line (Some (nexts.Ended ReadFault)) = ⊥
Gives said line (Some (nexts.Ended NoMemory)) = ⊥

-- what comes next, where the item that came last is this one
abbrev pub came : Option TextEnd → Item → NextItem
came None item = nexts.Item item
came (Some end) item = nexts.Ended end

-- the same of a step; None where it went on
abbrev pub told : Turn → Item → Option NextItem
told turns.Went item = None
told turns.Came item = Some (nexts.Item item)
told (turns.Ended end) item = Some (nexts.Ended end)

-- the same, where an end stands beside the way that the step went
abbrev pub turn_of : Way → TextEnd → Turn
turn_of ways.Went end = turns.Went
turn_of ways.Came end = turns.Came
turn_of ways.Ended end = turns.Ended end

abbrev pub step_told : Way → TextEnd → Item → Option NextItem
step_told way end item = told (turn_of way end) item
