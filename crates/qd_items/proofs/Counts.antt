-- How many lines and items there are, and that none stands behind an end.
use Rattle.std.proofs.Common.{ℕ, ◌+◌, ◌≤◌, ◌^◌, Option, Some, None, Result, Ok, Err, List, [], ◌∷◌, ◌++◌, length, refl, sym, ap, subst, arith, inl, inr, length-append}
use Rattle.qd_grammar.specs.declared.fault.Fault.{Fault}
use Rattle.qd_grammar.specs.declared.item.Item.{Item}
use Rattle.qd_grammar.specs.declared.item.Mode.{Mode}
use Rattle.qd_line.specs.Lines.{joined}
use Rattle.qd_scheme.specs.declared.defs.RecordDef.{RecordDef}
use Rattle.qd_items.specs.declared.ends.TextEnd.{TextEnd}
use Rattle.qd_items.specs.declared.ends.TextEnd.TheVariants.{End, CutOff, Bad, LineTooLong, TooMuch, ReadFault, NoMemory}
use Rattle.qd_items.specs.Judging.{Numbered, Stop, StopsAt, NoneBehind, items_of, said, state_of, with_said}
use Rattle.qd_items.specs.Standing.{Past, IsTaken}
use Rattle.qd_items.specs.Ends.{IsEnded}

-- each line has at least its line feed
pub lines_few : (lines : List (List ℕ)) → length lines ≤ length (joined lines)
lines_few [] = omega arith
lines_few (line ∷ before) =
    let r = lines_few before in
    let n = length-append (joined before) (line ++ 10 ∷ []) in
    let m = length-append line (10 ∷ []) in
    omega (arith, r, n, m)

-- a line has at most one item
one_more : (n : ℕ) (answer : Result (Option Item) Fault) (items : List Numbered) → length (with_said n answer items) ≤ length items + 1
one_more n (Ok (Some item)) items = omega arith
one_more n (Ok None) items = omega arith
one_more n (Err f) items = omega arith

pub items_few : (mode : Mode) (defs : List RecordDef) (lines : List (List ℕ)) → length (items_of mode defs lines) ≤ length lines
items_few mode defs [] = omega arith
items_few mode defs (line ∷ before) =
    let r = items_few mode defs before in
    let n = one_more (length (line ∷ before)) (said mode defs (state_of mode defs before) line) (items_of mode defs before) in
    omega (arith, r, n)

-- there are no more items than bytes
pub few : (mode : Mode) (defs : List RecordDef) (p : Past) (rest : List ℕ) → IsTaken p rest → length (items_of mode defs p.lines) ≤ 2 ^ 40
few mode defs p rest t =
    let a = items_few mode defs p.lines in
    let b = lines_few p.lines in
    let c = ap length t.cut.whole in
    let d = length-append (joined p.lines) rest in
    let e = t.within in
    omega (arith, a, b, c, d, e)

-- at an end no line stands behind one that stops
pub none_behind_end : (mode : Mode) (defs : List RecordDef) (start : Option (List ℕ)) (end : TextEnd) (p : Past) (rest : List ℕ) (left : Option (List ℕ)) (before after : ℕ) → IsEnded mode defs start end p rest left before after → NoneBehind mode defs p.lines
none_behind_end mode defs start End p rest left before after e = inr (subst (λ (s : Stop). StopsAt s (length p.lines)) (sym e.cause.0) refl)
none_behind_end mode defs start (CutOff n) p rest left before after e = inl e.cause.0.0.0
none_behind_end mode defs start (Bad bad) p rest left before after e = inr (subst (λ (s : Stop). StopsAt s (length p.lines)) (sym e.cause.0.0) e.cause.0.1)
none_behind_end mode defs start (LineTooLong n) p rest left before after e = inl e.cause.0.0
none_behind_end mode defs start TooMuch p rest left before after e = inl e.cause.0.0.0
none_behind_end mode defs start ReadFault p rest left before after e = inl e.cause.0.0
none_behind_end mode defs start NoMemory p rest left before after e = inl e.cause.0
