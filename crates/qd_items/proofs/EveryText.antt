-- Each text decides an end: its lines are judged one after another, until one stops it or no whole line is left.
use Rattle.std.proofs.Common.{ℕ, zero, suc, ◌≡◌, ◌+◌, ◌<◌, ◌≤◌, ◌^◌, Bool, true, false, cond, Option, Some, None, Result, Ok, Err, List, [], ◌∷◌, ◌++◌, length, take, drop, refl, sym, ap, subst, arith, inl, inr, length-append, length-take}
use Rattle.std.specs.Prelude.{◌⊎◌, nat_eq}
use Rattle.std.proofs.lemmas.Bool.{cases_lt, eqb-true}
use Rattle.std.proofs.lemmas.List.{take-append-drop, take_all}
use Rattle.std.proofs.Math.ListN.{drop_of_length-le}
use Rattle.qd_grammar.specs.declared.fault.Fault.{Fault}
use Rattle.qd_grammar.specs.declared.item.Item.{Item}
use Rattle.qd_grammar.specs.declared.item.Mode.{Mode}
use Rattle.qd_line.specs.Lines.{is_one_line}
use Rattle.qd_scheme.specs.declared.defs.RecordDef.{RecordDef}
use Rattle.qd_items.specs.declared.ends.TextEnd.{TextEnd}
use Rattle.qd_items.specs.declared.ends.TextEnd.TheVariants.{End, CutOff, Bad, LineTooLong, TooMuch}
use Rattle.qd_items.specs.Judging.{is_end, said, state_of, stop_of, stop_with}
use Rattle.qd_items.specs.Judging.Stop.{Open, AtEnd}
use Rattle.qd_items.specs.Standing.{IsTaken}
use Rattle.qd_items.specs.Ends.{Causes}
use Rattle.qd_items.specs.Deciding.{Decides}
use Rattle.qd_items.proofs.StepLaws.{stop_line, taken_line}

-- a line, and what follows its line feed
record Cut (n : ℕ) (rest : List ℕ) : Type 0 where
  line : List ℕ
  after : List ℕ
  whole : rest ≡ line ++ 10 ∷ after
  one : is_one_line line ≡ true
  near : length line < n

-- one byte more in front
longer : (n b : ℕ) (rest : List ℕ) → nat_eq b 10 ≡ false → Cut n rest → Cut (suc n) (b ∷ rest)
longer n b rest e c =
    let near = c.near in
    record { line = b ∷ c.line; after = c.after; whole = ap (λ (l : List ℕ). b ∷ l) c.whole; one = rw e c.one; near = omega (arith, near) }

by_first : (n b : ℕ) (rest : List ℕ) (t : Bool) → nat_eq b 10 ≡ t → (is_one_line (take n rest) ≡ false → Cut n rest) → is_one_line (take (suc n) (b ∷ rest)) ≡ false → Cut (suc n) (b ∷ rest)
by_first n b rest true e more h = record { line = []; after = rest; whole = ap (λ (x : ℕ). x ∷ rest) (eqb-true b 10 e); one = refl; near = omega arith }
by_first n b rest false e more h = longer n b rest e (more (rw e at h))

-- where the first bytes have a line feed, they begin with a line
first_cut : (n : ℕ) (rest : List ℕ) → is_one_line (take n rest) ≡ false → Cut n rest
first_cut zero rest h = absurd (cc)
first_cut (suc n) [] h = absurd (cc)
first_cut (suc n) (b ∷ rest) h = by_first n b rest (nat_eq b 10) refl (λ k. first_cut n rest k) h

-- an end of a text
record Decided (mode : Mode) (defs : List RecordDef) (text : List ℕ) : Type 0 where
  end : TextEnd
  lines : List (List ℕ)
  decides : Decides mode defs text end lines

-- the bytes that are read of a text, and those that are not
abbrev read : List ℕ → List ℕ
read text = take (2 ^ 40) text

abbrev unread : List ℕ → List ℕ
unread text = drop (2 ^ 40) text

decided : (mode : Mode) (defs : List RecordDef) (text : List ℕ) (end : TextEnd) (lines : List (List ℕ)) (rest : List ℕ) → IsTaken (record { taken = read text; lines = lines }) rest
    → Causes end (stop_of mode defs lines) (length lines) rest (length (read text)) (Some (unread text)) → Decided mode defs text
decided mode defs text end lines rest t cause = record {
  end = end;
  lines = lines;
  decides = record { bytes = read text; tail = unread text; rest = rest; whole = sym (take-append-drop (2 ^ 40) text); taken = t; cause = cause };
}

-- no whole line is left
no_more : (mode : Mode) (defs : List RecordDef) (text : List ℕ) (lines : List (List ℕ)) (rest : List ℕ) → IsTaken (record { taken = read text; lines = lines }) rest → stop_of mode defs lines ≡ Open
    → is_one_line (take 4097 rest) ≡ true → Decided mode defs text
no_more mode defs text lines rest t o one = go (cases_lt 4096 (length rest)) (cases_lt (length (read text)) (2 ^ 40))
  where
    go : (4096 < length rest) ⊎ (length rest ≤ 4096) → (length (read text) < 2 ^ 40) ⊎ (2 ^ 40 ≤ length (read text)) → Decided mode defs text
    go (inl long) other = decided mode defs text (LineTooLong (length lines + 1)) lines rest t (o, record { long = long; one = one }, refl)
    go (inr short) (inl few) =
        let all : is_one_line rest ≡ true = subst (λ (l : List ℕ). is_one_line l ≡ true) (take_all 4097 rest (omega (arith, short))) one in
        let size = length-take (2 ^ 40) text in
        let none : unread text ≡ [] = drop_of_length-le text {i = 2 ^ 40} (omega (arith, size, few)) in
        decided mode defs text (CutOff (length lines)) lines rest t ((o, record { one = all; short = short }), few, none, refl)
    go (inr short) (inr many) =
        let all : is_one_line rest ≡ true = subst (λ (l : List ℕ). is_one_line l ≡ true) (take_all 4097 rest (omega (arith, short))) one in
        let within = t.within in
        decided mode defs text TooMuch lines rest t ((o, record { one = all; short = short }), omega (arith, many, within))

-- what is left of a text decides an end, where it is no longer than this
abbrev Walk : Mode → List RecordDef → List ℕ → ℕ → Type 0
Walk mode defs text n = (lines : List (List ℕ)) (rest : List ℕ) → length rest ≤ n → IsTaken (record { taken = read text; lines = lines }) rest → stop_of mode defs lines ≡ Open → Decided mode defs text

-- a line that spells an item
by_item : (mode : Mode) (defs : List RecordDef) (text : List ℕ) (n : ℕ) (lines : List (List ℕ)) (line after : List ℕ) (t : Bool) → Walk mode defs text n → length after ≤ n → IsTaken (record { taken = read text; lines = line ∷ lines }) after
    → stop_of mode defs (line ∷ lines) ≡ cond t (AtEnd (length (line ∷ lines))) Open → Decided mode defs text
by_item mode defs text n lines line after true more fuel u stop = decided mode defs text End (line ∷ lines) after u stop
by_item mode defs text n lines line after false more fuel u stop = more (line ∷ lines) after fuel u stop

-- a line by what it says
by_line : (mode : Mode) (defs : List RecordDef) (text : List ℕ) (n : ℕ) (lines : List (List ℕ)) (line after : List ℕ) (answer : Result (Option Item) Fault) → Walk mode defs text n → length after ≤ n → IsTaken (record { taken = read text; lines = line ∷ lines }) after
    → stop_of mode defs (line ∷ lines) ≡ stop_with (length (line ∷ lines)) answer → Decided mode defs text
by_line mode defs text n lines line after (Ok None) more fuel u stop = more (line ∷ lines) after fuel u stop
by_line mode defs text n lines line after (Ok (Some item)) more fuel u stop = by_item mode defs text n lines line after (is_end item) more fuel u stop
by_line mode defs text n lines line after (Err f) more fuel u stop =
    decided mode defs text (Bad (record { line = length (line ∷ lines); place = f.place; why = f.why })) (line ∷ lines) after u (stop, refl)

-- the next line, where there is one
by_cut : (mode : Mode) (defs : List RecordDef) (text : List ℕ) (n : ℕ) (lines : List (List ℕ)) (rest : List ℕ) (one : Bool) → Walk mode defs text n → length rest ≤ suc n → IsTaken (record { taken = read text; lines = lines }) rest → stop_of mode defs lines ≡ Open
    → is_one_line (take 4097 rest) ≡ one → Decided mode defs text
by_cut mode defs text n lines rest true more fuel t o h = no_more mode defs text lines rest t o h
by_cut mode defs text n lines rest false more fuel t o h =
    let c = first_cut 4097 rest h in
    let near = c.near in
    let w = ap length c.whole in
    let v = length-append c.line (10 ∷ c.after) in
    by_line mode defs text n lines c.line c.after (said mode defs (state_of mode defs lines) c.line) more (omega (arith, fuel, w, v))
    (taken_line (record { taken = read text; lines = lines }) rest c.line c.after t c.whole c.one (omega (arith, near))) (stop_line mode defs lines c.line (state_of mode defs lines) o refl)

-- the lines that are left are judged
walk : (mode : Mode) (defs : List RecordDef) (text : List ℕ) (n : ℕ) → Walk mode defs text n
walk mode defs text zero = λ lines rest fuel t o. by_size lines rest fuel t o
  where
    by_size : (lines : List (List ℕ)) (rest : List ℕ) → length rest ≤ 0 → IsTaken (record { taken = read text; lines = lines }) rest → stop_of mode defs lines ≡ Open → Decided mode defs text
    by_size lines [] fuel t o = no_more mode defs text lines [] t o refl
    by_size lines (b ∷ rest) fuel t o = absurd (omega (arith, fuel))
walk mode defs text (suc n) = λ lines rest fuel t o. by_cut mode defs text n lines rest (is_one_line (take 4097 rest)) (walk mode defs text n) fuel t o refl

pub some_end : (mode : Mode) (defs : List RecordDef) (text : List ℕ) → (end : TextEnd) × (lines : List (List ℕ)) × Decides mode defs text end lines
some_end mode defs text =
    let size = length-take (2 ^ 40) text in
    let d = walk mode defs text (length (read text)) [] (read text) (omega arith) (record { cut = record { whole = refl; each = tt }; short = tt; within = omega (arith, size) }) refl in
    (d.end, d.lines, d.decides)
