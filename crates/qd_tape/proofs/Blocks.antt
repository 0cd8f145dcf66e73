-- The text that is left, block by block.
use Rattle.std.proofs.Common.{ℕ, ◌≡◌, ◌+◌, ◌-◌, ◌<◌, suc, List, [], ◌∷◌, ◌++◌, refl, ◌∙◌, ap, append_assoc, arith}
use Rattle.std.specs.Prelude.{if◌then◌else◌}
use Rattle.std.proofs.lemmas.Grind.{flat_map-append}
use Rattle.qd_check.specs.Printing.{line_of}
use Rattle.qd_grammar.specs.declared.item.Item.{Item}
use Rattle.qd_grammar.specs.declared.item.Item.TheVariants.{Head, End}
use Rattle.qd_scheme.specs.Builtin.{builtin_defs}
use Rattle.qd_scheme.specs.declared.defs.RecordDef.{RecordDef}
use Rattle.qd_tape.specs.Scripts.{drawn, fed, fed_block, fed_head, fed_item, generated, is_taking, lines_text, first_items, opening_block, three_takes, Script, text_left, last_drawn, next_drawn}
use Rattle.qd_tape.specs.declared.script.Stage.{Stage}
use Rattle.qd_tape.specs.declared.script.Stage.TheVariants.{Opening, Feeding}

lines_text-append : (defs : List RecordDef) (a b : List Item) → lines_text defs (a ++ b) ≡ lines_text defs a ++ lines_text defs b
lines_text-append defs a b = flat_map-append (line_of defs) a b

-- a script at a stage
abbrev pub at : ℕ → ℕ → Stage → Script
at start count stage = record { start = start; count = count; stage = stage }

-- where nothing is fed, all is taken behind the opening
pub opening_takes : (defs : List RecordDef) (count : ℕ) → count ≡ 0 → lines_text defs (opening_block count) ≡ lines_text defs first_items ++ lines_text defs three_takes
opening_takes defs count e = rw e (lines_text-append defs first_items three_takes)

pub text_left-opening : (start count : ℕ) → text_left (at start count Opening) ≡ lines_text builtin_defs (opening_block count) ++ text_left (at start count (Feeding 0))
text_left-opening start count =
    let all : count ≡ count - 0 = omega arith in
    lines_text-append builtin_defs (opening_block count) (fed start count 0 count ++ End ∷ [])
    ∙ ap (λ (n : ℕ). lines_text builtin_defs (opening_block count) ++ lines_text builtin_defs (fed start count 0 n ++ End ∷ [])) all

pub text_left-generated : (start count : ℕ) → text_left (at start count Opening) ≡ generated start count
unfolding generated
text_left-generated start count = refl

more_left : (count i : ℕ) → i < count → count - i ≡ suc (count - (i + 1))
more_left count i h = omega (arith, h)

fed_more : (start count i : ℕ) → i < count → fed start count i (count - i) ≡ fed_block start count i ++ fed start count (i + 1) (count - (i + 1))
fed_more start count i h = ap (fed start count i) (more_left count i h)

pub text_left-block : (start count i x : ℕ) → i < count → x ≡ drawn start (suc i)
    → text_left (at start count (Feeding i)) ≡ lines_text builtin_defs (Head (fed_head i) ∷ fed_item i x ∷ (if is_taking count (i + 1) then three_takes else [])) ++ text_left (at start count (Feeding (i + 1)))
text_left-block start count i x h e =
    let rest : List Item = fed start count (i + 1) (count - (i + 1)) ++ End ∷ [] in
    let split = ap (λ (l : List Item). l ++ End ∷ []) (fed_more start count i h) ∙ append_assoc (fed_block start count i) (fed start count (i + 1) (count - (i + 1))) (End ∷ []) in
    rw e (ap (lines_text builtin_defs) split ∙ lines_text-append builtin_defs (fed_block start count i) rest)

-- the same of what is left of a script, for the lines that were given
pub left_behind_opening : (s : Script) (start count : ℕ) (stage : Stage) (lines : List ℕ) → at start count stage ≡ s → stage ≡ Opening → lines ≡ lines_text builtin_defs (opening_block count)
    → text_left s ≡ lines ++ text_left (at start count (Feeding 0))
left_behind_opening s start count stage lines v e l = rw (← v, e, l) (text_left-opening start count)

pub left_behind_block : (s : Script) (start count i last x : ℕ) (stage : Stage) (lines : List ℕ) → at start count stage ≡ s → stage ≡ Feeding i → i < count → last ≡ last_drawn start stage → x ≡ next_drawn last
    → lines ≡ lines_text builtin_defs (Head (fed_head i) ∷ fed_item i x ∷ (if is_taking count (i + 1) then three_takes else []))
    → text_left s ≡ lines ++ text_left (at start count (Feeding (i + 1)))
left_behind_block s start count i last x stage lines v e h d n l =
    let drew : x ≡ drawn start (suc i) = n ∙ ap next_drawn (d ∙ ap (last_drawn start) e) in
    rw (← v, e, l) (text_left-block start count i x h drew)
