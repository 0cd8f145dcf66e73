-- What a text decides of a run over it, and that what was written at any time is a first part of it.
use Rattle.std.proofs.Common.{ℕ, ◌≡◌, Bool, true, false, Option, Some, None, Result, Ok, Err, List, [], ◌∷◌, ◌++◌, length, refl, sym, ◌∙◌, ap, subst, arith, append_assoc, inl, inr}
use Rattle.std.proofs.lemmas.List.{append-nil}
use Rattle.std.specs.Prelude.{◌⊎◌}
use Rattle.qd_grammar.specs.declared.fault.Fault.{Fault}
use Rattle.qd_grammar.specs.declared.item.Item.{Item}
use Rattle.qd_grammar.specs.declared.item.Mode.{Mode}
use Rattle.qd_items.specs.declared.ends.TextEnd.{TextEnd}
use Rattle.qd_items.specs.declared.ends.TextEnd.TheVariants.{End, Bad, NoMemory}
use Rattle.qd_items.specs.Deciding.{Decides}
use Rattle.qd_items.specs.Ends.{IsEnded}
use Rattle.qd_items.specs.Judging.{NoneBehind, Numbered, Stop, StopsAt, items_of, said, state_of, stop_of, with_said}
use Rattle.qd_items.specs.Judging.Stop.{Open, AtEnd, AtBad}
use Rattle.qd_items.specs.Standing.{Past, IsTaken}
use Rattle.qd_items.proofs.DecidingLaws.{decided_end, decided_lines}
use Rattle.qd_outside.specs.Causes.{Rose}
use Rattle.qd_outside.specs.Reading.{Took}
use Rattle.qd_outside.specs.Writing.{Gained}
use Rattle.qd_scheme.specs.declared.defs.RecordDef.{RecordDef}
use Rattle.qd_client.specs.declared.ends.Halt.{Halt}
use Rattle.qd_client.specs.declared.ends.Halt.TheVariants as halts
use Rattle.qd_client.specs.Reading.{HaltedBy, IsFirstPart, IsThrough, halt_of, items_in, newest_line}
use Rattle.qd_client.specs.Rules.{Rule, is_over, printed, until_over}

-- the items of more lines are more items
said_more : (n : ℕ) (r : Result (Option Item) Fault) (ns : List Numbered) → (more : List Numbered) × (with_said n r ns ≡ more ++ ns)
said_more n (Ok (Some item)) ns = (record { line = n; item = item } ∷ [], refl)
said_more n (Ok None) ns = ([], refl)
said_more n (Err f) ns = ([], refl)

items_more : (mode : Mode) (defs : List RecordDef) (more lines : List (List ℕ)) → (ns : List Numbered) × (items_of mode defs (more ++ lines) ≡ ns ++ items_of mode defs lines)
items_more mode defs [] lines = ([], refl)
items_more mode defs (line ∷ more) lines =
    let rest = items_more mode defs more lines in
    let one = said_more (length (line ∷ (more ++ lines))) (said mode defs (state_of mode defs (more ++ lines)) line) (items_of mode defs (more ++ lines)) in
    (one.0 ++ rest.0, one.1 ∙ ap (λ (l : List Numbered). one.0 ++ l) rest.1 ∙ sym (append_assoc one.0 rest.0 (items_of mode defs lines)))

never_rose : Rose 0 0 → ⊥
never_rose r = omega (arith, r)

-- lines behind which none stops the text are the first ones of those that the text decides
first_by : (mode : Mode) (defs : List RecordDef) (text : List ℕ) (p : Past) (rest tail : List ℕ) (end : TextEnd) (lines : List (List ℕ)) (stop : Stop) → stop_of mode defs p.lines ≡ stop → text ≡ p.taken ++ tail
    → IsTaken p rest → (stop ≡ Open) ⊎ StopsAt stop (length p.lines) → Decides mode defs text end lines → (more : List (List ℕ)) × (lines ≡ more ++ p.lines)
first_by mode defs text p rest tail end lines Open s whole t n d = decided_lines mode defs text tail p rest end lines whole t s d
first_by mode defs text p rest tail end lines (AtEnd m) s whole t (inl n) d = absurd (cc)
first_by mode defs text p rest tail end lines (AtBad bad) s whole t (inl n) d = absurd (cc)
first_by mode defs text p rest tail end lines (AtEnd m) s whole t (inr n) d =
    let e : IsEnded mode defs (Some text) End p rest (Some tail) 0 0 = record { bytes = t; took = whole; cause = (s ∙ ap AtEnd n, refl) } in
    elim (decided_end mode defs text End end p rest (Some tail) 0 0 lines e never_rose d) [
      | inl same ↦ ([], sym same.1)
      | inr none ↦ absurd (cc)
    ]
first_by mode defs text p rest tail end lines (AtBad bad) s whole t (inr n) d =
    let e : IsEnded mode defs (Some text) (Bad bad) p rest (Some tail) 0 0 = record { bytes = t; took = whole; cause = ((s, n), refl) } in
    elim (decided_end mode defs text (Bad bad) end p rest (Some tail) 0 0 lines e never_rose d) [
      | inl same ↦ ([], sym same.1)
      | inr none ↦ absurd (cc)
    ]

first_lines : (mode : Mode) (defs : List RecordDef) (text : List ℕ) (p : Past) (rest : List ℕ) (left : Option (List ℕ)) (end : TextEnd) (lines : List (List ℕ)) → IsTaken p rest → Took (Some text) left p.taken
    → NoneBehind mode defs p.lines → Decides mode defs text end lines → (more : List (List ℕ)) × (lines ≡ more ++ p.lines)
first_lines mode defs text p rest None end lines t took n d = absurd took
first_lines mode defs text p rest (Some tail) end lines t took n d = first_by mode defs text p rest tail end lines (stop_of mode defs p.lines) refl took t n d

-- where items end a run, more items change nothing
over_stays : (rule : Rule) (more items : List Numbered) → is_over rule items ≡ true → is_over rule (more ++ items) ≡ true
over_stays rule [] items e = e
over_stays rule (n ∷ more) items e = rw (over_stays rule more items e) refl

until_stays : (rule : Rule) (more items : List Numbered) → is_over rule items ≡ true → until_over rule (more ++ items) ≡ until_over rule items
until_stays rule [] items e = refl
until_stays rule (n ∷ more) items e = rw (over_stays rule more items e) (until_stays rule more items e)

-- items behind which none ends the run are the first ones of more items up to the one that does
until_more : (rule : Rule) (more items : List Numbered) → until_over rule items ≡ items → (xs : List Numbered) × (until_over rule (more ++ items) ≡ xs ++ items)
until_more rule [] items e = ([], e)
until_more rule (n ∷ more) items e = go (is_over rule (more ++ items)) refl (until_more rule more items e)
  where
    go : (b : Bool) → is_over rule (more ++ items) ≡ b → (xs : List Numbered) × (until_over rule (more ++ items) ≡ xs ++ items) → (xs : List Numbered) × (until_over rule (n ∷ (more ++ items)) ≡ xs ++ items)
    go true f r = (r.0, rw f r.1)
    go false f r = (n ∷ more, rw f refl)

printed_front : (rule : Rule) (defs : List RecordDef) (more items : List Numbered) → (rest : List ℕ) × (printed rule defs (more ++ items) ≡ printed rule defs items ++ rest)
printed_front rule defs [] items = ([], sym (append-nil (printed rule defs items)))
printed_front rule defs (n ∷ more) items =
    let r = printed_front rule defs more items in
    let text : List ℕ = rule.text defs (more ++ items) n.item in
    (r.0 ++ text, ap (λ (l : List ℕ). l ++ text) r.1 ∙ append_assoc (printed rule defs items) r.0 text)

-- what was written of what was read is a first part of what the whole text says
pub first_part : (rule : Rule) (defs : List RecordDef) (start left was now : Option (List ℕ)) (p : Past) (rest part behind : List ℕ) → IsThrough rule defs start p rest left
    → printed rule defs (items_in rule defs p) ≡ part ++ behind → Gained was now part → IsFirstPart rule defs start was now
first_part rule defs start left was now p rest part behind t whole gained = λ text end lines told d.
    let took : Took (Some text) left p.taken = subst (λ (s : Option (List ℕ)). Took s left p.taken) told t.took in
    let first = first_lines rule.mode defs text p rest left end lines t.bytes took t.none_behind d in
    let more = items_more rule.mode defs first.0 p.lines in
    let all : items_of rule.mode defs lines ≡ more.0 ++ items_in rule defs p = ap (items_of rule.mode defs) first.1 ∙ more.1 in
    let until = until_more rule more.0 (items_in rule defs p) t.first in
    let front = printed_front rule defs until.0 (items_in rule defs p) in (
      part,
      behind ++ front.0,
      ap (λ (ns : List Numbered). printed rule defs (until_over rule ns)) all ∙ ap (printed rule defs) until.1 ∙ front.1 ∙ ap (λ (l : List ℕ). l ++ front.0) whole ∙ append_assoc part behind front.0,
      gained,
    )

-- the text decides where a run halts, and which items it has read then
pub decided : (rule : Rule) (defs : List RecordDef) (start left : Option (List ℕ)) (halt : Halt) (p : Past) (rest : List ℕ) (before after : ℕ) (text : List ℕ) (last : TextEnd) (lines : List (List ℕ))
    → IsThrough rule defs start p rest left → HaltedBy halt rule defs p rest left before after → start ≡ Some text → Decides rule.mode defs text last lines → (Rose before after → ⊥)
    → ((halt ≡ halt_of rule last (items_of rule.mode defs lines)) × (until_over rule (items_of rule.mode defs lines) ≡ items_in rule defs p)) ⊎ (halt ≡ halts.Text NoMemory)
decided rule defs start left (halts.Item line) p rest before after text last lines t (over, stop, number, newest, same) told d none =
    let took : Took (Some text) left p.taken = subst (λ (s : Option (List ℕ)). Took s left p.taken) told t.took in
    let first = first_lines rule.mode defs text p rest left last lines t.bytes took t.none_behind d in
    let more = items_more rule.mode defs first.0 p.lines in
    let all : items_of rule.mode defs lines ≡ more.0 ++ items_in rule defs p = ap (items_of rule.mode defs) first.1 ∙ more.1 in
    let until : until_over rule (items_of rule.mode defs lines) ≡ items_in rule defs p = ap (until_over rule) all ∙ until_stays rule more.0 (items_in rule defs p) over ∙ t.first in
    let is_over_all : is_over rule (items_of rule.mode defs lines) ≡ true = ap (is_over rule) all ∙ over_stays rule more.0 (items_in rule defs p) over in
    let number_is : newest_line (until_over rule (items_of rule.mode defs lines)) ≡ line = ap newest_line until ∙ newest in
    inl (halted_item rule last (items_of rule.mode defs lines) line is_over_all number_is, until)
  where
    halted_item : (rule : Rule) (last : TextEnd) (items : List Numbered) (line : ℕ) → is_over rule items ≡ true → newest_line (until_over rule items) ≡ line → halts.Item line ≡ halt_of rule last items
    halted_item rule last items line e f = rw e (ap (λ (n : ℕ). halts.Item n) (sym f))
decided rule defs start left (halts.Text end) p rest before after text last lines t (over, cause) told d none =
    let took : Took (Some text) left p.taken = subst (λ (s : Option (List ℕ)). Took s left p.taken) told t.took in
    elim (decided_end rule.mode defs text end last p rest left before after lines (record { bytes = t.bytes; took = took; cause = cause }) none d) [
      | inl same ↦ inl (
        halted_text rule end last (items_of rule.mode defs lines) (ap (λ (ls : List (List ℕ)). is_over rule (items_of rule.mode defs ls)) (sym same.1) ∙ over) same.0,
        ap (λ (ls : List (List ℕ)). until_over rule (items_of rule.mode defs ls)) (sym same.1) ∙ t.first,
      )
      | inr memory ↦ inr (ap (λ (e : TextEnd). halts.Text e) memory)
    ]
  where
    halted_text : (rule : Rule) (end last : TextEnd) (items : List Numbered) → is_over rule items ≡ false → end ≡ last → halts.Text end ≡ halt_of rule last items
    halted_text rule end last items e f = rw e (ap (λ (x : TextEnd). halts.Text x) f)
