-- A sound script is done, where no fault is counted and there is memory.
use Rattle.std.proofs.lemmas.List.{append-nil}
use Rattle.std.proofs.Common.{ℕ, ◌≡◌, ◌⊎◌, inl, inr, Bool, true, false, Option, Some, None, Result, Ok, Err, List, [], ◌∷◌, ◌++◌, length, refl, sym, ◌∙◌, ap, append_assoc}
use Rattle.qd_grammar.specs.declared.fault.Fault.{Fault}
use Rattle.qd_grammar.specs.declared.item.Item.{Item}
use Rattle.qd_grammar.specs.declared.item.Mode.{Mode}
use Rattle.qd_grammar.specs.declared.item.Mode.TheVariants.{File}
use Rattle.qd_items.specs.declared.ends.RunEnd.{RunEnd}
use Rattle.qd_items.specs.declared.ends.RunEnd.TheVariants as ends
use Rattle.qd_items.specs.declared.ends.TextEnd.TheVariants as texts
use Rattle.qd_items.specs.Judging.{Numbered, said, state_of, with_said, items_of, stop_of, is_end}
use Rattle.qd_items.specs.Judging.Stop.{Open, AtEnd}
use Rattle.qd_items.specs.Runs.{run_end}
use Rattle.qd_items.specs.Standing.{Past, IsTaken}
use Rattle.qd_items.proofs.DecidingLaws.{decided_end, decided_lines}
use Rattle.qd_outside.specs.Causes.{Rose}
use Rattle.qd_outside.specs.Reading.{Took}
use Rattle.qd_scheme.specs.declared.defs.RecordDef.{RecordDef}
use Rattle.qd_path.specs.Made.{Made, asked_in}
use Rattle.qd_replay.specs.declared.due.Refusal.{Refusal}
use Rattle.qd_replay.specs.declared.due.Refusal.TheVariants as refusals
use Rattle.qd_replay.specs.Deciding.{IsFirm, NoneBad, IsSound, NoFault}
use Rattle.qd_replay.specs.Ends.{Outside, stop_at, IsOfItem, IsOfText, IsCaused, IsBegun, Ends}
use Rattle.qd_replay.specs.Running.{AreLegal, IsRefusal}
use Rattle.qd_replay.specs.Scripts.{Script, Act, script_of, acts_with, acts_of, is_bad}
use Rattle.qd_replay.specs.Scripts.Act.{Ask}
use Rattle.qd_replay.specs.Settings.{Books, Setting}
use Rattle.qd_replay.specs.Steps.{Stops}

-- the items of more lines are more items
said_more : (n : ℕ) (r : Result (Option Item) Fault) (ns : List Numbered) → (more : List Numbered) × (with_said n r ns ≡ more ++ ns)
said_more n (Ok (Some item)) ns = (record { line = n; item = item } ∷ [], refl)
said_more n (Ok None) ns = ([], refl)
said_more n (Err f) ns = ([], refl)

items_more : (mode : Mode) (defs : List RecordDef) (more lines : List (List ℕ)) → (ns : List Numbered) × (items_of mode defs (more ++ lines) ≡ ns ++ items_of mode defs lines)
items_more mode defs [] lines = ([], refl)
items_more mode defs (line ∷ more) lines =
    let rest = items_more mode defs more lines in
    let one = said_more (length (line ∷ (more ++ lines))) (said mode defs (state_of mode defs (more ++ lines)) line) (items_of mode defs (more ++ lines)) in
    (one.0 ++ rest.0, one.1 ∙ ap (λ (l : List Numbered). one.0 ++ l) rest.1 ∙ sym (append_assoc one.0 rest.0 (items_of mode defs lines)))

-- more items lead to more acts
acts_more : (n : ℕ) (more xs : List Numbered) → (acts : List Act) × (acts_of n (more ++ xs) ≡ acts_of n xs ++ acts)
acts_more n [] xs = ([], sym (append-nil (acts_of n xs)))
acts_more n (x ∷ more) xs =
    let rest = acts_more n more xs in
    let own : List Act = acts_with n x.item (script_of (more ++ xs)) in
    (rest.0 ++ own, ap (λ (l : List Act). l ++ own) rest.1 ∙ append_assoc (acts_of n xs) rest.0 own)

none_bad : (more : List Numbered) (n : Numbered) (before : List Numbered) → NoneBad (more ++ n ∷ before) → is_bad n.item ≡ false
none_bad [] n before h = h.0
none_bad (m ∷ more) n before h = none_bad more n before h.1

took_some : (text : List ℕ) (left : Option (List ℕ)) (taken : List ℕ) → Took (Some text) left taken → (tail : List ℕ) × (text ≡ taken ++ tail)
took_some text None taken t = absurd t
took_some text (Some tail) taken t = (tail, t)

-- the lines of a run that ended at an item are the first of those that the text decides
record AreFirst (defs : List RecordDef) (lines first : List (List ℕ)) : Type 0 where
  more : List (List ℕ)
  whole : lines ≡ more ++ first

first_lines : (set : Setting) (books : Books) (text : List ℕ) (s : IsSound set books text) (p : Past) (rest : List ℕ) (left : Option (List ℕ)) (before after : ℕ) (last : Numbered) (ended : Bool)
    → IsTaken p rest → Took (Some text) left p.taken → after ≡ before → (Rose before after → ⊥) → last.line ≡ length p.lines
    → is_end last.item ≡ ended → stop_of File set.defs p.lines ≡ stop_at last → AreFirst set.defs s.lines p.lines
first_lines set books text s p rest left before after last true bytes took same none newest e stop =
    let at : stop_of File set.defs p.lines ≡ AtEnd (length p.lines) = stop ∙ (rw (e, newest) refl) in
    ended_first (decided_end File set.defs text texts.End texts.End p rest left before after s.lines (record { bytes = bytes; took = took; cause = (at, same) }) none s.decides)
  where
    ended_first : ((texts.End ≡ texts.End) × (p.lines ≡ s.lines)) ⊎ (texts.End ≡ texts.NoMemory) → AreFirst set.defs s.lines p.lines
    ended_first (inl d) = record { more = []; whole = sym d.1 }
    ended_first (inr d) = absurd (cc)
first_lines set books text s p rest left before after last false bytes took same none newest e stop =
    let open_stop : stop_of File set.defs p.lines ≡ Open = stop ∙ (rw e refl) in
    let tail = took_some text left p.taken took in
    let first = decided_lines File set.defs text tail.0 p rest texts.End s.lines tail.1 bytes open_stop s.decides in
    record { more = first.0; whole = first.1 }

-- an end that the last item is the cause of
stops_decided : (end : RunEnd) (s : Script) (item : Item) (line : ℕ) (later : List Act) (refused : List Made) (before after : ℕ)
    → Stops end s item line later refused before after → (is_bad item ≡ true → ⊥)
    → ((refusal : Refusal) (x : Made) (more : List Act) → later ≡ Ask (asked_in x) ∷ more → refused ≡ x ∷ [] → IsFirm refusal → IsRefusal refusal x → ⊥) → (Rose before after → ⊥)
    → (end ≡ ends.Done) ⊎ (end ≡ ends.NoMemory)
stops_decided ends.Done s item line later refused before after c bad turned rose = inl refl
stops_decided ends.NoMemory s item line later refused before after c bad turned rose = inr refl
stops_decided (ends.BadStep n) s item line later refused before after c bad turned rose = absurd (bad c.0)
stops_decided (ends.Refused n limit) s item line later refused before after (e, x, more, l, r, told) bad turned rose = absurd (turned (refusals.TooMany limit) x more l r tt told)
stops_decided ends.WriteFault s item line later refused before after c bad turned rose = absurd (rose c.0)
stops_decided (ends.CutOff n) s item line later refused before after c bad turned rose = absurd c
stops_decided (ends.Bad b) s item line later refused before after c bad turned rose = absurd c
stops_decided (ends.LineTooLong n) s item line later refused before after c bad turned rose = absurd c
stops_decided ends.TooMuch s item line later refused before after c bad turned rose = absurd c
stops_decided ends.ReadFault s item line later refused before after c bad turned rose = absurd c
stops_decided ends.Spent s item line later refused before after (x, more, l, r, told) bad turned rose = absurd (turned refusals.Spent x more l r tt told)

decided_item : (set : Setting) (books : Books) (end : RunEnd) (o w : Outside) (text : List ℕ) (s : IsSound set books text) (p : Past) (rest : List ℕ) (done later : List Act) (made refused calls : List Made) (out : List ℕ)
    → IsBegun set p rest done later made out o w → Took (Some text) w.left p.taken → NoFault o.reads w.reads o.writes w.writes → calls ≡ made ++ refused → AreLegal set.stripes books calls
    → IsOfItem set end (items_of File set.defs p.lines) (length p.lines) (stop_of File set.defs p.lines) done later refused o w → (end ≡ ends.Done) ⊎ (end ≡ ends.NoMemory)
decided_item set books end o w text s p rest done later made refused calls out b took n these legal i =
    let first = first_lines set books text s p rest w.left o.reads w.reads i.last (is_end i.last.item) b.bytes took i.reads n.0 i.newest refl i.stop_is in
    let more = items_more File set.defs first.more p.lines in
    let all : items_of File set.defs s.lines ≡ more.0 ++ items_of File set.defs p.lines = ap (items_of File set.defs) first.whole ∙ more.1 in
    let here : items_of File set.defs s.lines ≡ more.0 ++ i.last ∷ i.before = all ∙ ap (λ (l : List Numbered). more.0 ++ l) i.items_are in
    let sound = rw here at s.none_bad in
    let good : is_bad i.last.item ≡ false = none_bad more.0 i.last i.before sound in
    let acts = acts_more set.stripes more.0 (items_of File set.defs p.lines) in
    let led : acts_of set.stripes (items_of File set.defs s.lines) ≡ (done ++ later) ++ acts.0 = ap (acts_of set.stripes) all ∙ acts.1 ∙ ap (λ (l : List Act). l ++ acts.0) b.acts in
    stops_decided end (script_of i.before) i.last.item i.last.line later refused o.writes w.writes i.cause
    (λ bad. not_both good bad)
    (λ refusal x others e r firm told. s.granted done (others ++ acts.0) made x out refusal
    (led ∙ append_assoc done later acts.0 ∙ ap (λ (l : List Act). done ++ (l ++ acts.0)) e)
    b.ran (rw (these ∙ ap (λ (l : List Made). made ++ l) r) at legal) firm told)
    n.1
  where
    not_both : {b : Bool} → b ≡ false → b ≡ true → ⊥
    not_both p q = cc

decided_text : (set : Setting) (books : Books) (end : RunEnd) (o w : Outside) (text : List ℕ) (s : IsSound set books text) (p : Past) (rest : List ℕ) (later : List Act) (refused : List Made)
    → IsTaken p rest → Took (Some text) w.left p.taken → NoFault o.reads w.reads o.writes w.writes
    → IsOfText end (items_of File set.defs p.lines) (length p.lines) (stop_of File set.defs p.lines) later refused rest (length p.taken) o w → (end ≡ ends.Done) ⊎ (end ≡ ends.NoMemory)
decided_text set books end o w text s p rest later refused bytes took n t =
    by_end (decided_end File set.defs text t.text_end texts.End p rest w.left o.reads w.reads s.lines (record { bytes = bytes; took = took; cause = t.cause }) n.0 s.decides)
  where
    by_end : ((t.text_end ≡ texts.End) × (p.lines ≡ s.lines)) ⊎ (t.text_end ≡ texts.NoMemory) → (end ≡ ends.Done) ⊎ (end ≡ ends.NoMemory)
    by_end (inl d) = absurd (t.early d.0)
    by_end (inr d) = inr (t.end_is ∙ ap run_end d)

decided_cause : (set : Setting) (books : Books) (end : RunEnd) (o w : Outside) (text : List ℕ) (s : IsSound set books text) (p : Past) (rest : List ℕ) (done later : List Act) (made refused calls : List Made) (out : List ℕ)
    → IsBegun set p rest done later made out o w → Took (Some text) w.left p.taken → NoFault o.reads w.reads o.writes w.writes → calls ≡ made ++ refused → AreLegal set.stripes books calls
    → IsCaused end set p rest done later refused o w → (end ≡ ends.Done) ⊎ (end ≡ ends.NoMemory)
decided_cause set books end o w text s p rest done later made refused calls out b took n these legal (inl i) = decided_item set books end o w text s p rest done later made refused calls out b took n these legal i
decided_cause set books end o w text s p rest done later made refused calls out b took n these legal (inr (inl t)) = decided_text set books end o w text s p rest later refused b.bytes took n t
decided_cause set books end o w text s p rest done later made refused calls out b took n these legal (inr (inr t)) = absurd (n.1 t.rose)

same_end : (end reached : RunEnd) → end ≡ reached → (reached ≡ ends.Done) ⊎ (reached ≡ ends.NoMemory) → (end ≡ ends.Done) ⊎ (end ≡ ends.NoMemory)
same_end end reached e (inl d) = inl (e ∙ d)
same_end end reached e (inr d) = inr (e ∙ d)

by_last : (end reached : RunEnd) (before after : ℕ) → (Rose before after → ⊥) → (reached ≡ ends.Done) ⊎ (reached ≡ ends.NoMemory) → (end ≡ reached) ⊎ ((end ≡ ends.WriteFault) × Rose before after)
    → (end ≡ ends.Done) ⊎ (end ≡ ends.NoMemory)
by_last end reached before after none d (inl e) = same_end end reached e d
by_last end reached before after none d (inr f) = absurd (none f.1)

-- a sound script is done
pub decided : (set : Setting) (books : Books) (calls : List Made) (end : RunEnd) (o w : Outside) (text : List ℕ) → Ends set books calls end o w → o.left ≡ Some text → IsSound set books text
    → NoFault o.reads w.reads o.writes w.writes → (end ≡ ends.Done) ⊎ (end ≡ ends.NoMemory)
decided set books calls end o w text e l s n =
    let took = rw l at e.begun.took in
    by_last end e.reached o.writes w.writes n.1 (decided_cause set books e.reached o w text s e.past e.rest e.done e.later e.made e.refused calls e.out e.begun took n e.calls_are e.legal e.cause) e.last
