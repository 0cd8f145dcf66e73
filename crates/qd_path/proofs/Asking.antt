-- Each text asks for one list of calls, and the calls of the lines judged so far are the first ones of it.
use Rattle.std.proofs.Common.{ℕ, ◌≡◌, ◌+◌, ◌≤◌, ◌^◌, ◌⊎◌, inl, inr, Bool, true, false, Option, Some, None, List, [], ◌∷◌, ◌++◌, length, refl, sym, ap, ◌∙◌, subst, arith, append_assoc, length-append, nat_lt}
use Rattle.std.specs.Prelude.{Result, Ok, Err}
use Rattle.std.proofs.lemmas.Bool.Decides.{nat_tests}
use Rattle.std.proofs.lemmas.List.{append-nil, take-append-le}
use mathlib.Core.List.{IsPrefix}
use Rattle.qd_scheme.specs.declared.defs.RecordDef.{RecordDef}
use Rattle.qd_gate.proofs.Prefixes.{prefix_self, prefix_trans}
use Rattle.qd_grammar.specs.declared.fault.Fault.{Fault}
use Rattle.qd_grammar.specs.declared.item.Item.{Item}
use Rattle.qd_grammar.specs.declared.item.Mode.{Mode}
use Rattle.qd_line.specs.Cutter.{IsHungry, IsTooLong}
use Rattle.qd_line.specs.Lines.{joined, is_one_line}
use Rattle.qd_items.specs.declared.ends.TextEnd.{TextEnd}
use Rattle.qd_items.specs.declared.ends.TextEnd.TheVariants as ends
use Rattle.qd_items.specs.Deciding.{Decides}
use Rattle.qd_items.specs.Ends.{Causes}
use Rattle.qd_items.specs.Judging.{Numbered, Stop, StopsAt, NoneBehind, items_of, said, state_of, stop_of, with_said}
use Rattle.qd_items.specs.Judging.Stop.{Open, AtEnd, AtBad}
use Rattle.qd_items.specs.Standing.{IsTaken}
use Rattle.qd_items.proofs.DecidingLaws.{decided_lines, one_end}
use Rattle.qd_items.proofs.EveryText.{some_end}
use Rattle.qd_path.specs.declared.call.Asked.{Asked}
use Rattle.qd_path.specs.declared.side.Side.{Side}
use Rattle.qd_path.specs.Calls.{AreJudged, agent_of, calls, calls_of_items, calls_with, mode_of, place_of}
use Rattle.qd_path.specs.Laws.{AsksForSome, AsksForOne, AsksFirst}

module _ (mode : Mode) (defs : List RecordDef) (bytes : List ℕ) (lines : List (List ℕ)) where
  decides : (rest : List ℕ) (end : TextEnd) → IsTaken (record { taken = bytes; lines = lines }) rest → Causes end (stop_of mode defs lines) (length lines) rest (length bytes) (Some []) → Decides mode defs bytes end lines
  decides rest end taken cause = record { bytes = bytes; tail = []; rest = rest; whole = sym (append-nil bytes); taken = taken; cause = cause }

  -- lines that are judged decide an end
  pub judged_decides : (rest : List ℕ) → AreJudged mode defs bytes lines rest → (end : TextEnd) × Decides mode defs bytes end lines
  judged_decides rest j = go (stop_of mode defs lines) refl
    where
      hungry : stop_of mode defs lines ≡ Open → IsHungry rest → (b : Bool) → nat_lt (length bytes) (2 ^ 40) ≡ b → (end : TextEnd) × Decides mode defs bytes end lines
      hungry e h true t = (ends.CutOff (length lines), decides rest (ends.CutOff (length lines)) j.taken ((e, h), grind (arith, nat_tests), refl, refl))
      hungry e h false t =
          let w = j.taken.within in
          let low : 2 ^ 40 ≤ length bytes = grind (arith, nat_tests) in
          (ends.TooMuch, decides rest ends.TooMuch j.taken ((e, h), omega (arith, w, low)))

      open_so : stop_of mode defs lines ≡ Open → IsHungry rest ⊎ IsTooLong rest → (end : TextEnd) × Decides mode defs bytes end lines
      open_so e (inl h) = hungry e h (nat_lt (length bytes) (2 ^ 40)) refl
      open_so e (inr h) = (ends.LineTooLong (length lines + 1), decides rest (ends.LineTooLong (length lines + 1)) j.taken (e, h, refl))

      last : (s : Stop) → stop_of mode defs lines ≡ s → (s ≡ Open → ⊥) → StopsAt s (length lines)
      last s e n = elim j.last [
        | inl o ↦ absurd (n (sym e ∙ o))
        | inr a ↦ subst (λ (x : Stop). StopsAt x (length lines)) e a
      ]

      go : (s : Stop) → stop_of mode defs lines ≡ s → (end : TextEnd) × Decides mode defs bytes end lines
      go Open e = open_so e (j.whole e)
      go (AtEnd n) e = (ends.End, decides rest ends.End j.taken (e ∙ ap AtEnd (last (AtEnd n) e (λ x. cc))))
      go (AtBad bad) e = (ends.Bad bad, decides rest (ends.Bad bad) j.taken (e, last (AtBad bad) e (λ x. cc)))

  not_open : (s : Stop) → stop_of mode defs lines ≡ s → (s ≡ Open → ⊥) → stop_of mode defs lines ≡ Open → ⊥
  not_open s e n o = n (sym e ∙ o)

  stops : (s : Stop) → stop_of mode defs lines ≡ s → StopsAt s (length lines) → NoneBehind mode defs lines
  stops s e at = inr (subst (λ (x : Stop). StopsAt x (length lines)) (sym e) at)

  -- an end that is decided has its lines judged
  pub decides_judged : (end : TextEnd) → length bytes ≤ 2 ^ 40 → Decides mode defs bytes end lines → (rest : List ℕ) × AreJudged mode defs bytes lines rest
  decides_judged end few d = go end d.cause
    where
      taken : IsTaken (record { taken = bytes; lines = lines }) (d.rest ++ d.tail)
      taken = record {
        cut = record { whole = d.whole ∙ ap (λ (l : List ℕ). l ++ d.tail) d.taken.cut.whole ∙ append_assoc (joined lines) d.rest d.tail; each = d.taken.cut.each };
        short = d.taken.short;
        within = few;
      }

      judged : NoneBehind mode defs lines → (stop_of mode defs lines ≡ Open → IsHungry (d.rest ++ d.tail) ⊎ IsTooLong (d.rest ++ d.tail)) → (rest : List ℕ) × AreJudged mode defs bytes lines rest
      judged last whole = (d.rest ++ d.tail, record { taken = taken; last = last; whole = whole })

      hungry : d.tail ≡ [] → IsHungry d.rest → IsHungry (d.rest ++ d.tail)
      hungry e h = subst IsHungry (sym (ap (λ (l : List ℕ). d.rest ++ l) e ∙ append-nil d.rest)) h

      long : IsTooLong d.rest → IsTooLong (d.rest ++ d.tail)
      long h =
          let n = length-append d.rest d.tail in
          let l = h.long in
          record { long = omega (arith, n, l); one = ap is_one_line (take-append-le 4097 d.rest d.tail (omega (arith, l))) ∙ h.one }

      no_tail : (tail : List ℕ) → length tail ≡ 0 → tail ≡ []
      no_tail [] e = refl
      no_tail (x ∷ xs) e = absurd cc

      go : (end : TextEnd) → Causes end (stop_of mode defs lines) (length lines) d.rest (length d.bytes) (Some d.tail) → (rest : List ℕ) × AreJudged mode defs bytes lines rest
      go ends.End c = judged (stops (AtEnd (length lines)) c refl) (λ o. absurd (not_open (AtEnd (length lines)) c (λ x. cc) o))
      go (ends.CutOff line) c = judged (inl c.0.0) (λ o. inl (hungry c.2 c.0.1))
      go (ends.Bad bad) c = judged (stops (AtBad bad) c.0 c.1) (λ o. absurd (not_open (AtBad bad) c.0 (λ x. cc) o))
      go (ends.LineTooLong line) c = judged (inl c.0) (λ o. inr (long c.1))
      go ends.TooMuch c =
          let n = ap length d.whole ∙ length-append d.bytes d.tail in
          let m = c.1 in
          judged (inl c.0.0) (λ o. inl (hungry (no_tail d.tail (omega (arith, n, m, few))) c.0.1))
      go ends.ReadFault c = absurd c
      go ends.NoMemory c = absurd c

pub asks_for_some : AsksForSome
asks_for_some defs side n bytes few =
    let e = some_end (mode_of side) defs bytes in
    let j = decides_judged (mode_of side) defs bytes e.1 e.0 few e.2 in
    (calls defs side n e.1, (e.1, j.0, j.1, refl))

-- two lists of lines that are judged are one
same_lines : (mode : Mode) (defs : List RecordDef) (bytes : List ℕ) (xs ys : List (List ℕ)) (q r : List ℕ) → AreJudged mode defs bytes xs q → AreJudged mode defs bytes ys r → xs ≡ ys
same_lines mode defs bytes xs ys q r a b =
    let d = judged_decides mode defs bytes xs q a in
    let e = judged_decides mode defs bytes ys r b in
    (one_end mode defs bytes d.0 e.0 xs ys d.1 e.1).1

pub asks_for_one : AsksForOne
asks_for_one defs side n bytes a b (xs, q, j, e) (ys, r, k, f) = e ∙ ap (calls defs side n) (same_lines (mode_of side) defs bytes xs ys q r j k) ∙ sym f

-- lines only add calls
said_first : (n agent line : ℕ) (r : Result (Option Item) Fault) (before : List Numbered) → IsPrefix (calls_of_items n agent before) (calls_of_items n agent (with_said line r before))
said_first n agent line (Ok (Some item)) before = (calls_with n agent item (place_of before), refl)
said_first n agent line (Ok None) before = prefix_self (calls_of_items n agent before)
said_first n agent line (Err f) before = prefix_self (calls_of_items n agent before)

calls_first : (defs : List RecordDef) (side : Side) (n : ℕ) (more lines : List (List ℕ)) → IsPrefix (calls defs side n lines) (calls defs side n (more ++ lines))
calls_first defs side n [] lines = prefix_self (calls defs side n lines)
calls_first defs side n (line ∷ more) lines =
    prefix_trans (calls defs side n lines) (calls defs side n (more ++ lines)) (calls defs side n (line ∷ (more ++ lines))) (calls_first defs side n more lines)
    (said_first n (agent_of side) (length (line ∷ (more ++ lines))) (said (mode_of side) defs (state_of (mode_of side) defs (more ++ lines)) line) (items_of (mode_of side) defs (more ++ lines)))

pub asks_first : AsksFirst
asks_first defs side n p rest asked taken none (ys, r, k, f) = go (stop_of (mode_of side) defs p.lines) refl
  where
    all : (s : Stop) → stop_of (mode_of side) defs p.lines ≡ s → (s ≡ Open → ⊥) → IsPrefix (calls defs side n p.lines) asked
    all s e c =
        let same = same_lines (mode_of side) defs p.taken p.lines ys rest r (record { taken = taken; last = none; whole = λ o. absurd (c (sym e ∙ o)) }) k in
        subst (λ (l : List Asked). IsPrefix (calls defs side n p.lines) l) (ap (calls defs side n) same ∙ sym f) (prefix_self (calls defs side n p.lines))

    go : (s : Stop) → stop_of (mode_of side) defs p.lines ≡ s → IsPrefix (calls defs side n p.lines) asked
    go Open e =
        let d = judged_decides (mode_of side) defs p.taken ys r k in
        let more = decided_lines (mode_of side) defs p.taken [] p rest d.0 ys (sym (append-nil p.taken)) taken e d.1 in
        subst (λ (l : List Asked). IsPrefix (calls defs side n p.lines) l) (sym (f ∙ ap (calls defs side n) more.1)) (calls_first defs side n more.0 p.lines)
    go (AtEnd m) e = all (AtEnd m) e (λ x. cc)
    go (AtBad bad) e = all (AtBad bad) e (λ x. cc)
