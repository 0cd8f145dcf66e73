-- What a line is, from its first part.
use Rattle.std.proofs.Common.{◌≡◌, ℕ, suc, arith, ◌+◌, Bool, true, false, List, [], ◌∷◌, length, refl, sym, ◌∙◌, ap}
use Rattle.std.specs.Prelude.{◌&&◌, ◌==◌, nat_lt, slice_index}
use Rattle.std.proofs.lemmas.Bool.Decides.{nat_tests}
use Rattle.qd_scheme.specs.declared.defs.RecordDef.{RecordDef}
use Rattle.qd_grammar.specs.declared.state.State.{State}
use Rattle.qd_text.specs.Cursor.{left}
use Rattle.qd_grammar.specs.declared.item.Mode.{Mode}
use Rattle.qd_grammar.specs.Parts.{Part, parts_of}
use Rattle.qd_grammar.specs.Body.{body_line}
use Rattle.qd_grammar.specs.Control.{control_line, describe_line}
use Rattle.qd_grammar.specs.Lines.{item_of, first_line, is_control, is_description}
use Rattle.qd_text.proofs.Cuts.{all_parts, first_part}

module _ (mode : Mode) (s : State) (defs : List RecordDef) (line : List ℕ) (first : Part) (parts : List Part) (p : parts_of line ≡ first ∷ parts) where
  pub first_judged : s.started ≡ false → item_of mode s defs line ≡ first_line (length line + 1) first parts
  unfolding item_of
  first_judged e = rw p (rw e refl)

  pub control_judged : s.started ≡ true → true ≡ is_control line → item_of mode s defs line ≡ control_line mode s (length line + 1) first parts
  unfolding item_of
  control_judged e c = rw p (rw e (rw (← c) refl))

  pub description_judged : s.started ≡ true → false ≡ is_control line → true ≡ is_description line → item_of mode s defs line ≡ describe_line defs (length line + 1) first parts
  unfolding item_of
  description_judged e c d = rw p (rw e (rw (← c) (rw (← d) refl)))

  pub body_judged : s.started ≡ true → false ≡ is_control line → false ≡ is_description line → item_of mode s defs line ≡ body_line s defs (length line + 1) (left line 0)
  unfolding item_of
  body_judged e c d = rw p (rw e (rw (← c) (rw (← d) (ap (body_line s defs (length line + 1)) (sym p ∙ all_parts line)))))

-- the same without an index at which the first part ends
pub body_is_judged : (mode : Mode) (s : State) (defs : List RecordDef) (line : List ℕ) → s.started ≡ true → false ≡ is_control line → false ≡ is_description line → item_of mode s defs line ≡ body_line s defs (length line + 1) (left line 0)
body_is_judged mode s defs line e c d = body_judged mode s defs line _ _ (first_part line _ refl) e c d

and_false : (x y : Bool) → false ≡ ((x && false) && y)
and_false true y = refl
and_false false y = refl

control_from : (n : ℕ) (x y : Bool) → false ≡ (nat_lt 0 (suc n) && x) → false ≡ ((nat_lt 1 (suc n) && x) && y)
control_from n false y e = and_false (nat_lt 1 (suc n)) y
control_from n true y e =
    let some : nat_lt 0 (suc n) ≡ true = grind (arith, nat_tests) in
    let wrong : false ≡ true = rw some at e in
    cc

-- a line that does not begin as a description is no control line
pub no_control : (line : List ℕ) → false ≡ is_description line → false ≡ is_control line
no_control [] e = refl
no_control (b ∷ line) e = control_from (length line) (b == 61) (slice_index (b ∷ line) 1 == 61) e
