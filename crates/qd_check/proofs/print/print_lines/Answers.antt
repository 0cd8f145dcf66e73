use Rattle.std.proofs.Common.{refl, ◌∙◌, ap}
use Rattle.qd_items.specs.declared.items.NextItem.TheVariants as nexts
use Rattle.qd_items.specs.Standing.{Kept}
use Rattle.qd_items.proofs.StepLaws.{next_less, step_less}
use Rattle.qd_check.proofs.FmtLaws.{print_none, print_went, print_broke, print_ended, print_passed, print_let_go, print_let_short, told_step}
use Rattle.qd_check.proofs.print.print_lines.Goals as goal

pub items-init : goal.items-init
items-init g c = (ap (λ (k : Kept). k.mode) c.requires.items, refl, print_none _ _ _ _ c.requires.items (rw (c.requires.out, c.new-lines.ensures) refl))

pub returns-then-not-let_go-clause-prints : goal.returns-then-not-let_go-clause-prints
returns-then-not-let_go-clause-prints g c = let i = c.items.invariant in print_let_short _ _ _ _ _ _ _ i.0 i.2 c.if-not-let_go.ensures.prints

pub items-smaller-in-Went : goal.items-smaller-in-Went
items-smaller-in-Went g c = step_less _ _ _ _ _ _ _ (rw c.if-not-let_go.ensures.same at c.in-Went.ensures.steps)

pub items-preserved-in-Went : goal.items-preserved-in-Went
items-preserved-in-Went g c =
    let i = c.items.invariant in
    let same = c.if-not-let_go.ensures.same in
    let mode = c.in-Went.ensures.mode ∙ ap (λ (k : Kept). k.mode) same ∙ i.0 in
    let p = print_let_go _ _ _ _ _ _ _ _ i.2 c.if-not-let_go.ensures.prints in (
      mode,
      c.in-Went.ensures.kept ∙ i.1,
      print_passed _ _ _ _ _ _ _ _ mode p (rw same at c.in-Went.ensures.steps),
    )

pub returns-then-not-print_item-clause-prints : goal.returns-then-not-print_item-clause-prints
returns-then-not-print_item-clause-prints g c =
    let i = c.items.invariant in
    let same = c.if-not-let_go.ensures.same in
    let mode = c.in-Came.ensures.mode ∙ ap (λ (k : Kept). k.mode) same ∙ i.0 in
    let p = print_let_go _ _ _ _ _ _ _ _ i.2 c.if-not-let_go.ensures.prints in
    let told = told_step _ _ _ c.read_on.new.items _ _ _ _ (nexts.Item c.read_on.new.items.item) same c.in-Came.ensures.mode c.in-Came.ensures.steps in
    print_broke _ _ _ _ c.read_on.new.items _ c.read_on.new.items.item _ _ _ _ mode p told (rw c.item.ensures at c.if-not-print_item.ensures)

pub items-smaller : goal.items-smaller
items-smaller g c = next_less _ _ _ _ _ _ _ (nexts.Item c.read_on.new.items.item) (rw c.if-not-let_go.ensures.same at c.in-Came.ensures.steps)

pub items-preserved : goal.items-preserved
items-preserved g c =
    let i = c.items.invariant in
    let same = c.if-not-let_go.ensures.same in
    let mode = c.in-Came.ensures.mode ∙ ap (λ (k : Kept). k.mode) same ∙ i.0 in
    let p = print_let_go _ _ _ _ _ _ _ _ i.2 c.if-not-let_go.ensures.prints in
    let told = told_step _ _ _ c.read_on.new.items _ _ _ _ (nexts.Item c.read_on.new.items.item) same c.in-Came.ensures.mode c.in-Came.ensures.steps in (
      mode,
      c.in-Came.ensures.kept ∙ i.1,
      print_went _ _ _ _ c.read_on.new.items _ _ c.read_on.new.items.item _ _ _ _ mode p told (rw c.item.ensures at c.if-not-print_item.ensures),
    )

pub returns-in-Ended-clause-prints : goal.returns-in-Ended-clause-prints
returns-in-Ended-clause-prints g c =
    let i = c.items.invariant in
    let same = c.if-not-let_go.ensures.same in
    let mode = c.in-Ended.ensures.mode ∙ ap (λ (k : Kept). k.mode) same ∙ i.0 in
    let p = print_let_go _ _ _ _ _ _ _ _ i.2 c.if-not-let_go.ensures.prints in
    let told = told_step _ _ _ c.read_on.new.items _ _ _ _ (nexts.Ended c.in-Ended.end) same c.in-Ended.ensures.mode c.in-Ended.ensures.steps in
    print_ended _ _ _ _ c.read_on.new.items _ _ c.in-Ended.end c.print_end.result _ _ _ _ mode p told c.print_end.ensures
