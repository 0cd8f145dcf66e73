use Rattle.std.proofs.Common.{refl, ◌∙◌, ap}
use Rattle.qd_items.specs.declared.items.NextItem.TheVariants as nexts
use Rattle.qd_items.specs.Standing.{Kept}
use Rattle.qd_items.proofs.StepLaws.{next_less, step_less}
use Rattle.qd_check.proofs.FmtLaws.{told_step}
use Rattle.qd_client.proofs.ThroughLaws.{item_broke, item_halted, item_went, let_short, let_went, reading_none, step_went, text_ended}
use Rattle.qd_client.proofs.through.read_through.Goals as goal

pub items-init : goal.items-init
items-init g c = record {
  mode = ap (λ (k : Kept). k.mode) c.requires.items;
  kept = refl;
  rule = refl;
  hears = c.requires.open;
  reading = reading_none _ _ _ _ _ _ c.requires.items c.requires.out c.requires.heard;
}

pub returns-then-not-let_go-clause-reads : goal.returns-then-not-let_go-clause-reads
returns-then-not-let_go-clause-reads g c = let i = c.items.invariant in let_short _ _ _ _ _ _ _ c.let_go.new.out _ _ i.mode i.reading c.if-not-let_go.ensures.prints

pub items-smaller-in-Went : goal.items-smaller-in-Went
items-smaller-in-Went g c = step_less _ _ _ _ _ _ _ (rw c.if-not-let_go.ensures.same at c.in-Went.ensures.steps)

pub items-preserved-in-Went : goal.items-preserved-in-Went
items-preserved-in-Went g c =
    let i = c.items.invariant in
    let same = c.if-not-let_go.ensures.same in
    let mode = c.in-Went.ensures.mode ∙ ap (λ (k : Kept). k.mode) same ∙ i.mode in
    let p = let_went _ _ _ _ _ _ _ _ _ _ i.reading c.if-not-let_go.ensures.prints in
    record {
      mode = mode;
      kept = c.in-Went.ensures.kept ∙ i.kept;
      rule = i.rule;
      hears = i.hears;
      reading = step_went _ _ _ _ _ _ _ _ _ _ mode p (rw same at c.in-Went.ensures.steps);
    }

pub returns-then-not-print-clause-reads : goal.returns-then-not-print-clause-reads
returns-then-not-print-clause-reads g c =
    let i = c.items.invariant in
    let same = c.if-not-let_go.ensures.same in
    let mode = c.in-Came.ensures.mode ∙ ap (λ (k : Kept). k.mode) same ∙ i.mode in
    let p = let_went _ _ _ _ _ _ _ _ _ _ i.reading c.if-not-let_go.ensures.prints in
    let told = told_step _ _ _ c.read_on.new.items _ _ _ _ (nexts.Item c.read_on.new.items.item) same c.in-Came.ensures.mode c.in-Came.ensures.steps in
    item_broke _ _ _ _ _ _ c.read_on.new.items c.read_on.new.items.item c.hear-over.result c.hear-over.new.line _ c.print.new.self _ _ _ _ mode p told (rw (i.rule, c.item.ensures) at c.hear-over.ensures.hears) (rw c.bytes.ensures at c.if-not-print.ensures.prints)

pub returns-then-over-clause-reads : goal.returns-then-over-clause-reads
returns-then-over-clause-reads g c =
    let i = c.items.invariant in
    let same = c.if-not-let_go.ensures.same in
    let mode = c.in-Came.ensures.mode ∙ ap (λ (k : Kept). k.mode) same ∙ i.mode in
    let p = let_went _ _ _ _ _ _ _ _ _ _ i.reading c.if-not-let_go.ensures.prints in
    let told = told_step _ _ _ c.read_on.new.items _ _ _ _ (nexts.Item c.read_on.new.items.item) same c.in-Came.ensures.mode c.in-Came.ensures.steps in
    rw c.line.ensures (item_halted _ _ _ _ _ _ c.read_on.new.items c.read_on.new.items.item c.hear-over.new.line _ _ _ _ _ _ mode p told (rw (i.rule, c.item.ensures) at c.if-over.ensures.hears) (rw c.bytes.ensures at c.if-not-print.ensures.prints))

pub items-smaller : goal.items-smaller
items-smaller g c = next_less _ _ _ _ _ _ _ (nexts.Item c.read_on.new.items.item) (rw c.if-not-let_go.ensures.same at c.in-Came.ensures.steps)

pub items-preserved : goal.items-preserved
items-preserved g c =
    let i = c.items.invariant in
    let same = c.if-not-let_go.ensures.same in
    let mode = c.in-Came.ensures.mode ∙ ap (λ (k : Kept). k.mode) same ∙ i.mode in
    let p = let_went _ _ _ _ _ _ _ _ _ _ i.reading c.if-not-let_go.ensures.prints in
    let told = told_step _ _ _ c.read_on.new.items _ _ _ _ (nexts.Item c.read_on.new.items.item) same c.in-Came.ensures.mode c.in-Came.ensures.steps in
    record {
      mode = mode;
      kept = c.in-Came.ensures.kept ∙ i.kept;
      rule = c.if-over.ensures.rule ∙ i.rule;
      hears = c.if-over.ensures.open refl;
      reading = item_went _ _ _ _ _ _ _ c.read_on.new.items c.read_on.new.items.item c.hear-over.new.line _ _ _ _ _ _ mode p told (rw (i.rule, c.item.ensures) at c.if-over.ensures.hears) (rw c.item.ensures at c.if-over.ensures.heard) (rw c.bytes.ensures at c.if-not-print.ensures.prints);
    }

pub returns-in-Ended-clause-reads : goal.returns-in-Ended-clause-reads
returns-in-Ended-clause-reads g c =
    let i = c.items.invariant in
    let same = c.if-not-let_go.ensures.same in
    let mode = c.in-Ended.ensures.mode ∙ ap (λ (k : Kept). k.mode) same ∙ i.mode in
    let p = let_went _ _ _ _ _ _ _ _ _ _ i.reading c.if-not-let_go.ensures.prints in
    let told = told_step _ _ _ c.read_on.new.items _ _ _ _ (nexts.Ended c.in-Ended.end) same c.in-Ended.ensures.mode c.in-Ended.ensures.steps in
    text_ended _ _ _ _ _ _ c.read_on.new.items c.in-Ended.end c.print_end.result _ _ _ _ _ _ mode p told (rw i.rule at c.print_end.ensures)
