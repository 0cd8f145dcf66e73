use Rattle.std.proofs.Common.{◌≡◌, ap, sym, ◌∙◌, subst}
use Rattle.qd_items.specs.Steps.{WillRead}
use Rattle.qd_path.specs.declared.side.Side.{Side}
use Rattle.qd_session.specs.declared.ends.InEnd.TheVariants as ends
use Rattle.qd_session.specs.Ins.{InKept, InStands, ReadOut, in_end}
use Rattle.qd_session.proofs.ReadOns.{read_went, read_came, read_came_wanting, read_end, read_closing, read_end_wanting, read_out, read_bytes, read_no_item, read_no_end, read_ended, no_error}
use Rattle.qd_session.proofs.in_engine.InEngine.read_on.Goals as goal

pub returns-in-Went-clause-reads : goal.returns-in-Went-clause-reads
returns-in-Went-clause-reads g c = λ from p made st.
    let k : InKept = record { side = c.self.inside.side; items = c.self.inside.items; place = c.self.inside.reading; due = c.self.inside.due.items; closing = c.self.inside.closing; ended = c.self.inside.ended } in
    let v : k ≡ c.args.self.now = c.self.view_is in
    let s = subst (λ (x : InKept). InStands c.args.scheme.now c.args.n from x p made (g.S.Source.left c.args.source.now)) (sym v) st in
    let unclosed = ap (λ (x : InKept). x.closing) v ∙ c.requires.none.2 in
    let none = ap (λ (x : InKept). x.due) v ∙ c.requires.none.1 in
    (read_went c.args.scheme.now c.args.n from k c.step.new.self p made (record { left = g.S.Source.left c.args.source.now; faults = g.S.Source.faults c.args.source.now }) (record { left = g.S.Source.left c.step.new.source; faults = g.S.Source.faults c.step.new.source }) c.in-Went.ensures.mode unclosed none s c.in-Went.ensures.steps)

pub returns-then-is_err-clause-reads : goal.returns-then-is_err-clause-reads
returns-then-is_err-clause-reads g c = λ from p made st.
    let k : InKept = record { side = c.self.inside.side; items = c.self.inside.items; place = c.self.inside.reading; due = c.self.inside.due.items; closing = c.self.inside.closing; ended = c.self.inside.ended } in
    let v : k ≡ c.args.self.now = c.self.view_is in
    let s = subst (λ (x : InKept). InStands c.args.scheme.now c.args.n from x p made (g.S.Source.left c.args.source.now)) (sym v) st in
    let unclosed = ap (λ (x : InKept). x.closing) v ∙ c.requires.none.2 in
    let none = ap (λ (x : InKept). x.due) v ∙ c.requires.none.1 in
    subst (λ (z : Side). ReadOut c.args.scheme.now c.args.n from z ends.NoMemory made (record { left = g.S.Source.left c.args.source.now; faults = g.S.Source.faults c.args.source.now }) (record { left = g.S.Source.left c.step.new.source; faults = g.S.Source.faults c.step.new.source })) (ap (λ (x : InKept). x.side) v) (read_came_wanting c.args.scheme.now c.args.n from k c.step.new.self p made (record { left = g.S.Source.left c.args.source.now; faults = g.S.Source.faults c.args.source.now }) (record { left = g.S.Source.left c.step.new.source; faults = g.S.Source.faults c.step.new.source }) c.in-Came.ensures.mode unclosed none s _ c.in-Came.ensures.steps)

pub returns-else-is_err-clause-reads : goal.returns-else-is_err-clause-reads
returns-else-is_err-clause-reads g c = λ from p made st.
    let k : InKept = record { side = c.self.inside.side; items = c.self.inside.items; place = c.self.inside.reading; due = c.self.inside.due.items; closing = c.self.inside.closing; ended = c.self.inside.ended } in
    let v : k ≡ c.args.self.now = c.self.view_is in
    let s = subst (λ (x : InKept). InStands c.args.scheme.now c.args.n from x p made (g.S.Source.left c.args.source.now)) (sym v) st in
    let unclosed = ap (λ (x : InKept). x.closing) v ∙ c.requires.none.2 in
    let none = ap (λ (x : InKept). x.due) v ∙ c.requires.none.1 in
    let ok = no_error c.hear-heard.result c.is_err.result c.is_err.ensures.value c.if-is_err.false in
    let heard = rw (c.item.ensures, c.agent_of-agent.ensures, ok) at c.hear-heard.ensures.hears in
    (read_came c.args.scheme.now c.args.n from k c.step.new.self p made (record { left = g.S.Source.left c.args.source.now; faults = g.S.Source.faults c.args.source.now }) (record { left = g.S.Source.left c.step.new.source; faults = g.S.Source.faults c.step.new.source }) c.in-Came.ensures.mode unclosed none s _ _ _ c.in-Came.ensures.steps heard.0 heard.1)

pub returns-then-not-is_end-clause-reads : goal.returns-then-not-is_end-clause-reads
returns-then-not-is_end-clause-reads g c = λ from p made st.
    let k : InKept = record { side = c.self.inside.side; items = c.self.inside.items; place = c.self.inside.reading; due = c.self.inside.due.items; closing = c.self.inside.closing; ended = c.self.inside.ended } in
    let v : k ≡ c.args.self.now = c.self.view_is in
    let s = subst (λ (x : InKept). InStands c.args.scheme.now c.args.n from x p made (g.S.Source.left c.args.source.now)) (sym v) st in
    let unclosed = ap (λ (x : InKept). x.closing) v ∙ c.requires.none.2 in
    let none = ap (λ (x : InKept). x.due) v ∙ c.requires.none.1 in
    rw c.in_end.ensures (subst (λ (z : Side). ReadOut c.args.scheme.now c.args.n from z (in_end c.in-Ended.end) made (record { left = g.S.Source.left c.args.source.now; faults = g.S.Source.faults c.args.source.now }) (record { left = g.S.Source.left c.step.new.source; faults = g.S.Source.faults c.step.new.source })) (ap (λ (x : InKept). x.side) v) (read_out c.args.scheme.now c.args.n from k c.step.new.self p made (record { left = g.S.Source.left c.args.source.now; faults = g.S.Source.faults c.args.source.now }) (record { left = g.S.Source.left c.step.new.source; faults = g.S.Source.faults c.step.new.source }) c.in-Ended.ensures.mode unclosed none s c.in-Ended.end (c.is_end.ensures.no c.if-not-is_end.true) c.in-Ended.ensures.steps))

pub returns-then-is_err-2-clause-reads : goal.returns-then-is_err-2-clause-reads
returns-then-is_err-2-clause-reads g c = λ from p made st.
    let k : InKept = record { side = c.self.inside.side; items = c.self.inside.items; place = c.self.inside.reading; due = c.self.inside.due.items; closing = c.self.inside.closing; ended = c.self.inside.ended } in
    let v : k ≡ c.args.self.now = c.self.view_is in
    let s = subst (λ (x : InKept). InStands c.args.scheme.now c.args.n from x p made (g.S.Source.left c.args.source.now)) (sym v) st in
    let unclosed = ap (λ (x : InKept). x.closing) v ∙ c.requires.none.2 in
    let none = ap (λ (x : InKept). x.due) v ∙ c.requires.none.1 in
    let steps = rw (c.is_end.ensures.yes c.if-not-is_end.false) at c.in-Ended.ensures.steps in
    subst (λ (z : Side). ReadOut c.args.scheme.now c.args.n from z ends.NoMemory made (record { left = g.S.Source.left c.args.source.now; faults = g.S.Source.faults c.args.source.now }) (record { left = g.S.Source.left c.step.new.source; faults = g.S.Source.faults c.step.new.source })) (ap (λ (x : InKept). x.side) v) (read_end_wanting c.args.scheme.now c.args.n from k c.step.new.self p made (record { left = g.S.Source.left c.args.source.now; faults = g.S.Source.faults c.args.source.now }) (record { left = g.S.Source.left c.step.new.source; faults = g.S.Source.faults c.step.new.source }) c.in-Ended.ensures.mode unclosed none s steps)

pub returns-then-none_due-clause-reads : goal.returns-then-none_due-clause-reads
returns-then-none_due-clause-reads g c = λ from p made st.
    let k : InKept = record { side = c.self.inside.side; items = c.self.inside.items; place = c.self.inside.reading; due = c.self.inside.due.items; closing = c.self.inside.closing; ended = c.self.inside.ended } in
    let v : k ≡ c.args.self.now = c.self.view_is in
    let s = subst (λ (x : InKept). InStands c.args.scheme.now c.args.n from x p made (g.S.Source.left c.args.source.now)) (sym v) st in
    let unclosed = ap (λ (x : InKept). x.closing) v ∙ c.requires.none.2 in
    let none = ap (λ (x : InKept). x.due) v ∙ c.requires.none.1 in
    let steps = rw (c.is_end.ensures.yes c.if-not-is_end.false) at c.in-Ended.ensures.steps in
    let ok = no_error c.hear-heard-in-Ended.result c.is_err-in-Ended.result c.is_err-in-Ended.ensures.value c.if-is_err-2.false in
    let heard = rw (c.agent_of-agent.ensures, ok) at c.hear-heard-in-Ended.ensures.hears in
    subst (λ (z : Side). ReadOut c.args.scheme.now c.args.n from z ends.End made (record { left = g.S.Source.left c.args.source.now; faults = g.S.Source.faults c.args.source.now }) (record { left = g.S.Source.left c.step.new.source; faults = g.S.Source.faults c.step.new.source })) (ap (λ (x : InKept). x.side) v) (read_end c.args.scheme.now c.args.n from k c.step.new.self p made (record { left = g.S.Source.left c.args.source.now; faults = g.S.Source.faults c.args.source.now }) (record { left = g.S.Source.left c.step.new.source; faults = g.S.Source.faults c.step.new.source }) c.in-Ended.ensures.mode unclosed none s _ steps heard.1 (sym c.deref.ensures.value ∙ c.none_due.ensures.yes c.if-none_due.true))

pub returns-else-none_due-clause-reads : goal.returns-else-none_due-clause-reads
returns-else-none_due-clause-reads g c = λ from p made st.
    let k : InKept = record { side = c.self.inside.side; items = c.self.inside.items; place = c.self.inside.reading; due = c.self.inside.due.items; closing = c.self.inside.closing; ended = c.self.inside.ended } in
    let v : k ≡ c.args.self.now = c.self.view_is in
    let s = subst (λ (x : InKept). InStands c.args.scheme.now c.args.n from x p made (g.S.Source.left c.args.source.now)) (sym v) st in
    let unclosed = ap (λ (x : InKept). x.closing) v ∙ c.requires.none.2 in
    let none = ap (λ (x : InKept). x.due) v ∙ c.requires.none.1 in
    let steps = rw (c.is_end.ensures.yes c.if-not-is_end.false) at c.in-Ended.ensures.steps in
    let ok = no_error c.hear-heard-in-Ended.result c.is_err-in-Ended.result c.is_err-in-Ended.ensures.value c.if-is_err-2.false in
    let heard = rw (c.agent_of-agent.ensures, ok) at c.hear-heard-in-Ended.ensures.hears in
    (read_closing c.args.scheme.now c.args.n from k c.step.new.self p made (record { left = g.S.Source.left c.args.source.now; faults = g.S.Source.faults c.args.source.now }) (record { left = g.S.Source.left c.step.new.source; faults = g.S.Source.faults c.step.new.source }) c.in-Ended.ensures.mode unclosed none s _ _ steps heard.0 heard.1)

pub returns-in-Went-clause-reading : goal.returns-in-Went-clause-reading
returns-in-Went-clause-reading g c = λ will.
    let k : InKept = record { side = c.self.inside.side; items = c.self.inside.items; place = c.self.inside.reading; due = c.self.inside.due.items; closing = c.self.inside.closing; ended = c.self.inside.ended } in
    let v : k ≡ c.args.self.now = c.self.view_is in
    let reads = subst (λ (x : InKept). WillRead x.items) (sym v) will in
    read_bytes c.args.scheme.now k.items c.step.new.self (record { left = g.S.Source.left c.args.source.now; faults = g.S.Source.faults c.args.source.now }) (record { left = g.S.Source.left c.step.new.source; faults = g.S.Source.faults c.step.new.source }) reads c.in-Went.ensures.steps

pub returns-then-is_err-clause-reading : goal.returns-then-is_err-clause-reading
returns-then-is_err-clause-reading g c = λ will.
    let k : InKept = record { side = c.self.inside.side; items = c.self.inside.items; place = c.self.inside.reading; due = c.self.inside.due.items; closing = c.self.inside.closing; ended = c.self.inside.ended } in
    let v : k ≡ c.args.self.now = c.self.view_is in
    let reads = subst (λ (x : InKept). WillRead x.items) (sym v) will in
    absurd (read_no_item c.args.scheme.now k.items c.step.new.self (record { left = g.S.Source.left c.args.source.now; faults = g.S.Source.faults c.args.source.now }) (record { left = g.S.Source.left c.step.new.source; faults = g.S.Source.faults c.step.new.source }) _ reads c.in-Came.ensures.steps)

pub returns-else-is_err-clause-reading : goal.returns-else-is_err-clause-reading
returns-else-is_err-clause-reading g c = λ will.
    let k : InKept = record { side = c.self.inside.side; items = c.self.inside.items; place = c.self.inside.reading; due = c.self.inside.due.items; closing = c.self.inside.closing; ended = c.self.inside.ended } in
    let v : k ≡ c.args.self.now = c.self.view_is in
    let reads = subst (λ (x : InKept). WillRead x.items) (sym v) will in
    absurd (read_no_item c.args.scheme.now k.items c.step.new.self (record { left = g.S.Source.left c.args.source.now; faults = g.S.Source.faults c.args.source.now }) (record { left = g.S.Source.left c.step.new.source; faults = g.S.Source.faults c.step.new.source }) _ reads c.in-Came.ensures.steps)

pub returns-then-not-is_end-clause-reading : goal.returns-then-not-is_end-clause-reading
returns-then-not-is_end-clause-reading g c = λ will.
    let k : InKept = record { side = c.self.inside.side; items = c.self.inside.items; place = c.self.inside.reading; due = c.self.inside.due.items; closing = c.self.inside.closing; ended = c.self.inside.ended } in
    let v : k ≡ c.args.self.now = c.self.view_is in
    let reads = subst (λ (x : InKept). WillRead x.items) (sym v) will in
    rw c.in_end.ensures (read_ended c.args.scheme.now k.items c.step.new.self (record { left = g.S.Source.left c.args.source.now; faults = g.S.Source.faults c.args.source.now }) (record { left = g.S.Source.left c.step.new.source; faults = g.S.Source.faults c.step.new.source }) c.in-Ended.end reads c.in-Ended.ensures.steps)

pub returns-then-is_err-2-clause-reading : goal.returns-then-is_err-2-clause-reading
returns-then-is_err-2-clause-reading g c = λ will.
    let k : InKept = record { side = c.self.inside.side; items = c.self.inside.items; place = c.self.inside.reading; due = c.self.inside.due.items; closing = c.self.inside.closing; ended = c.self.inside.ended } in
    let v : k ≡ c.args.self.now = c.self.view_is in
    let reads = subst (λ (x : InKept). WillRead x.items) (sym v) will in
    let steps = rw (c.is_end.ensures.yes c.if-not-is_end.false) at c.in-Ended.ensures.steps in
    absurd (read_no_end c.args.scheme.now k.items c.step.new.self (record { left = g.S.Source.left c.args.source.now; faults = g.S.Source.faults c.args.source.now }) (record { left = g.S.Source.left c.step.new.source; faults = g.S.Source.faults c.step.new.source }) reads steps)

pub returns-then-none_due-clause-reading : goal.returns-then-none_due-clause-reading
returns-then-none_due-clause-reading g c = λ will.
    let k : InKept = record { side = c.self.inside.side; items = c.self.inside.items; place = c.self.inside.reading; due = c.self.inside.due.items; closing = c.self.inside.closing; ended = c.self.inside.ended } in
    let v : k ≡ c.args.self.now = c.self.view_is in
    let reads = subst (λ (x : InKept). WillRead x.items) (sym v) will in
    let steps = rw (c.is_end.ensures.yes c.if-not-is_end.false) at c.in-Ended.ensures.steps in
    absurd (read_no_end c.args.scheme.now k.items c.step.new.self (record { left = g.S.Source.left c.args.source.now; faults = g.S.Source.faults c.args.source.now }) (record { left = g.S.Source.left c.step.new.source; faults = g.S.Source.faults c.step.new.source }) reads steps)

pub returns-else-none_due-clause-reading : goal.returns-else-none_due-clause-reading
returns-else-none_due-clause-reading g c = λ will.
    let k : InKept = record { side = c.self.inside.side; items = c.self.inside.items; place = c.self.inside.reading; due = c.self.inside.due.items; closing = c.self.inside.closing; ended = c.self.inside.ended } in
    let v : k ≡ c.args.self.now = c.self.view_is in
    let reads = subst (λ (x : InKept). WillRead x.items) (sym v) will in
    let steps = rw (c.is_end.ensures.yes c.if-not-is_end.false) at c.in-Ended.ensures.steps in
    absurd (read_no_end c.args.scheme.now k.items c.step.new.self (record { left = g.S.Source.left c.args.source.now; faults = g.S.Source.faults c.args.source.now }) (record { left = g.S.Source.left c.step.new.source; faults = g.S.Source.faults c.step.new.source }) reads steps)
