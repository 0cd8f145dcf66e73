use Rattle.std.proofs.Common.{ℕ, Option, List, refl, ◌∙◌}
use Rattle.qd_grammar.specs.declared.item.Mode.TheVariants.{File}
use Rattle.qd_items.specs.declared.items.NextItem.TheVariants as nexts
use Rattle.qd_items.specs.Judging.{items_of}
use Rattle.qd_items.proofs.StepLaws.{next_less, step_less}
use Rattle.qd_calls.proofs.Soundness.{sound_lists}
use Rattle.qd_replay.specs.Ends.{Outside}
use Rattle.qd_replay.specs.Settings.{Setting}
use Rattle.qd_replay.proofs.Runs.{opens, script_few, item_went, item_halted, lasted, let_short, let_went, step_went, told_step}
use Rattle.qd_replay.proofs.running.run.Goals as goal

pub items-init : goal.items-init
items-init g c =
    let set : Setting = record { defs = c.args.scheme.now; stripes = g.H.Hub.stripes c.args.hub.now } in
    let o : Outside = record { left = g.S.Source.left c.args.source.now; reads = g.S.Source.faults c.args.source.now; written = g.K.Sink.written c.args.sink.now; writes = g.K.Sink.faults c.args.sink.now } in (
      λ l are. (l, are, opens set o l c.args.items.now c.args.engine.now (sound_lists _ _ _ _ _ _ _ _ _ _ l are c.stripes.ensures.ticker c.stripes.ensures.stream c.stripes.ensures.history) c.requires.items c.requires.engine),
      refl,
      (refl, refl, c.requires.alone),
    )

pub returns-then-not-let_go-clause-ended : goal.returns-then-not-let_go-clause-ended
returns-then-not-let_go-clause-ended g c =
    let i = c.items.invariant in
    let h = c.if-not-let_go.ensures in
    let set : Setting = record { defs = c.args.scheme.now; stripes = g.H.Hub.stripes c.args.hub.now } in
    let o : Outside = record { left = g.S.Source.left c.args.source.now; reads = g.S.Source.faults c.args.source.now; written = g.K.Sink.written c.args.sink.now; writes = g.K.Sink.faults c.args.sink.now } in
    let left : Option (List ℕ) = g.S.Source.left c.items.source in
    let reads : ℕ = g.S.Source.faults c.items.source in
    let was : Option (List ℕ) = g.K.Sink.written c.items.sink in
    let before : ℕ = g.K.Sink.faults c.items.sink in
    let now : Option (List ℕ) = g.K.Sink.written c.let_go.new.sink in
    let after : ℕ = g.K.Sink.faults c.let_go.new.sink in
    λ l are.
    let t = i.0 l are in
    (t.0, t.1, let_short set o l t.0 c.items.items c.items.engine c.let_go.new.engine left reads was now before after t.2 (c.if-not-let_go.ensures.hungry refl) c.if-not-let_go.ensures.prints)

pub items-smaller-in-Went : goal.items-smaller-in-Went
items-smaller-in-Went g c = step_less _ _ _ _ _ _ _ (rw c.if-not-let_go.ensures.same at c.in-Went.ensures.steps)

pub items-preserved-in-Went : goal.items-preserved-in-Went
items-preserved-in-Went g c =
    let i = c.items.invariant in
    let h = c.if-not-let_go.ensures in
    let set : Setting = record { defs = c.args.scheme.now; stripes = g.H.Hub.stripes c.args.hub.now } in
    let o : Outside = record { left = g.S.Source.left c.args.source.now; reads = g.S.Source.faults c.args.source.now; written = g.K.Sink.written c.args.sink.now; writes = g.K.Sink.faults c.args.sink.now } in
    let left : Option (List ℕ) = g.S.Source.left c.items.source in
    let reads : ℕ = g.S.Source.faults c.items.source in
    let was : Option (List ℕ) = g.K.Sink.written c.items.sink in
    let before : ℕ = g.K.Sink.faults c.items.sink in
    let now : Option (List ℕ) = g.K.Sink.written c.let_go.new.sink in
    let after : ℕ = g.K.Sink.faults c.let_go.new.sink in
    let rest : Option (List ℕ) = g.S.Source.left c.read_on.new.source in
    let faults : ℕ = g.S.Source.faults c.read_on.new.source in (
      λ l are.
          let t = i.0 l are in
          let r = let_went set o l t.0 c.items.items c.let_go.new.items c.items.engine c.let_go.new.engine left reads was now before after t.2 h.same h.script h.prints in
          (t.0, t.1, step_went set o l t.0 c.let_go.new.items c.read_on.new.items c.let_go.new.engine left rest reads faults now after r c.in-Went.ensures.mode c.in-Went.ensures.steps),
      c.in-Went.ensures.kept ∙ i.1,
      i.2,
    )

pub hear-requires-clause-few : goal.hear-requires-clause-few
hear-requires-clause-few g c =
    let i = c.items.invariant in
    let t = i.0 c.requires.new.0 c.requires.new.1 in
    let script = c.if-not-let_go.ensures.script ∙ t.2.script in
    rw script (script_few (items_of File c.args.scheme.now t.2.past.lines))

pub last-requires-clause-few : goal.last-requires-clause-few
last-requires-clause-few g c =
    let i = c.items.invariant in
    let t = i.0 c.requires.new.0 c.requires.new.1 in
    let script = c.if-not-let_go.ensures.script ∙ t.2.script in
    rw script (script_few (items_of File c.args.scheme.now t.2.past.lines))

pub items-smaller : goal.items-smaller
items-smaller g c = next_less _ _ _ _ _ _ _ (nexts.Item c.read_on.new.items.item) (rw c.if-not-let_go.ensures.same at c.in-Came.ensures.steps)

pub items-preserved : goal.items-preserved
items-preserved g c =
    let i = c.items.invariant in
    let h = c.if-not-let_go.ensures in
    let set : Setting = record { defs = c.args.scheme.now; stripes = g.H.Hub.stripes c.args.hub.now } in
    let o : Outside = record { left = g.S.Source.left c.args.source.now; reads = g.S.Source.faults c.args.source.now; written = g.K.Sink.written c.args.sink.now; writes = g.K.Sink.faults c.args.sink.now } in
    let left : Option (List ℕ) = g.S.Source.left c.items.source in
    let reads : ℕ = g.S.Source.faults c.items.source in
    let was : Option (List ℕ) = g.K.Sink.written c.items.sink in
    let before : ℕ = g.K.Sink.faults c.items.sink in
    let now : Option (List ℕ) = g.K.Sink.written c.let_go.new.sink in
    let after : ℕ = g.K.Sink.faults c.let_go.new.sink in
    let rest : Option (List ℕ) = g.S.Source.left c.read_on.new.source in
    let faults : ℕ = g.S.Source.faults c.read_on.new.source in
    let next : Option (List ℕ) = g.K.Sink.written c.hear.new.sink in
    let failed : ℕ = g.K.Sink.faults c.hear.new.sink in
    let told = told_step c.args.scheme.now c.let_go.new.items c.read_on.new.items left rest reads faults (nexts.Item c.read_on.new.items.item) c.in-Came.ensures.mode c.in-Came.ensures.steps in
    let same = i.2.1 in (
      λ l are.
          let t = i.0 l are in
          let r = let_went set o l t.0 c.items.items c.let_go.new.items c.items.engine c.let_go.new.engine left reads was now before after t.2 h.same h.script h.prints in
          let heard = c.in-None.ensures.hears t.0 (rw same t.1) in
          let u = rw (same, c.item.ensures) at heard in
          (u.0, u.1, item_went set o l t.0 u.0 c.let_go.new.items c.read_on.new.items c.let_go.new.engine c.hear.new.self c.read_on.new.items.item left rest reads faults now next after failed r c.in-Came.ensures.mode told u.2),
      c.in-Came.ensures.kept ∙ i.1,
      (c.hear.ensures.same.0 ∙ i.2.0, c.hear.ensures.same.1 ∙ same, c.hear.ensures.alone),
    )

pub returns-in-Some-clause-ended : goal.returns-in-Some-clause-ended
returns-in-Some-clause-ended g c =
    let i = c.items.invariant in
    let h = c.if-not-let_go.ensures in
    let set : Setting = record { defs = c.args.scheme.now; stripes = g.H.Hub.stripes c.args.hub.now } in
    let o : Outside = record { left = g.S.Source.left c.args.source.now; reads = g.S.Source.faults c.args.source.now; written = g.K.Sink.written c.args.sink.now; writes = g.K.Sink.faults c.args.sink.now } in
    let left : Option (List ℕ) = g.S.Source.left c.items.source in
    let reads : ℕ = g.S.Source.faults c.items.source in
    let was : Option (List ℕ) = g.K.Sink.written c.items.sink in
    let before : ℕ = g.K.Sink.faults c.items.sink in
    let now : Option (List ℕ) = g.K.Sink.written c.let_go.new.sink in
    let after : ℕ = g.K.Sink.faults c.let_go.new.sink in
    let rest : Option (List ℕ) = g.S.Source.left c.read_on.new.source in
    let faults : ℕ = g.S.Source.faults c.read_on.new.source in
    let next : Option (List ℕ) = g.K.Sink.written c.hear.new.sink in
    let failed : ℕ = g.K.Sink.faults c.hear.new.sink in
    let told = told_step c.args.scheme.now c.let_go.new.items c.read_on.new.items left rest reads faults (nexts.Item c.read_on.new.items.item) c.in-Came.ensures.mode c.in-Came.ensures.steps in
    let same = i.2.1 in
    λ l are.
    let t = i.0 l are in
    let r = let_went set o l t.0 c.items.items c.let_go.new.items c.items.engine c.let_go.new.engine left reads was now before after t.2 h.same h.script h.prints in
    let heard = c.in-Some.ensures.hears t.0 (rw same t.1) in
    let u = rw (same, c.item.ensures, c.line-line.ensures) at heard in
    (u.0, u.1, item_halted set o l t.0 u.0 c.let_go.new.items c.read_on.new.items c.let_go.new.engine c.hear.new.self c.read_on.new.items.item c.in-Some.end left rest reads faults now next after failed r c.in-Came.ensures.mode told u.2)

pub returns-in-Ended-clause-ended : goal.returns-in-Ended-clause-ended
returns-in-Ended-clause-ended g c =
    let i = c.items.invariant in
    let h = c.if-not-let_go.ensures in
    let set : Setting = record { defs = c.args.scheme.now; stripes = g.H.Hub.stripes c.args.hub.now } in
    let o : Outside = record { left = g.S.Source.left c.args.source.now; reads = g.S.Source.faults c.args.source.now; written = g.K.Sink.written c.args.sink.now; writes = g.K.Sink.faults c.args.sink.now } in
    let left : Option (List ℕ) = g.S.Source.left c.items.source in
    let reads : ℕ = g.S.Source.faults c.items.source in
    let was : Option (List ℕ) = g.K.Sink.written c.items.sink in
    let before : ℕ = g.K.Sink.faults c.items.sink in
    let now : Option (List ℕ) = g.K.Sink.written c.let_go.new.sink in
    let after : ℕ = g.K.Sink.faults c.let_go.new.sink in
    let rest : Option (List ℕ) = g.S.Source.left c.read_on.new.source in
    let faults : ℕ = g.S.Source.faults c.read_on.new.source in
    let next : Option (List ℕ) = g.K.Sink.written c.last.new.sink in
    let failed : ℕ = g.K.Sink.faults c.last.new.sink in
    let told = told_step c.args.scheme.now c.let_go.new.items c.read_on.new.items left rest reads faults (nexts.Ended c.in-Ended.text_end) c.in-Ended.ensures.mode c.in-Ended.ensures.steps in
    let same = i.2.1 in
    λ l are.
    let t = i.0 l are in
    let r = let_went set o l t.0 c.items.items c.let_go.new.items c.items.engine c.let_go.new.engine left reads was now before after t.2 h.same h.script h.prints in
    let ended = c.last.ensures.last t.0 (rw same t.1) in
    let u = rw (same, c.line-line-in-Ended.ensures) at ended in
    (u.0, u.1, lasted set o l t.0 u.0 c.let_go.new.items c.read_on.new.items c.let_go.new.engine c.last.new.engine c.in-Ended.text_end _ left rest reads faults now next after failed r c.in-Ended.ensures.mode told u.2)
