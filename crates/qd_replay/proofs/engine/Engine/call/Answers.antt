use Rattle.std.proofs.Common.{sym, ◌∙◌, subst}
use Rattle.qd_calls.proofs.Soundness.{sound_lists}
use Rattle.qd_replay.specs.declared.due.Refusal.TheVariants as refusals
use Rattle.qd_replay.specs.Steps.{Kept, CallsHalt}
use Rattle.qd_replay.proofs.Halts.{not_heard}
use Rattle.qd_replay.proofs.engine.Engine.call.Goals as goal

pub returns-then-is_err-clause-calls : goal.returns-then-is_err-clause-calls
returns-then-is_err-clause-calls g c = λ l are.
    let sound = sound_lists _ _ _ _ _ _ _ _ _ _ l are c.stripes.ensures.ticker c.stripes.ensures.stream c.stripes.ensures.history in
    let no = sym c.is_err.ensures.value ∙ c.if-is_err.true in (
      l,
      are,
      subst (λ (k : Kept). CallsHalt (g.H.Hub.stripes c.args.hub.now) refusals.NoMemory c.args.item.now k.script l l) c.self.view_is
          (not_heard (g.H.Hub.stripes c.args.hub.now) c.args.item.now _ l sound (c.hear-heard.ensures.wanted c.if-is_err.ensures.negation)),
    )
