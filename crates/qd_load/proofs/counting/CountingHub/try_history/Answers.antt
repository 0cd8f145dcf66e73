use Rattle.std.proofs.Common.{◌∙◌, sym}
use Rattle.std.specs.Prelude.{Ok, Err}
use Rattle.qd_hist_rules.specs.Legal.{IsLegal}
use Rattle.qd_load.specs.Counting.{IsFedAt, CountsRecords, CountsItems, HearsEvents}
use Rattle.qd_load.specs.Given.{events_given}
use Rattle.qd_load.proofs.Turning.{lists_stay, lists_asked, asks_answered, asks_refused, events_more}
use Rattle.qd_load.proofs.counting.CountingHub.try_history.Goals as goal

pub invariant_of-self : goal.invariant_of-self
invariant_of-self g c =
    let t = c.try_history-answer.ensures in
    let n = t.home.1 in
    let old = c.self.invariant in
    let inside = c.self.inside in
    let asked = asks_answered IsLegal (g.H.Hub.history inside.hub c.args.stripe) (g.H.Hub.history c.try_history-answer.new.self c.args.stripe) (λ log. IsFedAt inside.views.items c.args.stripe (events_given log)) (λ log. IsFedAt c.hear_at.new.views.items c.args.stripe (events_given log)) c.args.op c.in-Ok.reply (rw c.in-Ok.is at c.try_history-answer.ensures.asked) (λ log who h. events_more inside.views.items c.hear_at.new.views.items c.args.stripe c.in-Ok.reply c.hear_at.ensures.here log who c.args.op h) in (
      old.0 ∙ sym n,
      old.1 ∙ sym n,
      old.2 ∙ sym n,
      c.hear_at.ensures.len ∙ old.3 ∙ sym n,
      lists_stay _ _ (CountsRecords (g.H.Hub.ticker inside.hub) inside.records.items) (CountsRecords (g.H.Hub.ticker c.try_history-answer.new.self) inside.records.items) n old.4 (λ i p s. (t.others.1 i p s.0, s.1)),
      lists_stay _ _ (CountsItems (g.H.Hub.stream inside.hub) inside.items.items inside.lost.items) (CountsItems (g.H.Hub.stream c.try_history-answer.new.self) inside.items.items inside.lost.items) n old.5 (λ i p s. (t.others.2 i p s.0, s.1)),
      lists_asked _ _ c.args.stripe (HearsEvents (g.H.Hub.history inside.hub) inside.views.items) (HearsEvents (g.H.Hub.history c.try_history-answer.new.self) c.hear_at.new.views.items) IsLegal c.args.op (Ok c.in-Ok.reply) n old.6 asked
          (λ i p not s. (t.others.0 i p not s.0, c.hear_at.ensures.others i (events_given p.mine) not s.1)),
    )

pub invariant_of-self-in_default : goal.invariant_of-self-in_default
invariant_of-self-in_default g c =
    let t = c.try_history-answer.ensures in
    let n = t.home.1 in
    let old = c.self.invariant in
    let inside = c.self.inside in
    let asked = asks_refused IsLegal (g.H.Hub.history inside.hub c.args.stripe) (g.H.Hub.history c.try_history-answer.new.self c.args.stripe) (λ log. IsFedAt inside.views.items c.args.stripe (events_given log)) c.args.op c.in_default.field-0 (rw c.in_default.is at t.asked) in (
      old.0 ∙ sym n,
      old.1 ∙ sym n,
      old.2 ∙ sym n,
      old.3 ∙ sym n,
      lists_stay _ _ (CountsRecords (g.H.Hub.ticker inside.hub) inside.records.items) (CountsRecords (g.H.Hub.ticker c.try_history-answer.new.self) inside.records.items) n old.4 (λ i p s. (t.others.1 i p s.0, s.1)),
      lists_stay _ _ (CountsItems (g.H.Hub.stream inside.hub) inside.items.items inside.lost.items) (CountsItems (g.H.Hub.stream c.try_history-answer.new.self) inside.items.items inside.lost.items) n old.5 (λ i p s. (t.others.2 i p s.0, s.1)),
      lists_asked _ _ c.args.stripe (HearsEvents (g.H.Hub.history inside.hub) inside.views.items) (HearsEvents (g.H.Hub.history c.try_history-answer.new.self) inside.views.items) IsLegal c.args.op (Err c.in_default.field-0) n old.6 asked
          (λ i p not s. (t.others.0 i p not s.0, s.1)),
    )

pub returns-in-Ok-clause-asked : goal.returns-in-Ok-clause-asked
returns-in-Ok-clause-asked g c =
    let inside = c.self.inside in
    rw (← c.self.view_is) (rw c.in-Ok.is (asks_answered IsLegal (g.H.Hub.history inside.hub c.args.stripe) (g.H.Hub.history c.try_history-answer.new.self c.args.stripe) (λ log. IsFedAt inside.views.items c.args.stripe (events_given log)) (λ log. IsFedAt c.hear_at.new.views.items c.args.stripe (events_given log)) c.args.op c.in-Ok.reply (rw c.in-Ok.is at c.try_history-answer.ensures.asked) (λ log who h. events_more inside.views.items c.hear_at.new.views.items c.args.stripe c.in-Ok.reply c.hear_at.ensures.here log who c.args.op h)))
