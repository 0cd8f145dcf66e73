use Rattle.std.proofs.Common.{◌∙◌, sym}
use Rattle.std.specs.Prelude.{Ok, Err}
use Rattle.qd_stream.specs.Legal.{IsLegal}
use Rattle.qd_load.specs.Counting.{AreCounted, CountsRecords, CountsItems, HearsEvents}
use Rattle.qd_load.specs.Given.{given}
use Rattle.qd_load.proofs.Turning.{lists_stay, lists_asked, asks_answered, asks_refused, items_more, items_stay}
use Rattle.qd_load.proofs.counting.CountingHub.try_stream.Goals as goal

pub invariant_of-self : goal.invariant_of-self
invariant_of-self g c =
    let t = c.try_stream-answer.ensures in
    let n = t.home.1 in
    let old = c.self.invariant in
    let inside = c.self.inside in
    let asked = asks_answered IsLegal (g.H.Hub.stream inside.hub c.args.stripe) (g.H.Hub.stream c.try_stream-answer.new.self c.args.stripe) (λ log. AreCounted inside.items.items inside.lost.items c.args.stripe (given log)) (λ log. AreCounted c.count_items.new.items.items c.count_items.new.lost.items c.args.stripe (given log)) c.args.op c.in-Ok.reply (rw c.in-Ok.is at c.try_stream-answer.ensures.asked) (λ log who h. items_more inside.items.items c.count_items.new.items.items inside.lost.items c.count_items.new.lost.items c.args.stripe c.in-Ok.reply c.count_items.ensures.here log who c.args.op h) in (
      old.0 ∙ sym n,
      c.count_items.ensures.len.0 ∙ old.1 ∙ sym n,
      c.count_items.ensures.len.1 ∙ old.2 ∙ sym n,
      old.3 ∙ sym n,
      lists_stay _ _ (CountsRecords (g.H.Hub.ticker inside.hub) inside.records.items) (CountsRecords (g.H.Hub.ticker c.try_stream-answer.new.self) inside.records.items) n old.4 (λ i p s. (t.others.1 i p s.0, s.1)),
      lists_asked _ _ c.args.stripe (CountsItems (g.H.Hub.stream inside.hub) inside.items.items inside.lost.items) (CountsItems (g.H.Hub.stream c.try_stream-answer.new.self) c.count_items.new.items.items c.count_items.new.lost.items) IsLegal c.args.op (Ok c.in-Ok.reply) n old.5 asked
          (λ i p not s. (t.others.0 i p not s.0, items_stay c.self.inside.items.items c.count_items.new.items.items c.self.inside.lost.items c.count_items.new.lost.items i (λ n m. c.count_items.ensures.others i n m not) (given p.mine) s.1)),
      lists_stay _ _ (HearsEvents (g.H.Hub.history inside.hub) inside.views.items) (HearsEvents (g.H.Hub.history c.try_stream-answer.new.self) inside.views.items) n old.6 (λ i p s. (t.others.2 i p s.0, s.1)),
    )

pub invariant_of-self-in_default : goal.invariant_of-self-in_default
invariant_of-self-in_default g c =
    let t = c.try_stream-answer.ensures in
    let n = t.home.1 in
    let old = c.self.invariant in
    let inside = c.self.inside in
    let asked = asks_refused IsLegal (g.H.Hub.stream inside.hub c.args.stripe) (g.H.Hub.stream c.try_stream-answer.new.self c.args.stripe) (λ log. AreCounted inside.items.items inside.lost.items c.args.stripe (given log)) c.args.op c.in_default.field-0 (rw c.in_default.is at t.asked) in (
      old.0 ∙ sym n,
      old.1 ∙ sym n,
      old.2 ∙ sym n,
      old.3 ∙ sym n,
      lists_stay _ _ (CountsRecords (g.H.Hub.ticker inside.hub) inside.records.items) (CountsRecords (g.H.Hub.ticker c.try_stream-answer.new.self) inside.records.items) n old.4 (λ i p s. (t.others.1 i p s.0, s.1)),
      lists_asked _ _ c.args.stripe (CountsItems (g.H.Hub.stream inside.hub) inside.items.items inside.lost.items) (CountsItems (g.H.Hub.stream c.try_stream-answer.new.self) inside.items.items inside.lost.items) IsLegal c.args.op (Err c.in_default.field-0) n old.5 asked
          (λ i p not s. (t.others.0 i p not s.0, s.1)),
      lists_stay _ _ (HearsEvents (g.H.Hub.history inside.hub) inside.views.items) (HearsEvents (g.H.Hub.history c.try_stream-answer.new.self) inside.views.items) n old.6 (λ i p s. (t.others.2 i p s.0, s.1)),
    )

pub returns-in-Ok-clause-asked : goal.returns-in-Ok-clause-asked
returns-in-Ok-clause-asked g c =
    let inside = c.self.inside in
    rw (← c.self.view_is) (rw c.in-Ok.is (asks_answered IsLegal (g.H.Hub.stream inside.hub c.args.stripe) (g.H.Hub.stream c.try_stream-answer.new.self c.args.stripe) (λ log. AreCounted inside.items.items inside.lost.items c.args.stripe (given log)) (λ log. AreCounted c.count_items.new.items.items c.count_items.new.lost.items c.args.stripe (given log)) c.args.op c.in-Ok.reply (rw c.in-Ok.is at c.try_stream-answer.ensures.asked) (λ log who h. items_more inside.items.items c.count_items.new.items.items inside.lost.items c.count_items.new.lost.items c.args.stripe c.in-Ok.reply c.count_items.ensures.here log who c.args.op h)))

pub returns-in-Ok-clause-others : goal.returns-in-Ok-clause-others
returns-in-Ok-clause-others g c =
    let t = c.try_stream-answer.ensures in
    rw (← c.self.view_is) (
      λ i p not s. (t.others.0 i p not s.0, items_stay c.self.inside.items.items c.count_items.new.items.items c.self.inside.lost.items c.count_items.new.lost.items i (λ n m. c.count_items.ensures.others i n m not) (given p.mine) s.1),
      λ i p s. (t.others.1 i p s.0, s.1),
      λ i p s. (t.others.2 i p s.0, s.1),
    )
