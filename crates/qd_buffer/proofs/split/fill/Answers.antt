use Rattle.std.proofs.Common.{◌≡◌, ◌<◌, ap, sym, ◌∙◌, subst}
use Rattle.qd_scheme.specs.Stripes.{stripe_of}
use Rattle.qd_buffer.proofs.Cutting.{has_room-at, IsFilling-at}
use Rattle.qd_buffer.proofs.split.fill.Goals as goal

pub push-requires : goal.push-requires
push-requires g c =
    let s : c.from.result ≡ stripe_of (g.T.Keyed.key_of c.item-item.result) c.args.n = c.from.ensures ∙ c.stripe_of.ensures.stripe ∙ ap (λ k. stripe_of k c.args.n) c.key.ensures in
    has_room-at g.T.Keyed.key_of c.args.n c.args.items.now c.loop-item.item-index c.loop-item.parts c.item-item.result c.from.result c.index-parts-from.result c.loop-item.invariant c.loop-item-test.true c.item-item.is s (subst (λ j. j < c.args.n) (sym c.from.ensures) c.stripe_of.ensures.within)

pub loop-item-preserved : goal.loop-item-preserved
loop-item-preserved g c =
    let s : c.from.result ≡ stripe_of (g.T.Keyed.key_of c.item-item.result) c.args.n = c.from.ensures ∙ c.stripe_of.ensures.stripe ∙ ap (λ k. stripe_of k c.args.n) c.key.ensures in
    IsFilling-at g.T.Keyed.key_of c.args.n c.args.items.now c.loop-item.item-index c.loop-item.parts c.item-item.result c.from.result c.index-parts-from.result c.push.new.self c.loop-item.invariant c.loop-item-test.true c.item-item.is s (subst (λ j. j < c.args.n) (sym c.from.ensures) c.stripe_of.ensures.within) c.push.ensures
