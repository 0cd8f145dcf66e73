use Rattle.std.proofs.Common.{◌≡◌, ◌<◌, nat_eq, arith, length-set, lt_of_lt_of_le, ap, sym, ◌∙◌, subst}
use Rattle.qd_scheme.specs.Stripes.{stripe_of}
use Rattle.qd_buffer.proofs.Cutting.{part-le, counted_more, IsStripeCount-le}
use Rattle.qd_buffer.proofs.split.counts_of.Goals as goal

pub overflow_add-counts : goal.overflow_add-counts
overflow_add-counts g c =
    let counted = c.loop-item.invariant.each c.from.result (subst (λ j. j < c.args.n) (sym c.from.ensures) c.stripe_of.ensures.within) in
    let few = part-le (λ item. nat_eq (stripe_of (g.T.Keyed.key_of item) c.args.n) c.from.result) c.args.items.now c.loop-item.item-index in
    omega (arith, counted, few, c.loop-item-test.true, c.requires.few)

pub loop-item-preserved : goal.loop-item-preserved
loop-item-preserved g c =
    let s : c.from.result ≡ stripe_of (g.T.Keyed.key_of c.item-item.result) c.args.n = c.from.ensures ∙ c.stripe_of.ensures.stripe ∙ ap (λ k. stripe_of k c.args.n) c.key.ensures in
    let own : stripe_of (g.T.Keyed.key_of c.item-item.result) c.args.n < c.args.n = subst (λ j. j < c.args.n) (sym c.from.ensures ∙ s) c.stripe_of.ensures.within in
    record {
      count = length-set c.loop-item.counts c.from.result _ ∙ c.loop-item.invariant.count;
      each = rw s (counted_more (λ item. stripe_of (g.T.Keyed.key_of item) c.args.n) c.args.n c.args.items.now c.loop-item.counts c.loop-item.item-index c.item-item.result c.loop-item-test.true c.item-item.is (rw c.loop-item.invariant.count (lt_of_lt_of_le own (IsStripeCount-le c.args.n c.requires.stripes))) c.loop-item.invariant.each own);
    }
