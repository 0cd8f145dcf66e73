use Rattle.std.proofs.Common.{length, ap, ◌∙◌, arith, length-drop}
use Rattle.qd_calls.proofs.Parts.{few, full_part, sound_part, at_part, items_are, drop_one, asks_step}
use Rattle.qd_calls.proofs.cutting.push_calls.Goals as goal

pub push_part-requires-clause-full : goal.push_part-requires-clause-full
push_part-requires-clause-full g c = let i = c.loop-stripe.invariant in let t = c.loop-stripe-test.true in full_part g.T.Keyed.key_of c.args.n c.args.items.now c.args.parts.items c.requires.parts c.loop-stripe.stripe c.loop-stripe.parts.items c.remove-part.result i.0 i.1 (omega (arith, t, i.1)) c.remove-part.ensures.value

pub push_part-requires-clause-few : goal.push_part-requires-clause-few
push_part-requires-clause-few g c = let i = c.loop-stripe.invariant in let t = c.loop-stripe-test.true in few g.T.Keyed.key_of c.args.n c.args.items.now c.args.parts.items c.requires.parts c.loop-stripe.stripe c.loop-stripe.parts.items c.remove-part.result i.0 i.1 (omega (arith, t, i.1)) c.remove-part.ensures.value c.requires.few

pub push_part-requires-clause-sound : goal.push_part-requires-clause-sound
push_part-requires-clause-sound g c = let i = c.loop-stripe.invariant in let t = c.loop-stripe-test.true in sound_part g.T.Keyed.key_of c.args.n c.args.items.now c.args.parts.items c.requires.parts c.loop-stripe.stripe c.loop-stripe.parts.items c.remove-part.result i.0 i.1 (omega (arith, t, i.1)) c.remove-part.ensures.value g.T.Grouped.is_sound c.requires.sound

pub push_part-requires-clause-of_stripe : goal.push_part-requires-clause-of_stripe
push_part-requires-clause-of_stripe g c = let i = c.loop-stripe.invariant in let t = c.loop-stripe-test.true in at_part g.T.Keyed.key_of c.args.n c.args.items.now c.args.parts.items c.requires.parts c.loop-stripe.stripe c.loop-stripe.parts.items c.remove-part.result i.0 i.1 (omega (arith, t, i.1)) c.remove-part.ensures.value

pub loop-stripe-preserved : goal.loop-stripe-preserved
loop-stripe-preserved g c =
    let i = c.loop-stripe.invariant in
    let t = c.loop-stripe-test.true in
    let r = c.remove-part.ensures.items in
    let n = ap length r ∙ length-drop 1 c.loop-stripe.parts.items in
    let p = items_are g.T.Keyed.key_of c.args.n c.args.items.now c.args.parts.items c.requires.parts c.loop-stripe.stripe c.loop-stripe.parts.items c.remove-part.result i.0 i.1 (omega (arith, t, i.1)) c.remove-part.ensures.value in (
      r ∙ drop_one c.loop-stripe.stripe c.args.parts.items c.loop-stripe.parts.items i.0,
      omega (arith, t, i.1, n),
      asks_step g.T.Keyed.key_of (g.T.Grouped.call_of c.args.message c.args.agent) c.args.n c.args.items.now c.loop-stripe.stripe c.args.due.now.items c.loop-stripe.due.items c.push_part.new.due.items c.remove-part.result.items i.2 p c.in_ok-push_part.ensures.calls,
      c.push_part.ensures.due,
    )
