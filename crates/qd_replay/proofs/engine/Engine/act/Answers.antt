use Rattle.std.proofs.Common.{◌≡◌, false, not, refl, sym, ◌∙◌, ap}
use Rattle.qd_grammar.specs.declared.item.Item.TheVariants as items
use Rattle.qd_replay.specs.Scripts.{Script, is_taking}
use Rattle.qd_replay.proofs.Halts.{said, said_short, ended, bad_step, far_link}
use Rattle.qd_replay.proofs.engine.Engine.act.Goals as goal

pub returns-then-not-greet-clause-acts : goal.returns-then-not-greet-clause-acts
returns-then-not-greet-clause-acts g c = λ l are. (l, are, λ s. rw c.in-Protocol.is (said_short _ items.Protocol _ _ l _ _ s items.Protocol _ c.if-not-greet.ensures.printed))

pub returns-then-not-close-clause-acts : goal.returns-then-not-close-clause-acts
returns-then-not-close-clause-acts g c = λ l are. (l, are, λ s. rw c.in-End.is (said_short _ items.End _ _ l _ _ s items.End _ c.if-not-close.ensures.printed))

pub returns-then-not-go_to-clause-acts : goal.returns-then-not-go_to-clause-acts
returns-then-not-go_to-clause-acts g c = λ l are. (l, are, λ s. rw (c.in-Link.is, c.if-not-go_to.ensures.stayed refl) (bad_step _ s (items.Link c.in-Link.n) _ _ l _ (far_link c.in-Link.n (c.if-not-go_to.ensures.far refl))))

pub returns-then-not-is_taking-clause-acts : goal.returns-then-not-is_taking-clause-acts
returns-then-not-is_taking-clause-acts g c =
    let none : is_taking c.in-Take.n ≡ false = sym c.is_taking.ensures.taking ∙ c.if-not-is_taking.true in
    λ l are. (l, are, λ s. rw (c.in-Take.is, none) (bad_step _ s (items.Take c.in-Take.collector c.in-Take.n) _ _ l _ (ap not none)))

pub returns-else-not-greet-clause-acts : goal.returns-else-not-greet-clause-acts
returns-else-not-greet-clause-acts g c = λ l are. (
  l,
  are,
  λ s. rw c.in-Protocol.is (
    ap (λ (x : Script). x.place) c.if-not-greet.ensures.script,
    ap (λ (x : Script). x.link) c.if-not-greet.ensures.script,
    refl,
    said _ items.Protocol _ _ l _ _ c.if-not-greet.ensures.printed,
  ),
)

pub returns-else-not-close-clause-acts : goal.returns-else-not-close-clause-acts
returns-else-not-close-clause-acts g c = λ l are. (l, are, λ s. rw c.in-End.is (ended _ _ _ l _ _ s _ c.if-not-close.ensures.printed))
