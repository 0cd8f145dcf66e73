use Rattle.std.proofs.Common.{◌≡◌, Option, Some, List, slice_get, refl, sym, ap, ◌∙◌, subst}
use Rattle.qd_session.specs.Ins.{InStands, InSteps, IsHungry}
use Rattle.qd_relay.specs.declared.link.Link.{Link}
use Rattle.qd_relay.specs.Nodes.{child_link}
use Rattle.qd_relay.proofs.Children.{child_here, child_after, in_place, same_child}
use Rattle.qd_relay.proofs.node.Node.from_child.Goals as goal

pub returns-clause-again : goal.returns-clause-again
returns-clause-again g c =
    let v = c.self.view_is in
    let xs : c.self.inside.children.items ≡ c.args.self.now.children = ap (λ n. n.children) v in
    let hub : c.self.inside.hub ≡ c.args.self.now.hub = ap (λ n. n.hub) v in
    let at : c.from.result ≡ c.args.child = c.from.ensures ∙ c.get.ensures.value in
    let got : slice_get c.args.self.now.children c.args.child ≡ Some (Some c.in-Some.link) = child_here c.args.self.now.children c.args.child c.index_mut.result.now c.in-Some.link c.requires.child (rw (xs, at) at c.index_mut.ensures.value) c.in-Some.is in
    let e : child_link c.args.child c.args.self.now ≡ c.in-Some.link = rw got refl in
    let here : slice_get c.self.inside.children.items c.args.child ≡ Some (Some c.in-Some.link) = ap (λ (zs : List (Option _)). slice_get zs c.args.child) xs ∙ got in
    let whole = same_child (record { hub = c.self.inside.hub; parent = c.self.inside.parent; children = c.self.inside.children.items }) c.args.child c.in-Some.link here ∙ v in
    λ end was.
    let r = c.step.ensures.again end (ap (λ l. l.reads.ended) (sym e) ∙ was) in (r.0, rw (r.1, r.2, at) whole, r.3)

pub returns-clause-step : goal.returns-clause-step
returns-clause-step g c =
    let v = c.self.view_is in
    let xs : c.self.inside.children.items ≡ c.args.self.now.children = ap (λ n. n.children) v in
    let hub : c.self.inside.hub ≡ c.args.self.now.hub = ap (λ n. n.hub) v in
    let at : c.from.result ≡ c.args.child = c.from.ensures ∙ c.get.ensures.value in
    let got : slice_get c.args.self.now.children c.args.child ≡ Some (Some c.in-Some.link) = child_here c.args.self.now.children c.args.child c.index_mut.result.now c.in-Some.link c.requires.child (rw (xs, at) at c.index_mut.ensures.value) c.in-Some.is in
    let e : child_link c.args.child c.args.self.now ≡ c.in-Some.link = rw got refl in
    let here : slice_get c.self.inside.children.items c.args.child ≡ Some (Some c.in-Some.link) = ap (λ (zs : List (Option Link)). slice_get zs c.args.child) xs ∙ got in
    let f = child_after c.self.inside.children.items c.from.result c.args.child c.in-Some.link (record { reads = c.step.new.self; writes = c.in-Some.link.writes }) at here in
    let step = rw hub at c.step.ensures.step in
    λ from p made l stands are.
    let t = step from p made l (subst (λ (k : Link). InStands c.args.scheme.now (g.H.Hub.stripes c.args.self.now.hub) from k.reads p made (g.S.Source.left c.args.source.now)) e stands) are in (
      t.0,
      t.1,
      in_place (λ (a b : Link). InSteps c.args.scheme.now (g.H.Hub.stripes c.args.self.now.hub) from a.reads c.step.result b.reads p made l t.0
          (record { left = g.S.Source.left c.args.source.now; faults = g.S.Source.faults c.args.source.now }) (record { left = g.S.Source.left c.step.new.source; faults = g.S.Source.faults c.step.new.source })) _ _ _ _ e f t.2,
    )

pub returns-clause-hungry : goal.returns-clause-hungry
returns-clause-hungry g c =
    let v = c.self.view_is in
    let xs : c.self.inside.children.items ≡ c.args.self.now.children = ap (λ n. n.children) v in
    let hub : c.self.inside.hub ≡ c.args.self.now.hub = ap (λ n. n.hub) v in
    let at : c.from.result ≡ c.args.child = c.from.ensures ∙ c.get.ensures.value in
    let got : slice_get c.args.self.now.children c.args.child ≡ Some (Some c.in-Some.link) = child_here c.args.self.now.children c.args.child c.index_mut.result.now c.in-Some.link c.requires.child (rw (xs, at) at c.index_mut.ensures.value) c.in-Some.is in
    let e : child_link c.args.child c.args.self.now ≡ c.in-Some.link = rw got refl in
    λ h. c.step.ensures.hungry (subst (λ (k : Link). IsHungry k.reads) e h)

pub returns-clause-quiet : goal.returns-clause-quiet
returns-clause-quiet g c =
    let v = c.self.view_is in
    let xs : c.self.inside.children.items ≡ c.args.self.now.children = ap (λ n. n.children) v in
    let hub : c.self.inside.hub ≡ c.args.self.now.hub = ap (λ n. n.hub) v in
    let at : c.from.result ≡ c.args.child = c.from.ensures ∙ c.get.ensures.value in
    let got : slice_get c.args.self.now.children c.args.child ≡ Some (Some c.in-Some.link) = child_here c.args.self.now.children c.args.child c.index_mut.result.now c.in-Some.link c.requires.child (rw (xs, at) at c.index_mut.ensures.value) c.in-Some.is in
    let e : child_link c.args.child c.args.self.now ≡ c.in-Some.link = rw got refl in
    λ h. c.step.ensures.quiet (λ k. h (subst (λ (link : Link). IsHungry link.reads) (sym e) k))
