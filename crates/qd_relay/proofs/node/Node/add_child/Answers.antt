use Rattle.std.proofs.Common.{Some, ap, ◌∙◌}
use Rattle.qd_relay.specs.Nodes.{child_of}
use Rattle.qd_relay.proofs.Children.{child_set, child_kept}
use Rattle.qd_relay.proofs.node.Node.add_child.Goals as goal

pub returns-clause-added : goal.returns-clause-added
returns-clause-added g c =
    child_set c.make_room.new.links.items c.from-at.result c.args.agent c.in_ok-link.link (c.from-at.ensures ∙ c.get.ensures.value) c.in_ok-make_room.ensures.long
    ∙ ap Some c.in_ok-link.ensures.made

pub returns-clause-others : goal.returns-clause-others
returns-clause-others g c = λ other apart.
    child_kept c.make_room.new.links.items c.from-at.result c.args.agent other c.in_ok-link.link (c.from-at.ensures ∙ c.get.ensures.value) apart
    ∙ (c.make_room.ensures.same other ∙ ap (λ n. child_of other n) c.self.view_is)
