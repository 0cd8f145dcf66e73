use Rattle.std.proofs.Common.{◌∙◌, ap, slice_set}
use Rattle.std.proofs.Math.Seq.{map-set_same}
use Rattle.std.proofs.lemmas.List.{map-set}
use Rattle.qd_pend.specs.declared.links.Link.{Link}
use Rattle.qd_pend.proofs.links.join.Goals as goal

pub returns-clause-nexts : goal.returns-clause-nexts
returns-clause-nexts c = map-set_same (λ (l : Link). l.next) _ c.args.after _ c.index_mut-second.result.now (ap (λ l. l.next) c.index_mut-second.ensures.value) ∙ map-set (λ (l : Link). l.next) c.args.links.now.items c.args.before _

pub returns-clause-prevs : goal.returns-clause-prevs
returns-clause-prevs c = map-set (λ (l : Link). l.prev) _ c.args.after _ ∙ ap (λ xs. slice_set xs c.args.after c.args.before) (map-set_same (λ (l : Link). l.prev) c.args.links.now.items c.args.before _ c.index_mut-first.result.now (ap (λ l. l.prev) c.index_mut-first.ensures.value))
