use Rattle.qd_serve_link.proofs.Clients.{same_hub, is_of_as_many}
use Rattle.qd_serve_link.proofs.halves.read_half.Goals as goal

pub returns-clause-read : goal.returns-clause-read
returns-clause-read g c = record {
  same = same_hub c.args.client c.link_in-end.new.hub c.link_in-end.ensures.same;
  linked = λ l of. let found = c.link_in-end.ensures.linked l of in (found.0, is_of_as_many c.args.client c.link_in-end.new.hub found.0 c.link_in-end.ensures.same.1 found.1, found.2);
}
