use Rattle.qd_serve_link.proofs.Clients.{same_hub, is_of_as_many}
use Rattle.qd_serve_link.proofs.halves.write_half.Goals as goal

pub returns-clause-written : goal.returns-clause-written
returns-clause-written g c = record {
  same = same_hub c.args.client c.link_out-end.new.hub c.link_out-end.ensures.same;
  linked = λ l of. let found = c.link_out-end.ensures.linked l of in (found.0, is_of_as_many c.args.client c.link_out-end.new.hub found.0 c.link_out-end.ensures.same.1 found.1, found.2);
}
