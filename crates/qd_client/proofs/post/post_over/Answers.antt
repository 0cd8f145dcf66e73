use Rattle.qd_client.proofs.PostLaws.{decided_whole, first_broken, first_whole, not_begun}
use Rattle.qd_client.proofs.post.post_over.Goals as goal

pub returns-in-Err-clause-posts : goal.returns-in-Err-clause-posts
returns-in-Err-clause-posts g c = not_begun _ _

pub returns-in-None-clause-first : goal.returns-in-None-clause-first
returns-in-None-clause-first g c = first_broken _ _ _ c.in-None.ensures.writes

pub returns-clause-first : goal.returns-clause-first
returns-clause-first g c = first_whole _ _ _ _ c.in-Some.ensures.writes.0

pub returns-clause-decided : goal.returns-clause-decided
returns-clause-decided g c = decided_whole _ _ _ _ c.in-Some.halt c.post_end.ensures c.in-Some.ensures.writes.0
