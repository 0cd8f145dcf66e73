use Rattle.std.proofs.Common.{inr}
use Rattle.qds_net.proofs.posting.post_text.Goals as goal

pub returns-clause-posts : goal.returns-clause-posts
returns-clause-posts g c =
    let none = c.in-Ok.ensures.faults in
    inr (
      c.post_over-end.result,
      c.end_of_post.ensures,
      record {
        list = _;
        was = _;
        sent = _;
        sends = _;
        connection = record { dialled = _; connects = c.in-Some.ensures.some; unwritten = c.in-Ok.ensures.written; hung_up = rw none.0 at c.hang_up.ensures };
        posts = rw none.1 at c.post_over-end.ensures.posts;
        first = c.post_over-end.ensures.first;
        decided = rw none.1 at c.post_over-end.ensures.decided;
      },
    )
