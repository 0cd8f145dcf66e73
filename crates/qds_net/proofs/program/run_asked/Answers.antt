use Rattle.qds_net.proofs.program.run_asked.Goals as goal

pub returns-in-Post : goal.returns-in-Post
returns-in-Post g c = rw c.in-Post.is (λ o. c.run_post.ensures (record o { written = g.K.Sink.written c.args.out.now; flushed = g.K.Sink.flushed c.args.out.now; writes = g.K.Sink.faults c.args.out.now }))

pub returns-in-Dump : goal.returns-in-Dump
returns-in-Dump g c = rw c.in-Dump.is (λ o. c.run_dump.ensures (record o { left = g.S.Source.left c.args.input.now; reads = g.S.Source.faults c.args.input.now }))
