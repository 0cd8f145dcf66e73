use Rattle.qd_tests.proofs.hub.is_done_by_stream.Goals as goal

pub try_stream-requires-clause-asked : goal.try_stream-requires-clause-asked
try_stream-requires-clause-asked g c = c.in_ok-op.ensures.asked (g.H.Hub.stream_terms c.args.hub.now c.stripe_of-stripe.result)
