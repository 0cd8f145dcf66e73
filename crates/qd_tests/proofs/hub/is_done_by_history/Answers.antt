use Rattle.qd_tests.proofs.hub.is_done_by_history.Goals as goal

pub try_history-requires-clause-asked : goal.try_history-requires-clause-asked
try_history-requires-clause-asked g c = c.in_ok-op.ensures.asked (g.H.Hub.history_terms c.args.hub.now c.stripe_of-stripe.result)
