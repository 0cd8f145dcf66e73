use Rattle.qd_tests.proofs.hub.is_done_by_ticker.Goals as goal

pub try_ticker-requires-clause-asked : goal.try_ticker-requires-clause-asked
try_ticker-requires-clause-asked g c = c.in_ok-op.ensures.asked (g.H.Hub.ticker_terms c.args.hub.now c.stripe_of-stripe.result)
