use Rattle.qd_calls.proofs.Turning.{stream_turn}
use Rattle.qd_calls.proofs.Soundness.{lawful, sound_lists}
use Rattle.qd_calls.proofs.asking.ask_stream.Goals as goal

pub try_stream-requires-clause-asked : goal.try_stream-requires-clause-asked
try_stream-requires-clause-asked g c = c.requires.asked (g.H.Hub.stream_terms c.args.hub.now c.args.stripe)

pub returns-clause-turn : goal.returns-clause-turn
returns-clause-turn g c = λ l are. stream_turn _ _ _ _ _ _ _ _ l are (sound_lists _ _ _ _ _ _ _ _ _ _ l are c.stripes.ensures.ticker c.stripes.ensures.stream c.stripes.ensures.history) c.requires.stripe _ _ c.try_stream.ensures.asked c.try_stream.ensures.others.0 c.try_stream.ensures.others.1 c.try_stream.ensures.others.2

pub returns-clause-lawful : goal.returns-clause-lawful
returns-clause-lawful g c = lawful _ _ _ _ _ (c.stripes.ensures.lists.1 c.args.stripe c.requires.stripe) c.try_stream.ensures.asked
