use Rattle.qd_calls.proofs.Turning.{history_turn}
use Rattle.qd_calls.proofs.Soundness.{lawful, sound_lists}
use Rattle.qd_calls.proofs.asking.ask_history.Goals as goal

pub try_history-requires-clause-asked : goal.try_history-requires-clause-asked
try_history-requires-clause-asked g c = c.requires.asked (g.H.Hub.history_terms c.args.hub.now c.args.stripe)

pub returns-clause-turn : goal.returns-clause-turn
returns-clause-turn g c = λ l are. history_turn _ _ _ _ _ _ _ _ l are (sound_lists _ _ _ _ _ _ _ _ _ _ l are c.stripes.ensures.ticker c.stripes.ensures.stream c.stripes.ensures.history) c.requires.stripe _ _ c.try_history.ensures.asked c.try_history.ensures.others.0 c.try_history.ensures.others.1 c.try_history.ensures.others.2

pub returns-clause-lawful : goal.returns-clause-lawful
returns-clause-lawful g c = lawful _ _ _ _ _ (c.stripes.ensures.lists.2 c.args.stripe c.requires.stripe) c.try_history.ensures.asked
