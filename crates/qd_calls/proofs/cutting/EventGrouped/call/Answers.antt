use Rattle.std.proofs.Common.{◌≡◌}
use Rattle.std.proofs.lemmas.List.Elements.{All-map}
use Rattle.qd_scheme.specs.declared.key.Key.{Key}
use Rattle.qd_scheme.specs.Stripes.{stripe_of}
use Rattle.qd_scheme.specs.declared.key.Event.{Event}
use Rattle.qd_calls.proofs.cutting.EventGrouped.call.Goals as goal

pub returns-clause-due : goal.returns-clause-due
returns-clause-due c = λ n stripe h at. (h, λ terms. (c.requires.few, c.requires.sound), All-map (λ (k : Key). stripe_of k n ≡ stripe) (λ (e : Event). e.key) c.args.part.items at)
