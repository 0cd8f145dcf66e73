use Rattle.std.proofs.Common.{◌≡◌}
use Rattle.std.proofs.lemmas.List.Elements.{All-map}
use Rattle.qd_scheme.specs.declared.key.Key.{Key}
use Rattle.qd_scheme.specs.Stripes.{stripe_of}
use Rattle.qd_scheme.specs.declared.key.Record.{Record}
use Rattle.qd_calls.proofs.cutting.RecordGrouped.call.Goals as goal

pub returns-clause-due : goal.returns-clause-due
returns-clause-due c = λ n stripe h at. (h, λ terms. c.requires.few, All-map (λ (k : Key). stripe_of k n ≡ stripe) (λ (r : Record). r.key) c.args.part.items at)
