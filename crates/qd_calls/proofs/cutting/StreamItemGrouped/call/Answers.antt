use Rattle.std.proofs.Common.{◌≡◌}
use Rattle.std.proofs.lemmas.List.Elements.{All-map}
use Rattle.qd_scheme.specs.declared.key.Key.{Key}
use Rattle.qd_scheme.specs.Stripes.{stripe_of}
use Rattle.qd_stream.specs.Items.{key_of_item}
use Rattle.qd_calls.proofs.cutting.StreamItemGrouped.call.Goals as goal

pub returns-clause-due : goal.returns-clause-due
returns-clause-due c = λ n stripe h at. (h, λ terms. (c.requires.few, c.requires.sound), All-map (λ (k : Key). stripe_of k n ≡ stripe) (key_of_item) c.args.part.items at)
