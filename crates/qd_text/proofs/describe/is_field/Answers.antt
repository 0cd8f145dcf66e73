use Rattle.std.proofs.Common.{length, ap}
use Rattle.qd_grammar.specs.Control.{kind_text}
use Rattle.qd_text.proofs.Descriptions.{told_by_kind}
use Rattle.qd_text.proofs.describe.is_field.Goals as goal

pub returns : goal.returns
returns c = told_by_kind c.args.text.now c.args.field.now.name (kind_text c.args.field.now.kind) c.bytes-name.result.now (length c.bytes-name.result.now) c.is_kind.result (ap length c.bytes-name.ensures) c.bytes-name.ensures c.if-colon-text.false c.if-ne.ensures c.if-text-colon-ne58.false c.is_kind.ensures
