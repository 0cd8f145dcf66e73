use Rattle.qd_hist_rules.proofs.LegalLogs.{legal_lawful}
use Rattle.qd_hist_rules.proofs.laws.legal_is_lawful.Goals as goal

pub returns : goal.returns
returns c = record { lawful = legal_lawful }
