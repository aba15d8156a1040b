use Rattle.audit_rules.proofs.OneEnd.{one_log_reading}
use Rattle.audit_rules.proofs.laws.a_log_line_has_one_reading.Goals as goal

pub returns : goal.returns
returns c = one_log_reading
