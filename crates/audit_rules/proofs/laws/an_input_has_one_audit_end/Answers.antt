use Rattle.audit_rules.proofs.OneEnd.{one_audit_end}
use Rattle.audit_rules.proofs.laws.an_input_has_one_audit_end.Goals as goal

pub returns : goal.returns
returns c = one_audit_end
