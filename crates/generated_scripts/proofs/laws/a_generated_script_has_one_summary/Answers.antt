use Rattle.generated_scripts.proofs.HasSummary.{has_summary}
use Rattle.generated_scripts.proofs.OneSummary.{one_summary}
use Rattle.generated_scripts.proofs.laws.a_generated_script_has_one_summary.Goals as goal

pub returns-clause-one : goal.returns-clause-one
returns-clause-one c = one_summary

pub returns-clause-each : goal.returns-clause-each
returns-clause-each c = has_summary
