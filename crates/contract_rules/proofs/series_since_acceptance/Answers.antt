use Rattle.contract_rules.proofs.Series.{reports_since_acceptance, samples_since}
use Rattle.contract_rules.proofs.series_since_acceptance.Goals as goal

pub returns-clause-reports : goal.returns-clause-reports
returns-clause-reports c = reports_since_acceptance

pub returns-clause-samples : goal.returns-clause-samples
returns-clause-samples c = samples_since
