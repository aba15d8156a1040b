use Rattle.run_rules.proofs.WorkedConfirmed.{brings_twice, confirmed_is_written, confirms}
use Rattle.run_rules.proofs.laws.worked_scripts.Goals as goal

pub returns-clause-confirms : goal.returns-clause-confirms
returns-clause-confirms c = confirms

pub returns-clause-brings_twice : goal.returns-clause-brings_twice
returns-clause-brings_twice c = brings_twice

pub returns-clause-confirmed_is_written : goal.returns-clause-confirmed_is_written
returns-clause-confirmed_is_written c = confirmed_is_written
