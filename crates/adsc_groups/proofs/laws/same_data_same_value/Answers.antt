-- Each type holds its numbers, and proofs that they fit.
use Rattle.adsc_groups.proofs.SameValues.{same_basic, same_group}
use Rattle.adsc_groups.proofs.laws.same_data_same_value.Goals as goal

pub returns-clause-basic : goal.returns-clause-basic
returns-clause-basic c = same_basic

pub returns-clause-group : goal.returns-clause-group
returns-clause-group c = same_group
