use Rattle.net_script.proofs.SampleLaws.{plain_behind}
use Rattle.net_script.proofs.sample.behind_letter.Goals as goal

pub returns-clause-plain : goal.returns-clause-plain
returns-clause-plain c = plain_behind _ _ _ c.in-Some.ensures.joined c.requires.clean c.requires.unbroken
