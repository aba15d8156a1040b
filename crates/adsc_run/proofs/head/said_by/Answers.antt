use Rattle.std.proofs.Common.{[], ap, ◌∙◌}
use Rattle.run_rules.specs.Lines.{step_of}
use Rattle.net_script.specs.declared.refusal.Code.TheVariants as code
use Rattle.adsc_run.proofs.HeadLaws.{brings_in_head}
use Rattle.adsc_run.proofs.head.said_by.Goals as goal

pub returns-in-Bad-clause-stopped : goal.returns-in-Bad-clause-stopped
returns-in-Bad-clause-stopped c stage head = (c.in-Bad.code, c.in-Bad.value, ap (step_of stage [] c.args.number) c.in-Bad.is, c.bad_line.ensures)

pub returns-in-Brings-clause-stopped : goal.returns-in-Brings-clause-stopped
returns-in-Brings-clause-stopped c stage head = (code.Head, 0, ap (step_of stage [] c.args.number) c.in-Brings.is ∙ brings_in_head stage c.args.number _ head, c.bad_line-in-Brings.ensures)
