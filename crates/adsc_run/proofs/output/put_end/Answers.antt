use Rattle.std.proofs.Common.{◌∙◌}
use Rattle.run_rules.specs.declared.end.End.TheVariants.{Done, Bad, Limit}
use Rattle.adsc_run.proofs.OutputLaws.{end_put}
use Rattle.adsc_run.proofs.output.put_end.Goals as goal

pub returns-in-Done : goal.returns-in-Done
returns-in-Done g c = end_put c.args.outcome.now Done _ _ c.in-Done.is c.put_done.ensures

pub returns-in-Bad : goal.returns-in-Bad
returns-in-Bad g c =
    end_put c.args.outcome.now (Bad c.in-Bad.bad) _ _ c.in-Bad.is
    (record { text = c.as_slice.result.now; such = c.as_slice.ensures.value ∙ c.bad_line.ensures; puts = c.put.ensures })

pub returns-in-Limit : goal.returns-in-Limit
returns-in-Limit g c =
    end_put c.args.outcome.now (Limit c.in-Limit.line) _ _ c.in-Limit.is
    (record { text = c.as_slice-in-Limit.result.now; such = c.as_slice-in-Limit.ensures.value ∙ c.limit_line.ensures; puts = c.put-in-Limit.ensures })
