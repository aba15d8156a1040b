use Rattle.std.proofs.Common.{[], refl}
use Rattle.run_rules.specs.Runs.{ended_run}
use Rattle.run_rules.specs.Stages.{begun}
use Rattle.run_rules.proofs.EarlierLines.{nothing_ordered}
use Rattle.adsc_run.proofs.run.without_craft.Goals as goal

pub returns-clause-of_bytes : goal.returns-clause-of_bytes
returns-clause-of_bytes c bytes workers ends =
    let run = ended_run begun [] c.args.end in
    record {
      script = ends.script;
      order = [];
      run = run;
      is_script = ends.is_script;
      runs = ends.runs;
      allowed = nothing_ordered ends.script run workers refl;
      of_run = record { setting = refl; journal = refl; lines = refl; refused = c.new.ensures.items; centres = c.new-2.ensures.items; end = refl };
    }
