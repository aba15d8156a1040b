use Rattle.std.proofs.Common.{ap, ◌∙◌}
use Rattle.centre_core.specs.View.{CentreView}
use Rattle.centre_core.proofs.CallLaws.{row_shown}
use Rattle.centre_core.proofs.centre.Centre.shown.Goals as goal

pub returns-clause-history : goal.returns-clause-history
returns-clause-history c w stands =
    c.row.ensures ∙ row_shown c.args.kind w c.self.inside.table (ap (λ (v : CentreView). v.table) c.self.view_is ∙ stands)
