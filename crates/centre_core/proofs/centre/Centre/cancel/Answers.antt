use Rattle.std.proofs.Common.{Some, None, refl, sym, ap, ◌∙◌}
use Rattle.centre_core.specs.Events.{Cancels}
use Rattle.centre_core.specs.View.{CentreView}
use Rattle.centre_core.proofs.CallLaws.{number_cancelled}
use Rattle.centre_core.proofs.TableLaws.{stands_after}
use Rattle.centre_core.proofs.centre.Centre.cancel.Goals as goal

pub returns-in_default-clause-nothing : goal.returns-in_default-clause-nothing
returns-in_default-clause-nothing c w stands =
    let none = number_cancelled c.args.kind w c.self.inside.table None (ap (λ (v : CentreView). v.table) c.self.view_is ∙ stands) c.in_default.ensures.answer in
    ((λ _. none), (λ _. refl))

pub returns-in_default-clause-stands : goal.returns-in_default-clause-stands
returns-in_default-clause-stands c w stands =
    c.cancel.ensures.table ∙ stands_after (Cancels c.args.kind) w c.self.inside.table (ap (λ (v : CentreView). v.table) c.self.view_is ∙ stands)

pub returns-clause-number : goal.returns-clause-number
returns-clause-number c w stands =
    number_cancelled c.args.kind w c.self.inside.table (Some c.in-Some.n) (ap (λ (v : CentreView). v.table) c.self.view_is ∙ stands) c.in-Some.ensures.answer
    ∙ ap Some (sym c.sent.ensures.number)

pub returns-clause-nothing : goal.returns-clause-nothing
returns-clause-nothing c w stands =
    let some = number_cancelled c.args.kind w c.self.inside.table (Some c.in-Some.n) (ap (λ (v : CentreView). v.table) c.self.view_is ∙ stands) c.in-Some.ensures.answer in
    ((λ is. cc), (λ none. cc))

pub returns-clause-stands : goal.returns-clause-stands
returns-clause-stands c w stands =
    c.cancel.ensures.table ∙ stands_after (Cancels c.args.kind) w c.self.inside.table (ap (λ (v : CentreView). v.table) c.self.view_is ∙ stands)
