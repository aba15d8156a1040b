use Rattle.std.proofs.Common.{rules, ◌≡◌, false, IsTrue, Some, Err, sym, ap, ◌∙◌}
use Rattle.centre_core.specs.Events.{Asks}
use Rattle.centre_core.specs.Histories.{row_for, was_contacted}
use Rattle.centre_core.specs.Tables.{number_pending}
use Rattle.centre_core.specs.View.{CentreView}
use Rattle.centre_core.specs.declared.refusal.AskRefused.TheVariants.{NotLoggedOn, Waiting}
use Rattle.centre_core.proofs.CallLaws.{number_sent, refused_pending, refused_so, refused_uncontacted, sent_contacted}
use Rattle.centre_core.proofs.TableLaws.{stands_after}
use Rattle.centre_core.proofs.centre.Centre.ask.Goals as goal

pub returns-in_err-request-clause-not_logged_on : goal.returns-in_err-request-clause-not_logged_on
returns-in_err-request-clause-not_logged_on c w stands =
    let answered : c.from_residual.result ≡ Err c.in_err-request.field-0.0 = search rules in
    refused_so c.from_residual.result c.in_err-request.field-0.0 NotLoggedOn (was_contacted w ≡ false) answered
    (refused_uncontacted w c.self.inside.table c.args.request.now c.in_err-request.field-0.0
    (ap (λ (v : CentreView). v.table) c.self.view_is ∙ stands) (sym c.in_err-request.ensures.answer))

pub returns-in_err-request-clause-waiting : goal.returns-in_err-request-clause-waiting
returns-in_err-request-clause-waiting c w stands n =
    let answered : c.from_residual.result ≡ Err c.in_err-request.field-0.0 = search rules in
    refused_so c.from_residual.result c.in_err-request.field-0.0 (Waiting n) (IsTrue (was_contacted w) × (number_pending (row_for c.args.request.now w) ≡ Some n)) answered
    (refused_pending w c.self.inside.table c.args.request.now c.in_err-request.field-0.0 n
    (ap (λ (v : CentreView). v.table) c.self.view_is ∙ stands) (sym c.in_err-request.ensures.answer))

pub returns-in_err-request-clause-stands : goal.returns-in_err-request-clause-stands
returns-in_err-request-clause-stands c w stands =
    c.ask.ensures.table ∙ stands_after (Asks c.args.request.now) w c.self.inside.table (ap (λ (v : CentreView). v.table) c.self.view_is ∙ stands)

pub returns-clause-number : goal.returns-clause-number
returns-clause-number c w stands =
    c.sent.ensures.number
    ∙ number_sent w c.self.inside.table c.args.request.now c.in_ok-request.request (ap (λ (v : CentreView). v.table) c.self.view_is ∙ stands) c.requires
    (sym c.in_ok-request.ensures.answer)

pub returns-clause-not_logged_on : goal.returns-clause-not_logged_on
returns-clause-not_logged_on c w stands =
    let contacted = sent_contacted w c.self.inside.table c.args.request.now c.in_ok-request.request (ap (λ (v : CentreView). v.table) c.self.view_is ∙ stands)
    (sym c.in_ok-request.ensures.answer) in
    ((λ is. cc), (λ none. cc))

pub returns-clause-stands : goal.returns-clause-stands
returns-clause-stands c w stands =
    c.ask.ensures.table ∙ stands_after (Asks c.args.request.now) w c.self.inside.table (ap (λ (v : CentreView). v.table) c.self.view_is ∙ stands)
