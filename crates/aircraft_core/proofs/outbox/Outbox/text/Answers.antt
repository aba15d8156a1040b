use Rattle.std.proofs.Common.{ap, ◌∙◌}
use Rattle.aircraft_core.specs.Outboxes.{OutboxState}
use Rattle.aircraft_core.proofs.LiveLaws.{text_is, text_is_none}
use Rattle.aircraft_core.proofs.outbox.Outbox.text.Goals as goal

pub returns-in-Some : goal.returns-in-Some
returns-in-Some c texts few same =
    text_is c.deref.result.now c.in-Some.text.now c.in-Some.field-0-0.now texts c.in-Some.ensures.cases.0 few
    (c.deref.ensures.value ∙ ap (λ (o : OutboxState). o.sent) c.self.view_is ∙ same)

pub returns-in-None : goal.returns-in-None
returns-in-None c texts few same =
    text_is_none c.deref.result.now texts c.in-None.ensures.cases
    (c.deref.ensures.value ∙ ap (λ (o : OutboxState). o.sent) c.self.view_is ∙ same)
