use Rattle.due_event.specs.RuleTerms.{rules_profile}
use Rattle.contract_table.specs.Acts.{rules_message}
use Rattle.contract_table.specs.Changes.{IsHeard}
use Rattle.contract_table.proofs.PlaceOnLink.{heard_live}
use Rattle.contract_table.proofs.connections.hear.Goals as goal

pub returns-in-Ok : goal.returns-in-Ok
returns-in-Ok c =
    heard_live (λ found. IsHeard (rules_profile c.args.configuration.now.profile) c.args.time (rules_message c.args.message.now) found c.args.connections.now.items c.hear_at.new.connections.items c.args.dues.now c.hear_at.new.dues)
    c.args.configuration.now.reserved c.args.crew c.args.time c.args.link c.in-Ok.place (rules_message c.args.message.now) c.as_slice.result.now c.args.connections.now.items
    c.as_slice.ensures.value c.in-Ok.ensures.live c.hear_at.ensures
