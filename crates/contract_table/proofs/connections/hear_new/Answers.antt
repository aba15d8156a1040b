use Rattle.std.proofs.Common.{refl, sym}
use Rattle.std.proofs.lemmas.List.{append-nil}
use Rattle.due_event.specs.RuleTerms.{rules_profile}
use Rattle.contract_table.specs.Acts.{rules_message}
use Rattle.contract_table.specs.Changes.{IsHeard}
use Rattle.contract_table.specs.Dues.{dues_in}
use Rattle.contract_table.proofs.PlaceOnLink.{heard_asked, heard_not_asked}
use Rattle.contract_table.proofs.connections.hear_new.Goals as goal

pub returns-then-is_request : goal.returns-then-is_request
returns-then-is_request c =
    heard_asked (λ found. IsHeard (rules_profile c.args.configuration.now.profile) c.args.time (rules_message c.args.message.now) found c.args.connections.now.items c.hear_request.new.connections.items c.args.dues.now c.hear_request.new.dues)
    c.args.configuration.now.reserved c.args.crew c.args.time c.args.link c.args.place (rules_message c.args.message.now) c.args.connections.now.items c.args.connections.now.items
    refl (sym c.if-is_request.ensures) c.requires.rising c.requires.place c.hear_request.ensures

pub returns-else-is_request : goal.returns-else-is_request
returns-else-is_request c =
    heard_not_asked (λ found. IsHeard (rules_profile c.args.configuration.now.profile) c.args.time (rules_message c.args.message.now) found c.args.connections.now.items c.args.connections.now.items c.args.dues.now c.args.dues.now)
    c.args.configuration.now.reserved c.args.crew c.args.time c.args.link c.args.place (rules_message c.args.message.now) c.args.connections.now.items c.args.connections.now.items
    refl (sym c.if-is_request.ensures) c.requires.rising c.requires.place (record { next = refl; sound = c.requires.sound; due = sym (append-nil (dues_in c.args.dues.now)) })
