use Rattle.std.proofs.Common.{◌≡◌, length, sym, subst}
use Rattle.aircraft_core.specs.Aircraft.{Aircraft}
use Rattle.aircraft_core.specs.JournalActs.{JournalActs}
use Rattle.aircraft_core.specs.Setting.{configuration_of}
use Rattle.aircraft_core.proofs.JournalLaws.{table_stands}
use Rattle.aircraft_core.proofs.craft.Craft.table.Goals as goal

pub returns-clause-configured : goal.returns-clause-configured
returns-clause-configured c =
    let craft = c.self.inside in
    subst (λ (a : Aircraft). craft.table.configuration ≡ configuration_of a.setting) c.self.view_is c.self.invariant.outboxes.at.configured

pub returns-clause-linked : goal.returns-clause-linked
returns-clause-linked c =
    let craft = c.self.inside in
    subst (λ (a : Aircraft). craft.table.links ≡ length a.setting.addresses) c.self.view_is c.self.invariant.outboxes.at.linked

pub returns-clause-stands : goal.returns-clause-stands
returns-clause-stands c acts are =
    let craft = c.self.inside in
    table_stands craft.setup craft.journal.items craft.latest craft.table craft.outboxes.items c.self.invariant.outboxes acts
    (subst (λ (a : Aircraft). JournalActs a.setting.first a.journal acts) (sym c.self.view_is) are)
