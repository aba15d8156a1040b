use Rattle.std.proofs.Common.{inl, inr, [], ◌∷◌, refl}
use Rattle.contract_rules.specs.Acts.{Malformed}
use Rattle.contract_table.specs.Acts.{rules_fault}
use Rattle.aircraft_core.specs.Taking.{said_on}
use Rattle.aircraft_core.proofs.laws.a_payload_has_acts.Goals as goal

pub returns-in-Ok : goal.returns-in-Ok
returns-in-Ok c link = (said_on link c.in-Ok.field-0.messages.items, inl (c.in-Ok.field-0, c.in-Ok.ensures.uplink, refl))

pub returns-in-Err : goal.returns-in-Err
returns-in-Err c link = (Malformed link (rules_fault c.in-Err.field-0) ∷ [], inr (c.in-Err.field-0, c.in-Err.ensures.fault, refl))
