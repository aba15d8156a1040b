use Rattle.std.proofs.Common.{[], ◌∷◌, set, refl, sym, subst, arith}
use Rattle.contract_rules.specs.Acts.{Moved, Ticked, Crew}
use Rattle.due_event.specs.RuleTerms.{rules_sample}
use Rattle.aircraft_core.specs.declared.entry.Entry.TheVariants as entries
use Rattle.aircraft_core.specs.Entries.{IsTakenBy}
use Rattle.aircraft_core.specs.Taking.{IsTaken}
use Rattle.aircraft_core.proofs.LogonLaws.{answer_taken, items_taken, logon_taken}
use Rattle.aircraft_core.proofs.TakingLaws.{uplink_taken}
use Rattle.aircraft_core.proofs.taking.take.Goals as goal

pub returns-in-Uplink-clause-taken : goal.returns-in-Uplink-clause-taken
returns-in-Uplink-clause-taken c =
    let entry = subst (IsTakenBy c.args.setup.now) c.in-Uplink.is c.requires.entry in
    let is = c.index-outboxes-link.is in
    subst (λ e. IsTaken c.args.setup.now e c.args.latest.now c.args.latest.now c.args.table.now c.take_uplink.new.table c.args.outboxes.now
    (set c.args.outboxes.now c.in-Uplink.link c.take_uplink.new.outbox))
    (sym c.in-Uplink.is)
    (uplink_taken c.args.setup.now c.in-Uplink.line c.in-Uplink.link c.in-Uplink.bytes c.args.latest.now c.args.table.now c.take_uplink.new.table c.args.outboxes.now
    c.index-outboxes-link.result c.take_uplink.new.outbox (omega (arith, entry.0, c.requires.each_link)) is
    (rw (c.as_slice.ensures.value, ← is) at c.take_uplink.ensures.taken))

pub returns-in-Sample-clause-taken : goal.returns-in-Sample-clause-taken
returns-in-Sample-clause-taken c =
    let now = c.take_act.new in
    subst (λ e. IsTaken c.args.setup.now e c.args.latest.now c.in-Sample.sample c.args.table.now now.table c.args.outboxes.now now.outboxes) (sym c.in-Sample.is)
    (items_taken c.args.setup.now (entries.Sample c.in-Sample.line c.in-Sample.sample) (Moved (rules_sample c.args.latest.now) (rules_sample c.in-Sample.sample) ∷ [])
    c.args.latest.now c.in-Sample.sample c.args.table.now now.table c.args.outboxes.now now.outboxes refl refl (λ link past. refl) c.take_act.ensures.taken)

pub returns-in-Tick-clause-taken : goal.returns-in-Tick-clause-taken
returns-in-Tick-clause-taken c =
    let now = c.take_act-in-Tick.new in
    subst (λ e. IsTaken c.args.setup.now e c.args.latest.now c.args.latest.now c.args.table.now now.table c.args.outboxes.now now.outboxes) (sym c.in-Tick.is)
    (items_taken c.args.setup.now (entries.Tick c.in-Tick.line c.in-Tick.t) (Ticked c.in-Tick.t ∷ [])
    c.args.latest.now c.args.latest.now c.args.table.now now.table c.args.outboxes.now now.outboxes refl refl (λ link past. refl) c.take_act-in-Tick.ensures.taken)

pub returns-in-Crew-clause-taken : goal.returns-in-Crew-clause-taken
returns-in-Crew-clause-taken c =
    let now = c.take_act-in-Crew.new in
    subst (λ e. IsTaken c.args.setup.now e c.args.latest.now c.args.latest.now c.args.table.now now.table c.args.outboxes.now now.outboxes) (sym c.in-Crew.is)
    (items_taken c.args.setup.now (entries.Crew c.in-Crew.line c.in-Crew.on) (Crew c.in-Crew.on ∷ [])
    c.args.latest.now c.args.latest.now c.args.table.now now.table c.args.outboxes.now now.outboxes refl refl (λ link past. refl) c.take_act-in-Crew.ensures.taken)

pub returns-in-Logon-clause-taken : goal.returns-in-Logon-clause-taken
returns-in-Logon-clause-taken c =
    let inside = subst (IsTakenBy c.args.setup.now) c.in-Logon.is c.requires.entry in
    let is = c.index-outboxes-link-in-Logon.is in
    subst (λ e. IsTaken c.args.setup.now e c.args.latest.now c.args.latest.now c.args.table.now c.args.table.now c.args.outboxes.now
    (set c.args.outboxes.now c.in-Logon.link c.send_contact.new.outbox))
    (sym c.in-Logon.is)
    (logon_taken c.args.setup.now c.in-Logon.line c.in-Logon.link c.args.latest.now c.args.table.now c.args.outboxes.now
    c.index-outboxes-link-in-Logon.result c.send_contact.new.outbox (omega (arith, inside, c.requires.each_link)) is
    (rw (← is) at c.send_contact.ensures.sent))

pub returns-in-Answer-clause-taken : goal.returns-in-Answer-clause-taken
returns-in-Answer-clause-taken c =
    subst (λ e. IsTaken c.args.setup.now e c.args.latest.now c.args.latest.now c.args.table.now c.args.table.now c.args.outboxes.now c.args.outboxes.now) (sym c.in-Answer.is)
    (answer_taken c.args.setup.now c.in-Answer.line c.in-Answer.link c.in-Answer.code c.args.latest.now c.args.table.now c.args.outboxes.now)
