use Rattle.aircraft_core.proofs.StepLaws.{IsStep, dues_rise, dues_within, flight_sendable, flight_small, table_kept}
use Rattle.aircraft_core.proofs.TakingLaws.{act_taken}
use Rattle.aircraft_core.proofs.taking.take_act.Goals as goal

pub send_by_link-requires-clause-links : goal.send_by_link-requires-clause-links
send_by_link-requires-clause-links c =
    let e = c.step-dues.ensures in
    let step : IsStep c.args.table.now c.args.act.now c.step-dues.result.list.items c.step-dues.new.self
    = record { configuration = e.configuration; links = e.links; due = e.due; stands = e.stands } in
    rw c.as_slice.ensures.value (dues_within c.args.setup.now c.args.table.now c.args.act.now c.step-dues.result.list.items c.step-dues.new.self c.requires.table step)

pub send_by_link-requires-clause-rising : goal.send_by_link-requires-clause-rising
send_by_link-requires-clause-rising c =
    let e = c.step-dues.ensures in
    let step : IsStep c.args.table.now c.args.act.now c.step-dues.result.list.items c.step-dues.new.self
    = record { configuration = e.configuration; links = e.links; due = e.due; stands = e.stands } in
    rw c.as_slice.ensures.value (dues_rise c.args.setup.now c.args.table.now c.args.act.now c.step-dues.result.list.items c.step-dues.new.self c.requires.table step)

pub send_by_link-requires-clause-sendable : goal.send_by_link-requires-clause-sendable
send_by_link-requires-clause-sendable c link inside =
    let e = c.step-dues.ensures in
    let step : IsStep c.args.table.now c.args.act.now c.step-dues.result.list.items c.step-dues.new.self
    = record { configuration = e.configuration; links = e.links; due = e.due; stands = e.stands } in
    rw c.as_slice.ensures.value
    (flight_sendable c.args.setup.now c.args.table.now c.args.act.now c.step-dues.result.list.items c.step-dues.new.self c.requires.table step c.requires.of_flight link inside)

pub send_by_link-requires-clause-fits : goal.send_by_link-requires-clause-fits
send_by_link-requires-clause-fits c link inside =
    let e = c.step-dues.ensures in
    let step : IsStep c.args.table.now c.args.act.now c.step-dues.result.list.items c.step-dues.new.self
    = record { configuration = e.configuration; links = e.links; due = e.due; stands = e.stands } in
    rw c.as_slice.ensures.value
    (flight_small c.args.setup.now c.args.table.now c.args.act.now c.step-dues.result.list.items c.step-dues.new.self c.requires.table step c.requires.of_flight link inside)

pub returns-clause-taken : goal.returns-clause-taken
returns-clause-taken c =
    let e = c.step-dues.ensures in
    let step : IsStep c.args.table.now c.args.act.now c.step-dues.result.list.items c.step-dues.new.self
    = record { configuration = e.configuration; links = e.links; due = e.due; stands = e.stands } in
    act_taken c.args.setup.now c.args.latest.now c.args.table.now c.args.act.now c.step-dues.result.list.items c.step-dues.new.self c.args.outboxes.now c.send_by_link.new.outboxes
    c.requires.table step (rw c.as_slice.ensures.value at c.send_by_link.ensures.sent) (rw c.as_slice.ensures.value at c.send_by_link.ensures.unbroken)

pub returns-clause-table : goal.returns-clause-table
returns-clause-table c =
    let e = c.step-dues.ensures in
    table_kept c.args.setup.now c.args.table.now c.args.act.now c.step-dues.result.list.items c.step-dues.new.self c.requires.table
    (record { configuration = e.configuration; links = e.links; due = e.due; stands = e.stands })
