use Rattle.std.proofs.Common.{◌++◌, ap, ◌∙◌, arith}
use Rattle.aircraft_core.specs.Sending.{item_bits_on}
use Rattle.aircraft_core.proofs.StepLaws.{IsStep, link_items, link_sendable, link_small, table_kept, was_told}
use Rattle.aircraft_core.proofs.taking.tell.Goals as goal

pub write_items-requires-clause-sendable : goal.write_items-requires-clause-sendable
write_items-requires-clause-sendable c =
    let e = c.step-dues.ensures in
    let step : IsStep c.args.table.now c.args.act.now c.step-dues.result.list.items c.step-dues.new.self
    = record { configuration = e.configuration; links = e.links; due = e.due; stands = e.stands } in
    rw c.as_slice.ensures.value (link_sendable c.args.setup.now c.args.table.now c.args.act.now _ c.step-dues.new.self c.args.link c.requires.table step c.requires.link c.requires.of_link)

pub write_items-requires-clause-room : goal.write_items-requires-clause-room
write_items-requires-clause-room c =
    let e = c.step-dues.ensures in
    let step : IsStep c.args.table.now c.args.act.now c.step-dues.result.list.items c.step-dues.new.self
    = record { configuration = e.configuration; links = e.links; due = e.due; stands = e.stands } in
    rw c.as_slice.ensures.value
    (omega (arith, c.requires.room, link_small c.args.setup.now c.args.table.now c.args.act.now _ c.step-dues.new.self c.args.link c.requires.table step c.requires.link c.requires.of_link))

pub returns-clause-told : goal.returns-clause-told
returns-clause-told c =
    let e = c.step-dues.ensures in
    was_told c.args.setup.now c.args.table.now c.args.act.now c.step-dues.result.list.items c.step-dues.new.self c.requires.table
    (record { configuration = e.configuration; links = e.links; due = e.due; stands = e.stands })

pub returns-clause-written : goal.returns-clause-written
returns-clause-written c =
    let e = c.step-dues.ensures in
    let step : IsStep c.args.table.now c.args.act.now c.step-dues.result.list.items c.step-dues.new.self
    = record { configuration = e.configuration; links = e.links; due = e.due; stands = e.stands } in
    record {
      spelled = λ told stands.
          rw c.as_slice.ensures.value at c.write_items.ensures.bits
          ∙ ap (λ items. c.args.out.now ++ item_bits_on c.args.setup.now c.args.latest.now items)
          (link_items c.args.setup.now c.args.table.now c.args.act.now _ c.step-dues.new.self c.args.link c.requires.table step c.requires.link c.requires.of_link told stands);
    }

pub returns-clause-table : goal.returns-clause-table
returns-clause-table c =
    let e = c.step-dues.ensures in
    table_kept c.args.setup.now c.args.table.now c.args.act.now c.step-dues.result.list.items c.step-dues.new.self c.requires.table
    (record { configuration = e.configuration; links = e.links; due = e.due; stands = e.stands })

pub returns-clause-size : goal.returns-clause-size
returns-clause-size c =
    let e = c.step-dues.ensures in
    let step : IsStep c.args.table.now c.args.act.now c.step-dues.result.list.items c.step-dues.new.self
    = record { configuration = e.configuration; links = e.links; due = e.due; stands = e.stands } in
    let size = rw c.as_slice.ensures.value at c.write_items.ensures.size in
    omega (arith, size, link_small c.args.setup.now c.args.table.now c.args.act.now _ c.step-dues.new.self c.args.link c.requires.table step c.requires.link c.requires.of_link)
