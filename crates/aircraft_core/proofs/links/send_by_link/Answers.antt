use Rattle.std.proofs.Common.{◌≤◌, [], ap, sym, ◌∙◌, subst, arith}
use Rattle.std.proofs.lemmas.List.{get_or_read}
use Rattle.std.specs.Option.{option_copied}
use Rattle.aircraft_core.specs.Outboxes.{OutboxState}
use Rattle.aircraft_core.proofs.LinkLaws.{count_within, left_more, link_inside, link_room, own_fits, own_sendable}
use Rattle.aircraft_core.proofs.links.send_by_link.Goals as goal

pub split_at-requires : goal.split_at-requires
split_at-requires c = omega (arith, c.count_of_link.ensures, count_within c.in-Some.first.now.link c.loop-first.rest.now)

pub send_items-requires-clause-sendable : goal.send_items-requires-clause-sendable
send_items-requires-clause-sendable c =
    let get = sym c.first.ensures.value ∙ ap option_copied c.in-Some.is in
    rw (c.split_at.ensures.front, c.count_of_link.ensures)
    (own_sendable c.args.setup.now c.args.sample.now c.args.dues.now c.loop-first.rest.now c.args.outboxes.now c.loop-first.outboxes c.in-Some.first.now get c.loop-first.invariant)

pub send_items-requires-clause-fits : goal.send_items-requires-clause-fits
send_items-requires-clause-fits c =
    let get = sym c.first.ensures.value ∙ ap option_copied c.in-Some.is in
    rw (c.split_at.ensures.front, c.count_of_link.ensures)
    (own_fits c.args.setup.now c.args.sample.now c.args.dues.now c.loop-first.rest.now c.args.outboxes.now c.loop-first.outboxes c.in-Some.first.now get c.loop-first.invariant)

pub send_items-requires-clause-room : goal.send_items-requires-clause-room
send_items-requires-clause-room c =
    let get = sym c.first.ensures.value ∙ ap option_copied c.in-Some.is in
    let inside = link_inside c.args.setup.now c.args.sample.now c.args.dues.now c.loop-first.rest.now c.args.outboxes.now c.loop-first.outboxes c.in-Some.first.now get
    c.loop-first.invariant in
    let same = get_or_read c.loop-first.outboxes c.in-Some.first.now.link c.index-outboxes-link.result
    (omega (arith, inside, c.loop-first.invariant.each_link, c.requires.each_link)) c.index-outboxes-link.is (record { sent = []; room = 0 }) in
    subst (λ (o : OutboxState). 534 ≤ o.room) (sym same ∙ c.index-outboxes-link.is)
    (link_room c.args.setup.now c.args.sample.now c.args.dues.now c.loop-first.rest.now c.args.outboxes.now c.loop-first.outboxes c.in-Some.first.now get c.loop-first.invariant
    c.requires.each_link c.requires.room)

pub loop-first-preserved : goal.loop-first-preserved
loop-first-preserved c =
    let get = sym c.first.ensures.value ∙ ap option_copied c.in-Some.is in
    let is = c.index-outboxes-link.is in
    left_more c.args.setup.now c.args.sample.now c.args.dues.now c.loop-first.rest.now c.args.outboxes.now c.loop-first.outboxes c.in-Some.first.now get c.loop-first.invariant
    c.requires.each_link c.count_of_link.result c.split_at.result.0.now c.split_at.result.1.now c.index-outboxes-link.result c.send_items.new.outbox
    c.count_of_link.ensures c.split_at.ensures.front c.split_at.ensures.back is
    (rw (← is) at c.send_items.ensures.sent) c.send_items.ensures.unbroken (rw (← is) at c.send_items.ensures.room)
