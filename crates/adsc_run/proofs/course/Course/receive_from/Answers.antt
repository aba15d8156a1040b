use Rattle.std.proofs.Common.{refl, sym, subst, arith}
use Rattle.adsc_run.specs.Outboxes.{AreFound}
use Rattle.adsc_run.proofs.FoundLaws.{found_more}
use Rattle.adsc_run.proofs.StepLaws.{downlink_heard, downlink_missing}
use Rattle.adsc_run.proofs.course.Course.receive_from.Goals as goal

pub returns-in-Ok : goal.returns-in-Ok
returns-in-Ok c log stood unused =
    let craft = c.args.self.now.craft in
    let got = c.in_ok-text.ensures.ends in
    downlink_heard c.args.line c.args.link log c.args.self.now (record { craft = craft; stations = c.hear_at.new.stations; refused = c.args.self.now.refused; burst = c.args.self.now.burst; downlink_ends = c.downlink_at.new.ends })
    stood (omega (arith, c.requires.link, c.requires.count)) refl refl refl
    (subst (AreFound craft.setting craft.journal) (sym got.1)
    (found_more craft.setting craft.journal c.args.self.now.downlink_ends.items c.args.link got.0 _ stood.found c.outbox-outbox.ensures.texts got.2))
    c.args.place _ _ c.hear_at.result c.outbox-outbox.ensures.texts (rw (c.in-Ok.is) at c.in_ok-text.ensures.text) c.hear_at.ensures.end c.hear_at.ensures.heard unused

pub returns-in-Err : goal.returns-in-Err
returns-in-Err c log stood unused =
    let craft = c.args.self.now.craft in
    let got = c.in_ok-text.ensures.ends in
    downlink_missing c.args.line c.args.link log c.args.self.now (record { craft = craft; stations = c.args.self.now.stations; refused = c.args.self.now.refused; burst = c.args.self.now.burst; downlink_ends = c.downlink_at.new.ends })
    stood refl refl refl refl
    (subst (AreFound craft.setting craft.journal) (sym got.1)
    (found_more craft.setting craft.journal c.args.self.now.downlink_ends.items c.args.link got.0 _ stood.found c.outbox-outbox.ensures.texts got.2))
    c.args.place _ c.in-Err.count _ c.outbox-outbox.ensures.texts (rw (c.in-Err.is) at c.in_ok-text.ensures.none) (rw (c.in-Err.is) at c.in_ok-text.ensures.count)
    c.bad_line.ensures
