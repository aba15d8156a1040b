use Rattle.std.proofs.Common.{◌≡◌, ◌-◌, ◌<◌, ◌≤◌, List, OnOk, length, ap, sym, ◌∙◌, subst, arith}
use Rattle.std.specs.Vec.{vec_len, vec_capacity}
use Rattle.aircraft_core.specs.Aircraft.{Aircraft}
use Rattle.aircraft_core.specs.CraftFields.{KeepsDownlinks}
use Rattle.aircraft_core.specs.Outboxes.{OutboxState, entries_with_room}
use Rattle.aircraft_core.proofs.JournalLaws.{kept_same}
use Rattle.aircraft_core.proofs.SpareLaws.{on_ok, some_spare, spare_kept, whole_slice}
use Rattle.aircraft_core.proofs.craft.Craft.reserve.Goals as goal

pub returns-clause-room : goal.returns-clause-room
returns-clause-room c =
    let craft = c.self.inside in
    let places = vec_capacity c.reserve.new.self - vec_len c.reserve.new.self in
    let each_link : length c.reserve_each.new.outboxes ≡ length craft.outboxes.items = c.reserve_each.ensures.each_link ∙ ap length c.as_mut_slice.ensures.value in
    subst (λ (outboxes : List OutboxState). OnOk c.reserve_each.result (0 < entries_with_room places outboxes))
    (sym (whole_slice c.reserve_each.new.outboxes craft.outboxes.items craft.outboxes.len craft.outboxes.ok.0 each_link))
    (on_ok c.reserve_each.result (λ room. some_spare places c.reserve_each.new.outboxes (omega (arith, c.in_ok-reserve.ensures.ok)) room) c.reserve_each.ensures.room)

pub returns-clause-kept : goal.returns-clause-kept
returns-clause-kept c =
    let craft = c.self.inside in
    let before = vec_capacity craft.journal - vec_len craft.journal in
    let places = vec_capacity c.reserve.new.self - vec_len c.reserve.new.self in
    let each_link : length c.reserve_each.new.outboxes ≡ length craft.outboxes.items = c.reserve_each.ensures.each_link ∙ ap length c.as_mut_slice.ensures.value in
    subst (λ (outboxes : List OutboxState). c.args.self.now.spare ≤ entries_with_room places outboxes)
    (sym (whole_slice c.reserve_each.new.outboxes craft.outboxes.items craft.outboxes.len craft.outboxes.ok.0 each_link))
    (subst (λ (a : Aircraft). a.spare ≤ entries_with_room places c.reserve_each.new.outboxes) c.self.view_is
    (spare_kept before places craft.outboxes.items c.reserve_each.new.outboxes (omega arith) each_link (rw c.as_mut_slice.ensures.value at c.reserve_each.ensures.kept)))

pub invariant_of-self-2 : goal.invariant_of-self-2
invariant_of-self-2 c =
    let craft = c.self.inside in
    let each_link : length c.reserve_each.new.outboxes ≡ length craft.outboxes.items = c.reserve_each.ensures.each_link ∙ ap length c.as_mut_slice.ensures.value in
    record {
      outboxes = subst (λ (outboxes : List OutboxState). KeepsDownlinks craft.setup c.reserve.new.self.items craft.latest craft.table outboxes)
          (sym (whole_slice c.reserve_each.new.outboxes craft.outboxes.items craft.outboxes.len craft.outboxes.ok.0 each_link))
          (rw c.reserve.ensures.items
          (kept_same craft.setup craft.journal.items craft.latest craft.table craft.outboxes.items c.reserve_each.new.outboxes c.self.invariant.outboxes each_link
          (rw c.as_mut_slice.ensures.value at c.reserve_each.ensures.sent)));
      logons = rw c.reserve.ensures.items c.self.invariant.logons;
    }
