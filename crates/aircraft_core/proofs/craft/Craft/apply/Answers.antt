use Rattle.std.proofs.Common.{◌≡◌, ◌+◌, ◌-◌, ◌<◌, ◌≤◌, List, length, ap, sym, ◌∙◌, subst, arith}
use Rattle.std.specs.Vec.{vec_len, vec_capacity}
use Rattle.afn_logon.specs.declared.logon.Logon.{Logon}
use Rattle.aircraft_core.specs.Aircraft.{Aircraft}
use Rattle.aircraft_core.specs.CraftFields.{KeepsDownlinks}
use Rattle.aircraft_core.specs.Entries.{IsTakenBy}
use Rattle.aircraft_core.specs.Outboxes.{OutboxState, entries_with_room}
use Rattle.aircraft_core.specs.Standing.{KeepsLogons}
use Rattle.aircraft_core.proofs.JournalLaws.{kept_on}
use Rattle.aircraft_core.proofs.LogonLaws.{has_logon, logons_kept}
use Rattle.aircraft_core.proofs.SpareLaws.{spare_after, spare_place, spare_room, whole_slice}
use Rattle.aircraft_core.proofs.craft.Craft.apply.Goals as goal

pub take-requires-clause-room : goal.take-requires-clause-room
take-requires-clause-room c =
    let craft = c.self.inside in
    rw c.as_mut_slice.ensures.value
    (spare_room (vec_capacity craft.journal - vec_len craft.journal) craft.outboxes.items (subst (λ (a : Aircraft). 0 < a.spare) (sym c.self.view_is) c.requires.room))

pub enter-requires : goal.enter-requires
enter-requires c =
    let craft = c.self.inside in
    let place = spare_place (vec_capacity craft.journal - vec_len craft.journal) craft.outboxes.items (subst (λ (a : Aircraft). 0 < a.spare) (sym c.self.view_is) c.requires.room) in
    omega (arith, place)

pub invariant_of-self : goal.invariant_of-self
invariant_of-self c =
    let craft = c.self.inside in
    let each_link : length c.take.new.outboxes ≡ length craft.outboxes.items = c.take.ensures.each_link ∙ ap length c.as_mut_slice.ensures.value in
    let noted : length c.note.new.logons ≡ length craft.logons.items = c.note.ensures.each_link ∙ ap length c.as_mut_slice-2.ensures.value in
    record {
      outboxes = subst (λ (outboxes : List OutboxState). KeepsDownlinks craft.setup c.enter.new.journal.items c.take.new.latest c.take.new.table outboxes)
          (sym (whole_slice c.take.new.outboxes craft.outboxes.items craft.outboxes.len craft.outboxes.ok.0 each_link))
          (rw c.enter.ensures.items
          (kept_on craft.setup craft.journal.items c.args.entry craft.latest c.take.new.latest craft.table c.take.new.table craft.outboxes.items c.take.new.outboxes c.self.invariant.outboxes
          (rw c.as_mut_slice.ensures.value at c.take.ensures.taken) c.take.ensures.table each_link));
      logons = subst (λ (logons : List Logon). KeepsLogons craft.setup c.enter.new.journal.items logons)
          (sym (whole_slice c.note.new.logons craft.logons.items craft.logons.len craft.logons.ok.0 noted))
          (rw c.enter.ensures.items
          (logons_kept craft.setup craft.journal.items c.args.entry craft.logons.items c.note.new.logons c.self.invariant.logons noted
          (rw c.as_mut_slice-2.ensures.value at c.note.ensures.states)));
    }

pub returns-clause-spare : goal.returns-clause-spare
returns-clause-spare c =
    let craft = c.self.inside in
    let before = vec_capacity craft.journal - vec_len craft.journal in
    let after = vec_capacity c.enter.new.journal - vec_len c.enter.new.journal in
    let each_link : length c.take.new.outboxes ≡ length craft.outboxes.items = c.take.ensures.each_link ∙ ap length c.as_mut_slice.ensures.value in
    subst (λ (outboxes : List OutboxState). c.args.self.now.spare ≤ entries_with_room after outboxes + 1)
    (sym (whole_slice c.take.new.outboxes craft.outboxes.items craft.outboxes.len craft.outboxes.ok.0 each_link))
    (subst (λ (a : Aircraft). a.spare ≤ entries_with_room after c.take.new.outboxes + 1) c.self.view_is
    (spare_after before after craft.outboxes.items c.take.new.outboxes (omega arith) each_link (rw c.as_mut_slice.ensures.value at c.take.ensures.room)))

pub note-requires : goal.note-requires
note-requires c =
    let craft = c.self.inside in
    has_logon craft.setup (length c.as_mut_slice-2.result.now) c.args.entry (ap length c.as_mut_slice-2.ensures.value ∙ c.self.invariant.logons.each_link)
    (subst (λ (a : Aircraft). IsTakenBy a.setting c.args.entry) (sym c.self.view_is) c.requires.taken)
