use Rattle.std.proofs.Common.{◌≡◌, ◌++◌, ◌∷◌, [], length, ap, sym, ◌∙◌, subst}
use Rattle.aircraft_core.specs.Entries.{IsTakenBy}
use Rattle.aircraft_core.specs.LiveAircraft.{LiveAircraft, StandsAfter}
use Rattle.aircraft_core.proofs.LiveLaws.{live_on}
use Rattle.aircraft_core.proofs.LogonLaws.{has_logon}
use Rattle.aircraft_core.proofs.SpareLaws.{whole_slice}
use Rattle.aircraft_core.proofs.live.LiveCraft.apply.Goals as goal

pub note-requires : goal.note-requires
note-requires c =
    let craft = c.self.inside in
    has_logon craft.setup (length c.as_mut_slice.result.now) c.args.entry.now (ap length c.as_mut_slice.ensures.value ∙ c.self.invariant.logons)
    (subst (λ (a : LiveAircraft). IsTakenBy a.setting c.args.entry.now) (sym c.self.view_is) c.requires.taken)

pub returns-clause-stands : goal.returns-clause-stands
returns-clause-stands c journal stands =
    let craft = c.self.inside in
    let here = subst (λ (a : LiveAircraft). StandsAfter a journal) (sym c.self.view_is) stands in
    let cleared : length c.clear_each.new.outboxes ≡ length craft.outboxes.items = c.clear_each.ensures.each_link ∙ ap length c.as_mut_slice-outboxes.ensures.value in
    let sent : length c.take.new.outboxes ≡ length craft.outboxes.items = c.take.ensures.each_link ∙ cleared in
    let noted : length c.note.new.logons ≡ length craft.logons.items = c.note.ensures.each_link ∙ ap length c.as_mut_slice.ensures.value in
    let next = live_on craft.setup journal c.args.entry.now craft.latest c.take.new.latest craft.table c.take.new.table c.clear_each.new.outboxes c.take.new.outboxes
    craft.logons.items c.note.new.logons here.at here.logons c.take.ensures.taken c.take.ensures.table (cleared ∙ c.self.invariant.outboxes) c.clear_each.ensures.sent
    noted (rw c.as_mut_slice.ensures.value at c.note.ensures.states) in
    let all_outboxes = whole_slice c.take.new.outboxes craft.outboxes.items craft.outboxes.len craft.outboxes.ok.0 sent in
    let all_logons = whole_slice c.note.new.logons craft.logons.items craft.logons.len craft.logons.ok.0 noted in
    subst (λ (a : LiveAircraft). StandsAfter a (journal ++ c.args.entry.now ∷ []))
    (λ i. record { setting = craft.setup; latest = c.take.new.latest; table = c.take.new.table; logons = sym all_logons i; outboxes = sym all_outboxes i })
    next
