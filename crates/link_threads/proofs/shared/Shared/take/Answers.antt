use Rattle.std.proofs.Common.{[], ◌∷◌, ◌++◌, length, ap, sym, ◌∙◌, subst}
use Rattle.link_threads.specs.Passes.{HasEntered}
use Rattle.link_threads.specs.Turns.{Seated, counted, freed}
use Rattle.link_threads.specs.Seats.{pass_of}
use Rattle.link_threads.proofs.Passing.{one_list, enters}
use Rattle.link_threads.proofs.shared.Shared.take.Goals as goal

pub enter-requires-clause-entry : goal.enter-requires-clause-entry
enter-requires-clause-entry g c =
    (c.args.entry, c.apply.ensures.journal ∙ ap (λ l. l ++ c.args.entry ∷ []) (c.in-Ok.ensures.journal ∙ ap (λ (m : Seated). m.0.seen) (sym c.fetch-craft.ensures.now)))

pub invariant_of-pass-2 : goal.invariant_of-pass-2
invariant_of-pass-2 g c =
    let me = c.enter.ensures.now ∙ ap (λ (m : Seated). (freed (counted m.0 c.apply.new.self.journal), [])) c.fetch-craft.ensures.now in (
      ap (λ (m : Seated). m.1) me,
      ap (λ (m : Seated). m.0.turn) me,
      ap (λ (m : Seated). length m.0.lists) me ∙ one_list c.pass.inside.seat.me.0 c.fetch-craft.result.journal c.apply.new.self.journal c.pass.invariant.2,
    )

pub returns-clause-entered : goal.returns-clause-entered
returns-clause-entered g c =
    let me = c.enter.ensures.now ∙ ap (λ (m : Seated). (freed (counted m.0 c.apply.new.self.journal), [])) c.fetch-craft.ensures.now in
    subst (λ p. HasEntered p c.args.entry (pass_of c.enter.new.seat)) c.pass.view_is
    (enters c.pass.inside.seat c.enter.new.seat c.fetch-craft.result.journal c.apply.new.self.journal c.args.entry c.pass.invariant.2 c.fetch-craft.ensures.extends
    (c.apply.ensures.journal ∙ ap (λ l. l ++ c.args.entry ∷ []) c.in-Ok.ensures.journal) me)
