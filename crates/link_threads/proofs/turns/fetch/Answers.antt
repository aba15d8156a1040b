use Rattle.std.proofs.Common.{◌∷◌, Some, ap, sym, ◌∙◌}
use Rattle.atomic_table.specs.Table.{rest}
use Rattle.link_threads.specs.Turns.{Seated}
use Rattle.link_threads.proofs.turns.fetch.Goals as goal

pub exchange-requires : goal.exchange-requires
exchange-requires g c =
    let has = c.wait_turn.ensures.turn in
    let hand = ap (λ (me : Seated). me.1) has.now in
    (c.wait_turn.ensures.same.0 ∙ c.requires.seat.0, (Some has.craft, hand ∙ ap (λ slots. (0, Some has.craft) ∷ rest slots) (sym hand)))
