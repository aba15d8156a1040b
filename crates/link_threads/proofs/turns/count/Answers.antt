use Rattle.std.proofs.Common.{◌∷◌, [], ◌++◌, arith, ap, sym, ◌∙◌}
use Rattle.link_threads.specs.Turns.{Seated}
use Rattle.link_threads.proofs.Allowed.{count_allowed}
use Rattle.link_threads.proofs.turns.count.Goals as goal

pub fetch_add-requires : goal.fetch_add-requires
fetch_add-requires c =
    let seat = c.requires.seat in
    let now = c.put.ensures.now in
    let entry = c.requires.entry in (
      c.put.ensures.same.0 ∙ seat.0,
      omega (arith, seat.1),
      count_allowed c.args.board.now.key c.args.board.now.table_id.slots c.put.new.seat.id c.put.new.seat.me c.args.craft entry.0 seat.2 (ap (λ (me : Seated). me.1) now)
          (ap (λ (me : Seated). me.0.turn) now ∙ c.requires.turn) (entry.1 ∙ ap (λ (me : Seated). me.0.seen ++ entry.0 ∷ []) (sym now)) c.entries-len.ensures.fits,
    )
