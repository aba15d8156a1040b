use Rattle.std.proofs.Common.{◌≡◌, sym, ◌∙◌, subst}
use mathlib.Core.Option.{some-injective}
use Rattle.link_threads.specs.Seats.{IsLeft}
use Rattle.link_threads.proofs.Ends.{closing}
use Rattle.link_threads.proofs.closing.craft_of.Goals as goal

pub unreachable-requires : goal.unreachable-requires
unreachable-requires c =
    let left = closing c.args.table.shared.key c.args.seat.id c.args.seat.me.0 _ _ c.close_with-closed.ensures.values.2 c.requires.idle.1 c.requires.all in
    let slot = some-injective _ _ (sym left.1 ∙ c.take-slot.ensures.value) in
    let none = c.in-None.is in
    cc (slot, none)

pub returns : goal.returns
returns c =
    let left = closing c.args.table.shared.key c.args.seat.id c.args.seat.me.0 _ _ c.close_with-closed.ensures.values.2 c.requires.idle.1 c.requires.all in
    let slot = some-injective _ _ (sym left.1 ∙ c.take-slot.ensures.value) in
    let same : left.0 ≡ c.in-Some.craft = cc (slot, c.in-Some.is) in
    subst (IsLeft c.args.table.shared.key c.args.seat.me.0) same left.2
