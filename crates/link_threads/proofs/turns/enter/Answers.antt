use Rattle.std.proofs.Common.{ap, sym}
use Rattle.link_threads.specs.Turns.{Seated}
use Rattle.link_threads.proofs.turns.enter.Goals as goal

pub free-requires-clause-whole : goal.free-requires-clause-whole
free-requires-clause-whole c =
    let now = c.count.ensures.now in
    (c.args.craft, ap (λ (me : Seated). me.1) now, ap (λ (me : Seated). me.0.seen) (sym now), c.requires.setting)
