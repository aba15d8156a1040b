use Rattle.std.proofs.Common.{ap, sym, ◌∙◌}
use Rattle.link_threads.specs.Passes.{SharedState}
use Rattle.link_threads.proofs.Gathering.{gathered_length}
use Rattle.link_threads.proofs.shared.Shared.close.Goals as goal

pub craft_of-requires-clause-all : goal.craft_of-requires-clause-all
craft_of-requires-clause-all c =
    gathered_length c.args.passes.items c.gather-seat.result.me.0 c.gather-seat.ensures.gathered ∙ c.requires.count ∙ ap (λ (s : SharedState). s.passes) (sym c.self.view_is) ∙ sym c.self.invariant.2
