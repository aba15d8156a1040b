use Rattle.std.proofs.Common.{ap, sym, subst}
use Rattle.link_threads.specs.Passes.{PassState, NoteState, IsLonger}
use Rattle.link_threads.specs.Turns.{Seated}
use Rattle.link_threads.proofs.Passing.{meets}
use Rattle.link_threads.proofs.shared.Shared.meet.Goals as goal

pub returns-clause-seen : goal.returns-clause-seen
returns-clause-seen c =
    subst (λ l. IsLonger c.args.pass.now.seen c.args.note.seen l) (ap (λ (m : Seated). m.0.seen) (sym c.look.ensures.now))
    (meets c.pass.inside.seat.me.0 c.note.inside.seat.me.0 c.join.new.seat.me.0 c.args.pass.now.seen c.args.note.seen (ap (λ (p : PassState). p.seen) c.pass.view_is) (ap (λ (n : NoteState). n.seen) c.note.view_is)
    (ap (λ (m : Seated). m.0) c.join.ensures.now) c.look.ensures.begun)
