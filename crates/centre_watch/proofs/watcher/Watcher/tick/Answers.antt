use Rattle.std.proofs.Common.{rules, ◌∷◌, ◌&&◌, not, is_some, ap, ◌∙◌}
use Rattle.ground_rules.specs.Watching.{Ticks, WatcherView, is_late}
use Rattle.centre_watch.proofs.WatchLaws.{watches_tick}
use Rattle.centre_watch.proofs.watcher.Watcher.tick.Goals as goal

pub returns-clause-rings : goal.returns-clause-rings
returns-clause-rings c making past stood =
    c.begins.ensures
    ∙ (λ i. is_some (c.late-after.ensures making (Ticks c.args.t ∷ past)
    (watches_tick c.args.self.now _ making past c.args.t stood (ap (λ (v : WatcherView). v.centre) c.self.view_is) (search rules) (ap (λ (v : WatcherView). v.quiet) c.self.view_is)) i)
    && not (is_some (c.late-before.ensures making past stood i)))
    ∙ ap (λ (v : WatcherView). is_late making v.grace (Ticks c.args.t ∷ past) && not (is_late making c.args.self.now.grace past)) c.self.view_is
