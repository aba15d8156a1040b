use Rattle.std.proofs.Common.{◌&&◌, Bool, ap, ap₂, ◌∙◌, subst}
use Rattle.ground_rules.specs.Watching.{WatcherView, events}
use Rattle.centre_watch.proofs.WatchLaws.{Ends, ended, watches_cancelled}
use Rattle.centre_watch.proofs.watcher.Watcher.cancel.Goals as goal

pub returns-clause-stands : goal.returns-clause-stands
returns-clause-stands c making past stood =
    let centre = ap (λ (v : WatcherView). v.centre.table) c.self.view_is ∙ stood.centre in
    watches_cancelled c.args.self.now c.end_quiet.new.self making past c.args.kind c.cancel-cancelled.result stood
    (c.cancel-cancelled.ensures.number (events making past) centre) (c.cancel-cancelled.ensures.nothing (events making past) centre)
    (ap (λ (v : WatcherView). v.centre.table) c.end_quiet.ensures ∙ c.cancel-cancelled.ensures.stands (events making past) centre)
    (subst (λ (ends : Bool). Ends c.args.self.now c.end_quiet.new.self ends)
    (ap₂ (λ (sent periodic : Bool). sent && periodic) c.is_ok.ensures.value c.is_periodic_kind.ensures)
    (ended _ _ _ c.cancel-cancelled.new.self (c.is_ok.result && c.is_periodic_kind.result) c.self.view_is c.end_quiet.ensures))
