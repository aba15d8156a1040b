use Rattle.std.proofs.Common.{Bool, sym, ap, ◌∙◌, subst}
use Rattle.centre_core.specs.Heard.{IsAnswerTo, with_heard}
use Rattle.centre_core.specs.Hearing.{Hearing, SaysTo}
use Rattle.ground_rules.specs.Waiting.{waits}
use Rattle.ground_rules.specs.Watching.{WatcherView, events}
use Rattle.centre_watch.proofs.WatchLaws.{Ends, ended, watches_heard}
use Rattle.centre_watch.proofs.watcher.Watcher.hear.Goals as goal

pub returns-clause-said : goal.returns-clause-said
returns-clause-said c =
    subst (λ (v : WatcherView). (hearing : Hearing) × SaysTo v.centre c.args.text.now hearing × IsAnswerTo v.centre hearing c.hear-heard.result) c.self.view_is
    c.hear-heard.ensures.said

pub returns-clause-answer : goal.returns-clause-answer
returns-clause-answer c =
    subst (λ (v : WatcherView). (hearing : Hearing) → SaysTo v.centre c.args.text.now hearing → IsAnswerTo v.centre hearing c.hear-heard.result) c.self.view_is
    c.hear-heard.ensures.answer

pub returns-clause-stands : goal.returns-clause-stands
returns-clause-stands c making past stood hearing says =
    let centre = ap (λ (v : WatcherView). v.centre.table) c.self.view_is ∙ stood.centre in
    let said = subst (λ (v : WatcherView). SaysTo v.centre c.args.text.now hearing) (sym c.self.view_is) says in
    let stands = c.hear-heard.ensures.stands (events making past) centre hearing said in
    watches_heard c.args.self.now c.end_quiet.new.self making past hearing c.hear-heard.result c.is_waiting-waited.result c.is_waiting-still_waits.result stood
    (subst (λ (v : WatcherView). IsAnswerTo v.centre hearing c.hear-heard.result) c.self.view_is (c.hear-heard.ensures.answer hearing said))
    (ap (λ (v : WatcherView). v.centre.table) c.end_quiet.ensures ∙ stands)
    (c.is_waiting-waited.ensures ∙ ap waits (c.periodic_row.ensures (events making past) stood.centre))
    (c.is_waiting-still_waits.ensures ∙ ap waits (c.periodic_row-2.ensures (with_heard hearing (events making past)) stands))
    (subst (λ (ends : Bool). Ends c.args.self.now c.end_quiet.new.self ends) c.is_end_of_quiet.ensures
    (ended _ _ _ c.hear-heard.new.self c.is_end_of_quiet.result c.self.view_is c.end_quiet.ensures))
