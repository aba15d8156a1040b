use Rattle.std.proofs.Common.{◌≡◌, ◌↔◌, ◌&&◌, ℕ, Bool, IsTrue, Some, Err, ap, ap₂, ◌∙◌, subst}
use Rattle.centre_core.specs.Histories.{InHistory, row_for, was_contacted}
use Rattle.centre_core.specs.Tables.{number_pending}
use Rattle.centre_core.specs.declared.refusal.AskRefused.TheVariants.{Waiting}
use Rattle.ground_rules.specs.Watching.{WatcherView, events}
use Rattle.centre_watch.proofs.WatchLaws.{Ends, ended, watches_asked}
use Rattle.centre_watch.proofs.watcher.Watcher.ask.Goals as goal

pub returns-clause-waiting : goal.returns-clause-waiting
returns-clause-waiting c =
    subst (λ (v : WatcherView). InHistory v.centre (λ w. (n : ℕ) → (c.ask-asked.result ≡ Err (Waiting n)) ↔ (IsTrue (was_contacted w) × (number_pending (row_for c.args.request.now w) ≡ Some n))))
    c.self.view_is c.ask-asked.ensures.waiting

pub returns-clause-stands : goal.returns-clause-stands
returns-clause-stands c making past stood =
    let centre = ap (λ (v : WatcherView). v.centre.table) c.self.view_is ∙ stood.centre in
    watches_asked c.args.self.now c.end_quiet.new.self making past c.args.request.now c.ask-asked.result stood c.requires
    (c.ask-asked.ensures.not_logged_on (events making past) centre) (c.ask-asked.ensures.waiting (events making past) centre)
    (ap (λ (v : WatcherView). v.centre.table) c.end_quiet.ensures ∙ c.ask-asked.ensures.stands (events making past) centre)
    (subst (λ (ends : Bool). Ends c.args.self.now c.end_quiet.new.self ends)
    (ap₂ (λ (sent periodic : Bool). sent && periodic) c.is_ok.ensures.value c.is_periodic.ensures)
    (ended _ _ _ c.ask-asked.new.self (c.is_ok.result && c.is_periodic.result) c.self.view_is c.end_quiet.ensures))
