-- One more sample: what it makes of a watch that stands for the samples before it, and what it fires.
use Rattle.std.proofs.Common.{◌≡◌, Bool, true, false, cond, ◌||◌, List, ◌∷◌, refl}
use Rattle.adsc_requests.specs.declared.message.Limits.{Limits}
use Rattle.std.specs.List.{list_any}
use Rattle.contract_rules.specs.Acts.{Sample}
use Rattle.contract_rules.specs.Events.{Limit, Lateral, VerticalRate, Range, arms_again, exceeds, last_exceeds}
use Rattle.due_event.specs.RuleTerms.{rules_profile, rules_limits}
use Rattle.due_event.specs.Triggers.{trigger_after, trigger_moved}
use Rattle.due_event.specs.Watches.{watch_after, fired_at, fired_by, watch_moved}
use Rattle.due_event.specs.declared.profile.Profile.{Profile}

-- A limit's event that arms again is spent by the last sample alone, and else by any.
spent_next : (again exceeded last some : Bool)
    → cond again exceeded (exceeded || cond again last some) ≡ cond again exceeded (exceeded || some)
spent_next true exceeded last some = refl
spent_next false exceeded last some = refl

pub trigger_moved-trigger_after : (profile : Profile) (limit : Limit) (limits : Limits) (samples : List Sample) (now : Sample)
    → trigger_moved (exceeds limit (rules_limits limits) now) (trigger_after profile limit limits samples)
    ≡ trigger_after profile limit limits (now ∷ samples)
trigger_moved-trigger_after profile limit limits samples now = λ i. record {
  arms_again = arms_again (rules_profile profile) limit;
  spent = spent_next (arms_again (rules_profile profile) limit) (exceeds limit (rules_limits limits) now)
      (last_exceeds limit (rules_limits limits) samples) (list_any (exceeds limit (rules_limits limits)) samples) i;
}

pub watch_moved-watch_after : (profile : Profile) (limits : Limits) (samples : List Sample) (now : Sample)
    → watch_moved now (watch_after profile limits samples) ≡ watch_after profile limits (now ∷ samples)
watch_moved-watch_after profile limits samples now = λ i. record {
  limits = limits;
  lateral = trigger_moved-trigger_after profile Lateral limits samples now i;
  vrate = trigger_moved-trigger_after profile VerticalRate limits samples now i;
  range = trigger_moved-trigger_after profile Range limits samples now i;
}

pub fired_by-watch_after : (profile : Profile) (limits : Limits) (samples : List Sample) (before now : Sample)
    → fired_by (watch_after profile limits samples) before now ≡ fired_at profile limits samples before now
fired_by-watch_after profile limits samples before now = refl
