-- A watch of an event contract after the samples that it was shown, the newest first.
-- Which events fall due, and which are spent, the contract rules say.
use Rattle.std.specs.Prelude.{◌≡◌, List}
use Rattle.adsc_requests.specs.declared.message.Limits.{Limits}
use Rattle.contract_rules.specs.Acts.{Sample}
use Rattle.contract_rules.specs.Events.{Lateral, VerticalRate, Range, exceeds, is_event_due, is_waypoint_due}
use Rattle.due_event.specs.RuleTerms.{rules_profile, rules_limits}
use Rattle.due_event.specs.Triggers.{trigger_after, is_fired, trigger_moved}
use Rattle.due_event.specs.declared.fired.Fired.{Fired}
use Rattle.due_event.specs.declared.profile.Profile.{Profile}
use Rattle.due_event.specs.declared.trigger.Trigger.{Trigger}

-- What a watch holds: the limits of its contract, and the event of each of three.
pub record WatchState : Type 0 where
  pub limits : Limits
  pub lateral : Trigger
  pub vrate : Trigger
  pub range : Trigger

-- The watch of a contract with these limits after these samples.
abbrev pub watch_after : Profile → Limits → List Sample → WatchState
watch_after profile limits samples =
    record {
      limits = limits;
      lateral = trigger_after profile Lateral limits samples;
      vrate = trigger_after profile VerticalRate limits samples;
      range = trigger_after profile Range limits samples;
    }

-- A watch stands for the samples that it was shown, in a profile and of a contract with these limits.
abbrev pub StandsFor : WatchState → Profile → Limits → List Sample → Type 0
StandsFor watch profile limits samples = watch ≡ watch_after profile limits samples

-- The events that fall due at a new sample, after these samples; another stands before it, shown to the watch or not.
abbrev pub fired_at : Profile → Limits → List Sample → Sample → Sample → Fired
fired_at profile limits samples before now =
    record {
      lateral = is_event_due (rules_profile profile) Lateral (rules_limits limits) samples now;
      vrate = is_event_due (rules_profile profile) VerticalRate (rules_limits limits) samples now;
      range = is_event_due (rules_profile profile) Range (rules_limits limits) samples now;
      waypoint = is_waypoint_due (rules_limits limits) before now;
    }

-- ---- one more sample, for a watch of whatever state

-- The events that a new sample fires on a watch; another stands before it.
abbrev pub fired_by : WatchState → Sample → Sample → Fired
fired_by watch before now =
    record {
      lateral = is_fired (exceeds Lateral (rules_limits watch.limits) now) watch.lateral;
      vrate = is_fired (exceeds VerticalRate (rules_limits watch.limits) now) watch.vrate;
      range = is_fired (exceeds Range (rules_limits watch.limits) now) watch.range;
      waypoint = is_waypoint_due (rules_limits watch.limits) before now;
    }

-- The watch after a new sample.
abbrev pub watch_moved : Sample → WatchState → WatchState
watch_moved now watch =
    record {
      limits = watch.limits;
      lateral = trigger_moved (exceeds Lateral (rules_limits watch.limits) now) watch.lateral;
      vrate = trigger_moved (exceeds VerticalRate (rules_limits watch.limits) now) watch.vrate;
      range = trigger_moved (exceeds Range (rules_limits watch.limits) now) watch.range;
    }
