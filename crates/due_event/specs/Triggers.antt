-- The event of one limit of an event contract: how it is left by the samples since acceptance, and what one more sample
-- makes of it.
use Rattle.std.specs.Prelude.{Bool, ◌&&◌, ◌||◌, not, if◌then◌else◌, List}
use Rattle.adsc_requests.specs.declared.message.Limits.{Limits}
use Rattle.contract_rules.specs.Acts.{Sample}
use Rattle.contract_rules.specs.Events.{Limit, arms_again, is_spent}
use Rattle.due_event.specs.RuleTerms.{rules_profile, rules_limits}
use Rattle.due_event.specs.declared.profile.Profile.{Profile}
use Rattle.due_event.specs.declared.trigger.Trigger.{Trigger}

-- The event of a limit after these samples, the newest first: whether it arms again, and whether it is spent.
abbrev pub trigger_after : Profile → Limit → Limits → List Sample → Trigger
trigger_after profile limit limits samples =
    record {
      arms_again = arms_again (rules_profile profile) limit;
      spent = is_spent (rules_profile profile) limit (rules_limits limits) samples;
    }

-- Whether a new sample fires the event, by whether it exceeds the limit.
abbrev pub is_fired : Bool → Trigger → Bool
is_fired exceeded trigger = exceeded && not trigger.spent

-- The event after one more sample, by whether it exceeds the limit.
abbrev pub trigger_moved : Bool → Trigger → Trigger
trigger_moved exceeded trigger =
    record trigger { spent = if trigger.arms_again then exceeded else exceeded || trigger.spent }
