-- Each worked history comes out by computation.
use Rattle.std.specs.Prelude.{refl}
use Rattle.contract_rules.specs.Histories.Links.{SixLinks, SixHighLinks, BesideKeptLink, KeptLinkGone, TwoLinks, NewSession, CancelAllAndRequest, NotLive, LatestSample}
use Rattle.contract_rules.specs.Histories.Contracts.{RepeatAndNumberInForce, RepeatsOfEachKind, NumberOfAnother, CancelOfEachKind, Replacement, DemandNeverInForce, IntentAskedFor, CancelOfUndefined, TwoMessages, MalformedPayloads}
use Rattle.contract_rules.specs.Histories.Reports.{PeriodAndModuli, NumbersInSeries, GroupsOfDemand, GreatestTick, Intervals}
use Rattle.contract_rules.specs.Histories.Events.{LateralEventOnce, LateralEventAgain, DeviationToLeft, ClimbTooFast, DescentTooFast, AltitudeEventAndMalformed, AboveCeiling, AltitudeEventOnce, AltitudeEventAgain, WaypointChanges, FourEvents, NewEventContract}
use Rattle.contract_rules.specs.Histories.Emergency.{EmergencyMode, CancelledEmergencyMode, SuspendedReports, EmergencyContract, CancelledEmergencyContract, DefaultInterval, RequestBeforeEmergency, SwitchedOnAgain, ModeOfNewSession}

pub six_links : SixLinks
six_links = refl

pub six_high_links : SixHighLinks
six_high_links = refl

pub beside_kept_link : BesideKeptLink
beside_kept_link = refl

pub kept_link_gone : KeptLinkGone
kept_link_gone = refl

pub two_links : TwoLinks
two_links = refl

pub new_session : NewSession
new_session = refl

pub cancel_all_and_request : CancelAllAndRequest
cancel_all_and_request = refl

pub not_live : NotLive
not_live = refl

pub latest_sample : LatestSample
latest_sample = (refl, refl)

pub repeat_and_number_in_force : RepeatAndNumberInForce
repeat_and_number_in_force = refl

pub repeats_of_each_kind : RepeatsOfEachKind
repeats_of_each_kind = refl

pub number_of_another : NumberOfAnother
number_of_another = refl

pub cancel_of_each_kind : CancelOfEachKind
cancel_of_each_kind = refl

pub replacement : Replacement
replacement = refl

pub demand_never_in_force : DemandNeverInForce
demand_never_in_force = refl

pub intent_asked_for : IntentAskedFor
intent_asked_for = refl

pub cancel_of_undefined : CancelOfUndefined
cancel_of_undefined = refl

pub two_messages : TwoMessages
two_messages = refl

pub malformed_payloads : MalformedPayloads
malformed_payloads = refl

pub period_and_moduli : PeriodAndModuli
period_and_moduli = refl

pub numbers_in_series : NumbersInSeries
numbers_in_series = refl

pub groups_of_demand : GroupsOfDemand
groups_of_demand = refl

pub greatest_tick : GreatestTick
greatest_tick = refl

pub intervals : Intervals
intervals = refl

pub lateral_event_once : LateralEventOnce
lateral_event_once = refl

pub lateral_event_again : LateralEventAgain
lateral_event_again = refl

pub deviation_to_left : DeviationToLeft
deviation_to_left = refl

pub climb_too_fast : ClimbTooFast
climb_too_fast = refl

pub descent_too_fast : DescentTooFast
descent_too_fast = refl

pub altitude_event_and_malformed : AltitudeEventAndMalformed
altitude_event_and_malformed = refl

pub above_ceiling : AboveCeiling
above_ceiling = refl

pub altitude_event_once : AltitudeEventOnce
altitude_event_once = refl

pub altitude_event_again : AltitudeEventAgain
altitude_event_again = refl

pub waypoint_changes : WaypointChanges
waypoint_changes = refl

pub four_events : FourEvents
four_events = refl

pub new_event_contract : NewEventContract
new_event_contract = refl

pub emergency_mode : EmergencyMode
emergency_mode = refl

pub cancelled_emergency_mode : CancelledEmergencyMode
cancelled_emergency_mode = refl

pub suspended_reports : SuspendedReports
suspended_reports = refl

pub emergency_contract : EmergencyContract
emergency_contract = refl

pub cancelled_emergency_contract : CancelledEmergencyContract
cancelled_emergency_contract = refl

pub default_interval : DefaultInterval
default_interval = refl

pub request_before_emergency : RequestBeforeEmergency
request_before_emergency = refl

pub switched_on_again : SwitchedOnAgain
switched_on_again = refl

pub mode_of_new_session : ModeOfNewSession
mode_of_new_session = refl
