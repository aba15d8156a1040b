-- What is due on a live link at an act of the flight, by what the table holds of it.
use Rattle.std.proofs.Common.{◌≡◌, ℕ, max, Bool, true, false, cond, not, ◌&&◌, List, [], ◌++◌, Option, Some, None, option_map, option_and_then, refl, ap, sym, ◌∙◌}
use Rattle.contract_rules.specs.Configuration.{Profile}
use Rattle.contract_rules.specs.Messages.{Message, EventRequest, Periodic, Event, Emergency}
use Rattle.contract_rules.specs.Acts.{Act, Moved, Ticked, Crew, Sample}
use Rattle.contract_rules.specs.LiveLinks.{OfFlight, Noted, is_live, admits_link, session_of}
use Rattle.contract_rules.specs.LookingBack.{from_last}
use Rattle.contract_rules.specs.InForce.{Contract, in_force, request_of}
use Rattle.contract_rules.specs.Reports.{groups_of, crosses}
use Rattle.contract_rules.specs.Periodic.{periodic_report_number, crosses_since}
use Rattle.contract_rules.specs.Emergency.{is_in_emergency_mode, anchor_time, emergency_report_number, emergency_interval, emergency_number}
use Rattle.contract_rules.specs.Events.{samples_since_acceptance}
use Rattle.contract_rules.specs.Due.{Report, EmergencyOff, item_where, due_of_sample, limits_of, due_at}
use Rattle.contract_table.specs.ConnectionDues.{series_groups, anchor_reports, due_of_ticked, due_of_crewed, due_of_moved}
use Rattle.contract_table.specs.Connections.{Connection, series_of, watched_by, anchor_where, connection_in}
use Rattle.contract_table.specs.NextConnection.{crosses_from, is_series_due, is_anchor_due}
use Rattle.contract_table.proofs.FlightSteps.{has_anchor, series_due, anchor_due, live_session}

-- A flight act, noted.
abbrev pub flying : Act → ℕ → Noted
flying act time = record { act = act; admits = false; verdict = OfFlight; time = time }

groups_of_series : (link : ℕ) (heard : List Noted) (held : Option Contract)
    → groups_of (periodic_report_number link heard) (request_of held) ≡ series_groups (option_map (series_of link heard) held)
groups_of_series link heard None = refl
groups_of_series link heard (Some contract) = refl

module _ (profile : Profile) (link time : ℕ) (heard session : List Noted) (found : session_of link heard ≡ Some session) where
  abbrev live : Connection
  live = connection_in profile link (Some session) heard (anchor_time link heard) (emergency_report_number link heard)

  pub ticked_due : (tick : ℕ) → due_at profile link (flying (Ticked tick) time) heard ≡ due_of_ticked time (max time tick) live
  ticked_due tick =
      (λ i. item_where (series_due profile link tick time heard session found i) (Report 7 (groups_of (periodic_report_number link heard) (request_of (in_force Periodic (found i)))))
      ++ item_where (anchor_due profile link tick time heard session found i) (Report 9 (groups_of (emergency_report_number link heard) (request_of (in_force Emergency (found i))))))
      ∙ ap (λ groups. item_where (is_series_due time (max time tick) live) (Report 7 groups)
      ++ item_where (is_anchor_due time (max time tick) live) (Report 9 (groups_of (emergency_report_number link heard) live.emergency))) (groups_of_series link heard (in_force Periodic (Some session)))
      ∙ ap (λ items. item_where (is_series_due time (max time tick) live) (Report 7 (series_groups live.periodic)) ++ items) (by (is_in_emergency_mode (Some session) heard))
    where
      by : (mode : Bool)
          → item_where (crosses_from (emergency_interval live.emergency) (anchor_where mode (anchor_time link heard) (emergency_report_number link heard)) time (max time tick)) (Report 9 (groups_of (emergency_report_number link heard) live.emergency))
          ≡ item_where (crosses_from (emergency_interval live.emergency) (anchor_where mode (anchor_time link heard) (emergency_report_number link heard)) time (max time tick)) (Report 9 (groups_of (anchor_reports (anchor_where mode (anchor_time link heard) (emergency_report_number link heard))) live.emergency))
      by true = refl
      by false = refl

  pub crewed_due : (on : Bool) → due_at profile link (flying (Crew on) time) heard ≡ due_of_crewed on live
  crewed_due true =
      λ i. item_where (live_session link heard session found i) (Report 9 (groups_of 0 (request_of (in_force Emergency (found i)))))
  crewed_due false =
      (λ i. item_where (is_in_emergency_mode (found i) heard) (EmergencyOff (emergency_number (request_of (in_force Emergency (found i))))))
      ∙ ap (λ m. item_where m (EmergencyOff (emergency_number live.emergency))) (sym (has_anchor (is_in_emergency_mode (Some session) heard) (anchor_time link heard) (emergency_report_number link heard)))

  pub moved_due : (before now : Sample) → due_at profile link (flying (Moved before now) time) heard ≡ due_of_moved before now live.event
  moved_due before now =
      ap (λ s. due_of_sample profile (option_and_then limits_of (request_of (in_force Event s))) (samples_since_acceptance heard) before now) found
      ∙ by (request_of (in_force Event (Some session)))
    where
      by : (request : Option Message)
          → due_of_sample profile (option_and_then limits_of request) (samples_since_acceptance heard) before now
          ≡ due_of_moved before now (option_and_then (watched_by profile (samples_since_acceptance heard)) request)
      by None = refl
      by (Some (EventRequest number limits)) = refl
      by (Some _) = refl

-- ---- a link that is not live

module _ (profile : Profile) (link time : ℕ) (heard : List Noted) (dead : is_live link heard ≡ false) where
  none : session_of link heard ≡ None
  none = ap (λ l. cond l (Some (from_last (λ noted _. admits_link link noted) heard)) None) dead

  pub nothing_ticked : (tick : ℕ) → due_at profile link (flying (Ticked tick) time) heard ≡ []
  nothing_ticked tick =
      λ i. item_where (not (is_in_emergency_mode (none i) heard) && crosses_since (in_force Periodic (none i)) time (max time tick)) (Report 7 (groups_of (periodic_report_number link heard) (request_of (in_force Periodic (none i)))))
      ++ item_where (is_in_emergency_mode (none i) heard && crosses (anchor_time link heard) (emergency_interval (request_of (in_force Emergency (none i)))) time (max time tick)) (Report 9 (groups_of (emergency_report_number link heard) (request_of (in_force Emergency (none i)))))

  pub nothing_crewed : (on : Bool) → due_at profile link (flying (Crew on) time) heard ≡ []
  nothing_crewed true = λ i. item_where (dead i) (Report 9 (groups_of 0 (request_of (in_force Emergency (session_of link heard)))))
  nothing_crewed false = λ i. item_where (is_in_emergency_mode (none i) heard) (EmergencyOff (emergency_number (request_of (in_force Emergency (session_of link heard)))))

  pub nothing_moved : (before now : Sample) → due_at profile link (flying (Moved before now) time) heard ≡ []
  nothing_moved before now = ap (λ s. due_of_sample profile (option_and_then limits_of (request_of (in_force Event s))) (samples_since_acceptance heard) before now) none
