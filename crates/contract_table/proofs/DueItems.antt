-- How many items are due at an act, and in what order.
use Rattle.std.proofs.Common.{◌≡◌, ℕ, zero, suc, ◌+◌, ◌<◌, ◌≤◌, Bool, true, false, cond, List, [], ◌∷◌, ◌++◌, length, flat_map, get_or, Option, Some, None, refl, subst, arith}
use Rattle.std.specs.List.{range_with_len}
use Rattle.std.specs.List.Sorted.{IsNonDecreasingBy}
use Rattle.std.proofs.lemmas.List.{length-append}
use Rattle.contract_rules.specs.Configuration.{Configuration, Profile}
use Rattle.contract_rules.specs.Messages.{Message, EmergencyRequest, EventLimits}
use Rattle.contract_rules.specs.Acts.{Act, Said, Malformed, Moved, Ticked, Crew, Sample, Fault, concerns}
use Rattle.contract_rules.specs.LiveLinks.{Verdict, Accepted, Refused, Repeated, Unreadable, Noted, heard_on, session_of, session_at}
use Rattle.contract_rules.specs.Reports.{no_groups, report_groups}
use Rattle.contract_rules.specs.Emergency.{is_in_emergency_mode, is_emergency_due, is_emergency_off_due, emergency_report_number}
use Rattle.contract_rules.specs.Periodic.{is_periodic_due}
use Rattle.contract_rules.specs.Events.{Lateral, VerticalRate, Range, is_event_due, is_waypoint_due, samples_since_acceptance}
use Rattle.contract_rules.specs.Due.{Item, Report, item_where, predicted_route, earth_reference, due_of_message, due_of_fault, due_of_sample, limits_in_force, due_at, due_items, emergency_report, emergency_off, periodic_report}
use Rattle.contract_rules.specs.Verdicts.{noted_over}
use Rattle.contract_table.specs.Dues.{dues_of, on_link}
use Rattle.contract_table.specs.Laws.{most_items}

-- ---- how many

one_at_most : (holds : Bool) (item : Item) → length (item_where holds item) ≤ 1
one_at_most true item = omega arith
one_at_most false item = omega arith

few_of_message : (verdict : Verdict) (mode : Bool) (message : Message) → length (due_of_message verdict mode message) ≤ 2
few_of_message Accepted mode (EmergencyRequest asked) = omega (arith, one_at_most mode (Report 9 (report_groups 0 (EmergencyRequest asked))))
few_of_message Accepted mode message = omega arith
few_of_message (Refused reason) mode message = omega arith
few_of_message Repeated mode message = omega arith
few_of_message verdict mode message = omega arith

few_of_fault : (verdict : Verdict) (fault : Fault) → length (due_of_fault verdict fault) ≤ 1
few_of_fault Unreadable fault = omega arith
few_of_fault verdict fault = omega arith

few_joined : (m n : ℕ) (one more : List Item) → length one ≤ m → length more ≤ n → length (one ++ more) ≤ m + n
few_joined m n one more few others = omega (arith, length-append one more, few, others)

few_of_sample : (profile : Profile) (limits : Option EventLimits) (samples : List Sample) (before now : Sample)
    → length (due_of_sample profile limits samples before now) ≤ 4
few_of_sample profile None samples before now = omega arith
few_of_sample profile (Some limits) samples before now =
    by (is_event_due profile Lateral limits samples now) (is_event_due profile VerticalRate limits samples now)
    (is_event_due profile Range limits samples now) (is_waypoint_due limits before now)
  where
    by : (a b c d : Bool)
        → length (item_where a (Report 10 no_groups) ++ item_where b (Report 18 earth_reference) ++ item_where c (Report 19 no_groups) ++ item_where d (Report 20 predicted_route)) ≤ 4
    by a b c d =
        let lateral = item_where a (Report 10 no_groups) in
        let rate = item_where b (Report 18 earth_reference) in
        let range = item_where c (Report 19 no_groups) in
        let waypoint = item_where d (Report 20 predicted_route) in
        few_joined 3 1 (lateral ++ rate ++ range) waypoint
        (few_joined 2 1 (lateral ++ rate) range
        (few_joined 1 1 lateral rate (one_at_most a (Report 10 no_groups)) (one_at_most b (Report 18 earth_reference)))
        (one_at_most c (Report 19 no_groups)))
        (one_at_most d (Report 20 predicted_route))

module _ (profile : Profile) (link time : ℕ) (admitted : Bool) (verdict : Verdict) (heard : List Noted) where
  abbrev noted : Act → Noted
  noted act = record { act = act; admits = admitted; verdict = verdict; time = time }

  few_at : (act : Act) → length (due_at profile link (noted act) heard) ≤ most_items act
  few_at (Said other message) = few_of_message verdict (is_in_emergency_mode (session_at admitted link heard) heard) message
  few_at (Malformed other fault) = few_of_fault verdict fault
  few_at (Moved before now) = few_of_sample profile (limits_in_force (session_of link heard)) (samples_since_acceptance heard) before now
  few_at (Ticked tick) =
      few_joined 1 1 (item_where (is_periodic_due link (noted (Ticked tick)) heard) (periodic_report link heard))
      (item_where (is_emergency_due link (noted (Ticked tick)) heard) (emergency_report (emergency_report_number link heard) link heard))
      (one_at_most (is_periodic_due link (noted (Ticked tick)) heard) (periodic_report link heard))
      (one_at_most (is_emergency_due link (noted (Ticked tick)) heard) (emergency_report (emergency_report_number link heard) link heard))
  few_at (Crew true) = one_at_most (is_emergency_due link (noted (Crew true)) heard) (emergency_report 0 link heard)
  few_at (Crew false) = one_at_most (is_emergency_off_due link (noted (Crew false)) heard) (emergency_off link heard)

pub few_items : (configuration : Configuration) (link : ℕ) (past : List Noted) (act : Act) → length (due_items configuration link past act) ≤ most_items act
few_items configuration link past act = by (noted_over configuration past act) refl (concerns link act)
  where
    by : (noted : Noted) → noted.act ≡ act → (hears : Bool) → length (cond hears (due_at configuration.profile link noted (heard_on link past)) []) ≤ most_items act
    by noted same true =
        subst (λ a. length (due_at configuration.profile link noted (heard_on link past)) ≤ most_items a) same
        (few_at configuration.profile link noted.time noted.admits noted.verdict (heard_on link past) noted.act)
    by noted same false = omega arith

-- ---- in what order

-- Dues on links from this one on, which never fall.
abbrev Rises : ℕ → List (ℕ × Item) → Type 0
Rises from [] = Unit {0}
Rises from (due ∷ dues) = (from ≤ due.0) × Rises due.0 dues

rises_on_link : (link : ℕ) (items : List Item) (dues : List (ℕ × Item)) → Rises link dues → Rises link (on_link link items ++ dues)
rises_on_link link [] dues rises = rises
rises_on_link link (item ∷ items) dues rises = (omega arith, rises_on_link link items dues rises)

rises_before : (low high : ℕ) (dues : List (ℕ × Item)) → low ≤ high → Rises high dues → Rises low dues
rises_before low high [] below rises = tt
rises_before low high (due ∷ dues) below rises = (omega (arith, below, rises.0), rises.1)

rises_each : (items : ℕ → List Item) (start count : ℕ) → Rises start (flat_map (λ link. on_link link (items link)) (range_with_len start count))
rises_each items start zero = tt
rises_each items start (suc count) =
    rises_on_link start (items start) (flat_map (λ link. on_link link (items link)) (range_with_len (start + 1) count))
    (rises_before start (start + 1) (flat_map (λ link. on_link link (items link)) (range_with_len (start + 1) count)) (omega arith) (rises_each items (start + 1) count))

rises_at : (from : ℕ) (dues : List (ℕ × Item)) → Rises from dues → (j : ℕ) (d : ℕ × Item) → j < length dues → from ≤ (get_or dues j d).0
rises_at from [] rises j d within = absurd (omega (arith, within))
rises_at from (due ∷ dues) rises zero d within = rises.0
rises_at from (due ∷ dues) rises (suc j) d within = omega (arith, rises.0, rises_at due.0 dues rises.1 j d (omega (arith, within)))

in_order : (from : ℕ) (dues : List (ℕ × Item)) → Rises from dues → IsNonDecreasingBy (λ (due : ℕ × Item). due.0) dues
in_order from [] rises i j d below within = absurd (omega (arith, within))
in_order from (due ∷ dues) rises zero zero d below within = omega arith
in_order from (due ∷ dues) rises zero (suc j) d below within = rises_at due.0 dues rises.1 j d (omega (arith, within))
in_order from (due ∷ dues) rises (suc i) zero d below within = absurd (omega (arith, below))
in_order from (due ∷ dues) rises (suc i) (suc j) d below within = in_order due.0 dues rises.1 i j d (omega (arith, below)) (omega (arith, within))

pub dues_in_order : (configuration : Configuration) (links : ℕ) (past : List Noted) (act : Act)
    → IsNonDecreasingBy (λ (due : ℕ × Item). due.0) (dues_of configuration links past act)
dues_in_order configuration links past act =
    in_order 0 (dues_of configuration links past act) (rises_each (λ link. due_items configuration link past act) 0 links)
