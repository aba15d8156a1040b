-- The words of worked histories.
use Rattle.std.specs.Prelude.{◌≡◌, ℕ, Bool, true, false, List, [], ◌∷◌, map, Option, Some, None, ℤ, pos}
use Rattle.contract_rules.specs.Configuration.{Configuration, ProfileOne, ProfileTwo}
use Rattle.contract_rules.specs.Messages.{Message, PeriodicRequest, EventRequest, EmergencyRequest}
use Rattle.contract_rules.specs.Acts.{Act, Said, Malformed, Moved, Ticked, Crew, Sample}
use Rattle.contract_rules.specs.Due.{Item, Acknowledgement, NegativeAcknowledgement, Report, history_items}

-- ---- histories

-- A worked history of a link: for each entry its acts, the oldest first, and what is due on the link at it.
abbrev pub History : Type 0
History = List (List Act × List Item)

-- The history comes out so on the link, in this configuration.
abbrev pub IsWorked : Configuration → ℕ → History → Type 0
IsWorked configuration link history =
    history_items configuration link [] (map (λ step. step.0) history) ≡ map (λ step. step.1) history

-- Profile 1, with no connection kept.
abbrev pub profile_one : Configuration
profile_one = record { profile = ProfileOne; kept = None }

-- Profile 2, with no connection kept.
abbrev pub profile_two : Configuration
profile_two = record { profile = ProfileTwo; kept = None }

-- Profile 1, with a connection kept for this link.
abbrev pub kept_for : ℕ → Configuration
kept_for link = record { profile = ProfileOne; kept = Some link }

-- ---- entries

-- A message of a link.
abbrev pub says : ℕ → Message → List Act
says link message = Said link message ∷ []

-- A tick of the clock.
abbrev pub ticks : ℕ → List Act
ticks tick = Ticked tick ∷ []

-- A new sample, after the one before it.
abbrev pub moves : Sample → Sample → List Act
moves before now = Moved before now ∷ []

-- A malformed payload of a link: reason, number, octet.
abbrev pub malformed : ℕ → ℕ → ℕ → ℕ → List Act
malformed link reason number octet = Malformed link (record { reason = reason; number = number; octet = octet }) ∷ []

-- The crew switches emergency on or off.
abbrev pub crew : Bool → List Act
crew on = Crew on ∷ []

-- ---- messages

-- No group is asked for.
abbrev pub no_moduli : List (Option ℕ)
no_moduli = None ∷ None ∷ None ∷ None ∷ None ∷ None ∷ []

-- The predicted route is asked for with each second report.
abbrev pub route_each_second : List (Option ℕ)
route_each_second = None ∷ Some 2 ∷ None ∷ None ∷ None ∷ None ∷ []

-- A demand of this number.
abbrev pub demand : ℕ → Message
demand number = PeriodicRequest (record { number = number; interval = None; moduli = no_moduli; intent = None })

-- A periodic request of this number, interval octet and moduli.
abbrev pub periodic : ℕ → ℕ → List (Option ℕ) → Message
periodic number octet moduli = PeriodicRequest (record { number = number; interval = Some octet; moduli = moduli; intent = None })

-- An emergency periodic request of this number, interval octet if it has one, and moduli.
abbrev pub emergency : ℕ → Option ℕ → List (Option ℕ) → Message
emergency number octet moduli = EmergencyRequest (record { number = number; interval = octet; moduli = moduli; intent = None })

-- An event request of this number for a lateral deviation.
abbrev pub lateral_event : ℕ → ℕ → Message
lateral_event number threshold =
    EventRequest number (record { lateral = Some threshold; vertical_rate = None; range = None; waypoint = false })

-- An event request of this number for a vertical rate.
abbrev pub vertical_rate_event : ℕ → ℤ → Message
vertical_rate_event number threshold =
    EventRequest number (record { lateral = None; vertical_rate = Some threshold; range = None; waypoint = false })

-- An event request of this number for an altitude range.
abbrev pub altitude_event : ℕ → ℤ → ℤ → Message
altitude_event number ceiling floor =
    EventRequest number (record { lateral = None; vertical_rate = None; range = Some (record { ceiling = ceiling; floor = floor }); waypoint = false })

-- An event request of this number for waypoint changes.
abbrev pub waypoint_event : ℕ → Message
waypoint_event number =
    EventRequest number (record { lateral = None; vertical_rate = None; range = None; waypoint = true })

-- ---- samples, of zeros but for what is said

-- At this cross-track distance.
abbrev pub off_track : ℤ → Sample
off_track distance =
    record { cross_track = distance; vertical_rate = pos 0; altitude = pos 0; waypoint_latitude = pos 0; waypoint_longitude = pos 0 }

-- At this vertical rate.
abbrev pub climbing : ℤ → Sample
climbing rate =
    record { cross_track = pos 0; vertical_rate = rate; altitude = pos 0; waypoint_latitude = pos 0; waypoint_longitude = pos 0 }

-- At this altitude.
abbrev pub at_altitude : ℤ → Sample
at_altitude altitude =
    record { cross_track = pos 0; vertical_rate = pos 0; altitude = altitude; waypoint_latitude = pos 0; waypoint_longitude = pos 0 }

-- With this active waypoint.
abbrev pub towards : ℤ → ℤ → Sample
towards latitude longitude =
    record { cross_track = pos 0; vertical_rate = pos 0; altitude = pos 0; waypoint_latitude = latitude; waypoint_longitude = longitude }

-- A sample of zeros.
abbrev pub level_flight : Sample
level_flight = off_track (pos 0)

-- ---- what is due

-- Nothing is due.
abbrev pub nothing : List Item
nothing = []

-- One item is due.
abbrev pub only : Item → List Item
only item = item ∷ []

-- An acknowledgement alone.
abbrev pub acknowledged : ℕ → List Item
acknowledged number = only (Acknowledgement number)

-- A refusal of a message of this number, for this reason.
abbrev pub refused : ℕ → ℕ → List Item
refused number reason = only (NegativeAcknowledgement number reason 0)

-- The groups of a report, for tags 12 to 17 in turn: none; the predicted route alone; the earth reference alone.
abbrev pub without_groups : List Bool
without_groups = false ∷ false ∷ false ∷ false ∷ false ∷ false ∷ []

abbrev pub with_route : List Bool
with_route = false ∷ true ∷ false ∷ false ∷ false ∷ false ∷ []

abbrev pub with_earth_reference : List Bool
with_earth_reference = false ∷ false ∷ true ∷ false ∷ false ∷ false ∷ []

-- What is due at an accepted demand of number 1 without groups.
abbrev pub demanded : List Item
demanded = Acknowledgement 1 ∷ Report 7 without_groups ∷ []
