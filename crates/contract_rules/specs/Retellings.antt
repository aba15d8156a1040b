-- Where a definition is a short way to say a rule: the rule in its own words, and that both say the same.
use Rattle.std.specs.Prelude.{◌≡◌, ◌↔◌, ◌++◌, ℕ, ◌+◌, Bool, true, false, cond, not, ◌&&◌, List, [], ◌∷◌, filter_map, Some}
use Rattle.std.specs.List.{list_all}
use Rattle.contract_rules.specs.Messages.{Kind, Periodic, Event, Emergency}
use Rattle.contract_rules.specs.Acts.{Act, Ticked, Crew, is_said_on, is_cancel_all, is_crew_act, sample_of}
use Rattle.contract_rules.specs.LookingBack.{Test}
use Rattle.contract_rules.specs.LiveLinks.{Noted, is_live, admits_link, session_of}
use Rattle.contract_rules.specs.InForce.{Contract, contract_made, accepts, cancels, in_force}
use Rattle.contract_rules.specs.Periodic.{is_periodic_due, periodic_report_number}
use Rattle.contract_rules.specs.Events.{samples_since_acceptance}
use Rattle.contract_rules.specs.Emergency.{is_in_emergency_mode, emergency_anchor, is_emergency_due, is_emergency_off_due, emergency_report_number}

-- How many of the newer acts count, where the older acts came before them.
abbrev pub count_since : {A : Type 0} → Test A → List A → List A → ℕ
count_since counts [] older = 0
count_since counts (act ∷ newer) older = count_since counts newer older + cond (counts act (newer ++ older)) 1 0

-- ---- live links

-- Whether an act ends the session of this link: it is its cancel-all.
abbrev pub ends_session : ℕ → Act → Bool
ends_session link act = is_cancel_all act && is_said_on link act

-- In a past an act admitted the link, and no cancel-all of the link came after it.
pub record AdmittedSince (link : ℕ) (past : List Noted) : Type 0 where
  pub newer : List Noted
  pub act : Noted
  pub older : List Noted
  pub split : past ≡ newer ++ act ∷ older
  pub admitted : admits_link link act ≡ true
  pub not_ended : list_all (λ noted. not (ends_session link noted.act)) newer ≡ true

-- A link is live exactly where an act admitted it and no cancel-all of the link came after.
abbrev pub LiveSinceAdmission : Type 0
LiveSinceAdmission = (link : ℕ) (past : List Noted) → (is_live link past ≡ true) ↔ AdmittedSince link past

-- ---- contracts in force

-- In a session an act made the contract, and no later act made another of its kind or was an accepted cancel of its number.
pub record MadeAndNotEnded (kind : Kind) (session : List Noted) (contract : Contract) : Type 0 where
  pub newer : List Noted
  pub act : Noted
  pub older : List Noted
  pub split : session ≡ newer ++ act ∷ older
  pub made : contract_made kind act ≡ Some contract
  pub no_other : list_all (λ noted. not (accepts kind noted)) newer ≡ true
  pub not_cancelled : list_all (λ noted. not (cancels (Some contract) noted)) newer ≡ true

-- A contract is in force exactly where it was made in the session, and neither replaced nor cancelled after.
abbrev pub InForceSinceAcceptance : Type 0
InForceSinceAcceptance =
    (kind : Kind) (session : List Noted) (contract : Contract)
    → (in_force kind (Some session) ≡ Some contract) ↔ MadeAndNotEnded kind session contract

-- What a link heard, split at the act that made the contract in force: later acts make no other of its kind, and this
-- contract was in force before each of them.
pub record InForceSince (kind : Kind) (link : ℕ) (heard : List Noted) (contract : Contract) : Type 0 where
  pub newer : List Noted
  pub act : Noted
  pub older : List Noted
  pub split : heard ≡ newer ++ act ∷ older
  pub made : contract_made kind act ≡ Some contract
  pub no_other : list_all (λ noted. not (accepts kind noted)) newer ≡ true
  pub meanwhile : (later earlier : List Noted) → newer ≡ later ++ earlier
      → in_force kind (session_of link (earlier ++ act ∷ older)) ≡ Some contract

-- What a link heard splits at the act that made the contract in force.
abbrev pub InForceSplits : Type 0
InForceSplits =
    (kind : Kind) (link : ℕ) (heard : List Noted) (contract : Contract)
    → in_force kind (session_of link heard) ≡ Some contract → InForceSince kind link heard contract

-- ---- series of reports

-- Whether an act is a tick.
abbrev pub is_tick : Act → Bool
is_tick (Ticked tick) = true
is_tick _ = false

-- The next report of the periodic contract in force has the number of the reports before it: one at acceptance, and
-- one at each tick since at which one fell due.
abbrev pub PeriodicReportsSinceAcceptance : Type 0
PeriodicReportsSinceAcceptance =
    (link : ℕ) (heard : List Noted) (contract : Contract) (since : InForceSince Periodic link heard contract)
    → periodic_report_number link heard
    ≡ count_since (λ noted before. is_tick noted.act && is_periodic_due link noted before) since.newer
    (since.act ∷ since.older) + 1

-- The samples since acceptance are those after the act that made the event contract in force.
abbrev pub SamplesSinceAcceptance : Type 0
SamplesSinceAcceptance =
    (link : ℕ) (heard : List Noted) (contract : Contract) (since : InForceSince Event link heard contract)
    → samples_since_acceptance heard ≡ filter_map (λ noted. sample_of noted.act) since.newer

-- ---- emergency-off

-- Emergency-off falls due on a link exactly at a crew act off, where the link is in emergency mode.
abbrev pub EmergencyOffAtCrewOff : Type 0
EmergencyOffAtCrewOff =
    (link : ℕ) (noted : Noted) (heard : List Noted)
    → (is_emergency_off_due link noted heard ≡ true)
    ↔ ((noted.act ≡ Crew false) × (is_in_emergency_mode (session_of link heard) heard ≡ true))

-- ---- the anchor of emergency reports

-- The four acts that the rule names, for a live link that heard the newer acts, this one, and the older ones before it: the
-- last crew act; the admission of its session; the acceptance of the emergency contract in force; and, in its session, an
-- accepted cancel of an emergency contract.
pub data IsNamedByRule (link : ℕ) (newer : List Noted) (act : Noted) (older : List Noted) : Type 0 where
  last_crew_act : is_crew_act act.act ≡ true
      → list_all (λ noted. not (is_crew_act noted.act)) newer ≡ true → IsNamedByRule link newer act older
  admission : admits_link link act ≡ true
      → list_all (λ noted. not (admits_link link noted)) newer ≡ true → IsNamedByRule link newer act older
  acceptance : (contract : Contract) → contract_made Emergency act ≡ Some contract
      → list_all (λ noted. not (accepts Emergency noted)) newer ≡ true
      → in_force Emergency (session_of link (newer ++ act ∷ older)) ≡ Some contract
      → IsNamedByRule link newer act older
  cancel : (contract : Contract) → in_force Emergency (session_of link older) ≡ Some contract
      → cancels (Some contract) act ≡ true
      → (earlier : List Noted) → session_of link (newer ++ act ∷ older) ≡ Some (newer ++ act ∷ earlier)
      → IsNamedByRule link newer act older

-- The anchor of a live link is the latest of these acts. The next emergency report has the number of those that fell due
-- at the anchor or after it.
pub record LatestAnchor (link : ℕ) (heard : List Noted) : Type 0 where
  pub newer : List Noted
  pub act : Noted
  pub older : List Noted
  pub split : heard ≡ newer ++ act ∷ older
  pub is_latest : emergency_anchor link heard ≡ Some act
  pub named : IsNamedByRule link newer act older
  pub none_later : (later : List Noted) (other : Noted) (earlier : List Noted) → newer ≡ later ++ other ∷ earlier
      → IsNamedByRule link later other (earlier ++ act ∷ older) → ⊥
  pub number : emergency_report_number link heard
      ≡ count_since (is_emergency_due link) newer (act ∷ older) + cond (is_emergency_due link act older) 1 0

-- Each live link has such an anchor.
abbrev pub AnchorIsLatest : Type 0
AnchorIsLatest = (link : ℕ) (heard : List Noted) → is_live link heard ≡ true → LatestAnchor link heard
