-- The laws of the definitions, as statements.
use Rattle.std.specs.Prelude.{◌≡◌, ℕ, ◌≤◌, Bool, true, false, cond, ◌==◌, nat_eq, nat_lt, List, [], ◌∷◌, map, filter, length, Option, Some, None}
use Rattle.std.specs.Bool.{Decides}
use Rattle.std.specs.List.{list_all, IsDistinct}
use Rattle.contract_rules.specs.Configuration.{Configuration, max_live_links}
use Rattle.contract_rules.specs.Messages.{Message, Kind, same_message}
use Rattle.contract_rules.specs.Acts.{Act, Said, Malformed, Fault, concerns}
use Rattle.contract_rules.specs.LiveLinks.{Noted, live_links, is_live, admits, time_after, heard_on, session_of}
use Rattle.contract_rules.specs.InForce.{in_force}
use Rattle.contract_rules.specs.Periodic.{periodic_report_number}
use Rattle.contract_rules.specs.Events.{samples_since_acceptance}
use Rattle.contract_rules.specs.Emergency.{is_crew_emergency, is_in_emergency_mode, emergency_anchor, emergency_report_number}
use Rattle.contract_rules.specs.Verdicts.{noted_over, past_of}
use Rattle.contract_rules.specs.Due.{Item, due_items}

-- The computing equality of messages is equality.
abbrev pub SameMessageIsEquality : Type 0
SameMessageIsEquality = (one other : Message) → Decides (same_message one other) (one ≡ other)

-- ---- what changes nothing

-- Whether an act is of this link: its message or its malformed payload.
abbrev pub is_of : ℕ → Act → Bool
is_of link (Said other message) = link == other
is_of link (Malformed other fault) = link == other
is_of link _ = false

-- A malformed payload, on whatever link, leaves the live links as they were, and each link's contracts in force.
abbrev pub MalformedChangesNoContract : Type 0
MalformedChangesNoContract =
    (configuration : Configuration) (past : List Noted) (source link : ℕ) (fault : Fault) (kind : Kind)
    → (live_links (noted_over configuration past (Malformed source fault) ∷ past) ≡ live_links past)
    × (in_force kind (session_of link (heard_on link (noted_over configuration past (Malformed source fault) ∷ past)))
    ≡ in_force kind (session_of link (heard_on link past)))

-- What later verdicts rest on, and later reports are timed and numbered by: after these acts and after those a link is
-- alike in all of it. The samples since acceptance say which limits are spent.
pub record SameStanding (link : ℕ) (one other : List Noted) : Type 0 where
  pub live : is_live link one ≡ is_live link other
  pub contracts : (kind : Kind) → in_force kind (session_of link one) ≡ in_force kind (session_of link other)
  pub crew : is_crew_emergency one ≡ is_crew_emergency other
  pub mode : is_in_emergency_mode (session_of link one) one ≡ is_in_emergency_mode (session_of link other) other
  pub anchor : emergency_anchor link one ≡ emergency_anchor link other
  pub emergency_number : emergency_report_number link one ≡ emergency_report_number link other
  pub periodic_number : periodic_report_number link one ≡ periodic_report_number link other
  pub samples : samples_since_acceptance one ≡ samples_since_acceptance other
  pub time : time_after one ≡ time_after other

-- A malformed payload leaves all else as it was too, on each link.
abbrev pub MalformedChangesNothing : Type 0
MalformedChangesNothing =
    (configuration : Configuration) (past : List Noted) (source link : ℕ) (fault : Fault)
    → SameStanding link (heard_on link (noted_over configuration past (Malformed source fault) ∷ past)) (heard_on link past)

-- An act of a link that is neither live nor admitted by it gets no answer, and changes nothing on any link.
abbrev pub UnheardChangesNothing : Type 0
UnheardChangesNothing =
    (configuration : Configuration) (past : List Noted) (act : Act) (source link : ℕ)
    → is_of source act ≡ true → is_live source past ≡ false → admits configuration past act ≡ false
    → (due_items configuration link past act ≡ [])
    × (live_links (noted_over configuration past act ∷ past) ≡ live_links past)
    × SameStanding link (heard_on link (noted_over configuration past act ∷ past)) (heard_on link past)

-- ---- links

-- At most five links are live, each of them once in the list, with and without a kept connection.
abbrev pub AtMostFiveLive : Type 0
AtMostFiveLive =
    (configuration : Configuration) (acts : List Act)
    → (length (live_links (past_of configuration acts)) ≤ max_live_links)
    × IsDistinct nat_eq (live_links (past_of configuration acts))

-- What a link hears of acts (the newest first): the acts that concern it, each with whether it admits the link.
abbrev pub heard_by : Configuration → ℕ → List Act → List (Act × Bool)
heard_by configuration link acts = map (λ noted. (noted.act, noted.admits)) (heard_on link (past_of configuration acts))

-- What is due on a link at each of the acts (the newest first) that it hears of.
abbrev pub dues_of : Configuration → ℕ → List Act → List (List Item)
dues_of configuration link [] = []
dues_of configuration link (act ∷ acts) =
    cond (concerns link act) (due_items configuration link (past_of configuration acts) act ∷ dues_of configuration link acts)
    (dues_of configuration link acts)

-- What is due on a link depends on other links, and on a kept connection, through admissions alone: where two histories in
-- one profile agree in the link's own and the flight's acts, and the same requests admit the link, the same items are due
-- on it.
abbrev pub LinksAreIndependent : Type 0
LinksAreIndependent =
    (link : ℕ) (one other : Configuration) (acts others : List Act)
    → one.profile ≡ other.profile
    → heard_by one link acts ≡ heard_by other link others
    → (heard_on link (past_of one acts) ≡ heard_on link (past_of other others))
    × (dues_of one link acts ≡ dues_of other link others)

-- Whether an act is the flight's, or of one of so many links, counted from 0.
abbrev pub is_of_links : ℕ → Act → Bool
is_of_links links (Said link message) = nat_lt link links
is_of_links links (Malformed link fault) = nat_lt link links
is_of_links links _ = true

-- Whether an act is the flight's, or of one of the first five links.
abbrev pub is_of_first_links : Act → Bool
is_of_first_links act = is_of_links max_live_links act

-- No connection is kept, or one for one of the first five links.
abbrev pub is_kept_for_first_links : Option ℕ → Bool
is_kept_for_first_links None = true
is_kept_for_first_links (Some kept) = nat_lt kept max_live_links

-- With at most five links what is due on a link depends on its own and the flight's acts alone.
abbrev pub FiveLinksAreIndependent : Type 0
FiveLinksAreIndependent =
    (link : ℕ) (one other : Configuration) (acts others : List Act)
    → one.profile ≡ other.profile
    → is_kept_for_first_links one.kept ≡ true → is_kept_for_first_links other.kept ≡ true
    → list_all is_of_first_links acts ≡ true → list_all is_of_first_links others ≡ true
    → filter (concerns link) acts ≡ filter (concerns link) others
    → (heard_on link (past_of one acts) ≡ heard_on link (past_of other others))
    × (dues_of one link acts ≡ dues_of other link others)
