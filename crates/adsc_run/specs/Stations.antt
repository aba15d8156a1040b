-- What the station of a link is at the end of a log (this project's profile).
use Rattle.std.specs.Prelude.{◌≡◌, ℕ, Bool, true, false, List, [], ◌∷◌, ◌++◌, map, Option, Some, None, if◌then◌else◌}
use Rattle.aircraft_core.specs.Setting.{Setting, address_of}
use Rattle.centre_core.specs.Histories.{StandsFor}
use Rattle.centre_core.specs.declared.heard.Heard.{Heard}
use Rattle.centre_core.specs.declared.heard.Heard.TheVariants as heard
use Rattle.net_script.specs.declared.refusal.Code.{Code}
use Rattle.run_rules.specs.Happenings.{Happening, Carried, Carries, Answers, SentMessage, history, is_centre, is_raw, sent_messages}
use Rattle.run_rules.specs.Stages.{Step, does, stops}
use Rattle.run_rules.specs.declared.end.End.{End}
use Rattle.run_rules.specs.declared.end.End.TheVariants.{Bad}
use Rattle.adsc_run.specs.declared.carried.SentText.{SentText}
use Rattle.adsc_run.specs.declared.carried.SentText.TheVariants as texts
use Rattle.adsc_run.specs.declared.outcome.CentreRow.{CentreRow}
use Rattle.adsc_run.specs.declared.station.Role.{Role}
use Rattle.adsc_run.specs.declared.station.Role.TheVariants.{Raw, Centre}
use Rattle.adsc_run.specs.declared.station.Station.{Station}

-- Whether an address of this role is raw, and whether it is a centre's.
abbrev pub is_raw_role : Role → Bool
is_raw_role Raw = true
is_raw_role role = false

abbrev pub is_centre_role : Role → Bool
is_centre_role Centre = true
is_centre_role role = false

-- What a centre sends, as the station keeps it.
abbrev pub text_of : Carried → SentText
text_of (Carries asked) = texts.Message asked
text_of (Answers contact) = texts.Answer

-- A message that was sent, as the station keeps it.
abbrev pub text_sent : SentMessage → SentText
text_sent sent = text_of sent.carried

-- The station is that of this link at the end of the log: its address, its role, its centre, which stands for its history, and what it sent.
pub record StationStands (setting : Setting) (link : ℕ) (log : List Happening) (station : Station) : Type 0 where
  pub listed : station.address ≡ address_of setting link
  pub raw : is_raw_role station.role ≡ is_raw link log
  pub centre : is_centre_role station.role ≡ is_centre link log
  pub address : station.centre.address ≡ address_of setting link
  pub registration : station.centre.registration ≡ setting.registration
  pub stands : StandsFor station.centre (history link log)
  pub sent : station.sent.items ≡ map text_sent (sent_messages link log)

-- What a centre sends when it answers so: the answer to a contact.
abbrev pub answers_to : Heard → List SentText
answers_to (heard.Contact sent) = texts.Answer ∷ []
answers_to answer = []

-- The end of a run at a bad line.
abbrev pub ends_bad : ℕ → Code → ℕ → End
ends_bad line found value = Bad (record { line = line; code = found; value = value })

-- The station did the step of this line, or the run ends with it.
abbrev pub StationDid : Step → ℕ → Setting → ℕ → List Happening → Station → Option End → Type 0
StationDid (does happenings) line setting link log now None = StationStands setting link (happenings ++ log) now
StationDid (stops found value) line setting link log now (Some end) = (end ≡ ends_bad line found value) × StationStands setting link log now
StationDid step line setting link log now ended = ⊥

-- The row of a station, if it is a centre's.
abbrev pub row_of : Station → Option CentreRow
row_of station = if is_centre_role station.role then Some (record { address = station.address; centre = station.centre }) else None

-- The rows that a station gives: one, if it is a centre's.
abbrev pub rows_of : Station → List CentreRow
rows_of station = if is_centre_role station.role then record { address = station.address; centre = station.centre } ∷ [] else []
