-- What a history of events comes to: the numbers of requests, and the centre's table (this project's profile).
use Rattle.std.specs.Prelude.{◌≡◌, ℕ, ◌+◌, ◌%◌, Bool, true, false, List, [], ◌∷◌}
use Rattle.std.specs.List.{list_any}
use Rattle.adsc_requests.specs.Contents.{number_of}
use Rattle.adsc_requests.specs.Kind.{kind_in}
use Rattle.adsc_requests.specs.declared.kind.Kind.{Kind}
use Rattle.adsc_requests.specs.declared.kind.Kind.TheVariants.{Demand, Periodic, Event, Emergency}
use Rattle.adsc_requests.specs.declared.message.Message.{Message}
use Rattle.centre_core.specs.Events.{CentreEvent, HearsContact}
use Rattle.centre_core.specs.Rows.{Effect, RequestSent, LoggedOn, row_behind}
use Rattle.centre_core.specs.Tables.{effect_of, row_if}
use Rattle.centre_core.specs.View.{CentreView}
use Rattle.centre_core.specs.declared.shown.Shown.{Shown}
use Rattle.centre_core.specs.declared.table.CentreTable.{CentreTable}

-- ---- behind effects, the newest first

-- How many requests were sent.
abbrev pub request_count : List Effect → ℕ
request_count [] = 0
request_count (RequestSent request ∷ past) = request_count past + 1
request_count (effect ∷ past) = request_count past

-- The k-th request that is sent has number ((k - 1) mod 255) + 1: numbers are 1 to 255, and then 1 again.
abbrev pub next_number : List Effect → ℕ
next_number past = request_count past % 255 + 1

-- The number of the last request that was sent; 0 where none was.
abbrev pub last_number : List Effect → ℕ
last_number [] = 0
last_number (RequestSent request ∷ past) = number_of request
last_number (effect ∷ past) = last_number past

-- Whether an effect logs the aircraft on.
abbrev pub is_logon : Effect → Bool
is_logon LoggedOn = true
is_logon effect = false

-- The table behind these effects.
abbrev pub table_behind : List Effect → CentreTable
table_behind past = record {
  logged_on = list_any is_logon past;
  last = last_number past;
  demand = row_behind Demand past;
  periodic = row_behind Periodic past;
  event = row_behind Event past;
  emergency = row_behind Emergency past;
}

-- ---- at the end of a history, the newest event first

-- What comes of each event of a history, by those before it.
abbrev pub effects : List CentreEvent → List Effect
effects [] = []
effects (event ∷ w) = effect_of event (next_number (effects w)) (table_behind (effects w)) ∷ effects w

-- The table at the end of a history.
abbrev pub table_at : List CentreEvent → CentreTable
table_at w = table_behind (effects w)

-- The row of a kind at the end of a history.
abbrev pub row_at : Kind → List CentreEvent → Shown
row_at kind w = row_behind kind (effects w)

-- The row of the kind that a request asks for, at the end of a history.
abbrev pub row_for : Message → List CentreEvent → Shown
row_for request w = row_if (kind_in request) (table_at w)

-- The number of the next request at the end of a history.
abbrev pub next_number_at : List CentreEvent → ℕ
next_number_at w = next_number (effects w)

-- Whether an event is a contact.
abbrev pub is_contact : CentreEvent → Bool
is_contact HearsContact = true
is_contact event = false

-- Whether a contact of the aircraft was heard.
abbrev pub was_contacted : List CentreEvent → Bool
was_contacted w = list_any is_contact w

-- A centre stands for a history where its table is that at the end of it: its four rows, the number of its last request, and
-- whether its aircraft is logged on.
abbrev pub StandsFor : CentreView → List CentreEvent → Type 0
StandsFor centre w = centre.table ≡ table_at w

-- A fact of the history that a centre stands for, whichever it is.
abbrev pub InHistory : CentreView → (List CentreEvent → Type 0) → Type 0
InHistory centre fact = (w : List CentreEvent) → StandsFor centre w → fact w
