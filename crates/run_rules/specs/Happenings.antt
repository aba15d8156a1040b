-- What happens in a script, and what comes of it: the entries of the aircraft's journal, the refused texts, and at each centre its
-- history and its messages. Messages and entries are those of RTCA DO-258A / EUROCAE ED-100A; a script is this project's profile.
use Rattle.std.specs.Prelude.{ℕ, Bool, false, ◌==◌, cond, List, [], ◌∷◌, ◌++◌}
use Rattle.std.specs.List.{list_any}
use Rattle.adsc_requests.specs.declared.message.Message.{Message}
use Rattle.afn_logon.specs.Contents.{ContactData}
use Rattle.aircraft_core.specs.declared.entry.Entry.{Entry}
use Rattle.aircraft_core.specs.declared.entry.Entry.TheVariants as entry
use Rattle.centre_core.specs.Events.{CentreEvent, Asks, Cancels, CancelsAll}
use Rattle.centre_core.specs.Heard.{with_heard}
use Rattle.centre_core.specs.Hearing.{Hearing, Greets}
use Rattle.net_script.specs.declared.line.Cancel.{Cancel}
use Rattle.net_script.specs.declared.line.Cancel.TheVariants.{Of, EmergencyMode, All}
use Rattle.run_rules.specs.declared.refused.RefusedLine.{RefusedLine}

-- Something that happens at a line. A log is a list of happenings, the newest first. A centre is named by the link to its address.
pub data Happening : Type 0 where
  -- the line itself makes this entry of the journal
  Entered : Entry → Happening
  -- the text of a line is refused
  Refused : RefusedLine → Happening
  -- at this line this centre asks by this request, which has its number
  Asked : ℕ → ℕ → Message → Happening
  -- at this line this centre cancels so, by this message
  Cancelled : ℕ → ℕ → Cancel → Message → Happening
  -- this centre's message at this place, counted from 1, is brought to the aircraft, as this entry of the journal
  Brought : ℕ → ℕ → Entry → Happening
  -- at this line this link's downlink at this place, counted from 1, is brought to its centre, to which it says this
  Heard : ℕ → ℕ → ℕ → Hearing → Happening

-- What a centre sends: a message, or the answer to a contact.
pub data Carried : Type 0 where
  Carries : Message → Carried
  Answers : ContactData → Carried

-- What a centre sent, and the line at which it did.
pub record SentMessage : Type 0 where
  pub line : ℕ
  pub carried : Carried

-- What the happenings of a log tell one by one, the oldest first.
abbrev pub gathered : {A : Type 0} → (Happening → List A) → List Happening → List A
gathered told [] = []
gathered told (happening ∷ log) = gathered told log ++ told happening

-- ---- the journal and the refused texts

-- The entry that a happening makes.
abbrev pub entry_in : Happening → List Entry
entry_in (Entered made) = made ∷ []
entry_in (Brought link place made) = made ∷ []
entry_in happening = []

-- The entries of a log, in the order of their lines.
abbrev pub entries : List Happening → List Entry
entries log = gathered entry_in log

-- The refused text that a happening is.
abbrev pub refused_in : Happening → List RefusedLine
refused_in (Refused refused) = refused ∷ []
refused_in happening = []

-- The refused texts of a log, in the order of their lines.
abbrev pub refused_lines : List Happening → List RefusedLine
refused_lines log = gathered refused_in log

-- ---- roles

-- Whether an entry is a text that was taken on this link: an uplink or an answer.
abbrev pub is_text_on : ℕ → Entry → Bool
is_text_on link (entry.Uplink line other bytes) = link == other
is_text_on link (entry.Answer line other code) = link == other
is_text_on link made = false

-- Whether a happening makes an address raw: a text from it was taken.
abbrev pub makes_raw : ℕ → Happening → Bool
makes_raw link (Entered made) = is_text_on link made
makes_raw link happening = false

-- Whether a happening makes an address a centre's: the centre asks, cancels, sends or hears.
abbrev pub makes_centre : ℕ → Happening → Bool
makes_centre link (Asked line other request) = link == other
makes_centre link (Cancelled line other cancel message) = link == other
makes_centre link (Brought other place made) = link == other
makes_centre link (Heard line other place hearing) = link == other
makes_centre link happening = false

-- Whether the address of a link is raw.
abbrev pub is_raw : ℕ → List Happening → Bool
is_raw link log = list_any (makes_raw link) log

-- Whether the address of a link is a centre's.
abbrev pub is_centre : ℕ → List Happening → Bool
is_centre link log = list_any (makes_centre link) log

-- ---- centres

-- The history of a centre after it cancels so: a cancel of emergency mode is no event, since it changes no row.
abbrev pub with_cancel : Cancel → List CentreEvent → List CentreEvent
with_cancel (Of kind) w = Cancels kind ∷ w
with_cancel EmergencyMode w = w
with_cancel All w = CancelsAll ∷ w

-- The history of a centre after a happening.
abbrev pub with_happening : ℕ → Happening → List CentreEvent → List CentreEvent
with_happening link (Asked line other request) w = cond (link == other) (Asks request ∷ w) w
with_happening link (Cancelled line other cancel message) w = cond (link == other) (with_cancel cancel w) w
with_happening link (Heard line other place hearing) w = cond (link == other) (with_heard hearing w) w
with_happening link happening w = w

-- The history of a centre, the newest event first.
abbrev pub history : ℕ → List Happening → List CentreEvent
history link [] = []
history link (happening ∷ log) = with_happening link happening (history link log)

-- What a centre sends when it hears this at this line: a contact is answered.
abbrev pub answer_sent : ℕ → Hearing → List SentMessage
answer_sent line (Greets contact) = record { line = line; carried = Answers contact } ∷ []
answer_sent line hearing = []

-- What a centre sends at a happening.
abbrev pub sent_in : ℕ → Happening → List SentMessage
sent_in link (Asked line other request) = cond (link == other) (record { line = line; carried = Carries request } ∷ []) []
sent_in link (Cancelled line other cancel message) = cond (link == other) (record { line = line; carried = Carries message } ∷ []) []
sent_in link (Heard line other place hearing) = cond (link == other) (answer_sent line hearing) []
sent_in link happening = []

-- What a centre sent, the first message first.
abbrev pub sent_messages : ℕ → List Happening → List SentMessage
sent_messages link log = gathered (sent_in link) log
