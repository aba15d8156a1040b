-- What `watch` writes of a ground log, as bytes. Its form is this project's profile; numbers are decimal, and each line ends with a newline.
use Rattle.std.specs.Prelude.{◌≡◌, ℕ, ◌+◌, List, [], ◌∷◌, ◌++◌, codes, flat_map, Option, Some, None, if◌then◌else◌}
use Rattle.adsc_io.specs.Lines.{ended}
use Rattle.adsc_requests.specs.declared.kind.Kind.{Kind}
use Rattle.adsc_requests.specs.declared.kind.Kind.TheVariants.{Demand, Periodic, Event, Emergency}
use Rattle.centre_core.specs.Events.{CentreEvent}
use Rattle.centre_core.specs.Hearing.{Hearing, Ignores, Greets, Tells}
use Rattle.centre_core.specs.Histories.{row_at}
use Rattle.centre_core.specs.Sending.{greeting_text, message_text}
use Rattle.centre_core.specs.View.{CentreView}
use Rattle.ground_rules.specs.GroundHappenings.{GroundHappening, Ticked, Did, Names, at_start, centre_at, events_at, past_of}
use Rattle.ground_rules.specs.GroundReadings.{GroundLog, IsGroundLog}
use Rattle.ground_rules.specs.Walks.{GroundStage, begun, named, watching, Walked, no_restart, walk}
use Rattle.ground_rules.specs.Watching.{WatchEvent, Ticks, is_late, late}
use Rattle.output_fields.specs.Fields.{number_field}
use Rattle.run_rules.specs.Happenings.{Happening, Asked, Cancelled, Heard}
use Rattle.run_rules.specs.Output.{bad_line, row_line}
use Rattle.run_rules.specs.declared.end.End.{End}
use Rattle.run_rules.specs.declared.end.End.TheVariants.{Done, Bad, Limit}

-- ---- lines

-- A centre sends a text: `S`, the line's number, the text.
abbrev pub sent_line : ℕ → List ℕ → List ℕ
sent_line number text = ended (codes "S" ++ (number_field number ++ (codes "," ++ text)))

-- A text is ignored: `I`, the line's number.
abbrev pub ignored_line : ℕ → List ℕ
ignored_line number = ended (codes "I" ++ number_field number)

-- A report is late, by so many seconds: `LATE`, the line's number, the address, the seconds.
abbrev pub late_line : ℕ → List ℕ → ℕ → List ℕ
late_line number address seconds = ended (codes "LATE" ++ (number_field number ++ (codes "," ++ (address ++ number_field seconds))))

-- ---- what a line writes

-- By how many seconds the report is late where this tick rings; a report that was late before doesn't ring.
abbrev pub rung : ℕ → ℕ → List WatchEvent → Option ℕ
rung grace t past = if is_late at_start grace past then None else late at_start grace (Ticks t ∷ past)

abbrev pub late_text : ℕ → List ℕ → Option ℕ → List ℕ
late_text number address None = []
late_text number address (Some seconds) = late_line number address seconds

-- The lines of those of these addresses, of which the first has this place, whose watcher rings at this tick.
abbrev pub late_lines : ℕ → ℕ → ℕ → List GroundHappening → ℕ → List (List ℕ) → List ℕ
late_lines grace number t log link [] = []
late_lines grace number t log link (address ∷ addresses) =
    late_text number address (rung grace t (past_of link log)) ++ late_lines grace number t log (link + 1) addresses

-- What a text makes its centre send or ignore.
abbrev pub heard_lines : CentreView → ℕ → Hearing → List ℕ
heard_lines centre number (Ignores why) = ignored_line number
heard_lines centre number (Greets contact) = sent_line number (greeting_text centre contact)
heard_lines centre number (Tells items) = []

-- The lines of what happens at a centre.
abbrev pub lines_of : Names → Happening → List GroundHappening → List ℕ
lines_of names (Asked number link request) log = sent_line number (message_text (centre_at names link log) request)
lines_of names (Cancelled number link cancel message) log = sent_line number (message_text (centre_at names link log) message)
lines_of names (Heard number link place hearing) log = heard_lines (centre_at names link log) number hearing
lines_of names happening log = []

-- The lines of a happening.
abbrev pub happening_lines : ℕ → Names → GroundHappening → List GroundHappening → List ℕ
happening_lines grace names (Ticked number t) log = late_lines grace number t log 0 names.addresses
happening_lines grace names (Did happening) log = lines_of names happening log

-- What is written of a log, the oldest happening first.
abbrev pub written : ℕ → Names → List GroundHappening → List ℕ
written grace names [] = []
written grace names (happening ∷ log) = written grace names log ++ happening_lines grace names happening log

-- ---- the end

-- The line of a row of this kind, in the history of the centre at this address.
abbrev pub row_line_in : List ℕ → List CentreEvent → Kind → List ℕ
row_line_in address w kind = row_line address kind (row_at kind w)

-- The four lines of a centre.
abbrev pub row_lines : List ℕ → List CentreEvent → List ℕ
row_lines address w = flat_map (row_line_in address w) (Demand ∷ Periodic ∷ Event ∷ Emergency ∷ [])

-- The lines of the centres at these addresses, of which the first has this place.
abbrev pub rows_lines : List GroundHappening → ℕ → List (List ℕ) → List ℕ
rows_lines log link [] = []
rows_lines log link (address ∷ addresses) = row_lines address (events_at link log) ++ rows_lines log (link + 1) addresses

-- The lines at the end: those of all centres and `OK`; or the bad line; or the line at which the limit is met.
abbrev pub end_lines : Names → List GroundHappening → End → List ℕ
end_lines names log Done = rows_lines log 0 names.addresses ++ ended (codes "OK")
end_lines names log (Bad bad) = bad_line bad
end_lines names log (Limit line) = ended (codes "LIMIT" ++ number_field line)

-- The names of a stage; before the second line there is no centre.
abbrev pub names_at : GroundStage → Names
names_at begun = record { registration = []; addresses = [] }
names_at (named who) = record { registration = who.registration; addresses = [] }
names_at (watching names) = names

-- ---- the whole

-- What is written of a walk.
abbrev pub walked_text : ℕ → Walked → List ℕ
walked_text grace walked =
    written grace (names_at walked.stage) walked.log ++ end_lines (names_at walked.stage) walked.log walked.end

-- The walk of a watch over a ground log.
abbrev pub watch_walk : GroundLog → Walked
watch_walk log = walk no_restart log.over begun [] 1 log.readings

-- The text is what `watch` writes of these bytes, with this grace, and so the log ends.
pub record IsWatched (bytes : List ℕ) (grace : ℕ) (end : End) (text : List ℕ) : Type 0 where
  pub log : GroundLog
  pub is_log : IsGroundLog bytes log
  pub ends : end ≡ (watch_walk log).end
  pub output : text ≡ walked_text grace (watch_walk log)
