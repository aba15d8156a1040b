-- What single lines of an output are, one of each form, and what single happenings tell. The output is this project's
-- profile; places in texts are those of ARINC 622.
use Rattle.std.specs.Prelude.{◌≡◌, ℕ, Option, true, false, List, [], ◌∷◌, ◌++◌, codes, flat_map, length, Some, None}
use Rattle.adsc_io.specs.Lines.{ended}
use Rattle.acars_envelope.specs.declared.refusal.EnvelopeWhy.TheVariants as envelope
use Rattle.adsc_requests.specs.declared.kind.Kind.TheVariants.{Demand, Periodic, Event, Emergency}
use Rattle.adsc_requests.specs.declared.kind.Kind.{Kind}
use Rattle.adsc_requests.specs.declared.message.Message.TheVariants as message
use Rattle.afn_logon.specs.declared.answer.Answer.{Answer as LogonAnswer}
use Rattle.afn_logon.specs.declared.logon.Logon.TheVariants.{Nothing, Sent, Accepted, Rejected}
use Rattle.aircraft_core.specs.Setting.{Setting}
use Rattle.aircraft_core.specs.declared.entry.Entry.TheVariants as entry
use Rattle.aircraft_core.specs.declared.who.Who.{Who}
use Rattle.net_script.specs.Addresses.{AddressList}
use Rattle.centre_core.specs.Hearing.{Hearing}
use Rattle.centre_core.specs.declared.shown.Shown.{Shown}
use Rattle.centre_core.specs.declared.shown.Shown.TheVariants as shown
use Rattle.ground_texts.specs.declared.ground_text.GroundText.{GroundText}
use Rattle.net_script.specs.declared.line.Cancel.TheVariants.{All}
use Rattle.net_script.specs.declared.letter.Letter.TheVariants.{Aircraft, Ground, Sample}
use Rattle.net_script.specs.declared.line.ScriptLine.TheVariants as line
use Rattle.net_script.specs.declared.refusal.Code.{Code}
use Rattle.net_script.specs.declared.refusal.Code.TheVariants as code
use Rattle.run_rules.specs.Happenings.{Happening, Cancelled, Refused, Heard, is_centre, is_text_on, refused_lines}
use Rattle.run_rules.specs.EarlierLines.{text_link}
use Rattle.run_rules.specs.Histories.Reuse.{periodic, timed}
use Rattle.run_rules.specs.Histories.Words.{emergency}
use Rattle.run_rules.specs.Lines.{flight_step, step_of}
use Rattle.run_rules.specs.Orders.{is_burst_line}
use Rattle.run_rules.specs.Output.{IsEndText, bad_line, centres_lines, downlink_lines, journal_line, logon_line, refused_line, row_line}
use Rattle.run_rules.specs.Places.{head_letter}
use Rattle.run_rules.specs.Runs.{Run}
use Rattle.run_rules.specs.Stages.{begun, stops}
use Rattle.run_rules.specs.Texts.{answer_step, characters_place, flight_place, refuses, registration_place, same_text}
use Rattle.run_rules.specs.declared.end.End.TheVariants.{Limit}
use Rattle.run_rules.specs.declared.reading.Reading.TheVariants.{Brings, Says}
use Rattle.run_rules.specs.declared.refused.RefusedLine.{RefusedLine}
use Rattle.run_rules.specs.declared.refused.RefusedWhy.{RefusedWhy}
use Rattle.run_rules.specs.declared.refused.RefusedWhy.TheVariants as why

-- The journal line: no entry, three, and three that were taken in another order than that of their lines.
pub record JournalsAreWritten : Type 0 where
  pub empty : journal_line [] ≡ ended (codes "J")
  pub three : journal_line (4 ∷ 6 ∷ 8 ∷ []) ≡ ended (codes "J,4,6,8")
  pub other : journal_line (10 ∷ 9 ∷ 200000 ∷ []) ≡ ended (codes "J,10,9,200000")

-- The four states of a logon; and two downlinks.
pub record LogonsAreWritten : Type 0 where
  pub nothing : logon_line (codes "GRND001") Nothing ≡ ended (codes "L,GRND001,none")
  pub sent : logon_line (codes "GRND001") Sent ≡ ended (codes "L,GRND001,sent")
  pub accepted : logon_line (codes "GRND001") Accepted ≡ ended (codes "L,GRND001,accepted")
  pub rejected : logon_line (codes "GRND001") (Rejected 3) ≡ ended (codes "L,GRND001,rejected,3")
  pub downlinks : downlink_lines (codes "/GRND001.ADS" ∷ codes "/GRND001.AFN" ∷ [])
      ≡ ended (codes "D,/GRND001.ADS") ++ ended (codes "D,/GRND001.AFN")

-- A text that is refused so is written so.
abbrev pub IsRefusedWritten : ℕ → RefusedWhy → List ℕ → Type 0
IsRefusedWritten number why text = refused_line (record { line = number; why = why }) ≡ ended text

-- The five reasons to refuse a text; an envelope by its place, or by a wrong check.
pub record RefusedTextsAreWritten : Type 0 where
  pub place : IsRefusedWritten 5 (why.Envelope (record { place = 23; why = envelope.Hex })) (codes "X,5,HEX,23")
  pub check : IsRefusedWritten 4 (why.Envelope (record { place = 24; why = envelope.Check 0xbd4e 0xbd4f }))
      (codes "X,4,CHECK,BD4E,BD4F")
  pub unknown : IsRefusedWritten 6 why.UnknownAddress (codes "X,6,UNKNOWN,1")
  pub text : IsRefusedWritten 7 (why.Afn 12) (codes "X,7,TEXT,12")
  pub other : IsRefusedWritten 12 (why.OtherRegistration 21) (codes "X,12,OTHER,21")
  pub bits : IsRefusedWritten 8 (why.Bits (record { bit = 32; reason = 2; number = 1; octet = 5 }))
      (codes "X,8,REASON-2,32")

-- The row of this kind is written so.
abbrev pub IsRowWritten : Kind → Shown → List ℕ → Type 0
IsRowWritten kind row text = row_line (codes "GRND001") kind row ≡ ended text

-- The six places where a request may stand, and the four kinds; and the lines of two links, of which one alone is a
-- centre's.
pub record RowsAreWritten : Type 0 where
  pub nothing : IsRowWritten Demand shown.Nothing (codes "C,GRND001,D,none")
  pub event : IsRowWritten Event shown.Nothing (codes "C,GRND001,V,none")
  pub pending : IsRowWritten Periodic (shown.Pending (periodic 1)) (codes "C,GRND001,P,pending,07010BA5")
  pub confirmed : IsRowWritten Emergency (shown.Confirmed (emergency 2)) (codes "C,GRND001,M,confirmed,0902")
  pub partial : IsRowWritten Periodic (shown.Partial (periodic 254)) (codes "C,GRND001,P,partial,07FE0BA5")
  pub refused : IsRowWritten Periodic (shown.Refused (periodic 3) 11) (codes "C,GRND001,P,refused,11,07030BA5")
  pub cancelling : IsRowWritten Emergency (shown.Cancelling (timed 4)) (codes "C,GRND001,M,cancelling,09040BA5")
  pub links : centres_lines (Cancelled 4 1 All message.CancelAll ∷ []) 0 (codes "GRND001" ∷ codes "GRND002" ∷ [])
      ≡ flat_map ended (codes "C,GRND002,D,none" ∷ codes "C,GRND002,P,none"
      ∷ codes "C,GRND002,V,none" ∷ codes "C,GRND002,M,none" ∷ [])

-- A line that is bad by this code with this value is written so.
abbrev pub IsBadWritten : ℕ → Code → ℕ → List ℕ → Type 0
IsBadWritten number found value text = bad_line (record { line = number; code = found; value = value }) ≡ ended text

-- The thirteen codes of a bad line.
pub record BadLinesAreWritten : Type 0 where
  pub long : IsBadWritten 4 code.Long 4096 (codes "BAD,4,LONG,4096")
  pub head : IsBadWritten 1 code.Head 0 (codes "BAD,1,HEAD,0")
  pub kind : IsBadWritten 200000 code.Kind 0 (codes "BAD,200000,KIND,0")
  pub byte : IsBadWritten 7 code.Byte 15 (codes "BAD,7,BYTE,15")
  pub count : IsBadWritten 8 code.Count 26 (codes "BAD,8,COUNT,26")
  pub field : IsBadWritten 4 code.Field 1 (codes "BAD,4,FIELD,1")
  pub twice : IsBadWritten 2 code.Twice 2 (codes "BAD,2,TWICE,2")
  pub address : IsBadWritten 10 code.Address 1 (codes "BAD,10,ADDRESS,1")
  pub role : IsBadWritten 11 code.Role 0 (codes "BAD,11,ROLE,0")
  pub number : IsBadWritten 5 code.Number 1 (codes "BAD,5,NUMBER,1")
  pub logon : IsBadWritten 4 code.Logon 0 (codes "BAD,4,LOGON,0")
  pub waiting : IsBadWritten 9 code.Waiting 255 (codes "BAD,9,WAITING,255")
  pub nothing : IsBadWritten 6 code.Nothing 0 (codes "BAD,6,NOTHING,0")

-- The line of a run that ends at the limit.
abbrev pub LimitIsWritten : Type 0
LimitIsWritten = (order : List ℕ) (run : Run) → IsEndText order run (Limit 200001) (ended (codes "LIMIT,200001"))

-- The places in a text are where its parts begin.
pub record PlacesAreCounted : Type 0 where
  pub registration : registration_place ≡ length (codes "/AKLCDYA.ADS")
  pub characters : characters_place ≡ length (codes "/AKLCDYA.AFN")
  pub flight : flight_place ≡ length (codes "/AKLCDYA.AFN/FMH")

-- The letters that the three lines of the head have to have; the next line has to have none.
pub record HeadLettersAreDue : Type 0 where
  pub first : head_letter 1 ≡ Some Aircraft
  pub second : head_letter 2 ≡ Some Ground
  pub third : head_letter 3 ≡ Some Sample
  pub fourth : head_letter 4 ≡ None

-- Behind the head a line of its letters, or a text's line that isn't read as a text, is bad by its kind; in the head
-- a text is a fault of the head.
pub record HeadLinesStop : Type 0 where
  pub aircraft : (setting : Setting) (log : List Happening) (number : ℕ) (who : Who) → flight_step setting log number (line.A who) ≡ stops code.Kind 0
  pub ground : (setting : Setting) (log : List Happening) (number : ℕ) (addresses : AddressList) (kept : Option ℕ)
      → flight_step setting log number (line.G addresses kept) ≡ stops code.Kind 0
  pub text : (setting : Setting) (log : List Happening) (number from : ℕ) → flight_step setting log number (line.U from) ≡ stops code.Kind 0
  pub too_soon : (log : List Happening) (number : ℕ) (read : GroundText) → step_of begun log number (Brings read) ≡ stops code.Head 0

-- An answer for another aircraft is refused where its registration stands: behind the flight and a comma.
pub record AnswersAreRefused : Type 0 where
  pub other : (setting : Setting) (log : List Happening) (number link : ℕ) (answer : LogonAnswer) → same_text answer.registration setting.registration ≡ false
      → answer_step setting log number link answer ≡ refuses number (why.OtherRegistration (length (codes "/AKLCDYA.AFN/FMH" ++ answer.flight ++ codes ",")))

-- What single happenings and lines tell: a refused text is one; an answer is a text on its link; a centre that hears
-- is one; a delivery of what a centre sent stands in a burst, and a tick doesn't; no text made the entry of a tick,
-- which counts as one of link 0.
pub record HappeningsTell : Type 0 where
  pub refused : (refused : RefusedLine) → refused_lines (Refused refused ∷ []) ≡ refused ∷ []
  pub answer : (number found : ℕ) → is_text_on 3 (entry.Answer number 3 found) ≡ true
  pub hears : (number place : ℕ) (hearing : Hearing) → is_centre 3 (Heard number 3 place hearing ∷ []) ≡ true
  pub brings : (address : List ℕ) (place : ℕ) → is_burst_line (Some (Says (line.B address place))) ≡ true
  pub of_no_text : (number moment : ℕ) → text_link (entry.Tick number moment) ≡ 0
  pub ticks : (moment : ℕ) → is_burst_line (Some (Says (line.T moment))) ≡ false
