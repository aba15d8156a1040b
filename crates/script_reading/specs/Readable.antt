-- What a line that was read holds, of which the aircraft and the centres make use (this project's profile).
use Rattle.std.specs.Prelude.{◌≢◌, ℕ, ◌<◌, ◌≤◌, List, length, Option, Result, Ok, Err, IsSome}
use Rattle.std.specs.Option.{ForSome}
use Rattle.adsc_requests.specs.Kind.{kind_in}
use Rattle.adsc_requests.specs.declared.kind.Kind.TheVariants.{Demand}
use Rattle.afn_logon.specs.declared.answer.Answer.{Answer as LogonAnswer}
use Rattle.afn_logon.specs.declared.refusal.AfnRefusal.{AfnRefusal}
use Rattle.ground_texts.specs.declared.ground_text.AdsUplink.{AdsUplink}
use Rattle.ground_texts.specs.declared.ground_text.GroundText.{GroundText}
use Rattle.ground_texts.specs.declared.ground_text.GroundText.TheVariants as text
use Rattle.net_script.specs.declared.line.Cancel.TheVariants.{Of}
use Rattle.net_script.specs.declared.line.ScriptLine.{ScriptLine}
use Rattle.net_script.specs.declared.line.ScriptLine.TheVariants as line
use Rattle.run_rules.specs.declared.reading.Reading.{Reading}
use Rattle.run_rules.specs.declared.reading.Reading.TheVariants.{Says, Brings}

-- An aircraft can have links to these addresses: there are 1 to 64, and the one for which a connection is kept, if any, is one of them.
pub record AreLinks (addresses : List (List ℕ)) (kept : Option ℕ) : Type 0 where
  pub some : 1 ≤ length addresses
  pub few : length addresses ≤ 64
  pub listed : ForSome kept (λ place. place < length addresses)

-- A moment is below 1,000,000,000 seconds; links can be those of an aircraft; what is asked for is a contract; no demand is cancelled; places are counted from 1.
abbrev pub SaysRightly : ScriptLine → Type 0
SaysRightly (line.T moment) = moment < 1000000000
SaysRightly (line.G addresses reserved) = AreLinks addresses.items reserved
SaysRightly (line.C address request) = IsSome (kind_in request)
SaysRightly (line.K address cancel) = cancel ≢ Of Demand
SaysRightly (line.B address place) = 1 ≤ place
SaysRightly (line.R address place) = 1 ≤ place
SaysRightly value = Unit {0}

-- The payload of an uplink has 1 to 255 octets.
pub record IsReadUplink (uplink : AdsUplink) : Type 0 where
  pub some : 1 ≤ length uplink.octets.items
  pub few : length uplink.octets.items ≤ 255

-- A mismatch of an answer is placed within the 255 characters that a text may have.
abbrev pub IsReadAnswer : Result LogonAnswer AfnRefusal → Type 0
IsReadAnswer (Ok answer) = Unit {0}
IsReadAnswer (Err refusal) = refusal.place ≤ 255

-- What a text carries was read.
abbrev pub IsReadText : GroundText → Type 0
IsReadText (text.Ads uplink) = IsReadUplink uplink
IsReadText (text.Afn notice) = IsReadAnswer notice.answer
IsReadText reading = Unit {0}

-- A line that is read so was read from some line.
abbrev pub IsReadable : Reading → Type 0
IsReadable (Says value) = SaysRightly value
IsReadable (Brings text) = IsReadText text
IsReadable reading = Unit {0}
