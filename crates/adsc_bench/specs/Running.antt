-- What the command `run` promises (this project's profile).
use Rattle.std.specs.Prelude.{◌≡◌, ◌⊎◌, ℕ, List, Some, IfSome}
use Rattle.std.specs.Io.KnownBytes.{Appends, IsAtEnd}
use Rattle.adsc_io.specs.Causes.{Rose}
use Rattle.adsc_io.specs.Writes.{AppendsPrefix}
use Rattle.adsc_requests.specs.declared.message.Message.{Message}
use Rattle.aircraft_core.specs.Setting.{Setting}
use Rattle.run_rules.specs.Claims.{IsShownConfirmed, NoEarlyReuse, WasAccepted}
use Rattle.run_rules.specs.Output.{IsRunText}
use Rattle.run_rules.specs.Runs.{Run, Script, IsScript, ScriptRun, IsAllowedOrder, journal_at}
use Rattle.run_rules.specs.declared.end.End.{End}
use Rattle.run_rules.specs.declared.end.End.TheVariants as run
use Rattle.adsc_bench.specs.Seen.{Seen, Faultless}
use Rattle.adsc_bench.specs.declared.status.Status.{Status}
use Rattle.adsc_bench.specs.declared.status.Status.TheVariants.{Done, Refused, Words, ReadFault, WriteFault, BadLine, NoMemory, Limit}

-- the status of a run that ended so
abbrev pub status_of_end : End → Status
status_of_end run.Done = Done
status_of_end (run.Bad bad) = BadLine
status_of_end (run.Limit line) = Limit

-- What the centres show confirmed or partial at the end of this run was accepted by the aircraft, with those parameters, unless the
-- centre reused a number too early.
abbrev pub ShowsWhatWasAccepted : List ℕ → Run → Type 0
ShowsWhatWasAccepted order run = (setting : Setting) (link : ℕ) (request : Message) → run.setting ≡ Some setting
    → NoEarlyReuse setting order link run.log → IsShownConfirmed link run.log request
    → WasAccepted setting (journal_at order run.log) link request

-- The text is the output of the script that these bytes are, under an order that so many workers may take; this is the status of that
-- run. And what its centres show confirmed was accepted.
pub record IsOutput (bytes : List ℕ) (workers : ℕ) (status : Status) (text : List ℕ) : Type 0 where
  pub script : Script
  pub order : List ℕ
  pub run : Run
  pub is_script : IsScript bytes script
  pub runs : ScriptRun script order run
  pub allowed : IsAllowedOrder script run workers order
  pub ends : status ≡ status_of_end run.end
  pub output : IsRunText order run text
  pub shown_was_accepted : ShowsWhatWasAccepted order run

-- No fault came, and an output of the script was written, whose run has this status.
abbrev pub WroteOutput : Seen → Seen → ℕ → Status → Type 0
WroteOutput before after workers status = Faultless before after
    × IfSome before.left (λ bytes. (text : List ℕ) × IsOutput bytes workers status text × Appends before.written after.written text)

-- What each status promises of a run on so many workers, where `unwritten` says that the sink is as it was.
abbrev pub RunPromises : Seen → Seen → ℕ → Type 0 → Status → Type 0
-- Done: an output of the script was written, and the source was read to its end.
RunPromises before after workers unwritten Done = WroteOutput before after workers Done × IsAtEnd after.left
-- Refused, Words: never.
RunPromises before after workers unwritten Refused = ⊥
RunPromises before after workers unwritten Words = ⊥
-- ReadFault: a read failed, and nothing was written.
RunPromises before after workers unwritten ReadFault = Rose before.read_faults after.read_faults × unwritten
-- WriteFault: a write failed and no read did, and a beginning of an output was written.
RunPromises before after workers unwritten WriteFault = Rose before.write_faults after.write_faults × (after.read_faults ≡ before.read_faults)
    × IfSome before.left (λ bytes. (status : Status) × (text : List ℕ) × IsOutput bytes workers status text × AppendsPrefix before.written after.written text)
-- BadLine, Limit: an output of the script was written, up to its first bad line or to its limit.
RunPromises before after workers unwritten BadLine = WroteOutput before after workers BadLine
RunPromises before after workers unwritten Limit = WroteOutput before after workers Limit
-- NoMemory: no read failed, and nothing was written.
RunPromises before after workers unwritten NoMemory = (after.read_faults ≡ before.read_faults) × unwritten

-- What `run` promises: what its status promises; and where no fault comes, an output of the script was written, whose run has this
-- status, or memory was wanted.
pub record Runs (before after : Seen) (workers : ℕ) (unwritten : Type 0) (status : Status) : Type 0 where
  pub promised : RunPromises before after workers unwritten status
  pub due : (Rose before.read_faults after.read_faults → ⊥) → (Rose before.write_faults after.write_faults → ⊥)
      → WroteOutput before after workers status ⊎ (status ≡ NoMemory)
