-- Text on its way to a sink (this project's profile).
use Rattle.std.specs.Prelude.{◌≡◌, ℕ, ◌<◌, ◌≤◌, Bool, true, false, List, ◌++◌, length, Result, IsErr, OnOk, OnErr}
use Rattle.std.specs.Io.KnownBytes.{Appends}
use Rattle.std.specs.declared.option.Option.{Option}
use Rattle.adsc_io.specs.Causes.{HasCause, Rose}
use Rattle.adsc_io.specs.Writes.{AppendsPrefix}
use Rattle.adsc_io.specs.declared.failures.WriteFault.{WriteFault}
use Rattle.adsc_run.specs.declared.output.outgoing.Outgoing.{Outgoing}

-- What a sink tells, and what waits before it: the bytes that were written, where the sink tells them; how many writes failed; the
-- bytes that wait; and whether a write of them failed.
pub record OnWay : Type 0 where
  pub written : Option (List ℕ)
  pub faults : ℕ
  pub waiting : List ℕ
  pub failed : Bool

-- What a sink tells, and what waits before it.
abbrev pub on_way : Option (List ℕ) → ℕ → Outgoing → OnWay
on_way written faults out = record { written = written; faults = faults; waiting = out.waiting.items; failed = out.failed }

-- The text went on its way: of what waited and the text a front was written, and the rest waits.
pub record GoesOn (before now : OnWay) (text : List ℕ) : Type 0 where
  pub gone : List ℕ
  pub whole : before.waiting ++ text ≡ gone ++ now.waiting
  pub written : Appends before.written now.written gone
  pub kept : now.faults ≡ before.faults

-- A write failed: of what waited and the text a front was written that isn't all.
pub record BreaksOff (before now : OnWay) (text : List ℕ) : Type 0 where
  pub gone : List ℕ
  pub left : List ℕ
  pub whole : before.waiting ++ text ≡ gone ++ left
  pub some : 0 < length left
  pub written : Appends before.written now.written gone
  pub later : before.faults ≤ now.faults
  pub rose : Rose before.faults now.faults

-- By whether a write failed before, and whether one has failed now: where one failed before, nothing changes any more.
abbrev pub PutsBy : Bool → Bool → OnWay → OnWay → List ℕ → Type 0
PutsBy true failed before now text = now ≡ before
PutsBy false false before now text = GoesOn before now text
PutsBy false true before now text = BreaksOff before now text

-- The text was put behind what waited.
pub record Puts (before now : OnWay) (text : List ℕ) : Type 0 where
  pub puts : PutsBy before.failed now.failed before now text

-- All of the text was written; or a write failed, and then a beginning of it was that isn't all.
pub record Writes (written : Option (List ℕ)) (faults : ℕ) (written' : Option (List ℕ)) (faults' : ℕ) (result : Result Unit WriteFault) (text : List ℕ) : Type 0 where
  pub whole : OnOk result (Appends written written' text)
  pub front : OnErr result (AppendsPrefix written written' text)
  pub cause : HasCause faults faults' result

-- By whether a write failed before: then nothing is written any more, and the answer is a fault; else what waits is written.
abbrev pub FinishesBy : Bool → OnWay → Option (List ℕ) → ℕ → Result Unit WriteFault → Type 0
FinishesBy true before written faults result = (IsErr result) × (written ≡ before.written) × (faults ≡ before.faults)
FinishesBy false before written faults result = Writes before.written before.faults written faults result before.waiting

-- What still waited was written, unless a write failed.
pub record Finishes (before : OnWay) (written : Option (List ℕ)) (faults : ℕ) (result : Result Unit WriteFault) : Type 0 where
  pub finishes : FinishesBy before.failed before written faults result

-- A text that is such was put behind what waited.
pub record PutsSuch (IsSuch : List ℕ → Type 0) (before now : OnWay) : Type 0 where
  pub text : List ℕ
  pub such : IsSuch text
  pub puts : Puts before now text
