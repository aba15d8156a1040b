-- What is seen of a source and a sink before and after a call.
use Rattle.std.specs.Prelude.{◌≡◌, ℕ, List}
use Rattle.std.specs.declared.option.Option.{Option}
use Rattle.std.specs.Io.KnownBytes.{Consumes}
use Rattle.adsc_io.specs.Causes.{Rose}

-- What a source and a sink tell: the bytes that are not yet read, how many reads failed, the bytes that were written, how
-- many writes failed.
pub record Seen : Type 0 where
  pub left : Option (List ℕ)
  pub read_faults : ℕ
  pub written : Option (List ℕ)
  pub write_faults : ℕ

-- What a source and a sink tell, as one.
abbrev pub seen : Option (List ℕ) → ℕ → Option (List ℕ) → ℕ → Seen
seen left read_faults written write_faults =
    record { left = left; read_faults = read_faults; written = written; write_faults = write_faults }

-- These bytes were read, and then a read failed.
abbrev pub WereRead : Seen → Seen → List ℕ → Type 0
WereRead before after bytes = Rose before.read_faults after.read_faults × Consumes before.left after.left bytes

-- No read and no write failed.
abbrev pub Faultless : Seen → Seen → Type 0
Faultless before after = (after.read_faults ≡ before.read_faults) × (after.write_faults ≡ before.write_faults)
