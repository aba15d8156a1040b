-- What contracts see of the sources and the sink in memory, and what a call makes of it.
use Rattle.std.specs.Prelude.{ℕ, ◌+◌, ◌-◌, ◌^◌, ◌<◌, ◌≡◌, ◌⊎◌, ◌++◌, min, List, take, drop, Contains}
use Rattle.adsc_io.specs.Causes.{count_after}

-- The call after this many calls is to fail: its number, counted from 1, stands in the list. Numbers past 64 bits stand in
-- none, and a count of calls stays at the last value of 64 bits.
abbrev pub IsDue : List ℕ → ℕ → Type 0
IsDue fails calls = (calls + 1 < 2 ^ 64) × Contains fails (calls + 1)

-- how many bytes one call moves: at most a piece, as many as there is room for, and as many as there are
abbrev pub moved : ℕ → ℕ → ℕ → ℕ
moved piece room bytes = min (min piece room) bytes

-- A source in memory: the bytes not yet read, the most that one read gives, the numbers of the reads that fail, how many
-- reads there were, and how many failed.
pub record MemoryInput : Type 0 where
  pub left : List ℕ
  pub piece : ℕ
  pub fails : List ℕ
  pub calls : ℕ
  pub faults : ℕ

-- after a read of this many bytes
abbrev pub read_on : MemoryInput → ℕ → MemoryInput
read_on source count = record source { left = drop count source.left; calls = count_after source.calls }

-- after a read that failed
abbrev pub read_failed : MemoryInput → MemoryInput
read_failed source = record source { calls = count_after source.calls; faults = count_after source.faults }

-- a source in memory that never fails: the bytes not yet read, and the most that one read gives
pub record SteadyInput : Type 0 where
  pub left : List ℕ
  pub piece : ℕ

-- after a read of this many bytes
abbrev pub steady_on : SteadyInput → ℕ → SteadyInput
steady_on source count = record source { left = drop count source.left }

-- A sink in memory: the bytes written, the room that is left, the most that one write takes, the numbers of the writes
-- that fail, how many writes there were, and how many failed.
pub record MemoryOutput : Type 0 where
  pub written : List ℕ
  pub room : ℕ
  pub piece : ℕ
  pub fails : List ℕ
  pub calls : ℕ
  pub faults : ℕ

-- the next write is to fail: its number stands in the list, or no room is left
abbrev pub IsRefused : MemoryOutput → Type 0
IsRefused sink = IsDue sink.fails sink.calls ⊎ (sink.room ≡ 0)

-- after a write of the front of these bytes
abbrev pub written_on : MemoryOutput → List ℕ → ℕ → MemoryOutput
written_on sink bytes count =
    record sink { written = sink.written ++ take count bytes; room = sink.room - count; calls = count_after sink.calls }

-- after a write that failed
abbrev pub write_failed : MemoryOutput → MemoryOutput
write_failed sink = record sink { calls = count_after sink.calls; faults = count_after sink.faults }
