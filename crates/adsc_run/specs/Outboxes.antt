-- Where the texts of an outbox end, and what stands behind them (this project's profile).
use Rattle.std.specs.Prelude.{◌≡◌, ◌+◌, ℕ, List, ◌++◌, length, Some, slice_get}
use Rattle.adsc_io.specs.Lines.{ended_lines, script_lines}
use Rattle.aircraft_core.specs.Downlinks.{AreDownlinks}
use Rattle.aircraft_core.specs.Setting.{Setting}
use Rattle.aircraft_core.specs.declared.entry.Entry.{Entry}
use Rattle.adsc_run.specs.declared.outbox.TextEnds.{TextEnds}

-- a newline ends each text of these bytes
abbrev pub IsEnded : List ℕ → Type 0
IsEnded bytes = bytes ≡ ended_lines (script_lines bytes)

-- The rest stands behind so many texts of the outbox.
pub record IsRest (outbox : List ℕ) (count : ℕ) (rest : List ℕ) : Type 0 where
  pub front : List (List ℕ)
  pub counted : length front ≡ count
  pub texts : script_lines outbox ≡ front ++ script_lines rest
  pub ended : IsEnded rest

-- The first so many of these texts are so many bytes, with the newlines that end them.
pub record EndsAt (texts : List (List ℕ)) (count end : ℕ) : Type 0 where
  pub front : List (List ℕ)
  pub back : List (List ℕ)
  pub joined : texts ≡ front ++ back
  pub counted : length front ≡ count
  pub bytes : end ≡ length (ended_lines front)

-- These are the ends of the first of these texts, in their order.
abbrev pub AreEnds : List ℕ → List (List ℕ) → Type 0
AreEnds ends texts = (place end : ℕ) → slice_get ends place ≡ Some end → EndsAt texts (place + 1) end

-- For each link of an aircraft the ends of the first downlinks of its journal are known, of as many as were found.
pub record AreFound (setting : Setting) (journal : List Entry) (found : List TextEnds) : Type 0 where
  pub count : length found ≡ length setting.addresses
  pub each : (link : ℕ) (one : TextEnds) → slice_get found link ≡ Some one
      → (texts : List (List ℕ)) → AreDownlinks setting journal link texts → AreEnds one.ends.items texts
