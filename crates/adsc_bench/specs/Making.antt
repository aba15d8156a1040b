-- What the command `make` promises (this project's profile).
use Rattle.std.specs.Prelude.{◌≡◌, ◌⊎◌, ℕ, List}
use Rattle.std.specs.Io.KnownBytes.{Appends}
use Rattle.std.specs.declared.option.Option.{Option}
use Rattle.adsc_io.specs.Causes.{Rose}
use Rattle.adsc_io.specs.Writes.{AppendsPrefix}
use Rattle.generated_scripts.specs.Generator.{made_script}
use Rattle.generated_scripts.specs.Summaries.{IsSummaryOf}
use Rattle.run_rules.specs.Runs.{Run, Script, IsScript, ScriptRun, IsAllowedOrder}
use Rattle.adsc_bench.specs.declared.status.Status.{Status}
use Rattle.adsc_bench.specs.declared.status.Status.TheVariants.{Done, Refused, Words, ReadFault, WriteFault, BadLine, NoMemory, Limit}

-- The text is the summary of a run of the script of this number with so many lines, under an order that so many workers may take.
pub record IsSummaryOn (workers number lines : ℕ) (text : List ℕ) : Type 0 where
  pub script : Script
  pub order : List ℕ
  pub run : Run
  pub is_script : IsScript (made_script number lines) script
  pub runs : ScriptRun script order run
  pub allowed : IsAllowedOrder script run workers order
  pub summary : IsSummaryOf number lines order run text

-- The text is the summary of the script of this number with so many lines: that of a run on five workers, and there is no other, on however
-- many workers and in whichever order they may take the entries. So it is one function of the two numbers.
pub record IsSummary (number lines : ℕ) (text : List ℕ) : Type 0 where
  pub of_run : IsSummaryOn 5 number lines text
  pub only : (workers : ℕ) (other : List ℕ) → IsSummaryOn workers number lines other → other ≡ text

-- What each status promises of the sink's bytes and faults before and after, where `unwritten` says that the sink is as it was.
abbrev pub MakePromises : ℕ → ℕ → Option (List ℕ) → ℕ → Option (List ℕ) → ℕ → Type 0 → Status → Type 0
-- Done: the summary was written, and no write failed.
MakePromises number lines written faults written' faults' unwritten Done = (faults' ≡ faults)
    × ((text : List ℕ) × IsSummary number lines text × Appends written written' text)
-- WriteFault: a write failed, and a beginning of the summary was written.
MakePromises number lines written faults written' faults' unwritten WriteFault = Rose faults faults'
    × ((text : List ℕ) × IsSummary number lines text × AppendsPrefix written written' text)
-- NoMemory: nothing was written.
MakePromises number lines written faults written' faults' unwritten NoMemory = unwritten
-- The others: never.
MakePromises number lines written faults written' faults' unwritten Refused = ⊥
MakePromises number lines written faults written' faults' unwritten Words = ⊥
MakePromises number lines written faults written' faults' unwritten ReadFault = ⊥
MakePromises number lines written faults written' faults' unwritten BadLine = ⊥
MakePromises number lines written faults written' faults' unwritten Limit = ⊥

-- What `make` promises: what its status promises; and where no write fails, the whole summary was written, or memory was wanted.
pub record Makes (number lines : ℕ) (written : Option (List ℕ)) (faults : ℕ) (written' : Option (List ℕ)) (faults' : ℕ) (unwritten : Type 0) (status : Status) : Type 0 where
  pub promised : MakePromises number lines written faults written' faults' unwritten status
  pub due : (Rose faults faults' → ⊥) → (status ≡ Done) ⊎ (status ≡ NoMemory)
