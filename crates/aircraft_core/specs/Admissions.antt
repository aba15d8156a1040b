-- Which requests admit a link.
use Rattle.std.specs.Prelude.{◌≡◌, ℕ, Bool, cond, List, [], ◌∷◌}
use Rattle.contract_rules.specs.Acts.{Act}
use Rattle.contract_rules.specs.Configuration.{Configuration}
use Rattle.contract_rules.specs.LiveLinks.{Noted, admits}
use Rattle.contract_rules.specs.Verdicts.{noted_over, past_with}
use Rattle.aircraft_core.specs.declared.entry.Entry.{Entry}
use Rattle.aircraft_core.specs.Entries.{is_heard_by}
use Rattle.aircraft_core.specs.JournalActs.{JournalActs}
use Rattle.aircraft_core.specs.Setting.{Setting, configuration_of}

-- Which of the acts of an entry admit their link, after this past.
abbrev pub entry_admissions : Configuration → List Noted → List Act → List Bool
entry_admissions configuration past [] = []
entry_admissions configuration past (act ∷ acts) =
    admits configuration past act ∷ entry_admissions configuration (noted_over configuration past act ∷ past) acts

-- The same for each entry of a journal that a link hears of, after this past.
abbrev pub admissions : Configuration → ℕ → List Noted → List Entry → List (List Act) → List (List Bool)
admissions configuration link past (entry ∷ entries) (acts ∷ others) =
    let later = admissions configuration link (past_with configuration past acts) entries others in
    cond (is_heard_by link entry) (entry_admissions configuration past acts ∷ later) later
admissions configuration link past _ _ = []

-- These are the admissions of a link in a journal: for each entry that it hears of, which of the acts admit it.
pub record AreAdmissions (setting : Setting) (journal : List Entry) (link : ℕ) (each : List (List Bool)) : Type 0 where
  pub acts : List (List Act)
  pub are_acts : JournalActs setting.first journal acts
  pub found : each ≡ admissions (configuration_of setting) link [] journal acts
