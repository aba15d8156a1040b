-- What the outcome of a run holds (this project's profile).
use Rattle.std.specs.Prelude.{◌≡◌, ℕ, ◌+◌, cond, List, [], ◌∷◌, ◌++◌, Option, Some, None}
use Rattle.aircraft_core.specs.Aircraft.{Aircraft}
use Rattle.aircraft_core.specs.Setting.{Setting, address_of}
use Rattle.aircraft_core.specs.declared.entry.Entry.{Entry}
use Rattle.centre_core.specs.Histories.{StandsFor}
use Rattle.run_rules.specs.Happenings.{Happening, history, is_centre, refused_lines}
use Rattle.run_rules.specs.Orders.{line_order}
use Rattle.run_rules.specs.Runs.{Script, IsScript, Run, ScriptRun, IsAllowedOrder, journal_at}
use Rattle.adsc_run.specs.declared.outcome.CentreRow.{CentreRow}
use Rattle.adsc_run.specs.declared.outcome.Outcome.{Outcome}

-- ---- the aircraft

-- What the aircraft was made with, if there is one.
abbrev pub setting_in : Option Aircraft → Option Setting
setting_in None = None
setting_in (Some craft) = Some craft.setting

-- The journal of the aircraft, if there is one.
abbrev pub journal_in : Option Aircraft → List Entry
journal_in None = []
journal_in (Some craft) = craft.journal

-- ---- the centres

-- Of the links to these addresses, of which the first has this number, those whose address is a centre's.
abbrev pub centre_links : List Happening → ℕ → List (List ℕ) → List ℕ
centre_links log link [] = []
centre_links log link (address ∷ addresses) = cond (is_centre link log) (link ∷ []) [] ++ centre_links log (link + 1) addresses

-- The row is that of this link's centre: it has the link's address, and a centre at that address, for the aircraft, that stands for
-- what happened there.
pub record IsRowOf (setting : Setting) (log : List Happening) (link : ℕ) (row : CentreRow) : Type 0 where
  pub address : row.address ≡ address_of setting link
  pub own : row.centre.address ≡ address_of setting link
  pub registration : row.centre.registration ≡ setting.registration
  pub stands : StandsFor row.centre (history link log)

-- The rows are those of the centres of these links, one for each in their order.
abbrev pub AreRowsOf : Setting → List Happening → List ℕ → List CentreRow → Type 0
AreRowsOf setting log [] rows = rows ≡ []
AreRowsOf setting log (link ∷ links) [] = ⊥
AreRowsOf setting log (link ∷ links) (row ∷ rows) = IsRowOf setting log link row × AreRowsOf setting log links rows

-- The rows are those of all centres, where the aircraft flies.
abbrev pub AreCentres : Option Setting → List Happening → List CentreRow → Type 0
AreCentres None log rows = rows ≡ []
AreCentres (Some setting) log rows = AreRowsOf setting log (centre_links log 0 setting.addresses) rows

-- ---- the whole outcome

-- The outcome is that of this run under this order.
pub record IsOutcomeOf (order : List ℕ) (run : Run) (outcome : Outcome) : Type 0 where
  pub setting : setting_in outcome.craft ≡ run.setting
  pub journal : journal_in outcome.craft ≡ journal_at order run.log
  pub lines : order ≡ line_order (journal_in outcome.craft)
  pub refused : outcome.refused.items ≡ refused_lines run.log
  pub centres : AreCentres run.setting run.log outcome.centres.items
  pub end : outcome.end ≡ run.end

-- The outcome is that of the script that these bytes are, under some order in which so many workers may take its entries.
pub record IsOutcome (bytes : List ℕ) (workers : ℕ) (outcome : Outcome) : Type 0 where
  pub script : Script
  pub order : List ℕ
  pub run : Run
  pub is_script : IsScript bytes script
  pub runs : ScriptRun script order run
  pub allowed : IsAllowedOrder script run workers order
  pub of_run : IsOutcomeOf order run outcome
