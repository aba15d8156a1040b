-- What is written of an outcome (this project's profile).
use Rattle.std.specs.Prelude.{◌≡◌, ℕ, List, ◌++◌, codes, flat_map}
use Rattle.adsc_io.specs.Lines.{ended}
use Rattle.adsc_requests.specs.declared.kind.Kind.{Kind}
use Rattle.centre_core.specs.Tables.{kinds, row_in}
use Rattle.output_fields.specs.Fields.{number_field}
use Rattle.run_rules.specs.Orders.{line_order}
use Rattle.run_rules.specs.Output.{AreLinesOfLinks, IsRunText, bad_line, journal_line, refused_line, row_line}
use Rattle.run_rules.specs.Runs.{Run}
use Rattle.run_rules.specs.declared.end.End.{End}
use Rattle.run_rules.specs.declared.end.End.TheVariants.{Done, Bad, Limit}
use Rattle.adsc_run.specs.Outcomes.{IsOutcomeOf, journal_in, setting_in}
use Rattle.adsc_run.specs.declared.outcome.CentreRow.{CentreRow}
use Rattle.adsc_run.specs.declared.outcome.Outcome.{Outcome}

-- The line of a centre's row of this kind, by the centre's own table.
abbrev pub line_of_row : CentreRow → Kind → List ℕ
line_of_row row kind = row_line row.address kind (row_in kind row.centre.table)

-- The four lines of a row's centre.
abbrev pub lines_of_row : CentreRow → List ℕ
lines_of_row row = flat_map (line_of_row row) kinds

-- The lines behind the journal line: those of the links, of the refused texts and of the centres, and `OK`; or the bad line; or the
-- line at which the limit is met.
abbrev pub IsOutcomeEnd : Outcome → End → List ℕ → Type 0
IsOutcomeEnd outcome Done text = (links : List ℕ) × AreLinesOfLinks (setting_in outcome.craft) (journal_in outcome.craft) links
    × (text ≡ links ++ (flat_map refused_line outcome.refused.items ++ (flat_map lines_of_row outcome.centres.items ++ ended (codes "OK"))))
IsOutcomeEnd outcome (Bad bad) text = text ≡ bad_line bad
IsOutcomeEnd outcome (Limit line) text = text ≡ ended (codes "LIMIT" ++ number_field line)

-- The text of an outcome, by its fields: the journal line, and the lines behind it.
pub record IsOutcomeText (outcome : Outcome) (text : List ℕ) : Type 0 where
  pub behind : List ℕ
  pub is_end : IsOutcomeEnd outcome outcome.end behind
  pub spelled : text ≡ journal_line (line_order (journal_in outcome.craft)) ++ behind

-- What is written of an outcome: its text; and where the outcome is that of a run under an order, this is the output of that run.
pub record IsWritten (outcome : Outcome) (text : List ℕ) : Type 0 where
  pub fields : IsOutcomeText outcome text
  pub output : (order : List ℕ) (run : Run) → IsOutcomeOf order run outcome → IsRunText order run text
