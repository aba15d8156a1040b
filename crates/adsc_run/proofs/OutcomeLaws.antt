-- What is written of the outcome of a run is the output of that run.
use Rattle.std.proofs.Common.{◌≡◌, ℕ, ◌+◌, ◌<◌, Bool, true, false, List, [], ◌∷◌, ◌++◌, cond, length, drop, sym, ap, ◌∙◌, refl, add-one, subst, suc, arith}
use Rattle.std.proofs.Math.Seq.{drop-cons}
use Rattle.std.proofs.lemmas.List.{length-drop}
use Rattle.std.specs.List.{flat_map}
use Rattle.std.specs.Prelude.{Option, Some, None, codes, get_or}
use Rattle.adsc_io.specs.Lines.{ended}
use Rattle.aircraft_core.specs.Setting.{Setting, address_of}
use Rattle.aircraft_core.specs.declared.entry.Entry.{Entry}
use Rattle.adsc_requests.specs.declared.kind.Kind.{Kind}
use Rattle.adsc_requests.specs.declared.kind.Kind.TheVariants.{Demand, Periodic, Event, Emergency}
use Rattle.centre_core.specs.Events.{CentreEvent}
use Rattle.centre_core.specs.Histories.{row_at, table_at}
use Rattle.centre_core.specs.Tables.{row_in}
use Rattle.run_rules.specs.Happenings.{Happening, history, is_centre, refused_lines}
use Rattle.run_rules.specs.Output.{AreLinesOfLinks, IsEndText, IsRunText, centre_lines, centres_lines, journal_line, lines_of_centres, refused_line, row_line, row_line_of}
use Rattle.run_rules.specs.Runs.{Run, journal_at}
use Rattle.run_rules.specs.declared.end.End.{End}
use Rattle.run_rules.specs.declared.end.End.TheVariants.{Done, Bad, Limit}
use Rattle.run_rules.specs.declared.refused.RefusedLine.{RefusedLine}
use Rattle.adsc_run.specs.Outcomes.{AreCentres, AreRowsOf, IsOutcomeOf, IsRowOf, centre_links, setting_in}
use Rattle.adsc_run.specs.OutcomeTexts.{IsOutcomeEnd, IsOutcomeText, line_of_row, lines_of_row}
use Rattle.adsc_run.specs.declared.outcome.CentreRow.{CentreRow}
use Rattle.adsc_run.specs.declared.outcome.Outcome.{Outcome}

-- ---- the lines of the centres

-- the row of a kind at the end of a history, in the table there
row_there : (kind : Kind) (w : List CentreEvent) → row_in kind (table_at w) ≡ row_at kind w
row_there Demand w = refl
row_there Periodic w = refl
row_there Event w = refl
row_there Emergency w = refl

-- the line of a row of the centre of a link
own_line : (setting : Setting) (log : List Happening) (link : ℕ) (row : CentreRow) → IsRowOf setting log link row → (kind : Kind)
    → line_of_row row kind ≡ row_line_of (address_of setting link) link log kind
own_line setting log link row is_row kind =
    (λ i. row_line (is_row.address i) kind (row_in kind (is_row.stands i))) ∙ ap (row_line (address_of setting link) kind) (row_there kind (history link log))

-- its four lines
own_lines : (setting : Setting) (log : List Happening) (link : ℕ) (row : CentreRow) → IsRowOf setting log link row
    → lines_of_row row ≡ centre_lines (address_of setting link) link log
own_lines setting log link row is_row =
    let own = own_line setting log link row is_row in
    λ i. own Demand i ++ (own Periodic i ++ (own Event i ++ (own Emergency i ++ [])))

-- by whether the first link's address is a centre's
lines_by : (is : Bool) (setting : Setting) (log : List Happening) (link : ℕ) (links : List ℕ) (behind : List ℕ)
    → ((rows : List CentreRow) → AreRowsOf setting log links rows → flat_map lines_of_row rows ≡ behind)
    → (rows : List CentreRow) → AreRowsOf setting log (cond is (link ∷ []) [] ++ links) rows
    → flat_map lines_of_row rows ≡ cond is (centre_lines (address_of setting link) link log) [] ++ behind
lines_by false setting log link links behind others rows are = others rows are
lines_by true setting log link links behind others [] are = absurd are
lines_by true setting log link links behind others (row ∷ rows) (is_row, are) = λ i. own_lines setting log link row is_row i ++ others rows are i

-- the first of the addresses from a link on is that link's
first_address : (addresses : List (List ℕ)) (link : ℕ) (address : List ℕ) (others : List (List ℕ)) → drop link addresses ≡ address ∷ others
    → (get_or addresses link [] ≡ address) × (drop (link + 1) addresses ≡ others)
first_address addresses link address others are =
    let within : link < length addresses = omega (arith, length-drop link addresses, ap length are) in
    let both : get_or addresses link [] ∷ drop (suc link) addresses ≡ address ∷ others = sym (drop-cons addresses link [] within) ∙ are in
    let behind : drop (suc link) addresses ≡ others = cc in
    ((cc), rw add-one behind)

lines_from : (setting : Setting) (log : List Happening) (link : ℕ) (addresses : List (List ℕ)) → drop link setting.addresses ≡ addresses
    → (rows : List CentreRow) → AreRowsOf setting log (centre_links log link addresses) rows → flat_map lines_of_row rows ≡ centres_lines log link addresses
lines_from setting log link [] end rows are = ap (flat_map lines_of_row) are
lines_from setting log link (address ∷ addresses) here rows are =
    let first = first_address setting.addresses link address addresses here in
    subst (λ own. flat_map lines_of_row rows ≡ cond (is_centre link log) (centre_lines own link log) [] ++ centres_lines log (link + 1) addresses) first.0
    (lines_by (is_centre link log) setting log link (centre_links log (link + 1) addresses) (centres_lines log (link + 1) addresses)
    (λ others. lines_from setting log (link + 1) addresses first.1 others) rows are)

-- the lines of all centres
lines_of_all : (setting : Option Setting) (log : List Happening) (rows : List CentreRow) → AreCentres setting log rows
    → flat_map lines_of_row rows ≡ lines_of_centres setting log
lines_of_all None log rows none = ap (flat_map lines_of_row) none
lines_of_all (Some setting) log rows are = lines_from setting log 0 setting.addresses refl rows are

-- ---- the whole text

-- what stands behind the journal line
end_of : (end : End) (order : List ℕ) (run : Run) (outcome : Outcome) (text : List ℕ) → IsOutcomeOf order run outcome → IsOutcomeEnd outcome end text
    → IsEndText order run end text
end_of Done order run outcome text of_run (links, are_links, spelled) = (
  links,
  subst (λ setting. AreLinesOfLinks setting (journal_at order run.log) links) of_run.setting
      (subst (λ (journal : List Entry). AreLinesOfLinks (setting_in outcome.craft) journal links) of_run.journal are_links),
  spelled ∙ ap (λ (refused : List RefusedLine). links ++ (flat_map refused_line refused ++ (flat_map lines_of_row outcome.centres.items ++ ended (codes "OK")))) of_run.refused
      ∙ ap (λ t. links ++ (flat_map refused_line (refused_lines run.log) ++ (t ++ ended (codes "OK"))))
      (lines_of_all run.setting run.log outcome.centres.items of_run.centres),
)
end_of (Bad bad) order run outcome text of_run spelled = spelled
end_of (Limit line) order run outcome text of_run spelled = spelled

pub outcome_output : (order : List ℕ) (run : Run) (outcome : Outcome) (text : List ℕ) → IsOutcomeText outcome text → IsOutcomeOf order run outcome
    → IsRunText order run text
outcome_output order run outcome text written of_run = record {
  behind = written.behind;
  is_end = subst (λ end. IsEndText order run end written.behind) of_run.end
      (end_of outcome.end order run outcome written.behind of_run written.is_end);
  spelled = written.spelled ∙ ap (λ lines. journal_line lines ++ written.behind) (sym of_run.lines);
}
