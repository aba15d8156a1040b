-- The summary of the run of a generated script, as bytes (this project's profile). Numbers are decimal, and each line ends with a newline.
use Rattle.std.specs.Prelude.{◌≡◌, ℕ, ◌+◌, List, [], ◌∷◌, ◌++◌, codes, length, Some}
use Rattle.acars_envelope.specs.Check.{check_of}
use Rattle.acars_envelope.specs.Texts.{four_digits}
use Rattle.adsc_io.specs.Lines.{ended, ended_lines}
use Rattle.aircraft_core.specs.Downlinks.{AreDownlinks}
use Rattle.aircraft_core.specs.Setting.{Setting}
use Rattle.aircraft_core.specs.declared.entry.Entry.{Entry}
use Rattle.output_fields.specs.Fields.{comma, number_field}
use Rattle.run_rules.specs.Happenings.{refused_lines}
use Rattle.run_rules.specs.Runs.{Run, journal_at}

-- The first line: the number of the script, how many lines it has, how many entries were taken, and how many texts were refused.
abbrev pub count_line : ℕ → ℕ → ℕ → ℕ → List ℕ
count_line number lines taken refused =
    ended (codes "M" ++ number_field number ++ number_field lines ++ number_field taken ++ number_field refused)

-- The line of a link with this address and these downlinks: how many there are, how many bytes they have with a newline behind each, and
-- the check code of those bytes.
abbrev pub link_line : List ℕ → List (List ℕ) → List ℕ
link_line address texts =
    ended (codes "M," ++ address ++ number_field (length texts) ++ number_field (length (ended_lines texts))
    ++ comma ∷ four_digits (check_of (ended_lines texts)))

-- The lines of the links to these addresses, of which the first has this number.
abbrev pub AreLinkLines : Setting → List Entry → ℕ → List (List ℕ) → List ℕ → Type 0
AreLinkLines setting journal link [] text = text ≡ []
AreLinkLines setting journal link (address ∷ addresses) text =
    (texts : List (List ℕ)) × (behind : List ℕ) × AreDownlinks setting journal link texts × AreLinkLines setting journal (link + 1) addresses behind
    × (text ≡ link_line address texts ++ behind)

-- The text is the summary of the script of this number with so many lines, where the aircraft ends with this journal and so many texts were
-- refused.
pub record IsSummaryText (number lines : ℕ) (setting : Setting) (journal : List Entry) (refused : ℕ) (text : List ℕ) : Type 0 where
  pub links : List ℕ
  pub of_links : AreLinkLines setting journal 0 setting.addresses links
  pub joined : text ≡ count_line number lines (length journal) refused ++ links ++ ended (codes "OK")

-- The text is the summary of a run under an order of its entries.
abbrev pub IsSummaryOf : ℕ → ℕ → List ℕ → Run → List ℕ → Type 0
IsSummaryOf number lines order run text =
    (setting : Setting) × (run.setting ≡ Some setting)
    × IsSummaryText number lines setting (journal_at order run.log) (length (refused_lines run.log)) text
