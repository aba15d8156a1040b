use Rattle.std.proofs.Common.{ap, ◌∙◌, List}
use Rattle.std.specs.List.{flat_map}
use Rattle.aircraft_core.specs.Entries.{line_of}
use Rattle.aircraft_core.specs.declared.entry.Entry.{Entry}
use Rattle.output_fields.specs.Fields.{number_field}
use Rattle.adsc_run.proofs.OutgoingLaws.{puts_same}
use Rattle.adsc_run.proofs.OutputLaws.{numbers_of}
use Rattle.adsc_run.proofs.output.journal.put_entries_of.Goals as goal

pub returns-in-Some : goal.returns-in-Some
returns-in-Some g c =
    rw c.in-Some.is
    (puts_same _ _ _ _ c.put_entries.ensures
    (ap (λ (entries : List Entry). flat_map (λ entry. number_field (line_of entry)) entries) c.journal.ensures ∙ numbers_of c.in-Some.craft.journal))
