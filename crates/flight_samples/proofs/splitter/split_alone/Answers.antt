use Rattle.std.proofs.Common.{◌≡◌, [], None, Some, IfOk, subst}
use Rattle.csv.specs.Records.{fields_of}
use Rattle.flight_samples.proofs.RowLemmas.{record_has_columns}
use Rattle.flight_samples.proofs.SplitLemmas.{one_column}
use Rattle.flight_samples.proofs.splitter.split_alone.Goals as goal

pub returns-in-Ok-Some : goal.returns-in-Ok-Some
returns-in-Ok-Some c = record_has_columns c.args.text.now (Some c.in-Ok-Some.row) c.requires (rw c.in-Ok-Some.field-0-is at c.in-Ok-Some.ensures)

pub returns-in-Ok-None : goal.returns-in-Ok-None
returns-in-Ok-None c =
    let empty : c.args.text.now ≡ [] = record_has_columns c.args.text.now None c.requires (rw c.in-Ok-None.field-0-is at c.in-Ok-None.ensures) in
    subst (λ columns. IfOk c.from_fields.result (λ row. fields_of row ≡ columns)) (one_column c.args.text.now empty) c.from_fields.ensures.fields
