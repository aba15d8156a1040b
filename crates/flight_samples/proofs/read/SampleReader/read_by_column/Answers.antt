use Rattle.std.proofs.Common.{arith, ◌==◌, ap, length}
use Rattle.std.proofs.lemmas.List.Splits.{length-slice_split}
use Rattle.std.proofs.lemmas.List.Sums.{count_by-le-length}
use Rattle.csv.specs.Records.{fields_of}
use Rattle.flight_samples.specs.SampleText.{columns_of}
use Rattle.flight_samples.proofs.Readings.{reads, tells}
use Rattle.flight_samples.proofs.read.SampleReader.read_by_column.Goals as goal

pub sample_of_row-requires : goal.sample_of_row-requires
sample_of_row-requires c =
    let text = c.args.columns.now in
    omega (arith, ap length c.in-Ok.ensures, length-slice_split (λ b. b == 44) text, count_by-le-length (λ b. b == 44) text)

pub returns-in-Ok-clause-read : goal.returns-in-Ok-clause-read
returns-in-Ok-clause-read c =
    let read = c.sample_of_row.ensures in
    reads (fields_of c.in-Ok.row.now) (columns_of c.args.columns.now) c.sample_of_row.result c.in-Ok.ensures read.ok read.refused

pub returns-in-Ok-clause-told : goal.returns-in-Ok-clause-told
returns-in-Ok-clause-told c =
    let read = c.sample_of_row.ensures in
    tells (fields_of c.in-Ok.row.now) (columns_of c.args.columns.now) c.sample_of_row.result c.in-Ok.ensures read.ok read.refused
