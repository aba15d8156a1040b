use Rattle.std.proofs.Common.{refl}
use Rattle.csv.specs.Records.{fields_of}
use Rattle.flight_samples.proofs.RowLemmas.{field_read}
use Rattle.flight_samples.proofs.row.field_at.Goals as goal

pub returns : goal.returns
returns c = field_read c.get.result _ c.unwrap_or.result (fields_of c.args.row.now) c.args.place c.get.ensures.value c.unwrap_or.ensures refl
