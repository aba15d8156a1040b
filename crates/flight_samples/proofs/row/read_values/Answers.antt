use Rattle.std.proofs.Common.{arith}
use Rattle.csv.specs.Records.{fields_of}
use Rattle.flight_samples.proofs.ColumnLemmas.{bad_at}
use Rattle.flight_samples.proofs.row.read_values.Goals as goal

pub returns-in-Err-clause-refused : goal.returns-in-Err-clause-refused
returns-in-Err-clause-refused c =
    (c.requires, omega arith, bad_at (fields_of c.args.row.now) c.loop-place.values c.loop-place.place c.in-Err.why c.loop-place-test.true c.in-Err.ensures.fault c.loop-place.invariant.read)
