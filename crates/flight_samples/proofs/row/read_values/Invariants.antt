use Rattle.std.proofs.Common.{◌≡◌, ◌<◌, ℕ, get_or, pos, length}
use Rattle.csv.specs.Records.{fields_of}
use Rattle.flight_samples.specs.SampleText.{IsValueAt, column_count}
use Rattle.flight_samples.proofs.row.read_values.Given as goal

abbrev pub invariant-loop-place : goal.invariant-loop-place
invariant-loop-place l = record {
  count : length l.values ≡ column_count;
  read : (earlier : ℕ) → earlier < l.place → IsValueAt (fields_of l.row) earlier (get_or l.values earlier (pos 0));
}
