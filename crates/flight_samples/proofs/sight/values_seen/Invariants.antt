use Rattle.std.proofs.Common.{◌≡◌, ◌<◌, ◌++◌, ℕ, get_or, length, pos, take}
use Rattle.flight_samples.specs.SampleText.{IsValueAt, column_count, columns_of}
use Rattle.flight_samples.proofs.sight.values_seen.Given as goal

-- The values so far are those of their columns, and the columns of the text are those so far and the columns of the rest.
abbrev pub invariant-loop-place : goal.invariant-loop-place
invariant-loop-place l = record {
  count : length l.values ≡ column_count;
  read : (earlier : ℕ) → earlier < l.place → IsValueAt (columns_of l.text) earlier (get_or l.values earlier (pos 0));
  columns : columns_of l.text ≡ take l.place (columns_of l.text) ++ columns_of l.rest;
}
