use Rattle.std.proofs.Common.{◌≡◌, ◌++◌, take}
use Rattle.csv.specs.Records.{fields_of}
use Rattle.flight_samples.specs.SampleText.{columns_of}
use Rattle.flight_samples.proofs.splitter.is_split.Given as goal

-- the columns of the text are the fields so far and the columns of the rest
abbrev pub invariant-loop-place : goal.invariant-loop-place
invariant-loop-place l = columns_of l.text ≡ take l.place (fields_of l.row) ++ columns_of l.rest
