use Rattle.std.proofs.Common.{◌≡◌, take}
use Rattle.std.specs.Str.Parse.{AllDigits, digits_value}
use Rattle.flight_samples.proofs.sight.digits_seen.Given as goal

-- The bytes so far are digits, and the value is theirs.
abbrev pub invariant-loop-place : goal.invariant-loop-place
invariant-loop-place l = record {
  digits : AllDigits 10 (take l.place l.digits);
  value : l.value ≡ digits_value 10 (take l.place l.digits);
}
