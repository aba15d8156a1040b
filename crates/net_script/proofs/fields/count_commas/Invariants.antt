use Rattle.std.proofs.Common.{◌≡◌, ◌≤◌, ◌==◌, take}
use Rattle.std.specs.Prelude.{count_by}
use Rattle.net_script.specs.Fields.{comma}
use Rattle.net_script.proofs.fields.count_commas.Given as goal

-- The commas of the bytes so far are counted.
abbrev pub invariant-loop-byte : goal.invariant-loop-byte
invariant-loop-byte l = record {
  count : l.count ≡ count_by (λ byte. byte == comma) (take l.byte-index l.line);
  within : l.count ≤ l.byte-index;
}
