use Rattle.std.proofs.Common.{◌≡◌, map, take, length}
use Rattle.contract_rules.specs.Reports.{is_modulus_due}
use Rattle.contract_table.proofs.reporting.groups_in.Given as goal

abbrev pub invariant-loop-place : goal.invariant-loop-place
invariant-loop-place l = record {
  six : length l.groups ≡ 6;
  done : take l.place l.groups ≡ map (is_modulus_due l.r) (take l.place l.moduli.m);
}
