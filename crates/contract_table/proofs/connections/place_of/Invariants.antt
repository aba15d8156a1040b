use Rattle.contract_table.specs.Places.{IsPlace}
use Rattle.contract_table.proofs.connections.place_of.Given as goal

abbrev pub invariant-loop-place : goal.invariant-loop-place
invariant-loop-place l = IsPlace l.link l.connections l.place
