use Rattle.std.proofs.Common.{◌≡◌, ◌+◌, ◌*◌, ◌++◌, ◌≤◌, flat_map, take, drop}
use Rattle.std.specs.List.{AllZip}
use Rattle.arrayvec.specs.ArrayVec.{array_vec_len}
use Rattle.contract_table.specs.Acts.{rules_act}
use Rattle.contract_table.specs.ConnectionDues.{dues_flown}
use Rattle.contract_table.specs.Dues.{dues_in}
use Rattle.contract_table.specs.Seen.{connection_seen}
use Rattle.contract_table.specs.Changes.{IsFlown}
use Rattle.contract_table.proofs.flight.fly_all.Given as goal

abbrev pub invariant-loop-connection : goal.invariant-loop-connection
invariant-loop-connection l = record {
  rest : drop l.connection-index l.connections ≡ drop l.connection-index l.fn.connections;
  flown : AllZip (IsFlown l.time l.later (rules_act l.act)) (take l.connection-index l.fn.connections) (take l.connection-index l.connections);
  dues : dues_in l.dues ≡ dues_in l.fn.dues ++ flat_map (λ c. dues_flown l.time (rules_act l.act) (connection_seen c)) (take l.connection-index l.fn.connections);
  few : array_vec_len l.dues.list ≤ array_vec_len l.fn.dues.list + 4 * l.connection-index;
}
