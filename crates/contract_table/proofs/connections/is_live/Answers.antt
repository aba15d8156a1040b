use Rattle.std.proofs.Common.{ap, sym, is_some}
use Rattle.contract_table.proofs.PlaceOnLink.{stands_live, would_stand_none}
use Rattle.contract_table.proofs.connections.is_live.Goals as goal

pub returns-in-Ok : goal.returns-in-Ok
returns-in-Ok c = sym (stands_live c.args.link c.in-Ok.field-0 c.args.connections.now c.in-Ok.ensures.live)

pub returns-in-Err : goal.returns-in-Err
returns-in-Err c = ap is_some (sym (would_stand_none c.args.link c.in-Err.field-0 c.args.connections.now c.requires c.in-Err.ensures.not_live))
